-- What stands at the front of a text whose last byte is an LF stands there too where the text goes on.
use Rattle.std.proofs.Common.{◌≡◌, ℕ, zero, suc, ◌-◌, ◌≤◌, ◌<◌, Bool, true, false, not, [], ◌∷◌, ◌++◌, length, drop, refl, subst, Option, None, arith}
use Rattle.std.specs.Prelude.{◌==◌, nat_eq, codes}
use Rattle.std.specs.Cmp.Lexicographic.{pointwise}
use Rattle.std.specs.List.{ends_with}
use Rattle.std.proofs.lemmas.Bool.{and_parts, and_right, eqb-true}
use Rattle.starlark_grammar.specs.Words.{Text, class_in, language}
use Rattle.starlark_grammar.specs.Front.{longest_front}
use Rattle.starlark_grammar.proofs.Words.Fronts.{front_none}
use Rattle.starlark_grammar.proofs.WordNewlines.{feed_last, feed_ends}

-- the last byte is an LF
abbrev pub ends_line : Text → Bool
ends_line [] = false
ends_line (b ∷ []) = b == 10
ends_line (b ∷ c ∷ bs) = ends_line (c ∷ bs)

-- such texts: those that are made with an LF at the end, …
-- such a text isn't empty
pub ends_line_some : (text : Text) → ends_line text ≡ true → 0 < length text
ends_line_some [] h = cc
ends_line_some (b ∷ bs) h = omega arith

pub ends_line_made : (front : Text) → ends_line (front ++ 10 ∷ []) ≡ true
ends_line_made [] = refl
ends_line_made (b ∷ []) = refl
ends_line_made (b ∷ c ∷ front) = ends_line_made (c ∷ front)

-- … and what is left of one after its first byte, where anything is.
pub ends_line_rest : (b : ℕ) (bs : Text) → 1 ≤ length bs → ends_line (b ∷ bs) ≡ true → ends_line bs ≡ true
ends_line_rest b [] some h = absurd (omega arith)
ends_line_rest b (c ∷ bs) some h = h

pub ends_line_drop : (n : ℕ) (text : Text) → n < length text → ends_line text ≡ true → ends_line (drop n text) ≡ true
ends_line_drop zero text inside h = h
ends_line_drop (suc n) [] inside h = h
ends_line_drop (suc n) (b ∷ bs) inside h = ends_line_drop n bs (omega arith) (ends_line_rest b bs (omega arith) h)

-- as the last byte is compared
pub ends_line_of : (text : Text) → ends_with nat_eq text (codes "\n") ≡ true → ends_line text ≡ true
ends_line_of [] h = cc
ends_line_of (b ∷ []) h =
    let same : 10 ≡ b = eqb-true 10 b (and_parts (nat_eq 10 b) true h).0 in
    subst (λ (c : ℕ). ends_line (c ∷ []) ≡ true) same refl
ends_line_of (b ∷ c ∷ bs) h =
    let less : length (b ∷ c ∷ bs) - 1 ≡ suc (length (c ∷ bs) - 1) = omega arith in
    ends_line_of (c ∷ bs) (subst (λ n. pointwise nat_eq (codes "\n") (drop n (b ∷ c ∷ bs)) ≡ true) less h)

-- Words

-- no front that is longer than a text has a class, where none that goes on from it has one
front_append : {C : Type 0} (class_of : Text → Option C) (b : ℕ) (bs more : Text) → ((c : ℕ) (word : Text) → class_of ((b ∷ bs) ++ c ∷ word) ≡ None) → longest_front class_of ((b ∷ bs) ++ more) ≡ longest_front class_of (b ∷ bs)
unfolding longest_front
front_append {C} class_of b [] more h = rw (none more) refl
  where
    none : (more : Text) → longest_front (λ word. class_of (b ∷ word)) more ≡ None
    none [] = refl
    none (c ∷ more) = front_none (λ word. class_of (b ∷ word)) c more (h c)
front_append class_of b (c ∷ bs) more h = rw (front_append (λ word. class_of (b ∷ word)) c bs more h) refl

-- an LF inside
feed_inside : (b : ℕ) (bs : Text) (c : ℕ) (word : Text) → ends_line (b ∷ bs) ≡ true → feed_last ((b ∷ bs) ++ c ∷ word) ≡ false
feed_inside b [] c word h = rw h refl
feed_inside b (d ∷ bs) c word h = and_right (not (b == 10)) (feed_last ((d ∷ bs) ++ c ∷ word)) (feed_inside d bs c word h)

-- no word of the language goes on after an LF
pub words_end : (text : Text) (c : ℕ) (word : Text) → ends_line text ≡ true → class_in language (text ++ c ∷ word) ≡ None
words_end [] c word h = cc
words_end (b ∷ bs) c word h = feed_ends ((b ∷ bs) ++ c ∷ word) (feed_inside b bs c word h)

-- The longest word at the front of a text that ends with an LF stays the longest, whatever follows.
pub longest_front_append : (text more : Text) → ends_line text ≡ true → longest_front (class_in language) (text ++ more) ≡ longest_front (class_in language) text
longest_front_append [] more h = cc
longest_front_append (b ∷ bs) more h = front_append (class_in language) b bs more (λ c word. words_end (b ∷ bs) c word h)
