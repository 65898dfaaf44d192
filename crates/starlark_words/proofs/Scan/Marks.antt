-- The longest mark at the front of a text.
use Rattle.std.proofs.Common.{◌≡◌, ◌≢◌, ℕ, suc, Bool, true, false, not, ◌&&◌, ◌||◌, ◌==◌, nat_le, [], ◌∷◌, length, get_or, refl, sym, ap, ◌∙◌, Option, None, Some, ◌⊎◌, inl, inr, arith}
use Rattle.std.proofs.lemmas.Bool.{and_parts, eqb-true, ne_eqb}
use Rattle.std.proofs.lemmas.Bool.Decides.{nat_tests}
use Rattle.std.specs.List.{list_all}
use Rattle.std.specs.Option.{option_map}
use Rattle.std.specs.Prelude.{IfSome}
use Rattle.starlark_grammar.specs.Front.{longest_front}
use Rattle.starlark_grammar.specs.Words.{Text, line_ends, symbols}
use Rattle.starlark_words.specs.Inner.ScannedWords.{is_common, is_common_front, mark_front, mark_of, marks, word_view}
use Rattle.starlark_grammar.specs.declared.class.Class.{Class}
use Rattle.starlark_grammar.specs.declared.class.Class.TheVariants.{LineEnd}
use Rattle.starlark_words.specs.declared.scanner.word.Word.{Word}
use Rattle.starlark_words.proofs.Scan.Listed.{lookup_fails}
use Rattle.starlark_words.proofs.Scan.WordFronts.{front_triple}

no_longer_mark : (a b c d : ℕ) (word : Text) → mark_of (a ∷ b ∷ c ∷ d ∷ word) ≡ None
unfolding marks line_ends symbols
no_longer_mark a b c d word = lookup_fails (λ word. nat_le (length word) 3) (a ∷ b ∷ c ∷ d ∷ word) marks refl (longer_than_three (length word))
  where
    longer_than_three : (n : ℕ) → nat_le (suc (suc (suc (suc n)))) 3 ≡ false
    longer_than_three n = grind (arith, nat_tests)

-- only the first three bytes count
three_count : (a b c : ℕ) (rest : Text) → longest_front mark_of (a ∷ b ∷ c ∷ rest) ≡ longest_front mark_of (a ∷ b ∷ c ∷ [])
three_count a b c rest = front_triple mark_of a b c rest (no_longer_mark a b c) ∙ sym (front_triple mark_of a b c [] (no_longer_mark a b c))

and_false : (x : Bool) → (x && false) ≡ false
and_false true = refl
and_false false = refl

-- no mark has a byte 0

is_not_zero : ℕ → Bool
is_not_zero b = not (b == 0)

zero_after_one : (a : ℕ) → mark_of (a ∷ 0 ∷ []) ≡ None
unfolding marks line_ends symbols is_not_zero
zero_after_one a = lookup_fails (list_all is_not_zero) (a ∷ 0 ∷ []) marks refl (and_false (is_not_zero a))

zero_after_two : (a b : ℕ) → mark_of (a ∷ b ∷ 0 ∷ []) ≡ None
unfolding marks line_ends symbols is_not_zero
zero_after_two a b = lookup_fails (list_all is_not_zero) (a ∷ b ∷ 0 ∷ []) marks refl (rw and_false (and_false (is_not_zero a)))

no_mark_of_nothing : mark_front [] ≡ mark_front (0 ∷ 0 ∷ 0 ∷ [])
unfolding longest_front marks line_ends symbols
no_mark_of_nothing = refl

-- a text's mark is that of its first three bytes, which are 0 after its end
pub mark_by_three : (text : Text) → mark_front text ≡ mark_front (get_or text 0 0 ∷ get_or text 1 0 ∷ get_or text 2 0 ∷ [])
unfolding longest_front
mark_by_three [] = no_mark_of_nothing
mark_by_three (a ∷ []) = rw (and_false, zero_after_one a, zero_after_two a 0) refl
mark_by_three (a ∷ b ∷ []) = rw (zero_after_two a b) refl
mark_by_three (a ∷ b ∷ c ∷ rest) = rw (three_count a b c rest) refl

-- where the first two bytes differ, only an escaped line end has three

is_escape : ℕ → ℕ → Bool
is_escape a b = a == 92 && b == 13

begins_triple : Text → Bool
begins_triple (a ∷ b ∷ c ∷ []) = a == b || is_escape a b
begins_triple word = true

pub by_two : (a b c : ℕ) → b ≢ a → (mark_front (a ∷ b ∷ c ∷ []) ≡ mark_front (a ∷ b ∷ 0 ∷ [])) ⊎ ((mark_front (a ∷ b ∷ 0 ∷ []) ≡ None) × (is_common_front (mark_front (a ∷ b ∷ c ∷ [])) ≡ false))
unfolding longest_front marks line_ends symbols begins_triple is_escape
by_two a b c other = go (is_escape a b) refl
  where
    skipped : (feed : Bool) → (c == 10) ≡ feed → is_common_front (mark_front (92 ∷ 13 ∷ c ∷ [])) ≡ false
    skipped true e = rw e refl
    skipped false e = rw e refl

    go : (escape : Bool) → is_escape a b ≡ escape → (mark_front (a ∷ b ∷ c ∷ []) ≡ mark_front (a ∷ b ∷ 0 ∷ [])) ⊎ ((mark_front (a ∷ b ∷ 0 ∷ []) ≡ None) × (is_common_front (mark_front (a ∷ b ∷ c ∷ [])) ≡ false))
    go true e =
        let parts = and_parts _ _ e in
        inr (rw (eqb-true a 92 parts.0, eqb-true b 13 parts.1) (refl, skipped (c == 10) refl))
    go false e =
        let third : mark_of (a ∷ b ∷ c ∷ []) ≡ None = lookup_fails begins_triple (a ∷ b ∷ c ∷ []) marks refl (rw (ne_eqb a b (λ same. other (sym same)), e) refl) in
        inl (rw (third, zero_after_two a b) refl)

-- a line feed is a mark by itself
pub line_feed : (b c : ℕ) → mark_front (10 ∷ b ∷ c ∷ []) ≡ Some (LineEnd, 1)
unfolding longest_front marks line_ends symbols
line_feed b c = refl

-- no mark begins with a bang or a hash sign
pub no_mark_at_bang : (b c : ℕ) → (b == 61) ≡ false → mark_front (33 ∷ b ∷ c ∷ []) ≡ None
unfolding longest_front marks line_ends symbols
no_mark_at_bang b c h = rw h refl

pub no_mark_at_hash : (b c : ℕ) → mark_front (35 ∷ b ∷ c ∷ []) ≡ None
unfolding longest_front marks line_ends symbols
no_mark_at_hash b c = refl

-- a mark that is found is uncommon where that at the front is
pub found_is_uncommon : (front : Option (Class × ℕ)) (found : Option Word) → option_map word_view found ≡ front → is_common_front front ≡ false → IfSome found (λ word. is_common word.class ≡ false)
found_is_uncommon front None is h = tt
found_is_uncommon front (Some word) is h = ap is_common_front is ∙ h
