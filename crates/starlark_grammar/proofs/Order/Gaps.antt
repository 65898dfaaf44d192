-- Gaps, and lexemes in order.
use Rattle.std.proofs.Common.{◌≡◌, ℕ, zero, suc, ◌+◌, ◌-◌, ◌≤◌, ◌<◌, Bool, true, false, cond, List, [], ◌∷◌, ◌++◌, length, drop, refl, ap, ◌∙◌, sym, subst, arith, ◌⊎◌, inl, inr, ◌||◌}
use Rattle.std.specs.Prelude.{◌&&◌, ◌==◌, map, nat_eq, codes}
use Rattle.std.specs.List.{prefix_len, starts_with}
use Rattle.std.specs.Str.{byte}
use Rattle.std.proofs.lemmas.Bool.{and_parts, cases_lt}
use Rattle.starlark_grammar.specs.Words.{Text}
use Rattle.starlark_grammar.specs.Tokens.{Lexeme, moved}
use Rattle.starlark_grammar.specs.Margins.{is_blank, is_lf, begins_with_line_end}
use Rattle.starlark_grammar.specs.Gaps.{is_gap_byte, IsGap, InOrder}
use Rattle.starlark_grammar.proofs.Lists.{drop-sum}

pub gap_none : (text : Text) (at : ℕ) → IsGap text at at
gap_none text at i least less = absurd (omega (arith, least, less))

pub gap_join : (text : Text) (a b c : ℕ) → IsGap text a b → IsGap text b c → IsGap text a c
gap_join text a b c front back i least less = go (cases_lt i b)
  where
    go : (i < b) ⊎ (b ≤ i) → is_gap_byte (drop i text) ≡ true
    go (inl before) = front i least before
    go (inr remainder) = back i remainder less

-- a gap of what is left after a place is one of the text
pub gap_shift : (n : ℕ) (text : Text) (a b from to : ℕ) → from ≡ n + a → to ≡ n + b → IsGap (drop n text) a b → IsGap text from to
gap_shift n text a b from to e f gap i least less =
    let j : ℕ = i - n in
    let same : n + j ≡ i = omega (arith, e, least) in
    subst (λ (t : Text). is_gap_byte t ≡ true) (sym (drop-sum n j text) ∙ ap (λ k. drop k text) same) (gap j (omega (arith, e, least)) (omega (arith, e, f, least, less)))

pub gap_cons : (b : ℕ) (bs : Text) (from to : ℕ) → IsGap bs from to → IsGap (b ∷ bs) (suc from) (suc to)
gap_cons b bs from to gap zero least less = absurd (omega (arith, least))
gap_cons b bs from to gap (suc i) least less = gap i (omega (arith, least)) (omega (arith, less))

-- one more byte in front
pub gap_first : (b : ℕ) (bs : Text) (to : ℕ) → is_gap_byte (b ∷ bs) ≡ true → IsGap bs 0 to → IsGap (b ∷ bs) 0 (suc to)
gap_first b bs to first gap zero least less = first
gap_first b bs to first gap (suc i) least less = gap i (omega arith) (omega (arith, less))

or_left : (x y : Bool) → x ≡ true → (x || y) ≡ true
or_left true y h = refl
or_left false y h = cc

or_right : (x y : Bool) → y ≡ true → (x || y) ≡ true
or_right true y h = refl
or_right false y h = h

pub blank_gap : (b : ℕ) (bs : Text) → is_blank b ≡ true → is_gap_byte (b ∷ bs) ≡ true
unfolding is_gap_byte
blank_gap b bs h = or_left (is_blank b || is_lf b) _ (or_left (is_blank b) (is_lf b) h)

pub feed_gap : (b : ℕ) (bs : Text) → is_lf b ≡ true → is_gap_byte (b ∷ bs) ≡ true
unfolding is_gap_byte
feed_gap b bs h = or_left (is_blank b || is_lf b) _ (or_right (is_blank b) (is_lf b) h)

-- the blanks at the front of a text
pub blanks_gap : (line rest : Text) → IsGap (line ++ rest) 0 (prefix_len is_blank line)
blanks_gap [] rest = gap_none rest 0
blanks_gap (b ∷ bs) rest = go (is_blank b) refl (blanks_gap bs rest)
  where
    go : (blank : Bool) → is_blank b ≡ blank → IsGap (bs ++ rest) 0 (prefix_len is_blank bs) → IsGap (b ∷ (bs ++ rest)) 0 (cond blank (1 + prefix_len is_blank bs) 0)
    go false e more = gap_none (b ∷ (bs ++ rest)) 0
    go true e more = λ i least less. gap_first b (bs ++ rest) (prefix_len is_blank bs) (blank_gap b (bs ++ rest) e) more i least (omega (arith, less))

-- Lexemes in order

pub order_extend : (text : Text) (a b : ℕ) (lexemes : List Lexeme) (to : ℕ) → a ≤ b → IsGap text a b → InOrder text b lexemes to → InOrder text a lexemes to
order_extend text a b [] to least gap h = (omega (arith, least, h.0), gap_join text a b to gap h.1)
order_extend text a b (lexeme ∷ lexemes) to least gap h = (omega (arith, least, h.0), h.1, gap_join text a b lexeme.begin gap h.2, h.3)

pub order_append : (text : Text) (a b c : ℕ) (xs ys : List Lexeme) → InOrder text a xs b → InOrder text b ys c → InOrder text a (xs ++ ys) c
order_append text a b c [] ys h k = order_extend text a b ys c h.0 h.1 k
order_append text a b c (lexeme ∷ xs) ys h k = (h.0, h.1, h.2, order_append text lexeme.end b c xs ys h.3 k)

pub order_shift : (n : ℕ) (text : Text) (a b : ℕ) (xs : List Lexeme) → InOrder (drop n text) a xs b → InOrder text (n + a) (map (moved n) xs) (n + b)
order_shift n text a b [] h = (omega (arith, h.0), gap_shift n text a b (n + a) (n + b) refl refl h.1)
order_shift n text a b (lexeme ∷ xs) h =
    (omega (arith, h.0), omega (arith, h.1), gap_shift n text a lexeme.begin (n + a) (n + lexeme.begin) refl refl h.2, order_shift n text lexeme.end b xs h.3)

-- a word of gaps
abbrev pub all_gaps : Text → Bool
all_gaps [] = true
all_gaps (b ∷ bs) = is_gap_byte (b ∷ bs) && all_gaps bs

begins_line-more : (bs rest : Text) → begins_with_line_end bs ≡ true → begins_with_line_end (bs ++ rest) ≡ true
begins_line-more [] rest h = cc
begins_line-more (x ∷ []) rest h = go (nat_eq 10 x) (nat_eq 13 x) h
  where
    go : (feed return : Bool) → ((feed && true) || (return && false)) ≡ true → ((feed && true) || (starts_with nat_eq (x ∷ rest) (codes "\r\n"))) ≡ true
    go true return h = refl
    go false true h = cc
    go false false h = cc
begins_line-more (x ∷ y ∷ ys) rest h = h

gap_byte-more : (word rest : Text) (b : ℕ) → is_gap_byte (b ∷ word) ≡ true → is_gap_byte (b ∷ (word ++ rest)) ≡ true
unfolding is_gap_byte
gap_byte-more word rest b h = go (is_blank b) (is_lf b) (b == byte "\\") (begins_with_line_end word) h (begins_line-more word rest)
  where
    go : (blank feed back line : Bool) → (blank || feed || (back && line)) ≡ true → (line ≡ true → begins_with_line_end (word ++ rest) ≡ true) → (blank || feed || (back && begins_with_line_end (word ++ rest))) ≡ true
    go true feed back line h more = refl
    go false true back line h more = refl
    go false false true line h more = more h
    go false false false line h more = h

pub word_gap : (word rest : Text) → all_gaps word ≡ true → IsGap (word ++ rest) 0 (length word)
word_gap [] rest h = gap_none rest 0
word_gap (b ∷ bs) rest h =
    let parts = and_parts (is_gap_byte (b ∷ bs)) (all_gaps bs) h in
    gap_first b (bs ++ rest) (length bs) (gap_byte-more bs rest b parts.0) (word_gap bs rest parts.1)
