-- Which names may stand before the quote of an opener.
use Rattle.std.proofs.Common.{◌≡◌, ◌≢◌, ℕ, zero, suc, ◌+◌, ◌<◌, Bool, true, false, nat_le, [], ◌∷◌, ◌++◌, length, take, get_or, refl, ap, sym, None, arith}
use Rattle.std.proofs.lemmas.Bool.{ne_eqb}
use Rattle.std.proofs.lemmas.Bool.Decides.{nat_tests}
use Rattle.std.proofs.lemmas.List.{get_or-take, take_more}
use Rattle.std.specs.List.{prefix_len}
use Rattle.starlark_grammar.specs.Words.{Text, openers, is_in_name}
use Rattle.starlark_words.proofs.Scan.Listed.{opener_of, all_pass, is_quote, lookup_fails}
use Rattle.starlark_words.proofs.Scan.WordFronts.{take_after}

prefixes_are_short : all_pass (λ word. nat_le (prefix_len is_in_name word) 2) openers ≡ true
unfolding openers
prefixes_are_short = refl

-- whether a quote stands after the name that a word begins with
abbrev is_quoted : Text → Bool
is_quoted word = is_quote (get_or word (prefix_len is_in_name word) 0)

openers_are_quoted : all_pass is_quoted openers ≡ true
unfolding openers
openers_are_quoted = refl

-- a name and the byte after it begin with the same name
name_of_opener : (text : Text) → prefix_len is_in_name (take (prefix_len is_in_name text + 1) text) ≡ prefix_len is_in_name text
name_of_opener [] = refl
name_of_opener (b ∷ rest) = go (is_in_name b) refl (name_of_opener rest)
  where
    go : (passes : Bool) → is_in_name b ≡ passes
        → prefix_len is_in_name (take (prefix_len is_in_name rest + 1) rest) ≡ prefix_len is_in_name rest
        → prefix_len is_in_name (take (prefix_len is_in_name (b ∷ rest) + 1) (b ∷ rest)) ≡ prefix_len is_in_name (b ∷ rest)
    go true e more = rw (e, take_after b rest (1 + prefix_len is_in_name rest + 1) (prefix_len is_in_name rest + 1) (omega arith), e) (ap (λ n. 1 + n) more)
    go false e more = rw (e, e) refl

pub long_name_is_no_prefix : (text : Text) (n : ℕ) → n ≡ prefix_len is_in_name text → 2 < n → opener_of (take (n + 1) text) ≡ None
long_name_is_no_prefix text n e long =
    lookup_fails (λ word. nat_le (prefix_len is_in_name word) 2) (take (n + 1) text) openers prefixes_are_short (rw (e, name_of_opener text) (too_long _ (omega arith)))
  where
    too_long : (k : ℕ) → 2 < k → nat_le k 2 ≡ false
    too_long k h = grind (arith, nat_tests)

pub unquoted_is_no_opener : (text : Text) (n : ℕ) → n ≡ prefix_len is_in_name text → get_or text n 0 ≢ 39 → get_or text n 0 ≢ 34 → opener_of (take (n + 1) text) ≡ None
unquoted_is_no_opener text n e single double =
    let other : is_quote (get_or text n 0) ≡ false = rw (ne_eqb _ 39 single, ne_eqb _ 34 double) refl in
    lookup_fails is_quoted (take (n + 1) text) openers openers_are_quoted (rw (e, name_of_opener text, get_or-take (prefix_len is_in_name text + 1) text (prefix_len is_in_name text) 0 (omega arith), ← e) other)

-- a byte that isn't 0 is one of the text
pub is_within : (text : Text) (n : ℕ) → 0 < get_or text n 0 → n < length text
is_within [] n h = absurd (omega arith)
is_within (b ∷ rest) zero h = omega arith
is_within (b ∷ rest) (suc n) h = let more = is_within rest n h in omega arith

-- a prefix and its quote
pub opener_at : (text : Text) (n b : ℕ) → 0 < b → get_or text n 0 ≡ b → take n text ++ b ∷ [] ≡ take (n + 1) text
opener_at text n b some is = rw (← is) (sym (take_more text n 0 (is_within text n (omega (arith, some, is)))))
