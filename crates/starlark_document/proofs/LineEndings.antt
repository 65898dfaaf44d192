-- The last `Newline` of a list of lexemes, and the lexemes without it.
use Rattle.std.proofs.Common.{◌≡◌, ℕ, zero, suc, ◌<◌, Bool, true, false, ◌||◌, List, [], ◌∷◌, ◌++◌, map, take, drop, length, refl, ap, sym, ◌∙◌, arith}
use Rattle.std.proofs.lemmas.List.{map-append}
use Rattle.std.specs.Prelude.{slice_index_or}
use Rattle.starlark_document.specs.Inner.LexedFronts.{has_newline_view, last_newline_at, without_newline}
use Rattle.starlark_grammar.specs.Cuts.{is_newline}
use Rattle.starlark_grammar.specs.Tokens as grammar
use Rattle.starlark_grammar.specs.Joining.{has_newline, without_last_newline}
use Rattle.starlark_token.specs.Lexemes.{lexeme_view, shown_lexeme}
use Rattle.starlark_token.specs.TokenViews.{is_newline_view, token_view}
use Rattle.starlark_token.specs.declared.tokens.Token.{Token}
use Rattle.starlark_lexed_text.proofs.LastNewlines.{same_newline}

or_false : (a b : Bool) → a || b ≡ false → (a ≡ false) × (b ≡ false)
or_false false b e = (refl, e)
or_false true b e = cc

or_true : (a b : Bool) → b ≡ true → a || b ≡ true
or_true false b e = e
or_true true b e = refl

-- one that lies in a list
has_at : (xs : List (ℕ × Token × ℕ)) (at : ℕ) (d : ℕ × Token × ℕ) → at < length xs → is_newline_view (token_view (slice_index_or xs at d).1) ≡ true → has_newline_view (map lexeme_view xs) ≡ true
has_at [] at d inside is = absurd (omega (arith, inside))
has_at (x ∷ xs) zero d inside is = rw is refl
has_at (x ∷ xs) (suc at) d inside is = or_true _ _ (has_at xs at d (omega (arith, inside)) is)

-- the last one: there is none after it
pub last_is : (xs : List (ℕ × Token × ℕ)) (at : ℕ) (d : ℕ × Token × ℕ) → at < length xs → is_newline_view (token_view (slice_index_or xs at d).1) ≡ true
    → has_newline_view (map lexeme_view (drop (suc at) xs)) ≡ false → last_newline_at (map lexeme_view xs) ≡ at
last_is [] at d inside is none = absurd (omega (arith, inside))
last_is (x ∷ xs) zero d inside is none = rw (none, is) refl
last_is (x ∷ xs) (suc at) d inside is none = rw (has_at xs at d (omega (arith, inside)) is) (ap suc (last_is xs at d (omega (arith, inside)) is none))

-- there is none from one more lexeme on, which isn't one
pub none_more : (xs : List (ℕ × Token × ℕ)) (at : ℕ) (d : ℕ × Token × ℕ) → at < length xs → is_newline_view (token_view (slice_index_or xs at d).1) ≡ false
    → has_newline_view (map lexeme_view (drop (suc at) xs)) ≡ false → has_newline_view (map lexeme_view (drop at xs)) ≡ false
none_more [] at d inside is none = absurd (omega (arith, inside))
none_more (x ∷ xs) zero d inside is none = rw (is, none) refl
none_more (x ∷ xs) (suc at) d inside is none = none_more xs at d (omega (arith, inside)) is none

-- where there is none
pub last_none : (xs : List (ℕ × Token × ℕ)) → has_newline_view (map lexeme_view xs) ≡ false → last_newline_at (map lexeme_view xs) ≡ length xs
last_none [] none = refl
last_none (x ∷ xs) none =
    let both = or_false (is_newline_view (token_view x.1)) (has_newline_view (map lexeme_view xs)) none in
    rw (both.0, both.1) (ap suc (last_none xs both.1))

has_shown : (ls : List grammar.Lexeme) → has_newline_view (map shown_lexeme ls) ≡ has_newline ls
has_shown [] = refl
has_shown (l ∷ ls) = rw (same_newline l.node, has_shown ls) refl

none_without : (ls : List grammar.Lexeme) → has_newline ls ≡ false → without_last_newline ls ≡ ls
none_without [] none = refl
none_without (l ∷ ls) none =
    let both = or_false (is_newline l.node) (has_newline ls) none in
    rw (both.0, both.1) refl

-- The lexemes without the last `Newline`, as the code shows them.
pub without_shown : (ls : List grammar.Lexeme) → without_newline (map shown_lexeme ls) ≡ map shown_lexeme (without_last_newline ls)
without_shown [] = refl
without_shown (l ∷ ls) = go (has_newline ls) refl (is_newline l.node) refl (without_shown ls)
  where
    go : (has : Bool) → has_newline ls ≡ has → (is : Bool) → is_newline l.node ≡ is → without_newline (map shown_lexeme ls) ≡ map shown_lexeme (without_last_newline ls)
        → without_newline (map shown_lexeme (l ∷ ls)) ≡ map shown_lexeme (without_last_newline (l ∷ ls))
    go true e is f again = rw (has_shown ls, e) (ap (λ xs. shown_lexeme l ∷ xs) again)
    go false e true f again = rw (has_shown ls, e, same_newline l.node, f) refl
    go false e false f again = rw (has_shown ls, e, same_newline l.node, f) (ap (λ xs. shown_lexeme l ∷ xs) (again ∙ ap (map shown_lexeme) (none_without ls e)))

-- Lexemes of the code out of which the last `Newline` is taken.
pub taken_out : (xs ys : List (ℕ × Token × ℕ)) (at : ℕ) → at ≡ last_newline_at (map lexeme_view xs) → ys ≡ take at xs ++ drop (suc at) xs
    → map lexeme_view ys ≡ without_newline (map lexeme_view xs)
taken_out xs ys at is out = rw (sym is, out) (map-append lexeme_view (take at xs) (drop (suc at) xs) ∙ ap (λ zs. zs ++ map lexeme_view (drop (suc at) xs)) (map_take at xs) ∙ ap (λ zs. take at (map lexeme_view xs) ++ zs) (map_drop (suc at) xs))
  where
    map_take : (n : ℕ) (zs : List (ℕ × Token × ℕ)) → map lexeme_view (take n zs) ≡ take n (map lexeme_view zs)
    map_take zero zs = refl
    map_take (suc n) [] = refl
    map_take (suc n) (z ∷ zs) = ap (λ ls. lexeme_view z ∷ ls) (map_take n zs)

    map_drop : (n : ℕ) (zs : List (ℕ × Token × ℕ)) → map lexeme_view (drop n zs) ≡ drop n (map lexeme_view zs)
    map_drop zero zs = refl
    map_drop (suc n) [] = refl
    map_drop (suc n) (z ∷ zs) = map_drop n zs
