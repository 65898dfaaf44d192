-- The pieces of JSON strings that characters are written as.
use Rattle.std.proofs.Common.{◌≡◌, ◌∙◌, ℕ, ◌<◌, ◌≤◌, ◌⊎◌, inl, inr, true, false, ◌&&◌, ◌||◌, not, ◌==◌, nat_le, List, [], ◌∷◌, ◌++◌, map, ap, refl, subst, sym}
use Rattle.std.specs.List.{flat_map, list_all}
use Rattle.std.proofs.lemmas.Bool.{agree_below_at, and_from, cond_both, eqb-true, le-leb, ltb-false, ltb-true, not_from_false, or_cases, or_parts}
use Rattle.starlark_tokens.specs.OutputFormats.JsonStrings.{Itself, Lettered, Piece, coded, is_piece, json_char, meaning, piece_of, piece_text}

-- a piece that the grammar allows and that means the character
abbrev Fits : ℕ → Piece → Type 0
Fits c piece = (is_piece piece ≡ true) × (meaning piece ≡ c)

escaped_fits : (c : ℕ) → (c == 34) || (c == 92) ≡ true → Fits c (Lettered c)
escaped_fits c e = by (or_cases _ _ e)
  where
    by : (c == 34 ≡ true) ⊎ (c == 92 ≡ true) → Fits c (Lettered c)
    by (inl is) = subst (λ k. Fits k (Lettered k)) (sym (eqb-true c 34 is)) (refl, refl)
    by (inr is) = subst (λ k. Fits k (Lettered k)) (sym (eqb-true c 92 is)) (refl, refl)

coded_fits : (c : ℕ) → c < 32 → Fits c (coded c)
coded_fits c low = (
  agree_below_at (λ b. is_piece (coded b)) (λ _. true) 32 c refl low,
  eqb-true _ c (agree_below_at (λ b. meaning (coded b) == b) (λ _. true) 32 c refl low),
)

itself_fits : (c : ℕ) → 32 ≤ c → (c == 34) || (c == 92) ≡ false → Fits c (Itself c)
itself_fits c high other =
    let parts = or_parts (c == 34) (c == 92) other in
    let front = and_from (nat_le 32 c) (not (c == 34)) (le-leb 32 c high) (not_from_false (c == 34) parts.0) in
    (and_from (nat_le 32 c && not (c == 34)) (not (c == 92)) front (not_from_false (c == 92) parts.1), refl)

pub piece_fits : (c : ℕ) → Fits c (piece_of c)
piece_fits c =
    cond_both _ _ _ (Fits c) (escaped_fits c) (λ other.
    cond_both _ _ _ (Fits c) (λ is. subst (λ k. Fits k (Lettered 116)) (sym (eqb-true c 9 is)) (refl, refl)) (λ _.
    cond_both _ _ _ (Fits c) (λ is. subst (λ k. Fits k (Lettered 110)) (sym (eqb-true c 10 is)) (refl, refl)) (λ _.
    cond_both _ _ _ (Fits c) (λ is. subst (λ k. Fits k (Lettered 114)) (sym (eqb-true c 13 is)) (refl, refl)) (λ _.
    cond_both _ _ _ (Fits c) (λ low. coded_fits c (ltb-true c 32 low)) (λ high. itself_fits c (ltb-false c 32 high) other)))))

pub all_allowed : (cs : List ℕ) → list_all is_piece (map piece_of cs) ≡ true
all_allowed [] = refl
all_allowed (c ∷ cs) = and_from _ _ (piece_fits c).0 (all_allowed cs)

pub all_meant : (cs : List ℕ) → map meaning (map piece_of cs) ≡ cs
all_meant [] = refl
all_meant (c ∷ cs) = ap (λ k. k ∷ map meaning (map piece_of cs)) (piece_fits c).1 ∙ ap (λ ks. c ∷ ks) (all_meant cs)

pub all_written : (cs : List ℕ) → flat_map json_char cs ≡ flat_map piece_text (map piece_of cs)
unfolding json_char
all_written [] = refl
all_written (c ∷ cs) = ap (λ t. json_char c ++ t) (all_written cs)
