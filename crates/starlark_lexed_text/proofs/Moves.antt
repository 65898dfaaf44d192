-- Lists of lexemes that are moved in place.
use Rattle.std.proofs.Common.{◌≡◌, ℕ, zero, suc, ◌+◌, ◌<◌, ◌≤◌, List, [], ◌∷◌, ◌++◌, map, take, drop, length, refl, ap, ◌∙◌, sym, arith, append_assoc, length-append}
use Rattle.std.specs.Prelude.{slice_index_or, slice_set}
use Rattle.std.specs.Prelude.{true, nat_eq}
use Rattle.std.specs.Cmp.Lexicographic.{pointwise}
use Rattle.std.specs.List.{splice}
use Rattle.std.proofs.lemmas.Bool.{and_parts, eqb-true}
use Rattle.std.specs.Iterator.{Drains}
use Rattle.std.specs.declared.vec.IntoIter.{IntoIter}
use Rattle.std.specs.Vec.Iter.{into_iter_items, into_iter_len, into_iter_steps}
use Rattle.std.proofs.Math.Seq.{drop-append_seam, take-append_seam}
use Rattle.std.proofs.lemmas.Iterator.{items_from_drains}
use Rattle.std.proofs.lemmas.Iterator.Adapters.{YieldsList-from_vec}
use Rattle.std.proofs.lemmas.List.{length-take-le, map-id}
use Rattle.starlark_token.specs.declared.tokens.Token.{Token}

-- one more of a list, of which the first were changed
pub next_set : {A : Type 0} (f : A → A) (i : ℕ) (xs : List A) (d : A) → i < length xs → slice_set (map f (take i xs) ++ drop i xs) i (f (slice_index_or xs i d)) ≡ map f (take (suc i) xs) ++ drop (suc i) xs
next_set f i [] d inside = absurd (omega (arith, inside))
next_set f zero (x ∷ xs) d inside = refl
next_set f (suc i) (x ∷ xs) d inside = ap (λ ys. f x ∷ ys) (next_set f i xs d (omega (arith, inside)))

-- the next of them wasn't changed yet
pub next_same : {A : Type 0} (f : A → A) (i : ℕ) (xs : List A) (d : A) → i < length xs → slice_index_or (map f (take i xs) ++ drop i xs) i d ≡ slice_index_or xs i d
next_same f i [] d inside = absurd (omega (arith, inside))
next_same f zero (x ∷ xs) d inside = refl
next_same f (suc i) (x ∷ xs) d inside = next_same f i xs d (omega (arith, inside))

-- the elements that a `Vec` gives are its own
pub drained : {Z : Type 0} (given : List (ℕ × Token × ℕ)) (s : IntoIter (ℕ × Token × ℕ) Z) (xs : List (ℕ × Token × ℕ)) → into_iter_items s ≡ given → into_iter_len s ≡ length given → Drains (into_iter_steps {X = ℕ × Token × ℕ} {Z = Z}) s xs → xs ≡ given
drained given s xs is len drains = sym (map-id xs) ∙ items_from_drains xs (drains.1.0, drains.1.1, λ _. (drains.0, drains.1.2)) (YieldsList-from_vec given is len)

-- a list where others were put in the place of a part, up to its end and after that
pub spliced : {A : Type 0} (kept end n : ℕ) (old more new : List A) → kept ≤ length old → end ≡ kept + length more → new ≡ splice old kept n more → (take end new ≡ take kept old ++ more) × (drop end new ≡ drop n old) × (end ≤ length new)
spliced kept end n old more new few is made =
    let front : end ≡ length (take kept old ++ more) = omega (arith, is, length-append (take kept old) more, length-take-le kept old few) in
    let whole : new ≡ (take kept old ++ more) ++ drop n old = made ∙ sym (append_assoc (take kept old) more (drop n old)) in (
      rw (front, whole) (take-append_seam (take kept old ++ more) (drop n old)),
      rw (front, whole) (drop-append_seam (take kept old ++ more) (drop n old)),
      omega (arith, front, ap length whole, length-append (take kept old ++ more) (drop n old)),
    )

-- lists that are alike number by number are equal
pub alike : (xs ys : List ℕ) → pointwise nat_eq xs ys ≡ true → xs ≡ ys
alike [] [] e = refl
alike (x ∷ xs) (y ∷ ys) e =
    let both = and_parts (nat_eq x y) (pointwise nat_eq xs ys) e in
    rw (eqb-true x y both.0, alike xs ys both.1) refl
alike xs ys e = cc
