-- Facts on lists.
use Rattle.std.proofs.Common.{◌≡◌, ℕ, zero, suc, ◌+◌, ◌-◌, ◌≤◌, List, [], ◌∷◌, length, take, drop, refl, ap, ◌∙◌, sym, arith}
use Rattle.std.proofs.lemmas.List.{length-take}

pub take_fits : {A : Type 0} (n : ℕ) (xs : List A) → (length (take n xs) ≤ length xs) × (length (take n xs) ≤ n)
take_fits n xs = (omega (arith, length-take n xs), omega (arith, length-take n xs))

pub drop-nil : {A : Type 0} (n : ℕ) → ◌≡◌ {A = List A} (drop n []) []
drop-nil zero = refl
drop-nil (suc n) = refl

-- what is left after n and then m more
pub drop-sum : {A : Type 0} (n m : ℕ) (xs : List A) → drop (n + m) xs ≡ drop m (drop n xs)
drop-sum zero m xs = let same : 0 + m ≡ m = omega arith in ap (λ k. drop k xs) same
drop-sum (suc n) m [] = drop-nil (suc n + m) ∙ sym (drop-nil m)
drop-sum (suc n) m (x ∷ xs) = ap (λ k. drop k (x ∷ xs)) (suc-add n m) ∙ drop-sum n m xs
  where
    suc-add : (n m : ℕ) → suc n + m ≡ suc (n + m)
    suc-add n m = omega arith

-- what is left after one and then more
pub drop-remainder : {A : Type 0} (n : ℕ) (x : A) (xs : List A) → 1 ≤ n → drop n (x ∷ xs) ≡ drop (n - 1) xs
drop-remainder zero x xs some = absurd (omega arith)
drop-remainder (suc n) x xs some = let same : n ≡ suc n - 1 = omega arith in ap (λ k. drop k xs) same
