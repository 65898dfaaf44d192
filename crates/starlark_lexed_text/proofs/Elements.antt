-- What holds of each element of a list.
use Rattle.std.proofs.Common.{◌≡◌, ℕ, zero, suc, ◌<◌, List, [], ◌∷◌, ◌++◌, map, take, drop, length, subst, arith, Some}
use Rattle.std.specs.Prelude.{slice_get, slice_index_or}
use Rattle.std.specs.List.{AllByRecursion}

pub all_map : {A B : Type 0} (P : A → Type 0) (Q : B → Type 0) (f : A → B) (xs : List A) → ((x : A) → P x → Q (f x)) → AllByRecursion P xs → AllByRecursion Q (map f xs)
all_map P Q f [] more all = tt
all_map P Q f (x ∷ xs) more all = (more x all.0, all_map P Q f xs more all.1)

pub all_weaker : {A : Type 0} (P Q : A → Type 0) (xs : List A) → ((x : A) → P x → Q x) → AllByRecursion P xs → AllByRecursion Q xs
all_weaker P Q [] more all = tt
all_weaker P Q (x ∷ xs) more all = (more x all.0, all_weaker P Q xs more all.1)

-- of two facts that hold of each
pub all_of_two : {A : Type 0} (P Q R : A → Type 0) (xs : List A) → ((x : A) → P x → Q x → R x) → AllByRecursion P xs → AllByRecursion Q xs → AllByRecursion R xs
all_of_two P Q R [] more one other = tt
all_of_two P Q R (x ∷ xs) more one other = (more x one.0 other.0, all_of_two P Q R xs more one.1 other.1)

pub all_append : {A : Type 0} (P : A → Type 0) (one other : List A) → AllByRecursion P one → AllByRecursion P other → AllByRecursion P (one ++ other)
all_append P [] other h k = k
all_append P (x ∷ one) other h k = (h.0, all_append P one other h.1 k)

pub all_front : {A : Type 0} (P : A → Type 0) (one other : List A) → AllByRecursion P (one ++ other) → AllByRecursion P one
all_front P [] other all = tt
all_front P (x ∷ one) other all = (all.0, all_front P one other all.1)

pub all_take : {A : Type 0} (P : A → Type 0) (n : ℕ) (xs : List A) → AllByRecursion P xs → AllByRecursion P (take n xs)
all_take P (suc n) (x ∷ xs) all = (all.0, all_take P n xs all.1)
all_take P n xs all = tt

pub all_drop : {A : Type 0} (P : A → Type 0) (n : ℕ) (xs : List A) → AllByRecursion P xs → AllByRecursion P (drop n xs)
all_drop P zero xs all = all
all_drop P (suc n) [] all = tt
all_drop P (suc n) (x ∷ xs) all = all_drop P n xs all.1

pub all_at : {A : Type 0} (P : A → Type 0) (xs : List A) (i : ℕ) (d : A) → AllByRecursion P xs → i < length xs → P (slice_index_or xs i d)
all_at P [] i d all inside = absurd (omega (arith, inside))
all_at P (x ∷ xs) zero d all inside = all.0
all_at P (x ∷ xs) (suc i) d all inside = all_at P xs i d all.1 (omega (arith, inside))

pub one_is : {A : Type 0} (P : A → Type 0) (xs : List A) (index : ℕ) (x : A) → slice_get xs index ≡ Some x → AllByRecursion P xs → P x
one_is P [] index x found all = cc
one_is P (first ∷ xs) zero x found all = let same : first ≡ x = cc in subst P same all.0
one_is P (first ∷ xs) (suc index) x found all = one_is P xs index x found all.1
