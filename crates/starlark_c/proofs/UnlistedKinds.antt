-- A number that no row has: one above the numbers of all rows.
use Rattle.std.proofs.Common.{◌≡◌, ◌≤◌, ℕ, Bool, true, false, cond, List, [], ◌∷◌, Some, None, arith, nat_eq, nat_lt, refl, subst, sym}
use Rattle.std.proofs.lemmas.Bool.{and_parts, ltb-true, ne_eqb}
use Rattle.std.specs.List.{list_all}
use Rattle.std.specs.Map.{lookup}

-- a number above those of all rows has no row
pub not_listed : {A : Type 0} (bound kind : ℕ) (rows : List (ℕ × A)) → bound ≤ kind → list_all (λ (row : ℕ × A). nat_lt row.0 bound) rows ≡ true → lookup (nat_eq kind) rows ≡ None
not_listed bound kind [] above small = refl
not_listed {A} bound kind (row ∷ rows) above small =
    let parts = and_parts (nat_lt row.0 bound) (list_all (λ (row : ℕ × A). nat_lt row.0 bound) rows) small in
    let other : nat_eq kind row.0 ≡ false = ne_eqb kind row.0 (λ same. omega (arith, above, same, ltb-true row.0 bound parts.0)) in
    subst (λ (b : Bool). cond b (Some row.1) (lookup (nat_eq kind) rows) ≡ None) (sym other) (not_listed bound kind rows above parts.1)
