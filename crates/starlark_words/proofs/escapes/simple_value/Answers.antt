-- The table is compared with the definition byte by byte.
use Rattle.std.proofs.Common.{◌≡◌, ℕ, ◌<◌, ◌==◌, ◌&&◌, ◌||◌, Bool, Option, None, Some, true, false, not, get_or, nat_eq, refl, sym, ap, arith, ◌∙◌}
use Rattle.std.proofs.lemmas.Bool.{and_parts, eq-eqb, eqb-true, ltb-true}
use Rattle.std.specs.Map.{lookup}
use Rattle.std.specs.Prelude.{nat_lt}
use Rattle.starlark_grammar.specs.Items.{simple_escapes}
use Rattle.starlark_words.specs.declared.escapes.TheConstants.{SIMPLE}
use Rattle.starlark_words.proofs.Scan.Listed.{each_byte}
use Rattle.starlark_words.proofs.escapes.simple_value.Goals as goal

-- an entry of the table says the same as the list of escapes
abbrev is_same : ℕ → Option ℕ → Bool
is_same value None = value == 46 || value == 45
is_same value (Some it) = value == it && not (it == 46) && not (it == 45) && nat_lt it 128

table_is : (b : ℕ) → b < 256 → is_same (get_or SIMPLE b 0) (lookup (nat_eq b) simple_escapes) ≡ true
unfolding simple_escapes
table_is b small = each_byte (λ b. is_same (get_or SIMPLE b 0) (lookup (nat_eq b) simple_escapes)) b refl small

none_is : (value : ℕ) (found : Option ℕ) → is_same value found ≡ true → (value ≡ 46 → None ≡ found) × (value ≡ 45 → None ≡ found)
none_is value None same = (λ is. refl, λ is. refl)
none_is value (Some it) same =
    let parts = and_parts (value == it && not (it == 46) && not (it == 45)) (nat_lt it 128) same in
    let marks = and_parts (value == it && not (it == 46)) (not (it == 45)) parts.0 in
    let inner = and_parts (value == it) (not (it == 46)) marks.0 in
    let it_is : value ≡ it = eqb-true value it inner.0 in
    (λ is. marked 46 (sym it_is ∙ is) inner.1, λ is. marked 45 (sym it_is ∙ is) marks.1)
  where
    differs : (same : Bool) → same ≡ true → not same ≡ true → ⊥
    differs true is other = cc
    differs false is other = cc

    marked : (mark : ℕ) → it ≡ mark → not (it == mark) ≡ true → None ≡ Some it
    marked mark is other = absurd (differs (it == mark) (eq-eqb it mark is) other)

neither : (a b : Bool) → (a || b) ≡ true → (a ≡ true → ⊥) → (b ≡ true → ⊥) → ⊥
neither true b either f g = f refl
neither false b either f g = g either

some_is : (value : ℕ) (found : Option ℕ) → is_same value found ≡ true → (value ≡ 46 → ⊥) → (value ≡ 45 → ⊥) → (Some value ≡ found) × (value < 128)
some_is value None same point dash = absurd (neither (value == 46) (value == 45) same (λ e. point (eqb-true value 46 e)) (λ e. dash (eqb-true value 45 e)))
some_is value (Some it) same point dash =
    let parts = and_parts (value == it && not (it == 46) && not (it == 45)) (nat_lt it 128) same in
    let marks = and_parts (value == it && not (it == 46)) (not (it == 45)) parts.0 in
    let inner = and_parts (value == it) (not (it == 46)) marks.0 in
    let is : value ≡ it = eqb-true value it inner.0 in
    (ap Some is, omega (arith, is, ltb-true it 128 parts.1))

pub returns-in-46-clause-value : goal.returns-in-46-clause-value
returns-in-46-clause-value c = (none_is _ _ (table_is c.args.byte c.ranges.byte.fits)).0 c.in-46.is

pub returns-in-45-clause-value : goal.returns-in-45-clause-value
returns-in-45-clause-value c = (none_is _ _ (table_is c.args.byte c.ranges.byte.fits)).1 c.in-45.is

pub returns-in_default-clause-value : goal.returns-in_default-clause-value
returns-in_default-clause-value c = ap Some c.from.ensures ∙ (some_is (get_or SIMPLE c.args.byte 0) _ (table_is c.args.byte c.ranges.byte.fits) (λ is. omega (arith, is)) (λ is. omega (arith, is))).0

pub returns-in_default-clause-ascii : goal.returns-in_default-clause-ascii
returns-in_default-clause-ascii c = omega (arith, c.from.ensures, (some_is (get_or SIMPLE c.args.byte 0) _ (table_is c.args.byte c.ranges.byte.fits) (λ is. omega (arith, is)) (λ is. omega (arith, is))).1)
