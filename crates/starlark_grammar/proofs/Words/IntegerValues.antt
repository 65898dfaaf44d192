-- Neither zeros at the front nor the case of letters change a number's value.
use Rattle.std.proofs.Common.{◌≡◌, ℕ, suc, ◌+◌, ◌*◌, ◌-◌, ◌<◌, ◌≤◌, Bool, true, false, [], ◌∷◌, map, drop, nat_eq, nat_lt, refl, ap, arith, cond}
use Rattle.std.specs.Char.{digit_value, to_ascii_lowercase}
use Rattle.std.specs.List.{prefix_len}
use Rattle.std.specs.Str.Parse.{digits_value, digits_value_after}
use Rattle.std.proofs.Math.Nat.{zero-mul}
use Rattle.std.proofs.lemmas.Bool.{ltb-true, ltb-false, eqb-true}
use Rattle.starlark_grammar.specs.Words.{Text, unsigned}
use Rattle.starlark_grammar.specs.Numbers.{Small, Big, is_negative, is_small, signed, plain_digits, integer_of}
use Rattle.starlark_grammar.specs.IntegerValues.{value_of, IntegersKeepTheirValue}

-- the case of a letter
pub value_in_lower_case : (c : ℕ) → digit_value (to_ascii_lowercase c) ≡ digit_value c
value_in_lower_case c = by_tests (nat_lt c 65) (nat_lt c 91) refl refl
  where
    capital : 65 ≤ c → c < 91 → digit_value c ≡ c - 55
    capital least most = grind arith

    small : 65 ≤ c → c < 91 → digit_value (c + 32) ≡ c - 55
    small least most = grind arith

    by_tests : (low high : Bool) → nat_lt c 65 ≡ low → nat_lt c 91 ≡ high → digit_value (cond low c (cond high (c + 32) c)) ≡ digit_value c
    by_tests true high l h = refl
    by_tests false false l h = refl
    by_tests false true l h =
        let least : 65 ≤ c = ltb-false c 65 l in
        let most : c < 91 = ltb-true c 91 h in
        rw (capital least most) (small least most)

digits_in_lower_case : (base n : ℕ) (digits : Text) → digits_value_after base n (map to_ascii_lowercase digits) ≡ digits_value_after base n digits
digits_in_lower_case base n [] = refl
digits_in_lower_case base n (d ∷ ds) =
    let rest = digits_in_lower_case base (n * base + digit_value (to_ascii_lowercase d)) ds in
    let same : digits_value_after base (n * base + digit_value (to_ascii_lowercase d)) ds ≡ digits_value_after base (n * base + digit_value d) ds = ap (λ value. digits_value_after base (n * base + value) ds) (value_in_lower_case d) in
    rw (← same) rest

-- zeros at the front
after_zeros : (base : ℕ) (digits : Text) → digits_value base (drop (prefix_len (nat_eq 48) digits) digits) ≡ digits_value base digits
after_zeros base [] = refl
after_zeros base (d ∷ ds) = by_digit (after_zeros base ds) (nat_eq 48 d) refl
  where
    by_digit : digits_value base (drop (prefix_len (nat_eq 48) ds) ds) ≡ digits_value base ds → (is_zero : Bool) → nat_eq 48 d ≡ is_zero → digits_value base (drop (cond is_zero (1 + prefix_len (nat_eq 48) ds) 0) (d ∷ ds)) ≡ digits_value base (d ∷ ds)
    by_digit rest false e = refl
    by_digit rest true e =
        let one_more : 1 + prefix_len (nat_eq 48) ds ≡ suc (prefix_len (nat_eq 48) ds) = omega arith in
        let none : digit_value d ≡ 0 = rw (← eqb-true 48 d e) refl in
        let start : 0 * base + digit_value d ≡ 0 = rw (none, zero-mul base) refl in
        rw (one_more, start) rest

pub plain_value : (base : ℕ) (digits : Text) → digits_value base (plain_digits digits) ≡ digits_value base digits
plain_value base digits = rw (digits_in_lower_case base 0 (drop (prefix_len (nat_eq 48) digits) digits)) (after_zeros base digits)

pub value_is_kept : IntegersKeepTheirValue
unfolding integer_of
value_is_kept base text = by_size (is_small (is_negative text) (digits_value base (unsigned text)))
  where
    by_size : (small : Bool) → value_of (cond small (Small (signed (is_negative text) (digits_value base (unsigned text)))) (Big (is_negative text) (plain_digits (unsigned text)) base)) ≡ signed (is_negative text) (digits_value base (unsigned text))
    by_size true = refl
    by_size false = rw (plain_value base (unsigned text)) refl
