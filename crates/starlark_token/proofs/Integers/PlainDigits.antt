-- The digits that are kept of a number's text are plain, and have the value of the text's.
use Rattle.std.proofs.Common.{◌≡◌, ℕ, zero, suc, ◌+◌, ◌<◌, ◌≤◌, ◌==◌, Bool, true, false, cond, not, ◌&&◌, nat_eq, nat_lt, [], ◌∷◌, map, drop, get_or, refl, arith}
use Rattle.std.proofs.lemmas.Bool.{and_parts, ltb-true, ltb-false}
use Rattle.std.specs.Char.{is_digit, is_ascii_uppercase, to_ascii_lowercase}
use Rattle.std.specs.List.{list_all, prefix_len}
use Rattle.starlark_grammar.specs.Words.{Text, is_run}
use Rattle.starlark_grammar.specs.Numbers.{plain_digits}
use Rattle.starlark_token.specs.BigIntegers.{are_plain}
use Rattle.starlark_grammar.proofs.Words.IntegerValues.{value_in_lower_case}

no_capital : (d : ℕ) → not (is_ascii_uppercase (to_ascii_lowercase d)) ≡ true
no_capital d = by_tests (nat_lt d 65) (nat_lt d 91) refl refl
  where
    by_tests : (low high : Bool) → nat_lt d 65 ≡ low → nat_lt d 91 ≡ high → not (is_ascii_uppercase (cond low d (cond high (d + 32) d))) ≡ true
    by_tests true high l h = below (ltb-true d 65 l)
      where
        below : d < 65 → not (is_ascii_uppercase d) ≡ true
        below less = grind arith
    by_tests false true l h = raised (ltb-false d 65 l)
      where
        raised : 65 ≤ d → not (is_ascii_uppercase (d + 32)) ≡ true
        raised least = grind arith
    by_tests false false l h = above (ltb-false d 91 h)
      where
        above : 91 ≤ d → not (is_ascii_uppercase d) ≡ true
        above least = grind arith

plain_in_lower_case : (base : ℕ) (digits : Text) → list_all (λ b. is_digit b base) digits ≡ true → list_all (λ b. is_digit b base && not (is_ascii_uppercase b)) (map to_ascii_lowercase digits) ≡ true
plain_in_lower_case base [] h = refl
plain_in_lower_case base (d ∷ ds) h =
    let parts = and_parts _ _ h in
    let digit : is_digit (to_ascii_lowercase d) base ≡ true = rw (value_in_lower_case d) parts.0 in
    rw (digit, no_capital d) (plain_in_lower_case base ds parts.1)

all_after : (base count : ℕ) (digits : Text) → list_all (λ b. is_digit b base) digits ≡ true → list_all (λ b. is_digit b base) (drop count digits) ≡ true
all_after base zero digits h = h
all_after base (suc count) [] h = refl
all_after base (suc count) (d ∷ ds) h = all_after base count ds (and_parts _ _ h).1

no_zero : (d : ℕ) → nat_eq 48 d ≡ false → not (to_ascii_lowercase d == 48) ≡ true
no_zero d other = by_tests (nat_lt d 65) (nat_lt d 91) refl
  where
    same : not (d == 48) ≡ true
    same = grind (arith, other)

    by_tests : (low high : Bool) → nat_lt d 65 ≡ low → not (cond low d (cond high (d + 32) d) == 48) ≡ true
    by_tests true high l = same
    by_tests false true l = grind (arith, ltb-false d 65 l)
    by_tests false false l = same

no_zero_first : (digits : Text) → not (get_or (plain_digits digits) 0 0 == 48) ≡ true
no_zero_first [] = refl
no_zero_first (d ∷ ds) = by_digit (no_zero_first ds) (nat_eq 48 d) refl
  where
    by_digit : not (get_or (plain_digits ds) 0 0 == 48) ≡ true → (is_zero : Bool) → nat_eq 48 d ≡ is_zero → not (get_or (map to_ascii_lowercase (drop (cond is_zero (1 + prefix_len (nat_eq 48) ds) 0) (d ∷ ds))) 0 0 == 48) ≡ true
    by_digit rest false e = no_zero d e
    by_digit rest true e =
        let one_more : 1 + prefix_len (nat_eq 48) ds ≡ suc (prefix_len (nat_eq 48) ds) = omega arith in
        rw one_more rest

pub plain_digits_are_plain : (base : ℕ) (digits : Text) → is_run (λ b. is_digit b base) digits ≡ true → are_plain base (plain_digits digits) ≡ true
plain_digits_are_plain base [] h = refl
plain_digits_are_plain base (d ∷ ds) h =
    rw (plain_in_lower_case base (drop (prefix_len (nat_eq 48) (d ∷ ds)) (d ∷ ds)) (all_after base (prefix_len (nat_eq 48) (d ∷ ds)) (d ∷ ds) h), no_zero_first (d ∷ ds)) refl
