-- Digits of integers that don't fit in 32 bits, as the parser of 64 bits sees them.
use Rattle.std.proofs.Common.{◌≡◌, ◌≢◌, ℕ, ◌^◌, ◌<◌, ◌≤◌, Bool, true, false, not, ◌&&◌, [], ◌∷◌, length, get_or, ap, arith, refl, None}
use Rattle.std.proofs.lemmas.Bool.{and_parts, ltb-true, le-ltb, true≢false}
use Rattle.std.proofs.lemmas.Str.Parse.{without_leading_plus_none}
use Rattle.std.specs.Char.{digit_value, is_digit, is_ascii_uppercase}
use Rattle.std.specs.List.{list_all}
use Rattle.std.specs.Str.Parse.{AllDigits, IsNumeral, digits_value, without_leading_plus}
use Rattle.starlark_base.specs.Places.{Text}
use Rattle.starlark_grammar.specs.Numbers.{is_small}
use Rattle.starlark_token.specs.BigIntegers.{BigInteger, IsCanonical}
use Rattle.starlark_tokens.specs.OutputFormats.Values.{exact_value}

all_digits : (base : ℕ) (digits : Text) → list_all (λ d. is_digit d base && not (is_ascii_uppercase d)) digits ≡ true → AllDigits base digits
all_digits base [] h = tt
all_digits base (d ∷ ds) h =
    let parts = and_parts (is_digit d base && not (is_ascii_uppercase d)) (list_all (λ d. is_digit d base && not (is_ascii_uppercase d)) ds) h in
    let digit = and_parts (is_digit d base) (not (is_ascii_uppercase d)) parts.0 in
    (ltb-true (digit_value d) base digit.0, all_digits base ds parts.1)

no_plus : (base : ℕ) (digits : Text) → base ≤ 36 → AllDigits base digits → get_or digits 0 0 ≢ 43
no_plus base [] most h e = absurd (omega (arith, e))
no_plus base (d ∷ ds) most h e =
    let value : digit_value d ≡ 36 = ap digit_value e in
    absurd (omega (arith, value, h.0, most))

not_empty : (minus : Bool) (base : ℕ) (digits : Text) → is_small minus (digits_value base digits) ≡ false → 0 < length digits
not_empty true base [] h = absurd (true≢false h)
not_empty false base [] h = absurd (true≢false h)
not_empty minus base (d ∷ ds) h = omega arith

-- the digits are a numeral, without a plus
pub record IsRead (n : BigInteger) : Type 0 where
  pub numeral : IsNumeral n.radix n.digits
  pub same : without_leading_plus n.digits ≡ n.digits

pub canonical_read : (n : BigInteger) → IsCanonical n → IsRead n
canonical_read n is =
    let digits = all_digits n.radix n.digits (and_parts _ _ is.plain).0 in
    record {
      numeral = (not_empty n.is_negative n.radix n.digits is.big, digits);
      same = without_leading_plus_none n.digits (no_plus n.radix n.digits is.most digits);
    }

-- a value that 64 bits don't hold isn't exact
pub too_great : (base : ℕ) (digits : Text) → (digits_value base digits < 2 ^ 64 → ⊥) → exact_value base digits ≡ None
unfolding exact_value
too_great base digits unfit =
    let great : 2 ^ 53 ≤ digits_value base digits = omega (arith, unfit) in
    rw (le-ltb (digits_value base digits) (2 ^ 53) great) refl
