-- Integers as they are written in a base.
use Rattle.std.specs.Prelude.{ℕ, ◌^◌, Bool, false, ◌&&◌, ◌||◌, ◌==◌, if◌then◌else◌, nat_eq, nat_lt, [], ◌∷◌, map, drop, ℤ, pos, neg_ℤ, Option, Some, None}
use Rattle.std.specs.Char.{is_digit, to_ascii_lowercase}
use Rattle.std.specs.List.{prefix_len}
use Rattle.std.specs.Str.Parse.{digits_value}
use Rattle.starlark_grammar.specs.Words.{Text, is_run, unsigned}

-- An integer: one of 32 bits with a sign by its value, a greater one by its sign, digits and base.
pub data Integer : Type 0 where
  Small : (value : ℤ) → Integer
  Big : (is_negative : Bool) (digits : Text) (base : ℕ) → Integer

abbrev pub is_negative : Text → Bool
is_negative [] = false
is_negative (b ∷ bs) = b == 45

-- at most one sign, and then one digit of the base or more
abbrev pub is_number : ℕ → Text → Bool
is_number base text = is_run (λ b. is_digit b base) (unsigned text)

-- whether the number of a sign and a value has 32 bits
abbrev pub is_small : Bool → ℕ → Bool
is_small minus value = nat_lt value (2 ^ 31) || (minus && value == 2 ^ 31)

abbrev pub signed : Bool → ℕ → ℤ
signed minus value = if minus then neg_ℤ (pos value) else pos value

-- in lower case, and without leading zeros
abbrev pub plain_digits : Text → Text
plain_digits digits = map to_ascii_lowercase (drop (prefix_len (nat_eq 48) digits) digits)

-- the integer of a number's text
unfoldable pub integer_of : ℕ → Text → Integer
integer_of base text =
    if is_small (is_negative text) (digits_value base (unsigned text))
    then Small (signed (is_negative text) (digits_value base (unsigned text)))
    else Big (is_negative text) (plain_digits (unsigned text)) base

-- The integer that a text writes in a base, of 2 to 36. A text that is no number writes none.
unfoldable pub integer_in : ℕ → Text → Option Integer
integer_in base text = if is_number base text then Some (integer_of base text) else None
