-- The value of an integer, however it is written.
use Rattle.std.specs.Prelude.{◌≡◌, ℕ, ℤ}
use Rattle.std.specs.Str.Parse.{digits_value}
use Rattle.starlark_grammar.specs.Words.{Text, unsigned}
use Rattle.starlark_grammar.specs.Numbers.{Integer, Small, Big, is_negative, signed, integer_of}

-- the sum of the digits, each times a power of the base, with the sign
abbrev pub value_of : Integer → ℤ
value_of (Small value) = value
value_of (Big is_negative digits base) = signed is_negative (digits_value base digits)

-- The integer that a text writes has the value of the text's digits, with its sign.
abbrev pub IntegersKeepTheirValue : Type 0
IntegersKeepTheirValue = (base : ℕ) (text : Text) → value_of (integer_of base text) ≡ signed (is_negative text) (digits_value base (unsigned text))
