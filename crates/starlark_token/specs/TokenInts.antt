-- Values of integer tokens, and their printed form.
use Rattle.std.specs.Prelude.{⊤}
use Rattle.std.specs.Fmt.{signed_decimal}
use Rattle.starlark_grammar.specs.Words.{Text}
use Rattle.starlark_grammar.specs.Numbers.{Integer, Small, Big}
use Rattle.starlark_token.specs.BigIntegers.{big_text}
use Rattle.starlark_token.specs.declared.token_int.TokenInt.{TokenInt}
use Rattle.starlark_token.specs.declared.token_int.TokenInt.TheVariants.{I32, BigInt}

-- the integer of the grammar that a value is
abbrev pub integer_view : TokenInt → Integer
integer_view (I32 value) = Small value
integer_view (BigInt number) = Big number.is_negative number.digits number.radix

-- the integer doesn't fit in 32 bits
abbrev pub IsBig : Integer → Type 0
IsBig (Small value) = ⊥
IsBig (Big is_negative digits base) = ⊤

-- the printed form of an integer: decimal if it fits in 32 bits, or else its digits in their base
abbrev pub integer_text : Integer → Text
integer_text (Small value) = signed_decimal value
integer_text (Big is_negative digits base) = big_text is_negative digits base
