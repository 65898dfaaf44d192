use Rattle.std.proofs.Common.{◌≡◌, ◌≤◌, ap, arith, refl, ◌∙◌, ℕ, Option, Some, None, true, false, rules}
use Rattle.std.specs.Char.{is_digit}
use Rattle.starlark_grammar.proofs.Words.Classes.{binary_digits, decimal_digits, digits_are_number, hexadecimal_digits, octal_digits}
use Rattle.starlark_grammar.specs.Numbers.{Integer, integer_in, integer_of, is_number}
use Rattle.starlark_grammar.specs.Tokens.{Float}
use Rattle.starlark_grammar.specs.Tokens as tokens
use Rattle.starlark_grammar.specs.Words.{Text, is_run}
use Rattle.starlark_grammar.specs.declared.class.Class.{Class}
use Rattle.starlark_grammar.specs.declared.class.Class.TheVariants as class
use Rattle.starlark_reader.specs.Inner.StepViews.{number_of}
use Rattle.starlark_token.specs.TokenInts.{integer_view}
use Rattle.starlark_token.specs.TokenViews.{Whole, token_view}
use Rattle.starlark_token.specs.declared.token_int.TokenInt.{TokenInt}
use Rattle.starlark_token.specs.declared.tokens.Token.TheVariants as token
use Rattle.starlark_reader.proofs.reading.words.number_token.Goals as goal
use Rattle.starlark_reader.proofs.reading.words.number_token.Goals.{in-Decimal, in-Hexadecimal, in-Octal, in-Binary}

pub range_from-requires : goal.range_from-requires
range_from-requires c = λ some. (hexadecimal_digits c.args.word.now c.utf8.word (c.requires.known ∙ ap Some c.in-Hexadecimal.is)).boundary

pub range_from-requires-in-Octal : goal.range_from-requires-in-Octal
range_from-requires-in-Octal c = λ some. (octal_digits c.args.word.now c.utf8.word (c.requires.known ∙ ap Some c.in-Octal.is)).boundary

pub range_from-requires-in-Binary : goal.range_from-requires-in-Binary
range_from-requires-in-Binary c = λ some. (binary_digits c.args.word.now c.utf8.word (c.requires.known ∙ ap Some c.in-Binary.is)).boundary

-- a text that writes an integer is a number
writes_number : (base : ℕ) (text : Text) (it : Integer) → integer_in base text ≡ Some it → is_number base text ≡ true
unfolding integer_in
writes_number base text it is = go (is_number base text) refl
  where
    go : (number : _) → is_number base text ≡ number → number ≡ true
    go true e = refl
    go false e = let none : ◌≡◌ {A = _} None (Some it) = rw e at is in cc

-- digits of a base are a number
digits_number : (base : ℕ) (digits : Text) → base ≤ 36 → is_run (λ b. is_digit b base) digits ≡ true → is_number base digits ≡ true
digits_number base digits most is = writes_number base digits _ (digits_are_number base digits most is)

pub number_of-requires-clause-number : goal.number_of-requires-clause-number
number_of-requires-clause-number c = elim c.match-class.branch [
  | in-Decimal w ↦ rw w.base-is (digits_number 10 c.args.word.now (omega arith) (decimal_digits c.args.word.now (c.requires.known ∙ ap Some w.in-Decimal.is)))
  | in-Hexadecimal w ↦ rw w.base-is (digits_number 16 w.range_from.result.now (omega arith) (rw w.range_from.ensures.value (hexadecimal_digits c.args.word.now c.utf8.word (c.requires.known ∙ ap Some w.in-Hexadecimal.is)).digits))
  | in-Octal w ↦ rw w.base-is (digits_number 8 w.range_from-in-Octal.result.now (omega arith) (rw w.range_from-in-Octal.ensures.value (octal_digits c.args.word.now c.utf8.word (c.requires.known ∙ ap Some w.in-Octal.is)).digits))
  | in-Binary w ↦ rw w.base-is (digits_number 2 w.range_from-in-Binary.result.now (omega arith) (rw w.range_from-in-Binary.ensures.value (binary_digits c.args.word.now c.utf8.word (c.requires.known ∙ ap Some w.in-Binary.is)).digits))
]

-- a number of no class of integers is a float
float_of : (it : Class) (word : Text) → (it ≡ class.Decimal → ⊥) → (it ≡ class.Hexadecimal → ⊥) → (it ≡ class.Octal → ⊥) → (it ≡ class.Binary → ⊥) → number_of it word ≡ Float word
float_of class.Decimal word d h o b = absurd (d refl)
float_of class.Hexadecimal word d h o b = absurd (h refl)
float_of class.Octal word d h o b = absurd (o refl)
float_of class.Binary word d h o b = absurd (b refl)
float_of it word d h o b = refl

pub returns-in_default : goal.returns-in_default
unfolding token_view
returns-in_default c = search (rules, float_of)

-- the integer that some digits write
abbrev of_some : Option Integer → Integer → Integer
of_some (Some number) other = number
of_some None other = other

integer : (number : TokenInt) (base : ℕ) (digits : Text) → base ≤ 36 → is_run (λ b. is_digit b base) digits ≡ true → Some (integer_view number) ≡ integer_in base digits → token_view (token.Int number) ≡ Whole (tokens.Int (integer_of base digits))
unfolding token_view
integer number base digits most is value = ap (λ (it : Option Integer). Whole (tokens.Int (of_some it (integer_view number)))) (value ∙ digits_are_number base digits most is)

pub returns : goal.returns
returns c =
    let number = c.in_ok-number_of.field-0 in
    elim c.match-class.branch [
      | in-Decimal w ↦ rw w.in-Decimal.is (integer number 10 c.args.word.now (omega arith) (decimal_digits c.args.word.now (c.requires.known ∙ ap Some w.in-Decimal.is)) (rw w.base-is at c.in_ok-number_of.ensures.value))
      | in-Hexadecimal w ↦
          rw (w.in-Hexadecimal.is, ← w.range_from.ensures.value) (integer number 16 w.range_from.result.now (omega arith) (rw w.range_from.ensures.value (hexadecimal_digits c.args.word.now c.utf8.word (c.requires.known ∙ ap Some w.in-Hexadecimal.is)).digits) (rw w.base-is at c.in_ok-number_of.ensures.value))
      | in-Octal w ↦
          rw (w.in-Octal.is, ← w.range_from-in-Octal.ensures.value) (integer number 8 w.range_from-in-Octal.result.now (omega arith) (rw w.range_from-in-Octal.ensures.value (octal_digits c.args.word.now c.utf8.word (c.requires.known ∙ ap Some w.in-Octal.is)).digits) (rw w.base-is at c.in_ok-number_of.ensures.value))
      | in-Binary w ↦
          rw (w.in-Binary.is, ← w.range_from-in-Binary.ensures.value) (integer number 2 w.range_from-in-Binary.result.now (omega arith) (rw w.range_from-in-Binary.ensures.value (binary_digits c.args.word.now c.utf8.word (c.requires.known ∙ ap Some w.in-Binary.is)).digits) (rw w.base-is at c.in_ok-number_of.ensures.value))
    ]
