use Rattle.std.proofs.Common.{◌≡◌, false, sym}
use Rattle.starlark_grammar.specs.Numbers.{is_number}
use Rattle.starlark_token.proofs.Integers.Parsed.{no_number}
use Rattle.starlark_token.proofs.number_text.number_in.Goals as goal

pub returns-then-not-is_numeral-clause-value : goal.returns-then-not-is_numeral-clause-value
returns-then-not-is_numeral-clause-value c =
    let none : is_number c.args.base c.args.text.now ≡ false = rw (← c.unsigned.ensures, ← c.as_bytes.ensures.value, ← c.is_numeral.ensures) c.if-not-is_numeral.true in
    sym (no_number c.args.base c.args.text.now none)

pub number_of-requires-clause-number : goal.number_of-requires-clause-number
number_of-requires-clause-number c = rw (← c.unsigned.ensures, ← c.as_bytes.ensures.value, ← c.is_numeral.ensures) c.if-not-is_numeral.false
