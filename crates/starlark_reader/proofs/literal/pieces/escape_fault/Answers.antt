use Rattle.std.proofs.Common.{refl, sym, ◌∙◌}
use Rattle.starlark_grammar.specs.Tokens.{EmptyEscapeSequence, InvalidEscapeSequence}
use Rattle.starlark_reader.proofs.ReadLiterals.LiteralPieces.{escape_none, escape_some}
use Rattle.starlark_reader.proofs.literal.pieces.escape_fault.Goals as goal

pub returns-then-is_empty-clause-step : goal.returns-then-is_empty-clause-step
returns-then-is_empty-clause-step c =
    (EmptyEscapeSequence, refl, escape_none c.args.begin c.args.read.now (sym c.is_empty.ensures ∙ c.if-is_empty.true))

pub returns-clause-step : goal.returns-clause-step
returns-clause-step c =
    rw c.in_ok-from_str.ensures.ok (InvalidEscapeSequence c.args.read.now, refl, escape_some c.args.begin c.args.read.now (sym c.is_empty.ensures ∙ c.if-is_empty.false))
