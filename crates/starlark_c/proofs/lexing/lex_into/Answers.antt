use Rattle.starlark_c.specs.TextParts.{home}
use Rattle.starlark_c.proofs.LastStops.{stops_last}
use Rattle.starlark_c.proofs.lexing.lex_into.Goals as goal

pub returns-clause-last : goal.returns-clause-last
returns-clause-last c = stops_last (home c.args.stays c.args.bytes.now) c.args.bytes.now _ _ _ _ c.lex_bytes.ensures
