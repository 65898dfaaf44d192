use Rattle.starlark_c.specs.TextParts.{home}
use Rattle.starlark_c.proofs.lexing.lex_front.Goals as goal

pub returns-clause-ends : goal.returns-clause-ends
returns-clause-ends c = c.front_ending.ensures.ends (home c.args.stays c.args.bytes.now) c.args.bytes.now _ _ c.lex_bytes-ending.ensures

pub returns-clause-last : goal.returns-clause-last
returns-clause-last c = c.front_ending.ensures.last (home c.args.stays c.args.bytes.now) c.args.bytes.now _ _ c.lex_bytes-ending.ensures
