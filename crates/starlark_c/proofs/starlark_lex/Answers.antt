use Rattle.std.specs.Prelude.{None}
use Rattle.starlark_c.proofs.Bounds.{bounded}
use Rattle.starlark_c.proofs.starlark_lex.Goals as goal

pub returns-clause-bounded : goal.returns-clause-bounded
returns-clause-bounded c = rw c.outcome_of.ensures (bounded None c.args.text.now _ _ c.lex_into.result c.lex_into.ensures.ends)
