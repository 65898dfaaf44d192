use Rattle.std.specs.Prelude.{None}
use Rattle.starlark_c.proofs.Bounds.{bounded_front}
use Rattle.starlark_c.proofs.starlark_lex_front.Goals as goal

pub returns-clause-bounded : goal.returns-clause-bounded
returns-clause-bounded c = rw c.outcome_of.ensures (bounded_front None c.args.front.now _ _ c.lex_front.result c.lex_front.ensures.ends)
