use Rattle.std.specs.Prelude.{Some}
use Rattle.starlark_c.proofs.Bounds.{bounded}
use Rattle.starlark_c.proofs.starlark_lex_uncopied.Goals as goal

pub returns-clause-bounded : goal.returns-clause-bounded
returns-clause-bounded c = rw c.outcome_of.ensures (bounded (Some c.args.text.now) c.args.text.now _ _ c.lex_into.result c.lex_into.ensures.ends)
