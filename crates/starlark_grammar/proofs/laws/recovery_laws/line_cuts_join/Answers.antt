use Rattle.starlark_grammar.proofs.Recovery.LineCuts.{line_cuts_join, line_cuts_of_joined}
use Rattle.starlark_grammar.proofs.laws.recovery_laws.line_cuts_join.Goals as goal

pub returns-clause-outcome : goal.returns-clause-outcome
returns-clause-outcome c = line_cuts_join

pub returns-clause-cut : goal.returns-clause-cut
returns-clause-cut c = line_cuts_of_joined
