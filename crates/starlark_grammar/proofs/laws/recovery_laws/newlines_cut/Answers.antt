use Rattle.starlark_grammar.proofs.Recovery.NewlineCuts.{last_newline_cuts, newlines_cut}
use Rattle.starlark_grammar.proofs.laws.recovery_laws.newlines_cut.Goals as goal

pub returns-clause-inside : goal.returns-clause-inside
returns-clause-inside c = newlines_cut

pub returns-clause-last : goal.returns-clause-last
returns-clause-last c = last_newline_cuts
