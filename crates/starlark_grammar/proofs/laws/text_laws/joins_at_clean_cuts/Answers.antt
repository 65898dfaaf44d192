use Rattle.starlark_grammar.proofs.Joining.CleanCuts.{cuts_join}
use Rattle.starlark_grammar.proofs.Joining.Laws.{tabs_after_cuts, later_faults_join, faults_join, cuts_of_joined}
use Rattle.starlark_grammar.proofs.laws.text_laws.joins_at_clean_cuts.Goals as goal

pub returns-clause-lists : goal.returns-clause-lists
returns-clause-lists c = cuts_join

pub returns-clause-later : goal.returns-clause-later
returns-clause-later c = later_faults_join

pub returns-clause-faults : goal.returns-clause-faults
returns-clause-faults c = faults_join

pub returns-clause-cuts : goal.returns-clause-cuts
returns-clause-cuts c = cuts_of_joined

pub returns-clause-tabs : goal.returns-clause-tabs
returns-clause-tabs c = tabs_after_cuts
