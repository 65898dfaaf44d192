use Rattle.starlark_grammar.proofs.Found.Apart.{found_apart}
use Rattle.starlark_grammar.proofs.Found.ClosedTexts.{closed_join}
use Rattle.starlark_grammar.proofs.Found.FoundItems.{faultless_found, found_after_faults}
use Rattle.starlark_grammar.proofs.Found.JoinedTexts.{found_joins}
use Rattle.starlark_grammar.proofs.Found.Order.{found_faults_in_order, found_lexemes_in_order}
use Rattle.starlark_grammar.proofs.Reading.Onward.{outcome_after_nothing}
use Rattle.starlark_grammar.proofs.laws.found_laws.found_in_order.Goals as goal

pub returns-clause-faultless : goal.returns-clause-faultless
returns-clause-faultless c = faultless_found

pub returns-clause-after : goal.returns-clause-after
returns-clause-after c = found_after_faults

pub returns-clause-outcome : goal.returns-clause-outcome
returns-clause-outcome c = outcome_after_nothing

pub returns-clause-joins : goal.returns-clause-joins
returns-clause-joins c = found_joins

pub returns-clause-closed : goal.returns-clause-closed
returns-clause-closed c = closed_join

pub returns-clause-lexemes : goal.returns-clause-lexemes
returns-clause-lexemes c = found_lexemes_in_order

pub returns-clause-faults : goal.returns-clause-faults
returns-clause-faults c = found_faults_in_order

pub returns-clause-apart : goal.returns-clause-apart
returns-clause-apart c = found_apart
