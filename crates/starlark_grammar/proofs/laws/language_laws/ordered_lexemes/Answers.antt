use Rattle.starlark_grammar.proofs.Order.OrderedLexemes.{outcome_order}
use Rattle.starlark_grammar.proofs.Order.WholeTexts.{outcome_edges, fault_edges}
use Rattle.starlark_grammar.proofs.Reading.Faults.{outcome_fault}
use Rattle.starlark_grammar.proofs.laws.language_laws.ordered_lexemes.Goals as goal

-- src/laws.rt:50:1
pub returns-clause-order : goal.returns-clause-order
returns-clause-order c = λ text. (outcome_order text).0

-- src/laws.rt:50:1
pub returns-clause-whole : goal.returns-clause-whole
returns-clause-whole c = λ text. (outcome_order text).1

-- src/laws.rt:50:1
pub returns-clause-boundaries : goal.returns-clause-boundaries
returns-clause-boundaries c = outcome_edges

-- src/laws.rt:50:1
pub returns-clause-fault : goal.returns-clause-fault
returns-clause-fault c = outcome_fault

-- src/laws.rt:50:1
pub returns-clause-fault_boundaries : goal.returns-clause-fault_boundaries
returns-clause-fault_boundaries c = fault_edges
