use Rattle.starlark_syntax.proofs.Held.{fault_held, lexemes_held}
use Rattle.starlark_syntax.proofs.laws.held_lexemes.Goals as goal

pub returns-clause-lexemes : goal.returns-clause-lexemes
returns-clause-lexemes c = lexemes_held

pub returns-clause-fault : goal.returns-clause-fault
returns-clause-fault c = fault_held
