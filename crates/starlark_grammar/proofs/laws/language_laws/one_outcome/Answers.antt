use Rattle.starlark_grammar.proofs.Reading.Readings.{outcome_is, outcome_only}
use Rattle.starlark_grammar.proofs.laws.language_laws.one_outcome.Goals as goal

-- src/laws.rt:22:1
pub returns-clause-is_outcome : goal.returns-clause-is_outcome
returns-clause-is_outcome c = outcome_is

-- src/laws.rt:22:1
pub returns-clause-only : goal.returns-clause-only
returns-clause-only c = outcome_only
