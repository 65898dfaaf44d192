use Rattle.starlark_text.proofs.FormatReadings.{some_outcome, one_outcome, one_reading}
use Rattle.starlark_text.proofs.laws.format_laws.one_outcome.Goals as goal

pub returns-clause-some : goal.returns-clause-some
returns-clause-some c = some_outcome

pub returns-clause-one : goal.returns-clause-one
returns-clause-one c = one_outcome

pub returns-clause-reading : goal.returns-clause-reading
returns-clause-reading c = one_reading
