use Rattle.starlark_text.proofs.FormatReadings.{answers_outcome}
use Rattle.starlark_text.proofs.laws.format_laws.answers_are_the_outcome.Goals as goal

pub returns : goal.returns
returns c = answers_outcome
