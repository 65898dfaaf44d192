use Rattle.starlark_text.proofs.FormatReadings.{parses_back}
use Rattle.starlark_text.proofs.laws.format_laws.tokens_parse_back.Goals as goal

pub returns : goal.returns
returns c = parses_back
