use Rattle.starlark_grammar.proofs.LineEnds.Readings.{crlf_keeps}
use Rattle.starlark_grammar.proofs.laws.text_laws.line_ends_keep_tokens.Goals as goal

pub returns : goal.returns
returns c = crlf_keeps
