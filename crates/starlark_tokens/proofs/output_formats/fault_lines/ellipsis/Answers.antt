use Rattle.std.proofs.Common.{ap, sym}
use Rattle.starlark_tokens.specs.OutputFormats.ItemLines.{ellipsis}
use Rattle.starlark_tokens.proofs.output_formats.fault_lines.ellipsis.Goals as goal

pub returns-then-is_cut : goal.returns-then-is_cut
unfolding lib.Utf8.encode
returns-then-is_cut c = ap ellipsis (sym c.if-is_cut.true)
