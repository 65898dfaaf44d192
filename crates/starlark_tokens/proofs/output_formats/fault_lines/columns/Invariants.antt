use Rattle.std.proofs.Common.{◌≡◌, ◌-◌, ◌^◌, min}
use Rattle.std.specs.Prelude.{sum_by}
use Rattle.starlark_tokens.specs.OutputFormats.ItemLines.{shown_width}
use Rattle.starlark_tokens.proofs.output_formats.fault_lines.columns.Given as goal

-- the columns so far
abbrev pub invariant-loop-character : goal.invariant-loop-character
invariant-loop-character l = l.sum ≡ min (sum_by shown_width l.yielded) (2 ^ 64 - 1)
