use Rattle.std.proofs.Common.{◌≡◌, ◌++◌, string_bytes}
use Rattle.std.specs.List.{flat_map}
use Rattle.starlark_tokens.specs.OutputFormats.ItemLines.{below}
use Rattle.starlark_tokens.proofs.output_formats.fault_lines.push_below.Given as goal

-- what was yielded is put
abbrev pub invariant-loop-character : goal.invariant-loop-character
invariant-loop-character l = string_bytes l.line ≡ string_bytes l.fn.line ++ flat_map below l.yielded
