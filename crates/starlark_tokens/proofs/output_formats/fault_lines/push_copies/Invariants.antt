use Rattle.std.proofs.Common.{◌≡◌, ◌++◌, replicate, string_bytes}
use Rattle.starlark_tokens.proofs.output_formats.fault_lines.push_copies.Given as goal

-- the copies so far are put
abbrev pub invariant-loop : goal.invariant-loop
invariant-loop l = string_bytes l.line ≡ string_bytes l.fn.line ++ replicate l.counter l.character
