use Rattle.std.proofs.Common.{◌≡◌, ◌++◌, string_bytes, take}
use Rattle.starlark_run.specs.Output.{hex}
use Rattle.starlark_run.proofs.printed_values.push_hex.Given as goal

-- the bytes so far are put
abbrev pub invariant-loop-byte : goal.invariant-loop-byte
invariant-loop-byte l = string_bytes l.line ≡ string_bytes l.fn.line ++ hex (take l.byte-index l.bytes)
