use Rattle.std.proofs.Common.{◌≡◌, ◌==◌, drop}
use Rattle.std.specs.List.{list_any}
use Rattle.starlark_tokens.proofs.command_line.requests.has_byte.Given as goal

-- the byte is among those that are left if it is among all
abbrev pub invariant-loop-byte : goal.invariant-loop-byte
invariant-loop-byte l = list_any (λ byte. byte == l.wanted) (drop l.byte-index l.bytes) ≡ list_any (λ byte. byte == l.wanted) l.bytes
