use Rattle.std.proofs.Common.{◌≡◌, drop}
use Rattle.starlark_tokens.specs.CommandLine.Requests.{number, number_after}
use Rattle.starlark_tokens.proofs.command_line.requests.number.Given as goal

-- the digits that are left follow the number so far
abbrev pub invariant-loop-byte : goal.invariant-loop-byte
invariant-loop-byte l = number_after l.number (drop l.byte-index l.digits) ≡ number l.digits
