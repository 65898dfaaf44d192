use Rattle.std.proofs.Common.{◌≡◌, drop}
use Rattle.std.specs.List.{list_all}
use Rattle.starlark_tokens.specs.CommandLine.Requests.{is_short_letter}
use Rattle.starlark_tokens.proofs.command_line.requests.are_short_letters.Given as goal

-- all are such letters if those that are left are
abbrev pub invariant-loop-byte : goal.invariant-loop-byte
invariant-loop-byte l = list_all is_short_letter (drop l.byte-index l.letters) ≡ list_all is_short_letter l.letters
