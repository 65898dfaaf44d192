use Rattle.std.proofs.Common.{◌≡◌, length}
use Rattle.starlark_tokens.specs.Files.Globs.{has_after}
use Rattle.starlark_tokens.proofs.files.globs.has.Given as goal

-- an item that is left has the byte if one of all has it
abbrev pub invariant-loop-rest : goal.invariant-loop-rest
invariant-loop-rest l = has_after 0 l.rest l.byte ≡ has_after 0 l.set l.byte

abbrev pub decreases-loop-rest : goal.decreases-loop-rest
decreases-loop-rest l = length l.rest
