use Rattle.std.proofs.Common.{◌≡◌, ◌+◌, drop}
use Rattle.starlark_tokens.specs.Files.Globs.{bracket_after, set_len}
use Rattle.starlark_tokens.proofs.files.globs.set_len.Given as goal

-- the bytes so far, and those that are left before the bracket
abbrev pub invariant-loop-index : goal.invariant-loop-index
invariant-loop-index l = l.index + bracket_after l.skip (drop l.index l.glob) ≡ set_len l.glob
