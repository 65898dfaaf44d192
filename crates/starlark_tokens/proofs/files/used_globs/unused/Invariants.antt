use Rattle.std.proofs.Common.{◌≡◌, ◌++◌, drop, map}
use Rattle.starlark_tokens.specs.Files.UsedGlobs.{unused}
use Rattle.starlark_tokens.proofs.files.used_globs.unused.Given as goal

-- the globs so far, and those that are left
abbrev pub invariant-loop-text : goal.invariant-loop-text
invariant-loop-text l = l.unused.items ++ map unused (drop l.text-index l.globs) ≡ map unused l.globs
