use Rattle.std.proofs.Common.{◌+◌, length}
use Rattle.starlark_tokens.proofs.files.globs.+compared.Given as goal

-- what is left of the glob and of the name
abbrev pub decreases-compared : goal.decreases-compared
decreases-compared l = length l.glob.now + length l.name.now
