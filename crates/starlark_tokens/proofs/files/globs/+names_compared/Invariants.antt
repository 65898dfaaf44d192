use Rattle.std.proofs.Common.{◌+◌, length}
use Rattle.starlark_tokens.proofs.files.globs.+names_compared.Given as goal

-- what is left of the globs and of the names
abbrev pub decreases-names_compared : goal.decreases-names_compared
decreases-names_compared l = length l.globs.now + length l.names.now
