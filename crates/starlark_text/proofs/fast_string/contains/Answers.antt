use Rattle.std.proofs.Common.{rules}
use Rattle.starlark_text.proofs.Matches.{contains_found}
use Rattle.starlark_text.proofs.fast_string.contains.Goals as goal

pub returns : goal.returns
returns c = search (rules, contains_found)
