use Rattle.std.proofs.Common.{rules}
use Rattle.std.proofs.lemmas.Str.{chars_from_encodes}
use Rattle.starlark_text.proofs.laws.string_laws.walked_len.Goals as goal

pub returns : goal.returns
returns c = search (rules, chars_from_encodes)
