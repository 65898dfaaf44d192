use Rattle.std.proofs.Common.{◌∙◌}
use Rattle.starlark_reader.proofs.pending.Pending.nothing.Goals as goal

pub returns : goal.returns
returns c = λ text. ((c.only.ensures text).0 ∙ c.nothing.ensures, (c.only.ensures text).1)
