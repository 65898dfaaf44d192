use Rattle.starlark_base.proofs.Numbered.{get-joined}
use Rattle.starlark_base.proofs.laws.joining_keeps_the_first.Goals as goal

pub returns : goal.returns
returns c = get-joined
