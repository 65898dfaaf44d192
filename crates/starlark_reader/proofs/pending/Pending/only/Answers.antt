use Rattle.starlark_reader.proofs.TakenMargins.PendingLexemes.{only_after}
use Rattle.starlark_reader.proofs.pending.Pending.only.Goals as goal

pub returns : goal.returns
returns c = λ text. only_after text c.args.remainder
