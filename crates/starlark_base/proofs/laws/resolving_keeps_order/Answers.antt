use Rattle.starlark_base.proofs.Resolving.{order, order_less}
use Rattle.starlark_base.proofs.laws.resolving_keeps_order.Goals as goal

pub returns-clause-before : goal.returns-clause-before
returns-clause-before c = order

pub returns-clause-less : goal.returns-clause-less
returns-clause-less c = order_less
