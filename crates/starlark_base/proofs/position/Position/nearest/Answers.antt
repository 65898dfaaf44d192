use Rattle.starlark_base.proofs.Pairs.{position_start}
use Rattle.starlark_base.proofs.position.Position.nearest.Goals as goal

pub moved-requires-else-earlier-to-clause-here : goal.moved-requires-else-earlier-to-clause-here
moved-requires-else-earlier-to-clause-here c = position_start c.args.text.now c.utf8.text
