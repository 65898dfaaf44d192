use Rattle.std.proofs.Common.{arith}
use Rattle.starlark_base.proofs.CharacterCounts.{between}
use Rattle.starlark_base.proofs.codemap.character_counts.characters_between.Goals as goal

pub returns-else-end-begin-le-STEP : goal.returns-else-end-begin-le-STEP
returns-else-end-begin-le-STEP c =
    omega (arith, c.characters_before.ensures, c.characters_before-else-end-begin-le-STEP.ensures, between c.args.text.now c.args.begin c.args.end c.utf8.text c.requires.order c.requires.begin c.requires.end)
