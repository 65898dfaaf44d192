use Rattle.starlark_base.proofs.Pairs.{position_start}
use Rattle.starlark_tokens.proofs.told_faults.known_positions.KnownPositions.last.Goals as goal

pub returns-then-is_empty : goal.returns-then-is_empty
returns-then-is_empty c = position_start c.args.self.now.text.now c.requires.utf8
