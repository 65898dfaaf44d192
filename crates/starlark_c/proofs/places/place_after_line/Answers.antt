use Rattle.std.proofs.Common.{arith}
use Rattle.starlark_base.proofs.PlacesAlong.{characters_bound}
use Rattle.starlark_c.proofs.places.place_after_line.Goals as goal

pub overflow_add-column : goal.overflow_add-column
overflow_add-column c = omega (arith, c.count_characters-column.ensures, characters_bound c.args.line.now c.utf8.line, c.pair_count.ensures.within)
