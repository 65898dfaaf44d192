use Rattle.starlark_c.proofs.MovedPlaces.{start_of}
use Rattle.starlark_c.proofs.places.tell_place.Goals as goal

pub returns-then-is_told : goal.returns-then-is_told
returns-then-is_told c =
    let moves = rw c.if-is_told.true at c.move_place-is_told.ensures in
    rw c.if-is_told.true (moves.0.inside, moves.1 (rw c.line_start-told.ensures (start_of c.args.text.now)))
