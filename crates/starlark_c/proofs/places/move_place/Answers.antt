use Rattle.std.proofs.Common.{ap, arith, take, ◌++◌, ◌∙◌}
use Rattle.starlark_c.specs.PlaceRecords.{place_record}
use Rattle.starlark_c.proofs.MovedPlaces.{moved_place, short_on}
use Rattle.starlark_c.proofs.places.move_place.Goals as goal

pub returns-in-Some : goal.returns-in-Some
returns-in-Some c =
    let text = c.args.text.now in
    let from = c.args.from in
    let some = c.in-Some.ensures.some in (
      some.1,
      λ was.
          let short = short_on text from c.args.to some.1.order (omega arith) in
          let told = c.place_after.ensures (take from text) was.utf8 (rw some.0 short) was.is in
          moved_place text from c.args.to c.place_after.result some.1 was.utf8 (told ∙ ap (λ passed. place_record (take from text ++ passed)) some.0),
    )
