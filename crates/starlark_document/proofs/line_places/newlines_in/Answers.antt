use Rattle.std.proofs.Common.{arith, refl}
use Rattle.std.proofs.lemmas.Option.{slice_get_read}
use Rattle.starlark_document.proofs.LinePlaces.{lines-more, lines-within}
use Rattle.starlark_document.proofs.line_places.newlines_in.Goals as goal

pub overflow_add-count : goal.overflow_add-count
overflow_add-count c =
    let segments = c.args.segments.now in
    let is = slice_get_read segments _ c.loop-segment.segment-index c.segment-item.result refl (omega arith) c.segment-item.is in
    let within = lines-within segments c.loop-segment.segment-index c.segment-item.result c.requires.lines is in
    let counted = c.loop-segment.invariant in
    omega arith

pub loop-segment-preserved : goal.loop-segment-preserved
loop-segment-preserved c =
    let segments = c.args.segments.now in
    let is = slice_get_read segments _ c.loop-segment.segment-index c.segment-item.result refl (omega arith) c.segment-item.is in
    let more = lines-more segments c.loop-segment.segment-index c.segment-item.result c.requires.lines is in
    let counted = c.loop-segment.invariant in
    omega arith
