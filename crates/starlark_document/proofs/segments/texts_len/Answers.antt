use Rattle.std.proofs.Common.{arith, refl}
use Rattle.std.proofs.lemmas.Option.{slice_get_read}
use Rattle.starlark_document.proofs.SegmentOffsets.{begin_after, end_within}
use Rattle.starlark_document.proofs.segments.texts_len.Goals as goal

pub overflow_add-len : goal.overflow_add-len
overflow_add-len c =
    let segments = c.args.segments.now in
    let is = slice_get_read segments _ c.loop-segment.segment-index c.segment-item.result refl (omega arith) c.segment-item.is in
    let within = end_within segments c.loop-segment.segment-index c.segment-item.result c.requires.lens is in
    let summed = c.loop-segment.invariant in
    omega arith

pub loop-segment-preserved : goal.loop-segment-preserved
loop-segment-preserved c =
    let segments = c.args.segments.now in
    let is = slice_get_read segments _ c.loop-segment.segment-index c.segment-item.result refl (omega arith) c.segment-item.is in
    let more = begin_after segments c.loop-segment.segment-index c.segment-item.result c.requires.lens is in
    let summed = c.loop-segment.invariant in
    omega arith
