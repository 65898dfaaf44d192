use Rattle.std.proofs.Common.{arith, refl, ap}
use Rattle.std.proofs.lemmas.Option.{slice_get_read}
use Rattle.starlark_document.proofs.SegmentOffsets.{begin_after, end_within}
use Rattle.starlark_document.specs.declared.segments.Segment.{Segment}
use Rattle.starlark_document.proofs.segments.end_of.Goals as goal

pub overflow_add-result : goal.overflow_add-result
overflow_add-result c =
    let segments = c.args.segments.now in
    let is = slice_get_read segments _ c.args.place.index c.index-segments-place.result refl (omega arith) c.index-segments-place.is in
    let within = end_within segments c.args.place.index c.index-segments-place.result c.requires.lens is in
    let len = ap (λ (x : Segment). x.len) c.index-segments-place.is in
    omega (arith, within, len, c.requires.fits, c.requires.place.begin)

pub returns-clause-next : goal.returns-clause-next
returns-clause-next c =
    let segments = c.args.segments.now in
    let is = slice_get_read segments _ c.args.place.index c.index-segments-place.result refl (omega arith) c.index-segments-place.is in
    let next = begin_after segments c.args.place.index c.index-segments-place.result c.requires.lens is in
    let len = ap (λ (x : Segment). x.len) c.index-segments-place.is in
    omega (arith, next, len, c.requires.place.begin)
