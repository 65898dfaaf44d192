use Rattle.std.proofs.Common.{arith}
use Rattle.starlark_document.proofs.SegmentOffsets.{end_last}
use Rattle.starlark_document.proofs.segments.segment_at.Goals as goal

pub loop-place-preserved : goal.loop-place-preserved
loop-place-preserved c = record { place = record { inside = omega arith; begin = c.end_of-in-loop-place.ensures.next }; before = omega (arith, c.end_of.ensures.next, c.end_of-in-loop-place.ensures.next) }

pub returns-else-end_of-at-clause-reach : goal.returns-else-end_of-at-clause-reach
returns-else-end_of-at-clause-reach c = λ within segment is. omega (arith, c.end_of.ensures.end segment is)

pub returns-after-loop-place-clause-reach : goal.returns-after-loop-place-clause-reach
returns-after-loop-place-clause-reach c = λ within segment is.
    omega (arith, end_last c.args.segments.now c.loop-place.place.index segment c.requires.lens is (omega arith), c.loop-place.invariant.place.begin)

pub returns-else-end_of-at-clause-inner : goal.returns-else-end_of-at-clause-inner
returns-else-end_of-at-clause-inner c = λ more segment is.
    let end = c.end_of.ensures.end segment is in
    omega arith
