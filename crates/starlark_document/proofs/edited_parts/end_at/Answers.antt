use Rattle.std.proofs.Common.{arith}
use Rattle.starlark_document.proofs.SegmentOffsets.{end_last}
use Rattle.starlark_document.proofs.edited_parts.end_at.Goals as goal

pub loop-place-preserved : goal.loop-place-preserved
loop-place-preserved c = record { place = record { inside = omega arith; begin = c.end_of-in-loop-place.ensures.next }; later = omega (arith, c.loop-place.invariant.later); before = omega (arith, c.end_of.ensures.next, c.end_of-in-loop-place.ensures.next); near = λ later. omega (arith, c.end_of.ensures.next, c.end_of-in-loop-place.ensures.next) }

pub returns-else-end_of-to-clause-reach : goal.returns-else-end_of-to-clause-reach
returns-else-end_of-to-clause-reach c = λ within segment is. omega (arith, c.end_of.ensures.end segment is)

pub returns-after-loop-place-clause-reach : goal.returns-after-loop-place-clause-reach
returns-after-loop-place-clause-reach c = λ within segment is.
    omega (arith, end_last c.args.segments.now c.loop-place.place.index segment c.requires.lens is (omega arith), c.loop-place.invariant.place.begin)
