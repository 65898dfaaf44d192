use Rattle.std.proofs.Common.{arith, ◌+◌}
use Rattle.starlark_document.proofs.SegmentOffsets.{part_end, part_within}
use Rattle.starlark_document.proofs.segments.step_before.Goals as goal

pub texts_len-len-requires-clause-fits : goal.texts_len-len-requires-clause-fits
texts_len-len-requires-clause-fits c =
    omega (arith, c.requires.fits, part_within c.args.segments.now c.loop-index.index (c.loop-index.index + 32) (omega arith))

pub loop-index-preserved : goal.loop-index-preserved
loop-index-preserved c = record {
  inside = c.loop-index-test.true;
  passed = omega (arith, c.loop-index.invariant.passed, c.texts_len-len.ensures, c.if-left-len.false, part_end c.args.segments.now c.loop-index.index (c.loop-index.index + 32) (omega arith));
}
