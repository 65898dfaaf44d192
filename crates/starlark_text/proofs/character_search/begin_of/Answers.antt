use Rattle.std.proofs.Common.{arith}
use Rattle.starlark_text.proofs.CharacterStarts.{begun_on}
use Rattle.starlark_text.proofs.Begins.{begin_on, begin_none}
use Rattle.starlark_text.proofs.character_search.begin_of.Goals as goal

pub loop-at-preserved : goal.loop-at-preserved
loop-at-preserved c = record {
  within = c.loop-at-test.true;
  counted = omega (arith, c.loop-at.invariant.counted, c.lane_starts-begun.ensures, c.if-left-begun.false, begun_on c.args.bytes.now c.loop-at.at 32);
}

pub returns-in_err-short_begin_of : goal.returns-in_err-short_begin_of
returns-in_err-short_begin_of c =
    rw c.from_residual.ensures (begin_none c.args.bytes.now c.loop-at.at c.args.index c.loop-at.left c.loop-at.invariant.within c.loop-at.invariant.counted c.in_err-short_begin_of.ensures)

pub returns : goal.returns
returns c = begin_on c.args.bytes.now c.loop-at.at c.args.index c.loop-at.left c.in_ok-short_begin_of.field-0 c.loop-at.invariant.within c.loop-at.invariant.counted c.in_ok-short_begin_of.ensures
