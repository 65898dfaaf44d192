use Rattle.std.proofs.Common.{ap, arith, count_by, ◌+◌}
use Rattle.starlark_base.specs.Places.{is_lf}
use Rattle.starlark_base.proofs.NewlineCounts.{lines_between, lines_after}
use Rattle.starlark_base.proofs.position.newline_count.Goals as goal

pub loop-at-preserved : goal.loop-at-preserved
loop-at-preserved c = record {
  within = c.loop-at-test.true;
  counted = omega (arith, c.loop-at.invariant.counted, c.short_newline_count.ensures, lines_between c.as_bytes-bytes.result.now c.loop-at.at (c.loop-at.at + 128) (omega arith));
}

pub returns : goal.returns
returns c =
    omega (
      arith,
      c.loop-at.invariant.counted,
      c.short_newline_count-2.ensures,
      lines_after c.as_bytes-bytes.result.now c.loop-at.at c.loop-at.invariant.within,
      ap (count_by is_lf) c.as_bytes-bytes.ensures.value,
    )
