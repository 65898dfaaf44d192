use Rattle.std.proofs.Common.{rules, ◌+◌, ◌≤◌, length, arith}
use Rattle.starlark_text.proofs.CharacterStarts.{begun_on, begun_rest, begun_bound}
use Rattle.starlark_text.proofs.character_starts.count_starts.Goals as goal

pub overflow_add-count : goal.overflow_add-count
overflow_add-count c =
    let inside : c.loop-at.count + c.lane_starts-count.result ≤ length c.args.bytes.now =
    omega (arith, c.loop-at.invariant.counted, c.lane_starts-count.ensures, begun_on c.args.bytes.now c.loop-at.at 32, begun_bound c.args.bytes.now (c.loop-at.at + 32)) in
    search (rules, inside)

pub loop-at-preserved : goal.loop-at-preserved
loop-at-preserved c = record {
  within = c.loop-at-test.true;
  counted = omega (arith, c.loop-at.invariant.counted, c.lane_starts-count.ensures, begun_on c.args.bytes.now c.loop-at.at 32);
}

pub returns : goal.returns
returns c = omega (arith, c.loop-at.invariant.counted, c.count_starts_scalar.ensures, begun_rest c.args.bytes.now c.loop-at.at c.loop-at.invariant.within)
