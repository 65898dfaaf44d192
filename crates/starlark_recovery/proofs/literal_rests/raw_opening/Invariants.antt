use Rattle.std.proofs.Common.{length, drop, ◌-◌, ◌≡◌, ◌≤◌}
use Rattle.starlark_grammar.specs.KeptLines as spec
use Rattle.starlark_recovery.proofs.literal_rests.raw_opening.Given as goal

abbrev pub invariant-loop-at : goal.invariant-loop-at
invariant-loop-at l = record {
  inside : l.at ≤ length l.front;
  same : spec.raw_opening (drop l.at l.front) ≡ spec.raw_opening l.front;
}

abbrev pub decreases-loop-at : goal.decreases-loop-at
decreases-loop-at l = length l.front - l.at
