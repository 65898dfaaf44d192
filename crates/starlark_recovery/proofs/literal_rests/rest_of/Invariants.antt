use Rattle.std.proofs.Common.{length, drop, false, ◌-◌, ◌≡◌, ◌≤◌}
use Rattle.starlark_grammar.specs.Inner.Openings.{opening_view}
use Rattle.starlark_grammar.specs.KeptLines as spec
use Rattle.starlark_recovery.proofs.literal_rests.rest_of.Given as goal

abbrev pub invariant-loop-at : goal.invariant-loop-at
invariant-loop-at l = record {
  inside : l.at ≤ length l.bytes;
  same : spec.longer_rest l.at (spec.rest_from (opening_view l.opening) l.is_taken (drop l.at l.bytes)) ≡ spec.rest_from (opening_view l.opening) false l.bytes;
}

abbrev pub decreases-loop-at : goal.decreases-loop-at
decreases-loop-at l = length l.bytes - l.at
