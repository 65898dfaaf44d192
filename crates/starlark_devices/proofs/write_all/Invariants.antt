use Rattle.std.proofs.Common.{◌-◌, ◌≤◌, drop, length, take}
use Rattle.starlark_devices.specs.Calls.{Going, Went}
use Rattle.starlark_devices.proofs.Calls.{OffersSoFar}
use Rattle.starlark_devices.proofs.write_all.Given as goal

-- the bytes before `written` are taken, by writes that were offered all that was left
abbrev pub invariant-loop-written : goal.invariant-loop-written
invariant-loop-written g l = record {
  within : l.written ≤ length l.bytes;
  taken : Went g.W.WriteDevice.calls Going l.initial.writer l.writer (take l.written l.bytes);
  offered : OffersSoFar g.W.WriteDevice.calls l.initial.writer l.writer l.bytes (drop l.written l.bytes);
}

abbrev pub decreases-loop-written : goal.decreases-loop-written
decreases-loop-written g l = length l.bytes - l.written
