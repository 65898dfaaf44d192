use Rattle.std.proofs.Common.{◌≡◌, ◌+◌, ◌-◌, ◌≤◌, false, length, take}
use Rattle.starlark_devices.specs.Calls.{Came}
use Rattle.starlark_run.proofs.BlockReads.{ReadsSoFar}
use Rattle.starlark_run.proofs.input.read_bytes.Given as goal

-- what came is the part of the buffer that is filled
abbrev pub invariant-loop-filled : goal.invariant-loop-filled
invariant-loop-filled g l = record {
  within : l.filled ≤ length l.bytes.items;
  came : Came g.R.ReadDevice.calls l.fn.reader.device l.reader.device false false (take l.filled l.bytes.items);
  blocks : ReadsSoFar g.R.ReadDevice.calls l.fn.reader.device l.reader.device l.filled (length l.bytes.items);
  sound : l.reader.failed ≡ false;
  not_ended : l.reader.ended ≡ false;
}

abbrev pub decreases-loop-filled : goal.decreases-loop-filled
decreases-loop-filled g l = 4294967295 + 1 - l.filled
