use Rattle.std.proofs.Common.{◌-◌, ◌≤◌, length}
use Rattle.starlark_reader.proofs.TakenMargins.Blanks.{IsPassed}
use Rattle.starlark_reader.proofs.margins.blanks_of.Given as goal

abbrev pub invariant-loop-byte : goal.invariant-loop-byte
invariant-loop-byte l = record {
  passed : IsPassed l.text l.margin;
  more : l.spaces ≤ l.margin.blanks;
}

abbrev pub decreases-loop-byte : goal.decreases-loop-byte
decreases-loop-byte l = length l.text - l.margin.blanks
