use Rattle.std.proofs.Common.{length, take, ◌<◌, ◌+◌, ◌-◌, ◌≡◌}
use Rattle.starlark_document.specs.Inner.Segments.{text_of}
use Rattle.starlark_document.proofs.segments.step_before.Given as goal

abbrev pub invariant-loop-index : goal.invariant-loop-index
invariant-loop-index l = record {
  inside : l.index < length l.segments;
  passed : length (text_of (take l.index l.segments)) + l.left ≡ l.at;
}

abbrev pub decreases-loop-index : goal.decreases-loop-index
decreases-loop-index l = length l.segments - l.index
