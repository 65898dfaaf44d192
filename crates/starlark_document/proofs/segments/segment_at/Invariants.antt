use Rattle.std.proofs.Common.{length, ◌-◌, ◌≤◌}
use Rattle.starlark_document.specs.Inner.EditedParts.{IsPlaceIn}
use Rattle.starlark_document.proofs.segments.segment_at.Given as goal

abbrev pub invariant-loop-place : goal.invariant-loop-place
invariant-loop-place l = record { place : IsPlaceIn l.segments l.place; before : l.place.begin ≤ l.at }

abbrev pub decreases-loop-place : goal.decreases-loop-place
decreases-loop-place l = length l.segments - l.place.index
