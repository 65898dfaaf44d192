use Rattle.std.proofs.Common.{length, ◌-◌, ◌≤◌, ◌<◌}
use Rattle.starlark_document.specs.Inner.EditedParts.{IsPlaceIn}
use Rattle.starlark_document.proofs.edited_parts.end_at.Given as goal

abbrev pub invariant-loop-place : goal.invariant-loop-place
invariant-loop-place l = record { place : IsPlaceIn l.segments l.place; later : l.fn.from.index ≤ l.place.index; before : l.place.begin ≤ l.to; near : l.fn.from.index < l.place.index → l.place.begin < l.to }

abbrev pub decreases-loop-place : goal.decreases-loop-place
decreases-loop-place l = length l.segments - l.place.index
