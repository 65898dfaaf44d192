use Rattle.std.proofs.Common.{ℕ, ◌<◌, ◌≤◌}
use Rattle.starlark_document.specs.Utf16Places.{StandsAt}
use Rattle.starlark_base.specs.Positions.{IsPosition}
use Rattle.starlark_document.proofs.line_places.offset_in.Given as goal

abbrev pub invariant-loop-at : goal.invariant-loop-at
invariant-loop-at l = record {
  here : IsPosition l.text l.position;
  before : l.position.at ≤ l.at;
  none : (k : ℕ) → k < l.at → StandsAt l.text l.line l.column k → ⊥;
}
