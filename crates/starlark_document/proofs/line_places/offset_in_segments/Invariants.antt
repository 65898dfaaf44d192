use Rattle.std.proofs.Common.{◌≡◌, ℕ, ◌<◌, ◌≤◌, count_by, length, take}
use Rattle.starlark_base.specs.Places.{is_lf}
use Rattle.starlark_document.specs.Inner.Segments.{text_of}
use Rattle.starlark_document.specs.Utf16Places.{StandsAt}
use Rattle.starlark_document.proofs.line_places.offset_in_segments.Given as goal

abbrev pub invariant-loop-segment : goal.invariant-loop-segment
invariant-loop-segment l = record {
  begin : l.begin ≡ length (text_of (take l.segment-index l.segments));
  lines : l.lines ≡ count_by is_lf (text_of (take l.segment-index l.segments));
  none : (at : ℕ) → 0 < l.segment-index → at ≤ l.begin → StandsAt (text_of l.segments) l.line l.column at → ⊥;
}
