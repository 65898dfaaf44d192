use Rattle.std.proofs.Common.{◌≡◌, count_by, take}
use Rattle.starlark_base.specs.Places.{is_lf}
use Rattle.starlark_document.specs.Inner.Segments.{text_of}
use Rattle.starlark_document.proofs.line_places.newlines_in.Given as goal

abbrev pub invariant-loop-segment : goal.invariant-loop-segment
invariant-loop-segment l = l.count ≡ count_by is_lf (text_of (take l.segment-index l.segments))
