use Rattle.std.proofs.Common.{◌≡◌, length, take}
use Rattle.starlark_document.specs.Inner.Segments.{text_of}
use Rattle.starlark_document.proofs.segments.texts_len.Given as goal

abbrev pub invariant-loop-segment : goal.invariant-loop-segment
invariant-loop-segment l = l.len ≡ length (text_of (take l.segment-index l.segments))
