use Rattle.std.proofs.Common.{◌≡◌, ◌++◌, string_bytes, take}
use Rattle.starlark_document.specs.Inner.Segments.{text_of}
use Rattle.starlark_document.proofs.edited_parts.append_texts.Given as goal

abbrev pub invariant-loop-segment : goal.invariant-loop-segment
invariant-loop-segment l = string_bytes l.text ≡ string_bytes l.initial.text ++ text_of (take l.segment-index l.segments)
