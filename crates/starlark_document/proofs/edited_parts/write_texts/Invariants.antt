use Rattle.std.proofs.Common.{take}
use Rattle.starlark_document.specs.Inner.Segments.{text_of}
use Rattle.starlark_devices.specs.Calls.{Going, Went}
use Rattle.starlark_document.proofs.edited_parts.write_texts.Given as goal

abbrev pub invariant-loop-segment : goal.invariant-loop-segment
invariant-loop-segment g l = Went g.W.WriteDevice.calls Going l.initial.writer l.writer (text_of (take l.segment-index l.segments))
