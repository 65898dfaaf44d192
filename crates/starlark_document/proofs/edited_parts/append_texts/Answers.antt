use Rattle.std.proofs.Common.{◌++◌, List, ℕ, ap, arith, refl, sym, ◌∙◌, string_bytes, append_assoc, take}
use Rattle.std.proofs.lemmas.Option.{slice_get_read}
use Rattle.std.proofs.lemmas.Slice.{pushed}
use Rattle.starlark_document.specs.Inner.Segments.{text_of}
use Rattle.starlark_document.specs.declared.segments.Content.{Content}
use Rattle.starlark_document.proofs.SegmentOffsets.{text_of-more}
use Rattle.starlark_document.proofs.edited_parts.append_texts.Goals as goal

pub loop-segment-preserved : goal.loop-segment-preserved
loop-segment-preserved c =
    let segments = c.args.segments.now in
    let segment = c.segment-item.result in
    let is = slice_get_read segments _ c.loop-segment.segment-index segment refl (omega arith) c.segment-item.is in
    let more = text_of-more segments c.loop-segment.segment-index segment is in
    let now = pushed _ c.loop-segment.invariant c.in_ok-push_str.was c.push_str.ensures.bytes in
    now
    ∙ append_assoc (string_bytes c.args.text.now) (text_of (take c.loop-segment.segment-index segments)) c.as_str.result.now
    ∙ ap (λ (text : List ℕ). string_bytes c.args.text.now ++ (text_of (take c.loop-segment.segment-index segments) ++ text)) (c.as_str.ensures.value ∙ ap (λ (x : Content). string_bytes x.text) c.deref.ensures)
    ∙ ap (λ (text : List ℕ). string_bytes c.args.text.now ++ text) (sym more)
