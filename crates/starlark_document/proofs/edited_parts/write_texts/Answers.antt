use Rattle.std.proofs.Common.{List, ℕ, ◌++◌, ◌+◌, ◌∙◌, ap, append_assoc, arith, drop, refl, string_bytes, subst, sym, take}
use Rattle.std.proofs.lemmas.List.{take_all}
use Rattle.std.proofs.lemmas.Option.{slice_get_read}
use Rattle.std.proofs.lemmas.Result.{err_from_is_err_and}
use Rattle.starlark_document.specs.Inner.Segments.{text_of}
use Rattle.starlark_document.specs.declared.segments.Content.{Content}
use Rattle.starlark_document.specs.declared.segments.Segment.{Segment}
use Rattle.starlark_document.proofs.LaidSegments.{text_at}
use Rattle.starlark_document.proofs.SegmentOffsets.{text_of-more}
use Rattle.starlark_devices.proofs.Calls.{went_nil, went_trans}
use Rattle.starlark_devices.specs.Calls.{Broken, Going, Went, WritesText}
use Rattle.starlark_document.proofs.edited_parts.write_texts.Goals as goal

pub loop-segment-init : goal.loop-segment-init
loop-segment-init g c = went_nil g.W.WriteDevice.calls c.args.writer.now

pub loop-segment-preserved : goal.loop-segment-preserved
unfolding WritesText
loop-segment-preserved g c =
    let segments = c.args.segments.now in
    let index = c.loop-segment.segment-index in
    let segment = c.segment-item.result in
    let is = slice_get_read segments _ index segment refl (omega arith) c.segment-item.is in
    let written = c.as_bytes.ensures.value ∙ ap (λ (x : Content). string_bytes x.text) c.deref.ensures in
    let more = ap (λ (text : List ℕ). text_of (take index segments) ++ text) written ∙ sym (text_of-more segments index segment is) in
    subst (Went g.W.WriteDevice.calls Going c.args.writer.now c.write_all.new.writer) more
    (went_trans g.W.WriteDevice.calls Going _ _ _ (text_of (take index segments)) c.as_bytes.result.now c.loop-segment.invariant c.in_ok-write_all.ensures.text)

pub returns-in_err-write_all : goal.returns-in_err-write_all
unfolding WritesText
returns-in_err-write_all g c =
    let p = err_from_is_err_and c.from_residual.result c.from_residual.ensures.1 in
    let segments = c.args.segments.now in
    let index = c.loop-segment.segment-index in
    let segment = c.segment-item.result in
    let is = slice_get_read segments _ index segment refl (omega arith) c.segment-item.is in
    let written = c.as_bytes.ensures.value ∙ ap (λ (x : Content). string_bytes x.text) c.deref.ensures in
    let stopped = c.in_err-write_all.ensures.text in
    let before = text_of (take index segments) in
    let after = text_of (drop (index + 1) segments) in
    let joined = append_assoc before stopped.0 (stopped.1 ++ after) ∙ ap (λ (t : List ℕ). before ++ t) (sym (append_assoc stopped.0 stopped.1 after) ∙ ap (λ (t : List ℕ). t ++ after) (stopped.3 ∙ written)) ∙ sym (text_at segments index segment (omega arith) c.segment-item.is) in
    rw (p.1, p.2) (before ++ stopped.0, stopped.1 ++ after, went_trans g.W.WriteDevice.calls (Broken c.in_err-write_all.field-0.0) _ _ _ before stopped.0 c.loop-segment.invariant stopped.2, joined)

pub returns : goal.returns
unfolding WritesText
returns g c =
    let segments = c.args.segments.now in
    subst (λ (xs : List Segment). Went g.W.WriteDevice.calls Going c.args.writer.now c.loop-segment.writer (text_of xs)) (take_all c.loop-segment.segment-index segments (omega (arith, c.loop-segment-test.false))) c.loop-segment.invariant
