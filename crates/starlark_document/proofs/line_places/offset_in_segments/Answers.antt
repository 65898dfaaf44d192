use Rattle.std.proofs.Common.{◌≤◌, ◌+◌, ◌-◌, ◌∙◌, ℕ, List, ap, arith, length, refl, string_bytes, subst, sym, take}
use Rattle.std.proofs.lemmas.Option.{slice_get_read}
use Rattle.starlark_document.proofs.LinePlaces.{HaveLines-laid, lines-more, lines-within, none_onward, stands_onward}
use Rattle.starlark_document.proofs.SegmentOffsets.{HaveLens-laid, begin_after, end_within, len_at}
use Rattle.starlark_document.specs.Inner.Segments.{text_in, text_of}
use Rattle.starlark_document.specs.Utf16Places.{StandsAt}
use Rattle.starlark_document.specs.declared.segments.Content.{Content}
use Rattle.starlark_document.proofs.line_places.offset_in_segments.Goals as goal
use Rattle.starlark_document.proofs.line_places.offset_in_segments.Goals.{After-as_str-text, then-lines-line+then-line-lines+in_default, else-lines-line, else-lines-line-via-then-lines-line+else-line-lines, else-lines-line-via-else-lines-line}

pub overflow_add-lines : goal.overflow_add-lines
overflow_add-lines c =
    let segments = c.args.segments.now in
    let segment = c.segment-item.result in
    let is = slice_get_read segments _ c.loop-segment.segment-index segment refl (omega arith) c.segment-item.is in
    omega (arith, c.loop-segment.invariant.lines, lines-within segments c.loop-segment.segment-index segment (HaveLines-laid _ segments c.requires.laid) is, c.requires.fits)

-- the segment's text is no longer than the whole text from there on
fits : (c : After-as_str-text) → length (text_of (take c.loop-segment.segment-index c.args.segments.now)) + length c.as_str-text.result.now ≤ length (text_of c.args.segments.now)
fits c =
    let segments = c.args.segments.now in
    let segment = c.segment-item.result in
    let is = slice_get_read segments _ c.loop-segment.segment-index segment refl (omega arith) c.segment-item.is in
    let lens = HaveLens-laid _ segments c.requires.laid in
    let same = ap length (c.as_str-text.ensures.value ∙ ap (λ (x : Content). string_bytes x.text) c.deref.ensures) in
    omega (arith, same, len_at segments c.loop-segment.segment-index segment lens is, end_within segments c.loop-segment.segment-index segment lens is)

pub offset_in-requires : goal.offset_in-requires
offset_in-requires c = omega (arith, fits (goal.at.offset_in-requires c).After-as_str-text, c.requires.fits)

pub overflow_add-result : goal.overflow_add-result
overflow_add-result c =
    omega (arith, c.loop-segment.invariant.begin, c.in-Some.ensures.some.boundary.0, fits (goal.at.overflow_add-result c).After-as_str-text, c.requires.fits)

pub returns-in-Some-clause-some : goal.returns-in-Some-clause-some
returns-in-Some-clause-some c =
    let segments = c.args.segments.now in
    let segment = c.segment-item.result in
    let is = slice_get_read segments _ c.loop-segment.segment-index segment refl (omega arith) c.segment-item.is in
    let same = c.as_str-text.ensures.value ∙ ap (λ (x : Content). string_bytes x.text) c.deref.ensures in
    let inv = c.loop-segment.invariant in
    stands_onward segments c.loop-segment.segment-index c.loop-segment.begin c.loop-segment.lines c.args.line c.args.column c.in-Some.at segment c.as_str-text.result.now c.requires.laid
    is inv.begin inv.lines same (omega (arith, c.if-lines-line.true)) c.in-Some.ensures.some

pub overflow_add-begin : goal.overflow_add-begin
overflow_add-begin c =
    let segments = c.args.segments.now in
    let segment = c.segment-item.result in
    let is = slice_get_read segments _ c.loop-segment.segment-index segment refl (omega arith) c.segment-item.is in
    omega (arith, c.loop-segment.invariant.begin, end_within segments c.loop-segment.segment-index segment (HaveLens-laid _ segments c.requires.laid) is, c.requires.fits)

pub overflow_add-lines-in-loop-segment : goal.overflow_add-lines-in-loop-segment
overflow_add-lines-in-loop-segment c =
    let segments = c.args.segments.now in
    let segment = c.segment-item.result in
    let is = slice_get_read segments _ c.loop-segment.segment-index segment refl (omega arith) c.segment-item.is in
    omega (arith, c.loop-segment.invariant.lines, lines-within segments c.loop-segment.segment-index segment (HaveLines-laid _ segments c.requires.laid) is, c.requires.fits)

pub loop-segment-preserved : goal.loop-segment-preserved
loop-segment-preserved c =
    let segments = c.args.segments.now in
    let segment = c.segment-item.result in
    let index = c.loop-segment.segment-index in
    let inv = c.loop-segment.invariant in
    let is = slice_get_read segments _ index segment refl (omega arith) c.segment-item.is in
    let more = begin_after segments index segment (HaveLens-laid _ segments c.requires.laid) is in
    let lines = lines-more segments index segment (HaveLines-laid _ segments c.requires.laid) is in
    let own : (at : ℕ) → c.loop-segment.lines ≤ c.args.line → c.args.line ≤ c.loop-segment.lines + segment.lines → StandsAt (text_in segment) (c.args.line - c.loop-segment.lines) c.args.column at → ⊥ =
    elim c.if-lines-line.branch [
      | then-lines-line+then-line-lines+in_default w ↦ λ at low high stands.
          let same = w.as_str-text.ensures.value ∙ ap (λ (x : Content). string_bytes x.text) w.deref.ensures in
          w.offset_in.ensures.none w.in_default.is at (subst (λ (t : List ℕ). StandsAt t (c.args.line - c.loop-segment.lines) c.args.column at) (sym same) stands)
      | else-lines-line w ↦ λ at low high stands.
          elim w.else-lines-line.branch [
            | else-lines-line-via-then-lines-line+else-line-lines v ↦ omega (arith, v.if-line-lines.false, high)
            | else-lines-line-via-else-lines-line v ↦ omega (arith, v.if-lines-line.false, low)
          ]
    ] in
    record {
      begin = omega (arith, more, inv.begin);
      lines = omega (arith, lines, inv.lines);
      none = λ at positive reach stands. none_onward segments index c.loop-segment.begin c.loop-segment.lines c.args.line c.args.column segment c.requires.laid is inv.begin inv.lines inv.none own at reach stands;
    }
