use Rattle.std.proofs.Common.{◌∙◌, ap, arith, length, length-append, drop, refl, string_bytes, sym, ◌-◌, take, true, ◌+◌, ◌≤◌}
use Rattle.std.proofs.lemmas.List.Sums.{count_by-le-length}
use Rattle.std.proofs.lemmas.Option.{slice_get_read}
use Rattle.starlark_base.specs.Places.{is_lf}
use Rattle.starlark_document.proofs.LaidSegments.{laid_around}
use Rattle.starlark_document.proofs.LinePlaces.{HaveLines-open, Holds, boundary_in, boundary_out, place_held, position_bounds}
use Rattle.starlark_document.proofs.SegmentOffsets.{HaveLens-laid, end_within, len_at, text_of-split}
use Rattle.starlark_document.specs.Inner.Segments.{text_in, text_of}
use Rattle.starlark_document.specs.declared.segments.Content.{Content}
use Rattle.starlark_base.proofs.Pairs.{position_start}
use Rattle.starlark_document.proofs.line_places.place_in.Goals as goal
use Rattle.starlark_document.proofs.line_places.place_in.Goals.{After-as_str-text}

pub segment_at-first-requires-clause-lens : goal.segment_at-first-requires-clause-lens
segment_at-first-requires-clause-lens c = HaveLens-laid true c.args.segments.now c.requires.laid

-- the segment that the offset lies in, …
holds : (c : After-as_str-text) → Holds c.args.segments.now c.segment_at-first.result c.index-segments-first.result c.as_str-text.result.now c.args.at
holds c = record {
  laid = c.requires.laid;
  is_place = c.segment_at-first.ensures.place;
  is = slice_get_read c.args.segments.now _ c.segment_at-first.result.index c.index-segments-first.result refl c.segment_at-first.ensures.place.inside c.index-segments-first.is;
  same = c.as_str-text.ensures.value ∙ ap (λ (x : Content). string_bytes x.text) c.deref.ensures ∙ ap text_in (sym c.index-segments-first.is);
  before = c.segment_at-first.ensures.before;
}

-- … and the whole text, which is no shorter than what ends with it
fits : (c : After-as_str-text) → length (text_of (take c.segment_at-first.result.index c.args.segments.now)) + length c.as_str-text.result.now ≤ length (text_of c.args.segments.now)
fits c =
    let segments = c.args.segments.now in
    let lens = HaveLens-laid true segments c.requires.laid in
    let len = len_at segments c.segment_at-first.result.index c.index-segments-first.result lens (holds c).is in
    omega (arith, len, ap length (holds c).same, end_within segments c.segment_at-first.result.index c.index-segments-first.result lens (holds c).is)

pub returns-then-not-is_char_boundary-clause-none : goal.returns-then-not-is_char_boundary-clause-none
returns-then-not-is_char_boundary-clause-none c =
    let place = c.segment_at-first.result in
    let segment = c.index-segments-first.result in
    let held = holds (goal.at.returns-then-not-is_char_boundary-clause-none c).After-as_str-text in (
      λ e cut.
          let yes = c.is_char_boundary.ensures.test.1 (boundary_in c.args.segments.now place segment c.as_str-text.result.now c.args.at held (c.segment_at-first.ensures.reach cut.0 segment held.is) cut) in
          let no = c.if-not-is_char_boundary.true in
          cc,
      λ no. refl,
    )

pub moved-position-requires-clause-here : goal.moved-position-requires-clause-here
moved-position-requires-clause-here c = position_start c.as_str-text.result.now c.as_str-text.utf8

pub newlines_in-requires-clause-lines : goal.newlines_in-requires-clause-lines
newlines_in-requires-clause-lines c =
    let n = c.segment_at-first.result.index in
    HaveLines-open true (take n c.args.segments.now) (laid_around c.args.segments.now n c.requires.laid c.segment_at-first.ensures.place.inside).0

pub newlines_in-requires-clause-fits : goal.newlines_in-requires-clause-fits
newlines_in-requires-clause-fits c =
    let n = c.segment_at-first.result.index in
    let segments = c.args.segments.now in
    omega (arith, c.requires.fits, ap length (text_of-split segments n), length-append (text_of (take n segments)) (text_of (drop n segments)))

pub overflow_add-result : goal.overflow_add-result
overflow_add-result c =
    let within = fits (goal.at.overflow_add-result c).After-as_str-text in
    let cut = c.is_char_boundary.ensures.test.0 c.if-not-is_char_boundary.false in
    let bounds = position_bounds c.as_str-text.result.now (c.args.at - c.segment_at-first.result.begin) c.moved-position.result c.as_str-text.utf8 cut c.moved-position.ensures in
    let lines = count_by-le-length is_lf (text_of (take c.segment_at-first.result.index c.args.segments.now)) in
    omega (arith, c.newlines_in.ensures, lines, bounds.0, within, c.requires.fits)

pub overflow_add-result-2 : goal.overflow_add-result-2
overflow_add-result-2 c =
    let within = fits (goal.at.overflow_add-result-2 c).After-as_str-text in
    let cut = c.is_char_boundary.ensures.test.0 c.if-not-is_char_boundary.false in
    let bounds = position_bounds c.as_str-text.result.now (c.args.at - c.segment_at-first.result.begin) c.moved-position.result c.as_str-text.utf8 cut c.moved-position.ensures in
    omega (arith, bounds.1, bounds.2, within, c.requires.fits)

pub returns-clause-place : goal.returns-clause-place
returns-clause-place c =
    let cut = c.is_char_boundary.ensures.test.0 c.if-not-is_char_boundary.false in
    place_held c.args.segments.now c.segment_at-first.result c.index-segments-first.result c.as_str-text.result.now c.args.at c.newlines_in.result c.moved-position.result
    (holds (goal.at.returns-clause-place c).After-as_str-text) cut c.newlines_in.ensures c.moved-position.ensures

pub returns-clause-none : goal.returns-clause-none
returns-clause-none c =
    let held = holds (goal.at.returns-clause-none c).After-as_str-text in
    let cut = c.is_char_boundary.ensures.test.0 c.if-not-is_char_boundary.false in (
      λ e. absurd (cc),
      λ no. absurd (no (boundary_out c.args.segments.now c.segment_at-first.result c.index-segments-first.result c.as_str-text.result.now c.args.at held cut)),
    )
