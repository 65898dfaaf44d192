-- Parts of a text that are read from the segments that hold them.
use Rattle.std.proofs.Common.{◌≡◌, ℕ, ◌+◌, ◌-◌, ◌≤◌, List, [], ◌++◌, Some, ap, arith, drop, length, subst, sym, take, true, ◌∙◌}
use Rattle.std.specs.List.{slice_get}
use Rattle.std.specs.Str.{IsCharBoundary}
use Rattle.starlark_document.proofs.SlicedTexts.{IsCharBoundary-in_own, range_in_own}
use Rattle.starlark_document.proofs.SegmentOffsets.{HaveLens-laid, part_reaches, text_of-part}
use Rattle.starlark_document.specs.Documents.{IsRange}
use Rattle.starlark_document.specs.Inner.EditedParts.{IsPlaceIn, IsRangeIn}
use Rattle.starlark_document.specs.Inner.Segments.{AreLaid, HaveLens, text_of}
use Rattle.starlark_document.specs.declared.edited_parts.SegmentRange.{SegmentRange}
use Rattle.starlark_document.specs.declared.segments.Segment.{Segment}
use Rattle.starlark_document.specs.declared.segments.SegmentPlace.{SegmentPlace}
use Rattle.starlark_grammar.specs.Words.{Text}

-- A range of a text begins in one segment and ends in another, and a text is that of the segments from the first to the second.
pub record IsHeld (segments : List Segment) (first last : SegmentPlace) (whole text : Text) (from to : ℕ) : Type 0 where
  pub lens : HaveLens segments
  pub whole_is : text_of segments ≡ whole
  pub range : IsRange whole from to
  pub is_first : IsPlaceIn segments first
  pub is_last : IsPlaceIn segments last
  pub order : first.index ≤ last.index
  pub before : first.begin ≤ from
  pub reach : to ≤ length (text_of segments) → (segment : Segment) → slice_get segments last.index ≡ Some segment → to ≤ last.begin + segment.len
  pub text_is : text ≡ text_of (take (last.index + 1 - first.index) (drop first.index segments))

pub held_of : (segments found texts : List Segment) (range : SegmentRange) (whole text appended empty : Text) (from to : ℕ) → AreLaid true segments
    → text_of segments ≡ whole → found ≡ segments → IsRangeIn found from to range
    → texts ≡ segments → empty ≡ [] → appended ≡ empty ++ text_of (take (range.last.index + 1 - range.first.index) (drop range.first.index texts)) → text ≡ appended
    → IsHeld segments range.first range.last whole text from to
held_of segments found texts range whole text appended empty from to laid whole_is same_found is_found same_texts is_empty added text_is =
    let is : IsRangeIn segments from to range = subst (λ (xs : List Segment). IsRangeIn xs from to range) same_found is_found in
    record {
      lens = HaveLens-laid true segments laid;
      whole_is = whole_is;
      range = subst (λ (t : Text). IsRange t from to) whole_is is.is_range;
      is_first = is.first;
      is_last = is.last;
      order = is.order;
      before = is.after_first;
      reach = λ within. is.last_reach;
      text_is =
          text_is
          ∙ added
          ∙ ap (λ (xs : Text). xs ++ text_of (take (range.last.index + 1 - range.first.index) (drop range.first.index texts))) is_empty
          ∙ ap (λ (xs : List Segment). text_of (take (range.last.index + 1 - range.first.index) (drop range.first.index xs))) same_texts;
    }

held_end : (segments : List Segment) (first last : SegmentPlace) (whole text : Text) (from to : ℕ) → IsHeld segments first last whole text from to
    → to ≤ length (text_of (take first.index segments)) + length (text_of (take (last.index + 1 - first.index) (drop first.index segments)))
held_end segments first last whole text from to held =
    part_reaches segments first last to held.lens held.is_last held.order (held.reach (subst (λ (xs : List ℕ). to ≤ length xs) (sym held.whole_is) held.range.2.0))

-- the text may be cut where the range begins and ends
pub held_cut : (segments : List Segment) (first last : SegmentPlace) (whole text : Text) (from to at : ℕ) → IsHeld segments first last whole text from to
    → from ≤ at → at ≤ to → IsCharBoundary whole at → IsCharBoundary text (at - first.begin)
held_cut segments first last whole text from to at held later earlier cut =
    let count = last.index + 1 - first.index in
    IsCharBoundary-in_own whole (text_of (take first.index segments)) (text_of (take count (drop first.index segments))) (text_of (drop count (drop first.index segments)))
    text first.begin at (sym held.whole_is ∙ text_of-part segments first.index count) held.text_is held.is_first.begin
    (omega (arith, held.before, later)) (omega (arith, earlier, held_end segments first last whole text from to held)) cut

-- the range of the text is the range of the whole
pub held_range : (segments : List Segment) (first last : SegmentPlace) (whole text : Text) (from to : ℕ) → IsHeld segments first last whole text from to
    → take (to - first.begin - (from - first.begin)) (drop (from - first.begin) text) ≡ take (to - from) (drop from whole)
held_range segments first last whole text from to held =
    let count = last.index + 1 - first.index in
    range_in_own whole (text_of (take first.index segments)) (text_of (take count (drop first.index segments))) (text_of (drop count (drop first.index segments)))
    text first.begin from to (sym held.whole_is ∙ text_of-part segments first.index count) held.text_is held.is_first.begin
    held.before held.range.0 (held_end segments first last whole text from to held)
