-- Parts of a document that an edit changes.
use Rattle.std.specs.Prelude.{◌≡◌, ◌≤◌, ◌<◌, ◌+◌, ◌*◌, ◌==◌, ℕ, true, false, List, Some, ◌++◌, length, take, drop, string_bytes, ◌⊎◌}
use Rattle.std.specs.List.{AllByRecursion, slice_get, slice_range}
use Rattle.starlark_document.specs.Documents.{EndsWithLine, IsRange, IsUncut}
use Rattle.starlark_document.specs.Inner.Costs.{IsPartCost}
use Rattle.starlark_document.specs.Inner.Segments.{AreLaid, AreOpen, text_in, text_of}
use Rattle.starlark_document.specs.declared.edited_parts.LexedPart.{LexedPart}
use Rattle.starlark_document.specs.declared.edited_parts.EditedPart.{EditedPart}
use Rattle.starlark_document.specs.declared.edited_parts.SegmentRange.{SegmentRange}
use Rattle.starlark_document.specs.declared.segments.Segment.{Segment}
use Rattle.starlark_document.specs.declared.segments.SegmentPlace.{SegmentPlace}
use Rattle.starlark_grammar.specs.Words.{Text}
use Rattle.starlark_grammar.specs.Joining.{begins_plainly}

-- a segment by its index, and where it begins
pub record IsPlaceIn (segments : List Segment) (place : SegmentPlace) : Type 0 where
  pub inside : place.index < length segments
  pub begin : place.begin ≡ length (text_of (take place.index segments))

-- a range of the text of segments, and those that hold its ends
pub record IsRangeIn (segments : List Segment) (from to : ℕ) (range : SegmentRange) : Type 0 where
  pub is_range : IsRange (text_of segments) from to
  pub first : IsPlaceIn segments range.first
  pub last : IsPlaceIn segments range.last
  pub order : range.first.index ≤ range.last.index
  pub after_first : range.first.begin ≤ from
  pub after_last : range.last.begin ≤ to
  pub first_reach : (segment : Segment) → slice_get segments range.first.index ≡ Some segment → from ≤ range.first.begin + segment.len
  pub last_reach : (segment : Segment) → slice_get segments range.last.index ≡ Some segment → to ≤ range.last.begin + segment.len
  pub first_inner : range.first.index + 1 < length segments → (segment : Segment) → slice_get segments range.first.index ≡ Some segment → from < range.first.begin + segment.len
  pub last_near : range.first.index < range.last.index → range.last.begin < to

-- Segments are replaced: what is before them, the new text, and what is after them are a text.
pub record IsReplaced (segments : List Segment) (whole : Text) (part : EditedPart) : Type 0 where
  pub order : part.first.index ≤ part.end
  pub within : part.end ≤ length segments
  pub begin : part.first.begin ≡ length (text_of (take part.first.index segments))
  pub same : whole ≡ text_of (take part.first.index segments) ++ (string_bytes part.text ++ text_of (drop part.end segments))

-- Segments are replaced, and the new text begins plainly, unless it is the first.
pub record IsEditedPart (segments : List Segment) (whole : Text) (part : EditedPart) : Type 0 where
  pub replaced : IsReplaced segments whole part
  pub plain : (part.first.index ≡ 0) ⊎ (begins_plainly (string_bytes part.text) ≡ true)

-- A part has the segments of a range, and the one before them only where their new text doesn't begin plainly.
pub record IsTouched (segments : List Segment) (whole : Text) (range : SegmentRange) (part : EditedPart) : Type 0 where
  pub start : (part.first.index ≡ range.first.index)
      ⊎ ((part.first.index + 1 ≡ range.first.index) × ((own : Text) × (whole ≡ text_of (take range.first.index segments) ++ (own ++ text_of (drop (range.last.index + 1) segments))) × (begins_plainly own ≡ false)))
  pub end : part.end ≡ range.last.index + 1

-- Segments after a part are taken in up to an index: while its text doesn't end with a `Newline` of some bytes, at most
-- twice as many as with which it doesn't, and one.
abbrev pub AreTakenIn : List Segment → EditedPart → (end : ℕ) → Type 0
AreTakenIn segments part end =
    (end ≡ part.end)
    ⊎ ((more : ℕ) × (part.end + more < end) × (end ≤ part.end + (2 * more + 1)) × (EndsWithLine (string_bytes part.text ++ text_of (slice_range segments part.end (part.end + more))) → ⊥))

-- segments have the least length, unless there is only one, and can't be cut
pub record AreSized (least_len : ℕ) (segments : List Segment) : Type 0 where
  pub long : (length segments ≤ 1) ⊎ AllByRecursion (λ (segment : Segment). least_len ≤ length (text_in segment)) segments
  pub uncut : AllByRecursion (λ (segment : Segment). IsUncut least_len (text_in segment)) segments

-- The segments of a part that was lexed anew, with those that are left after it.
pub record IsLexedPart (segments : List Segment) (part : EditedPart) (lexed : LexedPart) : Type 0 where
  pub order : part.end ≤ lexed.end
  pub within : lexed.end ≤ length segments
  pub taken_in : AreTakenIn segments part lexed.end
  pub len : lexed.len ≡ length (text_of lexed.segments.items)
  pub text : string_bytes part.text ++ text_of (drop part.end segments) ≡ text_of lexed.segments.items ++ text_of (drop lexed.end segments)
  pub inner : lexed.end < length segments → AreOpen (part.first.index == 0) lexed.segments.items
  pub last : lexed.end ≡ length segments → AreLaid (part.first.index == 0) lexed.segments.items
  pub least : lexed.len ≤ lexed.cost.lexed
  pub cost : IsPartCost lexed.len lexed.cost
