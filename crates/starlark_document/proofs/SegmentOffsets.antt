-- Lists of segments: their texts, where segments begin, and their stored lengths.
use Rattle.std.proofs.Common.{◌≡◌, ℕ, ◌+◌, ◌-◌, ◌≤◌, suc, Bool, false, List, [], ◌∷◌, ◌++◌, length, take, drop, inl, inr, Some, refl, sym, subst, zero, ap, ◌∙◌, append_assoc, take-append-drop, length-append, arith}
use Rattle.std.specs.List.{AllByRecursion, slice_get}
use Rattle.std.proofs.lemmas.List.{append-nil, drop_all, drop_more, take_more}
use Rattle.std.proofs.lemmas.Str.{IsUtf8-append, IsUtf8-nil, IsUtf8-string_bytes}
use Rattle.std.proofs.Math.Seq.{take-add}
use Rattle.std.specs.Str.{IsUtf8}
use Rattle.std.proofs.lemmas.Option.{get_or_from_slice_get, same_Some, slice_get_cases, slice_get_within}
use Rattle.starlark_document.specs.Inner.Segments.{AreLaid, HaveLens, text_in, text_of}
use Rattle.starlark_document.specs.Inner.EditedParts.{IsPlaceIn}
use Rattle.starlark_document.specs.declared.segments.Segment.{Segment}
use Rattle.starlark_document.specs.declared.segments.SegmentPlace.{SegmentPlace}

-- what holds of all of a list holds of each of it
pub all_at : {X : Type 0} (P : X → Type 0) (xs : List X) (at : ℕ) (x : X) → AllByRecursion P xs → slice_get xs at ≡ Some x → P x
all_at P [] at x all is = absurd (cc)
all_at P (y ∷ ys) zero x all is = subst P (same_Some y x is) all.0
all_at P (y ∷ ys) (suc at) x all is = all_at P ys at x all.1 is

pub text_of-append : (before after : List Segment) → text_of (before ++ after) ≡ text_of before ++ text_of after
text_of-append [] after = refl
text_of-append (segment ∷ before) after = ap (λ (text : List ℕ). text_in segment ++ text) (text_of-append before after) ∙ sym (append_assoc (text_in segment) (text_of before) (text_of after))

-- the text of segments is that of the first ones, and that of the others
pub text_of-split : (segments : List Segment) (at : ℕ) → text_of segments ≡ text_of (take at segments) ++ text_of (drop at segments)
text_of-split segments at = ap text_of (sym (take-append-drop at segments)) ∙ text_of-append (take at segments) (drop at segments)

-- a list from one of its elements on
pub drop_at : {X : Type 0} (xs : List X) (at : ℕ) (x : X) → slice_get xs at ≡ Some x → drop at xs ≡ x ∷ drop (at + 1) xs
drop_at {X = X} xs at x is =
    drop_more xs at x (slice_get_within xs at x is) ∙ ap (λ (y : X). y ∷ drop (at + 1) xs) (get_or_from_slice_get xs at x x is)

-- the text of segments is what is before a segment, its text, and what is after it
pub text_of-at : (segments : List Segment) (at : ℕ) (segment : Segment) → slice_get segments at ≡ Some segment
    → text_of segments ≡ text_of (take at segments) ++ (text_in segment ++ text_of (drop (at + 1) segments))
text_of-at segments at segment is =
    text_of-split segments at ∙ ap (λ (later : List Segment). text_of (take at segments) ++ text_of later) (drop_at segments at segment is)

pub len_at : (segments : List Segment) (at : ℕ) (segment : Segment) → HaveLens segments → slice_get segments at ≡ Some segment → segment.len ≡ length (text_in segment)
len_at segments at segment lens is = all_at (λ (x : Segment). x.len ≡ length (text_in x)) segments at segment lens is

-- the text of segments up to one, and that one
pub text_of-more : (segments : List Segment) (at : ℕ) (segment : Segment) → slice_get segments at ≡ Some segment
    → text_of (take (at + 1) segments) ≡ text_of (take at segments) ++ text_in segment
text_of-more segments at segment is =
    ap text_of (take_more segments at segment (slice_get_within segments at segment is))
    ∙ ap (λ (x : Segment). text_of (take at segments ++ (x ∷ []))) (get_or_from_slice_get segments at segment segment is)
    ∙ text_of-append (take at segments) (segment ∷ [])
    ∙ ap (λ (text : List ℕ). text_of (take at segments) ++ text) (append-nil (text_in segment))

-- where the segment after one begins
pub begin_after : (segments : List Segment) (at : ℕ) (segment : Segment) → HaveLens segments → slice_get segments at ≡ Some segment
    → length (text_of (take (at + 1) segments)) ≡ length (text_of (take at segments)) + segment.len
begin_after segments at segment lens is =
    omega (arith, ap length (text_of-more segments at segment is), length-append (text_of (take at segments)) (text_in segment), len_at segments at segment lens is)

-- a segment ends in the text
pub end_within : (segments : List Segment) (at : ℕ) (segment : Segment) → HaveLens segments → slice_get segments at ≡ Some segment
    → length (text_of (take at segments)) + segment.len ≤ length (text_of segments)
end_within segments at segment lens is =
    omega (
      arith,
      ap length (text_of-at segments at segment is),
      length-append (text_of (take at segments)) (text_in segment ++ text_of (drop (at + 1) segments)),
      length-append (text_in segment) (text_of (drop (at + 1) segments)),
      len_at segments at segment lens is,
    )

-- the last segment ends at the end of the text
pub end_last : (segments : List Segment) (at : ℕ) (segment : Segment) → HaveLens segments → slice_get segments at ≡ Some segment → length segments ≤ at + 1
    → length (text_of segments) ≡ length (text_of (take at segments)) + segment.len
end_last segments at segment lens is last =
    let none : length (text_of (drop (at + 1) segments)) ≡ 0 = ap (λ (xs : List Segment). length (text_of xs)) (drop_all (at + 1) segments last) in
    omega (
      arith,
      none,
      ap length (text_of-at segments at segment is),
      length-append (text_of (take at segments)) (text_in segment ++ text_of (drop (at + 1) segments)),
      length-append (text_in segment) (text_of (drop (at + 1) segments)),
      len_at segments at segment lens is,
    )

pub HaveLens-laid : (is_first : Bool) (segments : List Segment) → AreLaid is_first segments → HaveLens segments
HaveLens-laid is_first [] laid = absurd laid
HaveLens-laid is_first (segment ∷ []) laid = (laid.1.len, tt)
HaveLens-laid is_first (segment ∷ (next ∷ more)) laid = (laid.1.lexed.len, HaveLens-laid false (next ∷ more) laid.2)

-- the text of segments up to one is that of segments up to an earlier one, and that of those between
pub text_of-between : (segments : List Segment) (from to : ℕ) → from ≤ to
    → text_of (take to segments) ≡ text_of (take from segments) ++ text_of (take (to - from) (drop from segments))
text_of-between segments from to order =
    let same : to ≡ from + (to - from) = omega arith in
    ap (λ (n : ℕ). text_of (take n segments)) same
    ∙ ap text_of (take-add from (to - from) segments)
    ∙ text_of-append (take from segments) (take (to - from) (drop from segments))

-- the text of segments is what is before some of them, their text, and what is after them
pub text_of-part : (segments : List Segment) (from count : ℕ)
    → text_of segments ≡ text_of (take from segments) ++ (text_of (take count (drop from segments)) ++ text_of (drop count (drop from segments)))
text_of-part segments from count =
    text_of-split segments from ∙ ap (λ (text : List ℕ). text_of (take from segments) ++ text) (text_of-split (drop from segments) count)

-- the text of some of the segments is no longer than that of all
pub part_within : (segments : List Segment) (from to : ℕ) → from ≤ to
    → length (text_of (take from segments)) + length (text_of (take (to - from) (drop from segments))) ≤ length (text_of segments)
part_within segments from to order =
    omega (
      arith,
      ap length (text_of-part segments from (to - from)),
      length-append (text_of (take from segments)) (text_of (take (to - from) (drop from segments)) ++ text_of (drop (to - from) (drop from segments))),
      length-append (text_of (take (to - from) (drop from segments))) (text_of (drop (to - from) (drop from segments))),
    )

-- where the segments up to an index end
pub part_end : (segments : List Segment) (from to : ℕ) → from ≤ to
    → length (text_of (take to segments)) ≡ length (text_of (take from segments)) + length (text_of (take (to - from) (drop from segments)))
part_end segments from to order =
    ap length (text_of-between segments from to order) ∙ length-append (text_of (take from segments)) (text_of (take (to - from) (drop from segments)))

-- texts of segments are UTF-8
pub IsUtf8-text_of : (segments : List Segment) → IsUtf8 (text_of segments)
IsUtf8-text_of [] = IsUtf8-nil
IsUtf8-text_of (segment ∷ more) = IsUtf8-append (text_in segment) (text_of more) (IsUtf8-string_bytes segment.content.value.text) (IsUtf8-text_of more)

-- Where a segment ends after an offset, so do the segments up to it from an earlier one on.
pub part_reaches : (segments : List Segment) (first last : SegmentPlace) (to : ℕ) → HaveLens segments → IsPlaceIn segments last → first.index ≤ last.index
    → ((segment : Segment) → slice_get segments last.index ≡ Some segment → to ≤ last.begin + segment.len)
    → to ≤ length (text_of (take first.index segments)) + length (text_of (take (last.index + 1 - first.index) (drop first.index segments)))
part_reaches segments first last to lens at order reach =
    elim ((slice_get_cases segments last.index).1) [
      | inl found ↦
          let end = begin_after segments last.index found.0 lens found.2 in
          let parts = ap length (text_of-between segments first.index (last.index + 1) (omega (arith, order))) in
          omega (arith, end, parts, at.begin, reach found.0 found.2, length-append (text_of (take first.index segments)) (text_of (take (last.index + 1 - first.index) (drop first.index segments))))
      | inr past ↦ absurd (omega (arith, past.0, at.inside))
    ]
