-- Lines and columns in segments: those of the earlier segments, and those in one.
use Rattle.std.proofs.Common.{◌≡◌, ◌<◌, ◌↔◌, take-add, length-take-le, length-drop, None, ℕ, ◌+◌, ◌-◌, ◌≤◌, suc, Bool, true, false, not, List, [], ◌∷◌, ◌++◌, length, take, drop, inl, inr, ◌⊎◌, Some, refl, sym, subst, zero, ap, ◌∙◌, append_assoc, append-nil, length-append, take-append-drop, reverse, count_by, arith}
use Rattle.std.specs.Str.{IsCharBoundary, IsUtf8, chars}
use Rattle.std.specs.List.{after_last, prefix_len, slice_get, suffix_len}
use Rattle.std.proofs.lemmas.List.{drop_at, drop-drop, reverse-append, take-append-le}
use Rattle.std.proofs.lemmas.List.Sums.{count_by-le-length, suffix_len-le-length}
use Rattle.std.proofs.lemmas.Bool.{and_from, cases_lt, eqb-true}
use Rattle.std.proofs.lemmas.Option.{same_Some, slice_get_within}
use Rattle.starlark_base.specs.Places.{is_lf, place_after, place_at}
use Rattle.starlark_base.specs.declared.codemap.resolved.ResolvedPos.{ResolvedPos}
use Rattle.starlark_document.specs.Inner.Segments.{AreLaid, AreOpen, HaveLines, text_in, text_of}
use Rattle.starlark_document.specs.Utf16Places.{StandsAt, place_of}
use Rattle.starlark_document.specs.declared.line_places.Place.{Place}
use Rattle.starlark_document.specs.declared.segments.Segment.{Segment}
use Rattle.std.proofs.lemmas.Str.{IsUtf8-between, IsUtf8-take, encodes-chars}
use Rattle.std.proofs.Math.Utf8.{encodes}
use Rattle.std.specs.Prelude.{IfSome, Option}
use Rattle.starlark_document.specs.Inner.EditedParts.{IsPlaceIn}
use Rattle.starlark_document.specs.declared.segments.SegmentPlace.{SegmentPlace}
use Rattle.starlark_document.proofs.SlicedTexts.{IsCharBoundary-in_own, IsCharBoundary-of_part}
use Rattle.starlark_document.proofs.LaidSegments.{laid_around}
use Rattle.starlark_document.proofs.SegmentOffsets.{HaveLens-laid, IsUtf8-text_of, all_at, len_at, text_of-at, text_of-more}
use Rattle.starlark_grammar.specs.Words.{Text}
use Rattle.starlark_grammar.proofs.Joining.Followed.{ends_line, ends_line_of}
use Rattle.starlark_grammar.specs.ClosedTexts.{IsClosed}
use Rattle.starlark_grammar.specs.Reading.{nothing}
use Rattle.starlark_grammar.proofs.Found.ClosedTexts.{closed_ends}
use Rattle.starlark_base.specs.Positions.{pairs_before, pairs_in_line, position_at}
use Rattle.starlark_base.specs.declared.position.Position.{Position}
use Rattle.starlark_base.proofs.NewlineCounts.{lines-append}
use Rattle.starlark_base.proofs.Pairs.{pairs_along, pairs_bound}
use Rattle.starlark_base.proofs.PlacesAlong.{column_bound, is_one_line, line_bound, place_along}

-- the stored numbers of lines are those of the texts
pub HaveLines-open : (is_first : Bool) (segments : List Segment) → AreOpen is_first segments → HaveLines segments
HaveLines-open is_first [] are_open = tt
HaveLines-open is_first (segment ∷ more) are_open = (are_open.1.lexed.lines, HaveLines-open false more are_open.2)

pub HaveLines-laid : (is_first : Bool) (segments : List Segment) → AreLaid is_first segments → HaveLines segments
HaveLines-laid is_first [] laid = absurd laid
HaveLines-laid is_first (segment ∷ []) laid = (laid.1.lines, tt)
HaveLines-laid is_first (segment ∷ (next ∷ more)) laid = (laid.1.lexed.lines, HaveLines-laid false (next ∷ more) laid.2)

-- the lines of segments up to one, and of that one
pub lines-more : (segments : List Segment) (at : ℕ) (segment : Segment) → HaveLines segments → slice_get segments at ≡ Some segment
    → count_by is_lf (text_of (take (at + 1) segments)) ≡ count_by is_lf (text_of (take at segments)) + segment.lines
lines-more segments at segment lines is =
    ap (count_by is_lf) (text_of-more segments at segment is)
    ∙ lines-append (text_of (take at segments)) (text_in segment)
    ∙ ap (λ (n : ℕ). count_by is_lf (text_of (take at segments)) + n) (sym (all_at (λ (x : Segment). x.lines ≡ count_by is_lf (text_in x)) segments at segment lines is))

-- they are no more than the bytes of the text
pub lines-within : (segments : List Segment) (at : ℕ) (segment : Segment) → HaveLines segments → slice_get segments at ≡ Some segment
    → count_by is_lf (text_of (take at segments)) + segment.lines ≤ length (text_of segments)
lines-within segments at segment lines is =
    let whole = ap (count_by is_lf) (text_of-at segments at segment is) in
    let own = all_at (λ (x : Segment). x.lines ≡ count_by is_lf (text_in x)) segments at segment lines is in
    omega (
      arith,
      whole,
      own,
      lines-append (text_of (take at segments)) (text_in segment ++ text_of (drop (at + 1) segments)),
      lines-append (text_in segment) (text_of (drop (at + 1) segments)),
      count_by-le-length is_lf (text_of segments),
    )

-- a text that is empty or ends with an LF
pub EndsLines : Text → Type 0
EndsLines text = (text ≡ []) ⊎ ((front : Text) × (text ≡ front ++ 10 ∷ []))

ends_line_front : (text : Text) → ends_line text ≡ true → (front : Text) × (text ≡ front ++ 10 ∷ [])
ends_line_front [] ends = cc
ends_line_front (b ∷ []) ends = ([], ap (λ (n : ℕ). n ∷ []) (eqb-true b 10 ends))
ends_line_front (b ∷ (c ∷ bs)) ends =
    let more = ends_line_front (c ∷ bs) ends in
    (b ∷ more.0, ap (λ (t : Text). b ∷ t) more.1)

-- a closed text does
pub closed_lines : (text : Text) → IsClosed text → EndsLines text
unfolding EndsLines
closed_lines [] closed = inl refl
closed_lines (b ∷ bs) closed = inr (ends_line_front (b ∷ bs) (ends_line_of (b ∷ bs) (closed_ends nothing (b ∷ bs) closed (omega arith))))

lines_append : (first second : Text) → EndsLines first → EndsLines second → EndsLines (first ++ second)
unfolding EndsLines
lines_append first second ends (inl none) = subst EndsLines (sym (append-nil first) ∙ ap (λ (t : Text). first ++ t) (sym none)) ends
lines_append first second ends (inr more) =
    inr (first ++ more.0, ap (λ (t : Text). first ++ t) more.1 ∙ sym (append_assoc first more.0 (10 ∷ [])))

-- segments that others follow end with a line
pub open_lines : (is_first : Bool) (segments : List Segment) → AreOpen is_first segments → EndsLines (text_of segments)
unfolding EndsLines
open_lines is_first [] are_open = inl refl
open_lines is_first (segment ∷ more) are_open =
    lines_append (text_in segment) (text_of more) (closed_lines (text_in segment) are_open.1.is_closed) (open_lines false more are_open.2)

-- what passes a test before an element that doesn't
prefix_stopped : (p : ℕ → Bool) (xs ys : Text) (y : ℕ) → p y ≡ false → prefix_len p (xs ++ y ∷ ys) ≡ prefix_len p xs
prefix_stopped p [] ys y stops = rw stops refl
prefix_stopped p (x ∷ xs) ys y stops = rw (prefix_stopped p xs ys y stops) refl

-- after an LF a new line begins
line_of_more : (front more : Text) → after_last is_lf ((front ++ 10 ∷ []) ++ more) ≡ after_last is_lf more
line_of_more front more =
    let feed = front ++ 10 ∷ [] in
    let s = suffix_len (λ x. not (is_lf x)) more in
    let within : s ≤ length more = suffix_len-le-length _ more in
    let turned : reverse (feed ++ more) ≡ reverse more ++ 10 ∷ reverse front =
    reverse-append feed more ∙ ap (λ (t : Text). reverse more ++ t) (reverse-append front (10 ∷ [])) in
    let same : suffix_len (λ x. not (is_lf x)) (feed ++ more) ≡ s =
    ap (prefix_len (λ x. not (is_lf x))) turned ∙ prefix_stopped (λ x. not (is_lf x)) (reverse more) (reverse front) 10 refl in
    let count : length (feed ++ more) - s ≡ length feed + (length more - s) = omega (arith, length-append feed more) in
    ap (λ (n : ℕ). drop (length (feed ++ more) - n) (feed ++ more)) same
    ∙ ap (λ (n : ℕ). drop n (feed ++ more)) count
    ∙ sym (drop-drop (length more - s) (length feed) (feed ++ more))
    ∙ ap (λ (t : Text). drop (length more - s) t) (drop_at feed more (length feed) refl)

pub line_after : (front more : Text) → EndsLines front → after_last is_lf (front ++ more) ≡ after_last is_lf more
unfolding EndsLines
line_after front more (inl none) = ap (λ (t : Text). after_last is_lf (t ++ more)) none
line_after front more (inr ends) = ap (λ (t : Text). after_last is_lf (t ++ more)) ends.1 ∙ line_of_more ends.0 more

-- a text up to an offset in a part of it
pub take_in_part : (before mid after : Text) (at : ℕ) → length before ≤ at → at ≤ length before + length mid
    → take at (before ++ (mid ++ after)) ≡ before ++ take (at - length before) mid
take_in_part [] mid after at from to =
    let same : at ≡ at - 0 = omega arith in
    take-append-le at mid after (omega (arith, to)) ∙ ap (λ (n : ℕ). take n mid) same
take_in_part (b ∷ bs) mid after zero from to = absurd (omega (arith, from))
take_in_part (b ∷ bs) mid after (suc n) from to =
    let same : n - length bs ≡ suc n - length (b ∷ bs) = omega arith in
    ap (λ (t : Text). b ∷ t) (take_in_part bs mid after n (omega (arith, from)) (omega (arith, to))) ∙ ap (λ (k : ℕ). (b ∷ bs) ++ take k mid) same

-- the place of an offset in a text, by a part that begins with a line
pub place_in_part : (before mid after : Text) (at : ℕ) → EndsLines before → length before ≤ at → at ≤ length before + length mid
    → place_of (before ++ (mid ++ after)) at
    ≡ record {
      line = count_by is_lf before + (place_at mid (at - length before)).line;
      column = (place_at mid (at - length before)).column;
      utf16_column = (place_at mid (at - length before)).column + pairs_before mid (at - length before);
    }
unfolding place_after
place_in_part before mid after at ends from to =
    let more = take (at - length before) mid in
    rw (take_in_part before mid after at from to, line_after before more ends, lines-append before more) refl

-- A segment holds an offset of the text: its text is known, and it begins before the offset.
pub record Holds (segments : List Segment) (place : SegmentPlace) (segment : Segment) (text : Text) (at : ℕ) : Type 0 where
  pub laid : AreLaid true segments
  pub is_place : IsPlaceIn segments place
  pub is : slice_get segments place.index ≡ Some segment
  pub same : text ≡ text_in segment
  pub before : place.begin ≤ at

-- the offset is a boundary of the text where it is one in the segment, …
pub boundary_out : (segments : List Segment) (place : SegmentPlace) (segment : Segment) (text : Text) (at : ℕ) → Holds segments place segment text at
    → IsCharBoundary text (at - place.begin) → IsCharBoundary (text_of segments) at
boundary_out segments place segment text at holds cut =
    let own = subst (λ (t : Text). IsCharBoundary t (at - place.begin)) holds.same cut in
    let inner = subst (λ (n : ℕ). IsCharBoundary (text_in segment) (at - n)) holds.is_place.begin own in
    subst (λ (t : Text). IsCharBoundary t at) (sym (text_of-at segments place.index segment holds.is))
    (IsCharBoundary-of_part (text_of (take place.index segments)) (text_in segment) (text_of (drop (place.index + 1) segments)) at
    (IsUtf8-text_of (drop (place.index + 1) segments)) (omega (arith, holds.is_place.begin, holds.before)) inner)

-- … and in the segment where it is one in the text
pub boundary_in : (segments : List Segment) (place : SegmentPlace) (segment : Segment) (text : Text) (at : ℕ) → Holds segments place segment text at
    → at ≤ place.begin + segment.len → IsCharBoundary (text_of segments) at → IsCharBoundary text (at - place.begin)
boundary_in segments place segment text at holds reach cut =
    IsCharBoundary-in_own (text_of segments) (text_of (take place.index segments)) (text_in segment) (text_of (drop (place.index + 1) segments)) text place.begin at
    (text_of-at segments place.index segment holds.is) holds.same holds.is_place.begin holds.before
    (omega (arith, holds.is_place.begin, reach, len_at segments place.index segment (HaveLens-laid true segments holds.laid) holds.is)) cut

-- the place of the offset, by its position in the segment
pub place_held : (segments : List Segment) (place : SegmentPlace) (segment : Segment) (text : Text) (at lines : ℕ) (position : Position)
    → Holds segments place segment text at → IsCharBoundary text (at - place.begin) → lines ≡ count_by is_lf (text_of (take place.index segments))
    → position ≡ position_at text (at - place.begin)
    → record { line = lines + position.place.line; column = position.place.column; utf16_column = position.place.column + position.pairs } ≡ place_of (text_of segments) at
place_held segments place segment text at lines position holds cut counted moved =
    let before = text_of (take place.index segments) in
    let after = text_of (drop (place.index + 1) segments) in
    let ends = open_lines true (take place.index segments) (laid_around segments place.index holds.laid holds.is_place.inside).0 in
    let within = cut.0 in
    let len = ap length holds.same in
    let in_part = place_in_part before (text_in segment) after at ends (omega (arith, holds.is_place.begin, holds.before)) (omega (arith, holds.is_place.begin, within, len)) in
    let begin = holds.is_place.begin in
    ap (λ (p : Position). shown lines p) moved
    ∙ ap (λ (n : ℕ). shown n (position_at text (at - place.begin))) counted
    ∙ ap (λ (t : Text). shown (count_by is_lf before) (position_at t (at - place.begin))) holds.same
    ∙ ap (λ (n : ℕ). shown (count_by is_lf before) (position_at (text_in segment) (at - n))) begin
    ∙ sym in_part
    ∙ ap (λ (t : Text). place_of t at) (sym (text_of-at segments place.index segment holds.is))
  where
    shown : ℕ → Position → Place
    shown n p = record { line = n + p.place.line; column = p.place.column; utf16_column = p.place.column + p.pairs }

-- a position counts no more than the bytes before it
pub position_bounds : (text : Text) (to : ℕ) (position : Position) → IsUtf8 text → IsCharBoundary text to → position ≡ position_at text to
    → (position.place.line ≤ length text) × (position.place.column ≤ length text) × (position.pairs ≤ length text)
position_bounds text to position utf8 cut is =
    let front = take to text in
    let within : length front ≤ length text = length-take-within text to in (
      omega (arith, within, ap (λ (p : Position). p.place.line) is, line_bound front),
      omega (arith, within, ap (λ (p : Position). p.place.column) is, column_bound front (IsUtf8-take text to utf8 cut)),
      omega (arith, within, ap (λ (p : Position). p.pairs) is, pairs_bound front),
    )
  where
    length-take-within : (xs : Text) (n : ℕ) → length (take n xs) ≤ length xs
    length-take-within xs n = omega (arith, length-append (take n xs) (drop n xs), ap length (take-append-drop n xs))

-- a position stands at no other line and column
pub stands_same : (text : Text) (position : Position) (on column at : ℕ) → position ≡ position_at text at → StandsAt text on column at
    → (position.place.line ≡ on) × (position.place.column + position.pairs ≡ column)
stands_same text position on column at is stands =
    (ap (λ (p : Position). p.place.line) is ∙ stands.line, ap (λ (p : Position). p.place.column + p.pairs) is ∙ stands.column)

-- an offset of a text is on one of its lines
line_within : (text : Text) (at : ℕ) → (place_at text at).line ≤ count_by is_lf text
unfolding place_after
line_within text at =
    omega (arith, lines-append (take at text) (drop at text), ap (count_by is_lf) (take-append-drop at text))

-- what stands in a segment stands in the text, …
pub stands_out : (segments : List Segment) (place : SegmentPlace) (segment : Segment) (text : Text) (at lines on column : ℕ)
    → Holds segments place segment text at → lines ≡ count_by is_lf (text_of (take place.index segments)) → lines ≤ on
    → StandsAt text (on - lines) column (at - place.begin) → StandsAt (text_of segments) on column at
stands_out segments place segment text at lines on column holds counted order stands =
    let held = place_held segments place segment text at lines (position_at text (at - place.begin)) holds stands.boundary counted refl in
    record {
      boundary = boundary_out segments place segment text at holds stands.boundary;
      line = omega (arith, ap (λ (p : Place). p.line) held, stands.line, order);
      column = omega (arith, ap (λ (p : Place). p.utf16_column) held, stands.column);
    }

-- … and the other way round
pub stands_in : (segments : List Segment) (place : SegmentPlace) (segment : Segment) (text : Text) (at lines on column : ℕ)
    → Holds segments place segment text at → lines ≡ count_by is_lf (text_of (take place.index segments)) → at ≤ place.begin + segment.len
    → StandsAt (text_of segments) on column at
    → StandsAt text (on - lines) column (at - place.begin) × (lines ≤ on) × (on ≤ lines + segment.lines)
stands_in segments place segment text at lines on column holds counted reach stands =
    let cut = boundary_in segments place segment text at holds reach stands.boundary in
    let held = place_held segments place segment text at lines (position_at text (at - place.begin)) holds cut counted refl in
    let line = ap (λ (p : Place). p.line) held in
    let own = all_at (λ (x : Segment). x.lines ≡ count_by is_lf (text_in x)) segments place.index segment (HaveLines-laid true segments holds.laid) holds.is in
    let within = line_within text (at - place.begin) in (
      record {
        boundary = cut;
        line = omega (arith, line, stands.line);
        column = omega (arith, ap (λ (p : Place). p.utf16_column) held, stands.column);
      },
      omega (arith, line, stands.line),
      omega (arith, line, stands.line, own, within, ap (count_by is_lf) holds.same),
    )

-- where a segment begins after some bytes, it isn't the first
begin_positive : (segments : List Segment) (index begin at : ℕ) → begin ≡ length (text_of (take index segments)) → at < begin → 0 < index
begin_positive segments zero begin at is less = absurd (omega (arith, is, less))
begin_positive segments (suc n) begin at is less = omega arith

-- where nothing stands in the segments up to one, and in that one, nothing stands up to its end
pub none_onward : (segments : List Segment) (index begin lines on column : ℕ) (segment : Segment) → AreLaid true segments → slice_get segments index ≡ Some segment
    → begin ≡ length (text_of (take index segments)) → lines ≡ count_by is_lf (text_of (take index segments))
    → ((at : ℕ) → 0 < index → at ≤ begin → StandsAt (text_of segments) on column at → ⊥)
    → ((at : ℕ) → lines ≤ on → on ≤ lines + segment.lines → StandsAt (text_in segment) (on - lines) column at → ⊥)
    → (at : ℕ) → at ≤ begin + segment.len → StandsAt (text_of segments) on column at → ⊥
none_onward segments index begin lines on column segment laid is start counted earlier own at reach stands =
    elim (cases_lt at begin) [
      | inl less ↦ earlier at (begin_positive segments index begin at start less) (omega (arith, less)) stands
      | inr from ↦
          let place : SegmentPlace = record { index = index; begin = begin } in
          let holds : Holds segments place segment (text_in segment) at = record {
            laid = laid;
            is_place = record { inside = slice_get_within segments index segment is; begin = start };
            is = is;
            same = refl;
            before = from;
          } in
          let found = stands_in segments place segment (text_in segment) at lines on column holds counted reach stands in
          own (at - begin) found.1 found.2 found.0
    ]

-- an offset that stands in a segment, from its start
pub stands_onward : (segments : List Segment) (index begin lines on column at : ℕ) (segment : Segment) (text : Text) → AreLaid true segments
    → slice_get segments index ≡ Some segment → begin ≡ length (text_of (take index segments)) → lines ≡ count_by is_lf (text_of (take index segments))
    → text ≡ text_in segment → lines ≤ on → StandsAt text (on - lines) column at → StandsAt (text_of segments) on column (begin + at)
stands_onward segments index begin lines on column at segment text laid is start counted same order stands =
    let place : SegmentPlace = record { index = index; begin = begin } in
    let holds : Holds segments place segment text (begin + at) = record {
      laid = laid;
      is_place = record { inside = slice_get_within segments index segment is; begin = start };
      is = is;
      same = same;
      before = omega arith;
    } in
    let back : at ≡ begin + at - begin = omega arith in
    stands_out segments place segment text (begin + at) lines on column holds counted order (subst (λ (n : ℕ). StandsAt text (on - lines) column n) back stands)

-- Offsets on a line

-- bytes without an LF are of one line
one_line_of_none : (text : Text) → count_by is_lf text ≡ 0 → is_one_line text ≡ true
one_line_of_none [] none = refl
one_line_of_none (b ∷ bs) none = go (is_lf b) refl (λ left. one_line_of_none bs left)
  where
    parts : count_by is_lf (b ∷ bs) ≡ count_by is_lf (b ∷ []) + count_by is_lf bs
    parts = lines-append (b ∷ []) bs

    go : (test : Bool) → is_lf b ≡ test → (count_by is_lf bs ≡ 0 → is_one_line bs ≡ true) → is_one_line (b ∷ bs) ≡ true
    go true feed rest = absurd (omega (arith, parts, none, ap (λ (n : ℕ). count_by is_lf (n ∷ [])) (eqb-true b 10 feed)))
    go false other rest = and_from (not (is_lf b)) (is_one_line bs) (ap not other) (rest (omega (arith, parts, none)))

-- a text of some bytes has a character
some_characters : (text : Text) → IsUtf8 text → 0 < length text → 0 < length (chars text)
some_characters text utf8 some = go (chars text) refl
  where
    go : (found : List ℕ) → chars text ≡ found → 0 < length (chars text)
    go [] none = absurd (omega (arith, some, ap length (sym (encodes-chars text utf8) ∙ ap encodes none)))
    go (c ∷ cs) is = omega (arith, ap length is)

-- of two offsets on a line the second has the larger column
stands_apart : (text : Text) (on column first second : ℕ) → IsUtf8 text → first < second → StandsAt text on column first → StandsAt text on column second → ⊥
unfolding place_after
stands_apart text on column first second utf8 less one two =
    let front = take first text in
    let mid = take (second - first) (drop first text) in
    let joined : take second text ≡ front ++ mid = ap (λ (n : ℕ). take n text) (omega arith) ∙ take-add first (second - first) text in
    let front_utf8 = IsUtf8-take text first utf8 one.boundary in
    let lines = ap (count_by is_lf) joined in
    let none : count_by is_lf mid ≡ 0 = omega (arith, lines, lines-append front mid, one.line, two.line) in
    let single = one_line_of_none mid none in
    let column_is = ap (λ (t : Text). (place_after t).column) joined ∙ ap (λ (p : ResolvedPos). p.column) (place_along front mid front_utf8 single) in
    let pairs = ap pairs_in_line joined ∙ pairs_along front mid single in
    let mid_utf8 : IsUtf8 mid = IsUtf8-between text first second utf8 (omega (arith, less)) one.boundary two.boundary in
    let len : length mid ≡ second - first = length-take-le (second - first) (drop first text) (omega (arith, length-drop first text, two.boundary.0)) in
    omega (arith, column_is, pairs, one.column, two.column, some_characters mid mid_utf8 (omega (arith, len, less)))

-- an offset stands on one line at one column
pub stands_once : (text : Text) (on column first second : ℕ) → IsUtf8 text → StandsAt text on column first → StandsAt text on column second → first ≡ second
stands_once text on column first second utf8 one two =
    elim (cases_lt first second) [
      | inl less ↦ absurd (stands_apart text on column first second utf8 less one two)
      | inr from ↦ elim (cases_lt second first) [
        | inl less ↦ absurd (stands_apart text on column second first utf8 less two one)
        | inr to ↦ omega (arith, from, to)
      ]
    ]

-- an answer that stands at a line and column, and is there wherever something stands, is the offset that does
pub stands_exactly : (text : Text) (on column at : ℕ) (answer : Option ℕ) → IsUtf8 text → IfSome answer (StandsAt text on column)
    → (answer ≡ None → (k : ℕ) → StandsAt text on column k → ⊥) → (answer ≡ Some at) ↔ StandsAt text on column at
stands_exactly text on column at None utf8 some none = (λ e. cc, λ stands. absurd (none refl at stands))
stands_exactly text on column at (Some found) utf8 some none =
    (λ e. subst (StandsAt text on column) (same_Some found at e) some, λ stands. ap Some (stands_once text on column found at utf8 some stands))
