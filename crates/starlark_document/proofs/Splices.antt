-- Parts of a document that are lexed anew, and put in their place.
use Rattle.starlark_document.proofs.FoundInSegments.{plain_append}
use Rattle.std.proofs.Common.{◌≡◌, ◌≤◌, ◌<◌, ◌+◌, ◌-◌, ℕ, zero, suc, Option, Some, None, inl, inr, Bool, true, false, List, [], ◌∷◌, ◌++◌, ◌∙◌, sym, ap, refl, subst, arith, length, take, drop, get_or, append_assoc, append-nil, take-append-drop, length-append, length-take, length-drop}
use Rattle.std.specs.Prelude.{◌⊎◌, IsSome, nat_eq, string_bytes}
use Rattle.std.specs.Str.{IsCharBoundary, IsUtf8}
use Rattle.std.proofs.lemmas.Str.{IsCharBoundary-from_take, IsUtf8-append, IsUtf8-had, IsUtf8-nil}
use Rattle.std.proofs.lemmas.List.{drop-append-le, drop-drop, drop_all, get_or-append_right, get_or_append_left, set_split, take-append-le}
use Rattle.std.proofs.lemmas.Option.{slice_get_read}
use Rattle.std.proofs.lemmas.Bool.{eqb-true, false_from_ne_true}
use Rattle.std.proofs.lemmas.Iterator.{items_from_drains}
use Rattle.std.proofs.lemmas.Iterator.Adapters.{YieldsList-from_vec}
use Rattle.std.proofs.lemmas.List.{map-id}
use Rattle.std.specs.Iterator.{Drains}
use Rattle.std.specs.declared.vec.IntoIter.{IntoIter}
use Rattle.std.specs.Vec.Iter.{into_iter_items, into_iter_len, into_iter_steps}
use Rattle.std.specs.List.{slice_get, slice_range, slice_set, splice}
use Rattle.std.proofs.Math.Seq.{drop-append-add, drop-append_seam, take-append-add, take-append_seam}
use Rattle.starlark_document.proofs.LaidSegments.{first_taken, follows_first, is_first_after, laid_append, laid_around, laid_at, laid_first, laid_head, len_at, open_append, take_one, text_append, text_at, text_split}
use Rattle.starlark_document.proofs.Outside.{faults_outside, lexemes_outside}
use Rattle.starlark_document.specs.Documents.{IsChange, IsRange, SameOutside, edited, faults_of, lexemes_of}
use Rattle.starlark_document.specs.declared.document.Change.{Change}
use Rattle.starlark_grammar.specs.Tokens as grammar
use Rattle.starlark_document.specs.Inner.LexedFronts.{IsFirstSegment}
use Rattle.starlark_document.specs.Inner.Costs.{IsPartCost}
use Rattle.starlark_document.specs.Inner.EditedParts.{AreTakenIn, IsLexedPart, IsEditedPart, IsPlaceIn, IsReplaced}
use Rattle.starlark_document.specs.Inner.Segments.{AreLaid, AreOpen, Follows, text_in, text_of}
use Rattle.starlark_document.specs.declared.edited_parts.LexedPart.{LexedPart}
use Rattle.starlark_document.specs.declared.edited_parts.EditedPart.{EditedPart}
use Rattle.starlark_document.specs.declared.segments.Segment.{Segment}
use Rattle.starlark_document.specs.declared.segments.SegmentPlace.{SegmentPlace}
use Rattle.starlark_grammar.specs.Words.{Text}
use Rattle.starlark_grammar.specs.Joining.{begins_plainly}

pub utf8_texts : (xs : List Segment) → IsUtf8 (text_of xs)
utf8_texts [] = IsUtf8-nil
utf8_texts (x ∷ xs) = IsUtf8-append (text_in x) (text_of xs) (IsUtf8-had (text_in x) x.content.value.text.ok) (utf8_texts xs)

pub taken : (segments : List Segment) (from to : ℕ) → from ≤ to → text_of (drop from segments) ≡ text_of (slice_range segments from to) ++ text_of (drop to segments)
taken segments from to order =
    let e : from + (to - from) ≡ to = omega arith in
    text_split (to - from) (drop from segments) ∙ ap (λ (xs : List Segment). text_of (slice_range segments from to) ++ text_of xs) (drop-drop (to - from) from segments ∙ ap (λ (n : ℕ). drop n segments) e)

-- The part with the segment before it

module _ (segments : List Segment) (part : EditedPart) (x : Segment) (laid : AreLaid true segments) (some : 0 < part.first.index) (is : x ≡ get_or segments (part.first.index - 1) x) where
  earlier_text : part.first.index ≤ length segments → text_of (take part.first.index segments) ≡ text_of (take (part.first.index - 1) segments) ++ text_in x
  earlier_text within =
      let e : part.first.index - 1 + 1 ≡ part.first.index = omega arith in
      let one = take_one segments (part.first.index - 1) x (omega arith) is in
      ap (λ (n : ℕ). text_of (take n segments)) (sym e) ∙ ap text_of one ∙ text_append (take (part.first.index - 1) segments) (x ∷ []) ∙ ap (λ (t : Text). text_of (take (part.first.index - 1) segments) ++ t) (append-nil (text_in x))

  earlier_begin : (whole : Text) → IsReplaced segments whole part → part.first.begin ≡ length (text_of (take (part.first.index - 1) segments)) + length (text_in x)
  earlier_begin whole replaced =
      replaced.begin ∙ ap length (earlier_text (omega (arith, replaced.order, replaced.within))) ∙ length-append (text_of (take (part.first.index - 1) segments)) (text_in x)

  pub earlier_len : (whole : Text) → IsReplaced segments whole part → x.len ≡ length (text_in x)
  earlier_len whole replaced = len_at segments (part.first.index - 1) x laid (omega (arith, replaced.order, replaced.within)) is

  pub earlier_fits : (whole : Text) → IsReplaced segments whole part → x.len ≤ part.first.begin
  earlier_fits whole replaced = omega (arith, earlier_len whole replaced, earlier_begin whole replaced)

  earlier_plain : (whole : Text) → IsReplaced segments whole part → (part.first.index - 1 ≡ 0) ⊎ (begins_plainly (text_in x) ≡ true)
  earlier_plain whole replaced = go (part.first.index - 1) (omega (arith, replaced.order, replaced.within)) is
    where
      by : (n : ℕ) (front : List Segment) → length front ≡ n → Follows (is_first_after true front) x → (n ≡ 0) ⊎ (begins_plainly (text_in x) ≡ true)
      by n [] e follows = inl (sym e)
      by n (y ∷ front) e follows = inr follows

      go : (n : ℕ) → n < length segments → x ≡ get_or segments n x → (n ≡ 0) ⊎ (begins_plainly (text_in x) ≡ true)
      go n less at = by n (take n segments) (length-take n segments ∙ omega arith) (laid_head (is_first_after true (take n segments)) x (drop (n + 1) segments) (laid_at segments n x laid less at).1).0

  pub earlier : (whole : Text) (more : EditedPart) → IsReplaced segments whole part → more.first.index ≡ part.first.index - 1 → more.first.begin ≡ part.first.begin - x.len → more.end ≡ part.end
      → string_bytes more.text ≡ text_in x ++ string_bytes part.text → IsEditedPart segments whole more
  earlier whole more replaced index at end is_text = record {
    replaced = record {
      order = omega (arith, index, end, replaced.order);
      within = omega (arith, end, replaced.within);
      begin = omega (arith, at, earlier_len whole replaced, earlier_begin whole replaced, ap (λ (n : ℕ). length (text_of (take n segments))) index);
      same = replaced.same
          ∙ ap (λ (t : Text). t ++ (string_bytes part.text ++ text_of (drop part.end segments))) (earlier_text (omega (arith, replaced.order, replaced.within)))
          ∙ append_assoc (text_of (take (part.first.index - 1) segments)) (text_in x) (string_bytes part.text ++ text_of (drop part.end segments))
          ∙ ap (λ (t : Text). text_of (take (part.first.index - 1) segments) ++ t) (sym (append_assoc (text_in x) (string_bytes part.text) (text_of (drop part.end segments))) ∙ ap (λ (t : Text). t ++ text_of (drop part.end segments)) (sym is_text))
          ∙ ap (λ (n : ℕ). text_of (take n segments) ++ (string_bytes more.text ++ text_of (drop part.end segments))) (sym index)
          ∙ ap (λ (n : ℕ). text_of (take more.first.index segments) ++ (string_bytes more.text ++ text_of (drop n segments))) (sym end);
    };
    plain = plain_of (earlier_plain whole replaced);
  }
    where
      plain_of : (part.first.index - 1 ≡ 0) ⊎ (begins_plainly (text_in x) ≡ true) → (more.first.index ≡ 0) ⊎ (begins_plainly (string_bytes more.text) ≡ true)
      plain_of (inl e) = inl (index ∙ e)
      plain_of (inr e) = inr (ap begins_plainly is_text ∙ plain_append (text_in x) (string_bytes part.text) e)

-- The part that an edit touches

pub front_range : (text : Text) (n : ℕ) → slice_range text 0 n ≡ take n text
front_range text n =
    let e : n - 0 ≡ n = omega arith in
    ap (λ (k : ℕ). take k text) e

-- a place in a part of a text is a character boundary of the part where it is one of the text
pub boundary_in : (front mid rest : Text) (at : ℕ) → IsCharBoundary (front ++ (mid ++ rest)) at → length front ≤ at → at ≤ length front + length mid → IsCharBoundary mid (at - length front)
boundary_in front mid rest at is after before = (omega arith, λ less high. lead less high)
  where
    byte_at : at - length front < length mid → get_or (front ++ (mid ++ rest)) at 0 ≡ get_or mid (at - length front) 0
    byte_at less =
        get_or-append_right front (mid ++ rest) (length front) at 0 refl after ∙ get_or_append_left mid rest 0 (at - length front) less

    lead : at - length front < length mid → 128 ≤ get_or mid (at - length front) 0 → 192 ≤ get_or mid (at - length front) 0
    lead less high =
        let e = byte_at less in
        let inside : at < length (front ++ (mid ++ rest)) = omega (arith, length-append front (mid ++ rest), length-append mid rest) in
        let big : 128 ≤ get_or (front ++ (mid ++ rest)) at 0 = omega arith in
        let found = is.1 inside big in
        omega arith

pub front_of : (front mid rest : Text) (at : ℕ) → length front ≤ at → at ≤ length front + length mid → take at (front ++ (mid ++ rest)) ≡ front ++ take (at - length front) mid
front_of front mid rest at after before =
    let e : at ≡ length front + (at - length front) = omega arith in
    ap (λ (n : ℕ). take n (front ++ (mid ++ rest))) e ∙ take-append-add front (mid ++ rest) (at - length front)
    ∙ ap (λ (t : Text). front ++ t) (take-append-le (at - length front) mid rest (omega arith))

pub back_of : (front mid rest : Text) (at : ℕ) → length front ≤ at → at ≤ length front + length mid → drop at (front ++ (mid ++ rest)) ≡ drop (at - length front) mid ++ rest
back_of front mid rest at after before =
    let e : at ≡ length front + (at - length front) = omega arith in
    ap (λ (n : ℕ). drop n (front ++ (mid ++ rest))) e ∙ drop-append-add front (mid ++ rest) (at - length front)
    ∙ drop-append-le (at - length front) mid rest (omega arith)

-- a place in the text, in the segment of an index
pub record IsIn (segments : List Segment) (place : SegmentPlace) (x : Segment) (at : ℕ) : Type 0 where
  pub found : IsPlaceIn segments place
  pub is : x ≡ get_or segments place.index x
  pub after : place.begin ≤ at
  pub before : at ≤ place.begin + length (text_in x)

pub is_in : (segments : List Segment) (place : SegmentPlace) (x : Segment) (at : ℕ) → AreLaid true segments → IsPlaceIn segments place → x ≡ get_or segments place.index x → place.begin ≤ at
    → ((segment : Segment) → slice_get segments place.index ≡ Some segment → at ≤ place.begin + segment.len) → IsIn segments place x at
is_in segments place x at laid found is after reach =
    let less = found.inside in
    let within = reach x (slice_get_read segments (length segments) place.index x refl less is) in
    record { found = found; is = is; after = after; before = omega (arith, within, len_at segments place.index x laid less is) }

module _ (segments : List Segment) (place : SegmentPlace) (x : Segment) (at : ℕ) (here : IsIn segments place x at) where
  text_here : text_of segments ≡ text_of (take place.index segments) ++ (text_in x ++ text_of (drop (place.index + 1) segments))
  text_here = text_at segments place.index x here.found.inside here.is

  pub boundary_here : IsCharBoundary (text_of segments) at → IsCharBoundary (text_in x) (at - place.begin)
  boundary_here is =
      subst (λ (n : ℕ). IsCharBoundary (text_in x) (at - n)) (sym here.found.begin)
      (boundary_in (text_of (take place.index segments)) (text_in x) (text_of (drop (place.index + 1) segments)) at (subst (λ (t : Text). IsCharBoundary t at) text_here is) (omega (arith, here.after, here.found.begin)) (omega (arith, here.before, here.found.begin)))

  front_here : take at (text_of segments) ≡ text_of (take place.index segments) ++ take (at - place.begin) (text_in x)
  front_here =
      ap (λ (t : Text). take at t) text_here ∙ front_of (text_of (take place.index segments)) (text_in x) (text_of (drop (place.index + 1) segments)) at (omega (arith, here.after, here.found.begin)) (omega (arith, here.before, here.found.begin))
      ∙ ap (λ (n : ℕ). text_of (take place.index segments) ++ take (at - n) (text_in x)) (sym here.found.begin)

  back_here : drop at (text_of segments) ≡ drop (at - place.begin) (text_in x) ++ text_of (drop (place.index + 1) segments)
  back_here =
      ap (λ (t : Text). drop at t) text_here ∙ back_of (text_of (take place.index segments)) (text_in x) (text_of (drop (place.index + 1) segments)) at (omega (arith, here.after, here.found.begin)) (omega (arith, here.before, here.found.begin))
      ∙ ap (λ (n : ℕ). drop (at - n) (text_in x) ++ text_of (drop (place.index + 1) segments)) (sym here.found.begin)

pub touched : (segments : List Segment) (from to : ℕ) (inserted : Text) (first last : SegmentPlace) (x y : Segment) (part : EditedPart)
    → IsIn segments first x from → IsIn segments last y to → first.index ≤ last.index → part.first ≡ first → part.end ≡ last.index + 1
    → string_bytes part.text ≡ (take (from - first.begin) (text_in x) ++ inserted) ++ drop (to - last.begin) (text_in y)
    → IsReplaced segments (edited from to inserted (text_of segments)) part
touched segments from to inserted first last x y part from_here to_here order at end text = record {
  order = omega (arith, order, end, index);
  within = omega (arith, to_here.found.inside, end);
  begin = ap (λ (place : SegmentPlace). place.begin) at ∙ from_here.found.begin ∙ ap (λ (n : ℕ). length (text_of (take n segments))) (sym index);
  same = same ∙ ap (λ (n : ℕ). text_of (take n segments) ++ (string_bytes part.text ++ text_of (drop (last.index + 1) segments))) (sym index)
      ∙ ap (λ (n : ℕ). text_of (take part.first.index segments) ++ (string_bytes part.text ++ text_of (drop n segments))) (sym end);
}
  where
    index : part.first.index ≡ first.index
    index = ap (λ (place : SegmentPlace). place.index) at

    regroup : (a b c d e : Text) → (a ++ b) ++ (c ++ (d ++ e)) ≡ a ++ (((b ++ c) ++ d) ++ e)
    regroup a b c d e = simp append_assoc

    same : edited from to inserted (text_of segments) ≡ text_of (take first.index segments) ++ (string_bytes part.text ++ text_of (drop (last.index + 1) segments))
    same =
        ap (λ (t : Text). t ++ (inserted ++ drop to (text_of segments))) (front_here segments first x from from_here)
        ∙ ap (λ (t : Text). (text_of (take first.index segments) ++ take (from - first.begin) (text_in x)) ++ (inserted ++ t)) (back_here segments last y to to_here)
        ∙ regroup (text_of (take first.index segments)) (take (from - first.begin) (text_in x)) inserted (drop (to - last.begin) (text_in y)) (text_of (drop (last.index + 1) segments))
        ∙ ap (λ (t : Text). text_of (take first.index segments) ++ (t ++ text_of (drop (last.index + 1) segments))) (sym text)

-- One segment in the place of another

only_one : (xs : List Segment) (x : Segment) → length xs ≡ 1 → x ≡ get_or xs 0 x → xs ≡ x ∷ []
only_one [] x one is = absurd (omega (arith, one))
only_one (y ∷ []) x one is = ap (λ (z : Segment). z ∷ []) (sym is)
only_one (y ∷ (z ∷ more)) x one is = absurd (omega (arith, one))

pub spliced_one : (segments news : List Segment) (from to : ℕ) (x : Segment) → to - from ≡ 1 → from ≤ to → to ≤ length segments → length news ≡ 1 → x ≡ get_or news 0 x
    → slice_set segments from x ≡ splice segments from to news
spliced_one segments news from to x next order within one is =
    let after : suc from ≡ to = omega (arith, next, order) in
    set_split segments from x (omega (arith, next, order, within))
    ∙ ap (λ (n : ℕ). take from segments ++ (x ∷ drop n segments)) after
    ∙ ap (λ (xs : List Segment). take from segments ++ (xs ++ drop to segments)) (sym (only_one news x one is))

-- What is lexed of a part

-- Segments are cut off the front of a text, to which the segments up to an index were taken in; the rest of it begins
-- plainly, unless it is the first of the document.
pub record IsLexing (segments : List Segment) (part : EditedPart) (text : Text) (end len read : ℕ) (done : List Segment) : Type 0 where
  pub order : part.end ≤ end
  pub within : end ≤ length segments
  pub same : text ++ text_of (drop end segments) ≡ string_bytes part.text ++ text_of (drop part.end segments)
  pub rest : Text
  pub is_rest : text ≡ text_of done ++ rest
  pub lens : len ≡ length (text_of done)
  pub opened : AreOpen (nat_eq part.first.index 0) done
  pub plain : ((done ≡ []) × (part.first.index ≡ 0)) ⊎ (begins_plainly rest ≡ true)
  pub least : len ≤ read

module _ (segments : List Segment) (part : EditedPart) (text : Text) (end len read : ℕ) (done : List Segment) (is : IsLexing segments part text end len read done) where
  pub lexing_within : len ≤ length text
  lexing_within = omega (arith, is.lens, ap length is.is_rest, length-append (text_of done) is.rest)

  pub lexing_rest : drop len text ≡ is.rest
  lexing_rest = ap (λ (n : ℕ). drop n text) is.lens ∙ ap (λ (t : Text). drop (length (text_of done)) t) is.is_rest ∙ drop-append_seam (text_of done) is.rest

  pub lexing_taken : take len text ≡ text_of done
  lexing_taken = ap (λ (n : ℕ). take n text) is.lens ∙ ap (λ (t : Text). take (length (text_of done)) t) is.is_rest ∙ take-append_seam (text_of done) is.rest

  pub lexing_fits : (whole : Text) → IsEditedPart segments whole part → length text ≤ length whole
  lexing_fits whole parts =
      let all = length-append (text_of (take part.first.index segments)) (string_bytes part.text ++ text_of (drop part.end segments)) in
      omega (arith, ap length parts.replaced.same, all, ap length is.same, length-append text (text_of (drop end segments)))

  pub lexing_boundary : IsUtf8 text → IsCharBoundary text len
  lexing_boundary utf8 = IsCharBoundary-from_take text len utf8 lexing_within (subst IsUtf8 (sym lexing_taken) (utf8_texts done))

-- the front of a text that begins plainly does so, too
plain_front : (text : Text) (n : ℕ) → 0 < n → begins_plainly text ≡ true → begins_plainly (take n text) ≡ true
unfolding begins_plainly
plain_front text zero some plain = absurd (omega arith)
plain_front [] (suc n) some plain = cc
plain_front (b ∷ bs) (suc n) some plain = plain

pub some_plain : (text : Text) → begins_plainly text ≡ true → 0 < length text
unfolding begins_plainly
some_plain [] plain = absurd (the_false plain)
  where
    the_false : false ≡ true → ⊥
    the_false e = cc
some_plain (b ∷ bs) plain = omega arith

module _ (segments : List Segment) (part : EditedPart) (text : Text) (end len read : ℕ) (done : List Segment) (is : IsLexing segments part text end len read done)
    (is_last : Bool) (x : Segment) (cut : IsFirstSegment (drop len text) is_last x) where
  rest_len : length text ≡ len + length is.rest
  rest_len = ap length is.is_rest ∙ length-append (text_of done) is.rest ∙ omega (arith, is.lens)

  is_cut : IsFirstSegment is.rest is_last x
  is_cut = subst (λ (t : Text). IsFirstSegment t is_last x) (lexing_rest segments part text end len read done is) cut

  pub next_within : len + x.len ≤ length text
  next_within = omega (arith, rest_len, is_cut.within)

  follows : Follows (is_first_after (nat_eq part.first.index 0) done) x
  follows = by is.plain
    where
      by : ((done ≡ []) × (part.first.index ≡ 0)) ⊎ (begins_plainly is.rest ≡ true) → Follows (is_first_after (nat_eq part.first.index 0) done) x
      by (inl e) = subst (λ (b : Bool). Follows b x) (sym (ap (is_first_after (nat_eq part.first.index 0)) e.0 ∙ ap (λ (n : ℕ). nat_eq n 0) e.1)) tt
      by (inr e) = follows_first (is_first_after (nat_eq part.first.index 0) done) x (ap begins_plainly is_cut.text ∙ plain_front is.rest x.len (is_cut.some (some_plain is.rest e)) e)

  text_more : text_of (done ++ (x ∷ [])) ≡ text_of done ++ take x.len is.rest
  text_more = text_append done (x ∷ []) ∙ ap (λ (t : Text). text_of done ++ t) (append-nil (text_in x) ∙ is_cut.text)

  len_more : len + x.len ≡ length (text_of (done ++ (x ∷ [])))
  len_more = omega (arith, is.lens, ap length (text_append done (x ∷ [])), length-append (text_of done) (text_in x ++ []), length-append (text_in x) [], is_cut.len)

  rest_more : text ≡ text_of (done ++ (x ∷ [])) ++ drop x.len is.rest
  rest_more = is.is_rest ∙ ap (λ (t : Text). text_of done ++ t) (sym (take-append-drop x.len is.rest)) ∙ sym (append_assoc (text_of done) (take x.len is.rest) (drop x.len is.rest))
      ∙ ap (λ (t : Text). t ++ drop x.len is.rest) (sym text_more)

  -- where the text goes on, it is cut there
  pub lexing_next : (more : List Segment) (read_more : ℕ) → more ≡ done ++ (x ∷ []) → len + x.len < length text → len + x.len ≤ read_more → IsLexing segments part text end (len + x.len) read_more more
  lexing_next more read_more is_more less least =
      let found = is_cut.cut (omega (arith, rest_len, less)) in
      subst (λ (xs : List Segment). IsLexing segments part text end (len + x.len) read_more xs) (sym is_more) (record {
        order = is.order;
        within = is.within;
        same = is.same;
        rest = drop x.len is.rest;
        is_rest = rest_more;
        lens = len_more;
        opened = open_append (nat_eq part.first.index 0) done (x ∷ []) is.opened (follows, found.0, tt);
        plain = inr found.1;
        least = least;
      })

  -- where it ends, all is lexed
  pub lexing_ends : (more : LexedPart) → (is_last ≡ true → end ≡ length segments) → (is_last ≡ false → end < length segments) → AreTakenIn segments part end
      → more.segments.items ≡ done ++ (x ∷ []) → more.end ≡ end → more.len ≡ len + x.len → len + x.len ≡ length text → more.len ≤ more.cost.lexed → IsPartCost more.len more.cost → IsLexedPart segments part more
  lexing_ends more last inner taken_in is_more at_end lens all least cost = record {
    order = omega (arith, is.order, at_end);
    within = omega (arith, is.within, at_end);
    taken_in = subst (AreTakenIn segments part) (sym at_end) taken_in;
    len = lens ∙ len_more ∙ ap (λ (xs : List Segment). length (text_of xs)) (sym is_more);
    text = sym is.same ∙ ap (λ (t : Text). t ++ text_of (drop end segments)) whole ∙ ap (λ (n : ℕ). text_of more.segments.items ++ text_of (drop n segments)) (sym at_end);
    inner = λ less. subst (AreOpen (nat_eq part.first.index 0)) (sym is_more) (by_inner is_last refl (omega (arith, less, at_end)));
    last = λ e. subst (AreLaid (nat_eq part.first.index 0)) (sym is_more) (by_last is_last refl (sym at_end ∙ e));
    least = least;
    cost = cost;
  }
    where
      none_left : drop x.len is.rest ≡ []
      none_left = drop_all x.len is.rest (omega (arith, all, rest_len))

      whole : text ≡ text_of more.segments.items
      whole = rest_more ∙ ap (λ (t : Text). text_of (done ++ (x ∷ [])) ++ t) none_left ∙ append-nil (text_of (done ++ (x ∷ []))) ∙ ap text_of (sym is_more)

      by_inner : (b : Bool) → is_last ≡ b → end < length segments → AreOpen (nat_eq part.first.index 0) (done ++ (x ∷ []))
      by_inner true e less = absurd (omega (arith, last e))
      by_inner false e less = open_append (nat_eq part.first.index 0) done (x ∷ []) is.opened (follows, is_cut.inner (omega (arith, all, rest_len)) e, tt)

      by_last : (b : Bool) → is_last ≡ b → end ≡ length segments → AreLaid (nat_eq part.first.index 0) (done ++ (x ∷ []))
      by_last true e at = laid_append (nat_eq part.first.index 0) done (x ∷ []) is.opened (follows, is_cut.last (omega (arith, all, rest_len)) e)
      by_last false e at = absurd (omega (arith, inner e))

-- segments after the part are taken in
pub lexing_more : (segments : List Segment) (part : EditedPart) (text more : Text) (end next len read : ℕ) (done : List Segment) → IsLexing segments part text end len read done → (read_more : ℕ) → len ≤ read_more
    → end ≤ next → next ≤ length segments → more ≡ text ++ text_of (slice_range segments end next) → IsLexing segments part more next len read_more done
lexing_more segments part text more end next len read done is read_more least after within is_more = record {
  order = omega (arith, is.order);
  within = within;
  same = ap (λ (t : Text). t ++ text_of (drop next segments)) is_more ∙ append_assoc text (text_of (slice_range segments end next)) (text_of (drop next segments)) ∙ ap (λ (t : Text). text ++ t) (sym (taken segments end next after)) ∙ is.same;
  rest = is.rest ++ text_of (slice_range segments end next);
  is_rest = is_more ∙ ap (λ (t : Text). t ++ text_of (slice_range segments end next)) is.is_rest ∙ append_assoc (text_of done) is.rest (text_of (slice_range segments end next));
  lens = is.lens;
  opened = is.opened;
  plain = plain_of is.plain;
  least = least;
}
  where
    plain_of : ((done ≡ []) × (part.first.index ≡ 0)) ⊎ (begins_plainly is.rest ≡ true) → ((done ≡ []) × (part.first.index ≡ 0)) ⊎ (begins_plainly (is.rest ++ text_of (slice_range segments end next)) ≡ true)
    plain_of (inl e) = inl e
    plain_of (inr e) = inr (plain_append is.rest (text_of (slice_range segments end next)) e)

-- How much is left to do: bytes to cut off, bytes to take in, and segments to take in.
abbrev pub left_to_lex : List Segment → Text → ℕ → ℕ → ℕ
left_to_lex segments text end len = (length text - len) + length (text_of (drop end segments)) + (length segments - end)

pub taking_less : (segments : List Segment) (text more : Text) (end next len : ℕ) → len ≤ length text → end < next → next ≤ length segments → more ≡ text ++ text_of (slice_range segments end next)
    → left_to_lex segments more next len < left_to_lex segments text end len
taking_less segments text more end next len inside after within is_more =
    omega (arith, ap length is_more, length-append text (text_of (slice_range segments end next)), ap length (taken segments end next (omega arith)), length-append (text_of (slice_range segments end next)) (text_of (drop next segments)))

-- where the last segment would have been found and none is, it isn't the last
pub not_last : {X : Type 0} (is_last : Bool) (found : Option X) → (is_last ≡ true → IsSome found) → found ≡ None → is_last ≡ false
not_last {X} true found some none =
    let e : IsSome {T = X} None = subst (λ (o : Option X). IsSome o) none (some refl) in
    cc
not_last false found some none = refl

-- What is put in the place of a part

-- the elements that a `Vec` gives are its own
pub drained : {Z : Type 0} (given : List Segment) (s : IntoIter Segment Z) (xs : List Segment) → into_iter_items s ≡ given → into_iter_len s ≡ length given → Drains (into_iter_steps {X = Segment} {Z = Z}) s xs → xs ≡ given
drained given s xs is len drains = sym (map-id xs) ∙ items_from_drains xs (drains.1.0, drains.1.1, λ _. (drains.0, drains.1.2)) (YieldsList-from_vec given is len)

outside_at : {A : Type 0} (b b' o o' n n' : ℕ) (xs xs' ys ys' : List (grammar.Spanned A)) → b ≡ b' → o ≡ o' → n ≡ n' → xs ≡ xs' → ys ≡ ys' → SameOutside b o n xs ys → SameOutside b' o' n' xs' ys'
outside_at {A} b b' o o' n n' xs xs' ys ys' e f g h k same =
    subst (λ (z : ℕ). SameOutside z o' n' xs' ys') e
    (subst (λ (z : ℕ). SameOutside b z n' xs' ys') f
    (subst (λ (z : ℕ). SameOutside b o z xs' ys') g
    (subst (λ (zs : List (grammar.Spanned A)). SameOutside b o n zs ys') h
    (subst (λ (zs : List (grammar.Spanned A)). SameOutside b o n xs zs) k same))))

module _ (segments : List Segment) (new : Text) (part : EditedPart) (lexed : LexedPart) (parts : IsEditedPart segments new part) (is : IsLexedPart segments part lexed) where
  pub replaced_text : text_of (splice segments part.first.index lexed.end lexed.segments.items) ≡ new
  replaced_text =
      text_append (take part.first.index segments) (lexed.segments.items ++ drop lexed.end segments)
      ∙ ap (λ (t : Text). text_of (take part.first.index segments) ++ t) (text_append lexed.segments.items (drop lexed.end segments) ∙ sym is.text)
      ∙ sym parts.replaced.same

  old_parts : segments ≡ take part.first.index segments ++ (slice_range segments part.first.index lexed.end ++ drop lexed.end segments)
  old_parts =
      let e : part.first.index + (lexed.end - part.first.index) ≡ lexed.end = omega (arith, parts.replaced.order, is.order) in
      sym (take-append-drop part.first.index segments)
      ∙ ap (λ (xs : List Segment). take part.first.index segments ++ xs)
      (sym (take-append-drop (lexed.end - part.first.index) (drop part.first.index segments))
      ∙ ap (λ (xs : List Segment). slice_range segments part.first.index lexed.end ++ xs) (drop-drop (lexed.end - part.first.index) part.first.index segments ∙ ap (λ (n : ℕ). drop n segments) e))

  module _ (laid : AreLaid true segments) (order : part.first.index < lexed.end) where
    fresh_laid : AreLaid (nat_eq part.first.index 0) (lexed.segments.items ++ drop lexed.end segments)
    fresh_laid = by (drop lexed.end segments) refl
      where
        by : (ys : List Segment) → drop lexed.end segments ≡ ys → AreLaid (nat_eq part.first.index 0) (lexed.segments.items ++ drop lexed.end segments)
        by [] e =
            let ends : lexed.end ≡ length segments = omega (arith, is.within, ap length e, length-drop lexed.end segments) in
            subst (λ (xs : List Segment). AreLaid (nat_eq part.first.index 0) (lexed.segments.items ++ xs)) (sym e) (subst (AreLaid (nat_eq part.first.index 0)) (sym (append-nil lexed.segments.items)) (is.last ends))
        by (y ∷ ys) e =
            let less : lexed.end < length segments = omega (arith, ap length e, length-drop lexed.end segments) in
            let later : nat_eq lexed.end 0 ≡ false = false_from_ne_true (nat_eq lexed.end 0) (λ t. let zero_end = eqb-true lexed.end 0 t in omega arith) in
            let after : AreLaid false (drop lexed.end segments) = subst (λ (b : Bool). AreLaid b (drop lexed.end segments)) (first_taken segments lexed.end less ∙ later) (laid_around segments lexed.end laid less).1 in
            laid_append (nat_eq part.first.index 0) lexed.segments.items (drop lexed.end segments) (is.inner less) (laid_first (is_first_after (nat_eq part.first.index 0) lexed.segments.items) (drop lexed.end segments) after)

    pub replaced_laid : AreLaid true (splice segments part.first.index lexed.end lexed.segments.items)
    replaced_laid =
        let less : part.first.index < length segments = omega (arith, order, is.within) in
        laid_append true (take part.first.index segments) (lexed.segments.items ++ drop lexed.end segments) (laid_around segments part.first.index laid less).0
        (subst (λ (b : Bool). AreLaid b (lexed.segments.items ++ drop lexed.end segments)) (sym (first_taken segments part.first.index less)) fresh_laid)

    old_len : length (text_of segments) ≡ part.first.begin + (length (text_of (slice_range segments part.first.index lexed.end)) + length (text_of (drop lexed.end segments)))
    old_len =
        let before = parts.replaced.begin in
        ap (λ (xs : List Segment). length (text_of xs)) old_parts
        ∙ ap length (text_append (take part.first.index segments) (slice_range segments part.first.index lexed.end ++ drop lexed.end segments) ∙ ap (λ (t : Text). text_of (take part.first.index segments) ++ t) (text_append (slice_range segments part.first.index lexed.end) (drop lexed.end segments)))
        ∙ length-append (text_of (take part.first.index segments)) (text_of (slice_range segments part.first.index lexed.end) ++ text_of (drop lexed.end segments))
        ∙ omega (arith, length-append (text_of (slice_range segments part.first.index lexed.end)) (text_of (drop lexed.end segments)))

    new_len : length new ≡ part.first.begin + (lexed.len + length (text_of (drop lexed.end segments)))
    new_len =
        let before = parts.replaced.begin in
        let fresh = is.len in
        ap length (parts.replaced.same ∙ ap (λ (t : Text). text_of (take part.first.index segments) ++ t) is.text)
        ∙ length-append (text_of (take part.first.index segments)) (text_of lexed.segments.items ++ text_of (drop lexed.end segments))
        ∙ omega (arith, length-append (text_of lexed.segments.items) (text_of (drop lexed.end segments)))

    pub new_end_fits : part.first.begin + lexed.len ≤ length new
    new_end_fits = omega (arith, new_len)

    pub old_end_fits : length new ≤ part.first.begin + lexed.len + length (text_of segments)
    old_end_fits = omega (arith, new_len, old_len)

    pub replaced_end : part.first.begin + lexed.len + length (text_of segments) - length new ≡ length (text_of (take lexed.end segments))
    replaced_end =
        let before = parts.replaced.begin in
        omega (arith, old_len, new_len, ap length (text_split lexed.end segments), length-append (text_of (take lexed.end segments)) (text_of (drop lexed.end segments)))

    pub replaced_change : (items : List Segment) (change : Change) → items ≡ splice segments part.first.index lexed.end lexed.segments.items → change.begin ≡ part.first.begin → change.new_end ≡ part.first.begin + lexed.len
        → change.old_end ≡ part.first.begin + lexed.len + length (text_of segments) - length new → change.lexed ≡ lexed.cost.lexed → change.starts ≡ lexed.cost.starts → change.reads ≡ lexed.cost.reads → IsChange (text_of segments) (text_of items) change
    replaced_change items change is_items begin new_end old_end read starts reads = record {
      order = omega (arith, begin, new_end);
      within = omega (arith, same_len, new_end, new_end_fits);
      lengths = omega (arith, same_len, new_end, old_end, old_end_fits);
      lexemes = outside_at _ _ _ _ _ _ _ _ _ _ begin_is old_is new_is (ap (λ (xs : List Segment). lexemes_of (text_of xs)) (sym old_parts)) (ap (λ (xs : List Segment). lexemes_of (text_of xs)) (sym is_items))
          (lexemes_outside (take part.first.index segments) (slice_range segments part.first.index lexed.end) lexed.segments.items (drop lexed.end segments) old_laid replaced_laid);
      faults = outside_at _ _ _ _ _ _ _ _ _ _ begin_is old_is new_is (ap (λ (xs : List Segment). faults_of (text_of xs)) (sym old_parts)) (ap (λ (xs : List Segment). faults_of (text_of xs)) (sym is_items))
          (faults_outside (take part.first.index segments) (slice_range segments part.first.index lexed.end) lexed.segments.items (drop lexed.end segments) old_laid replaced_laid);
      least_lexed = omega (arith, begin, new_end, read, is.least);
      most_lexed = rw (read, starts, new_len_is) is.cost.most;
      most_starts = omega (arith, read, starts, is.cost.few);
      most_reads = omega (arith, read, starts, reads, is.cost.paid);
      some_reads = λ less. omega (arith, reads, is.cost.some (omega (arith, begin, new_end, less)));
      least_reads = λ one. omega (arith, read, reads, is.cost.least (sym starts ∙ one));
    }
      where
        new_len_is : change.new_end - change.begin ≡ lexed.len
        new_len_is = omega (arith, begin, new_end)

        same_len : length (text_of items) ≡ length new
        same_len = ap (λ (xs : List Segment). length (text_of xs)) is_items ∙ ap length replaced_text

        old_laid : AreLaid true (take part.first.index segments ++ (slice_range segments part.first.index lexed.end ++ drop lexed.end segments))
        old_laid = subst (AreLaid true) old_parts laid

        begin_is : length (text_of (take part.first.index segments)) ≡ change.begin
        begin_is = sym (begin ∙ parts.replaced.begin)

        old_is : length (text_of (take part.first.index segments ++ slice_range segments part.first.index lexed.end)) ≡ change.old_end
        old_is =
            let before = parts.replaced.begin in
            ap length (text_append (take part.first.index segments) (slice_range segments part.first.index lexed.end)) ∙ length-append (text_of (take part.first.index segments)) (text_of (slice_range segments part.first.index lexed.end))
            ∙ omega (arith, old_end, old_len, new_len)

        new_is : length (text_of (take part.first.index segments ++ lexed.segments.items)) ≡ change.new_end
        new_is =
            let before = parts.replaced.begin in
            let fresh = is.len in
            ap length (text_append (take part.first.index segments) lexed.segments.items) ∙ length-append (text_of (take part.first.index segments)) (text_of lexed.segments.items) ∙ omega (arith, new_end)

pub edited_len : (text : Text) (from to : ℕ) (inserted : Text) → IsRange text from to → length (edited from to inserted text) ≡ length text - (to - from) + length inserted
edited_len text from to inserted range =
    let inside = range.2.0 in
    length-append (take from text) (inserted ++ drop to text) ∙ omega (arith, range.0, length-take from text, length-append inserted (drop to text), length-drop to text)
