-- Which segments an edit replaces.
use Rattle.std.proofs.Common.{◌≡◌, ℕ, zero, suc, ◌+◌, ◌*◌, ◌≤◌, ◌<◌, false, List, [], ◌∷◌, ◌++◌, map, length, take, drop, get_or, refl, ap, sym, subst, ◌∙◌, arith, inl, inr, ◌⊎◌, append_assoc, string_bytes, None, Some}
use Rattle.std.specs.List.{slice_get, slice_range, splice}
use Rattle.std.proofs.lemmas.List.{length-map, map-append}
use Rattle.std.proofs.lemmas.Option.{slice_get_cases}
use Rattle.starlark_document.specs.Documents.{EndsWithLine, HaveBecome, IsHeld, IsLocal, joined}
use Rattle.starlark_document.specs.Inner.EditedParts.{AreSized, AreTakenIn, IsEditedPart, IsLexedPart, IsRangeIn, IsTouched}
use Rattle.starlark_document.specs.Inner.Segments.{HaveLens, document_of, text_in, text_of}
use Rattle.starlark_document.specs.declared.document.Change.{Change}
use Rattle.starlark_document.specs.declared.edited_parts.EditedPart.{EditedPart}
use Rattle.starlark_document.specs.declared.edited_parts.LexedPart.{LexedPart}
use Rattle.starlark_document.specs.declared.edited_parts.SegmentRange.{SegmentRange}
use Rattle.starlark_document.specs.declared.segments.Segment.{Segment}
use Rattle.starlark_document.proofs.SegmentOffsets.{begin_after}
use Rattle.starlark_document.proofs.Sizes.{joined_texts, long_texts, uncut_texts}
use Rattle.starlark_document.proofs.Splices.{taken}
use Rattle.starlark_grammar.specs.Joining.{begins_plainly}
use Rattle.starlark_grammar.specs.Words.{Text}

-- The texts of segments

texts_taken : (n : ℕ) (xs : List Segment) → take n (map text_in xs) ≡ map text_in (take n xs)
texts_taken zero xs = refl
texts_taken (suc n) [] = refl
texts_taken (suc n) (x ∷ xs) = ap (λ ts. text_in x ∷ ts) (texts_taken n xs)

texts_dropped : (n : ℕ) (xs : List Segment) → drop n (map text_in xs) ≡ map text_in (drop n xs)
texts_dropped zero xs = refl
texts_dropped (suc n) [] = refl
texts_dropped (suc n) (x ∷ xs) = texts_dropped n xs

joined_taken : (n : ℕ) (xs : List Segment) → joined (take n (map text_in xs)) ≡ text_of (take n xs)
joined_taken n xs = ap joined (texts_taken n xs) ∙ joined_texts (take n xs)

joined_dropped : (n : ℕ) (xs : List Segment) → joined (drop n (map text_in xs)) ≡ text_of (drop n xs)
joined_dropped n xs = ap joined (texts_dropped n xs) ∙ joined_texts (drop n xs)

become : (segments : List Segment) (first end : ℕ) (own new : Text) → new ≡ text_of (take first segments) ++ (own ++ text_of (drop end segments)) → HaveBecome (map text_in segments) first end own new
become segments first end own new is = is ∙ ap (λ (t : Text). t ++ (own ++ text_of (drop end segments))) (sym (joined_taken first segments)) ∙ ap (λ (t : Text). joined (take first (map text_in segments)) ++ (own ++ t)) (sym (joined_dropped end segments))

-- An edit of a document

module _ (from to : ℕ) (segments items : List Segment) (new : Text) (range : SegmentRange) (part : EditedPart) (lexed : LexedPart) (change : Change)
    (lens : HaveLens segments) (held : IsRangeIn segments from to range) (parts : IsEditedPart segments new part) (touched : IsTouched segments new range part) (is : IsLexedPart segments part lexed) where
  start : (part.first.index ≡ range.first.index) ⊎ ((part.first.index + 1 ≡ range.first.index) × ((own : Text) × HaveBecome (map text_in segments) range.first.index (range.last.index + 1) own new × (begins_plainly own ≡ false)))
  start = by touched.start
    where
      by : (part.first.index ≡ range.first.index)
          ⊎ ((part.first.index + 1 ≡ range.first.index) × ((own : Text) × (new ≡ text_of (take range.first.index segments) ++ (own ++ text_of (drop (range.last.index + 1) segments))) × (begins_plainly own ≡ false)))
          → (part.first.index ≡ range.first.index) ⊎ ((part.first.index + 1 ≡ range.first.index) × ((own : Text) × HaveBecome (map text_in segments) range.first.index (range.last.index + 1) own new × (begins_plainly own ≡ false)))
      by (inl e) = inl e
      by (inr e) = inr (e.0, (e.1.0, become segments range.first.index (range.last.index + 1) e.1.0 new e.1.1, e.1.2))

  stop : (lexed.end ≡ range.last.index + 1)
      ⊎ ((more : ℕ) × (range.last.index + 1 + more < lexed.end) × (lexed.end ≤ range.last.index + 1 + (2 * more + 1)) × ((own : Text) × HaveBecome (map text_in segments) part.first.index (range.last.index + 1 + more) own new × (EndsWithLine own → ⊥)))
  stop = by is.taken_in
    where
      end : part.end ≡ range.last.index + 1
      end = touched.end

      by : AreTakenIn segments part lexed.end
          → (lexed.end ≡ range.last.index + 1)
          ⊎ ((more : ℕ) × (range.last.index + 1 + more < lexed.end) × (lexed.end ≤ range.last.index + 1 + (2 * more + 1)) × ((own : Text) × HaveBecome (map text_in segments) part.first.index (range.last.index + 1 + more) own new × (EndsWithLine own → ⊥)))
      by (inl e) = inl (e ∙ end)
      by (inr e) =
          let more = e.0 in
          let slice = text_of (slice_range segments part.end (part.end + more)) in
          let same : new ≡ text_of (take part.first.index segments) ++ ((string_bytes part.text ++ slice) ++ text_of (drop (part.end + more) segments)) =
          parts.replaced.same ∙ ap (λ (t : Text). text_of (take part.first.index segments) ++ (string_bytes part.text ++ t)) (taken segments part.end (part.end + more) (omega arith))
          ∙ ap (λ (t : Text). text_of (take part.first.index segments) ++ t) (sym (append_assoc (string_bytes part.text) slice (text_of (drop (part.end + more) segments)))) in
          inr (more, omega (arith, end, e.1), omega (arith, end, e.2), (string_bytes part.text ++ slice, subst (λ (k : ℕ). HaveBecome (map text_in segments) part.first.index (k + more) (string_bytes part.text ++ slice) new) end (become segments part.first.index (part.end + more) (string_bytes part.text ++ slice) new same), e.3))

  holds : IsHeld (map text_in segments) range.first.index from
  holds = record {
    inside = omega (arith, held.first.inside, length-map segments text_in);
    begin = omega (arith, held.first.begin, held.after_first, ap length (joined_taken range.first.index segments));
    end = λ more. by (omega (arith, more, length-map segments text_in)) (slice_get_cases segments range.first.index).1;
  }
    where
      by : range.first.index + 1 < length segments → ((segment : Segment) × (range.first.index < length segments) × (slice_get segments range.first.index ≡ Some segment) × (get_or segments range.first.index segment ≡ segment)) ⊎ ((length segments ≤ range.first.index) × (slice_get segments range.first.index ≡ None))
          → from < length (joined (take (range.first.index + 1) (map text_in segments)))
      by more (inl found) = omega (arith, held.first_inner more found.0 found.2, begin_after segments range.first.index found.0 lens found.2, held.first.begin, ap length (joined_taken (range.first.index + 1) segments))
      by more (inr past) = absurd (omega (arith, past.0, held.first.inside))

  pub local : (least : ℕ) → AreSized least lexed.segments.items → items ≡ splice segments part.first.index lexed.end lexed.segments.items → text_of items ≡ new → change.begin ≡ length (text_of (take part.first.index segments)) → change.old_end ≡ length (text_of (take lexed.end segments))
      → IsLocal from to (document_of least segments) (document_of least items) change
  local least sized spliced text begin old_end = record {
    holder = range.first.index;
    last = range.last.index;
    first = part.first.index;
    end = lexed.end;
    held = holds;
    order = held.order;
    near = λ less. omega (arith, held.last_near less, held.last.begin, ap length (joined_taken range.last.index segments));
    start = rw text start;
    stop = rw text stop;
    fresh = map text_in lexed.segments.items;
    kept = ap (map text_in) spliced ∙ map-append text_in (take part.first.index segments) (lexed.segments.items ++ drop lexed.end segments)
        ∙ ap (λ ts. map text_in (take part.first.index segments) ++ ts) (map-append text_in lexed.segments.items (drop lexed.end segments))
        ∙ ap (λ ts. ts ++ (map text_in lexed.segments.items ++ map text_in (drop lexed.end segments))) (sym (texts_taken part.first.index segments))
        ∙ ap (λ ts. take part.first.index (map text_in segments) ++ (map text_in lexed.segments.items ++ ts)) (sym (texts_dropped lexed.end segments));
    least = refl;
    long = long_texts least lexed.segments.items sized;
    uncut = uncut_texts least lexed.segments.items sized;
    begin = begin ∙ sym (ap length (joined_taken part.first.index segments));
    old_end = old_end ∙ sym (ap length (joined_taken lexed.end segments));
  }
