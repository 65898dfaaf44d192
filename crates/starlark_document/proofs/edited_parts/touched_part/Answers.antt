use Rattle.std.proofs.Common.{◌≡◌, ◌-◌, ◌++◌, ◌∙◌, sym, ap, subst, arith, refl, ℕ, length, take, drop, true, List}
use Rattle.std.specs.Prelude.{string_bytes}
use Rattle.std.specs.Str.{IsCharBoundary}
use Rattle.std.proofs.lemmas.Option.{slice_get_read}
use Rattle.starlark_document.proofs.LaidSegments.{lens_laid}
use Rattle.starlark_document.proofs.SegmentOffsets.{end_within, len_at}
use Rattle.starlark_document.proofs.Splices.{boundary_here, front_range, is_in, touched}
use Rattle.starlark_document.specs.Inner.Segments.{text_in}
use Rattle.starlark_document.proofs.edited_parts.touched_part.Goals as goal

pub range-front-requires-clause-end_boundary : goal.range-front-requires-clause-end_boundary
range-front-requires-clause-end_boundary c =
    let range = c.requires.range in
    let from = c.args.range.first in
    let here = is_in c.args.segments.now from c.index-segments-first.result c.args.from c.requires.laid range.first c.index-segments-first.is range.after_first range.first_reach in
    let text : c.as_str.result.now ≡ text_in c.index-segments-first.result = cc (c.deref.ensures, c.as_str.ensures.value) in
    subst (λ (t : List ℕ). IsCharBoundary t (c.args.from - from.begin)) (sym text) (boundary_here c.args.segments.now from c.index-segments-first.result c.args.from here range.is_range.1)

pub range_from-rest-requires : goal.range_from-rest-requires
range_from-rest-requires c = λ some.
    let range = c.requires.range in
    let to = c.args.range.last in
    let here = is_in c.args.segments.now to c.index-segments-last.result c.args.to c.requires.laid range.last c.index-segments-last.is range.after_last range.last_reach in
    let text : c.as_str-2.result.now ≡ text_in c.index-segments-last.result = cc (c.deref-2.ensures, c.as_str-2.ensures.value) in
    subst (λ (t : List ℕ). IsCharBoundary t (c.args.to - to.begin)) (sym text) (boundary_here c.args.segments.now to c.index-segments-last.result c.args.to here range.is_range.2)

pub overflow_add-front-2 : goal.overflow_add-front-2
overflow_add-front-2 c =
    let segments = c.args.segments.now in
    let to = c.args.range.last in
    let y = c.index-segments-last.result in
    let lens = lens_laid true segments c.requires.laid in
    let is = slice_get_read segments _ to.index y refl c.requires.range.last.inside c.index-segments-last.is in
    let text : c.as_str-2.result.now ≡ text_in y = cc (c.deref-2.ensures, c.as_str-2.ensures.value) in
    omega (
      arith,
      c.requires.fits,
      c.requires.range.is_range.1.0,
      c.range-front.ensures.len,
      c.range_from-rest.ensures.len,
      ap length text,
      len_at segments to.index y lens is,
      end_within segments to.index y lens is,
    )

pub returns-clause-part : goal.returns-clause-part
returns-clause-part c =
    let range = c.requires.range in
    let from = c.args.range.first in
    let to = c.args.range.last in
    let x = c.index-segments-first.result in
    let y = c.index-segments-last.result in
    let from_here = is_in c.args.segments.now from x c.args.from c.requires.laid range.first c.index-segments-first.is range.after_first range.first_reach in
    let to_here = is_in c.args.segments.now to y c.args.to c.requires.laid range.last c.index-segments-last.is range.after_last range.last_reach in
    let from_text : c.as_str.result.now ≡ text_in x = cc (c.deref.ensures, c.as_str.ensures.value) in
    let to_text : c.as_str-2.result.now ≡ text_in y = cc (c.deref-2.ensures, c.as_str-2.ensures.value) in
    let at_begin : c.range-front.result.now ≡ take (c.args.from - from.begin) (text_in x) = c.range-front.ensures.value ∙ front_range c.as_str.result.now (c.args.from - from.begin) ∙ ap (λ (t : List ℕ). take (c.args.from - from.begin) t) from_text in
    let at_end : c.range_from-rest.result.now ≡ drop (c.args.to - to.begin) (text_in y) = c.range_from-rest.ensures.value ∙ ap (λ (t : List ℕ). drop (c.args.to - to.begin) t) to_text in
    let start : string_bytes c.push_str.new.self ≡ take (c.args.from - from.begin) (text_in x) = c.in_ok-push_str.ensures.bytes ∙ ap (λ (t : List ℕ). t ++ c.range-front.result.now) c.in_ok-text.ensures.bytes ∙ at_begin in
    let middle : string_bytes c.push_str-2.new.self ≡ take (c.args.from - from.begin) (text_in x) ++ c.args.inserted.now = c.in_ok-push_str-2.ensures.bytes ∙ ap (λ (t : List ℕ). t ++ c.args.inserted.now) start in
    let text : string_bytes c.push_str-3.new.self ≡ (take (c.args.from - from.begin) (text_in x) ++ c.args.inserted.now) ++ drop (c.args.to - to.begin) (text_in y) =
    c.in_ok-push_str-3.ensures.bytes ∙ ap (λ (t : List ℕ). t ++ c.range_from-rest.result.now) middle ∙ ap (λ (t : List ℕ). (take (c.args.from - from.begin) (text_in x) ++ c.args.inserted.now) ++ t) at_end in
    touched c.args.segments.now c.args.from c.args.to c.args.inserted.now from to x y _ from_here to_here range.order refl refl text
