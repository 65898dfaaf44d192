use Rattle.std.proofs.Common.{◌≡◌, ℕ, ◌+◌, ◌-◌, List, arith, drop, refl, subst, sym, take, true}
use Rattle.std.proofs.lemmas.Option.{slice_get_read}
use Rattle.std.specs.Str.{IsCharBoundary}
use Rattle.starlark_document.proofs.SlicedTexts.{IsCharBoundary-in_part, IsCharBoundary-of_part}
use Rattle.starlark_document.proofs.LaidSegments.{lens_laid}
use Rattle.starlark_document.proofs.SegmentOffsets.{IsUtf8-text_of, len_at, text_of-at}
use Rattle.starlark_document.specs.Inner.Segments.{text_in, text_of}
use Rattle.starlark_document.proofs.edited_parts.is_boundary_in.Goals as goal

pub returns : goal.returns
returns c =
    let segments = c.args.segments.now in
    let place = c.args.place in
    let segment = c.index-segments-place.result in
    let at = c.requires.place in
    let is = slice_get_read segments _ place.index segment refl at.inside c.index-segments-place.is in
    let whole = text_of-at segments place.index segment is in
    let text : c.as_str-text.result.now ≡ text_in segment = cc (c.deref.ensures, c.as_str-text.ensures.value) in (
      λ yes.
          let cut = subst (λ (n : ℕ). IsCharBoundary (text_in segment) (c.args.at - n)) at.begin (subst (λ (xs : List ℕ). IsCharBoundary xs (c.args.at - place.begin)) text (c.is_char_boundary.ensures.test.0 yes)) in
          let out = IsCharBoundary-of_part (text_of (take place.index segments)) (text_in segment) (text_of (drop (place.index + 1) segments)) c.args.at
          (IsUtf8-text_of (drop (place.index + 1) segments)) (omega (arith, at.begin, c.requires.before)) cut in
          subst (λ (xs : List ℕ). IsCharBoundary xs c.args.at) (sym whole) out,
      λ cut.
          let parts = subst (λ (xs : List ℕ). IsCharBoundary xs c.args.at) whole cut in
          let reach = c.requires.reach cut.0 segment is in
          let own = IsCharBoundary-in_part (text_of (take place.index segments)) (text_in segment) (text_of (drop (place.index + 1) segments)) c.args.at
          (omega (arith, at.begin, c.requires.before)) (omega (arith, at.begin, reach, len_at segments place.index segment (lens_laid true segments c.requires.laid) is)) parts in
          c.is_char_boundary.ensures.test.1 (subst (λ (xs : List ℕ). IsCharBoundary xs (c.args.at - place.begin)) (sym text)
          (subst (λ (n : ℕ). IsCharBoundary (text_in segment) (c.args.at - n)) (sym at.begin) own)),
    )
