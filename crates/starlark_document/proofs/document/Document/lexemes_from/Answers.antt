use Rattle.std.proofs.Common.{◌≡◌, ℕ, ◌+◌, ◌<◌, List, Some, ap, drop, length, refl, subst, sym, true, ◌∙◌}
use Rattle.std.proofs.lemmas.List.{take_rest}
use Rattle.std.proofs.lemmas.Option.{slice_get_read}
use Rattle.std.specs.List.{prefix_len, slice_get}
use Rattle.starlark_document.proofs.FoundInSegments.{bounded_laid, lexemes_laid}
use Rattle.starlark_document.proofs.PassedLexemes.{bounded_from, lexemes_left}
use Rattle.starlark_document.proofs.SegmentOffsets.{HaveLens-laid}
use Rattle.starlark_document.specs.Documents.{DocumentView, ends_by, lexemes_of}
use Rattle.starlark_document.specs.Inner.EditedParts.{IsPlaceIn}
use Rattle.starlark_document.specs.Inner.Segments.{AreBounded, HaveLens, lexemes_from}
use Rattle.starlark_document.specs.declared.segments.Segment.{Segment}
use Rattle.starlark_grammar.specs.Tokens.{Spanned}
use Rattle.starlark_token.specs.TokenViews.{TokenView}
use Rattle.starlark_document.proofs.document.Document.lexemes_from.Goals as goal

pub segment_at-place-requires-clause-lens : goal.segment_at-place-requires-clause-lens
segment_at-place-requires-clause-lens c = subst HaveLens (sym c.deref.ensures.value) (HaveLens-laid true c.self.inside.segments.items c.self.invariant.0)

pub new-requires : goal.new-requires
new-requires c =
    let place = c.segment_at-place.result in
    let segments = c.self.inside.segments.items in
    let at = subst (λ (xs : List Segment). IsPlaceIn xs place) c.deref.ensures.value c.segment_at-place.ensures.place in
    let rest = take_rest c.deref-2.result.now place.index ∙ ap (λ (xs : List Segment). drop place.index xs) c.deref-2.ensures.value in
    subst (λ (xs : List Segment). AreBounded place.begin xs) (sym rest) (bounded_from segments place.index place.begin at.begin (bounded_laid segments c.self.invariant.0 c.self.invariant.2))

pub returns : goal.returns
returns c =
    let place = c.segment_at-place.result in
    let segments = c.self.inside.segments.items in
    let segment = c.index.result.now in
    let at = subst (λ (xs : List Segment). IsPlaceIn xs place) c.deref.ensures.value c.segment_at-place.ensures.place in
    let is = slice_get_read segments _ place.index segment refl at.inside c.index.ensures in
    let there = subst (λ (xs : List Segment). slice_get xs place.index ≡ Some segment) (sym c.deref.ensures.value) is in
    let inner = λ (more : place.index + 1 < length segments). c.segment_at-place.ensures.inner (subst (λ (xs : List Segment). place.index + 1 < length xs) (sym c.deref.ensures.value) more) segment there in
    let rest = take_rest c.deref-2.result.now place.index ∙ ap (λ (xs : List Segment). drop place.index xs) c.deref-2.ensures.value in
    let bounded = bounded_laid segments c.self.invariant.0 c.self.invariant.2 in
    let along = sym (lexemes_laid segments c.self.invariant.0) ∙ ap lexemes_of (ap (λ (d : DocumentView). d.text) c.self.view_is) in
    c.new.ensures
    ∙ ap (λ (xs : List Segment). lexemes_from place.begin c.passed_len-passed.result xs) rest
    ∙ ap (λ (n : ℕ). lexemes_from place.begin n (drop place.index segments)) c.passed_len-passed.ensures
    ∙ lexemes_left segments place.index place.begin c.args.at segment bounded.0 is at.begin c.segment_at-place.ensures.before inner
    ∙ ap (λ (xs : List (Spanned TokenView)). drop (prefix_len (ends_by c.args.at) xs) xs) along
