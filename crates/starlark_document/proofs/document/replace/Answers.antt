use Rattle.std.proofs.Common.{◌≡◌, ◌<◌, ◌-◌, ◌+◌, ◌∙◌, sym, ap, subst, arith, refl, ℕ, length, List, true}
use Rattle.std.specs.List.{splice}
use Rattle.starlark_document.proofs.Splices.{old_end_fits, replaced_change, replaced_end, replaced_laid, replaced_text}
use Rattle.starlark_document.specs.Inner.Segments.{AreLaid, text_of}
use Rattle.starlark_document.specs.declared.segments.Segment.{Segment}
use Rattle.starlark_document.specs.declared.segments.SegmentPlace.{SegmentPlace}
use Rattle.starlark_document.proofs.document.replace.Goals as goal

pub overflow_sub-change : goal.overflow_sub-change
overflow_sub-change c =
    let part = c.requires.part.1 in
    let at : part.first ≡ c.args.first = c.requires.part.3 in
    let index = ap (λ (place : SegmentPlace). place.index) at in
    let begin = ap (λ (place : SegmentPlace). place.begin) at in
    let order : part.first.index < c.args.lexed.end = omega (arith, index, c.requires.order) in
    let fits = old_end_fits c.args.segments.now.items c.requires.part.0 part c.args.lexed c.requires.part.2 c.requires.part.4 c.requires.laid order in
    omega (arith, begin, fits, c.requires.part.5, c.requires.old_len)

pub returns-clause-text : goal.returns-clause-text
returns-clause-text c = λ new part parts at lexed.
    let is : c.put_segments.new.segments.items ≡ splice c.args.segments.now.items c.args.first.index c.args.lexed.end c.args.lexed.segments.items = c.in_ok-put_segments.ensures.items in
    ap text_of (is ∙ ap (λ (place : SegmentPlace). splice c.args.segments.now.items place.index c.args.lexed.end c.args.lexed.segments.items) (sym at)) ∙ replaced_text c.args.segments.now.items new part c.args.lexed parts lexed

pub returns-clause-laid : goal.returns-clause-laid
returns-clause-laid c =
    let is : c.put_segments.new.segments.items ≡ splice c.args.segments.now.items c.args.first.index c.args.lexed.end c.args.lexed.segments.items = c.in_ok-put_segments.ensures.items in
    let part = c.requires.part.1 in
    let at : part.first ≡ c.args.first = c.requires.part.3 in
    let index = ap (λ (place : SegmentPlace). place.index) at in
    let order : part.first.index < c.args.lexed.end = omega (arith, index, c.requires.order) in
    subst (λ (xs : List Segment). AreLaid true xs) (sym (is ∙ ap (λ (n : ℕ). splice c.args.segments.now.items n c.args.lexed.end c.args.lexed.segments.items) (sym index)))
    (replaced_laid c.args.segments.now.items c.requires.part.0 part c.args.lexed c.requires.part.2 c.requires.part.4 c.requires.laid order)

pub returns-clause-change : goal.returns-clause-change
returns-clause-change c =
    let is : c.put_segments.new.segments.items ≡ splice c.args.segments.now.items c.args.first.index c.args.lexed.end c.args.lexed.segments.items = c.in_ok-put_segments.ensures.items in
    let part = c.requires.part.1 in
    let new = c.requires.part.0 in
    let at : part.first ≡ c.args.first = c.requires.part.3 in
    let index = ap (λ (place : SegmentPlace). place.index) at in
    let begin = ap (λ (place : SegmentPlace). place.begin) at in
    let order : part.first.index < c.args.lexed.end = omega (arith, index, c.requires.order) in
    let new_end : c.args.first.begin + c.args.lexed.len ≡ part.first.begin + c.args.lexed.len = omega (arith, begin) in
    let old_end : c.args.first.begin + c.args.lexed.len + c.args.old_len - c.args.len ≡ part.first.begin + c.args.lexed.len + length (text_of c.args.segments.now.items) - length new = omega (arith, begin, c.requires.part.5, c.requires.old_len) in
    replaced_change c.args.segments.now.items new part c.args.lexed c.requires.part.2 c.requires.part.4 c.requires.laid order c.put_segments.new.segments.items _
    (is ∙ ap (λ (n : ℕ). splice c.args.segments.now.items n c.args.lexed.end c.args.lexed.segments.items) (sym index)) (sym begin) new_end old_end refl refl refl

pub returns-clause-old_end : goal.returns-clause-old_end
returns-clause-old_end c =
    let part = c.requires.part.1 in
    let new = c.requires.part.0 in
    let at : part.first ≡ c.args.first = c.requires.part.3 in
    let index = ap (λ (place : SegmentPlace). place.index) at in
    let begin = ap (λ (place : SegmentPlace). place.begin) at in
    let order : part.first.index < c.args.lexed.end = omega (arith, index, c.requires.order) in
    omega (arith, begin, c.requires.part.5, c.requires.old_len, replaced_end c.args.segments.now.items new part c.args.lexed c.requires.part.2 c.requires.part.4 c.requires.laid order)
