use Rattle.std.proofs.Common.{rules, ◌≡◌, ◌-◌, ◌+◌, ◌∙◌, ap, subst, arith, refl, true, ℕ, length, List}
use Rattle.starlark_document.proofs.LaidSegments.{lens_laid}
use Rattle.starlark_document.proofs.Locals.{local}
use Rattle.starlark_document.proofs.Splices.{edited_len}
use Rattle.starlark_document.specs.Documents.{DocumentView, IsLocal, IsRange, edited}
use Rattle.starlark_document.specs.Inner.EditedParts.{IsEditedPart, IsLexedPart, IsRangeIn, IsTouched}
use Rattle.starlark_document.specs.Inner.Segments.{document_of, text_of}
use Rattle.starlark_document.specs.declared.segments.Segment.{Segment}
use Rattle.starlark_document.proofs.document.Document.edit.Goals as goal
use Rattle.starlark_document.proofs.document.Document.edit.Goals.{In_ok-part, In_ok-lexed}

-- the part is the edited one, …
part_is : (c : In_ok-part) → IsEditedPart c.self.inside.segments.items (edited c.args.from c.args.to c.args.text.now (text_of c.self.inside.segments.items)) c.in_ok-part.part
part_is c = subst (λ (xs : List Segment). IsEditedPart xs (edited c.args.from c.args.to c.args.text.now (text_of xs)) c.in_ok-part.part) c.deref-2.ensures.value c.in_ok-part.ensures.part

-- … what was lexed is that part, …
lexed_is : (c : In_ok-lexed) → IsLexedPart c.self.inside.segments.items c.in_ok-part.part c.in_ok-lexed.lexed
lexed_is c = subst (λ (xs : List Segment). IsLexedPart xs c.in_ok-part.part c.in_ok-lexed.lexed) c.deref-3.ensures.value c.in_ok-lexed.ensures.lexed

-- … and the length is that of the edited text
len_is : (c : In_ok-part) → c.self.inside.len - (c.args.to - c.args.from) + length c.args.text.now ≡ length (edited c.args.from c.args.to c.args.text.now (text_of c.self.inside.segments.items))
len_is c =
    let range : IsRange (text_of c.self.inside.segments.items) c.args.from c.args.to = subst (λ (xs : List Segment). IsRange (text_of xs) c.args.from c.args.to) c.deref.ensures.value c.in-Some.ensures.some.is_range in
    omega (arith, edited_len (text_of c.self.inside.segments.items) c.args.from c.args.to c.args.text.now range, c.self.invariant.1)

pub replace-requires-clause-part : goal.replace-requires-clause-part
replace-requires-clause-part c =
    let at = goal.at.replace-requires-clause-part c in
    (_, c.in_ok-part.part, part_is at.In_ok-part, refl, lexed_is at.In_ok-lexed, len_is at.In_ok-part)

pub invariant_of-self-2 : goal.invariant_of-self-2
invariant_of-self-2 c =
    let at = goal.at.invariant_of-self-2 c in
    let len = len_is at.In_ok-part in
    let same_len = ap length (c.in_ok-change.ensures.text _ c.in_ok-part.part (part_is at.In_ok-part) refl (lexed_is at.In_ok-lexed)) in
    (c.in_ok-change.ensures.laid, omega (arith, len, same_len), omega (arith, len, same_len, c.is_source_len.ensures.0 c.if-not-is_source_len.false))

pub returns-clause-text : goal.returns-clause-text
returns-clause-text c =
    let at = goal.at.returns-clause-text c in
    c.in_ok-change.ensures.text _ c.in_ok-part.part (part_is at.In_ok-part) refl (lexed_is at.In_ok-lexed) ∙ ap (λ (t : List ℕ). edited c.args.from c.args.to c.args.text.now t) (ap (λ (d : DocumentView). d.text) c.self.view_is)

pub returns-in_err-change-clause-too_long : goal.returns-in_err-change-clause-too_long
returns-in_err-change-clause-too_long c = (
  λ is. search (rules, is),
  λ long. absurd (omega (arith, c.is_source_len.ensures.0 c.if-not-is_source_len.false, edited_len c.args.self.now.text c.args.from c.args.to c.args.text.now long.0, long.1, c.self.invariant.1, ap length (ap (λ (d : DocumentView). d.text) c.self.view_is))),
)

pub returns-clause-too_long : goal.returns-clause-too_long
returns-clause-too_long c = (
  λ is. cc,
  λ long. absurd (omega (arith, c.is_source_len.ensures.0 c.if-not-is_source_len.false, edited_len c.args.self.now.text c.args.from c.args.to c.args.text.now long.0, long.1, c.self.invariant.1, ap length (ap (λ (d : DocumentView). d.text) c.self.view_is))),
)

pub returns-clause-local : goal.returns-clause-local
returns-clause-local c =
    let at = goal.at.returns-clause-local c in
    let segments = c.self.inside.segments.items in
    let range = subst (λ (xs : List Segment). IsRangeIn xs c.args.from c.args.to c.in-Some.range) c.deref.ensures.value c.in-Some.ensures.some in
    let new = edited c.args.from c.args.to c.args.text.now (text_of segments) in
    let touched = subst (λ (xs : List Segment). IsTouched xs (edited c.args.from c.args.to c.args.text.now (text_of xs)) c.in-Some.range c.in_ok-part.part) c.deref-2.ensures.value c.in_ok-part.ensures.touched in
    let parts = part_is at.In_ok-part in
    let lexed = lexed_is at.In_ok-lexed in
    let text = c.in_ok-change.ensures.text _ c.in_ok-part.part parts refl lexed in
    subst (λ (d : DocumentView). IsLocal c.args.from c.args.to d (document_of c.self.inside.least_len c.replace.new.segments.items) c.in_ok-change.change) c.self.view_is
    (local c.args.from c.args.to segments _ new c.in-Some.range c.in_ok-part.part c.in_ok-lexed.lexed _ (lens_laid true segments c.self.invariant.0) range parts touched lexed c.self.inside.least_len c.in_ok-lexed.ensures.sized c.in_ok-change.ensures.items text (c.in_ok-change.ensures.begin ∙ parts.replaced.begin) c.in_ok-change.ensures.old_end)
