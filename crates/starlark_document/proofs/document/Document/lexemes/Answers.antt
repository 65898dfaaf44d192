use Rattle.std.proofs.Common.{List, ap, subst, sym, ◌∙◌}
use Rattle.starlark_document.proofs.FoundInSegments.{bounded_laid, lexemes_laid}
use Rattle.starlark_document.proofs.Iterators.{lexemes_from-start}
use Rattle.starlark_document.specs.Documents.{DocumentView, lexemes_of}
use Rattle.starlark_document.specs.Inner.Segments.{AreBounded, lexemes_from}
use Rattle.starlark_document.specs.declared.segments.Segment.{Segment}
use Rattle.starlark_document.proofs.document.Document.lexemes.Goals as goal

pub new-requires : goal.new-requires
new-requires c = subst (λ (xs : List Segment). AreBounded 0 xs) (sym c.deref.ensures.value) (bounded_laid c.self.inside.segments.items c.self.invariant.0 c.self.invariant.2)

pub returns : goal.returns
returns c =
    c.new.ensures
    ∙ ap (λ (xs : List Segment). lexemes_from 0 0 xs) c.deref.ensures.value
    ∙ lexemes_from-start 0 c.self.inside.segments.items
    ∙ sym (lexemes_laid c.self.inside.segments.items c.self.invariant.0)
    ∙ ap lexemes_of (ap (λ (d : DocumentView). d.text) c.self.view_is)
