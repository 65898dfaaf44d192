use Rattle.std.proofs.Common.{◌≡◌, ◌↔◌, List, Some, ap, subst, ℕ, ◌∙◌}
use Rattle.starlark_document.specs.Documents.{DocumentView}
use Rattle.starlark_document.proofs.LinePlaces.{stands_exactly}
use Rattle.starlark_document.proofs.SegmentOffsets.{IsUtf8-text_of}
use Rattle.starlark_document.specs.Inner.Segments.{text_of}
use Rattle.starlark_document.specs.Utf16Places.{StandsAt}
use Rattle.starlark_document.proofs.document.Document.offset_at_utf16.Goals as goal

pub returns : goal.returns
returns c at =
    let found = c.offset_in_segments in
    let same = ap text_of c.deref.ensures.value ∙ (ap (λ (d : DocumentView). d.text) c.self.view_is) in
    subst (λ (t : List ℕ). (found.result ≡ Some at) ↔ StandsAt t c.args.line c.args.column at) same
    (stands_exactly (text_of c.deref.result.now) c.args.line c.args.column at found.result (IsUtf8-text_of c.deref.result.now) found.ensures.some found.ensures.none)
