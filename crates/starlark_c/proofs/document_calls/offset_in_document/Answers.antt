use Rattle.std.proofs.Common.{Some, ap, sym, ◌∙◌}
use Rattle.starlark_c.specs.declared.document_slots.DocumentSlot.{DocumentSlot}
use Rattle.starlark_c.proofs.Offsets.{offset_told}
use Rattle.starlark_c.proofs.document_calls.offset_in_document.Goals as goal

pub returns-clause-offset : goal.returns-clause-offset
returns-clause-offset c =
    let held = ap (λ (slot : DocumentSlot). slot.handle.held) (sym c.has_document.ensures.same) ∙ c.take-document.ensures.document ∙ ap Some (sym c.deref.ensures) in
    offset_told c.offset_at_utf16.result c.args.line c.args.column c.unwrap_or-at.result c.deref.result.now c.args.slot.now.handle.held held c.offset_at_utf16.ensures c.unwrap_or-at.ensures
