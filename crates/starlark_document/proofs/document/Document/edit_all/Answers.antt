use Rattle.std.proofs.Common.{ap, ◌∙◌, subst, arith, refl}
use Rattle.starlark_document.specs.Documents.{AreEdits, text_after}
use Rattle.starlark_document.proofs.EditLists.{all_taken, made_more, same_text, stopped}
use Rattle.starlark_document.proofs.document.Document.edit_all.Goals as goal

pub loop-index-init : goal.loop-index-init
loop-index-init c = (omega arith, tt, refl)

pub returns-in-Err-clause-stopped : goal.returns-in-Err-clause-stopped
returns-in-Err-clause-stopped c =
    stopped c.args.self.now.text c.loop-index.self.text c.edit.new.self.text c.args.edits.now c.loop-index.index _ c.edit.result c.in-Err.error c.loop-index-test.true
    c.loop-index.invariant.1 c.loop-index.invariant.2 c.in-Err.is (same_text c.edit.result c.loop-index.self c.edit.new.self c.edit.ensures.refused) c.edit.ensures.range c.edit.ensures.too_long

pub loop-index-preserved : goal.loop-index-preserved
loop-index-preserved c =
    made_more c.args.self.now.text c.loop-index.self.text c.edit.new.self.text c.args.edits.now c.loop-index.index _ c.edit.result c.in_default.field-0 c.loop-index-test.true
    c.loop-index.invariant.1 c.loop-index.invariant.2 c.in_default.is c.edit.ensures.text c.edit.ensures.range c.edit.ensures.too_long

pub returns-clause-text : goal.returns-clause-text
returns-clause-text c = c.loop-index.invariant.2 ∙ ap (λ es. text_after es c.args.self.now.text) (all_taken c.args.edits.now c.loop-index.index c.loop-index-test.false)

pub returns-clause-fit : goal.returns-clause-fit
returns-clause-fit c = subst (AreEdits c.args.self.now.text) (all_taken c.args.edits.now c.loop-index.index c.loop-index-test.false) c.loop-index.invariant.1

pub returns-clause-count : goal.returns-clause-count
returns-clause-count c = refl
