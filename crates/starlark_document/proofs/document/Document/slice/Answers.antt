use Rattle.std.proofs.Common.{ap, ◌∙◌, arith, string_bytes}
use Rattle.starlark_document.specs.Documents.{DocumentView}
use Rattle.starlark_document.proofs.Slices.{held_cut, held_of, held_range, IsHeld}
use Rattle.starlark_document.proofs.document.Document.slice.Goals as goal
use Rattle.starlark_document.proofs.document.Document.slice.Goals.{After-as_str}

-- the text of the segments that hold the range
held : (c : After-as_str) → IsHeld c.self.inside.segments.items c.in-Some.field-0.first c.in-Some.field-0.last c.args.self.now.text c.as_str.result.now c.args.from c.args.to
held c =
    held_of c.self.inside.segments.items c.deref.result.now c.deref-2.result.now c.in-Some.field-0 c.args.self.now.text c.as_str.result.now (string_bytes c.append_texts.new.text) (string_bytes c.new-text.result) c.args.from c.args.to
    c.self.invariant.0 (ap (λ (d : DocumentView). d.text) c.self.view_is) c.deref.ensures.value c.in-Some.ensures.some
    c.deref-2.ensures.value c.new-text.ensures.bytes c.in_ok-append_texts.ensures c.as_str.ensures.value

pub range-requires-clause-start_boundary : goal.range-requires-clause-start_boundary
range-requires-clause-start_boundary c = λ positive.
    let is = held (goal.at.range-requires-clause-start_boundary c).After-as_str in
    held_cut c.self.inside.segments.items c.in-Some.field-0.first c.in-Some.field-0.last c.args.self.now.text c.as_str.result.now c.args.from c.args.to c.args.from is (omega arith) is.range.0 is.range.1

pub range-requires-clause-end_boundary : goal.range-requires-clause-end_boundary
range-requires-clause-end_boundary c =
    let is = held (goal.at.range-requires-clause-end_boundary c).After-as_str in
    held_cut c.self.inside.segments.items c.in-Some.field-0.first c.in-Some.field-0.last c.args.self.now.text c.as_str.result.now c.args.from c.args.to c.args.to is is.range.0 (omega arith) is.range.2

pub returns-clause-text : goal.returns-clause-text
returns-clause-text c =
    c.in_ok-from_str.ensures.ok ∙ c.range.ensures.value
    ∙ held_range c.self.inside.segments.items c.in-Some.field-0.first c.in-Some.field-0.last c.args.self.now.text c.as_str.result.now c.args.from c.args.to (held (goal.at.returns-clause-text c).After-as_str)
