use Rattle.std.proofs.Common.{◌≡◌, ◌-◌, ◌++◌, ◌∙◌, sym, ap, arith, refl}
use Rattle.std.specs.Prelude.{string_bytes}
use Rattle.std.proofs.lemmas.List.{get_or_default}
use Rattle.starlark_document.proofs.Splices.{earlier, earlier_fits}
use Rattle.starlark_document.specs.Inner.Segments.{text_in}
use Rattle.starlark_document.specs.declared.segments.Segment.{Segment}
use Rattle.starlark_document.proofs.edited_parts.with_earlier.Goals as goal

pub overflow_sub-result : goal.overflow_sub-result
overflow_sub-result c =
    let x = c.index-segments-index-2.result in
    let is = c.index-segments-index-2.is in
    let fits = earlier_fits c.args.segments.now c.args.part x c.requires.laid (omega arith) is c.requires.part.0 c.requires.part.1 in
    omega (arith, fits, ap (λ (s : Segment). s.len) is)

pub returns-clause-part : goal.returns-clause-part
returns-clause-part c = λ whole replaced.
    let x = c.index-segments-index-2.result in
    let is = c.index-segments-index-2.is in
    let same : c.index-segments-index.result ≡ x = c.index-segments-index.is ∙ get_or_default c.args.segments.now (c.args.part.first.index - 1) c.index-segments-index.result x (omega (arith, replaced.order, replaced.within)) ∙ sym is in
    let text : string_bytes c.push_str.new.self ≡ text_in x ++ string_bytes c.args.part.text = cc (c.in_ok-push_str.ensures.bytes, c.in_ok-text.ensures.ok, c.deref.ensures, c.as_str.ensures.value, c.as_str-2.ensures.value) in
    earlier c.args.segments.now c.args.part x c.requires.laid (omega arith) is whole _ replaced refl (ap (λ (s : Segment). c.args.part.first.begin - s.len) (sym is)) refl text
