use Rattle.std.proofs.Common.{◌≡◌, ◌∙◌, ap, arith, length, List}
use Rattle.std.specs.List.{splice}
use Rattle.starlark_document.proofs.Splices.{drained, spliced_one}
use Rattle.starlark_document.specs.declared.segments.Segment.{Segment}
use Rattle.starlark_document.proofs.document.put_segments.Goals as goal

pub returns-then-len-eq1-clause-items : goal.returns-then-len-eq1-clause-items
returns-then-len-eq1-clause-items c =
    let one : length c.args.new.items ≡ 1 = omega (arith, c.if-len-eq1.true, c.len.ensures, c.args.new.ok.0) in
    spliced_one c.args.segments.now.items c.args.new.items c.args.from c.args.to c.swap_remove.result c.if-to-from-eq1.true c.requires.order c.requires.within one c.swap_remove.ensures.value

pub returns-clause-items : goal.returns-clause-items
returns-clause-items c =
    let all = c.in_ok-splice.ensures.items in
    let same : all.1 ≡ c.args.new.items = drained c.args.new.items all.0 all.1 all.2.0 (all.2.1 ∙ c.args.new.ok.0) all.3 in
    all.4 ∙ ap (λ (xs : List Segment). splice c.args.segments.now.items c.args.from c.args.to xs) same
