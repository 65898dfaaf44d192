use Rattle.std.proofs.Common.{ap, arith, refl, sym, ◌∙◌}
use Rattle.starlark_c.specs.RecoveredTexts.{capped_counts, sums}
use Rattle.starlark_c.proofs.TouchingItems.{fewer_one, items_touching, pass_one, rest_one, stop_one, touch_one, want_none, want_one}
use Rattle.starlark_c.specs.Inner.Recovering.{wanted_on}
use Rattle.starlark_token.specs.TextItems.{Refused}
use Rattle.starlark_c.proofs.document_items.want_faults.Goals as goal

pub loop-begin-init : goal.loop-begin-init
loop-begin-init c = (c.requires, refl)

pub returns-then-to-begin : goal.returns-then-to-begin
returns-then-to-begin c =
    want_none c.loop-begin.wanted _ (stop_one Refused c.args.from c.args.to c.loop-begin.left c.in-Some.ensures.some.0 c.in-Some.ensures.some.1 (omega (arith, c.if-to-begin.true, c.in-Some.ensures.some.2)) c.loop-begin.invariant.0)
    ∙ c.loop-begin.invariant.1

pub error_counts-requires : goal.error_counts-requires
error_counts-requires c =
    let found = c.in-Some.ensures.some in
    (found.0.node, c.error_of_kind.ensures found.0.node found.3)

pub loop-begin-smaller-then-from-end : goal.loop-begin-smaller-then-from-end
loop-begin-smaller-then-from-end c = fewer_one c.loop-begin.left c.next.new.self c.in-Some.ensures.some.0 c.in-Some.ensures.some.1 c.in-Some.ensures.after

pub loop-begin-preserved-then-from-end : goal.loop-begin-preserved-then-from-end
loop-begin-preserved-then-from-end c =
    let found = c.in-Some.ensures in
    let fault = found.some.0 in
    let rest = rest_one c.loop-begin.left c.next.new.self fault found.some.1 found.after c.loop-begin.invariant.0 in
    let first = touch_one Refused c.args.from c.args.to c.loop-begin.left c.next.new.self fault found.some.1 found.after (omega (arith, c.if-from-end.true, found.some.4)) (omega (arith, c.if-to-begin.false, found.some.2)) in (
      rest.rest,
      want_one c.loop-begin.wanted c.plus-wanted.result _ _ _ first (c.plus-wanted.ensures ∙ ap (λ k. capped_counts (sums c.loop-begin.wanted k)) (c.error_counts.ensures fault.node 0 0 c.loop-begin.wanted (c.error_of_kind.ensures fault.node found.some.3)))
          ∙ c.loop-begin.invariant.1,
    )

pub loop-begin-smaller : goal.loop-begin-smaller
loop-begin-smaller c = fewer_one c.loop-begin.left c.next.new.self c.in-Some.ensures.some.0 c.in-Some.ensures.some.1 c.in-Some.ensures.after

pub loop-begin-preserved : goal.loop-begin-preserved
loop-begin-preserved c =
    let passed = pass_one Refused c.args.from c.args.to c.loop-begin.left c.next.new.self c.in-Some.ensures.some.0 c.in-Some.ensures.some.1 c.in-Some.ensures.after c.loop-begin.invariant.0 (omega (arith, c.if-from-end.false, c.in-Some.ensures.some.4)) in
    (passed.rest, sym (ap (wanted_on c.loop-begin.wanted) passed.same) ∙ c.loop-begin.invariant.1)

pub returns : goal.returns
returns c =
    want_none c.loop-begin.wanted _ (ap (items_touching Refused c.args.from c.args.to) (c.next.ensures.none c.in_default.is)) ∙ c.loop-begin.invariant.1
