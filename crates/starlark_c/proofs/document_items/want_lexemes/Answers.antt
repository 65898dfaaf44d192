use Rattle.std.proofs.Common.{ap, arith, refl, sym, ◌∙◌}
use Rattle.starlark_c.specs.RecoveredTexts.{capped_counts, sums}
use Rattle.starlark_c.proofs.TouchingItems.{fewer_one, items_touching, pass_one, rest_one, stop_one, touch_one, want_none, want_one}
use Rattle.starlark_c.specs.Inner.Recovering.{wanted_on}
use Rattle.starlark_token.specs.TextItems.{Given}
use Rattle.starlark_c.proofs.document_items.want_lexemes.Goals as goal

pub loop-begin-init : goal.loop-begin-init
loop-begin-init c = (c.requires, refl)

pub returns-then-to-begin : goal.returns-then-to-begin
returns-then-to-begin c =
    want_none c.loop-begin.wanted _ (stop_one Given c.args.from c.args.to c.loop-begin.left _ c.in-Some.ensures.some (omega (arith, c.if-to-begin.true)) c.loop-begin.invariant.0)
    ∙ c.loop-begin.invariant.1

pub loop-begin-smaller-then-from-end : goal.loop-begin-smaller-then-from-end
loop-begin-smaller-then-from-end c = fewer_one c.loop-begin.left c.next.new.self _ c.in-Some.ensures.some c.in-Some.ensures.after

pub loop-begin-preserved-then-from-end : goal.loop-begin-preserved-then-from-end
loop-begin-preserved-then-from-end c =
    let found = c.in-Some.ensures in
    let rest = rest_one c.loop-begin.left c.next.new.self _ found.some found.after c.loop-begin.invariant.0 in
    let first = touch_one Given c.args.from c.args.to c.loop-begin.left c.next.new.self _ found.some found.after (omega (arith, c.if-from-end.true)) (omega (arith, c.if-to-begin.false)) in (
      rest.rest,
      want_one c.loop-begin.wanted c.plus-wanted.result _ _ _ first (c.plus-wanted.ensures ∙ ap (λ k. capped_counts (sums c.loop-begin.wanted k)) (c.token_counts.ensures 0 0 c.loop-begin.wanted))
          ∙ c.loop-begin.invariant.1,
    )

pub loop-begin-smaller : goal.loop-begin-smaller
loop-begin-smaller c = fewer_one c.loop-begin.left c.next.new.self _ c.in-Some.ensures.some c.in-Some.ensures.after

pub loop-begin-preserved : goal.loop-begin-preserved
loop-begin-preserved c =
    let passed = pass_one Given c.args.from c.args.to c.loop-begin.left c.next.new.self _ c.in-Some.ensures.some c.in-Some.ensures.after c.loop-begin.invariant.0 (omega (arith, c.if-from-end.false)) in
    (passed.rest, sym (ap (wanted_on c.loop-begin.wanted) passed.same) ∙ c.loop-begin.invariant.1)

pub returns : goal.returns
returns c =
    want_none c.loop-begin.wanted _ (ap (items_touching Given c.args.from c.args.to) (c.next.ensures.none c.in_default.is)) ∙ c.loop-begin.invariant.1
