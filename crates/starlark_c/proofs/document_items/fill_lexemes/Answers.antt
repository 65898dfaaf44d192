use Rattle.std.proofs.Common.{ap, arith}
use Rattle.starlark_c.proofs.Recovered.{done_none, values_within}
use Rattle.starlark_c.proofs.TouchingItems.{done_one, done_same, fewer_one, fills_full, fills_whole, items_touching, pass_one, rest_one, stop_one, touch_one}
use Rattle.starlark_token.specs.TextItems.{Given}
use Rattle.starlark_c.proofs.document_items.fill_lexemes.Goals as goal

pub loop-begin-init : goal.loop-begin-init
loop-begin-init c = (c.requires, done_none _ _)

pub returns-then-to-begin : goal.returns-then-to-begin
returns-then-to-begin c =
    let none = stop_one Given c.args.from c.args.to c.loop-begin.left _ c.in-Some.ensures.some (omega (arith, c.if-to-begin.true)) c.loop-begin.invariant.0 in
    fills_whole _ _ _ _ c.loop-begin.filled c.loop-begin.invariant.1 none

pub add_token-requires-clause-values_within : goal.add_token-requires-clause-values_within
add_token-requires-clause-values_within c = values_within _ _ _ _ c.loop-begin.filled c.loop-begin.invariant.1

pub add_token-requires-clause-begin : goal.add_token-requires-clause-begin
add_token-requires-clause-begin c = (rest_one c.loop-begin.left c.next.new.self _ c.in-Some.ensures.some c.in-Some.ensures.after c.loop-begin.invariant.0).begin

pub add_token-requires-clause-end : goal.add_token-requires-clause-end
add_token-requires-clause-end c = (rest_one c.loop-begin.left c.next.new.self _ c.in-Some.ensures.some c.in-Some.ensures.after c.loop-begin.invariant.0).end

pub loop-begin-smaller-in-Ok : goal.loop-begin-smaller-in-Ok
loop-begin-smaller-in-Ok c = fewer_one c.loop-begin.left c.next.new.self _ c.in-Some.ensures.some c.in-Some.ensures.after

pub loop-begin-preserved-in-Ok : goal.loop-begin-preserved-in-Ok
loop-begin-preserved-in-Ok c =
    let found = c.in-Some.ensures in
    let rest = rest_one c.loop-begin.left c.next.new.self _ found.some found.after c.loop-begin.invariant.0 in
    let first = touch_one Given c.args.from c.args.to c.loop-begin.left c.next.new.self _ found.some found.after (omega (arith, c.if-from-end.true)) (omega (arith, c.if-to-begin.false)) in
    (rest.rest, done_one _ _ _ _ _ _ _ c.loop-begin.filled c.in-Ok.more c.loop-begin.invariant.1 first c.in-Ok.ensures)

pub want_lexemes-wanted-requires : goal.want_lexemes-wanted-requires
want_lexemes-wanted-requires c = (rest_one c.loop-begin.left c.next.new.self _ c.in-Some.ensures.some c.in-Some.ensures.after c.loop-begin.invariant.0).rest

pub returns-in-Err : goal.returns-in-Err
returns-in-Err c =
    let found = c.in-Some.ensures in
    let first = touch_one Given c.args.from c.args.to c.loop-begin.left c.next.new.self _ found.some found.after (omega (arith, c.if-from-end.true)) (omega (arith, c.if-to-begin.false)) in
    fills_full _ _ _ _ _ _ _ c.loop-begin.filled c.in-Err.wanted c.want_lexemes-wanted.result c.loop-begin.invariant.1 first c.in-Err.ensures c.want_lexemes-wanted.ensures

pub loop-begin-smaller : goal.loop-begin-smaller
loop-begin-smaller c = fewer_one c.loop-begin.left c.next.new.self _ c.in-Some.ensures.some c.in-Some.ensures.after

pub loop-begin-preserved : goal.loop-begin-preserved
loop-begin-preserved c =
    let passed = pass_one Given c.args.from c.args.to c.loop-begin.left c.next.new.self _ c.in-Some.ensures.some c.in-Some.ensures.after c.loop-begin.invariant.0 (omega (arith, c.if-from-end.false)) in
    (passed.rest, done_same _ _ _ _ _ c.loop-begin.filled c.loop-begin.invariant.1 passed.same)

pub returns : goal.returns
returns c =
    fills_whole _ _ _ _ c.loop-begin.filled c.loop-begin.invariant.1 (ap (items_touching Given c.args.from c.args.to) (c.next.ensures.none c.in_default.is))
