use Rattle.std.proofs.Common.{[], Ok, Err, ap, arith}
use Rattle.starlark_c.proofs.Recovered.{done_none, values_within}
use Rattle.starlark_c.proofs.TouchingItems.{done_one, done_same, fewer_one, fills_full, fills_whole, items_touching, of_fault, pass_one, rest_one, stop_one, touch_one}
use Rattle.starlark_token.specs.TextItems.{Refused}
use Rattle.starlark_c.proofs.document_items.fill_faults.Goals as goal

pub loop-begin-init : goal.loop-begin-init
loop-begin-init c = (c.requires, done_none _ _)

pub returns-then-to-begin : goal.returns-then-to-begin
returns-then-to-begin c =
    let none = stop_one Refused c.args.from c.args.to c.loop-begin.left c.in-Some.ensures.some.0 c.in-Some.ensures.some.1 (omega (arith, c.if-to-begin.true, c.in-Some.ensures.some.2)) c.loop-begin.invariant.0 in
    fills_whole _ _ _ _ c.loop-begin.filled c.loop-begin.invariant.1 none

pub add_error-requires-clause-values_within : goal.add_error-requires-clause-values_within
add_error-requires-clause-values_within c = values_within _ _ _ _ c.loop-begin.filled c.loop-begin.invariant.1

pub add_error-requires-clause-begin : goal.add_error-requires-clause-begin
add_error-requires-clause-begin c =
    let found = c.in-Some.ensures in
    omega (arith, (rest_one c.loop-begin.left c.next.new.self found.some.0 found.some.1 found.after c.loop-begin.invariant.0).begin, found.some.2)

pub add_error-requires-clause-end : goal.add_error-requires-clause-end
add_error-requires-clause-end c =
    let found = c.in-Some.ensures in
    omega (arith, (rest_one c.loop-begin.left c.next.new.self found.some.0 found.some.1 found.after c.loop-begin.invariant.0).end, found.some.4)

pub add_error-requires-clause-fault : goal.add_error-requires-clause-fault
add_error-requires-clause-fault c =
    let found = c.in-Some.ensures.some in
    (found.0.node, c.error_of_kind.ensures found.0.node found.3)

pub loop-begin-smaller-in-Ok : goal.loop-begin-smaller-in-Ok
loop-begin-smaller-in-Ok c = fewer_one c.loop-begin.left c.next.new.self c.in-Some.ensures.some.0 c.in-Some.ensures.some.1 c.in-Some.ensures.after

pub loop-begin-preserved-in-Ok : goal.loop-begin-preserved-in-Ok
loop-begin-preserved-in-Ok c =
    let found = c.in-Some.ensures in
    let fault = found.some.0 in
    let rest = rest_one c.loop-begin.left c.next.new.self fault found.some.1 found.after c.loop-begin.invariant.0 in
    let first = touch_one Refused c.args.from c.args.to c.loop-begin.left c.next.new.self fault found.some.1 found.after (omega (arith, c.if-from-end.true, found.some.4)) (omega (arith, c.if-to-begin.false, found.some.2)) in
    (rest.rest, done_one _ _ _ _ _ _ _ c.loop-begin.filled c.in-Ok.more c.loop-begin.invariant.1 first (of_fault fault c.in-Some.begin c.in-Some.end c.loop-begin.filled (record { lexemes = []; values = c.loop-begin.values; faults = c.loop-begin.faults }) (record { lexemes = []; values = c.add_error.new.values; faults = c.add_error.new.faults }) (Ok c.in-Ok.more) found.some.2 found.some.4 (c.in-Ok.ensures fault.node (c.error_of_kind.ensures fault.node found.some.3))))

pub want_faults-wanted-requires : goal.want_faults-wanted-requires
want_faults-wanted-requires c = (rest_one c.loop-begin.left c.next.new.self c.in-Some.ensures.some.0 c.in-Some.ensures.some.1 c.in-Some.ensures.after c.loop-begin.invariant.0).rest

pub returns-in-Err : goal.returns-in-Err
returns-in-Err c =
    let found = c.in-Some.ensures in
    let fault = found.some.0 in
    let first = touch_one Refused c.args.from c.args.to c.loop-begin.left c.next.new.self fault found.some.1 found.after (omega (arith, c.if-from-end.true, found.some.4)) (omega (arith, c.if-to-begin.false, found.some.2)) in
    fills_full _ _ _ _ _ _ _ c.loop-begin.filled c.in-Err.wanted c.want_faults-wanted.result c.loop-begin.invariant.1 first (of_fault fault c.in-Some.begin c.in-Some.end c.loop-begin.filled (record { lexemes = []; values = c.loop-begin.values; faults = c.loop-begin.faults }) (record { lexemes = []; values = c.add_error.new.values; faults = c.add_error.new.faults }) (Err c.in-Err.wanted) found.some.2 found.some.4 (c.in-Err.ensures fault.node (c.error_of_kind.ensures fault.node found.some.3))) c.want_faults-wanted.ensures

pub loop-begin-smaller : goal.loop-begin-smaller
loop-begin-smaller c = fewer_one c.loop-begin.left c.next.new.self c.in-Some.ensures.some.0 c.in-Some.ensures.some.1 c.in-Some.ensures.after

pub loop-begin-preserved : goal.loop-begin-preserved
loop-begin-preserved c =
    let passed = pass_one Refused c.args.from c.args.to c.loop-begin.left c.next.new.self c.in-Some.ensures.some.0 c.in-Some.ensures.some.1 c.in-Some.ensures.after c.loop-begin.invariant.0 (omega (arith, c.if-from-end.false, c.in-Some.ensures.some.4)) in
    (passed.rest, done_same _ _ _ _ _ c.loop-begin.filled c.loop-begin.invariant.1 passed.same)

pub returns : goal.returns
returns c =
    fills_whole _ _ _ _ c.loop-begin.filled c.loop-begin.invariant.1 (ap (items_touching Refused c.args.from c.args.to) (c.next.ensures.none c.in_default.is))
