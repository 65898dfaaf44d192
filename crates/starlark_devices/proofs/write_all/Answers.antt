use Rattle.std.proofs.Common.{◌≡◌, ◌<◌, Err, Ok, arith, drop, drop_of_length-le, length, length-drop, refl, rules, take, take-append-drop}
use Rattle.std.proofs.lemmas.List.{take_rest}
use Rattle.starlark_devices.specs.Calls.{WritesText, Wrote}
use Rattle.starlark_devices.proofs.Calls.{keeps_none, offers_failed, offers_more, offers_nothing, offers_start, offers_whole, went_broken, went_more, went_nil}
use Rattle.starlark_devices.proofs.write_all.Goals as goal

pub loop-written-init : goal.loop-written-init
loop-written-init g c = record {
  within = omega arith;
  taken = went_nil g.W.WriteDevice.calls c.args.writer.now;
  offered = offers_start g.W.WriteDevice.calls c.args.writer.now c.args.bytes.now;
}

pub loop-written-preserved : goal.loop-written-preserved
loop-written-preserved g c =
    let inv = c.loop-written.invariant in
    let bytes = c.args.bytes.now in
    let written = c.loop-written.written in
    let bound = rw take_rest at c.in-Ok.ensures.bound in
    let more = rw take_rest at c.in-Ok.ensures.bytes in
    let call = rw take_rest at c.in-Ok.ensures.call in
    let some = c.in-Ok.count-test.1 in
    record {
      within = omega (arith, inv.within, bound, length-drop written bytes);
      taken = went_more g.W.WriteDevice.calls _ _ _ bytes written c.in-Ok.count inv.taken more call (omega (arith, some));
      offered = offers_more g.W.WriteDevice.calls _ _ _ bytes written c.in-Ok.count inv.offered call;
    }

pub returns-in-Ok-eq0-clause-text : goal.returns-in-Ok-eq0-clause-text
unfolding WritesText
returns-in-Ok-eq0-clause-text g c =
    let inv = c.loop-written.invariant in
    let bytes = c.args.bytes.now in
    let written = c.loop-written.written in
    let zero : c.in-Ok-eq0.field-0 ≡ 0 = search rules in
    let none = rw zero at c.in-Ok-eq0.ensures.bytes in
    let call = rw take_rest at c.in-Ok-eq0.ensures.call in
    let some : 0 < length (drop written bytes) = omega (arith, c.loop-written-test.true, length-drop written bytes) in
    let last = Wrote (drop written bytes) (Ok c.in-Ok-eq0.field-0) c.write_once.new.self in
    (take written bytes, drop written bytes, went_broken g.W.WriteDevice.calls _ _ _ _ last _ inv.taken (keeps_none _ _ none) (call, refl) (zero, some, c.from.ensures), take-append-drop written bytes)

pub returns-in-Err-clause-text : goal.returns-in-Err-clause-text
unfolding WritesText
returns-in-Err-clause-text g c =
    let inv = c.loop-written.invariant in
    let bytes = c.args.bytes.now in
    let written = c.loop-written.written in
    let call = rw take_rest at c.in-Err.ensures.call in
    let last = Wrote (drop written bytes) (Err c.in-Err.error) c.write_once.new.self in
    (take written bytes, drop written bytes, went_broken g.W.WriteDevice.calls _ _ _ _ last _ inv.taken c.in-Err.ensures.bytes (call, refl) refl, take-append-drop written bytes)

pub returns-in-Ok-eq0-clause-offers : goal.returns-in-Ok-eq0-clause-offers
returns-in-Ok-eq0-clause-offers g c =
    (_, offers_nothing g.W.WriteDevice.calls _ _ _ c.args.bytes.now _ _ c.loop-written.invariant.offered (rw take_rest at c.in-Ok-eq0.ensures.call))

pub returns-in-Err-clause-offers : goal.returns-in-Err-clause-offers
returns-in-Err-clause-offers g c =
    (_, offers_failed g.W.WriteDevice.calls _ _ _ c.args.bytes.now _ _ c.loop-written.invariant.offered (rw take_rest at c.in-Err.ensures.call))

pub returns-clause-offers : goal.returns-clause-offers
returns-clause-offers g c =
    offers_whole g.W.WriteDevice.calls _ _ c.args.bytes.now _ c.loop-written.invariant.offered (drop_of_length-le c.args.bytes.now (omega (arith, c.loop-written-test.false)))
