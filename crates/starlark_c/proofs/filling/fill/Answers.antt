use Rattle.std.proofs.Common.{◌≡◌, ◌+◌, ◌∙◌, refl, ap, arith, inl, subst, sym}
use Rattle.starlark_c.specs.Inner.Filling.{IsLastStop}
use Rattle.starlark_c.specs.declared.fill_state.FillState.{FillState}
use Rattle.starlark_c.specs.declared.fill_state.CutPoint.{CutPoint}
use Rattle.starlark_c.proofs.TextParts.{home_of}
use Rattle.starlark_c.proofs.Ends.{ends_whole}
use Rattle.starlark_c.proofs.Filled.{hold_none, values_nil}
use Rattle.starlark_c.proofs.YieldedItems.{given_next, next_fault, next_lexeme, next_none}
use Rattle.starlark_c.proofs.NextLexemes.{HasFilled, IsGoing, ends_without_room, goes_on_with, has_filled_more, has_stopped, may_stop, wanted_with_next}
use Rattle.starlark_c.proofs.LastStops.{fault_last, last_of_all}
use Rattle.starlark_c.proofs.CutEnds.{none_after}
use Rattle.starlark_c.proofs.Stops.{ends_at_fault, fault_filled}
use Rattle.starlark_lexemes.specs.Lexer.{LexerView}
use Rattle.starlark_lexemes.specs.PlainLexemes.{plain_view}
use Rattle.starlark_token.specs.Lexemes.{lexeme_view}
use Rattle.starlark_c.proofs.filling.fill.Goals as goal

pub loop-plain-init : goal.loop-plain-init
loop-plain-init g c =
    let fresh = c.requires.fresh in
    let none : c.args.lexer.now.yielded_count ≡ 0 = ap (λ (l : LexerView). l.yielded_count) fresh in
    rw none (record {
      going = ap (λ (l : LexerView). l.has_ended) fresh;
      text = ap (λ (l : LexerView). l.text) fresh;
      few = omega arith;
      hold = hold_none (home_of g.row.STAYS c.args.text.now) _;
      filled = ap (λ (p : FillState). p.filled) c.new-progress.ensures ∙ rw (values_nil (home_of g.row.STAYS c.args.text.now)) refl;
      stop = inl (ap (λ (p : FillState). p.stop.filled.lexemes) c.new-progress.ensures);
      kind = ap (λ (p : FillState). p.stop.is_front) c.new-progress.ensures;
      last = λ more at later few is. omega (arith, later, few);
    })

pub take_plain-requires-clause-plain : goal.take_plain-requires-clause-plain
take_plain-requires-clause-plain g c = let inv = c.loop-plain.invariant in (rw inv.text at (c.in-Plain.ensures.item inv.going)).1

pub is_last_of_line-requires : goal.is_last_of_line-requires
is_last_of_line-requires g c = let inv = c.loop-plain.invariant in (c.in-Plain.ensures.item inv.going).1.kind

pub loop-plain-smaller-in-Plain : goal.loop-plain-smaller-in-Plain
loop-plain-smaller-in-Plain g c =
    let inv = c.loop-plain.invariant in
    let text = c.args.text.now in
    let n = c.loop-plain.lexer.yielded_count in
    let x = plain_view text c.in-Plain.plain in
    let next = given_next text n x (rw inv.text at (c.in-Plain.ensures.item inv.going)).0 in
    let had : HasFilled (home_of g.row.STAYS c.args.text.now) text n c.loop-plain.progress _ _ = record { few = inv.few; hold = inv.hold; filled = inv.filled; stop = inv.stop } in
    let on = goes_on_with text n _ _ c.loop-plain.lexer c.step.new.self (record { going = inv.going; text_is = inv.text; count = refl }) c.in-Plain.ensures.after in
    omega (arith, on.count, next.some)

pub stop_after-requires-clause-may : goal.stop_after-requires-clause-may
stop_after-requires-clause-may g c =
    let inv = c.loop-plain.invariant in
    let text = c.args.text.now in
    let n = c.loop-plain.lexer.yielded_count in
    let x = plain_view text c.in-Plain.plain in
    let next = given_next text n x (rw inv.text at (c.in-Plain.ensures.item inv.going)).0 in
    let had : HasFilled (home_of g.row.STAYS c.args.text.now) text n c.loop-plain.progress _ _ = record { few = inv.few; hold = inv.hold; filled = inv.filled; stop = inv.stop } in
    let on = goes_on_with text n _ _ c.loop-plain.lexer c.step.new.self (record { going = inv.going; text_is = inv.text; count = refl }) c.in-Plain.ensures.after in
    let put = has_filled_more (home_of g.row.STAYS c.args.text.now) text n x c.loop-plain.progress c.take_plain.new.progress _ _ _ _ had next c.in_default.ensures in
    rw on.count (may_stop (home_of g.row.STAYS c.args.text.now) text n c.take_plain.new.progress _ _ put (subst (IsLastStop text n) (sym c.in_default.ensures.1) inv.last))

pub stop_after-requires-clause-none : goal.stop_after-requires-clause-none
stop_after-requires-clause-none g c = λ other at is.
    let inv = c.loop-plain.invariant in
    let text = c.args.text.now in
    let n = c.loop-plain.lexer.yielded_count in
    let x = plain_view text c.in-Plain.plain in
    let next = given_next text n x (rw inv.text at (c.in-Plain.ensures.item inv.going)).0 in
    let on = goes_on_with text n _ _ c.loop-plain.lexer c.step.new.self (record { going = inv.going; text_is = inv.text; count = refl }) c.in-Plain.ensures.after in
    none_after text n at x next (sym (c.is_last_of_line.ensures text) ∙ other) (rw on.count at is)

pub loop-plain-preserved-in-Plain : goal.loop-plain-preserved-in-Plain
loop-plain-preserved-in-Plain g c =
    let inv = c.loop-plain.invariant in
    let text = c.args.text.now in
    let n = c.loop-plain.lexer.yielded_count in
    let x = plain_view text c.in-Plain.plain in
    let next = given_next text n x (rw inv.text at (c.in-Plain.ensures.item inv.going)).0 in
    let had : HasFilled (home_of g.row.STAYS c.args.text.now) text n c.loop-plain.progress _ _ = record { few = inv.few; hold = inv.hold; filled = inv.filled; stop = inv.stop } in
    let on = goes_on_with text n _ _ c.loop-plain.lexer c.step.new.self (record { going = inv.going; text_is = inv.text; count = refl }) c.in-Plain.ensures.after in
    let put = has_filled_more (home_of g.row.STAYS c.args.text.now) text n x c.loop-plain.progress c.take_plain.new.progress _ _ _ _ had next c.in_default.ensures in
    let more = has_stopped (home_of g.row.STAYS c.args.text.now) text (n + 1) c.take_plain.new.progress c.stop_after.new.progress _ _ put c.stop_after.ensures.filled (rw on.count at c.stop_after.ensures.stop) in
    let kind = c.stop_after.ensures.kind ∙ ap (λ (t : CutPoint). t.is_front) c.in_default.ensures.1 ∙ inv.kind in
    rw on.count (record { going = on.going; text = on.text_is; few = more.few; hold = more.hold; filled = more.filled; stop = more.stop; kind = kind; last = rw on.count at c.stop_after.ensures.last })

pub overflow-requires-clause-few : goal.overflow-requires-clause-few
overflow-requires-clause-few g c =
    let inv = c.loop-plain.invariant in
    let text = c.args.text.now in
    let n = c.loop-plain.lexer.yielded_count in
    let x = plain_view text c.in-Plain.plain in
    let next = given_next text n x (rw inv.text at (c.in-Plain.ensures.item inv.going)).0 in
    let had : HasFilled (home_of g.row.STAYS c.args.text.now) text n c.loop-plain.progress _ _ = record { few = inv.few; hold = inv.hold; filled = inv.filled; stop = inv.stop } in
    let on = goes_on_with text n _ _ c.loop-plain.lexer c.step.new.self (record { going = inv.going; text_is = inv.text; count = refl }) c.in-Plain.ensures.after in
    rw on.count next.few

pub overflow-requires-clause-counted : goal.overflow-requires-clause-counted
overflow-requires-clause-counted g c =
    let inv = c.loop-plain.invariant in
    let text = c.args.text.now in
    let n = c.loop-plain.lexer.yielded_count in
    let x = plain_view text c.in-Plain.plain in
    let next = given_next text n x (rw inv.text at (c.in-Plain.ensures.item inv.going)).0 in
    let had : HasFilled (home_of g.row.STAYS c.args.text.now) text n c.loop-plain.progress _ _ = record { few = inv.few; hold = inv.hold; filled = inv.filled; stop = inv.stop } in
    let on = goes_on_with text n _ _ c.loop-plain.lexer c.step.new.self (record { going = inv.going; text_is = inv.text; count = refl }) c.in-Plain.ensures.after in
    rw on.count (wanted_with_next (home_of g.row.STAYS c.args.text.now) text n x c.loop-plain.progress c.take_plain.new.progress _ _ _ c.in-Err.passed had next c.in-Err.ensures)

pub returns-in-Err : goal.returns-in-Err
returns-in-Err g c =
    let inv = c.loop-plain.invariant in
    let text = c.args.text.now in
    let n = c.loop-plain.lexer.yielded_count in
    let x = plain_view text c.in-Plain.plain in
    let next = given_next text n x (rw inv.text at (c.in-Plain.ensures.item inv.going)).0 in
    let had : HasFilled (home_of g.row.STAYS c.args.text.now) text n c.loop-plain.progress _ _ = record { few = inv.few; hold = inv.hold; filled = inv.filled; stop = inv.stop } in
    let on = goes_on_with text n _ _ c.loop-plain.lexer c.step.new.self (record { going = inv.going; text_is = inv.text; count = refl }) c.in-Plain.ensures.after in
    ends_without_room (home_of g.row.STAYS c.args.text.now) text n x c.loop-plain.progress c.take_plain.new.progress _ _ _ c.in-Err.passed c.overflow.result _ c.requires.text inv.kind had inv.last next c.in-Err.ensures (rw on.count at c.overflow.ensures)

pub loop-plain-smaller : goal.loop-plain-smaller
loop-plain-smaller g c =
    let inv = c.loop-plain.invariant in
    let text = c.args.text.now in
    let n = c.loop-plain.lexer.yielded_count in
    let lexer = c.loop-plain.lexer in
    let had : HasFilled (home_of g.row.STAYS c.args.text.now) text n c.loop-plain.progress _ _ = record { few = inv.few; hold = inv.hold; filled = inv.filled; stop = inv.stop } in
    let was : IsGoing text n lexer = record { going = inv.going; text_is = inv.text; count = refl } in
    let found = c.in-Other-Some-Ok.lexeme in
    let next = next_lexeme lexer.code_map text n found (rw (c.in-Other-Some-Ok.field-0-is, c.in-Other-Some-Ok.field-0-0-is, inv.text) at (c.in-Other-Some-Ok.ensures.item inv.going)) in
    let on = goes_on_with text n _ _ lexer c.step.new.self was (rw (c.in-Other-Some-Ok.field-0-is, c.in-Other-Some-Ok.field-0-0-is) at c.in-Other-Some-Ok.ensures.after) in
    omega (arith, on.count, next.some)

pub stop_after-requires-in-Other-Some-Ok-clause-may : goal.stop_after-requires-in-Other-Some-Ok-clause-may
stop_after-requires-in-Other-Some-Ok-clause-may g c =
    let inv = c.loop-plain.invariant in
    let text = c.args.text.now in
    let n = c.loop-plain.lexer.yielded_count in
    let lexer = c.loop-plain.lexer in
    let had : HasFilled (home_of g.row.STAYS c.args.text.now) text n c.loop-plain.progress _ _ = record { few = inv.few; hold = inv.hold; filled = inv.filled; stop = inv.stop } in
    let was : IsGoing text n lexer = record { going = inv.going; text_is = inv.text; count = refl } in
    let found = c.in-Other-Some-Ok.lexeme in
    let next = next_lexeme lexer.code_map text n found (rw (c.in-Other-Some-Ok.field-0-is, c.in-Other-Some-Ok.field-0-0-is, inv.text) at (c.in-Other-Some-Ok.ensures.item inv.going)) in
    let on = goes_on_with text n _ _ lexer c.step.new.self was (rw (c.in-Other-Some-Ok.field-0-is, c.in-Other-Some-Ok.field-0-0-is) at c.in-Other-Some-Ok.ensures.after) in
    let put = has_filled_more (home_of g.row.STAYS c.args.text.now) text n (lexeme_view found) c.loop-plain.progress c.take_next.new.progress _ _ _ _ had next c.in_default-take_next.ensures in
    rw on.count (may_stop (home_of g.row.STAYS c.args.text.now) text n c.take_next.new.progress _ _ put (subst (IsLastStop text n) (sym c.in_default-take_next.ensures.1) inv.last))

pub loop-plain-preserved : goal.loop-plain-preserved
loop-plain-preserved g c =
    let inv = c.loop-plain.invariant in
    let text = c.args.text.now in
    let n = c.loop-plain.lexer.yielded_count in
    let lexer = c.loop-plain.lexer in
    let had : HasFilled (home_of g.row.STAYS c.args.text.now) text n c.loop-plain.progress _ _ = record { few = inv.few; hold = inv.hold; filled = inv.filled; stop = inv.stop } in
    let was : IsGoing text n lexer = record { going = inv.going; text_is = inv.text; count = refl } in
    let found = c.in-Other-Some-Ok.lexeme in
    let next = next_lexeme lexer.code_map text n found (rw (c.in-Other-Some-Ok.field-0-is, c.in-Other-Some-Ok.field-0-0-is, inv.text) at (c.in-Other-Some-Ok.ensures.item inv.going)) in
    let on = goes_on_with text n _ _ lexer c.step.new.self was (rw (c.in-Other-Some-Ok.field-0-is, c.in-Other-Some-Ok.field-0-0-is) at c.in-Other-Some-Ok.ensures.after) in
    let put = has_filled_more (home_of g.row.STAYS c.args.text.now) text n (lexeme_view found) c.loop-plain.progress c.take_next.new.progress _ _ _ _ had next c.in_default-take_next.ensures in
    let more = has_stopped (home_of g.row.STAYS c.args.text.now) text (n + 1) c.take_next.new.progress c.stop_after-in-Other-Some-Ok.new.progress _ _ put c.stop_after-in-Other-Some-Ok.ensures.filled (rw on.count at c.stop_after-in-Other-Some-Ok.ensures.stop) in
    let kind = c.stop_after-in-Other-Some-Ok.ensures.kind ∙ ap (λ (t : CutPoint). t.is_front) c.in_default-take_next.ensures.1 ∙ inv.kind in
    rw on.count (record { going = on.going; text = on.text_is; few = more.few; hold = more.hold; filled = more.filled; stop = more.stop; kind = kind; last = rw on.count at c.stop_after-in-Other-Some-Ok.ensures.last })

pub overflow-requires-in-Err-take_next-clause-few : goal.overflow-requires-in-Err-take_next-clause-few
overflow-requires-in-Err-take_next-clause-few g c =
    let inv = c.loop-plain.invariant in
    let text = c.args.text.now in
    let n = c.loop-plain.lexer.yielded_count in
    let lexer = c.loop-plain.lexer in
    let had : HasFilled (home_of g.row.STAYS c.args.text.now) text n c.loop-plain.progress _ _ = record { few = inv.few; hold = inv.hold; filled = inv.filled; stop = inv.stop } in
    let was : IsGoing text n lexer = record { going = inv.going; text_is = inv.text; count = refl } in
    let found = c.in-Other-Some-Ok.lexeme in
    let next = next_lexeme lexer.code_map text n found (rw (c.in-Other-Some-Ok.field-0-is, c.in-Other-Some-Ok.field-0-0-is, inv.text) at (c.in-Other-Some-Ok.ensures.item inv.going)) in
    let on = goes_on_with text n _ _ lexer c.step.new.self was (rw (c.in-Other-Some-Ok.field-0-is, c.in-Other-Some-Ok.field-0-0-is) at c.in-Other-Some-Ok.ensures.after) in
    rw on.count next.few

pub overflow-requires-in-Err-take_next-clause-counted : goal.overflow-requires-in-Err-take_next-clause-counted
overflow-requires-in-Err-take_next-clause-counted g c =
    let inv = c.loop-plain.invariant in
    let text = c.args.text.now in
    let n = c.loop-plain.lexer.yielded_count in
    let lexer = c.loop-plain.lexer in
    let had : HasFilled (home_of g.row.STAYS c.args.text.now) text n c.loop-plain.progress _ _ = record { few = inv.few; hold = inv.hold; filled = inv.filled; stop = inv.stop } in
    let was : IsGoing text n lexer = record { going = inv.going; text_is = inv.text; count = refl } in
    let found = c.in-Other-Some-Ok.lexeme in
    let next = next_lexeme lexer.code_map text n found (rw (c.in-Other-Some-Ok.field-0-is, c.in-Other-Some-Ok.field-0-0-is, inv.text) at (c.in-Other-Some-Ok.ensures.item inv.going)) in
    let on = goes_on_with text n _ _ lexer c.step.new.self was (rw (c.in-Other-Some-Ok.field-0-is, c.in-Other-Some-Ok.field-0-0-is) at c.in-Other-Some-Ok.ensures.after) in
    rw on.count (wanted_with_next (home_of g.row.STAYS c.args.text.now) text n (lexeme_view found) c.loop-plain.progress c.take_next.new.progress _ _ _ c.in-Err-take_next.passed had next c.in-Err-take_next.ensures)

pub returns-in-Err-take_next : goal.returns-in-Err-take_next
returns-in-Err-take_next g c =
    let inv = c.loop-plain.invariant in
    let text = c.args.text.now in
    let n = c.loop-plain.lexer.yielded_count in
    let lexer = c.loop-plain.lexer in
    let had : HasFilled (home_of g.row.STAYS c.args.text.now) text n c.loop-plain.progress _ _ = record { few = inv.few; hold = inv.hold; filled = inv.filled; stop = inv.stop } in
    let was : IsGoing text n lexer = record { going = inv.going; text_is = inv.text; count = refl } in
    let found = c.in-Other-Some-Ok.lexeme in
    let next = next_lexeme lexer.code_map text n found (rw (c.in-Other-Some-Ok.field-0-is, c.in-Other-Some-Ok.field-0-0-is, inv.text) at (c.in-Other-Some-Ok.ensures.item inv.going)) in
    let on = goes_on_with text n _ _ lexer c.step.new.self was (rw (c.in-Other-Some-Ok.field-0-is, c.in-Other-Some-Ok.field-0-0-is) at c.in-Other-Some-Ok.ensures.after) in
    ends_without_room (home_of g.row.STAYS c.args.text.now) text n (lexeme_view found) c.loop-plain.progress c.take_next.new.progress _ _ _ c.in-Err-take_next.passed c.overflow-in-Err-take_next.result _ c.requires.text inv.kind had inv.last next c.in-Err-take_next.ensures (rw on.count at c.overflow-in-Err-take_next.ensures)

pub returns-in-Other-Some-Err-Error : goal.returns-in-Other-Some-Err-Error
returns-in-Other-Some-Err-Error g c =
    let inv = c.loop-plain.invariant in
    let text = c.args.text.now in
    let n = c.loop-plain.lexer.yielded_count in
    let lexer = c.loop-plain.lexer in
    let had : HasFilled (home_of g.row.STAYS c.args.text.now) text n c.loop-plain.progress _ _ = record { few = inv.few; hold = inv.hold; filled = inv.filled; stop = inv.stop } in
    let was : IsGoing text n lexer = record { going = inv.going; text_is = inv.text; count = refl } in
    let last = next_fault lexer.code_map text n c.in-Other-Some-Err-Error.exception (rw (c.in-Other-Some-Err-Error.field-0-is, c.in-Other-Some-Err-Error.field-0-0-is, c.in-Other-Some-Err-Error.field-0-0-0-is, inv.text) at (c.in-Other-Some-Err-Error.ensures.item inv.going)) in
    (ends_at_fault (home_of g.row.STAYS c.args.text.now) text _ _ _ n last.fault c.loop-plain.progress c.end_at_fault-ending.result c.requires.text last.is last.all had.hold had.filled had.stop (c.end_at_fault-ending.ensures last.fault last.is), n, had.few, had.stop, inv.kind, fault_filled text last.fault c.loop-plain.progress _ _ c.end_at_fault-ending.result (c.end_at_fault-ending.ensures last.fault last.is), fault_last (home_of g.row.STAYS c.args.text.now) c.args.is_front text _ n last.fault c.loop-plain.progress _ _ c.end_at_fault-ending.result inv.kind last.is last.all had.filled inv.last (c.end_at_fault-ending.ensures last.fault last.is))

pub returns-in-Other-None : goal.returns-in-Other-None
returns-in-Other-None g c =
    let inv = c.loop-plain.invariant in
    let text = c.args.text.now in
    let n = c.loop-plain.lexer.yielded_count in
    let lexer = c.loop-plain.lexer in
    let had : HasFilled (home_of g.row.STAYS c.args.text.now) text n c.loop-plain.progress _ _ = record { few = inv.few; hold = inv.hold; filled = inv.filled; stop = inv.stop } in
    let was : IsGoing text n lexer = record { going = inv.going; text_is = inv.text; count = refl } in
    let none = next_none lexer.code_map text n (rw (c.in-Other-None.field-0-is, inv.text) at (c.in-Other-None.ensures.item inv.going)) had.few in
    (ends_whole (home_of g.row.STAYS c.args.text.now) text _ _ n c.loop-plain.progress.filled c.requires.text none.0 none.1 had.hold had.filled, n, had.few, had.stop, inv.kind, tt, last_of_all (home_of g.row.STAYS c.args.text.now) c.args.is_front text _ n c.loop-plain.progress.stop inv.kind none.1 inv.last)

pub end_at_fault-ending-requires-clause-thrown : goal.end_at_fault-ending-requires-clause-thrown
end_at_fault-ending-requires-clause-thrown g c =
    let inv = c.loop-plain.invariant in
    let text = c.args.text.now in
    let n = c.loop-plain.lexer.yielded_count in
    let lexer = c.loop-plain.lexer in
    let had : HasFilled (home_of g.row.STAYS c.args.text.now) text n c.loop-plain.progress _ _ = record { few = inv.few; hold = inv.hold; filled = inv.filled; stop = inv.stop } in
    let was : IsGoing text n lexer = record { going = inv.going; text_is = inv.text; count = refl } in
    let last = next_fault lexer.code_map text n c.in-Other-Some-Err-Error.exception (rw (c.in-Other-Some-Err-Error.field-0-is, c.in-Other-Some-Err-Error.field-0-0-is, c.in-Other-Some-Err-Error.field-0-0-0-is, inv.text) at (c.in-Other-Some-Err-Error.ensures.item inv.going)) in
    (lexer.code_map, last.within)
