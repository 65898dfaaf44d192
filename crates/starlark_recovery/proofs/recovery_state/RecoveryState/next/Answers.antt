use Rattle.std.proofs.Common.{◌≡◌, ℕ, false, refl, sym, ◌∙◌, None, Some}
use Rattle.std.specs.Option.{is_some}
use Rattle.std.specs.Prelude.{Option}
use Rattle.starlark_recovery.specs.Inner.RecoveryStates.{IsAdvanced}
use Rattle.starlark_token.specs.declared.tokens.Token.{Token}
use Rattle.starlark_recovery.proofs.RecoverySteps.{advanced, lexing_here, nothing_next, nothing_recovering}
use Rattle.starlark_recovery.proofs.recovery_state.RecoveryState.next.Goals as goal
use Rattle.starlark_recovery.proofs.recovery_state.RecoveryState.next.Goals.{After-next_item}

-- nothing stands for a fault before it
none : (c : After-next_item) → c.is_some.result ≡ false → c.args.self.now.stand_in ≡ None
none c is = by c.args.self.now.stand_in (sym c.is_some.ensures ∙ is)
  where
    by : (stand_in : Option (ℕ × Token × ℕ)) → is_some stand_in ≡ false → stand_in ≡ None
    by None e = refl
    by (Some lexeme) e = cc

found : (c : After-next_item) → c.is_some.result ≡ false → IsAdvanced c.args.self.now c.next_item.result (record c.args.self.now { state = c.next_item.new.self })
found c is =
    let e = c.next_item.ensures in
    advanced c.args.self.now c.requires (none c is) c.next_item.result c.next_item.new.self e.ended e.found e.lexing e.within e.between e.after

pub next_item-requires : goal.next_item-requires
next_item-requires c = record { lexing = lexing_here c.args.self.now c.requires }

pub answer-requires : goal.answer-requires
answer-requires c = (c.args.self.now, rw c.in_ok-item.was at (found (goal.at.answer-requires c).After-next_item c.if-is_some.false))

pub returns-in_err-item-clause-recovering : goal.returns-in_err-item-clause-recovering
returns-in_err-item-clause-recovering c = nothing_recovering c.args.self.now c.requires c.next_item.new.self (rw c.in_err-item.was at (found (goal.at.returns-in_err-item-clause-recovering c).After-next_item c.if-is_some.false))

pub returns-in_err-item-clause-next : goal.returns-in_err-item-clause-next
returns-in_err-item-clause-next c =
    let e = rw c.in_err-item.was at (found (goal.at.returns-in_err-item-clause-next c).After-next_item c.if-is_some.false) in
    rw c.from_residual.ensures (nothing_next c.args.self.now c.requires c.next_item.new.self e)

pub returns-clause-next : goal.returns-clause-next
returns-clause-next c = c.answer.ensures.next c.args.self.now (rw c.in_ok-item.was at (found (goal.at.returns-clause-next c).After-next_item c.if-is_some.false))
