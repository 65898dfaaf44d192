use Rattle.std.proofs.Common.{◌≡◌, ◌+◌, ap, refl, subst, sym, ◌∙◌, Err, Ok, Option, Result, Some, ℕ}
use Rattle.starlark_recovery.specs.Inner.RecoveryStates.{IsAdvanced, IsRecovering, IsStopped, last_comment, view_of}
use Rattle.starlark_recovery.specs.RecoveringLexer.{IsNextOf}
use Rattle.starlark_recovery.specs.declared.recovery_state.RecoveryState.{RecoveryState}
use Rattle.starlark_recovery.proofs.RecoverySteps.{fault_on, lexeme_next, lexeme_recovering, memory_next, memory_recovering, reached, some_goes, stopped_here}
use Rattle.starlark_text.specs.declared.or_memory.OrMemory.{OrMemory}
use Rattle.starlark_text.specs.declared.or_memory.OrMemory.TheVariants.{Memory}
use Rattle.starlark_token.specs.TokenViews.{token_view}
use Rattle.starlark_token.specs.declared.lexeme_error.LexemeError.{LexemeError}
use Rattle.starlark_token.specs.declared.tokens.Token.{Token}
use Rattle.starlark_recovery.proofs.recovery_state.RecoveryState.answer.Goals as goal
use Rattle.starlark_recovery.proofs.recovery_state.RecoveryState.answer.Goals.{After-record_comment}

-- the state is the one before, but for what lexes
stands : (before now : RecoveryState) (item : Option (Result (ℕ × Token × ℕ) (OrMemory (ℕ × LexemeError × ℕ)))) → IsAdvanced before item now → IsAdvanced before item (record before { state = now.state })
stands before now item on = subst (IsAdvanced before item) on.after on

pub pass-requires : goal.pass-requires
pass-requires c =
    let e = rw c.in-Err-Error.field-0-is at (rw c.in-Err-Error.is at c.requires.1) in
    let going = some_goes c.requires.0.state.has_ended (λ on. (e.ended on).0) in
    let on = stands c.requires.0 c.args.self.now _ e in
    let found = reached c.requires.0 e.recovering c.args.self.now.state c.in-Err-Error.fault going on in
    (found.0, subst (λ (m : RecoveryState). IsStopped m found.0) (sym e.after) (stopped_here c.requires.0 e.recovering c.args.self.now.state c.in-Err-Error.fault going on), found.4)

-- the state after a lexeme, by the state before it was found
noted : (c : After-record_comment) (before : RecoveryState) → c.args.self.now ≡ record before { state = c.args.self.now.state }
    → c.record_comment.new.self ≡ record before { state = c.args.self.now.state; comment = last_comment (token_view c.in-Ok.token) c.args.self.now.state.yielded_count c.in-Ok.to before.comment }
noted c before after = c.record_comment.ensures ∙ ap (λ (m : RecoveryState). record m { comment = last_comment (token_view c.in-Ok.token) m.state.yielded_count c.in-Ok.to m.comment }) after

pub returns-in-Ok-clause-recovering : goal.returns-in-Ok-clause-recovering
returns-in-Ok-clause-recovering c =
    let e = rw c.in-Ok.is at c.requires.1 in
    let going = some_goes c.requires.0.state.has_ended (λ on. (e.ended on).0) in
    subst IsRecovering (sym (noted (goal.at.returns-in-Ok-clause-recovering c).After-record_comment c.requires.0 e.after))
    (lexeme_recovering c.requires.0 e.recovering c.args.self.now.state c.in-Ok.from c.in-Ok.token c.in-Ok.to going (stands c.requires.0 c.args.self.now _ e) _ refl)

pub returns-in-Ok-clause-next : goal.returns-in-Ok-clause-next
returns-in-Ok-clause-next c before advanced =
    let e = rw c.in-Ok.is at advanced in
    let going = some_goes before.state.has_ended (λ on. (e.ended on).0) in
    subst (λ (m : RecoveryState). IsNextOf (view_of before) (Some (Ok (m.begin + c.in-Ok.from, c.in-Ok.token, m.begin + c.in-Ok.to))) (view_of m))
    (sym (noted (goal.at.returns-in-Ok-clause-next c).After-record_comment before e.after))
    (lexeme_next before e.recovering c.args.self.now.state c.in-Ok.from c.in-Ok.token c.in-Ok.to going (stands before c.args.self.now _ e) _ refl)

pub returns-in-Err-Memory-clause-recovering : goal.returns-in-Err-Memory-clause-recovering
returns-in-Err-Memory-clause-recovering c =
    let e = rw c.in-Err-Memory.field-0-is at (rw c.in-Err-Memory.is at c.requires.1) in
    let going = some_goes c.requires.0.state.has_ended (λ on. (e.ended on).0) in
    subst IsRecovering (sym e.after) (memory_recovering c.requires.0 e.recovering c.args.self.now.state going (stands c.requires.0 c.args.self.now _ e))

pub returns-in-Err-Memory-clause-next : goal.returns-in-Err-Memory-clause-next
returns-in-Err-Memory-clause-next c before advanced =
    let e = rw c.in-Err-Memory.field-0-is at (rw c.in-Err-Memory.is at advanced) in
    let going = some_goes before.state.has_ended (λ on. (e.ended on).0) in
    subst (λ (m : RecoveryState). IsNextOf (view_of before) (Some (Err Memory)) (view_of m)) (sym e.after) (memory_next before e.recovering c.args.self.now.state going (stands before c.args.self.now _ e))

pub returns-in-Err-Error-clause-recovering : goal.returns-in-Err-Error-clause-recovering
returns-in-Err-Error-clause-recovering c =
    let e = rw c.in-Err-Error.field-0-is at (rw c.in-Err-Error.is at c.requires.1) in
    let going = some_goes c.requires.0.state.has_ended (λ on. (e.ended on).0) in
    (fault_on c.requires.0 e.recovering c.args.self.now.state c.in-Err-Error.fault going (stands c.requires.0 c.args.self.now _ e) c.args.self.now e.after c.pass.result c.pass.new.self c.pass.ensures).0

pub returns-in-Err-Error-clause-next : goal.returns-in-Err-Error-clause-next
returns-in-Err-Error-clause-next c before advanced =
    let e = rw c.in-Err-Error.field-0-is at (rw c.in-Err-Error.is at advanced) in
    let going = some_goes before.state.has_ended (λ on. (e.ended on).0) in
    (fault_on before e.recovering c.args.self.now.state c.in-Err-Error.fault going (stands before c.args.self.now _ e) c.args.self.now e.after c.pass.result c.pass.new.self c.pass.ensures).1
