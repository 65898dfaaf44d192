use Rattle.std.proofs.Common.{sym, ◌∙◌}
use Rattle.starlark_recovery.proofs.RecoverySteps.{stood_next, stood_recovering}
use Rattle.starlark_recovery.proofs.recovery_state.RecoveryState.take_stand_in.Goals as goal

pub returns-clause-recovering : goal.returns-clause-recovering
returns-clause-recovering c = rw c.take.ensures.after (stood_recovering c.args.self.now c.requires.recovering c.in_ok-take.field-0 (sym c.take.ensures.value ∙ c.in_ok-take.was))

pub returns-clause-next : goal.returns-clause-next
returns-clause-next c = stood_next c.args.self.now c.requires.recovering c.in_ok-take.field-0 (sym c.take.ensures.value ∙ c.in_ok-take.was)
