use Rattle.std.proofs.Common.{None, ap, refl, false}
use Rattle.starlark_lexemes.specs.Inner.LexerStates.{StateView}
use Rattle.starlark_recovery.specs.RecoveringLexer.{all_items}
use Rattle.starlark_recovery.specs.declared.recovery_state.RecoveryState.{RecoveryState}
use Rattle.starlark_words.specs.Inner.Reads.{more_reads}
use Rattle.starlark_recovery.proofs.RecoverySteps.{left_start, recovering_start, views}
use Rattle.starlark_recovery.proofs.recovery_state.RecoveryState.new.Goals as goal

pub returns-clause-recovering : goal.returns-clause-recovering
returns-clause-recovering c = recovering_start _ c.utf8.text c.requires refl c.new.ensures.begun c.new.ensures.lexing refl refl refl refl refl

pub returns-clause-view : goal.returns-clause-view
returns-clause-view c =
    let begun = c.new.ensures.begun in
    let state : RecoveryState = record { alloc = c.args.alloc; text = c.args.text; begin = 0; state = c.new.result; code_map = c.args.code_map; fault_count = 0; comment = None; stand_in = None; stand_in_count = 0; earlier_reads = 0 } in
    views c.args.text.now c.args.text.now c.args.code_map _ (all_items c.args.text.now) 0 0 c.new.result.has_ended false _ 0 refl
    (left_start state c.utf8.text c.requires refl begun c.new.ensures.lexing refl refl refl refl refl) refl (ap (λ (v : StateView). v.has_ended) begun.view) (ap (λ (v : StateView). more_reads 0 v.reads) begun.view)
