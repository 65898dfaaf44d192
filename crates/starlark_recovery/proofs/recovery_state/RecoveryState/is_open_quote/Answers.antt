use Rattle.std.proofs.Common.{◌≡◌, Some, ap, false, length, refl, sym, true, ◌∙◌}
use Rattle.std.specs.Prelude.{nat_lt}
use Rattle.starlark_grammar.specs.Depths.{mode_after, is_outside}
use Rattle.starlark_grammar.specs.KeptLines.{is_unfinished}
use Rattle.starlark_grammar.specs.Tokens.{Spanned, Fault}
use Rattle.starlark_reader.specs.Inner.Reader.{history_since}
use Rattle.starlark_token.specs.Lexemes.{fault_view}
use Rattle.starlark_recovery.specs.Inner.RecoveryStates.{IsStopped, part_of}
use Rattle.starlark_recovery.proofs.PassedQuotes.{before_end, stored}
use Rattle.starlark_recovery.proofs.Passes.{unfinished_kind}
use Rattle.starlark_recovery.proofs.RecoveryStates.{finished, part_begins}
use Rattle.starlark_recovery.proofs.recovery_state.RecoveryState.is_open_quote.Goals as goal
use Rattle.starlark_recovery.proofs.recovery_state.RecoveryState.is_open_quote.Goals.{After-is_outside, After-is_unfinished}

-- whether it is an unfinished literal
kind : (c : After-is_unfinished) (found : Spanned Fault) → fault_view c.args.fault.now ≡ Some found.node → is_unfinished found.node ≡ c.is_unfinished.result
kind c found view = sym (c.is_unfinished.ensures ∙ unfinished_kind c.args.fault.now found.node view)

-- where it is
mode : (c : After-is_outside) (found : Spanned Fault) (stopped : IsStopped c.args.self.now found) → is_unfinished found.node ≡ true
    → is_outside (mode_after (history_since stopped.origin (part_of c.args.self.now)).tokens) ≡ c.is_outside.result
mode c found stopped is =
    let state = stored c.args.self.now found stopped is in
    sym (c.is_outside.ensures ∙ ap is_outside (c.mode.ensures (history_since stopped.origin (part_of c.args.self.now)).tokens state.nesting))

pub returns-then-not-is_unfinished : goal.returns-then-not-is_unfinished
returns-then-not-is_unfinished c = λ found stopped view end.
    sym (finished c.args.self.now found stopped (kind (goal.at.returns-then-not-is_unfinished c).After-is_unfinished found view ∙ c.if-not-is_unfinished.true)).0

pub returns-then-not-is_outside : goal.returns-then-not-is_outside
returns-then-not-is_outside c = λ found stopped view end.
    let at = (goal.at.returns-then-not-is_outside c).After-is_outside in
    let is = kind (goal.at.returns-then-not-is_outside c).After-is_unfinished found view ∙ c.if-not-is_unfinished.false in
    rw (is, mode at found stopped is ∙ c.if-not-is_outside.true) refl

pub returns : goal.returns
returns c = λ found stopped view end.
    let at = (goal.at.returns c).After-is_outside in
    let is = kind (goal.at.returns c).After-is_unfinished found view ∙ c.if-not-is_unfinished.false in
    let old = c.args.self.now in
    rw (is, mode at found stopped is ∙ c.if-not-is_outside.false)
    (before_end old.begin c.args.end old.text.now (part_begins old stopped.is_part) ∙ ap (λ n. nat_lt n (length (part_of old))) end)
