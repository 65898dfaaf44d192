use Rattle.std.proofs.Common.{◌≡◌, ◌+◌, ◌-◌, Some, ap, drop, subst, sym, take, ◌∙◌, true}
use Rattle.std.specs.Str.{IsCharBoundary}
use Rattle.starlark_grammar.specs.Depths.{mode_after}
use Rattle.starlark_grammar.specs.KeptLines.{is_unfinished}
use Rattle.starlark_grammar.specs.StandIns.{written_quote}
use Rattle.starlark_grammar.specs.Tokens.{Fault, Spanned}
use Rattle.starlark_grammar.specs.Words.{Text}
use Rattle.starlark_grammar.proofs.KeptLines.OpenQuotes.{quote_parts}
use Rattle.starlark_reader.specs.Inner.Reader.{history_since}
use Rattle.starlark_recovery.specs.Inner.RecoveryStates.{StandsFor, part_of}
use Rattle.starlark_recovery.proofs.Passes.{one_raw}
use Rattle.starlark_recovery.proofs.StandingLexemes.{quote_stands_for}
use Rattle.starlark_token.specs.TokenViews.{Whole}
use Rattle.starlark_recovery.proofs.recovery_state.RecoveryState.pass_quote.Goals as goal

pub range-requires-clause-start_boundary : goal.range-requires-clause-start_boundary
range-requires-clause-start_boundary c = λ some. subst (λ (t : Text). IsCharBoundary t c.args.fault.0) (sym c.range_from-part.ensures.value) (subst (IsCharBoundary (part_of c.args.self.now)) (sym c.requires.2.0) c.requires.1.begins)

pub go_on_after_quote-requires-clause-fault : goal.go_on_after_quote-requires-clause-fault
go_on_after_quote-requires-clause-fault c = c.requires

pub go_on_after_quote-requires-clause-stand_in : goal.go_on_after_quote-requires-clause-stand_in
go_on_after_quote-requires-clause-stand_in c = λ found stopped raw.
    let old = c.args.self.now in
    let part = part_of old in
    let same : c.requires.0 ≡ found = one_raw c.requires.0 found c.args.fault c.requires.2 raw in
    let unfinished = (quote_parts (mode_after (history_since c.requires.1.origin part).tokens) part c.requires.0 c.requires.3).0 in
    let bytes =
    c.range.ensures.value ∙ ap (λ (t : Text). take (c.args.fault.2 - c.args.fault.0) (drop c.args.fault.0 t)) c.range_from-part.ensures.value
    ∙ ap (λ n. take (c.args.fault.2 - n) (drop n part)) raw.0 ∙ ap (λ n. take (n - found.begin) (drop found.begin part)) raw.2 in
    let token = c.in-Ok.ensures ∙ ap (λ (t : Text). Whole (written_quote t)) bytes in
    subst (λ n. StandsFor old found (Some (old.begin + c.args.fault.0, c.in-Ok.token, old.begin + n))) (sym raw.2)
    (subst (λ n. StandsFor old found (Some (old.begin + n, c.in-Ok.token, old.begin + found.end))) (sym raw.0) (quote_stands_for old found stopped (subst (λ (f : Spanned Fault). is_unfinished f.node ≡ true) same unfinished) c.in-Ok.token token))
