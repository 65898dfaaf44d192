use Rattle.std.proofs.Common.{◌≡◌, ◌+◌, ◌-◌, None, Some, ap, arith, drop, length, subst, sym, take, ◌∙◌, true}
use Rattle.starlark_grammar.specs.Tokens.{Fault, Spanned}
use Rattle.starlark_grammar.specs.Words.{Text}
use Rattle.starlark_lexemes.specs.Inner.LexerStates.{StateView, course_of}
use Rattle.starlark_lexemes.proofs.MovedFaults.{raw_thrown}
use Rattle.starlark_reader.specs.Inner.Reader.{IsRaw}
use Rattle.starlark_recovery.specs.Inner.RecoveryStates.{HasPassedOn, IsStopped, is_open_here, part_of}
use Rattle.starlark_recovery.proofs.PassedQuotes.{lexing_on, next, next_is, quote, quote_on, quote_room}
use Rattle.starlark_text.specs.declared.or_memory.OrMemory.TheVariants.{Error}
use Rattle.starlark_recovery.proofs.recovery_state.RecoveryState.go_on_after_quote.Goals as goal
use Rattle.starlark_recovery.proofs.recovery_state.RecoveryState.go_on_after_quote.Goals.{After-range_from}

-- the bytes of the quote, and the text from its line end on
quote_here : (c : After-range_from) (found : Spanned Fault) (stopped : IsStopped c.args.self.now found) (cut : is_open_here c.args.self.now stopped.origin found ≡ true) → IsRaw found c.args.fault
    → take (c.args.fault.2 - c.args.fault.0) (drop c.args.fault.0 c.as_bytes.result.now) ≡ quote c.args.self.now found stopped cut
quote_here c found stopped cut raw =
    ap (λ (t : Text). take (c.args.fault.2 - c.args.fault.0) (drop c.args.fault.0 t)) (c.as_bytes.ensures.value ∙ c.range_from-part.ensures.value)
    ∙ ap (λ n. take (c.args.fault.2 - n) (drop n (part_of c.args.self.now))) raw.0 ∙ ap (λ n. take (n - found.begin) (drop found.begin (part_of c.args.self.now))) raw.2

next_here : (c : After-range_from) (found : Spanned Fault) (stopped : IsStopped c.args.self.now found) (cut : is_open_here c.args.self.now stopped.origin found ≡ true) → IsRaw found c.args.fault → c.range_from.result.now ≡ next c.args.self.now found stopped cut
next_here c found stopped cut raw =
    c.range_from.ensures.value ∙ ap (drop c.args.fault.2) c.range_from-part.ensures.value ∙ ap (λ n. drop n (part_of c.args.self.now)) raw.2 ∙ next_is c.args.self.now found stopped cut

pub go_on_after_quote-requires : goal.go_on_after_quote-requires
go_on_after_quote-requires c =
    let at = (goal.at.go_on_after_quote-requires c).After-range_from in
    let found = c.requires.fault.0 in
    let stopped = c.requires.fault.1 in
    let raw = c.requires.fault.2 in
    let cut = c.requires.fault.3 in
    let quote_len = ap (λ (t : Text). length t) (quote_here at found stopped cut raw) in
    let next_len = ap (λ (t : Text). length t) (next_here at found stopped cut raw) in
    record { room = omega (arith, quote_room c.args.self.now found stopped cut, quote_len, next_len) }

pub returns : goal.returns
returns c = λ found stopped raw cut.
    let old = c.args.self.now in
    let at = (goal.at.returns c).After-range_from in
    let begun = c.go_on_after_quote.ensures.begun in
    let text = next_here at found stopped cut raw in
    let lexing = lexing_on old found stopped cut c.go_on_after_quote.new.self _ _ (quote_here at found stopped cut raw) text (c.go_on_after_quote.ensures.lexing (course_of stopped.origin (part_of old)) (part_of old) found stopped.here) in
    let on = quote_on old found stopped cut c.go_on_after_quote.new.self c.saturating_add-self.result
    (ap (λ (v : StateView). v.text) begun ∙ text) lexing
    (ap (λ (v : StateView). v.yielded_count) begun) (ap (λ (v : StateView). v.has_ended) begun) (ap (λ (v : StateView). v.reads) begun)
    (omega (arith, c.count.ensures, c.saturating_add-spent.ensures, c.saturating_add-self.ensures, raw.0, raw.2))
    (Some c.args.stand_in) (c.requires.stand_in found stopped raw)
    c.in-Ok.given (raw_thrown old.code_map old.begin found c.args.fault c.in-Ok.given raw c.in-Ok.ensures) in
    subst (λ n. HasPassedOn old found (Error c.in-Ok.given) (record old { begin = old.begin + n; state = c.go_on_after_quote.new.self; comment = None; stand_in = Some c.args.stand_in; stand_in_count = 0; fault_count = old.fault_count + 1; earlier_reads = c.saturating_add-self.result })) (sym raw.2) on
