use Rattle.std.proofs.Common.{◌≡◌, ◌+◌, ap, arith, subst, sym, ◌∙◌}
use Rattle.starlark_grammar.specs.KeptLines.{passed_end}
use Rattle.starlark_grammar.specs.Tokens.{Fault, Spanned}
use Rattle.starlark_lexemes.specs.Inner.LexerStates.{IsLexingIn, KeepsOpen, course_of, course_past}
use Rattle.starlark_lexemes.proofs.MovedFaults.{raw_thrown}
use Rattle.starlark_recovery.specs.Inner.RecoveryStates.{IsPaidTo, part_of, with_literal_here}
use Rattle.starlark_recovery.proofs.Passes.{one_raw}
use Rattle.starlark_recovery.proofs.RecoveryStates.{course_again, keeps_open, kept_on, last_fits}
use Rattle.starlark_recovery.proofs.recovery_state.RecoveryState.keep.Goals as goal

pub go_on-requires-clause-fits : goal.go_on-requires-clause-fits
go_on-requires-clause-fits c = omega (arith, last_fits c.args.self.now c.requires.fault.0 c.requires.fault.1 c.requires.fault.3, c.requires.fault.4)

pub go_on-requires-clause-few : goal.go_on-requires-clause-few
go_on-requires-clause-few c = omega (arith, last_fits c.args.self.now c.requires.fault.0 c.requires.fault.1 c.requires.fault.3, c.requires.fault.4, c.requires.fault.5.1)

pub returns : goal.returns
returns c = λ found stopped raw line.
    let old = c.args.self.now in
    let part = part_of old in
    let course = course_of stopped.origin part in
    let same : c.requires.fault.0 ≡ found = one_raw c.requires.fault.0 found c.args.fault c.requires.fault.2 raw in
    let last = passed_end part (with_literal_here old found) in
    let end : c.args.end ≡ last = c.requires.fault.4 ∙ ap (λ (f : Spanned Fault). passed_end part (with_literal_here old f)) same in
    let paid : IsPaidTo old found last c.args.looked = subst (λ n. IsPaidTo old found n c.args.looked) end (subst (λ (f : Spanned Fault). IsPaidTo old f c.args.end c.args.looked) same c.requires.fault.5) in
    let opens : KeepsOpen course part found c.args.end (old.state.reader.reads + c.args.looked + 1) = subst (λ n. KeepsOpen course part found n (old.state.reader.reads + c.args.looked + 1)) (sym end) (keeps_open old found stopped line c.args.looked paid) in
    let lexing : IsLexingIn (course_past course last part) part c.go_on.new.self =
    subst (λ n. IsLexingIn (course_past course n part) part c.go_on.new.self) end (c.go_on.ensures.lexing course part found stopped.here opens (rw end (course_again old found stopped line))) in
    kept_on old found stopped line c.go_on.new.self c.saturating_add-self.result lexing c.go_on.ensures.count c.go_on.ensures.going c.go_on.ensures.text c.args.peeked c.requires.some c.requires.few (omega (arith, c.saturating_add-self.ensures)) c.args.stand_in (c.requires.stand_in found stopped raw)
    c.in-Ok.given (raw_thrown old.code_map old.begin found c.args.fault c.in-Ok.given raw c.in-Ok.ensures)
