use Rattle.std.proofs.Common.{◌≡◌, ◌+◌, ap, arith, drop, subst, sym, ◌∙◌}
use Rattle.starlark_grammar.specs.Tokens.{Fault, Spanned}
use Rattle.starlark_grammar.specs.Words.{Text}
use Rattle.starlark_lexemes.specs.Inner.LexerStates.{AreReadsTo, IsCourse, IsLexingIn, StateView, course_of}
use Rattle.starlark_reader.specs.Inner.Reader.{Line}
use Rattle.starlark_recovery.specs.Inner.RecoveryStates.{part_of, with_literal_here}
use Rattle.starlark_recovery.proofs.Passes.{one_raw}
use Rattle.starlark_recovery.proofs.RecoveryStates.{course_line, literal_ends, lost_on, open_now}
use Rattle.starlark_recovery.proofs.recovery_state.RecoveryState.restart.Goals as goal

pub pass-requires-clause-order : goal.pass-requires-clause-order
pass-requires-clause-order c = omega (arith, c.requires.2.2, c.requires.5, (literal_ends c.args.self.now c.requires.0 c.requires.1).0)

pub pass-requires-clause-inside : goal.pass-requires-clause-inside
pass-requires-clause-inside c = omega (arith, c.requires.5, (literal_ends c.args.self.now c.requires.0 c.requires.1).1)

pub returns : goal.returns
returns c = λ found stopped raw loses none.
    let old = c.args.self.now in
    let begun = c.begin_line.ensures.begun in
    let has = c.in-Ok.ensures.passed found raw in
    let same : c.requires.0 ≡ found = one_raw c.requires.0 found c.args.fault c.requires.2 raw in
    let end : c.args.end ≡ (with_literal_here old found).end = c.requires.5 ∙ ap (λ (f : Spanned Fault). (with_literal_here old f).end) same in
    let paid = subst (λ (f : Spanned Fault). AreReadsTo (part_of old) (with_literal_here old f) (old.state.reader.reads + c.args.looked)) same c.requires.6 in
    let blocks = open_now old found stopped in
    let own : c.range_from.result.now ≡ drop c.in-Ok.passed.begin old.text.now = c.range_from.ensures.value in
    let lexing = c.begin_line.ensures.lexing blocks stopped.here.stores.levels
    (subst (λ (t : Text). IsCourse (course_of (Line blocks) t) t) (sym own) (course_line old found stopped c.args.end end c.in-Ok.passed has)) in
    lost_on old found stopped c.args.end end c.in-Ok.passed has loses none c.args.looked paid c.begin_line.new.self c.saturating_add-self.result
    (ap (λ (v : StateView). v.text) begun ∙ own) (subst (λ (t : Text). IsLexingIn (course_of (Line blocks) t) t c.begin_line.new.self) own lexing)
    (ap (λ (v : StateView). v.yielded_count) begun) (ap (λ (v : StateView). v.has_ended) begun) (ap (λ (v : StateView). v.reads) begun)
    (omega (arith, c.count.ensures, c.saturating_add-searched.ensures, c.saturating_add-reads.ensures, c.saturating_add-self.ensures))
