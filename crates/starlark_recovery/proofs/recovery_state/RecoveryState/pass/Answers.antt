use Rattle.std.proofs.Common.{◌≡◌, ◌+◌, ◌-◌, true, false, ap, arith, length, subst, sym, ◌∙◌}
use Rattle.starlark_grammar.specs.KeptLines.{is_bad_escape, passed_end}
use Rattle.starlark_grammar.specs.Tokens.{Fault, Spanned}
use Rattle.starlark_grammar.specs.Words.{Text}
use Rattle.starlark_lexemes.specs.Inner.LexerStates.{AreReadsTo, course_of}
use Rattle.starlark_reader.specs.Inner.Reader.{IsRaw}
use Rattle.starlark_recovery.specs.Inner.Passed.{error_keeps_line}
use Rattle.starlark_recovery.specs.Inner.RecoveryStates.{IsStopped, is_end, is_open_here, part_of, rest_keeps, stays_open_here, with_literal_here}
use Rattle.starlark_recovery.specs.Restarts.{IsPlaceOf}
use Rattle.starlark_recovery.proofs.Passes.{bad_kind, keeps_is, tab_kind}
use Rattle.starlark_recovery.proofs.RecoveryStates.{later, other_here, own_paid, part_begins, part_len}
use Rattle.starlark_recovery.proofs.StandingLexemes.{number_here, word_stands_for}
use Rattle.starlark_recovery.proofs.recovery_state.RecoveryState.pass.Goals as goal
use Rattle.starlark_recovery.proofs.recovery_state.RecoveryState.pass.Goals.{After-is_bad_escape, After-is_open_quote, After-keeps_line}

-- whether it is a bad escape
bad : (c : After-is_bad_escape) (found : Spanned Fault) → IsRaw found c.args.fault → is_bad_escape found.node ≡ c.is_bad_escape.result
bad c found raw = sym (c.is_bad_escape.ensures ∙ bad_kind c.args.fault.1 found.node raw.1)

pub pass_literal-requires : goal.pass_literal-requires
pass_literal-requires c = (c.requires.0, c.requires.1, c.requires.2, bad (goal.at.pass_literal-requires c).After-is_bad_escape c.requires.0 c.requires.2 ∙ c.if-is_bad_escape.true)

pub returns-then-is_bad_escape : goal.returns-then-is_bad_escape
returns-then-is_bad_escape c = λ found stopped raw. c.pass_literal.ensures found stopped raw (bad (goal.at.returns-then-is_bad_escape c).After-is_bad_escape found raw ∙ c.if-is_bad_escape.true)

-- whether it is an open quote
cut : (c : After-is_open_quote) (found : Spanned Fault) (stopped : IsStopped c.args.self.now found) → IsRaw found c.args.fault → c.is_open_quote.result ≡ is_open_here c.args.self.now stopped.origin found
cut c found stopped raw = c.is_open_quote.ensures found stopped raw.1 raw.2

pub is_open_quote-requires : goal.is_open_quote-requires
is_open_quote-requires c =
    let old = c.args.self.now in
    let is = c.requires.1.is_part in
    omega (arith, c.requires.1.within.1, c.requires.2.2, part_len old is, part_begins old is)

pub pass_quote-requires : goal.pass_quote-requires
pass_quote-requires c = (c.requires.0, c.requires.1, c.requires.2, sym (cut (goal.at.pass_quote-requires c).After-is_open_quote c.requires.0 c.requires.1 c.requires.2) ∙ c.if-is_open_quote.true)

pub returns-then-is_open_quote : goal.returns-then-is_open_quote
returns-then-is_open_quote c = λ found stopped raw. c.pass_quote.ensures found stopped raw (sym (cut (goal.at.returns-then-is_open_quote c).After-is_open_quote found stopped raw) ∙ c.if-is_open_quote.true)

-- whether another fault keeps its line
lines : (c : After-keeps_line) (found : Spanned Fault) (stopped : IsStopped c.args.self.now found) → IsRaw found c.args.fault → c.keeps_line.result ≡ rest_keeps stopped.origin (part_of c.args.self.now) found
lines c found stopped raw =
    let old = c.args.self.now in
    let part : c.range_from-part.result.now ≡ part_of old = c.range_from-part.ensures.value in
    let course = course_of stopped.origin (part_of old) in
    let counted : old.state.yielded_count - 1 ≡ length course.lexemes = omega (arith, stopped.here.counted) in
    let follows = c.is_end-follows_comment.ensures ∙ ap (is_end old.comment (old.state.yielded_count - 1)) raw.0 ∙ ap (λ n. is_end old.comment n found.begin) counted ∙ sym (stopped.comment found.begin) in
    c.keeps_line.ensures ∙ ap (λ (t : Text). error_keeps_line t c.args.fault.0 c.args.fault.1 c.is_end-follows_comment.result) part
    ∙ keeps_is stopped.origin (part_of old) found c.args.fault.0 c.args.fault.2 c.args.fault.1 c.is_end-follows_comment.result stopped.rest.begun (later old found stopped).0 raw follows

-- such a fault has no literal
other : (c : After-keeps_line) (found : Spanned Fault) (stopped : IsStopped c.args.self.now found) → IsRaw found c.args.fault
    → (stays_open_here c.args.self.now stopped.origin found ≡ rest_keeps stopped.origin (part_of c.args.self.now) found) × (with_literal_here c.args.self.now found ≡ found)
other c found stopped raw = other_here c.args.self.now found stopped (sym (c.is_bad_escape.ensures ∙ bad_kind c.args.fault.1 found.node raw.1) ∙ c.if-is_bad_escape.false)

pub restart-requires : goal.restart-requires
restart-requires c =
    let at = (goal.at.restart-requires c).After-keeps_line in
    let old = c.args.self.now in
    let found = c.requires.0 in
    let stopped = c.requires.1 in
    let raw = c.requires.2 in
    let alone = other at found stopped raw in
    let paid : AreReadsTo (part_of old) found (old.state.reader.reads + 0) = (omega (arith, stopped.paid.0), omega (arith, stopped.paid.1)) in (
      found,
      stopped,
      raw,
      alone.0 ∙ sym (lines at found stopped raw) ∙ c.if-not-keeps_line.true,
      sym (cut (goal.at.restart-requires c).After-is_open_quote found stopped raw) ∙ c.if-is_open_quote.false,
      raw.2 ∙ sym (ap (λ (f : Spanned Fault). f.end) alone.1),
      subst (λ (f : Spanned Fault). AreReadsTo (part_of old) f (old.state.reader.reads + 0)) (sym alone.1) paid,
    )

pub returns-then-not-keeps_line : goal.returns-then-not-keeps_line
returns-then-not-keeps_line c = λ found stopped raw.
    let at = (goal.at.returns-then-not-keeps_line c).After-keeps_line in
    c.restart.ensures found stopped raw ((other at found stopped raw).0 ∙ sym (lines at found stopped raw) ∙ c.if-not-keeps_line.true)
    (sym (cut (goal.at.returns-then-not-keeps_line c).After-is_open_quote found stopped raw) ∙ c.if-is_open_quote.false)

pub keep-requires-clause-fault : goal.keep-requires-clause-fault
keep-requires-clause-fault c =
    let at = (goal.at.keep-requires-clause-fault c).After-keeps_line in
    let old = c.args.self.now in
    let found = c.requires.0 in
    let stopped = c.requires.1 in
    let raw = c.requires.2 in
    let alone = other at found stopped raw in
    let keeps : rest_keeps stopped.origin (part_of old) found ≡ true = sym (lines at found stopped raw) ∙ c.if-not-keeps_line.false in
    let place : IsPlaceOf found c.args.fault.0 c.args.fault.2 c.is_tab.result = record { begins = raw.0; ends = raw.2; is_tab = c.is_tab.ensures ∙ tab_kind c.args.fault.1 found.node raw.1 } in
    let end : c.passed_end-end.result ≡ passed_end (part_of old) found = c.passed_end-end.ensures found place ∙ ap (λ (t : Text). passed_end t found) c.range_from-part.ensures.value in
    let paid = own_paid old found stopped keeps in (
      found,
      stopped,
      raw,
      alone.0 ∙ keeps,
      end ∙ ap (passed_end (part_of old)) (sym alone.1),
      (omega (arith, paid.0, end, raw.0), omega (arith, paid.1, end, raw.0)),
    )

pub word_stand_in-requires-clause-number : goal.word_stand_in-requires-clause-number
word_stand_in-requires-clause-number c = number_here c.args.self.now c.requires.0 c.requires.1 c.args.fault c.requires.2

pub keep-requires-clause-stand_in : goal.keep-requires-clause-stand_in
keep-requires-clause-stand_in c = λ found stopped raw.
    let at = (goal.at.keep-requires-clause-stand_in c).After-keeps_line in
    word_stands_for c.args.self.now found stopped c.args.fault raw (sym (lines at found stopped raw) ∙ c.if-not-keeps_line.false) c.in-Ok.stand_in c.in-Ok.ensures

pub returns : goal.returns
returns c = λ found stopped raw.
    let at = (goal.at.returns c).After-keeps_line in
    c.keep.ensures found stopped raw ((other at found stopped raw).0 ∙ sym (lines at found stopped raw) ∙ c.if-not-keeps_line.false)
