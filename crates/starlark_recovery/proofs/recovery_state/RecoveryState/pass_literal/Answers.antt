use Rattle.std.proofs.Common.{◌≡◌, ◌+◌, ◌-◌, Some, true, false, ap, arith, drop, subst, sym, take, ◌∙◌}
use Rattle.std.proofs.lemmas.Bool.{not-false, not-true}
use Rattle.std.specs.Prelude.{not}
use Rattle.std.specs.Str.{IsCharBoundary}
use Rattle.starlark_grammar.specs.Inner.Openings.{opening_view}
use Rattle.starlark_grammar.specs.KeptLines.{LiteralRest, is_bad_escape, literal_opening, literal_rest}
use Rattle.starlark_grammar.specs.StandIns.{written_literal}
use Rattle.starlark_grammar.specs.Tokens.{Fault, Opening, Spanned}
use Rattle.starlark_grammar.specs.Words.{Text}
use Rattle.starlark_grammar.proofs.KeptLines.KeptFaultPlaces.{passed_literal}
use Rattle.starlark_reader.specs.Inner.Reader.{IsRaw}
use Rattle.starlark_recovery.specs.Inner.Passed.{rest_view}
use Rattle.starlark_recovery.specs.Inner.RecoveryStates.{IsStopped, StandsFor, part_of, with_literal_here}
use Rattle.starlark_recovery.proofs.Passes.{one_raw}
use Rattle.starlark_recovery.proofs.RecoveryStates.{literal_begin, literal_end, literal_lost_paid, literal_open, literal_paid, literal_single, part_end}
use Rattle.starlark_recovery.proofs.StandingLexemes.{literal_stands_for}
use Rattle.starlark_token.specs.TokenViews.{Whole}
use Rattle.starlark_recovery.proofs.recovery_state.RecoveryState.pass_literal.Goals as goal
use Rattle.starlark_recovery.proofs.recovery_state.RecoveryState.pass_literal.Goals.{After-max-end}

-- its opening
opening : (c : After-max-end) (found : Spanned Fault) → IsRaw found c.args.fault → opening_view c.literal_opening-opening.result ≡ literal_opening c.args.self.now.state.reader.at (part_of c.args.self.now) found.begin
opening c found raw =
    let at = c.args.self.now.state.reader.at in
    c.literal_opening-opening.ensures ∙ ap (λ (t : Text). literal_opening at t c.args.fault.0) c.range_from-part.ensures.value ∙ ap (literal_opening at (part_of c.args.self.now)) raw.0

-- what is left of the literal
left : (c : After-max-end) (found : Spanned Fault) → IsRaw found c.args.fault → rest_view c.literal_rest-rest.result ≡ literal_rest c.args.self.now.state.reader.at (part_of c.args.self.now) found.begin
left c found raw =
    let at = c.args.self.now.state.reader.at in
    c.literal_rest-rest.ensures.value at c.literal_opening-opening.ensures ∙ ap (λ (t : Text). literal_rest at t c.args.fault.0) c.range_from-part.ensures.value ∙ ap (literal_rest at (part_of c.args.self.now)) raw.0

-- its end
ends : (c : After-max-end) (found : Spanned Fault) (stopped : IsStopped c.args.self.now found) (raw : IsRaw found c.args.fault) → is_bad_escape found.node ≡ true → c.max-end.result ≡ (with_literal_here c.args.self.now found).end
ends c found stopped raw bad = omega (arith, c.max-end.ensures, raw.0, raw.2, ap (λ (r : LiteralRest). r.len) (left c found raw), literal_end c.args.self.now found stopped bad)

-- it is closed, between characters
closed : (c : After-max-end) (found : Spanned Fault) → IsRaw found c.args.fault → not c.literal_rest-rest.result.is_closed ≡ false → (literal_rest c.args.self.now.state.reader.at (part_of c.args.self.now) found.begin).is_closed ≡ true
closed c found raw is = sym (ap (λ (r : LiteralRest). r.is_closed) (left c found raw)) ∙ not-false c.literal_rest-rest.result.is_closed is

end_boundary : (c : After-max-end) (found : Spanned Fault) (stopped : IsStopped c.args.self.now found) → IsRaw found c.args.fault → not c.literal_rest-rest.result.is_closed ≡ false → is_bad_escape found.node ≡ true → IsCharBoundary (part_of c.args.self.now) (with_literal_here c.args.self.now found).end
end_boundary c found stopped raw is bad =
    let old = c.args.self.now in
    subst (IsCharBoundary (part_of old)) (passed_literal old.state.reader.at (part_of old) found bad) (part_end old found stopped (literal_open old found stopped bad ∙ closed c found raw is))

pub range-requires-clause-start_boundary : goal.range-requires-clause-start_boundary
range-requires-clause-start_boundary c = λ some. subst (λ (t : Text). IsCharBoundary t c.args.self.now.state.reader.at) (sym c.range_from-part.ensures.value) (literal_begin c.args.self.now c.requires.0 c.requires.1 c.requires.3)

pub range-requires-clause-end_boundary : goal.range-requires-clause-end_boundary
range-requires-clause-end_boundary c =
    let at = (goal.at.range-requires-clause-end_boundary c).After-max-end in
    let end = ends at c.requires.0 c.requires.1 c.requires.2 c.requires.3 in
    subst (λ (t : Text). IsCharBoundary t c.max-end.result) (sym c.range_from-part.ensures.value) (subst (IsCharBoundary (part_of c.args.self.now)) (sym end) (end_boundary at c.requires.0 c.requires.1 c.requires.2 c.if-not-rest.false c.requires.3))

pub keep-requires-clause-fault : goal.keep-requires-clause-fault
keep-requires-clause-fault c =
    let old = c.args.self.now in
    let found = c.requires.0 in
    let stopped = c.requires.1 in
    let raw = c.requires.2 in
    let bad = c.requires.3 in
    let at = (goal.at.keep-requires-clause-fault c).After-max-end in
    let len = ap (λ (r : LiteralRest). r.len) (left at found raw) in
    let end = ends at found stopped raw bad in
    let paid = literal_paid old found stopped bad (closed at found raw c.if-not-rest.false) in (
      found,
      stopped,
      raw,
      literal_open old found stopped bad ∙ closed at found raw c.if-not-rest.false,
      end ∙ sym (passed_literal old.state.reader.at (part_of old) found bad),
      (omega (arith, paid.0, end, raw.0, len), omega (arith, paid.1, end, raw.0, len)),
    )

pub keep-requires-clause-stand_in : goal.keep-requires-clause-stand_in
keep-requires-clause-stand_in c = λ found stopped raw.
    let old = c.args.self.now in
    let reader_at = old.state.reader.at in
    let at = (goal.at.keep-requires-clause-stand_in c).After-max-end in
    let same : c.requires.0 ≡ found = one_raw c.requires.0 found c.args.fault c.requires.2 raw in
    let bad : is_bad_escape found.node ≡ true = subst (λ (f : Spanned Fault). is_bad_escape f.node ≡ true) same c.requires.3 in
    let end = ends at found stopped raw bad in
    let literal = c.range.ensures.value ∙ ap (λ (t : Text). take (c.max-end.result - reader_at) (drop reader_at t)) c.range_from-part.ensures.value ∙ ap (λ n. take (n - reader_at) (drop reader_at (part_of old))) end in
    let token = c.in-Ok.ensures ∙ ap (λ (o : Opening). Whole (written_literal o c.range.result.now)) (opening at found raw) ∙ ap (λ (t : Text). Whole (written_literal (literal_opening reader_at (part_of old) found.begin) t)) literal in
    subst (λ n. StandsFor old found (Some (old.begin + reader_at, c.in-Ok.token, old.begin + n))) (sym end) (literal_stands_for old found stopped bad (end_boundary at found stopped raw c.if-not-rest.false bad) c.in-Ok.token token)

pub returns : goal.returns
returns c = λ found stopped raw bad. c.keep.ensures found stopped raw (literal_open c.args.self.now found stopped bad ∙ closed (goal.at.returns c).After-max-end found raw c.if-not-rest.false)

-- it is open
open_so : (c : After-max-end) (found : Spanned Fault) → IsRaw found c.args.fault → not c.literal_rest-rest.result.is_closed ≡ true → (literal_rest c.args.self.now.state.reader.at (part_of c.args.self.now) found.begin).is_closed ≡ false
open_so c found raw is = sym (ap (λ (r : LiteralRest). r.is_closed) (left c found raw)) ∙ not-true c.literal_rest-rest.result.is_closed is

pub restart-requires : goal.restart-requires
restart-requires c =
    let old = c.args.self.now in
    let found = c.requires.0 in
    let stopped = c.requires.1 in
    let raw = c.requires.2 in
    let bad = c.requires.3 in
    let at = (goal.at.restart-requires c).After-max-end in
    let len = ap (λ (r : LiteralRest). r.len) (left at found raw) in
    let end = ends at found stopped raw bad in
    let paid = literal_lost_paid old found stopped bad in (
      found,
      stopped,
      raw,
      literal_open old found stopped bad ∙ open_so at found raw c.if-not-rest.true,
      literal_single old found stopped bad,
      end,
      (omega (arith, paid.0, end, raw.0, len), omega (arith, paid.1, end, raw.0, len)),
    )

pub returns-then-not-rest : goal.returns-then-not-rest
returns-then-not-rest c = λ found stopped raw bad. c.restart.ensures found stopped raw (literal_open c.args.self.now found stopped bad ∙ open_so (goal.at.returns-then-not-rest c).After-max-end found raw c.if-not-rest.true) (literal_single c.args.self.now found stopped bad)
