use Rattle.std.proofs.Common.{◌≡◌, ◌+◌, ◌-◌, ◌∙◌, ap, arith, length, refl, sym, rules}
use Rattle.starlark_reader.proofs.ReadLiterals.StepReads.{body_reads, closing_some, escape_reads, fault_reads}
use Rattle.starlark_grammar.specs.Items as grammar
use Rattle.starlark_grammar.specs.Tokens.{UnfinishedStringLiteral}
use Rattle.starlark_words.specs.Inner.LiteralViews.{bytes_of, holds_text, least_stop_reads, literal_view, stop_view, stopped_len}
use Rattle.starlark_reader.proofs.ReadLiterals.LiteralPieces.{bad_edges, bad_fits, bad_literal, closing_fits, closing_literal, literal_own, token_of_bytes, token_of_text, line_literal, read_after}
use Rattle.starlark_reader.specs.Inner.Nesting.{mode_view}
use Rattle.starlark_grammar.specs.Inner.Openings.{opening_view}
use Rattle.starlark_grammar.specs.Items.{closing_quotes}
use Rattle.starlark_grammar.specs.Pieces.{literal, literal_token}
use Rattle.starlark_token.specs.TokenViews.{Whole, token_view}
use Rattle.starlark_token.specs.declared.tokens.Token.{Token}
use Rattle.starlark_token.specs.declared.tokens.Token.TheVariants as token
use Rattle.starlark_reader.specs.Inner.StepViews.{IsStep}
use Rattle.starlark_reader.specs.Inner.StepViews as step
use Rattle.starlark_reader.proofs.literal.pieces.literal_piece.Goals as goal
use Rattle.starlark_reader.proofs.literal.pieces.literal_piece.Goals.{In-Closing}

pub overflow_add-len-in-Closing : goal.overflow_add-len-in-Closing
overflow_add-len-in-Closing c =
    let stop : (grammar.body_at (literal_view c.args.literal) c.args.remainder.now).stop ≡ grammar.Closing = sym c.in_ok-body.ensures.body.stop ∙ ap stop_view c.in-Closing.is in
    omega (arith, closing_fits (literal_view c.args.literal) c.args.remainder.now c.in_ok-body.body.len c.in_ok-body.ensures.body.len stop, c.closing_len.ensures, c.requires.fits)

pub overflow_add-body-in-BadEscape : goal.overflow_add-body-in-BadEscape
overflow_add-body-in-BadEscape c = search (rules, bad_fits)

pub range-escape-requires-clause-start_le_end : goal.range-escape-requires-clause-start_le_end
range-escape-requires-clause-start_le_end c = search (rules, bad_fits)

pub range-escape-requires-clause-start_boundary : goal.range-escape-requires-clause-start_boundary
range-escape-requires-clause-start_boundary c = λ some.
    let stop : (grammar.body_at (literal_view c.args.literal) c.args.remainder.now).stop ≡ grammar.BadEscape c.in-BadEscape.read c.in-BadEscape.last = sym c.in_ok-body.ensures.body.stop ∙ ap stop_view c.in-BadEscape.is in
    (bad_edges (literal_view c.args.literal) c.args.remainder.now c.in_ok-body.body.len c.in-BadEscape.read c.in-BadEscape.last c.utf8.remainder c.in_ok-body.ensures.boundary c.in_ok-body.ensures.body.len stop).0

pub range-escape-requires-clause-end_boundary : goal.range-escape-requires-clause-end_boundary
range-escape-requires-clause-end_boundary c =
    let stop : (grammar.body_at (literal_view c.args.literal) c.args.remainder.now).stop ≡ grammar.BadEscape c.in-BadEscape.read c.in-BadEscape.last = sym c.in_ok-body.ensures.body.stop ∙ ap stop_view c.in-BadEscape.is in
    (bad_edges (literal_view c.args.literal) c.args.remainder.now c.in_ok-body.body.len c.in-BadEscape.read c.in-BadEscape.last c.utf8.remainder c.in_ok-body.ensures.boundary c.in_ok-body.ensures.body.len stop).1

pub escape_fault-requires : goal.escape_fault-requires
escape_fault-requires c = search (rules, bad_fits)

pub returns-in_ok-escape_fault-in-BadEscape-clause-step : goal.returns-in_ok-escape_fault-in-BadEscape-clause-step
returns-in_ok-escape_fault-in-BadEscape-clause-step c = rw (bad_literal (mode_view c.args.mode) (literal_view c.args.literal) c.args.len c.in_ok-body.body.len c.in-BadEscape.read c.in-BadEscape.last c.args.remainder.now c.in_ok-body.ensures.body.len (sym c.in_ok-body.ensures.body.stop ∙ ap stop_view c.in-BadEscape.is), ← read_after c.args.remainder.now c.in_ok-body.body.len c.in-BadEscape.read, ← c.range-escape.ensures.value) c.in_ok-escape_fault-in-BadEscape.ensures.step

pub returns-in_ok-escape_fault-in-BadEscape-clause-reads : goal.returns-in_ok-escape_fault-in-BadEscape-clause-reads
returns-in_ok-escape_fault-in-BadEscape-clause-reads c = λ before known.
    let stop : (grammar.body_at (literal_view c.args.literal) c.args.remainder.now).stop ≡ grammar.BadEscape c.in-BadEscape.read c.in-BadEscape.last = sym c.in_ok-body.ensures.body.stop ∙ ap stop_view c.in-BadEscape.is in
    let fits = bad_fits (literal_view c.args.literal) c.args.remainder.now c.in_ok-body.body.len c.in-BadEscape.read c.in-BadEscape.last c.in_ok-body.ensures.body.len stop in
    let read : length c.range-escape.result.now ≡ c.in-BadEscape.read - 1 = omega (arith, fits.0, fits.1, c.range-escape.ensures.len) in
    let begin = c.args.len + c.in_ok-body.body.len in
    let end = begin + 1 + length c.range-escape.result.now in
    let reads = body_reads c.args.run c.in_ok-body.body.len (least_stop_reads c.in_ok-body.body.stop) (stopped_len c.in_ok-body.body.stop) 6 0 before _ _ c.in_ok-body.ensures.more (known.0, omega (arith, known.1)) c.in_ok-body.ensures.reads in
    fault_reads c.args.len 9 0 0 6 begin end c.in_ok-escape_fault-in-BadEscape.field-0 _ _ c.in_ok-escape_fault-in-BadEscape.ensures.fault (omega arith) (omega (arith, reads.0), omega (arith, fits.0, read, ap stopped_len c.in-BadEscape.is, reads.1))

pub returns-in_ok-escape_fault-in-BadEscape-clause-escape : goal.returns-in_ok-escape_fault-in-BadEscape-clause-escape
returns-in_ok-escape_fault-in-BadEscape-clause-escape c = λ before known.
    let stop : (grammar.body_at (literal_view c.args.literal) c.args.remainder.now).stop ≡ grammar.BadEscape c.in-BadEscape.read c.in-BadEscape.last = sym c.in_ok-body.ensures.body.stop ∙ ap stop_view c.in-BadEscape.is in
    let fits = bad_fits (literal_view c.args.literal) c.args.remainder.now c.in_ok-body.body.len c.in-BadEscape.read c.in-BadEscape.last c.in_ok-body.ensures.body.len stop in
    let read : length c.range-escape.result.now ≡ c.in-BadEscape.read - 1 = omega (arith, fits.0, fits.1, c.range-escape.ensures.len) in
    let reads = body_reads c.args.run c.in_ok-body.body.len (least_stop_reads c.in_ok-body.body.stop) (stopped_len c.in_ok-body.body.stop) 6 0 before _ _ c.in_ok-body.ensures.more (known.0, omega (arith, known.1)) c.in_ok-body.ensures.reads in
    escape_reads c.args.len c.in_ok-body.body.len (c.args.len + c.in_ok-body.body.len + 1 + length c.range-escape.result.now) c.in_ok-escape_fault-in-BadEscape.field-0 before _ c.in_ok-escape_fault-in-BadEscape.ensures.fault (omega (arith, fits.0, read, ap stopped_len c.in-BadEscape.is, reads.1))

-- the step of a literal that its quotes close
closed : (c : In-Closing) (it : Token) → token_view it ≡ Whole (literal_token c.args.literal.kind (bytes_of c.in_ok-body.body.value))
    → IsStep (literal (mode_view c.args.mode) c.args.literal.kind (opening_view c.args.literal.opening) c.args.len c.args.remainder.now) (step.Token it (c.args.len + c.in_ok-body.body.len + length (closing_quotes (opening_view c.args.literal.opening))))
closed c it view =
    let body = c.in_ok-body.ensures.body in (
      literal_token c.args.literal.kind (bytes_of c.in_ok-body.body.value),
      view,
      literal_own c.args.literal.kind (bytes_of c.in_ok-body.body.value),
      closing_literal (mode_view c.args.mode) (literal_view c.args.literal) c.args.len c.in_ok-body.body.len c.args.remainder.now (bytes_of c.in_ok-body.body.value) body.len body.value (sym body.stop ∙ ap stop_view c.in-Closing.is),
    )

pub returns-in-Text-clause-step : goal.returns-in-Text-clause-step
unfolding token_view
returns-in-Text-clause-step c =
    let kind = c.args.literal.kind in
    rw (c.in-Text.text-is, c.closing_len.ensures) (closed (goal.at.returns-in-Text-clause-step c).In-Closing (token.String c.in-Text.text) (ap Whole (token_of_text kind _ (sym (ap holds_text c.in-Text.is) ∙ c.in_ok-body.ensures.kind)) ∙ sym (ap (λ v. Whole (literal_token kind (bytes_of v))) c.in-Text.is)))

pub returns-in-Bytes-clause-step : goal.returns-in-Bytes-clause-step
unfolding token_view
returns-in-Bytes-clause-step c =
    let kind = c.args.literal.kind in
    rw (c.in-Bytes.bytes-is, c.closing_len.ensures) (closed (goal.at.returns-in-Bytes-clause-step c).In-Closing (token.Bytes c.in-Bytes.bytes) (ap Whole (token_of_bytes kind _ (sym (ap holds_text c.in-Bytes.is) ∙ c.in_ok-body.ensures.kind)) ∙ sym (ap (λ v. Whole (literal_token kind (bytes_of v))) c.in-Bytes.is)))

pub returns-in-Text-clause-reads : goal.returns-in-Text-clause-reads
returns-in-Text-clause-reads c = search (rules, closing_some, body_reads)

pub returns-in-Bytes-clause-reads : goal.returns-in-Bytes-clause-reads
returns-in-Bytes-clause-reads c = search (rules, closing_some, body_reads)

pub returns-in-Line-clause-reads : goal.returns-in-Line-clause-reads
returns-in-Line-clause-reads c = search (rules, body_reads)

pub returns-in-Line-clause-step : goal.returns-in-Line-clause-step
returns-in-Line-clause-step c =
    (UnfinishedStringLiteral, refl, line_literal (mode_view c.args.mode) (literal_view c.args.literal) c.args.len c.in_ok-body.body.len c.args.remainder.now c.in_ok-body.ensures.body.len (sym c.in_ok-body.ensures.body.stop ∙ ap stop_view c.in-Line.is))
