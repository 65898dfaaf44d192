use Rattle.std.proofs.Common.{◌≡◌, ◌∙◌, ap, refl, rules, sym}
use Rattle.std.specs.Prelude.{codes, string_bytes}
use Rattle.starlark_grammar.specs.Items as items
use Rattle.starlark_words.specs.Inner.LiteralViews.{bytes_of, fstring_literal, stop_view}
use Rattle.starlark_grammar.specs.Inner.Openings.{opening_view}
use Rattle.starlark_grammar.specs.Tokens.{InvalidInput, InvalidEscapeSequence, UnfinishedStringLiteral}
use Rattle.starlark_reader.proofs.ReadLiterals.Chunks.{bad_chunk_fits, before_is, chunk_is, ended_only}
use Rattle.starlark_reader.proofs.ReadLiterals.StepReads.{body_reads, closing_some}
use Rattle.starlark_reader.proofs.literal.chunks.chunk_from.Goals as goal

pub overflow_sub-result : goal.overflow_sub-result
overflow_sub-result c = search (rules, bad_chunk_fits)

pub overflow_add-result-in-BadEscape : goal.overflow_add-result-in-BadEscape
overflow_add-result-in-BadEscape c = search (rules, bad_chunk_fits)

pub overflow_add-result-in-BadEscape-2 : goal.overflow_add-result-in-BadEscape-2
overflow_add-result-in-BadEscape-2 c = search (rules, bad_chunk_fits)

pub returns-in-Some-clause-step : goal.returns-in-Some-clause-step
returns-in-Some-clause-step c =
    let denoted : string_bytes c.in-Text.value ≡ items.body_value (items.body_at (fstring_literal (opening_view c.args.opening)) c.args.text.now) = sym (ap bytes_of c.in-Text.is) ∙ c.in_ok-text_len.ensures.body.value in
    chunk_is (opening_view c.args.opening) c.args.text.now c.in_ok-text_len.field-0.len (string_bytes c.in-Text.value) (stop_view c.in_ok-text_len.field-0.stop) c.in_ok-text_len.ensures.body.len denoted c.in_ok-text_len.ensures.body.stop
    ∙ before_is c.args.opening c.args.text.now c.in_ok-text_len.field-0.len (string_bytes c.in-Text.value) c.in_ok-text_len.field-0.stop c.in-Some.chunk (sym c.chunk_before.ensures ∙ c.in-Some.is)

pub returns-in-ClosingBrace-clause-step : goal.returns-in-ClosingBrace-clause-step
returns-in-ClosingBrace-clause-step c =
    let why : items.ClosingBrace ≡ (items.body_at (fstring_literal (opening_view c.args.opening)) c.args.text.now).stop = sym (ap stop_view c.in-ClosingBrace.is) ∙ c.in_ok-text_len.ensures.body.stop in
    let denoted : string_bytes c.in-Text.value ≡ items.body_value (items.body_at (fstring_literal (opening_view c.args.opening)) c.args.text.now) = sym (ap bytes_of c.in-Text.is) ∙ c.in_ok-text_len.ensures.body.value in
    rw c.in_ok-from_str-in-ClosingBrace.ensures.ok (InvalidInput (codes "}"), refl, chunk_is (opening_view c.args.opening) c.args.text.now c.in_ok-text_len.field-0.len (string_bytes c.in-Text.value) items.ClosingBrace c.in_ok-text_len.ensures.body.len denoted why)

pub returns-in-BadEscape-clause-step : goal.returns-in-BadEscape-clause-step
returns-in-BadEscape-clause-step c =
    let why : (items.BadEscape c.in-BadEscape.len c.in-BadEscape.last) ≡ (items.body_at (fstring_literal (opening_view c.args.opening)) c.args.text.now).stop = sym (ap stop_view c.in-BadEscape.is) ∙ c.in_ok-text_len.ensures.body.stop in
    let denoted : string_bytes c.in-Text.value ≡ items.body_value (items.body_at (fstring_literal (opening_view c.args.opening)) c.args.text.now) = sym (ap bytes_of c.in-Text.is) ∙ c.in_ok-text_len.ensures.body.value in
    rw c.in_ok-from_str-in-BadEscape.ensures.ok (InvalidEscapeSequence (codes "\\"), refl, chunk_is (opening_view c.args.opening) c.args.text.now c.in_ok-text_len.field-0.len (string_bytes c.in-Text.value) (items.BadEscape c.in-BadEscape.len c.in-BadEscape.last) c.in_ok-text_len.ensures.body.len denoted why)

pub returns-in-Line-clause-step : goal.returns-in-Line-clause-step
returns-in-Line-clause-step c =
    let why : items.Line ≡ (items.body_at (fstring_literal (opening_view c.args.opening)) c.args.text.now).stop = sym (ap stop_view c.in-Line.is) ∙ c.in_ok-text_len.ensures.body.stop in
    let denoted : string_bytes c.in-Text.value ≡ items.body_value (items.body_at (fstring_literal (opening_view c.args.opening)) c.args.text.now) = sym (ap bytes_of c.in-Text.is) ∙ c.in_ok-text_len.ensures.body.value in
    (UnfinishedStringLiteral, refl, chunk_is (opening_view c.args.opening) c.args.text.now c.in_ok-text_len.field-0.len (string_bytes c.in-Text.value) items.Line c.in_ok-text_len.ensures.body.len denoted why)

pub returns-clause-step : goal.returns-clause-step
returns-clause-step c =
    let ended = ended_only c.args.opening c.in_ok-text_len.field-0.len c.in_ok-text_len.field-0.stop (sym c.chunk_before.ensures ∙ c.in_default-chunk_before.is) c.in_default-stop.not-ClosingBrace c.in_default-stop.not-BadEscape c.in_default-stop.not-Line in
    let why : items.Ended ≡ (items.body_at (fstring_literal (opening_view c.args.opening)) c.args.text.now).stop = sym (ap stop_view ended) ∙ c.in_ok-text_len.ensures.body.stop in
    let denoted : string_bytes c.in-Text.value ≡ items.body_value (items.body_at (fstring_literal (opening_view c.args.opening)) c.args.text.now) = sym (ap bytes_of c.in-Text.is) ∙ c.in_ok-text_len.ensures.body.value in
    (UnfinishedStringLiteral, refl, chunk_is (opening_view c.args.opening) c.args.text.now c.in_ok-text_len.field-0.len (string_bytes c.in-Text.value) items.Ended c.in_ok-text_len.ensures.body.len denoted why)

pub returns-in-Some-clause-reads : goal.returns-in-Some-clause-reads
returns-in-Some-clause-reads c = search (rules, body_reads, closing_some)

pub returns-in-Line-clause-reads : goal.returns-in-Line-clause-reads
returns-in-Line-clause-reads c = search (rules, body_reads)

pub returns-clause-reads : goal.returns-clause-reads
returns-clause-reads c = search (rules, body_reads)

pub returns-in-ClosingBrace-clause-reads : goal.returns-in-ClosingBrace-clause-reads
returns-in-ClosingBrace-clause-reads c = search (rules, body_reads)

pub returns-in-BadEscape-clause-reads : goal.returns-in-BadEscape-clause-reads
returns-in-BadEscape-clause-reads c = search (rules, body_reads, bad_chunk_fits)
