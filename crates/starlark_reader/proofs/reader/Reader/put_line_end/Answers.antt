use Rattle.std.proofs.Common.{rules, ◌≡◌, ◌+◌, ◌∙◌, ap, arith, drop, refl, sym}
use Rattle.std.specs.Prelude.{◌==◌, not}
use Rattle.std.proofs.lemmas.Bool.{not-false, or_parts}
use Rattle.std.proofs.lemmas.List.{length-drop}
use Rattle.std.proofs.lemmas.Result.{IfOk-weaker, on_ok_weaker}
use Rattle.starlark_grammar.specs.Margins.{margin_of}
use Rattle.starlark_token.specs.TokenViews.{token_view}
use Rattle.starlark_token.specs.declared.tokens.Token.TheVariants as token
use Rattle.starlark_reader.specs.declared.reader.Reader.{Reader}
use Rattle.starlark_reader.specs.Inner.MarginViews.{IsLaidOut, IsMargin}
use Rattle.starlark_reader.specs.Inner.MarginLines.{IsOfMargin}
use Rattle.starlark_reader.proofs.TakenMargins.LaidMargins.{after_none, end_taken}
use Rattle.starlark_reader.proofs.TakenMargins.TakenWidths.{is_kept}
use Rattle.starlark_reader.proofs.TakenMargins.PendingLexemes.{nothing_left}
use Rattle.starlark_reader.proofs.TakenPieces.ReaderReads.{state_reads}
use Rattle.starlark_reader.proofs.TakenPieces.Taken.{line_taken}
use Rattle.starlark_reader.specs.declared.margins.Margin.{Margin}
use Rattle.starlark_reader.proofs.reader.Reader.put_line_end.Goals as goal

pub change_width-requires-clause-margin : goal.change_width-requires-clause-margin
change_width-requires-clause-margin c =
    rw (← c.in-Ok.ensures.spaces (not-false c.in-Ok.margin.is_content (or_parts (not c.in-Ok.margin.is_content) _ (sym c.keeps_widths.ensures ∙ c.if-not-keeps_widths.true)).0)) (rw c.range_from.ensures.value at c.in-Ok.ensures.margin)

pub change_width-requires-clause-within : goal.change_width-requires-clause-within
change_width-requires-clause-within c = search (rules, not-false, or_parts, length-drop)

pub put_long_margin-requires-clause-line_end : goal.put_long_margin-requires-clause-line_end
put_long_margin-requires-clause-line_end c = search (rules, state_reads)

pub returns-in-Err-clause-read : goal.returns-in-Err-clause-read
returns-in-Err-clause-read c = IfOk-weaker c.put_long_margin.result _ _ (λ is_laid read origin history kept stands. read origin history (state_reads c.args.self.now.text.now history c.args.self.now c.plain_margin.new.reads kept) stands) c.put_long_margin.ensures.read

pub change_width-requires-clause-line_end : goal.change_width-requires-clause-line_end
change_width-requires-clause-line_end c = search (rules, state_reads)

pub returns-then-not-keeps_widths-clause-read : goal.returns-then-not-keeps_widths-clause-read
returns-then-not-keeps_widths-clause-read c = IfOk-weaker c.change_width.result _ _ (λ is_laid read origin history kept stands. read origin history (state_reads c.args.self.now.text.now history c.args.self.now c.plain_margin.new.reads kept) stands) c.change_width.ensures.read

pub returns-then-not-keeps_widths-clause-reads : goal.returns-then-not-keeps_widths-clause-reads
returns-then-not-keeps_widths-clause-reads c =
    let spaces = c.in-Ok.ensures.spaces (not-false c.in-Ok.margin.is_content (or_parts (not c.in-Ok.margin.is_content) _ (sym c.keeps_widths.ensures ∙ c.if-not-keeps_widths.true)).0) in
    let width : c.in-Ok.margin.blanks ≡ c.in-Ok.margin.width = ap (λ (margin : Margin). margin.blanks) spaces in
    on_ok_weaker c.change_width.result (λ read there. read c.args.self.now.reads (omega (arith, width, c.in-Ok.ensures.reads), omega (arith, width, c.in-Ok.ensures.reads)) there) c.change_width.ensures.reads

pub returns-clause-read : goal.returns-clause-read
unfolding token_view
returns-clause-read c = λ origin history kept stands.
    let new = c.step_to.ensures in
    let margin = c.in-Ok.margin in
    let seen = margin_of (drop (c.args.self.now.at + c.args.len) c.args.self.now.text.now) in
    let same : IsMargin seen margin = rw c.range_from.ensures.value at c.in-Ok.ensures.margin in
    let levels = c.args.self.now.levels in
    let keeps = sym c.keeps_widths.ensures ∙ c.if-not-keeps_widths.false in
    let begin = c.args.self.now.at + c.args.len in
    let waits = c.wait_for_comments.ensures in
    let idle = after_none c.args.self.now.text.now c.args.self.now.pending c.requires.here.idle.1 in
    let laid : IsLaidOut begin seen history.widths levels levels c.wait_for_comments.new.self.remainder = rw waits (is_kept levels history.widths margin seen same kept.levels keeps begin c.args.self.now.pending.remainder idle) in
    let place : IsOfMargin begin margin.at levels c.wait_for_comments.new.self = rw (waits, c.in-Ok.ensures.plain) (record { from = refl; to = omega arith; flat = ap (λ n. n == 0) c.len-is_flat.ensures }) in
    let end : begin + margin.blanks ≡ c.args.self.now.at + (c.args.len + margin.at + margin.blanks) = omega (arith, c.in-Ok.ensures.plain) in
    let taken = end_taken c.args.self.now.text.now c.args.self.now.at c.args.len levels levels history.widths margin c.wait_for_comments.new.self kept.levels same c.requires.here.text.utf8 c.requires.cut place laid in
    let of : IsOfMargin (c.args.self.now.at + c.args.len) seen.at levels c.wait_for_comments.new.self = rw same.at at place in
    line_taken c.args.self.now.text.now history c.args.self.now c.args.len kept stands c.step_to.new.self _ token.Newline refl c.requires.here.text.utf8 (rw new taken) (rw new of)
    (ap (λ (reader : Reader). reader.nesting) new) (ap (λ (reader : Reader). reader.before) new) (ap (λ (reader : Reader). reader.at) new ∙ end) (ap (λ (reader : Reader). reader.stage) new)

pub returns-clause-onward : goal.returns-clause-onward
returns-clause-onward c = search (rules, after_none, nothing_left)
