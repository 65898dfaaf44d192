use Rattle.std.proofs.Common.{ap, arith, drop, false, true, None}
use Rattle.std.proofs.lemmas.Result.{IfOk-weaker}
use Rattle.starlark_grammar.specs.declared.class.Class.TheVariants as class
use Rattle.starlark_reader.specs.Inner.Pending.{owed}
use Rattle.starlark_reader.specs.Inner.Reader.{newline_of}
use Rattle.starlark_reader.specs.declared.reader.Reader.{Reader}
use Rattle.starlark_reader.proofs.TakenMargins.PendingLexemes.{after_error}
use Rattle.starlark_reader.proofs.TakenPieces.LineEndPieces.{line_end_here}
use Rattle.starlark_reader.proofs.TakenPieces.NextLexeme.{onward_something}
use Rattle.starlark_reader.proofs.TakenPieces.PieceTaken.{line_end_step, nothing_taken, word_boundary, word_within}
use Rattle.starlark_reader.proofs.TakenPieces.SameTexts.{at_step, state_here, taken_here}
use Rattle.starlark_reader.proofs.reader.Reader.take_line_end.Goals as goal

pub put_line_end-requires : goal.put_line_end-requires
put_line_end-requires c = record {
  here = at_step c.args.self.now _ c.requires.sound c.requires.stands.stage c.requires.stands.idle (λ origin history kept. line_end_step c.args.self.now.text.now history c.args.self.now c.args.len true kept c.requires.stands c.if-counts_line_ends.ensures);
  cut = word_boundary c.args.self.now.text.now c.args.self.now (record { class = class.LineEnd; len = c.args.len }) c.requires.sound.text.utf8 c.requires.sound.ready c.requires.stands;
}

pub returns-then-counts_line_ends-clause-ahead : goal.returns-then-counts_line_ends-clause-ahead
returns-then-counts_line_ends-clause-ahead c = IfOk-weaker c.put_line_end.result _ _ (λ line_end read.
    taken_here c.args.self.now (newline_of line_end c.args.self.now.at c.args.len) c.put_line_end.new.self c.requires.stands.stage c.requires.stands.idle (λ origin history kept.
    read origin history kept (line_end_step c.args.self.now.text.now history c.args.self.now c.args.len true kept c.requires.stands c.if-counts_line_ends.ensures))) c.put_line_end.ensures.read

pub returns-then-counts_line_ends-clause-memory : goal.returns-then-counts_line_ends-clause-memory
returns-then-counts_line_ends-clause-memory c = after_error c.put_line_end.result _ (λ origin lexemes fault ahead. onward_something c.args.self.now.text.now c.args.self.now lexemes fault c.requires.stands.idle c.requires.stands.stage ahead)

pub returns-then-counts_line_ends-clause-cut : goal.returns-then-counts_line_ends-clause-cut
returns-then-counts_line_ends-clause-cut c = word_boundary c.args.self.now.text.now c.args.self.now (record { class = class.LineEnd; len = c.args.len }) c.requires.sound.text.utf8 c.requires.sound.ready c.requires.stands

pub returns-then-counts_line_ends-clause-reads : goal.returns-then-counts_line_ends-clause-reads
returns-then-counts_line_ends-clause-reads c = IfOk-weaker c.put_line_end.result _ _ (λ line_end read counts. read (line_end_here (drop c.args.self.now.at c.args.self.now.text.now) c.args.len c.requires.stands.front)) c.put_line_end.ensures.reads

pub step_over-requires-clause-fits : goal.step_over-requires-clause-fits
step_over-requires-clause-fits c =
    let left = state_here c.args.self.now c.requires.sound c.requires.stands.stage in
    let within = word_within c.args.self.now.text.now left.1 c.args.self.now class.LineEnd c.args.len left.2 c.requires.stands in
    omega (arith, within.1, c.requires.sound.text.fits)

pub returns-clause-ahead : goal.returns-clause-ahead
returns-clause-ahead c =
    taken_here c.args.self.now None c.step_over.new.self c.requires.stands.stage c.requires.stands.idle (λ origin history kept.
    let stands = line_end_step c.args.self.now.text.now history c.args.self.now c.args.len false kept c.requires.stands c.if-counts_line_ends.ensures in
    nothing_taken c.args.self.now.text.now history c.args.self.now c.step_over.new.self c.args.len false c.requires.sound.text.utf8 kept stands c.requires.stands.idle c.step_over.ensures)

pub returns-clause-cut : goal.returns-clause-cut
returns-clause-cut c = word_boundary c.args.self.now.text.now c.args.self.now (record { class = class.LineEnd; len = c.args.len }) c.requires.sound.text.utf8 c.requires.sound.ready c.requires.stands

pub returns-clause-taken : goal.returns-clause-taken
returns-clause-taken c = λ passed.
    let left = state_here c.args.self.now c.requires.sound c.requires.stands.stage in
    let within = word_within c.args.self.now.text.now left.1 c.args.self.now class.LineEnd c.args.len left.2 c.requires.stands in
    let is = c.step_over.ensures in
    (within.0, (ap (λ (reader : Reader). reader.at) is, ap (λ (reader : Reader). reader.reads) is, omega (arith, ap (λ (reader : Reader). owed reader.pending) is)), ap (λ (reader : Reader). reader.stage) is)
