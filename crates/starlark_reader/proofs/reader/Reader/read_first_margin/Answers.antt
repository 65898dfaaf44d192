use Rattle.std.proofs.Common.{List, Option, ap, arith, drop, subst}
use Rattle.starlark_grammar.specs.Tokens.{Fault, Spanned}
use Rattle.starlark_token.specs.TokenViews.{TokenView}
use Rattle.starlark_reader.specs.declared.reader.Stage.TheVariants as stage
use Rattle.starlark_grammar.specs.Margins.{margin_of}
use Rattle.starlark_reader.specs.declared.reader.Reader.{Reader}
use Rattle.starlark_reader.specs.declared.reader.Stage.{Stage}
use Rattle.starlark_reader.specs.Inner.ReadBounds.{HasReadAt}
use Rattle.starlark_reader.specs.Inner.Reader.{From, IsAhead, Line, Origin}
use Rattle.starlark_reader.proofs.TakenPieces.NextLexeme.{begin_something}
use Rattle.starlark_reader.proofs.TakenMargins.PendingLexemes.{after_error}
use Rattle.starlark_reader.specs.Inner.MarginLines.{IsOfMargin}
use Rattle.starlark_reader.specs.Inner.Pending.{owed}
use Rattle.starlark_reader.proofs.TakenPieces.MarginReads.{first_refused_reads}
use Rattle.starlark_reader.proofs.TakenMargins.LaidMargins.{after_none, first_refused, first_taken}
use Rattle.starlark_reader.proofs.TakenPieces.Taken.{first_ahead, margin_refused, margin_taken, new_ahead}
use Rattle.starlark_reader.proofs.reader.Reader.read_first_margin.Goals as goal

-- what was ahead at the start of a line is still ahead
abbrev Reads : Reader → Reader → Type 0
Reads old new = (origin : Origin) (lexemes : List (Spanned TokenView)) (fault : Option (Spanned Fault)) → IsAhead origin old.text.now old stage.Begin lexemes fault → IsAhead origin old.text.now new new.stage lexemes fault

pub take_margin-requires-clause-idle : goal.take_margin-requires-clause-idle
take_margin-requires-clause-idle c = after_none c.args.self.now.text.now c.args.self.now.pending c.requires.idle.1

pub returns-in-None-clause-ahead : goal.returns-in-None-clause-ahead
returns-in-None-clause-ahead c = λ origin lexemes fault so_far. by origin lexemes fault (subst (λ (now : Stage). IsAhead origin c.args.self.now.text.now c.args.self.now now lexemes fault) c.requires.stage so_far)
  where
    by : Reads c.args.self.now c.step_over.new.self
    by (From history at) lexemes fault ahead = absurd ahead.is_left.6
    by (Line widths) lexemes fault ahead =
        let text = c.args.self.now.text.now in
        let new = c.step_over.ensures in
        let is_new = new_ahead text c.args.self.now lexemes fault ahead in
        let margin = c.margin_of-margin.ensures.margin in
        let laid = rw c.in-None.is at (c.in_ok-fault.ensures.laid widths (margin_of text) is_new.levels margin) in
        let taken = first_taken text c.args.self.now.levels c.take_margin.new.levels widths c.margin_of-margin.result c.take_margin.new.pending is_new.levels c.requires.sound.text.utf8 margin c.in_ok-fault.ensures.place laid in
        let of : IsOfMargin 0 (margin_of (drop 0 text)).at c.args.self.now.levels c.take_margin.new.pending = rw margin.at at c.in_ok-fault.ensures.place in
        let read = margin_taken widths text c.args.self.now c.step_over.new.self is_new _ c.requires.sound.text.utf8 c.requires.sound.text.fits (rw new taken) (rw new of)
        (ap (λ (reader : Reader). reader.nesting) new) (ap (λ (reader : Reader). reader.before) new) (ap (λ (reader : Reader). reader.at) new) (ap (λ (reader : Reader). reader.stage) new) in
        first_ahead text c.args.self.now c.step_over.new.self lexemes fault read c.requires.idle ahead

pub returns-in-Some-clause-ahead : goal.returns-in-Some-clause-ahead
returns-in-Some-clause-ahead c = λ origin lexemes fault so_far. by origin lexemes fault (subst (λ (now : Stage). IsAhead origin c.args.self.now.text.now c.args.self.now now lexemes fault) c.requires.stage so_far)
  where
    by : Reads c.args.self.now c.refuse.new.self
    by (From history at) lexemes fault ahead = absurd ahead.is_left.6
    by (Line widths) lexemes fault ahead =
        let text = c.args.self.now.text.now in
        let new = c.refuse.ensures in
        let is_new = new_ahead text c.args.self.now lexemes fault ahead in
        let margin = c.margin_of-margin.ensures.margin in
        let left = rw c.in-Some.is at (c.in_ok-fault.ensures.laid widths (margin_of text) is_new.levels margin) in
        let refused = first_refused text c.args.self.now.levels c.take_margin.new.levels widths c.margin_of-margin.result c.take_margin.new.pending is_new.levels c.requires.sound.text.utf8 margin c.in_ok-fault.ensures.place
        c.args.self.now.pending.remainder left (after_none text c.args.self.now.pending c.requires.idle.1) c.in-Some.fault c.in-Some.end ((rw c.in-Some.is at c.in_ok-fault.ensures.fault).1 (margin_of text) margin) in
        let read = margin_refused widths text c.args.self.now c.refuse.new.self is_new c.in-Some.fault c.in-Some.end (rw new refused) (ap (λ (reader : Reader). reader.stage) new) (ap (λ (reader : Reader). reader.at) new) (ap (λ (reader : Reader). reader.before) new) in
        first_ahead text c.args.self.now c.refuse.new.self lexemes fault read c.requires.idle ahead

pub returns-in-Some-clause-reads : goal.returns-in-Some-clause-reads
returns-in-Some-clause-reads c = λ so_far.
    let text = c.args.self.now.text.now in
    let has = subst (HasReadAt text c.args.self.now) c.requires.stage so_far in
    let new = c.refuse.ensures in
    let margin = c.margin_of-margin.ensures.margin in
    let place = c.in_ok-fault.ensures.place in
    first_refused_reads text c.in-Some.end c.margin_of-margin.result c.in-Some.fault c.args.self.now c.refuse.new.self c.margin_of-margin.ensures.within margin
    ((rw c.in-Some.is at c.in_ok-fault.ensures.fault).1 (margin_of text) margin) (ap (λ (reader : Reader). reader.stage) new) (omega (arith, ap (λ (reader : Reader). reader.reads) new, c.margin_of-margin.ensures.reads.1)) (omega (arith, ap (λ (reader : Reader). owed reader.pending) new, place.from, place.to)) has

pub returns-in_err-fault-clause-memory : goal.returns-in_err-fault-clause-memory
returns-in_err-fault-clause-memory c =
    let old = c.args.self.now in
    after_error c.from_residual.result _ (λ origin lexemes fault ahead. begin_something old.text.now old lexemes fault c.requires.idle c.requires.stage ahead)
