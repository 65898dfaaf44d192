use Rattle.std.proofs.Common.{◌+◌, [], ap, arith, drop, refl}
use Rattle.starlark_grammar.specs.Margins.{margin_of}
use Rattle.starlark_token.specs.TokenViews.{token_view}
use Rattle.starlark_token.specs.declared.tokens.Token.TheVariants as token
use Rattle.starlark_reader.specs.Inner.MarginLines.{IsOfMargin}
use Rattle.starlark_reader.specs.Inner.Pending.{owed}
use Rattle.starlark_reader.specs.declared.reader.Reader.{Reader}
use Rattle.starlark_reader.proofs.TakenMargins.LaidMargins.{after_none, end_refused, end_taken}
use Rattle.starlark_reader.proofs.TakenPieces.MarginReads.{refused_reads}
use Rattle.starlark_reader.proofs.TakenPieces.Taken.{line_refused, line_taken}
use Rattle.starlark_reader.proofs.reader.Reader.put_margin.Goals as goal

pub take_margin-requires-clause-idle : goal.take_margin-requires-clause-idle
take_margin-requires-clause-idle c = after_none c.args.self.now.text.now c.args.self.now.pending c.requires.line_end.here.idle.1

pub refuse-requires-clause-end : goal.refuse-requires-clause-end
refuse-requires-clause-end c =
    let found = rw c.in-Some.is at c.in_ok-fault.ensures.fault in
    omega (arith, c.requires.within, found.0, c.requires.line_end.here.text.fits)

pub returns-in-Some-clause-read : goal.returns-in-Some-clause-read
returns-in-Some-clause-read c = λ origin history kept stands.
    let old = c.args.self.now in
    let new = c.refuse.ensures in
    let fault = c.in-Some.fault in
    let end = c.in-Some.end in
    let seen = margin_of (drop (old.at + c.args.len) old.text.now) in
    let left = rw c.in-Some.is at (c.in_ok-fault.ensures.laid history.widths seen kept.levels c.requires.margin) in
    let found = (rw c.in-Some.is at c.in_ok-fault.ensures.fault).1 seen c.requires.margin in
    let refused = end_refused old.text.now old.at c.args.len old.levels c.take_margin.new.levels history.widths c.args.margin c.nothing-self.result kept.levels c.requires.margin _ _ left (c.nothing-self.ensures old.text.now) fault end found in
    line_refused old.text.now history old c.args.len kept stands c.refuse.new.self fault end (rw new refused)
    (ap (λ (reader : Reader). reader.stage) new) (ap (λ (reader : Reader). reader.at) new) (ap (λ (reader : Reader). reader.nesting) new) (ap (λ (reader : Reader). reader.before) new)

pub returns-in-Some-clause-reads : goal.returns-in-Some-clause-reads
returns-in-Some-clause-reads c = λ before counted there.
    let old = c.args.self.now in
    let new = c.refuse.ensures in
    let fault = c.in-Some.fault in
    let end = c.in-Some.end in
    let seen = margin_of (drop (old.at + c.args.len) old.text.now) in
    let found = (rw c.in-Some.is at c.in_ok-fault.ensures.fault).1 seen c.requires.margin in
    let none = (c.nothing-self.ensures []).1.inside in
    refused_reads old.text.now c.args.len end c.args.margin fault (record old { reads = before }) c.refuse.new.self there (omega (arith, c.requires.within)) c.requires.margin found
    (ap (λ (reader : Reader). reader.stage) new) (omega (arith, ap (λ (reader : Reader). reader.reads) new, counted.0), omega (arith, ap (λ (reader : Reader). reader.reads) new, counted.1)) (omega (arith, ap (λ (reader : Reader). owed reader.pending) new, none))

pub returns-clause-read : goal.returns-clause-read
unfolding token_view
returns-clause-read c = λ origin history kept stands.
    let old = c.args.self.now in
    let new = c.step_over.ensures in
    let margin = c.args.margin in
    let seen = margin_of (drop (old.at + c.args.len) old.text.now) in
    let laid = rw c.in_default.is at (c.in_ok-fault.ensures.laid history.widths seen kept.levels c.requires.margin) in
    let place : IsOfMargin (old.at + c.args.len) margin.at old.levels c.take_margin.new.pending = c.in_ok-fault.ensures.place in
    let taken = end_taken old.text.now old.at c.args.len old.levels c.take_margin.new.levels history.widths margin c.take_margin.new.pending kept.levels c.requires.margin c.requires.line_end.here.text.utf8 c.requires.line_end.cut place laid in
    let of : IsOfMargin (old.at + c.args.len) seen.at old.levels c.take_margin.new.pending = rw c.requires.margin.at at place in
    line_taken old.text.now history old c.args.len kept stands c.step_over.new.self _ token.Newline refl c.requires.line_end.here.text.utf8 (rw new taken) (rw new of)
    (ap (λ (reader : Reader). reader.nesting) new) (ap (λ (reader : Reader). reader.before) new) (ap (λ (reader : Reader). reader.at) new) (ap (λ (reader : Reader). reader.stage) new)
