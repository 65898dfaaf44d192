use Rattle.std.proofs.Common.{◌≡◌, ◌≤◌, ◌≢◌, arith, ◌+◌, ◌*◌, ℕ, ap, drop, false, None, Option, Some, refl, sym, take, true, ◌∙◌}
use Rattle.starlark_grammar.proofs.KeptLines.Faults.{opener_lost}
use Rattle.starlark_grammar.specs.AfterFaults.{next_line}
use Rattle.starlark_grammar.specs.Front.{language_front}
use Rattle.starlark_grammar.specs.Pieces as grammar
use Rattle.starlark_grammar.specs.Tokens as grammar_tokens
use Rattle.starlark_grammar.specs.declared.class.Class.TheVariants as class
use Rattle.starlark_reader.specs.Inner.Reader.{IsAtStep, IsStateAfter, Origin, Takes, TakesNext, step_here}
use Rattle.starlark_words.specs.declared.scanner.word.Word.{Word}
use Rattle.starlark_grammar.specs.Reading.{History}
use Rattle.starlark_token.specs.declared.tokens.Token.{Token}
use Rattle.starlark_reader.specs.declared.reader.Reader.{Reader}
use Rattle.starlark_reader.specs.Inner.Nesting.{mode_view}
use Rattle.starlark_reader.proofs.ReadLiterals.LiteralPieces.{opener_literal, triple_edge}
use Rattle.starlark_reader.proofs.ReadLiterals.StepReads.{later_reads, single_reads, split_reads, triple_reads}
use Rattle.starlark_words.proofs.LiteralBodies.PlainBodies.{empty_run, no_run_before_quotes}
use Rattle.starlark_words.specs.Inner.LiteralViews.{single_literal}
use Rattle.starlark_words.specs.Inner.PlainRuns.{IsRun}
use Rattle.starlark_words.specs.Inner.Reads.{AreReads, more_reads}
use Rattle.starlark_reader.specs.Inner.ReadBounds.{AreEscapeReads, AreWordReads, HasRead, IsPassed}
use Rattle.starlark_reader.specs.Inner.StepViews as steps
use Rattle.starlark_reader.specs.Inner.StepViews.{IsStep, ReadStep, literal_step}
use Rattle.starlark_grammar.specs.Inner.Openings.{opening_view}
use Rattle.starlark_grammar.specs.declared.class.LiteralKind.TheVariants.{FString as OfFString}
use Rattle.starlark_grammar.specs.declared.class.Opening.{Opening}
use Rattle.starlark_reader.proofs.TakenMargins.PendingLexemes.{after_error}
use Rattle.starlark_reader.proofs.TakenPieces.CodePlaces.{word_cut, word_some}
use Rattle.starlark_reader.proofs.TakenPieces.NextLexeme.{onward_something}
use Rattle.starlark_reader.proofs.TakenPieces.PieceReads.{opener_reads}
use Rattle.starlark_reader.proofs.TakenPieces.PieceTaken.{refused_fits, refused_read}
use Rattle.starlark_reader.proofs.TakenPieces.ReaderReads.{state_reads}
use Rattle.starlark_reader.proofs.TakenPieces.KeptReads.{escape_leaves}
use Rattle.starlark_reader.proofs.TakenPieces.SameTexts.{state_here, taken_here}
use Rattle.starlark_reader.proofs.TakenPieces.WordSteps.{literal_here, word_step_reads}
use Rattle.starlark_reader.proofs.reader.Reader.read_literal.Goals as goal
use Rattle.starlark_reader.proofs.reader.Reader.read_literal.Goals.{After-range_from, In_ok-found, then-opening, else-opening}

-- two more quotes, or none, follow the opener
two_quotes : (opening : Opening) (quotes : ℕ) → opening.is_triple ≡ true → quotes ≡ 2 → quotes ≡ grammar.more_quotes (opening_view opening)
two_quotes opening quotes is e = rw (is, e) refl

no_quotes : (opening : Opening) (quotes : ℕ) → opening.is_triple ≡ false → quotes ≡ 0 → quotes ≡ grammar.more_quotes (opening_view opening)
no_quotes opening quotes is e = rw (is, e) refl

pub range_from-remainder-requires : goal.range_from-remainder-requires
range_from-remainder-requires c = λ some.
    let stands = c.requires.found.0 in
    word_cut c.range_from-rest.result.now (class.Opener c.args.kind c.args.is_raw c.args.quote) c.args.len c.range_from-rest.utf8 (ap language_front c.range_from-rest.ensures.value ∙ sym stands.front)

pub range_from-requires : goal.range_from-requires
range_from-requires c = λ some. elim c.if-opening.branch [
  | then-opening w ↦ rw w.quotes-is (triple_edge c.range_from-remainder.result.now c.args.quote c.range_from-remainder.utf8 (sym (ap (λ (opening : grammar_tokens.Opening). opening.is_triple) c.opening_of-opening.ensures.opening) ∙ w.if-opening.true))
  | else-opening w ↦ absurd (omega (arith, some, w.quotes-is))
]

-- the opener, and what is known of the text after it
opened_at : (c : After-range_from) → (c.args.kind ≢ OfFString) × IsRun (single_literal c.args.kind c.args.is_raw c.args.quote) c.range_from-remainder.result.now c.args.run
opened_at c =
    let old = c.args.self.now in
    rw (c.range_from-remainder.ensures.value, c.range_from-rest.ensures.value) c.requires.found.1

pub literal_piece-requires : goal.literal_piece-requires
literal_piece-requires c =
    let opened = opened_at (goal.at.literal_piece-requires c).After-range_from in
    let is = c.opening_of-opening.ensures.opening in
    let triple = ap (λ (opening : grammar_tokens.Opening). opening.is_triple) is in
    elim c.if-opening.branch [
      | then-opening w ↦
          let none = no_run_before_quotes c.args.kind c.args.is_raw c.args.quote c.range_from-remainder.result.now c.args.run opened.1 (sym triple ∙ w.if-opening.true) in
          record { fits = omega (arith, w.quotes-is, c.range_from.ensures.len, c.range_from-remainder.ensures.len, c.range_from-rest.ensures.len); run = rw none (empty_run _ c.range_from.result.now c.range_from.utf8) }
      | else-opening w ↦
          record { fits = omega (arith, w.quotes-is, c.range_from.ensures.len, c.range_from-remainder.ensures.len, c.range_from-rest.ensures.len); run = rw (c.range_from.ensures.value, w.quotes-is, is, sym triple ∙ w.if-opening.false) opened.1 }
    ]

-- what is known where the literal was read
abbrev Known : In_ok-found → Type 0
Known c = (c.args.kind ≢ OfFString) × IsRun (single_literal c.args.kind c.args.is_raw c.args.quote) c.range_from-remainder.result.now c.args.run

-- the step that was read
read_step : (c : In_ok-found) → Known c → IsStep (grammar.opener (mode_view c.mode-mode.result) c.args.kind (grammar.opening_of c.args.is_raw c.args.quote c.range_from-remainder.result.now) c.args.len c.range_from-remainder.result.now) (literal_step c.in_ok-found.found)
read_step c opened =
    let opening = c.opening_of-opening.result in
    let more : c.if-opening.quotes ≡ grammar.more_quotes (opening_view opening) = elim c.if-opening.branch [
      | then-opening w ↦ two_quotes opening c.if-opening.quotes w.if-opening.true w.quotes-is
      | else-opening w ↦ no_quotes opening c.if-opening.quotes w.if-opening.false w.quotes-is
    ] in
    rw (← c.opening_of-opening.ensures.opening, opener_literal (mode_view c.mode-mode.result) c.args.kind (opening_view opening) c.args.len c.if-opening.quotes c.range_from-remainder.result.now c.range_from.result.now opened.0 more c.range_from.ensures.value) c.in_ok-found.ensures.step

-- it is the step at the reader's offset
read_here : {origin : Origin} → (c : In_ok-found) → Known c → (history : History) → IsStateAfter origin c.args.self.now.text.now history c.args.self.now → IsStep (step_here c.args.self.now.text.now history c.args.self.now) (literal_step c.in_ok-found.found)
read_here c opened history kept =
    let old = c.args.self.now in
    let stands = c.requires.found.0 in
    let remainder : c.range_from-remainder.result.now ≡ drop c.args.len (drop old.at old.text.now) = c.range_from-remainder.ensures.value ∙ ap (drop c.args.len) c.range_from-rest.ensures.value in
    literal_here old.text.now history old c.args.kind c.args.is_raw c.args.quote c.args.len c.mode-mode.result c.range_from-remainder.result.now (literal_step c.in_ok-found.found) kept stands c.mode-mode.ensures remainder (read_step c opened)

-- its reads
step_reads : (c : In_ok-found) → Known c → (before : ℕ) → AreReads c.args.run (8 * c.args.run) before c.args.self.now.reads → AreWordReads c.args.len 9 2 0 8 (literal_step c.in_ok-found.found) before c.literal_piece.new.reads
step_reads c opened = λ before read.
    let triple = ap (λ (opening : grammar_tokens.Opening). opening.is_triple) c.opening_of-opening.ensures.opening in
    let step = literal_step c.in_ok-found.found in
    elim c.if-opening.branch [
      | then-opening w ↦
          let none = no_run_before_quotes c.args.kind c.args.is_raw c.args.quote c.range_from-remainder.result.now c.args.run opened.1 (sym triple ∙ w.if-opening.true) in
          triple_reads c.args.len step before c.opening_of-opening.new.reads _ (omega (arith, c.opening_of-opening.ensures.reads, none, read.0, read.1)) (rw w.quotes-is at (c.in_ok-found.ensures.reads c.opening_of-opening.new.reads (omega arith, omega arith)))
      | else-opening w ↦
          let same : c.args.len + c.if-opening.quotes ≡ c.args.len = omega (arith, w.quotes-is) in
          single_reads c.args.len step before (more_reads before 2) _ refl (rw same at (c.in_ok-found.ensures.reads (more_reads before 2) (rw c.opening_of-opening.ensures.reads (later_reads c.args.run (8 * c.args.run) before c.args.self.now.reads read))))
    ]

-- and those up to a bad escape
escape_reads : (c : In_ok-found) → Known c → (before : ℕ) → AreReads c.args.run (8 * c.args.run) before c.args.self.now.reads
    → (between : ℕ) × (between ≤ before + 2) × AreEscapeReads (c.args.len + c.if-opening.quotes) (literal_step c.in_ok-found.found) between c.literal_piece.new.reads
escape_reads c opened = λ before read.
    let triple = ap (λ (opening : grammar_tokens.Opening). opening.is_triple) c.opening_of-opening.ensures.opening in
    elim c.if-opening.branch [
      | then-opening w ↦
          let none = no_run_before_quotes c.args.kind c.args.is_raw c.args.quote c.range_from-remainder.result.now c.args.run opened.1 (sym triple ∙ w.if-opening.true) in
          (c.opening_of-opening.new.reads, omega (arith, c.opening_of-opening.ensures.reads, none, read.1), c.in_ok-found.ensures.escape c.opening_of-opening.new.reads (omega arith, omega arith))
      | else-opening w ↦
          (more_reads before 2, omega arith, c.in_ok-found.ensures.escape (more_reads before 2) (rw c.opening_of-opening.ensures.reads (later_reads c.args.run (8 * c.args.run) before c.args.self.now.reads read)))
    ]

pub returns-in_err-found-clause-memory : goal.returns-in_err-found-clause-memory
returns-in_err-found-clause-memory c = after_error c.from_residual.result _ (λ origin lexemes fault ahead. onward_something c.args.self.now.text.now c.args.self.now lexemes fault c.requires.found.0.idle c.requires.found.0.stage ahead)

-- the reader after the literal was read, and the step
abbrev at_literal : In_ok-found → Reader
at_literal c = record c.args.self.now { reads = c.literal_piece.new.reads }

step_at : (c : In_ok-found) → Known c → (step : ReadStep) → literal_step c.in_ok-found.found ≡ step → IsAtStep (at_literal c) (λ history stands. IsStep stands step)
step_at c opened step is =
    let old = c.args.self.now in
    let left = state_here old c.requires.sound c.requires.found.0.stage in
    record { text = c.requires.sound.text; stage = c.requires.found.0.stage; stands = (left.0, left.1, state_reads old.text.now left.1 old c.literal_piece.new.reads left.2, rw is at (read_here c opened left.1 left.2)); idle = c.requires.found.0.idle }

ahead : (c : In_ok-found) → Known c → (step : ReadStep) (given : Option (ℕ × Token × ℕ)) (new : Reader) → literal_step c.in_ok-found.found ≡ step → Takes (at_literal c) (λ history stands. IsStep stands step) given new → TakesNext c.args.self.now given new
ahead c opened step given new is takes =
    let old = c.args.self.now in
    taken_here old given new c.requires.found.0.stage c.requires.found.0.idle (λ origin history kept. takes origin history (state_reads old.text.now history old c.literal_piece.new.reads kept) (rw is at (read_here c opened history kept)))

reads_after : (c : In_ok-found) → Known c → (step : ReadStep) (new : Reader) → literal_step c.in_ok-found.found ≡ step → IsPassed (at_literal c) step new → HasRead c.args.self.now.text.now new
reads_after c opened step new is passed =
    let old = c.args.self.now in
    let stands = c.requires.found.0 in
    let peeked = c.requires.found.2 in
    let text = old.text.now in
    let left = state_here old c.requires.sound c.requires.found.0.stage in
    let word : Word = record { class = class.Opener c.args.kind c.args.is_raw c.args.quote; len = c.args.len } in
    let front = take c.args.len (drop old.at text) in
    let mode = mode_view c.mode-mode.result in
    let opening = grammar.opening_of c.args.is_raw c.args.quote c.range_from-remainder.result.now in
    let parts = split_reads c.args.len c.args.run peeked.0 old.reads peeked.2 in
    let escape = escape_reads c opened parts.0 parts.2 in
    let some = word_some (drop old.at text) word.class c.args.len (sym stands.front) in
    word_step_reads text peeked.0 parts.0 c.literal_piece.new.reads left.1 word step old new left.2 stands (rw is at (read_here c opened left.1 left.2)) peeked.1 parts.1
    (opener_reads c.args.len (next_line front 0) step parts.0 c.literal_piece.new.reads (rw is at (step_reads c opened parts.0 parts.2)))
    (escape_leaves (c.args.len + c.if-opening.quotes) c.args.len (5 * c.args.len + 3) front (grammar.opener mode c.args.kind opening c.args.len c.range_from-remainder.result.now) step parts.0 escape.0 c.literal_piece.new.reads
    (rw is at (read_step c opened)) (opener_lost mode c.args.kind opening c.args.len c.range_from-remainder.result.now) some (omega arith) (omega arith) escape.1 (rw is at escape.2))
    passed

pub take_token-requires : goal.take_token-requires
take_token-requires c = step_at (goal.at.take_token-requires c).In_ok-found (opened_at (goal.at.take_token-requires c).After-range_from) _ (ap literal_step c.in-Ok.is)

pub returns-in-Ok-clause-ahead : goal.returns-in-Ok-clause-ahead
returns-in-Ok-clause-ahead c =
    ahead (goal.at.returns-in-Ok-clause-ahead c).In_ok-found (opened_at (goal.at.returns-in-Ok-clause-ahead c).After-range_from) _ (Some c.take_token.result) c.take_token.new.self (ap literal_step c.in-Ok.is) c.take_token.ensures.read

pub returns-in-Ok-clause-reads : goal.returns-in-Ok-clause-reads
returns-in-Ok-clause-reads c =
    reads_after (goal.at.returns-in-Ok-clause-reads c).In_ok-found (opened_at (goal.at.returns-in-Ok-clause-reads c).After-range_from) _ c.take_token.new.self (ap literal_step c.in-Ok.is) (c.take_token.ensures.taken.1, c.take_token.ensures.taken.2)

pub refuse-requires : goal.refuse-requires
refuse-requires c =
    let fits = refused_fits _ c.in-Err.begin c.in-Err.end c.in-Err.fault (step_at (goal.at.refuse-requires c).In_ok-found (opened_at (goal.at.refuse-requires c).After-range_from) _ (ap literal_step c.in-Err.is)) in
    record { begin = fits.0; end = fits.1 }

pub returns-in-Err-clause-ahead : goal.returns-in-Err-clause-ahead
returns-in-Err-clause-ahead c =
    let at = (goal.at.returns-in-Err-clause-ahead c).In_ok-found in
    ahead at (opened_at (goal.at.returns-in-Err-clause-ahead c).After-range_from) (steps.Fault c.in-Err.begin c.in-Err.fault c.in-Err.end) None c.refuse.new.self (ap literal_step c.in-Err.is)
    (rw c.refuse.ensures (refused_read (at_literal at) c.in-Err.begin c.in-Err.end c.in-Err.fault c.requires.found.0.idle))

pub returns-in-Err-clause-reads : goal.returns-in-Err-clause-reads
returns-in-Err-clause-reads c =
    reads_after (goal.at.returns-in-Err-clause-reads c).In_ok-found (opened_at (goal.at.returns-in-Err-clause-reads c).After-range_from) (steps.Fault c.in-Err.begin c.in-Err.fault c.in-Err.end) c.refuse.new.self (ap literal_step c.in-Err.is) (rw c.refuse.ensures ((refl, refl, omega arith), refl))
