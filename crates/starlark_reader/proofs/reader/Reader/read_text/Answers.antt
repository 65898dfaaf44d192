use Rattle.std.proofs.Common.{◌≡◌, ◌==◌, ◌∙◌, ◌∷◌, ◌+◌, [], ℕ, List, None, Option, Some, ap, arith, drop, false, length, refl, rules, string_bytes, subst, sym, true}
use Rattle.starlark_grammar.specs.AfterFaults.{next_line}
use Rattle.starlark_grammar.specs.Inner.Openings.{opening_view}
use Rattle.starlark_grammar.specs.Pieces.{chunk}
use Rattle.starlark_words.specs.Inner.LiteralViews.{fstring_literal}
use Rattle.starlark_words.specs.Inner.PlainRuns.{IsRun}
use Rattle.starlark_reader.specs.Inner.Nesting.{mode_view}
use Rattle.starlark_reader.specs.Inner.Reader.{IsAtStep, IsReadPast, IsStateAfter, Origin, Takes, TakesNext, left_here, step_here}
use Rattle.starlark_reader.specs.Inner.StepViews as steps
use Rattle.starlark_reader.specs.Inner.StepViews.{IsStep, ReadStep, chunk_step}
use Rattle.starlark_reader.specs.declared.reader.Reader.{Reader}
use Rattle.starlark_token.specs.declared.tokens.Token.{Token}
use Rattle.starlark_token.specs.declared.tokens.Token.TheVariants as token
use Rattle.starlark_grammar.specs.Reading.{History}
use Rattle.starlark_grammar.specs.Tokens.{Spanned}
use Rattle.starlark_grammar.specs.Words.{Text}
use Rattle.starlark_token.specs.TokenViews.{TokenView, token_view}
use Rattle.starlark_reader.proofs.TakenPieces.ChunksTaken.{chunk_piece, chunk_some}
use Rattle.starlark_reader.proofs.TakenPieces.Here.{piece_here}
use Rattle.starlark_reader.proofs.TakenMargins.PendingLexemes.{after_error}
use Rattle.starlark_reader.proofs.TakenPieces.NextLexeme.{onward_something}
use Rattle.starlark_reader.proofs.TakenPieces.PieceReads.{chunk_reads}
use Rattle.starlark_reader.proofs.TakenPieces.ReaderReads.{state_reads, step_reads}
use Rattle.starlark_grammar.proofs.KeptLines.Faults.{step_escapes, step_keeps}
use Rattle.starlark_reader.proofs.TakenPieces.KeptReads.{chunk_good, chunk_keeps_none, never_kept}
use Rattle.starlark_reader.proofs.TakenPieces.SameTexts.{state_here, taken_here}
use Rattle.starlark_reader.proofs.TakenPieces.PieceTaken.{refused_fits, refused_read}
use Rattle.starlark_reader.proofs.TakenPieces.WordSteps.{chunk_here, same_opening}
use Rattle.starlark_reader.proofs.reader.Reader.read_text.Goals as goal
use Rattle.starlark_reader.proofs.reader.Reader.read_text.Goals.{In_ok-found}

pub chunk_from-requires : goal.chunk_from-requires
chunk_from-requires c =
    let old = c.args.self.now in
    let run = subst (λ opening. IsRun (fstring_literal opening) (drop old.at old.text.now) c.args.run) (sym (same_opening old.text.now c.args.run old c.mode.result c.in-InText.opening c.requires.here c.requires.sound c.mode.ensures c.in-InText.is)) c.requires.here.run in
    record { run = rw c.range_from-rest.ensures.value run }

pub returns-in_err-found-clause-memory : goal.returns-in_err-found-clause-memory
returns-in_err-found-clause-memory c = after_error c.from_residual.result _ (λ origin lexemes fault ahead. onward_something c.args.self.now.text.now c.args.self.now lexemes fault c.requires.here.idle c.requires.here.stage ahead)

-- the text here, as it was read
here : {origin : Origin} → (c : In_ok-found) (history : History) → IsStateAfter origin c.args.self.now.text.now history c.args.self.now → step_here c.args.self.now.text.now history c.args.self.now ≡ chunk (opening_view c.in-InText.opening) c.range_from-rest.result.now
here c history kept =
    let old = c.args.self.now in
    let opening = opening_view c.in-InText.opening in
    chunk_here old.text.now history old opening kept (λ tokens stored. sym (c.mode.ensures tokens stored) ∙ ap mode_view c.in-InText.is) ∙ ap (chunk opening) (sym c.range_from-rest.ensures.value)

read_here : {origin : Origin} → (c : In_ok-found) (step : ReadStep) → chunk_step c.in_ok-found.found ≡ step → (history : History) → IsStateAfter origin c.args.self.now.text.now history c.args.self.now → IsStep (step_here c.args.self.now.text.now history c.args.self.now) step
read_here c step is history kept = rw (here c history kept, ← is) c.in_ok-found.ensures.step

-- the reader after the text was read, and the step
abbrev at_text : In_ok-found → Reader
at_text c = record c.args.self.now { reads = c.chunk_from.new.reads }

step_at : (c : In_ok-found) (step : ReadStep) → chunk_step c.in_ok-found.found ≡ step → IsAtStep (at_text c) (λ history stands. IsStep stands step)
step_at c step is =
    let old = c.args.self.now in
    let left = state_here old c.requires.sound c.requires.here.stage in
    record { text = c.requires.sound.text; stage = c.requires.here.stage; stands = (left.0, left.1, state_reads old.text.now left.1 old c.chunk_from.new.reads left.2, read_here c step is left.1 left.2); idle = c.requires.here.idle }

ahead : (c : In_ok-found) (step : ReadStep) (given : Option (ℕ × Token × ℕ)) (new : Reader) → chunk_step c.in_ok-found.found ≡ step → Takes (at_text c) (λ history stands. IsStep stands step) given new → TakesNext c.args.self.now given new
ahead c step given new is takes =
    let old = c.args.self.now in
    taken_here old given new c.requires.here.stage c.requires.here.idle (λ origin history kept. takes origin history (state_reads old.text.now history old c.chunk_from.new.reads kept) (read_here c step is history kept))

-- a text whose value is empty
no_value : (value : Text) → (length value == 0) ≡ true → value ≡ []
no_value [] none = refl
no_value (b ∷ bs) none = grind arith

pub take_chunk_end-requires : goal.take_chunk_end-requires
take_chunk_end-requires c =
    let none : (length (string_bytes c.in-Ok.value) == 0) ≡ true = search rules in
    step_at (goal.at.take_chunk_end-requires c).In_ok-found _ (ap chunk_step c.in-Ok.is ∙ ap (λ value. steps.Text value c.in-Ok.chunk) (no_value _ none))

pub returns-in-Ok-clause-ahead : goal.returns-in-Ok-clause-ahead
returns-in-Ok-clause-ahead c =
    let none : (length (string_bytes c.in-Ok.value) == 0) ≡ true = search rules in
    ahead (goal.at.returns-in-Ok-clause-ahead c).In_ok-found (steps.Text [] c.in-Ok.chunk) (Some c.take_chunk_end.result) c.take_chunk_end.new.self (ap chunk_step c.in-Ok.is ∙ ap (λ value. steps.Text value c.in-Ok.chunk) (no_value _ none)) c.take_chunk_end.ensures.read

pub pass_chunk-requires : goal.pass_chunk-requires
pass_chunk-requires c = (string_bytes c.in-Ok.value, step_at (goal.at.pass_chunk-requires c).In_ok-found _ (ap chunk_step c.in-Ok.is))

pub overflow_add-result : goal.overflow_add-result
overflow_add-result c =
    let old = c.args.self.now in
    let at = step_at (goal.at.overflow_add-result c).In_ok-found _ (ap chunk_step c.in-Ok.is) in
    let inside = piece_here old.text.now at.stands.1 (at_text (goal.at.overflow_add-result c).In_ok-found) (chunk_piece (string_bytes c.in-Ok.value) c.in-Ok.chunk) at.stands.2 at.stands.3 in
    omega (arith, inside.1, c.requires.sound.text.fits)

pub returns-in-Ok-2-clause-ahead : goal.returns-in-Ok-2-clause-ahead
unfolding token_view
returns-in-Ok-2-clause-ahead c =
    let old = c.args.self.now in
    let value = string_bytes c.in-Ok.value in
    let some : (length value == 0) ≡ false = search rules in
    ahead (goal.at.returns-in-Ok-2-clause-ahead c).In_ok-found (steps.Text value c.in-Ok.chunk) (Some (old.at, token.FStringText c.in-Ok.value, old.at + c.in-Ok.chunk.len)) c.pass_chunk.new.self (ap chunk_step c.in-Ok.is) (λ origin history kept stands.
    subst (λ (passed : List (Spanned TokenView)). IsReadPast origin old.text.now (left_here old.text.now history old) passed c.pass_chunk.new.self) (chunk_some old.at c.in-Ok.chunk.len value some) (c.pass_chunk.ensures.read value origin history kept stands))

pub refuse-requires : goal.refuse-requires
refuse-requires c =
    let fits = refused_fits _ c.in-Err.begin c.in-Err.end c.in-Err.fault (step_at (goal.at.refuse-requires c).In_ok-found _ (ap chunk_step c.in-Err.is)) in
    record { begin = fits.0; end = fits.1 }

pub returns-in-Err-clause-ahead : goal.returns-in-Err-clause-ahead
returns-in-Err-clause-ahead c =
    let at = (goal.at.returns-in-Err-clause-ahead c).In_ok-found in
    ahead at (steps.Fault c.in-Err.begin c.in-Err.fault c.in-Err.end) None c.refuse.new.self (ap chunk_step c.in-Err.is) (rw c.refuse.ensures (refused_read (at_text at) c.in-Err.begin c.in-Err.end c.in-Err.fault c.requires.here.idle))

pub returns-in-Err-clause-reads : goal.returns-in-Err-clause-reads
returns-in-Err-clause-reads c =
    let at = (goal.at.returns-in-Err-clause-reads c).In_ok-found in
    let old = c.args.self.now in
    let rest = drop old.at old.text.now in
    let left = state_here old c.requires.sound c.requires.here.stage in
    let peeked = c.requires.peeked in
    let opening = opening_view c.in-InText.opening in
    let step = steps.Fault c.in-Err.begin c.in-Err.fault c.in-Err.end in
    let is = ap chunk_step c.in-Err.is in
    step_reads old.text.now peeked.0 left.1 step (at_text at) c.refuse.new.self (state_reads old.text.now left.1 old c.chunk_from.new.reads left.2) (read_here at step is left.1 left.2) peeked.1
    (chunk_reads (next_line rest 0) step peeked.0 c.chunk_from.new.reads (rw is at (c.in_ok-found.ensures.reads peeked.0 peeked.2))) (never_kept 0 rest _ step peeked.0 c.chunk_from.new.reads (read_here at step is left.1 left.2) (ap step_keeps (here at left.1 left.2) ∙ chunk_keeps_none opening c.range_from-rest.result.now) (ap step_escapes (here at left.1 left.2) ∙ chunk_good opening c.range_from-rest.result.now))
    (rw c.refuse.ensures ((refl, refl, omega arith), refl))
