use Rattle.starlark_grammar.specs.Front.{language_front}
use Rattle.std.proofs.Common.{◌≡◌, ◌<◌, None, ap, arith, drop, length, refl, rules, subst, take, Some, ◌∙◌}
use Rattle.std.specs.Prelude.{string_bytes}
use Rattle.std.proofs.Math.Nat.{sub-zero}
use Rattle.std.proofs.lemmas.List.{length-drop}
use Rattle.starlark_grammar.specs.FrontCharacter.{first_character}
use Rattle.starlark_grammar.specs.Reading.{History}
use Rattle.starlark_grammar.specs.Tokens.{InvalidInput}
use Rattle.starlark_token.specs.declared.lexeme_error.LexemeError.TheVariants as errors
use Rattle.starlark_reader.specs.Inner.ReadBounds.{AreStepReads, HasRead}
use Rattle.starlark_reader.specs.Inner.Reader.{IsStateAfter, Origin, step_here}
use Rattle.starlark_reader.specs.Inner.StepViews.{IsStep, ReadStep}
use Rattle.starlark_reader.specs.Inner.StepViews as step
use Rattle.starlark_reader.proofs.TakenMargins.PendingLexemes.{after_error}
use Rattle.starlark_reader.proofs.TakenPieces.NextLexeme.{onward_something}
use Rattle.starlark_reader.proofs.TakenPieces.PieceReads.{none_reads}
use Rattle.starlark_reader.proofs.TakenPieces.ReaderReads.{state_reads, step_reads}
use Rattle.starlark_reader.proofs.TakenPieces.KeptReads.{character_leaves, none_leave}
use Rattle.starlark_reader.proofs.TakenPieces.SameTexts.{at_step, keeps_takes, state_here, taken_here}
use Rattle.starlark_reader.proofs.TakenPieces.PieceTaken.{bang_step, refused_fits, refused_read}
use Rattle.starlark_reader.proofs.TakenPieces.WordSteps.{character_some, none_here}
use Rattle.starlark_reader.proofs.reader.Reader.read_wordless.Goals as goal
use Rattle.starlark_reader.proofs.reader.Reader.read_wordless.Goals.{In_ok-from_str}

pub take_token-requires : goal.take_token-requires
take_token-requires c =
    let mid = c.bang_stands.new.self in
    let stands = c.bang_stands.ensures.stands c.if-bang_stands.true in
    at_step mid _ c.bang_stands.ensures.sound stands.stage stands.idle (λ origin history kept. bang_step mid.text.now history mid kept stands)

pub returns-then-bang_stands-clause-ahead : goal.returns-then-bang_stands-clause-ahead
returns-then-bang_stands-clause-ahead c =
    let mid = c.bang_stands.new.self in
    let stands = c.bang_stands.ensures.stands c.if-bang_stands.true in
    keeps_takes c.args.self.now mid c.take_token.new.self c.bang_stands.ensures.text c.bang_stands.ensures.ahead (Some c.take_token.result)
    (taken_here mid (Some c.take_token.result) c.take_token.new.self stands.stage stands.idle (λ origin history kept. c.take_token.ensures.read origin history kept (bang_step mid.text.now history mid kept stands)))

pub returns-in_err-from_str-clause-memory : goal.returns-in_err-from_str-clause-memory
returns-in_err-from_str-clause-memory c = after_error c.from_residual.result _ (λ origin lexemes fault ahead. onward_something c.args.self.now.text.now c.args.self.now lexemes fault c.requires.code.idle c.requires.code.stage ahead)

-- the text here isn't empty
some : (c : In_ok-from_str) → 0 < length (drop c.bang_stands.new.self.at c.bang_stands.new.self.text.now)
some c =
    let mid = c.bang_stands.new.self in
    let left = state_here mid c.bang_stands.ensures.sound c.bang_stands.ensures.code.stage in
    omega (arith, c.requires.some, left.2.inside, length-drop mid.at mid.text.now, c.bang_stands.ensures.lookahead.0, ap (λ t. length t.now) c.bang_stands.ensures.text)

abbrev wrong : In_ok-from_str → ReadStep
wrong c = step.Fault 0 (errors.InvalidInput c.in_ok-from_str.field-0) c.character_len-end.result

-- its first character is the fault here
is_wrong : {origin : Origin} → (c : In_ok-from_str) (history : History) → IsStateAfter origin c.bang_stands.new.self.text.now history c.bang_stands.new.self → IsStep (step_here c.bang_stands.new.self.text.now history c.bang_stands.new.self) (wrong c)
is_wrong {origin = origin} c history kept =
    let mid = c.bang_stands.new.self in
    let text = mid.text.now in
    let none : language_front (drop mid.at text) ≡ None = rw (c.bang_stands.ensures.text, c.bang_stands.ensures.lookahead.0) c.requires.none in
    let here = none_here text history mid kept c.bang_stands.ensures.code.code (some c) none (c.if-bang_stands.ensures.other refl origin history kept) in
    let value : string_bytes c.in_ok-from_str.field-0 ≡ first_character (drop mid.at text) =
    c.in_ok-from_str.ensures.ok ∙ c.range.ensures.value ∙ ap (λ n. take n c.range_from-rest.result.now) (sub-zero _) ∙ c.character_len-end.ensures.character ∙ ap first_character c.range_from-rest.ensures.value in
    let len : c.character_len-end.result ≡ length (first_character (drop mid.at text)) = c.character_len-end.ensures.whole ∙ ap (λ t. length (first_character t)) c.range_from-rest.ensures.value in
    (InvalidInput (string_bytes c.in_ok-from_str.field-0), refl, here ∙ rw (value, len) refl)

pub refuse-requires : goal.refuse-requires
refuse-requires c =
    let mid = c.bang_stands.new.self in
    let code = c.bang_stands.ensures.code in
    let left = state_here mid c.bang_stands.ensures.sound code.stage in
    let fits = refused_fits (record mid { reads = c.character_len-end.new.self }) 0 c.character_len-end.result (errors.InvalidInput c.in_ok-from_str.field-0) (record {
      text = c.bang_stands.ensures.sound.text;
      stage = code.stage;
      stands = (left.0, left.1, state_reads mid.text.now left.1 mid c.character_len-end.new.self left.2, is_wrong (goal.at.refuse-requires c).In_ok-from_str left.1 left.2);
      idle = code.idle;
    }) in
    record { begin = fits.0; end = fits.1 }

pub returns-clause-ahead : goal.returns-clause-ahead
returns-clause-ahead c =
    let mid = c.bang_stands.new.self in
    let code = c.bang_stands.ensures.code in
    let read = refused_read (record mid { reads = c.character_len-end.new.self }) 0 c.character_len-end.result (errors.InvalidInput c.in_ok-from_str.field-0) code.idle in
    keeps_takes c.args.self.now mid c.refuse.new.self c.bang_stands.ensures.text c.bang_stands.ensures.ahead None (taken_here mid None c.refuse.new.self code.stage code.idle (λ origin history kept.
    rw c.refuse.ensures (read origin history (state_reads mid.text.now history mid c.character_len-end.new.self kept) (is_wrong (goal.at.returns-clause-ahead c).In_ok-from_str history kept))))

pub returns-clause-reads : goal.returns-clause-reads
returns-clause-reads c = λ before has read.
    let at = (goal.at.returns-clause-reads c).In_ok-from_str in
    let old = c.args.self.now in
    let mid = c.bang_stands.new.self in
    let text = mid.text.now in
    let rest = drop mid.at text in
    let left = state_here mid c.bang_stands.ensures.sound c.bang_stands.ensures.code.stage in
    let scanned = c.bang_stands.ensures.lookahead in
    let after = c.character_len-end.new.self in
    let is = is_wrong at left.1 left.2 in
    let end = c.character_len-end.result in
    let counted : AreStepReads 0 1 0 0 (wrong at) mid.reads after = search rules in
    let reads = none_reads rest (wrong at) before old.reads after (some at) read (omega (arith, scanned.3.0, counted.0), omega (arith, scanned.3.1, counted.1)) in
    let leaves = none_leave 3 rest (wrong at) before old.reads after (omega (arith, read.1)) (character_leaves rest end (errors.InvalidInput c.in_ok-from_str.field-0) old.reads mid.reads after (omega (arith, character_some rest (some at), c.character_len-end.ensures.whole, ap (λ t. length (first_character t)) c.range_from-rest.ensures.value)) scanned.3 refl refl counted) in
    subst (λ t. HasRead t c.refuse.new.self) (ap (λ t. t.now) c.bang_stands.ensures.text)
    (step_reads text before left.1 (wrong at) (record mid { reads = after }) c.refuse.new.self (state_reads text left.1 mid after left.2) is (omega (arith, has.0, scanned.0), omega (arith, has.1, scanned.0, scanned.2)) reads leaves (rw c.refuse.ensures ((refl, refl, omega arith), refl)))
