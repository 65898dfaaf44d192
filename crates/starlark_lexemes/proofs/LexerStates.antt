-- The state of a lexer while it passes line ends, and what its answers are as items of the text.
use Rattle.std.proofs.Common.{◌≡◌, ◌≤◌, ◌+◌, ◌||◌, arith, ℕ, IfSome, slice_get, subst, Option, None, Some, Result, Ok, Err, true, false, [], length, refl, ap, sym, ◌∙◌}
use Rattle.starlark_base.specs.Diagnostics.{Diagnosed}
use Rattle.starlark_base.specs.Sources.{SourceFile}
use Rattle.std.specs.Option.{is_some}
use Rattle.std.specs.Prelude.{◌&&◌, Bool, List, drop, map, not}
use Rattle.std.proofs.lemmas.List.{length-drop, length-map}
use Rattle.starlark_token.specs.TokenViews.{TokenView}
use Rattle.starlark_grammar.specs.Reading.{outcome}
use Rattle.starlark_lexemes.specs.Inner.LexerStates.{AreReadsTo, Course, HasAnswered, HasPassedAs, HasPassedNext, HasThrown, IsCourse, IsLexing, IsLexingIn, StateView, has_fault, left_in, view_of, whole}
use Rattle.starlark_reader.specs.Inner.Reader.{IsAtEnd, IsLeft, IsOver, IsRaw, IsSomething, IsSound, IsText, Origin, is_fault}
use Rattle.starlark_reader.proofs.TakenPieces.NextLexeme.{nothing_next}
use Rattle.starlark_reader.proofs.NextLines.{restart_inside}
use Rattle.starlark_reader.specs.Inner.ReadBounds.{HasReadAt}
use Rattle.starlark_reader.specs.declared.reader.Reader.{Reader}
use Rattle.starlark_reader.specs.declared.reader.Stage.{Stage}
use Rattle.starlark_reader.specs.declared.reader.Stage.TheVariants as stages
use Rattle.starlark_grammar.specs.Tokens.{Fault, Lexeme, Outcome, Spanned}
use Rattle.starlark_token.specs.declared.lexeme_error.LexemeError.{LexemeError}
use Rattle.std.proofs.lemmas.Bool.{and_parts, not-true}
use Rattle.starlark_grammar.specs.Words.{Text}
use Rattle.starlark_lexemes.proofs.LexerItems.{course_within, fault_item, lexeme_item, nothing_item, some_item}
use Rattle.starlark_lexemes.specs.Lexer.{AnswersNext, AnswersWithin, HasReadFor, is_ended_by, most_reads, yielded_by}
use Rattle.starlark_errors.specs.declared.error.kinds.ErrorKind.{ErrorKind}
use Rattle.starlark_lexemes.specs.declared.lexer_state.LexerState.{LexerState}
use Rattle.starlark_lexemes.specs.declared.passed.Kind.{Kind}
use Rattle.starlark_lexemes.specs.declared.passed.Kind.TheVariants as kind
use Rattle.starlark_lexemes.specs.declared.passed.Passed.{Passed}
use Rattle.starlark_text.specs.declared.or_memory.OrMemory.{OrMemory}
use Rattle.starlark_text.specs.declared.or_memory.OrMemory.TheVariants.{Error, Memory}
use Rattle.starlark_token.specs.Lexemes.{IsWithin, shown_lexeme}
use Rattle.starlark_token.specs.TextItems.{LexerItem, items}
use Rattle.starlark_token.specs.declared.tokens.Token.{Token}

-- a state that lexes a text, which its reader has
pub same_lexing : {course : Course} → (text : Text) (state : LexerState) → state.reader.text.now ≡ text → IsLexingIn course text state → IsLexing course state
same_lexing {course = course} text state same lexing = subst (λ (t : Text). IsLexingIn course t state) (sym same) lexing

-- a state that lexes a whole text, which its reader has
pub whole_lexing : (text : Text) (state : LexerState) → state.reader.text.now ≡ text → IsLexing (whole text) state → IsLexing (whole state.reader.text.now) state
whole_lexing text state same lexing = subst (λ (t : Text). IsLexing (whole t) state) (sym same) lexing

pub text_of : {course : Course} {text : Text} → IsCourse course text → IsText text
text_of is = record { fits = is.fits; utf8 = is.utf8 }

-- its reader is as a call needs it
pub lexing_sound : {course : Course} → (state : LexerState) → IsLexing course state → state.has_ended ≡ false → IsSound state.reader
lexing_sound state lexing going = record { text = text_of lexing.0; ready = (_, _, _, (lexing.1 going).1) }

-- what holds after all that has no lexeme was passed
pub record IsGoingOn (course : Course) (first now : LexerState) : Type 0 where
  pub lexing : IsLexing course now
  pub same : view_of now ≡ record (view_of first) { reads = now.reader.reads }
  pub ended : now.has_ended ≡ true → now ≡ first

-- the text and the number of yielded items are the same
abbrev pub IsSameText : LexerState → LexerState → Type 0
IsSameText first now = (now.reader.text.now ≡ first.reader.text.now) × (now.yielded_count ≡ first.yielded_count)

pub same_text : {course : Course} → (first now : LexerState) (reader : Reader) → IsGoingOn course first now → reader.text ≡ now.reader.text → IsSameText first (record now { reader = reader })
same_text first now reader on same = (ap (λ t. t.now) same ∙ ap (λ (v : StateView). v.text) on.same, ap (λ (v : StateView). v.yielded_count) on.same)

-- what was passed after what has no lexeme, was passed of the lexer before that
pub passed_same : (course : Course) (first now : LexerState) (it : Kind) (passed : Passed) (new : LexerState) → IsSameText first now → HasPassedAs course now it passed new → HasPassedAs course first it passed new
passed_same course first now kind.Layout passed new same is = absurd is
passed_same course first now kind.Last passed new same is = rw same.0 at is
passed_same course first now kind.OutOfMemory passed new same is = rw same.1 at is
passed_same course first now it passed new same is = rw (same.0, same.1) at is

pub next_same : {course : Course} → (first now : LexerState) (passed : Passed) (new : LexerState) → IsSameText first now → HasPassedNext course now passed new → HasPassedNext course first passed new
next_same {course = course} first now passed new same is = record { passed = passed_same course first now passed.kind passed new same is.passed; lexing = is.lexing; after = rw (same.0, same.1) at is.after }

pub or_true : (b : Bool) → (b || true) ≡ true
or_true true = refl
or_true false = refl

pub or_false : (b : Bool) → (b || false) ≡ b
or_false true = refl
or_false false = refl

-- what is answered is the next item of the text
pub answers_item : (file : SourceFile) (state : LexerState) (answer : Option (Result (ℕ × Token × ℕ) (OrMemory (Diagnosed ErrorKind)))) (new : LexerState) → is_some answer ≡ true → state.yielded_count ≤ length (outcome state.reader.text.now).lexemes → HasAnswered (whole state.reader.text.now) state answer new
    → AnswersNext file (slice_get (items state.reader.text.now) state.yielded_count) answer
answers_item file state None new some few is = cc
answers_item file state (Some (Ok lexeme)) new some few is = rw (lexeme_item state.reader.text.now state.yielded_count _ is.0 is.1) refl
answers_item file state (Some (Err (Error exception))) new some few is = absurd is
answers_item file state (Some (Err Memory)) new some few is = let item = some_item state.reader.text.now state.yielded_count few is in rw item.1 tt

-- and lies in it
pub answers_within : (course : Course) (state : LexerState) (answer : Option (Result (ℕ × Token × ℕ) (OrMemory (Diagnosed ErrorKind)))) (new : LexerState) → is_some answer ≡ true → IsCourse course state.reader.text.now → HasAnswered course state answer new → AnswersWithin state.reader.text.now answer
answers_within course state (Some (Ok lexeme)) new some inside is = course_within course state.reader.text.now state.yielded_count _ is.0 inside is.1
answers_within course state (Some (Err (Error exception))) new some inside is = absurd is
answers_within course state answer new some inside is = tt

-- where there is out of memory, something was left
pub refused_something : (course : Course) (state : LexerState) (refused : OrMemory (Diagnosed ErrorKind)) (new : LexerState) → HasAnswered course state (Some (Err refused)) new → IsSomething (left_in course state) course.fault
refused_something course state (Error exception) new is = absurd is
refused_something course state Memory new is = is

-- where nothing is answered, all lexemes were yielded, and the text and their number are the same
pub none_same : (old : LexerState) (answer : Option (Result (ℕ × Token × ℕ) (OrMemory (Diagnosed ErrorKind)))) (new : LexerState) → is_some answer ≡ false
    → view_of new ≡ record (view_of old) { yielded_count = old.yielded_count + yielded_by answer; has_ended = old.has_ended || is_ended_by answer; reads = new.reader.reads } → IsSameText old new × (new.has_ended ≡ old.has_ended)
none_same old None new none after = ((ap (λ (v : StateView). v.text) after, omega (arith, ap (λ (v : StateView). v.yielded_count) after)), ap (λ (v : StateView). v.has_ended) after ∙ or_false old.has_ended)
none_same old (Some answer) new none after = cc

pub none_at_end : (course : Course) (old : LexerState) (answer : Option (Result (ℕ × Token × ℕ) (OrMemory (Diagnosed ErrorKind)))) (new : LexerState) → is_some answer ≡ false → new.reader.text.now ≡ old.reader.text.now → HasAnswered course old answer new → IsAtEnd new.reader.text.now new.reader
none_at_end course old None new none same is = subst (λ (t : Text). IsAtEnd t new.reader) (sym same) is
none_at_end course old (Some answer) new none same is = cc

-- what is said of a state, said of one with the same text and number of items
pub moved_item : {A : Type 0} (P : Option LexerItem → A → Type 0) (old mid : LexerState) (answer : A) → IsSameText old mid → P (slice_get (items mid.reader.text.now) mid.yielded_count) answer → P (slice_get (items old.reader.text.now) old.yielded_count) answer
moved_item P old mid answer same is = rw (same.0, same.1) at is

-- so is the exception that is thrown after the last lexeme
pub thrown_item : (file : SourceFile) (state : LexerState) (refused : OrMemory (Diagnosed ErrorKind)) (new : LexerState) → state.yielded_count ≤ length (outcome state.reader.text.now).lexemes → HasThrown (whole state.reader.text.now) file state refused new
    → AnswersNext file (slice_get (items state.reader.text.now) state.yielded_count) (Some (Err refused))
thrown_item file state (Error exception) new few is = rw (fault_item state.reader.text.now state.yielded_count is.0 few is.1.none is.1.has) is.2
thrown_item file state Memory new few is = let item = some_item state.reader.text.now state.yielded_count few is in rw item.1 tt

pub fault_inside : {course : Course} {text : Text} → IsCourse course text → (fault : Spanned Fault) → course.fault ≡ Some fault → (fault.begin ≤ fault.end) × (fault.end ≤ length text)
fault_inside {text = text} is fault has = subst (λ (f : Option (Spanned Fault)). IfSome f (λ fault. (fault.begin ≤ fault.end) × (fault.end ≤ length text))) has is.fault_within

pub thrown_within : (course : Course) (file : SourceFile) (state : LexerState) (refused : OrMemory (Diagnosed ErrorKind)) (new : LexerState) → IsCourse course state.reader.text.now → HasThrown course file state refused new → AnswersWithin state.reader.text.now (Some (Err refused))
thrown_within course file state (Error exception) new inside is =
    let place = fault_inside inside is.0 is.1.has in
    subst (λ (d : Diagnosed ErrorKind). IfSome d.span (λ place. IsWithin state.reader.text.now place.span.begin place.span.end)) (sym is.2.2) (place.0, place.1, inside.fits)
thrown_within course file state Memory new inside is = tt

pub thrown_read : (file : SourceFile) (state : LexerState) (refused : OrMemory (Diagnosed ErrorKind)) (new : LexerState) → HasThrown (whole state.reader.text.now) file state refused new → HasReadFor state.reader.text.now (Some (Err refused)) new.reader.reads
thrown_read file state (Error exception) new is = (
  is.1.most,
  λ fault has.
      let both : Some is.0 ≡ Some fault = sym is.1.has ∙ has in
      let same : is.0 ≡ fault = cc in
      subst (λ (f : Spanned Fault). AreReadsTo state.reader.text.now f new.reader.reads) same is.1.reads,
)
thrown_read file state Memory new is = tt

-- where no lexeme is left, all were yielded
pub none_dropped : (lexemes : List Lexeme) (n : ℕ) → drop n (map shown_lexeme lexemes) ≡ [] → length lexemes ≤ n
none_dropped lexemes n none = omega (arith, ap (λ (l : List (Spanned TokenView)). length l) none, length-drop n (map shown_lexeme lexemes), length-map lexemes shown_lexeme)

-- the place of a fault, by its offsets
pub raw_place : (fault : Spanned Fault) (found : ℕ × LexemeError × ℕ) → IsRaw fault found → ◌≡◌ {A = Spanned Fault} (record { begin = found.0; node = fault.node; end = found.2 }) fault
raw_place fault found raw = rw (raw.0, raw.2) refl

-- where a fault was reached, no error has ended the lexer
pub fault_going : (state : LexerState) → has_fault state ≡ true → state.has_ended ≡ false
fault_going state has = not-true state.has_ended (and_parts (not state.has_ended) (is_fault state.reader.stage) has).0

-- while no error has ended it, what was read is bounded
read_at : (origin : Origin) (text : Text) (reader : Reader) (left : Outcome) (stage : Stage) → IsLeft origin text reader stage left → HasReadAt text reader stage → reader.reads ≤ most_reads text
read_at origin text reader left stages.Onward is has = omega (arith, has.1, is.1.inside)
read_at origin text reader left (stages.Fault begin fault end) is has = let read = (has.1 is.0 is.1).0 in omega (arith, read, restart_inside text (record { begin = begin; node = is.0; end = end }))
read_at origin text reader left stage is has = omega (arith, has.1)

pub lexing_read_in : {course : Course} → (text : Text) (state : LexerState) → IsLexingIn course text state → state.has_ended ≡ false → state.reader.reads ≤ most_reads text
lexing_read_in {course = course} text state lexing going =
    let ahead = (lexing.1 going).1 in
    read_at course.origin text state.reader ahead.left state.reader.stage ahead.is_left (lexing.3 going)

pub lexing_read : {course : Course} → (state : LexerState) → IsLexing course state → state.has_ended ≡ false → state.reader.reads ≤ most_reads state.reader.text.now
lexing_read state lexing going = lexing_read_in state.reader.text.now state lexing going

-- so it is after each call that doesn't run out of memory
pub answers_read : (course : Course) (old : LexerState) (answer : Option (Result (ℕ × Token × ℕ) (OrMemory (Diagnosed ErrorKind)))) (new : LexerState) → is_some answer ≡ true → old.has_ended ≡ false → HasAnswered course old answer new → IsLexing course new
    → view_of new ≡ record (view_of old) { yielded_count = old.yielded_count + yielded_by answer; has_ended = old.has_ended || is_ended_by answer; reads = new.reader.reads } → HasReadFor old.reader.text.now answer new.reader.reads
answers_read course old None new some going is lexing after = cc
answers_read course old (Some (Ok lexeme)) new some going is lexing after =
    subst (λ (t : Text). new.reader.reads ≤ most_reads t) (ap (λ (v : StateView). v.text) after) (lexing_read new lexing (ap (λ (v : StateView). v.has_ended) after ∙ ap (λ b. b || false) going))
answers_read course old (Some (Err (Error exception))) new some going is lexing after = absurd is
answers_read course old (Some (Err Memory)) new some going is lexing after = tt

-- At the end, where no fault was reached, nothing is left, and each byte was read.
pub at_end : {course : Course} → (state : LexerState) → IsLexing course state → state.has_ended ≡ false → IsAtEnd state.reader.text.now state.reader → has_fault state ≡ false
    → (left_in course state ≡ []) × (course.fault ≡ None) × (length state.reader.text.now ≤ state.reader.reads)
at_end {course = course} state lexing going end none = by state.reader.stage refl end.1 (sym (ap (λ ended. not ended && is_fault state.reader.stage) going) ∙ none)
  where
    by : (now : Stage) → state.reader.stage ≡ now → IsOver now → is_fault now ≡ false → (left_in course state ≡ []) × (course.fault ≡ None) × (length state.reader.text.now ≤ state.reader.reads)
    by (stages.Fault begin fault last) e over h = cc
    by stages.Closed e over h =
        let last = nothing_next state.reader.text.now state.reader state.reader (left_in course state) course.fault (record { at = refl; nesting = refl; levels = refl; before = refl }) end.0 refl e e (lexing.1 going).1 in
        (last.0, last.1, omega (arith, (subst (HasReadAt state.reader.text.now state.reader) e (lexing.3 going)).0, lexing.0.fits))
    by now e over h = absurd over

-- So nothing more is answered.
pub ends_here : (file : SourceFile) (old : LexerState) (answer : Option (Result (ℕ × Token × ℕ) (OrMemory (Diagnosed ErrorKind)))) (new : LexerState) → is_some answer ≡ false → IsLexing (whole new.reader.text.now) new → old.has_ended ≡ false → HasAnswered (whole old.reader.text.now) old answer new
    → view_of new ≡ record (view_of old) { yielded_count = old.yielded_count + yielded_by answer; has_ended = old.has_ended || is_ended_by answer; reads = new.reader.reads } → has_fault new ≡ false
    → AnswersNext file (slice_get (items old.reader.text.now) old.yielded_count) answer × HasReadFor old.reader.text.now answer new.reader.reads
ends_here file old (Some answer) new none lexing going is after faultless = cc
ends_here file old None new none lexing going is after faultless =
    let same = none_same old None new none after in
    let goes = same.1 ∙ going in
    let last = at_end new lexing goes (none_at_end (whole old.reader.text.now) old None new none same.0.0 is) faultless in
    let item = nothing_item new.reader.text.now new.yielded_count (lexing.1 goes).0 last.0 last.1 in (
      moved_item {A = Option (Result (ℕ × Token × ℕ) (OrMemory (Diagnosed ErrorKind)))} (AnswersNext file) old new None same.0 (rw item tt),
      (omega (arith, last.2, ap length same.0.0), omega (arith, lexing_read new lexing goes, ap length same.0.0)),
    )
