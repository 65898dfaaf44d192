-- What is ahead of a text that is lexed so far, and what a call answers of it.
use Rattle.std.specs.Prelude.{◌≡◌, ◌≤◌, ◌<◌, ◌^◌, ◌+◌, ◌-◌, ◌*◌, ◌&&◌, if◌then◌else◌, nat_lt, not, Bool, ℕ, true, false, List, [], ◌∷◌, drop, length, map, Option, None, Some, Result, Ok, Err, IfOk, IfSome, OnErr, OnOk}
use Rattle.std.specs.List.{AllByRecursion}
use Rattle.std.specs.Str.{IsCharBoundary, IsUtf8}
use Rattle.starlark_base.specs.Diagnostics.{Diagnosed}
use Rattle.starlark_base.specs.Sources.{SourceFile}
use Rattle.starlark_words.specs.Inner.Reads.{more_reads}
use Rattle.starlark_grammar.specs.AfterFaults.{restart}
use Rattle.starlark_grammar.specs.Laws.{AtBoundaries}
use Rattle.starlark_grammar.specs.Reading.{outcome}
use Rattle.starlark_grammar.specs.Tokens as grammar
use Rattle.starlark_grammar.specs.Tokens.{Fault, Spanned}
use Rattle.starlark_grammar.specs.Words.{Text, begins, is_name_start}
use Rattle.starlark_words.specs.Inner.ScannedWords.{begins_mark, peeked_len}
use Rattle.starlark_words.specs.declared.scanner.word.Word.{Word}
use Rattle.starlark_reader.specs.Inner.Reader.{IsAhead, IsAheadAfter, IsAheadPast, IsAtCode, IsAtEnd, IsRaw, IsSomething, IsStateAfter, IsStateAtFault, IsWordHere, From, Origin, Start, begins_with_fault, begins_with_tab, has_read_none, history_since, is_fault, kept_history, left_to_read, outcome_since, quoted_history}
use Rattle.starlark_reader.specs.Inner.ReadBounds.{HasRead, LeavesPassed}
use Rattle.starlark_reader.specs.declared.reader.Before.{Before}
use Rattle.starlark_reader.specs.declared.reader.Before.TheVariants as before
use Rattle.starlark_reader.specs.declared.reader.Reader.{Reader}
use Rattle.starlark_reader.specs.declared.reader.Stage.{Stage}
use Rattle.starlark_reader.specs.declared.reader.Stage.TheVariants as stages
use Rattle.starlark_errors.specs.Exceptions.{IsException}
use Rattle.starlark_reader.specs.Inner.Lookaheads.{HasPeeked, IsLiteralHere, IsTextRun}
use Rattle.starlark_grammar.specs.Front.{language_front}
use Rattle.starlark_lexemes.specs.Lexer.{LexerView, most_reads, search_reads}
use Rattle.starlark_errors.specs.declared.error.kinds.ErrorKind.{ErrorKind}
use Rattle.starlark_lexemes.specs.PlainLexemes.{IsPlainIn, plain_token, plain_view}
use Rattle.starlark_lexemes.specs.declared.lexer_state.LexerState.{LexerState}
use Rattle.starlark_text.specs.declared.or_memory.OrMemory.{OrMemory}
use Rattle.starlark_text.specs.declared.or_memory.OrMemory.TheVariants.{Error, Memory}
use Rattle.starlark_lexemes.specs.declared.passed.Kind.{Kind}
use Rattle.starlark_lexemes.specs.declared.passed.Kind.TheVariants as kind
use Rattle.starlark_lexemes.specs.declared.passed.Passed.{Passed}
use Rattle.starlark_token.specs.Lexemes.{lexeme_view, shown_lexeme}
use Rattle.starlark_token.specs.TokenViews.{TokenView, Whole, token_view}
use Rattle.starlark_token.specs.declared.lexeme_error.LexemeError.{LexemeError}
use Rattle.starlark_token.specs.declared.tokens.Token.{Token}

-- What is lexed: the lexemes of a text from where reading began on, and the fault after them.
pub record Course : Type 0 where
  pub origin : Origin
  pub lexemes : List grammar.Lexeme
  pub fault : Option (Spanned Fault)

abbrev pub course_of : Origin → Text → Course
course_of origin text = record { origin = origin; lexemes = (outcome_since origin text).lexemes; fault = (outcome_since origin text).fault }

-- that of a whole text
abbrev pub whole : Text → Course
whole text = record { origin = Start; lexemes = (outcome text).lexemes; fault = (outcome text).fault }

-- The text is UTF-8 and short enough for offsets of 32 bits; the lexemes and the fault lie in it, between characters.
pub record IsCourse (course : Course) (text : Text) : Type 0 where
  pub fits : length text < 2 ^ 32
  pub utf8 : IsUtf8 text
  pub few : length course.lexemes < 2 ^ 34
  pub within : AllByRecursion (λ (lexeme : grammar.Lexeme). (lexeme.begin ≤ lexeme.end) × (lexeme.end ≤ length text)) course.lexemes
  pub edges : AllByRecursion (AtBoundaries text) course.lexemes
  pub fault_within : IfSome course.fault (λ fault. (fault.begin ≤ fault.end) × (fault.end ≤ length text))
  pub fault_edges : IfSome course.fault (AtBoundaries text)

-- the lexemes that weren't yielded yet
abbrev pub left_in : Course → LexerState → List (Spanned TokenView)
left_in course state = drop state.yielded_count (map shown_lexeme course.lexemes)

-- the state as users of a lexer see it, without its cut
pub record StateView : Type 0 where
  pub text : Text
  pub yielded_count : ℕ
  pub has_ended : Bool
  pub reads : ℕ

abbrev pub view_of : LexerState → StateView
view_of state = record { text = state.reader.text.now; yielded_count = state.yielded_count; has_ended = state.has_ended; reads = state.reader.reads }

-- the offset that a reader has reached in a flat margin, if that is before the text's end
abbrev pub reached_cut : Text → Reader → Stage → Before → Option ℕ
reached_cut text reader stages.Onward before.Layout =
    if reader.pending.is_flat && nat_lt 0 reader.pending.from && nat_lt reader.pending.from (length text) then Some reader.pending.from else None
reached_cut text reader stage before = None

-- where the text may be cut, if the reader knows after a lexeme
unfoldable pub known_cut : LexerState → Option ℕ
known_cut state = if not state.has_ended && nat_lt 0 state.yielded_count then reached_cut state.reader.text.now state.reader state.reader.stage state.reader.before else None

-- What the reader has ahead are the lexemes that weren't yielded yet, and the fault after them; and what was read is paid
-- for. After an error nothing of this is known.
abbrev pub IsLexingIn : Course → Text → LexerState → Type 0
IsLexingIn course text state =
    IsCourse course text
    × (state.has_ended ≡ false → (state.yielded_count ≤ length course.lexemes)
    × IsAhead course.origin text state.reader state.reader.stage (drop state.yielded_count (map shown_lexeme course.lexemes)) course.fault)
    × (state.is_at_code ≡ true → state.has_ended ≡ false)
    × (state.has_ended ≡ false → HasRead text state.reader)
    × (state.is_at_code ≡ true → IsAtCode text state.reader)

-- So it is of the state's own text.
abbrev pub IsLexing : Course → LexerState → Type 0
IsLexing course state = IsLexingIn course state.reader.text.now state

-- Lexing a text has begun, and nothing was looked at yet: the reader has all of any text ahead.
pub record IsBegun (text : Text) (state : LexerState) : Type 0 where
  pub view : view_of state ≡ record { text = text; yielded_count = 0; has_ended = false; reads = 0 }
  pub ahead : (any : Text) → IsAhead Start any state.reader state.reader.stage (map shown_lexeme (outcome any).lexemes) (outcome any).fault
  pub reads : (any : Text) → HasRead any state.reader
  pub outside : state.is_at_code ≡ false

-- What a call answers: the first lexeme that is left, or nothing where none is; or out of memory in the place of a lexeme or
-- the fault.
abbrev pub HasAnswered : Course → LexerState → Option (Result (ℕ × Token × ℕ) (OrMemory (Diagnosed ErrorKind))) → LexerState → Type 0
HasAnswered course old (Some (Ok lexeme)) new = IsAheadAfter course.origin old.reader.text.now (Some lexeme) new.reader (left_in course old) course.fault
HasAnswered course old (Some (Err (Error exception))) new = ⊥
HasAnswered course old (Some (Err Memory)) new = IsSomething (left_in course old) course.fault
HasAnswered course old None new = IsAtEnd old.reader.text.now new.reader

-- whether a fault was reached, and isn't taken yet
abbrev pub has_fault : LexerState → Bool
has_fault state = not state.has_ended && is_fault state.reader.stage

-- The fault of a text was taken, and all lexemes before it were yielded. The reader stores what is open there, and its reads
-- leave those of the bytes that are passed with the fault.
pub record IsAtFault (course : Course) (text : Text) (fault : Spanned Fault) (state : LexerState) : Type 0 where
  pub fits : length text < 2 ^ 32
  pub has : course.fault ≡ Some fault
  pub counted : state.yielded_count ≡ length course.lexemes + 1
  pub stores : IsStateAtFault course.origin text state.reader
  pub before : state.reader.at ≤ fault.begin
  pub least : more_reads 0 fault.begin ≤ state.reader.reads
  pub leaves : LeavesPassed text fault state.reader.reads

-- What is lexed from byte `end` of a text on, after a fault at which all that is open stays open.
abbrev pub course_past : Course → (end : ℕ) → Text → Course
course_past course end text = course_of (From (kept_history (history_since course.origin text)) end) text

-- Such a fault: reading goes on at byte `end`, and so many reads reach there.
pub record KeepsOpen (course : Course) (text : Text) (fault : Spanned Fault) (end reads : ℕ) : Type 0 where
  pub later : fault.begin ≤ end
  pub least : more_reads 0 end ≤ reads
  pub most : reads ≤ 10 * end + 2
  pub standing : begins_with_fault course.origin text ≡ false
  pub boundary : IsCharBoundary text end

-- What is lexed of the text from the line end of an open quote on, of a text where all before the quote was lexed.
abbrev pub course_quoted : Course → Text → (quote rest : Text) → Course
course_quoted course text quote rest = course_of (From (quoted_history (history_since course.origin text) quote) 0) rest

-- Such a fault: these are its bytes, and that is the text from its line end on.
pub record IsQuoteOf (course : Course) (text : Text) (fault : Spanned Fault) (quote rest : Text) : Type 0 where
  pub order : fault.begin ≤ fault.end
  pub inside : fault.end ≤ length text
  pub quote_len : length quote ≡ fault.end - fault.begin
  pub rest_len : length rest ≡ length text - fault.end
  pub standing : begins_with_fault course.origin text ≡ false

-- At a fault each byte before it was read, and at most so many, with those that find where lexing begins again.
abbrev pub AreReadsTo : Text → Spanned Fault → ℕ → Type 0
AreReadsTo text fault reads = (fault.begin ≤ reads) × (reads + search_reads text fault ≤ 16 * (restart text fault + 1))

-- What was read up to the fault of a text, which is all that is left of it.
pub record HasReachedFault (course : Course) (old : LexerState) (fault : Spanned Fault) (new : LexerState) : Type 0 where
  pub none : left_in course old ≡ []
  pub has : course.fault ≡ Some fault
  pub tab : course.origin ≡ Start → has_read_none new.reader ≡ begins_with_tab old.reader.text.now
  pub most : new.reader.reads ≤ most_reads old.reader.text.now
  pub reads : AreReadsTo old.reader.text.now fault new.reader.reads
  pub here : IsAtFault course old.reader.text.now fault new

-- What is taken after the last lexeme: the fault, between two offsets, or nothing where the text has none.
abbrev pub HasTakenLast : Course → LexerState → Option (ℕ × LexemeError × ℕ) → LexerState → Type 0
HasTakenLast course old (Some found) new = (fault : Spanned Fault) × HasReachedFault course old fault new × IsRaw fault found
HasTakenLast course old None new =
    (left_in course old ≡ []) × (course.fault ≡ None) × IsStateAfter course.origin old.reader.text.now (history_since course.origin old.reader.text.now) new.reader
    × (more_reads 0 (length old.reader.text.now) ≤ new.reader.reads) × (new.reader.reads < most_reads old.reader.text.now)

-- What a call finds next in a text: the first lexeme that is left, after the last one the fault, or nothing where there is
-- none; or out of memory in the place of either.
abbrev pub HasFound : Course → Text → LexerState → Option (Result (ℕ × Token × ℕ) (OrMemory (ℕ × LexemeError × ℕ))) → LexerState → Type 0
HasFound course text old (Some (Ok lexeme)) new =
    (more : List (Spanned TokenView)) × (drop old.yielded_count (map shown_lexeme course.lexemes) ≡ lexeme_view lexeme ∷ more) × (new.reader.reads ≤ most_reads text)
HasFound course text old (Some (Err Memory)) new = IsSomething (drop old.yielded_count (map shown_lexeme course.lexemes)) course.fault
HasFound course text old (Some (Err (Error found))) new =
    (fault : Spanned Fault) × (drop old.yielded_count (map shown_lexeme course.lexemes) ≡ []) × IsAtFault course text fault new × AreReadsTo text fault new.reader.reads × IsRaw fault found
HasFound course text old None new =
    (drop old.yielded_count (map shown_lexeme course.lexemes) ≡ []) × (course.fault ≡ None) × (length text ≤ new.reader.reads) × (new.reader.reads ≤ most_reads text)

-- The exception of the fault after the last lexeme, or out of memory in its place.
abbrev pub HasThrown : Course → SourceFile → LexerState → OrMemory (Diagnosed ErrorKind) → LexerState → Type 0
HasThrown course file old (Error exception) new = (fault : Spanned Fault) × HasReachedFault course old fault new × IsException file fault exception
HasThrown course file old Memory new = IsSomething (left_in course old) course.fault

-- how many items it is
abbrev pub thrown_count : OrMemory (Diagnosed ErrorKind) → ℕ
thrown_count (Error exception) = 1
thrown_count Memory = 0

abbrev pub taken_count : Option (ℕ × LexemeError × ℕ) → ℕ
taken_count (Some found) = 1
taken_count None = 0

-- The reader took the first lexeme that is left, which the lexer hasn't counted yet, or ran out of memory in its place.
pub record IsTakenNext {E : Type 0} (course : Course) (state : LexerState) (taken : Result (ℕ × Token × ℕ) E) : Type 0 where
  pub text : IsCourse course state.reader.text.now
  pub going : state.has_ended ≡ false
  pub few : state.yielded_count ≤ length course.lexemes
  pub ahead : IfOk taken (λ lexeme. IsAheadAfter course.origin state.reader.text.now (Some lexeme) state.reader (left_in course state) course.fault)
  pub memory : OnErr taken (IsSomething (left_in course state) course.fault)

-- The reader read what comes next: the first lexeme that is left, or nothing at a fault and at the text's end; or it ran out
-- of memory in the place of either.
pub record IsReadNext {E : Type 0} (course : Course) (state : LexerState) (read : Result (Option (ℕ × Token × ℕ)) E) : Type 0 where
  pub text : IsCourse course state.reader.text.now
  pub going : state.has_ended ≡ false
  pub few : state.yielded_count ≤ length course.lexemes
  pub ahead : IfOk read (λ given. IsAheadAfter course.origin state.reader.text.now given state.reader (left_in course state) course.fault)
  pub end : IfOk read (λ given. given ≡ None → IsAtEnd state.reader.text.now state.reader)
  pub memory : OnErr read (IsSomething (left_in course state) course.fault)
  pub reads : OnOk read (HasRead state.reader.text.now state.reader)

-- how many lexemes a kind is
abbrev pub passed_count : Kind → ℕ
passed_count kind.Layout = 0
passed_count kind.Last = 0
passed_count kind.OutOfMemory = 0
passed_count it = 1

abbrev pub is_out_of_memory : Kind → Bool
is_out_of_memory kind.OutOfMemory = true
is_out_of_memory it = false

-- what was passed last, of a kind, by the offsets of a state
abbrev pub passed_of : LexerState → Kind → Passed
passed_of state it = record { kind = it; begin = state.begin; end = state.end; value_begin = state.value_begin; value_end = state.value_end }

-- a lexeme without a value between two offsets
abbrev pub valueless : Kind → (begin end : ℕ) → Passed
valueless it begin end = record { kind = it; begin = begin; end = end; value_begin = end; value_end = end }

-- a lexeme whose token was made
abbrev pub made_view : Passed → Token → Spanned TokenView
made_view passed token = record { begin = passed.begin; node = token_view token; end = passed.end }

-- What a step passed, by its kind: the first lexeme that is left; nothing where none is; or out of memory in the place of an
-- item.
abbrev pub HasPassedAs : Course → LexerState → Kind → Passed → LexerState → Type 0
HasPassedAs course old kind.Layout passed new = ⊥
HasPassedAs course old kind.Last passed new = IsAtEnd old.reader.text.now new.reader
HasPassedAs course old kind.OutOfMemory passed new = IsSomething (left_in course old) course.fault
HasPassedAs course old kind.Made passed new = IsAheadPast course.origin old.reader.text.now (made_view passed new.token) new.reader (left_in course old) course.fault
HasPassedAs course old it passed new = IsPlainIn old.reader.text.now passed × IsAheadPast course.origin old.reader.text.now (plain_view old.reader.text.now passed) new.reader (left_in course old) course.fault

abbrev pub HasPassed : Course → LexerState → Passed → LexerState → Type 0
HasPassed course old passed new = HasPassedAs course old passed.kind passed new

-- A step passed it, where no error had ended the lexer.
pub record HasPassedNext (course : Course) (old : LexerState) (what : Passed) (new : LexerState) : Type 0 where
  pub passed : HasPassed course old what new
  pub lexing : IsLexing course new
  pub after : view_of new ≡ record (view_of old) { yielded_count = old.yielded_count + passed_count what.kind; has_ended = is_out_of_memory what.kind; reads = new.reader.reads }

-- how much is left to look at, before code
abbrev pub left_to_look : (at_code : Bool) → ℕ
left_to_look true = 0
left_to_look false = 1

-- how much is left to pass
abbrev pub left_to_pass : LexerState → ℕ
left_to_pass state = 2 * left_to_read state.reader.text.now state.reader state.reader.stage + left_to_look state.is_at_code

-- What has no lexeme was passed.
pub record HasGoneOn (course : Course) (old new : LexerState) : Type 0 where
  pub lexing : IsLexing course new
  pub after : view_of new ≡ record (view_of old) { reads = new.reader.reads }
  pub less : left_to_pass new < left_to_pass old

-- What was passed: what has no lexeme, or else; its offsets are the state's.
abbrev pub HasAdvanced : Course → LexerState → Kind → LexerState → Type 0
HasAdvanced course old kind.Layout new = HasGoneOn course old new
HasAdvanced course old it new = HasPassedNext course old (passed_of new it) new

-- The lexer is at a word in code, which was found by at most so many reads, and all that was read before is paid for.
pub record IsAtWord (course : Course) (state : LexerState) (word : Word) (most : ℕ) : Type 0 where
  pub text : IsCourse course state.reader.text.now
  pub going : state.has_ended ≡ false
  pub few : state.yielded_count ≤ length course.lexemes
  pub ahead : IsAhead course.origin state.reader.text.now state.reader state.reader.stage (left_in course state) course.fault
  pub stands : IsWordHere state.reader.text.now state.reader word
  pub code : state.is_at_code ≡ true
  pub read : HasPeeked state.reader.text.now word.len most state.reader

-- The lexer is at the opener of a literal, after which a run without escapes was looked at.
pub record IsAtLiteral (course : Course) (state : LexerState) (opener : Word) (run : ℕ) : Type 0 where
  pub text : IsCourse course state.reader.text.now
  pub going : state.has_ended ≡ false
  pub few : state.yielded_count ≤ length course.lexemes
  pub ahead : IsAhead course.origin state.reader.text.now state.reader state.reader.stage (left_in course state) course.fault
  pub stands : IsLiteralHere state.reader.text.now state.reader opener run

-- The lexer is at the text of an f-string, whose first bytes were looked at.
pub record IsAtText (course : Course) (state : LexerState) (run : ℕ) : Type 0 where
  pub text : IsCourse course state.reader.text.now
  pub going : state.has_ended ≡ false
  pub few : state.yielded_count ≤ length course.lexemes
  pub ahead : IsAhead course.origin state.reader.text.now state.reader state.reader.stage (left_in course state) course.fault
  pub stands : IsTextRun state.reader.text.now run state.reader
  pub read : HasPeeked state.reader.text.now run (8 * run + 4) state.reader

-- The lexer is in code where no word begins.
pub record IsAtWordless (course : Course) (state : LexerState) : Type 0 where
  pub text : IsCourse course state.reader.text.now
  pub going : state.has_ended ≡ false
  pub few : state.yielded_count ≤ length course.lexemes
  pub ahead : IsAhead course.origin state.reader.text.now state.reader state.reader.stage (left_in course state) course.fault
  pub code : IsAtCode state.reader.text.now state.reader
  pub none : language_front (drop state.reader.at state.reader.text.now) ≡ None
  pub read : HasPeeked state.reader.text.now 0 3 state.reader

-- The lexer is in code, where the first two bytes tell no word, and none begins with a letter.
pub record IsUnnamed (course : Course) (state : LexerState) : Type 0 where
  pub text : IsCourse course state.reader.text.now
  pub going : state.has_ended ≡ false
  pub few : state.yielded_count ≤ length course.lexemes
  pub ahead : IsAhead course.origin state.reader.text.now state.reader state.reader.stage (left_in course state) course.fault
  pub code : IsAtCode state.reader.text.now state.reader
  pub unnamed : begins is_name_start (drop state.reader.at state.reader.text.now) ≡ false
  pub marks : begins_mark (drop state.reader.at state.reader.text.now) ≡ false
  pub at_code : state.is_at_code ≡ true
  pub read : HasPeeked state.reader.text.now (peeked_len (drop state.reader.at state.reader.text.now)) (peeked_len (drop state.reader.at state.reader.text.now)) state.reader

-- What is taken of what was passed, by its kind: its token, or why there is none. Out of memory ends the lexer.
abbrev pub IsTakenAs : LexerState → Kind → Passed → Result Token Kind → LexerState → Type 0
IsTakenAs old kind.Made passed (Ok token) new = (token ≡ old.token) × (new ≡ record old { token = new.token })
IsTakenAs old kind.Made passed (Err it) new = ⊥
IsTakenAs old kind.Layout passed (Ok token) new = ⊥
IsTakenAs old kind.Layout passed (Err it) new = (it ≡ kind.Layout) × (new ≡ old)
IsTakenAs old kind.Last passed (Ok token) new = ⊥
IsTakenAs old kind.Last passed (Err it) new = (it ≡ kind.Last) × (new ≡ old)
IsTakenAs old kind.OutOfMemory passed (Ok token) new = ⊥
IsTakenAs old kind.OutOfMemory passed (Err it) new = (it ≡ kind.OutOfMemory) × (new ≡ old)
IsTakenAs old plain passed (Ok token) new = (token_view token ≡ Whole (plain_token old.reader.text.now passed)) × (new ≡ old)
IsTakenAs old plain passed (Err it) new = (it ≡ kind.OutOfMemory) × (new ≡ record old { yielded_count = old.yielded_count - 1; has_ended = true; is_at_code = false })

abbrev pub IsTakenOf : LexerState → Passed → Result Token Kind → LexerState → Type 0
IsTakenOf old passed taken new = IsTakenAs old passed.kind passed taken new

-- the item of what was taken
abbrev pub item_of : Passed → Result Token Kind → Option (Result (ℕ × Token × ℕ) (OrMemory (Diagnosed ErrorKind)))
item_of passed (Ok token) = Some (Ok (passed.begin, token, passed.end))
item_of passed (Err kind.OutOfMemory) = Some (Err Memory)
item_of passed (Err it) = None

-- What a call answers is the item of what was taken.
abbrev pub IsItemOf : LexerState → Passed → Option (Result (ℕ × Token × ℕ) (OrMemory (Diagnosed ErrorKind))) → LexerState → Type 0
IsItemOf old passed answer new = (taken : Result Token Kind) × IsTakenOf old passed taken new × (answer ≡ item_of passed taken)

-- the lexer as its users see it
abbrev pub lexer_view : LexerState → SourceFile → LexerView
lexer_view state file = record { text = state.reader.text.now; code_map = file; yielded_count = state.yielded_count; has_ended = state.has_ended; reads = state.reader.reads; cut = known_cut state }
