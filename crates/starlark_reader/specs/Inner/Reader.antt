-- What is ahead of a reader in its text, as the grammar sees it, wherever its reading began.
use Rattle.std.specs.Prelude.{◌≡◌, ◌==◌, ◌&&◌, not, Bool, true, false, ℕ, ◌+◌, ◌-◌, ◌≤◌, ◌<◌, ◌^◌, List, [], ◌∷◌, ◌++◌, map, length, drop, take, Option, Some, None, option_to_list, ⊤}
use Rattle.std.specs.Str.{IsCharBoundary, IsUtf8}
use Rattle.starlark_grammar.specs.Words.{Text, language}
use Rattle.starlark_grammar.specs.Tokens as grammar
use Rattle.starlark_grammar.specs.Margins.{has_tab, is_content, margin_of, open_widths}
use Rattle.starlark_grammar.specs.Cuts.{is_layout}
use Rattle.starlark_grammar.specs.Found.{at_line}
use Rattle.starlark_grammar.specs.Depths.{mode_after}
use Rattle.starlark_grammar.specs.Front.{language_front}
use Rattle.starlark_grammar.specs.KeptLines.{with_brackets}
use Rattle.starlark_grammar.specs.Pieces as pieces
use Rattle.starlark_grammar.specs.Pieces.{Before, Fails, Gap, Layout, Other, Step, Piece, first_margin, is_bang}
use Rattle.starlark_words.specs.Inner.ScannedWords.{word_view}
use Rattle.starlark_words.specs.declared.scanner.word.Word.{Word}
use Rattle.starlark_grammar.specs.Reading.{History, after_all, history_after, nothing, pieces_len, next_step, outcome_after, read_len}
use Rattle.starlark_grammar.specs.Longest.{IsReading}
use Rattle.starlark_token.specs.Lexemes.{fault_view, lexeme_view, shown_lexeme}
use Rattle.starlark_reader.specs.Inner.MarginCuts.{IsAfterLines, IsCutBefore, IsMarginAhead}
use Rattle.starlark_reader.specs.Inner.Pending.{IsIdle, IsPending, pending_lexemes}
use Rattle.starlark_reader.specs.Inner.Nesting.{Represents, bracket_count}
use Rattle.starlark_reader.specs.Inner.PieceViews.{is_code}
use Rattle.starlark_reader.specs.Inner.StepViews.{text_step}
use Rattle.starlark_reader.specs.declared.literal.chunks.Chunk.{Chunk}
use Rattle.starlark_token.specs.TokenViews.{TokenView, Whole}
use Rattle.starlark_grammar.specs.declared.class.Terminal.{Terminal}
use Rattle.starlark_token.specs.declared.lexeme_error.LexemeError.{LexemeError}
use Rattle.starlark_token.specs.declared.tokens.Token.{Token}
use Rattle.starlark_token.specs.declared.tokens.Token.TheVariants as token
use Rattle.starlark_reader.specs.declared.reader.Reader.{Reader}
use Rattle.starlark_reader.specs.declared.reader.Before as code
use Rattle.starlark_reader.specs.declared.reader.Before.TheVariants as before
use Rattle.starlark_reader.specs.declared.reader.TakenLineEnd.{TakenLineEnd}
use Rattle.starlark_reader.specs.declared.reader.TakenLineEnd.TheVariants as line_end
use Rattle.starlark_reader.specs.declared.reader.Stage.{Stage}
use Rattle.starlark_reader.specs.declared.reader.Stage.TheVariants as stage

-- an outcome of the rest of a text, at its place in the text
abbrev pub moved_fault : ℕ → Option (grammar.Spanned grammar.Fault) → Option (grammar.Spanned grammar.Fault)
moved_fault at None = None
moved_fault at (Some fault) = Some (grammar.moved at fault)

abbrev pub moved_outcome : ℕ → grammar.Outcome → grammar.Outcome
moved_outcome at found = record { lexemes = map (grammar.moved at) found.lexemes; fault = moved_fault at found.fault }

-- the outcome of the rest of a text from byte `at` on, after a history
unfoldable pub remaining_outcome : History → ℕ → Text → grammar.Outcome
remaining_outcome history at text = moved_outcome at (outcome_after history text)

-- Where the reading of a text began: at its start, which is that of a line, with blocks of these widths open; or at an offset,
-- where what was read before is a history.
pub data Origin : Type 0 where
  Line : (widths : List ℕ) → Origin
  From : (history : History) (at : ℕ) → Origin

-- the start of a text of its own
abbrev pub Start : Origin
Start = Line []

-- what was read before, and where the rest begins
abbrev pub history_before : Origin → History
history_before (Line widths) = at_line widths
history_before (From history at) = history

abbrev pub begin_of : Origin → ℕ
begin_of (Line widths) = 0
begin_of (From history at) = at

-- the outcome of a text from there on
abbrev pub outcome_since : Origin → Text → grammar.Outcome
outcome_since (Line widths) text = outcome_after (at_line widths) text
outcome_since (From history at) text = remaining_outcome history at (drop at text)

-- the history after all pieces from there on
abbrev pub history_since : Origin → Text → History
history_since origin text = history_after (history_before origin) (drop (begin_of origin) text)

-- the offset up to which those pieces reach
abbrev pub reach_since : Origin → Text → ℕ
reach_since origin text = begin_of origin + read_len (history_before origin) (drop (begin_of origin) text)

-- the kind of the last piece, as the grammar names it
abbrev pub before_view : code.Before → Before
before_view before.Layout = Layout
before_view before.Gap = Gap
before_view before.Other = Other

-- the kind of a piece without lexemes: a gap, or another
abbrev pub silent_sort : Bool → code.Before
silent_sort true = before.Gap
silent_sort false = before.Other

-- the history is that of a text's pieces up to byte `at`
pub record IsReadTo (text : Text) (history : History) (at : ℕ) : Type 0 where
  pub pieces : List Piece
  pub reads : IsReading language nothing text pieces
  pub is_history : after_all nothing pieces ≡ history
  pub reach : pieces_len pieces ≡ at

-- the reader stores what the history says at its offset: tokens, widths and last piece, with room to
-- count a bracket for each byte that is left; reading on from there leads to the history at the
-- text's end
pub record IsStateAfter (origin : Origin) (text : Text) (history : History) (reader : Reader) : Type 0 where
  pub nesting : Represents history.tokens reader.nesting
  pub levels : reader.levels ≡ open_widths history.widths
  pub before : before_view reader.before ≡ history.before
  pub inside : reader.at ≤ length text
  pub boundary : IsCharBoundary text reader.at
  pub few : bracket_count reader.nesting + length text < 2 ^ 32 + reader.at
  pub onward : history_after history (drop reader.at text) ≡ history_since origin text
  pub reach : reader.at + read_len history (drop reader.at text) ≡ reach_since origin text
  pub read : origin ≡ Start → IsReadTo text history reader.at

-- whether a text's first margin has a tab before content, which is a fault
abbrev pub begins_with_tab : Text → Bool
begins_with_tab text = is_content (margin_of text).remainder && has_tab (margin_of text)

-- whether the first margin of a text is a fault
abbrev pub is_refused : Step → Bool
is_refused (Fails fault) = true
is_refused step = false

abbrev pub begins_with_fault : Origin → Text → Bool
begins_with_fault (Line widths) text = is_refused (first_margin (open_widths widths) text)
begins_with_fault (From history at) text = false

-- at a fault the reader stores the open widths; and its offset is where the pieces end, and it stores all that their history
-- says, unless the fault is in the first margin
pub record IsStateAtFault (origin : Origin) (text : Text) (reader : Reader) : Type 0 where
  pub levels : reader.levels ≡ open_widths (history_since origin text).widths
  pub whole : begins_with_fault origin text ≡ false → IsStateAfter origin text (history_since origin text) reader
  pub at : begins_with_fault origin text ≡ false → reader.at ≡ reach_since origin text

-- the history after a fault that keeps its line: all stays open, and its last piece is neither a margin nor a gap
abbrev pub kept_history : History → History
kept_history history = record history { before = Other }

-- the history after an open quote of some bytes: their brackets count
abbrev pub quoted_history : History → Text → History
quoted_history history quote = record history { tokens = with_brackets history.tokens quote; before = Other }

-- whether no piece of a text was read
abbrev pub has_read_none : Reader → Bool
has_read_none reader = reader.at == 0 && not (is_layout (before_view reader.before))

-- reading began at the start of a line
abbrev pub IsLine : Origin → Type 0
IsLine (Line widths) = ⊤
IsLine (From history at) = ⊥

-- what is still to be read at a stage: the whole text, the rest from the reader's offset on, a
-- fault, or nothing; the offset is in the text
abbrev pub IsLeft : Origin → Text → Reader → Stage → grammar.Outcome → Type 0
IsLeft origin text reader stage.Begin left = (left ≡ outcome_since origin text) × (reader.at ≡ 0) × (Represents [] reader.nesting) × (reader.levels ≡ open_widths (history_before origin).widths) × (bracket_count reader.nesting ≡ 0) × (reader.before ≡ before.Other) × IsLine origin
IsLeft origin text reader stage.Onward left = (history : History) × IsStateAfter origin text history reader × (left ≡ remaining_outcome history reader.at (drop reader.at text))
IsLeft origin text reader (stage.Fault begin fault end) left =
    (node : grammar.Fault) × (fault_view fault ≡ Some node) × (left ≡ record { lexemes = []; fault = Some (record { begin = begin; node = node; end = end }) }) × (origin ≡ Start → has_read_none reader ≡ begins_with_tab text) × (reader.at ≤ length text) × IsStateAtFault origin text reader × (reader.at ≤ begin)
IsLeft origin text reader stage.Closed left = (left ≡ record { lexemes = []; fault = None }) × IsStateAfter origin text (history_since origin text) reader

-- in a flat margin, if `pending.from` isn't the text's end: all lexemes before that byte were
-- yielded, and `ahead` are left
abbrev pub IsCutAhead : Text → Reader → Stage → ℕ → Type 0
IsCutAhead text reader now ahead =
    now ≡ stage.Onward → reader.before ≡ before.Layout → reader.pending.is_flat ≡ true → reader.pending.from < length text → IsMarginAhead text reader.pending ahead

-- the reader is after a margin with no indent open before it, and no lexeme after the margin's
-- comments was yielded
abbrev pub IsInFlatMargin : Reader → Stage → Type 0
IsInFlatMargin reader now = (now ≡ stage.Onward) × (reader.before ≡ before.Layout) × (reader.pending.is_flat ≡ true)

-- each kept cut with `least` or more lexemes after it, and fewer than `most`, is in the reader's
-- flat margin; `ahead` lexemes are left there
abbrev pub HoldsCuts : Text → Reader → Stage → ℕ → ℕ → ℕ → Type 0
HoldsCuts text reader now least most ahead =
    (at remainder : ℕ) → IsCutBefore text at remainder → least ≤ remainder → remainder < most → IsInFlatMargin reader now × IsAfterLines text reader.pending at remainder ahead

-- byte `at` is the offset reached in the reader's flat margin
abbrev pub IsReached : Reader → ℕ → Type 0
IsReached reader at = IsInFlatMargin reader reader.stage × (at ≡ reader.pending.from)

-- the lexemes and the fault that are still to be yielded: pending lexemes, those still to be read,
-- and the fault after them; cuts are known where the reading began at the text's start
pub record IsAhead (origin : Origin) (text : Text) (reader : Reader) (stage : Stage) (lexemes : List (grammar.Spanned TokenView)) (fault : Option (grammar.Spanned grammar.Fault)) : Type 0 where
  pub left : grammar.Outcome
  pub is_left : IsLeft origin text reader stage left
  pub is_pending : IsPending text reader.pending
  pub ahead : lexemes ≡ map shown_lexeme (pending_lexemes text reader.pending) ++ map shown_lexeme left.lexemes
  pub those_after : fault ≡ left.fault
  pub cut : origin ≡ Start → IsCutAhead text reader stage (length lexemes)
  pub cuts : origin ≡ Start → HoldsCuts text reader stage (length left.lexemes) (length lexemes) (length lexemes)

-- something is still to be yielded, if only the end
abbrev pub IsReady : Text → Reader → Stage → Type 0
IsReady text reader stage = (origin : Origin) × (lexemes : List (grammar.Spanned TokenView)) × (fault : Option (grammar.Spanned grammar.Fault)) × IsAhead origin text reader stage lexemes fault

-- a text is UTF-8, and short enough for offsets of 32 bits
pub record IsText (text : Text) : Type 0 where
  pub fits : length text < 2 ^ 32
  pub utf8 : IsUtf8 text

-- what holds of a reader between two calls, unless memory ran out
pub record IsSound (reader : Reader) : Type 0 where
  pub text : IsText reader.text.now
  pub ready : IsReady reader.text.now reader reader.stage

-- what is ahead after a lexeme was passed; a kept cut right after it is reached
abbrev pub IsAheadPast : Origin → Text → grammar.Spanned TokenView → Reader → List (grammar.Spanned TokenView) → Option (grammar.Spanned grammar.Fault) → Type 0
IsAheadPast origin text lexeme reader lexemes fault =
    (more : List (grammar.Spanned TokenView)) × (lexemes ≡ lexeme ∷ more) × IsAhead origin text reader reader.stage more fault × (origin ≡ Start → (at : ℕ) → IsCutBefore text at (length more) → IsReached reader at)

-- what is ahead after a lexeme was yielded, if one was
abbrev pub IsAheadAfter : Origin → Text → Option (ℕ × Token × ℕ) → Reader → List (grammar.Spanned TokenView) → Option (grammar.Spanned grammar.Fault) → Type 0
IsAheadAfter origin text None reader lexemes fault = IsAhead origin text reader reader.stage lexemes fault
IsAheadAfter origin text (Some lexeme) reader lexemes fault = IsAheadPast origin text (lexeme_view lexeme) reader lexemes fault

-- lexemes of an outcome were read: first those passed, the others are pending, and the rest of the
-- outcome is still to be read
pub record IsReadPast (origin : Origin) (text : Text) (whole : grammar.Outcome) (passed : List (grammar.Spanned TokenView)) (new : Reader) : Type 0 where
  pub lexemes : List grammar.Lexeme
  pub left : grammar.Outcome
  pub is_left : IsLeft origin text new new.stage left
  pub parts : whole.lexemes ≡ lexemes ++ left.lexemes
  pub fault : whole.fault ≡ left.fault
  pub is_pending : IsPending text new.pending
  pub yielded_count : map shown_lexeme lexemes ≡ passed ++ map shown_lexeme (pending_lexemes text new.pending)
  pub cut : origin ≡ Start → IsCutAhead text new new.stage (length (pending_lexemes text new.pending) + length left.lexemes)
  pub cuts : origin ≡ Start → HoldsCuts text new new.stage (length left.lexemes) (length lexemes + length left.lexemes) (length (pending_lexemes text new.pending) + length left.lexemes)

-- lexemes of an outcome were read, of which the first may be the one given
abbrev pub IsRead : Origin → Text → grammar.Outcome → Option (ℕ × Token × ℕ) → Reader → Type 0
IsRead origin text whole given new = IsReadPast origin text whole (map lexeme_view (option_to_list given)) new

-- the step at the reader's offset, after a history
abbrev pub step_here : Text → History → Reader → Step
step_here text history reader = next_step language history (drop reader.at text)

-- the outcome of a text from the reader's offset on, after a history
abbrev pub left_here : Text → History → Reader → grammar.Outcome
left_here text history reader = remaining_outcome history reader.at (drop reader.at text)

-- no lexeme is pending, and the step at the reader's offset is as `P` says
pub record IsAtStep (reader : Reader) (P : History → Step → Type 0) : Type 0 where
  pub text : IsText reader.text.now
  pub stage : reader.stage ≡ stage.Onward
  pub stands : (origin : Origin) × (history : History) × IsStateAfter origin reader.text.now history reader × P history (step_here reader.text.now history reader)
  pub idle : IsIdle reader.text.now reader.pending

-- the step is that of a newline of `len` bytes, with the margin after it
abbrev pub IsLineEndStep : Reader → ℕ → History → Step → Type 0
IsLineEndStep reader len history step = step ≡ pieces.line_end len (open_widths history.widths) (drop len (drop reader.at reader.text.now))

-- a newline of `len` bytes that counts is at the reader's offset, and ends at a character boundary
pub record IsAtLineEnd (reader : Reader) (len : ℕ) : Type 0 where
  pub here : IsAtStep reader (IsLineEndStep reader len)
  pub cut : IsCharBoundary reader.text.now (reader.at + len)

-- the step at the old offset, if it is as `P` says, was read: of its lexemes the first may be the one given
abbrev pub Takes : Reader → (History → Step → Type 0) → Option (ℕ × Token × ℕ) → Reader → Type 0
Takes old P given new =
    (origin : Origin) (history : History) → IsStateAfter origin old.text.now history old → P history (step_here old.text.now history old) → IsRead origin old.text.now (left_here old.text.now history old) given new

-- the same is ahead as before
abbrev pub KeepsAhead : Reader → Reader → Type 0
KeepsAhead old new = (origin : Origin) (lexemes : List (grammar.Spanned TokenView)) (fault : Option (grammar.Spanned grammar.Fault)) → IsAhead origin old.text.now old old.stage lexemes fault → IsAhead origin old.text.now new new.stage lexemes fault

-- of what was ahead the first lexeme was passed, …
abbrev pub PassesNext : Reader → grammar.Spanned TokenView → Reader → Type 0
PassesNext old lexeme new = (origin : Origin) (lexemes : List (grammar.Spanned TokenView)) (fault : Option (grammar.Spanned grammar.Fault)) → IsAhead origin old.text.now old old.stage lexemes fault → IsAheadPast origin old.text.now lexeme new lexemes fault

-- … or yielded, if one was
abbrev pub TakesNext : Reader → Option (ℕ × Token × ℕ) → Reader → Type 0
TakesNext old given new = (origin : Origin) (lexemes : List (grammar.Spanned TokenView)) (fault : Option (grammar.Spanned grammar.Fault)) → IsAhead origin old.text.now old old.stage lexemes fault → IsAheadAfter origin old.text.now given new lexemes fault

-- a measure that decreases with each piece
abbrev pub left_to_read : Text → Reader → Stage → ℕ
left_to_read text reader stage.Begin = length text + 3
left_to_read text reader stage.Onward = length text - reader.at + 2
left_to_read text reader (stage.Fault begin fault end) = 1
left_to_read text reader stage.Closed = 0

-- all pieces of a text are read
abbrev pub IsOver : Stage → Type 0
IsOver (stage.Fault begin fault end) = ⊤
IsOver stage.Closed = ⊤
IsOver now = ⊥

-- all lexemes of a text are yielded; its fault may be left
abbrev pub IsAtEnd : Text → Reader → Type 0
IsAtEnd text reader = IsIdle text reader.pending × IsOver reader.stage

-- whether a fault was reached
abbrev pub is_fault : Stage → Bool
is_fault (stage.Fault begin fault end) = true
is_fault now = false

-- a lexeme is ahead, or the fault
abbrev pub IsSomething : List (grammar.Spanned TokenView) → Option (grammar.Spanned grammar.Fault) → Type 0
IsSomething lexemes fault = lexemes ≡ [] → fault ≡ None → ⊥

-- something was ahead
abbrev pub HasSomething : Reader → Type 0
HasSomething old = (origin : Origin) (lexemes : List (grammar.Spanned TokenView)) (fault : Option (grammar.Spanned grammar.Fault)) → IsAhead origin old.text.now old old.stage lexemes fault → IsSomething lexemes fault

-- the fault of the text, between two offsets
abbrev pub IsRaw : grammar.Spanned grammar.Fault → ℕ × LexemeError × ℕ → Type 0
IsRaw fault found = (found.0 ≡ fault.begin) × (fault_view found.1 ≡ Some fault.node) × (found.2 ≡ fault.end)

-- what is returned after the last lexeme: the fault, if there is one
abbrev pub IsLast : Origin → Text → List (grammar.Spanned TokenView) → Option (grammar.Spanned grammar.Fault) → Option (ℕ × LexemeError × ℕ) → Reader → Type 0
IsLast origin text lexemes fault (Some found) reader =
    (lexemes ≡ []) × ((it : grammar.Spanned grammar.Fault) × (fault ≡ Some it) × IsRaw it found) × (origin ≡ Start → has_read_none reader ≡ begins_with_tab text) × IsStateAtFault origin text reader × (reader.at ≤ found.0)
IsLast origin text lexemes fault None reader = (lexemes ≡ []) × (fault ≡ None) × IsAhead origin text reader reader.stage [] None × IsStateAfter origin text (history_since origin text) reader

-- the reader is in code or in an f-string expression
abbrev pub IsInCode : Reader → Type 0
IsInCode reader = (before : List grammar.Token) → Represents before reader.nesting → is_code (mode_after before) ≡ true

-- the next lexeme is to be read at the reader's offset, in code, and none is pending
pub record IsAtCode (text : Text) (reader : Reader) : Type 0 where
  pub stage : reader.stage ≡ stage.Onward
  pub idle : IsIdle text reader.pending
  pub code : IsInCode reader

-- a word is at the reader's offset, in code, and no lexeme is pending
pub record IsWordHere (text : Text) (reader : Reader) (word : Word) : Type 0 where
  pub stage : reader.stage ≡ stage.Onward
  pub idle : IsIdle text reader.pending
  pub code : IsInCode reader
  pub front : Some (word_view word) ≡ language_front (drop reader.at text)
  pub bang : is_bang (drop reader.at text) ≡ false

-- the bang of an f-string expression is at the reader's offset, and no lexeme is pending
pub record IsBangHere (text : Text) (reader : Reader) : Type 0 where
  pub stage : reader.stage ≡ stage.Onward
  pub idle : IsIdle text reader.pending
  pub code : IsInCode reader
  pub stands : (origin : Origin) (history : History) → IsStateAfter origin text history reader → step_here text history reader ≡ pieces.token 1 grammar.FStringBang

-- an f-string text without escapes is at the reader's offset, and no lexeme is pending
pub record IsPlainTextHere (text : Text) (reader : Reader) (found : Chunk) : Type 0 where
  pub stage : reader.stage ≡ stage.Onward
  pub idle : IsIdle text reader.pending
  pub boundary : IsCharBoundary (drop reader.at text) found.len
  pub stands : (origin : Origin) (history : History) → IsStateAfter origin text history reader → step_here text history reader ≡ text_step (take found.len (drop reader.at text)) found

-- the `Newline` of a newline of `len` bytes at byte `at`, if its margin has no fault
abbrev pub newline_if : Bool → ℕ → ℕ → Option (ℕ × Token × ℕ)
newline_if true at len = Some (at, token.Newline, at + len)
newline_if false at len = None

-- the `Newline` of a newline of `len` bytes at byte `at`, if that is its outcome
abbrev pub newline_of : TakenLineEnd → ℕ → ℕ → Option (ℕ × Token × ℕ)
newline_of line_end.Newline at len = newline_if true at len
newline_of line_end.Pending at len = newline_if true at len
newline_of line_end at len = None

-- the name of `len` bytes at byte `at`
abbrev pub name_lexeme : Text → ℕ → ℕ → grammar.Spanned TokenView
name_lexeme text at len = record { begin = at; node = Whole (grammar.Identifier (take len (drop at text))); end = at + len }

-- the string literal at byte `at`, whose opener has `len` bytes, whose body is `body` bytes without
-- escapes, and which one quote closes
abbrev pub text_lexeme : Text → ℕ → ℕ → ℕ → grammar.Spanned TokenView
text_lexeme text at len body = record { begin = at; node = Whole (grammar.String (take body (drop len (drop at text)))); end = at + (len + body + 1) }

-- the lexeme of an f-string text of `len` bytes at byte `at`, if its value isn't empty
abbrev pub chunk_lexemes : ℕ → ℕ → Text → List (grammar.Spanned TokenView)
chunk_lexemes at len value = map shown_lexeme (map (grammar.moved at) (pieces.chunk_text len value))

-- the f-string text of `len` bytes at byte `at`, without escapes
abbrev pub fstring_text_lexeme : Text → ℕ → ℕ → grammar.Spanned TokenView
fstring_text_lexeme text at len = record { begin = at; node = Whole (grammar.FStringText (take len (drop at text))); end = at + len }

-- whether a token is the end of an f-string's expression
abbrev pub is_expression_end : TokenView → Bool
is_expression_end (Whole grammar.FStringExprEnd) = true
is_expression_end view = false

-- the token of a keyword or symbol: itself, or the end of an f-string's expression
abbrev pub symbol_view : (ends : Bool) → Terminal → TokenView
symbol_view true terminal = Whole grammar.FStringExprEnd
symbol_view false terminal = Whole (grammar.Word terminal)

abbrev pub IsTokenOf : Terminal → TokenView → Type 0
IsTokenOf terminal view = view ≡ symbol_view (is_expression_end view) terminal
