-- Lexers, as their users see them, and the items that they yield.
use Rattle.std.specs.Prelude.{◌≡◌, ◌≤◌, IfSome, ℕ, ◌+◌, ◌*◌, Bool, true, false, length, Option, Some, None, Result, Ok, Err, ⊤}
use Rattle.std.specs.Str.{IsCharBoundary}
use Rattle.starlark_base.specs.Spans.{SourceFile}
use Rattle.starlark_base.specs.Diagnostics.{Diagnosed}
use Rattle.starlark_text.specs.declared.or_memory.OrMemory.{OrMemory}
use Rattle.starlark_text.specs.declared.or_memory.OrMemory.TheVariants as refusal
use Rattle.starlark_errors.specs.declared.error.kinds.ErrorKind.{ErrorKind}
pub use Rattle.starlark_errors.specs.Exceptions.{IsException}
use Rattle.starlark_grammar.specs.AfterFaults.{restart}
use Rattle.starlark_grammar.specs.Reading.{outcome}
use Rattle.starlark_grammar.specs.Tokens.{Fault, Spanned}
use Rattle.starlark_grammar.specs.Words.{Text}
unfoldable pub use Rattle.starlark_reader.specs.Searches.{search_reads}
pub use Rattle.starlark_token.specs.Lexemes.{IsWithin}
use Rattle.starlark_token.specs.Lexemes.{lexeme_view}
pub use Rattle.starlark_token.specs.TextItems.{LexerItem, Given, Refused, items}
use Rattle.starlark_token.specs.declared.tokens.Token.{Token}

-- A lexer: its text, the code map of its fault, how many items it has yielded, and whether an error
-- has ended it; how often it has read bytes; and where its text may be cut now, if it knows.
pub record LexerView : Type 0 where
  pub text : Text
  pub code_map : SourceFile
  pub yielded_count : ℕ
  pub has_ended : Bool
  pub reads : ℕ
  pub cut : Option ℕ

-- how often the bytes of a text are read at most
abbrev pub most_reads : Text → ℕ
most_reads text = 16 * (length text + 1)

-- at a text's fault there was at least one read for each byte before it, and there were at most so many, with those that
-- find where lexing begins again
abbrev pub HasReadToFault : Text → ℕ → Type 0
HasReadToFault text reads =
    (fault : Spanned Fault) → (outcome text).fault ≡ Some fault → (fault.begin ≤ reads) × (reads + search_reads text fault ≤ 16 * (restart text fault + 1))

-- what a call returns for an item: a lexeme, the fault's exception, or out of memory in their place
abbrev pub Answers : SourceFile → LexerItem → Result (ℕ × Token × ℕ) (OrMemory (Diagnosed ErrorKind)) → Type 0
Answers file item (Err refusal.Memory) = ⊤
Answers file (Given lexeme) (Ok found) = lexeme_view found ≡ lexeme
Answers file (Refused fault) (Err (refusal.Error exception)) = IsException file fault exception
Answers file item answer = ⊥

-- a call returns `None` exactly if no item is left
abbrev pub AnswersNext : SourceFile → Option LexerItem → Option (Result (ℕ × Token × ℕ) (OrMemory (Diagnosed ErrorKind))) → Type 0
AnswersNext file None None = ⊤
AnswersNext file (Some item) (Some answer) = Answers file item answer
AnswersNext file item answer = ⊥

-- a lexeme or a fault lies in the text
abbrev pub AnswersWithin : Text → Option (Result (ℕ × Token × ℕ) (OrMemory (Diagnosed ErrorKind))) → Type 0
AnswersWithin text (Some (Ok found)) = IsWithin text found.0 found.2
AnswersWithin text (Some (Err (refusal.Error exception))) = IfSome exception.span (λ place. IsWithin text place.span.begin place.span.end)
AnswersWithin text answer = ⊤

-- a lexeme or a fault begins and ends at character boundaries of the text
abbrev pub AnswersBetween : Text → Option (Result (ℕ × Token × ℕ) (OrMemory (Diagnosed ErrorKind))) → Type 0
AnswersBetween text (Some (Ok found)) = IsCharBoundary text found.0 × IsCharBoundary text found.2
AnswersBetween text (Some (Err (refusal.Error exception))) =
    IfSome exception.span (λ place. IsCharBoundary text place.span.begin × IsCharBoundary text place.span.end)
AnswersBetween text answer = ⊤

-- how many items a result is: one, unless it is `None` or out of memory
abbrev pub yielded_by : {E : Type 0} → Option (Result (ℕ × Token × ℕ) (OrMemory E)) → ℕ
yielded_by None = 0
yielded_by (Some (Err refusal.Memory)) = 0
yielded_by (Some answer) = 1

-- whether a result ends the lexer: any error does
abbrev pub is_ended_by : {E : Type 0} → Option (Result (ℕ × Token × ℕ) (OrMemory E)) → Bool
is_ended_by (Some (Err refused)) = true
is_ended_by answer = false

-- after a call that doesn't run out of memory there were at most so many reads; at the fault only for the bytes up to where
-- lexing begins again, and each byte before it was read; and if it returns `None`, each byte was read
abbrev pub HasReadFor : {E : Type 0} → Text → Option (Result (ℕ × Token × ℕ) (OrMemory E)) → ℕ → Type 0
HasReadFor text None reads = (length text ≤ reads) × (reads ≤ most_reads text)
HasReadFor text (Some (Err refusal.Memory)) reads = ⊤
HasReadFor text (Some (Err (refusal.Error fault))) reads = (reads ≤ most_reads text) × HasReadToFault text reads
HasReadFor text (Some (Ok found)) reads = reads ≤ most_reads text
