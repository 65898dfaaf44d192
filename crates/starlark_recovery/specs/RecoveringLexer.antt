-- Lexers that go on after faults, as their users see them, and the items that they yield.
use Rattle.std.specs.Prelude.{◌≡◌, ◌≤◌, ℕ, ◌+◌, ◌*◌, ◌||◌, Bool, true, false, List, [], map, length, drop, Option, Some, None, Result, Err, ⊤}
use Rattle.std.specs.Iterator.{Count, at_most}
use Rattle.std.specs.List.{slice_get}
use Rattle.starlark_base.specs.Diagnostics.{Diagnosed}
use Rattle.starlark_base.specs.Sources.{SourceFile}
use Rattle.starlark_grammar.specs.Found as found
use Rattle.starlark_grammar.specs.Found.{Item, found}
use Rattle.starlark_grammar.specs.Words.{Text}
use Rattle.starlark_lexemes.specs.Lexer.{AnswersBetween, AnswersNext, AnswersWithin, Given, LexerItem, Refused}
use Rattle.starlark_errors.specs.declared.error.kinds.ErrorKind.{ErrorKind}
use Rattle.starlark_text.specs.declared.or_memory.OrMemory.{OrMemory}
use Rattle.starlark_text.specs.declared.or_memory.OrMemory.TheVariants as refusal
use Rattle.starlark_token.specs.Lexemes.{shown_lexeme}
use Rattle.starlark_token.specs.declared.tokens.Token.{Token}

-- an item of a text, as the code shows it
abbrev pub shown_item : Item → LexerItem
shown_item (found.Given lexeme) = Given (shown_lexeme lexeme)
shown_item (found.Refused fault) = Refused fault

-- the items of a text that is lexed on after its faults: all lexemes and all faults, in order
unfoldable pub all_items : Text → List LexerItem
all_items text = map shown_item (found text)

-- a recovering lexer: its text, the code map of its faults, the items that are left, how many faults it has yielded,
-- whether out of memory has ended it, and how often it has read bytes
pub record RecoveringView : Type 0 where
  pub text : Text
  pub code_map : SourceFile
  pub left : List LexerItem
  pub fault_count : ℕ
  pub has_ended : Bool
  pub reads : ℕ

-- how often bytes are read at most, by how many there are and how often lexing starts: at their start, and after each fault
abbrev pub most_reads_on : (bytes starts : ℕ) → ℕ
most_reads_on bytes starts = 16 * (bytes + starts)

-- There are no more faults than bytes, at least one read for each fault, and at most so many reads.
pub record AreReadsOn (text : Text) (fault_count reads : ℕ) : Type 0 where
  pub few : fault_count ≤ length text
  pub least : fault_count ≤ reads
  pub most : reads ≤ most_reads_on (length text) (fault_count + 1)

-- the items that are left after a call: all but the first, and none after out of memory
abbrev pub left_after : Option (Result (ℕ × Token × ℕ) (OrMemory (Diagnosed ErrorKind))) → List LexerItem → List LexerItem
left_after (Some (Err refusal.Memory)) left = []
left_after answer left = drop 1 left

-- how many faults a result is
abbrev pub faults_by : Option (Result (ℕ × Token × ℕ) (OrMemory (Diagnosed ErrorKind))) → ℕ
faults_by (Some (Err (refusal.Error exception))) = 1
faults_by answer = 0

-- whether a result ends the lexer: out of memory does
abbrev pub is_memory : Option (Result (ℕ × Token × ℕ) (OrMemory (Diagnosed ErrorKind))) → Bool
is_memory (Some (Err refusal.Memory)) = true
is_memory answer = false

-- How often bytes were read after a call that doesn't run out of memory. If it returns `None` without any fault before, each
-- byte was read.
abbrev pub HasReadOn : Text → (fault_count : ℕ) → Option (Result (ℕ × Token × ℕ) (OrMemory (Diagnosed ErrorKind))) → ℕ → Type 0
HasReadOn text fault_count None reads = AreReadsOn text fault_count reads × (fault_count ≡ 0 → length text ≤ reads)
HasReadOn text fault_count (Some (Err refusal.Memory)) reads = ⊤
HasReadOn text fault_count (Some answer) reads = AreReadsOn text fault_count reads

-- what one call of a recovering lexer returns, and the lexer after it
pub record IsNextOf (old : RecoveringView) (answer : Option (Result (ℕ × Token × ℕ) (OrMemory (Diagnosed ErrorKind)))) (new : RecoveringView) : Type 0 where
  pub item : AnswersNext old.code_map (slice_get old.left 0) answer
  pub within : AnswersWithin old.text answer
  pub between : AnswersBetween old.text answer
  pub after : new ≡ record old { left = left_after answer old.left; fault_count = old.fault_count + faults_by answer; has_ended = old.has_ended || is_memory answer; reads = new.reads }
  pub reads : old.has_ended ≡ false → HasReadOn old.text new.fault_count answer new.reads

-- the greatest number of items that are left
abbrev pub items_left : RecoveringView → Count
items_left lexer = at_most (length lexer.left)
