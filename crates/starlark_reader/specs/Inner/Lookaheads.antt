-- What lookahead has found, and the reads that it took.
use Rattle.std.specs.Prelude.{◌≡◌, ◌≢◌, ◌+◌, ◌-◌, ◌*◌, Bool, false, true, ℕ, List, drop, if◌then◌else◌}
use Rattle.starlark_grammar.specs.Depths.{InText, mode_after}
use Rattle.starlark_grammar.specs.Tokens.{Token}
use Rattle.starlark_grammar.specs.Words.{Text}
use Rattle.starlark_grammar.specs.declared.class.Class.{Class}
use Rattle.starlark_grammar.specs.declared.class.Class.TheVariants as class
use Rattle.starlark_grammar.specs.declared.class.LiteralKind.TheVariants as kind
use Rattle.starlark_grammar.specs.declared.class.LiteralKind.TheVariants.{FString as OfFString}
use Rattle.starlark_grammar.specs.declared.class.Opening.{Opening}
use Rattle.starlark_grammar.specs.Inner.Openings.{opening_view}
use Rattle.starlark_words.specs.Inner.LiteralViews.{fstring_literal, single_literal}
use Rattle.starlark_words.specs.Inner.PlainRuns.{IsRun}
use Rattle.starlark_words.specs.Inner.Reads.{AreReads}
use Rattle.starlark_words.specs.declared.scanner.word.Word.{Word}
use Rattle.starlark_reader.specs.Inner.Nesting.{Represents}
use Rattle.starlark_reader.specs.Inner.Pending.{IsIdle}
use Rattle.starlark_reader.specs.Inner.Reader.{IsWordHere}
use Rattle.starlark_reader.specs.Inner.ReadBounds.{HasReadAt}
use Rattle.starlark_reader.specs.declared.reader.Reader.{Reader}
use Rattle.starlark_reader.specs.declared.reader.Stage.TheVariants as stage

-- from `least` to `most` of the reads are of bytes after the reader's offset
abbrev pub HasPeeked : Text → (least most : ℕ) → Reader → Type 0
HasPeeked text least most reader = (before : ℕ) × HasReadAt text (record reader { reads = before }) stage.Onward × AreReads least most before reader.reads

-- the bytes after an opener of `len` bytes are in a run of its literal, if that has one quote
abbrev pub IsOpened : Class → (rest : Text) → (run : ℕ) → Type 0
IsOpened (class.Opener kind is_raw quote) rest run = (kind ≢ OfFString) × IsRun (single_literal kind is_raw quote) rest run
IsOpened it rest run = ⊥

-- the next bytes are in a run of the text of an f-string
pub record IsTextRun (text : Text) (count : ℕ) (reader : Reader) : Type 0 where
  pub opening : Opening
  pub stage : reader.stage ≡ stage.Onward
  pub idle : IsIdle text reader.pending
  pub inside : (tokens : List Token) → Represents tokens reader.nesting → mode_after tokens ≡ InText (opening_view opening)
  pub run : IsRun (fstring_literal (opening_view opening)) (drop reader.at text) count

-- whether a word of a class is neither a name, a symbol, a line end, what has no lexeme, nor the opener of a text literal
abbrev pub is_slow : Class → Bool
is_slow class.Identifier = false
is_slow (class.Fixed terminal) = false
is_slow class.LineEnd = false
is_slow class.Comment = false
is_slow class.Skipped = false
is_slow (class.Opener kind.Text is_raw quote) = false
is_slow it = true

abbrev pub is_opener : Class → Bool
is_opener (class.Opener kind is_raw quote) = true
is_opener it = false

-- how many reads find a word, at most
abbrev pub most_peeked : Word → ℕ
most_peeked word = if is_opener word.class then 5 * word.len - 2 else 5 * word.len + 3

-- the opener of a string or bytes literal is at the reader's offset, and a run without escapes after it was looked at
abbrev pub IsLiteralHere : Text → Reader → (opener : Word) (run : ℕ) → Type 0
IsLiteralHere text reader opener run = IsWordHere text reader opener × IsOpened opener.class (drop opener.len (drop reader.at text)) run × HasPeeked text (opener.len + run) (5 * opener.len + 8 * run + 3) reader
