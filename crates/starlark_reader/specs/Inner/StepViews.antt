-- Steps of the code, as the grammar sees them.
use Rattle.std.specs.Prelude.{◌≡◌, ℕ, ◌<◌, ◌+◌, ◌++◌, ◌∷◌, [], false, true, Option, None, Some, Result, Ok, Err, String, drop, length, string_bytes, take, ⊤}
use Rattle.std.specs.declared.alloc.Global.{Global}
use Rattle.std.specs.Str.{IsCharBoundary}
use Rattle.starlark_grammar.specs.Words as words
use Rattle.starlark_grammar.specs.Tokens as grammar
use Rattle.starlark_grammar.specs.Pieces as pieces
use Rattle.starlark_grammar.specs.Items.{closing_quotes}
use Rattle.starlark_grammar.specs.Numbers.{integer_of}
use Rattle.starlark_grammar.specs.declared.class.Class.{Class}
use Rattle.starlark_grammar.specs.declared.class.Class.TheVariants as class
use Rattle.starlark_token.specs.TokenViews.{Whole, token_view}
use Rattle.starlark_token.specs.declared.lexeme_error.LexemeError.{LexemeError}
use Rattle.starlark_token.specs.declared.tokens.Token as code
use Rattle.starlark_token.specs.Lexemes.{fault_view}
use Rattle.starlark_reader.specs.Inner.PieceViews.{text_end}
use Rattle.starlark_grammar.specs.Inner.Openings.{opening_view}
use Rattle.starlark_grammar.specs.declared.class.Opening.{Opening}
use Rattle.starlark_reader.specs.Inner.Nesting.{is_fstring_start}
use Rattle.starlark_reader.specs.declared.literal.chunks.Chunk.{Chunk}
use Rattle.starlark_words.specs.declared.items.Stop.{Stop}
use Rattle.starlark_words.specs.declared.items.Stop.TheVariants as stop

-- the step of an f-string text, by its value, and of what ends it
abbrev pub text_step : words.Text → Chunk → pieces.Step
text_step value chunk = pieces.piece (chunk.len + chunk.stop_len) (pieces.chunk_text chunk.len value ++ record { begin = chunk.len; node = text_end chunk.before_expression; end = chunk.len + chunk.stop_len } ∷ [])

-- the f-string text of `len` bytes that a stop ends, if it ends one
abbrev pub chunk_before : Opening → ℕ → Stop → Option Chunk
chunk_before opening len stop.OpeningBrace = Some (record { len = len; before_expression = true; stop_len = 1 })
chunk_before opening len stop.Closing = Some (record { len = len; before_expression = false; stop_len = length (closing_quotes (opening_view opening)) })
chunk_before opening len other = None

-- the text begins with a digit of this value
abbrev pub IsDigitAt : ℕ → words.Text → Type 0
IsDigitAt value text = (value < 10) × (take 1 text ≡ (value + 48) ∷ [])

-- the token of a number, by its class
abbrev pub number_of : Class → words.Text → grammar.Token
number_of class.Decimal word = grammar.Int (integer_of 10 word)
number_of class.Hexadecimal word = grammar.Int (integer_of 16 (drop 2 word))
number_of class.Octal word = grammar.Int (integer_of 8 (drop 2 word))
number_of class.Binary word = grammar.Int (integer_of 2 (drop 2 word))
number_of it word = grammar.Float word

-- a step that was read: a token of `len` bytes, an f-string text by its value, or a fault
pub data ReadStep : Type 0 where
  Token : (token : code.Token) (len : ℕ) → ReadStep
  Text : (value : words.Text) (chunk : Chunk) → ReadStep
  Fault : (begin : ℕ) (fault : LexemeError) (end : ℕ) → ReadStep

-- the step that `escape_fault` returns, …
abbrev pub fault_step : ℕ × LexemeError × ℕ → ReadStep
fault_step found = Fault found.0 found.1 found.2

-- … `literal_piece`, …
abbrev pub literal_step : Result (code.Token × ℕ) (ℕ × LexemeError × ℕ) → ReadStep
literal_step (Ok found) = Token found.0 found.1
literal_step (Err found) = fault_step found

-- … and `chunk_from`
abbrev pub chunk_step : Result (String Global × Chunk) (ℕ × LexemeError × ℕ) → ReadStep
chunk_step (Ok found) = Text (string_bytes found.0) found.1
chunk_step (Err found) = fault_step found

-- the step of the grammar is the one read: a token that begins no f-string, an f-string text, or a
-- fault
abbrev pub IsStep : pieces.Step → ReadStep → Type 0
IsStep stands (Token token len) = (node : grammar.Token) × (token_view token ≡ Whole node) × (is_fstring_start node ≡ false) × (stands ≡ pieces.token len node)
IsStep stands (Text value chunk) = stands ≡ text_step value chunk
IsStep stands (Fault begin fault end) = (node : grammar.Fault) × (fault_view fault ≡ Some node) × (stands ≡ pieces.fault begin node end)

-- the text begins with an f-string text without escapes, and what ends it
pub record IsPlainText (opening : Opening) (text : words.Text) (found : Chunk) : Type 0 where
  pub boundary : IsCharBoundary text found.len
  pub stands : pieces.chunk (opening_view opening) text ≡ text_step (take found.len text) found

-- a word that is a fault: tabs, a reserved word, or a 0 before more digits
abbrev pub IsFaultWord : Class → words.Text → Type 0
IsFaultWord class.Tabs word = ⊤
IsFaultWord class.Reserved word = ⊤
IsFaultWord class.Decimal word = pieces.starts_zero word ≡ true
IsFaultWord it word = ⊥
