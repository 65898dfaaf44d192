-- Literals, items and stops of the code, as the grammar sees them.
use Rattle.std.specs.Prelude.{◌≡◌, ℕ, Bool, true, false, [], ◌∷◌, Result, Ok, Err, ⊤, max, take, encode_utf8, string_bytes}
use Rattle.std.specs.Str.{IsCharBoundary}
use Rattle.starlark_grammar.specs.Words.{Text}
use Rattle.starlark_grammar.specs.declared.class.Quote.{Quote}
use Rattle.starlark_grammar.specs.declared.class.LiteralKind.{LiteralKind}
use Rattle.starlark_grammar.specs.declared.class.LiteralKind.TheVariants.{FString as OfFString}
use Rattle.starlark_grammar.specs.Pieces.{opening_of}
use Rattle.starlark_grammar.specs.Tokens as grammar
use Rattle.starlark_grammar.specs.Items as items
use Rattle.starlark_grammar.specs.Inner.Openings.{opening_view}
use Rattle.starlark_words.specs.declared.items.Literal.{Literal}
use Rattle.starlark_words.specs.declared.items.Value.{Value}
use Rattle.starlark_words.specs.declared.items.Value.TheVariants as value
use Rattle.starlark_words.specs.declared.items.Stop.{Stop}
use Rattle.starlark_words.specs.declared.items.Stop.TheVariants as stop
use Rattle.starlark_words.specs.declared.body.LiteralValue.{LiteralValue}
use Rattle.starlark_words.specs.declared.body.LiteralValue.TheVariants as read
use Rattle.starlark_words.specs.declared.body.Body.{Body}

-- the literal of the grammar
abbrev pub literal_view : Literal → items.Literal
literal_view literal = record { kind = literal.kind; opening = opening_view literal.opening }

-- the bytes of a value
abbrev pub value_view : Value → Text
value_view (value.Part part) = part.now
value_view (value.Character character) = encode_utf8 character
value_view (value.Byte byte) = byte ∷ []

-- the stop of the grammar
abbrev pub stop_view : Stop → items.Stop
stop_view stop.Closing = items.Closing
stop_view stop.Line = items.Line
stop_view stop.Ended = items.Ended
stop_view stop.OpeningBrace = items.OpeningBrace
stop_view stop.ClosingBrace = items.ClosingBrace
stop_view (stop.BadEscape len last) = items.BadEscape len last

-- the grammar's item, by its length and its value, or its stop
abbrev pub found_view : Result (ℕ × Value) Stop → items.Found
found_view (Ok item) = items.goes item.0 (value_view item.1)
found_view (Err stop) = items.Stops (stop_view stop)

-- how many bytes of a bad escape were read; 0 for any other stop
abbrev pub stopped_len : Stop → ℕ
stopped_len (stop.BadEscape len last) = len
stopped_len stop = 0

-- how many bytes of an item or of a bad escape were read
abbrev pub found_len : Result (ℕ × Value) Stop → ℕ
found_len (Ok item) = item.0
found_len (Err stop) = stopped_len stop

-- the least number of bytes read at a stop: the three that can close a literal, or all of a bad escape
abbrev pub least_stop_reads : Stop → ℕ
least_stop_reads stop = max 3 (stopped_len stop)

-- the least number of bytes read: those of an item, or those at the stop
abbrev pub least_reads : Result (ℕ × Value) Stop → ℕ
least_reads (Ok item) = item.0
least_reads (Err stop) = least_stop_reads stop

-- the value is no lone byte
abbrev pub IsCharacters : Value → Type 0
IsCharacters (value.Byte byte) = ⊥
IsCharacters value = ⊤

-- the value of an item is no lone byte
abbrev pub IsText : Result (ℕ × Value) Stop → Type 0
IsText (Ok item) = IsCharacters item.1
IsText (Err stop) = ⊤

-- the bytes of a literal's value
abbrev pub bytes_of : LiteralValue → Text
bytes_of (read.Text text) = string_bytes text
bytes_of (read.Bytes bytes) = bytes.items

-- whether a literal's value is a text
abbrev pub holds_text : LiteralValue → Bool
holds_text (read.Text text) = true
holds_text (read.Bytes bytes) = false

-- the body that was read is that of the grammar
pub record IsBody (body : items.Body) (found : Body) : Type 0 where
  pub len : found.len ≡ items.body_len body
  pub value : bytes_of found.value ≡ items.body_value body
  pub stop : stop_view found.stop ≡ body.stop

-- a literal that one quote closes
abbrev pub single_literal : LiteralKind → Bool → Quote → items.Literal
single_literal kind is_raw quote = record { kind = kind; opening = record { is_raw = is_raw; quote = quote; is_triple = false } }

-- after its opener the literal has a body of `count` bytes without escapes, which one quote closes
pub record IsPlainBody (kind : LiteralKind) (is_raw : Bool) (quote : Quote) (text : Text) (count : ℕ) : Type 0 where
  pub single : (opening_of is_raw quote text).is_triple ≡ false
  pub boundary : IsCharBoundary text count
  pub len : items.body_len (items.body_at (single_literal kind is_raw quote) text) ≡ count
  pub value : items.body_value (items.body_at (single_literal kind is_raw quote) text) ≡ take count text
  pub stop : (items.body_at (single_literal kind is_raw quote) text).stop ≡ items.Closing

-- the literal by which the texts of an f-string are read
abbrev pub fstring_literal : grammar.Opening → items.Literal
fstring_literal opening = record { kind = OfFString; opening = opening }

-- the f-string's text at the start of a text has `count` bytes without escapes, and the stop `why`
pub record IsPlainChunk (opening : grammar.Opening) (text : Text) (count : ℕ) (why : items.Stop) : Type 0 where
  pub boundary : IsCharBoundary text count
  pub len : items.body_len (items.body_at (fstring_literal opening) text) ≡ count
  pub value : items.body_value (items.body_at (fstring_literal opening) text) ≡ take count text
  pub stop : (items.body_at (fstring_literal opening) text).stop ≡ why
