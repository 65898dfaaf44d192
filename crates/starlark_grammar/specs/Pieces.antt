-- The one piece that may stand at a place, or the fault there. Places count from the piece's begin.
use Rattle.std.specs.Prelude.{ℕ, ◌+◌, ◌-◌, Bool, true, false, ◌&&◌, ◌||◌, not, ◌==◌, if◌then◌else◌, nat_eq, nat_lt, List, [], ◌∷◌, ◌++◌, map, length, take, drop, codes, Option, Some, None}
use Rattle.std.specs.List.{list_all, starts_with}
use Rattle.std.specs.Str.{byte}
use Rattle.starlark_grammar.specs.Words as word
use Rattle.starlark_grammar.specs.Words.{Text, Quote, Kind, OfText, OfBytes, OfFString, Terminal, Class, Table, class_in}
use Rattle.starlark_grammar.specs.Front.{longest_front}
use Rattle.starlark_grammar.specs.Numbers.{integer_of}
use Rattle.starlark_grammar.specs.Tokens.{Token, Comment, Newline, Identifier, Int, Float, String, Bytes, FStringStart, FStringText, FStringExprStart, FStringExprEnd, FStringBang, FStringEnd, Word, Opening, Spanned, Lexeme, moved, Fault, Indentation, InvalidInput, InvalidTab, UnfinishedStringLiteral, InvalidEscapeSequence, EmptyEscapeSequence, ReservedKeyword, StartsZero, UnfinishedFStringExpression}
use Rattle.starlark_grammar.specs.Items.{Stop, Closing, Line, Ended, OpeningBrace, ClosingBrace, BadEscape, Body, body_at, body_len, body_value, closing_quotes, quote_byte}
use Rattle.starlark_grammar.specs.FrontCharacter.{first_character}
use Rattle.starlark_grammar.specs.Depths.{Mode, Outside, InText, AtTop}
use Rattle.starlark_grammar.specs.Margins.{Margin, margin_of, margin_len, is_content, has_tab, width_of, fits, indentation}

-- What stands before a place: nothing, a margin, a skipped piece, or another piece.
pub data Before : Type 0 where
  Nothing : Before
  Layout : Before
  Gap : Before
  Other : Before

abbrev pub is_nothing : Before → Bool
is_nothing Nothing = true
is_nothing before = false

-- A piece: its bytes, its lexemes, the width where it leads to a content line, and what it is for the next piece.
pub record Piece : Type 0 where
  pub len : ℕ
  pub lexemes : List Lexeme
  pub width : Option ℕ
  pub sort : Before

-- What stands at a place: a piece, a fault, or the end of the text.
pub data Step : Type 0 where
  Stands : (piece : Piece) → Step
  Fails : (fault : Spanned Fault) → Step
  Ends : Step

-- What the rules ask of what was read before a place.
pub record Situation : Type 0 where
  pub mode : Mode
  pub is_balanced : Bool
  pub levels : List ℕ
  pub before : Before

abbrev pub piece : ℕ → List Lexeme → Step
piece len lexemes = Stands (record { len = len; lexemes = lexemes; width = None; sort = Other })

-- a piece that is one lexeme
abbrev pub token : ℕ → Token → Step
token len node = piece len (record { begin = 0; node = node; end = len } ∷ [])

-- a piece that gives nothing
abbrev pub gap : ℕ → Step
gap len = Stands (record { len = len; lexemes = []; width = None; sort = Gap })

abbrev pub fault : ℕ → Fault → ℕ → Step
fault begin node end = Fails (record { begin = begin; node = node; end = end })

-- Margins

-- A newline of `len` bytes that counts, with its lexeme, and the margin after it; at the start of the text the
-- margin alone. A tab before content goes before a width that doesn't fit, and both lie from the line end on.
unfoldable pub margin_step : ℕ → List Lexeme → List ℕ → Margin → Step
margin_step len line_end levels margin =
    if not (is_content margin.remainder) then layout [] None
    else (if has_tab margin then fault 0 InvalidTab 0
    else (if fits (width_of margin) levels then layout (indentation levels margin) (Some (width_of margin))
    else fault 0 Indentation (len + margin_len margin)))
  where
    layout : List Lexeme → Option ℕ → Step
    layout lexemes width = Stands (record {
      len = len + margin_len margin;
      lexemes = line_end ++ map (moved len) (margin.comments ++ lexemes);
      width = width;
      sort = Layout;
    })

-- the margin at the start of a text, or of a line where lexing begins again, by the open widths
abbrev pub first_margin : List ℕ → Text → Step
first_margin levels text = margin_step 0 [] levels (margin_of text)

abbrev pub line_end : ℕ → List ℕ → Text → Step
line_end len levels remainder = margin_step len (record { begin = 0; node = Newline; end = len } ∷ []) levels (margin_of remainder)

-- Literals

-- the opening of a literal, by its opener and the text after that: with two more of its quotes it is triple
abbrev pub opening_of : Bool → Quote → Text → Opening
opening_of is_raw quote remainder = record {
  is_raw = is_raw;
  quote = quote;
  is_triple = starts_with nat_eq remainder (quote_byte quote ∷ quote_byte quote ∷ []);
}

abbrev pub more_quotes : Opening → ℕ
more_quotes opening = if opening.is_triple then 2 else 0

abbrev pub literal_token : Kind → Text → Token
literal_token OfBytes value = Bytes value
literal_token kind value = String value

-- A bad escape from a backslash on, by the text that was read after the backslash.
abbrev pub escape_fault : ℕ → Text → Step
escape_fault begin [] = fault begin EmptyEscapeSequence (1 + begin)
escape_fault begin (b ∷ bs) = fault begin (InvalidEscapeSequence (b ∷ bs)) (begin + length (byte "\\" ∷ b ∷ bs))

-- a text without backslash and CR, and without LF where that isn't allowed
abbrev pub is_plain : Opening → Text → Bool
is_plain opening text = list_all (λ b. not (b == byte "\\" || b == byte "\r" || (b == byte "\n" && not opening.is_triple))) text

-- An unfinished literal. In an expression of an f-string a text literal with a plain text after its opening, up to
-- the text's end, has a fault of its own.
abbrev pub unfinished : Mode → Kind → Opening → Text → Fault
unfinished Outside kind opening remainder = UnfinishedStringLiteral
unfinished mode OfText opening remainder = if is_plain opening remainder then UnfinishedFStringExpression else UnfinishedStringLiteral
unfinished mode kind opening remainder = UnfinishedStringLiteral

-- the step of a string or bytes literal, by the bytes of its opening, the text after that, and its body
abbrev pub literal_by : Mode → Kind → Opening → ℕ → Text → Body → Stop → Step
literal_by mode kind opening len remainder body Closing =
    token (len + body_len body + length (closing_quotes opening)) (literal_token kind (body_value body))
literal_by mode kind opening len remainder body (BadEscape read last) =
    escape_fault (len + body_len body) (drop 1 (take read (drop (body_len body) remainder)))
literal_by mode kind opening len remainder body Line = fault 0 (unfinished mode kind opening remainder) (len + body_len body)
literal_by mode kind opening len remainder body stop = fault 0 (unfinished mode kind opening remainder) (len + length remainder)

abbrev pub literal : Mode → Kind → Opening → ℕ → Text → Step
literal mode kind opening len remainder = go (body_at (record { kind = kind; opening = opening }) remainder)
  where
    go : Body → Step
    go body = literal_by mode kind opening len remainder body body.stop

-- an opener, and the literal after it; of an f-string the opening alone
abbrev pub opener : Mode → Kind → Opening → ℕ → Text → Step
opener mode OfFString opening len remainder = token (len + more_quotes opening) (FStringStart opening)
opener mode kind opening len remainder = literal mode kind opening (len + more_quotes opening) (drop (more_quotes opening) remainder)

-- Texts of f-strings

-- the text before a chunk's stop, where it isn't empty
abbrev pub chunk_text : ℕ → Text → List Lexeme
chunk_text len [] = []
chunk_text len (b ∷ bs) = record { begin = 0; node = FStringText (b ∷ bs); end = len } ∷ []

abbrev pub chunk_piece : Body → Token → ℕ → Step
chunk_piece body node len =
    piece (body_len body + len) (chunk_text (body_len body) (body_value body) ++ record { begin = body_len body; node = node; end = body_len body + len } ∷ [])

-- the step of a chunk of an f-string's text
abbrev pub chunk_by : Opening → Text → Body → Stop → Step
chunk_by opening text body OpeningBrace = chunk_piece body FStringExprStart 1
chunk_by opening text body Closing = chunk_piece body FStringEnd (length (closing_quotes opening))
chunk_by opening text body ClosingBrace = fault (body_len body) (InvalidInput (codes "}")) (body_len body + 1)
chunk_by opening text body (BadEscape read last) =
    fault (body_len body + (read - last)) (InvalidEscapeSequence (codes "\\")) (body_len body + read)
chunk_by opening text body Line = fault 0 UnfinishedStringLiteral (body_len body + 1)
chunk_by opening text body Ended = fault 0 UnfinishedStringLiteral (length text)

unfoldable pub chunk : Opening → Text → Step
chunk opening text = go (body_at (record { kind = OfFString; opening = opening }) text)
  where
    go : Body → Step
    go body = chunk_by opening text body body.stop

-- Words

-- a closing brace at the top of an f-string's expression ends the expression
abbrev pub terminal_token : Mode → Terminal → Token
terminal_token AtTop word.ClosingCurly = FStringExprEnd
terminal_token mode terminal = Word terminal

-- more than one digit, of which the first is 0
abbrev pub starts_zero : Text → Bool
starts_zero [] = false
starts_zero (b ∷ bs) = b == byte "0" && nat_lt 0 (length bs)

-- line ends count where all brackets are closed and no f-string is open
abbrev pub counts : Mode → Bool → Bool
counts Outside is_balanced = is_balanced
counts mode is_balanced = false

-- the step of a word, by the text after it
abbrev pub word_step : Situation → Class → Text → Text → Step
word_step s word.Skipped text remainder = gap (length text)
word_step s word.Comment text remainder = token (length text) (Comment (drop 1 text))
word_step s word.Tabs text remainder = fault 0 InvalidTab 0
word_step s word.LineEnd text remainder = if counts s.mode s.is_balanced then line_end (length text) s.levels remainder else piece (length text) []
word_step s (word.Opener kind is_raw quote) text remainder = opener s.mode kind (opening_of is_raw quote remainder) (length text) remainder
word_step s word.Reserved text remainder = fault 0 (ReservedKeyword text) (length text)
word_step s word.Identifier text remainder = token (length text) (Identifier text)
word_step s word.Decimal text remainder = if starts_zero text then fault 0 (StartsZero text) (length text) else token (length text) (Int (integer_of 10 text))
word_step s word.Hexadecimal text remainder = token (length text) (Int (integer_of 16 (drop 2 text)))
word_step s word.Octal text remainder = token (length text) (Int (integer_of 8 (drop 2 text)))
word_step s word.Binary text remainder = token (length text) (Int (integer_of 2 (drop 2 text)))
word_step s word.Float text remainder = token (length text) (Float text)
word_step s (word.Fixed terminal) text remainder = token (length text) (terminal_token s.mode terminal)

-- what stands where no word does: one character, which is a fault
abbrev pub front_step : Situation → Text → Option (Class × ℕ) → Step
front_step s text None = fault 0 (InvalidInput (first_character text)) (length (first_character text))
front_step s text (Some front) = word_step s front.0 (take front.1 text) (drop front.1 text)

-- an exclamation mark, and no `=` after it
abbrev pub is_bang : Text → Bool
is_bang [] = false
is_bang (b ∷ []) = b == byte "!"
is_bang (b ∷ c ∷ bs) = b == byte "!" && not (c == byte "=")

-- right after a skipped piece no bang may stand
abbrev pub takes_bang : Mode → Before → Bool
takes_bang AtTop Gap = false
takes_bang AtTop before = true
takes_bang mode before = false

abbrev pub in_code : Table → Situation → Text → Step
in_code table s [] = Ends
in_code table s (b ∷ bs) =
    if takes_bang s.mode s.before && is_bang (b ∷ bs) then token 1 FStringBang
    else front_step s (b ∷ bs) (longest_front (class_in table) (b ∷ bs))

abbrev pub by_mode : Table → Situation → Mode → Text → Step
by_mode table s (InText opening) text = chunk opening text
by_mode table s mode text = in_code table s text

abbrev pub by_before : Table → Situation → Before → Text → Step
by_before table s Nothing text = first_margin s.levels text
by_before table s before text = by_mode table s s.mode text

-- What stands at a place, by the situation there and the rest of the text.
unfoldable pub step_at : Table → Situation → Text → Step
step_at table s text = by_before table s s.before text
