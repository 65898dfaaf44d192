-- Format strings: their pieces, what the pieces mean, and their errors.
use Rattle.std.specs.Prelude.{◌≡◌, ℕ, ◌+◌, ◌<◌, Bool, ◌||◌, not, ◌==◌, List, [], ◌∷◌, ◌++◌, length, codes, Option, None, Some, IsTrue, ⊤}
use Rattle.std.specs.List.{list_all, flat_map}
use Rattle.starlark_text.specs.declared.dot_format_parser.EscapeCurlyBrace.{EscapeCurlyBrace}
use Rattle.starlark_text.specs.declared.dot_format_parser.EscapeCurlyBrace.TheVariants.{Open, Close}
use Rattle.starlark_text.specs.declared.dot_format_parser.FormatConv.{FormatConv}
use Rattle.starlark_text.specs.declared.dot_format_parser.FormatConv.TheVariants.{Str, Repr}
use Rattle.starlark_text.specs.declared.dot_format_parser.FormatErrorKind.{FormatErrorKind}
use Rattle.starlark_text.specs.declared.dot_format_parser.FormatErrorKind.TheVariants.{StandaloneClose, UnmatchedOpen, MissingConversion, InvalidConversion}

-- the bytes of a text
abbrev pub Text : Type 0
Text = List ℕ

-- ---- characters that mean something

-- `{`
abbrev pub is_open : ℕ → Bool
is_open b = b == 123

-- `}`
abbrev pub is_close : ℕ → Bool
is_close b = b == 125

-- `{` or `}`
abbrev pub is_brace : ℕ → Bool
is_brace b = is_open b || is_close b

-- what the name of a capture can't have: braces, and the `!` before a conversion
abbrev pub ends_name : ℕ → Bool
ends_name b = is_brace b || b == 33

-- a text without braces
abbrev pub IsPlain : Text → Type 0
IsPlain text = IsTrue (list_all (λ b. not (is_brace b)) text)

-- a text that can be the name of a capture; it may be empty
abbrev pub IsName : Text → Type 0
IsName name = IsTrue (list_all (λ b. not (ends_name b)) name)

-- the text begins with a byte that passes the test
abbrev pub BeginsWith : (ℕ → Bool) → Text → Type 0
BeginsWith test [] = ⊥
BeginsWith test (b ∷ text) = IsTrue (test b)

-- the text is empty, or begins with a byte that passes the test
abbrev pub EndsOrBeginsWith : (ℕ → Bool) → Text → Type 0
EndsOrBeginsWith test [] = ⊤
EndsOrBeginsWith test (b ∷ text) = IsTrue (test b)

-- ---- pieces, and how they are written

-- how the conversion of a capture is written: not at all, `!s` or `!r`
pub data Suffix : Type 0 where
  bare : Suffix
  bang_s : Suffix
  bang_r : Suffix

-- the conversion as a format string has it
abbrev pub suffix_text : Suffix → Text
suffix_text bare = []
suffix_text bang_s = codes "!s"
suffix_text bang_r = codes "!r"

-- what the conversion means
abbrev pub conversion : Suffix → FormatConv
conversion bare = Str
conversion bang_s = Str
conversion bang_r = Repr

-- plain text, a capture `{name}`, or an escape
pub data Piece : Type 0 where
  plain : Text → Piece
  capture : Text → Suffix → Piece
  escape : EscapeCurlyBrace → Piece

-- the brace that an escape stands for
abbrev pub brace_text : EscapeCurlyBrace → Text
brace_text Open = codes "{"
brace_text Close = codes "}"

-- the escape as a format string has it
abbrev pub escape_text : EscapeCurlyBrace → Text
escape_text Open = codes "{{"
escape_text Close = codes "}}"

-- the piece as a format string has it
abbrev pub written : Piece → Text
written (plain text) = text
written (capture name suffix) = codes "{" ++ (name ++ (suffix_text suffix ++ codes "}"))
written (escape brace) = escape_text brace

-- plain text is not empty and has no braces, and the name of a capture is one
abbrev pub IsPiece : Piece → Type 0
IsPiece (plain text) = (0 < length text) × IsPlain text
IsPiece (capture name suffix) = IsName name
IsPiece (escape brace) = ⊤

-- plain text extends to a brace or the end
abbrev pub IsLongest : Piece → Text → Type 0
IsLongest (plain text) rest = EndsOrBeginsWith is_brace rest
IsLongest (capture name suffix) rest = ⊤
IsLongest (escape brace) rest = ⊤

-- the piece begins the text, and the rest follows it
pub record StandsAt (piece : Piece) (text rest : Text) : Type 0 where
  pub good : IsPiece piece
  pub joins : text ≡ written piece ++ rest
  pub longest : IsLongest piece rest

-- ---- errors, where no piece begins

-- no piece begins the text
abbrev pub NoPiece : Text → Type 0
NoPiece text = (piece : Piece) (rest : Text) → ¬ StandsAt piece text rest

-- `{name!}`
abbrev pub LacksConversion : Text → Type 0
LacksConversion text = (name : Text) × (rest : Text) × IsName name × (text ≡ codes "{" ++ (name ++ (codes "!}" ++ rest)))

-- `s`, `r` or `}`
abbrev pub begins_conversion : ℕ → Bool
begins_conversion b = b == 115 || b == 114 || b == 125

-- `{name!` and then neither `s`, `r` nor `}`
abbrev pub HasOtherConversion : Text → Type 0
HasOtherConversion text = (name : Text) × (rest : Text) × IsName name × EndsOrBeginsWith (λ b. not (begins_conversion b)) rest × (text ≡ codes "{" ++ (name ++ (codes "!" ++ rest)))

-- where no piece begins, the kind of error
abbrev pub Refuses : FormatErrorKind → Text → Type 0
Refuses StandaloneClose text = BeginsWith is_close text × NoPiece text
Refuses UnmatchedOpen text = BeginsWith is_open text × NoPiece text × ¬ LacksConversion text × ¬ HasOtherConversion text
Refuses MissingConversion text = LacksConversion text
Refuses InvalidConversion text = HasOtherConversion text

-- ---- a whole format string

-- the pieces of the text up to its first error or its end, and that error if there is one
abbrev pub IsOutcome : List Piece → Option FormatErrorKind → Text → Type 0
IsOutcome [] None text = text ≡ []
IsOutcome [] (Some kind) text = Refuses kind text
IsOutcome (piece ∷ pieces) fault text = (rest : Text) × StandsAt piece text rest × IsOutcome pieces fault rest

-- the pieces join to the text
abbrev pub IsReading : List Piece → Text → Type 0
IsReading pieces text = IsOutcome pieces None text

-- ---- tokens

-- what a piece means at its byte offset
pub data Token : Type 0 where
  verbatim : Text → Token
  captured : Text → ℕ → FormatConv → Token
  escaped : EscapeCurlyBrace → Token

-- the position of a capture is the byte at which its name begins
abbrev pub token_of : ℕ → Piece → Token
token_of at (plain text) = verbatim text
token_of at (capture name suffix) = captured name (at + 1) (conversion suffix)
token_of at (escape brace) = escaped brace

-- the tokens of pieces, the first of which begins at byte `at`
abbrev pub tokens_from : ℕ → List Piece → List Token
tokens_from at [] = []
tokens_from at (piece ∷ pieces) = token_of at piece ∷ tokens_from (at + length (written piece)) pieces

-- the text has a reading, and these are the tokens of its pieces
abbrev pub ParsesTo : Text → List Token → Type 0
ParsesTo text tokens = (pieces : List Piece) × IsReading pieces text × (tokens ≡ tokens_from 0 pieces)

-- the conversion of a token, as a format string has it
abbrev pub conversion_text : FormatConv → Text
conversion_text Str = []
conversion_text Repr = codes "!r"

-- a token, written back as a piece of a format string
abbrev pub token_text : Token → Text
token_text (verbatim text) = text
token_text (captured name at conv) = codes "{" ++ (name ++ (conversion_text conv ++ codes "}"))
token_text (escaped brace) = escape_text brace

-- tokens, written back as a format string
abbrev pub written_back : List Token → Text
written_back tokens = flat_map token_text tokens

-- a token without its position
abbrev pub without_place : Token → Token
without_place (verbatim text) = verbatim text
without_place (captured name at conv) = captured name 0 conv
without_place (escaped brace) = escaped brace

-- ---- printed errors

-- the printed text of an error, up to the format string
abbrev pub fault_text : FormatErrorKind → Text
fault_text StandaloneClose = codes "Standalone '}' in format string `"
fault_text UnmatchedOpen = codes "Unmatched '{' in format string `"
fault_text MissingConversion = codes "Missing conversion character in format string `"
fault_text InvalidConversion = codes "Invalid conversion in format string `"
