-- What a parser of a format string returns at its position.
use Rattle.std.specs.Prelude.{◌≡◌, ℕ, ◌+◌, List, [], ◌∷◌, length, drop, Option, None, Some, Result, Ok, Err}
use Rattle.starlark_text.specs.declared.dot_format_parser.FormatErrorKind.{FormatErrorKind}
use Rattle.starlark_text.specs.declared.dot_format_parser.FormatToken.{FormatToken}
use Rattle.starlark_text.specs.declared.dot_format_parser.FormatToken.TheVariants.{Text, Capture, Escape}
use Rattle.starlark_text.specs.declared.dot_format_parser.FormatError.{FormatError}
use Rattle.starlark_text.specs.Formats.{Piece, written, StandsAt, Refuses, Token, verbatim, captured, escaped, token_of}

-- the whole format string, the byte offset in it, and the error that was found
pub record Parser : Type 0 where
  pub text : List ℕ
  pub at : ℕ
  pub fault : Option FormatErrorKind

-- a token by its bytes, without where they lie in memory
abbrev pub token_view : FormatToken → Token
token_view (Text text) = verbatim text.now
token_view (Capture name at conv) = captured name.now at conv
token_view (Escape brace) = escaped brace

-- the rest of the format string from the position on
abbrev pub rest_of : Parser → List ℕ
rest_of parser = drop parser.at parser.text

-- a piece of `len` bytes begins the text at byte `at`, and means the token
abbrev pub IsToken : ℕ → List ℕ → FormatToken → ℕ → Type 0
IsToken at text token len = (piece : Piece) × StandsAt piece text (drop len text) × (token_view token ≡ token_of at piece) × (len ≡ length (written piece))

-- the parser takes the piece that begins the rest of its text
abbrev pub Takes : Parser → FormatToken → Parser → Type 0
Takes old token new = (len : ℕ) × IsToken old.at (rest_of old) token len × (new ≡ record old { at = old.at + len })

-- the error that was found before, or else the one at the position
abbrev pub IsFault : Option FormatErrorKind → FormatErrorKind → List ℕ → Type 0
IsFault None kind rest = Refuses kind rest
IsFault (Some found) kind rest = kind ≡ found

-- what a call returns, and the parser after it: `None` again after the end, and after an error that
-- error again
abbrev pub Answers : Parser → Result (Option FormatToken) FormatError → Parser → Type 0
Answers old (Ok None) new = (old.fault ≡ None) × (rest_of old ≡ []) × (new ≡ old)
Answers old (Ok (Some token)) new = (old.fault ≡ None) × Takes old token new
Answers old (Err error) new = IsFault old.fault error.kind (rest_of old) × (error.original.now ≡ old.text) × (new ≡ record old { fault = Some error.kind })

-- ---- calls one after another

-- the parser of a whole format string
abbrev pub start_of : List ℕ → Parser
start_of text = record { text = text; at = 0; fault = None }

-- calls that returned these tokens, one after another
abbrev pub AnswersAll : Parser → List FormatToken → Parser → Type 0
AnswersAll old [] new = new ≡ old
AnswersAll old (token ∷ tokens) new = (next : Parser) × Answers old (Ok (Some token)) next × AnswersAll next tokens new

-- a result that is no token: the end, or an error
abbrev pub IsEnding : Result (Option FormatToken) FormatError → Option FormatErrorKind → Type 0
IsEnding (Ok None) fault = fault ≡ None
IsEnding (Ok (Some token)) fault = ⊥
IsEnding (Err error) fault = fault ≡ Some error.kind
