-- What the grammar of format strings implies.
use Rattle.std.specs.Prelude.{◌≡◌, ◌<◌, ◌⊎◌, List, map, length, Option, Result}
use Rattle.starlark_text.specs.declared.dot_format_parser.FormatError.{FormatError}
use Rattle.starlark_text.specs.declared.dot_format_parser.FormatErrorKind.{FormatErrorKind}
use Rattle.starlark_text.specs.declared.dot_format_parser.FormatToken.{FormatToken}
use Rattle.starlark_text.specs.Formats.{Text, Piece, StandsAt, Refuses, IsOutcome, IsReading, Token, tokens_from, ParsesTo, written_back, without_place}
use Rattle.starlark_text.specs.Parsing.{Parser, start_of, token_view, Answers, AnswersAll, IsEnding}

-- where text is left, a piece or an error is there, …
abbrev pub SomethingStands : Type 0
SomethingStands = (text : Text) → 0 < length text → ((piece : Piece) × (rest : Text) × StandsAt piece text rest) ⊎ ((kind : FormatErrorKind) × Refuses kind text)

-- … never both a piece and an error, …
abbrev pub NeverBoth : Type 0
NeverBoth = (text rest : Text) (piece : Piece) (kind : FormatErrorKind) → StandsAt piece text rest → Refuses kind text → ⊥

-- … never two pieces, …
abbrev pub OnePiece : Type 0
OnePiece = (text : Text) (first second : Piece) (rest more : Text) → StandsAt first text rest → StandsAt second text more → (first ≡ second) × (rest ≡ more)

-- … and never two kinds of errors
abbrev pub OneFault : Type 0
OneFault = (text : Text) (first second : FormatErrorKind) → Refuses first text → Refuses second text → first ≡ second

-- a text has an outcome, …
abbrev pub SomeOutcome : Type 0
SomeOutcome = (text : Text) → (pieces : List Piece) × (fault : Option FormatErrorKind) × IsOutcome pieces fault text

-- … no other outcome, …
abbrev pub OneOutcome : Type 0
OneOutcome = (text : Text) (first second : List Piece) (fault other : Option FormatErrorKind) → IsOutcome first fault text → IsOutcome second other text → (first ≡ second) × (fault ≡ other)

-- … and so at most one reading
abbrev pub OneReading : Type 0
OneReading = (text : Text) (first second : List Piece) → IsReading first text → IsReading second text → first ≡ second

-- what calls of a parser return, up to one that returns no token, is the outcome of its text
abbrev pub AnswersOutcome : Type 0
AnswersOutcome =
    (text : Text) (tokens : List FormatToken) (end after : Parser) (last : Result (Option FormatToken) FormatError) (fault : Option FormatErrorKind)
    → AnswersAll (start_of text) tokens end → Answers end last after → IsEnding last fault
    → (pieces : List Piece) × IsOutcome pieces fault text × (map token_view tokens ≡ tokens_from 0 pieces)

-- tokens that are written back parse to the same tokens, except for positions
abbrev pub ParsesBack : Type 0
ParsesBack =
    (text : Text) (tokens : List Token) → ParsesTo text tokens
    → (again : List Token) × ParsesTo (written_back tokens) again × (map without_place again ≡ map without_place tokens)
