-- What the laws of the grammar say.
use Rattle.std.specs.Prelude.{◌≡◌, ◌≤◌, ◌↔◌, ℕ, ◌+◌, ◌*◌, Bool, true, false, ◌⊎◌, List, ◌++◌, length, take, count_by, Some, None, option_to_list, IfSome}
use Rattle.std.specs.List.{AllByRecursion}
use Rattle.std.specs.Str.{IsUtf8, IsCharBoundary}
use Rattle.starlark_grammar.specs.Words.{Text, Kind, OfFString, Class, Table, class_in, language}
use Rattle.starlark_grammar.specs.Front.{language_front}
use Rattle.starlark_grammar.specs.Longest.{IsLongestFront, IsReading, IsOutcome}
use Rattle.starlark_grammar.specs.Tokens.{Token, Indent, Dedent, Opening, Spanned, Lexeme, Outcome}
use Rattle.starlark_grammar.specs.Items.{Literal, Item, Stop, Closing, Body, body_at, closing_quotes}
use Rattle.starlark_grammar.specs.Literals.{ItemAt, items_len, items_value, IsGoodBody, IsBadBody, IsBody}
use Rattle.starlark_grammar.specs.Depths.{Mode}
use Rattle.starlark_grammar.specs.Pieces.{Piece, token, literal_token, literal_by, literal, chunk_by, chunk}
use Rattle.starlark_grammar.specs.Reading.{History, pieces_len, outcome_in, outcome}
use Rattle.starlark_grammar.specs.EarlierLanguage.{earlier_language, holds_rf_opener}
use Rattle.starlark_grammar.specs.Gaps.{InOrder}

-- What is computed as the longest front of a text is one, …
abbrev pub FrontIsLongest : Type 0
FrontIsLongest = (text : Text) (class : Class) (len : ℕ) → language_front text ≡ Some (class, len) → IsLongestFront (class_in language) text class len

-- … and there is no other.
abbrev pub LongestFrontIsOne : Type 0
LongestFrontIsOne = (text : Text) (class : Class) (len : ℕ) → IsLongestFront (class_in language) text class len → language_front text ≡ Some (class, len)

-- no front of a text, but for the empty one, is in any class of the language
abbrev pub NoFrontIsWord : Text → Type 0
NoFrontIsWord text = (len : ℕ) → 1 ≤ len → len ≤ length text → class_in language (take len text) ≡ None

-- There is no longest front exactly where no front is in any class.
abbrev pub NoneWhereNoWord : Type 0
NoneWhereNoWord = (text : Text) → (language_front text ≡ None) ↔ NoFrontIsWord text

-- At most one item is at a place.
abbrev pub ItemIsOne : Type 0
ItemIsOne = (literal : Literal) (text : Text) (one other : Item) → ItemAt literal text one → ItemAt literal text other → one ≡ other

-- What is computed as a body is a list of items with what ends it, …
abbrev pub BodyIs : Type 0
BodyIs = (literal : Literal) (text : Text) → IsBody literal text (body_at literal text)

-- … and there is no other.
abbrev pub BodyIsOne : Type 0
BodyIsOne = (literal : Literal) (text : Text) (body : Body) → IsBody literal text body → body ≡ body_at literal text

-- It is the body of a bad literal exactly where no quotes close it.
abbrev pub BodyIsBad : Type 0
BodyIsBad = (literal : Literal) (text : Text) (items : List Item) (stop : Stop)
    → IsBadBody literal text items stop ↔ ((body_at literal text ≡ record { items = items; stop = stop }) × (stop ≡ Closing → ⊥))

-- A literal is good or bad.
abbrev pub GoodOrBad : Type 0
GoodOrBad = (literal : Literal) (text : Text) → ((items : List Item) × IsGoodBody literal text items) ⊎ ((items : List Item) × ((stop : Stop) × IsBadBody literal text items stop))

-- A good literal is one token. Its value is what its items denote, and the closing quotes are its last bytes.
abbrev pub GoodLiteralIsToken : Type 0
GoodLiteralIsToken = (mode : Mode) (kind : Kind) (opening : Opening) (len : ℕ) (text : Text) (items : List Item) → IsGoodBody (record { kind = kind; opening = opening }) text items
    → literal mode kind opening len text ≡ token (len + items_len items + length (closing_quotes opening)) (literal_token kind (items_value items))

-- A bad literal is a fault, by what ends its items.
abbrev pub BadLiteralIsFault : Type 0
BadLiteralIsFault = (mode : Mode) (kind : Kind) (opening : Opening) (len : ℕ) (text : Text) (items : List Item) (stop : Stop)
    → IsBadBody (record { kind = kind; opening = opening }) text items stop
    → literal mode kind opening len text ≡ literal_by mode kind opening len text (record { items = items; stop = stop }) stop

-- A chunk of an f-string's text is a piece or a fault, by its items and what ends them.
abbrev pub ChunkIsBody : Type 0
ChunkIsBody = (opening : Opening) (text : Text) (body : Body) → IsBody (record { kind = OfFString; opening = opening }) text body → chunk opening text ≡ chunk_by opening text body body.stop

-- one list begins another
abbrev pub Begins : List Piece → List Piece → Type 0
Begins front whole = (more : List Piece) × (whole ≡ front ++ more)

-- Of two readings of fronts of one text one begins the other, by any table of words …
abbrev pub ReadingsAgree : Type 0
ReadingsAgree = (table : Table) (history : History) (text : Text) (one other : List Piece) → IsReading table history text one → IsReading table history text other → Begins one other ⊎ Begins other one

-- … and each lies inside of the text.
abbrev pub ReadingsFit : Type 0
ReadingsFit = (table : Table) (history : History) (text : Text) (pieces : List Piece) → IsReading table history text pieces → pieces_len pieces ≤ length text

-- What is computed as the outcome of a text is one, …
abbrev pub OutcomeIs : Type 0
OutcomeIs = (table : Table) (text : Text) → IsOutcome table text (outcome_in table text)

-- … and there is no other.
abbrev pub OutcomeIsOne : Type 0
OutcomeIsOne = (table : Table) (text : Text) (found : Outcome) → IsOutcome table text found → found ≡ outcome_in table text

-- The lexemes of a text are in order, with nothing but gaps before and between them, up to a place in it. …
abbrev pub LexemesInOrder : Type 0
LexemesInOrder = (text : Text) → (to : ℕ) × (to ≤ length text) × InOrder text 0 (outcome text).lexemes to

-- … In a text without fault nothing but a gap stands after them either.
abbrev pub FaultlessInOrder : Type 0
FaultlessInOrder = (text : Text) → (outcome text).fault ≡ None → InOrder text 0 (outcome text).lexemes (length text)

-- The fault of a text lies inside of it.
abbrev pub FaultsInside : Type 0
FaultsInside = (table : Table) (text : Text) → IfSome (outcome_in table text).fault (λ fault. (fault.begin ≤ fault.end) × (fault.end ≤ length text))

-- both ends of something lie between characters of the text
abbrev pub AtBoundaries : {A : Type 0} → Text → Spanned A → Type 0
AtBoundaries text x = IsCharBoundary text x.begin × IsCharBoundary text x.end

-- The lexemes of a text of characters begin and end between characters, …
abbrev pub LexemesAtBoundaries : Type 0
LexemesAtBoundaries = (text : Text) → IsUtf8 text → AllByRecursion (AtBoundaries text) (outcome text).lexemes

-- … and so does its fault.
abbrev pub FaultAtBoundaries : Type 0
FaultAtBoundaries = (text : Text) → IsUtf8 text → IfSome (outcome text).fault (AtBoundaries text)

abbrev pub is_indent : Token → Bool
is_indent Indent = true
is_indent token = false

abbrev pub is_dedent : Token → Bool
is_dedent Dedent = true
is_dedent token = false

abbrev pub indents : List Lexeme → ℕ
indents lexemes = count_by (λ (lexeme : Lexeme). is_indent lexeme.node) lexemes

abbrev pub dedents : List Lexeme → ℕ
dedents lexemes = count_by (λ (lexeme : Lexeme). is_dedent lexeme.node) lexemes

-- In each beginning of the lexemes of a text there are at most as many `Dedent` as `Indent`.
abbrev pub DedentsFollow : Type 0
DedentsFollow = (table : Table) (text : Text) (n : ℕ) → dedents (take n (outcome_in table text).lexemes) ≤ indents (take n (outcome_in table text).lexemes)

-- A text without fault has as many of each.
abbrev pub BlocksClose : Type 0
BlocksClose = (table : Table) (text : Text) → (outcome_in table text).fault ≡ None → dedents (outcome_in table text).lexemes ≡ indents (outcome_in table text).lexemes

-- Of n bytes there are at most 2n + 1 lexemes and faults.
abbrev pub ItemsAreFew : Type 0
ItemsAreFew = (table : Table) (text : Text) → length (outcome_in table text).lexemes + length (option_to_list (outcome_in table text).fault) ≤ 2 * length text + 1

-- A text in which neither `rf'` nor `rf"` stands has the outcome that it had before these were openers.
abbrev pub TablesAgree : Type 0
TablesAgree = (text : Text) → holds_rf_opener text ≡ false → outcome text ≡ outcome_in earlier_language text
