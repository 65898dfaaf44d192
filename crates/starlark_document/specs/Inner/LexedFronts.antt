-- What was lexed of the front of a text, and where it can be cut.
use Rattle.std.specs.Prelude.{◌≡◌, ◌≤◌, ◌<◌, ◌-◌, ℕ, suc, Bool, true, false, ◌||◌, List, [], ◌∷◌, ◌++◌, map, length, take, drop, ⊤}
use Rattle.std.specs.List.{AllByRecursion}
use Rattle.std.specs.Str.{IsCharBoundary}
use Rattle.starlark_document.specs.Documents.{AreInside, IsUncut, line_end_from, may_end}
use Rattle.starlark_document.specs.Inner.Segments.{AreFaults, IsOpen, IsWhole, text_in}
use Rattle.starlark_document.specs.declared.lexed_fronts.LexedFront.{LexedFront}
use Rattle.starlark_document.specs.declared.segments.Segment.{Segment}
use Rattle.starlark_grammar.specs.Tokens as grammar
use Rattle.starlark_grammar.specs.Words.{Text}
use Rattle.starlark_grammar.specs.Joining.{begins_plainly, without_last_newline}
use Rattle.starlark_grammar.specs.ClosedTexts.{IsClosed}
use Rattle.starlark_grammar.specs.Found.{faults_in, found, lexemes_in}
use Rattle.starlark_recovery.specs.RecoveringLexer.{all_items}
use Rattle.starlark_token.specs.Lexemes.{lexeme_view, shown_lexeme}
use Rattle.starlark_token.specs.TextItems.{LexerItem, Given, Refused}
use Rattle.starlark_token.specs.TokenViews.{TokenView, Whole, is_newline_view}

-- the lexemes of a list of items, …
abbrev pub given_of : List LexerItem → List (grammar.Spanned TokenView)
given_of [] = []
given_of (Given lexeme ∷ more) = lexeme ∷ given_of more
given_of (Refused fault ∷ more) = given_of more

-- … and the faults
abbrev pub refused_of : List LexerItem → List (grammar.Spanned grammar.Fault)
refused_of [] = []
refused_of (Given lexeme ∷ more) = refused_of more
refused_of (Refused fault ∷ more) = fault ∷ refused_of more

-- whether one of the lexemes is a `Newline`
abbrev pub has_newline_view : List (grammar.Spanned TokenView) → Bool
has_newline_view [] = false
has_newline_view (lexeme ∷ lexemes) = is_newline_view lexeme.node || has_newline_view lexemes

-- the index of the last `Newline` of a list, or its length if it has none
abbrev pub last_newline_at : List (grammar.Spanned TokenView) → ℕ
last_newline_at [] = 0
last_newline_at (lexeme ∷ lexemes) = by (has_newline_view lexemes) (is_newline_view lexeme.node) (last_newline_at lexemes)
  where
    by : Bool → Bool → ℕ → ℕ
    by false true later = 0
    by others first later = suc later

-- the lexemes without the last `Newline`
abbrev pub without_newline : List (grammar.Spanned TokenView) → List (grammar.Spanned TokenView)
without_newline lexemes = take (last_newline_at lexemes) lexemes ++ drop (suc (last_newline_at lexemes)) lexemes

-- the lexeme is a `Dedent`
abbrev pub is_dedent_view : TokenView → Bool
is_dedent_view (Whole grammar.Dedent) = true
is_dedent_view view = false

-- a `Newline` of some bytes
abbrev pub IsLineEnd : grammar.Spanned TokenView → Type 0
IsLineEnd lexeme = (lexeme.node ≡ Whole grammar.Newline) × (lexeme.begin < lexeme.end)

abbrev pub is_dedent_item : LexerItem → Bool
is_dedent_item (Given lexeme) = is_dedent_view lexeme.node
is_dedent_item (Refused fault) = false

-- items that don't begin with a `Dedent`
abbrev pub BeginUndented : List LexerItem → Type 0
BeginUndented [] = ⊤
BeginUndented (item ∷ more) = is_dedent_item item ≡ false

-- the last newline of some bytes among the items ends at an offset
pub record EndsLine (found : List LexerItem) (at : ℕ) : Type 0 where
  pub front : List LexerItem
  pub newline : grammar.Spanned TokenView
  pub more : List LexerItem
  pub items : found ≡ front ++ (Given newline ∷ more)
  pub is_line_end : IsLineEnd newline
  pub end : newline.end ≡ at

-- a newline of some bytes ends at an offset where a segment may end, the first such one, and only `Dedent`s come after it
pub record EndsPlainly (least_len : ℕ) (text : Text) (found : List LexerItem) (at : ℕ) : Type 0 where
  pub front : List LexerItem
  pub newline : grammar.Spanned TokenView
  pub dedents : List LexerItem
  pub items : found ≡ front ++ (Given newline ∷ dedents)
  pub is_line_end : IsLineEnd newline
  pub end : newline.end ≡ at
  pub are_dedents : AllByRecursion (λ item. is_dedent_item item ≡ true) dedents
  pub may : may_end least_len text at ≡ true
  pub earlier : AreInside least_len text (given_of front)

-- what was found in the items of a text so far
pub record IsLexedFront (text : Text) (items : List LexerItem) (front : LexedFront) : Type 0 where
  pub lexemes : map lexeme_view front.lexemes.items ≡ given_of items
  pub faults : AreFaults (refused_of items) front.faults.items
  pub line_end : 0 < front.line_end → EndsLine items front.line_end
  pub last : front.line_end ≡ line_end_from 0 (given_of items)
  pub within : front.line_end ≤ length text
  pub boundary : 0 < front.line_end → IsCharBoundary text front.line_end
  pub cut : front.is_cut ≡ true → EndsPlainly front.least_len text items front.line_end
  pub uncut : front.is_cut ≡ false → AreInside front.least_len text (given_of items)

-- the items of a text were taken up to where it can be cut
pub record IsCutFront (text : Text) (front : LexedFront) : Type 0 where
  pub items : List LexerItem
  pub more : List LexerItem
  pub all : all_items text ≡ items ++ more
  pub taken : IsLexedFront text items front
  pub cut : front.is_cut ≡ true
  pub ends : BeginUndented more

-- the items of a text were taken so far, or all
abbrev pub IsTakenFront : Text → (is_cut : Bool) → LexedFront → Type 0
IsTakenFront text true front = IsCutFront text front
IsTakenFront text false front = IsLexedFront text (all_items text) front × (front.is_cut ≡ false)

-- A newline of some bytes, after which a line begins plainly, closes the text so far. Its items are those up to there, with
-- the `Dedent`s, but for its closing `Newline`.
abbrev pub ItemsCut : Type 0
ItemsCut = (text : Text) (front : List LexerItem) (newline : grammar.Spanned TokenView) (dedents more : List LexerItem)
    → all_items text ≡ front ++ (Given newline ∷ (dedents ++ more)) → IsLineEnd newline
    → AllByRecursion (λ item. is_dedent_item item ≡ true) dedents → BeginUndented more → begins_plainly (drop newline.end text) ≡ true
    → IsClosed (take newline.end text)
    × (map shown_lexeme (without_last_newline (lexemes_in (found (take newline.end text)))) ≡ given_of (front ++ (Given newline ∷ dedents)))
    × (faults_in (found (take newline.end text)) ≡ refused_of front)

-- A text that ends with a newline of some bytes is closed.
abbrev pub ItemsClose : Type 0
ItemsClose = (text : Text) (front : List LexerItem) (newline : grammar.Spanned TokenView) (more : List LexerItem)
    → all_items text ≡ front ++ (Given newline ∷ more) → IsLineEnd newline → newline.end ≡ length text → IsClosed text

-- The lexemes and faults of all items of a text are those that are found in it.
abbrev pub ItemsAreFound : Type 0
ItemsAreFound = (text : Text) → (given_of (all_items text) ≡ map shown_lexeme (lexemes_in (found text))) × (refused_of (all_items text) ≡ faults_in (found text))

-- the first segment of a text can't be cut, and it and what is left have the least length
pub record IsSized (whole : Text) (least_len : ℕ) (segment : Segment) : Type 0 where
  pub uncut : IsUncut least_len (text_in segment)
  pub long : segment.len < length whole → (least_len ≤ segment.len) × (least_len ≤ length whole - segment.len)

-- the first segment of a text: up to where it can be cut, or the whole text, which is the document's last or not
pub record IsFirstSegment (whole : Text) (is_last : Bool) (segment : Segment) : Type 0 where
  pub within : segment.len ≤ length whole
  pub text : text_in segment ≡ take segment.len whole
  pub len : segment.len ≡ length (text_in segment)
  pub some : 0 < length whole → 0 < segment.len
  pub cut : segment.len < length whole → IsOpen segment × (begins_plainly (drop segment.len whole) ≡ true)
  pub last : segment.len ≡ length whole → is_last ≡ true → IsWhole segment
  pub inner : segment.len ≡ length whole → is_last ≡ false → IsOpen segment
