-- Segments of a document, what is found in them, and lists of them.
use Rattle.std.specs.Prelude.{◌≡◌, ◌≤◌, ◌<◌, ◌+◌, ◌^◌, ℕ, Bool, true, false, List, [], ◌∷◌, ◌++◌, map, count_by, drop, length, string_bytes, ⊤}
use Rattle.std.specs.List.{AllByRecursion}
use Rattle.starlark_base.specs.Places.{is_lf}
use Rattle.starlark_document.specs.Documents.{DocumentView, IsKindOf}
use Rattle.starlark_document.specs.declared.segments.PlacedFault.{PlacedFault}
use Rattle.starlark_document.specs.declared.segments.Segment.{Segment}
use Rattle.starlark_grammar.specs.Tokens as grammar
use Rattle.starlark_grammar.specs.Words.{Text}
use Rattle.starlark_grammar.specs.Joining.{begins_plainly, without_last_newline}
use Rattle.starlark_grammar.specs.ClosedTexts.{IsClosed}
use Rattle.starlark_grammar.specs.Found.{faults_in, found, lexemes_in}
use Rattle.starlark_token.specs.Lexemes.{lexeme_view, shown_lexeme}
use Rattle.starlark_token.specs.TokenViews.{TokenView}
use Rattle.starlark_token.specs.declared.tokens.Token.{Token}

-- the text of a segment
abbrev pub text_in : Segment → Text
text_in segment = string_bytes segment.content.value.text

-- the texts of segments, one after another
abbrev pub text_of : List Segment → Text
text_of [] = []
text_of (segment ∷ more) = text_in segment ++ text_of more

-- a document of segments
abbrev pub document_of : (least_len : ℕ) → List Segment → DocumentView
document_of least_len segments = record { text = text_of segments; segments = map text_in segments; least_len = least_len }

-- a fault of the code is one of the grammar
pub record IsPlaced (fault : grammar.Spanned grammar.Fault) (placed : PlacedFault) : Type 0 where
  pub begin : placed.begin ≡ fault.begin
  pub kind : IsKindOf fault.node placed.exception.value
  pub end : placed.end ≡ fault.end

-- faults of the code are those of the grammar
abbrev pub AreFaults : List (grammar.Spanned grammar.Fault) → List PlacedFault → Type 0
AreFaults [] [] = ⊤
AreFaults (fault ∷ faults) (placed ∷ more) = IsPlaced fault placed × AreFaults faults more
AreFaults faults placed = ⊥

-- the segment has these lexemes, and the faults of its text
pub record IsLexedAs (own : List grammar.Lexeme) (segment : Segment) : Type 0 where
  pub lexemes : map lexeme_view segment.content.value.lexemes.items ≡ map shown_lexeme own
  pub faults : AreFaults (faults_in (found (text_in segment))) segment.content.value.faults.items
  pub len : segment.len ≡ length (text_in segment)
  pub lines : segment.lines ≡ count_by is_lf (text_in segment)

-- the last segment of a text: it has all lexemes of its text
abbrev pub IsWhole : Segment → Type 0
IsWhole segment = IsLexedAs (lexemes_in (found (text_in segment))) segment

-- a segment that another one follows: its text is closed, and it has all lexemes but the closing `Newline`
pub record IsOpen (segment : Segment) : Type 0 where
  pub is_closed : IsClosed (text_in segment)
  pub lexed : IsLexedAs (without_last_newline (lexemes_in (found (text_in segment)))) segment

-- a segment begins plainly, unless it is the first of the text
abbrev pub Follows : Bool → Segment → Type 0
Follows true segment = ⊤
Follows false segment = begins_plainly (text_in segment) ≡ true

-- segments that others follow, the first of which may be the first of the text
abbrev pub AreOpen : Bool → List Segment → Type 0
AreOpen is_first [] = ⊤
AreOpen is_first (segment ∷ more) = Follows is_first segment × IsOpen segment × AreOpen false more

-- Segments up to the end of a text: all but the last are open, and the last is whole.
abbrev pub AreLaid : Bool → List Segment → Type 0
AreLaid is_first [] = ⊥
AreLaid is_first (segment ∷ []) = Follows is_first segment × IsWhole segment
AreLaid is_first (segment ∷ (next ∷ more)) = Follows is_first segment × IsOpen segment × AreLaid false (next ∷ more)

-- the stored lengths are those of the texts
abbrev pub HaveLens : List Segment → Type 0
HaveLens segments = AllByRecursion (λ (segment : Segment). segment.len ≡ length (text_in segment)) segments

-- the stored numbers of LF are those of the texts
abbrev pub HaveLines : List Segment → Type 0
HaveLines segments = AllByRecursion (λ (segment : Segment). segment.lines ≡ count_by is_lf (text_in segment)) segments

-- The segments have the faults of their texts; their lexemes and faults end in them; and they end before byte 2^32, where
-- the first begins at an offset.
pub record IsBounded (segment : Segment) : Type 0 where
  pub len : segment.len ≡ length (text_in segment)
  pub lexemes : AllByRecursion (λ (lexeme : ℕ × Token × ℕ). (lexeme.0 ≤ segment.len) × (lexeme.2 ≤ segment.len)) segment.content.value.lexemes.items
  pub faults : AreFaults (faults_in (found (text_in segment))) segment.content.value.faults.items
  pub inside : AllByRecursion (λ (fault : PlacedFault). (fault.begin ≤ segment.len) × (fault.end ≤ segment.len)) segment.content.value.faults.items

abbrev pub AreBounded : ℕ → List Segment → Type 0
AreBounded begin segments = AllByRecursion IsBounded segments × (begin + length (text_of segments) < 2 ^ 32)

-- the lexemes of segments, the first of which begins at an offset
abbrev pub lexemes_along : ℕ → List Segment → List (grammar.Spanned TokenView)
lexemes_along begin [] = []
lexemes_along begin (segment ∷ more) =
    map (grammar.moved begin) (map lexeme_view segment.content.value.lexemes.items) ++ lexemes_along (begin + segment.len) more

-- the lexemes of segments, without the first `at` of the first one, which begins at an offset
abbrev pub lexemes_from : ℕ → ℕ → List Segment → List (grammar.Spanned TokenView)
lexemes_from begin at [] = []
lexemes_from begin at (segment ∷ more) =
    map (grammar.moved begin) (map lexeme_view (drop at segment.content.value.lexemes.items)) ++ lexemes_along (begin + segment.len) more

-- the faults of segments, the first of which begins at an offset
abbrev pub faults_along : ℕ → List Segment → List (grammar.Spanned grammar.Fault)
faults_along begin [] = []
faults_along begin (segment ∷ more) = map (grammar.moved begin) (faults_in (found (text_in segment))) ++ faults_along (begin + segment.len) more

-- the faults of segments, without the first `at` of the first one, which begins at an offset
abbrev pub faults_from : ℕ → ℕ → List Segment → List (grammar.Spanned grammar.Fault)
faults_from begin at [] = []
faults_from begin at (segment ∷ more) = map (grammar.moved begin) (drop at (faults_in (found (text_in segment)))) ++ faults_along (begin + segment.len) more
