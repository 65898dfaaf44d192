-- A text that is one identifier, with nothing but skipped pieces round it.
use Rattle.std.specs.Prelude.{◌≡◌, ◌↔◌, ◌≤◌, ℕ, List, [], ◌∷◌, ◌++◌, length, map, Option, Some, None}
use Rattle.std.specs.Str.{IsCharBoundary}
use Rattle.starlark_grammar.specs.Words.{Text}
use Rattle.starlark_grammar.specs.declared.class.Class.{Class}
use Rattle.starlark_grammar.specs.declared.class.Class.TheVariants.{Skipped, Identifier}
use Rattle.starlark_grammar.specs.Front.{language_front}
use Rattle.starlark_grammar.specs.EarlierLanguage.{earlier_front}

-- what finds the word at the front of a text: its class and its length
abbrev pub FrontOf : Type 0
FrontOf = Text → Option (Class × ℕ)

-- Words one after another, each found at the front of what is left, and what is left after them.
abbrev pub ReadsBy : FrontOf → Text → List (Class × Text) → Text → Type 0
ReadsBy front text [] rest = text ≡ rest
ReadsBy front text (word ∷ words) rest = (more : Text) × (text ≡ word.1 ++ more) × (front text ≡ Some (word.0, length word.1)) × ReadsBy front more words rest

-- … by the longest front of the language
abbrev pub ReadCounter : Text → List (Class × Text) → Text → Type 0
ReadCounter = ReadsBy language_front

abbrev pub skipped : Text → Class × Text
skipped piece = (Skipped, piece)

-- The words of a text are skipped pieces, one identifier, and skipped pieces.
pub record IsOneIdentifierBy (front : FrontOf) (text name : Text) : Type 0 where
  pub before : List Text
  pub remainder : List Text
  pub words : ReadsBy front text (map skipped before ++ (Identifier, name) ∷ map skipped remainder) []

-- … by the longest front of the language
abbrev pub IsOneIdentifier : Text → Text → Type 0
IsOneIdentifier = IsOneIdentifierBy language_front

-- A text is one identifier exactly where it was one before `rf'` and `rf"` were openers, and the same one.
abbrev pub IdentifiersStay : Type 0
IdentifiersStay = (text name : Text) → IsOneIdentifier text name ↔ IsOneIdentifierBy earlier_front text name

-- skipped pieces and what is left after them
abbrev pub IsAfterSkipped : Text → Text → Type 0
IsAfterSkipped text rest = (pieces : List Text) × ReadCounter text (map skipped pieces) rest

-- the length of a front, if it is skipped, and if it is an identifier
abbrev pub if_skipped : Option (Class × ℕ) → Option ℕ
if_skipped (Some (Skipped, len)) = Some len
if_skipped front = None

abbrev pub if_identifier : Option (Class × ℕ) → Option ℕ
if_identifier (Some (Identifier, len)) = Some len
if_identifier front = None

-- a text may be cut after so many bytes, and they are some
pub record IsCut (text : Text) (len : ℕ) : Type 0 where
  pub some : 1 ≤ len
  pub inside : len ≤ length text
  pub boundary : IsCharBoundary text len
