-- The last offset where a text, or the front of one, may be cut, of those that the caller's buffers have room for.
use Rattle.std.specs.Prelude.{◌≡◌, ◌<◌, ◌≤◌, ◌-◌, ◌||◌, ◌==◌, ◌⊎◌, not, ℕ, Bool, true, false, [], ◌∷◌, drop, length, take, ⊤, Option}
use Rattle.std.specs.Str.{byte}
use Rattle.starlark_c.specs.Endings.{Buffers, all_values, capped, lexemes_of}
use Rattle.starlark_c.specs.Records.{values}
use Rattle.starlark_c.specs.declared.endings.Ending.{Ending}
use Rattle.starlark_c.specs.declared.endings.Ending.TheVariants as ending
use Rattle.starlark_c.specs.declared.endings.Filled.{Filled}
use Rattle.starlark_grammar.specs.Margins.{is_blank}
use Rattle.starlark_grammar.specs.Words.{Text}
use Rattle.starlark_lexemes.specs.CutAfter.{IsCutAfter}

-- A text whose first line begins with neither a blank nor a comment. Its first margin is empty, whatever follows.
unfoldable pub is_without_margin : Text → Bool
is_without_margin [] = false
is_without_margin (b ∷ bs) = not (is_blank b || b == byte "#")

-- the text may be cut after `at` bytes and `count` lexemes, and the front of one whatever follows it
pub record IsCutIn (text : Text) (is_front : Bool) (count at : ℕ) : Type 0 where
  pub cut : IsCutAfter text count at
  pub stays : is_front ≡ true → is_without_margin (drop at text) ≡ true

-- the buffers have no room for the first `count` lexemes of a text
abbrev pub LackRoom : Option Text → Buffers → Text → (count : ℕ) → Type 0
LackRoom home buffers text count = (length buffers.lexemes < count) ⊎ (length buffers.values < length (values home (take count (lexemes_of text))))

-- the buffers have no room up to any cut after more than `count` lexemes
abbrev pub IsLastCut : Option Text → (is_front : Bool) → Text → Buffers → (count : ℕ) → Type 0
IsLastCut home is_front text buffers count = (more at : ℕ) → count < more → IsCutIn text is_front more at → LackRoom home buffers text more

-- no cut is after one or more of the first `count` lexemes
abbrev pub HasNoCut : (is_front : Bool) → Text → (count : ℕ) → Type 0
HasNoCut is_front text count = (some at : ℕ) → 0 < some → some ≤ count → IsCutIn text is_front some at → ⊥

-- the first piece of a text has so many lexemes and bytes of values: up to the first cut, or else all
abbrev pub IsFirstPiece : Option Text → (is_front : Bool) → Text → (lexemes bytes : ℕ) → Type 0
IsFirstPiece home is_front text lexemes bytes =
    (HasNoCut is_front text (lexemes - 1) × ((at : ℕ) × IsCutIn text is_front lexemes at) × (bytes ≡ length (values home (take lexemes (lexemes_of text)))))
    ⊎ (HasNoCut is_front text lexemes × (lexemes ≡ length (lexemes_of text)) × (bytes ≡ length (all_values home text)))

-- what the first piece of a text needs is wanted
pub record WantsFirstPiece (home : Option Text) (is_front : Bool) (text : Text) (wanted : Filled) : Type 0 where
  pub lexemes : ℕ
  pub bytes : ℕ
  pub piece : IsFirstPiece home is_front text lexemes bytes
  pub needs : wanted ≡ record { lexemes = capped lexemes; values = capped bytes }

-- A piece ends at the last cut that the buffers have room for. There is none where the buffers are full: then the first
-- piece is wanted. There is none in a front that ends as a whole text does.
abbrev pub StopsAtLastCut : Option Text → (is_front : Bool) → Text → Buffers → Ending → Type 0
StopsAtLastCut home is_front text buffers (ending.Piece filled next) = IsLastCut home is_front text buffers filled.lexemes
StopsAtLastCut home is_front text buffers (ending.Full wanted) = IsLastCut home is_front text buffers 0 × WantsFirstPiece home is_front text wanted
StopsAtLastCut home true text buffers (ending.Whole filled) = IsLastCut home true text buffers 0
StopsAtLastCut home true text buffers (ending.Fault filled fault) = IsLastCut home true text buffers 0
StopsAtLastCut home is_front text buffers end = ⊤
