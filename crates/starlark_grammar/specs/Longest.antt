-- What it is to be the longest front of a text, or its longest reading, as the laws have it.
use Rattle.std.specs.Prelude.{◌≡◌, ◌<◌, ◌≤◌, ℕ, [], ◌∷◌, List, length, take, drop, Option, Some, None, ⊤}
use Rattle.starlark_grammar.specs.Words.{Text, Table}
use Rattle.starlark_grammar.specs.Tokens.{Outcome}
use Rattle.starlark_grammar.specs.Pieces.{Piece, Step, Stands}
use Rattle.starlark_grammar.specs.Reading.{History, after, after_all, next_step, nothing, outcome_of, pieces_len}

-- A longest front: it has the class, and no longer one has any.
pub record IsLongestFront {C : Type 0} (class_of : Text → Option C) (text : Text) (class : C) (len : ℕ) : Type 0 where
  pub some : 1 ≤ len
  pub inside : len ≤ length text
  pub known : class_of (take len text) ≡ Some class
  pub longest : (n : ℕ) → len < n → n ≤ length text → class_of (take n text) ≡ None

-- A reading: pieces each of which stands where the one before ends.
abbrev pub IsReading : Table → History → Text → List Piece → Type 0
IsReading table history text [] = ⊤
IsReading table history text (piece ∷ pieces) =
    (next_step table history text ≡ Stands piece) × IsReading table (after history piece) (drop piece.len text) pieces

-- A longest reading: what stands after its last piece is no piece.
pub record IsLongestReading (table : Table) (history : History) (text : Text) (pieces : List Piece) (last : Step) : Type 0 where
  pub reads : IsReading table history text pieces
  pub stands_last : next_step table (after_all history pieces) (drop (pieces_len pieces) text) ≡ last
  pub no_piece : (piece : Piece) → last ≡ Stands piece → ⊥

-- The outcome of a text: that of a longest reading.
pub record IsOutcome (table : Table) (text : Text) (found : Outcome) : Type 0 where
  pub pieces : List Piece
  pub last : Step
  pub longest : IsLongestReading table nothing text pieces last
  pub same : found ≡ outcome_of text pieces last
