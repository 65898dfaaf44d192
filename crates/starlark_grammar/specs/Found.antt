-- All that is found in a text that is lexed on after its faults: within the line where they keep it, and else from the next
-- line on.
use Rattle.std.specs.Prelude.{ℕ, zero, suc, if◌then◌else◌, List, [], ◌∷◌, ◌++◌, length, map, drop, Option, Some, None}
use Rattle.starlark_grammar.specs.Words.{Text}
use Rattle.starlark_grammar.specs.AfterFaults.{restart}
use Rattle.starlark_grammar.specs.Tokens.{Lexeme, Spanned, moved, Fault}
use Rattle.starlark_grammar.specs.KeptLines.{passed_end, stays_open, tokens_past, with_literal}
use Rattle.starlark_grammar.specs.Pieces.{Nothing, Other}
use Rattle.starlark_grammar.specs.Reading.{History, history_after, nothing, outcome_after}
use Rattle.starlark_grammar.specs.StandIns.{stand_ins}

-- what is found in a text: a lexeme or a fault
pub data Item : Type 0 where
  Given : (lexeme : Lexeme) → Item
  Refused : (fault : Spanned Fault) → Item

-- an item, so many bytes later
abbrev pub moved_item : ℕ → Item → Item
moved_item n (Given lexeme) = Given (moved n lexeme)
moved_item n (Refused fault) = Refused (moved n fault)

abbrev pub given : List Lexeme → List Item
given lexemes = map (λ (lexeme : Lexeme). Given lexeme) lexemes

-- how many bytes of a text are passed up to the end of its fault, the lexemes that stand for it, and what was read before the
-- rest
pub record Passed : Type 0 where
  pub len : ℕ
  pub stand_ins : List Lexeme
  pub history : History

-- at the start of a line, with blocks open
abbrev pub at_line : List ℕ → History
at_line widths = record { tokens = []; widths = widths; before = Nothing }

-- A fault that keeps its line is passed with all that is open, and so are a literal with a bad escape that is closed, and an
-- open quote, of which only brackets count; after any other fault the next line begins, with the blocks open. What stands for a
-- fault opens and closes nothing, so the history has no token of it.
unfoldable pub passed : History → Text → Spanned Fault → Passed
passed history text fault =
    if stays_open history text fault
    then record { len = passed_end text (with_literal history text fault); stand_ins = stand_ins history text fault; history = record (history_after history text) { tokens = tokens_past (history_after history text).tokens text fault; before = Other } }
    else record { len = restart text (with_literal history text fault); stand_ins = []; history = at_line (history_after history text).widths }

-- a fault, what stands for it, and what is found in the rest of its text
abbrev pub found_from : Text → Spanned Fault → Passed → (History → Text → List Item) → List Item
found_from text fault past again = Refused fault ∷ (given past.stand_ins ++ map (moved_item past.len) (again past.history (drop past.len text)))

-- the lexemes of a text, and then its fault if there is one, and what is found after that
abbrev pub found_by : History → Text → Option (Spanned Fault) → (History → Text → List Item) → List Item
found_by history text None again = given (outcome_after history text).lexemes
found_by history text (Some fault) again = given (outcome_after history text).lexemes ++ found_from text fault (passed history text fault) again

-- with so many faults at most
unfoldable pub found_within : ℕ → History → Text → List Item
found_within zero history text = given (outcome_after history text).lexemes
found_within (suc most) history text = found_by history text (outcome_after history text).fault (found_within most)

-- What is found in a text after a history. Each fault but the last takes a byte, so there is at most one more than bytes.
unfoldable pub found_after : History → Text → List Item
found_after history text = found_within (suc (length text)) history text

-- all that is found in a text, in order
unfoldable pub found : Text → List Item
found = found_after nothing

-- the lexemes among items, …
abbrev pub lexemes_in : List Item → List Lexeme
lexemes_in [] = []
lexemes_in (Given lexeme ∷ items) = lexeme ∷ lexemes_in items
lexemes_in (Refused fault ∷ items) = lexemes_in items

-- … and the faults
abbrev pub faults_in : List Item → List (Spanned Fault)
faults_in [] = []
faults_in (Given lexeme ∷ items) = faults_in items
faults_in (Refused fault ∷ items) = fault ∷ faults_in items
