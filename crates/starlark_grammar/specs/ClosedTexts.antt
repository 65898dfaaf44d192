-- Closed texts: of one and a text after it each is lexed on after its faults by itself.
use Rattle.std.specs.Prelude.{◌≡◌, ℕ, true, List, [], drop, Some}
use Rattle.starlark_grammar.specs.Words.{Text}
use Rattle.starlark_grammar.specs.Tokens.{Spanned, Fault}
use Rattle.starlark_grammar.specs.Found.{Item, at_line, faults_in, lexemes_in, passed}
use Rattle.starlark_grammar.specs.Joining.{is_decided, is_line_cut_after}
use Rattle.starlark_grammar.specs.KeptLines.{with_literal}
use Rattle.starlark_grammar.specs.Reading.{History, nothing, outcome_after}
use Rattle.starlark_grammar.specs.Recovery.{Recovered}

-- lexemes and faults apart
abbrev pub parted : List Item → Recovered
parted items = record { lexemes = lexemes_in items; faults = faults_in items }

-- A closed text: all its faults are decided, and what is left of it after the last of them is empty or a cut between lines.
pub data IsClosedAfter : History → Text → Type 0 where
  Empty : (widths : List ℕ) → IsClosedAfter (at_line widths) []
  Cut : (history : History) (text : Text) → is_line_cut_after history text ≡ true → IsClosedAfter history text
  Past : (history : History) (text : Text) (fault : Spanned Fault) → (outcome_after history text).fault ≡ Some fault → is_decided text (with_literal history text fault) ≡ true → IsClosedAfter (passed history text fault).history (drop (passed history text fault).len text) → IsClosedAfter history text

abbrev pub IsClosed : Text → Type 0
IsClosed text = IsClosedAfter nothing text
