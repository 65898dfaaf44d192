-- What the laws of faults that keep their lines say.
use Rattle.std.specs.Prelude.{◌≡◌, ◌≤◌, ◌<◌, ℕ, true, List, length, Some}
use Rattle.starlark_grammar.specs.Words.{Text}
use Rattle.starlark_grammar.specs.KeptLines.{keeps_line, passed_end, stays_open, with_literal}
use Rattle.starlark_grammar.specs.Pieces.{Before}
use Rattle.starlark_grammar.specs.Reading.{History, outcome_after}
use Rattle.starlark_grammar.specs.Tokens.{Lexeme, Spanned, Fault, ReservedKeyword, StartsZero}

-- all stays open after the first fault of a text after a history
abbrev pub KeepsLine : History → Text → Spanned Fault → Type 0
KeepsLine history text fault = ((outcome_after history text).fault ≡ Some fault) × (stays_open history text fault ≡ true)

-- Each fault of a reserved word or of an integer with a leading 0 keeps its line.
abbrev pub WordsKeepLines : Type 0
WordsKeepLines = (before : Before) (text : Text) (lexemes : List Lexeme) (begin end : ℕ) (word : Text)
    → (keeps_line before text lexemes (record { begin = begin; node = ReservedKeyword word; end = end }) ≡ true)
    × (keeps_line before text lexemes (record { begin = begin; node = StartsZero word; end = end }) ≡ true)

-- Such a fault has a byte that is passed, and lies in the text.
abbrev pub KeptFaultsHaveBytes : Type 0
KeptFaultsHaveBytes = (history : History) (text : Text) (fault : Spanned Fault) → KeepsLine history text fault
    → (fault.begin < passed_end text (with_literal history text fault)) × (passed_end text (with_literal history text fault) ≤ length text)
