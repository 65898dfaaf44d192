-- Worked texts that are lexed on after their faults, closed by computing.
use Rattle.std.proofs.Common.{◌≡◌, ◌<◌, List, arith, drop, length, refl, subst}
use Rattle.std.proofs.lemmas.Bool.{both_ways}
use Rattle.std.specs.Prelude.{⊤, [], ◌∷◌, IfSome, codes, true, false}
use Rattle.starlark_grammar.proofs.Rows.Shapes.{all_definitions, at, single, utf8, Pass, Fail}
use Rattle.starlark_grammar.specs.Reading.{History, history_after, nothing, outcome, outcome_after, read_len}
use Rattle.starlark_grammar.specs.Tokens.{Fault, InvalidEscapeSequence, Lexeme, Spanned, Newline, Identifier, Indent, String, Dedent, Word, Comment, FStringStart, InvalidInput, InvalidTab, Indentation, UnfinishedStringLiteral, ReservedKeyword}
use Rattle.starlark_grammar.specs.Words.{Text}
use Rattle.starlark_grammar.specs.declared.class.Terminal.TheVariants as terminal
use Rattle.starlark_grammar.specs.AfterFaults.{next_line, restart, stopped_at}
use Rattle.starlark_grammar.specs.ClosedTexts.{Cut, Empty, IsClosed, IsClosedAfter, Past, parted}
use Rattle.starlark_grammar.specs.Found.{found, found_after, found_within, passed}
use Rattle.starlark_grammar.specs.Joining.{begins_plainly, is_between_lines, is_decided, is_line_cut, is_line_cut_after, without_last_newline}
use Rattle.starlark_grammar.specs.KeptLines.{keeps_line, literal_rest, rest_from, with_brackets, with_literal, with_literal_at}
use Rattle.starlark_grammar.specs.Numbers.{integer_of}
use Rattle.starlark_grammar.specs.StandIns.{stand_ins_at, written_literal, written_quote}

-- the text has these lexemes and these faults
abbrev pub Recovers : Text → List Lexeme → List (Spanned Fault) → Type 0
Recovers text lexemes faults = parted (found text) ≡ record { lexemes = lexemes; faults = faults }

-- to unfold this is to unfold all that a row computes with
unfoldable pub all_recovery : Type 0
unfolding all_definitions next_line stopped_at restart keeps_line rest_from literal_rest with_literal_at outcome_after history_after read_len with_brackets passed found_within found_after found stand_ins_at written_literal written_quote integer_of
all_recovery = ⊤

-- no fault, faults that keep their lines, and others
rows_1 :
    Recovers [] (at 0 Newline 0 ∷ []) []
    × Recovers (codes "x\n") (at 0 (Identifier (codes "x")) 1 ∷ at 1 Newline 2 ∷ at 2 Newline 2 ∷ []) []
    × Recovers (codes "'a\nx") (at 0 (String (codes "a")) 2 ∷ at 2 Newline 3 ∷ at 3 (Identifier (codes "x")) 4 ∷ at 4 Newline 4 ∷ []) (at 0 UnfinishedStringLiteral 2 ∷ [])
    × Recovers (codes "x $ y\nz") (at 0 (Identifier (codes "x")) 1 ∷ at 4 (Identifier (codes "y")) 5 ∷ at 5 Newline 6 ∷ at 6 (Identifier (codes "z")) 7 ∷ at 7 Newline 7 ∷ []) (at 2 (InvalidInput (codes "$")) 3 ∷ [])
    × Recovers (codes "$") (at 1 Newline 1 ∷ []) (at 0 (InvalidInput (codes "$")) 1 ∷ [])
    × Recovers (codes "$\n") (at 1 Newline 2 ∷ at 2 Newline 2 ∷ []) (at 0 (InvalidInput (codes "$")) 1 ∷ [])
    × Recovers (codes "$\nis\nx") (at 1 Newline 2 ∷ at 2 (Identifier (codes "is")) 4 ∷ at 4 Newline 5 ∷ at 5 (Identifier (codes "x")) 6 ∷ at 6 Newline 6 ∷ []) (at 0 (InvalidInput (codes "$")) 1 ∷ at 2 (ReservedKeyword (codes "is")) 4 ∷ [])
    × Recovers (codes "('a\nx\n") (at 0 (Word terminal.OpeningRound) 1 ∷ at 1 (String (codes "a")) 3 ∷ at 4 (Identifier (codes "x")) 5 ∷ at 6 Newline 6 ∷ []) (at 1 UnfinishedStringLiteral 3 ∷ [])
unfolding all_recovery
rows_1 = (refl, refl, refl, refl, refl, refl, refl, refl)

-- a literal that takes the rest of the text, an f-string that ends with its line, and tabs
rows_2 :
    Recovers (codes "'''a\nx\n") (at 7 Newline 7 ∷ []) (at 0 UnfinishedStringLiteral 7 ∷ [])
    × Recovers (codes "f'\nx") (at 0 (FStringStart (record { is_raw = false; quote = single; is_triple = false })) 2 ∷ at 3 (Identifier (codes "x")) 4 ∷ at 4 Newline 4 ∷ []) (at 2 UnfinishedStringLiteral 3 ∷ [])
    × Recovers (codes "x \ty\nz") (at 0 (Identifier (codes "x")) 1 ∷ at 3 (Identifier (codes "y")) 4 ∷ at 4 Newline 5 ∷ at 5 (Identifier (codes "z")) 6 ∷ at 6 Newline 6 ∷ []) (at 2 InvalidTab 2 ∷ [])
    × Recovers (codes "\tx\ny") (at 3 (Identifier (codes "y")) 4 ∷ at 4 Newline 4 ∷ []) (at 0 InvalidTab 0 ∷ [])
    × Recovers (codes "x\n# c\n\ty\nz") (at 0 (Identifier (codes "x")) 1 ∷ at 9 (Identifier (codes "z")) 10 ∷ at 10 Newline 10 ∷ []) (at 1 InvalidTab 1 ∷ [])
    × Recovers (codes "# c\n\ty\nz") (at 0 (Comment (codes " c")) 3 ∷ at 7 (Identifier (codes "z")) 8 ∷ at 8 Newline 8 ∷ []) (at 0 InvalidTab 0 ∷ [])
    × Recovers (codes "a\n  b\n c\nd") (at 0 (Identifier (codes "a")) 1 ∷ at 1 Newline 2 ∷ at 2 Indent 4 ∷ at 4 (Identifier (codes "b")) 5 ∷ at 9 Dedent 9 ∷ at 9 (Identifier (codes "d")) 10 ∷ at 10 Newline 10 ∷ []) (at 5 Indentation 7 ∷ [])
    × Recovers (utf8 "é\nx") (at 2 Newline 3 ∷ at 3 (Identifier (codes "x")) 4 ∷ at 4 Newline 4 ∷ []) (at 0 (InvalidInput (utf8 "é")) 2 ∷ [])
unfolding all_recovery
rows_2 = (refl, refl, refl, refl, refl, refl, refl, refl)

-- Blocks stay open: a bad escape two blocks deep, a width that doesn't fit, and a block that ends after an open quote.
rows_3 :
    Recovers (codes "if a:\n  if b:\n    x = '\\xz'\n    y\n  z\n") (
    at 0 (Word terminal.If) 2 ∷ at 3 (Identifier (codes "a")) 4 ∷ at 4 (Word terminal.Colon) 5 ∷ at 5 Newline 6 ∷
    at 6 Indent 8 ∷ at 8 (Word terminal.If) 10 ∷ at 11 (Identifier (codes "b")) 12 ∷ at 12 (Word terminal.Colon) 13 ∷ at 13 Newline 14 ∷
    at 14 Indent 18 ∷ at 18 (Identifier (codes "x")) 19 ∷ at 20 (Word terminal.Equal) 21 ∷ at 22 (String (codes "\\xz")) 27 ∷ at 27 Newline 28 ∷ at 32 (Identifier (codes "y")) 33 ∷ at 33 Newline 34 ∷
    at 34 Dedent 34 ∷ at 36 (Identifier (codes "z")) 37 ∷ at 37 Newline 38 ∷ at 38 Newline 38 ∷ at 38 Dedent 38 ∷ []) (at 23 (InvalidEscapeSequence (codes "xz")) 26 ∷ [])
    × Recovers (codes "if a:\n    b\n  c\n    d\n") (
    at 0 (Word terminal.If) 2 ∷ at 3 (Identifier (codes "a")) 4 ∷ at 4 (Word terminal.Colon) 5 ∷ at 5 Newline 6 ∷
    at 6 Indent 10 ∷ at 10 (Identifier (codes "b")) 11 ∷ at 20 (Identifier (codes "d")) 21 ∷ at 21 Newline 22 ∷ at 22 Newline 22 ∷ at 22 Dedent 22 ∷ []) (at 11 Indentation 14 ∷ [])
    × Recovers (codes "if a:\n  'b\nc\n") (
    at 0 (Word terminal.If) 2 ∷ at 3 (Identifier (codes "a")) 4 ∷ at 4 (Word terminal.Colon) 5 ∷ at 5 Newline 6 ∷
    at 6 Indent 8 ∷ at 8 (String (codes "b")) 10 ∷ at 10 Newline 11 ∷ at 11 Dedent 11 ∷ at 11 (Identifier (codes "c")) 12 ∷ at 12 Newline 13 ∷ at 13 Newline 13 ∷ []) (at 8 UnfinishedStringLiteral 10 ∷ [])
unfolding all_recovery
rows_3 = (refl, refl, refl)

-- which texts are cuts between lines …
line_cuts : Pass is_line_cut
    (codes "x\n" ∷ codes "if x:\n  y\n" ∷ codes "if x:\n  y\n\n" ∷ codes "if x:\n  y\n # c\n" ∷
    codes "f(\n)\n" ∷ codes "# c\n" ∷ codes "\n" ∷ codes " x\r\n" ∷ [])
unfolding all_definitions history_after is_between_lines is_line_cut_after is_line_cut
line_cuts = refl

-- … and which aren't
no_line_cuts : Fail is_line_cut
    (codes "x" ∷ [] ∷ codes "if x:\n  y" ∷ codes "if x:\n  y\n " ∷ codes "f(\n" ∷ codes "'''\n" ∷
    codes "f\"{x\n" ∷ codes "x\\\n" ∷ codes "x $\n" ∷ codes "# c" ∷ [])
unfolding all_definitions history_after is_between_lines is_line_cut_after is_line_cut
no_line_cuts = refl

-- the text without its closing `Newline` has these lexemes
abbrev Joins : Text → List Lexeme → Type 0
Joins text lexemes = without_last_newline (outcome text).lexemes ≡ lexemes

closing_newlines :
    Joins [] []
    × Joins (codes "# c\n") (at 0 (Comment (codes " c")) 3 ∷ [])
    × Joins (codes "x") (at 0 (Identifier (codes "x")) 1 ∷ [])
    × Joins (codes "x\n") (at 0 (Identifier (codes "x")) 1 ∷ at 1 Newline 2 ∷ [])
    × Joins (codes "x:\n y\n") (at 0 (Identifier (codes "x")) 1 ∷ at 1 (Word terminal.Colon) 2 ∷ at 2 Newline 3 ∷ at 3 Indent 4 ∷ at 4 (Identifier (codes "y")) 5 ∷ at 5 Newline 6 ∷ at 6 Dedent 6 ∷ [])
    × Joins (codes " x\n  y\n") (at 0 Indent 1 ∷ at 1 (Identifier (codes "x")) 2 ∷ at 2 Newline 3 ∷ at 3 Indent 5 ∷ at 5 (Identifier (codes "y")) 6 ∷ at 6 Newline 7 ∷ at 7 Dedent 7 ∷ at 7 Dedent 7 ∷ [])
unfolding all_definitions
closing_newlines = (refl, refl, refl, refl, refl, refl)

-- lexemes with no `Newline`, and with some
last_newlines :
    (without_last_newline [] ≡ [])
    × (without_last_newline (at 0 Dedent 0 ∷ []) ≡ at 0 Dedent 0 ∷ [])
    × (without_last_newline (at 0 Newline 1 ∷ at 1 Newline 2 ∷ at 2 Dedent 2 ∷ []) ≡ at 0 Newline 1 ∷ at 2 Dedent 2 ∷ [])
last_newlines = (refl, refl, refl)

-- which texts begin plainly …
plain_texts : Pass begins_plainly
    (codes "x" ∷ codes "$\n" ∷ [])
unfolding begins_plainly
plain_texts = refl

-- … and which don't
other_texts : Fail begins_plainly
    ([] ∷ codes "\n" ∷ codes "# c\nx" ∷ codes " x" ∷ codes "\tx" ∷ codes "\rx" ∷ [])
unfolding begins_plainly
other_texts = refl

-- whether a fault is decided: not at the text's end, and not where no LF ends the text
decided_rows :
    (is_decided (codes "$\n") (at 0 (InvalidInput (codes "$")) 1) ≡ true)
    × (is_decided (codes "'a\n") (at 0 UnfinishedStringLiteral 2) ≡ true)
    × (is_decided (codes "f'a\nb\n") (at 2 UnfinishedStringLiteral 4) ≡ true)
    × (is_decided (codes "x\n\ty\n") (at 1 InvalidTab 1) ≡ true)
    × (is_decided (codes "$\nis\n") (at 0 (InvalidInput (codes "$")) 1) ≡ true)
    × (is_decided (codes "$") (at 0 (InvalidInput (codes "$")) 1) ≡ false)
    × (is_decided (codes "$\nx") (at 0 (InvalidInput (codes "$")) 1) ≡ false)
    × (is_decided (codes "f'a\n") (at 2 UnfinishedStringLiteral 4) ≡ false)
    × (is_decided (codes "f'a\\\n") (at 2 UnfinishedStringLiteral 5) ≡ false)
    × (is_decided (codes "\"\"\"a\n") (at 0 UnfinishedStringLiteral 5) ≡ false)
unfolding is_decided
decided_rows = (refl, refl, refl, refl, refl, refl, refl, refl, refl, refl)

-- closed texts: none, a cut between lines, and texts with decided faults and such a cut or nothing after them
closed_rows :
    IsClosed []
    × IsClosed (codes "x\n")
    × IsClosed (codes "$\n")
    × IsClosed (codes "'a\n")
    × IsClosed (codes "f'a\nb\n")
    × IsClosed (codes "x\n\ty\n")
    × IsClosed (codes "$\n x\n")
    × IsClosed (codes "'\\x'\n")
    × IsClosed (codes "'\\xz\n")
unfolding all_recovery is_between_lines is_line_cut_after is_line_cut is_decided
closed_rows = (
  Empty [],
  Cut nothing (codes "x\n") refl,
  Past nothing (codes "$\n") (at 0 (InvalidInput (codes "$")) 1) refl refl (Cut _ (codes "\n") refl),
  Past nothing (codes "'a\n") (at 0 UnfinishedStringLiteral 2) refl refl (Cut _ (codes "\n") refl),
  Past nothing (codes "f'a\nb\n") (at 2 UnfinishedStringLiteral 4) refl refl (Cut _ (codes "b\n") refl),
  Past nothing (codes "x\n\ty\n") (at 1 InvalidTab 1) refl refl (Empty (0 ∷ [])),
  Past nothing (codes "$\n x\n") (at 0 (InvalidInput (codes "$")) 1) refl refl (Cut _ (codes "\n x\n") refl),
  Past nothing (codes "'\\x'\n") (at 1 (InvalidEscapeSequence (codes "x'")) 4) refl refl (Cut _ (codes "\n") refl),
  Past nothing (codes "'\\xz\n") (at 1 (InvalidEscapeSequence (codes "xz")) 4) refl refl (Empty (0 ∷ [])),
)

-- no cut between lines
abbrev IsOpen : History → Text → Type 0
IsOpen history text = (0 < length text) × (is_line_cut_after history text ≡ false)

-- open by a fault that isn't decided, if there is one
undecided_open : (history : History) (text : Text) → IsOpen history text → IfSome (outcome_after history text).fault (λ fault. is_decided text (with_literal history text fault) ≡ false) → IsClosedAfter history text → ⊥
undecided_open _ _ (some, uncut) undecided (Empty widths) = absurd (omega (arith, some))
undecided_open _ _ (some, uncut) undecided (Cut history text cut) = both_ways (is_line_cut_after history text) uncut cut
undecided_open _ _ (some, uncut) undecided (Past history text fault has is rest) =
    both_ways (is_decided text (with_literal history text fault)) (subst (λ first. IfSome first (λ other. is_decided text (with_literal history text other) ≡ false)) has undecided) is

-- open by what is left after a fault
abbrev StaysOpen : History → Text → Spanned Fault → Type 0
StaysOpen history text fault = IsClosedAfter (passed history text fault).history (drop (passed history text fault).len text) → ⊥

rest_open : (history : History) (text : Text) → IsOpen history text → IfSome (outcome_after history text).fault (StaysOpen history text) → IsClosedAfter history text → ⊥
rest_open _ _ (some, uncut) stays (Empty widths) = absurd (omega (arith, some))
rest_open _ _ (some, uncut) stays (Cut history text cut) = both_ways (is_line_cut_after history text) uncut cut
rest_open _ _ (some, uncut) stays (Past history text fault has is rest) = subst (λ first. IfSome first (StaysOpen history text)) has stays rest

-- texts that aren't closed: by their end, and by a fault at their end …
open_rows :
    (IsClosed (codes "x") → ⊥)
    × (IsClosed (codes "$") → ⊥)
    × (IsClosed (codes "$\nx") → ⊥)
    × (IsClosed (codes "$\nif") → ⊥)
    × (IsClosed (codes "f'a\n") → ⊥)
    × (IsClosed (codes "f'a\\\n") → ⊥)
    × (IsClosed (codes "\"\"\"a\n") → ⊥)
    × (IsClosed (codes "'''\\x\nx\n") → ⊥)
unfolding all_recovery is_between_lines is_line_cut_after is_line_cut is_decided
open_rows = (
  undecided_open nothing (codes "x") (omega arith, refl) tt,
  undecided_open nothing (codes "$") (omega arith, refl) refl,
  undecided_open nothing (codes "$\nx") (omega arith, refl) refl,
  undecided_open nothing (codes "$\nif") (omega arith, refl) refl,
  undecided_open nothing (codes "f'a\n") (omega arith, refl) refl,
  undecided_open nothing (codes "f'a\\\n") (omega arith, refl) refl,
  undecided_open nothing (codes "\"\"\"a\n") (omega arith, refl) refl,
  undecided_open nothing (codes "'''\\x\nx\n") (omega arith, refl) refl,
)

-- … and by brackets that are open after a fault that keeps its line, or in an open quote
brackets_stay_open :
    (IsClosed (codes "$\n(\n") → ⊥)
    × (IsClosed (codes "'(\n") → ⊥)
    × (IsClosed (codes "(\n$\nx\n") → ⊥)
unfolding all_recovery is_between_lines is_line_cut_after is_line_cut is_decided
brackets_stay_open = (
  rest_open nothing (codes "$\n(\n") (omega arith, refl) (undecided_open _ (codes "\n(\n") (omega arith, refl) tt),
  rest_open nothing (codes "'(\n") (omega arith, refl) (undecided_open _ (codes "\n") (omega arith, refl) tt),
  rest_open nothing (codes "(\n$\nx\n") (omega arith, refl) (undecided_open _ (codes "\nx\n") (omega arith, refl) tt),
)
