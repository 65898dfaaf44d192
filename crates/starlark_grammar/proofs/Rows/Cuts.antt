-- Clean cuts, kept cuts and joined texts, closed by computing.
use Rattle.std.proofs.Common.{◌≡◌, refl}
use Rattle.std.specs.Prelude.{ℕ, true, false, [], ◌∷◌, ◌++◌, length, codes, Option, Some, List}
use Rattle.starlark_grammar.specs.Words.{Text}
use Rattle.starlark_grammar.specs.declared.class.Terminal.TheVariants.{OpeningRound, ClosingRound}
use Rattle.starlark_grammar.specs.Tokens.{Comment, Newline, Identifier, Word, Spanned, Lexeme, Fault, InvalidTab, Outcome}
use Rattle.starlark_grammar.specs.Margins.{margin_of}
use Rattle.starlark_grammar.specs.Reading.{outcome}
use Rattle.starlark_grammar.specs.Cuts.{is_settled, is_clean_cut_in, is_clean_cut, is_kept_cut, without_closing, joined, tabbed}
use Rattle.starlark_grammar.proofs.Rows.Shapes.{at, all_definitions, Pass, Fail}
use Rattle.std.specs.List.{list_all, list_any}

-- the lexemes of two texts joined are the joined list
abbrev Joins : Text → Text → Type 0
Joins first second = (outcome (first ++ second)).lexemes ≡ joined (length first) (outcome first).lexemes (outcome second).lexemes

-- whether a text is a clean cut …
clean_cuts : Pass is_clean_cut
    (codes "x\n" ∷ codes "x\n\n" ∷ codes "x\n# a\n" ∷ codes "# a\n" ∷ codes "x\n  \n" ∷
    codes "x\n  # a\n" ∷ codes "f\"{x}\"\n" ∷ codes "f\"{(}\"\n" ∷ codes " x\ny\n" ∷
    codes "x\n\r\n" ∷ codes "\r\n" ∷ codes "f\"{\n}\"\n" ∷ codes ")(\n" ∷
    codes "\"\"\"\n\"\"\"\n" ∷ codes "\n" ∷ codes "# c\r\n" ∷ codes "(\n)\n" ∷ codes "x\r\n" ∷
    codes "  \n" ∷ [])
unfolding all_definitions is_settled is_clean_cut_in is_clean_cut is_kept_cut
clean_cuts = refl

-- … and whether it isn't one
no_clean_cuts : Fail is_clean_cut
    (codes "x" ∷ codes "x\n# a" ∷ codes "# a" ∷ codes "x\\\n" ∷ codes "'''\n" ∷ codes "(\n" ∷
    codes "x\n\r" ∷ codes " " ∷ codes "# a\r" ∷ codes "{\n" ∷ codes "'a\n'\n" ∷ codes "f\"{x\n" ∷
    codes "\\\n" ∷ codes "if x:\n  y\n" ∷ [] ∷ codes " x\n" ∷ codes "a)\n" ∷ codes "x\n " ∷
    codes "x\n$\n" ∷ [])
unfolding all_definitions is_settled is_clean_cut_in is_clean_cut is_kept_cut
no_clean_cuts = refl

-- where a text has kept cuts, and where it hasn't
abbrev Keeps : Text → List ℕ → List ℕ → Type 0
Keeps text kept other = (list_all (is_kept_cut text) kept ≡ true) × (list_any (is_kept_cut text) other ≡ false)

kept_cuts :
    Keeps (codes "x\ny\n") (2 ∷ 4 ∷ []) []
    × Keeps (codes "x\n# c\n\ty") [] (2 ∷ 6 ∷ [])
    × Keeps (codes "# c\n\tx") [] (4 ∷ [])
    × Keeps (codes "a\nb\n\tc") (2 ∷ []) (4 ∷ [])
    × Keeps (codes " x\ny\nz") (5 ∷ []) (3 ∷ [])
    × Keeps (codes "x\n$\n") (2 ∷ []) (4 ∷ [])
    × Keeps (codes "(\n)\ny\n") (4 ∷ 6 ∷ []) (2 ∷ [])
    × Keeps (codes "x\n# a\n# b\ny") (2 ∷ 6 ∷ 10 ∷ []) []
unfolding all_definitions is_settled is_clean_cut_in is_clean_cut is_kept_cut
kept_cuts = ((refl, refl), (refl, refl), (refl, refl), (refl, refl), (refl, refl), (refl, refl), (refl, refl), (refl, refl))

-- texts joined at clean cuts
joins :
    Joins (codes "x\n") (codes "# a\ny\n")
    × Joins (codes "# a\n") (codes "  # b\n z\n")
    × Joins (codes "x\n") (codes "\n")
    × Joins (codes "(\n)\n") (codes " y")
    × Joins (codes "x\n# a\n") (codes " y\n")
    × Joins (codes "x\r\n") (codes "f\"{y}\"")
    × Joins (codes " x\ny\n") (codes " z\nw\n")
    × Joins (codes "\n") []
    × Joins (codes "# a\n") (codes "# b")
    × Joins (codes "x\n\n") (codes "\ny")
    × Joins (codes "x\n") (codes "y\n")
    × Joins (codes "if x:\n") (codes "  y\n")
    × Joins (codes "# c\n") (codes "x")
    × Joins (codes "x\n") (codes "  y")
    × Joins (codes "x\n") []
unfolding all_definitions is_settled is_clean_cut_in is_clean_cut is_kept_cut
joins = (refl, refl, refl, refl, refl, refl, refl, refl, refl, refl, refl, refl, refl, refl, refl)

-- what a clean cut and a text after it with a tab in its first margin come to
abbrev Tabbed : Text → Text → Outcome → Type 0
Tabbed first second found = (outcome (first ++ second) ≡ found) × (tabbed (length first) (without_closing (outcome first).lexemes) (margin_of second).comments ≡ found)

abbrev tab_at : ℕ → Option (Spanned Fault)
tab_at place = Some (at place InvalidTab place)

abbrev name : ℕ → Text → ℕ → Lexeme
name begin text end = at begin (Identifier text) end

-- the last `Newline` is taken back, with the comments after it; where there is none all comments stay
tabs_after_cuts :
    Tabbed (codes "x\n") (codes "\ty") (record { lexemes = name 0 (codes "x") 1 ∷ []; fault = tab_at 1 })
    × Tabbed (codes "x\n# a\n") (codes "\ty") (record { lexemes = name 0 (codes "x") 1 ∷ []; fault = tab_at 1 })
    × Tabbed (codes "x\n\n") (codes "# a\n\ty") (record { lexemes = name 0 (codes "x") 1 ∷ at 1 Newline 2 ∷ []; fault = tab_at 2 })
    × Tabbed (codes "# a\n") (codes "# b\n \ty\n") (record { lexemes = at 0 (Comment (codes " a")) 3 ∷ at 4 (Comment (codes " b")) 7 ∷ []; fault = tab_at 0 })
    × Tabbed (codes "x\n(\n)\r\n") (codes "\ty") (record { lexemes = name 0 (codes "x") 1 ∷ at 1 Newline 2 ∷ at 2 (Word OpeningRound) 3 ∷ at 4 (Word ClosingRound) 5 ∷ []; fault = tab_at 5 })
unfolding all_definitions is_settled is_clean_cut_in is_clean_cut is_kept_cut
tabs_after_cuts = ((refl, refl), (refl, refl), (refl, refl), (refl, refl), (refl, refl))
