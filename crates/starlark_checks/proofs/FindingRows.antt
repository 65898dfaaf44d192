-- Worked rows, closed by computing: what the checks find in small texts.
use Rattle.std.proofs.Common.{◌≡◌, ℕ, Bool, List, [], ◌∷◌, ◌++◌, refl, false, true}
use Rattle.std.specs.Prelude.{codes, option_to_list}
use Rattle.starlark_grammar.specs.Numbers.{Integer}
use Rattle.starlark_grammar.specs.Tokens as grammar
use Rattle.starlark_grammar.specs.declared.class.Quote.TheVariants.{Double}
use Rattle.starlark_grammar.specs.declared.class.Terminal.{Terminal}
use Rattle.starlark_grammar.specs.declared.class.Terminal.TheVariants as terminal
use Rattle.starlark_token.specs.TokenViews.{Whole}
use Rattle.starlark_checks.specs.Findings.{Fault, Lexeme, Passed, Text, finding, open_brackets}
use Rattle.starlark_checks.specs.OpenStack.{found_at}
use Rattle.starlark_checks.specs.declared.check.Check.TheVariants.{NeverClosed, ClosesNothing, ClosesAnother, NumberBeforeWord, MergeMarker, FStringLineEnd}
use Rattle.starlark_checks.specs.declared.check.Finding.{Finding}

-- a token between two offsets
abbrev spanned : ℕ → grammar.Token → ℕ → Passed
spanned begin token end = Lexeme (record { begin = begin; node = Whole token; end = end })

-- a keyword or symbol between two offsets
abbrev fixed : ℕ → Terminal → ℕ → Passed
fixed begin symbol end = spanned begin (grammar.Word symbol) end

-- the opening of an f-string: whether it has three quotes
abbrev fstring : Bool → grammar.Token
fstring is_triple = grammar.FStringStart (record { is_raw = false; quote = Double; is_triple = is_triple })

-- what is found in a text whose lexemes and faults these are, first to last, after some
abbrev found_on : Text → List Passed → List Passed → List Finding
found_on text before [] = open_brackets before
found_on text before (Lexeme lexeme ∷ rest) = option_to_list (finding text before lexeme) ++ found_on text (Lexeme lexeme ∷ before) rest
found_on text before (Fault ∷ rest) = found_on text (Fault ∷ before) rest

abbrev Finds : Text → List Passed → List Finding → Type 0
Finds text passed findings = found_on text [] passed ≡ findings

brackets : Finds (codes "()") (fixed 0 terminal.OpeningRound 1 ∷ fixed 1 terminal.ClosingRound 2 ∷ []) []
    × Finds (codes "([") (fixed 0 terminal.OpeningRound 1 ∷ fixed 1 terminal.OpeningSquare 2 ∷ []) (found_at NeverClosed 0 1 ∷ found_at NeverClosed 1 2 ∷ [])
    × Finds (codes "})") (fixed 0 terminal.ClosingCurly 1 ∷ fixed 1 terminal.ClosingRound 2 ∷ []) (found_at ClosesNothing 0 1 ∷ found_at ClosesNothing 1 2 ∷ [])
    × Finds (codes "{[)") (fixed 0 terminal.OpeningCurly 1 ∷ fixed 1 terminal.OpeningSquare 2 ∷ fixed 2 terminal.ClosingRound 3 ∷ [])
    ((record { check = ClosesAnother; begin = 2; end = 3; opening = 1 }) ∷ found_at NeverClosed 0 1 ∷ [])
    × Finds (codes "($)") (fixed 0 terminal.OpeningRound 1 ∷ Fault ∷ fixed 2 terminal.ClosingRound 3 ∷ []) []
unfolding finding open_brackets
brackets = (refl, refl, refl, refl, refl)

numbers : (value more : Integer) → Finds (codes "0o8") (spanned 0 (grammar.Int value) 1 ∷ spanned 1 (grammar.Identifier (codes "o8")) 3 ∷ []) (found_at NumberBeforeWord 0 3 ∷ [])
    × Finds (codes "01a") (Fault ∷ spanned 0 (grammar.Int value) 2 ∷ spanned 2 (grammar.Identifier (codes "a")) 3 ∷ []) []
    × Finds (codes "1if") (spanned 0 (grammar.Int value) 1 ∷ fixed 1 terminal.If 3 ∷ []) (found_at NumberBeforeWord 0 3 ∷ [])
    × Finds (codes "1 if") (spanned 0 (grammar.Int value) 1 ∷ fixed 2 terminal.If 4 ∷ []) []
    × Finds (codes "1.2.3") (spanned 0 (grammar.Float (codes "1.2")) 3 ∷ spanned 3 (grammar.Float (codes ".3")) 5 ∷ []) (found_at NumberBeforeWord 0 5 ∷ [])
    × Finds (codes "1$2") (spanned 0 (grammar.Int value) 1 ∷ Fault ∷ spanned 2 (grammar.Int more) 3 ∷ []) []
unfolding finding open_brackets
numbers value more = (refl, refl, refl, refl, refl, refl)

markers : Finds (codes "<<<<<<< a") (fixed 0 terminal.LessLess 2 ∷ []) (found_at MergeMarker 0 7 ∷ [])
    × Finds (codes "\n=======") (fixed 1 terminal.EqualEqual 3 ∷ []) (found_at MergeMarker 1 8 ∷ [])
    × Finds (codes ">>>>>>>\n") (Fault ∷ fixed 0 terminal.GreaterGreater 2 ∷ []) (found_at MergeMarker 0 7 ∷ [])
    × Finds (codes "<<<<<< a") (fixed 0 terminal.LessLess 2 ∷ []) []
    × Finds (codes "<<<<<<<<") (fixed 0 terminal.LessLess 2 ∷ []) []
    × Finds (codes "<<<<<<<a") (fixed 0 terminal.LessLess 2 ∷ []) []
    × Finds (codes " =======") (fixed 1 terminal.EqualEqual 3 ∷ []) []
unfolding finding open_brackets
markers = (refl, refl, refl, refl, refl, refl, refl)

fstrings : (value : Integer) → Finds (codes "f\"{\n1}\"") (spanned 0 (fstring false) 2 ∷ spanned 2 grammar.FStringExprStart 3 ∷ spanned 4 (grammar.Int value) 5 ∷ spanned 5 grammar.FStringExprEnd 6 ∷ spanned 6 grammar.FStringEnd 7 ∷ []) (found_at FStringLineEnd 2 6 ∷ [])
    × Finds (codes "f\"\"\"{\n1}\"\"\"") (spanned 0 (fstring true) 4 ∷ spanned 4 grammar.FStringExprStart 5 ∷ spanned 6 (grammar.Int value) 7 ∷ spanned 7 grammar.FStringExprEnd 8 ∷ spanned 8 grammar.FStringEnd 11 ∷ []) []
    × Finds (codes "f\"{1}\"\n)") (spanned 0 (fstring false) 2 ∷ spanned 2 grammar.FStringExprStart 3 ∷ spanned 3 (grammar.Int value) 4 ∷ spanned 4 grammar.FStringExprEnd 5 ∷ spanned 5 grammar.FStringEnd 6 ∷ spanned 6 grammar.Newline 7 ∷ fixed 7 terminal.ClosingRound 8 ∷ []) (found_at ClosesNothing 7 8 ∷ [])
    × Finds (codes "(f\"{)}\"") (fixed 0 terminal.OpeningRound 1 ∷ spanned 1 (fstring false) 3 ∷ spanned 3 grammar.FStringExprStart 4 ∷ fixed 4 terminal.ClosingRound 5 ∷ spanned 5 grammar.FStringExprEnd 6 ∷ spanned 6 grammar.FStringEnd 7 ∷ []) (found_at ClosesNothing 4 5 ∷ found_at NeverClosed 0 1 ∷ [])
    × Finds (codes "f\"{(}{1}\"") (spanned 0 (fstring false) 2 ∷ spanned 2 grammar.FStringExprStart 3 ∷ fixed 3 terminal.OpeningRound 4 ∷ fixed 4 terminal.ClosingCurly 5 ∷ spanned 5 grammar.FStringExprStart 6 ∷ spanned 6 (grammar.Int value) 7 ∷ fixed 7 terminal.ClosingCurly 8 ∷ spanned 8 grammar.FStringEnd 9 ∷ []) ((record { check = ClosesAnother; begin = 4; end = 5; opening = 3 }) ∷ [])
    × Finds (codes "f\"{a") (spanned 0 (fstring false) 2 ∷ spanned 2 grammar.FStringExprStart 3 ∷ spanned 3 (grammar.Identifier (codes "a")) 4 ∷ []) (found_at NeverClosed 2 3 ∷ [])
unfolding finding open_brackets
fstrings value = (refl, refl, refl, refl, refl, refl)
