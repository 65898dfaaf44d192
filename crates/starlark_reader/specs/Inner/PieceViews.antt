-- The pieces of the code, as the grammar sees them.
use Rattle.std.specs.Prelude.{◌≡◌, ◌<◌, ℕ, Bool, true, false, []}
use Rattle.starlark_grammar.specs.AfterFaults.{line_end_len}
use Rattle.starlark_grammar.specs.Depths.{Mode, InText}
use Rattle.starlark_grammar.specs.Tokens.{Token, FStringExprStart, FStringEnd}
use Rattle.starlark_grammar.specs.Words.{Text}
use Rattle.starlark_grammar.specs.Pieces as grammar

-- a piece without lexemes: a gap, or a newline that doesn't count
abbrev pub nothing_of : ℕ → Bool → grammar.Step
nothing_of len true = grammar.gap len
nothing_of len false = grammar.piece len []

-- the token that ends a text of an f-string: an expression begins, or the f-string ends
abbrev pub text_end : Bool → Token
text_end true = FStringExprStart
text_end false = FStringEnd

-- the text begins with a line end of `len` bytes
abbrev pub IsLineEnd : ℕ → Text → Type 0
IsLineEnd len text = (0 < len) × (line_end_len text ≡ len)

-- something was read before, and `follows_gap` says whether a skipped piece was the last
abbrev pub IsAfter : Bool → grammar.Before → Type 0
IsAfter follows_gap grammar.Nothing = ⊥
IsAfter follows_gap grammar.Layout = follows_gap ≡ false
IsAfter follows_gap grammar.Gap = follows_gap ≡ true
IsAfter follows_gap grammar.Other = follows_gap ≡ false

-- whether a mode is code or an f-string expression, and not f-string text
abbrev pub is_code : Mode → Bool
is_code (InText opening) = false
is_code mode = true
