-- What stands between lexemes.
use Rattle.std.specs.Prelude.{◌≡◌, ◌≤◌, ◌<◌, ℕ, Bool, true, ◌&&◌, ◌||◌, ◌==◌, List, [], ◌∷◌, drop}
use Rattle.std.specs.Str.{byte}
use Rattle.starlark_grammar.specs.Words.{Text}
use Rattle.starlark_grammar.specs.Tokens.{Lexeme}
use Rattle.starlark_grammar.specs.Margins.{begins_with_line_end, is_blank, is_lf}

-- What may stand between lexemes: a space, a tab, a CR, an LF, or a backslash right before a line end.
unfoldable pub is_gap_byte : Text → Bool
is_gap_byte [] = true
is_gap_byte (b ∷ bs) = is_blank b || is_lf b || (b == byte "\\" && begins_with_line_end bs)

-- nothing else stands from a place of a text to another
abbrev pub IsGap : Text → ℕ → ℕ → Type 0
IsGap text from to = (at : ℕ) → from ≤ at → at < to → is_gap_byte (drop at text) ≡ true

-- Lexemes are in order from a place to another, and nothing but gaps stands before, between and after them.
abbrev pub InOrder : Text → ℕ → List Lexeme → ℕ → Type 0
InOrder text from [] to = (from ≤ to) × IsGap text from to
InOrder text from (lexeme ∷ lexemes) to =
    (from ≤ lexeme.begin) × (lexeme.begin ≤ lexeme.end) × IsGap text from lexeme.begin × InOrder text lexeme.end lexemes to
