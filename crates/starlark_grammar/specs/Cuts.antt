-- Clean cuts, kept cuts, and joined texts.
use Rattle.std.specs.Prelude.{ℕ, ◌-◌, Bool, true, false, ◌&&◌, ◌==◌, if◌then◌else◌, nat_eq, nat_le, List, [], ◌∷◌, ◌++◌, map, length, take, codes, Option, Some, None}
use Rattle.std.specs.List.{ends_with}
use Rattle.starlark_grammar.specs.Words.{Text, Table, language}
use Rattle.starlark_grammar.specs.Tokens.{Token, Newline, Lexeme, moved, InvalidTab, Outcome}
use Rattle.starlark_grammar.specs.Depths.{mode_after, is_balanced, is_outside}
use Rattle.starlark_grammar.specs.Margins.{open_widths}
use Rattle.starlark_grammar.specs.Pieces.{Before, Layout, Step, Fails}
use Rattle.starlark_grammar.specs.Reading.{History, nothing, after_all, Reading, read, pieces_len}

abbrev pub is_layout : Before → Bool
is_layout Layout = true
is_layout before = false

-- no bracket, f-string or width is open, and a margin was the last that was read
unfoldable pub is_settled : History → Bool
is_settled history =
    is_layout history.before && is_outside (mode_after history.tokens) && is_balanced history.tokens && length (open_widths history.widths) == 0

abbrev pub is_faultless : Step → Bool
is_faultless (Fails fault) = false
is_faultless step = true

-- A clean cut: a text without fault, settled at its end, whose last byte is an LF. That LF is then in a line end that
-- counts, or it ends a comment-only line.
unfoldable pub is_clean_cut_in : Table → Text → Bool
is_clean_cut_in table text = go (read table text)
  where
    go : Reading → Bool
    go reading = is_faultless reading.last && is_settled (after_all nothing reading.pieces) && ends_with nat_eq text (codes "\n")

unfoldable pub is_clean_cut : Text → Bool
is_clean_cut = is_clean_cut_in language

-- the lexemes of a clean cut without the closing `Newline`
abbrev pub without_closing : List Lexeme → List Lexeme
without_closing lexemes = take (length lexemes - 1) lexemes

-- the lexemes of a text of so many bytes without the closing `Newline`, and then those of another, moved along
abbrev pub joined : ℕ → List Lexeme → List Lexeme → List Lexeme
joined len first second = without_closing first ++ map (moved len) second

abbrev pub is_newline : Token → Bool
is_newline Newline = true
is_newline token = false

-- the lexemes before the last `Newline`, and where that begins
abbrev pub before_newline : List Lexeme → Option (List Lexeme × ℕ)
before_newline [] = None
before_newline (lexeme ∷ lexemes) = by (before_newline lexemes)
  where
    by : Option (List Lexeme × ℕ) → Option (List Lexeme × ℕ)
    by (Some found) = Some (lexeme ∷ found.0, found.1)
    by None = if is_newline lexeme.node then Some ([], lexeme.begin) else None

-- What a text of so many bytes and these lexemes, without its closing `Newline`, becomes where a tab follows in the
-- margin after it. The last `Newline` is taken back with all that follows it. Where there is none the text was
-- comments alone, and those of the margin come after them.
abbrev pub tabbed : ℕ → List Lexeme → List Lexeme → Outcome
tabbed len lexemes comments = by (before_newline lexemes)
  where
    by : Option (List Lexeme × ℕ) → Outcome
    by (Some found) = record { lexemes = found.0; fault = Some (record { begin = found.1; node = InvalidTab; end = found.1 }) }
    by None = record { lexemes = lexemes ++ map (moved len) comments; fault = Some (record { begin = 0; node = InvalidTab; end = 0 }) }

-- A kept cut: a clean cut of the text in front of it, no further than the pieces of the text reach. A margin that is
-- a fault is no piece, and neither is the line end before it.
unfoldable pub is_kept_cut : Text → ℕ → Bool
is_kept_cut text at = nat_le at (pieces_len (read language text).pieces) && is_clean_cut (take at text)
