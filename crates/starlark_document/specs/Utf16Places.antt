-- Places of a text: lines, columns in characters, and columns in units of UTF-16.
use Rattle.std.specs.Prelude.{◌≡◌, ℕ, ◌+◌}
use Rattle.std.specs.Str.{IsCharBoundary}
use Rattle.starlark_base.specs.Places.{place_at}
use Rattle.starlark_document.specs.declared.line_places.Place.{Place}
use Rattle.starlark_grammar.specs.Words.{Text}
use Rattle.starlark_base.specs.Positions.{pairs_before}

-- The place of an offset. Its column in units of UTF-16 has one unit for each character before it on its line, and one more
-- for each of those that takes two.
abbrev pub place_of : Text → ℕ → Place
place_of text at = record {
  line = (place_at text at).line;
  column = (place_at text at).column;
  utf16_column = (place_at text at).column + pairs_before text at;
}

-- an offset is a character boundary on a line, at a column in units of UTF-16
pub record StandsAt (text : Text) (on at_column at : ℕ) : Type 0 where
  pub boundary : IsCharBoundary text at
  pub line : (place_of text at).line ≡ on
  pub column : (place_of text at).utf16_column ≡ at_column
