-- Positions in a text: lines and columns, and columns in units of UTF-16.
use Rattle.std.specs.Prelude.{◌≡◌, ℕ, ◌+◌, Bool, nat_le, count_by, take}
use Rattle.std.specs.List.{after_last}
use Rattle.std.specs.Str.{IsCharBoundary}
use Rattle.starlark_base.specs.Places.{Text, is_lf, place_at}
use Rattle.starlark_base.specs.declared.position.Position.{Position}

-- the first byte of a character that takes two units of UTF-16: it has four bytes
abbrev pub starts_pair : ℕ → Bool
starts_pair byte = nat_le 240 byte

-- how many characters of two units are after the last LF of a text
abbrev pub pairs_in_line : Text → ℕ
pairs_in_line front = count_by starts_pair (after_last is_lf front)

-- how many characters of two units are before an offset on its line
abbrev pub pairs_before : Text → ℕ → ℕ
pairs_before text at = pairs_in_line (take at text)

-- the position of an offset
abbrev pub position_at : Text → ℕ → Position
position_at text at = record { at = at; place = place_at text at; pairs = pairs_before text at }

-- the column of a position in units of UTF-16, from 0: one unit a character, and one more a pair
abbrev pub utf16_column : Position → ℕ
utf16_column position = position.place.column + position.pairs

-- the position is that of a character boundary of the text
pub record IsPosition (text : Text) (position : Position) : Type 0 where
  pub boundary : IsCharBoundary text position.at
  pub known : position ≡ position_at text position.at
