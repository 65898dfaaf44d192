-- How many columns of a terminal a character takes.
use Rattle.std.specs.Prelude.{ℕ, Bool, ◌&&◌, nat_le, nat_lt, if◌then◌else◌, List}
use Rattle.std.specs.List.{list_any}
use Rattle.starlark_tokens.specs.declared.output_formats.character_widths.table.TheConstants.{COMBINING, WIDE}

-- a number is in one of some ranges
abbrev pub is_in : List (ℕ × ℕ) → ℕ → Bool
is_in ranges number = list_any (λ range. nat_le range.0 number && nat_le number range.1) ranges

-- none where it combines with the one before it, two where it is wide, else one
unfoldable pub width : ℕ → ℕ
width c = if nat_lt c 0x300 then 1 else (if is_in COMBINING.now c then 0 else (if is_in WIDE.now c then 2 else 1))
