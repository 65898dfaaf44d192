-- The part of a line of the source that is shown around an offset: some bytes on each side.
use Rattle.std.specs.Prelude.{ℕ, ◌+◌, ◌-◌, min, Bool, not, ◌||◌, ◌==◌, length, take, drop, slice_index}
use Rattle.std.specs.List.{prefix_len}
use Rattle.starlark_base.specs.Places.{Text, is_lf}
use Rattle.starlark_text.specs.Characters.{starts_character}
use Rattle.starlark_tokens.specs.OutputFormats.ItemLines.{line_back, line_front}

-- the first offset from one on that a character begins at, or the text's end
abbrev pub boundary_from : Text → ℕ → ℕ
boundary_from text at = min (length text) (at + prefix_len (λ b. not (starts_character b)) (drop at text))

-- the line before an offset, of the bytes from another on
abbrev pub front_from : (from : ℕ) → Text → ℕ → Text
front_from from text at = line_front (drop from text) (at - from)

-- the line before an offset, of the last `room` bytes
abbrev pub near_front : (room : ℕ) → Text → ℕ → Text
near_front room text at = front_from (boundary_from text (at - room)) text at

-- the line from an offset on, of the next `room` bytes, and the rest of a character
abbrev pub near_back : (room : ℕ) → Text → ℕ → Text
near_back room text at = line_back (take (boundary_from text (at + room)) text) at

-- the room on one side: what the other side leaves is added
abbrev pub room_beside : (side len : ℕ) → ℕ
room_beside side len = side + (side - len)

-- what is shown before an offset
unfoldable pub shown_front : (side : ℕ) → Text → ℕ → Text
shown_front side text at = near_front (room_beside side (length (near_back side text at))) text at

-- what is shown from an offset on
unfoldable pub shown_back : (side : ℕ) → Text → ℕ → Text
shown_back side text at = near_back (room_beside side (length (shown_front side text at))) text at

abbrev pub begins_line : Text → ℕ → Bool
begins_line text at = at == 0 || is_lf (slice_index text (at - 1))

abbrev pub ends_line : Text → ℕ → Bool
ends_line text at = at == length text || is_lf (slice_index text at)

-- the line begins before what is shown
unfoldable pub is_cut_before : (side : ℕ) → Text → ℕ → Bool
is_cut_before side text at = not (begins_line text (at - length (shown_front side text at)))

-- the line goes on after what is shown
unfoldable pub is_cut_after : (side : ℕ) → Text → ℕ → Bool
is_cut_after side text at = not (ends_line text (at + length (shown_back side text at)))
