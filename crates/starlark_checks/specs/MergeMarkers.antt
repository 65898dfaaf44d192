-- The lines that a merge leaves where it finds a conflict.
use Rattle.std.specs.Prelude.{ℕ, ◌+◌, ◌-◌, Bool, true, false, ◌&&◌, ◌||◌, ◌==◌, if◌then◌else◌, drop, Option, Some, None}
use Rattle.std.specs.List.{prefix_len, slice_get}
use Rattle.starlark_grammar.specs.Words.{Text}
use Rattle.starlark_checks.specs.declared.check.Check.TheVariants.{MergeMarker}
use Rattle.starlark_checks.specs.declared.check.Finding.{Finding}
use Rattle.starlark_checks.specs.OpenStack.{found_at}

abbrev pub is_byte : ℕ → Option ℕ → Bool
is_byte byte None = false
is_byte byte (Some b) = b == byte

-- a line begins at an offset: it is 0, or right after an LF
abbrev pub begins_line : Text → ℕ → Bool
begins_line text at = at == 0 || is_byte 10 (slice_get text (at - 1))

-- a space, a CR, an LF, or the end of the text
abbrev pub marker_ends : Option ℕ → Bool
marker_ends None = true
marker_ends (Some b) = b == 32 || b == 13 || b == 10

-- a line that begins with exactly seven of a byte, and then a space or its end
abbrev pub is_marker : Text → (byte : ℕ) → Bool
is_marker line byte = prefix_len (λ b. b == byte) line == 7 && marker_ends (slice_get line 7)

-- the merge marker of a byte at an offset of a text, if one is there
abbrev pub marker_at : Text → (begin byte : ℕ) → Option Finding
marker_at text begin byte = if begins_line text begin && is_marker (drop begin text) byte then Some (found_at MergeMarker begin (begin + 7)) else None
