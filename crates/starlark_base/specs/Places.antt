-- Lines and columns, and how they are printed. Both count from 0 and are printed from 1.
use Rattle.std.specs.Prelude.{◌≡◌, ◌<◌, ℕ, ◌+◌, Bool, ◌==◌, if◌then◌else◌, ◌⊎◌, ◌++◌, length, take, count_by, codes}
use Rattle.std.specs.List.{after_last}
use Rattle.std.specs.Str.{chars}
use Rattle.std.specs.Fmt.{decimal}
use Rattle.starlark_base.specs.Spans.{ByteSpan}
pub use Rattle.starlark_base.specs.Spans.{Text}
use Rattle.starlark_base.specs.declared.codemap.resolved.ResolvedPos.{ResolvedPos}
use Rattle.starlark_base.specs.declared.codemap.resolved.ResolvedSpan.{ResolvedSpan}

-- LF
abbrev pub is_lf : ℕ → Bool
is_lf b = b == 10

-- the line and column after the first part of a text: how many LF it has, and how many characters
-- are after the last of them
unfoldable pub place_after : Text → ResolvedPos
place_after front =
    record { line = count_by is_lf front; column = length (chars (after_last is_lf front)) }

-- the line and column of a byte offset
abbrev pub place_at : Text → ℕ → ResolvedPos
place_at text at = place_after (take at text)

-- the lines and columns of the two ends of a span
abbrev pub resolved : Text → ByteSpan → ResolvedSpan
resolved text span = record { begin = place_at text span.begin; end = place_at text span.end }

-- one line and column is before another
abbrev pub StandsBefore : ResolvedPos → ResolvedPos → Type 0
StandsBefore a b = (a.line < b.line) ⊎ ((a.line ≡ b.line) × (a.column < b.column))

-- `line:column`
abbrev pub place_text : ResolvedPos → Text
place_text p = decimal (p.line + 1) ++ codes ":" ++ decimal (p.column + 1)

-- `line:column` if both are equal, `line:column-column` if both are on one line, or else
-- `line:column-line:column`
unfoldable pub span_text : ResolvedPos → ResolvedPos → Text
span_text begin end =
    if begin.line == end.line
    then (if begin.column == end.column then place_text begin else place_text begin ++ codes "-" ++ decimal (end.column + 1))
    else place_text begin ++ codes "-" ++ place_text end
