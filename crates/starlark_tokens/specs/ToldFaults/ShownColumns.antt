-- Columns of faults, counted in characters, bytes or units of UTF-16.
use Rattle.std.specs.Prelude.{ℕ, ◌+◌, ◌-◌, ◌^◌, length, min}
use Rattle.starlark_base.specs.Places.{Text, place_at}
use Rattle.starlark_base.specs.Positions.{pairs_before}
use Rattle.starlark_base.specs.declared.position.Position.{Position}
use Rattle.starlark_tokens.specs.OutputFormats.ItemLines.{line_front}
use Rattle.starlark_tokens.specs.declared.output_formats.form.Columns.{Columns}
use Rattle.starlark_tokens.specs.declared.output_formats.form.Columns.TheVariants.{Characters, Bytes, Utf16}

-- the column of an offset, from 0
abbrev pub column_in : Columns → Text → (at : ℕ) → ℕ
column_in Characters text at = (place_at text at).column
column_in Bytes text at = length (line_front text at)
column_in Utf16 text at = min ((place_at text at).column + pairs_before text at) (2 ^ 64 - 1)

-- the position of an offset, with its column counted so
abbrev pub position_in : Columns → Text → (at : ℕ) → Position
position_in columns text at = record {
  at = at;
  place = record { line = (place_at text at).line; column = column_in columns text at };
  pairs = pairs_before text at;
}
