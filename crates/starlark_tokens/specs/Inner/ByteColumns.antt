-- Columns in bytes that are known of a text.
use Rattle.std.specs.Prelude.{◌≡◌, length}
use Rattle.std.specs.List.{All}
use Rattle.std.specs.Str.{IsCharBoundary, IsUtf8}
use Rattle.starlark_base.specs.Places.{Text}
use Rattle.starlark_tokens.specs.OutputFormats.ItemLines.{line_front}
use Rattle.starlark_tokens.specs.declared.told_faults.byte_columns.ByteColumn.{ByteColumn}
use Rattle.starlark_tokens.specs.declared.told_faults.byte_columns.ByteColumns.{ByteColumns}

-- the column of a character boundary of the text
pub record IsColumn (text : Text) (column : ByteColumn) : Type 0 where
  pub boundary : IsCharBoundary text column.at
  pub is : column.column ≡ length (line_front text column.at)

-- each is a column of the text, which is UTF-8
pub record AreColumns (columns : ByteColumns) : Type 0 where
  pub utf8 : IsUtf8 columns.text.now
  pub each : All (IsColumn columns.text.now) columns.known.items
