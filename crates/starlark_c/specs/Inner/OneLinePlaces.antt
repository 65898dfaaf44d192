-- The place after a text of one line.
use Rattle.std.specs.Prelude.{◌+◌, count_by, length}
use Rattle.std.specs.Str.{chars}
use Rattle.starlark_base.specs.Positions.{starts_pair}
use Rattle.starlark_c.specs.Endings.{capped}
use Rattle.starlark_c.specs.declared.places.PlaceRecord.{PlaceRecord}
use Rattle.starlark_grammar.specs.Words.{Text}

-- the place after a text that begins at a place, and that is of one line
abbrev pub place_on_line : PlaceRecord → Text → PlaceRecord
place_on_line begin line = record {
  line = begin.line;
  column = capped (begin.column + length (chars line));
  utf16_column = capped (begin.utf16_column + (length (chars line) + count_by starts_pair line));
}
