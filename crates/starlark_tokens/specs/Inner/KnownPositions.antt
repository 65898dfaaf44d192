-- Positions that are known of a text.
use Rattle.std.specs.List.{All}
use Rattle.std.specs.Str.{IsUtf8}
use Rattle.starlark_base.specs.Positions.{IsPosition}
use Rattle.starlark_tokens.specs.declared.told_faults.known_positions.KnownPositions.{KnownPositions}

-- each is a position of the text, which is UTF-8
pub record AreKnown (known_positions : KnownPositions) : Type 0 where
  pub utf8 : IsUtf8 known_positions.text.now
  pub each : All (IsPosition known_positions.text.now) known_positions.known.items
