-- Lines and columns of an offset, as a plain record.
use Rattle.std.specs.Prelude.{◌≡◌, ◌<◌, ◌≤◌, ◌+◌, ◌⊎◌, ℕ, Bool, true, false, length, take}
use Rattle.std.specs.List.{slice_range}
use Rattle.std.specs.Str.{IsUtf8}
use Rattle.starlark_base.specs.Places.{place_after}
use Rattle.starlark_base.specs.Positions.{pairs_in_line}
use Rattle.starlark_c.specs.declared.places.PlaceRecord.{PlaceRecord}
use Rattle.starlark_grammar.specs.Words.{Text}

-- the line and columns after the first part of a text: in characters, and in units of UTF-16, of which some characters
-- take one more
abbrev pub place_record : Text → PlaceRecord
place_record front = record {
  line = (place_after front).line;
  column = (place_after front).column;
  utf16_column = (place_after front).column + pairs_in_line front;
}

-- two offsets of some bytes, in order, with characters between
pub record AreCharacters (text : Text) (from to : ℕ) : Type 0 where
  pub order : from ≤ to
  pub inside : to ≤ length text
  pub utf8 : IsUtf8 (slice_range text from to)

-- the bytes up to an offset are characters, and the record is the place after them
pub record IsPlaceOf (text : Text) (at : ℕ) (place : PlaceRecord) : Type 0 where
  pub utf8 : IsUtf8 (take at text)
  pub is : place ≡ place_record (take at text)

-- whether the place of an offset was told: the text has it, and is UTF-8 up to there
abbrev pub TellsPlace : Text → (at : ℕ) → (before after : PlaceRecord) → Bool → Type 0
TellsPlace text at before after true = (at ≤ length text) × IsPlaceOf text at after
TellsPlace text at before after false = ((length text < at) ⊎ (¬ IsUtf8 (take at text))) × (after ≡ before)

-- Whether a record was moved from an offset to a later one. Where it was the place of the first, it is that of the later.
abbrev pub MovesPlace : Text → (from to : ℕ) → (before after : PlaceRecord) → Bool → Type 0
MovesPlace text from to before after true = AreCharacters text from to × (IsPlaceOf text from before → IsPlaceOf text to after)
MovesPlace text from to before after false = (¬ AreCharacters text from to) × (after ≡ before)
