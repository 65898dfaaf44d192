-- Sources of a run, and what reading one gives.
use Rattle.std.specs.Prelude.{◌≡◌, ◌<◌, ℕ, ⊤, ◌++◌, codes, Result, Ok, Err, length, slice_index, string_bytes}
use Rattle.std.specs.Str.{IsValidUpTo}
use Rattle.starlark_base.specs.Places.{Text, place_at, place_text}
use Rattle.starlark_base.specs.declared.codemap.resolved.ResolvedPos.{ResolvedPos}
use Rattle.starlark_run.specs.Output.{hex_pair}
use Rattle.starlark_run.specs.declared.ends.TheConstants.{GREATEST_LEN}
use Rattle.starlark_tokens.specs.declared.files.sources.Source.{Source}
use Rattle.starlark_tokens.specs.declared.files.sources.Source.TheVariants.{Input, File}
use Rattle.starlark_tokens.specs.declared.files.sources.SourceFault.{SourceFault}
use Rattle.starlark_tokens.specs.declared.files.sources.SourceFault.TheVariants.{Unreadable, TooLong, NotUtf8}
use Rattle.std.specs.declared.string.String.{String}

-- the name by which a source is reported
abbrev pub name_of : Source → Text
name_of (Input name) = string_bytes name
name_of (File name) = string_bytes name

-- what reading a source gave: its text, or why it has none
abbrev pub text_in : {A : Type 0} → Result (String A) SourceFault → Result Text SourceFault
text_in (Ok text) = Ok (string_bytes text)
text_in (Err fault) = Err fault

-- the first byte of a text from which on it isn't UTF-8, and its place
pub record IsBadByte (text : Text) (byte : ℕ) (place : ResolvedPos) : Type 0 where
  pub at : ℕ
  pub is_first : IsValidUpTo text at
  pub is_byte : byte ≡ slice_index text at
  pub is_place : place ≡ place_at text at

-- Why a source with these bytes has no text. Nothing is said of one that can't be read.
abbrev pub HasFault : (bytes : Text) → SourceFault → Type 0
HasFault bytes (Unreadable error) = ⊤
HasFault bytes TooLong = GREATEST_LEN < length bytes
HasFault bytes (NotUtf8 byte place) = IsBadByte bytes byte place

-- that a byte isn't UTF-8, and its place
unfoldable pub bad_byte_text : (byte : ℕ) → ResolvedPos → Text
bad_byte_text byte place = codes "not UTF-8: byte 0x" ++ (hex_pair byte ++ (codes " at " ++ place_text place))

-- Why a source has no text, in words. Of one that can't be read they are the system's.
abbrev pub IsReason : SourceFault → (reason : Text) → Type 0
IsReason (Unreadable error) reason = ⊤
IsReason TooLong reason = reason ≡ codes "longer than 4294967295 bytes"
IsReason (NotUtf8 byte place) reason = reason ≡ bad_byte_text byte place
