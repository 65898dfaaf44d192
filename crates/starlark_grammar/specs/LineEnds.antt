-- Texts with each LF written as CR LF, and the raw texts that this changes.
use Rattle.std.specs.Prelude.{Bool, true, false, ◌&&◌, ◌||◌, ◌==◌, not, if◌then◌else◌, nat_eq, List, [], ◌∷◌, ℕ, take, drop, codes, flat_map, Option, Some}
use Rattle.std.specs.List.{starts_with}
use Rattle.std.specs.Str.{byte}
use Rattle.starlark_grammar.specs.Words.{Text}
use Rattle.starlark_grammar.specs.declared.class.Class.{Class}
use Rattle.starlark_grammar.specs.declared.class.LiteralKind.TheVariants.{FString as OfFString}
use Rattle.starlark_grammar.specs.declared.class.Class.TheVariants.{Opener}
use Rattle.starlark_grammar.specs.Front.{language_front}
use Rattle.starlark_grammar.specs.Depths.{Mode, InText}
use Rattle.starlark_grammar.specs.Margins.{is_lf}
use Rattle.starlark_grammar.specs.Pieces.{Piece}
use Rattle.starlark_grammar.specs.Reading.{History, after, situation}

-- a text with each LF written as CR LF
abbrev pub crlf_form : Text → Text
crlf_form = flat_map (λ b. if is_lf b then codes "\r\n" else b ∷ [])

-- whether a backslash stands right before an LF
abbrev pub holds_escaped_newline : Text → Bool
holds_escaped_newline [] = false
holds_escaped_newline (b ∷ bs) = (b == byte "\\" && starts_with nat_eq bs (codes "\n")) || holds_escaped_newline bs

-- the opener of a raw literal
abbrev pub opens_raw : Option (Class × ℕ) → Bool
opens_raw (Some (Opener OfFString is_raw quote, len)) = false
opens_raw (Some (Opener kind is_raw quote, len)) = is_raw
opens_raw front = false

-- whether a raw literal, or the text of a raw f-string, stands at a place
abbrev pub is_raw_in : Mode → Text → Bool
is_raw_in (InText opening) text = opening.is_raw
is_raw_in mode text = opens_raw (language_front text)

-- No piece that is a raw literal or the text of a raw f-string has a backslash right before an LF.
unfoldable pub no_raw_newline : History → Text → List Piece → Bool
no_raw_newline history text [] = true
no_raw_newline history text (piece ∷ pieces) =
    not (is_raw_in (situation history).mode text && holds_escaped_newline (take piece.len text)) && no_raw_newline (after history piece) (drop piece.len text) pieces
