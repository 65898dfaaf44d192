-- Comments that leave out faults of their line: `# starlark: ignore` all, `# starlark: ignore[SL007]` those of some codes.
-- Such a comment is what follows the last `#` of the line, also where that `#` is in a string.
use Rattle.std.specs.Prelude.{ℕ, ◌+◌, ◌-◌, Bool, not, ◌&&◌, ◌||◌, ◌==◌, if◌then◌else◌, List, [], codes, drop, length, take}
use Rattle.std.specs.List.{flat_map, suffix_len}
use Rattle.starlark_base.specs.Places.{Text}
use Rattle.starlark_tokens.specs.CommandLine.CommandWords.{begins_with, is_same}
use Rattle.starlark_tokens.specs.Files.FileNames.{ends_with}
use Rattle.starlark_tokens.specs.Files.NameLists.{names_between}
use Rattle.starlark_tokens.specs.OutputFormats.ItemLines.{without_cr}
use Rattle.starlark_tokens.specs.OutputFormats.SourceLines.{ends_line, near_back}
use Rattle.starlark_tokens.specs.ToldFaults.Filters.{begins_with_any}

-- how many bytes are after the last `#` of a text; all where it has none
abbrev pub comment_len : Text → ℕ
comment_len text = suffix_len (λ b. not (b == 35)) text

-- what follows the last `#` of a text; nothing where it has none
abbrev pub last_comment : Text → Text
last_comment text = let begin = length text - comment_len text in if begin == 0 then [] else drop begin text

-- the codes of a list, or what they begin with, between commas and spaces
abbrev pub codes_in : Text → List Text
codes_in list = flat_map (names_between 44) (names_between 32 list)

-- a list that a bracket closes has a code
abbrev pub is_listed : (list code : Text) → Bool
is_listed list code = ends_with (codes "]") list && begins_with_any (codes_in (take (length list - 1) list)) code

-- a comment leaves out faults of a code
abbrev pub leaves_out : (comment code : Text) → Bool
leaves_out comment code =
    is_same comment (codes " starlark: ignore")
    || (begins_with (codes " starlark: ignore[") comment && is_listed (drop 18 comment) code)

-- a comment leaves out faults of a code that are shown at an offset: it ends their line, at most 1024 bytes after them
unfoldable pub is_ignored : Text → (at : ℕ) → (code : Text) → Bool
is_ignored text at code =
    ends_line text (at + length (near_back 1024 text at)) && leaves_out (last_comment (without_cr (near_back 1024 text at))) code
