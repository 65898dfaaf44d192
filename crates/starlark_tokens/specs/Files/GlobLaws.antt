-- Laws of globs.
use Rattle.std.specs.Prelude.{◌≡◌, ℕ, Bool, true, false, ◌==◌, ◌||◌, not, List, [], ◌∷◌, codes}
use Rattle.std.specs.List.{list_all}
use Rattle.starlark_base.specs.Places.{Text}
use Rattle.starlark_tokens.specs.CommandLine.CommandWords.{is_same}
use Rattle.starlark_tokens.specs.Files.Globs.{fits, fits_names, last_name}

-- the byte isn't `*`, `?`, `[` or `\`
abbrev pub is_plain : ℕ → Bool
is_plain byte = not (byte == 42 || byte == 63 || byte == 91 || byte == 92)

-- a glob of plain bytes stands for the name that has these bytes, and for no other one
abbrev pub PlainGlobsAreNames : Type 0
PlainGlobsAreNames = (glob name : Text) → list_all is_plain glob ≡ true → fits glob name ≡ is_same glob name

-- a glob after `**/` stands for a path where it stands for its last name
abbrev pub DeepGlobsAreOfLastNames : Type 0
DeepGlobsAreOfLastNames = (glob name : Text) (names : List Text) → is_same glob (codes "**") ≡ false
    → fits_names (codes "**" ∷ glob ∷ []) (name ∷ names) ≡ fits_names (glob ∷ []) (last_name (name ∷ names))
