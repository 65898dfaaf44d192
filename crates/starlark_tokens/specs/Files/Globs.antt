-- Globs: patterns of paths, as `.gitignore` has them.
use Rattle.std.specs.Prelude.{ℕ, zero, suc, ◌+◌, ◌-◌, Bool, true, false, nat_le, nat_lt, ◌==◌, ◌&&◌, ◌||◌, not, if◌then◌else◌, List, [], ◌∷◌, codes, drop, filter, length, slice_index, take}
use Rattle.std.specs.List.{list_any}
use Rattle.starlark_base.specs.Places.{Text}
use Rattle.starlark_tokens.specs.CommandLine.CommandWords.{is_same}
use Rattle.starlark_tokens.specs.Files.NameLists.{names_between}

-- some end of a list passes a test: all of it, a part of it, or nothing
abbrev pub some_end : {A : Type 0} → (List A → Bool) → List A → Bool
some_end test [] = test []
some_end test (x ∷ xs) = test (x ∷ xs) || some_end test xs

abbrev pub is_empty : {A : Type 0} → List A → Bool
is_empty [] = true
is_empty (x ∷ xs) = false

-- A set of bytes: `[ab]`, `[a-z]`, or `[!a]` for all others.

-- A character of a set: a byte, or a `\` and the byte that it stands before. How many bytes it has, and which byte it is.
abbrev pub character_len : Text → ℕ
character_len set = if slice_index set 0 == 92 then 2 else 1

abbrev pub character : Text → ℕ
character set = slice_index set (character_len set - 1)

-- a set's first character begins a range: a `-` follows, and a character after it
abbrev pub begins_range : Text → Bool
begins_range set = slice_index set (character_len set) == 45 && nat_lt (character_len set + 1) (length set)

-- what follows the first character of a range and its `-`
abbrev pub range_end : Text → Text
range_end set = drop (character_len set + 1) set

-- how many bytes the first item of a set has: a range or a character
abbrev pub item_len : Text → ℕ
item_len set = if begins_range set then character_len set + 1 + character_len (range_end set) else character_len set

-- the first item of a set has a byte: the byte is its first character, or in its range
abbrev pub item_has : Text → (byte : ℕ) → Bool
item_has set byte =
    character set == byte || (begins_range set && nat_le (character set) byte && nat_le byte (character (range_end set)))

-- an item of a set has a byte, of those after the first `skip` bytes
abbrev pub has_after : (skip : ℕ) → (set : Text) → (byte : ℕ) → Bool
has_after skip [] byte = false
has_after (suc skip) (s ∷ set) byte = has_after skip set byte
has_after zero (s ∷ set) byte = item_has (s ∷ set) byte || has_after (item_len (s ∷ set) - 1) set byte

-- how many bytes are before the first `]` after `skip` bytes that no `\` is before: all where there is none
abbrev pub bracket_after : (skip : ℕ) → Text → ℕ
bracket_after skip [] = 0
bracket_after (suc skip) (g ∷ glob) = 1 + bracket_after skip glob
bracket_after zero (g ∷ glob) = if g == 93 then 0 else 1 + bracket_after (if g == 92 then 1 else 0) glob

-- how many bytes the set has that begins a glob, before its `]`: its first character is no bracket that closes it
abbrev pub set_len : Text → ℕ
set_len glob = bracket_after (character_len glob) glob

-- the set that begins a glob, with its `]`, is closed, and has the byte or not
abbrev pub set_takes : (has : Bool) → (glob : Text) → (byte : ℕ) → Bool
set_takes true glob byte = nat_lt (set_len glob) (length glob) && has_after 0 (take (set_len glob) glob) byte
set_takes false glob byte = nat_lt (set_len glob) (length glob) && not (has_after 0 (take (set_len glob) glob) byte)

-- the set stands for all bytes but its own
abbrev pub is_negated : Text → Bool
is_negated glob = slice_index glob 0 == 33 || slice_index glob 0 == 94

-- Names.

-- how many bytes the first part of a glob has: a set, a `\` and the byte that it stands before, or a byte
abbrev pub part_len : Text → ℕ
part_len [] = 1
part_len (g ∷ glob) =
    if g == 91 then (if is_negated glob then 3 + set_len (drop 1 glob) else 2 + set_len glob) else (if g == 92 then 2 else 1)

-- the first part of a glob, which is no `*`, stands for a byte
abbrev pub takes : (glob : Text) → (byte : ℕ) → Bool
takes [] byte = false
takes (g ∷ glob) byte =
    if g == 91 then (if is_negated glob then set_takes false (drop 1 glob) byte else set_takes true glob byte)
    else (if g == 92 then is_first byte glob else g == 63 || g == byte)
  where
    is_first : ℕ → Text → Bool
    is_first byte [] = false
    is_first byte (g ∷ glob) = g == byte

abbrev pub takes_first : (glob name : Text) → Bool
takes_first glob [] = false
takes_first glob (byte ∷ name) = takes glob byte

-- A glob stands for all of a name, by its parts after `skip` bytes: `*` for any bytes, also for none, each other part for one.
unfoldable pub fits_after : (skip : ℕ) → (glob name : Text) → Bool
fits_after skip [] name = is_empty name
fits_after (suc skip) (g ∷ glob) name = fits_after skip glob name
fits_after zero (g ∷ glob) name =
    if g == 42 then some_end (fits_after 0 glob) name
    else takes_first (g ∷ glob) name && fits_after (part_len (g ∷ glob) - 1) glob (drop 1 name)

abbrev pub fits : (glob name : Text) → Bool
fits glob name = fits_after 0 glob name

-- Paths.

-- the names that a path is made of, between its slashes, without `.`
abbrev pub path_names : Text → List Text
path_names path = filter (λ name. not (is_same name (codes "."))) (names_between 47 path)

abbrev pub fits_first : (globs names : List Text) → Bool
fits_first [] names = false
fits_first (glob ∷ globs) [] = false
fits_first (glob ∷ globs) (name ∷ names) = fits glob name

abbrev pub begins_deep : List Text → Bool
begins_deep [] = false
begins_deep (glob ∷ globs) = is_same glob (codes "**")

-- Globs stand for the names of a path one by one. `**` stands for any number of names, at the end for one or more.
unfoldable pub fits_names : (globs names : List Text) → Bool
fits_names [] names = is_empty names
fits_names (glob ∷ globs) names =
    if begins_deep (glob ∷ globs) then (if is_empty globs then not (is_empty names) else some_end (fits_names globs) names)
    else fits_first (glob ∷ globs) names && fits_names globs (drop 1 names)

-- a glob with a slash before its last byte is one of whole paths, and any other one of last names
abbrev pub is_anchored : Text → Bool
is_anchored glob = list_any (λ byte. byte == 47) (take (length glob - 1) glob)

-- a glob that ends with a slash is one of folders alone
abbrev pub is_of_folders : Text → Bool
is_of_folders glob = slice_index glob (length glob - 1) == 47

abbrev pub last_name : List Text → List Text
last_name names = drop (length names - 1) names

-- the names of a path that a glob is compared with
abbrev pub names_for : (is_anchored : Bool) → (names : List Text) → List Text
names_for is_anchored names = if is_anchored then names else last_name names

abbrev pub may_stand : (glob : Text) → (is_folder : Bool) → Bool
may_stand glob is_folder = is_folder || not (is_of_folders glob)

-- a glob stands for the path of a file, or of a folder
abbrev pub stands_for : (glob : Text) → (is_folder : Bool) → (path : Text) → Bool
stands_for glob is_folder path =
    may_stand glob is_folder && fits_names (path_names glob) (names_for (is_anchored glob) (path_names path))
