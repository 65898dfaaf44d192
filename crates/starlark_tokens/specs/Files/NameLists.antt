-- Lists of names.
use Rattle.std.specs.Prelude.{ℕ, ◌==◌, if◌then◌else◌, List, [], ◌∷◌, ◌++◌}
use Rattle.std.specs.Cmp.Lexicographic.{slice_cmp}
use Rattle.std.specs.List.{list_any}
use Rattle.std.specs.List.Sorted.{IsPermutation, IsSorted}
use Rattle.std.specs.Ordering.{nat_cmp}
use Rattle.starlark_base.specs.Places.{Text}

-- the byte that ends each name of a list: zero if the list has one, else LF
abbrev pub separator : Text → ℕ
separator list = if list_any (λ byte. byte == 0) list then 0 else 10

-- a name, or none where it is empty
abbrev pub if_any : Text → List Text
if_any [] = []
if_any (byte ∷ bytes) = (byte ∷ bytes) ∷ []

-- the names in what is left of a list, by what came of the first one
unfoldable pub names_after : (separator : ℕ) → (begun list : Text) → List Text
names_after separator begun [] = if_any begun
names_after separator begun (byte ∷ list) =
    if byte == separator then if_any begun ++ names_after separator [] list else names_after separator (begun ++ byte ∷ []) list

-- the names of a list that a byte ends or separates, without empty ones
abbrev pub names_between : (separator : ℕ) → Text → List Text
names_between separator list = names_after separator [] list

-- the names in a list of names
abbrev pub listed_names : Text → List Text
listed_names list = names_between (separator list) list

-- The names in a list of a folder's names, each ended by a zero byte: all of them, in the order of their bytes.
pub record AreFolderNames (list : Text) (names : List Text) : Type 0 where
  pub all : IsPermutation (names_between 0 list) names
  pub sorted : IsSorted (slice_cmp nat_cmp) names
