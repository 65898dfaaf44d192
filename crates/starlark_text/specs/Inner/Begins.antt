-- Where characters begin among bytes.
use Rattle.std.specs.Prelude.{◌≡◌, ◌≤◌, ◌<◌, ℕ, true, List, length, take, slice_index, count_by}
use Rattle.starlark_text.specs.Characters.{starts_character}

-- `index` characters begin before byte `at`, and one begins there unless the bytes end
pub record IsBegin (bytes : List ℕ) (index at : ℕ) : Type 0 where
  pub within : at ≤ length bytes
  pub before : count_by starts_character (take at bytes) ≡ index
  pub here : at < length bytes → starts_character (slice_index bytes at) ≡ true
