-- Numbers of characters before each step of a text. A step is a fixed number of bytes.
use Rattle.std.specs.Prelude.{◌≡◌, ◌<◌, ◌*◌, ℕ, List, length, take, slice_index, count_by}
use Rattle.std.specs.Str.{IsAscii}
use Rattle.starlark_text.specs.Characters.{starts_character}

-- how many characters begin before byte `at`
abbrev pub starts_before : List ℕ → ℕ → ℕ
starts_before text at = count_by starts_character (take at text)

-- one count before each step, up to the end of the text; no counts for a text that is all ASCII
pub record AreCounts (step : ℕ) (text counts : List ℕ) : Type 0 where
  pub none : length counts ≡ 0 → IsAscii text
  pub reach : 0 < length counts → length text < length counts * step
  pub each : (k : ℕ) → k < length counts → slice_index counts k ≡ starts_before text (k * step)
