-- Bytes before the end of a line.
use Rattle.std.specs.Prelude.{ℕ, Bool, List, ◌&&◌, ◌==◌, ◌+◌, ◌-◌, ◌*◌, length, min, not}
use Rattle.std.specs.Str.{byte}

-- a byte that is neither an LF nor the `other` byte
abbrev pub is_in_front : ℕ → ℕ → Bool
is_in_front other b = not (b == other) && not (b == byte "\n")

-- reads of the search for the end of a front of `len` bytes, at most: five for each byte after the first one, with the byte
-- that ends the front, and two
abbrev pub most_front_reads : ℕ → List ℕ → ℕ
most_front_reads len text = 5 * (min (len + 1) (length text) - 1) + 2
