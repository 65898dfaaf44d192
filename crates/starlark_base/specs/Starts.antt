-- The byte offsets at which lines begin, in order.
use Rattle.std.specs.Prelude.{ℕ, ◌+◌, if◌then◌else◌, List, [], ◌∷◌}
use Rattle.starlark_base.specs.Places.{Text, is_lf}

-- the offsets after each LF of a text that begins at offset `at`
abbrev pub starts_from : ℕ → Text → List ℕ
starts_from at [] = []
starts_from at (b ∷ rest) = if is_lf b then (at + 1) ∷ starts_from (at + 1) rest else starts_from (at + 1) rest

-- offset 0, and the offset after each LF of the text
abbrev pub line_starts : Text → List ℕ
line_starts text = 0 ∷ starts_from 0 text
