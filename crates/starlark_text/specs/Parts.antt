-- Returned parts of a text by their bytes, without where they lie in memory.
use Rattle.std.specs.Prelude.{ℕ, List}
use Rattle.std.specs.Borrow.{Bor}
use Rattle.starlark_text.specs.declared.fast_string.StrIndices.{StrIndices}

-- the bytes of the two parts of a text
abbrev pub cut_view : Bor (List ℕ) × Bor (List ℕ) → List ℕ × List ℕ
cut_view parts = (parts.0.now, parts.1.now)

-- the index of the first character, and the bytes of the part
abbrev pub indices_view : StrIndices → ℕ × List ℕ
indices_view found = (found.start.0, found.haystack.now)
