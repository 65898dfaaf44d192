-- Spans merged, and which of two meet.
use Rattle.std.specs.Prelude.{◌≤◌, min, max, List, [], ◌∷◌, fold}
use Rattle.starlark_base.specs.Spans.{ByteSpan}

-- the span from the lesser begin to the greater end
abbrev pub merged : ByteSpan → ByteSpan → ByteSpan
merged a b = record { begin = min a.begin b.begin; end = max a.end b.end }

-- the span from the least begin to the greatest end, and 0..0 where there are no spans
abbrev pub merged_all : List ByteSpan → ByteSpan
merged_all [] = record { begin = 0; end = 0 }
merged_all (span ∷ spans) = fold merged span spans

-- each begins at or before the end of the other
pub record Meets (a b : ByteSpan) : Type 0 where
  pub begins : a.begin ≤ b.end
  pub ends : b.begin ≤ a.end
