-- What an index of Starlark means in a sequence of `count` elements. `negsuc i` is -(i + 1).
use Rattle.std.specs.Prelude.{ℕ, suc, ◌-◌, min, ℤ, pos, negsuc, Option, None, Some}

-- the position that an index means: from the front, or from the end if it is negative, and clamped
abbrev pub place : ℕ → ℤ → ℕ
place count (pos i) = min i count
place count (negsuc i) = count - suc i

-- where a slice begins
abbrev pub start_place : ℕ → Option ℤ → ℕ
start_place count None = 0
start_place count (Some index) = place count index

-- where a slice ends
abbrev pub end_place : ℕ → Option ℤ → ℕ
end_place count None = count
end_place count (Some index) = place count index
