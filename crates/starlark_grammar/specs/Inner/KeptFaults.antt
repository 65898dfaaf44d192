-- Faults that may keep their line.
use Rattle.std.specs.Prelude.{ℕ, Bool, true, false, ◌&&◌, ◌||◌, ◌==◌, codes, drop, not}
use Rattle.std.specs.Str.{bytes_eq}
use Rattle.starlark_grammar.specs.Margins.{begins_with_line_end}
use Rattle.starlark_grammar.specs.Pieces.{Before, is_nothing}
use Rattle.starlark_grammar.specs.Words.{Text}
use Rattle.starlark_grammar.specs.Tokens.{Fault, InvalidInput, InvalidTab, ReservedKeyword, StartsZero}

-- whether the tab whose fault begins at an offset is in a margin
abbrev pub is_in_margin : Before → Text → ℕ → Bool
is_in_margin before text at = is_nothing before && at == 0 || begins_with_line_end (drop at text)

-- whether a fault keeps its line if it is neither in a margin nor right after a comment
unfoldable pub may_keep : Fault → Bool
may_keep (ReservedKeyword word) = true
may_keep (StartsZero word) = true
may_keep (InvalidInput text) = not (bytes_eq text (codes "}"))
may_keep InvalidTab = true
may_keep fault = false
