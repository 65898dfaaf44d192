-- The language as it was before `rf'` and `rf"` became openers.
use Rattle.std.specs.Prelude.{ℕ, Bool, false, ◌||◌, not, [], ◌∷◌, take, filter, Option, codes}
use Rattle.std.specs.Str.{bytes_eq}
use Rattle.starlark_grammar.specs.Words.{Text, Class, Table, class_in, openers, table_with}
use Rattle.starlark_grammar.specs.Front.{longest_front}

-- one of the two openers that came later
abbrev pub is_rf_opener : Text → Bool
is_rf_opener word = bytes_eq word (codes "rf'") || bytes_eq word (codes "rf\"")

-- the table without these two
unfoldable pub earlier_language : Table
earlier_language = table_with (filter (λ (row : Text × Class). not (is_rf_opener row.0)) openers)

-- the longest front of a text by that table
unfoldable pub earlier_front : Text → Option (Class × ℕ)
earlier_front = longest_front (class_in earlier_language)

-- whether one of the two stands at some place of a text
unfoldable pub holds_rf_opener : Text → Bool
holds_rf_opener [] = false
holds_rf_opener (b ∷ bs) = is_rf_opener (take 3 (b ∷ bs)) || holds_rf_opener bs
