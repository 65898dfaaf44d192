-- The longest front of a text that is a word.
use Rattle.std.specs.Prelude.{ℕ, ◌+◌, [], ◌∷◌, Option, Some, None}
use Rattle.std.specs.Option.{option_map}
use Rattle.starlark_grammar.specs.Words.{Text, Class, class_in, language}

-- A longer front, where there is one, goes before the front of one byte.
abbrev pub longer : {C : Type 0} → Option (C × ℕ) → Option C → Option (C × ℕ)
longer None alone = option_map (λ class. (class, 1)) alone
longer (Some front) alone = Some (front.0, front.1 + 1)

-- The class and the length of the longest front that isn't empty and has a class: the longest after the first
-- byte, with that byte before it, and else the first byte alone.
unfoldable pub longest_front : {C : Type 0} → (Text → Option C) → Text → Option (C × ℕ)
longest_front class_of [] = None
longest_front class_of (b ∷ rest) = longer (longest_front (λ word. class_of (b ∷ word)) rest) (class_of (b ∷ []))

-- the longest front of a text by the table of the language
unfoldable pub language_front : Text → Option (Class × ℕ)
language_front = longest_front (class_in language)
