-- The character at the front of a text.
use Rattle.std.specs.Prelude.{[], ◌∷◌, take}
use Rattle.std.specs.Str.{continuation_len}
use Rattle.starlark_grammar.specs.Words.{Text}

-- the bytes of the character at the front
abbrev pub first_character : Text → Text
first_character [] = []
first_character (b ∷ bs) = b ∷ take (continuation_len b) bs
