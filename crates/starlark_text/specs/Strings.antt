-- Strings by characters: offsets, cuts, matches, and the part that a start and an end mean.
use Rattle.std.specs.Prelude.{◌≡◌, ◌≤◌, ℕ, zero, suc, ◌+◌, ◌-◌, Bool, false, if◌then◌else◌, nat_lt, nat_le, nat_eq, List, [], ◌∷◌, ◌++◌, length, take, drop, slice_range, ℤ, pos, negsuc, Option, None, Some, encode_utf8_all}
use Rattle.std.specs.List.{starts_with}
use Rattle.std.specs.Str.{chars}
use Rattle.starlark_text.specs.Characters.{char_count}
use Rattle.starlark_text.specs.Indices.{start_place, end_place}

-- the byte at which the character of an index begins; the end of the text if it has fewer
-- characters
unfoldable pub byte_place : List ℕ → ℕ → ℕ
byte_place text index = length (encode_utf8_all (take index (chars text)))

-- the byte at which the character of an index begins, if the text has at least that many characters
abbrev pub character_place : List ℕ → ℕ → Option ℕ
character_place text index = if nat_le index (char_count text) then Some (byte_place text index) else None

-- rest is the text from the character of an index on
pub record IsFrom (text : List ℕ) (index : ℕ) (rest : List ℕ) : Type 0 where
  pub within : index ≤ char_count text
  pub bytes : rest ≡ drop (byte_place text index) text

-- the text cut before the character of an index, if the text has at least that many characters
abbrev pub cut : List ℕ → ℕ → Option (List ℕ × List ℕ)
cut text index = if nat_le index (char_count text) then Some (take (byte_place text index) text, drop (byte_place text index) text) else None

-- the part of a text between two characters
abbrev pub part : List ℕ → ℕ → ℕ → List ℕ
part text start end = slice_range text (byte_place text start) (byte_place text end)

-- a needle stands somewhere in a text
abbrev pub Contains : List ℕ → List ℕ → Type 0
Contains text needle = (front : List ℕ) × (back : List ℕ) × (text ≡ front ++ (needle ++ back))

-- how often a needle stands in a text, from the left, where no match begins inside the one before
-- it; `inside` bytes of that one are still to be skipped
unfoldable pub matches_after : List ℕ → ℕ → List ℕ → ℕ
matches_after needle inside [] = 0
matches_after needle (suc inside) (b ∷ rest) = matches_after needle inside rest
matches_after needle zero (b ∷ rest) =
    if starts_with nat_eq (b ∷ rest) needle then suc (matches_after needle (length needle - 1) rest)
    else matches_after needle 0 rest

-- how often a needle stands in a whole text; an empty one stands before each character and at the
-- end
abbrev pub match_count : List ℕ → List ℕ → ℕ
match_count text [] = char_count text + 1
match_count text (b ∷ needle) = matches_after (b ∷ needle) 0 text

-- both the start and the end are given, count from the same side, and are in the wrong order
abbrev pub are_reversed : Option ℤ → Option ℤ → Bool
are_reversed (Some (pos start)) (Some (pos end)) = nat_lt end start
are_reversed (Some (negsuc start)) (Some (negsuc end)) = nat_lt start end
are_reversed _ _ = false

-- the start counts from the front and is more than `count`, and no end counts from the end
abbrev pub begins_past : ℕ → Option ℤ → Option ℤ → Bool
begins_past count (Some (pos start)) None = nat_lt count start
begins_past count (Some (pos start)) (Some (pos end)) = nat_lt count start
begins_past count _ _ = false

-- the index of a part's first character and the part, unless it would end before it begins
abbrev pub part_between : List ℕ → ℕ → ℕ → Option (ℕ × List ℕ)
part_between text start end = if nat_lt end start then None else Some (start, part text start end)

-- what the start and the end that a string method was given mean
abbrev pub str_indices : List ℕ → Option ℤ → Option ℤ → Option (ℕ × List ℕ)
str_indices text start end =
    if are_reversed start end then None
    else if begins_past (char_count text) start end then None
    else part_between text (start_place (char_count text) start) (end_place (char_count text) end)
