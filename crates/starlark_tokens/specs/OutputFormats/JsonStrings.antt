-- Strings of JSON: what they are, and how a text is written as one.
use Rattle.std.specs.Prelude.{◌≡◌, ℕ, ◌+◌, ◌*◌, ◌/◌, ◌%◌, Bool, true, ◌&&◌, ◌||◌, not, ◌==◌, nat_lt, nat_le, if◌then◌else◌, List, [], ◌∷◌, ◌++◌, codes, encode_utf8, map}
use Rattle.std.specs.Char.{digit_char, digit_value}
use Rattle.std.specs.List.{flat_map, list_any, list_all}
use Rattle.std.specs.Str.{chars}
use Rattle.starlark_base.specs.Places.{Text}

-- a piece of a JSON string: a character that stands for itself, a backslash and a letter, or a
-- backslash, `u` and four hexadecimal digits
pub data Piece : Type 0 where
  Itself : (character : ℕ) → Piece
  Lettered : (letter : ℕ) → Piece
  Coded : (a b c d : ℕ) → Piece

-- the letters that may follow a backslash
abbrev pub letters : Text
letters = codes "\"\\/bfnrt"

-- a hexadecimal digit
abbrev pub is_hex : ℕ → Bool
is_hex c = nat_lt (digit_value c) 16

-- a piece that the grammar of JSON allows: neither a control character nor a quote nor a backslash
-- stands for itself
abbrev pub is_piece : Piece → Bool
is_piece (Itself c) = nat_le 32 c && not (c == 34) && not (c == 92)
is_piece (Lettered letter) = list_any (λ l. l == letter) letters
is_piece (Coded a b c d) = is_hex a && is_hex b && is_hex c && is_hex d

-- the bytes of a piece
abbrev pub piece_text : Piece → Text
piece_text (Itself c) = encode_utf8 c
piece_text (Lettered letter) = 92 ∷ letter ∷ []
piece_text (Coded a b c d) = 92 ∷ 117 ∷ a ∷ b ∷ c ∷ d ∷ []

-- the character that a letter after a backslash means
abbrev pub lettered : ℕ → ℕ
lettered letter =
    if letter == 98 then 8
    else (if letter == 102 then 12 else (if letter == 110 then 10 else (if letter == 114 then 13 else (if letter == 116 then 9 else letter))))

-- the character that a piece means
abbrev pub meaning : Piece → ℕ
meaning (Itself c) = c
meaning (Lettered letter) = lettered letter
meaning (Coded a b c d) = ((digit_value a * 16 + digit_value b) * 16 + digit_value c) * 16 + digit_value d

-- the bytes are a JSON string that means the characters: pieces that the grammar allows, in double
-- quotes
pub record IsJsonString (characters : List ℕ) (text : Text) : Type 0 where
  pub pieces : List Piece
  pub allowed : list_all is_piece pieces ≡ true
  pub meant : map meaning pieces ≡ characters
  pub written : text ≡ 34 ∷ (flat_map piece_text pieces ++ 34 ∷ [])

-- a control character by its number
abbrev pub coded : ℕ → Piece
coded c = Coded 48 48 (digit_char (c / 16)) (digit_char (c % 16))

-- how a character is written
abbrev pub piece_of : ℕ → Piece
piece_of c =
    if c == 34 || c == 92 then Lettered c
    else (if c == 9 then Lettered 116 else (if c == 10 then Lettered 110 else (if c == 13 then Lettered 114 else (if nat_lt c 32 then coded c else Itself c))))

-- the bytes that a character is written as
unfoldable pub json_char : ℕ → Text
json_char c = piece_text (piece_of c)

-- a text as a JSON string
unfoldable pub json_string : Text → Text
json_string text = 34 ∷ (flat_map json_char (chars text) ++ 34 ∷ [])

-- Each text is written as a JSON string that means its characters.
abbrev pub WritesJson : Type 0
WritesJson = (text : Text) → IsJsonString (chars text) (json_string text)
