-- Texts and bytes as Python writes them: in quotes, on one line.
use Rattle.std.specs.Prelude.{ℕ, ◌/◌, ◌%◌, Bool, ◌&&◌, ◌||◌, not, ◌==◌, nat_lt, nat_le, if◌then◌else◌, List, [], ◌∷◌, ◌++◌, codes, encode_utf8}
use Rattle.std.specs.List.{flat_map, list_all, list_any}
use Rattle.std.specs.Str.{chars}
use Rattle.starlark_base.specs.Places.{Text}
use Rattle.starlark_run.specs.Output.{hex_pair}

-- the number is between two others, or is one of them
abbrev pub is_between : (first last number : ℕ) → Bool
is_between first last number = nat_le first number && nat_le number last

-- a character that isn't shown as it is: a control, a space other than the plain one, a line or
-- paragraph separator, a mark that directs or joins, or one for private use
unfoldable pub is_hidden : ℕ → Bool
is_hidden c =
    is_between 0 0x1f c || is_between 0x7f 0xa0 c || is_between 0xad 0xad c
    || is_between 0x1680 0x1680 c || is_between 0x2000 0x200f c || is_between 0x2028 0x202f c || is_between 0x205f 0x206f c
    || is_between 0x3000 0x3000 c || is_between 0xe000 0xf8ff c || is_between 0xfeff 0xfeff c || is_between 0xfff0 0xfffb c
    || is_between 0xe0000 0xe007f c || is_between 0xf0000 0x10ffff c

-- a number below 65536 as four hexadecimal digits
abbrev pub hex_four : ℕ → Text
hex_four number = hex_pair (number / 256) ++ hex_pair (number % 256)

-- a character by its number: `\x`, `\u` or `\U`, and two, four or eight hexadecimal digits
unfoldable pub numbered : ℕ → Text
numbered c =
    if nat_lt c 256 then codes "\\x" ++ hex_pair c
    else (if nat_lt c 65536 then codes "\\u" ++ hex_four c else codes "\\U" ++ (hex_four (c / 65536) ++ hex_four (c % 65536)))

-- a character that isn't shown as it is
abbrev pub hidden_text : ℕ → Text
hidden_text c =
    if c == 9 then codes "\\t" else (if c == 10 then codes "\\n" else (if c == 13 then codes "\\r" else numbered c))

-- a character of a text on one line, without quotes around it
unfoldable pub line_char : ℕ → Text
line_char c = if is_hidden c then hidden_text c else encode_utf8 c

-- a text on one line, without quotes around it
unfoldable pub one_line : Text → Text
one_line text = flat_map line_char (chars text)

-- a character of a text that has this quote around it
unfoldable pub quoted_char : (quote : ℕ) → ℕ → Text
quoted_char quote c = if c == 92 || c == quote then 92 ∷ c ∷ [] else line_char c

-- a byte of bytes that have this quote around them
unfoldable pub quoted_byte : (quote : ℕ) → ℕ → Text
quoted_byte quote byte =
    if byte == 92 || byte == quote then 92 ∷ byte ∷ []
    else (if is_between 32 126 byte then byte ∷ [] else hidden_text byte)

-- some byte of the text equals another one
abbrev pub has_byte : ℕ → Text → Bool
has_byte byte text = list_any (λ b. b == byte) text

-- the quote around a text: a double one if the text has single quotes and no double ones
abbrev pub quote_of : Text → ℕ
quote_of text = if has_byte 39 text && not (has_byte 34 text) then 34 else 39

-- a text in quotes
unfoldable pub quoted : Text → Text
quoted text = quote_of text ∷ (flat_map (quoted_char (quote_of text)) (chars text) ++ quote_of text ∷ [])

-- bytes in quotes, after a `b`
unfoldable pub quoted_bytes : Text → Text
quoted_bytes bytes = 98 ∷ quote_of bytes ∷ (flat_map (quoted_byte (quote_of bytes)) bytes ++ quote_of bytes ∷ [])

-- a character that is shown as it is, and begins or ends nothing
abbrev pub is_plain : ℕ → Bool
is_plain c = not (is_hidden c || c == 34 || c == 39 || c == 92)

-- all characters are plain
abbrev pub are_plain : List ℕ → Bool
are_plain characters = list_all is_plain characters

-- a name: as it is if it has only plain characters, or else in quotes
unfoldable pub shown_name : Text → Text
shown_name name = if are_plain (chars name) then name else quoted name
