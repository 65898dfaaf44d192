-- Characters of texts. A text is its bytes in UTF-8; std's `chars` is the list of its characters.
use Rattle.std.specs.Prelude.{◌≡◌, ℕ, Bool, ◌||◌, nat_lt, nat_le, List, length, count_by}
use Rattle.std.specs.Str.{chars, IsUtf8}

-- how many characters a text has
abbrev pub char_count : List ℕ → ℕ
char_count text = length (chars text)

-- a byte of a text that begins a character; each other byte continues one
abbrev pub starts_character : ℕ → Bool
starts_character byte = nat_lt byte 128 || nat_le 192 byte

-- a text has as many characters as bytes that begin a character
abbrev pub CharactersBeginOnce : Type 0
CharactersBeginOnce = (text : List ℕ) → IsUtf8 text → count_by starts_character text ≡ char_count text
