-- Cursors: a text and a byte offset in it.
use Rattle.std.specs.Prelude.{◌≡◌, ℕ, ◌+◌, ◌-◌, List, drop, slice_get, slice_range, Option, None, Some, encode_utf8}
use Rattle.std.specs.Char.{len_utf8}
use Rattle.std.specs.Str.{chars}

-- a text, and a byte offset in it
pub record Cursor : Type 0 where
  pub text : List ℕ
  pub at : ℕ

-- the byte at the cursor, unless the text ends there
abbrev pub byte_at : Cursor → Option ℕ
byte_at cursor = slice_get cursor.text cursor.at

-- the character that begins at the cursor, unless the text ends there
abbrev pub char_at : Cursor → Option ℕ
char_at cursor = slice_get (chars (drop cursor.at cursor.text)) 0

-- the cursor after what was found at it, which takes `len x` bytes; the same cursor if nothing was
abbrev pub past : {X : Type 0} → (X → ℕ) → Option X → Cursor → Cursor
past len None cursor = cursor
past len (Some x) cursor = record cursor { at = cursor.at + len x }

-- the cursor after its byte
abbrev pub past_byte : Cursor → Cursor
past_byte cursor = past (λ _. 1) (byte_at cursor) cursor

-- the cursor after its character
abbrev pub past_char : Cursor → Cursor
past_char cursor = past len_utf8 (char_at cursor) cursor

-- the character `c` ends at byte `at` of the text
abbrev pub EndsAt : List ℕ → ℕ → ℕ → Type 0
EndsAt text at c = slice_range text (at - len_utf8 c) at ≡ encode_utf8 c

-- the character `c` ends at the cursor
abbrev pub IsCharBefore : Cursor → ℕ → Type 0
IsCharBefore cursor c = EndsAt cursor.text cursor.at c
