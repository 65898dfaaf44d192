-- The items of a literal's body, and where the body stops.
use Rattle.std.specs.Prelude.{ℕ, zero, suc, ◌+◌, ◌-◌, Bool, true, false, ◌&&◌, ◌||◌, not, ◌==◌, if◌then◌else◌, nat_eq, nat_lt, nat_le, List, [], ◌∷◌, length, take, drop, sum_by, flat_map, encode_utf8, Option, Some, None}
use Rattle.std.specs.Char.{is_ascii_hexdigit}
use Rattle.std.specs.List.{prefix_len, starts_with}
use Rattle.std.specs.Map.{lookup}
use Rattle.std.specs.Str.{byte}
use Rattle.std.specs.Str.Parse.{digits_value}
use Rattle.starlark_grammar.specs.Words.{Text, Quote, SingleQuote, DoubleQuote, Kind, OfBytes, OfFString, is_octal_digit}
use Rattle.starlark_grammar.specs.FrontCharacter.{first_character}
use Rattle.starlark_grammar.specs.Tokens.{Opening}

-- a literal, as far as its body is read by it
pub record Literal : Type 0 where
  pub kind : Kind
  pub opening : Opening

-- An item of a body: how many bytes it has, and the bytes that it denotes.
pub record Item : Type 0 where
  pub len : ℕ
  pub value : Text

-- Why a body stops. A bad escape was read for so many bytes, of which the last character has so many.
pub data Stop : Type 0 where
  Closing : Stop
  Line : Stop
  Ended : Stop
  OpeningBrace : Stop
  ClosingBrace : Stop
  BadEscape : (len last : ℕ) → Stop

-- what stands at a place of a body
pub data Found : Type 0 where
  Goes : (item : Item) → Found
  Stops : (stop : Stop) → Found

abbrev pub goes : ℕ → Text → Found
goes len value = Goes (record { len = len; value = value })

abbrev pub quote_byte : Quote → ℕ
quote_byte SingleQuote = byte "'"
quote_byte DoubleQuote = byte "\""

-- the quotes that close a literal
abbrev pub closing_quotes : Opening → Text
closing_quotes opening = if opening.is_triple then quotes 3 else quotes 1
  where
    quotes : ℕ → Text
    quotes zero = []
    quotes (suc n) = quote_byte opening.quote ∷ quotes n

-- An escape whose first `good` bytes are in order goes no further: the character after them is the last that is
-- read, and at the text's end it is the last of the bytes themselves.
abbrev pub broken_by : ℕ → Text → Found
broken_by good [] = Stops (BadEscape good 1)
broken_by good (b ∷ bs) = Stops (BadEscape (good + length (b ∷ bs)) (length (b ∷ bs)))

abbrev pub broken : ℕ → Text → Found
broken good remainder = broken_by good (first_character remainder)

-- the number of a character: no surrogate, and not too great
abbrev pub is_character : ℕ → Bool
is_character n = nat_lt n 0xD800 || (nat_le 0xE000 n && nat_lt n 0x11_0000)

-- An escape that names a number denotes that byte, or that character; where there is none it is bad.
abbrev pub numbered : ℕ → Bool → ℕ → Found
numbered len true n = if nat_lt n 256 then goes len (n ∷ []) else broken len []
numbered len false n = if is_character n then goes len (encode_utf8 n) else broken len []

-- exactly so many hexadecimal digits after a backslash and a letter
abbrev pub hexadecimal : ℕ → Bool → Text → Found
hexadecimal wanted is_byte text = by (prefix_len is_ascii_hexdigit (take wanted text))
  where
    by : ℕ → Found
    by n = if n == wanted then numbered (2 + n) is_byte (digits_value 16 (take n text)) else broken (2 + n) (drop n text)

-- octal digits after a backslash, as many as stand there, up to three
abbrev pub octal : Bool → Text → Found
octal is_byte text = by (prefix_len is_octal_digit (take 3 text))
  where
    by : ℕ → Found
    by n = numbered (1 + n) is_byte (digits_value 8 (take n text))

-- a newline after a backslash, from its LF on where a CR stood before it
abbrev pub escaped_newline : Text → Found
escaped_newline [] = broken 2 []
escaped_newline (b ∷ bs) = if b == byte "\n" then goes 3 [] else broken 2 (b ∷ bs)

-- what one byte after a backslash denotes
unfoldable pub simple_escapes : List (ℕ × ℕ)
simple_escapes =
    (byte "n", 10) ∷ (byte "r", 13) ∷ (byte "t", 9) ∷ (byte "a", 7) ∷ (byte "b", 8) ∷ (byte "f", 12) ∷ (byte "v", 11)
    ∷ (byte "'", byte "'") ∷ (byte "\"", byte "\"") ∷ (byte "\\", byte "\\")
    ∷ []

-- any other character than those that escapes begin with stands for the backslash and itself
abbrev pub simple : Option ℕ → Text → Found
simple (Some value) character = goes 2 (value ∷ [])
simple None character = goes (1 + length character) (byte "\\" ∷ character)

abbrev pub is_of_bytes : Kind → Bool
is_of_bytes OfBytes = true
is_of_bytes kind = false

-- An escape, by the text after its backslash.
unfoldable pub escape : Kind → Text → Found
escape kind [] = broken 1 []
escape kind (b ∷ bs) =
    if b == byte "\n" then goes 2 []
    else (if b == byte "\r" then escaped_newline bs
    else (if b == byte "x" then hexadecimal 2 (is_of_bytes kind) bs
    else (if b == byte "u" then hexadecimal 4 false bs
    else (if b == byte "U" then hexadecimal 8 false bs
    else (if is_octal_digit b then octal (is_of_bytes kind) (b ∷ bs)
    else simple (lookup (nat_eq b) simple_escapes) (first_character (b ∷ bs)))))))

-- before which bytes a raw backslash is dropped: quotes, and in an f-string its own quote alone
abbrev pub drops_backslash : Kind → Quote → ℕ → Bool
drops_backslash OfFString quote b = b == quote_byte quote
drops_backslash kind quote b = b == quote_byte SingleQuote || b == quote_byte DoubleQuote

-- A raw backslash and the character that it takes, by the text after it. At the text's end no item stands.
unfoldable pub raw_pair : Kind → Quote → Text → Found
raw_pair kind quote [] = Stops Ended
raw_pair kind quote (b ∷ bs) = go (first_character (b ∷ bs))
  where
    go : Text → Found
    go character = goes (1 + length character) (if drops_backslash kind quote b then character else byte "\\" ∷ character)

-- two braces denote one; a single one is no item
abbrev pub brace : ℕ → Text → Found
brace b [] = Stops (if b == byte "{" then OpeningBrace else ClosingBrace)
brace b (c ∷ cs) = if b == c then goes 2 (b ∷ []) else Stops (if b == byte "{" then OpeningBrace else ClosingBrace)

abbrev pub is_brace : Kind → ℕ → Bool
is_brace OfFString b = b == byte "{" || b == byte "}"
is_brace kind b = false

-- What stands at a place of a body. A plain character denotes itself, and a CR nothing.
unfoldable pub found_at : Literal → Text → Found
found_at literal [] = Stops Ended
found_at literal (b ∷ bs) =
    if starts_with nat_eq (b ∷ bs) (closing_quotes literal.opening) then Stops Closing
    else (if b == byte "\n" && not literal.opening.is_triple then Stops Line
    else (if b == byte "\r" then goes 1 []
    else (if b == byte "\\" && literal.opening.is_raw then raw_pair literal.kind literal.opening.quote bs
    else (if b == byte "\\" then escape literal.kind bs
    else (if is_brace literal.kind b then brace b bs
    else goes (length (first_character (b ∷ bs))) (first_character (b ∷ bs)))))))

-- A body: its items, and its first stop.
pub record Body : Type 0 where
  pub items : List Item
  pub stop : Stop

abbrev pub body_len : Body → ℕ
body_len body = sum_by (λ (item : Item). item.len) body.items

-- what the items denote, joined
abbrev pub body_value : Body → Text
body_value body = flat_map (λ (item : Item). item.value) body.items

-- an item, and the body that goes on after it
abbrev pub body_onward : Found → (ℕ → Body) → Body
body_onward (Goes item) again = record { items = item ∷ (again (item.len - 1)).items; stop = (again (item.len - 1)).stop }
body_onward (Stops stop) again = record { items = []; stop = stop }

-- The body at the front of a text, of which so many bytes belong to an item before it.
unfoldable pub body_from : Literal → ℕ → Text → Body
body_from literal passed [] = record { items = []; stop = Ended }
body_from literal (suc passed) (b ∷ bs) = body_from literal passed bs
body_from literal zero (b ∷ bs) = body_onward (found_at literal (b ∷ bs)) (λ passed. body_from literal passed bs)

unfoldable pub body_at : Literal → Text → Body
body_at literal = body_from literal 0
