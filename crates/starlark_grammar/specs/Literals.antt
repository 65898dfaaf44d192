-- The body of a literal as a list of items: of a good literal, of a bad one, and of a chunk of an f-string's text.
use Rattle.std.specs.Prelude.{◌≡◌, ◌≤◌, ⊤, ◌⊎◌, ℕ, Bool, true, false, ◌&&◌, ◌||◌, not, ◌==◌, nat_eq, nat_le, List, [], ◌∷◌, ◌++◌, map, length, drop, sum_by, flat_map, codes}
use Rattle.std.specs.List.{list_any, prefix_len, starts_with}
use Rattle.std.specs.Str.{byte, bytes_eq}
use Rattle.starlark_grammar.specs.Words.{Text, Kind, OfFString}
use Rattle.starlark_grammar.specs.Tokens.{Opening}
use Rattle.starlark_grammar.specs.FrontCharacter.{first_character}
use Rattle.starlark_grammar.specs.Items.{Literal, Item, Stop, Closing, Line, Ended, OpeningBrace, ClosingBrace, BadEscape, Goes, Stops, Body, quote_byte, closing_quotes, escape, raw_pair, is_brace}

-- Items

-- What an item is: a plain character, a CR, an escape, a raw backslash with its character, or two braces.
pub data Form : Type 0 where
  Character : Form
  Return : Form
  Escape : Form
  RawPair : Form
  Braces : Form

-- an item that denotes its own bytes
abbrev pub itself : Text → Item
itself text = record { len = length text; value = text }

-- a plain character begins with neither CR nor backslash, and in an f-string not with a brace
abbrev pub is_plain_byte : Kind → ℕ → Bool
is_plain_byte kind b = not (b == byte "\r") && not (b == byte "\\") && not (is_brace kind b)

-- The front of a text is an item of this form. Here a quote or an LF is a plain character, too.
abbrev pub HasForm : Literal → Form → Text → Item → Type 0
HasForm literal form [] item = ⊥
HasForm literal Character (b ∷ bs) item = (is_plain_byte literal.kind b ≡ true) × (item ≡ itself (first_character (b ∷ bs)))
HasForm literal Return (b ∷ bs) item = (b ≡ byte "\r") × (item ≡ record { len = 1; value = [] })
HasForm literal Escape (b ∷ bs) item = (b ≡ byte "\\") × (literal.opening.is_raw ≡ false) × (escape literal.kind bs ≡ Goes item)
HasForm literal RawPair (b ∷ bs) item = (b ≡ byte "\\") × (literal.opening.is_raw ≡ true) × (raw_pair literal.kind literal.opening.quote bs ≡ Goes item)
HasForm literal Braces (b ∷ bs) item = (is_brace literal.kind b ≡ true) × (starts_with nat_eq bs (b ∷ []) ≡ true) × (item ≡ record { len = 2; value = b ∷ [] })

-- the front of a text is an item of some form
abbrev pub ItemAt : Literal → Text → Item → Type 0
ItemAt literal text item = (form : Form) × HasForm literal form text item

-- the front of a text is these items, one right after another
abbrev pub ItemsAt : Literal → Text → List Item → Type 0
ItemsAt literal text [] = ⊤
ItemsAt literal text (item ∷ items) = ItemAt literal text item × ItemsAt literal (drop item.len text) items

abbrev pub items_len : List Item → ℕ
items_len items = sum_by (λ (item : Item). item.len) items

-- what items denote, joined
abbrev pub items_value : List Item → Text
items_value items = flat_map (λ (item : Item). item.value) items

-- What a literal may not hold

-- A byte that denotes itself. An escape that denotes this byte is longer.
abbrev pub is_itself : ℕ → Item → Bool
is_itself b item = item.len == 1 && bytes_eq item.value (b ∷ [])

-- the closing quotes are among the items: a plain quote, or in a triple literal three in a row
abbrev pub holds_closing : Opening → List Item → Bool
holds_closing opening [] = false
holds_closing opening (item ∷ items) =
    nat_le (length (closing_quotes opening)) (prefix_len (is_itself (quote_byte opening.quote)) (item ∷ items)) || holds_closing opening items

-- Closing quotes are forbidden, and in a literal that isn't triple a plain LF is.
abbrev pub holds_forbidden : Opening → List Item → Bool
holds_forbidden opening items = holds_closing opening items || (not opening.is_triple && list_any (is_itself (byte "\n")) items)

-- Good literals

-- the closing quotes but the last
abbrev pub quotes_before_last : Opening → List Item
quotes_before_last opening = map (λ quote. itself (quote ∷ [])) (drop 1 (closing_quotes opening))

-- The body of a good literal: items, and closing quotes right after them. Nothing before the last quote is forbidden,
-- so in a triple literal three plain quotes in a row are at the very end only: of `'''a''''` the body is `a`.
pub record IsGoodBody (literal : Literal) (text : Text) (items : List Item) : Type 0 where
  pub listed : ItemsAt literal text items
  pub closed : starts_with nat_eq (drop (items_len items) text) (closing_quotes literal.opening) ≡ true
  pub allowed : holds_forbidden literal.opening (items ++ quotes_before_last literal.opening) ≡ false

-- Bad literals

-- a byte is at the front once, and not twice
abbrev pub IsSingle : ℕ → Text → Type 0
IsSingle b text = (starts_with nat_eq text (b ∷ []) ≡ true) × (starts_with nat_eq text (b ∷ b ∷ []) ≡ false)

-- What ends items that no quotes close: an LF where the literal isn't triple; the end of the text, or a raw backslash
-- right before it; in an f-string a single brace; or a backslash that begins no escape.
abbrev pub StopsAt : Literal → Text → Stop → Type 0
StopsAt literal text Closing = ⊥
StopsAt literal text Line = (literal.opening.is_triple ≡ false) × (starts_with nat_eq text (codes "\n") ≡ true)
StopsAt literal text Ended = (text ≡ []) ⊎ ((literal.opening.is_raw ≡ true) × (text ≡ codes "\\"))
StopsAt literal text OpeningBrace = (literal.kind ≡ OfFString) × IsSingle (byte "{") text
StopsAt literal text ClosingBrace = (literal.kind ≡ OfFString) × IsSingle (byte "}") text
StopsAt literal text (BadEscape read last) =
    (literal.opening.is_raw ≡ false) × (starts_with nat_eq text (codes "\\") ≡ true) × (escape literal.kind (drop 1 text) ≡ Stops (BadEscape read last))

-- items that hold nothing forbidden, and what ends them where no quotes do
pub record IsUnclosedBody (literal : Literal) (text : Text) (items : List Item) (stop : Stop) : Type 0 where
  pub listed : ItemsAt literal text items
  pub stops : StopsAt literal (drop (items_len items) text) stop
  pub allowed : holds_forbidden literal.opening items ≡ false

-- The body of a bad literal: the longest list of items that holds nothing forbidden, and what ends it. There is no
-- good literal.
pub record IsBadBody (literal : Literal) (text : Text) (items : List Item) (stop : Stop) : Type 0 where
  pub unclosed : IsUnclosedBody literal text items stop
  pub longest : (more : List Item) → ItemsAt literal text more → holds_forbidden literal.opening more ≡ false → length more ≤ length items
  pub no_good : (good : List Item) → IsGoodBody literal text good → ⊥

-- The body of any literal, or a chunk of an f-string's text: items, and the closing quotes or what else ends them.
abbrev pub IsBodyBy : Literal → Text → List Item → Stop → Type 0
IsBodyBy literal text items Closing = IsGoodBody literal text items
IsBodyBy literal text items stop = IsUnclosedBody literal text items stop

abbrev pub IsBody : Literal → Text → Body → Type 0
IsBody literal text body = IsBodyBy literal text body.items body.stop
