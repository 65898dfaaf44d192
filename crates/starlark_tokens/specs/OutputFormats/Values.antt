-- Values of tokens, for people and as JSON.
use Rattle.std.specs.Prelude.{ℕ, ◌^◌, Bool, true, nat_lt, ◌==◌, if◌then◌else◌, [], ◌∷◌, ◌++◌, codes, Option, Some, None, is_some}
use Rattle.std.specs.Fmt.{decimal, sign_text, signed_decimal}
use Rattle.std.specs.Str.Parse.{digits_value}
use Rattle.starlark_base.specs.Places.{Text}
use Rattle.starlark_grammar.specs.Numbers.{Integer, Small, Big}
use Rattle.starlark_grammar.specs.Tokens as grammar
use Rattle.starlark_run.specs.Output.{hex, quotes_name}
use Rattle.starlark_token.specs.TokenViews.{TokenView, Whole}
use Rattle.starlark_tokens.specs.OutputFormats.JsonStrings.{json_string}
use Rattle.starlark_tokens.specs.OutputFormats.PythonLiterals.{quoted, quoted_bytes}

-- a value if it fits in 53 bits, as each number of JSON's usual readers does
abbrev pub if_exact : ℕ → Option ℕ
if_exact value = if nat_lt value (2 ^ 53) then Some value else None

-- the value of digits if it fits in 53 bits
unfoldable pub exact_value : (base : ℕ) → (digits : Text) → Option ℕ
exact_value base digits = if_exact (digits_value base digits)

-- an integer that fits in 53 bits
unfoldable pub is_exact : Integer → Bool
is_exact (Small value) = true
is_exact (Big is_negative digits base) = is_some (exact_value base digits)

-- what is before the digits of a base
abbrev pub base_prefix : ℕ → Text
base_prefix base =
    if base == 16 then codes "0x" else (if base == 8 then codes "0o" else (if base == 2 then codes "0b" else []))

-- a value in decimal if there is one, or else the digits in their base
abbrev pub decimal_or : Option ℕ → (base : ℕ) → (digits : Text) → Text
decimal_or (Some value) base digits = decimal value
decimal_or None base digits = base_prefix base ++ digits

-- an integer that doesn't fit in 32 bits: decimal if it fits in 53 bits, or else its digits
abbrev pub shown_big : Bool → (base : ℕ) → (digits : Text) → Text
shown_big is_negative base digits = sign_text is_negative ++ decimal_or (exact_value base digits) base digits

-- an integer
unfoldable pub shown_integer : Integer → Text
shown_integer (Small value) = signed_decimal value
shown_integer (Big is_negative digits base) = shown_big is_negative base digits

-- the value of a token for people, if it has one
abbrev pub readable_value : grammar.Token → Option Text
readable_value (grammar.Comment text) = Some (quoted text)
readable_value (grammar.Identifier name) = Some (quoted name)
readable_value (grammar.Int value) = Some (shown_integer value)
readable_value (grammar.Float text) = Some text
readable_value (grammar.String value) = Some (quoted value)
readable_value (grammar.Bytes value) = Some (quoted_bytes value)
readable_value (grammar.FStringStart opening) = Some (quotes_name opening)
readable_value (grammar.FStringText value) = Some (quoted value)
readable_value token = None

-- a value, if there is one, after a space
abbrev pub after_space : Option Text → Text
after_space None = []
after_space (Some value) = 32 ∷ value

-- the value of a token for people after a space; empty for a token without one
unfoldable pub readable : TokenView → Text
readable (Whole token) = after_space (readable_value token)
readable view = []

-- a text without a character that JSON escapes, as a JSON string
abbrev pub in_quotes : Text → Text
in_quotes text = 34 ∷ (text ++ 34 ∷ [])

-- an integer as JSON: a number if it fits in 53 bits, or else a string
abbrev pub json_integer : Integer → Text
json_integer value = if is_exact value then shown_integer value else in_quotes (shown_integer value)

-- the value of a token as JSON, if it has one
abbrev pub json_value : grammar.Token → Option Text
json_value (grammar.Comment text) = Some (json_string text)
json_value (grammar.Identifier name) = Some (json_string name)
json_value (grammar.Int value) = Some (json_integer value)
json_value (grammar.Float text) = Some (json_string text)
json_value (grammar.String value) = Some (json_string value)
json_value (grammar.Bytes value) = Some (in_quotes (hex value))
json_value (grammar.FStringStart opening) = Some (in_quotes (quotes_name opening))
json_value (grammar.FStringText value) = Some (json_string value)
json_value token = None

-- a value, or `null` if there is none
abbrev pub or_null : Option Text → Text
or_null None = codes "null"
or_null (Some value) = value

-- the value of a token as JSON
unfoldable pub json_of : TokenView → Text
json_of (Whole token) = or_null (json_value token)
json_of view = codes "null"
