-- The output for a text.
use Rattle.std.specs.Prelude.{ℕ, ◌/◌, ◌%◌, ◌∷◌, [], ◌++◌, List, codes, Bool, true, false, Option, Some, None}
use Rattle.std.specs.List.{flat_map}
use Rattle.std.specs.Char.{digit_char}
use Rattle.std.specs.Fmt.{decimal}
use Rattle.starlark_base.specs.Places.{Text, place_at, span_text}
use Rattle.starlark_grammar.specs.declared.class.Quote.{Quote}
use Rattle.starlark_grammar.specs.declared.class.Quote.TheVariants.{Single as SingleQuote, Double as DoubleQuote}
use Rattle.starlark_grammar.specs.Tokens as grammar
use Rattle.starlark_token.specs.TokenInts.{integer_text}
use Rattle.starlark_token.specs.TokenTexts.{kind_of}
use Rattle.starlark_token.specs.TokenViews.{TokenView, Whole}
use Rattle.starlark_token.specs.TextItems.{LexerItem, Given, Refused, items}

-- a number below 256 as two hexadecimal digits
abbrev pub hex_pair : ℕ → Text
hex_pair byte = digit_char (byte / 16) ∷ digit_char (byte % 16) ∷ []

-- each byte as two hexadecimal digits
abbrev pub hex : Text → Text
hex bytes = flat_map hex_pair bytes

-- the printed name of an f-string's quotes
abbrev pub quotes_by : Quote → (is_triple : Bool) → Text
quotes_by SingleQuote false = codes "Single"
quotes_by DoubleQuote false = codes "Double"
quotes_by SingleQuote true = codes "TripleSingle"
quotes_by DoubleQuote true = codes "TripleDouble"

-- the printed name of the quotes of an f-string's opening
abbrev pub quotes_name : grammar.Opening → Text
quotes_name opening = quotes_by opening.quote opening.is_triple

-- the printed value of a token; that of a string or bytes literal is in hexadecimal digits
abbrev pub value_of : grammar.Token → Option Text
value_of (grammar.Comment text) = Some text
value_of (grammar.Identifier name) = Some name
value_of (grammar.Int value) = Some (integer_text value)
value_of (grammar.Float text) = Some text
value_of (grammar.String value) = Some (hex value)
value_of (grammar.Bytes value) = Some (hex value)
value_of (grammar.FStringStart opening) = Some (quotes_name opening)
value_of (grammar.FStringText value) = Some (hex value)
value_of token = None

-- a value, if there is one, after a space
abbrev pub after_space : Option Text → Text
after_space None = []
after_space (Some value) = codes " " ++ value

-- the printed value of a token after a space; empty for a token without one
unfoldable pub value_text : TokenView → Text
value_text (Whole token) = after_space (value_of token)
value_text view = []

-- the line of a lexeme: `begin-end place Kind`, and the value
unfoldable pub lexeme_text : (begin end : ℕ) → (place : Text) → TokenView → Text
lexeme_text begin end place node =
    decimal begin ++ codes "-" ++ decimal end ++ codes " " ++ place ++ codes " " ++ kind_of node ++ value_text node ++ codes "\n"

-- the message of a fault
unfoldable pub message_of : grammar.Fault → Text
message_of grammar.Indentation = codes "Parse error: incorrect indentation"
message_of (grammar.InvalidInput text) = codes "Parse error: invalid input `" ++ text ++ codes "`"
message_of grammar.InvalidTab = codes "Parse error: tabs are not allowed"
message_of grammar.UnfinishedStringLiteral = codes "Parse error: unfinished string literal"
message_of (grammar.InvalidEscapeSequence text) = codes "Parse error: invalid string escape sequence `" ++ text ++ codes "`"
message_of grammar.EmptyEscapeSequence = codes "Parse error: missing string escape sequence, only saw `\\`"
message_of (grammar.ReservedKeyword word) = codes "Parse error: cannot use reserved keyword `" ++ word ++ codes "`"
message_of (grammar.StartsZero word) = codes "Parse error: integer cannot have leading 0, got `" ++ word ++ codes "`"
message_of grammar.UnfinishedFStringExpression = codes "Parse error: f-string expression is missing closing `}`"

-- the line of a fault: `fault begin-end name:place message`
unfoldable pub fault_text : (begin end : ℕ) → (name place message : Text) → Text
fault_text begin end name place message =
    codes "fault " ++ decimal begin ++ codes "-" ++ decimal end ++ codes " " ++ name ++ codes ":" ++ place ++ codes " " ++ message ++ codes "\n"

-- the lines and columns of a span of a text, as a code map resolves it
abbrev pub place_text : Text → (begin end : ℕ) → Text
place_text text begin end = span_text (place_at text begin) (place_at text end)

-- the line of an item of a text
abbrev pub item_line : (name text : Text) → LexerItem → Text
item_line name text (Given lexeme) = lexeme_text lexeme.begin lexeme.end (place_text text lexeme.begin lexeme.end) lexeme.node
item_line name text (Refused fault) = fault_text fault.begin fault.end name (place_text text fault.begin fault.end) (message_of fault.node)

-- the lines of items of a text
unfoldable pub lines_of : (name text : Text) → List LexerItem → Text
lines_of name text list = flat_map (item_line name text) list

-- the whole output for a text: a line for each lexeme, and one for the fault if there is one
unfoldable pub output : (name text : Text) → Text
output name text = lines_of name text (items text)
