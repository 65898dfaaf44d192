-- The words of the language: a table of tests on whole words, each with the class of the words that pass it.
use Rattle.std.specs.Prelude.{ℕ, Bool, true, false, ◌&&◌, ◌||◌, ◌==◌, if◌then◌else◌, not, nat_eq, List, [], ◌∷◌, ◌++◌, map, drop, Option, codes}
use Rattle.std.specs.Char.{is_ascii_alphabetic, is_ascii_digit, is_ascii_hexdigit, is_digit}
use Rattle.std.specs.List.{list_all, prefix_len}
use Rattle.std.specs.Map.{lookup}
use Rattle.std.specs.Str.{bytes_eq}
-- What the words are: the code's enumerations. A text being a list of bytes here, the kinds of literals have names of
-- their own, and so have the quotes.
pub use Rattle.starlark_grammar.specs.declared.class.Quote.{Quote}
pub use Rattle.starlark_grammar.specs.declared.class.Quote.TheVariants.{Single as SingleQuote, Double as DoubleQuote}
pub use Rattle.starlark_grammar.specs.declared.class.LiteralKind.{LiteralKind as Kind}
pub use Rattle.starlark_grammar.specs.declared.class.LiteralKind.TheVariants.{Text as OfText, Bytes as OfBytes, FString as OfFString}
pub use Rattle.starlark_grammar.specs.declared.class.Terminal.{Terminal}
pub use Rattle.starlark_grammar.specs.declared.class.Terminal.TheVariants.{OpeningSquare, OpeningCurly, OpeningRound, ClosingSquare, ClosingCurly, ClosingRound}
use Rattle.starlark_grammar.specs.declared.class.TheConstants.{NAMES, SYMBOLS}
pub use Rattle.starlark_grammar.specs.declared.class.Class.{Class}
pub use Rattle.starlark_grammar.specs.declared.class.Class.TheVariants.{Skipped, Comment, Tabs, LineEnd, Opener, Reserved, Identifier, Decimal, Hexadecimal, Octal, Binary, Float, Fixed}

-- a text is the list of its bytes
abbrev pub Text : Type 0
Text = List ℕ

-- a table of words, and the table of the language, whose earlier rows go before later ones
abbrev pub Table : Type 0
Table = List ((Text → Bool) × Class)

-- the class of a whole word by a table: that of the first row whose test it passes
unfoldable pub class_in : Table → Text → Option Class
class_in table word = lookup (λ is_word. is_word word) table

-- the rows of words that are listed
abbrev pub listed : List (Text × Class) → Table
listed = map (λ row. ((λ word. bytes_eq word row.0), row.1))

-- The openers of literals. One with an `r` is raw.
unfoldable pub openers : List (Text × Class)
openers =
    (codes "'", Opener OfText false SingleQuote) ∷ (codes "r'", Opener OfText true SingleQuote)
    ∷ (codes "\"", Opener OfText false DoubleQuote) ∷ (codes "r\"", Opener OfText true DoubleQuote)
    ∷ (codes "f'", Opener OfFString false SingleQuote) ∷ (codes "fr'", Opener OfFString true SingleQuote)
    ∷ (codes "rf'", Opener OfFString true SingleQuote)
    ∷ (codes "f\"", Opener OfFString false DoubleQuote) ∷ (codes "fr\"", Opener OfFString true DoubleQuote)
    ∷ (codes "rf\"", Opener OfFString true DoubleQuote)
    ∷ (codes "b'", Opener OfBytes false SingleQuote) ∷ (codes "br'", Opener OfBytes true SingleQuote)
    ∷ (codes "rb'", Opener OfBytes true SingleQuote)
    ∷ (codes "b\"", Opener OfBytes false DoubleQuote) ∷ (codes "br\"", Opener OfBytes true DoubleQuote)
    ∷ (codes "rb\"", Opener OfBytes true DoubleQuote)
    ∷ []

-- The line ends, and those that are escaped, which are skipped as spaces are.
unfoldable pub line_ends : List (Text × Class)
line_ends = (codes "\n", LineEnd) ∷ (codes "\r\n", LineEnd) ∷ (codes "\\\n", Skipped) ∷ (codes "\\\r\n", Skipped) ∷ []

-- The symbols, keywords and reserved words: the rows of `terminals!`.
unfoldable pub symbols : List (Text × Class)
symbols = SYMBOLS.0 ++ (SYMBOLS.1 ++ SYMBOLS.2)

unfoldable pub names : List (Text × Class)
names = NAMES.0 ++ (NAMES.1 ++ (NAMES.2 ++ (NAMES.3 ++ (NAMES.4 ++ (NAMES.5 ++ NAMES.6)))))

-- one byte or more, each of which passes
abbrev pub is_run : (ℕ → Bool) → Text → Bool
is_run test [] = false
is_run test (b ∷ bs) = test b && list_all test bs

-- whether the first byte passes
abbrev pub begins : (ℕ → Bool) → Text → Bool
begins test [] = false
begins test (b ∷ bs) = test b

-- a letter or `_`
abbrev pub is_name_start : ℕ → Bool
is_name_start b = is_ascii_alphabetic b || b == 95

-- a letter, `_` or a digit
abbrev pub is_in_name : ℕ → Bool
is_in_name b = is_name_start b || is_ascii_digit b

-- a letter or `_`, then any number of letters, `_` and digits
abbrev pub is_identifier : Text → Bool
is_identifier [] = false
is_identifier (b ∷ bs) = is_name_start b && list_all is_in_name bs

-- neither CR nor LF
abbrev pub is_in_line : ℕ → Bool
is_in_line b = not (b == 13) && not (b == 10)

-- `#`, then all but line ends
abbrev pub is_comment : Text → Bool
is_comment [] = false
is_comment (b ∷ bs) = b == 35 && list_all is_in_line bs

-- whether `0` and one of two letters stand at the front
abbrev pub has_base : ℕ → ℕ → Text → Bool
has_base lower upper (z ∷ letter ∷ rest) = z == 48 && (letter == lower || letter == upper)
has_base lower upper text = false

-- `0`, one of two letters, and one digit or more
abbrev pub is_based : ℕ → ℕ → (ℕ → Bool) → Text → Bool
is_based lower upper is_digit word = has_base lower upper word && is_run is_digit (drop 2 word)

abbrev pub is_octal_digit : ℕ → Bool
is_octal_digit b = is_digit b 8

abbrev pub is_binary_digit : ℕ → Bool
is_binary_digit b = is_digit b 2

-- what stands after the digits at the front
abbrev pub after_digits : Text → Text
after_digits text = drop (prefix_len is_ascii_digit text) text

abbrev pub begins_with_digit : Text → Bool
begins_with_digit = begins is_ascii_digit

-- a sign, plus or minus
abbrev pub is_sign : ℕ → Bool
is_sign b = b == 43 || b == 45

-- the length of the sign at the front of a text
abbrev pub sign_len : Text → ℕ
sign_len [] = 0
sign_len (b ∷ bs) = if is_sign b then 1 else 0

-- a text without the sign at its front, where one stands there
abbrev pub unsigned : Text → Text
unsigned text = drop (sign_len text) text

abbrev pub is_exponent_letter : ℕ → Bool
is_exponent_letter b = b == 101 || b == 69

-- `e` or `E`, perhaps a sign, and one digit or more
abbrev pub is_exponent : Text → Bool
is_exponent text = begins is_exponent_letter text && is_run is_ascii_digit (unsigned (drop 1 text))

-- nothing, or an exponent
abbrev pub ends_float : Text → Bool
ends_float [] = true
ends_float (b ∷ bs) = is_exponent (b ∷ bs)

abbrev pub is_point : ℕ → Bool
is_point b = b == 46

-- a point, perhaps digits, and perhaps an exponent
abbrev pub is_fraction : Text → Bool
is_fraction text = begins is_point text && ends_float (after_digits (drop 1 text))

-- what makes digits before it a float: a fraction or an exponent
abbrev pub makes_float : Text → Bool
makes_float word = is_fraction word || is_exponent word

-- digits, and then a fraction or an exponent
abbrev pub is_float : Text → Bool
is_float word = begins_with_digit word && makes_float (after_digits word)

-- a fraction that has a digit right after its point
abbrev pub is_pointed : Text → Bool
is_pointed word = is_fraction word && begins_with_digit (drop 1 word)

-- integers of another base than 10
abbrev pub based : Table
based =
    (is_based 120 88 is_ascii_hexdigit, Hexadecimal) ∷ (is_based 111 79 is_octal_digit, Octal)
    ∷ (is_based 98 66 is_binary_digit, Binary)
    ∷ []

abbrev pub numbers : Table
numbers = (is_run is_ascii_digit, Decimal) ∷ based ++ (is_float, Float) ∷ (is_pointed, Float) ∷ []

-- The classes of many words, each with its test.
unfoldable pub patterns : Table
patterns =
    (is_run (nat_eq 32), Skipped) ∷ (is_comment, Comment) ∷ (is_run (nat_eq 9), Tabs) ∷ (is_identifier, Identifier)
    ∷ numbers

-- The table with these rows of openers. That an earlier row goes before a later one is how a keyword wins over an
-- identifier.
abbrev pub table_with : List (Text × Class) → Table
table_with rows = listed rows ++ (listed line_ends ++ (listed symbols ++ (listed names ++ patterns)))

-- the table of the language
unfoldable pub language : Table
language = table_with openers
