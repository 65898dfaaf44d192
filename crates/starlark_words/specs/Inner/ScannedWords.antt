-- Words, and the tables and tests by which the scanner finds them.
use Rattle.std.specs.Prelude.{ℕ, ◌+◌, ◌*◌, Bool, true, false, not, ◌&&◌, ◌||◌, ◌==◌, if◌then◌else◌, List, [], ◌∷◌, ◌++◌, Option, None, Some, codes, drop, get_or, length, map, unwrap_or}
use Rattle.std.specs.Map.{lookup}
use Rattle.std.specs.Str.{bytes_eq}
use Rattle.std.specs.Char.{is_ascii_digit}
use Rattle.starlark_grammar.specs.Front.{longest_front}
use Rattle.starlark_grammar.specs.Words as grammar
use Rattle.starlark_grammar.specs.declared.class.TheConstants.{KINDS}
use Rattle.starlark_grammar.specs.declared.class.Class.{Class}
use Rattle.starlark_grammar.specs.declared.class.Terminal.{Terminal}
use Rattle.starlark_grammar.specs.declared.class.Class.TheVariants.{Binary, Comment, Decimal, Float, Hexadecimal, Identifier, Octal, Opener, Skipped, Tabs}
use Rattle.starlark_grammar.specs.declared.class.LiteralKind.TheVariants.{Text as OfText}
use Rattle.starlark_grammar.specs.declared.class.Quote.TheVariants.{Single as SingleQuote, Double as DoubleQuote}
use Rattle.starlark_words.specs.declared.scanner.word.Word.{Word}

-- a word at the front of a text, by its class and its length
abbrev pub word_view : Word → Class × ℕ
word_view word = (word.class, word.len)

-- the length of a word; 0 if there is none
abbrev pub word_len : Option Word → ℕ
word_len None = 0
word_len (Some word) = word.len

-- the quotes that open a text literal without a prefix
abbrev pub quotes : List (grammar.Text × Class)
quotes = (codes "'", Opener OfText false SingleQuote) ∷ (codes "\"", Opener OfText false DoubleQuote) ∷ []

-- quotes, line ends, escaped or not, and symbols
unfoldable pub marks : List (grammar.Text × Class)
marks = quotes ++ (grammar.line_ends ++ grammar.symbols)

-- the class of a mark
abbrev pub mark_of : grammar.Text → Option Class
mark_of word = lookup (bytes_eq word) marks

-- the text begins with a point and a digit
abbrev pub begins_fraction : grammar.Text → Bool
begins_fraction (a ∷ b ∷ rest) = a == 46 && is_ascii_digit b
begins_fraction text = false

-- the longest mark at the front of a text; where a point begins a number there is none
abbrev pub mark_front : grammar.Text → Option (Class × ℕ)
mark_front text = if begins_fraction text then None else longest_front mark_of text

-- the number of a word: its bytes, the first one lowest
unfoldable pub word_number : grammar.Text → ℕ
word_number [] = 0
word_number (b ∷ word) = b + 256 * word_number word

-- the keywords by the numbers of their kinds
abbrev pub keyword_kinds : List (ℕ × Terminal)
keyword_kinds = map (λ row. (row.2, row.0)) (drop (length grammar.symbols) KINDS)

-- the class of a name
abbrev pub class_of_name : grammar.Text → Class
class_of_name name = unwrap_or (lookup (bytes_eq name) grammar.names) Identifier

-- the text begins with a digit, or with a point and a digit
abbrev pub begins_number : grammar.Text → Bool
begins_number [] = false
begins_number (a ∷ []) = is_ascii_digit a
begins_number (a ∷ b ∷ rest) = is_ascii_digit a || (a == 46 && is_ascii_digit b)

-- whether words of a class are numbers
abbrev pub is_number : Class → Bool
is_number Decimal = true
is_number Hexadecimal = true
is_number Octal = true
is_number Binary = true
is_number Float = true
is_number class = false

-- whether words of a class are gaps, tabs or comments
abbrev pub is_trivia : Class → Bool
is_trivia Skipped = true
is_trivia Tabs = true
is_trivia Comment = true
is_trivia class = false

-- whether the first two bytes tell words of a class: names, symbols, line ends and openers
abbrev pub is_common : Class → Bool
is_common class = not (is_number class || is_trivia class)

abbrev pub is_common_front : Option (Class × ℕ) → Bool
is_common_front None = false
is_common_front (Some front) = is_common front.0

-- a symbol, a line end or a quote is at the front of the text
abbrev pub begins_mark : grammar.Text → Bool
begins_mark text = is_common_front (mark_front text)

-- how many bytes are read to see whether a mark is at the front: the third one where it is like the
-- first two
abbrev pub peeked_len : grammar.Text → ℕ
peeked_len text = if get_or text 1 0 == get_or text 0 0 then 3 else 2

-- how many bytes are read in all, where no name is at the front: of an LF only that
abbrev pub looked_len : grammar.Text → ℕ
looked_len text = if get_or text 0 0 == 10 then 1 else peeked_len text

-- a byte that may be part of a number
abbrev pub may_be_in_number : ℕ → Bool
may_be_in_number c = grammar.is_in_name c || c == 46

-- the text begins with a digit, and the next byte can't be part of a number
abbrev pub is_digit_alone : grammar.Text → Bool
is_digit_alone [] = false
is_digit_alone (a ∷ []) = is_ascii_digit a
is_digit_alone (a ∷ b ∷ rest) = is_ascii_digit a && not (may_be_in_number b)
