-- Lexemes and faults as plain records, with their values one after another.
use Rattle.std.specs.Prelude.{ℕ, ℤ, pos, ◌+◌, Bool, true, false, List, [], ◌∷◌, length, Option}
use Rattle.std.specs.List.{flat_map}
use Rattle.starlark_c.specs.Kinds.{kind_number}
use Rattle.starlark_c.specs.TextParts.{part_in, record_with, stored}
use Rattle.starlark_c.specs.declared.records.FaultRecord.{FaultRecord}
use Rattle.starlark_c.specs.declared.records.LexemeRecord.{LexemeRecord}
use Rattle.starlark_grammar.specs.Numbers.{Integer, Small, Big}
use Rattle.starlark_grammar.specs.Tokens as grammar
use Rattle.starlark_grammar.specs.Words.{Text}
use Rattle.starlark_grammar.specs.declared.class.Quote.{Quote}
use Rattle.starlark_grammar.specs.declared.class.Quote.TheVariants.{Single, Double}
use Rattle.starlark_token.specs.TokenViews.{TokenView, Whole}

-- the bytes of an integer: the digits of one that doesn't fit in 32 bits
abbrev pub integer_bytes : Integer → Text
integer_bytes (Small value) = []
integer_bytes (Big is_negative digits base) = digits

-- the bytes of a token's value
abbrev pub token_bytes : grammar.Token → Text
token_bytes (grammar.Comment text) = text
token_bytes (grammar.Identifier name) = name
token_bytes (grammar.Int value) = integer_bytes value
token_bytes (grammar.Float text) = text
token_bytes (grammar.String value) = value
token_bytes (grammar.Bytes value) = value
token_bytes (grammar.FStringText value) = value
token_bytes token = []

-- the bytes of the value that a token of the code has
unfoldable pub value_bytes : TokenView → Text
value_bytes (Whole token) = token_bytes token
value_bytes view = []

-- the value of an integer that fits in 32 bits
abbrev pub small_value : Integer → ℤ
small_value (Small value) = value
small_value (Big is_negative digits base) = pos 0

-- the value of a token that is such an integer; 0 for all others
abbrev pub token_integer : grammar.Token → ℤ
token_integer (grammar.Int value) = small_value value
token_integer token = pos 0

-- that value of a token of the code
unfoldable pub integer : TokenView → ℤ
integer (Whole token) = token_integer token
integer view = pos 0

-- the numbers of an f-string's quotes
abbrev pub quotes_number : Quote → (is_triple : Bool) → ℕ
quotes_number Single false = 1
quotes_number Double false = 2
quotes_number Single true = 3
quotes_number Double true = 4

-- the base of an integer's digits, if it doesn't fit in 32 bits; no literal has a sign
abbrev pub digits_base : Integer → ℕ
digits_base (Small value) = 0
digits_base (Big is_negative digits base) = base

-- what a token has besides its value: an integer's base, or the quotes of an f-string
abbrev pub token_detail : grammar.Token → ℕ
token_detail (grammar.Int value) = digits_base value
token_detail (grammar.FStringStart opening) = quotes_number opening.quote opening.is_triple
token_detail token = 0

-- that number of a token of the code
unfoldable pub detail : TokenView → ℕ
detail (Whole token) = token_detail token
detail view = 0

-- the record of a lexeme whose value begins at an offset among the values
abbrev pub record_of : ℕ → grammar.Spanned TokenView → LexemeRecord
record_of at lexeme = record {
  begin = lexeme.begin;
  end = lexeme.end;
  kind = kind_number lexeme.node;
  detail = detail lexeme.node;
  integer = integer lexeme.node;
  value_begin = at;
  value_len = length (value_bytes lexeme.node);
}

-- what is put among the values for a lexeme, where some stay in a text
abbrev pub stored_bytes : Option Text → grammar.Spanned TokenView → Text
stored_bytes home lexeme = stored (part_in home lexeme) (value_bytes lexeme.node)

-- its record, where the values before it end at an offset among the values
abbrev pub record_in : Option Text → ℕ → grammar.Spanned TokenView → LexemeRecord
record_in home at lexeme = record_with (part_in home lexeme) (record_of at lexeme)

-- the values of lexemes, one after another
unfoldable pub values : Option Text → List (grammar.Spanned TokenView) → Text
values home lexemes = flat_map (λ (lexeme : grammar.Spanned TokenView). stored_bytes home lexeme) lexemes

-- the records of lexemes whose values begin at an offset
unfoldable pub records_from : Option Text → ℕ → List (grammar.Spanned TokenView) → List LexemeRecord
records_from home at [] = []
records_from home at (lexeme ∷ lexemes) = record_in home at lexeme ∷ records_from home (at + length (stored_bytes home lexeme)) lexemes

-- the records of lexemes, with the values from the start on
abbrev pub records : Option Text → List (grammar.Spanned TokenView) → List LexemeRecord
records home lexemes = records_from home 0 lexemes

-- the numbers of faults
unfoldable pub fault_number : grammar.Fault → ℕ
fault_number grammar.Indentation = 1
fault_number (grammar.InvalidInput text) = 2
fault_number grammar.InvalidTab = 3
fault_number grammar.UnfinishedStringLiteral = 4
fault_number (grammar.InvalidEscapeSequence text) = 5
fault_number grammar.EmptyEscapeSequence = 6
fault_number (grammar.ReservedKeyword word) = 7
fault_number (grammar.StartsZero word) = 8
fault_number grammar.UnfinishedFStringExpression = 9

-- the text that a fault names
unfoldable pub fault_bytes : grammar.Fault → Text
fault_bytes (grammar.InvalidInput text) = text
fault_bytes (grammar.InvalidEscapeSequence text) = text
fault_bytes (grammar.ReservedKeyword word) = word
fault_bytes (grammar.StartsZero word) = word
fault_bytes fault = []

-- the record of a fault whose text begins at an offset among the values
abbrev pub fault_record : ℕ → grammar.Spanned grammar.Fault → FaultRecord
fault_record at fault = record {
  kind = fault_number fault.node;
  begin = fault.begin;
  end = fault.end;
  value_begin = at;
  value_len = length (fault_bytes fault.node);
}
