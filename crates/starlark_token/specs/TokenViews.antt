-- Tokens of the code, as the grammar sees them.
use Rattle.std.specs.Prelude.{Bool, true, false, string_bytes}
use Rattle.starlark_grammar.specs.declared.class.Terminal.TheVariants as terminal
use Rattle.starlark_grammar.specs.declared.class.Quote.{Quote}
use Rattle.starlark_grammar.specs.declared.class.Quote.TheVariants.{Single as SingleQuote, Double as DoubleQuote}
use Rattle.starlark_grammar.specs.declared.class.LiteralKind.{LiteralKind as Kind}
use Rattle.starlark_grammar.specs.declared.class.LiteralKind.TheVariants.{Text as OfText, Bytes as OfBytes, FString as OfFString}
use Rattle.starlark_grammar.specs.Tokens as grammar
use Rattle.starlark_token.specs.TokenInts.{integer_view}
use Rattle.starlark_token.specs.declared.fstring_style.FStringQuote.{FStringQuote}
use Rattle.starlark_token.specs.declared.fstring_style.FStringQuote.TheVariants.{Single, Double, TripleSingle, TripleDouble}
use Rattle.starlark_token.specs.declared.tokens.Token.{Token}
use Rattle.starlark_token.specs.declared.tokens.Token.TheVariants as token

-- a token of the grammar, or a word of the scanner that no token is made of yet
pub data TokenView : Type 0 where
  Whole : (token : grammar.Token) → TokenView
  Tabs : TokenView
  Reserved : TokenView
  Opener : (kind : Kind) (quote : Quote) → TokenView
  Decimal : TokenView
  Hexadecimal : TokenView
  Binary : TokenView
  Octal : TokenView

-- the opening of an f-string; a token doesn't say whether it is raw, so it is seen as one that
-- isn't
abbrev pub fstring_quote_view : FStringQuote → grammar.Opening
fstring_quote_view Single = record { is_raw = false; quote = SingleQuote; is_triple = false }
fstring_quote_view Double = record { is_raw = false; quote = DoubleQuote; is_triple = false }
fstring_quote_view TripleSingle = record { is_raw = false; quote = SingleQuote; is_triple = true }
fstring_quote_view TripleDouble = record { is_raw = false; quote = DoubleQuote; is_triple = true }

-- what each token of the code is to the grammar
unfoldable pub token_view : Token → TokenView
token_view (token.Comment text) = Whole (grammar.Comment (string_bytes text))
token_view token.Tabs = Tabs
token_view token.Indent = Whole grammar.Indent
token_view token.Dedent = Whole grammar.Dedent
token_view token.Newline = Whole grammar.Newline
token_view token.RawSingleQuote = Opener OfText SingleQuote
token_view token.RawDoubleQuote = Opener OfText DoubleQuote
token_view token.RawFStringSingleQuote = Opener OfFString SingleQuote
token_view token.RawFStringDoubleQuote = Opener OfFString DoubleQuote
token_view token.RawByteSingleQuote = Opener OfBytes SingleQuote
token_view token.RawByteDoubleQuote = Opener OfBytes DoubleQuote
token_view (token.Bytes bytes) = Whole (grammar.Bytes bytes.items)
token_view token.Reserved = Reserved
token_view (token.Identifier name) = Whole (grammar.Identifier (string_bytes name))
token_view token.RawDecInt = Decimal
token_view token.RawHexInt = Hexadecimal
token_view token.RawBinInt = Binary
token_view token.RawOctInt = Octal
token_view (token.Int number) = Whole (grammar.Int (integer_view number))
token_view (token.Float text) = Whole (grammar.Float (string_bytes text))
token_view (token.String text) = Whole (grammar.String (string_bytes text))
token_view (token.FStringStart quote) = Whole (grammar.FStringStart (fstring_quote_view quote))
token_view (token.FStringText text) = Whole (grammar.FStringText (string_bytes text))
token_view token.FStringExprStart = Whole grammar.FStringExprStart
token_view token.FStringExprEnd = Whole grammar.FStringExprEnd
token_view token.FStringBang = Whole grammar.FStringBang
token_view token.FStringEnd = Whole grammar.FStringEnd
token_view token.And = Whole (grammar.Word terminal.And)
token_view token.Break = Whole (grammar.Word terminal.Break)
token_view token.Continue = Whole (grammar.Word terminal.Continue)
token_view token.Def = Whole (grammar.Word terminal.Def)
token_view token.Elif = Whole (grammar.Word terminal.Elif)
token_view token.Else = Whole (grammar.Word terminal.Else)
token_view token.For = Whole (grammar.Word terminal.For)
token_view token.If = Whole (grammar.Word terminal.If)
token_view token.In = Whole (grammar.Word terminal.In)
token_view token.Lambda = Whole (grammar.Word terminal.Lambda)
token_view token.Load = Whole (grammar.Word terminal.Load)
token_view token.Not = Whole (grammar.Word terminal.Not)
token_view token.Or = Whole (grammar.Word terminal.Or)
token_view token.Pass = Whole (grammar.Word terminal.Pass)
token_view token.Return = Whole (grammar.Word terminal.Return)
token_view token.Comma = Whole (grammar.Word terminal.Comma)
token_view token.Semicolon = Whole (grammar.Word terminal.Semicolon)
token_view token.Colon = Whole (grammar.Word terminal.Colon)
token_view token.PlusEqual = Whole (grammar.Word terminal.PlusEqual)
token_view token.MinusEqual = Whole (grammar.Word terminal.MinusEqual)
token_view token.StarEqual = Whole (grammar.Word terminal.StarEqual)
token_view token.SlashEqual = Whole (grammar.Word terminal.SlashEqual)
token_view token.SlashSlashEqual = Whole (grammar.Word terminal.SlashSlashEqual)
token_view token.PercentEqual = Whole (grammar.Word terminal.PercentEqual)
token_view token.EqualEqual = Whole (grammar.Word terminal.EqualEqual)
token_view token.BangEqual = Whole (grammar.Word terminal.BangEqual)
token_view token.LessEqual = Whole (grammar.Word terminal.LessEqual)
token_view token.GreaterEqual = Whole (grammar.Word terminal.GreaterEqual)
token_view token.StarStar = Whole (grammar.Word terminal.StarStar)
token_view token.MinusGreater = Whole (grammar.Word terminal.MinusGreater)
token_view token.Equal = Whole (grammar.Word terminal.Equal)
token_view token.LessThan = Whole (grammar.Word terminal.LessThan)
token_view token.GreaterThan = Whole (grammar.Word terminal.GreaterThan)
token_view token.Minus = Whole (grammar.Word terminal.Minus)
token_view token.Plus = Whole (grammar.Word terminal.Plus)
token_view token.Star = Whole (grammar.Word terminal.Star)
token_view token.Percent = Whole (grammar.Word terminal.Percent)
token_view token.Slash = Whole (grammar.Word terminal.Slash)
token_view token.SlashSlash = Whole (grammar.Word terminal.SlashSlash)
token_view token.Dot = Whole (grammar.Word terminal.Dot)
token_view token.Ampersand = Whole (grammar.Word terminal.Ampersand)
token_view token.Pipe = Whole (grammar.Word terminal.Pipe)
token_view token.Caret = Whole (grammar.Word terminal.Caret)
token_view token.LessLess = Whole (grammar.Word terminal.LessLess)
token_view token.GreaterGreater = Whole (grammar.Word terminal.GreaterGreater)
token_view token.Tilde = Whole (grammar.Word terminal.Tilde)
token_view token.AmpersandEqual = Whole (grammar.Word terminal.AmpersandEqual)
token_view token.PipeEqual = Whole (grammar.Word terminal.PipeEqual)
token_view token.CaretEqual = Whole (grammar.Word terminal.CaretEqual)
token_view token.LessLessEqual = Whole (grammar.Word terminal.LessLessEqual)
token_view token.GreaterGreaterEqual = Whole (grammar.Word terminal.GreaterGreaterEqual)
token_view token.Ellipsis = Whole (grammar.Word terminal.Ellipsis)
token_view token.OpeningSquare = Whole (grammar.Word terminal.OpeningSquare)
token_view token.OpeningCurly = Whole (grammar.Word terminal.OpeningCurly)
token_view token.OpeningRound = Whole (grammar.Word terminal.OpeningRound)
token_view token.ClosingSquare = Whole (grammar.Word terminal.ClosingSquare)
token_view token.ClosingCurly = Whole (grammar.Word terminal.ClosingCurly)
token_view token.ClosingRound = Whole (grammar.Word terminal.ClosingRound)

-- the token is `Newline`
abbrev pub is_newline_view : TokenView → Bool
is_newline_view (Whole grammar.Newline) = true
is_newline_view view = false
