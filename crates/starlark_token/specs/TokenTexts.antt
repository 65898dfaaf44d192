-- Names and printed forms of tokens.
use Rattle.std.specs.Prelude.{[], ◌++◌, if◌then◌else◌, length, map, slice_index, unwrap_or, Option, Some, codes}
use Rattle.std.specs.Char.{is_ascii_alphabetic}
use Rattle.std.specs.Map.{lookup}
use Rattle.std.specs.Fmt.{decimal, debug_str, ◌++?◌}
use Rattle.starlark_grammar.specs.PrintedWords.{word_of}
use Rattle.starlark_grammar.specs.contracts.class.TerminalPartialEq.TheImpl as terminals
use Rattle.starlark_grammar.specs.declared.class.TheConstants.{KINDS}
use Rattle.starlark_grammar.specs.Words.{Text}
use Rattle.starlark_grammar.specs.declared.class.Terminal.{Terminal}
use Rattle.starlark_grammar.specs.declared.class.Quote.{Quote}
use Rattle.starlark_grammar.specs.declared.class.Quote.TheVariants.{Single as SingleQuote, Double as DoubleQuote}
use Rattle.starlark_grammar.specs.declared.class.LiteralKind.{LiteralKind as Kind}
use Rattle.starlark_grammar.specs.declared.class.LiteralKind.TheVariants.{Text as OfText, Bytes as OfBytes, FString as OfFString}
use Rattle.starlark_grammar.specs.Tokens as grammar
use Rattle.starlark_token.specs.TokenInts.{integer_text}
use Rattle.starlark_token.specs.TokenViews.{TokenView, Whole, Tabs, Reserved, Opener, Decimal, Hexadecimal, Binary, Octal}

-- the name of a keyword or symbol: that in its row
unfoldable pub terminal_kind : Terminal → Text
terminal_kind terminal = unwrap_or (lookup ((terminals.ghosts).eq terminal) (map (λ row. (row.0, row.1.now)) KINDS)) []

-- the names of the tokens of the grammar
unfoldable pub whole_kind : grammar.Token → Text
whole_kind (grammar.Comment text) = codes "Comment"
whole_kind grammar.Indent = codes "Indent"
whole_kind grammar.Dedent = codes "Dedent"
whole_kind grammar.Newline = codes "Newline"
whole_kind (grammar.Identifier name) = codes "Identifier"
whole_kind (grammar.Int value) = codes "Int"
whole_kind (grammar.Float text) = codes "Float"
whole_kind (grammar.String value) = codes "String"
whole_kind (grammar.Bytes value) = codes "Bytes"
whole_kind (grammar.FStringStart opening) = codes "FStringStart"
whole_kind (grammar.FStringText value) = codes "FStringText"
whole_kind grammar.FStringExprStart = codes "FStringExprStart"
whole_kind grammar.FStringExprEnd = codes "FStringExprEnd"
whole_kind grammar.FStringBang = codes "FStringBang"
whole_kind grammar.FStringEnd = codes "FStringEnd"
whole_kind (grammar.Word terminal) = terminal_kind terminal

-- the names of all tokens of the code
unfoldable pub kind_of : TokenView → Text
kind_of (Whole token) = whole_kind token
kind_of Tabs = codes "Tabs"
kind_of Reserved = codes "Reserved"
kind_of (Opener OfText SingleQuote) = codes "RawSingleQuote"
kind_of (Opener OfText DoubleQuote) = codes "RawDoubleQuote"
kind_of (Opener OfFString SingleQuote) = codes "RawFStringSingleQuote"
kind_of (Opener OfFString DoubleQuote) = codes "RawFStringDoubleQuote"
kind_of (Opener OfBytes SingleQuote) = codes "RawByteSingleQuote"
kind_of (Opener OfBytes DoubleQuote) = codes "RawByteDoubleQuote"
kind_of Decimal = codes "RawDecInt"
kind_of Hexadecimal = codes "RawHexInt"
kind_of Binary = codes "RawBinInt"
kind_of Octal = codes "RawOctInt"

-- a keyword begins with a letter, and a symbol doesn't
abbrev pub sort_of : Text → Text
sort_of word = if is_ascii_alphabetic (slice_index word 0) then codes "keyword" else codes "symbol"

-- what it is, and then the name in single quotes
abbrev pub named : Text → Text → Text
named what name = what ++ (codes " '" ++ (name ++ codes "'"))

-- the letter of an opener
abbrev pub letter_of : Kind → Text
letter_of OfText = []
letter_of OfBytes = codes "b"
letter_of OfFString = codes "f"

-- the quote of an opener
abbrev pub quote_text : Quote → Text
quote_text SingleQuote = codes "'"
quote_text DoubleQuote = codes "\""

-- the printed form of a token that has no value; empty for one that has
unfoldable pub fixed_text : TokenView → Text
fixed_text (Whole grammar.Indent) = codes "new indentation block"
fixed_text (Whole grammar.Dedent) = codes "end of indentation block"
fixed_text (Whole grammar.Newline) = codes "new line"
fixed_text (Whole (grammar.FStringStart opening)) = codes "f-string start"
fixed_text (Whole grammar.FStringExprStart) = codes "f-string expression start '{'"
fixed_text (Whole grammar.FStringExprEnd) = codes "f-string expression end '}'"
fixed_text (Whole grammar.FStringBang) = codes "f-string bang '!'"
fixed_text (Whole grammar.FStringEnd) = codes "f-string end"
fixed_text (Whole (grammar.Word terminal)) = named (sort_of (word_of terminal)) (word_of terminal)
fixed_text (Whole token) = []
fixed_text Tabs = []
fixed_text Reserved = codes "reserved keyword"
fixed_text (Opener kind quote) = codes "starting " ++ (letter_of kind ++ quote_text quote)
fixed_text Decimal = codes "decimal integer literal"
fixed_text Hexadecimal = codes "hexadecimal integer literal"
fixed_text Binary = codes "binary integer literal"
fixed_text Octal = codes "octal integer literal"

-- the printed form of a token; left open for a string or an f-string text that isn't all ASCII
unfoldable pub token_text : TokenView → Option Text
token_text (Whole (grammar.Comment text)) = Some (named (codes "comment") text)
token_text (Whole (grammar.Identifier name)) = Some (named (codes "identifier") name)
token_text (Whole (grammar.Int value)) = Some (named (codes "integer literal") (integer_text value))
token_text (Whole (grammar.Float text)) = Some (named (codes "float literal") text)
token_text (Whole (grammar.String value)) = Some (codes "string literal ") ++? debug_str value
token_text (Whole (grammar.Bytes value)) = Some (codes "bytes literal (" ++ (decimal (length value) ++ codes " bytes)"))
token_text (Whole (grammar.FStringText value)) = Some (codes "f-string text ") ++? debug_str value
token_text view = Some (fixed_text view)
