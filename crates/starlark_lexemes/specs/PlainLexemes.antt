-- Lexemes whose value, if they have one, is a part of the text.
use Rattle.std.specs.Prelude.{◌≡◌, ℕ, ◌+◌, ◌-◌, Bool, true, false, drop, take}
use Rattle.std.specs.Str.{IsCharBoundary}
use Rattle.starlark_grammar.specs.Tokens as grammar
use Rattle.starlark_grammar.specs.Words.{Text}
use Rattle.starlark_lexemes.specs.declared.passed.Kind.{Kind}
use Rattle.starlark_lexemes.specs.declared.passed.Kind.TheVariants as kind
use Rattle.starlark_lexemes.specs.declared.passed.Passed.{Passed}
use Rattle.starlark_token.specs.Lexemes.{IsWithin}
use Rattle.starlark_token.specs.TokenViews.{TokenView, Whole}

-- whether a kind is that of a lexeme whose value, if it has one, is a part of the text
abbrev pub is_plain : Kind → Bool
is_plain kind.Made = false
is_plain kind.Layout = false
is_plain kind.Last = false
is_plain kind.OutOfMemory = false
is_plain it = true

-- the token of a plain kind, with its value if it has one; any other kind has none
abbrev pub token_of : Kind → Text → grammar.Token
token_of kind.Comment value = grammar.Comment value
token_of kind.Identifier value = grammar.Identifier value
token_of kind.String value = grammar.String value
token_of (kind.Word terminal) value = grammar.Word terminal
token_of kind.FStringExprEnd value = grammar.FStringExprEnd
token_of kind.Newline value = grammar.Newline
token_of kind.Indent value = grammar.Indent
token_of kind.Dedent value = grammar.Dedent
token_of kind.FStringText value = grammar.FStringText value
token_of kind.FStringExprStart value = grammar.FStringExprStart
token_of kind.FStringEnd value = grammar.FStringEnd
token_of it value = grammar.Newline

-- the value of a plain lexeme: a part of its text
abbrev pub plain_value : Text → Passed → Text
plain_value text plain = take (plain.value_end - plain.value_begin) (drop plain.value_begin text)

-- the token of a plain lexeme of a text
abbrev pub plain_token : Text → Passed → grammar.Token
plain_token text plain = token_of plain.kind (plain_value text plain)

-- a plain lexeme as the grammar sees it, in the form of the items of a text
abbrev pub plain_view : Text → Passed → grammar.Spanned TokenView
plain_view text plain = record { begin = plain.begin; node = Whole (plain_token text plain); end = plain.end }

-- how many quotes close the value of a plain lexeme
abbrev pub closing_len : Kind → ℕ
closing_len kind.String = 1
closing_len it = 0

-- a plain lexeme and its value lie in the text, at character boundaries, and the value ends with the lexeme or before the quote
-- that closes it
pub record IsPlainIn (text : Text) (plain : Passed) : Type 0 where
  pub kind : is_plain plain.kind ≡ true
  pub lexeme : IsWithin text plain.begin plain.end
  pub value : IsWithin text plain.value_begin plain.value_end
  pub begin : IsCharBoundary text plain.begin
  pub end : IsCharBoundary text plain.end
  pub value_begin : IsCharBoundary text plain.value_begin
  pub value_end : IsCharBoundary text plain.value_end
  pub closes : plain.value_end + closing_len plain.kind ≡ plain.end
