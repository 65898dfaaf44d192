-- Lexemes and errors of a text, as the code and as the grammar have them.
use Rattle.std.specs.Prelude.{◌≤◌, ◌<◌, ◌^◌, ℕ, false, length, Option, Some, None, string_bytes}
use Rattle.starlark_grammar.specs.Tokens as grammar
use Rattle.starlark_grammar.specs.Words.{Text}
use Rattle.starlark_token.specs.declared.lexeme_error.LexemeError.{LexemeError}
use Rattle.starlark_token.specs.declared.lexeme_error.LexemeError.TheVariants as fault
use Rattle.starlark_token.specs.TokenViews.{TokenView, Whole, token_view}
use Rattle.starlark_token.specs.declared.tokens.Token.{Token}

-- the fault of the grammar that an error of the code is, if it is one
abbrev pub fault_view : LexemeError → Option grammar.Fault
fault_view fault.Indentation = Some grammar.Indentation
fault_view (fault.InvalidInput text) = Some (grammar.InvalidInput (string_bytes text))
fault_view fault.InvalidTab = Some grammar.InvalidTab
fault_view fault.UnfinishedStringLiteral = Some grammar.UnfinishedStringLiteral
fault_view (fault.InvalidEscapeSequence text) = Some (grammar.InvalidEscapeSequence (string_bytes text))
fault_view fault.EmptyEscapeSequence = Some grammar.EmptyEscapeSequence
fault_view (fault.ReservedKeyword word) = Some (grammar.ReservedKeyword (string_bytes word))
fault_view (fault.StartsZero word) = Some (grammar.StartsZero (string_bytes word))
fault_view (fault.IntParse text) = None
fault_view fault.CommentSpanComputedIncorrectly = None
fault_view (fault.CannotParse text base) = None
fault_view fault.UnfinishedFStringExpression = Some grammar.UnfinishedFStringExpression

-- a token of the grammar as the code shows it: the start of an f-string doesn't say whether it is
-- raw
abbrev pub shown : grammar.Token → grammar.Token
shown (grammar.FStringStart opening) = grammar.FStringStart (record { is_raw = false; quote = opening.quote; is_triple = opening.is_triple })
shown token = token

-- a lexeme of the grammar as the code shows it
abbrev pub shown_lexeme : grammar.Lexeme → grammar.Spanned TokenView
shown_lexeme lexeme = record { begin = lexeme.begin; node = Whole (shown lexeme.node); end = lexeme.end }

-- a lexeme of the code: its begin, its token and its end
abbrev pub lexeme_view : ℕ × Token × ℕ → grammar.Spanned TokenView
lexeme_view lexeme = record { begin = lexeme.0; node = token_view lexeme.1; end = lexeme.2 }

-- both ends lie in the text, in order, and the text is short enough for positions
abbrev pub IsWithin : Text → ℕ → ℕ → Type 0
IsWithin text begin end = (begin ≤ end) × (end ≤ length text) × (length text < 2 ^ 32)
