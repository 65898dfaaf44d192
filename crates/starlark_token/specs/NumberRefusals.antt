-- The errors of parsing an integer.
use Rattle.std.specs.Prelude.{◌≡◌, ℕ, None, string_bytes, IsSomeAnd, ◌⊎◌}
use Rattle.starlark_text.specs.declared.or_memory.OrMemory.{OrMemory}
use Rattle.starlark_text.specs.declared.or_memory.OrMemory.TheVariants.{Error, Memory}
use Rattle.starlark_grammar.specs.Words.{Text}
use Rattle.starlark_grammar.specs.Numbers.{integer_in}
use Rattle.starlark_token.specs.TokenInts.{IsBig}
use Rattle.starlark_token.specs.declared.lexeme_error.LexemeError.{LexemeError}
use Rattle.starlark_token.specs.declared.lexeme_error.LexemeError.TheVariants.{CannotParse}

-- the error names the text and the base
abbrev pub CannotParseText : ℕ → Text → LexemeError → Type 0
CannotParseText base text (CannotParse named in_base) = (string_bytes named ≡ text) × (in_base ≡ base)
CannotParseText base text fault = ⊥

-- the text is no integer and the error says so, or memory ran out, but not for an integer that fits
-- in 32 bits
abbrev pub RefusesNumber : ℕ → Text → OrMemory LexemeError → Type 0
RefusesNumber base text (Error fault) = (integer_in base text ≡ None) × CannotParseText base text fault
RefusesNumber base text Memory = (integer_in base text ≡ None) ⊎ IsSomeAnd (integer_in base text) IsBig
