-- Worked rows, closed by computing: what these faults say.
use Rattle.std.proofs.Common.{◌≡◌, ap, ◌++◌, string_bytes}
use Rattle.std.specs.Prelude.{String, codes, encode_utf8}
use Rattle.std.specs.Fmt.{digits}
use Rattle.std.specs.declared.alloc.Global.{Global}
use Rattle.starlark_grammar.specs.Words.{Text}
use Rattle.starlark_token.specs.FaultTexts.{fault_text}
use Rattle.starlark_token.specs.declared.lexeme_error.LexemeError.{LexemeError}
use Rattle.starlark_token.specs.declared.lexeme_error.LexemeError.TheVariants.{InvalidInput, StartsZero, CannotParse}

-- a fault over a text says this
abbrev Says : (String Global → LexemeError) → Text → Text → Type 0
Says fault text said = (t : String Global) → string_bytes t ≡ text → fault_text (fault t) ≡ said

invalid_input : Says InvalidInput (encode_utf8 233) (codes "Parse error: invalid input `" ++ encode_utf8 233 ++ codes "`")
unfolding fault_text
invalid_input t e = ap (λ bytes. codes "Parse error: invalid input `" ++ bytes ++ codes "`") e

starts_zero : Says StartsZero (codes "01") (codes "Parse error: integer cannot have leading 0, got `01`")
unfolding fault_text
starts_zero t e = ap (λ bytes. codes "Parse error: integer cannot have leading 0, got `" ++ bytes ++ codes "`") e

cannot_parse : Says (λ t. CannotParse t 10) (codes "1_0") (codes "Cannot parse `1_0` as an integer in base 10")
unfolding fault_text digits
cannot_parse t e = ap (λ bytes. codes "Cannot parse `" ++ bytes ++ codes "` as an integer in base 10") e
