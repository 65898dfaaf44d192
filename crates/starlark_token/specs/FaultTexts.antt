-- The messages of errors.
use Rattle.std.specs.Prelude.{ℕ, List, ◌++◌, codes, string_bytes}
use Rattle.std.specs.Fmt.{decimal}
use Rattle.starlark_token.specs.declared.lexeme_error.LexemeError.{LexemeError}
use Rattle.starlark_token.specs.declared.lexeme_error.LexemeError.TheVariants.{Indentation, InvalidInput, InvalidTab, UnfinishedStringLiteral, InvalidEscapeSequence, EmptyEscapeSequence, ReservedKeyword, StartsZero, IntParse, CommentSpanComputedIncorrectly, CannotParse, UnfinishedFStringExpression}

-- the message of each error
unfoldable pub fault_text : LexemeError → List ℕ
fault_text Indentation = codes "Parse error: incorrect indentation"
fault_text (InvalidInput text) = codes "Parse error: invalid input `" ++ string_bytes text ++ codes "`"
fault_text InvalidTab = codes "Parse error: tabs are not allowed"
fault_text UnfinishedStringLiteral = codes "Parse error: unfinished string literal"
fault_text (InvalidEscapeSequence text) = codes "Parse error: invalid string escape sequence `" ++ string_bytes text ++ codes "`"
fault_text EmptyEscapeSequence = codes "Parse error: missing string escape sequence, only saw `\\`"
fault_text (ReservedKeyword word) = codes "Parse error: cannot use reserved keyword `" ++ string_bytes word ++ codes "`"
fault_text (StartsZero word) = codes "Parse error: integer cannot have leading 0, got `" ++ string_bytes word ++ codes "`"
fault_text (IntParse text) = codes "Parse error: failed to parse integer: `" ++ string_bytes text ++ codes "`"
fault_text CommentSpanComputedIncorrectly = codes "Comment span is computed incorrectly (internal error)"
fault_text (CannotParse text base) = codes "Cannot parse `" ++ string_bytes text ++ (codes "` as an integer in base " ++ decimal base)
fault_text UnfinishedFStringExpression = codes "Parse error: f-string expression is missing closing `}`"
