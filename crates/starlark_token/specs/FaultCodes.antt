-- The codes of faults. A code never changes, and is never used for another fault.
use Rattle.std.specs.Prelude.{Option, codes}
use Rattle.std.specs.Option.{option_map}
use Rattle.starlark_grammar.specs.Tokens.{Fault, Indentation, InvalidInput, InvalidTab, UnfinishedStringLiteral, InvalidEscapeSequence, EmptyEscapeSequence, ReservedKeyword, StartsZero, UnfinishedFStringExpression}
use Rattle.starlark_grammar.specs.Words.{Text}
use Rattle.starlark_token.specs.Lexemes.{fault_view}
use Rattle.starlark_token.specs.declared.lexeme_error.LexemeError.{LexemeError}

-- the code of each fault
unfoldable pub fault_code : Fault → Text
fault_code Indentation = codes "SL001"
fault_code (InvalidInput text) = codes "SL002"
fault_code InvalidTab = codes "SL003"
fault_code UnfinishedStringLiteral = codes "SL004"
fault_code (InvalidEscapeSequence text) = codes "SL005"
fault_code EmptyEscapeSequence = codes "SL006"
fault_code (ReservedKeyword word) = codes "SL007"
fault_code (StartsZero word) = codes "SL008"
fault_code UnfinishedFStringExpression = codes "SL009"

-- the code of an error, if it is a fault of a text
abbrev pub error_code : LexemeError → Option Text
error_code error = option_map fault_code (fault_view error)
