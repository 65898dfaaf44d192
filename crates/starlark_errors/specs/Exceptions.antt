-- Exceptions of faults.
use Rattle.std.specs.Prelude.{◌≡◌, Option, Some, None, ⊤}
use Rattle.starlark_base.specs.Spans.{SourceFile}
use Rattle.starlark_base.specs.Diagnostics.{Diagnosed, place_in, unplaced, with_span}
use Rattle.starlark_errors.specs.declared.error.kinds.ErrorKind.{ErrorKind}
use Rattle.starlark_errors.specs.declared.error.kinds.ErrorKind.TheVariants.{Parser}
use Rattle.starlark_errors.specs.declared.error.kinds.ParserMessage.TheVariants.{Lexeme}
use Rattle.starlark_grammar.specs.Tokens as grammar
use Rattle.starlark_token.specs.Lexemes.{fault_view}
use Rattle.starlark_token.specs.declared.lexeme_error.LexemeError.{LexemeError}

-- the exception of a fault: the lexer's error, with its span in the code map and without calls
abbrev pub IsException : SourceFile → grammar.Spanned grammar.Fault → Diagnosed ErrorKind → Type 0
IsException file fault exception = (error : LexemeError) × (fault_view error ≡ Some fault.node)
    × (exception ≡ with_span (unplaced (Parser (Lexeme error))) (place_in file (record { begin = fault.begin; end = fault.end })))

-- the exception of a fault that a text may have; there is one exactly if there is a fault
abbrev pub IsFaultIn : SourceFile → Option (grammar.Spanned grammar.Fault) → Option (Diagnosed ErrorKind) → Type 0
IsFaultIn file None None = ⊤
IsFaultIn file (Some fault) (Some exception) = IsException file fault exception
IsFaultIn file fault exception = ⊥
