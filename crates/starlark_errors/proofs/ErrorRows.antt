-- Worked rows, closed by computing: what these errors say.
use Rattle.std.proofs.Common.{◌≡◌, refl, [], ◌++◌, Option, Some, None}
use Rattle.std.specs.Prelude.{codes}
use Rattle.starlark_base.specs.Places.{Text}
use Rattle.starlark_base.specs.Sources.{file_span_text}
use Rattle.starlark_base.specs.declared.codemap.file_span.FileSpan.{FileSpan}
use Rattle.starlark_errors.specs.Errors.{error_text, kind_text, message_text}
use Rattle.starlark_token.specs.FaultTexts.{fault_text}
use Rattle.starlark_token.specs.declared.lexeme_error.LexemeError.TheVariants.{InvalidTab}
use Rattle.starlark_errors.specs.declared.error.kinds.ParserMessage.TheVariants.{Lexeme}
use Rattle.starlark_errors.specs.declared.error.kinds.ErrorKind.TheVariants.{Parser}

-- the first character of a file `f` with the source `ab`
abbrev first : FileSpan
first = record { file = record { id = 1; filename = codes "f"; source = codes "ab" }; span = record { begin = 0; end = 1 } }

-- what is printed of a tab at a place
abbrev Prints : Option FileSpan → Text → Type 0
Prints place said = error_text (record { value = Parser (Lexeme InvalidTab); span = place; call_stack = [] }) ≡ Some said

tabs :
    Prints None (codes "Parse error: tabs are not allowed")
    × Prints (Some first) (codes "Parse error: tabs are not allowed at " ++ file_span_text first.file first.span)
unfolding fault_text message_text kind_text
tabs = (refl, refl)
