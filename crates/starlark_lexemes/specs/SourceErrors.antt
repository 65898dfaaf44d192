-- Errors of lexing a whole source: which error of one call each is, and its printed form.
use Rattle.std.specs.Prelude.{ℕ, List, Option, Some, codes}
use Rattle.starlark_base.specs.Diagnostics.{Diagnosed}
use Rattle.starlark_base.specs.declared.codemap.refusals.SourceTooLong.{SourceTooLong}
use Rattle.starlark_errors.specs.declared.error.kinds.ErrorKind.{ErrorKind}
use Rattle.starlark_errors.specs.Errors.{error_text}
use Rattle.starlark_lexemes.specs.declared.source_error.SourceError.{SourceError}
use Rattle.starlark_lexemes.specs.declared.source_error.SourceError.TheVariants as source
use Rattle.starlark_text.specs.declared.or_memory.OrMemory.{OrMemory}
use Rattle.starlark_text.specs.declared.or_memory.OrMemory.TheVariants.{Error, Memory}

-- what an error of `CodeMap::new` or `LexedText::lex` becomes
abbrev pub error_of_length : OrMemory SourceTooLong → SourceError
error_of_length (Error refusal) = source.TooLong
error_of_length Memory = source.Memory

-- what an error of `Lexer::next` becomes
abbrev pub error_of_fault : OrMemory (Diagnosed ErrorKind) → SourceError
error_of_fault (Error exception) = source.Fault exception
error_of_fault Memory = source.Memory

-- the printed form
abbrev pub source_error_text : SourceError → Option (List ℕ)
source_error_text source.TooLong = Some (codes "source is longer than 4294967295 bytes")
source_error_text (source.Fault exception) = error_text exception
source_error_text source.Memory = Some (codes "out of memory")
