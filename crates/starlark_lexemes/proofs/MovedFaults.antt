-- Exceptions of faults that are moved.
use Rattle.std.proofs.Common.{◌≡◌, ◌∙◌, ℕ, ◌+◌, refl, zero-add, rules}
use Rattle.starlark_base.specs.Diagnostics.{Diagnosed, place_in, unplaced, with_span}
use Rattle.starlark_base.specs.Sources.{SourceFile}
use Rattle.starlark_errors.specs.Exceptions.{IsException}
use Rattle.starlark_errors.specs.declared.error.kinds.ErrorKind.{ErrorKind}
use Rattle.starlark_errors.specs.declared.error.kinds.ErrorKind.TheVariants.{Parser}
use Rattle.starlark_errors.specs.declared.error.kinds.ParserMessage.TheVariants.{Lexeme}
use Rattle.starlark_grammar.specs.Tokens.{Fault, Spanned, moved}
use Rattle.starlark_reader.specs.Inner.Reader.{IsRaw}
use Rattle.starlark_token.specs.declared.lexeme_error.LexemeError.{LexemeError}

-- the exception of a fault that is moved
pub raw_thrown : (file : SourceFile) (len : ℕ) (fault : Spanned Fault) (found : ℕ × LexemeError × ℕ) (exception : Diagnosed ErrorKind) → IsRaw fault found
    → exception ≡ with_span (unplaced (Parser (Lexeme found.1))) (place_in file (record { begin = len + found.0; end = len + found.2 })) → IsException file (moved len fault) exception
raw_thrown file len fault found exception raw is = search rules

-- the exception of a fault, between its own offsets
pub thrown : (file : SourceFile) (fault : Spanned Fault) (found : ℕ × LexemeError × ℕ) (exception : Diagnosed ErrorKind) → IsRaw fault found
    → exception ≡ with_span (unplaced (Parser (Lexeme found.1))) (place_in file (record { begin = found.0; end = found.2 })) → IsException file fault exception
thrown file fault found exception raw is = (found.1, raw.1, is ∙ rw (raw.0, raw.2) refl)

-- moved by no byte is as it was
pub unmoved : {A : Type 0} (x : Spanned A) → moved 0 x ≡ x
unmoved x = rw (zero-add x.begin, zero-add x.end) refl
