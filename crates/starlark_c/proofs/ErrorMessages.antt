-- The messages of errors, found by the numbers of their faults.
use Rattle.std.proofs.Common.{◌≡◌, Some, subst, refl}
use Rattle.std.specs.Prelude.{string_bytes}
use Rattle.starlark_c.specs.Messages.{fault_message, messages}
use Rattle.starlark_c.specs.Records.{fault_bytes, fault_number}
use Rattle.starlark_grammar.specs.Tokens as grammar
use Rattle.starlark_token.specs.FaultTexts.{fault_text}
use Rattle.starlark_token.specs.Lexemes.{fault_view}
use Rattle.starlark_token.specs.declared.lexeme_error.LexemeError.{LexemeError}
use Rattle.starlark_token.specs.declared.lexeme_error.LexemeError.TheVariants as error

-- the message of an error that is a fault of the grammar
abbrev Told : LexemeError → grammar.Fault → Type 0
Told error fault = fault_message (fault_number fault) (fault_bytes fault) ≡ fault_text error

-- it is found by the fault's number and the text that the fault names
pub error_told : (error : LexemeError) (fault : grammar.Fault) → fault_view error ≡ Some fault → Told error fault
unfolding fault_message messages fault_number fault_bytes fault_text
error_told error.Indentation fault is = let same : grammar.Indentation ≡ fault = cc in subst (Told error.Indentation) same refl
error_told (error.InvalidInput text) fault is = let same : grammar.InvalidInput (string_bytes text) ≡ fault = cc in subst (Told (error.InvalidInput text)) same refl
error_told error.InvalidTab fault is = let same : grammar.InvalidTab ≡ fault = cc in subst (Told error.InvalidTab) same refl
error_told error.UnfinishedStringLiteral fault is = let same : grammar.UnfinishedStringLiteral ≡ fault = cc in subst (Told error.UnfinishedStringLiteral) same refl
error_told (error.InvalidEscapeSequence text) fault is = let same : grammar.InvalidEscapeSequence (string_bytes text) ≡ fault = cc in subst (Told (error.InvalidEscapeSequence text)) same refl
error_told error.EmptyEscapeSequence fault is = let same : grammar.EmptyEscapeSequence ≡ fault = cc in subst (Told error.EmptyEscapeSequence) same refl
error_told (error.ReservedKeyword word) fault is = let same : grammar.ReservedKeyword (string_bytes word) ≡ fault = cc in subst (Told (error.ReservedKeyword word)) same refl
error_told (error.StartsZero word) fault is = let same : grammar.StartsZero (string_bytes word) ≡ fault = cc in subst (Told (error.StartsZero word)) same refl
error_told (error.IntParse text) fault is = cc
error_told error.CommentSpanComputedIncorrectly fault is = cc
error_told (error.CannotParse text base) fault is = cc
error_told error.UnfinishedFStringExpression fault is = let same : grammar.UnfinishedFStringExpression ≡ fault = cc in subst (Told error.UnfinishedFStringExpression) same refl
