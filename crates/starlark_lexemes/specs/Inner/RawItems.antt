-- Items of a text with their faults, not exceptions of them.
use Rattle.std.specs.Prelude.{ℕ, Option, Some, None, Result, Ok, Err, ⊤}
use Rattle.starlark_grammar.specs.Tokens.{Fault, Spanned}
use Rattle.starlark_reader.specs.Inner.Reader.{IsRaw}
use Rattle.starlark_text.specs.declared.or_memory.OrMemory.{OrMemory}
use Rattle.starlark_text.specs.declared.or_memory.OrMemory.TheVariants as refusal
use Rattle.starlark_token.specs.declared.lexeme_error.LexemeError.{LexemeError}
use Rattle.starlark_token.specs.declared.tokens.Token.{Token}

-- it holds of both offsets of a lexeme or a fault
abbrev pub OffsetsHold : (ℕ → ℕ → Type 0) → Option (Result (ℕ × Token × ℕ) (OrMemory (ℕ × LexemeError × ℕ))) → Type 0
OffsetsHold P (Some (Ok found)) = P found.0 found.2
OffsetsHold P (Some (Err (refusal.Error found))) = P found.0 found.2
OffsetsHold P answer = ⊤

-- the fault that a text may have, between two offsets; there is one exactly if there is a fault
abbrev pub IsRawIn : Option (Spanned Fault) → Option (ℕ × LexemeError × ℕ) → Type 0
IsRawIn None None = ⊤
IsRawIn (Some fault) (Some found) = IsRaw fault found
IsRawIn fault found = ⊥
