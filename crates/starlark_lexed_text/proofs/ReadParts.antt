-- What was read of a text, as a lexed text.
use Rattle.std.proofs.Common.{◌≡◌, Bool, true, false, ℕ, ◌+◌, ◌<◌, ◌≤◌, ◌^◌, List, [], ap, map, length, refl, subst, sym, arith, Some, None}
use Rattle.std.specs.Prelude.{Option, IfSome, if◌then◌else◌, option_map}
use Rattle.starlark_base.specs.Diagnostics.{Diagnosed}
use Rattle.starlark_base.specs.Sources.{SourceFile}
use Rattle.starlark_errors.specs.declared.error.kinds.ErrorKind.{ErrorKind}
use Rattle.starlark_grammar.specs.Words.{Text}
use Rattle.starlark_grammar.specs.Tokens.{Fault, Spanned, moved}
use Rattle.starlark_grammar.specs.Reading.{outcome}
use Rattle.starlark_lexed_text.specs.LexedTexts.{IsLexed}
use Rattle.starlark_errors.specs.Exceptions.{IsFaultIn}
use Rattle.starlark_token.specs.Lexemes.{lexeme_view}
use Rattle.starlark_token.specs.declared.lexeme_error.LexemeError.{LexemeError}
use Rattle.starlark_lexed_text.specs.Inner.LexedTexts.{AllNear, IsReadPart, part_view}
use Rattle.starlark_lexemes.specs.Inner.RawItems.{IsRawIn}
use Rattle.starlark_lexed_text.specs.declared.read_parts.ReadPart.{ReadPart}
use Rattle.starlark_lexemes.proofs.MovedFaults.{unmoved}
use Rattle.starlark_lexed_text.proofs.Within.{lexemes_near}
use Rattle.starlark_grammar.proofs.Order.Inside.{fault_within}
use Rattle.starlark_token.specs.declared.tokens.Token.{Token}

-- the fault of a text lies in it, so that it stays near where it is moved by `len` bytes
pub fault_near : (text : Text) (found : Option (ℕ × LexemeError × ℕ)) (len : ℕ) → IsRawIn (outcome text).fault found → len + length text < 2 ^ 32 → IfSome found (λ (raw : ℕ × LexemeError × ℕ). (raw.0 ≤ raw.2) × (len + raw.2 < 2 ^ 32))
fault_near text found len is short = go (outcome text).fault refl found is
  where
    go : (fault : Option (Spanned Fault)) → (outcome text).fault ≡ fault → (found : Option (ℕ × LexemeError × ℕ)) → IsRawIn fault found → IfSome found (λ (raw : ℕ × LexemeError × ℕ). (raw.0 ≤ raw.2) × (len + raw.2 < 2 ^ 32))
    go None e None is = tt
    go (Some fault) e (Some raw) is =
        let within = fault_within text fault e in
        (omega (arith, within.0, is.0, is.2), omega (arith, within.1, short, is.2))
    go fault e other is = absurd is

pub no_raw : (fault : Option (Spanned Fault)) → IsRawIn fault None → fault ≡ None
no_raw None is = refl
no_raw (Some fault) is = absurd is

-- nothing is moved by no bytes
pub unmoved_fault : (fault : Option (Spanned Fault)) → option_map (moved 0) fault ≡ fault
unmoved_fault None = refl
unmoved_fault (Some fault) = ap Some (unmoved fault)

pub lexed_part : (file : SourceFile) (text : Text) (part : ReadPart) (exception : Option (Diagnosed ErrorKind)) (reads : ℕ) → IsReadPart text (part_view part) → ((fault : Option (Spanned Fault)) → IsRawIn fault part.fault → IsFaultIn file (option_map (moved 0) fault) exception)
    → IsLexed file (record { text = text; lexemes = map lexeme_view part.lexemes.items; fault = exception; reads = reads })
lexed_part file text part exception reads is thrown = record { lexemes = is.lexemes; fault = subst (λ (f : Option (Spanned Fault)). IsFaultIn file f exception) (unmoved_fault (outcome text).fault) (thrown (outcome text).fault is.fault) }

-- the lexemes that are given lie near
pub given_near : (text : Text) (part : ReadPart) (gives : Bool) (given : List (ℕ × Token × ℕ)) → IsReadPart text (part_view part) → length text < 2 ^ 32 → given ≡ (if gives then part.lexemes.items else []) → AllNear given
given_near text part true given is short same = subst AllNear (sym same) (lexemes_near text part.lexemes.items is.lexemes short)
given_near text part false given is short same = subst AllNear (sym same) tt
