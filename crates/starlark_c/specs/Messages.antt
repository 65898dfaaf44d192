-- The messages of faults.
use Rattle.std.specs.Prelude.{◌≡◌, ℕ, List, [], ◌∷◌, ◌++◌, get_or, codes, Some}
use Rattle.starlark_c.specs.Records.{fault_bytes, fault_number}
use Rattle.starlark_grammar.specs.Tokens as grammar
use Rattle.starlark_grammar.specs.Words.{Text}
use Rattle.starlark_token.specs.FaultTexts.{fault_text}
use Rattle.starlark_token.specs.Lexemes.{fault_view}
use Rattle.starlark_token.specs.declared.lexeme_error.LexemeError.{LexemeError}

-- the messages of faults, each at its number, with the text that the fault names; no fault has the number 0
unfoldable pub messages : (named : Text) → List Text
messages named =
    []
    ∷ codes "Parse error: incorrect indentation"
    ∷ (codes "Parse error: invalid input `" ++ named ++ codes "`")
    ∷ codes "Parse error: tabs are not allowed"
    ∷ codes "Parse error: unfinished string literal"
    ∷ (codes "Parse error: invalid string escape sequence `" ++ named ++ codes "`")
    ∷ codes "Parse error: missing string escape sequence, only saw `\\`"
    ∷ (codes "Parse error: cannot use reserved keyword `" ++ named ++ codes "`")
    ∷ (codes "Parse error: integer cannot have leading 0, got `" ++ named ++ codes "`")
    ∷ codes "Parse error: f-string expression is missing closing `}`"
    ∷ []

-- the message of the fault with a number; empty where no fault has it
unfoldable pub fault_message : ℕ → (named : Text) → Text
fault_message kind named = get_or (messages named) kind []

-- the message for this number and text is the one printed of each error whose fault has them
abbrev pub TellsErrors : ℕ → (named : Text) → Type 0
TellsErrors kind named =
    (error : LexemeError) (fault : grammar.Fault) → fault_view error ≡ Some fault → fault_number fault ≡ kind → fault_bytes fault ≡ named → fault_message kind named ≡ fault_text error
