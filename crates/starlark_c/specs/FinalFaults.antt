-- Faults of the front of a text that stay as they are, whatever follows the front.
use Rattle.std.specs.Prelude.{◌≡◌, ℕ, Bool, true, ◌++◌, Some}
use Rattle.starlark_grammar.specs.Joining.{is_decided}
use Rattle.starlark_grammar.specs.Reading.{outcome}
use Rattle.starlark_grammar.specs.Tokens.{Fault, Spanned}
use Rattle.starlark_grammar.specs.Words.{Text}

-- whether the fault of a front that ends at an offset is final: then what follows the front changes neither it nor a lexeme
-- before it
pub record IsFinal (front : Text) (end : ℕ) (told : Bool) : Type 0 where
  pub decides : (fault : Spanned Fault) → fault.end ≡ end → told ≡ is_decided front fault
  pub stays : told ≡ true → (fault : Spanned Fault) → (outcome front).fault ≡ Some fault → fault.end ≡ end → (rest : Text) → outcome (front ++ rest) ≡ outcome front
