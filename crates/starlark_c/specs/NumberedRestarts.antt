-- Where lexing begins again after a fault that is given by its numbers.
use Rattle.std.specs.Prelude.{◌≡◌, ◌<◌, ◌≤◌, ◌^◌, ◌-◌, ◌⊎◌, ℕ, length, Some}
use Rattle.std.specs.Str.{IsCharBoundary, IsUtf8}
use Rattle.starlark_c.specs.Records.{fault_number}
use Rattle.starlark_grammar.specs.Reading.{outcome}
use Rattle.starlark_grammar.specs.Tokens.{Fault, Spanned}
use Rattle.starlark_grammar.specs.Words.{Text}
use Rattle.starlark_grammar.specs.Recovery.{restart}

-- the offsets and the kind of a fault, as an outcome tells them
pub record AreOf (fault : Spanned Fault) (begin end kind : ℕ) : Type 0 where
  pub begins : begin ≡ fault.begin
  pub ends : end ≡ fault.end
  pub is_kind : kind ≡ fault_number fault.node

-- two offsets of a text, in order, each between two characters
pub record IsSpan (text : Text) (begin end : ℕ) : Type 0 where
  pub utf8 : IsUtf8 text
  pub order : begin ≤ end
  pub starts : IsCharBoundary text begin
  pub ends : IsCharBoundary text end

-- what is returned where no fault of a text has the numbers: the greatest number of 64 bits
abbrev pub no_restart : ℕ
no_restart = 2 ^ 64 - 1

-- the result of asking where lexing begins again, by the numbers of a fault
pub record IsRestart (text : Text) (begin end kind told : ℕ) : Type 0 where
  pub of_text : (fault : Spanned Fault) → (outcome text).fault ≡ Some fault → AreOf fault begin end kind → IsUtf8 text → told ≡ restart text fault
  pub of_span : (fault : Spanned Fault) → AreOf fault begin end kind → IsSpan text begin end → told ≡ restart text fault
  pub no_span : ¬ IsSpan text begin end → told ≡ no_restart
  pub no_kind : (kind ≡ 0) ⊎ (9 < kind) → told ≡ no_restart
  pub inside : (told ≤ length text) ⊎ (told ≡ no_restart)
