-- The outcome of a call as a plain record.
use Rattle.std.specs.Prelude.{◌≤◌, ◌+◌, ◌*◌, ℕ}
use Rattle.starlark_c.specs.declared.endings.Ending.{Ending}
use Rattle.starlark_c.specs.declared.endings.Ending.TheVariants as ending
use Rattle.starlark_c.specs.declared.outcomes.LexOutcome.{LexOutcome}
use Rattle.starlark_c.specs.declared.outcomes.TheConstants.{WHOLE, FAULT, FULL, NOT_UTF8, TOO_LONG, MEMORY}

-- an outcome with a status, and else 0
abbrev pub nothing : ℕ → LexOutcome
nothing status = record {
  status = status;
  fault_kind = 0;
  fault_begin = 0;
  fault_end = 0;
  fault_value_begin = 0;
  fault_value_len = 0;
  lexemes = 0;
  values = 0;
  next = 0;
  wanted_lexemes = 0;
  wanted_values = 0;
}

-- the outcome of how lexing a text of `len` bytes ends
abbrev pub outcome_record : (len : ℕ) → Ending → LexOutcome
outcome_record len (ending.Whole filled) = let none = nothing WHOLE in record none { lexemes = filled.lexemes; values = filled.values; next = len }
outcome_record len (ending.Fault filled fault) =
    let none = nothing FAULT in record none {
      fault_kind = fault.kind;
      fault_begin = fault.begin;
      fault_end = fault.end;
      fault_value_begin = fault.value_begin;
      fault_value_len = fault.value_len;
      lexemes = filled.lexemes;
      values = filled.values;
    }
outcome_record len (ending.Piece filled next) = let none = nothing FULL in record none { lexemes = filled.lexemes; values = filled.values; next = next }
outcome_record len (ending.Full wanted) = let none = nothing FULL in record none { wanted_lexemes = wanted.lexemes; wanted_values = wanted.values }
outcome_record len (ending.NotUtf8 valid) = let none = nothing NOT_UTF8 in record none { next = valid }
outcome_record len ending.TooLong = nothing TOO_LONG
outcome_record len (ending.Memory filled) = let none = nothing MEMORY in record none { lexemes = filled.lexemes; values = filled.values }

-- an outcome counts and wants no more lexemes and bytes of values than a text of `len` bytes can have
pub record AreBounded (len : ℕ) (outcome : LexOutcome) : Type 0 where
  pub lexemes : outcome.lexemes ≤ 2 * len + 1
  pub values : outcome.values ≤ len
  pub wanted_lexemes : outcome.wanted_lexemes ≤ 2 * len + 1
  pub wanted_values : outcome.wanted_values ≤ len
