-- The outcome of lexing a text on after its faults, as a plain record.
use Rattle.std.specs.Prelude.{ℕ}
use Rattle.starlark_c.specs.declared.outcomes.TheConstants.{WHOLE, FULL, NOT_UTF8, TOO_LONG, MEMORY}
use Rattle.starlark_c.specs.declared.recovered_endings.RecoveredEnding.{RecoveredEnding}
use Rattle.starlark_c.specs.declared.recovered_endings.RecoveredEnding.TheVariants as ending
use Rattle.starlark_c.specs.declared.recovered_outcomes.RecoveredOutcome.{RecoveredOutcome}

-- an outcome with a status, and else 0
abbrev pub nothing_recovered : ℕ → RecoveredOutcome
nothing_recovered status = record {
  status = status;
  lexemes = 0;
  values = 0;
  faults = 0;
  next = 0;
  wanted_lexemes = 0;
  wanted_values = 0;
  wanted_faults = 0;
}

-- the outcome of how lexing a text of `len` bytes on after its faults ends
abbrev pub recovered_record : (len : ℕ) → RecoveredEnding → RecoveredOutcome
recovered_record len (ending.Whole filled) =
    let none = nothing_recovered WHOLE in record none { lexemes = filled.lexemes; values = filled.values; faults = filled.faults; next = len }
recovered_record len (ending.Full wanted) =
    let none = nothing_recovered FULL in record none { wanted_lexemes = wanted.lexemes; wanted_values = wanted.values; wanted_faults = wanted.faults }
recovered_record len (ending.NotUtf8 valid) = let none = nothing_recovered NOT_UTF8 in record none { next = valid }
recovered_record len ending.TooLong = nothing_recovered TOO_LONG
recovered_record len (ending.Memory filled) =
    let none = nothing_recovered MEMORY in record none { lexemes = filled.lexemes; values = filled.values; faults = filled.faults }
