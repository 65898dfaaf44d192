-- Calls that failed with an error of their own, not out of memory.
use Rattle.std.specs.Prelude.{⊤, Result, Ok, Err}
use Rattle.starlark_text.specs.declared.or_memory.OrMemory.{OrMemory}
use Rattle.starlark_text.specs.declared.or_memory.OrMemory.TheVariants.{Error, Memory}

-- the call failed with an error of its own
abbrev pub IsRefused : {A E : Type 0} → Result A (OrMemory E) → Type 0
IsRefused (Ok value) = ⊥
IsRefused (Err (Error refusal)) = ⊤
IsRefused (Err Memory) = ⊥
