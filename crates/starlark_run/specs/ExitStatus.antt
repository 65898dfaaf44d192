-- The exit status of `starlark_lex`.
use Rattle.std.specs.Prelude.{ℕ, Result, Ok, Err}
use Rattle.starlark_run.specs.declared.ends.RunFault.{RunFault}
use Rattle.starlark_run.specs.declared.ends.RunStatus.{RunStatus}
use Rattle.starlark_run.specs.declared.ends.RunStatus.TheVariants.{Clean, Fault}

-- 0 for a text without fault, 1 for one with a fault, and 2 where the run gave up
abbrev pub exit_status : Result RunStatus RunFault → ℕ
exit_status (Ok Clean) = 0
exit_status (Ok Fault) = 1
exit_status (Err fault) = 2
