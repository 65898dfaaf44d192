-- The exit status of `starlark_tokens`.
use Rattle.std.specs.IoError.{error_kind}
use Rattle.std.specs.Prelude.{◌≡◌, ℕ, ◌==◌, if◌then◌else◌, ◌⊎◌, Result, Ok, Err, ⊤}
use Rattle.std.specs.declared.io.Error.{Error}
use Rattle.std.specs.declared.io.ErrorKind.{ErrorKind}
use Rattle.std.specs.declared.io.ErrorKind.TheVariants.{BrokenPipe}
use Rattle.starlark_tokens.specs.declared.command_line.requests.Request.{Request}
use Rattle.starlark_tokens.specs.declared.command_line.requests.Request.TheVariants.{Unknown, Help, Version, Explain, Reports}
use Rattle.starlark_tokens.specs.declared.reporting.totals.Totals.{Totals}

-- of files: 2 if some file couldn't be read, else 1 if some file has a fault, else 0
abbrev pub status_of : Totals → ℕ
status_of totals = if totals.unreadable == 0 then (if totals.faults == 0 then 0 else 1) else 2

-- the status where the output can't be written, by why: 141 where nobody reads it, as a shell says it, and else 2
abbrev pub status_of_output : ErrorKind → ℕ
status_of_output BrokenPipe = 141
status_of_output kind = 2

-- the status of a run: that of its totals, or of why its output couldn't be written
abbrev pub status_of_run : Result Totals Error → ℕ
status_of_run (Ok totals) = status_of totals
status_of_run (Err error) = status_of_output (error_kind error)

-- the status of printing a text: 0, or that of why it couldn't be written
abbrev pub status_of_print : Result ⊤ Error → ℕ
status_of_print (Ok x) = 0
status_of_print (Err error) = status_of_output (error_kind error)

-- a status of printing a text
abbrev pub IsPrintStatus : ℕ → Type 0
IsPrintStatus status = (printed : Result ⊤ Error) × (status ≡ status_of_print printed)

-- a status of a run over sources
abbrev pub IsRunStatus : ℕ → Type 0
IsRunStatus status = (run : Result Totals Error) × (status ≡ status_of_run run)

-- a status of doing what is asked for: 2 for an unknown option, and for a code that no fault has
abbrev pub IsStatusOf : Request → ℕ → Type 0
IsStatusOf (Unknown option) status = status ≡ 2
IsStatusOf Help status = IsPrintStatus status
IsStatusOf Version status = IsPrintStatus status
IsStatusOf (Explain code) status = IsPrintStatus status ⊎ (status ≡ 2)
IsStatusOf (Reports reports) status = IsRunStatus status
