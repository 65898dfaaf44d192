-- What a run read and wrote, by its result.
use Rattle.std.specs.Prelude.{◌≡◌, ◌≤◌, ◌<◌, true, false, ◌⊎◌, length, Option, Some, None, Result, Ok, Err}
use Rattle.std.specs.Str.{IsUtf8}
use Rattle.starlark_base.specs.Places.{Text}
use Rattle.starlark_grammar.specs.Reading.{outcome}
use Rattle.starlark_grammar.specs.Tokens as grammar
use Rattle.starlark_devices.specs.Calls.{WriterCalls, Going, Done, Went}
use Rattle.starlark_run.specs.Edits.{greatest_len}
use Rattle.starlark_run.specs.Output.{output}
use Rattle.starlark_run.specs.Watch.{Watch}
use Rattle.starlark_run.specs.Writing.{TakesBeginning, TakesUntilFailure}
use Rattle.starlark_run.specs.declared.edited_runs.EditedRun.{EditedRun}
use Rattle.starlark_run.specs.declared.ends.RunFault.{RunFault}
use Rattle.starlark_run.specs.declared.ends.RunFault.TheVariants.{NotUtf8, TooLong, BadEdit, Read, Write, Memory}
use Rattle.starlark_run.specs.declared.ends.RunStatus.{RunStatus}
use Rattle.starlark_run.specs.declared.ends.RunStatus.TheVariants.{Clean, Fault}

-- the reader ended, no read failed, and what was read is at most `greatest_len` bytes
pub record IsWhole {R : Type 0} (reader : Watch R) (came : Text) : Type 0 where
  pub ended : reader.ended ≡ true
  pub sound : reader.failed ≡ false
  pub fits : length came ≤ greatest_len

-- the reader gave more than `greatest_len` bytes
pub record IsTooLong {R : Type 0} (reader : Watch R) (came : Text) : Type 0 where
  pub not_ended : reader.ended ≡ false
  pub sound : reader.failed ≡ false
  pub too_long : greatest_len < length came

-- a read failed
pub record IsBroken {R : Type 0} (reader : Watch R) (came : Text) : Type 0 where
  pub not_ended : reader.ended ≡ false
  pub failed : reader.failed ≡ true
  pub fits : length came ≤ greatest_len

-- memory ran out before the reader ended, and no read failed
pub record IsStopped {R : Type 0} (reader : Watch R) (came : Text) : Type 0 where
  pub not_ended : reader.ended ≡ false
  pub sound : reader.failed ≡ false
  pub fits : length came ≤ greatest_len

-- what was read from the reader, by the result of reading it to its end; `bytes_of` are the
-- result's bytes
abbrev pub IsRead : {R T : Type 0} → (T → Text) → (came : Text) → Watch R → Result T RunFault → Type 0
IsRead bytes_of came reader (Ok text) = IsWhole reader came × (bytes_of text ≡ came)
IsRead bytes_of came reader (Err NotUtf8) = IsWhole reader came × (¬ IsUtf8 came)
IsRead bytes_of came reader (Err TooLong) = IsTooLong reader came
IsRead bytes_of came reader (Err Read) = IsBroken reader came
IsRead bytes_of came reader (Err Memory) = IsStopped reader came
IsRead bytes_of came reader (Err fault) = ⊥

-- the writer took all of the text and nothing else, was flushed then, and didn't fail
pub record TookAll {W : Type 0} (calls : WriterCalls W) (old new : Watch W) (text : Text) : Type 0 where
  pub went : Went calls Done old.device new.device text
  pub sound : new.failed ≡ false

-- the writer wasn't called
abbrev pub IsUntouched : {W : Type 0} → (old new : Watch W) → Type 0
IsUntouched old new = new ≡ old

-- the status of a run over a text, by the text's fault
abbrev pub status_of : Option (grammar.Spanned grammar.Fault) → RunStatus
status_of None = Clean
status_of (Some fault) = Fault

-- what the writer took, by the result of printing; `last` is the text to print, or the reason that
-- there is none: then the writer isn't called. `name` is printed before the place of a fault. A
-- call of the writer that failed is its last one.
abbrev pub IsPrinted : {W : Type 0} → WriterCalls W → (name : Text) → (last : Result Text RunFault) → (old new : Watch W) → Result RunStatus RunFault → Type 0
IsPrinted calls name (Ok text) old new (Ok status) = TookAll calls old new (output name text) × (status ≡ status_of (outcome text).fault)
IsPrinted calls name (Ok text) old new (Err Write) = TakesUntilFailure calls old new (output name text) × (new.failed ≡ true)
IsPrinted calls name (Ok text) old new (Err Memory) = TakesBeginning calls Going old new (output name text) × (new.failed ≡ false)
IsPrinted calls name (Err TooLong) old new (Err TooLong) = IsUntouched old new
IsPrinted calls name (Err (BadEdit at)) old new (Err (BadEdit told)) = IsUntouched old new × (told ≡ at)
IsPrinted calls name (Err fault) old new (Err Memory) = IsUntouched old new
IsPrinted calls name last old new result = ⊥

-- what was read from the reader, and what the writer took, by the result of the run; `last` is what
-- the edits make of the text that was read
abbrev pub IsRun : {R W : Type 0} → WriterCalls W → (name came : Text) → (last : Result Text RunFault) → Watch R → (old new : Watch W) → Result RunStatus RunFault → Type 0
IsRun calls name came last reader old new (Err NotUtf8) = IsWhole reader came × (¬ IsUtf8 came) × IsUntouched old new
IsRun calls name came last reader old new (Err Read) = IsBroken reader came × IsUntouched old new
IsRun calls name came last reader old new (Err TooLong) =
    (IsTooLong reader came × IsUntouched old new)
    ⊎ (IsWhole reader came × IsUtf8 came × IsPrinted calls name last old new (Err TooLong))
IsRun calls name came last reader old new (Err Memory) =
    (IsStopped reader came × IsUntouched old new)
    ⊎ (IsWhole reader came × IsUtf8 came × IsPrinted calls name last old new (Err Memory))
IsRun calls name came last reader old new result = IsWhole reader came × IsUtf8 came × IsPrinted calls name last old new result

-- how a run over edits ended, without its counts of reads
abbrev pub ending_of : Result EditedRun RunFault → Result RunStatus RunFault
ending_of (Ok edited) = Ok edited.status
ending_of (Err fault) = Err fault
