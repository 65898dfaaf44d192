-- What a writer took of reports, also if writing stopped.
use Rattle.std.specs.IoError.{error_kind}
use Rattle.std.specs.Io.KnownBytes.{Appends}
use Rattle.std.specs.List.{AllByRecursion, flat_map}
use Rattle.std.specs.Prelude.{◌≡◌, List, ◌++◌, ◌⊎◌, Result, Ok, Err, ⊤}
use Rattle.std.specs.declared.io.Error.{Error}
use Rattle.std.specs.declared.io.ErrorKind.TheVariants.{OutOfMemory}
use Rattle.starlark_base.specs.Places.{Text}
use Rattle.starlark_devices.specs.Calls.{WriterCalls, WriterCall, Flushed, WasWritten, TookSome, taken_by, Ending, Going, Broken, EndedBy}

-- the call took some bytes, or is a flush that succeeded
abbrev pub Succeeded : {W : Type 0} → WriterCall W → Type 0
Succeeded (Flushed (Ok x) after) = ⊤
Succeeded (Flushed (Err error) after) = ⊥
Succeeded call = TookSome call

-- a text was written to a writer by calls that took its bytes in order, with flushes among them; if writing stopped, one
-- call more failed, the last, so no failed call was tried again
pub record Took {W : Type 0} (calls : WriterCalls W) (ending : Ending) (old new : W) (taken : Text) : Type 0 where
  pub bytes : Appends (calls.contents old) (calls.contents new) taken
  pub log : List (WriterCall W)
  pub last : List (WriterCall W)
  pub given : flat_map taken_by log ≡ taken
  pub succeeded : AllByRecursion Succeeded log
  pub order : WasWritten calls old (log ++ last) new
  pub ended : EndedBy ending last

-- a text was written until a call failed, whose error it is, or until memory ran out: the error says so
abbrev pub Stops : {W : Type 0} → WriterCalls W → (old new : W) → (taken : Text) → Error → Type 0
Stops calls old new taken error =
    Took calls (Broken error) old new taken ⊎ (Took calls Going old new taken × (error_kind error ≡ OutOfMemory))

-- a beginning of a text was written, and then writing stopped
pub record StopsWithin {W : Type 0} (calls : WriterCalls W) (old new : W) (error : Error) (text : Text) : Type 0 where
  pub taken : Text
  pub left : Text
  pub stops : Stops calls old new taken error
  pub whole : taken ++ left ≡ text

-- the result of writing a text: it took all of it, and then maybe a flush, or a beginning of it
abbrev pub Takes : {W T : Type 0} → WriterCalls W → Ending → (old new : W) → Text → Result T Error → Type 0
Takes calls ending old new text (Ok x) = Took calls ending old new text
Takes calls ending old new text (Err error) = StopsWithin calls old new error text
