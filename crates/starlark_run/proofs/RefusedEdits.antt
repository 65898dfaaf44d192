-- How a run ends that prints nothing.
use Rattle.std.proofs.Common.{◌≡◌, [], false, refl, inr, Result, Ok, Err}
use Rattle.std.specs.Str.{IsUtf8}
use Rattle.starlark_base.specs.Places.{Text}
use Rattle.starlark_devices.proofs.Calls.{went_nil}
use Rattle.starlark_devices.specs.Calls.{WriterCalls}
use Rattle.starlark_run.specs.Output.{output}
use Rattle.starlark_run.specs.Runs.{IsPrinted, IsRun, IsWhole}
use Rattle.starlark_run.specs.Watch.{Watch}
use Rattle.starlark_run.specs.declared.ends.RunFault.{RunFault}
use Rattle.starlark_run.specs.declared.ends.RunFault.TheVariants as fault
use Rattle.starlark_run.specs.Inner.EditedTexts.{IsRefusal}

module _ {R W : Type 0} (calls : WriterCalls W) (name came : Text) (last : Result Text RunFault) (reader : Watch R) (old : Watch W) where
  without_memory : (l : Result Text RunFault) → old.failed ≡ false → IsPrinted calls name l old old (Err fault.Memory)
  without_memory (Ok text) sound = ((output name text, ([], went_nil calls old.device, refl)), sound)
  without_memory (Err fault.Memory) sound = refl
  without_memory (Err fault.TooLong) sound = refl
  without_memory (Err fault.NotUtf8) sound = refl
  without_memory (Err fault.Read) sound = refl
  without_memory (Err fault.Write) sound = refl
  without_memory (Err (fault.BadEdit at)) sound = refl

  -- nothing is printed: an edit is refused, or memory is
  pub run_refused : (why : RunFault) → IsRefusal last why → IsWhole reader came → IsUtf8 came → old.failed ≡ false → IsRun calls name came last reader old old (Err why)
  run_refused fault.Memory is whole utf8 sound = inr (whole, utf8, without_memory last sound)
  run_refused fault.TooLong is whole utf8 sound = rw is (inr (whole, utf8, refl))
  run_refused (fault.BadEdit at) is whole utf8 sound = rw is (whole, utf8, (refl, refl))
  run_refused fault.NotUtf8 is whole utf8 sound = absurd is
  run_refused fault.Read is whole utf8 sound = absurd is
  run_refused fault.Write is whole utf8 sound = absurd is
