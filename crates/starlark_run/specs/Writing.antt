-- What a writer took of a text, also if a step failed.
use Rattle.std.specs.Prelude.{◌≡◌, true, false, [], ◌++◌, Result, Ok, Err, ⊤}
use Rattle.std.specs.declared.io.Error.{Error}
use Rattle.starlark_base.specs.Places.{Text}
use Rattle.starlark_devices.specs.Calls.{WriterCalls, Ending, Going, Done, Broken, Went}
use Rattle.starlark_run.specs.Watch.{Watch}
use Rattle.starlark_run.specs.declared.ends.RunFault.{RunFault}
use Rattle.starlark_run.specs.declared.ends.RunFault.TheVariants.{Write, Memory}

-- the writer took the text except for its end `left`, and nothing else
abbrev pub Takes : {W : Type 0} → WriterCalls W → Ending → Watch W → Watch W → Text → Text → Type 0
Takes calls ending old new text left = (taken : Text) × Went calls ending old.device new.device taken × (taken ++ left ≡ text)

-- the writer took a beginning of the text, and nothing else
abbrev pub TakesBeginning : {W : Type 0} → WriterCalls W → Ending → Watch W → Watch W → Text → Type 0
TakesBeginning calls ending old new text = (left : Text) × Takes calls ending old new text left

-- the writer took a beginning of the text, and nothing else, before a call of it failed
abbrev pub TakesUntilFailure : {W : Type 0} → WriterCalls W → Watch W → Watch W → Text → Type 0
TakesUntilFailure calls old new text = (error : Error) × TakesBeginning calls (Broken error) old new text

-- the result of a step that writes a text except for its pending end; after a failure a beginning
-- of the text is written, and the call that failed is the writer's last
unfoldable pub Writes : {W T : Type 0} → WriterCalls W → Watch W → Watch W → Text → Text → Result T RunFault → Type 0
Writes calls old new text waiting (Ok x) = Takes calls Going old new text waiting × (new.failed ≡ false)
Writes calls old new text waiting (Err Write) = TakesUntilFailure calls old new text × (new.failed ≡ true)
Writes calls old new text waiting (Err Memory) = TakesBeginning calls Going old new text × (new.failed ≡ false)
Writes calls old new text waiting (Err fault) = ⊥

-- the result of a step that writes a whole text, and then flushes the writer
unfoldable pub WritesAll : {W T : Type 0} → WriterCalls W → Watch W → Watch W → Text → Result T RunFault → Type 0
WritesAll calls old new text (Ok x) = Takes calls Done old new text [] × (new.failed ≡ false)
WritesAll calls old new text (Err fault) = Writes {T = ⊤} calls old new text [] (Err fault)
