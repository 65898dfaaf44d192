-- How a run ends, from how reading and printing end.
use Rattle.std.proofs.Common.{◌≡◌, ◌↔◌, true, false, ap, refl, sym, subst, ◌∙◌, append-nil, inl, inr, Result, Ok, Err, IsErrOf, IfOk}
use Rattle.std.specs.Str.{IsUtf8}
use Rattle.starlark_base.specs.Places.{Text}
use Rattle.starlark_grammar.specs.Reading.{outcome}
use Rattle.starlark_devices.specs.Calls.{WriterCalls, Done, Went}
use Rattle.starlark_run.specs.Output.{output}
use Rattle.starlark_run.specs.Watch.{Watch}
use Rattle.starlark_run.specs.Writing.{Writes, WritesAll}
use Rattle.starlark_run.specs.Runs.{IsPrinted, IsRun, IsWhole, ending_of, status_of}
use Rattle.starlark_run.specs.declared.edited_runs.EditedRun.{EditedRun}
use Rattle.starlark_run.specs.declared.ends.RunFault.{RunFault}
use Rattle.starlark_run.specs.declared.ends.RunFault.TheVariants as fault
use Rattle.starlark_run.specs.declared.ends.RunStatus.{RunStatus}

module _ {R W : Type 0} (calls : WriterCalls W) (name came : Text) (last : Result Text RunFault) (reader : Watch R) (old new : Watch W) where
  -- a text is printed
  pub run_printed : (text : Text) (r : Result RunStatus RunFault) → last ≡ Ok text → IsWhole reader came → IsUtf8 came → WritesAll calls old new (output name text) r → IfOk r (λ status. status ≡ status_of (outcome text).fault) → IsRun calls name came last reader old new r
  unfolding Writes WritesAll
  run_printed text (Ok status) is whole utf8 writes same =
      let all = subst (Went calls Done old.device new.device) (sym (append-nil writes.0.0) ∙ writes.0.2) writes.0.1 in
      rw is (whole, utf8, (record { went = all; sound = writes.1 }, same))
  run_printed text (Err fault.Write) is whole utf8 writes same = rw is (whole, utf8, (writes.0, writes.1))
  run_printed text (Err fault.Memory) is whole utf8 writes same = rw is (inr (whole, utf8, (writes.0, writes.1)))
  run_printed text (Err fault.NotUtf8) is whole utf8 writes same = absurd writes
  run_printed text (Err fault.TooLong) is whole utf8 writes same = absurd writes
  run_printed text (Err fault.Read) is whole utf8 writes same = absurd writes
  run_printed text (Err (fault.BadEdit at)) is whole utf8 writes same = absurd writes

  whole_sound : IsWhole reader came → reader.failed ≡ true → ⊥
  whole_sound whole e = let sound = whole.sound in cc

  -- `Read` is told exactly where the reader failed, and `Write` exactly where the writer did
  pub read_told : (r : Result RunStatus RunFault) → IsRun calls name came last reader old new r → IsErrOf r fault.Read ↔ (reader.failed ≡ true)
  read_told (Ok status) run = (λ e. cc, λ e. absurd (whole_sound run.0 e))
  read_told (Err fault.Read) run = (λ e. run.0.failed, λ e. refl)
  read_told (Err fault.NotUtf8) run = (λ e. cc, λ e. absurd (whole_sound run.0 e))
  read_told (Err fault.TooLong) (inl long) = (λ e. cc, λ e. let sound = long.0.sound in cc)
  read_told (Err fault.TooLong) (inr whole) = (λ e. cc, λ e. absurd (whole_sound whole.0 e))
  read_told (Err fault.Write) run = (λ e. cc, λ e. absurd (whole_sound run.0 e))
  read_told (Err (fault.BadEdit at)) run = (λ e. cc, λ e. absurd (whole_sound run.0 e))
  read_told (Err fault.Memory) (inl stopped) = (λ e. cc, λ e. let sound = stopped.0.sound in cc)
  read_told (Err fault.Memory) (inr whole) = (λ e. cc, λ e. absurd (whole_sound whole.0 e))

  -- a writer that wasn't called is as sound as before
  untouched_sound : old.failed ≡ false → new ≡ old → new.failed ≡ true → ⊥
  untouched_sound sound same failed = let kept : new.failed ≡ false = ap (λ (w : Watch W). w.failed) same ∙ sound in cc

  printed_told : old.failed ≡ false → (l : Result Text RunFault) (r : Result RunStatus RunFault) → IsPrinted calls name l old new r → IsErrOf r fault.Write ↔ (new.failed ≡ true)
  printed_told before (Ok text) (Ok status) printed = (λ e. cc, λ e. let sound = printed.0.sound in cc)
  printed_told before (Ok text) (Err fault.Write) printed = (λ e. printed.1, λ e. refl)
  printed_told before (Ok text) (Err fault.Memory) printed = (λ e. cc, λ e. let sound = printed.1 in cc)
  printed_told before (Err fault.Memory) (Err fault.Memory) printed = (λ e. cc, λ e. absurd (untouched_sound before printed e))
  printed_told before (Err fault.TooLong) (Err fault.TooLong) printed = (λ e. cc, λ e. absurd (untouched_sound before printed e))
  printed_told before (Err why) (Err fault.Memory) printed = (λ e. cc, λ e. absurd (untouched_sound before printed e))
  printed_told before (Err (fault.BadEdit at)) (Err (fault.BadEdit told)) printed = (λ e. cc, λ e. absurd (untouched_sound before printed.0 e))
  printed_told before last result printed = absurd printed

  pub write_told : old.failed ≡ false → (r : Result RunStatus RunFault) → IsRun calls name came last reader old new r → IsErrOf r fault.Write ↔ (new.failed ≡ true)
  write_told before (Ok status) run = printed_told before last (Ok status) run.2
  write_told before (Err fault.Write) run = printed_told before last (Err fault.Write) run.2
  write_told before (Err (fault.BadEdit at)) run = printed_told before last (Err (fault.BadEdit at)) run.2
  write_told before (Err fault.NotUtf8) run = (λ e. cc, λ e. absurd (untouched_sound before run.2 e))
  write_told before (Err fault.Read) run = (λ e. cc, λ e. absurd (untouched_sound before run.1 e))
  write_told before (Err fault.TooLong) (inl long) = (λ e. cc, λ e. absurd (untouched_sound before long.1 e))
  write_told before (Err fault.TooLong) (inr whole) = printed_told before last (Err fault.TooLong) whole.2
  write_told before (Err fault.Memory) (inl stopped) = (λ e. cc, λ e. absurd (untouched_sound before stopped.1 e))
  write_told before (Err fault.Memory) (inr whole) = printed_told before last (Err fault.Memory) whole.2

  -- a run over edits fails as its ending does
  fails_alike : (r : Result EditedRun RunFault) (e : RunFault) → IsErrOf r e ↔ IsErrOf (ending_of r) e
  fails_alike (Ok edited) e = (λ i. cc, λ i. cc)
  fails_alike (Err why) e = (λ i. let same : why ≡ e = cc in ap Err same, λ i. let same : why ≡ e = cc in ap Err same)

  pub edited_read_told : (r : Result EditedRun RunFault) → IsRun calls name came last reader old new (ending_of r) → IsErrOf r fault.Read ↔ (reader.failed ≡ true)
  edited_read_told r run =
      let told = read_told (ending_of r) run in
      let alike = fails_alike r fault.Read in
      (λ e. told.0 (alike.0 e), λ e. alike.1 (told.1 e))

  pub edited_write_told : old.failed ≡ false → (r : Result EditedRun RunFault) → IsRun calls name came last reader old new (ending_of r) → IsErrOf r fault.Write ↔ (new.failed ≡ true)
  edited_write_told before r run =
      let told = write_told before (ending_of r) run in
      let alike = fails_alike r fault.Write in
      (λ e. told.0 (alike.0 e), λ e. alike.1 (told.1 e))
