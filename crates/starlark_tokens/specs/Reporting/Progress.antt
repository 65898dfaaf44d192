-- The line of progress on a terminal, and the screen that has it.
use Rattle.std.specs.Prelude.{◌≡◌, ℕ, ◌*◌, ◌-◌, Bool, true, false, nat_le, ◌∷◌, ◌++◌, codes, Option, Some, None, Result, ⊤}
use Rattle.std.specs.Fmt.{decimal}
use Rattle.std.specs.Time.{instant_nanos}
use Rattle.std.specs.declared.io.Error.{Error}
use Rattle.std.specs.declared.time.Instant.{Instant}
use Rattle.starlark_base.specs.Places.{Text}
use Rattle.starlark_devices.specs.Calls.{WriterCalls, WritesText}
use Rattle.starlark_tokens.specs.declared.reporting.screen.Progress.{Progress}
use Rattle.starlark_tokens.specs.declared.reporting.screen.Screen.{Screen}

-- the line that says how many of all files are done, from the start of the terminal's line
abbrev pub progress_line : (done total : ℕ) → Text
progress_line done total = codes "\r" ++ (decimal done ++ (codes " of " ++ (decimal total ++ codes " files")))

-- what clears the terminal's line: a carriage return, and the control sequence for the rest of the line
abbrev pub clearing : Text
clearing = 13 ∷ 27 ∷ codes "[K"

-- the line is on the terminal
abbrev pub is_shown : Option Progress → Bool
is_shown None = false
is_shown (Some progress) = progress.is_shown

-- progress whose line isn't on the terminal
abbrev pub hidden : Option Progress → Option Progress
hidden None = None
hidden (Some progress) = Some (record progress { is_shown = false })

-- it is time to write the line: so many milliseconds after it was written, or after the run began
abbrev pub is_due : Option Progress → (now : Instant) → Bool
is_due None now = false
is_due (Some progress) now = nat_le (progress.wait * 1000000) (instant_nanos now - instant_nanos progress.last)

-- progress over so many files that has begun: its line is first written after a second
abbrev pub begun : (total : ℕ) → (now : Instant) → Progress
begun total now = record { total = total; last = now; wait = 1000; is_shown = false }

-- progress whose line was written now, and is written again after a tenth of a second
abbrev pub shown_now : Option Progress → (now : Instant) → Option Progress
shown_now None now = None
shown_now (Some progress) now = Some (record progress { last = now; wait = 100; is_shown = true })

-- of how many files
abbrev pub total_of : Option Progress → ℕ
total_of None = 0
total_of (Some progress) = progress.total

-- a text was written to a terminal, or a beginning of it before a call that failed
abbrev pub Says : {T : Type 0} → WriterCalls T → T → T → Text → Type 0
Says calls old new text = (result : Result ⊤ Error) × WritesText calls old new text result

-- the terminal says a text if there is reason to; else it isn't called
abbrev pub SaysIf : {T : Type 0} → Bool → WriterCalls T → T → T → Text → Type 0
SaysIf true calls old new text = Says calls old new text
SaysIf false calls old new text = new ≡ old

-- The line of progress was cleared if it was shown. Nothing else changed.
pub record Clears {W T : Type 0} (calls : WriterCalls T) (old new : Screen W T) : Type 0 where
  pub said : SaysIf (is_shown old.progress) calls old.terminal new.terminal clearing
  pub after : new ≡ record old { terminal = new.terminal; progress = hidden old.progress }

-- The line of progress was written. Nothing else changed.
pub record Shows {W T : Type 0} (calls : WriterCalls T) (done : ℕ) (now : Instant) (old new : Screen W T) : Type 0 where
  pub said : Says calls old.terminal new.terminal (progress_line done (total_of old.progress))
  pub after : new ≡ record old { terminal = new.terminal; progress = shown_now old.progress now }

-- the line of progress was written if that is due; else nothing changed
abbrev pub ShowsIf : {W T : Type 0} → Bool → WriterCalls T → (done : ℕ) → (now : Instant) → (old new : Screen W T) → Type 0
ShowsIf true calls done now old new = Shows calls done now old new
ShowsIf false calls done now old new = new ≡ old

-- the line of progress was cleared, and then the output was called, by a call that takes it from one state to another
pub record Passes {W T : Type 0} (calls : WriterCalls T) (call : W → W → Type 0) (old new : Screen W T) : Type 0 where
  pub cleared : Screen W T
  pub clears : Clears calls old cleared
  pub called : call old.output new.output
  pub after : new ≡ record cleared { output = new.output }

-- a screen's account of its calls: each clears the line of progress, and then calls the output
abbrev pub screen_calls : {W T : Type 0} → (output : WriterCalls W) → (terminal : WriterCalls T) → WriterCalls (Screen W T)
screen_calls output terminal = record {
  contents = λ screen. output.contents screen.output;
  write = λ old piece result new. Passes terminal (λ before after. output.write before piece result after) old new;
  flush = λ old result new. Passes terminal (λ before after. output.flush before result after) old new;
}
