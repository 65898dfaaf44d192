-- What steps write one after another.
use Rattle.std.proofs.Common.{◌<◌, length, true, arith, ◌≡◌, ◌++◌, [], false, refl, sym, ap, ◌∙◌, append_assoc, append-nil, ℕ, Result, Ok, Err, OnOk, ◌≢◌, ◌⊎◌, inl, inr, ◌+◌, ◌≤◌, length-append}
use Rattle.std.specs.Io.KnownBytes.{Keeps}
use Rattle.std.specs.declared.io.Error.{Error}
use Rattle.std.proofs.lemmas.Bool.{eq-eqb, ne_eqb}
use Rattle.starlark_base.specs.Places.{Text}
use Rattle.starlark_devices.proofs.Calls.{went_broken, went_done, went_nil, went_trans}
use Rattle.starlark_devices.specs.Calls.{WriterCalls, Flushed, Ending, Going, Done, Broken, WritesText}
use Rattle.starlark_run.specs.Watch.{Watch, is_nothing}
use Rattle.starlark_run.specs.Writing.{Takes, TakesBeginning, Writes, WritesAll}
use Rattle.starlark_run.specs.declared.ends.RunFault.{RunFault}
use Rattle.starlark_run.specs.declared.ends.RunFault.TheVariants.{NotUtf8, TooLong, BadEdit, Read, Write, Memory}

-- what holds anyhow holds where there is a value
pub on_ok : {T E : Type 0} {P : Type 0} (r : Result T E) → P → OnOk r P
on_ok (Ok x) p = p
on_ok (Err e) p = tt

-- the buffer's bytes and a text fit, where the bytes are none or there is room
pub fits_empty : (waiting text : Text) (most : ℕ) → (waiting ≡ []) ⊎ (length waiting + length text ≤ most) → length text < most → length (waiting ++ text) ≤ most
fits_empty waiting text most (inl none) short = rw none (omega (arith, short))
fits_empty waiting text most (inr fit) short = rw (length-append waiting text) fit

pub fits_room : (waiting text : Text) (most : ℕ) → (waiting ≡ []) ⊎ (length waiting + length text ≤ most) → (waiting ≢ []) → length (waiting ++ text) ≤ most
fits_room waiting text most (inl none) some = absurd (some none)
fits_room waiting text most (inr fit) some = rw (length-append waiting text) fit

module _ {W : Type 0} (calls : WriterCalls W) where
  -- nothing was taken
  pub takes_none : (old : Watch W) (text : Text) → Takes calls Going old old text text
  takes_none old text = ([], went_nil calls old.device, refl)

  -- what one step left and a second text are the text of the next step
  pub takes_more : (ending : Ending) (a b c : Watch W) (x y waiting left : Text) → Takes calls Going a b x waiting → Takes calls ending b c (waiting ++ y) left → Takes calls ending a c (x ++ y) left
  takes_more ending a b c x y waiting left first next = (
    first.0 ++ next.0,
    went_trans calls ending a.device b.device c.device first.0 next.0 first.1 next.1,
    append_assoc first.0 next.0 left ∙ ap (λ t. first.0 ++ t) next.2 ∙ sym (append_assoc first.0 waiting y) ∙ ap (λ t. t ++ y) first.2,
  )

  -- a beginning of a text is one of a longer text
  pub takes_of_longer : (ending : Ending) (a b : Watch W) (x y : Text) → TakesBeginning calls ending a b x → TakesBeginning calls ending a b (x ++ y)
  takes_of_longer ending a b x y h = (h.0 ++ y, (h.1.0, h.1.1, sym (append_assoc h.1.0 h.0 y) ∙ ap (λ t. t ++ y) h.1.2))

  pub writes_more : {T U : Type 0} (a b c : Watch W) (x y waiting left : Text) (u : U) (r : Result T RunFault) → Writes {T = U} calls a b x waiting (Ok u) → Writes calls b c (waiting ++ y) left r → Writes calls a c (x ++ y) left r
  unfolding Writes
  writes_more a b c x y waiting left u (Ok t) first next = (takes_more Going a b c x y waiting left first.0 next.0, next.1)
  writes_more a b c x y waiting left u (Err Write) first next =
      ((next.0.0, (next.0.1.0, takes_more (Broken next.0.0) a b c x y waiting next.0.1.0 first.0 next.0.1.1)), next.1)
  writes_more a b c x y waiting left u (Err Memory) first next =
      ((next.0.0, takes_more Going a b c x y waiting next.0.0 first.0 next.0.1), next.1)
  writes_more a b c x y waiting left u (Err NotUtf8) first next = next
  writes_more a b c x y waiting left u (Err TooLong) first next = next
  writes_more a b c x y waiting left u (Err Read) first next = next
  writes_more a b c x y waiting left u (Err (BadEdit at)) first next = next

  pub writes_sound : {T : Type 0} (a b : Watch W) (x waiting : Text) (t : T) → Writes calls a b x waiting (Ok t) → b.failed ≡ false
  unfolding Writes
  writes_sound a b x waiting t h = h.1

  -- a text that went by calls of the writer alone
  pub writes_text : (T U : Type 0) (a b : Watch W) (text : Text) (t : T) (u : U) → WritesText calls a.device b.device text (Ok t) → b.failed ≡ false → Writes calls a b text [] (Ok u)
  unfolding WritesText Writes
  writes_text T U a b text t u went sound = ((text, went, append-nil text), sound)

  pub writes_text_stopped : (T U : Type 0) (a b : Watch W) (text : Text) (e : Error) → WritesText {T = T} calls a.device b.device text (Err e) → b.failed ≡ true → Writes {T = U} calls a b text [] (Err Write)
  unfolding WritesText Writes
  writes_text_stopped T U a b text e went failed = ((e, (went.1, (went.0, went.2, went.3))), failed)

  -- a step that gave up for want of memory before it wrote anything
  pub writes_refused : (T : Type 0) (a : Watch W) (text waiting : Text) → a.failed ≡ false → Writes {T = T} calls a a text waiting (Err Memory)
  unfolding Writes
  writes_refused T a text waiting sound = ((text, takes_none a text), sound)

  -- a step that had nothing to write
  pub writes_nothing : {T : Type 0} (a : Watch W) (waiting : Text) (t : T) → a.failed ≡ false → Writes calls a a (waiting ++ []) waiting (Ok t)
  unfolding Writes
  writes_nothing a waiting t sound = (rw append-nil (takes_none a waiting), sound)

  -- what waits and the text after it are the text of two steps: the second writes what waits and a front of that text
  takes_then : (ending : Ending) (a b c : Watch W) (x left rest : Text) → Takes calls Going a b x left → Takes calls ending b c left rest → Takes calls ending a c x rest
  takes_then ending a b c x left rest first next =
      (first.0 ++ next.0, went_trans calls ending a.device b.device c.device first.0 next.0 first.1 next.1, append_assoc first.0 next.0 rest ∙ ap (λ t. first.0 ++ t) next.2 ∙ first.2)

  takes_after : (ending : Ending) (b c : Watch W) (x left more : Text) → Takes calls ending b c x left → Takes calls ending b c (x ++ more) (left ++ more)
  takes_after ending b c x left more h = (h.0, h.1, sym (append_assoc h.0 left more) ∙ ap (λ t. t ++ more) h.2)

  -- a step goes on with the front of what was left to write
  pub writes_on : {U V : Type 0} (T : Type 0) (a b c : Watch W) (whole waiting line rest left : Text) (u : U) (v : V) (t : T) → Writes {T = U} calls a b whole (waiting ++ (line ++ rest)) (Ok u) → Writes {T = V} calls b c (waiting ++ line) left (Ok v) → Writes {T = T} calls a c whole (left ++ rest) (Ok t)
  unfolding Writes
  writes_on T a b c whole waiting line rest left u v t before step =
      (takes_then Going a b c whole _ _ before.0 (rw (← append_assoc) (takes_after Going b c (waiting ++ line) left rest step.0)), step.1)

  -- a step that gives up there leaves a beginning of the whole written
  pub writes_on_stopped : {U : Type 0} (T V : Type 0) (a b c : Watch W) (whole waiting line rest left end : Text) (u : U) (fault : RunFault) → Writes {T = U} calls a b whole (waiting ++ (line ++ rest)) (Ok u) → Writes {T = V} calls b c (waiting ++ line) left (Err fault) → Writes {T = T} calls a c whole end (Err fault)
  unfolding Writes
  writes_on_stopped T V a b c whole waiting line rest left end u Write before step =
      let stopped = step.0.1 in
      ((step.0.0, (stopped.0 ++ rest, takes_then (Broken step.0.0) a b c whole _ _ before.0 (rw (← append_assoc) (takes_after (Broken step.0.0) b c (waiting ++ line) stopped.0 rest stopped.1)))), step.1)
  writes_on_stopped T V a b c whole waiting line rest left end u Memory before step =
      ((step.0.0 ++ rest, takes_then Going a b c whole _ _ before.0 (rw (← append_assoc) (takes_after Going b c (waiting ++ line) step.0.0 rest step.0.1))), step.1)
  writes_on_stopped T V a b c whole waiting line rest left end u NotUtf8 before step = step
  writes_on_stopped T V a b c whole waiting line rest left end u TooLong before step = step
  writes_on_stopped T V a b c whole waiting line rest left end u Read before step = step
  writes_on_stopped T V a b c whole waiting line rest left end u (BadEdit at) before step = step

  -- all of the text waits
  pub writes_waiting : {T : Type 0} (a : Watch W) (text : Text) (t : T) → a.failed ≡ false → Writes calls a a text text (Ok t)
  unfolding Writes
  writes_waiting a text t sound = (takes_none a text, sound)

  -- a second step that writes what waits
  pub writes_then : {U V : Type 0} (T : Type 0) (a b c : Watch W) (x waiting left : Text) (u : U) (v : V) (t : T) → Writes {T = U} calls a b x waiting (Ok u) → Writes {T = V} calls b c waiting left (Ok v) → Writes {T = T} calls a c x left (Ok t)
  unfolding Writes
  writes_then T a b c x waiting left u v t first next = (takes_then Going a b c x waiting left first.0 next.0, next.1)

  pub writes_then_stopped : {U : Type 0} (T V : Type 0) (a b c : Watch W) (x waiting left end : Text) (u : U) (fault : RunFault) → Writes {T = U} calls a b x waiting (Ok u) → Writes {T = V} calls b c waiting left (Err fault) → Writes {T = T} calls a c x end (Err fault)
  unfolding Writes
  writes_then_stopped T V a b c x waiting left end u Write first next = ((next.0.0, (next.0.1.0, takes_then (Broken next.0.0) a b c x waiting next.0.1.0 first.0 next.0.1.1)), next.1)
  writes_then_stopped T V a b c x waiting left end u Memory first next = ((next.0.0, takes_then Going a b c x waiting next.0.0 first.0 next.0.1), next.1)
  writes_then_stopped T V a b c x waiting left end u NotUtf8 first next = next
  writes_then_stopped T V a b c x waiting left end u TooLong first next = next
  writes_then_stopped T V a b c x waiting left end u Read first next = next
  writes_then_stopped T V a b c x waiting left end u (BadEdit at) first next = next

  -- a failure says nothing of what waits
  pub writes_failed : (T V : Type 0) (a b : Watch W) (x waiting end : Text) (fault : RunFault) → Writes {T = V} calls a b x waiting (Err fault) → Writes {T = T} calls a b x end (Err fault)
  unfolding Writes
  writes_failed T V a b x waiting end Write h = h
  writes_failed T V a b x waiting end Memory h = h
  writes_failed T V a b x waiting end NotUtf8 h = h
  writes_failed T V a b x waiting end TooLong h = h
  writes_failed T V a b x waiting end Read h = h
  writes_failed T V a b x waiting end (BadEdit at) h = h

  -- what a step answers makes no difference
  pub writes_told : {U : Type 0} (T : Type 0) (a b : Watch W) (x waiting : Text) (u : U) (t : T) → Writes {T = U} calls a b x waiting (Ok u) → Writes {T = T} calls a b x waiting (Ok t)
  unfolding Writes
  writes_told T a b x waiting u t h = h

  -- a step that gives up for want of memory after others
  pub writes_given_up : {U : Type 0} (T : Type 0) (a b : Watch W) (x waiting end : Text) (u : U) → Writes {T = U} calls a b x waiting (Ok u) → Writes {T = T} calls a b x end (Err Memory)
  unfolding Writes
  writes_given_up T a b x waiting end u h = ((waiting, h.0), h.1)

  -- a failure is one of the whole, whatever was to wait
  pub writes_stopped : (T U : Type 0) (a b : Watch W) (x y waiting left : Text) (fault : RunFault) → Writes {T = U} calls a b x waiting (Err fault) → Writes {T = T} calls a b (x ++ y) left (Err fault)
  unfolding Writes
  writes_stopped T U a b x y waiting left Write h = ((h.0.0, takes_of_longer (Broken h.0.0) a b x y h.0.1), h.1)
  writes_stopped T U a b x y waiting left Memory h = (takes_of_longer Going a b x y h.0, h.1)
  writes_stopped T U a b x y waiting left NotUtf8 h = h
  writes_stopped T U a b x y waiting left TooLong h = h
  writes_stopped T U a b x y waiting left Read h = h
  writes_stopped T U a b x y waiting left (BadEdit at) h = h

  -- what waits may be taken as text that was written
  pub writes_memory : (T U : Type 0) (a b : Watch W) (x y waiting left : Text) (u : U) → Writes {T = U} calls a b x waiting (Ok u) → Writes {T = T} calls a b (x ++ y) left (Err Memory)
  unfolding Writes
  writes_memory T U a b x y waiting left u h = (takes_of_longer Going a b x y (waiting, h.0), h.1)

  pub writes_held : {T U : Type 0} (a b : Watch W) (x y waiting : Text) (u : U) (t : T) → Writes {T = U} calls a b x waiting (Ok u) → Writes calls a b (x ++ y) (waiting ++ y) (Ok t)
  unfolding Writes
  writes_held a b x y waiting u t h = (takes_more Going a b b x y waiting (waiting ++ y) h.0 (takes_none b (waiting ++ y)), h.1)

  -- writes that leave nothing, and then all of what waits and a flush
  pub writes_all_then : {U V : Type 0} (T : Type 0) (a b c : Watch W) (x waiting : Text) (u : U) (v : V) (t : T) → Writes {T = U} calls a b x waiting (Ok u) → WritesAll {T = V} calls b c waiting (Ok v) → WritesAll {T = T} calls a c x (Ok t)
  unfolding Writes WritesAll
  writes_all_then T a b c x waiting u v t first next = (takes_then Done a b c x waiting [] first.0 next.0, next.1)

  pub writes_all_stopped : {U : Type 0} (T V : Type 0) (a b c : Watch W) (x waiting : Text) (u : U) (fault : RunFault) → Writes {T = U} calls a b x waiting (Ok u) → WritesAll {T = V} calls b c waiting (Err fault) → WritesAll {T = T} calls a c x (Err fault)
  unfolding WritesAll
  writes_all_stopped T V a b c x waiting u fault first next = writes_then_stopped _ _ a b c x waiting _ _ u fault first next

  pub writes_all_failed : (T V : Type 0) (a b : Watch W) (x waiting : Text) (fault : RunFault) → Writes {T = V} calls a b x waiting (Err fault) → WritesAll {T = T} calls a b x (Err fault)
  unfolding WritesAll
  writes_all_failed T V a b x waiting fault h = writes_failed _ _ a b x waiting _ fault h

  pub writes_all_refused : (T : Type 0) (a : Watch W) (text : Text) → a.failed ≡ false → WritesAll {T = T} calls a a text (Err Memory)
  unfolding WritesAll
  writes_all_refused T a text sound = writes_refused _ a text _ sound

  -- what waits was written, and the flush succeeded
  pub writes_all_flushed : {U : Type 0} (T : Type 0) (a b c : Watch W) (x : Text) (u : U) (t : T) → Writes {T = U} calls a b x [] (Ok u) → Keeps (calls.contents b.device) (calls.contents c.device) → calls.flush b.device (Ok tt) c.device → c.failed ≡ false → WritesAll {T = T} calls a c x (Ok t)
  unfolding Writes WritesAll
  writes_all_flushed T a b c x u t first keeps flush sound = ((first.0.0, went_done calls a.device b.device c.device first.0.0 first.0.1 keeps flush, first.0.2), sound)

  -- what waits was written, and the flush failed
  pub writes_all_unflushed : {U : Type 0} (T : Type 0) (a b c : Watch W) (x : Text) (u : U) (error : Error) → Writes {T = U} calls a b x [] (Ok u) → Keeps (calls.contents b.device) (calls.contents c.device) → calls.flush b.device (Err error) c.device → c.failed ≡ true → WritesAll {T = T} calls a c x (Err Write)
  unfolding Writes WritesAll
  writes_all_unflushed T a b c x u error first keeps flush failed =
      ((error, ([], (first.0.0, went_broken calls a.device b.device c.device first.0.0 (Flushed (Err error) c.device) error first.0.1 keeps (flush, refl) refl, first.0.2))), failed)

-- a count above 0 is not nothing, and a count of 0 is, of a piece that isn't empty
pub is_nothing-some : (count : ℕ) (piece : Text) → (count ≡ 0 → ⊥) → is_nothing count piece ≡ false
is_nothing-some count piece h = rw (ne_eqb count 0 h) refl

pub is_nothing-none : (count : ℕ) (piece : Text) → count ≡ 0 → 0 < length piece → is_nothing count piece ≡ true
is_nothing-none count piece h some = rw (eq-eqb count 0 h, ne_eqb (length piece) 0 (λ e. absurd (omega arith))) refl
