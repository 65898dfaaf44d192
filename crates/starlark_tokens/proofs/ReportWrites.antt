-- Writing reports: steps one after another, where one stops, and calls of a screen.
use Rattle.std.proofs.Common.{◌≡◌, List, [], ◌∷◌, ◌++◌, Result, Ok, Err, ap, append-nil, append_assoc, inl, inr, map, refl, subst, sym, ◌∙◌}
use Rattle.std.proofs.KnownBytes.{Appends-kept, Appends-nil, Appends-trans}
use Rattle.std.proofs.lemmas.List.{map-append}
use Rattle.std.specs.IoError.{error_kind}
use Rattle.std.specs.Prelude.{⊤}
use Rattle.std.specs.Io.KnownBytes.{Appends, Keeps}
use Rattle.std.specs.List.{AllByRecursion, flat_map}
use Rattle.std.specs.declared.io.Error.{Error}
use Rattle.std.specs.declared.io.ErrorKind.TheVariants.{OutOfMemory}
use Rattle.starlark_base.specs.Places.{Text}
use Rattle.starlark_devices.proofs.Calls.{all_append, flat_map_append, written_append}
use Rattle.starlark_devices.specs.Calls.{Broken, Done, EndedBy, Ending, FailedWith, Flushed, Going, TookSome, WasWritten, Went, WriterCall, WriterCalls, WritesText, Wrote, taken_by}
use Rattle.starlark_tokens.specs.Reporting.Progress.{screen_calls}
use Rattle.starlark_tokens.specs.Reporting.ReportWrites.{Stops, StopsWithin, Succeeded, Takes, Took}
use Rattle.starlark_tokens.specs.declared.reporting.screen.Screen.{Screen}

took_some : {W : Type 0} (call : WriterCall W) → TookSome call → Succeeded call
took_some (Wrote piece result after) some = some
took_some (Flushed result after) some = absurd some

all_took : {W : Type 0} (log : List (WriterCall W)) → AllByRecursion TookSome log → AllByRecursion Succeeded log
all_took [] all = tt
all_took (call ∷ log) all = (took_some call all.0, all_took log all.1)

no_last : {W : Type 0} (last : List (WriterCall W)) → EndedBy Going last → last ≡ []
no_last [] ended = refl
no_last (call ∷ more) ended = absurd ended

module _ {W : Type 0} (calls : WriterCalls W) where
  pub took_nil : (w : W) → Took calls Going w w []
  took_nil w = record { bytes = Appends-nil (calls.contents w); log = []; last = []; order = refl; succeeded = tt; given = refl; ended = tt }

  pub took_of : (ending : Ending) (a b : W) (x : Text) → Went calls ending a b x → Took calls ending a b x
  took_of ending a b x went = record { bytes = went.bytes; log = went.log; last = went.last; order = went.order; succeeded = all_took went.log went.some; given = went.given; ended = went.ended }

  -- a text, and then another
  pub took_then : (ending : Ending) (a b c : W) (x y : Text) → Took calls Going a b x → Took calls ending b c y → Took calls ending a c (x ++ y)
  took_then ending a b c x y first next =
      let going : WasWritten calls a first.log b = subst (λ log. WasWritten calls a log b) (ap (λ last. first.log ++ last) (no_last first.last first.ended) ∙ append-nil first.log) first.order in
      let order = written_append calls first.log (next.log ++ next.last) a b c going next.order in
      record {
        bytes = Appends-trans _ _ _ _ _ first.bytes next.bytes;
        log = first.log ++ next.log;
        last = next.last;
        given = flat_map_append taken_by first.log next.log ∙ ap (λ t. t ++ flat_map taken_by next.log) first.given ∙ ap (λ t. x ++ t) next.given;
        succeeded = all_append Succeeded first.log next.log first.succeeded next.succeeded;
        order = subst (λ log. WasWritten calls a log c) (sym (append_assoc first.log next.log next.last)) order;
        ended = next.ended;
      }

  kept : (a b : W) → Keeps (calls.contents a) (calls.contents b) → Appends (calls.contents a) (calls.contents b) []
  kept a b keeps = Appends-kept _ _ _ _ (Appends-nil (calls.contents a)) keeps

  -- a flush among the calls, one after all of them, and one that failed
  pub flushed_among : (a b : W) → Keeps (calls.contents a) (calls.contents b) → calls.flush a (Ok tt) b → Took calls Going a b []
  flushed_among a b keeps flush = record { bytes = kept a b keeps; log = Flushed (Ok tt) b ∷ []; last = []; order = (flush, refl); succeeded = (tt, tt); given = refl; ended = tt }

  pub flushed_last : (a b c : W) (x : Text) → Took calls Going a b x → Keeps (calls.contents b) (calls.contents c) → calls.flush b (Ok tt) c → Took calls Done a c x
  flushed_last a b c x took keeps flush =
      let last : Took calls Done b c [] = record { bytes = kept b c keeps; log = []; last = Flushed (Ok tt) c ∷ []; order = (flush, refl); succeeded = tt; given = refl; ended = tt } in
      subst (Took calls Done a c) (append-nil x) (took_then Done a b c x [] took last)

  pub unflushed : (a b : W) (error : Error) → Keeps (calls.contents a) (calls.contents b) → calls.flush a (Err error) b → Took calls (Broken error) a b []
  unflushed a b error keeps flush = record { bytes = kept a b keeps; log = []; last = Flushed (Err error) b ∷ []; order = (flush, refl); succeeded = tt; given = refl; ended = refl }

  -- writing that stops before a text
  pub stops_first : (a b : W) (error : Error) (text : Text) → Took calls (Broken error) a b [] → StopsWithin calls a b error text
  stops_first a b error text took = record { taken = []; left = text; stops = inl took; whole = refl }

  pub no_memory : (a : W) (error : Error) (text : Text) → error_kind error ≡ OutOfMemory → StopsWithin calls a a error text
  no_memory a error text why = record { taken = []; left = text; stops = inr (took_nil a, why); whole = refl }

  -- the error that a caller returns is that of its callee
  pub same_error : (a b : W) (error told : Error) (text : Text) → told ≡ error → StopsWithin calls a b error text → StopsWithin calls a b told text
  same_error a b error told text is stopped = subst (λ e. StopsWithin calls a b e text) (sym is) stopped

  -- writing that stopped within a text stopped within a longer one
  pub stops_longer : (a b : W) (error : Error) (x y : Text) → StopsWithin calls a b error x → StopsWithin calls a b error (x ++ y)
  stops_longer a b error x y stopped = record {
    taken = stopped.taken;
    left = stopped.left ++ y;
    stops = stopped.stops;
    whole = sym (append_assoc stopped.taken stopped.left y) ∙ ap (λ t. t ++ y) stopped.whole;
  }

  stops_then : (a b c : W) (error : Error) (x y : Text) → Took calls Going a b x → Stops calls b c y error → Stops calls a c (x ++ y) error
  stops_then a b c error x y took (inl broken) = inl (took_then (Broken error) a b c x y took broken)
  stops_then a b c error x y took (inr going) = inr (took_then Going a b c x y took going.0, going.1)

  -- a text, and then writing that stopped
  pub stops_later : (a b c : W) (error : Error) (x y : Text) → Took calls Going a b x → StopsWithin calls b c error y → StopsWithin calls a c error (x ++ y)
  stops_later a b c error x y took stopped = record {
    taken = x ++ stopped.taken;
    left = stopped.left;
    stops = stops_then a b c error x stopped.taken took stopped.stops;
    whole = append_assoc x stopped.taken stopped.left ∙ ap (λ t. x ++ t) stopped.whole;
  }

  -- a text that was written, and then a flush, which may have failed
  pub flushed_after : (a b c : W) (x : Text) (result : Result ⊤ Error) → Took calls Going a b x → Keeps (calls.contents b) (calls.contents c) → calls.flush b result c → Takes calls Going a c x result
  flushed_after a b c x (Ok flushed) took keeps flush = subst (Took calls Going a c) (append-nil x) (took_then Going a b c x [] took (flushed_among b c keeps flush))
  flushed_after a b c x (Err error) took keeps flush =
      subst (StopsWithin calls a c error) (append-nil x) (stops_later a b c error x [] took (stops_first b c error [] (unflushed b c error keeps flush)))

  -- a text, and then writing another, which may have stopped
  pub takes_later : (T : Type 0) (ending : Ending) (a b c : W) (x y : Text) (result : Result T Error) → Took calls Going a b x → Takes calls ending b c y result → Takes calls ending a c (x ++ y) result
  takes_later T ending a b c x y (Ok value) took takes = took_then ending a b c x y took takes
  takes_later T ending a b c x y (Err error) took stopped = stops_later a b c error x y took stopped

  -- a text that was written by single writes
  pub written_all : (T : Type 0) (a b : W) (text : Text) (result : Result T Error) → WritesText calls a b text result → Takes calls Going a b text result
  unfolding WritesText
  written_all T a b text (Ok x) went = took_of Going a b text went
  written_all T a b text (Err error) stopped = record { taken = stopped.0; left = stopped.1; stops = inl (took_of (Broken error) a b stopped.0 stopped.2); whole = stopped.3 }

-- ---- calls of a screen, which are calls of its output
module _ {W T : Type 0} (output : WriterCalls W) (terminal : WriterCalls T) where
  abbrev pub screens : WriterCalls (Screen W T)
  screens = screen_calls output terminal

  abbrev call_of : WriterCall (Screen W T) → WriterCall W
  call_of (Wrote piece result after) = Wrote piece result after.output
  call_of (Flushed result after) = Flushed result after.output

  abbrev calls_of : List (WriterCall (Screen W T)) → List (WriterCall W)
  calls_of log = map call_of log

  written_out : (log : List (WriterCall (Screen W T))) (a b : Screen W T) → WasWritten screens a log b → WasWritten output a.output (calls_of log) b.output
  written_out [] a b order = ap (λ screen. screen.output) order
  written_out (Wrote piece result after ∷ log) a b order = (order.0.called, written_out log after b order.1)
  written_out (Flushed result after ∷ log) a b order = (order.0.called, written_out log after b order.1)

  succeeded_out : (call : WriterCall (Screen W T)) → Succeeded call → Succeeded (call_of call)
  succeeded_out (Wrote piece (Ok count) after) succeeded = succeeded
  succeeded_out (Wrote piece (Err error) after) succeeded = absurd succeeded
  succeeded_out (Flushed (Ok x) after) succeeded = succeeded
  succeeded_out (Flushed (Err error) after) succeeded = absurd succeeded

  all_succeeded : (log : List (WriterCall (Screen W T))) → AllByRecursion Succeeded log → AllByRecursion Succeeded (calls_of log)
  all_succeeded [] all = tt
  all_succeeded (call ∷ log) all = (succeeded_out call all.0, all_succeeded log all.1)

  taken_out : (call : WriterCall (Screen W T)) → taken_by (call_of call) ≡ taken_by call
  taken_out (Wrote piece (Ok count) after) = refl
  taken_out (Wrote piece (Err error) after) = refl
  taken_out (Flushed result after) = refl

  all_taken : (log : List (WriterCall (Screen W T))) → flat_map taken_by (calls_of log) ≡ flat_map taken_by log
  all_taken [] = refl
  all_taken (call ∷ log) = rw (taken_out call, all_taken log) refl

  failed_out : (error : Error) (call : WriterCall (Screen W T)) → FailedWith error call → FailedWith error (call_of call)
  failed_out error (Wrote piece (Ok count) after) failed = failed
  failed_out error (Wrote piece (Err returned) after) failed = failed
  failed_out error (Flushed (Ok x) after) failed = absurd failed
  failed_out error (Flushed (Err returned) after) failed = failed

  ended_out : (ending : Ending) (last : List (WriterCall (Screen W T))) → EndedBy ending last → EndedBy ending (calls_of last)
  ended_out Going [] ended = ended
  ended_out Going (call ∷ more) ended = absurd ended
  ended_out Done (Flushed (Ok x) after ∷ []) ended = ended
  ended_out Done (Flushed (Ok x) after ∷ (call ∷ more)) ended = absurd ended
  ended_out Done (Flushed (Err error) after ∷ more) ended = absurd ended
  ended_out Done (Wrote piece result after ∷ more) ended = absurd ended
  ended_out Done [] ended = absurd ended
  ended_out (Broken error) (call ∷ []) ended = failed_out error call ended
  ended_out (Broken error) (call ∷ (other ∷ more)) ended = absurd ended
  ended_out (Broken error) [] ended = absurd ended

  pub took_out : (ending : Ending) (a b : Screen W T) (x : Text) → Took screens ending a b x → Took output ending a.output b.output x
  took_out ending a b x took = record {
    bytes = took.bytes;
    log = calls_of took.log;
    last = calls_of took.last;
    order = subst (λ log. WasWritten output a.output log b.output) (map-append call_of took.log took.last) (written_out (took.log ++ took.last) a b took.order);
    succeeded = all_succeeded took.log took.succeeded;
    given = all_taken took.log ∙ took.given;
    ended = ended_out ending took.last took.ended;
  }

  stops_out_by : (a b : Screen W T) (taken : Text) (error : Error) → Stops screens a b taken error → Stops output a.output b.output taken error
  stops_out_by a b taken error (inl broken) = inl (took_out (Broken error) a b taken broken)
  stops_out_by a b taken error (inr going) = inr (took_out Going a b taken going.0, going.1)

  pub stops_out : (a b : Screen W T) (error : Error) (text : Text) → StopsWithin screens a b error text → StopsWithin output a.output b.output error text
  stops_out a b error text stopped = record { taken = stopped.taken; left = stopped.left; stops = stops_out_by a b stopped.taken error stopped.stops; whole = stopped.whole }

  pub takes_out : (R : Type 0) (ending : Ending) (a b : Screen W T) (text : Text) (result : Result R Error) → Takes screens ending a b text result → Takes output ending a.output b.output text result
  takes_out R ending a b text (Ok x) took = took_out ending a b text took
  takes_out R ending a b text (Err error) stopped = stops_out a b error text stopped
