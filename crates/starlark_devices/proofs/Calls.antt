-- Calls one after another.
use Rattle.std.proofs.Common.{◌≡◌, ◌<◌, ◌++◌, [], ◌∷◌, ℕ, List, Option, Some, None, Ok, Err, Bool, true, false, length, take, drop, drop-drop, ◌+◌, take-add, refl, sym, subst, ap, ◌∙◌, append_assoc, append-nil}
use Rattle.std.proofs.KnownBytes.{Appends-nil, Appends-trans, Appends-kept, Consumes-nil, Consumes-trans, Consumes-kept}
use Rattle.std.specs.Io.KnownBytes.{Appends, Consumes, IsAtEnd, Keeps}
use Rattle.std.specs.List.{AllByRecursion, flat_map}
use Rattle.std.specs.declared.io.Error.{Error}
use Rattle.starlark_devices.specs.Calls.{Bytes, ReaderCalls, ReadCall, WasRead, GaveSome, given_by, StoppedBy, Came, WriterCalls, WriterCall, Wrote, Flushed, WasWritten, TookSome, taken_by, FailedWith, Ending, Going, Done, Broken, EndedBy, Went, AreOffered, Offers}

-- a list of items with a fact of each, and another after it
pub all_append : {A : Type 0} (P : A → Type 0) (xs ys : List A) → AllByRecursion P xs → AllByRecursion P ys → AllByRecursion P (xs ++ ys)
all_append P [] ys all more = more
all_append P (x ∷ xs) ys all more = (all.0, all_append P xs ys all.1 more)

pub flat_map_append : {A : Type 0} (f : A → Bytes) (xs ys : List A) → flat_map f (xs ++ ys) ≡ flat_map f xs ++ flat_map f ys
flat_map_append f [] ys = refl
flat_map_append f (x ∷ xs) ys = ap (λ t. f x ++ t) (flat_map_append f xs ys) ∙ sym (append_assoc (f x) (flat_map f xs) (flat_map f ys))

-- known bytes that grew by none stay as they were
pub keeps_none : (a b : Option (List ℕ)) → Appends a b [] → Keeps a b
keeps_none None b h = tt
keeps_none (Some x) None h = absurd h
keeps_none (Some x) (Some y) h = h ∙ append-nil x

module _ {R : Type 0} (calls : ReaderCalls R) where
  pub read_append : (xs ys : List (ReadCall R)) (a b c : R) → WasRead calls a xs b → WasRead calls b ys c → WasRead calls a (xs ++ ys) c
  read_append [] ys a b c first next = subst (λ r. WasRead calls r ys c) first next
  read_append (x ∷ xs) ys a b c first next = (first.0, read_append xs ys x.after b c first.1 next)

  -- nothing came of a reader that was not called
  pub came_nil : (r : R) → Came calls r r false false []
  came_nil r = record { bytes = Consumes-nil (calls.remaining r); nothing_left = λ e. cc; log = []; last = []; order = refl; some = tt; given = refl; stopped = tt }

  -- flags that are equal say the same
  pub came_told : (a b : R) (x : Bytes) (ended failed is_ended is_failed : Bool) → ended ≡ is_ended → failed ≡ is_failed → Came calls a b is_ended is_failed x → Came calls a b ended failed x
  came_told a b x ended failed is_ended is_failed e f came = rw (e, f) came

  no_last_read : (last : List (ReadCall R)) → StoppedBy false false last → last ≡ []
  no_last_read [] stopped = refl
  no_last_read (call ∷ more) stopped = absurd stopped

  going : (a b : R) (x : Bytes) (came : Came calls a b false false x) → WasRead calls a came.log b
  going a b x came = subst (λ log. WasRead calls a log b) (ap (λ last. came.log ++ last) (no_last_read came.last came.stopped) ∙ append-nil came.log) came.order

  -- one read more that gave some bytes
  pub came_more : (a b c : R) (x room : Bytes) (count : ℕ) → Came calls a b false false x → Consumes (calls.remaining b) (calls.remaining c) (take count room) → calls.read b room (Ok count) c → 0 < count → Came calls a c false false (x ++ take count room)
  came_more a b c x room count came bytes read some =
      let call : ReadCall R = record { room = room; result = Ok count; after = c } in
      record {
        bytes = Consumes-trans _ _ _ _ _ came.bytes bytes;
        nothing_left = λ e. cc;
        log = came.log ++ (call ∷ []);
        last = [];
        order = subst (λ log. WasRead calls a log c) (sym (append-nil (came.log ++ (call ∷ [])))) (read_append came.log (call ∷ []) a b c (going a b x came) (read, refl));
        some = all_append GaveSome came.log (call ∷ []) came.some (some, tt);
        given = flat_map_append given_by came.log (call ∷ []) ∙ ap (λ t. t ++ (take count room ++ [])) came.given ∙ ap (λ t. x ++ t) (append-nil (take count room));
        stopped = tt;
      }

  -- a read after which no other is made
  came_last : (a b c : R) (x : Bytes) (call : ReadCall R) (ended failed : Bool) → Came calls a b false false x → Consumes (calls.remaining a) (calls.remaining c) x → (ended ≡ true → IsAtEnd (calls.remaining c))
      → WasRead calls b (call ∷ []) c → StoppedBy ended failed (call ∷ []) → Came calls a c ended failed x
  came_last a b c x call ended failed came bytes end read stopped = record {
    bytes = bytes;
    nothing_left = end;
    log = came.log;
    last = call ∷ [];
    order = read_append came.log (call ∷ []) a b c (going a b x came) read;
    some = came.some;
    given = came.given;
    stopped = stopped;
  }

  -- one that came to the end
  pub came_end : (a b c : R) (x room : Bytes) → Came calls a b false false x → Consumes (calls.remaining b) (calls.remaining c) [] → IsAtEnd (calls.remaining c) → calls.read b room (Ok 0) c → 0 < length room → Came calls a c true false x
  came_end a b c x room came bytes end read some =
      came_last a b c x (record { room = room; result = Ok 0; after = c }) true false came (subst (Consumes (calls.remaining a) (calls.remaining c)) (append-nil x) (Consumes-trans _ _ _ _ _ came.bytes bytes)) (λ e. end) (read, refl) (refl, some)

  -- one that failed
  pub came_failed : (a b c : R) (x room : Bytes) (error : Error) → Came calls a b false false x → Keeps (calls.remaining b) (calls.remaining c) → calls.read b room (Err error) c → Came calls a c false true x
  came_failed a b c x room error came keeps read =
      came_last a b c x (record { room = room; result = Err error; after = c }) false true came (Consumes-kept _ _ _ _ came.bytes keeps) (λ e. cc) (read, refl) refl

module _ {W : Type 0} (calls : WriterCalls W) where
  pub written_append : (xs ys : List (WriterCall W)) (a b c : W) → WasWritten calls a xs b → WasWritten calls b ys c → WasWritten calls a (xs ++ ys) c
  written_append [] ys a b c first next = subst (λ w. WasWritten calls w ys c) first next
  written_append (Wrote piece result after ∷ xs) ys a b c first next = (first.0, written_append xs ys after b c first.1 next)
  written_append (Flushed result after ∷ xs) ys a b c first next = (first.0, written_append xs ys after b c first.1 next)

  -- nothing went to a writer that was not called
  pub went_nil : (w : W) → Went calls Going w w []
  went_nil w = record { bytes = Appends-nil (calls.contents w); log = []; last = []; order = refl; some = tt; given = refl; ended = tt }

  no_last : (last : List (WriterCall W)) → EndedBy Going last → last ≡ []
  no_last [] ended = refl
  no_last (call ∷ more) ended = absurd ended

  -- a text went, and then another
  pub went_trans : (ending : Ending) (a b c : W) (x y : Bytes) → Went calls Going a b x → Went calls ending b c y → Went calls ending a c (x ++ y)
  went_trans ending a b c x y first next =
      let going : WasWritten calls a first.log b = subst (λ log. WasWritten calls a log b) (ap (λ last. first.log ++ last) (no_last first.last first.ended) ∙ append-nil first.log) first.order in
      let order = written_append first.log (next.log ++ next.last) a b c going next.order in
      record {
        bytes = Appends-trans _ _ _ _ _ first.bytes next.bytes;
        log = first.log ++ next.log;
        last = next.last;
        order = subst (λ log. WasWritten calls a log c) (sym (append_assoc first.log next.log next.last)) order;
        some = all_append TookSome first.log next.log first.some next.some;
        given = flat_map_append taken_by first.log next.log ∙ ap (λ t. t ++ flat_map taken_by next.log) first.given ∙ ap (λ t. x ++ t) next.given;
        ended = next.ended;
      }

  -- one write that took some bytes
  pub went_once : (a b : W) (piece : Bytes) (count : ℕ) → Appends (calls.contents a) (calls.contents b) (take count piece) → calls.write a piece (Ok count) b → 0 < count → Went calls Going a b (take count piece)
  went_once a b piece count bytes call some = record { bytes = bytes; log = Wrote piece (Ok count) b ∷ []; last = []; order = (call, refl); some = (some, tt); given = append-nil (take count piece); ended = tt }

  -- a last call that failed
  pub went_broken : (a b c : W) (x : Bytes) (call : WriterCall W) (error : Error) → Went calls Going a b x → Keeps (calls.contents b) (calls.contents c) → WasWritten calls b (call ∷ []) c → FailedWith error call → Went calls (Broken error) a c x
  went_broken a b c x call error first keeps order failed =
      let next : Went calls (Broken error) b c [] = record { bytes = subst (Appends (calls.contents b) (calls.contents c)) refl (Appends-kept _ _ _ _ (Appends-nil (calls.contents b)) keeps); log = []; last = call ∷ []; order = order; some = tt; given = refl; ended = failed } in
      subst (Went calls (Broken error) a c) (append-nil x) (went_trans (Broken error) a b c x [] first next)

  -- a last flush
  pub went_done : (a b c : W) (x : Bytes) → Went calls Going a b x → Keeps (calls.contents b) (calls.contents c) → calls.flush b (Ok tt) c → Went calls Done a c x
  went_done a b c x first keeps flush =
      let next : Went calls Done b c [] = record { bytes = Appends-kept _ _ _ _ (Appends-nil (calls.contents b)) keeps; log = []; last = Flushed (Ok tt) c ∷ []; order = (flush, refl); some = tt; given = refl; ended = tt } in
      subst (Went calls Done a c) (append-nil x) (went_trans Done a b c x [] first next)

  -- a write of the rest of some bytes, of which some were taken
  pub went_more : (a b c : W) (bytes : Bytes) (written count : ℕ) → Went calls Going a b (take written bytes) → Appends (calls.contents b) (calls.contents c) (take count (drop written bytes)) → calls.write b (drop written bytes) (Ok count) c → 0 < count → Went calls Going a c (take (written + count) bytes)
  went_more a b c bytes written count first bytes_taken call some =
      subst (Went calls Going a c) (sym (take-add written count bytes)) (went_trans Going a b c _ _ first (went_once b c (drop written bytes) count bytes_taken call some))

  -- calls that were offered all that was left of a text: what is offered the rest after them goes on
  abbrev pub OffersSoFar : (old now : W) (text rest : Bytes) → Type 0
  OffersSoFar old now text rest = (new : W) (left : Bytes) → Offers calls now new rest left → Offers calls old new text left

  pub offers_start : (a : W) (text : Bytes) → OffersSoFar a a text text
  offers_start a text = λ new left offers. offers

  pub offers_more : (a b c : W) (text : Bytes) (written count : ℕ) → OffersSoFar a b text (drop written text) → calls.write b (drop written text) (Ok count) c → OffersSoFar a c text (drop (written + count) text)
  offers_more a b c text written count before call =
      λ new left offers. before new left (Wrote (drop written text) (Ok count) c ∷ offers.0, (call, offers.1), (refl, subst (λ rest. AreOffered rest left offers.0) (sym (drop-drop count written text)) offers.2))

  -- the last write took nothing, or failed
  pub offers_nothing : (a b c : W) (text rest : Bytes) (count : ℕ) → OffersSoFar a b text rest → calls.write b rest (Ok count) c → Offers calls a c text (drop count rest)
  offers_nothing a b c text rest count before call = before c (drop count rest) (Wrote rest (Ok count) c ∷ [], (call, refl), (refl, refl))

  pub offers_failed : (a b c : W) (text rest : Bytes) (error : Error) → OffersSoFar a b text rest → calls.write b rest (Err error) c → Offers calls a c text rest
  offers_failed a b c text rest error before call = before c rest (Wrote rest (Err error) c ∷ [], (call, refl), (refl, refl))

  -- all was taken
  pub offers_whole : (a b : W) (text rest : Bytes) → OffersSoFar a b text rest → rest ≡ [] → Offers calls a b text []
  offers_whole a b text rest before none = before b [] ([], refl, sym none)
