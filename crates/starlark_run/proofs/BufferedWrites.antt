-- How often a writer is called for a buffer.
use Rattle.std.proofs.Common.{◌≡◌, ◌≤◌, ◌<◌, ◌+◌, ◌*◌, ◌⊎◌, ◌==◌, ◌&&◌, ℕ, zero, suc, Bool, true, false, not, cond, List, [], ◌∷◌, ◌++◌, length, take, drop, count_by, Result, Ok, Err, min, refl, ap, ◌∙◌, inl, inr, arith, length-append, length-drop, length-take}
use Rattle.std.proofs.lemmas.Bool.{eqb-false, eqb-true}
use Rattle.std.proofs.lemmas.List.Sums.{sum_by-append, sum_by-cons}
use Rattle.std.specs.List.{flat_map}
use Rattle.std.specs.Prelude.{⊤}
use Rattle.std.specs.declared.io.Error.{Error}
use Rattle.starlark_base.specs.Places.{Text}
use Rattle.starlark_devices.proofs.Calls.{flat_map_append, written_append}
use Rattle.starlark_devices.specs.Calls.{AreOffered, Flushed, OffersText, WriterCall, WriterCalls, Wrote, taken_by}
use Rattle.starlark_run.specs.Blocks.{WritesInBlocks, block_len, took_all}
use Rattle.starlark_run.specs.Inner.BufferedWrites.{Sends, SendsBy}

-- whether a call took all that it was offered, as a number
abbrev as_number : Bool → ℕ
as_number b = cond b 1 0

abbrev whole : {W : Type 0} → WriterCall W → ℕ
whole call = as_number (took_all call)

count_cons : {W : Type 0} (call : WriterCall W) (log : List (WriterCall W)) → count_by took_all (call ∷ log) ≡ whole call + count_by took_all log
count_cons call log = sum_by-cons whole call log

count_append : {W : Type 0} (xs ys : List (WriterCall W)) → count_by took_all (xs ++ ys) ≡ count_by took_all xs + count_by took_all ys
count_append xs ys = sum_by-append whole xs ys

some : (n : ℕ) → (n ≡ 0 → ⊥) → 0 < n
some zero h = absurd (h refl)
some (suc n) h = omega arith

-- a write took all that it was offered, or it counts as none
all_or_none : {W : Type 0} (piece : Text) (count : ℕ) (after : W) → (whole (Wrote piece (Ok count) after) ≡ 0) ⊎ ((whole (Wrote piece (Ok count) after) ≡ 1) × (count ≡ length piece) × (0 < length piece))
all_or_none piece count after = by (length piece == 0) (count == length piece) refl refl
  where
    by : (is_empty is_all : Bool) → (length piece == 0) ≡ is_empty → (count == length piece) ≡ is_all → (as_number (not is_empty && is_all) ≡ 0) ⊎ ((as_number (not is_empty && is_all) ≡ 1) × (count ≡ length piece) × (0 < length piece))
    by true is_all e all = inl refl
    by false false e all = inl refl
    by false true e all = inr (refl, eqb-true count (length piece) all, some (length piece) (eqb-false (length piece) 0 e))

-- what writes took that were offered all that was left of a text: at most one took all, and then
-- nothing is left
record Taken {W : Type 0} (text left : Text) (log : List (WriterCall W)) : Type 0 where
  few : count_by took_all log ≤ 1
  some : count_by took_all log ≤ length (flat_map taken_by log)
  sum : length (flat_map taken_by log) + length left ≡ length text
  none_left : (count_by took_all log ≡ 0) ⊎ (length left ≡ 0)

taken_nothing : {W : Type 0} (text left : Text) (call : WriterCall W) (log : List (WriterCall W)) → whole call ≡ 0 → taken_by call ≡ [] → Taken text left log → Taken text left (call ∷ log)
taken_nothing text left call log none nothing taken =
    let count : count_by took_all (call ∷ log) ≡ count_by took_all log = count_cons call log ∙ ap (λ n. n + count_by took_all log) none ∙ omega arith in
    let bytes : flat_map taken_by (call ∷ log) ≡ flat_map taken_by log = ap (λ t. t ++ flat_map taken_by log) nothing in
    let len = ap length bytes in
    record { few = omega (arith, count, taken.few); some = omega (arith, count, len, taken.some); sum = omega (arith, len, taken.sum); none_left = rw count taken.none_left }

taken_some : {W : Type 0} (text left : Text) (count : ℕ) (after : W) (log : List (WriterCall W)) → Taken (drop count text) left log → Taken text left (Wrote text (Ok count) after ∷ log)
taken_some text left count after log rest =
    let call = Wrote text (Ok count) after in
    let counted = count_cons call log in
    let bytes : length (flat_map taken_by (call ∷ log)) ≡ length (take count text) + length (flat_map taken_by log) = length-append (take count text) (flat_map taken_by log) in
    let sum : length (flat_map taken_by (call ∷ log)) + length left ≡ length text = omega (arith, bytes, rest.sum, length-take count text, length-drop count text) in
    by (all_or_none text count after) counted bytes sum
  where
    by : (whole (Wrote text (Ok count) after) ≡ 0) ⊎ ((whole (Wrote text (Ok count) after) ≡ 1) × (count ≡ length text) × (0 < length text)) → count_by took_all (Wrote text (Ok count) after ∷ log) ≡ whole (Wrote text (Ok count) after) + count_by took_all log
        → length (flat_map taken_by (Wrote text (Ok count) after ∷ log)) ≡ length (take count text) + length (flat_map taken_by log) → length (flat_map taken_by (Wrote text (Ok count) after ∷ log)) + length left ≡ length text → Taken text left (Wrote text (Ok count) after ∷ log)
    by (inl none) counted bytes sum =
        let same : count_by took_all (Wrote text (Ok count) after ∷ log) ≡ count_by took_all log = omega (arith, counted, none) in
        record { few = omega (arith, same, rest.few); some = omega (arith, same, rest.some, bytes); sum = sum; none_left = left_by same rest.none_left }
      where
        left_by : count_by took_all (Wrote text (Ok count) after ∷ log) ≡ count_by took_all log → (count_by took_all log ≡ 0) ⊎ (length left ≡ 0) → (count_by took_all (Wrote text (Ok count) after ∷ log) ≡ 0) ⊎ (length left ≡ 0)
        left_by same (inl e) = inl (same ∙ e)
        left_by same (inr e) = inr e
    by (inr all) counted bytes sum =
        let nothing : length (flat_map taken_by log) + length left ≡ 0 = omega (arith, rest.sum, length-drop count text, all.1) in
        let one : count_by took_all (Wrote text (Ok count) after ∷ log) ≡ 1 = omega (arith, counted, all.0, rest.some, nothing) in
        record { few = omega (arith, one); some = omega (arith, one, bytes, length-take count text, all.1, all.2); sum = sum; none_left = inr (omega (arith, nothing)) }

taken_of : {W : Type 0} (log : List (WriterCall W)) (text left : Text) → AreOffered text left log → Taken text left log
taken_of [] text left offered = record { few = omega arith; some = omega arith; sum = omega (arith, ap length offered); none_left = inl refl }
taken_of (Wrote piece (Ok count) after ∷ log) text left offered =
    rw offered.0 (taken_some text left count after log (taken_of log (drop count text) left offered.1))
taken_of (Wrote piece (Err error) after ∷ log) text left offered =
    taken_nothing text left (Wrote piece (Err error) after) log refl refl (taken_of log text left offered.1)
taken_of (Flushed result after ∷ log) text left offered = absurd offered

module _ {W : Type 0} (calls : WriterCalls W) where
  -- the writer wasn't called
  pub sends_none : (a : W) (before after : ℕ) → before ≤ after → Sends calls a a before after
  unfolding Sends
  sends_none a before after more = ([], refl, omega (arith, more))

  -- the buffer held more
  pub sends_less : (a b : W) (before after most : ℕ) → after ≤ most → Sends calls a b before after → Sends calls a b before most
  unfolding Sends
  sends_less a b before after most more sends = (sends.0, sends.1, omega (arith, more, sends.2))

  -- one step, and then another
  pub sends_then : (a b c : W) (before between after : ℕ) → Sends calls a b before between → Sends calls b c between after → Sends calls a c before after
  unfolding Sends
  sends_then a b c before between after first next = (
    first.0 ++ next.0,
    written_append calls first.0 next.0 a b c first.1 next.1,
    omega (arith, first.2, next.2, count_append first.0 next.0, ap length (flat_map_append taken_by first.0 next.0), length-append (flat_map taken_by first.0) (flat_map taken_by next.0)),
  )

  pub sends_less_by : (T E : Type 0) (a b : W) (before after most : ℕ) (result : Result T E) → after ≤ most → SendsBy calls a b before after result → SendsBy calls a b before most result
  sends_less_by T E a b before after most (Ok x) more sends = sends_less a b before after most more sends
  sends_less_by T E a b before after most (Err error) more sends = sends

  pub sends_then_by : (T E : Type 0) (a b c : W) (before between after : ℕ) (result : Result T E) → Sends calls a b before between → SendsBy calls b c between after result → SendsBy calls a c before after result
  sends_then_by T E a b c before between after (Ok x) first next = sends_then a b c before between after first next
  sends_then_by T E a b c before between after (Err error) first next = sends_then a b c before between block_len first next

  -- a text was written that is a whole block, or what the buffer held
  pub sends_text : (T E : Type 0) (a b : W) (text : Text) (before after : ℕ) (result : Result T E) → OffersText calls a b text result → before ≤ block_len → after ≤ block_len → block_len + before ≤ 2 * length text + after → SendsBy calls a b before after result
  unfolding Sends
  sends_text T E a b text before after (Ok x) offers few room fits =
      let taken = taken_of offers.0 text [] offers.2 in
      (offers.0, offers.1, omega (arith, taken.few, taken.sum, fits))
  sends_text T E a b text before after (Err error) offers few room fits =
      let taken = taken_of offers.1.0 text offers.0 offers.1.2 in
      (offers.1.0, offers.1.1, by taken.none_left)
    where
      by : (count_by took_all offers.1.0 ≡ 0) ⊎ (length offers.0 ≡ 0) → block_len * count_by took_all offers.1.0 + before ≤ 2 * length (flat_map taken_by offers.1.0) + block_len
      by (inl none) = omega (arith, none, few)
      by (inr all) = let taken = taken_of offers.1.0 text offers.0 offers.1.2 in omega (arith, taken.few, taken.sum, all, room, fits)

  -- a flush takes nothing
  pub sends_flush : (a b c : W) (before after : ℕ) (result : Result ⊤ Error) → Sends calls a b before after → calls.flush b result c → Sends calls a c before after
  unfolding Sends
  sends_flush a b c before after result sends flush =
      let call : WriterCall W = Flushed result c in (
        sends.0 ++ (call ∷ []),
        written_append calls sends.0 (call ∷ []) a b c sends.1 (flush, refl),
        omega (arith, sends.2, count_append sends.0 (call ∷ []), count_cons call [], ap length (flat_map_append taken_by sends.0 (call ∷ [])), length-append (flat_map taken_by sends.0) (flat_map taken_by (call ∷ []))),
      )

  -- a buffer that was empty, and may be full
  pub in_blocks : (a b : W) → Sends calls a b 0 block_len → WritesInBlocks calls a b
  unfolding Sends
  in_blocks a b sends = (sends.0, sends.1, omega (arith, sends.2))

-- there was room for a text that is less than a block, or the buffer is empty
pub room_left : (waiting : Text) (len : ℕ) → (waiting ≡ []) ⊎ (length waiting + len ≤ block_len) → length waiting + min len block_len ≤ block_len
room_left waiting len (inl none) = rw none (omega arith)
room_left waiting len (inr fits) = omega (arith, fits)
