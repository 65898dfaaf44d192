-- Characters counted in steps, and those between two places.
use Rattle.std.proofs.Common.{◌≡◌, ℕ, ◌+◌, ◌-◌, ◌*◌, ◌<◌, ◌≤◌, ◌⊎◌, inl, inr, List, [], ◌∷◌, ◌++◌, length, take, drop, get_or, count_by, slice_range, ap, sym, ◌∙◌, arith, length-append, length-drop}
use Rattle.std.proofs.lemmas.Bool.{cases_lt}
use Rattle.std.proofs.lemmas.List.{take_at, drop_at, drop-drop, get_or_append_left, get_or_push, length-take-le}
use Rattle.std.proofs.Math.Nat.{add-mul}
use Rattle.std.proofs.lemmas.Str.{chars-IsAscii, IsAscii-take, IsUtf8-from_ascii, IsUtf8-between}
use Rattle.std.specs.Str.{IsAscii, IsUtf8, IsCharBoundary}
use Rattle.starlark_text.specs.Characters.{starts_character, char_count}
use Rattle.starlark_text.proofs.CharacterStarts.{begun_on}
use Rattle.starlark_text.proofs.CountedCharacters.{begun_count}
use Rattle.starlark_base.specs.Inner.CharacterCounts.{starts_before, AreCounts}

abbrev pub begun : List ℕ → ℕ
begun bytes = count_by starts_character bytes

-- one more step is passed
step_passed : (text front rest : List ℕ) (at size : ℕ) → drop at text ≡ front ++ rest → length front ≡ size → starts_before text (at + size) ≡ starts_before text at + begun front
step_passed text front rest at size next long =
    begun_on text at size ∙ ap (λ bytes. starts_before text at + begun bytes) (ap (take size) next ∙ take_at front rest size long)

rest_passed : (text front rest : List ℕ) (at size : ℕ) → drop at text ≡ front ++ rest → length front ≡ size → drop (at + size) text ≡ rest
rest_passed text front rest at size next long = sym (drop-drop size at text) ∙ ap (drop size) next ∙ drop_at front rest size long

-- of ASCII each byte is a character
pub ascii_before : (text : List ℕ) (at : ℕ) → IsAscii text → at ≤ length text → starts_before text at ≡ at
ascii_before text at ascii within =
    let front = IsAscii-take text at ascii in
    begun_count (take at text) (IsUtf8-from_ascii (take at text) front) ∙ ap length (chars-IsAscii (take at text) front) ∙ length-take-le at text within

-- the characters between two places
pub between : (text : List ℕ) (begin end : ℕ) → IsUtf8 text → begin ≤ end → IsCharBoundary text begin → IsCharBoundary text end
    → starts_before text end ≡ starts_before text begin + char_count (slice_range text begin end)
between text begin end utf8 order at_begin at_end =
    let whole : begin + (end - begin) ≡ end = omega arith in
    let part = begun_count (take (end - begin) (drop begin text)) (IsUtf8-between text begin end utf8 order at_begin at_end) in
    ap (starts_before text) (sym whole) ∙ begun_on text begin (end - begin) ∙ ap (λ n. starts_before text begin + n) part

-- what is counted before a place, from the step before it on
pub from_step : (step : ℕ) (text counts : List ℕ) (k at : ℕ) → AreCounts step text counts → k < length counts → k * step ≤ at
    → starts_before text at ≡ get_or counts k 0 + begun (take (at - k * step) (drop (k * step) text))
from_step step text counts k at counted inside before =
    let whole : k * step + (at - k * step) ≡ at = omega arith in
    ap (starts_before text) (sym whole) ∙ begun_on text (k * step) (at - k * step) ∙ ap (λ n. n + begun (take (at - k * step) (drop (k * step) text))) (sym (counted.each k inside))

-- the steps up to a place, and the count before it
pub record AreStepsTo (step : ℕ) (text counts : List ℕ) (at count : ℕ) : Type 0 where
  pub reach : length counts * step ≡ at + step
  pub counted : count ≡ starts_before text at
  pub each : (k : ℕ) → k < length counts → get_or counts k 0 ≡ starts_before text (k * step)

-- one step more
one_step_more : (step : ℕ) (text counts front : List ℕ) (at next_at count next : ℕ) → AreStepsTo step text counts at count → next_at ≡ at + step
    → starts_before text (at + step) ≡ starts_before text at + begun front → next ≡ count + begun front → AreStepsTo step text (counts ++ next ∷ []) next_at next
one_step_more step text counts front at next_at count next so_far there more total =
    let size : length (counts ++ next ∷ []) ≡ length counts + 1 = length-append counts (next ∷ []) in
    let reach : length (counts ++ next ∷ []) * step ≡ next_at + step = ap (λ n. n * step) size ∙ add-mul (length counts) 1 step ∙ omega (arith, so_far.reach, there) in
    let counted : next ≡ starts_before text next_at = omega (arith, so_far.counted, more, total, ap (starts_before text) there) in
    record {
      reach = reach;
      counted = counted;
      each = λ k inside. go k inside (cases_lt k (length counts));
    }
  where
    go : (k : ℕ) → k < length (counts ++ next ∷ []) → (k < length counts) ⊎ (length counts ≤ k) → get_or (counts ++ next ∷ []) k 0 ≡ starts_before text (k * step)
    go k inside (inl earlier) = get_or_append_left counts (next ∷ []) 0 k earlier ∙ so_far.each k earlier
    go k inside (inr last) =
        let same : length counts ≡ k = omega (arith, length-append counts (next ∷ [])) in
        let place : at + step ≡ k * step = sym so_far.reach ∙ ap (λ n. n * step) same in
        get_or_push counts next 0 k same ∙ omega (arith, so_far.counted, more, total) ∙ ap (starts_before text) place

-- so far the steps of a loop over pieces of as many bytes
pub step_on : (step : ℕ) (text counts front rest_before rest : List ℕ) (count next : ℕ) → AreStepsTo step text counts (length text - length rest_before) count
    → drop (length text - length rest_before) text ≡ rest_before → rest_before ≡ front ++ rest → length front ≡ step → next ≡ count + begun front
    → (drop (length text - length rest) text ≡ rest) × AreStepsTo step text (counts ++ next ∷ []) (length text - length rest) next
step_on step text counts front rest_before rest count next so_far here parts long total =
    let at = length text - length rest_before in
    let there : length text - length rest ≡ at + step = omega (arith, ap length here, length-drop at text, ap length parts, length-append front rest) in (
      ap (λ n. drop n text) there ∙ rest_passed text front rest at step (here ∙ parts) long,
      one_step_more step text counts front at (length text - length rest) count next so_far there (step_passed text front rest at step (here ∙ parts) long) total,
    )
