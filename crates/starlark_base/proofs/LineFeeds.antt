-- Where lines begin, and how many line feeds stand before a place.
use Rattle.std.proofs.Common.{◌≡◌, ℕ, zero, suc, ◌+◌, ◌-◌, ◌<◌, ◌≤◌, true, false, cond, not, List, [], ◌∷◌, map, slice_index, length, take, drop, get_or, refl, ap, sym, ◌∙◌, arith, count_by, inl, inr, ◌⊎◌, leb}
use Rattle.std.proofs.lemmas.Bool.{eqb-true, cases_lt}
use Rattle.std.proofs.lemmas.Bool.Decides.{nat_tests}
use Rattle.std.proofs.lemmas.List.{at_drop_all, at_drop_more, length-take-le, get_or-take, get_or_default, drop-take}
use Rattle.std.proofs.lemmas.List.Recursion.{is_count_by}
use Rattle.std.proofs.lemmas.List.Sums.{count_by_more_yes, suffix_len_is}
use Rattle.std.proofs.lemmas.Str.{IsCharBoundary-start, IsCharBoundary-end, IsCharBoundary-after_ascii}
use Rattle.std.specs.List.{after_last, suffix_len}
use Rattle.std.specs.List.Sorted.{IsPartitionedBy, IsPartitionPoint}
use Rattle.std.specs.Str.{IsUtf8, IsCharBoundary}
use Rattle.memchr.specs.Find.{places, places_from}
use Rattle.starlark_base.specs.Places.{Text, is_lf}
use Rattle.starlark_base.specs.Lines.{line_begin}
use Rattle.starlark_base.specs.Starts.{starts_from, line_starts}

-- how many line feeds a text has, by recursion from its front
abbrev pub lf_search : Text → ℕ
lf_search [] = 0
lf_search (b ∷ rest) = cond (is_lf b) (1 + lf_search rest) (lf_search rest)

pub feeds_count : (text : Text) → lf_search text ≡ count_by is_lf text
feeds_count = is_count_by lf_search is_lf refl (λ x xs. refl)

-- no line begins before the one above it
pub begin_step : (text : Text) (line : ℕ) → line_begin text line ≤ line_begin text (suc line)
begin_step text zero = omega arith
begin_step [] (suc line) = omega arith
begin_step (b ∷ rest) (suc line) =
    elim (is_lf b) as (λ f. suc (cond f (line_begin rest line) (line_begin rest (suc line))) ≤ suc (cond f (line_begin rest (suc line)) (line_begin rest (suc (suc line))))) [
      | true ↦ let h = begin_step rest line in omega arith
      | false ↦ let h = begin_step rest (suc line) in omega arith
    ]

-- after the last line feed there is one line more, and it runs to the end
pub begin_past : (text : Text) (line : ℕ) → lf_search text < line → line_begin text line ≡ length text
begin_past text zero h = absurd (omega arith)
begin_past [] (suc line) h = refl
begin_past (b ∷ rest) (suc line) h =
    elim (is_lf b) as (λ f. cond f (1 + lf_search rest) (lf_search rest) < suc line → suc (cond f (line_begin rest line) (line_begin rest (suc line))) ≡ suc (length rest)) [
      | true ↦ λ h. ap suc (begin_past rest line (omega arith))
      | false ↦ λ h. ap suc (begin_past rest (suc line) (omega arith))
    ] h

-- as many line feeds stand before a line as its number says
pub feeds_before : (text : Text) (line : ℕ) → line ≤ lf_search text → lf_search (take (line_begin text line) text) ≡ line
feeds_before text zero h = refl
feeds_before [] (suc line) h = absurd (omega arith)
feeds_before (b ∷ rest) (suc line) h =
    elim (is_lf b) as (λ f. suc line ≤ cond f (1 + lf_search rest) (lf_search rest)
    → cond f (1 + lf_search (take (cond f (line_begin rest line) (line_begin rest (suc line))) rest)) (lf_search (take (cond f (line_begin rest line) (line_begin rest (suc line))) rest)) ≡ suc line) [
      | true ↦ λ h. let e = feeds_before rest line (omega arith) in omega arith
      | false ↦ λ h. feeds_before rest (suc line) h
    ] h

-- a longer front has no fewer line feeds
pub feeds_rise : (text : Text) (m n : ℕ) → m ≤ n → lf_search (take m text) ≤ lf_search (take n text)
feeds_rise text zero n h = omega arith
feeds_rise text (suc m) zero h = absurd (omega arith)
feeds_rise [] (suc m) (suc n) h = omega arith
feeds_rise (b ∷ rest) (suc m) (suc n) h =
    let e : lf_search (take m rest) ≤ lf_search (take n rest) = feeds_rise rest m n (omega arith) in
    elim (is_lf b) as (λ f. cond f (1 + lf_search (take m rest)) (lf_search (take m rest)) ≤ cond f (1 + lf_search (take n rest)) (lf_search (take n rest))) [
      | true ↦ omega arith
      | false ↦ omega arith
    ]

pub feeds_within : (text : Text) (n : ℕ) → lf_search (take n text) ≤ lf_search text
feeds_within text zero = omega arith
feeds_within [] (suc n) = omega arith
feeds_within (b ∷ rest) (suc n) =
    let e : lf_search (take n rest) ≤ lf_search rest = feeds_within rest n in
    elim (is_lf b) as (λ f. cond f (1 + lf_search (take n rest)) (lf_search (take n rest)) ≤ cond f (1 + lf_search rest) (lf_search rest)) [
      | true ↦ omega arith
      | false ↦ omega arith
    ]

-- a line whose line feeds all stand before a place begins there or before
pub begin_before : (text : Text) (line at : ℕ) → line ≤ lf_search (take at text) → line_begin text line ≤ at
begin_before text zero at h = omega arith
begin_before [] (suc line) at h = omega arith
begin_before (b ∷ rest) (suc line) zero h = absurd (omega arith)
begin_before (b ∷ rest) (suc line) (suc at) h =
    elim (is_lf b) as (λ f. suc line ≤ cond f (1 + lf_search (take at rest)) (lf_search (take at rest)) → suc (cond f (line_begin rest line) (line_begin rest (suc line))) ≤ suc at) [
      | true ↦ λ h. let e = begin_before rest line at (omega arith) in omega arith
      | false ↦ λ h. let e = begin_before rest (suc line) at h in omega arith
    ] h

-- and a later line begins after the place
pub begin_after : (text : Text) (line at : ℕ) → lf_search (take at text) < line → line ≤ lf_search text → at < line_begin text line
begin_after text line at h within = go (cases_lt at (line_begin text line))
  where
    go : (at < line_begin text line) ⊎ (line_begin text line ≤ at) → at < line_begin text line
    go (inl remainder) = remainder
    go (inr before) =
        absurd (omega (arith, feeds_before text line within, feeds_rise text (line_begin text line) at before))

-- a line but the first begins right after a line feed
pub begin_after_feed : (text : Text) (line : ℕ) → line < lf_search text → (m : ℕ) × (line_begin text (suc line) ≡ suc m) × (m < length text) × (get_or text m 0 ≡ 10)
begin_after_feed [] line h = absurd (omega arith)
begin_after_feed (b ∷ rest) zero h =
    elim (is_lf b) as (λ f. is_lf b ≡ f → zero < cond f (1 + lf_search rest) (lf_search rest)
    → (m : ℕ) × (suc (cond f (line_begin rest zero) (line_begin rest (suc zero))) ≡ suc m) × (m < suc (length rest)) × (get_or (b ∷ rest) m 0 ≡ 10)) [
      | true ↦ λ e h. (0, refl, omega arith, eqb-true b 10 e)
      | false ↦ λ e h. let r = begin_after_feed rest zero h in (suc r.0, ap suc r.1, omega (arith, r.2), r.3)
    ] refl h
begin_after_feed (b ∷ rest) (suc line) h =
    elim (is_lf b) as (λ f. suc line < cond f (1 + lf_search rest) (lf_search rest)
    → (m : ℕ) × (suc (cond f (line_begin rest (suc line)) (line_begin rest (suc (suc line)))) ≡ suc m) × (m < suc (length rest)) × (get_or (b ∷ rest) m 0 ≡ 10)) [
      | true ↦ λ h. let r = begin_after_feed rest line (omega arith) in (suc r.0, ap suc r.1, omega (arith, r.2), r.3)
      | false ↦ λ h. let r = begin_after_feed rest (suc line) h in (suc r.0, ap suc r.1, omega (arith, r.2), r.3)
    ] h

-- a text may be cut where a line begins
pub boundary_of_line : (text : Text) (line : ℕ) → IsUtf8 text → IsCharBoundary text (line_begin text line)
boundary_of_line text zero utf8 = IsCharBoundary-start text utf8
boundary_of_line text (suc line) utf8 = go (cases_lt line (lf_search text))
  where
    go : (line < lf_search text) ⊎ (lf_search text ≤ line) → IsCharBoundary text (line_begin text (suc line))
    go (inl inside) =
        let r = begin_after_feed text line inside in
        let e : line_begin text (suc line) ≡ r.0 + 1 = omega (arith, r.1) in
        rw e (IsCharBoundary-after_ascii text r.0 utf8 r.2 (omega (arith, r.3)))
    go (inr past) = rw (begin_past text (suc line) (omega arith)) (IsCharBoundary-end text)

-- the index has one place more than there are line feeds, and they are where the lines begin
length-starts_from : (at : ℕ) (text : Text) → length (starts_from at text) ≡ lf_search text
length-starts_from at [] = refl
length-starts_from at (b ∷ rest) =
    elim (is_lf b) as (λ f. length (cond f ((at + 1) ∷ starts_from (at + 1) rest) (starts_from (at + 1) rest)) ≡ cond f (1 + lf_search rest) (lf_search rest)) [
      | true ↦ let e = length-starts_from (at + 1) rest in omega arith
      | false ↦ length-starts_from (at + 1) rest
    ]

pub length-line_starts : (text : Text) → length (line_starts text) ≡ lf_search text + 1
length-line_starts text = let e = length-starts_from 0 text in omega arith

starts_from_at : (at : ℕ) (text : Text) (k : ℕ) → k < lf_search text → get_or (starts_from at text) k 0 ≡ at + line_begin text (suc k)
starts_from_at at [] k h = absurd (omega arith)
starts_from_at at (b ∷ rest) zero h =
    elim (is_lf b) as (λ f. zero < cond f (1 + lf_search rest) (lf_search rest)
    → get_or (cond f ((at + 1) ∷ starts_from (at + 1) rest) (starts_from (at + 1) rest)) zero 0 ≡ at + suc (cond f (line_begin rest zero) (line_begin rest (suc zero)))) [
      | true ↦ λ h. refl
      | false ↦ λ h. starts_from_at (at + 1) rest zero h ∙ omega arith
    ] h
starts_from_at at (b ∷ rest) (suc k) h =
    elim (is_lf b) as (λ f. suc k < cond f (1 + lf_search rest) (lf_search rest)
    → get_or (cond f ((at + 1) ∷ starts_from (at + 1) rest) (starts_from (at + 1) rest)) (suc k) 0 ≡ at + suc (cond f (line_begin rest (suc k)) (line_begin rest (suc (suc k))))) [
      | true ↦ λ h. starts_from_at (at + 1) rest k (omega arith) ∙ omega arith
      | false ↦ λ h. starts_from_at (at + 1) rest (suc k) h ∙ omega arith
    ] h

pub line_starts_at : (text : Text) (line : ℕ) → line ≤ lf_search text → get_or (line_starts text) line 0 ≡ line_begin text line
line_starts_at text zero h = refl
line_starts_at text (suc line) h = starts_from_at 0 text line (omega arith) ∙ omega arith

-- a line starts right after each line feed
starts_after : (text : Text) (at n : ℕ) → at + n ≡ length text → map (λ k. k + 1) (places_from is_lf text at n) ≡ starts_from at (drop at text)
unfolding places_from
starts_after text at zero all = sym (at_drop_all (starts_from at) text at (omega arith))
starts_after text at (suc n) all =
    let later = starts_after text (at + 1) n (omega arith) in
    elim (is_lf (slice_index text at)) as (λ f. map (λ k. k + 1) (cond f (at ∷ places_from is_lf text (at + 1) n) (places_from is_lf text (at + 1) n)) ≡ cond f ((at + 1) ∷ starts_from (at + 1) (drop (at + 1) text)) (starts_from (at + 1) (drop (at + 1) text))) [
      | true ↦ ap (λ (l : List ℕ). (at + 1) ∷ l) later
      | false ↦ later
    ] ∙ sym (at_drop_more (starts_from at) text at 0 (omega arith))

pub starts_found : (text : Text) → 0 ∷ map (λ k. k + 1) (places is_lf text) ≡ line_starts text
starts_found text = ap (λ (l : List ℕ). 0 ∷ l) (starts_after text 0 (length text - 0) (omega arith))

-- after a line's begin, up to a place on it, no line feed stands
no_feed_on_line : (text : Text) (at k : ℕ) → at ≤ length text → line_begin text (lf_search (take at text)) ≤ k → k < at → is_lf (get_or text k 0) ≡ false
no_feed_on_line text at k within from before =
    elim (is_lf (get_or text k 0)) as (λ f. is_lf (get_or text k 0) ≡ f → f ≡ false) [
      | true ↦ λ e.
          let more : lf_search (take (k + 1) text) ≡ lf_search (take k text) + 1 = feeds_count (take (k + 1) text) ∙ count_by_more_yes is_lf text k 0 (omega arith) e ∙ ap (λ n. n + 1) (sym (feeds_count (take k text))) in
          absurd (omega (arith, feeds_rise text (k + 1) at (omega arith), feeds_rise text (line_begin text (lf_search (take at text))) k from, feeds_before text (lf_search (take at text)) (feeds_within text at)))
      | false ↦ λ e. refl
    ] refl

-- right before a line but the first stands a line feed
before_line : (text : Text) (line : ℕ) → line ≤ lf_search text → 0 < line_begin text line → get_or text (line_begin text line - 1) 0 ≡ 10
before_line text zero h some = absurd (omega arith)
before_line text (suc line) h some =
    let r = begin_after_feed text line (omega arith) in
    let e : line_begin text (suc line) - 1 ≡ r.0 = omega (arith, r.1) in
    ap (λ n. get_or text n 0) e ∙ r.3

-- what stands after the last line feed before a place begins where the place's line does
pub last_line : (text : Text) (at : ℕ) → at ≤ length text → after_last is_lf (take at text) ≡ drop (line_begin text (lf_search (take at text))) (take at text)
last_line text at within =
    let front = take at text in
    let begin = line_begin text (lf_search front) in
    let size : length front ≡ at = length-take-le at text within in
    let before : begin ≤ at = begin_before text (lf_search front) at (omega arith) in
    let first : 0 < begin → not (is_lf (get_or front (begin - 1) 0)) ≡ false =
    λ some. ap (λ b. not (is_lf b)) (get_or-take at text (begin - 1) 0 (omega arith) ∙ before_line text (lf_search front) (feeds_within text at) some) in
    let same : suffix_len (λ x. not (is_lf x)) front ≡ length front - begin =
    suffix_len_is (λ x. not (is_lf x)) front begin 0 (omega arith) (λ k from inside. ap not (ap is_lf (get_or-take at text k 0 (omega arith)) ∙ no_feed_on_line text at k within from (omega arith))) first in
    ap (λ n. drop n front) (omega arith)

-- no line begins before an earlier one
pub begins_rise : (text : Text) (i j : ℕ) → i ≤ j → line_begin text i ≤ line_begin text j
begins_rise text i zero h = rw (zero_from_le i h) (omega arith)
  where
    zero_from_le : (i : ℕ) → i ≤ 0 → i ≡ 0
    zero_from_le i h = omega arith
begins_rise text i (suc j) h = go (cases_lt i (suc j)) (begins_rise text i j)
  where
    go : (i < suc j) ⊎ (suc j ≤ i) → (i ≤ j → line_begin text i ≤ line_begin text j) → line_begin text i ≤ line_begin text (suc j)
    go (inl less) rise = omega (arith, rise (omega arith), begin_step text j)
    go (inr more) rise = let same : i ≡ suc j = omega arith in rw same (omega arith)

pub starts_at : (text : Text) (k d : ℕ) → k < length (line_starts text) → get_or (line_starts text) k d ≡ line_begin text k
starts_at text k d h =
    get_or_default (line_starts text) k d 0 h ∙ line_starts_at text k (omega (arith, length-line_starts text))

not_both : (m n : ℕ) → leb m n ≡ false → m ≤ n → ⊥
not_both m n test order = grind (arith, nat_tests)

leb-true : (m n : ℕ) → leb m n ≡ true → m ≤ n
leb-true m n test = grind (arith, nat_tests)

leb-from : (m n : ℕ) → m ≤ n → leb m n ≡ true
leb-from m n order = grind (arith, nat_tests)

-- the places at or before one are the first of the index
pub starts_partitioned : (text : Text) (at : ℕ) → IsPartitionedBy (λ start. leb start at) (line_starts text)
starts_partitioned text at i j d order inside test =
    let here = starts_at text i d (omega arith) in
    let there = starts_at text j d inside in
    leb-from _ _ (omega (arith, begins_rise text i j order, leb-true _ _ test))

-- and there is one more of them than line feeds before the place
pub found_line : (text : Text) (at n : ℕ) → at ≤ length text → n ≤ length (line_starts text) → IsPartitionPoint (λ start. leb start at ≡ true) (λ start. leb start at ≡ false) (line_starts text) n → n ≡ suc (lf_search (take at text))
found_line text at n within bound parts = go (cases_lt n (suc (lf_search (take at text)))) (cases_lt (suc (lf_search (take at text))) n)
  where
    size : length (line_starts text) ≡ lf_search text + 1
    size = length-line_starts text

    go : (n < suc (lf_search (take at text))) ⊎ (suc (lf_search (take at text)) ≤ n) → (suc (lf_search (take at text)) < n) ⊎ (n ≤ suc (lf_search (take at text))) → n ≡ suc (lf_search (take at text))
    go (inl fewer) other =
        let inside : n < length (line_starts text) = omega (arith, feeds_within text at, size) in
        let test : leb (get_or (line_starts text) n 0) at ≡ false = parts.1 n 0 (omega arith) inside in
        let here : get_or (line_starts text) n 0 ≡ line_begin text n = starts_at text n 0 inside in
        let before : line_begin text n ≤ at = begin_before text n at (omega arith) in
        absurd (not_both (get_or (line_starts text) n 0) at test (omega arith))
    go (inr enough) (inl more) =
        let line : ℕ = suc (lf_search (take at text)) in
        let inside : line < length (line_starts text) = omega arith in
        let test : leb (get_or (line_starts text) line 0) at ≡ true = parts.0 line 0 (omega arith) more in
        let here : get_or (line_starts text) line 0 ≡ line_begin text line = starts_at text line 0 inside in
        let remainder : at < line_begin text line = begin_after text line at (omega arith) (omega (arith, size)) in
        absurd (omega (arith, leb-true _ _ test))
    go (inr enough) (inr not_more) = omega arith

-- what stands on the line of a place before it
pub front_of_line : (text : Text) (line begin at : ℕ) → at ≤ length text → line ≡ count_by is_lf (take at text) → begin ≡ line_begin text line → take (at - begin) (drop begin text) ≡ after_last is_lf (take at text)
front_of_line text line begin at within line_is begin_is =
    let same : line ≡ lf_search (take at text) = line_is ∙ sym (feeds_count (take at text)) in
    let start : begin ≡ line_begin text (lf_search (take at text)) = begin_is ∙ ap (line_begin text) same in
    let before : begin ≤ at = omega (arith, start, begin_before text (lf_search (take at text)) at (omega arith)) in
    let parts : begin + (at - begin) ≡ at = omega arith in
    sym (drop-take begin (at - begin) text) ∙ ap (λ n. drop begin (take n text)) parts ∙ ap (λ n. drop n (take at text)) start ∙ sym (last_line text at within)

-- a line begins at or before each place on it
pub line_before_place : (text : Text) (line begin at : ℕ) → line ≡ count_by is_lf (take at text) → begin ≡ line_begin text line → begin ≤ at
line_before_place text line begin at line_is begin_is =
    omega (arith, begin_is, begin_before text line at (omega (arith, line_is, feeds_count (take at text))))

-- the last line ends where the text does
pub last_line_end : (text : Text) (line : ℕ) → count_by is_lf text + 1 ≤ line → line_begin text line ≡ length text
last_line_end text line last = begin_past text line (omega (arith, feeds_count text))

pub line_within_index : (text : Text) (line : ℕ) → line < count_by is_lf text + 1 → line < length (line_starts text)
line_within_index text line inside = omega (arith, feeds_count text, length-line_starts text)
