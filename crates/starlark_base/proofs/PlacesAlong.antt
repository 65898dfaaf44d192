-- Lines and columns along a text.
use Rattle.std.proofs.Common.{◌≡◌, ◌≢◌, ℕ, suc, ◌+◌, ◌-◌, ◌<◌, ◌≤◌, Bool, true, false, cond, not, [], ◌∷◌, ◌++◌, length, drop, take, take-add, add-one, get_or, subst, reverse, refl, ap, sym, ◌∙◌, arith, append_assoc, append-nil, length-append, length-drop, count_by, inl, inr, ◌⊎◌}
use Rattle.std.proofs.lemmas.Bool.{and_from, and_parts, ne_eqb, not-true, not-false, eqb-true, cases_lt}
use Rattle.std.proofs.Math.Seq.{split_at}
use Rattle.std.proofs.lemmas.List.{get_or-drop, reverse-append, drop-append-le, drop_all, length-reverse, get_or-reverse}
use Rattle.std.proofs.lemmas.List.Sums.{sum_by-append, count_by-le-length, suffix_len-le-length, prefix_len_stops}
use Rattle.std.proofs.lemmas.Str.{chars-append, IsUtf8-drop, length-le-encodes, encodes-chars, IsCharBoundary-after_ascii}
use Rattle.std.specs.List.{list_all, after_last, suffix_len}
use Rattle.std.specs.Str.{chars, IsUtf8}
use Rattle.starlark_base.specs.Places.{Text}
use Rattle.starlark_base.specs.Places.{is_lf, place_after, place_at}

-- no line feed stands in the text
abbrev pub is_one_line : Text → Bool
is_one_line text = list_all (λ b. not (is_lf b)) text

after_last_push : (front : Text) (b : ℕ) → is_lf b ≡ false → after_last is_lf (front ++ b ∷ []) ≡ after_last is_lf front ++ b ∷ []
after_last_push front b h =
    let s = suffix_len (λ x. not (is_lf x)) front in
    let within : s ≤ length front = suffix_len-le-length _ front in
    let count : length (front ++ b ∷ []) - (1 + s) ≡ length front - s = omega (arith, length-append front (b ∷ [])) in
    rw (reverse-append, h, count) (drop-append-le (length front - s) front (b ∷ []) (omega arith))

pub after_last_feed : (front : Text) → after_last is_lf (front ++ 10 ∷ []) ≡ []
after_last_feed front = rw reverse-append (drop_all _ (front ++ 10 ∷ []) (omega arith))

pub after_last_along : (front more : Text) → is_one_line more ≡ true → after_last is_lf (front ++ more) ≡ after_last is_lf front ++ more
after_last_along front [] h = ap (after_last is_lf) (append-nil front) ∙ sym (append-nil (after_last is_lf front))
after_last_along front (b ∷ more) h =
    let parts = and_parts (not (is_lf b)) (is_one_line more) h in
    ap (after_last is_lf) (sym (append_assoc front (b ∷ []) more))
    ∙ after_last_along (front ++ b ∷ []) more parts.1
    ∙ ap (λ t. t ++ more) (after_last_push front b (not-true (is_lf b) parts.0))
    ∙ append_assoc (after_last is_lf front) (b ∷ []) more

count_none : (more : Text) → is_one_line more ≡ true → count_by is_lf more ≡ 0
count_none [] h = refl
count_none (b ∷ more) h =
    let parts = and_parts (not (is_lf b)) (is_one_line more) h in
    sum_by-append (λ x. cond (is_lf x) 1 0) (b ∷ []) more ∙ rw (not-true (is_lf b) parts.0, count_none more parts.1) refl

-- the last line of a text is a text
pub utf8_line : (front : Text) → IsUtf8 front → IsUtf8 (after_last is_lf front)
utf8_line front utf8 = go (cases_lt s (length front))
  where
    s : ℕ
    s = suffix_len (λ x. not (is_lf x)) front

    go : (s < length front) ⊎ (length front ≤ s) → IsUtf8 (drop (length front - s) front)
    go (inl inside) =
        let at = length front - 1 - s in
        let feed : is_lf (get_or (reverse front) s 0) ≡ true = not-false _ (prefix_len_stops (λ x. not (is_lf x)) (reverse front) 0 (omega (arith, length-reverse front))) in
        let byte : get_or front at 0 ≡ 10 = sym (get_or-reverse front s 0 inside) ∙ eqb-true _ 10 feed in
        let next : at + 1 ≡ length front - s = omega arith in
        rw (← next) (IsUtf8-drop front (at + 1) utf8 (IsCharBoundary-after_ascii front at utf8 (omega arith) (omega arith)))
    go (inr whole) =
        let none : length front - s ≡ 0 = omega arith in
        rw none utf8

pub place_along : (front more : Text) → IsUtf8 front → is_one_line more ≡ true → place_after (front ++ more) ≡ record { line = (place_after front).line; column = (place_after front).column + length (chars more) }
unfolding place_after
place_along front more utf8 h =
    rw (
      after_last_along front more h,
      chars-append (after_last is_lf front) more (utf8_line front utf8),
      length-append (chars (after_last is_lf front)) (chars more),
      sum_by-append (λ x. cond (is_lf x) 1 0) front more,
      count_none more h,
    ) (ap (λ n. record { line = n; column = length (chars (after_last is_lf front)) + length (chars more) }) (omega arith))

pub line_bound : (front : Text) → (place_after front).line ≤ length front
unfolding place_after
line_bound front = count_by-le-length is_lf front

-- a text has no more characters than bytes
pub characters_bound : (text : Text) → IsUtf8 text → length (chars text) ≤ length text
characters_bound text utf8 =
    let within = length-le-encodes (chars text) in
    let whole = ap length (encodes-chars text utf8) in
    omega (arith, within, whole)

pub column_bound : (front : Text) → IsUtf8 front → (place_after front).column ≤ length front
unfolding place_after
column_bound front utf8 =
    let last = after_last is_lf front in
    omega (arith, characters_bound last (utf8_line front utf8), length-drop (length front - suffix_len (λ x. not (is_lf x)) front) front)

-- bytes of which none is a line feed
pub one_line_by_index : (text : Text) → ((k : ℕ) → k < length text → get_or text k 0 ≢ 10) → is_one_line text ≡ true
one_line_by_index [] h = refl
one_line_by_index (b ∷ bs) h =
    and_from _ _ (ap not (ne_eqb b 10 (h 0 (omega arith)))) (one_line_by_index bs (λ k l. h (suc k) (omega arith)))

-- after the last line feed only the bytes after it count for the column
pub place_after_feed : (front before tail : Text) → is_one_line tail ≡ true → place_after (front ++ (before ++ 10 ∷ tail)) ≡ record { line = (place_after front).line + count_by is_lf (before ++ 10 ∷ tail); column = length (chars tail) }
unfolding place_after
place_after_feed front before tail h =
    let parted : front ++ (before ++ 10 ∷ tail) ≡ ((front ++ before) ++ 10 ∷ []) ++ tail = sym (append_assoc front before (10 ∷ tail)) ∙ sym (append_assoc (front ++ before) (10 ∷ []) tail) in
    let last : after_last is_lf (front ++ (before ++ 10 ∷ tail)) ≡ tail = ap (after_last is_lf) parted ∙ after_last_along ((front ++ before) ++ 10 ∷ []) tail h ∙ ap (λ t. t ++ tail) (after_last_feed (front ++ before)) in
    rw (last, sum_by-append (λ x. cond (is_lf x) 1 0) front (before ++ 10 ∷ tail)) refl

-- the same, where the last line feed is known by its index
pub place_after_last : (front passed : Text) (last : ℕ) → (last < length passed) × (get_or passed last 0 ≡ 10) × ((i : ℕ) → last < i → i < length passed → get_or passed i 0 ≢ 10) → place_after (front ++ passed) ≡ record { line = (place_after front).line + count_by is_lf passed; column = length (chars (drop (last + 1) passed)) }
place_after_last front passed last found =
    let tail = drop (last + 1) passed in
    let split : passed ≡ take last passed ++ 10 ∷ tail = split_at passed last 0 found.0 ∙ ap (λ b. take last passed ++ b ∷ drop (suc last) passed) found.1 ∙ ap (λ n. take last passed ++ 10 ∷ drop n passed) (sym (add-one last)) in
    let one : is_one_line tail ≡ true = one_line_by_index tail (λ k l e. found.2 (last + 1 + k) (omega arith) (omega (arith, l, length-drop (last + 1) passed)) (sym (get_or-drop (last + 1) passed k 0) ∙ e)) in
    subst (λ t. place_after (front ++ t) ≡ record { line = (place_after front).line + count_by is_lf t; column = length (chars tail) }) (sym split) (place_after_feed front (take last passed) tail one)

-- a place is that of what stands before it and between
pub place_onward : (text : Text) (place to : ℕ) → place ≤ to → place_after (take place text ++ take (to - place) (drop place text)) ≡ place_at text to
place_onward text place to onward =
    ap place_after (sym (take-add place (to - place) text)) ∙ ap (λ n. place_after (take n text)) (omega (arith, onward))

-- the line and the column at the start of a text
pub start_place : (text : Text) → record { line = 0; column = 0 } ≡ place_at text 0
unfolding place_after chars
start_place text = refl
