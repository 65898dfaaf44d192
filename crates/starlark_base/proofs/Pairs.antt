-- Characters of two UTF-16 units along a text.
use Rattle.std.proofs.Common.{◌≡◌, ◌≢◌, ℕ, suc, ◌+◌, ◌-◌, ◌<◌, ◌≤◌, true, false, cond, not, [], ◌∷◌, ◌++◌, length, drop, take, take-add, add-one, get_or, ap, sym, ◌∙◌, arith, append_assoc, append-nil, length-append, length-drop, count_by}
use Rattle.std.proofs.Math.Seq.{split_at}
use Rattle.std.proofs.lemmas.List.Sums.{sum_by-append, count_by-le-length, suffix_len-le-length}
use Rattle.std.proofs.lemmas.Bool.{and_parts, not-true}
use Rattle.std.proofs.lemmas.List.{drop-append-le, get_or-drop, reverse-append}
use Rattle.std.specs.List.{after_last, slice_range, suffix_len}
use Rattle.std.proofs.lemmas.Str.{IsCharBoundary-start}
use Rattle.std.specs.Str.{IsUtf8}
use Rattle.starlark_base.specs.Places.{Text, is_lf}
use Rattle.starlark_base.specs.Positions.{IsPosition, pairs_before, pairs_in_line, starts_pair}
use Rattle.starlark_base.proofs.PlacesAlong.{after_last_along, after_last_feed, is_one_line, one_line_by_index, start_place}

-- a text of one line is its last line
pub last_line_whole : (text : Text) → is_one_line text ≡ true → after_last is_lf text ≡ text
last_line_whole text one = after_last_along [] text one

-- along a text of one line
pub pairs_along : (front more : Text) → is_one_line more ≡ true → pairs_in_line (front ++ more) ≡ pairs_in_line front + count_by starts_pair more
pairs_along front more one =
    ap (count_by starts_pair) (after_last_along front more one)
    ∙ sum_by-append (λ x. cond (starts_pair x) 1 0) (after_last is_lf front) more

-- what is after the last LF, by its index
pub last_line_after : (front passed : Text) (last : ℕ) → (last < length passed) × (get_or passed last 0 ≡ 10) × ((i : ℕ) → last < i → i < length passed → get_or passed i 0 ≢ 10) → after_last is_lf (front ++ passed) ≡ drop (last + 1) passed
last_line_after front passed last found =
    let tail = drop (last + 1) passed in
    let split : passed ≡ take last passed ++ 10 ∷ tail = split_at passed last 0 found.0 ∙ ap (λ b. take last passed ++ b ∷ drop (suc last) passed) found.1 ∙ ap (λ n. take last passed ++ 10 ∷ drop n passed) (sym (add-one last)) in
    let one : is_one_line tail ≡ true = one_line_by_index tail (λ k l e. found.2 (last + 1 + k) (omega arith) (omega (arith, l, length-drop (last + 1) passed)) (sym (get_or-drop (last + 1) passed k 0) ∙ e)) in
    let parted : front ++ passed ≡ ((front ++ take last passed) ++ 10 ∷ []) ++ tail =
    ap (λ t. front ++ t) split ∙ sym (append_assoc front (take last passed) (10 ∷ tail)) ∙ sym (append_assoc (front ++ take last passed) (10 ∷ []) tail) in
    ap (after_last is_lf) parted ∙ after_last_along ((front ++ take last passed) ++ 10 ∷ []) tail one ∙ ap (λ t. t ++ tail) (after_last_feed (front ++ take last passed))

-- after the last LF only what follows it counts
pub pairs_after_last : (front passed : Text) (last : ℕ) → (last < length passed) × (get_or passed last 0 ≡ 10) × ((i : ℕ) → last < i → i < length passed → get_or passed i 0 ≢ 10) → pairs_in_line (front ++ passed) ≡ count_by starts_pair (drop (last + 1) passed)
pairs_after_last front passed last found = ap (count_by starts_pair) (last_line_after front passed last found)

-- a text has no more such characters than bytes
pub pairs_bound : (front : Text) → pairs_in_line front ≤ length front
pairs_bound front =
    omega (arith, count_by-le-length starts_pair (after_last is_lf front), length-drop (length front - suffix_len (λ x. not (is_lf x)) front) front)

-- what is before a place and between counts before a later one
pub pairs_onward : (text : Text) (place to : ℕ) → place ≤ to → pairs_in_line (take place text ++ take (to - place) (drop place text)) ≡ pairs_before text to
pairs_onward text place to onward =
    ap pairs_in_line (sym (take-add place (to - place) text)) ∙ ap (λ n. pairs_in_line (take n text)) (omega (arith, onward))

-- the start of a text is a position of it
pub position_start : (text : Text) → IsUtf8 text → IsPosition text (record { at = 0; place = record { line = 0; column = 0 }; pairs = 0 })
position_start text utf8 =
    record { boundary = IsCharBoundary-start text utf8; known = ap (λ p. record { at = 0; place = p; pairs = 0 }) (start_place text) }

-- a range from the start
pub front_range : (text : Text) (n : ℕ) → slice_range text 0 n ≡ take n text
front_range text n = let e : n - 0 ≡ n = omega arith in ap (λ k. take k text) e
