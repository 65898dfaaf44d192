-- Starts of lines, and tabs, are character boundaries.
use Rattle.std.proofs.Common.{◌≡◌, ℕ, ◌+◌, ◌-◌, ◌<◌, ◌≤◌, Bool, false, not, ◌==◌, length, drop, take, sym, subst, ◌∙◌, arith, ◌⊎◌, inl, inr, length-drop}
use Rattle.std.proofs.lemmas.Bool.{cases_lt, eqb-true, not-false}
use Rattle.std.proofs.lemmas.List.{get_or-drop, length-take-le, take-take}
use Rattle.std.proofs.lemmas.List.Sums.{prefix_len_stops, prefix_len-le-length, suffix_len-le-length}
use Rattle.std.proofs.lemmas.Str.{IsCharBoundary-before_ascii, IsCharBoundary-end, IsCharBoundary-from_drop, IsCharBoundary-from_take, IsUtf8-take}
use Rattle.std.specs.List.{prefix_len, suffix_len}
use Rattle.std.specs.Str.{IsCharBoundary, IsUtf8}
use Rattle.starlark_base.specs.Places.{Text, is_lf}
use Rattle.starlark_tokens.specs.OutputFormats.ItemLines.{line_front}
use Rattle.starlark_tokens.specs.ToldFaults.ShownPlaces.{line_start, next_tab}

abbrev is_other : ℕ → Bool
is_other b = not (is_lf b)

-- the start of a line begins a character
pub line_start_boundary : (text : Text) (at : ℕ) → IsUtf8 text → IsCharBoundary text at → IsUtf8 (line_front text at) → IsCharBoundary text (line_start text at)
line_start_boundary text at utf8 boundary line =
    let front = take at text in
    let s = suffix_len is_other front in
    let within : s ≤ length front = suffix_len-le-length _ front in
    let len : length front ≡ at = length-take-le at text boundary.0 in
    let n = length front - s in
    let start = IsCharBoundary-from_drop front n (omega arith) line in
    let kept = IsUtf8-take front n (IsUtf8-take text at utf8 boundary) start in
    let same : take n front ≡ take n text = take-take n at text (omega (arith, len)) in
    let here = IsCharBoundary-from_take text n utf8 (omega (arith, len, boundary.0)) (subst IsUtf8 same kept) in
    let is : n ≡ line_start text at = omega (arith, within, len, length-drop n front) in
    subst (IsCharBoundary text) is here

abbrev is_no_tab : ℕ → Bool
is_no_tab b = not (b == 9)

is_tab : (b : ℕ) → is_no_tab b ≡ false → b ≡ 9
is_tab b other = eqb-true b 9 (not-false (b == 9) other)

-- a tab, or the end of a text, is at a character boundary
pub next_tab_boundary : (text : Text) (at : ℕ) → at ≤ length text → IsCharBoundary text (next_tab text at)
next_tab_boundary text at inside = by (cases_lt (prefix_len is_no_tab (drop at text)) (length (drop at text)))
  where
    by : (prefix_len is_no_tab (drop at text) < length (drop at text)) ⊎ (length (drop at text) ≤ prefix_len is_no_tab (drop at text)) → IsCharBoundary text (next_tab text at)
    by (inl less) =
        let len = length-drop at text in
        let tab = is_tab _ (prefix_len_stops is_no_tab (drop at text) 0 less) in
        let byte = sym (get_or-drop at text (prefix_len is_no_tab (drop at text)) 0) ∙ tab in
        IsCharBoundary-before_ascii text (at + prefix_len is_no_tab (drop at text)) (omega (arith, less, len)) (omega (arith, byte))
    by (inr all) =
        let same : at + prefix_len is_no_tab (drop at text) ≡ length text = omega (arith, all, inside, length-drop at text, prefix_len-le-length is_no_tab (drop at text)) in
        rw same (IsCharBoundary-end text)
