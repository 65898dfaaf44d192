-- Places of texts that go on.
use Rattle.std.proofs.Common.{◌≡◌, ◌≢◌, ℕ, ◌+◌, ◌^◌, ◌-◌, ◌<◌, ◌≤◌, true, ◌++◌, length, take, take-add, drop, get_or, count_by, length-append, length-drop, refl, ap, sym, ◌∙◌, arith}
use Rattle.std.proofs.lemmas.List.{length-take}
use Rattle.std.proofs.lemmas.List.Sums.{count_by-le-length}
use Rattle.std.proofs.lemmas.Str.{IsCharBoundary-after_ascii, IsUtf8-append, IsUtf8-drop, IsUtf8-nil}
use Rattle.std.specs.List.{slice_range}
use Rattle.std.specs.Str.{IsUtf8, chars}
use Rattle.starlark_base.specs.Places.{is_lf, place_after}
use Rattle.starlark_base.specs.Positions.{starts_pair}
use Rattle.starlark_base.proofs.Pairs.{pairs_along, pairs_after_last, pairs_bound}
use Rattle.starlark_base.proofs.PlacesAlong.{characters_bound, column_bound, is_one_line, line_bound, place_along, place_after_last}
use Rattle.starlark_c.specs.Endings.{capped}
use Rattle.starlark_c.specs.Inner.OneLinePlaces.{place_on_line}
use Rattle.starlark_c.specs.PlaceRecords.{AreCharacters, IsPlaceOf, place_record}
use Rattle.starlark_c.specs.declared.places.PlaceRecord.{PlaceRecord}
use Rattle.starlark_grammar.specs.Words.{Text}

same_place : (a b : PlaceRecord) → a.line ≡ b.line → a.column ≡ b.column → a.utf16_column ≡ b.utf16_column → a ≡ b
same_place a b l c u =
    ap (λ (n : ℕ). record a { line = n }) l ∙ ap (λ (n : ℕ). record a { line = b.line; column = n }) c ∙ ap (λ (n : ℕ). record b { utf16_column = n }) u

uncapped : (n : ℕ) → n < 2 ^ 64 → capped n ≡ n
uncapped n small = omega (arith, small)

-- … by a text of one line
pub on_line : (front passed : Text) → IsUtf8 front → IsUtf8 passed → is_one_line passed ≡ true → length front + length passed < 2 ^ 63 → place_on_line (place_record front) passed ≡ place_record (front ++ passed)
on_line front passed utf8 more one short =
    let along = place_along front passed utf8 one in
    let pairs = pairs_along front passed one in
    let characters = characters_bound passed more in
    let few = count_by-le-length starts_pair passed in
    let column = column_bound front utf8 in
    let before = pairs_bound front in
    let columns = ap (λ p. p.column) along in
    same_place _ _
    (sym (ap (λ p. p.line) along))
    (uncapped _ (omega (arith, column, characters, short)) ∙ sym columns)
    (uncapped _ (omega (arith, column, characters, few, before, short)) ∙ omega (arith, columns, pairs))

-- … by a text whose last LF is known by its index
pub after_line : (front passed : Text) (last : ℕ) → IsUtf8 front → IsUtf8 passed → length front + length passed < 2 ^ 63
    → (last < length passed) × (get_or passed last 0 ≡ 10) × ((i : ℕ) → last < i → i < length passed → get_or passed i 0 ≢ 10)
    → place_on_line (record { line = capped ((place_record front).line + count_by is_lf passed); column = 0; utf16_column = 0 }) (drop (last + 1) passed) ≡ place_record (front ++ passed)
after_line front passed last utf8 more short found =
    let along = place_after_last front passed last found in
    let pairs = pairs_after_last front passed last found in
    let tail = drop (last + 1) passed in
    let text : IsUtf8 tail = IsUtf8-drop passed (last + 1) more (IsCharBoundary-after_ascii passed last more found.0 (omega (arith, found.1))) in
    let long : length tail ≤ length passed = omega (arith, length-drop (last + 1) passed) in
    let characters = characters_bound tail text in
    let few = count_by-le-length starts_pair tail in
    let lines = count_by-le-length is_lf passed in
    let line = line_bound front in
    let columns = ap (λ p. p.column) along in
    same_place (place_on_line (record { line = capped ((place_record front).line + count_by is_lf passed); column = 0; utf16_column = 0 }) tail) (place_record (front ++ passed))
    (uncapped _ (omega (arith, line, lines, short)) ∙ sym (ap (λ p. p.line) along))
    (uncapped (0 + length (chars tail)) (omega (arith, characters, long, short)) ∙ omega (arith, columns))
    (uncapped (0 + (length (chars tail) + count_by starts_pair tail)) (omega (arith, characters, few, long, short)) ∙ omega (arith, columns, pairs))

-- the bytes up to an offset, and those from it to a later one
front_on : (text : Text) (from to : ℕ) → from ≤ to → take from text ++ slice_range text from to ≡ take to text
front_on text from to order = sym (take-add from (to - from) text) ∙ ap (λ n. take n text) (omega (arith, order))

-- … are so many
pub short_on : (text : Text) (from to : ℕ) → from ≤ to → length text < 2 ^ 63 → length (take from text) + length (slice_range text from to) < 2 ^ 63
short_on text from to order short = omega (arith, ap length (front_on text from to order), length-append (take from text) (slice_range text from to), length-take to text, short)

-- a place is moved by the bytes between
pub moved_place : (text : Text) (from to : ℕ) (new : PlaceRecord) → AreCharacters text from to → IsUtf8 (take from text) → new ≡ place_record (take from text ++ slice_range text from to) → IsPlaceOf text to new
moved_place text from to new between utf8 is =
    let whole = front_on text from to between.order in
    record { utf8 = rw (← whole) (IsUtf8-append (take from text) (slice_range text from to) utf8 between.utf8); is = is ∙ ap place_record whole }

-- the start of a text is the place of its first offset
pub start_of : (text : Text) → IsPlaceOf text 0 (record { line = 0; column = 0; utf16_column = 0 })
unfolding place_after chars
start_of text = record { utf8 = IsUtf8-nil; is = refl }
