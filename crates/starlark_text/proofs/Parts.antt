-- The part of a text that a start and an end mean.
use Rattle.std.proofs.Common.{◌≡◌, ℕ, ◌+◌, ◌-◌, ◌<◌, ◌≤◌, true, false, cond, nat_lt, nat_le, List, length, take, drop, ap, sym, ◌∙◌, ◌⊎◌, inl, inr, Option, Some, None, ℤ, pos, negsuc, arith, length-drop}
use Rattle.std.proofs.lemmas.Bool.{cases_Bool, leb-true}
use Rattle.std.proofs.lemmas.Bool.Decides.{nat_tests}
use Rattle.std.specs.Str.{chars, IsUtf8}
use Rattle.starlark_text.specs.Characters.{char_count}
use Rattle.starlark_text.specs.Strings.{byte_place, cut, part, are_reversed, begins_past, str_indices}
use Rattle.starlark_text.specs.Indices.{place, start_place, end_place}
use Rattle.starlark_text.proofs.Characters.{chars_from, place_beyond}

place_within : (count : ℕ) (index : ℤ) → place count index ≤ count
place_within count (pos i) = omega arith
place_within count (negsuc i) = omega arith

end_within : (count : ℕ) (end : Option ℤ) → end_place count end ≤ count
end_within count None = omega arith
end_within count (Some index) = place_within count index

-- what a cut says by its answer
cut_some : (text front rest : List ℕ) (index : ℕ) → Some (front, rest) ≡ cut text index → (index ≤ char_count text) × (front ≡ take (byte_place text index) text) × (rest ≡ drop (byte_place text index) text)
cut_some text front rest index same = go (cases_Bool (nat_le index (char_count text)))
  where
    go : (nat_le index (char_count text) ≡ true) ⊎ (nat_le index (char_count text) ≡ false) → (index ≤ char_count text) × (front ≡ take (byte_place text index) text) × (rest ≡ drop (byte_place text index) text)
    go (inl within) =
        let pair = same ∙ ap (λ b. cond b (Some (take (byte_place text index) text, drop (byte_place text index) text)) None) within in
        let parts : ◌≡◌ {A = List ℕ × List ℕ} (front, rest) (take (byte_place text index) text, drop (byte_place text index) text) = cc in
        (leb-true index (char_count text) within, ap (λ (p : List ℕ × List ℕ). p.0) parts, ap (λ (p : List ℕ × List ℕ). p.1) parts)
    go (inr past) =
        let pair = same ∙ ap (λ b. cond b (Some (take (byte_place text index) text, drop (byte_place text index) text)) None) past in
        cc

cut_fails : (text : List ℕ) (index : ℕ) → None ≡ cut text index → char_count text < index
cut_fails text index same = go (cases_Bool (nat_le index (char_count text)))
  where
    go : (nat_le index (char_count text) ≡ true) ⊎ (nat_le index (char_count text) ≡ false) → char_count text < index
    go (inl within) =
        let pair = same ∙ ap (λ b. cond b (Some (take (byte_place text index) text, drop (byte_place text index) text)) None) within in
        cc
    go (inr past) = grind (arith, nat_tests)

-- a part cut out of what follows the start
part_is : (text rest : List ℕ) (start end : ℕ) → IsUtf8 text → start ≤ end → rest ≡ drop (byte_place text start) text → take (byte_place rest (end - start)) rest ≡ part text start end
part_is text rest start end utf8 order after =
    let sum : start + (end - start) ≡ end = omega arith in
    let beyond = sym (ap (byte_place text) sum) ∙ place_beyond text start (end - start) utf8 in
    let width : byte_place (drop (byte_place text start) text) (end - start) ≡ byte_place text end - byte_place text start = omega (arith, beyond) in
    ap (λ t. take (byte_place t (end - start)) t) after ∙ ap (λ n. take n (drop (byte_place text start) text)) width

rest_count : (text rest : List ℕ) (start : ℕ) → IsUtf8 text → rest ≡ drop (byte_place text start) text → char_count rest ≡ char_count text - start
rest_count text rest start utf8 after = ap char_count after ∙ ap length (chars_from text start utf8) ∙ length-drop start (chars text)

-- the second cut never fails
pub second_cut : (text front rest : List ℕ) (start end : Option ℤ) (count a b : ℕ) → IsUtf8 text → count ≡ char_count text → a ≡ start_place count start → b ≡ end_place count end → Some (front, rest) ≡ cut text a → None ≡ cut rest (b - a) → ⊥
second_cut text front rest start end count a b utf8 counted starts ends first second =
    let parts = cut_some text front rest a first in
    omega (arith, cut_fails rest (b - a) second, rest_count text rest a utf8 parts.2, end_within count end)

-- what the two cuts give is the part
pub found : (text front rest haystack after : List ℕ) (start end : Option ℤ) (count a b : ℕ) → IsUtf8 text → count ≡ char_count text → a ≡ start_place count start → b ≡ end_place count end → are_reversed start end ≡ false → begins_past count start end ≡ false → a ≤ b → Some (front, rest) ≡ cut text a → Some (haystack, after) ≡ cut rest (b - a) → Some (a, haystack) ≡ str_indices text start end
found text front rest haystack after start end count a b utf8 counted starts ends forward inside order first second =
    let parts = cut_some text front rest a first in
    let pieces = cut_some rest haystack after (b - a) second in
    let not_past : begins_past (char_count text) start end ≡ false = ap (λ n. begins_past n start end) (sym counted) ∙ inside in
    let begin : start_place (char_count text) start ≡ a = ap (λ n. start_place n start) (sym counted) ∙ sym starts in
    let ending : end_place (char_count text) end ≡ b = ap (λ n. end_place n end) (sym counted) ∙ sym ends in
    let ordered : nat_lt b a ≡ false = grind (arith, nat_tests) in
    let whole = pieces.1 ∙ part_is text rest a b utf8 order parts.2 in
    rw (forward, not_past, begin, ending, ordered) (ap (λ t. Some (a, t)) whole)
