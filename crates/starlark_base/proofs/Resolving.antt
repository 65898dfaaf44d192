-- Places along a text, and its lines one after another.
use Rattle.std.proofs.Common.{◌≡◌, ℕ, zero, suc, ◌+◌, ◌-◌, ◌<◌, ◌≤◌, ◌⊎◌, inl, inr, List, [], ◌∷◌, ◌++◌, map, length, take, drop, refl, ap, sym, ◌∙◌, arith, count_by, Less, take-add, add-zero, length-append}
use Rattle.std.proofs.lemmas.Bool.{cases_lt, lt-ltb, le-ltb, eq-eqb}
use Rattle.std.proofs.lemmas.List.{drop-drop, length-take-le, length-drop, length-map, take_all}
use Rattle.std.proofs.lemmas.List.FromFn.{length-range_with_len}
use Rattle.std.proofs.lemmas.Str.{chars-append, encodes-chars, IsUtf8-between}
use Rattle.std.proofs.Math.Utf8.{encodes}
use Rattle.std.specs.List.{concat, range_with_len}
use Rattle.std.specs.Ordering.{nat_cmp, ordering_then}
use Rattle.std.specs.Str.{chars, IsUtf8, IsCharBoundary}
use Rattle.starlark_base.specs.declared.codemap.resolved.ResolvedPos.{ResolvedPos}
use Rattle.starlark_base.specs.Places.{Text, is_lf, place_after, place_at, StandsBefore}
use Rattle.starlark_base.specs.Lines.{line_begin, line_count, line_span, line_texts, text_of}
use Rattle.starlark_base.proofs.LineFeeds.{lf_search, feeds_count, feeds_rise, begin_before, begins_rise, begin_past, boundary_of_line, front_of_line}

-- a text of some bytes has some characters
some_chars : (text : Text) → IsUtf8 text → 0 < length text → 0 < length (chars text)
some_chars text utf8 some = go (chars text) (encodes-chars text utf8)
  where
    go : (cs : List ℕ) → encodes cs ≡ text → 0 < length cs
    go [] e = absurd (omega (arith, ap length e))
    go (c ∷ cs) e = omega arith

-- a piece of a text, cut in two
split : (text : Text) (begin next end : ℕ) → begin ≤ next → next ≤ end → take (end - begin) (drop begin text) ≡ take (next - begin) (drop begin text) ++ take (end - next) (drop next text)
split text begin next end first second =
    let count : end - begin ≡ (next - begin) + (end - next) = omega arith in
    let there : begin + (next - begin) ≡ next = omega arith in
    ap (λ n. take n (drop begin text)) count ∙ take-add (next - begin) (end - next) (drop begin text) ∙ ap (λ t. take (next - begin) (drop begin text) ++ take (end - next) t) (drop-drop (next - begin) begin text ∙ ap (λ n. drop n text) there)

-- a longer front of one line has more characters
longer_front : (text : Text) (begin a b : ℕ) → IsUtf8 text → IsCharBoundary text begin → IsCharBoundary text a → IsCharBoundary text b → begin ≤ a → a < b → length (chars (take (a - begin) (drop begin text))) < length (chars (take (b - begin) (drop begin text)))
longer_front text begin a b utf8 at_begin at_a at_b order less =
    let front = take (a - begin) (drop begin text) in
    let more = take (b - a) (drop a text) in
    let parts : take (b - begin) (drop begin text) ≡ front ++ more = split text begin a b order (omega arith) in
    let front_utf8 = IsUtf8-between text begin a utf8 order at_begin at_a in
    let more_utf8 = IsUtf8-between text a b utf8 (omega arith) at_a at_b in
    let size : length more ≡ b - a = length-take-le (b - a) (drop a text) (omega (arith, length-drop a text, at_b.0)) in
    let some = some_chars more more_utf8 (omega arith) in
    let total = ap (λ t. length (chars t)) parts ∙ ap length (chars-append front more front_utf8) ∙ length-append (chars front) (chars more) in
    omega arith

pub order : (text : Text) (a b : ℕ) → IsUtf8 text → IsCharBoundary text a → IsCharBoundary text b → a < b → StandsBefore (place_at text a) (place_at text b)
unfolding place_after
order text a b utf8 at_a at_b less = go (cases_lt (lf_search (take a text)) (lf_search (take b text)))
  where
    go : (lf_search (take a text) < lf_search (take b text)) ⊎ (lf_search (take b text) ≤ lf_search (take a text)) → StandsBefore (place_after (take a text)) (place_after (take b text))
    go (inl above) = inl (omega (arith, feeds_count (take a text), feeds_count (take b text)))
    go (inr not_above) =
        let rise = feeds_rise text a b (omega arith) in
        let same : lf_search (take a text) ≡ lf_search (take b text) = omega arith in
        let line = lf_search (take a text) in
        let begin = line_begin text line in
        let before : begin ≤ a = begin_before text line a (omega arith) in
        let front_a = front_of_line text line begin a at_a.0 (feeds_count (take a text)) refl in
        let front_b = front_of_line text line begin b at_b.0 (same ∙ feeds_count (take b text)) refl in
        let longer = longer_front text begin a b utf8 (boundary_of_line text line utf8) at_a at_b before less in
        inr (sym (feeds_count (take a text)) ∙ same ∙ feeds_count (take b text), omega (arith, ap (λ t. length (chars t)) front_a, ap (λ t. length (chars t)) front_b, longer))

-- as places are ordered, by their lines and then by their columns
before_less : (a b : ResolvedPos) → StandsBefore a b → ordering_then (nat_cmp a.line b.line) (nat_cmp a.column b.column) ≡ Less
before_less a b (inl above) = rw (lt-ltb a.line b.line above) refl
before_less a b (inr (same, left)) = rw same (rw (le-ltb b.line b.line (omega arith)) (rw (eq-eqb b.line b.line refl) (rw (lt-ltb a.column b.column left) refl)))

pub order_less : (text : Text) (a b : ℕ) → IsUtf8 text → IsCharBoundary text a → IsCharBoundary text b → a < b → ordering_then (nat_cmp (place_at text a).line (place_at text b).line) (nat_cmp (place_at text a).column (place_at text b).column) ≡ Less
order_less text a b utf8 at_a at_b less = before_less (place_at text a) (place_at text b) (order text a b utf8 at_a at_b less)

lines_from : (text : Text) (n line : ℕ) → concat (map (λ k. text_of text (line_span text k)) (range_with_len line n)) ≡ take (line_begin text (line + n) - line_begin text line) (drop (line_begin text line) text)
lines_from text zero line = let none : line_begin text (line + 0) - line_begin text line ≡ 0 = ap (λ k. line_begin text k - line_begin text line) (add-zero line) ∙ omega arith in rw none refl
lines_from text (suc n) line =
    let begin = line_begin text line in
    let next = line_begin text (line + 1) in
    let end = line_begin text (line + 1 + n) in
    ap (λ t. take (next - begin) (drop begin text) ++ t) (lines_from text n (line + 1))
    ∙ sym (split text begin next end (begins_rise text line (line + 1) (omega arith)) (begins_rise text (line + 1) (line + 1 + n) (omega arith)))
    ∙ ap (λ k. take (line_begin text k - begin) (drop begin text)) (omega arith)

pub pieces : (text : Text) → length (line_texts text) ≡ count_by is_lf text + 1
pieces text = length-map (range_with_len 0 (line_count text)) (λ line. text_of text (line_span text line)) ∙ length-range_with_len 0 (line_count text)

pub joined_lines : (text : Text) → concat (line_texts text) ≡ text
joined_lines text =
    let whole : line_begin text (0 + line_count text) ≡ length text = begin_past text (0 + line_count text) (omega (arith, feeds_count text)) in
    lines_from text (line_count text) 0 ∙ take_all (line_begin text (0 + line_count text) - 0) text (omega arith)
