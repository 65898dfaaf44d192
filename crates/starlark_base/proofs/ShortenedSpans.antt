-- A span without its last byte.
use Rattle.std.proofs.Common.{◌≡◌, ◌≢◌, ℕ, ◌+◌, ◌-◌, ◌<◌, ◌≤◌, Bool, true, false, ◌&&◌, eqb, [], ◌∷◌, length, drop, get_or, refl, ap, sym, ◌∙◌, arith, length-drop, reverse, inl, inr, ◌⊎◌}
use Rattle.std.specs.List.{ends_with, suffix_len}
use Rattle.std.specs.Str.{IsCharBoundary}
use Rattle.std.specs.Prelude.{nat_eq}
use Rattle.std.specs.Cmp.Lexicographic.{pointwise}
use Rattle.std.proofs.lemmas.Bool.{ne_eqb, eq-eqb, cases_lt}
use Rattle.std.proofs.lemmas.Bool.Decides.{nat_tests}
use Rattle.std.proofs.lemmas.List.Sums.{suffix_len-le-length, prefix_len_passes}
use Rattle.std.proofs.lemmas.Str.{IsCharBoundary-before_ascii, IsCharBoundary-end}
use Rattle.std.proofs.lemmas.List.{length-take-le, get_or-take, get_or-drop, drop_more, drop_all, nil_from_length, get_or-reverse}
use Rattle.starlark_base.specs.Spans.{ByteSpan}
use Rattle.starlark_base.specs.Places.{Text}
use Rattle.starlark_base.specs.Lines.{text_of, without_last, is_line_end}

and_true : (b : Bool) → (b && true) ≡ b
and_true true = refl
and_true false = refl

-- the last byte of a span's text
last_byte : (text : Text) (span : ByteSpan) (b : ℕ) → span.begin < span.end → span.end ≤ length text → ends_with nat_eq (text_of text span) (b ∷ []) ≡ eqb b (get_or text (span.end - 1) 0)
last_byte text span b some within =
    let xs = text_of text span in
    let size : length xs ≡ span.end - span.begin = length-take-le (span.end - span.begin) (drop span.begin text) (omega (arith, length-drop span.begin text)) in
    let last : drop (length xs - 1) xs ≡ get_or xs (length xs - 1) 0 ∷ drop (length xs - 1 + 1) xs = drop_more xs (length xs - 1) 0 (omega arith) in
    let none : drop (length xs - 1 + 1) xs ≡ [] = drop_all (length xs - 1 + 1) xs (omega arith) in
    let byte : get_or xs (length xs - 1) 0 ≡ get_or text (span.end - 1) 0 = get_or-take (span.end - span.begin) (drop span.begin text) (length xs - 1) 0 (omega arith) ∙ get_or-drop span.begin text (length xs - 1) 0 ∙ ap (λ n. get_or text n 0) (omega arith) in
    ap (pointwise eqb (b ∷ [])) (last ∙ ap (λ r. get_or xs (length xs - 1) 0 ∷ r) none) ∙ and_true (eqb b (get_or xs (length xs - 1) 0)) ∙ ap (eqb b) byte

pub without_last_yes : (text : Text) (span : ByteSpan) (b : ℕ) → span.begin < span.end → span.end ≤ length text → get_or text (span.end - 1) 0 ≡ b → without_last b text span ≡ record { begin = span.begin; end = span.end - 1 }
without_last_yes text span b some within is = rw (last_byte text span b some within, is, eq-eqb b b refl) refl

pub without_last_no : (text : Text) (span : ByteSpan) (b : ℕ) → span.begin < span.end → span.end ≤ length text → get_or text (span.end - 1) 0 ≢ b → without_last b text span ≡ span
without_last_no text span b some within other = rw (last_byte text span b some within, ne_eqb b (get_or text (span.end - 1) 0) (λ e. other (sym e))) refl

pub without_last_none : (text : Text) (span : ByteSpan) (b : ℕ) → span.end ≤ span.begin → without_last b text span ≡ span
without_last_none text span b none =
    let empty : text_of text span ≡ [] = nil_from_length (text_of text span) (length-take-le (span.end - span.begin) (drop span.begin text) (omega arith) ∙ omega arith) in
    rw empty refl

-- where the line ends that a text ends with begin
pub line_ends_within : (text : Text) → suffix_len is_line_end text ≤ length text
line_ends_within text = suffix_len-le-length is_line_end text

line_end_is_ascii : (b : ℕ) → is_line_end b ≡ true → b < 128
line_end_is_ascii b h = grind (arith, nat_tests)

pub boundary_before_line_ends : (text : Text) → IsCharBoundary text (length text - suffix_len is_line_end text)
boundary_before_line_ends text = go (cases_lt 0 (suffix_len is_line_end text))
  where
    go : (0 < suffix_len is_line_end text) ⊎ (suffix_len is_line_end text ≤ 0) → IsCharBoundary text (length text - suffix_len is_line_end text)
    go (inl some) =
        let n = suffix_len is_line_end text in
        let within : n ≤ length text = line_ends_within text in
        let first : is_line_end (get_or (reverse text) (n - 1) 0) ≡ true = prefix_len_passes is_line_end (reverse text) (n - 1) 0 (omega arith) in
        let here : get_or (reverse text) (n - 1) 0 ≡ get_or text (length text - n) 0 = get_or-reverse text (n - 1) 0 (omega arith) ∙ ap (λ k. get_or text k 0) (omega arith) in
        IsCharBoundary-before_ascii text (length text - n) (omega arith) (omega (arith, here, line_end_is_ascii (get_or (reverse text) (n - 1) 0) first))
    go (inr none) =
        let e : length text - suffix_len is_line_end text ≡ length text = omega arith in
        rw e (IsCharBoundary-end text)
