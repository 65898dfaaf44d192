-- Steps of a cursor over a character.
use Rattle.std.proofs.Common.{◌≡◌, ℕ, ◌+◌, ◌-◌, ◌≤◌, List, ◌++◌, length, take, drop, IfSome, Option, Some, None, ap, sym, subst, ◌∙◌, arith, drop-drop}
use Rattle.std.proofs.lemmas.List.{take-append-drop, take_at, length-take}
use Rattle.std.proofs.lemmas.Str.{length-encode, IsUtf8-encode, IsUtf8-append, IsUtf8-drop, IsCharBoundary-past_char, IsCharBoundary-from_drop}
use Rattle.std.specs.Char.{IsScalar, len_utf8}
use Rattle.std.specs.Str.{IsUtf8, IsCharBoundary}
use Rattle.std.specs.Str.Iter.{chars_rest, chars_steps}
use Rattle.std.specs.declared.str.Chars.{Chars}
use Rattle.starlark_text.specs.Cursors.{EndsAt}
use lib.Utf8.{encode}

-- a character that begins at a place ends after it
pub ends_after : (text rest : List ℕ) (at c : ℕ) → drop at text ≡ encode c ++ rest → EndsAt text (at + len_utf8 c) c
ends_after text rest at c first =
    let begin : at + len_utf8 c - len_utf8 c ≡ at = omega arith in
    let width : at + len_utf8 c - at ≡ len_utf8 c = omega arith in
    rw (begin, width, first) (take_at (encode c) rest (len_utf8 c) (length-encode c))

-- a character that ends at a place has room before it, and a text may be cut where it begins
pub room_before : (text : List ℕ) (at c : ℕ) → EndsAt text at c → len_utf8 c ≤ at
room_before text at c ends = omega (arith, ap length ends, length-encode c, length-take (at - (at - len_utf8 c)) (drop (at - len_utf8 c) text))

pub boundary_before : (text : List ℕ) (at c : ℕ) → IsUtf8 text → IsScalar c → IsCharBoundary text at → EndsAt text at c → IsCharBoundary text (at - len_utf8 c)
boundary_before text at c utf8 scalar boundary ends =
    let room = room_before text at c ends in
    let width : at - (at - len_utf8 c) ≡ len_utf8 c = omega arith in
    let back : at - len_utf8 c + len_utf8 c ≡ at = omega arith in
    let from = at - len_utf8 c in
    let front : take (len_utf8 c) (drop from text) ≡ encode c = ap (λ n. take n (drop from text)) (sym width) ∙ ends in
    let remainder : drop (len_utf8 c) (drop from text) ≡ drop at text = drop-drop (len_utf8 c) from text ∙ ap (λ n. drop n text) back in
    let whole : encode c ++ drop at text ≡ drop from text = ap (λ t. t ++ drop at text) (sym front) ∙ ap (λ t. take (len_utf8 c) (drop from text) ++ t) (sym remainder) ∙ take-append-drop (len_utf8 c) (drop from text) in
    let more = IsUtf8-append (encode c) (drop at text) (IsUtf8-encode c scalar) (IsUtf8-drop text at utf8 boundary) in
    IsCharBoundary-from_drop text from (omega arith) (subst IsUtf8 whole more)

-- the first character of what follows a place
pub after_next : (text rest : List ℕ) (at : ℕ) (s t : Chars) (r : Option ℕ) → at ≤ length text → IsUtf8 rest → rest ≡ drop at text → chars_rest s ≡ rest → chars_steps s r t → IfSome r (λ c. IsCharBoundary text (at + len_utf8 c))
after_next text rest at s t None inside utf8 after same step = tt
after_next text rest at s t (Some c) inside utf8 after same step = IsCharBoundary-past_char text (chars_rest t) at c inside (subst IsUtf8 after utf8) (sym after ∙ sym same ∙ step.0)

pub before_next : (text rest : List ℕ) (at : ℕ) (s t : Chars) (r : Option ℕ) → rest ≡ drop at text → chars_rest s ≡ rest → chars_steps s r t → IfSome r (λ c. EndsAt text (at + len_utf8 c) c)
before_next text rest at s t None after same step = tt
before_next text rest at s t (Some c) after same step = ends_after text (chars_rest t) at c (sym after ∙ sym same ∙ step.0)
