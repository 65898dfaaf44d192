-- Values of plain lexemes are parts of their text.
use Rattle.std.proofs.Common.{◌≡◌, ℕ, ◌+◌, ◌-◌, ◌≤◌, length, take, drop, Some, None, refl, ap, sym, ◌∙◌, arith, length-drop, Bool, true, false, not, eqb, [], ◌⊎◌, inl, inr}
use Rattle.std.specs.Cmp.Lexicographic.{pointwise}
use Rattle.std.specs.List.{ends_with}
use Rattle.std.specs.Prelude.{Option, if◌then◌else◌, nat_eq}
use Rattle.std.proofs.lemmas.Cmp.{nat_list_eq_equiv}
use Rattle.std.proofs.lemmas.List.{drop-take, length-take-le}
use Rattle.starlark_c.specs.Records.{stored_bytes, value_bytes}
use Rattle.starlark_c.specs.TextParts.{home, part_before, part_in, stored, value_part}
use Rattle.starlark_grammar.specs.Words.{Text}
use Rattle.starlark_lexemes.specs.PlainLexemes.{IsPlainIn, closing_len, plain_value, plain_view, token_of}
use Rattle.starlark_lexemes.specs.declared.passed.Kind.{Kind}
use Rattle.starlark_lexemes.specs.declared.passed.Kind.TheVariants as kind
use Rattle.starlark_lexemes.specs.declared.passed.Passed.{Passed}
use Rattle.starlark_token.specs.TokenViews.{Whole}

-- the text in which values stay, by a const parameter
abbrev pub home_of : (stays : ℕ) → Text → Option Text
home_of stays text = home (not (eqb stays 0)) text

-- a text has its bytes between two offsets right before the second
part_between : (text : Text) (begin end : ℕ) → begin ≤ end → end ≤ length text → part_before text end (take (end - begin) (drop begin text)) ≡ Some begin
part_between text begin end order inside =
    let bytes = take (end - begin) (drop begin text) in
    let front = take end text in
    let len : length bytes ≡ end - begin = length-take-le (end - begin) (drop begin text) (omega (arith, inside, order, length-drop begin text)) in
    let long : length front ≡ end = length-take-le end text inside in
    let at : length front - length bytes ≡ begin = omega (arith, len, long, order) in
    let total : begin + (end - begin) ≡ end = omega (arith, order) in
    let rest : drop (length front - length bytes) front ≡ bytes = ap (λ n. drop n front) at ∙ ap (λ n. drop begin (take n text)) (sym total) ∙ drop-take begin (end - begin) text in
    let same : ends_with nat_eq front bytes ≡ true = ap (pointwise nat_eq bytes) rest ∙ nat_list_eq_equiv.refl bytes in
    let here : end - length bytes ≡ begin = omega (arith, len, order) in
    rw (same, here) refl

-- where the value of a plain lexeme begins, if its kind has one
abbrev plain_part : Kind → ℕ → Option ℕ
plain_part kind.Comment begin = Some begin
plain_part kind.Identifier begin = Some begin
plain_part kind.FStringText begin = Some begin
plain_part kind.String begin = Some begin
plain_part it begin = None

plain_value_part : (text : Text) (it : Kind) (end begin value_end : ℕ) → begin ≤ value_end → value_end ≤ length text → value_end + closing_len it ≡ end
    → value_part text end (Whole (token_of it (take (value_end - begin) (drop begin text)))) ≡ plain_part it begin
unfolding value_part
plain_value_part text kind.Comment end begin value_end order inside closes = let last : end ≡ value_end = omega (arith, closes) in rw last (part_between text begin value_end order inside)
plain_value_part text kind.Identifier end begin value_end order inside closes = let last : end ≡ value_end = omega (arith, closes) in rw last (part_between text begin value_end order inside)
plain_value_part text kind.FStringText end begin value_end order inside closes = let last : end ≡ value_end = omega (arith, closes) in rw last (part_between text begin value_end order inside)
plain_value_part text kind.String end begin value_end order inside closes =
    let last : end - 1 ≡ value_end = omega (arith, closes) in
    rw (last, part_between text begin value_end order inside) refl
plain_value_part text it end begin value_end order inside closes = refl

-- so it is of a kind that has one, …
has_part : (it : Kind) (begin : ℕ) → (it ≡ kind.Comment) ⊎ (it ≡ kind.Identifier) ⊎ (it ≡ kind.FStringText) ⊎ (it ≡ kind.String) → plain_part it begin ≡ Some begin
has_part it begin (inl is) = rw is refl
has_part it begin (inr (inl is)) = rw is refl
has_part it begin (inr (inr (inl is))) = rw is refl
has_part it begin (inr (inr (inr is))) = rw is refl

-- … or that has none
no_part : (it : Kind) (begin : ℕ) → (it ≡ kind.Comment → ⊥) → (it ≡ kind.Identifier → ⊥) → (it ≡ kind.String → ⊥) → (it ≡ kind.FStringText → ⊥) → plain_part it begin ≡ None
no_part kind.Comment begin comment name string text = absurd (comment refl)
no_part kind.Identifier begin comment name string text = absurd (name refl)
no_part kind.String begin comment name string text = absurd (string refl)
no_part kind.FStringText begin comment name string text = absurd (text refl)
no_part it begin comment name string text = refl

kept_part : (text : Text) (plain : Passed) → IsPlainIn text plain → value_part text plain.end (plain_view text plain).node ≡ plain_part plain.kind plain.value_begin
kept_part text plain is = plain_value_part text plain.kind plain.end plain.value_begin plain.value_end is.value.0 is.value.1 is.closes

-- the value of a plain lexeme may stay where its kind has one
pub kept_value : (text : Text) (stays : Bool) (plain : Passed) → IsPlainIn text plain → (plain.kind ≡ kind.Comment) ⊎ (plain.kind ≡ kind.Identifier) ⊎ (plain.kind ≡ kind.FStringText) ⊎ (plain.kind ≡ kind.String)
    → (if stays then Some plain.value_begin else None) ≡ part_in (home stays text) (plain_view text plain)
kept_value text true plain is kinds = sym (kept_part text plain is ∙ has_part plain.kind plain.value_begin kinds)
kept_value text false plain is kinds = refl

pub kept_none : (text : Text) (stays : Bool) (plain : Passed) → IsPlainIn text plain → (plain.kind ≡ kind.Comment → ⊥) → (plain.kind ≡ kind.Identifier → ⊥) → (plain.kind ≡ kind.String → ⊥) → (plain.kind ≡ kind.FStringText → ⊥)
    → None ≡ part_in (home stays text) (plain_view text plain)
kept_none text true plain is comment name string other = sym (kept_part text plain is ∙ no_part plain.kind plain.value_begin comment name string other)
kept_none text false plain is comment name string other = refl

-- nothing is stored of a plain value that stays: its kind has none, or the text has it
plain_stored : (it : Kind) (begin : ℕ) (value : Text) → [] ≡ stored (plain_part it begin) (value_bytes (Whole (token_of it value)))
unfolding value_bytes
plain_stored kind.Comment begin value = refl
plain_stored kind.Identifier begin value = refl
plain_stored kind.FStringText begin value = refl
plain_stored kind.String begin value = refl
plain_stored it begin value = refl

pub kept_bytes : (text : Text) (stays : Bool) (plain : Passed) → IsPlainIn text plain → stays ≡ true → [] ≡ stored_bytes (home stays text) (plain_view text plain)
kept_bytes text true plain is same = plain_stored plain.kind plain.value_begin (plain_value text plain) ∙ ap (λ (p : Option ℕ). stored p (value_bytes (plain_view text plain).node)) (sym (kept_part text plain is))
kept_bytes text false plain is same = cc

-- and all of one that doesn't stay
pub copied_bytes : (text : Text) (stays : Bool) (plain : Passed) → stays ≡ false → value_bytes (plain_view text plain).node ≡ stored_bytes (home stays text) (plain_view text plain)
copied_bytes text true plain same = cc
copied_bytes text false plain same = refl
