-- What is left of a literal, byte by byte.
use Rattle.std.proofs.Common.{◌≡◌, ◌≤◌, ◌<◌, ◌+◌, ◌-◌, ℕ, zero, suc, Bool, true, false, not, [], ◌∷◌, drop, get_or, length, take, refl, ap, subst, sym, ◌∙◌, arith, ◌⊎◌, inl, inr}
use Rattle.std.specs.Prelude.{◌&&◌, ◌||◌, ◌==◌, codes, min, nat_eq}
use Rattle.std.proofs.lemmas.Bool.{and_parts, cases_lt, eqb-true}
use Rattle.std.proofs.lemmas.Str.{IsCharBoundary-after_ascii}
use Rattle.std.specs.List.{prefix_len, starts_with}
use Rattle.std.specs.Str.{IsCharBoundary, IsUtf8}
use Rattle.std.proofs.lemmas.List.Sums.{prefix_len_stops}
use Rattle.std.proofs.lemmas.List.{drop-take, drop_all, length-drop, take_all}
use Rattle.starlark_grammar.specs.Items.{closing_quotes}
use Rattle.starlark_grammar.specs.KeptLines.{LiteralRest, longer_rest, rest_from}
use Rattle.starlark_grammar.specs.StandIns.{is_quote}
use Rattle.starlark_grammar.specs.Tokens.{Opening}
use Rattle.starlark_grammar.specs.Words.{Text}
use Rattle.starlark_grammar.proofs.ClosingQuotes.{some_quotes}
use Rattle.starlark_grammar.proofs.KeptLines.LiteralRests.{quotes_last}
use Rattle.starlark_grammar.proofs.Literals.Bodies.{starts_fits}

first_of : (at : ℕ) (text : Text) → at < length text → drop at text ≡ get_or text at 0 ∷ drop (at + 1) text
first_of at [] less = absurd (omega (arith, less))
first_of zero (b ∷ bs) less = refl
first_of (suc at) (b ∷ bs) less = let next : suc at + 1 ≡ suc (at + 1) = omega arith in rw next (first_of at bs (omega (arith, less)))

longer : (at : ℕ) (rest : LiteralRest) → longer_rest at (longer_rest 1 rest) ≡ longer_rest (at + 1) rest
longer at rest = let same : at + (1 + rest.len) ≡ at + 1 + rest.len = omega arith in ap (λ len. let to : LiteralRest = record { len = len; is_closed = rest.is_closed } in to) same

none_more : (at : ℕ) → longer_rest at (record { len = 0; is_closed = false }) ≡ record { len = at; is_closed = false }
none_more at = let same : at + 0 ≡ at = omega arith in ap (λ len. let to : LiteralRest = record { len = len; is_closed = false } in to) same

-- a byte that a backslash takes
pub taken_byte : (opening : Opening) (at : ℕ) (text : Text) → at < length text → longer_rest (at + 1) (rest_from opening false (drop (at + 1) text)) ≡ longer_rest at (rest_from opening true (drop at text))
unfolding rest_from
taken_byte opening at text less = sym (ap (λ (t : Text). longer_rest at (rest_from opening true t)) (first_of at text less) ∙ longer at (rest_from opening false (drop (at + 1) text)))

-- closing quotes
pub closed_here : (opening : Opening) (at : ℕ) (text : Text) → at < length text → starts_with nat_eq (drop at text) (closing_quotes opening) ≡ true
    → longer_rest at (rest_from opening false (drop at text)) ≡ record { len = at + length (closing_quotes opening); is_closed = true }
unfolding rest_from
closed_here opening at text less closes =
    let first = first_of at text less in
    let same : starts_with nat_eq (get_or text at 0 ∷ drop (at + 1) text) (closing_quotes opening) ≡ true = ap (λ (t : Text). starts_with nat_eq t (closing_quotes opening)) (sym first) ∙ closes in
    ap (λ (t : Text). longer_rest at (rest_from opening false t)) first ∙ rw same refl

-- a line end
pub line_here : (opening : Opening) (at : ℕ) (text : Text) → at < length text → starts_with nat_eq (drop at text) (closing_quotes opening) ≡ false → (get_or text at 0 == 10 && not opening.is_triple) ≡ true
    → longer_rest at (rest_from opening false (drop at text)) ≡ record { len = at; is_closed = false }
unfolding rest_from
line_here opening at text less opens line =
    let first = first_of at text less in
    let same : starts_with nat_eq (get_or text at 0 ∷ drop (at + 1) text) (closing_quotes opening) ≡ false = ap (λ (t : Text). starts_with nat_eq t (closing_quotes opening)) (sym first) ∙ opens in
    ap (λ (t : Text). longer_rest at (rest_from opening false t)) first ∙ rw (same, line) (none_more at)

-- another byte
pub other_byte : (opening : Opening) (at : ℕ) (text : Text) → at < length text → starts_with nat_eq (drop at text) (closing_quotes opening) ≡ false → (get_or text at 0 == 10 && not opening.is_triple) ≡ false
    → longer_rest (at + 1) (rest_from opening (get_or text at 0 == 92) (drop (at + 1) text)) ≡ longer_rest at (rest_from opening false (drop at text))
unfolding rest_from
other_byte opening at text less opens line =
    let first = first_of at text less in
    let same : starts_with nat_eq (get_or text at 0 ∷ drop (at + 1) text) (closing_quotes opening) ≡ false = ap (λ (t : Text). starts_with nat_eq t (closing_quotes opening)) (sym first) ∙ opens in
    sym (ap (λ (t : Text). longer_rest at (rest_from opening false t)) first ∙ rw (same, line) (longer at (rest_from opening (get_or text at 0 == 92) (drop (at + 1) text))))

-- the end
pub none_left : (opening : Opening) (is_taken : Bool) (at : ℕ) (text : Text) → length text ≤ at → longer_rest at (rest_from opening is_taken (drop at text)) ≡ record { len = at; is_closed = false }
unfolding rest_from
none_left opening is_taken at text over = ap (λ (t : Text). longer_rest at (rest_from opening is_taken t)) (drop_all at text over) ∙ none_more at

-- the bytes from an offset on
pub left_is : (at : ℕ) (text : Text) → take (length text - at) (drop at text) ≡ drop at text
left_is at text = take_all (length text - at) (drop at text) (omega (arith, length-drop at text))

-- the first bytes of a part
pub front_is : (n at begin : ℕ) (text : Text) → at ≤ begin → take (min (length (take (begin - at) (drop at text))) n) (take (begin - at) (drop at text)) ≡ take n (drop at (take begin text))
front_is n at begin text order = by (cases_lt n (length part)) ∙ ap (take n) same
  where
    part : Text
    part = take (begin - at) (drop at text)

    end : at + (begin - at) ≡ begin
    end = omega (arith, order)

    same : part ≡ drop at (take begin text)
    same = sym (drop-take at (begin - at) text) ∙ ap (λ n. drop at (take n text)) end

    by : (n < length part) ⊎ (length part ≤ n) → take (min (length part) n) part ≡ take n part
    by (inl less) = let is : min (length part) n ≡ n = omega (arith, less) in ap (λ m. take m part) is
    by (inr over) = let is : min (length part) n ≡ length part = omega (arith, over) in ap (λ m. take m part) is ∙ take_all (length part) part (omega arith) ∙ sym (take_all n part over)

-- Where a literal is cut

-- after its quotes
pub quotes_boundary : (opening : Opening) (text : Text) → IsUtf8 text → starts_with nat_eq text (closing_quotes opening) ≡ true → IsCharBoundary text (length (closing_quotes opening))
quotes_boundary opening text utf8 starts =
    let some = some_quotes opening in
    let fits = starts_fits text (closing_quotes opening) starts in
    let end : length (closing_quotes opening) - 1 + 1 ≡ length (closing_quotes opening) = omega (arith, some) in
    subst (IsCharBoundary text) end (IsCharBoundary-after_ascii text (length (closing_quotes opening) - 1) utf8 (omega (arith, some, fits)) (quotes_last opening text starts))

-- after the letter of bytes
pub letter_boundary : (text : Text) → IsUtf8 text → starts_with nat_eq text (codes "b") ≡ true → IsCharBoundary text 1
letter_boundary [] utf8 starts = cc
letter_boundary (b ∷ bs) utf8 starts =
    let letter = eqb-true 98 b (and_parts (nat_eq 98 b) true starts).0 in
    IsCharBoundary-after_ascii (b ∷ bs) 0 utf8 (omega arith) (omega (arith, letter))

-- after its first quote
quote_ascii : (b : ℕ) → not (is_quote b) ≡ false → b < 128
quote_ascii b h = by (b == 39) (b == 34) refl refl h
  where
    by : (single double : Bool) → (b == 39) ≡ single → (b == 34) ≡ double → not (single || double) ≡ false → b < 128
    by true double e f h = let same = eqb-true b 39 e in omega (arith, same)
    by false true e f h = let same = eqb-true b 34 f in omega (arith, same)
    by false false e f h = cc

pub first_quote_boundary : (text : Text) → IsUtf8 text → prefix_len (λ b. not (is_quote b)) text < length text → IsCharBoundary text (prefix_len (λ b. not (is_quote b)) text + 1)
first_quote_boundary text utf8 less =
    let n = prefix_len (λ b. not (is_quote b)) text in
    IsCharBoundary-after_ascii text n utf8 less (quote_ascii (get_or text n 0) (prefix_len_stops (λ b. not (is_quote b)) text 0 less))
