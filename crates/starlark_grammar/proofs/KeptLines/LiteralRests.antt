-- What is left of a literal after its bad escape.
use Rattle.std.proofs.Common.{◌≡◌, ℕ, suc, ◌+◌, ◌-◌, ◌≤◌, ◌<◌, Bool, true, false, not, [], ◌∷◌, ◌++◌, length, take, drop, refl, ap, ◌∙◌, subst, arith, ◌⊎◌, inl, inr}
use Rattle.std.specs.Prelude.{◌&&◌, ◌==◌, get_or, if◌then◌else◌, max, nat_eq}
use Rattle.std.specs.List.{starts_with}
use Rattle.std.specs.Str.{IsCharBoundary, IsUtf8}
use Rattle.std.proofs.lemmas.Bool.{and_parts, eqb-true}
use Rattle.std.proofs.lemmas.List.{drop-append-le, get_or-drop, length-drop, take-append-le}
use Rattle.std.proofs.lemmas.Str.{IsCharBoundary-after_ascii}
use Rattle.std.proofs.Math.Seq.{drop-append-add}
use Rattle.starlark_grammar.specs.Items.{closing_quotes}
use Rattle.starlark_grammar.specs.KeptLines.{LiteralRest, closes_literal, is_bad_escape, literal_opening, literal_rest, longer_rest, raw_opening, rest_from, with_literal_at}
use Rattle.starlark_grammar.specs.Tokens.{Fault, Opening, Spanned, moved}
use Rattle.starlark_grammar.specs.Words.{Text}
use Rattle.starlark_grammar.specs.declared.class.Quote.{Quote}
use Rattle.starlark_grammar.specs.declared.class.Quote.TheVariants.{Single as SingleQuote, Double as DoubleQuote}
use Rattle.starlark_grammar.proofs.ClosingQuotes.{some_quotes}
use Rattle.starlark_grammar.proofs.Joining.Followed.{ends_line, ends_line_drop}
use Rattle.starlark_grammar.proofs.Joining.FollowedBodies.{closing_in_line, starts_append}
use Rattle.starlark_grammar.proofs.Literals.Bodies.{starts_fits}

-- what is left by what is at the front: closing quotes, or a line end
abbrev rest_by : Opening → (closes line : Bool) → LiteralRest → LiteralRest
rest_by opening closes line more =
    if closes then record { len = length (closing_quotes opening); is_closed = true }
    else (if line then record { len = 0; is_closed = false }
    else longer_rest 1 more)

abbrev closes_here : Opening → Text → Bool
closes_here opening text = starts_with nat_eq text (closing_quotes opening)

abbrev ends_here : Opening → ℕ → Bool
ends_here opening b = b == 10 && not opening.is_triple

-- it is in the text, …
pub rest_fits : (opening : Opening) (is_taken : Bool) (text : Text) → (rest_from opening is_taken text).len ≤ length text
unfolding rest_from
rest_fits opening is_taken [] = omega arith
rest_fits opening true (b ∷ bs) = omega (arith, rest_fits opening false bs)
rest_fits opening false (b ∷ bs) = by (closes_here opening (b ∷ bs)) (ends_here opening b) refl (rest_fits opening (b == 92) bs)
  where
    by : (closes line : Bool) → closes_here opening (b ∷ bs) ≡ closes → (rest_from opening (b == 92) bs).len ≤ length bs → (rest_by opening closes line (rest_from opening (b == 92) bs)).len ≤ length (b ∷ bs)
    by true line e more = starts_fits (b ∷ bs) (closing_quotes opening) e
    by false true e more = omega arith
    by false false e more = omega (arith, more)

-- … and has a byte if it is closed
pub closed_some : (opening : Opening) (is_taken : Bool) (text : Text) → (rest_from opening is_taken text).is_closed ≡ true → 1 ≤ (rest_from opening is_taken text).len
unfolding rest_from
closed_some opening is_taken [] is = cc
closed_some opening true (b ∷ bs) is = omega arith
closed_some opening false (b ∷ bs) is = by (closes_here opening (b ∷ bs)) (ends_here opening b) is
  where
    by : (closes line : Bool) → (rest_by opening closes line (rest_from opening (b == 92) bs)).is_closed ≡ true → 1 ≤ (rest_by opening closes line (rest_from opening (b == 92) bs)).len
    by true line is = some_quotes opening
    by false true is = cc
    by false false is = omega arith

-- Where it ends before the text does, it stays where the text goes on, and where it ends there.
pub rest_stays : (opening : Opening) (is_taken : Bool) (text more : Text) → ends_line text ≡ true → ((rest_from opening is_taken text).len < length text) ⊎ ((rest_from opening is_taken (text ++ more)).len < length text)
    → rest_from opening is_taken (text ++ more) ≡ rest_from opening is_taken text
unfolding rest_from
rest_stays opening is_taken [] more h less = cc
rest_stays opening true (b ∷ []) more h (inl less) = absurd (omega (arith, less))
rest_stays opening true (b ∷ []) more h (inr less) = absurd (omega (arith, less))
rest_stays opening true (b ∷ c ∷ bs) more h (inl less) = ap (longer_rest 1) (rest_stays opening false (c ∷ bs) more h (inl (omega (arith, less))))
rest_stays opening true (b ∷ c ∷ bs) more h (inr less) = ap (longer_rest 1) (rest_stays opening false (c ∷ bs) more h (inr (omega (arith, less))))
rest_stays opening false (b ∷ bs) more h less =
    ap (λ closes. rest_by opening closes (ends_here opening b) (rest_from opening (b == 92) (bs ++ more))) same
    ∙ by bs (closes_here opening (b ∷ bs)) (ends_here opening b) h (at less) (rest_stays opening (b == 92) bs more)
  where
    same : closes_here opening (b ∷ bs ++ more) ≡ closes_here opening (b ∷ bs)
    same = starts_append (b ∷ bs) (closing_quotes opening) more h (closing_in_line opening)

    at : ((rest_from opening false (b ∷ bs)).len < length (b ∷ bs)) ⊎ ((rest_from opening false (b ∷ bs ++ more)).len < length (b ∷ bs))
        → ((rest_by opening (closes_here opening (b ∷ bs)) (ends_here opening b) (rest_from opening (b == 92) bs)).len < length (b ∷ bs)) ⊎ ((rest_by opening (closes_here opening (b ∷ bs)) (ends_here opening b) (rest_from opening (b == 92) (bs ++ more))).len < length (b ∷ bs))
    at (inl less) = inl less
    at (inr less) = inr (rw same at less)

    by : (bs : Text) (closes line : Bool) → ends_line (b ∷ bs) ≡ true
        → ((rest_by opening closes line (rest_from opening (b == 92) bs)).len < length (b ∷ bs)) ⊎ ((rest_by opening closes line (rest_from opening (b == 92) (bs ++ more))).len < length (b ∷ bs))
        → (ends_line bs ≡ true → ((rest_from opening (b == 92) bs).len < length bs) ⊎ ((rest_from opening (b == 92) (bs ++ more)).len < length bs) → rest_from opening (b == 92) (bs ++ more) ≡ rest_from opening (b == 92) bs)
        → rest_by opening closes line (rest_from opening (b == 92) (bs ++ more)) ≡ rest_by opening closes line (rest_from opening (b == 92) bs)
    by bs true line h less again = refl
    by bs false true h less again = refl
    by [] false false h (inl less) again = absurd (omega (arith, less))
    by [] false false h (inr less) again = absurd (omega (arith, less))
    by (c ∷ cs) false false h (inl less) again = ap (longer_rest 1) (again h (inl (omega (arith, less))))
    by (c ∷ cs) false false h (inr less) again = ap (longer_rest 1) (again h (inr (omega (arith, less))))

-- The literal of a fault

-- with all of its literal it ends no sooner, and in the text
pub whole_ends : (at : ℕ) (text : Text) (fault : Spanned Fault) → fault.begin ≤ fault.end → fault.end ≤ length text → (fault.end ≤ (with_literal_at at text fault).end) × ((with_literal_at at text fault).end ≤ length text)
unfolding with_literal_at literal_rest
whole_ends at text fault order inside = by (is_bad_escape fault.node)
  where
    opening : Opening
    opening = literal_opening at text fault.begin

    by : (bad : Bool) → (fault.end ≤ (if bad then record fault { end = max fault.end (fault.begin + (rest_from opening false (drop fault.begin text)).len) } else fault).end)
        × ((if bad then record fault { end = max fault.end (fault.begin + (rest_from opening false (drop fault.begin text)).len) } else fault).end ≤ length text)
    by true = (omega arith, omega (arith, order, inside, rest_fits opening false (drop fault.begin text), length-drop fault.begin text))
    by false = (omega arith, inside)

-- a fault that is no bad escape has no literal
pub whole_other : (at : ℕ) (text : Text) (fault : Spanned Fault) → is_bad_escape fault.node ≡ false → with_literal_at at text fault ≡ fault
unfolding with_literal_at
whole_other at text fault other = rw other refl

-- begin and kind stay
pub whole_same : (at : ℕ) (text : Text) (fault : Spanned Fault) → ((with_literal_at at text fault).begin ≡ fault.begin) × ((with_literal_at at text fault).node ≡ fault.node)
unfolding with_literal_at
whole_same at text fault = by (is_bad_escape fault.node) _
  where
    by : (bad : Bool) (end : ℕ) → ((if bad then record fault { end = end } else fault).begin ≡ fault.begin) × ((if bad then record fault { end = end } else fault).node ≡ fault.node)
    by true end = (refl, refl)
    by false end = (refl, refl)

-- its end, by what is left of its literal
pub whole_bad : (at : ℕ) (text : Text) (fault : Spanned Fault) → is_bad_escape fault.node ≡ true → (with_literal_at at text fault).end ≡ max fault.end (fault.begin + (literal_rest at text fault.begin).len)
unfolding with_literal_at
whole_bad at text fault is = rw is refl

-- a literal that is closed has a byte from the escape on
pub closed_later : (at : ℕ) (text : Text) (fault : Spanned Fault) → closes_literal at text fault ≡ true → fault.begin < (with_literal_at at text fault).end
unfolding literal_rest
closed_later at text fault closes = by (is_bad_escape fault.node) refl closes
  where
    by : (bad : Bool) → is_bad_escape fault.node ≡ bad → (bad && (literal_rest at text fault.begin).is_closed) ≡ true → fault.begin < (with_literal_at at text fault).end
    by true e is = omega (arith, whole_bad at text fault e, closed_some (literal_opening at text fault.begin) false (drop fault.begin text) is)
    by false e is = cc

-- in a text that goes on
pub literal_rest_stays : (at : ℕ) (text more : Text) (begin : ℕ) → ends_line text ≡ true → begin < length text → ((begin + (literal_rest at text begin).len < length text) ⊎ (begin + (literal_rest at (text ++ more) begin).len < length text))
    → literal_rest at (text ++ more) begin ≡ literal_rest at text begin
unfolding literal_rest
literal_rest_stays at text more begin h inside less =
    ap (λ (t : Text). rest_from (raw_opening (take 5 (drop at t))) false (drop begin (text ++ more))) front
    ∙ ap (rest_from opening false) left
    ∙ rest_stays opening false (drop begin text) more (ends_line_drop begin text inside h) (by less)
  where
    front : take begin (text ++ more) ≡ take begin text
    front = take-append-le begin text more (omega (arith, inside))

    left : drop begin (text ++ more) ≡ drop begin text ++ more
    left = drop-append-le begin text more (omega (arith, inside))

    opening : Opening
    opening = literal_opening at text begin

    by : ((begin + (literal_rest at text begin).len < length text) ⊎ (begin + (literal_rest at (text ++ more) begin).len < length text))
        → ((rest_from opening false (drop begin text)).len < length (drop begin text)) ⊎ ((rest_from opening false (drop begin text ++ more)).len < length (drop begin text))
    by (inl less) = inl (omega (arith, less, length-drop begin text))
    by (inr less) =
        let same : literal_rest at (text ++ more) begin ≡ rest_from opening false (drop begin text ++ more) = ap (λ (t : Text). rest_from (raw_opening (take 5 (drop at t))) false (drop begin (text ++ more))) front ∙ ap (rest_from opening false) left in
        inr (omega (arith, less, ap (λ (r : LiteralRest). r.len) same, length-drop begin text))

-- so its fault stays, too
pub whole_stays : (at : ℕ) (text more : Text) (fault : Spanned Fault) → ends_line text ≡ true → fault.begin < length text
    → ((with_literal_at at text fault).end < length text) ⊎ ((with_literal_at at (text ++ more) fault).end < length text)
    → (with_literal_at at (text ++ more) fault ≡ with_literal_at at text fault) × (closes_literal at (text ++ more) fault ≡ closes_literal at text fault)
unfolding with_literal_at
whole_stays at text more fault h inside less = by (is_bad_escape fault.node) refl
  where
    inner : is_bad_escape fault.node ≡ true → ((with_literal_at at text fault).end < length text) ⊎ ((with_literal_at at (text ++ more) fault).end < length text)
        → ((fault.begin + (literal_rest at text fault.begin).len < length text) ⊎ (fault.begin + (literal_rest at (text ++ more) fault.begin).len < length text))
    inner bad (inl less) = inl (omega (arith, less, whole_bad at text fault bad))
    inner bad (inr less) = inr (omega (arith, less, whole_bad at (text ++ more) fault bad))

    by : (bad : Bool) → is_bad_escape fault.node ≡ bad → (with_literal_at at (text ++ more) fault ≡ with_literal_at at text fault) × (closes_literal at (text ++ more) fault ≡ closes_literal at text fault)
    by true e =
        let same = literal_rest_stays at text more fault.begin h inside (inner e less) in
        rw e (ap (λ (rest : LiteralRest). let to : Spanned Fault = record fault { end = max fault.end (fault.begin + rest.len) } in to) same, ap (λ (rest : LiteralRest). rest.is_closed) same)
    by false e = rw e (refl, refl)

-- in a text after another
pub opening_moved : (at : ℕ) (first second : Text) (begin : ℕ) → literal_opening (length first + at) (first ++ second) (length first + begin) ≡ literal_opening at second begin
opening_moved at first second begin = ap (λ (t : Text). raw_opening (take 5 t)) (ap (drop (length first + at)) (taken first) ∙ drop-append-add first (take begin second) at)
  where
    taken : (first : Text) → take (length first + begin) (first ++ second) ≡ first ++ take begin second
    taken [] = let same : length {A = ℕ} [] + begin ≡ begin = omega arith in ap (λ n. take n second) same
    taken (b ∷ bs) = let next : length (b ∷ bs) + begin ≡ suc (length bs + begin) = omega arith in rw next (ap (λ (t : Text). b ∷ t) (taken bs))

pub literal_rest_moved : (at : ℕ) (first second : Text) (begin : ℕ) → literal_rest (length first + at) (first ++ second) (length first + begin) ≡ literal_rest at second begin
unfolding literal_rest
literal_rest_moved at first second begin =
    ap (λ (opening : Opening). rest_from opening false (drop (length first + begin) (first ++ second))) (opening_moved at first second begin)
    ∙ ap (rest_from (literal_opening at second begin) false) (drop-append-add first second begin)

pub whole_moved : (at : ℕ) (first second : Text) (fault : Spanned Fault) → (with_literal_at (length first + at) (first ++ second) (moved (length first) fault) ≡ moved (length first) (with_literal_at at second fault))
    × (closes_literal (length first + at) (first ++ second) (moved (length first) fault) ≡ closes_literal at second fault)
unfolding with_literal_at
whole_moved at first second fault = by (is_bad_escape fault.node) refl
  where
    by : (bad : Bool) → is_bad_escape fault.node ≡ bad → (with_literal_at (length first + at) (first ++ second) (moved (length first) fault) ≡ moved (length first) (with_literal_at at second fault))
        × (closes_literal (length first + at) (first ++ second) (moved (length first) fault) ≡ closes_literal at second fault)
    by true e =
        let same = literal_rest_moved at first second fault.begin in
        let ends : max (length first + fault.end) (length first + fault.begin + (literal_rest (length first + at) (first ++ second) (length first + fault.begin)).len) ≡ length first + max fault.end (fault.begin + (literal_rest at second fault.begin).len) =
        omega (arith, ap (λ (rest : LiteralRest). rest.len) same) in
        rw e (ap (λ end. let moved_to : Spanned Fault = record { begin = length first + fault.begin; node = fault.node; end = end } in moved_to) ends, ap (λ (rest : LiteralRest). rest.is_closed) same)
    by false e = rw e (refl, refl)

-- Where a literal is closed, is between characters

-- its last byte is a quote
single_last : (quote : ℕ) (text : Text) → quote < 128 → starts_with nat_eq text (quote ∷ []) ≡ true → get_or text 0 0 < 128
single_last quote [] less h = cc
single_last quote (b ∷ bs) less h = let same = eqb-true quote b (and_parts (nat_eq quote b) true h).0 in omega (arith, less, same)

triple_last : (quote : ℕ) (text : Text) → quote < 128 → starts_with nat_eq text (quote ∷ quote ∷ quote ∷ []) ≡ true → get_or text 2 0 < 128
triple_last quote [] less h = cc
triple_last quote (b ∷ []) less h = let one = and_parts (nat_eq quote b) false h in cc
triple_last quote (b ∷ c ∷ []) less h = let two = and_parts (nat_eq quote c) false (and_parts (nat_eq quote b) (nat_eq quote c && false) h).1 in cc
triple_last quote (b ∷ c ∷ d ∷ bs) less h =
    let two = and_parts (nat_eq quote c) (nat_eq quote d && true) (and_parts (nat_eq quote b) (nat_eq quote c && (nat_eq quote d && true)) h).1 in
    let same = eqb-true quote d (and_parts (nat_eq quote d) true two.1).0 in
    omega (arith, less, same)

pub quotes_last : (opening : Opening) (text : Text) → closes_here opening text ≡ true → get_or text (length (closing_quotes opening) - 1) 0 < 128
quotes_last opening text = by opening.is_triple opening.quote
  where
    by : (triple : Bool) (quote : Quote) → closes_here (record { is_raw = opening.is_raw; quote = quote; is_triple = triple }) text ≡ true → get_or text (length (closing_quotes (record { is_raw = opening.is_raw; quote = quote; is_triple = triple })) - 1) 0 < 128
    by true SingleQuote h = triple_last 39 text (omega arith) h
    by true DoubleQuote h = triple_last 34 text (omega arith) h
    by false SingleQuote h = single_last 39 text (omega arith) h
    by false DoubleQuote h = single_last 34 text (omega arith) h

closed_last : (opening : Opening) (is_taken : Bool) (text : Text) → (rest_from opening is_taken text).is_closed ≡ true → get_or text ((rest_from opening is_taken text).len - 1) 0 < 128
unfolding rest_from
closed_last opening is_taken [] is = cc
closed_last opening true (b ∷ bs) is = later opening b bs (rest_from opening false bs) (closed_some opening false bs is) (closed_last opening false bs is)
  where
    later : (opening : Opening) (b : ℕ) (bs : Text) (rest : LiteralRest) → 1 ≤ rest.len → get_or bs (rest.len - 1) 0 < 128 → get_or (b ∷ bs) (1 + rest.len - 1) 0 < 128
    later opening b bs rest some less = let place : 1 + rest.len - 1 ≡ suc (rest.len - 1) = omega (arith, some) in rw place less
closed_last opening false (b ∷ bs) is = by (closes_here opening (b ∷ bs)) (ends_here opening b) refl is (closed_some opening (b == 92) bs) (closed_last opening (b == 92) bs)
  where
    by : (closes line : Bool) → closes_here opening (b ∷ bs) ≡ closes → (rest_by opening closes line (rest_from opening (b == 92) bs)).is_closed ≡ true → ((rest_from opening (b == 92) bs).is_closed ≡ true → 1 ≤ (rest_from opening (b == 92) bs).len)
        → ((rest_from opening (b == 92) bs).is_closed ≡ true → get_or bs ((rest_from opening (b == 92) bs).len - 1) 0 < 128) → get_or (b ∷ bs) ((rest_by opening closes line (rest_from opening (b == 92) bs)).len - 1) 0 < 128
    by true line e is some again = quotes_last opening (b ∷ bs) e
    by false true e is some again = cc
    by false false e is some again =
        let later = some is in
        let place : 1 + (rest_from opening (b == 92) bs).len - 1 ≡ suc ((rest_from opening (b == 92) bs).len - 1) = omega (arith, later) in rw place (again is)

pub closed_boundary : (at : ℕ) (text : Text) (begin : ℕ) → IsUtf8 text → begin ≤ length text → (literal_rest at text begin).is_closed ≡ true → IsCharBoundary text (begin + (literal_rest at text begin).len)
unfolding literal_rest
closed_boundary at text begin utf8 inside is =
    let opening = literal_opening at text begin in
    let rest = rest_from opening false (drop begin text) in
    let some = closed_some opening false (drop begin text) is in
    let fits = rest_fits opening false (drop begin text) in
    let last = closed_last opening false (drop begin text) is in
    let end : begin + (rest.len - 1) + 1 ≡ begin + rest.len = omega (arith, some) in
    subst (IsCharBoundary text) end
    (IsCharBoundary-after_ascii text (begin + (rest.len - 1)) utf8 (omega (arith, some, fits, length-drop begin text, inside)) (omega (arith, last, get_or-drop begin text (rest.len - 1) 0)))
