-- Brackets, one token further.
use Rattle.std.proofs.Common.{◌≡◌, ℕ, zero, suc, ◌+◌, ◌-◌, ◌≤◌, ◌<◌, ◌^◌, max, Bool, true, false, cond, List, [], ◌∷◌, refl, ap, ◌∙◌, sym, Option, Some, None, arith}
use Rattle.std.specs.Prelude.{◌&&◌, ◌==◌, if◌then◌else◌, map, fold, count_by, option_map}
use Rattle.std.proofs.lemmas.Bool.{eqb-true}
use Rattle.std.proofs.lemmas.List.Sums.{sum_by-cons}
use Rattle.starlark_grammar.specs.declared.class.Terminal.TheVariants as terminal
use Rattle.starlark_grammar.specs.Tokens.{Token, Opening, FStringExprStart, FStringExprEnd, Word}
use Rattle.starlark_grammar.specs.Depths.{Shape, Round, Square, Curly, InText, AtTop, Deeper, is_opening, is_closing, is_any_opening, is_any_closing, expression_tokens, braces, braces_of, surplus, fronts, depth, inside}
use Rattle.starlark_token.specs.TokenViews.{Whole}
use Rattle.starlark_reader.specs.Inner.Nesting.{FStringDepths, HasRoom, braces_after, closes, depth_after, fstring_after, fstring_of, fstring_view, opens}
use Rattle.starlark_reader.specs.declared.nesting.OpenFString.{OpenFString}
use Rattle.starlark_reader.specs.Inner.PieceViews.{is_code}

-- Depths

-- the greatest of a list is its first or that of the rest
max-onward : (n : ℕ) (ns : List ℕ) → fold max n ns ≡ max n (fold max 0 ns)
max-onward n [] = omega arith
max-onward n (m ∷ ns) =
    let here = max-onward (max n m) ns in
    let there = max-onward (max 0 m) ns in
    omega (arith, here, there)

abbrev peak : {A : Type 0} → (A → ℕ) → List A → ℕ
peak height places = fold max 0 (map height places)

peak-cons : {A : Type 0} (height : A → ℕ) (place : A) (places : List A) → peak height (place ∷ places) ≡ max (height place) (peak height places)
peak-cons height place places = let onward = max-onward (max 0 (height place)) (map height places) in omega (arith, onward)

peak-map : {A B : Type 0} (height : B → ℕ) (move : A → B) (places : List A) → peak height (map move places) ≡ peak (λ place. height (move place)) places
peak-map height move [] = refl
peak-map height move (place ∷ places) =
    let here = peak-cons height (move place) (map move places) in
    let there = peak-cons (λ place. height (move place)) place places in
    let rest = peak-map height move places in
    omega (arith, here, there, rest)

-- where each place has one more opened or closed, so has the greatest surplus
peak_moved : {A : Type 0} (opened closed : A → ℕ) (after : A → ℕ) (more less : ℕ) → ((place : A) → after place ≡ (more + opened place) - (less + closed place)) → (places : List A)
    → max (more - less) (peak after places) ≡ (more + peak (λ place. opened place - closed place) places) - less
peak_moved opened closed after more less h [] = omega arith
peak_moved opened closed after more less h (place ∷ places) =
    let old = peak-cons (λ place. opened place - closed place) place places in
    let new = peak-cons after place places in
    let rest = peak_moved opened closed after more less h places in
    let here = h place in
    omega (arith, old, new, rest, here)

pub counted : (shape : Shape) (node : Token) (own : List Token) → (count_by (is_opening shape) (node ∷ own) ≡ opens shape node + count_by (is_opening shape) own) × (count_by (is_closing shape) (node ∷ own) ≡ closes shape node + count_by (is_closing shape) own)
counted shape node own = (sum_by-cons (λ t. cond (is_opening shape t) 1 0) node own, sum_by-cons (λ t. cond (is_closing shape t) 1 0) node own)

pub depth_onward : (shape : Shape) (node : Token) (own : List Token) → depth shape (node ∷ own) ≡ depth_after shape node (depth shape own)
unfolding depth
depth_onward shape node own =
    let none = peak-cons (surplus shape) [] (map (λ (front : List Token). node ∷ front) (fronts own)) in
    let rest = peak-map (surplus shape) (λ (front : List Token). node ∷ front) (fronts own) in
    let moved = peak_moved (count_by (is_opening shape)) (count_by (is_closing shape)) after (opens shape node) (closes shape node) is (fronts own) in
    let least = first own in
    omega (arith, none, rest, moved, least)
  where
    after : List Token → ℕ
    after front = surplus shape (node ∷ front)

    is : (front : List Token) → after front ≡ (opens shape node + count_by (is_opening shape) front) - (closes shape node + count_by (is_closing shape) front)
    is front = let both = counted shape node front in omega (arith, both.0, both.1)

    first : (own : List Token) → opens shape node - closes shape node ≤ peak after (fronts own)
    first [] = let place = peak-cons after [] [] in let here = is [] in omega (arith, place, here)
    first (t ∷ rest) = let place = peak-cons after [] (map (λ (front : List Token). t ∷ front) (fronts rest)) in let here = is [] in omega (arith, place, here)

-- The braces of an expression, one token of it further: as many as the token says, if one is open; and never more.
braces_within : (node : Token) (tokens : Option (List Token)) → (opens Curly node ≤ braces_of tokens → braces_of (option_map (λ (tokens : List Token). node ∷ tokens) tokens) ≡ depth_after Curly node (braces_of tokens))
    × (braces_of (option_map (λ (tokens : List Token). node ∷ tokens) tokens) ≤ opens Curly node + braces_of tokens)
braces_within node None = (λ h. omega (arith, h), omega arith)
braces_within node (Some tokens) = let both = counted Curly node tokens in (λ h. omega (arith, h, both.0, both.1), omega (arith, both.0, both.1))

braces_onward : (node : Token) (own : List Token) → opens Curly node ≤ braces own → braces (node ∷ own) ≡ braces_after node (braces own)
unfolding braces
braces_onward FStringExprStart own h = refl
braces_onward FStringExprEnd own h = refl
braces_onward node own h = (braces_within node (expression_tokens own)).0 h

-- a brace is opened in code alone
pub brace_within : (node : Token) (found : Opening × List Token) → (is_opening Curly node ≡ true → is_code (inside found) ≡ true) → opens Curly node ≤ braces found.1
brace_within node found code = go (is_opening Curly node) (braces found.1) code
  where
    go : (opens : Bool) (n : ℕ) → (opens ≡ true → is_code (if n == 0 then InText found.0 else (if n == 1 && depth Round found.1 == 0 && depth Square found.1 == 0 then AtTop else Deeper)) ≡ true) → cond opens 1 0 ≤ n
    go false n h = omega arith
    go true zero h = cc (h refl)
    go true (suc n) h = omega arith

-- an open f-string, one of its tokens further
pub fstring_onward : (found : Opening × List Token) (node : Token) → opens Curly node ≤ braces found.1 → fstring_after (Whole node) (fstring_of found) ≡ fstring_of (found.0, node ∷ found.1)
unfolding fstring_of
fstring_onward found node h =
    let braces = braces_onward node found.1 h in
    let rounds = depth_onward Round node found.1 in
    let squares = depth_onward Square node found.1 in
    λ i. record { opening = found.0; braces = sym braces i; rounds = sym rounds i; squares = sym squares i }

-- The mode, by the depths of the innermost f-string

inside_is : (view : FStringDepths) (found : Opening × List Token) → view ≡ fstring_of found → inside found ≡ (if view.braces == 0 then InText view.opening else (if view.braces == 1 && view.rounds == 0 && view.squares == 0 then AtTop else Deeper))
unfolding fstring_of
inside_is view found e = rw e refl

pub in_text : (view : FStringDepths) (found : Opening × List Token) → view ≡ fstring_of found → view.braces ≡ 0 → InText view.opening ≡ inside found
in_text view found e b = sym (inside_is view found e ∙ rw b refl)

pub at_top : (view : FStringDepths) (found : Opening × List Token) → view ≡ fstring_of found → view.braces ≡ 1 → view.rounds ≡ 0 → view.squares ≡ 0 → AtTop ≡ inside found
at_top view found e b r s = sym (inside_is view found e ∙ rw (b, r, s) refl)

pub deeper : (view : FStringDepths) (found : Opening × List Token) → view ≡ fstring_of found → (view.braces ≡ 0 → ⊥) → (view.braces ≡ 1 → view.rounds ≡ 0 → view.squares ≡ 0 → ⊥) → Deeper ≡ inside found
deeper view found e some h = sym (inside_is view found e ∙ go (view.braces == 0) (view.braces == 1) (view.rounds == 0) (view.squares == 0) refl refl refl refl)
  where
    go : (none one round square : Bool) → (view.braces == 0) ≡ none → (view.braces == 1) ≡ one → (view.rounds == 0) ≡ round → (view.squares == 0) ≡ square
        → (if none then InText view.opening else (if one && round && square then AtTop else Deeper)) ≡ Deeper
    go true one round square b o r s = absurd (some (eqb-true view.braces 0 b))
    go false true true true b o r s = absurd (h (eqb-true view.braces 1 o) (eqb-true view.rounds 0 r) (eqb-true view.squares 0 s))
    go false true true false b o r s = refl
    go false true false square b o r s = refl
    go false false round square b o r s = refl

-- No depth of an f-string is greater than the number of its opening brackets, and one.

-- how many brackets of any shape a token opens, and closes
abbrev pub any_opens : Token → ℕ
any_opens node = cond (is_any_opening node) 1 0

abbrev pub any_closes : Token → ℕ
any_closes node = cond (is_any_closing node) 1 0

pub any_closed : (node : Token) (own : List Token) → count_by is_any_closing (node ∷ own) ≡ any_closes node + count_by is_any_closing own
any_closed = sum_by-cons (λ t. cond (is_any_closing t) 1 0)

pub any_opened : (node : Token) (own : List Token) → count_by is_any_opening (node ∷ own) ≡ any_opens node + count_by is_any_opening own
any_opened = sum_by-cons (λ t. cond (is_any_opening t) 1 0)

opens_any : (shape : Shape) (node : Token) → opens shape node ≤ any_opens node
opens_any Round (Word terminal.OpeningRound) = omega arith
opens_any Square (Word terminal.OpeningSquare) = omega arith
opens_any Curly (Word terminal.OpeningCurly) = omega arith
opens_any shape node = omega arith

depth_fits : (shape : Shape) (own : List Token) → depth shape own ≤ count_by is_any_opening own
unfolding depth
depth_fits Round [] = omega arith
depth_fits Square [] = omega arith
depth_fits Curly [] = omega arith
depth_fits shape (node ∷ own) = omega (arith, depth_onward shape node own, any_opened node own, depth_fits shape own, opens_any shape node)

braces_fit : (own : List Token) → braces own ≤ 1 + count_by is_any_opening own
unfolding braces
braces_fit [] = omega arith
braces_fit (FStringExprStart ∷ own) = omega arith
braces_fit (FStringExprEnd ∷ own) = omega arith
braces_fit (node ∷ own) = omega (arith, (braces_within node (expression_tokens own)).1, any_opened node own, braces_fit own, opens_any Curly node)

pub has_room : (fstring : OpenFString) (found : Opening × List Token) → fstring_view fstring ≡ fstring_of found → count_by is_any_opening found.1 + 2 < 2 ^ 64 → HasRoom fstring
unfolding fstring_of
has_room fstring found e h =
    let braces = ap (λ (view : FStringDepths). view.braces) e in
    let rounds = ap (λ (view : FStringDepths). view.rounds) e in
    let squares = ap (λ (view : FStringDepths). view.squares) e in
    record {
      braces = omega (arith, h, braces, braces_fit found.1);
      rounds = omega (arith, h, rounds, depth_fits Round found.1);
      squares = omega (arith, h, squares, depth_fits Square found.1);
    }
