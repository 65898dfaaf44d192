-- The open f-strings of a text, one token further.
use Rattle.std.proofs.Common.{◌≡◌, inl, inr, ℕ, zero, suc, ◌+◌, ◌-◌, ◌≤◌, ◌<◌, ◌^◌, Bool, true, false, List, [], ◌∷◌, ◌++◌, length, get_or, set, take, refl, ap, ◌∙◌, sym, subst, Option, Some, None, arith, append-nil}
use Rattle.std.specs.Prelude.{◌⊎◌, ◌==◌, ◌&&◌, if◌then◌else◌, count_by, is_some, not, option_map, option_to_list, reverse}
use Rattle.std.specs.List.{slice_get}
use Rattle.std.proofs.lemmas.Bool.{ne_eqb}
use Rattle.std.proofs.lemmas.Option.{same_Some, none-some, slice_get_within, get_or_from_slice_get, slice_get-get_or}
use Rattle.std.proofs.lemmas.List.{length-set, reverse-append, take_all, take_more, take_more_set}
use Rattle.starlark_grammar.specs.declared.class.Terminal.TheVariants as terminal
use Rattle.starlark_grammar.specs.Tokens.{Token, Opening, FStringStart, FStringEnd, FStringExprStart, FStringExprEnd, Word}
use Rattle.starlark_grammar.specs.Depths.{Mode, Outside, InText, AtTop, Deeper, Round, Square, Curly, braces, depth, is_any_opening, is_opening, inside, open_fstring, mode_by, mode_after}
use Rattle.starlark_reader.specs.Inner.Nesting.{FStringDepths, HasRoom, Represents, braces_after, depth_after, fstring_after, fstring_of, fstring_view, keeps_code, keeps_nesting}
use Rattle.starlark_reader.specs.Inner.PieceViews.{is_code}
use Rattle.starlark_token.specs.TokenViews.{TokenView, Whole, token_view}
use Rattle.starlark_token.specs.declared.tokens.Token as code
use Rattle.starlark_token.specs.declared.tokens.Token.TheVariants as tokens
use Rattle.starlark_reader.specs.declared.nesting.Nesting.{Nesting}
use Rattle.starlark_reader.specs.declared.nesting.OpenFString.{OpenFString}
use Rattle.starlark_reader.proofs.OpenBrackets.BracketCounts.{any_closed, any_closes, any_opened, any_opens, brace_within, fstring_onward, has_room}

-- The open f-strings

-- the opening brackets among an open f-string's own tokens
abbrev own_opened : Option (Opening × List Token) → ℕ
own_opened None = 0
own_opened (Some found) = count_by is_any_opening found.1

-- an f-string has no more of them than the text
own_opened_fit : (n : ℕ) (tokens : List Token) → own_opened (open_fstring n tokens) ≤ count_by is_any_opening tokens
unfolding open_fstring
own_opened_fit n [] = omega arith
own_opened_fit n (FStringEnd ∷ before) = omega (arith, own_opened_fit (suc n) before, any_opened FStringEnd before)
own_opened_fit zero (FStringStart opening ∷ before) = omega arith
own_opened_fit (suc n) (FStringStart opening ∷ before) = omega (arith, own_opened_fit n before, any_opened (FStringStart opening) before)
own_opened_fit zero (node ∷ before) = omega (arith, own_opened_fit zero before, any_opened node before, more (open_fstring zero before))
  where
    more : (found : Option (Opening × List Token)) → own_opened (option_map (λ (found : Opening × List Token). (found.0, node ∷ found.1)) found) ≤ any_opens node + own_opened found
    more None = omega arith
    more (Some found) = omega (arith, any_opened node found.1)
own_opened_fit (suc n) (node ∷ before) = omega (arith, own_opened_fit (suc n) before, any_opened node before)

-- whether a token neither begins nor ends an f-string
abbrev pub keeps : Token → Bool
keeps (FStringStart opening) = false
keeps FStringEnd = false
keeps node = true

pub innermost_onward : (node : Token) (tokens : List Token) → keeps node ≡ true → open_fstring 0 (node ∷ tokens) ≡ option_map (λ (found : Opening × List Token). (found.0, node ∷ found.1)) (open_fstring 0 tokens)
unfolding open_fstring
innermost_onward (FStringStart opening) tokens h = cc
innermost_onward FStringEnd tokens h = cc
innermost_onward node tokens h = refl

pub outer_onward : (n : ℕ) (node : Token) (tokens : List Token) → keeps node ≡ true → open_fstring (suc n) (node ∷ tokens) ≡ open_fstring (suc n) tokens
unfolding open_fstring
outer_onward n (FStringStart opening) tokens h = cc
outer_onward n FStringEnd tokens h = cc
outer_onward n node tokens h = refl

-- the f-strings, innermost first, are those open after the tokens
abbrev pub AreOpen : List OpenFString → List Token → Type 0
AreOpen fstrings tokens = (n : ℕ) → option_map fstring_view (slice_get fstrings n) ≡ option_map fstring_of (open_fstring n tokens)

map_none : {A B : Type 0} (f : A → B) (o : Option A) → None ≡ option_map f o → o ≡ None
map_none f None h = refl
map_none f (Some x) h = cc

pub none_at_start : AreOpen [] []
unfolding open_fstring
none_at_start n = refl

pub begun : (opening : Opening) (fstring : OpenFString) (fstrings : List OpenFString) (tokens : List Token) → fstring_view fstring ≡ fstring_of (opening, []) → AreOpen fstrings tokens → AreOpen (fstring ∷ fstrings) (FStringStart opening ∷ tokens)
unfolding open_fstring
begun opening fstring fstrings tokens e h zero = ap Some e
begun opening fstring fstrings tokens e h (suc n) = h n

pub ended : (fstring : OpenFString) (fstrings : List OpenFString) (tokens : List Token) → AreOpen (fstring ∷ fstrings) tokens → AreOpen fstrings (FStringEnd ∷ tokens)
unfolding open_fstring
ended fstring fstrings tokens h n = h (suc n)

pub none_ended : (tokens : List Token) → AreOpen [] tokens → AreOpen [] (FStringEnd ∷ tokens)
unfolding open_fstring
none_ended tokens h n = h (suc n)

pub none_onward : (node : Token) (tokens : List Token) → keeps node ≡ true → AreOpen [] tokens → AreOpen [] (node ∷ tokens)
none_onward node tokens k h zero = rw (innermost_onward node tokens k, map_none fstring_of (open_fstring 0 tokens) (h 0)) refl
none_onward node tokens k h (suc n) = rw (outer_onward n node tokens k) (h (suc n))

pub some_onward : (node : Token) (tokens : List Token) (fstring more : OpenFString) (fstrings : List OpenFString) → keeps node ≡ true → count_by is_any_opening tokens + 2 < 2 ^ 64 → (is_opening Curly node ≡ true → is_code (mode_after tokens) ≡ true)
    → (HasRoom fstring → fstring_view more ≡ fstring_after (Whole node) (fstring_view fstring)) → AreOpen (fstring ∷ fstrings) tokens → AreOpen (more ∷ fstrings) (node ∷ tokens)
unfolding mode_after
some_onward node tokens fstring more fstrings k room code after h zero = rw (innermost_onward node tokens k) (go (open_fstring 0 tokens) (own_opened_fit 0 tokens) code (h 0))
  where
    go : (found : Option (Opening × List Token)) → own_opened found ≤ count_by is_any_opening tokens → (is_opening Curly node ≡ true → is_code (mode_by found) ≡ true) → Some (fstring_view fstring) ≡ option_map fstring_of found
        → Some (fstring_view more) ≡ option_map fstring_of (option_map (λ (found : Opening × List Token). (found.0, node ∷ found.1)) found)
    go None few code e = cc
    go (Some found) few code e =
        let same = same_Some _ _ e in
        ap Some (after (has_room fstring found same (omega (arith, few, room))) ∙ ap (fstring_after (Whole node)) same ∙ fstring_onward found node (brace_within node found code))
some_onward node tokens fstring more fstrings k room code after h (suc n) = rw (outer_onward n node tokens k) (h (suc n))

pub place_is : (fstring : OpenFString) (fstrings : List OpenFString) (tokens : List Token) (mode : Mode) → AreOpen (fstring ∷ fstrings) tokens → ((found : Opening × List Token) → fstring_view fstring ≡ fstring_of found → mode ≡ inside found) → mode ≡ mode_after tokens
unfolding mode_after
place_is fstring fstrings tokens mode h inner = go (open_fstring 0 tokens) (h 0)
  where
    go : (found : Option (Opening × List Token)) → Some (fstring_view fstring) ≡ option_map fstring_of found → mode ≡ mode_by found
    go None e = cc
    go (Some found) e = inner found (same_Some _ _ e)

pub outside_is : (tokens : List Token) → AreOpen [] tokens → Outside ≡ mode_after tokens
unfolding mode_after
outside_is tokens h = rw (map_none fstring_of (open_fstring 0 tokens) (h 0)) refl

-- Code after a token in code

-- whether code comes after an open f-string's tokens, by its depths
abbrev in_code : Option FStringDepths → Bool
in_code None = true
in_code (Some depths) = not (depths.braces == 0)

code_by : (found : Option (Opening × List Token)) → is_code (mode_by found) ≡ in_code (option_map fstring_of found)
unfolding fstring_of
code_by None = refl
code_by (Some found) = go found.0 (braces found.1 == 0) (braces found.1 == 1 && depth Round found.1 == 0 && depth Square found.1 == 0)
  where
    go : (opening : Opening) (text top : Bool) → is_code (if text then InText opening else (if top then AtTop else Deeper)) ≡ not text
    go opening true top = refl
    go opening false true = refl
    go opening false false = refl

more_braces : (n m : ℕ) → n ≤ m → not (n == 0) ≡ true → not (m == 0) ≡ true
more_braces zero m le h = cc
more_braces (suc n) m le h = ap not (ne_eqb m 0 (λ none. omega (arith, le, none)))

no_brace_closed : (node : Token) → keeps_code (Whole node) ≡ true → (keeps node ≡ true) × ((n : ℕ) → n ≤ braces_after node n)
no_brace_closed (Word terminal.ClosingCurly) h = cc
no_brace_closed (FStringStart opening) h = cc
no_brace_closed FStringExprStart h = cc
no_brace_closed FStringExprEnd h = cc
no_brace_closed FStringEnd h = cc
no_brace_closed node h = (refl, λ n. omega arith)

-- it does, whatever tokens the code represents
pub code_stays : (node : Token) (tokens before : List Token) (new : Nesting) → keeps_code (Whole node) ≡ true → is_code (mode_after tokens) ≡ true → Represents (node ∷ tokens) new → Represents before new → is_code (mode_after before) ≡ true
unfolding mode_after
code_stays node tokens before new stays code here there =
    let kept = no_brace_closed node stays in
    let same : option_map fstring_of (open_fstring 0 before) ≡ option_map fstring_of (open_fstring 0 (node ∷ tokens)) = sym (there.fstrings 0) ∙ here.fstrings 0 in
    code_by (open_fstring 0 before) ∙ ap in_code same ∙ ap (λ found. in_code (option_map fstring_of found)) (innermost_onward node tokens kept.0) ∙ go kept.1 (open_fstring 0 tokens) code
  where
    go : ((n : ℕ) → n ≤ braces_after node n) → (found : Option (Opening × List Token)) → is_code (mode_by found) ≡ true → in_code (option_map fstring_of (option_map (λ (found : Opening × List Token). (found.0, node ∷ found.1)) found)) ≡ true
    go more None h = refl
    go more (Some found) h =
        let after = fstring_onward found node (brace_within node found (λ opens. h)) in
        subst (λ (depths : FStringDepths). in_code (Some depths) ≡ true) after (more_braces (fstring_of found).braces _ (more (fstring_of found).braces) (sym (code_by (Some found)) ∙ h))

-- The innermost f-string is the last of a list.

pub reverse-push : {A : Type 0} (xs : List A) (x : A) → reverse (xs ++ x ∷ []) ≡ x ∷ reverse xs
reverse-push xs x = reverse-append xs (x ∷ [])

pub last_of : {A : Type 0} (xs : List A) (i : ℕ) (x : A) → i + 1 ≡ length xs → x ≡ get_or xs i x → reverse xs ≡ x ∷ reverse (take i xs)
last_of xs i x len e =
    let whole : xs ≡ take i xs ++ x ∷ [] = sym (take_all (i + 1) xs (omega arith)) ∙ take_more xs i x (omega arith) ∙ ap (λ y. take i xs ++ y ∷ []) (sym e) in
    ap reverse whole ∙ reverse-push (take i xs) x

pub last_set : {A : Type 0} (xs : List A) (i : ℕ) (y : A) → i + 1 ≡ length xs → reverse (set xs i y) ≡ y ∷ reverse (take i xs)
last_set xs i y len =
    let size = length-set xs i y in
    let whole : set xs i y ≡ take i xs ++ y ∷ [] = sym (take_all (i + 1) (set xs i y) (omega (arith, size))) ∙ take_more_set xs i y (omega arith) in
    ap reverse whole ∙ reverse-push (take i xs) y

pub last_some : {A : Type 0} (xs : List A) (x : A) → Some x ≡ slice_get xs (length xs - 1) → reverse xs ≡ x ∷ reverse (take (length xs - 1) xs)
last_some xs x e =
    let inside = slice_get_within xs (length xs - 1) x (sym e) in
    last_of xs (length xs - 1) x (omega arith) (sym (get_or_from_slice_get xs (length xs - 1) x x (sym e)))

pub last_none : {A : Type 0} (xs : List A) → None ≡ slice_get xs (length xs - 1) → xs ≡ []
last_none [] e = refl
last_none (x ∷ xs) e = let some = slice_get-get_or (x ∷ xs) (length (x ∷ xs) - 1) x (omega arith) in absurd (none-some _ (e ∙ some))

pub popped : {A : Type 0} (old new : List A) (last : A) → old ≡ new ++ last ∷ [] → reverse old ≡ last ∷ reverse new
popped old new last e = ap reverse e ∙ reverse-push new last

pub nothing_last : {A : Type 0} (xs : List A) → (0 < length xs → ⊥) → xs ≡ []
nothing_last [] h = refl
nothing_last (x ∷ xs) h = absurd (h (omega arith))

-- the f-strings but for the last
pub but_last : (old new : List OpenFString) (last : Option OpenFString) (tokens : List Token) → old ≡ new ++ option_to_list last → (0 < length old → is_some last ≡ true) → AreOpen (reverse old) tokens → AreOpen (reverse new) (FStringEnd ∷ tokens)
but_last old new None tokens e some h =
    let same : old ≡ new = e ∙ append-nil new in
    let none : old ≡ [] = nothing_last old (λ inside. let held = some inside in cc) in
    let closed : new ≡ [] = cc in
    let open_before : AreOpen [] tokens = subst (λ (fstrings : List OpenFString). AreOpen (reverse fstrings) tokens) none h in
    subst (λ (fstrings : List OpenFString). AreOpen (reverse fstrings) (FStringEnd ∷ tokens)) (sym closed) (none_ended tokens open_before)
but_last old new (Some last) tokens e some h =
    ended last (reverse new) tokens (subst (λ (fstrings : List OpenFString). AreOpen fstrings tokens) (popped old new last e) h)

-- One token further

-- the nesting one token further, by its f-strings
pub one_onward : (node : Token) (tokens : List Token) (old new : Nesting) → any_opens node + old.opened ≡ new.opened → any_closes node + old.closed ≡ new.closed → Represents tokens old
    → AreOpen (reverse new.fstrings.items) (node ∷ tokens) → Represents (node ∷ tokens) new
one_onward node tokens old new opened closed same fstrings = record {
  fstrings = fstrings;
  opened = omega (arith, opened, same.opened, any_opened node tokens);
  closed = omega (arith, closed, same.closed, any_closed node tokens);
}

-- a token that changes neither brackets nor f-strings
record IsKept (node : Token) : Type 0 where
  keeps : keeps node ≡ true
  opened : any_opens node ≡ 0
  closed : any_closes node ≡ 0
  braces : is_opening Curly node ≡ false
  braces_kept : (n : ℕ) → braces_after node n ≡ n
  rounds : (n : ℕ) → depth_after Round node n ≡ n
  squares : (n : ℕ) → depth_after Square node n ≡ n

kept_is : (node : Token) → keeps_nesting (Whole node) ≡ true → IsKept node
kept_is (Word terminal.OpeningRound) h = cc
kept_is (Word terminal.OpeningSquare) h = cc
kept_is (Word terminal.OpeningCurly) h = cc
kept_is (Word terminal.ClosingRound) h = cc
kept_is (Word terminal.ClosingSquare) h = cc
kept_is (Word terminal.ClosingCurly) h = cc
kept_is (FStringStart opening) h = cc
kept_is FStringExprStart h = cc
kept_is FStringExprEnd h = cc
kept_is FStringEnd h = cc
kept_is node h = record { keeps = refl; opened = refl; closed = refl; braces = refl; braces_kept = λ n. omega arith; rounds = λ n. omega arith; squares = λ n. omega arith }

same_fstrings : (n : ℕ) (node : Token) (tokens : List Token) → IsKept node → option_map fstring_of (open_fstring n (node ∷ tokens)) ≡ option_map fstring_of (open_fstring n tokens)
unfolding fstring_of
same_fstrings zero node tokens is = ap (option_map fstring_of) (innermost_onward node tokens is.keeps) ∙ go (open_fstring 0 tokens)
  where
    go : (found : Option (Opening × List Token)) → option_map fstring_of (option_map (λ (found : Opening × List Token). (found.0, node ∷ found.1)) found) ≡ option_map fstring_of found
    go None = refl
    go (Some found) = ap Some (sym (fstring_onward found node (brace_within node found (λ opens. cc (is.braces, opens)))) ∙ (λ i. record { opening = found.0; braces = is.braces_kept (braces found.1) i; rounds = is.rounds (depth Round found.1) i; squares = is.squares (depth Square found.1) i }))
same_fstrings (suc n) node tokens is = ap (option_map fstring_of) (outer_onward n node tokens is.keeps)

pub one_kept : (node : Token) (tokens : List Token) (nesting : Nesting) → keeps_nesting (Whole node) ≡ true → Represents tokens nesting → Represents (node ∷ tokens) nesting
one_kept node tokens nesting k same =
    let is = kept_is node k in
    one_onward node tokens nesting nesting (omega (arith, is.opened)) (omega (arith, is.closed)) same (λ n. same.fstrings n ∙ sym (same_fstrings n node tokens is))

-- a token of the code that is in an f-string, or in none, and opens and closes so many brackets
pub record Nests (token : code.Token) (more less : ℕ) : Type 0 where
  pub changes : keeps_nesting (token_view token) ≡ false
  pub inner : (node : Token) → token_view token ≡ Whole node → (keeps node ≡ true) × (any_opens node ≡ more) × (any_closes node ≡ less)

pub whole_same : (node other : Token) → Whole node ≡ Whole other → node ≡ other
whole_same node other e = ap of e
  where
    of : TokenView → Token
    of (Whole node) = node
    of view = FStringEnd

nests : (token : code.Token) (node : Token) (more less : ℕ) → token_view token ≡ Whole node → keeps_nesting (Whole node) ≡ false → (keeps node ≡ true) × (any_opens node ≡ more) × (any_closes node ≡ less) → Nests token more less
nests token node more less is changes inner = record {
  changes = ap keeps_nesting is ∙ changes;
  inner = λ other e. subst (λ node. (keeps node ≡ true) × (any_opens node ≡ more) × (any_closes node ≡ less)) (whole_same node other (sym is ∙ e)) inner;
}

pub opening_nests : (token : code.Token) → (token ≡ tokens.OpeningRound) ⊎ ((token ≡ tokens.OpeningSquare) ⊎ (token ≡ tokens.OpeningCurly)) → Nests token 1 0
unfolding token_view
opening_nests token (inl is) = nests token (Word terminal.OpeningRound) 1 0 (ap token_view is) refl (refl, refl, refl)
opening_nests token (inr (inl is)) = nests token (Word terminal.OpeningSquare) 1 0 (ap token_view is) refl (refl, refl, refl)
opening_nests token (inr (inr is)) = nests token (Word terminal.OpeningCurly) 1 0 (ap token_view is) refl (refl, refl, refl)

pub closing_nests : (token : code.Token) → (token ≡ tokens.ClosingRound) ⊎ ((token ≡ tokens.ClosingSquare) ⊎ (token ≡ tokens.ClosingCurly)) → Nests token 0 1
unfolding token_view
closing_nests token (inl is) = nests token (Word terminal.ClosingRound) 0 1 (ap token_view is) refl (refl, refl, refl)
closing_nests token (inr (inl is)) = nests token (Word terminal.ClosingSquare) 0 1 (ap token_view is) refl (refl, refl, refl)
closing_nests token (inr (inr is)) = nests token (Word terminal.ClosingCurly) 0 1 (ap token_view is) refl (refl, refl, refl)

pub expression_nests : (token : code.Token) → (token ≡ tokens.FStringExprStart) ⊎ (token ≡ tokens.FStringExprEnd) → Nests token 0 0
unfolding token_view
expression_nests token (inl is) = nests token FStringExprStart 0 0 (ap token_view is) refl (refl, refl, refl)
expression_nests token (inr is) = nests token FStringExprEnd 0 0 (ap token_view is) refl (refl, refl, refl)
