-- The lexemes of segments that end at or before an offset.
use Rattle.std.proofs.Common.{◌≡◌, ℕ, zero, suc, ◌+◌, ◌-◌, ◌<◌, ◌≤◌, Bool, true, false, List, [], ◌∷◌, ◌++◌, Some, ap, append_assoc, arith, drop, inl, inr, length, length-append, map, nat_le, refl, subst, sym, take, take-append-drop, ◌∙◌}
use Rattle.std.proofs.lemmas.Bool.{cases_lt, le-leb, lt-leb}
use Rattle.std.proofs.lemmas.Bool.Decides.{nat_tests}
use Rattle.std.proofs.lemmas.List.{drop_all}
use Rattle.std.specs.List.{AllByRecursion, prefix_len, slice_get}
use Rattle.starlark_document.proofs.SegmentOffsets.{drop_at, text_of-split}
use Rattle.starlark_document.specs.Documents.{ends_by}
use Rattle.starlark_document.specs.Inner.Segments.{AreBounded, IsBounded, lexemes_along, lexemes_from, text_in, text_of}
use Rattle.starlark_document.specs.declared.segments.Segment.{Segment}
use Rattle.starlark_grammar.specs.Tokens.{Spanned, moved}
use Rattle.starlark_token.specs.Lexemes.{lexeme_view}
use Rattle.starlark_token.specs.TokenViews.{TokenView}
use Rattle.starlark_token.specs.declared.tokens.Token.{Token}

-- a list without its longest front that passes a test
abbrev without_front : {X : Type 0} → (X → Bool) → List X → List X
without_front p xs = drop (prefix_len p xs) xs

without_front-yes : {X : Type 0} (p : X → Bool) (x : X) (xs : List X) → p x ≡ true → without_front p (x ∷ xs) ≡ without_front p xs
without_front-yes p x xs passes =
    let count : prefix_len p (x ∷ xs) ≡ suc (prefix_len p xs) = rw passes (omega arith) in
    ap (λ (n : ℕ). drop n (x ∷ xs)) count

without_front-no : {X : Type 0} (p : X → Bool) (x : X) (xs : List X) → p x ≡ false → without_front p (x ∷ xs) ≡ x ∷ xs
without_front-no p x xs fails =
    let count : prefix_len p (x ∷ xs) ≡ 0 = rw fails refl in
    ap (λ (n : ℕ). drop n (x ∷ xs)) count

-- elements that all pass are of the front
pub without_front-all : {X : Type 0} (p : X → Bool) (xs ys : List X) → AllByRecursion (λ x. p x ≡ true) xs → without_front p (xs ++ ys) ≡ without_front p ys
without_front-all p [] ys all = refl
without_front-all p (x ∷ xs) ys all = without_front-yes p x (xs ++ ys) all.0 ∙ without_front-all p xs ys all.1

-- where the first of the later elements doesn't pass, the front is one of the earlier
pub without_front-before : {X : Type 0} (p : X → Bool) (xs ys : List X) → without_front p ys ≡ ys → without_front p (xs ++ ys) ≡ without_front p xs ++ ys
without_front-before p [] ys stops = stops
without_front-before {X = X} p (x ∷ xs) ys stops = by (p x) refl (without_front-before p xs ys stops)
  where
    by : (b : Bool) → p x ≡ b → without_front p (xs ++ ys) ≡ without_front p xs ++ ys → without_front p (x ∷ (xs ++ ys)) ≡ without_front p (x ∷ xs) ++ ys
    by true passes later = without_front-yes p x (xs ++ ys) passes ∙ later ∙ ap (λ (zs : List X). zs ++ ys) (sym (without_front-yes p x xs passes))
    by false fails later = without_front-no p x (xs ++ ys) fails ∙ ap (λ (zs : List X). zs ++ ys) (sym (without_front-no p x xs fails))

all-append : {X : Type 0} (P : X → Type 0) (xs ys : List X) → AllByRecursion P xs → AllByRecursion P ys → AllByRecursion P (xs ++ ys)
all-append P [] ys first second = second
all-append P (x ∷ xs) ys first second = (first.0, all-append P xs ys first.1 second)

all-drop : {X : Type 0} (P : X → Type 0) (at : ℕ) (xs : List X) → AllByRecursion P xs → AllByRecursion P (drop at xs)
all-drop P zero xs all = all
all-drop P (suc at) [] all = tt
all-drop P (suc at) (x ∷ xs) all = all-drop P at xs all.1

all-take : {X : Type 0} (P : X → Type 0) (at : ℕ) (xs : List X) → AllByRecursion P xs → AllByRecursion P (take at xs)
all-take P zero xs all = tt
all-take P (suc at) [] all = tt
all-take P (suc at) (x ∷ xs) all = (all.0, all-take P at xs all.1)

-- the lexemes of a segment, which begins at an offset
abbrev placed : ℕ → List (ℕ × Token × ℕ) → List (Spanned TokenView)
placed begin items = map (moved begin) (map lexeme_view items)

-- where a segment ends by an offset, its lexemes do
placed_pass : (begin len at : ℕ) (items : List (ℕ × Token × ℕ)) → begin + len ≤ at → AllByRecursion (λ (lexeme : ℕ × Token × ℕ). (lexeme.0 ≤ len) × (lexeme.2 ≤ len)) items
    → AllByRecursion (λ x. ends_by at x ≡ true) (placed begin items)
placed_pass begin len at [] end all = tt
placed_pass begin len at (item ∷ items) end all = (le-leb (begin + item.2) at (omega (arith, end, all.0.1)), placed_pass begin len at items end all.1)

-- where segments end by an offset, their lexemes do
along_pass : (begin at : ℕ) (segments : List Segment) → AllByRecursion IsBounded segments → begin + length (text_of segments) ≤ at
    → AllByRecursion (λ x. ends_by at x ≡ true) (lexemes_along begin segments)
along_pass begin at [] all end = tt
along_pass begin at (segment ∷ more) all end =
    let text = length-append (text_in segment) (text_of more) in
    all-append (λ x. ends_by at x ≡ true) (placed begin segment.content.value.lexemes.items) (lexemes_along (begin + segment.len) more)
    (placed_pass begin segment.len at segment.content.value.lexemes.items (omega (arith, text, end, all.0.len)) all.0.lexemes)
    (along_pass (begin + segment.len) at more all.1 (omega (arith, text, end, all.0.len)))

-- No lexeme ends before its segment begins: where segments begin after an offset, no front of their lexemes ends by it.
placed_stop : (begin at : ℕ) (items : List (ℕ × Token × ℕ)) (ys : List (Spanned TokenView)) → at < begin → without_front (ends_by at) ys ≡ ys
    → without_front (ends_by at) (placed begin items ++ ys) ≡ placed begin items ++ ys
placed_stop begin at [] ys after stops = stops
placed_stop begin at (item ∷ items) ys after stops =
    without_front-no (ends_by at) (moved begin (lexeme_view item)) (placed begin items ++ ys) (lt-leb (begin + item.2) at (omega (arith, after)))

along_stop : (begin at : ℕ) (segments : List Segment) → at < begin → without_front (ends_by at) (lexemes_along begin segments) ≡ lexemes_along begin segments
along_stop begin at [] after = refl
along_stop begin at (segment ∷ more) after =
    placed_stop begin at segment.content.value.lexemes.items (lexemes_along (begin + segment.len) more) after (along_stop (begin + segment.len) at more (omega (arith, after)))

same_test : (begin end at : ℕ) → begin ≤ at → nat_le (begin + end) at ≡ nat_le end (at - begin)
same_test begin end at from = grind (arith, nat_tests)

-- in a segment the lexemes that end by an offset of the text are those that end by that of the segment
placed_front : (begin at : ℕ) (items : List (ℕ × Token × ℕ)) → begin ≤ at
    → without_front (ends_by at) (placed begin items) ≡ placed begin (without_front (λ lexeme. nat_le lexeme.2 (at - begin)) items)
placed_front begin at [] from = refl
placed_front begin at (item ∷ items) from = by (nat_le item.2 (at - begin)) refl (placed_front begin at items from)
  where
    by : (b : Bool) → nat_le item.2 (at - begin) ≡ b
        → without_front (ends_by at) (placed begin items) ≡ placed begin (without_front (λ lexeme. nat_le lexeme.2 (at - begin)) items)
        → without_front (ends_by at) (placed begin (item ∷ items)) ≡ placed begin (without_front (λ lexeme. nat_le lexeme.2 (at - begin)) (item ∷ items))
    by true passes later =
        without_front-yes (ends_by at) (moved begin (lexeme_view item)) (placed begin items) (same_test begin item.2 at from ∙ passes)
        ∙ later
        ∙ ap (λ (xs : List (ℕ × Token × ℕ)). placed begin xs) (sym (without_front-yes (λ lexeme. nat_le lexeme.2 (at - begin)) item items passes))
    by false fails later =
        without_front-no (ends_by at) (moved begin (lexeme_view item)) (placed begin items) (same_test begin item.2 at from ∙ fails)
        ∙ ap (λ (xs : List (ℕ × Token × ℕ)). placed begin xs) (sym (without_front-no (λ lexeme. nat_le lexeme.2 (at - begin)) item items fails))

lexemes_along-append : (begin : ℕ) (before after : List Segment) → AllByRecursion IsBounded before
    → lexemes_along begin (before ++ after) ≡ lexemes_along begin before ++ lexemes_along (begin + length (text_of before)) after
lexemes_along-append begin [] after all = ap (λ (n : ℕ). lexemes_along n after) (omega arith)
lexemes_along-append begin (segment ∷ before) after all =
    let next : begin + segment.len + length (text_of before) ≡ begin + length (text_of (segment ∷ before)) = omega (arith, length-append (text_in segment) (text_of before), all.0.len) in
    ap (λ (xs : List (Spanned TokenView)). placed begin segment.content.value.lexemes.items ++ xs)
    (lexemes_along-append (begin + segment.len) before after all.1 ∙ ap (λ (n : ℕ). lexemes_along (begin + segment.len) before ++ lexemes_along n after) next)
    ∙ sym (append_assoc (placed begin segment.content.value.lexemes.items) (lexemes_along (begin + segment.len) before) (lexemes_along (begin + length (text_of (segment ∷ before))) after))

rest_stop : (segments : List Segment) (index end at : ℕ) → (index + 1 < length segments → at < end)
    → without_front (ends_by at) (lexemes_along end (drop (index + 1) segments)) ≡ lexemes_along end (drop (index + 1) segments)
rest_stop segments index end at inner =
    elim (cases_lt (index + 1) (length segments)) [
      | inl more ↦ along_stop end at (drop (index + 1) segments) (inner more)
      | inr last ↦ subst (λ (xs : List Segment). without_front (ends_by at) (lexemes_along end xs) ≡ lexemes_along end xs) (sym (drop_all (index + 1) segments last)) refl
    ]

-- From the segment that holds an offset on, those of its lexemes are left that end after the offset, and those of the segments after it.
pub lexemes_left : (segments : List Segment) (index begin at : ℕ) (segment : Segment) → AllByRecursion IsBounded segments → slice_get segments index ≡ Some segment
    → begin ≡ length (text_of (take index segments)) → begin ≤ at → (index + 1 < length segments → at < begin + segment.len)
    → lexemes_from begin (prefix_len (λ lexeme. nat_le lexeme.2 (at - begin)) segment.content.value.lexemes.items) (drop index segments)
    ≡ drop (prefix_len (ends_by at) (lexemes_along 0 segments)) (lexemes_along 0 segments)
lexemes_left segments index begin at segment all is same from inner =
    let front = lexemes_along 0 (take index segments) in
    let items = segment.content.value.lexemes.items in
    let more = drop (index + 1) segments in
    let rest = lexemes_along (begin + segment.len) more in
    let start : 0 + length (text_of (take index segments)) ≡ begin = omega (arith, same) in
    let parts : lexemes_along 0 segments ≡ front ++ (placed begin items ++ rest) =
    ap (λ (xs : List Segment). lexemes_along 0 xs) (sym (take-append-drop index segments))
    ∙ lexemes_along-append 0 (take index segments) (drop index segments) (all-take IsBounded index segments all)
    ∙ ap (λ (n : ℕ). front ++ lexemes_along n (drop index segments)) start
    ∙ ap (λ (xs : List Segment). front ++ lexemes_along begin xs) (drop_at segments index segment is) in
    let passed = along_pass 0 at (take index segments) (all-take IsBounded index segments all) (omega (arith, start, from)) in
    let left =
    ap (λ (xs : List (Spanned TokenView)). without_front (ends_by at) xs) parts
    ∙ without_front-all (ends_by at) front (placed begin items ++ rest) passed
    ∙ without_front-before (ends_by at) (placed begin items) rest (rest_stop segments index (begin + segment.len) at inner)
    ∙ ap (λ (xs : List (Spanned TokenView)). xs ++ rest) (placed_front begin at items from) in
    ap (λ (xs : List Segment). lexemes_from begin (prefix_len (λ lexeme. nat_le lexeme.2 (at - begin)) items) xs) (drop_at segments index segment is) ∙ sym left

-- segments from one on
pub bounded_from : (segments : List Segment) (index begin : ℕ) → begin ≡ length (text_of (take index segments)) → AreBounded 0 segments → AreBounded begin (drop index segments)
bounded_from segments index begin same bounded = (
  all-drop IsBounded index segments bounded.0,
  omega (arith, same, bounded.1, ap length (text_of-split segments index), length-append (text_of (take index segments)) (text_of (drop index segments))),
)
