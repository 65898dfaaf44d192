-- What an edit leaves as it was.
use Rattle.starlark_document.proofs.LaidSegments.{text_append}
use Rattle.std.proofs.Common.{◌≡◌, ℕ, ◌+◌, ◌≤◌, true, List, [], ◌∷◌, ◌++◌, map, length, refl, ap, ◌∙◌, sym, arith, append_assoc, length-append}
use Rattle.std.proofs.lemmas.List.{map-append}
use Rattle.std.specs.List.{AllByRecursion}
use Rattle.starlark_document.proofs.FoundInSegments.{all_bounded, faults_by, faults_laid, lexemes_laid, map_moved}
use Rattle.starlark_document.specs.Documents.{AllInside, SameOutside, faults_of, lexemes_of}
use Rattle.starlark_document.specs.Inner.Segments.{AreLaid, IsBounded, faults_along, lexemes_along, text_in, text_of}
use Rattle.starlark_document.specs.declared.segments.Segment.{Segment}
use Rattle.starlark_grammar.specs.Tokens.{Fault, Spanned, moved}
use Rattle.starlark_grammar.specs.Words.{Text}
use Rattle.starlark_grammar.proofs.Found.Order.{found_faults_in_order}
use Rattle.starlark_grammar.specs.Found.{faults_in, found}
use Rattle.starlark_token.specs.Lexemes.{lexeme_view}
use Rattle.starlark_token.specs.TokenViews.{TokenView}
use Rattle.starlark_token.specs.declared.tokens.Token.{Token}

-- Spans that are found in each of some segments, lexemes or faults

abbrev SpansIn : Type 0 → Type 0
SpansIn A = Segment → List (Spanned A)

-- those of segments, the first of which begins at an offset
abbrev along : {A : Type 0} → SpansIn A → ℕ → List Segment → List (Spanned A)
along found n [] = []
along found n (segment ∷ more) = map (moved n) (found segment) ++ along found (n + segment.len) more

-- they end in the segment, whose stored length is that of its text
abbrev EndsIn : {A : Type 0} → SpansIn A → Segment → Type 0
EndsIn {A} found segment = (segment.len ≡ length (text_in segment)) × AllByRecursion (λ (x : Spanned A). x.end ≤ length (text_in segment)) (found segment)

abbrev segment_lexemes : SpansIn TokenView
segment_lexemes segment = map lexeme_view segment.content.value.lexemes.items

abbrev segment_faults : SpansIn Fault
segment_faults segment = faults_in (found (text_in segment))

lexemes_are_along : (n : ℕ) (segments : List Segment) → lexemes_along n segments ≡ along segment_lexemes n segments
lexemes_are_along n [] = refl
lexemes_are_along n (segment ∷ more) = ap (λ xs. map (moved n) (segment_lexemes segment) ++ xs) (lexemes_are_along (n + segment.len) more)

faults_are_along : (n : ℕ) (segments : List Segment) → faults_along n segments ≡ along segment_faults n segments
faults_are_along n [] = refl
faults_are_along n (segment ∷ more) = ap (λ xs. map (moved n) (segment_faults segment) ++ xs) (faults_are_along (n + segment.len) more)

lexemes_end_in : (segments : List Segment) → AllByRecursion IsBounded segments → AllByRecursion (EndsIn segment_lexemes) segments
lexemes_end_in [] all = tt
lexemes_end_in (segment ∷ more) all = ((all.0.len, ends segment.len (length (text_in segment)) segment.content.value.lexemes.items all.0.len all.0.lexemes), lexemes_end_in more all.1)
  where
    ends : (len to : ℕ) (items : List (ℕ × Token × ℕ)) → len ≡ to → AllByRecursion (λ (lexeme : ℕ × Token × ℕ). (lexeme.0 ≤ len) × (lexeme.2 ≤ len)) items
        → AllByRecursion (λ (x : Spanned TokenView). x.end ≤ to) (map lexeme_view items)
    ends len to [] same all = tt
    ends len to (item ∷ items) same all = let inside = all.0.1 in (omega (arith, same, inside), ends len to items same all.1)

faults_end_in : (segments : List Segment) → AllByRecursion IsBounded segments → AllByRecursion (EndsIn segment_faults) segments
faults_end_in [] all = tt
faults_end_in (segment ∷ more) all = (
  (all.0.len, ends (length (text_in segment)) (segment_faults segment) (faults_by 0 (length (text_in segment)) (segment_faults segment) (found_faults_in_order (text_in segment)))),
  faults_end_in more all.1,
)
  where
    ends : (to : ℕ) (faults : List (Spanned Fault)) → AllByRecursion (λ (fault : Spanned Fault). (fault.begin ≤ to) × (fault.end ≤ to)) faults
        → AllByRecursion (λ (fault : Spanned Fault). fault.end ≤ to) faults
    ends to [] all = tt
    ends to (fault ∷ faults) all = (all.0.1, ends to faults all.1)

-- Parts of lists of segments

all_first : {A : Type 0} (P : A → Type 0) (xs ys : List A) → AllByRecursion P (xs ++ ys) → AllByRecursion P xs
all_first P [] ys all = tt
all_first P (x ∷ xs) ys all = (all.0, all_first P xs ys all.1)

all_later : {A : Type 0} (P : A → Type 0) (xs ys : List A) → AllByRecursion P (xs ++ ys) → AllByRecursion P ys
all_later P [] ys all = all
all_later P (x ∷ xs) ys all = all_later P xs ys all.1

all_append : {A : Type 0} (P : A → Type 0) (xs ys : List A) → AllByRecursion P xs → AllByRecursion P ys → AllByRecursion P (xs ++ ys)
all_append P [] ys one other = other
all_append P (x ∷ xs) ys one other = (one.0, all_append P xs ys one.1 other)

along_append : {A : Type 0} (found : SpansIn A) (n : ℕ) (xs ys : List Segment) → AllByRecursion (EndsIn found) xs
    → along found n (xs ++ ys) ≡ along found n xs ++ along found (n + length (text_of xs)) ys
along_append found n [] ys all = ap (λ k. along found k ys) (omega arith)
along_append found n (segment ∷ xs) ys all =
    let len = all.0.0 in
    let start : (n + segment.len) + length (text_of xs) ≡ n + length (text_of (segment ∷ xs)) = omega (arith, len, length-append (text_in segment) (text_of xs)) in
    ap (λ l. map (moved n) (found segment) ++ l) (along_append found (n + segment.len) xs ys all.1)
    ∙ sym (append_assoc (map (moved n) (found segment)) (along found (n + segment.len) xs) (along found ((n + segment.len) + length (text_of xs)) ys))
    ∙ ap (λ k. (map (moved n) (found segment) ++ along found (n + segment.len) xs) ++ along found k ys) start

along_moved : {A : Type 0} (found : SpansIn A) (a n k : ℕ) (xs : List Segment) → a + n ≡ k → along found k xs ≡ map (moved a) (along found n xs)
along_moved found a n k [] same = refl
along_moved found a n k (segment ∷ xs) same =
    ap (λ m. map (moved m) (found segment) ++ along found (k + segment.len) xs) (sym same)
    ∙ ap (λ l. l ++ along found (k + segment.len) xs) (sym (map_moved a n (found segment)))
    ∙ ap (λ l. map (moved a) (map (moved n) (found segment)) ++ l) (along_moved found a (n + segment.len) (k + segment.len) xs (omega (arith, same)))
    ∙ sym (map-append (moved a) (map (moved n) (found segment)) (along found (n + segment.len) xs))

inside_moved : {A : Type 0} (begin n len end : ℕ) (xs : List (Spanned A)) → begin ≤ n → n + len ≤ end → AllByRecursion (λ (x : Spanned A). x.end ≤ len) xs → AllInside begin end (map (moved n) xs)
inside_moved begin n len end [] less fits all = tt
inside_moved begin n len end (x ∷ xs) less fits all = let inside = all.0 in ((omega (arith, less), omega (arith, fits, inside)), inside_moved begin n len end xs less fits all.1)

along_inside : {A : Type 0} (found : SpansIn A) (begin n end : ℕ) (xs : List Segment) → AllByRecursion (EndsIn found) xs → begin ≤ n → n + length (text_of xs) ≤ end
    → AllInside begin end (along found n xs)
along_inside found begin n end [] all less fits = tt
along_inside {A} found begin n end (segment ∷ xs) all less fits =
    let len = all.0.0 in
    let total = length-append (text_in segment) (text_of xs) in
    all_append (λ (x : Spanned A). (begin ≤ x.begin) × (x.end ≤ end)) (map (moved n) (found segment)) (along found (n + segment.len) xs)
    (inside_moved begin n (length (text_in segment)) end (found segment) less (omega (arith, total, fits)) all.0.1)
    (along_inside found begin (n + segment.len) end xs all.1 (omega (arith, less)) (omega (arith, total, len, fits)))

-- What is found before some segments, in them, and after them

along_parts : {A : Type 0} (found : SpansIn A) (before inner after : List Segment) → AllByRecursion (EndsIn found) (before ++ (inner ++ after))
    → along found 0 (before ++ (inner ++ after))
    ≡ along found 0 before ++ (along found (length (text_of before)) inner ++ map (moved (length (text_of (before ++ inner)))) (along found 0 after))
along_parts found before inner after all =
    let at : ℕ = length (text_of before) in
    let start : 0 + at ≡ at = omega arith in
    let end : length (text_of (before ++ inner)) + 0 ≡ at + length (text_of inner) =
    omega (arith, ap length (text_append before inner), length-append (text_of before) (text_of inner)) in
    along_append found 0 before (inner ++ after) (all_first (EndsIn found) before (inner ++ after) all)
    ∙ ap (λ k. along found 0 before ++ along found k (inner ++ after)) start
    ∙ ap (λ l. along found 0 before ++ l) (along_append found at inner after (all_first (EndsIn found) inner after (all_later (EndsIn found) before (inner ++ after) all)))
    ∙ ap (λ l. along found 0 before ++ (along found at inner ++ l)) (along_moved found (length (text_of (before ++ inner))) 0 (at + length (text_of inner)) after end)

inner_inside : {A : Type 0} (found : SpansIn A) (before inner after : List Segment) → AllByRecursion (EndsIn found) (before ++ (inner ++ after))
    → AllInside (length (text_of before)) (length (text_of (before ++ inner))) (along found (length (text_of before)) inner)
inner_inside found before inner after all =
    along_inside found (length (text_of before)) (length (text_of before)) (length (text_of (before ++ inner))) inner
    (all_first (EndsIn found) inner after (all_later (EndsIn found) before (inner ++ after) all)) (omega arith)
    (omega (arith, ap length (text_append before inner), length-append (text_of before) (text_of inner)))

outside : {A : Type 0} (found : SpansIn A) (before mid fresh after : List Segment) → AllByRecursion (EndsIn found) (before ++ (mid ++ after)) → AllByRecursion (EndsIn found) (before ++ (fresh ++ after))
    → SameOutside (length (text_of before)) (length (text_of (before ++ mid))) (length (text_of (before ++ fresh)))
    (along found 0 (before ++ (mid ++ after))) (along found 0 (before ++ (fresh ++ after)))
outside found before mid fresh after old new = record {
  before = along found 0 before;
  first_inside = along found (length (text_of before)) mid;
  second_inside = along found (length (text_of before)) fresh;
  after = along found 0 after;
  is_first = along_parts found before mid after old;
  is_second = along_parts found before fresh after new;
  all_before = along_inside found 0 0 (length (text_of before)) before (all_first (EndsIn found) before (mid ++ after) old) (omega arith) (omega arith);
  all_first = inner_inside found before mid after old;
  all_second = inner_inside found before fresh after new;
}

found_outside : {A : Type 0} (found : SpansIn A) (all_of : Text → List (Spanned A)) → ((segments : List Segment) → AreLaid true segments → all_of (text_of segments) ≡ along found 0 segments)
    → ((segments : List Segment) → AreLaid true segments → AllByRecursion (EndsIn found) segments)
    → (before mid fresh after : List Segment) → AreLaid true (before ++ (mid ++ after)) → AreLaid true (before ++ (fresh ++ after))
    → SameOutside (length (text_of before)) (length (text_of (before ++ mid))) (length (text_of (before ++ fresh)))
    (all_of (text_of (before ++ (mid ++ after)))) (all_of (text_of (before ++ (fresh ++ after))))
found_outside found all_of is ends before mid fresh after old new =
    rw (is (before ++ (mid ++ after)) old, is (before ++ (fresh ++ after)) new) (outside found before mid fresh after (ends (before ++ (mid ++ after)) old) (ends (before ++ (fresh ++ after)) new))

pub lexemes_outside : (before mid fresh after : List Segment) → AreLaid true (before ++ (mid ++ after)) → AreLaid true (before ++ (fresh ++ after))
    → SameOutside (length (text_of before)) (length (text_of (before ++ mid))) (length (text_of (before ++ fresh)))
    (lexemes_of (text_of (before ++ (mid ++ after)))) (lexemes_of (text_of (before ++ (fresh ++ after))))
lexemes_outside = found_outside segment_lexemes lexemes_of (λ segments laid. lexemes_laid segments laid ∙ lexemes_are_along 0 segments) (λ segments laid. lexemes_end_in segments (all_bounded true segments laid))

pub faults_outside : (before mid fresh after : List Segment) → AreLaid true (before ++ (mid ++ after)) → AreLaid true (before ++ (fresh ++ after))
    → SameOutside (length (text_of before)) (length (text_of (before ++ mid))) (length (text_of (before ++ fresh)))
    (faults_of (text_of (before ++ (mid ++ after)))) (faults_of (text_of (before ++ (fresh ++ after))))
faults_outside = found_outside segment_faults faults_of (λ segments laid. faults_laid segments laid ∙ faults_are_along 0 segments) (λ segments laid. faults_end_in segments (all_bounded true segments laid))
