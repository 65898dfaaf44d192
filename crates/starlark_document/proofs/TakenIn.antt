-- Why segments after a part are taken in: what is read so far doesn't end with a `Newline`.
use Rattle.std.proofs.Common.{◌≡◌, ℕ, ◌+◌, ◌-◌, ◌≤◌, ◌<◌, Bool, true, false, cond, List, [], ◌∷◌, ◌++◌, map, length, drop, nat_lt, refl, ap, sym, subst, ◌∙◌, arith, inl, inr, ◌⊎◌, append_assoc, length-append, string_bytes, lt-ltb, le-ltb}
use Rattle.std.specs.Prelude.{◌&&◌}
use Rattle.std.specs.List.{AllByRecursion, slice_range}
use Rattle.std.proofs.lemmas.Bool.{cases_lt}
use Rattle.std.proofs.lemmas.List.{append_cancel_right, map-append}
use Rattle.starlark_document.specs.Documents.{EndsWithLine, is_line_end, lexemes_of, line_end_from}
use Rattle.starlark_document.specs.Inner.EditedParts.{AreTakenIn}
use Rattle.starlark_document.specs.Inner.Segments.{AreOpen, text_in, text_of}
use Rattle.starlark_document.specs.declared.edited_parts.EditedPart.{EditedPart}
use Rattle.starlark_document.specs.declared.segments.Segment.{Segment}
use Rattle.starlark_document.proofs.FoundInSegments.{all_without, lexemes_inside, map_shown, plain_append}
use Rattle.starlark_document.proofs.Splices.{IsLexing, lexing_rest, some_plain, taken}
use Rattle.starlark_grammar.proofs.Found.JoinedTexts.{found_joins}
use Rattle.starlark_grammar.specs.ClosedTexts.{IsClosed}
use Rattle.starlark_grammar.specs.Found.{found, lexemes_in}
use Rattle.starlark_grammar.specs.Joining.{begins_plainly, without_last_newline}
use Rattle.starlark_grammar.specs.Recovery.{Recovered}
use Rattle.starlark_grammar.specs.RecoveryLaws.{IsInside}
use Rattle.starlark_grammar.specs.Tokens.{Lexeme, Spanned, moved}
use Rattle.starlark_grammar.specs.Words.{Text}
use Rattle.starlark_token.specs.Lexemes.{shown_lexeme}
use Rattle.starlark_token.specs.TokenViews.{TokenView, is_newline_view}

-- Where the last `Newline` of lists of lexemes ends

line_end_append : (at : ℕ) (xs ys : List (Spanned TokenView)) → line_end_from at (xs ++ ys) ≡ line_end_from (line_end_from at xs) ys
line_end_append at [] ys = refl
line_end_append at (x ∷ xs) ys = line_end_append (cond (is_line_end x) x.end at) xs ys

lt_moved : (n b e : ℕ) → nat_lt (n + b) (n + e) ≡ nat_lt b e
lt_moved n b e = by (cases_lt b e)
  where
    by : (b < e) ⊎ (e ≤ b) → nat_lt (n + b) (n + e) ≡ nat_lt b e
    by (inl less) = lt-ltb (n + b) (n + e) (omega (arith, less)) ∙ sym (lt-ltb b e less)
    by (inr least) = le-ltb (n + b) (n + e) (omega (arith, least)) ∙ sym (le-ltb b e least)

is_moved : (n : ℕ) (x : Spanned TokenView) → is_line_end (moved n x) ≡ is_line_end x
is_moved n x = ap (λ (b : Bool). is_newline_view x.node && b) (lt_moved n x.begin x.end)

line_end_moved : (n at : ℕ) (xs : List (Spanned TokenView)) → line_end_from (n + at) (map (moved n) xs) ≡ n + line_end_from at xs
line_end_moved n at [] = refl
line_end_moved n at (x ∷ xs) =
    ap (λ (k : ℕ). line_end_from k (map (moved n) xs)) (ap (λ (b : Bool). cond b (n + x.end) (n + at)) (is_moved n x) ∙ one (is_line_end x)) ∙ line_end_moved n (cond (is_line_end x) x.end at) xs
  where
    one : (b : Bool) → cond b (n + x.end) (n + at) ≡ n + cond b x.end at
    one true = refl
    one false = refl

-- of moved lexemes it is theirs, or there is none
ends_either : (n k j : ℕ) (xs : List (Spanned TokenView)) → (line_end_from k (map (moved n) xs) ≡ n + line_end_from j xs) ⊎ (line_end_from k (map (moved n) xs) ≡ k)
ends_either n k j [] = inr refl
ends_either n k j (x ∷ xs) = by (is_line_end x) refl (ends_either n k j xs)
  where
    by : (b : Bool) → is_line_end x ≡ b → (line_end_from k (map (moved n) xs) ≡ n + line_end_from j xs) ⊎ (line_end_from k (map (moved n) xs) ≡ k)
        → (line_end_from k (map (moved n) (x ∷ xs)) ≡ n + line_end_from j (x ∷ xs)) ⊎ (line_end_from k (map (moved n) (x ∷ xs)) ≡ k)
    by true e rest =
        let there : line_end_from k (map (moved n) (x ∷ xs)) ≡ line_end_from (n + x.end) (map (moved n) xs) = ap (λ (b : Bool). line_end_from (cond b (n + x.end) k) (map (moved n) xs)) (is_moved n x ∙ e) in
        let here : line_end_from j (x ∷ xs) ≡ line_end_from x.end xs = ap (λ (b : Bool). line_end_from (cond b x.end j) xs) e in
        inl (there ∙ line_end_moved n x.end xs ∙ ap (λ (m : ℕ). n + m) (sym here))
    by false e rest =
        let there : line_end_from k (map (moved n) (x ∷ xs)) ≡ line_end_from k (map (moved n) xs) = ap (λ (b : Bool). line_end_from (cond b (n + x.end) k) (map (moved n) xs)) (is_moved n x ∙ e) in
        let here : line_end_from j (x ∷ xs) ≡ line_end_from j xs = ap (λ (b : Bool). line_end_from (cond b x.end j) xs) e in
        rw (there, here) rest

within : (n at : ℕ) (text : Text) (xs : List Lexeme) → length text ≤ n → at ≤ n → AllByRecursion (IsInside text) xs → line_end_from at (map shown_lexeme xs) ≤ n
within n at text [] fits less all = less
within n at text (x ∷ xs) fits less all = within n (cond (is_line_end (shown_lexeme x)) x.end at) text xs fits (one (is_line_end (shown_lexeme x))) all.1
  where
    one : (b : Bool) → cond b x.end at ≤ n
    one true = let inside = all.0.1 in omega (arith, inside, fits)
    one false = less

-- Texts after closed ones

ends_rest : (first rest : Text) → IsClosed first → begins_plainly rest ≡ true → EndsWithLine (first ++ rest) → EndsWithLine rest
ends_rest first rest closed plain ends = by (ends_either n k 0 (lexemes_of rest))
  where
    n : ℕ
    n = length first

    own : List Lexeme
    own = without_last_newline (lexemes_in (found first))

    k : ℕ
    k = line_end_from 0 (map shown_lexeme own)

    few : k ≤ n
    few = within n 0 first own (omega arith) (omega arith) (all_without (IsInside first) (lexemes_in (found first)) (lexemes_inside first))

    all : lexemes_of (first ++ rest) ≡ map shown_lexeme own ++ map (moved n) (lexemes_of rest)
    all = ap (λ (r : Recovered). map shown_lexeme r.lexemes) (found_joins first rest closed plain) ∙ map-append shown_lexeme own (map (moved n) (lexemes_in (found rest))) ∙ ap (λ ls. map shown_lexeme own ++ ls) (map_shown n (lexemes_in (found rest)))

    total : line_end_from k (map (moved n) (lexemes_of rest)) ≡ n + length rest
    total = sym (ap (line_end_from 0) all ∙ line_end_append 0 (map shown_lexeme own) (map (moved n) (lexemes_of rest))) ∙ ends ∙ length-append first rest

    by : (line_end_from k (map (moved n) (lexemes_of rest)) ≡ n + line_end_from 0 (lexemes_of rest)) ⊎ (line_end_from k (map (moved n) (lexemes_of rest)) ≡ k) → EndsWithLine rest
    by (inl e) = omega (arith, sym e ∙ total)
    by (inr e) = absurd (omega (arith, sym e ∙ total, few, some_plain rest plain))

plain_after : (done : List Segment) (rest : Text) → AreOpen false done → begins_plainly rest ≡ true → begins_plainly (text_of done ++ rest) ≡ true
plain_after [] rest are_open plain = plain
plain_after (x ∷ done) rest are_open plain = ap begins_plainly (append_assoc (text_in x) (text_of done) rest) ∙ plain_append (text_in x) (text_of done ++ rest) are_open.0

ends_after : (f : Bool) (done : List Segment) (rest : Text) → AreOpen f done → begins_plainly rest ≡ true → EndsWithLine (text_of done ++ rest) → EndsWithLine rest
ends_after f [] rest are_open plain ends = ends
ends_after f (x ∷ done) rest are_open plain ends =
    ends_after false done rest are_open.2 plain (ends_rest (text_in x) (text_of done ++ rest) are_open.1.is_closed (plain_after done rest are_open.2 plain) (subst EndsWithLine (append_assoc (text_in x) (text_of done) rest) ends))

-- what is lexed so far doesn't end with a `Newline`, where its rest doesn't
pub unended_text : (segments : List Segment) (part : EditedPart) (text : Text) (end len read : ℕ) (done : List Segment) → IsLexing segments part text end len read done → (EndsWithLine (drop len text) → ⊥) → EndsWithLine text → ⊥
unended_text segments part text end len read done is none ends = none (subst EndsWithLine (sym (lexing_rest segments part text end len read done is)) (by is.plain))
  where
    by : ((done ≡ []) × (part.first.index ≡ 0)) ⊎ (begins_plainly is.rest ≡ true) → EndsWithLine is.rest
    by (inl e) = subst EndsWithLine (is.is_rest ∙ ap (λ (xs : List Segment). text_of xs ++ is.rest) e.0) ends
    by (inr plain) = ends_after _ done is.rest is.opened plain (subst EndsWithLine is.is_rest ends)

-- so segments after it are needed
pub taken_more : (segments : List Segment) (part : EditedPart) (text : Text) (end next more len read : ℕ) (done : List Segment) → IsLexing segments part text end len read done → (EndsWithLine (drop len text) → ⊥)
    → end < next → next ≤ end + more → more ≤ end - part.end + 1 → AreTakenIn segments part next
taken_more segments part text end next more len read done is none later few paced =
    inr (end - part.end, omega (arith, is.order, later), omega (arith, is.order, few, paced), (λ ends. unended_text segments part text end len read done is none (subst EndsWithLine same ends)))
  where
    index : part.end + (end - part.end) ≡ end
    index = omega (arith, is.order)

    so_far : text ≡ string_bytes part.text ++ text_of (slice_range segments part.end end)
    so_far = append_cancel_right _ _ (text_of (drop end segments))
        (is.same ∙ ap (λ (t : Text). string_bytes part.text ++ t) (taken segments part.end end is.order) ∙ sym (append_assoc (string_bytes part.text) (text_of (slice_range segments part.end end)) (text_of (drop end segments))))

    same : string_bytes part.text ++ text_of (slice_range segments part.end (part.end + (end - part.end))) ≡ text
    same = ap (λ (k : ℕ). string_bytes part.text ++ text_of (slice_range segments part.end k)) index ∙ sym so_far
