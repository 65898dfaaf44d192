-- Margins of a text of whole lines, and what more text after it makes of them.
use Rattle.std.proofs.Common.{◌≡◌, ℕ, zero, suc, ◌+◌, ◌<◌, Bool, true, false, cond, List, [], ◌∷◌, ◌++◌, length, take, drop, refl, ap, ◌∙◌, sym, arith, map, one-add, append-nil}
use Rattle.std.specs.Prelude.{if◌then◌else◌, sum_by, take_while}
use Rattle.std.specs.List.{list_all, onto_first}
use Rattle.std.proofs.Math.Seq.{drop-append-add, drop-length}
use Rattle.std.proofs.lemmas.Bool.{and_parts, eqb-true}
use Rattle.std.proofs.lemmas.List.{drop-append-le, take-append-le, length-drop, length-take}
use Rattle.std.proofs.lemmas.List.Sums.{sum_by-append, sum_by-cons}
use Rattle.starlark_grammar.specs.Words.{Text}
use Rattle.starlark_grammar.specs.Tokens.{Lexeme, moved}
use Rattle.starlark_grammar.specs.Margins.{is_blank, is_lf, blanks_len, lines, is_comment_only, comment_of, comments_from, comment_lines, comment_part, margin_from, Margin, margin_of, margin_len}
use Rattle.starlark_grammar.proofs.Reading.Steps.{lines_len}

-- the text is empty, or its last byte is an LF
abbrev pub has_whole_lines : Text → Bool
has_whole_lines [] = true
has_whole_lines (b ∷ []) = is_lf b
has_whole_lines (b ∷ c ∷ bs) = has_whole_lines (c ∷ bs)

-- a line has a byte
abbrev pub is_some_line : Text → Bool
is_some_line [] = false
is_some_line (b ∷ bs) = true

no_line : (b : ℕ) (bs : Text) → lines (b ∷ bs) ≡ [] → ⊥
unfolding lines
no_line b bs = go (is_lf b) (lines bs)
  where
    go : (feed : Bool) (m : List Text) → (if feed then (b ∷ []) ∷ m else onto_first b m) ≡ [] → ⊥
    go true m e = cc
    go false [] e = cc
    go false (l ∷ m) e = cc

pub lines_append : (text more : Text) → has_whole_lines text ≡ true → lines (text ++ more) ≡ lines text ++ lines more
unfolding lines
lines_append [] more h = refl
lines_append (b ∷ []) more h = rw h refl
lines_append (b ∷ c ∷ bs) more h = go (is_lf b) (lines (c ∷ bs)) (no_line c bs) (lines_append (c ∷ bs) more h)
  where
    go : (feed : Bool) (m : List Text) → (m ≡ [] → ⊥) → lines ((c ∷ bs) ++ more) ≡ m ++ lines more
        → (if feed then (b ∷ []) ∷ lines ((c ∷ bs) ++ more) else onto_first b (lines ((c ∷ bs) ++ more))) ≡ (if feed then (b ∷ []) ∷ m else onto_first b m) ++ lines more
    go true m some e = ap (λ (ls : List Text). (b ∷ []) ∷ ls) e
    go false [] some e = absurd (some refl)
    go false (l ∷ m) some e = ap (onto_first b) e

-- a test that all pass, and one that some fails
pub while_all : {A : Type 0} (test : A → Bool) (xs ys : List A) → list_all test xs ≡ true → take_while test (xs ++ ys) ≡ xs ++ take_while test ys
while_all test [] ys h = refl
while_all test (x ∷ xs) ys h = let parts = and_parts (test x) (list_all test xs) h in rw (parts.0, one-add) (ap (λ zs. x ∷ zs) (while_all test xs ys parts.1))

while_some : {A : Type 0} (test : A → Bool) (xs ys : List A) → list_all test xs ≡ false → take_while test (xs ++ ys) ≡ take_while test xs
while_some test [] ys h = cc
while_some {A} test (x ∷ xs) ys h = go (test x) refl (while_some test xs ys)
  where
    go : (passes : Bool) → test x ≡ passes → (list_all test xs ≡ false → take_while test (xs ++ ys) ≡ take_while test xs) → take_while test ((x ∷ xs) ++ ys) ≡ take_while test (x ∷ xs)
    go true e more = let rest : list_all test xs ≡ false = rw e at h in rw (e, one-add, one-add) (ap (λ zs. x ∷ zs) (more rest))
    go false e more = rw e refl

-- the lines as long as all together
abbrev pub lines_sum : List Text → ℕ
lines_sum ls = sum_by (λ (line : Text). length line) ls

-- no line is empty
pub some_lines : (text : Text) → list_all (λ (line : Text). is_some_line line) (lines text) ≡ true
unfolding lines
some_lines [] = refl
some_lines (b ∷ bs) = go (is_lf b) (lines bs) (some_lines bs)
  where
    go : (feed : Bool) (m : List Text) → list_all (λ (line : Text). is_some_line line) m ≡ true → list_all (λ (line : Text). is_some_line line) (if feed then (b ∷ []) ∷ m else onto_first b m) ≡ true
    go true m h = h
    go false [] h = refl
    go false (l ∷ m) h = (and_parts (is_some_line l) _ h).1

-- where some line isn't a comment alone, those before it don't reach the text's end
pub while_less : (test : Text → Bool) (ls : List Text) → list_all test ls ≡ false → list_all (λ (line : Text). is_some_line line) ls ≡ true → lines_sum (take_while test ls) < lines_sum ls
while_less test [] h some = cc
while_less test (l ∷ ls) h some = go (test l) refl (while_less test ls)
  where
    line_sum : (line : Text) → is_some_line line ≡ true → 0 < length line
    line_sum [] e = cc
    line_sum (b ∷ bs) e = omega arith

    parts : (is_some_line l ≡ true) × (list_all (λ (line : Text). is_some_line line) ls ≡ true)
    parts = and_parts (is_some_line l) _ some

    go : (passes : Bool) → test l ≡ passes → (list_all test ls ≡ false → list_all (λ (line : Text). is_some_line line) ls ≡ true → lines_sum (take_while test ls) < lines_sum ls) → lines_sum (take_while test (l ∷ ls)) < lines_sum (l ∷ ls)
    go true e more =
        let rest : list_all test ls ≡ false = rw e at h in
        let less = more rest parts.1 in
        rw (e, one-add) (omega (arith, less, sum_by-cons (λ (line : Text). length line) l ls, sum_by-cons (λ (line : Text). length line) l (take_while test ls)))
    go false e more = rw e (omega (arith, line_sum l parts.0, sum_by-cons (λ (line : Text). length line) l ls))

pub whole_after : (n : ℕ) (text : Text) → has_whole_lines text ≡ true → has_whole_lines (drop n text) ≡ true
whole_after zero text h = h
whole_after (suc n) [] h = refl
whole_after (suc n) (b ∷ []) h = whole_after n [] refl
whole_after (suc n) (b ∷ c ∷ bs) h = whole_after n (c ∷ bs) h

-- the blanks of a line that isn't blank to its end
blanks_append : (b : ℕ) (bs more : Text) → has_whole_lines (b ∷ bs) ≡ true → blanks_len ((b ∷ bs) ++ more) ≡ blanks_len (b ∷ bs)
blanks_append b [] more h = let feed : b ≡ 10 = eqb-true b 10 h in rw feed refl
blanks_append b (c ∷ bs) more h = ap (λ n. cond (is_blank b) (1 + n) 0) (blanks_append c bs more h)

blanks_less : (b : ℕ) (bs : Text) → has_whole_lines (b ∷ bs) ≡ true → blanks_len (b ∷ bs) < length (b ∷ bs)
blanks_less b [] h = let feed : b ≡ 10 = eqb-true b 10 h in rw feed (omega arith)
blanks_less b (c ∷ bs) h = go (is_blank b) (blanks_less c bs h)
  where
    go : (blank : Bool) → blanks_len (c ∷ bs) < length (c ∷ bs) → cond blank (1 + blanks_len (c ∷ bs)) 0 < length (b ∷ c ∷ bs)
    go true less = omega (arith, less)
    go false less = omega arith

-- the same comment later
comment_later : (n at : ℕ) (line : Text) → comment_of (n + at) line ≡ moved n (comment_of at line)
comment_later n at line =
    let begins : n + at + blanks_len line ≡ n + (at + blanks_len line) = omega arith in
    let ends : n + at + length (comment_part line) ≡ n + (at + length (comment_part line)) = omega arith in
    rw (begins, ends) refl

comments_later : (n at : ℕ) (ls : List Text) → comments_from (n + at) ls ≡ map (moved n) (comments_from at ls)
comments_later n at [] = refl
comments_later n at (line ∷ ls) =
    let next : n + at + length line ≡ n + (at + length line) = omega arith in
    rw (comment_later n at line, next, comments_later n (at + length line) ls) refl

comments_append : (at : ℕ) (xs ys : List Text) → comments_from at (xs ++ ys) ≡ comments_from at xs ++ comments_from (at + lines_sum xs) ys
comments_append at [] ys = let same : at ≡ at + lines_sum [] = omega arith in ap (λ n. comments_from n ys) same
comments_append at (line ∷ xs) ys =
    let next : at + length line + lines_sum xs ≡ at + lines_sum (line ∷ xs) = omega (arith, sum_by-cons (λ (line : Text). length line) line xs) in
    ap (λ ls. comment_of at line ∷ ls) (comments_append (at + length line) xs ys ∙ ap (λ n. comments_from (at + length line) xs ++ comments_from n ys) next)

-- a margin after so many bytes of comment-only lines
abbrev pub margin_after : ℕ → List Lexeme → Margin → Margin
margin_after len comments margin = record { comments = comments ++ map (moved len) margin.comments; at = len + margin.at; blanks = margin.blanks; remainder = margin.remainder }

-- How the margin of a text of whole lines goes on with more text after it.
pub data Followed (text more : Text) : Type 0 where
  Whole : margin_of text ≡ record { comments = (margin_of text).comments; at = length text; blanks = []; remainder = [] } → margin_of (text ++ more) ≡ margin_after (length text) (margin_of text).comments (margin_of more) → Followed text more
  Within : 0 < length (margin_of text).remainder → margin_len (margin_of text) < length text → margin_of (text ++ more) ≡ record { comments = (margin_of text).comments; at = (margin_of text).at; blanks = (margin_of text).blanks; remainder = (margin_of text).remainder ++ more } → Followed text more

from_append : (passed : List Text) (at b : ℕ) (bs more : Text) → has_whole_lines (b ∷ bs) ≡ true
    → margin_from passed at ((b ∷ bs) ++ more) ≡ record { comments = (margin_from passed at (b ∷ bs)).comments; at = at; blanks = (margin_from passed at (b ∷ bs)).blanks; remainder = (margin_from passed at (b ∷ bs)).remainder ++ more }
from_append passed at b bs more ends =
    let less = blanks_less b bs ends in
    let taken : take (blanks_len (b ∷ bs)) ((b ∷ bs) ++ more) ≡ take (blanks_len (b ∷ bs)) (b ∷ bs) = take-append-le (blanks_len (b ∷ bs)) (b ∷ bs) more (omega (arith, less)) in
    let left : drop (blanks_len (b ∷ bs)) ((b ∷ bs) ++ more) ≡ drop (blanks_len (b ∷ bs)) (b ∷ bs) ++ more = drop-append-le (blanks_len (b ∷ bs)) (b ∷ bs) more (omega (arith, less)) in
    ap (λ n. record { comments = comments_from 0 passed; at = at; blanks = take n ((b ∷ bs) ++ more); remainder = drop n ((b ∷ bs) ++ more) }) (blanks_append b bs more ends)
    ∙ parts taken left
  where
    parts : {blanks remainder blanks' remainder' : Text} → blanks ≡ blanks' → remainder ≡ remainder' → ◌≡◌ {A = Margin} (record { comments = comments_from 0 passed; at = at; blanks = blanks; remainder = remainder }) (record { comments = comments_from 0 passed; at = at; blanks = blanks'; remainder = remainder' })
    parts e f = rw (e, f) refl

module _ (text more : Text) (whole : has_whole_lines text ≡ true) where
  private_lines : comment_lines (text ++ more) ≡ take_while is_comment_only (lines text ++ lines more)
  private_lines = ap (take_while is_comment_only) (lines_append text more whole)

  all_lines : list_all is_comment_only (lines text) ≡ true → Followed text more
  unfolding margin_of
  all_lines h =
      let here : comment_lines text ≡ lines text = ap (take_while is_comment_only) (sym (append-nil (lines text))) ∙ while_all is_comment_only (lines text) [] h ∙ append-nil (lines text) in
      let there : comment_lines (text ++ more) ≡ lines text ++ comment_lines more = private_lines ∙ while_all is_comment_only (lines text) (lines more) h in
      let len : lines_sum (comment_lines text) ≡ length text = ap lines_sum here ∙ lines_len text in
      let total : lines_sum (comment_lines (text ++ more)) ≡ length text + lines_sum (comment_lines more) = ap lines_sum there ∙ sum_by-append (λ (line : Text). length line) (lines text) (comment_lines more) ∙ ap (λ n. n + lines_sum (comment_lines more)) (lines_len text) in
      let none : drop (lines_sum (comment_lines text)) text ≡ [] = ap (λ n. drop n text) len ∙ drop-length text in
      let left : drop (lines_sum (comment_lines (text ++ more))) (text ++ more) ≡ drop (lines_sum (comment_lines more)) more = ap (λ n. drop n (text ++ more)) total ∙ drop-append-add text more (lines_sum (comment_lines more)) in
      let start : 0 + lines_sum (lines text) ≡ length text + 0 = omega (arith, lines_len text) in
      let comments : comments_from 0 (comment_lines (text ++ more)) ≡ comments_from 0 (comment_lines text) ++ map (moved (length text)) (comments_from 0 (comment_lines more)) =
      ap (comments_from 0) there ∙ comments_append 0 (lines text) (comment_lines more)
      ∙ ap (λ n. comments_from 0 (lines text) ++ comments_from n (comment_lines more)) start
      ∙ ap (λ ls. comments_from 0 (lines text) ++ ls) (comments_later (length text) 0 (comment_lines more))
      ∙ ap (λ (ls : List Text). comments_from 0 ls ++ map (moved (length text)) (comments_from 0 (comment_lines more))) (sym here) in
      Whole (rw (none, len) refl) (rw (left, total, comments) refl)

  pub some_line : list_all is_comment_only (lines text) ≡ false → Followed text more
  unfolding margin_of
  some_line h =
      let there : comment_lines (text ++ more) ≡ comment_lines text = private_lines ∙ while_some is_comment_only (lines text) (lines more) h in
      let at = lines_sum (comment_lines text) in
      let inside : at < length text = omega (arith, while_less is_comment_only (lines text) h (some_lines text), lines_len text) in
      let left : drop at (text ++ more) ≡ drop at text ++ more = drop-append-le at text more (omega arith) in
      let some : 0 < length (drop at text) = omega (arith, inside, length-drop at text) in
      let rest = go (drop at text) (comment_lines text) at (whole_after at text whole) some in
      Within rest.0 (omega (arith, rest.1, inside, length-drop at text)) (rw (there, left) rest.2)
    where
      go : (rest : Text) (passed : List Text) (at : ℕ) → has_whole_lines rest ≡ true → 0 < length rest
          → (0 < length (margin_from passed at rest).remainder) × (length (margin_from passed at rest).blanks < length rest) × (margin_from passed at (rest ++ more) ≡ record { comments = (margin_from passed at rest).comments; at = at; blanks = (margin_from passed at rest).blanks; remainder = (margin_from passed at rest).remainder ++ more })
      go [] passed at ends some = absurd (omega (arith, some))
      go (b ∷ bs) passed at ends some = let less = blanks_less b bs ends in (omega (arith, less, length-drop (blanks_len (b ∷ bs)) (b ∷ bs)), omega (arith, less, length-take (blanks_len (b ∷ bs)) (b ∷ bs)), from_append passed at b bs more ends)

  pub followed : Followed text more
  followed = go (list_all is_comment_only (lines text)) refl
    where
      go : (all : Bool) → list_all is_comment_only (lines text) ≡ all → Followed text more
      go true h = all_lines h
      go false h = some_line h
