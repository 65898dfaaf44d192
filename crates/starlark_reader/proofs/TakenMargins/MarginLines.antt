-- Margins, line by line.
use Rattle.std.proofs.Common.{◌≡◌, ℕ, zero, suc, ◌+◌, ◌-◌, ◌≤◌, ◌<◌, Bool, true, false, cond, not, List, [], ◌∷◌, ◌++◌, length, take, drop, refl, ap, ◌∙◌, sym, subst, nat_eq, arith, one-add, zero-add, get_or, rules}
use Rattle.std.specs.Prelude.{◌==◌, ◌&&◌, if◌then◌else◌, min, nat_lt, take_while}
use Rattle.starlark_words.specs.Inner.LineFronts.{is_in_front}
use Rattle.std.specs.List.{prefix_len, onto_first, AllByRecursion}
use Rattle.std.proofs.lemmas.Bool.{false≢true, ltb-false, ltb-true}
use Rattle.std.proofs.lemmas.Bool.Decides.{nat_tests}
use Rattle.std.proofs.lemmas.List.{drop_all, length-drop, length-take-le, take_all}
use Rattle.std.proofs.lemmas.List.Folds.{length-prefix_len}
use Rattle.std.proofs.lemmas.List.Sums.{sum_by-cons, prefix_len-le-length, prefix_len_passes}
use Rattle.starlark_grammar.specs.Words.{Text}
use Rattle.starlark_grammar.specs.Margins.{is_blank, is_lf, blanks_len, lines, begins_comment, is_comment_only, comment_lines, is_content, margin_of}
use Rattle.starlark_reader.specs.Inner.MarginViews.{IsBlanks, IsMargin}
use Rattle.starlark_reader.specs.declared.margins.Margin.{Margin}
use Rattle.starlark_grammar.proofs.Lists.{drop-sum}
use Rattle.starlark_grammar.proofs.Order.OrderedLexemes.{Split, first_line, lines_sum}
use Rattle.starlark_reader.specs.Inner.Pending.{IsComments}
use Rattle.starlark_reader.proofs.TakenMargins.Blanks.{at_front, blanks_margin}

abbrev pub is_other : ℕ → Bool
is_other b = not (is_lf b)

-- The first line

-- up to an LF
pub line_to_feed : (text : Text) → prefix_len is_other text < length text → lines text ≡ take (suc (prefix_len is_other text)) text ∷ lines (drop (suc (prefix_len is_other text)) text)
unfolding lines
line_to_feed [] h = absurd (omega (arith, h))
line_to_feed (b ∷ bs) h = go (is_lf b) refl h (line_to_feed bs)
  where
    go : (feed : Bool) → is_lf b ≡ feed → cond (not feed) (1 + prefix_len is_other bs) 0 < suc (length bs)
        → (prefix_len is_other bs < length bs → lines bs ≡ take (suc (prefix_len is_other bs)) bs ∷ lines (drop (suc (prefix_len is_other bs)) bs))
        → (if feed then (b ∷ []) ∷ lines bs else onto_first b (lines bs)) ≡ take (suc (cond (not feed) (1 + prefix_len is_other bs) 0)) (b ∷ bs) ∷ lines (drop (suc (cond (not feed) (1 + prefix_len is_other bs) 0)) (b ∷ bs))
    go true e h more = refl
    go false e h more = rw one-add (ap (onto_first b) (more (omega (arith, h))))

-- up to the text's end
pub line_to_end : (b : ℕ) (bs : Text) → length (b ∷ bs) ≤ prefix_len is_other (b ∷ bs) → lines (b ∷ bs) ≡ (b ∷ bs) ∷ []
unfolding lines
line_to_end b [] h = go (is_lf b) h
  where
    go : (feed : Bool) → 1 ≤ cond (not feed) (1 + prefix_len is_other []) 0 → (if feed then (b ∷ []) ∷ [] else onto_first b []) ≡ (b ∷ []) ∷ []
    go true h = refl
    go false h = refl
line_to_end b (c ∷ cs) h = go (is_lf b) h (line_to_end c cs)
  where
    go : (feed : Bool) → suc (length (c ∷ cs)) ≤ cond (not feed) (1 + prefix_len is_other (c ∷ cs)) 0
        → (length (c ∷ cs) ≤ prefix_len is_other (c ∷ cs) → lines (c ∷ cs) ≡ (c ∷ cs) ∷ [])
        → (if feed then (b ∷ []) ∷ lines (c ∷ cs) else onto_first b (lines (c ∷ cs))) ≡ (b ∷ c ∷ cs) ∷ []
    go true h more = absurd (omega (arith, h))
    go false h more = ap (onto_first b) (more (omega (arith, h)))

-- The first comment-only line

blank_other : (b : ℕ) → is_blank b ≡ true → is_lf b ≡ false
blank_other b h = grind (arith, nat_tests)

-- blanks before a line are a part of it
after_blanks : (text : Text) (n : ℕ) (rest : List Text) → lines (drop (blanks_len text) text) ≡ take n (drop (blanks_len text) text) ∷ rest → lines text ≡ take (blanks_len text + n) text ∷ rest
unfolding lines
after_blanks [] n rest h = rw zero-add h
after_blanks (b ∷ bs) n rest h = go (is_blank b) refl h (after_blanks bs n rest)
  where
    go : (blank : Bool) → is_blank b ≡ blank → lines (drop (cond blank (1 + blanks_len bs) 0) (b ∷ bs)) ≡ take n (drop (cond blank (1 + blanks_len bs) 0) (b ∷ bs)) ∷ rest
        → (lines (drop (blanks_len bs) bs) ≡ take n (drop (blanks_len bs) bs) ∷ rest → lines bs ≡ take (blanks_len bs + n) bs ∷ rest)
        → lines (b ∷ bs) ≡ take (cond blank (1 + blanks_len bs) 0 + n) (b ∷ bs) ∷ rest
    go false e h more = rw zero-add h
    go true e h more =
        let one : 1 + blanks_len bs + n ≡ suc (blanks_len bs + n) = omega arith in
        rw (blank_other b e, one) (ap (onto_first b) (more (rw one-add at h)))

-- no blank is the LF that ends the line
feed_after_blanks : (text : Text) → blanks_len text + prefix_len is_other (drop (blanks_len text) text) ≡ prefix_len is_other text
feed_after_blanks [] = refl
feed_after_blanks (b ∷ bs) = go (is_blank b) refl (feed_after_blanks bs)
  where
    go : (blank : Bool) → is_blank b ≡ blank → blanks_len bs + prefix_len is_other (drop (blanks_len bs) bs) ≡ prefix_len is_other bs
        → cond blank (1 + blanks_len bs) 0 + prefix_len is_other (drop (cond blank (1 + blanks_len bs) 0) (b ∷ bs)) ≡ prefix_len is_other (b ∷ bs)
    go false e more = zero-add _
    go true e more =
        let one : 1 + blanks_len bs ≡ suc (blanks_len bs) = omega arith in
        rw (blank_other b e, one) (omega (arith, more))

-- the length of a line without its LF, after its blanks were counted
pub feed_measured : (text remainder : Text) (k n : ℕ) → k ≡ blanks_len text → remainder ≡ drop k text → n ≡ prefix_len is_other remainder → k + n ≡ prefix_len is_other text
feed_measured text remainder k n e f h = omega (arith, e, h ∙ ap (prefix_len is_other) (f ∙ ap (λ i. drop i text) e), feed_after_blanks text)

-- a line that is cut off after its blanks
cut_blanks : (text : Text) (n : ℕ) → drop (blanks_len (take (blanks_len text + suc n) text)) (take (blanks_len text + suc n) text) ≡ take (suc n) (drop (blanks_len text) text)
cut_blanks [] n = rw zero-add refl
cut_blanks (b ∷ bs) n = go (is_blank b) refl (cut_blanks bs n)
  where
    go : (blank : Bool) → is_blank b ≡ blank → drop (blanks_len (take (blanks_len bs + suc n) bs)) (take (blanks_len bs + suc n) bs) ≡ take (suc n) (drop (blanks_len bs) bs)
        → drop (blanks_len (take (cond blank (1 + blanks_len bs) 0 + suc n) (b ∷ bs))) (take (cond blank (1 + blanks_len bs) 0 + suc n) (b ∷ bs)) ≡ take (suc n) (drop (cond blank (1 + blanks_len bs) 0) (b ∷ bs))
    go false e more = rw (zero-add, e) refl
    go true e more =
        let one : 1 + blanks_len bs + suc n ≡ suc (blanks_len bs + suc n) = omega arith in
        let inner : 1 + blanks_len (take (blanks_len bs + suc n) bs) ≡ suc (blanks_len (take (blanks_len bs + suc n) bs)) = omega arith in
        let outer : 1 + blanks_len bs ≡ suc (blanks_len bs) = omega arith in
        rw (one, e, inner, outer) more

begins_taken : (n : ℕ) (text : Text) → begins_comment text ≡ true → begins_comment (take (suc n) text) ≡ true
begins_taken n [] h = h
begins_taken n (b ∷ bs) h = h

pub first_comment : (text : Text) (n : ℕ) → begins_comment (drop (blanks_len text) text) ≡ true
    → (0 < length (drop (blanks_len text) text) → lines (drop (blanks_len text) text) ≡ take n (drop (blanks_len text) text) ∷ lines (drop n (drop (blanks_len text) text)))
    → n ≤ length (drop (blanks_len text) text) → (comment_lines text ≡ take (blanks_len text + n) text ∷ comment_lines (drop (blanks_len text + n) text)) × (0 < blanks_len text + n) × (blanks_len text + n ≤ length text)
first_comment text zero h line inside = absurd (omega (arith, ap (λ (ls : List Text). length ls) (line (some (drop (blanks_len text) text) h))))
  where
    some : (t : Text) → begins_comment t ≡ true → 0 < length t
    some [] e = cc
    some (b ∷ bs) e = omega arith
first_comment text (suc n) h line inside =
    let k = blanks_len text in
    let there : 0 < length (drop k text) = omega (arith, inside) in
    let all = after_blanks text (suc n) (lines (drop (suc n) (drop k text))) (line there) ∙ ap (λ (t : Text). take (k + suc n) text ∷ lines t) (sym (drop-sum k (suc n) text)) in
    (ap (take_while is_comment_only) all ∙ rw (ap begins_comment (cut_blanks text n) ∙ begins_taken n (drop k text) h, one-add) refl, omega arith, omega (arith, inside, there, length-drop k text))

-- a comment at the start of a line is one at the start of the text
pub comment_front : (line rest : Text) → is_comment_only line ≡ true → begins_comment (drop (blanks_len (line ++ rest)) (line ++ rest)) ≡ true
comment_front [] rest h = cc
comment_front (b ∷ bs) rest h = go (is_blank b) h (comment_front bs rest)
  where
    go : (blank : Bool) → begins_comment (drop (cond blank (1 + blanks_len bs) 0) (b ∷ bs)) ≡ true → (is_comment_only bs ≡ true → begins_comment (drop (blanks_len (bs ++ rest)) (bs ++ rest)) ≡ true)
        → begins_comment (drop (cond blank (1 + blanks_len (bs ++ rest)) 0) (b ∷ (bs ++ rest))) ≡ true
    go true h more = rw one-add (more (rw one-add at h))
    go false h more = h

pub no_comment : (text : Text) → begins_comment (drop (blanks_len text) text) ≡ false → comment_lines text ≡ []
no_comment text h = go (lines text) refl
  where
    go : (ls : List Text) → lines text ≡ ls → take_while is_comment_only ls ≡ []
    go [] e = refl
    go (line ∷ more) e = other (is_comment_only line) refl
      where
        split : Split text line more
        split = first_line text line more e

        other : (passes : Bool) → is_comment_only line ≡ passes → take (cond passes (1 + prefix_len is_comment_only more) 0) (line ∷ more) ≡ []
        other false k = refl
        other true k =
            let begins : begins_comment (drop (blanks_len text) text) ≡ true = subst (λ (t : Text). begins_comment (drop (blanks_len t) t) ≡ true) (sym split.whole) (comment_front line split.rest k) in
            cc

-- the first line is all of the text
pub line_whole : (text : Text) (len : ℕ) → len ≡ prefix_len is_other text → 0 < length text → length text ≤ len → lines text ≡ take len text ∷ lines (drop len text)
unfolding lines
line_whole [] len e some h = absurd (omega (arith, some))
line_whole (b ∷ bs) len e some h = rw (take_all len (b ∷ bs) h, drop_all len (b ∷ bs) h) (line_to_end b bs (omega (arith, h, e)))

-- the length of the first line, by that of the line without its LF
pub line_cut : (text : Text) (feed n : ℕ) → feed ≡ prefix_len is_other text → n ≡ min (feed + 1) (length text) → (0 < length text → lines text ≡ take n text ∷ lines (drop n text)) × (n ≤ length text)
line_cut text feed n e cut = (go (nat_lt feed (length text)) refl, omega (arith, cut))
  where
    go : (less : Bool) → nat_lt feed (length text) ≡ less → 0 < length text → lines text ≡ take n text ∷ lines (drop n text)
    go true h some =
        let shorter : feed < length text = ltb-true feed (length text) h in
        let is : n ≡ suc (prefix_len is_other text) = omega (arith, cut, shorter, e) in
        rw is (line_to_feed text (omega (arith, e, shorter)))
    go false h some =
        let longer : length text ≤ feed = ltb-false feed (length text) h in
        let is : n ≡ feed = omega (arith, cut, longer, e, prefix_len-le-length is_other text) in
        line_whole text n (is ∙ e) some (omega (arith, is, longer))

-- the bytes before the first LF
pub feed_value : (text : Text) → prefix_len (is_in_front 10) text ≡ prefix_len is_other text
feed_value text i = prefix_len (λ b. same (b == 10) i) text
  where
    same : (x : Bool) → (not x && not x) ≡ not x
    same true = refl
    same false = refl

-- One pass over a margin

-- the first `at` bytes of a text are comment-only lines
pub record ArePassed (text : Text) (at : ℕ) : Type 0 where
  pub inside : at ≤ length text
  pub total : at + lines_sum (comment_lines (drop at text)) ≡ lines_sum (comment_lines text)

pub none_passed : (text : Text) → ArePassed text 0
none_passed text = record { inside = omega arith; total = zero-add _ }

pub one_passed : (text line remainder : Text) (at feed n : ℕ) (found : Margin) → ArePassed text at → line ≡ drop at text → IsBlanks (take (blanks_len line) line) found → remainder ≡ drop found.blanks line → begins_comment remainder ≡ true
    → feed ≡ prefix_len (is_in_front 10) remainder → n ≡ min (feed + 1) (length remainder) → (at < at + (found.blanks + n)) × ArePassed text (at + (found.blanks + n))
one_passed text line remainder at feed n found passed e same f h is cut =
    let split = (line_cut remainder feed n (is ∙ feed_value remainder) cut).0 in
    let inside = (line_cut remainder feed n (is ∙ feed_value remainder) cut).1 in
    let len : found.blanks ≡ blanks_len line = same.len ∙ length-prefix_len is_blank line in
    let there : remainder ≡ drop (blanks_len line) line = f ∙ ap (λ i. drop i line) len in
    let first = first_comment line n (subst (λ (t : Text). begins_comment t ≡ true) there h) (subst (λ (t : Text). 0 < length t → lines t ≡ take n t ∷ lines (drop n t)) there split) (subst (λ (t : Text). n ≤ length t) there inside) in
    let sum : lines_sum (comment_lines line) ≡ length (take (blanks_len line + n) line) + lines_sum (comment_lines (drop (blanks_len line + n) line)) =
    ap lines_sum first.0 ∙ sum_by-cons (λ (line : Text). length line) (take (blanks_len line + n) line) (comment_lines (drop (blanks_len line + n) line)) in
    let rest : drop (at + (found.blanks + n)) text ≡ drop (blanks_len line + n) line = drop-sum at (found.blanks + n) text ∙ ap (λ (t : Text). drop (found.blanks + n) t) (sym e) ∙ ap (λ i. drop (i + n) line) len in
    let after_sum : lines_sum (comment_lines (drop (at + (found.blanks + n)) text)) ≡ lines_sum (comment_lines (drop (blanks_len line + n) line)) = ap (λ (t : Text). lines_sum (comment_lines t)) rest in (
      omega (arith, first.1, len),
      record {
        inside = omega (arith, first.2, len, ap (λ (t : Text). length t) e ∙ length-drop at text, passed.inside);
        total = omega (arith, after_sum, len, length-take-le (blanks_len line + n) line first.2, sum, ap (λ (t : Text). at + lines_sum (comment_lines t)) e ∙ passed.total);
      },
    )

-- a comment-only line that has no blanks in front
pub front_passed : (text line : Text) (at feed n : ℕ) → ArePassed text at → line ≡ drop at text → begins_comment line ≡ true
    → feed ≡ prefix_len (is_in_front 10) line → n ≡ min (feed + 1) (length line) → (at < at + n) × ArePassed text (at + n)
front_passed text line at feed n passed e h is cut = rw zero-add at (one_passed text line line at feed n none passed e (no_blanks line h) refl h is cut)
  where
    none : Margin
    none = blanks_margin 0 0 false

    no_blank : (b : ℕ) → begins_comment (b ∷ []) ≡ true → is_blank b ≡ false
    no_blank b k = grind (arith, nat_tests)

    no_blanks : (line : Text) → begins_comment line ≡ true → IsBlanks (take (blanks_len line) line) (blanks_margin 0 0 false)
    no_blanks [] k = absurd (false≢true k)
    no_blanks (b ∷ bs) k = let other : is_blank b ≡ false = no_blank b k in rw other (record { len = refl; width = refl; has_tab = refl })

pub last_passed : (text line remainder : Text) (at : ℕ) (found : Margin) (content : Bool) → ArePassed text at → line ≡ drop at text → IsBlanks (take (blanks_len line) line) found → remainder ≡ drop found.blanks line → begins_comment remainder ≡ false → content ≡ is_content remainder
    → IsMargin (margin_of text) (record found { at = at; is_content = content })
unfolding margin_of
last_passed text line remainder at found content passed e same f h is =
    let blanks : IsBlanks (take (blanks_len line) line) (record found { at = at; is_content = content }) = record { len = same.len; width = same.width; has_tab = same.has_tab } in
    search (rules, blanks, length-prefix_len, no_comment, lines_sum)

-- a comment has a byte before its line's LF
-- the spaces at the start of a text that are after an offset
pub spaces_after : (text : Text) (spaces at : ℕ) → spaces ≤ prefix_len (nat_eq 32) text → spaces - at ≤ prefix_len (nat_eq 32) (drop at text)
spaces_after text spaces zero known = omega (arith, known)
spaces_after [] spaces (suc n) known = omega (arith, known)
spaces_after (b ∷ bs) spaces (suc n) known = go (nat_eq 32 b) known (λ few. spaces_after bs (spaces - 1) n few)
  where
    go : (space : Bool) → spaces ≤ cond space (1 + prefix_len (nat_eq 32) bs) 0 → (spaces - 1 ≤ prefix_len (nat_eq 32) bs → spaces - 1 - n ≤ prefix_len (nat_eq 32) (drop n bs)) → spaces - suc n ≤ prefix_len (nat_eq 32) (drop n bs)
    go true h more = omega (arith, more (omega (arith, h)))
    go false h more = omega (arith, h)

-- where a comment begins, all of them are before
pub spaces_before : (text : Text) (spaces at : ℕ) → spaces ≤ prefix_len (nat_eq 32) text → begins_comment (drop at text) ≡ true → spaces ≤ at
spaces_before text spaces at known begins = omega (arith, spaces_after text spaces at known, none (drop at text) begins)
  where
    none : (rest : Text) → begins_comment rest ≡ true → prefix_len (nat_eq 32) rest ≡ 0
    none [] e = cc
    none (b ∷ bs) e = let no : nat_eq 32 b ≡ false = grind (arith, nat_tests) in rw no refl

pub comment_some : (text : Text) → begins_comment text ≡ true → 0 < prefix_len is_other text
comment_some [] e = absurd (false≢true e)
comment_some (b ∷ rest) e = let other : is_other b ≡ true = no_feed b e in rw other (omega arith)
  where
    no_feed : (b : ℕ) → begins_comment (b ∷ []) ≡ true → is_other b ≡ true
    no_feed b e = grind (arith, nat_tests)

-- the blanks go on after a byte that is no `#`
pub blank_before : (text : Text) (n : ℕ) → begins_comment (drop (blanks_len text) text) ≡ true → n ≤ blanks_len text → n < length text → (get_or text n 0 ≡ 35 → ⊥) → n + 1 ≤ blanks_len text
blank_before text n begins few inside other = omega (arith, few, unlike)
  where
    byte : (b : ℕ) (bs : Text) → begins_comment (b ∷ bs) ≡ true → b ≡ 35
    byte b bs h = grind (arith, nat_tests)

    unlike : n ≡ blanks_len text → ⊥
    unlike e =
        other (byte (get_or text n 0) (drop (n + 1) text) (sym (ap begins_comment (at_front text n (get_or text n 0) inside refl)) ∙ (ap (λ i. begins_comment (drop i text)) e ∙ begins)))

-- the blanks end at the first `#`
pub blanks_end : (text : Text) (n : ℕ) → n ≤ blanks_len text → (n < length text → get_or text n 0 ≡ 35) → n ≡ blanks_len text
blanks_end text n few hash = omega (arith, few, all)
  where
    no_blank : (b : ℕ) → b ≡ 35 → is_blank b ≡ true → ⊥
    no_blank b e h = grind (arith, nat_tests)

    all : n < blanks_len text → ⊥
    all less = no_blank (get_or text n 0) (hash (omega (arith, less, prefix_len-le-length is_blank text))) (prefix_len_passes is_blank text n 0 less)

some_lines : (b : ℕ) (bs : Text) → lines (b ∷ bs) ≡ [] → ⊥
unfolding lines
some_lines b bs e = go (is_lf b) (lines bs) e
  where
    go : (feed : Bool) (m : List Text) → (if feed then (b ∷ []) ∷ m else onto_first b m) ≡ [] → ⊥
    go true m h = cc
    go false [] h = cc
    go false (l ∷ m) h = cc

-- the first of some comment-only lines has a comment after its blanks
pub begins_here : (text : Text) (from to : ℕ) → IsComments text from to → from < to → begins_comment (drop (blanks_len (take (to - from) (drop from text))) (take (to - from) (drop from text))) ≡ true
begins_here text from to are some = go (take (to - from) (drop from text)) long are.comments
  where
    long : 0 < length (take (to - from) (drop from text))
    long = omega (arith, some, are.inside, length-take-le (to - from) (drop from text) (omega (arith, are.inside, length-drop from text)))

    first : (here : Text) (ls : List Text) → lines here ≡ ls → 0 < length here → AllByRecursion (λ (line : Text). is_comment_only line ≡ true) ls → begins_comment (drop (blanks_len here) here) ≡ true
    first [] [] e h k = absurd (omega (arith, h))
    first (b ∷ bs) [] e h k = absurd (some_lines b bs e)
    first here (line ∷ more) e h k =
        let split : Split here line more = first_line here line more e in
        subst (λ (t : Text). begins_comment (drop (blanks_len t) t) ≡ true) (sym split.whole) (comment_front line split.rest k.0)

    go : (here : Text) → 0 < length here → AllByRecursion (λ (line : Text). is_comment_only line ≡ true) (lines here) → begins_comment (drop (blanks_len here) here) ≡ true
    go here h k = first here (lines here) refl h k
