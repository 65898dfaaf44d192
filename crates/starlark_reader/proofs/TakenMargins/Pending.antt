-- Comments of the lines of a text between two offsets.
use Rattle.std.proofs.Common.{◌≡◌, ℕ, suc, ◌+◌, ◌-◌, ◌≤◌, ◌<◌, Bool, true, false, cond, [], ◌∷◌, length, take, drop, get_or, refl, ap, ◌∙◌, sym, arith, zero, List, ◌++◌, map, subst, one-add}
use Rattle.std.specs.Prelude.{◌==◌, if◌then◌else◌, take_while}
use Rattle.std.specs.List.{prefix_len, onto_first, AllByRecursion}
use Rattle.std.specs.Str.{IsUtf8, IsCharBoundary}
use Rattle.std.proofs.lemmas.Bool.{eqb-true}
use Rattle.std.proofs.lemmas.List.{get_or-take, drop-take, get_or-drop, get_or-take, length-take-le, take-take, length-drop}
use Rattle.std.proofs.lemmas.List.Sums.{prefix_len-le-length, sum_by-cons}
use Rattle.std.proofs.lemmas.Str.{IsCharBoundary-after_ascii, IsUtf8-drop}
use Rattle.starlark_grammar.specs.Words.{Text}
use Rattle.starlark_grammar.specs.Margins.{begins_comment, blanks_len, comment_lines, comment_of, comment_part, comments_from, is_comment_only, margin_of, without_return, is_blank, is_lf, lines}
use Rattle.starlark_token.specs.Lexemes.{shown_lexeme}
use Rattle.starlark_reader.specs.Inner.Pending.{comment_lexeme, IsComments, lines_between}
use Rattle.starlark_grammar.proofs.Found.CommentEnds.{return_less}
use Rattle.starlark_grammar.proofs.Lists.{drop-sum, take_fits}
use Rattle.starlark_reader.proofs.TakenMargins.MarginLines.{is_other}
use Rattle.starlark_grammar.proofs.Order.OrderedLexemes.{comment_spans, part_len, lines_sum}
use Rattle.std.proofs.Math.Seq.{take-add, take-append_seam, drop-append_seam}
use Rattle.starlark_grammar.specs.Tokens.{moved}
use Rattle.starlark_grammar.specs.Laws.{AtBoundaries}
use Rattle.starlark_grammar.proofs.Order.Boundaries.{margin_edges}
use Rattle.starlark_grammar.proofs.Order.Edges.{boundary_shift, edges_shift}

-- The end of a comment

returned : (t : Text) → length (without_return t) ≡ cond (get_or t (length t - 1) 0 == 13) (length t - 1) (length t)
returned [] = refl
returned (b ∷ []) = go (b == 13)
  where
    go : (test : Bool) → length (if test then [] else b ∷ []) ≡ cond test 0 1
    go true = refl
    go false = refl
returned (b ∷ c ∷ t) =
    let here : suc (suc (length t)) - 1 ≡ suc (length t) = omega arith in
    let there : suc (length t) - 1 ≡ length t = omega arith in
    rw here (ap suc (returned (c ∷ t)) ∙ rw there (go (get_or (c ∷ t) (length t) 0 == 13)))
  where
    go : (test : Bool) → suc (cond test (length t) (suc (length t))) ≡ cond test (suc (length t)) (suc (suc (length t)))
    go true = refl
    go false = refl

pub part_end : (line : Text) (len : ℕ) (test : Bool) → len ≡ prefix_len is_other line → 0 < len → (get_or line (len - 1) 0 == 13) ≡ test → cond test (len - 1) len ≡ length (comment_part line)
part_end line len test e some h =
    let front = take len line in
    let whole : length front ≡ len = length-take-le len line (omega (arith, e, prefix_len-le-length is_other line)) in
    let last : (get_or front (length front - 1) 0 == 13) ≡ test = ap (λ n. get_or front (n - 1) 0 == 13) whole ∙ ap (λ b. b == 13) (get_or-take len line (len - 1) 0 (omega (arith, some))) ∙ h in
    sym (ap (λ (t : Text). length (without_return t)) (sym (ap (λ n. take n line) e)) ∙ returned front ∙ ap (λ b. cond b (length front - 1) (length front)) last ∙ ap (λ n. cond test (n - 1) n) whole)

-- The value of a comment

front_taken : (t : Text) → without_return t ≡ take (length (without_return t)) t
front_taken [] = refl
front_taken (b ∷ []) = go (b == 13)
  where
    go : (test : Bool) → (if test then [] else b ∷ []) ≡ take (length (if test then [] else b ∷ [])) (b ∷ [])
    go true = refl
    go false = refl
front_taken (b ∷ c ∷ t) = ap (λ (s : Text). b ∷ s) (front_taken (c ∷ t))

-- the comment's part of a line ends before its LF
pub part_before_feed : (line : Text) → length (comment_part line) ≤ prefix_len is_other line
part_before_feed line = omega (arith, return_less (take (prefix_len is_other line) line), (take_fits (prefix_len is_other line) line).1)

-- the comment's part of a line is at its start
part_taken : (line : Text) → comment_part line ≡ take (length (comment_part line)) line
part_taken line = front_taken (take (prefix_len is_other line) line) ∙ take-take (length (comment_part line)) (prefix_len is_other line) line (part_before_feed line)

-- a line of a text
abbrev line_at : Text → ℕ → ℕ → Text
line_at text at len = take len (drop at text)

pub comment_value : (text : Text) (at len from to : ℕ) → is_comment_only (line_at text at len) ≡ true → from ≡ at + blanks_len (line_at text at len) + 1 → to ≡ at + length (comment_part (line_at text at len))
    → take (to - from) (drop from text) ≡ drop (suc (blanks_len (line_at text at len))) (comment_part (line_at text at len))
comment_value text at len from to h e f =
    let line = line_at text at len in
    let k = blanks_len line in
    let n = length (comment_part line) in
    let less : k < n = comment_spans line h in
    let inside : n ≤ len = omega (arith, part_len line, (take_fits len (drop at text)).1) in
    let rest : ℕ = n - suc k in
    let whole : n ≡ suc k + rest = omega (arith, less) in
    let count : to - from ≡ rest = omega (arith, e, f, less) in
    let place : from ≡ at + suc k = omega (arith, e) in
    let part : comment_part line ≡ take (suc k + rest) (drop at text) = part_taken line ∙ take-take n len (drop at text) inside ∙ ap (λ i. take i (drop at text)) whole in
    sym (ap (drop (suc k)) part ∙ drop-take (suc k) rest (drop at text) ∙ ap (take rest) (sym (drop-sum at (suc k) text)) ∙ ap (λ i. take rest (drop i text)) (sym place) ∙ ap (λ i. take i (drop from text)) (sym count))

-- a character boundary is after the `#` that begins the comment
pub comment_begin : (text : Text) (at len from : ℕ) → IsUtf8 text → at + len ≤ length text → is_comment_only (line_at text at len) ≡ true → from ≡ at + blanks_len (line_at text at len) → IsCharBoundary text (from + 1)
comment_begin text at len from utf8 inside h e =
    let line = line_at text at len in
    let k = blanks_len line in
    let within : k < len = omega (arith, comment_spans line h, part_len line, (take_fits len (drop at text)).1) in
    let same : get_or text from 0 ≡ 35 =
    ap (λ i. get_or text i 0) e ∙ sym (get_or-drop at text k 0) ∙ sym (get_or-take len (drop at text) k 0 within) ∙ ap (λ i. get_or line i 0) no_more ∙ sym (get_or-drop k line 0 0) ∙ mark (drop k line) h in
    IsCharBoundary-after_ascii text from utf8 (omega (arith, e, within, inside)) (omega (arith, same))
  where
    no_more : blanks_len (line_at text at len) ≡ blanks_len (line_at text at len) + 0
    no_more = omega arith

    mark : (t : Text) → begins_comment t ≡ true → get_or t 0 0 ≡ 35
    mark [] e = cc
    mark (b ∷ bs) e = eqb-true b 35 e

pub comment_inside : (line : Text) (k n : ℕ) → is_comment_only line ≡ true → k ≡ blanks_len line → n ≡ length (comment_part line) → k + 1 ≤ n
comment_inside line k n h e f = omega (arith, comment_spans line h, e, f)

pub comment_found : (text : Text) (at k n : ℕ) (line : Text) → k ≡ blanks_len line → n ≡ length (comment_part line) → take (at + n - (at + k + 1)) (drop (at + k + 1) text) ≡ drop (suc (blanks_len line)) (comment_part line)
    → comment_lexeme text (at + k) (at + n) ≡ shown_lexeme (comment_of at line)
comment_found text at k n line e f h = rw (h, e, f) refl

-- The comments of a margin, one after another

pub margin_comments : (text : Text) → (margin_of text).comments ≡ comments_from 0 (comment_lines text)
unfolding margin_of
margin_comments text = refl

abbrev pub between : Text → ℕ → ℕ → Text
between text from to = take (to - from) (drop from text)

-- no lines
pub no_comments : (text : Text) (at : ℕ) → at ≤ length text → IsComments text at at
unfolding lines
no_comments text at inside =
    let none : at - at ≡ 0 = omega arith in
    record {
      order = omega arith;
      inside = inside;
      comments = rw none tt;
      edges = rw none tt;
    }

pub no_lines_between : (text : Text) (from to : ℕ) → to ≤ from → lines_between text from to ≡ []
unfolding lines
no_lines_between text from to none = let zero_left : to - from ≡ 0 = omega (arith, none) in rw zero_left refl

-- bytes are a line, or more
pub some_lines : (text : Text) (from to : ℕ) → from < to → to ≤ length text → lines_between text from to ≡ [] → ⊥
unfolding lines
some_lines text from to some inside none = go (take (to - from) (drop from text)) refl none
  where
    go : (t : Text) → take (to - from) (drop from text) ≡ t → lines t ≡ [] → ⊥
    go [] e h = absurd (omega (arith, some, sym (length-take-le (to - from) (drop from text) (omega (arith, length-drop from text, inside))) ∙ ap (λ (t : Text). length t) e))
    go (b ∷ bs) e h = by (is_lf b) (lines bs) h
      where
        by : (feed : Bool) (m : List Text) → (if feed then (b ∷ []) ∷ m else onto_first b m) ≡ [] → ⊥
        by true m k = cc
        by false [] k = cc
        by false (l ∷ m) k = cc

-- The first line

-- its blanks are those of all the text
blanks_front : (line rest : Text) → is_comment_only line ≡ true → blanks_len (line ++ rest) ≡ blanks_len line
blanks_front [] rest h = cc
blanks_front (b ∷ bs) rest h = go (is_blank b) h (blanks_front bs rest)
  where
    go : (blank : Bool) → begins_comment (drop (cond blank (1 + blanks_len bs) 0) (b ∷ bs)) ≡ true → (is_comment_only bs ≡ true → blanks_len (bs ++ rest) ≡ blanks_len bs)
        → cond blank (1 + blanks_len (bs ++ rest)) 0 ≡ cond blank (1 + blanks_len bs) 0
    go true h more = ap (λ n. 1 + n) (more (rw one-add at h))
    go false h more = refl

-- a run that passes a test is the same in a prefix that is long enough
passed_front : (p : ℕ → Bool) (n : ℕ) (xs : Text) → prefix_len p xs ≤ n → prefix_len p (take n xs) ≡ prefix_len p xs
passed_front p zero (x ∷ xs) h = omega (arith, h)
passed_front p (suc n) (x ∷ xs) h = go (p x) h (passed_front p n xs)
  where
    go : (passes : Bool) → cond passes (1 + prefix_len p xs) 0 ≤ suc n → (prefix_len p xs ≤ n → prefix_len p (take n xs) ≡ prefix_len p xs) → cond passes (1 + prefix_len p (take n xs)) 0 ≡ cond passes (1 + prefix_len p xs) 0
    go true h more = ap (λ n. 1 + n) (more (omega (arith, h)))
    go false h more = refl
passed_front p zero [] h = refl
passed_front p (suc n) [] h = refl

part_front : (n : ℕ) (text : Text) → prefix_len is_other text ≤ n → comment_part (take n text) ≡ comment_part text
part_front n text h =
    ap Rattle.starlark_grammar.specs.Margins.without_return (ap (λ k. take k (take n text)) (passed_front is_other n text h) ∙ take-take (prefix_len is_other text) n text h)

module _ (text : Text) (from to feed len : ℕ) (is : IsComments text from to) (some : from < to) (e : feed ≡ prefix_len is_other (between text from to))
    (split : 0 < length (between text from to) → lines (between text from to) ≡ take len (between text from to) ∷ lines (drop len (between text from to))) (inside : len ≤ length (between text from to)) (least : feed ≤ len) where
  all_len : length (between text from to) ≡ to - from
  all_len = length-take-le (to - from) (drop from text) (omega (arith, length-drop from text, is.inside))

  first_split : lines_between text from to ≡ take len (between text from to) ∷ lines (drop len (between text from to))
  first_split = split (omega (arith, all_len, some))

  pub line_is : take len (between text from to) ≡ take len (drop from text)
  line_is = take-take len (to - from) (drop from text) (omega (arith, inside, all_len))

  pub line_passes : is_comment_only (take len (drop from text)) ≡ true
  line_passes = subst (λ (t : Text). is_comment_only t ≡ true) line_is (subst (AllByRecursion (λ (line : Text). is_comment_only line ≡ true)) first_split is.comments).0

  pub line_blanks : blanks_len (between text from to) ≡ blanks_len (take len (drop from text))
  line_blanks =
      ap blanks_len (sym (Rattle.std.proofs.lemmas.List.take-append-drop len (between text from to)) ∙ ap (λ (t : Text). t ++ drop len (between text from to)) line_is)
      ∙ blanks_front (take len (drop from text)) (drop len (between text from to)) line_passes

  pub line_part : comment_part (between text from to) ≡ comment_part (take len (drop from text))
  line_part = sym (part_front len (between text from to) (omega (arith, least, e))) ∙ ap comment_part line_is

  pub line_edges : AtBoundaries text (comment_of from (take len (drop from text)))
  line_edges = subst (λ (t : Text). AtBoundaries text (comment_of from t)) line_is (subst (λ ls. AllByRecursion (AtBoundaries text) (comments_from from ls)) first_split is.edges).0

  pub line_inside : from + len ≤ to
  line_inside = omega (arith, inside, all_len, some)

  pub line_len : length (take len (drop from text)) ≡ len
  line_len = ap (λ (t : Text). length t) (sym line_is) ∙ length-take-le len (between text from to) inside

  -- the lines after the first line
  rest_is : drop len (between text from to) ≡ between text (from + len) to
  rest_is =
      let whole : to - from ≡ len + (to - (from + len)) = omega (arith, line_inside) in
      ap (λ n. drop len (take n (drop from text))) whole ∙ drop-take len (to - (from + len)) (drop from text) ∙ ap (take (to - (from + len))) (sym (drop-sum from len text))

  pub first_line : lines_between text from to ≡ take len (drop from text) ∷ lines_between text (from + len) to
  first_line = first_split ∙ ap (λ (t : Text). t ∷ lines (drop len (between text from to))) line_is ∙ ap (λ (t : Text). take len (drop from text) ∷ lines t) rest_is

  pub after_line : IsComments text (from + len) to
  after_line = record {
    order = line_inside;
    inside = is.inside;
    comments = (subst (AllByRecursion (λ (line : Text). is_comment_only line ≡ true)) first_line is.comments).1;
    edges = ap_edges (subst (λ ls. AllByRecursion (AtBoundaries text) (comments_from from ls)) first_line is.edges).1;
  }
    where
      ap_edges : AllByRecursion (AtBoundaries text) (comments_from (from + length (take len (drop from text))) (lines_between text (from + len) to)) → AllByRecursion (AtBoundaries text) (comments_from (from + len) (lines_between text (from + len) to))
      ap_edges h = subst (λ n. AllByRecursion (AtBoundaries text) (comments_from (from + n) (lines_between text (from + len) to))) line_len h

-- the lengths found in the first line, which has `len` bytes: of its blanks, and of its comment
pub record IsMeasured (text : Text) (from to k n len : ℕ) : Type 0 where
  pub passes : is_comment_only (take len (drop from text)) ≡ true
  pub blanks : k ≡ blanks_len (take len (drop from text))
  pub part : n ≡ length (comment_part (take len (drop from text)))
  pub edges : AtBoundaries text (comment_of from (take len (drop from text)))
  pub inside : from + len ≤ to
  pub whole : length (take len (drop from text)) ≡ len
  pub first : lines_between text from to ≡ take len (drop from text) ∷ lines_between text (from + len) to
  pub remainder : IsComments text (from + len) to
  pub order : k + 1 ≤ n
  pub part_inside : from + n ≤ length text

pub measured : (text : Text) (from to feed len blanks part : ℕ) → IsComments text from to → from < to → feed ≡ prefix_len is_other (between text from to)
    → (0 < length (between text from to) → lines (between text from to) ≡ take len (between text from to) ∷ lines (drop len (between text from to))) → len ≤ length (between text from to) → feed ≤ len
    → blanks ≡ blanks_len (between text from to) → part ≡ length (comment_part (between text from to)) → IsMeasured text from to blanks part len
measured text from to feed len blanks part is some e split inside least b p =
    let edges = line_edges text from to feed len is some e split inside least in
    let passes = line_passes text from to feed len is some e split inside least in
    let k : blanks ≡ blanks_len (take len (drop from text)) = b ∙ line_blanks text from to feed len is some e split inside least in
    let n : part ≡ length (comment_part (take len (drop from text))) = p ∙ ap (λ (t : Text). length t) (line_part text from to feed len is some e split inside least) in
    record {
      passes = passes;
      blanks = k;
      part = n;
      edges = edges;
      inside = line_inside text from to feed len is some e split inside least;
      whole = line_len text from to feed len is some e split inside least;
      first = first_line text from to feed len is some e split inside least;
      remainder = after_line text from to feed len is some e split inside least;
      order = comment_inside (take len (drop from text)) blanks part passes k n;
      part_inside = omega (arith, edges.1.0, n);
    }

-- The comments of a margin

-- the first line of a text, which is the first of each prefix of the text that it is in
record IsCut (text line : Text) (more : List Text) : Type 0 where
  rest : Text
  whole : text ≡ line ++ rest
  left : lines rest ≡ more
  front : (n : ℕ) → lines (line ++ take n rest) ≡ line ∷ lines (take n rest)

abbrev IsCutBy : Text → List Text → Type 0
IsCutBy text [] = text ≡ []
IsCutBy text (line ∷ more) = IsCut text line more

cut_by : (text : Text) → IsCutBy text (lines text)
unfolding lines
cut_by [] = refl
cut_by (b ∷ bs) = go (is_lf b) refl (lines bs) (cut_by bs) refl
  where
    last : (n : ℕ) → is_lf b ≡ false → lines (b ∷ take n []) ≡ (b ∷ []) ∷ lines (take n [])
    last zero f = rw f refl
    last (suc n) f = rw f refl

    go : (feed : Bool) → is_lf b ≡ feed → (m : List Text) → IsCutBy bs m → lines bs ≡ m → IsCutBy (b ∷ bs) (if feed then (b ∷ []) ∷ m else onto_first b m)
    go true f m cut k = record { rest = bs; whole = refl; left = k; front = λ n. rw f refl }
    go false f [] none k = record { rest = []; whole = ap (λ (t : Text). b ∷ t) none; left = refl; front = λ n. last n f }
    go false f (l ∷ ls) cut k = record { rest = cut.rest; whole = ap (λ (t : Text). b ∷ t) cut.whole; left = cut.left; front = λ n. rw f (ap (onto_first b) (cut.front n)) }

-- the lines of the prefix of comment-only lines are these lines
front_lines : (ls : List Text) (text : Text) → lines text ≡ ls → lines (take (lines_sum (take_while is_comment_only ls)) text) ≡ take_while is_comment_only ls
unfolding lines
front_lines [] text e = refl
front_lines (line ∷ more) text e = go (is_comment_only line) (front_lines more cut.rest cut.left)
  where
    cut : IsCut text line more
    cut = subst (IsCutBy text) e (cut_by text)

    go : (passes : Bool) → lines (take (lines_sum (take_while is_comment_only more)) cut.rest) ≡ take_while is_comment_only more
        → lines (take (lines_sum (take (cond passes (1 + prefix_len is_comment_only more) 0) (line ∷ more))) text) ≡ take (cond passes (1 + prefix_len is_comment_only more) 0) (line ∷ more)
    go false later = refl
    go true later =
        let taken = take_while is_comment_only more in
        let one : take (1 + prefix_len is_comment_only more) (line ∷ more) ≡ line ∷ taken = ap (λ n. take n (line ∷ more)) (one-add (prefix_len is_comment_only more)) in
        let sum : lines_sum (line ∷ taken) ≡ length line + lines_sum taken = sum_by-cons (λ (line : Text). length line) line taken in
        let front : take (length line + lines_sum taken) text ≡ line ++ take (lines_sum taken) cut.rest =
        ap (take (length line + lines_sum taken)) cut.whole ∙ take-add (length line) (lines_sum taken) (line ++ cut.rest)
        ∙ ap (λ (t : Text). t ++ take (lines_sum taken) (drop (length line) (line ++ cut.rest))) (take-append_seam line cut.rest)
        ∙ ap (λ (t : Text). line ++ take (lines_sum taken) t) (drop-append_seam line cut.rest) in
        ap (λ (ls : List Text). lines (take (lines_sum ls) text)) one ∙ ap (λ n. lines (take n text)) sum ∙ ap lines front ∙ cut.front (lines_sum taken) ∙ ap (λ (ls : List Text). line ∷ ls) later ∙ sym one

all_pass : (ls : List Text) → AllByRecursion (λ (line : Text). is_comment_only line ≡ true) (take_while is_comment_only ls)
all_pass [] = tt
all_pass (line ∷ more) = go (is_comment_only line) refl (all_pass more)
  where
    go : (passes : Bool) → is_comment_only line ≡ passes → AllByRecursion (λ (line : Text). is_comment_only line ≡ true) (take_while is_comment_only more)
        → AllByRecursion (λ (line : Text). is_comment_only line ≡ true) (take (cond passes (1 + prefix_len is_comment_only more) 0) (line ∷ more))
    go false e later = tt
    go true e later = rw one-add (e, later)

comments_later : (n at : ℕ) (ls : List Text) → comments_from (n + at) ls ≡ map (moved n) (comments_from at ls)
comments_later n at [] = refl
comments_later n at (line ∷ ls) =
    let next : n + at + length line ≡ n + (at + length line) = omega arith in
    let begins : n + at + blanks_len line ≡ n + (at + blanks_len line) = omega arith in
    let ends : n + at + length (comment_part line) ≡ n + (at + length (comment_part line)) = omega arith in
    rw (begins, ends, next, comments_later n (at + length line) ls) refl

-- the comment-only lines of a margin that begins at byte `begin`
pub margin_lines : (text : Text) (begin at : ℕ) → at ≡ (margin_of (drop begin text)).at → lines_between text begin (begin + at) ≡ comment_lines (drop begin text)
unfolding margin_of
margin_lines text begin at same =
    let len : begin + at - begin ≡ lines_sum (comment_lines (drop begin text)) = omega (arith, same) in
    ap (λ n. lines (take n (drop begin text))) len ∙ front_lines (lines (drop begin text)) (drop begin text) refl

-- a margin that begins at byte `begin`
module _ (text : Text) (begin at : ℕ) (utf8 : IsUtf8 text) (here : IsCharBoundary text begin) (same : at ≡ (margin_of (drop begin text)).at) where
  -- its comments
  pub margin_between : map (moved begin) (margin_of (drop begin text)).comments ≡ comments_from begin (lines_between text begin (begin + at))
  margin_between =
      let start : begin + 0 ≡ begin = omega arith in
      ap (map (moved begin)) (margin_comments (drop begin text)) ∙ sym (comments_later begin 0 (comment_lines (drop begin text))) ∙ ap (λ n. comments_from n (comment_lines (drop begin text))) start ∙ ap (comments_from begin) (sym (margin_lines text begin at same))

  pub are_comments : IsComments text begin (begin + at)
  are_comments =
      let edges = margin_edges (drop begin text) (IsUtf8-drop text begin utf8 here) in
      record {
        order = omega arith;
        inside = (boundary_shift text begin at here (subst (IsCharBoundary (drop begin text)) (sym same) edges.at)).0;
        comments = subst (AllByRecursion (λ (line : Text). is_comment_only line ≡ true)) (sym (margin_lines text begin at same)) (all_pass (lines (drop begin text)));
        edges = subst (AllByRecursion (AtBoundaries text)) margin_between (edges_shift text begin (margin_of (drop begin text)).comments here edges.comments);
      }
