-- Lexemes are in order, with nothing but gaps between them.
use Rattle.std.proofs.Common.{◌≡◌, ℕ, zero, suc, ◌+◌, ◌≤◌, ◌<◌, Bool, true, false, cond, not, List, [], ◌∷◌, ◌++◌, length, take, drop, refl, ap, ◌∙◌, sym, subst, Option, Some, None, arith, ◌⊎◌, inl, inr, nat_lt, one-add, append-nil}
use Rattle.std.specs.Prelude.{⊤, ◌&&◌, ◌==◌, if◌then◌else◌, map, sum_by, take_while, replicate, count_by}
use Rattle.std.specs.List.{prefix_len, onto_first}
use Rattle.std.specs.Str.{byte}
use Rattle.std.proofs.lemmas.Bool.{and_parts, eqb-true, not-true}
use Rattle.std.proofs.lemmas.Bool.Decides.{nat_tests}
use Rattle.std.proofs.lemmas.List.{take-append-drop, length-take-le, length-drop}
use Rattle.std.proofs.Math.Seq.{drop-append_seam}
use Rattle.std.proofs.lemmas.List.Sums.{sum_by-cons, prefix_len-le-length}
use Rattle.starlark_grammar.specs.Words as word
use Rattle.starlark_grammar.specs.Words.{Text, Quote, Kind, OfText, OfBytes, OfFString, Class, Table, class_in, language}
use Rattle.starlark_grammar.specs.Front.{longest_front}
use Rattle.starlark_grammar.specs.Numbers.{integer_of}
use Rattle.starlark_grammar.specs.Tokens.{Token, Comment, Identifier, Int, Float, Opening, Lexeme, moved, Indent, Dedent, Newline, Outcome, FStringBang, FStringEnd, FStringExprStart, FStringStart}
use Rattle.starlark_grammar.specs.Items.{Stop, Closing, Line, Ended, OpeningBrace, ClosingBrace, BadEscape, Body, body_at, body_len, body_value, closing_quotes}
use Rattle.starlark_grammar.specs.Depths.{Mode, Outside, InText, AtTop, Deeper}
use Rattle.starlark_grammar.specs.Margins.{is_blank, is_lf, blanks_len, lines, begins_comment, is_comment_only, without_return, comment_part, comments_from, comment_lines, margin_from, Margin, margin_of, margin_len, is_content, has_tab, width_of, fits, is_widest, indentation}
use Rattle.starlark_grammar.specs.Pieces.{Before, Nothing, Layout, Gap, Other, Piece, Step, Stands, Fails, Ends, Situation, token, margin_step, line_end, opening_of, more_quotes, escape_fault, literal_token, literal_by, opener, chunk_text, chunk_piece, chunk_by, chunk, terminal_token, counts, starts_zero, word_step, front_step, takes_bang, is_bang, in_code, by_mode, by_before, step_at}
use Rattle.starlark_grammar.specs.Reading.{History, nothing, after, after_all, situation, next_step, pieces_len, lexemes_along, lexemes_before, closing, outcome, outcome_after, reading_outcome}
use Rattle.starlark_grammar.specs.Longest.{IsReading, IsLongestReading}
use Rattle.starlark_grammar.specs.Gaps.{IsGap, InOrder}
use Rattle.starlark_grammar.proofs.Words.Fronts.{front_sound}
use Rattle.starlark_grammar.proofs.Lists.{take_fits, drop-sum}
use Rattle.starlark_grammar.proofs.Reading.Steps.{Each, margin_fits}
use Rattle.starlark_grammar.proofs.Reading.Onward.{last_after, longest_after, outcome_after_nothing, outcome_is, pieces_after}
use Rattle.starlark_grammar.proofs.Reading.Readings.{ends_at_end, reading_fits}
use Rattle.starlark_grammar.proofs.Order.Gaps.{gap_none, gap_shift, gap_cons, gap_first, blank_gap, feed_gap, blanks_gap, order_extend, order_append, order_shift, all_gaps, word_gap}
use Rattle.starlark_grammar.proofs.Words.Bytes.{is_plain, word_fits, language_fits}
use Rattle.starlark_grammar.proofs.Literals.Silent.{silent_gap}
use Rattle.starlark_grammar.proofs.Choices.{either}

-- Lines

-- an LF stands nowhere but at the end
abbrev pub is_line : Text → Bool
is_line [] = true
is_line (b ∷ []) = true
is_line (b ∷ c ∷ bs) = not (is_lf b) && is_line (c ∷ bs)

-- the first of a text's lines and what is left after it
pub record Split (text line : Text) (more : List Text) : Type 0 where
  pub rest : Text
  pub whole : text ≡ line ++ rest
  pub left : lines rest ≡ more
  pub one : is_line line ≡ true
  pub ended : (rest ≡ []) ⊎ ((front : Text) × (line ≡ front ++ 10 ∷ []))

no_lines : (text : Text) → lines text ≡ [] → text ≡ []
unfolding lines
no_lines [] e = refl
no_lines (b ∷ bs) e = go (is_lf b) (lines bs) e
  where
    go : (feed : Bool) (m : List Text) → (if feed then (b ∷ []) ∷ m else onto_first b m) ≡ [] → ◌≡◌ {A = Text} (b ∷ bs) []
    go true m e = cc
    go false [] e = cc
    go false (l ∷ m) e = cc

other_split : (text line line' : Text) (more more' : List Text) → line' ≡ line → more' ≡ more → Split text line' more' → Split text line more
other_split text line line' more more' e f h = subst (λ (l : Text). Split text l more) e (subst (λ (m : List Text). Split text line' m) f h)

pub first_line : (text line : Text) (more : List Text) → lines text ≡ line ∷ more → Split text line more
unfolding lines
first_line [] line more e = cc
first_line (b ∷ bs) line more e = go (is_lf b) refl (lines bs) refl (first_line bs) e
  where
    longer : (l : Text) → is_lf b ≡ false → is_line l ≡ true → is_line (b ∷ l) ≡ true
    longer [] f h = refl
    longer (c ∷ cs) f h = rw f h

    later : (l rest : Text) → (rest ≡ []) ⊎ ((front : Text) × (l ≡ front ++ 10 ∷ [])) → (rest ≡ []) ⊎ ((front : Text) × (b ∷ l ≡ front ++ 10 ∷ []))
    later l rest (inl none) = inl none
    later l rest (inr found) = inr (b ∷ found.0, ap (λ (t : Text). b ∷ t) found.1)

    go : (feed : Bool) → is_lf b ≡ feed → (m : List Text) → lines bs ≡ m → ((l : Text) (ms : List Text) → lines bs ≡ l ∷ ms → Split bs l ms) → (if feed then (b ∷ []) ∷ m else onto_first b m) ≡ line ∷ more → Split (b ∷ bs) line more
    go true f m k h e =
        let first : b ∷ [] ≡ line = cc in
        let rest : m ≡ more = cc in
        other_split (b ∷ bs) line (b ∷ []) more m first rest (record { rest = bs; whole = refl; left = k; one = refl; ended = inr ([], ap (λ c. c ∷ []) (eqb-true b 10 f)) })
    go false f [] k h e =
        let none = no_lines bs k in
        let first : b ∷ [] ≡ line = cc in
        let rest : [] ≡ more = cc in
        other_split (b ∷ bs) line (b ∷ []) more [] first rest (record { rest = bs; whole = refl; left = k; one = refl; ended = inl none })
    go false f (l ∷ m) k h e =
        let split = h l m k in
        let first : b ∷ l ≡ line = cc in
        let rest : m ≡ more = cc in
        other_split (b ∷ bs) line (b ∷ l) more m first rest (record { rest = split.rest; whole = ap (λ (t : Text). b ∷ t) split.whole; left = split.left; one = longer l f split.one; ended = later l split.rest split.ended })

-- Comment-only lines

-- a line up to its LF
abbrev before_feed : Text → Text
before_feed line = take_while (λ b. not (is_lf b)) line

part_feed : (b : ℕ) (bs : Text) → is_lf b ≡ true → comment_part (b ∷ bs) ≡ []
part_feed b bs e = rw e refl

take_more : (n b : ℕ) (bs : Text) → take (1 + n) (b ∷ bs) ≡ b ∷ take n bs
take_more n b bs = rw one-add refl

part_more : (b : ℕ) (bs : Text) → is_lf b ≡ false → comment_part (b ∷ bs) ≡ without_return (b ∷ before_feed bs)
part_more b bs e =
    let same : before_feed (b ∷ bs) ≡ b ∷ before_feed bs = rw e (take_more (prefix_len (λ b. not (is_lf b)) bs) b bs) in
    ap without_return same

-- the blanks end before the comment does
pub comment_spans : (line : Text) → is_comment_only line ≡ true → blanks_len line < length (comment_part line)
comment_spans [] h = cc
comment_spans (b ∷ bs) h = go (is_blank b) refl (is_lf b) refl h (comment_spans bs)
  where
    not_both : is_blank b ≡ true → is_lf b ≡ true → ⊥
    not_both h k = grind (arith, nat_tests)

    begun : begins_comment (b ∷ bs) ≡ true → is_lf b ≡ true → ⊥
    begun h k = grind (arith, nat_tests)

    not_return : begins_comment (b ∷ bs) ≡ true → (b == byte "\r") ≡ false
    not_return h = grind (arith, nat_tests)

    last : (t : Text) → (b == byte "\r") ≡ false → 0 < length (without_return (b ∷ t))
    last [] e = rw e (omega arith)
    last (c ∷ cs) e = omega arith

    longer : (t : Text) → prefix_len is_blank bs < length (without_return t) → 1 + prefix_len is_blank bs < length (without_return (b ∷ t))
    longer [] k = absurd (omega (arith, k))
    longer (c ∷ cs) k = omega (arith, k)

    go : (blank : Bool) → is_blank b ≡ blank → (feed : Bool) → is_lf b ≡ feed
        → begins_comment (drop (cond blank (1 + prefix_len is_blank bs) 0) (b ∷ bs)) ≡ true
        → (is_comment_only bs ≡ true → blanks_len bs < length (comment_part bs))
        → cond blank (1 + prefix_len is_blank bs) 0 < length (comment_part (b ∷ bs))
    go true e true f h more = absurd (not_both e f)
    go true e false f h more = subst (λ (t : Text). 1 + prefix_len is_blank bs < length t) (sym (part_more b bs f)) (longer (before_feed bs) (more (rw one-add at h)))
    go false e true f h more = absurd (begun h f)
    go false e false f h more = subst (λ (t : Text). 0 < length t) (sym (part_more b bs f)) (last (before_feed bs) (not_return h))

-- a byte in front, and what its part leaves
tail_more : (b : ℕ) (t remainder : Text) (n : ℕ) → IsGap remainder (length (without_return t)) n → IsGap (b ∷ remainder) (length (without_return (b ∷ t))) (suc n)
tail_more b [] remainder n gap = go (b == byte "\r") refl
  where
    blank : (b == byte "\r") ≡ true → is_blank b ≡ true
    blank h = grind (arith, nat_tests)

    go : (return : Bool) → (b == byte "\r") ≡ return → IsGap (b ∷ remainder) (length (if return then [] else b ∷ [])) (suc n)
    go true e = gap_first b remainder n (blank_gap b remainder (blank e)) gap
    go false e = gap_cons b remainder 0 n gap
tail_more b (c ∷ cs) remainder n gap = gap_cons b remainder (length (without_return (c ∷ cs))) n gap

-- after a comment its line end stands
pub comment_tail : (line rest : Text) → is_line line ≡ true → IsGap (line ++ rest) (length (comment_part line)) (length line)
comment_tail [] rest h = gap_none rest 0
comment_tail (b ∷ []) rest h = go (is_lf b) refl
  where
    go : (feed : Bool) → is_lf b ≡ feed → IsGap (b ∷ rest) (length (comment_part (b ∷ []))) 1
    go true e = subst (λ (t : Text). IsGap (b ∷ rest) (length t) 1) (sym (part_feed b [] e)) (gap_first b rest 0 (feed_gap b rest e) (gap_none rest 0))
    go false e = subst (λ (t : Text). IsGap (b ∷ rest) (length t) 1) (sym (part_more b [] e)) (tail_more b [] rest 0 (gap_none rest 0))
comment_tail (b ∷ c ∷ bs) rest h =
    let parts = and_parts (not (is_lf b)) (is_line (c ∷ bs)) h in
    let text : IsGap (b ∷ (c ∷ bs ++ rest)) (length (without_return (b ∷ before_feed (c ∷ bs)))) (suc (length (c ∷ bs))) =
    tail_more b (before_feed (c ∷ bs)) (c ∷ bs ++ rest) (length (c ∷ bs)) (comment_tail (c ∷ bs) rest parts.1) in
    subst (λ (t : Text). IsGap (b ∷ (c ∷ bs ++ rest)) (length t) (suc (length (c ∷ bs)))) (sym (part_more b (c ∷ bs) (not-true (is_lf b) parts.0))) text

pub part_len : (line : Text) → length (comment_part line) ≤ length line
part_len line =
    let taken = take_fits (prefix_len (λ b. not (is_lf b)) line) line in
    let cut = shorter (before_feed line) in
    omega (arith, cut, taken.0)
  where
    shorter : (t : Text) → length (without_return t) ≤ length t
    shorter [] = omega arith
    shorter (b ∷ []) = go (b == byte "\r")
      where
        go : (return : Bool) → length (if return then [] else b ∷ []) ≤ 1
        go true = omega arith
        go false = omega arith
    shorter (b ∷ c ∷ t) = let more = shorter (c ∷ t) in omega (arith, more)

-- Margins

abbrev pub lines_sum : List Text → ℕ
lines_sum ls = sum_by (λ (line : Text). length line) ls

-- the comments of a margin from a place on, and what follows them
comments_order : (whole : Text) (at : ℕ) (text : Text) (ls : List Text) (tail : List Lexeme) (to : ℕ) → drop at whole ≡ text → lines text ≡ ls → InOrder whole (at + lines_sum (take_while is_comment_only ls)) tail to → InOrder whole at (comments_from at (take_while is_comment_only ls) ++ tail) to
comments_order whole at text [] tail to e f h = subst (λ n. InOrder whole n tail to) same h
  where
    same : at + lines_sum [] ≡ at
    same = omega arith
comments_order whole at text (line ∷ more) tail to e f h = go (is_comment_only line) refl h (λ k. comments_order whole (at + length line) split.rest more tail to remainder split.left k)
  where
    split : Split text line more
    split = first_line text line more f

    remainder : drop (at + length line) whole ≡ split.rest
    remainder = drop-sum at (length line) whole ∙ ap (drop (length line)) (e ∙ split.whole) ∙ drop-append_seam line split.rest

    text_is : drop at whole ≡ line ++ split.rest
    text_is = e ∙ split.whole

    gap_here : (a b : ℕ) → IsGap (line ++ split.rest) a b → IsGap whole (at + a) (at + b)
    gap_here a b gap = gap_shift at whole a b (at + a) (at + b) refl refl (subst (λ (t : Text). IsGap t a b) (sym text_is) gap)

    go : (passes : Bool) → is_comment_only line ≡ passes
        → InOrder whole (at + lines_sum (take (cond passes (1 + prefix_len is_comment_only more) 0) (line ∷ more))) tail to
        → (InOrder whole (at + length line + lines_sum (take_while is_comment_only more)) tail to → InOrder whole (at + length line) (comments_from (at + length line) (take_while is_comment_only more) ++ tail) to)
        → InOrder whole at (comments_from at (take (cond passes (1 + prefix_len is_comment_only more) 0) (line ∷ more)) ++ tail) to
    go false k h again = let same : at + lines_sum [] ≡ at = omega arith in subst (λ n. InOrder whole n tail to) same h
    go true k h again =
        let spans = comment_spans line k in
        let inside = part_len line in
        let taken : take (1 + prefix_len is_comment_only more) (line ∷ more) ≡ line ∷ take_while is_comment_only more = rw one-add refl in
        let sum : lines_sum (line ∷ take_while is_comment_only more) ≡ length line + lines_sum (take_while is_comment_only more) = sum_by-cons (λ (line : Text). length line) line (take_while is_comment_only more) in
        let total : at + lines_sum (line ∷ take_while is_comment_only more) ≡ at + length line + lines_sum (take_while is_comment_only more) = omega (arith, sum) in
        let h' : InOrder whole (at + lines_sum (line ∷ take_while is_comment_only more)) tail to = subst (λ (ls : List Text). InOrder whole (at + lines_sum ls) tail to) taken h in
        let rest = again (subst (λ n. InOrder whole n tail to) total h') in
        let same : at + 0 ≡ at = omega arith in
        subst (λ (ls : List Text). InOrder whole at (comments_from at ls ++ tail) to) (sym taken) (
          omega arith,
          omega (arith, spans),
          subst (λ n. IsGap whole n (at + blanks_len line)) same (gap_here 0 (blanks_len line) (blanks_gap line split.rest)),
          order_extend whole (at + length (comment_part line)) (at + length line) _ to (omega (arith, inside)) (gap_here (length (comment_part line)) (length line) (comment_tail line split.rest split.one)) rest,
        )

-- the blanks after the comments
blanks_after : (text : Text) → IsGap text 0 (blanks_len text)
blanks_after text = subst (λ (t : Text). IsGap t 0 (blanks_len text)) (append-nil text) (blanks_gap text [])

pub margin_blanks : (passed : List Text) (at : ℕ) (text : Text) → IsGap text at (margin_len (margin_from passed at (drop at text)))
margin_blanks passed at text =
    let within = prefix_len-le-length is_blank (drop at text) in
    let taken : length (take (blanks_len (drop at text)) (drop at text)) ≡ blanks_len (drop at text) = length-take-le (blanks_len (drop at text)) (drop at text) within in
    gap_shift at text 0 (blanks_len (drop at text)) at (at + length (take (blanks_len (drop at text)) (drop at text))) (omega arith) (ap (λ n. at + n) taken) (blanks_after (drop at text))

pub margin_order : (text : Text) (tail : List Lexeme) → InOrder text (margin_of text).at tail (margin_len (margin_of text)) → InOrder text 0 ((margin_of text).comments ++ tail) (margin_len (margin_of text))
unfolding margin_of
margin_order text tail h =
    let same : 0 + lines_sum (comment_lines text) ≡ lines_sum (comment_lines text) = omega arith in
    comments_order text 0 text (lines text) tail (margin_len (margin_of text)) refl refl (subst (λ n. InOrder text n tail (margin_len (margin_of text))) (sym same) h)

pub margin_gap : (text : Text) → IsGap text (margin_of text).at (margin_len (margin_of text))
unfolding margin_of
margin_gap text = margin_blanks (comment_lines text) (lines_sum (comment_lines text)) text

dedents_order : (text : Text) (at to k : ℕ) → at ≤ to → IsGap text at to → InOrder text at (replicate k (record { begin = at; node = Dedent; end = at })) to
dedents_order text at to zero least gap = (least, gap)
dedents_order text at to (suc k) least gap = (omega arith, omega arith, gap_none text at, dedents_order text at to k least gap)

indentation_order : (levels : List ℕ) (text : Text) → InOrder text (margin_of text).at (indentation levels (margin_of text)) (margin_len (margin_of text))
unfolding indentation
indentation_order levels text = go (nat_lt 0 (width_of (margin_of text)) && is_widest (width_of (margin_of text)) levels)
  where
    margin : Margin
    margin = margin_of text

    go : (widest : Bool) → InOrder text margin.at (if widest then record { begin = margin.at; node = Indent; end = margin_len margin } ∷ [] else replicate (count_by (nat_lt (width_of margin)) levels) (record { begin = margin.at; node = Dedent; end = margin.at })) (margin_len margin)
    go true = (omega arith, omega arith, gap_none text margin.at, (omega arith, gap_none text (margin_len margin)))
    go false = dedents_order text margin.at (margin_len margin) (count_by (nat_lt (width_of margin)) levels) (omega arith) (margin_gap text)

-- Steps

abbrev pub Ordered : Text → Piece → Type 0
Ordered text piece = InOrder text 0 piece.lexemes piece.len

abbrev pub StepOrdered : Text → Step → Type 0
StepOrdered text = Each (Ordered text) (λ fault. ⊤)

-- a piece that is one lexeme leaves no gap
token_order : (text : Text) (len : ℕ) (node : Token) → StepOrdered text (token len node)
token_order text len node = (omega arith, omega arith, gap_none text 0, (omega arith, gap_none text len))

margin_step_order : (text : Text) (len : ℕ) (before : List Lexeme) (levels : List ℕ) → InOrder text 0 before len → StepOrdered text (margin_step len before levels (margin_of (drop len text)))
unfolding margin_step
margin_step_order text len before levels h =
    either (StepOrdered text) (not (is_content margin.remainder)) _ _ (layout [] (omega arith, margin_gap (drop len text)))
    (either (StepOrdered text) (has_tab margin) _ _ tt
    (either (StepOrdered text) (fits (width_of margin) levels) _ _ (layout (indentation levels margin) (indentation_order levels (drop len text))) tt))
  where
    margin : Margin
    margin = margin_of (drop len text)

    layout : (more : List Lexeme) → InOrder (drop len text) margin.at more (margin_len margin) → InOrder text 0 (before ++ map (moved len) (margin.comments ++ more)) (len + margin_len margin)
    layout more k =
        let same : len + 0 ≡ len = omega arith in
        order_append text 0 len (len + margin_len margin) before (map (moved len) (margin.comments ++ more)) h
        (subst (λ n. InOrder text n (map (moved len) (margin.comments ++ more)) (len + margin_len margin)) same
        (order_shift len text 0 (margin_len margin) (margin.comments ++ more) (margin_order (drop len text) more k)))

literal_by_order : (text : Text) (mode : Mode) (kind : Kind) (opening : Opening) (len : ℕ) (remainder : Text) (body : Body) (stop : Stop) → StepOrdered text (literal_by mode kind opening len remainder body stop)
literal_by_order text mode kind opening len remainder body Closing = token_order text (len + body_len body + length (closing_quotes opening)) (literal_token kind (body_value body))
literal_by_order text mode kind opening len remainder body (BadEscape read last) = go (len + body_len body) (drop 1 (take read (drop (body_len body) remainder)))
  where
    go : (begin : ℕ) (read : Text) → StepOrdered text (escape_fault begin read)
    go begin [] = tt
    go begin (b ∷ bs) = tt
literal_by_order text mode kind opening len remainder body Line = tt
literal_by_order text mode kind opening len remainder body Ended = tt
literal_by_order text mode kind opening len remainder body OpeningBrace = tt
literal_by_order text mode kind opening len remainder body ClosingBrace = tt

opener_order : (text : Text) (mode : Mode) (kind : Kind) (opening : Opening) (len : ℕ) (remainder : Text) → StepOrdered text (opener mode kind opening len remainder)
opener_order text mode OfFString opening len remainder = token_order text (len + more_quotes opening) (FStringStart opening)
opener_order text mode OfText opening len remainder = literal_by_order text mode OfText opening (len + more_quotes opening) (drop (more_quotes opening) remainder) (body_at (record { kind = OfText; opening = opening }) (drop (more_quotes opening) remainder)) _
opener_order text mode OfBytes opening len remainder = literal_by_order text mode OfBytes opening (len + more_quotes opening) (drop (more_quotes opening) remainder) (body_at (record { kind = OfBytes; opening = opening }) (drop (more_quotes opening) remainder)) _

chunk_piece_order : (text : Text) (body : Body) (node : Token) (len : ℕ) → (body_value body ≡ [] → IsGap text 0 (body_len body)) → StepOrdered text (chunk_piece body node len)
chunk_piece_order text body node len h = go (body_value body) h
  where
    end : ℕ
    end = body_len body + len

    stop : Lexeme
    stop = record { begin = body_len body; node = node; end = body_len body + len }

    go : (value : Text) → (value ≡ [] → IsGap text 0 (body_len body)) → InOrder text 0 (chunk_text (body_len body) value ++ stop ∷ []) end
    go [] h = (omega arith, omega arith, h refl, (omega arith, gap_none text end))
    go (b ∷ bs) h = (omega arith, omega arith, gap_none text 0, (omega arith, omega arith, gap_none text (body_len body), (omega arith, gap_none text end)))

chunk_by_order : (opening : Opening) (text : Text) (body : Body) (stop : Stop) → (body_value body ≡ [] → IsGap text 0 (body_len body)) → StepOrdered text (chunk_by opening text body stop)
chunk_by_order opening text body OpeningBrace h = chunk_piece_order text body FStringExprStart 1 h
chunk_by_order opening text body Closing h = chunk_piece_order text body FStringEnd (length (closing_quotes opening)) h
chunk_by_order opening text body ClosingBrace h = tt
chunk_by_order opening text body (BadEscape read last) h = tt
chunk_by_order opening text body Line h = tt
chunk_by_order opening text body Ended h = tt

chunk_order : (opening : Opening) (text : Text) → StepOrdered text (chunk opening text)
unfolding chunk
chunk_order opening text = chunk_by_order opening text (body_at (record { kind = OfFString; opening = opening }) text) _ (silent_gap (record { kind = OfFString; opening = opening }) text)

word_step_order : (text : Text) (s : Situation) (class : Class) (front remainder : Text) → text ≡ front ++ remainder → word_fits class front ≡ true → StepOrdered text (word_step s class front remainder)
word_step_order text s word.Skipped front remainder e fits = (omega arith, subst (λ (t : Text). IsGap t 0 (length front)) (sym e) (word_gap front remainder (and_parts (all_gaps front) (is_plain front) fits).0))
word_step_order text s word.Comment front remainder e fits = token_order text (length front) (Comment (drop 1 front))
word_step_order text s word.Tabs front remainder e fits = tt
word_step_order text s word.LineEnd front remainder e fits =
    either (StepOrdered text) (counts s.mode s.is_balanced) _ _
    (subst (λ (t : Text). StepOrdered text (line_end (length front) s.levels t)) (ap (drop (length front)) e ∙ drop-append_seam front remainder) (margin_step_order text (length front) (record { begin = 0; node = Newline; end = length front } ∷ []) s.levels (omega arith, omega arith, gap_none text 0, (omega arith, gap_none text (length front)))))
    (omega arith, subst (λ (t : Text). IsGap t 0 (length front)) (sym e) (word_gap front remainder (and_parts (all_gaps front) (is_plain front) fits).0))
word_step_order text s (word.Opener kind is_raw quote) front remainder e fits = opener_order text s.mode kind (opening_of is_raw quote remainder) (length front) remainder
word_step_order text s word.Reserved front remainder e fits = tt
word_step_order text s word.Identifier front remainder e fits = token_order text (length front) (Identifier front)
word_step_order text s word.Decimal front remainder e fits = either (StepOrdered text) (starts_zero front) _ _ tt (token_order text (length front) (Int (integer_of 10 front)))
word_step_order text s word.Hexadecimal front remainder e fits = token_order text (length front) (Int (integer_of 16 (drop 2 front)))
word_step_order text s word.Octal front remainder e fits = token_order text (length front) (Int (integer_of 8 (drop 2 front)))
word_step_order text s word.Binary front remainder e fits = token_order text (length front) (Int (integer_of 2 (drop 2 front)))
word_step_order text s word.Float front remainder e fits = token_order text (length front) (Float front)
word_step_order text s (word.Fixed terminal) front remainder e fits = token_order text (length front) (terminal_token s.mode terminal)

front_step_order : (s : Situation) (text : Text) (found : Option (Class × ℕ)) → longest_front (class_in language) text ≡ found → StepOrdered text (front_step s text found)
front_step_order s text None f = tt
front_step_order s text (Some front) f =
    let sound = front_sound (class_in language) text front.0 front.1 f in
    word_step_order text s front.0 (take front.1 text) (drop front.1 text) (sym (take-append-drop front.1 text)) (language_fits (take front.1 text) front.0 sound.2)

in_code_order : (s : Situation) (text : Text) → StepOrdered text (in_code language s text)
in_code_order s [] = tt
in_code_order s (b ∷ bs) = either (StepOrdered (b ∷ bs)) (takes_bang s.mode s.before && is_bang (b ∷ bs)) _ _ (token_order (b ∷ bs) 1 FStringBang) (front_step_order s (b ∷ bs) _ refl)

by_place_order : (s : Situation) (mode : Mode) (text : Text) → StepOrdered text (by_mode language s mode text)
by_place_order s Outside text = in_code_order s text
by_place_order s (InText opening) text = chunk_order opening text
by_place_order s AtTop text = in_code_order s text
by_place_order s Deeper text = in_code_order s text

by_before_order : (s : Situation) (before : Before) (text : Text) → StepOrdered text (by_before language s before text)
by_before_order s Nothing text = margin_step_order text 0 [] s.levels (omega arith, gap_none text 0)
by_before_order s Layout text = by_place_order s s.mode text
by_before_order s Gap text = by_place_order s s.mode text
by_before_order s Other text = by_place_order s s.mode text

piece_order : (history : History) (text : Text) (piece : Piece) → next_step language history text ≡ Stands piece → Ordered text piece
unfolding next_step situation step_at
piece_order history text piece e = subst (StepOrdered text) e (by_before_order (situation history) history.before text)

-- Readings

pub along_order : (whole : Text) (at : ℕ) (history : History) (pieces : List Piece) → IsReading language history (drop at whole) pieces → InOrder whole at (lexemes_along at pieces) (at + pieces_len pieces)
along_order whole at history [] reads = (omega arith, subst (IsGap whole at) same (gap_none whole at))
  where
    same : at ≡ at + pieces_len []
    same = omega arith
along_order whole at history (piece ∷ pieces) reads =
    let here = order_shift at whole 0 piece.len piece.lexemes (piece_order history (drop at whole) piece reads.0) in
    let start : at + 0 ≡ at = omega arith in
    let left : drop piece.len (drop at whole) ≡ drop (at + piece.len) whole = sym (drop-sum at piece.len whole) in
    let more = along_order whole (at + piece.len) (after history piece) pieces (subst (λ (t : Text). IsReading language (after history piece) t pieces) left reads.1) in
    let len : pieces_len (piece ∷ pieces) ≡ piece.len + pieces_len pieces = sum_by-cons (λ (piece : Piece). piece.len) piece pieces in
    let total : at + piece.len + pieces_len pieces ≡ at + pieces_len (piece ∷ pieces) = omega (arith, len) in
    subst (InOrder whole at (lexemes_along at (piece ∷ pieces))) total
    (order_append whole at (at + piece.len) (at + piece.len + pieces_len pieces) (map (moved at) piece.lexemes) (lexemes_along (at + piece.len) pieces)
    (subst (λ n. InOrder whole n (map (moved at) piece.lexemes) (at + piece.len)) start here) more)

-- what closes a text stands at its end
pub closing_order : (text : Text) (at : ℕ) (history : History) → InOrder text at (closing at history) at
closing_order text at history = (omega arith, omega arith, gap_none text at, dedents_order text at at _ (omega arith) (gap_none text at))

-- the comments of a text's first margin alone
pub comments_alone : (text : Text) → InOrder text 0 (margin_of text).comments (margin_len (margin_of text))
comments_alone text =
    subst (λ (ls : List Lexeme). InOrder text 0 ls (margin_len (margin_of text))) (append-nil (margin_of text).comments) (margin_order text [] (omega arith, margin_gap text))

-- a longest reading after which nothing fails reaches the text's end
whole_len : (history : History) (text : Text) (pieces : List Piece) → IsLongestReading language history text pieces Ends → pieces_len pieces ≡ length text
whole_len history text pieces h =
    let none = ends_at_end language (after_all history pieces) (drop (pieces_len pieces) text) h.stands_last in
    let inside = reading_fits language history text pieces h.reads in
    let left : length (drop (pieces_len pieces) text) ≡ 0 = ap (λ (t : Text). length t) none in
    omega (arith, inside, left, length-drop (pieces_len pieces) text)

along : (history : History) (text : Text) (pieces : List Piece) → IsReading language history text pieces → InOrder text 0 (lexemes_along 0 pieces) (pieces_len pieces)
along history text pieces reads =
    let same : 0 + pieces_len pieces ≡ pieces_len pieces = omega arith in
    subst (InOrder text 0 (lexemes_along 0 pieces)) same (along_order text 0 history pieces reads)

-- The laws, by what stands after the longest reading.
abbrev pub OutcomeInOrder : Text → Outcome → Type 0
OutcomeInOrder text found =
    ((to : ℕ) × (to ≤ length text) × InOrder text 0 found.lexemes to)
    × (found.fault ≡ None → InOrder text 0 found.lexemes (length text))

-- where pieces were read, their lexemes are before a fault
pub some_lexemes_before : (before : Before) (text : Text) (piece : Piece) (pieces : List Piece) → lexemes_before before text (piece ∷ pieces) ≡ lexemes_along 0 (piece ∷ pieces)
some_lexemes_before Nothing text piece pieces = refl
some_lexemes_before Layout text piece pieces = refl
some_lexemes_before Gap text piece pieces = refl
some_lexemes_before Other text piece pieces = refl

outcome_of_order : (history : History) (text : Text) (pieces : List Piece) (last : Step) → IsLongestReading language history text pieces last → OutcomeInOrder text (reading_outcome history text pieces last)
outcome_of_order history text [] (Fails fault) h = (by history.before, (λ e. cc))
  where
    by : (before : Before) → (to : ℕ) × (to ≤ length text) × InOrder text 0 (lexemes_before before text []) to
    by Nothing = (margin_len (margin_of text), margin_fits text, comments_alone text)
    by Layout = (0, omega arith, (omega arith, gap_none text 0))
    by Gap = (0, omega arith, (omega arith, gap_none text 0))
    by Other = (0, omega arith, (omega arith, gap_none text 0))
outcome_of_order history text (piece ∷ pieces) (Fails fault) h = (
  (
    pieces_len (piece ∷ pieces),
    reading_fits language history text (piece ∷ pieces) h.reads,
    subst (λ (ls : List Lexeme). InOrder text 0 ls (pieces_len (piece ∷ pieces))) (sym (some_lexemes_before history.before text piece pieces)) (along history text (piece ∷ pieces) h.reads),
  ),
  (λ e. cc),
)
outcome_of_order history text pieces (Stands piece) h = absurd (h.no_piece piece refl)
outcome_of_order history text pieces Ends h =
    let total = whole_len history text pieces h in
    let past : History = after_all history pieces in
    let order : InOrder text 0 (lexemes_along 0 pieces ++ closing (pieces_len pieces) past) (length text) =
    subst (InOrder text 0 (lexemes_along 0 pieces ++ closing (pieces_len pieces) past)) total
    (order_append text 0 (pieces_len pieces) (pieces_len pieces) (lexemes_along 0 pieces) (closing (pieces_len pieces) past) (along history text pieces h.reads) (closing_order text (pieces_len pieces) past)) in
    ((length text, omega arith, order), (λ e. order))

pub after_order : (history : History) (text : Text) → OutcomeInOrder text (outcome_after history text)
after_order history text = subst (OutcomeInOrder text) (sym (outcome_is history text)) (outcome_of_order history text (pieces_after history text) (last_after history text) (longest_after history text))

pub outcome_order : (text : Text) → OutcomeInOrder text (outcome text)
outcome_order text = subst (OutcomeInOrder text) (outcome_after_nothing text) (after_order nothing text)
