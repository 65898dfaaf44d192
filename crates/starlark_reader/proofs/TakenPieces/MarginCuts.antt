-- Cuts that a reader finds, in margins with nothing open before them.
use Rattle.std.proofs.Common.{◌≡◌, ℕ, suc, ◌+◌, ◌≤◌, ◌<◌, true, false, List, [], ◌∷◌, ◌++◌, length, take, drop, map, refl, ap, ◌∙◌, sym, subst, Option, None, Some, arith, length-append, zero-add, inl, inr, ◌⊎◌, rules}
use Rattle.std.specs.Prelude.{codes, nat_eq, not, ⊤}
use Rattle.std.specs.List.{AllByRecursion, ends_with, list_all, prefix_len}
use Rattle.std.proofs.Common.{drop_of_length-le}
use Rattle.std.proofs.Math.Seq.{take-add, drop-append_seam, take-append_seam}
use Rattle.std.proofs.lemmas.List.{length-drop, length-map, length-take, length-take-le, take-append-drop}
use Rattle.std.proofs.lemmas.List.Sums.{sum_by-cons}
use Rattle.starlark_grammar.specs.declared.class.Class.TheVariants as class
use Rattle.starlark_grammar.specs.declared.class.Class.{Class}
use Rattle.starlark_grammar.specs.Words.{Text, class_in, language}
use Rattle.starlark_grammar.specs.Front.{longest_front}
use Rattle.starlark_grammar.specs.Tokens as grammar
use Rattle.starlark_grammar.specs.Tokens.{Lexeme, Outcome, Spanned, moved}
use Rattle.starlark_grammar.specs.Depths.{is_balanced, mode_after}
use Rattle.starlark_grammar.specs.Margins.{fits, has_tab, is_comment_only, is_content, lines, margin_of, open_widths, width_of}
use Rattle.starlark_grammar.specs.Pieces.{Ends, Fails, Piece, Stands, counts, first_margin, line_end, margin_step}
use Rattle.starlark_grammar.specs.Reading.{History, after, after_all, lexemes_along, next_step, nothing, outcome, pieces_len, read, situation}
use Rattle.starlark_grammar.specs.Longest.{IsReading}
use Rattle.starlark_grammar.specs.Cuts.{is_clean_cut, is_layout, without_closing}
use Rattle.starlark_grammar.proofs.Lists.{drop-sum}
use Rattle.starlark_grammar.proofs.Words.Fronts.{front_sound}
use Rattle.starlark_grammar.proofs.Order.OrderedLexemes.{Split, first_line}
use Rattle.starlark_grammar.proofs.Reading.Readings.{one_longest, piece_fits, read_is, started, stops_here}
use Rattle.starlark_grammar.proofs.Reading.Steps.{Each, is_nothing}
use Rattle.starlark_grammar.proofs.Choices.{either}
use Rattle.starlark_grammar.proofs.Joining.CleanCuts.{cut, past_append, pieces_append}
use Rattle.starlark_grammar.proofs.Joining.Joined.{CountedEnd, counted_end, margin_step_len, outside}
use Rattle.starlark_grammar.proofs.Joining.KeptPlaces.{HasPassed, IsInMargin, cut_few, cut_in}
use Rattle.starlark_grammar.proofs.Joining.LaidCuts.{AfterComments, First, IsFlat, IsLaid, MarginAt, ends_some, laid_clean, laid_lexemes, line_count}
use Rattle.starlark_grammar.proofs.Joining.Laws.{ends_after}
use Rattle.starlark_grammar.proofs.Joining.LineCuts.{kept_by, kept_parts, line_after, line_clean, line_end_ends, line_lexeme, reading_reach, reads_more}
use Rattle.starlark_grammar.proofs.Joining.Settled.{outside_none}
use Rattle.starlark_grammar.proofs.Joining.FollowedMargins.{lines_sum}
use Rattle.starlark_reader.specs.Inner.MarginCuts.{IsAfterLines, IsCutBefore, IsMarginAhead, lexemes_before}
use Rattle.starlark_reader.specs.Inner.MarginLines.{IsOfMargin, IsPassedLine}
use Rattle.starlark_reader.specs.Inner.Pending.{IsPending, lines_between, pending_lexemes}
use Rattle.starlark_reader.specs.Inner.Reader.{IsReadTo, remaining_outcome}
use Rattle.starlark_reader.specs.declared.pending.Pending.{Pending}
use Rattle.starlark_reader.proofs.TakenMargins.Pending.{margin_lines}
use Rattle.starlark_reader.proofs.TakenPieces.LeftOutcomes.{GoesOn, first_stands, margin_first, onward_stands}

-- Readings

pub read_more : (text : Text) (history : History) (at next : ℕ) (piece : Piece) → IsReadTo text history at → next_step language history (drop at text) ≡ Stands piece → next ≡ at + piece.len → IsReadTo text (after history piece) next
read_more text history at next piece read stands is = record {
  pieces = read.pieces ++ piece ∷ [];
  reads = reads_more nothing text read.pieces piece read.reads (ap (λ (h : History). next_step language h (drop (pieces_len read.pieces) text)) read.is_history ∙ ap (λ n. next_step language history (drop n text)) read.reach ∙ stands);
  is_history = past_append nothing read.pieces (piece ∷ []) ∙ ap (λ (h : History). after h piece) read.is_history;
  reach = omega (arith, pieces_append read.pieces (piece ∷ []), sum_by-cons (λ (piece : Piece). piece.len) piece [], read.reach, is);
}

pub read_first : (text : Text) (next : ℕ) (piece : Piece) → first_margin [] text ≡ Stands piece → next ≡ 0 + piece.len → IsReadTo text (after nothing piece) next
read_first text next piece stands is = record {
  pieces = piece ∷ [];
  reads = (margin_first text ∙ stands, tt);
  is_history = refl;
  reach = omega (arith, sum_by-cons (λ (piece : Piece). piece.len) piece [], is);
}

-- Lexemes that were read, and those that are left

-- with one more piece before others
along_step : (history : History) (at : ℕ) (text : Text) (piece : Piece) (pieces : List Piece) (whole : Outcome) → GoesOn at piece whole (remaining_outcome (after history piece) (at + piece.len) (drop piece.len text))
    → length (remaining_outcome (after history piece) (at + piece.len) (drop piece.len text)).lexemes
    ≡ length (lexemes_along (at + piece.len) pieces) + length (remaining_outcome (after_all (after history piece) pieces) (at + piece.len + pieces_len pieces) (drop (pieces_len pieces) (drop piece.len text))).lexemes
    → length whole.lexemes ≡ length (lexemes_along at (piece ∷ pieces)) + length (remaining_outcome (after_all history (piece ∷ pieces)) (at + pieces_len (piece ∷ pieces)) (drop (pieces_len (piece ∷ pieces)) text)).lexemes
along_step history at text piece pieces whole goes more =
    let total = sum_by-cons (λ (piece : Piece). piece.len) piece pieces in
    let place : at + pieces_len (piece ∷ pieces) ≡ at + piece.len + pieces_len pieces = omega (arith, total) in
    let left : drop (pieces_len (piece ∷ pieces)) text ≡ drop (pieces_len pieces) (drop piece.len text) = ap (λ n. drop n text) total ∙ drop-sum piece.len (pieces_len pieces) text in
    rw (place, left) (omega (arith, more, ap length goes.lexemes, length-append (map (moved at) piece.lexemes) (remaining_outcome (after history piece) (at + piece.len) (drop piece.len text)).lexemes, length-append (map (moved at) piece.lexemes) (lexemes_along (at + piece.len) pieces)))

along_rest : (history : History) (at : ℕ) (text : Text) (pieces : List Piece) → is_nothing history.before ≡ false → IsReading language history text pieces
    → length (remaining_outcome history at text).lexemes ≡ length (lexemes_along at pieces) + length (remaining_outcome (after_all history pieces) (at + pieces_len pieces) (drop (pieces_len pieces) text)).lexemes
along_rest history at text [] begun reads = let same : at + 0 ≡ at = omega arith in omega (arith, ap (λ n. length (remaining_outcome history n text).lexemes) same)
along_rest history at text (piece ∷ pieces) begun reads =
    along_step history at text piece pieces (remaining_outcome history at text) (onward_stands history at text piece begun reads.0)
    (along_rest (after history piece) (at + piece.len) (drop piece.len text) pieces (started history piece (piece_fits language history text piece reads.0).sort) reads.1)

-- the number of all lexemes of a text, by the pieces up to an offset
all_lexemes : (text : Text) (history : History) (at : ℕ) (read : IsReadTo text history at) → is_nothing history.before ≡ false → length (outcome text).lexemes ≡ length (lexemes_along 0 read.pieces) + length (remaining_outcome history at (drop at text)).lexemes
all_lexemes text history at read begun =
    go read.pieces read.reads read.is_history
    ∙ ap (λ (h : History). length (lexemes_along 0 read.pieces) + length (remaining_outcome h (pieces_len read.pieces) (drop (pieces_len read.pieces) text)).lexemes) read.is_history
    ∙ ap (λ n. length (lexemes_along 0 read.pieces) + length (remaining_outcome history n (drop n text)).lexemes) read.reach
  where
    go : (pieces : List Piece) → IsReading language nothing text pieces → after_all nothing pieces ≡ history → length (outcome text).lexemes ≡ length (lexemes_along 0 pieces) + length (remaining_outcome (after_all nothing pieces) (pieces_len pieces) (drop (pieces_len pieces) text)).lexemes
    go [] reads same = let both : true ≡ false = ap (λ (h : History). is_nothing h.before) same ∙ begun in cc
    go (piece ∷ pieces) reads same =
        let rest = along_rest (after nothing piece) (0 + piece.len) (drop piece.len text) pieces (started nothing piece (piece_fits language nothing text piece reads.0).sort) reads.1 in
        along_step nothing 0 text piece pieces (outcome text) (first_stands text piece (sym (margin_first text) ∙ reads.0)) rest ∙ rw (zero-add (pieces_len (piece ∷ pieces))) refl

-- Margins

-- the comment-only lines of a margin are the first lines from its start on
lines_ahead : (text : Text) (begin : ℕ) (levels : List ℕ) (pending : Pending) → IsOfMargin begin (margin_of (drop begin text)).at levels pending
    → lines (drop pending.from text) ≡ lines_between text pending.from pending.to ++ drop (prefix_len is_comment_only (lines (drop begin text))) (lines (drop begin text))
lines_ahead text begin levels pending of = search (rules, take-append-drop, margin_lines)

-- The text's first margin was taken.
pub first_ahead_cut : (text : Text) (levels : List ℕ) (piece : Piece) (pending : Pending) → first_margin [] text ≡ Stands piece → IsOfMargin 0 (margin_of (drop 0 text)).at levels pending → map (moved 0) piece.lexemes ≡ pending_lexemes text pending
    → IsMarginAhead text pending (length (pending_lexemes text pending) + length (remaining_outcome (after nothing piece) (0 + piece.len) (drop piece.len text)).lexemes)
first_ahead_cut text levels piece pending stands of lexemes =
    let goes = first_stands text piece stands in
    record {
      before = 0;
      more = drop (prefix_len is_comment_only (lines (drop 0 text))) (lines (drop 0 text));
      lines_left = lines_ahead text 0 levels pending of;
      reach = omega (arith, of.to, margin_step_len 0 [] [] (margin_of text) piece stands, reading_reach text (piece ∷ []) (margin_first text ∙ stands, tt), sum_by-cons (λ (piece : Piece). piece.len) piece []);
      known = inl (of.from, refl);
      count = omega (arith, ap length goes.lexemes, length-append (map (moved 0) piece.lexemes) (remaining_outcome (after nothing piece) (0 + piece.len) (drop piece.len text)).lexemes, ap length lexemes);
    }

-- a newline that counts has its `Newline` first
abbrev BeginsWith : List Lexeme → Piece → Type 0
BeginsWith line piece = (more : List Lexeme) × (piece.lexemes ≡ line ++ more)

newline_first : (len : ℕ) (levels : List ℕ) (remainder : Text) (piece : Piece) → line_end len levels remainder ≡ Stands piece → BeginsWith (record { begin = 0; node = grammar.Newline; end = len } ∷ []) piece
unfolding margin_step
newline_first len levels remainder piece stands =
    subst (Each (BeginsWith (record { begin = 0; node = grammar.Newline; end = len } ∷ [])) (λ fault. ⊤)) stands
    (either (Each (BeginsWith (record { begin = 0; node = grammar.Newline; end = len } ∷ [])) (λ fault. ⊤)) (not (is_content (margin_of remainder).remainder)) _ _ (_, refl)
    (either (Each (BeginsWith (record { begin = 0; node = grammar.Newline; end = len } ∷ [])) (λ fault. ⊤)) (has_tab (margin_of remainder)) _ _ tt
    (either (Each (BeginsWith (record { begin = 0; node = grammar.Newline; end = len } ∷ [])) (λ fault. ⊤)) (fits (width_of (margin_of remainder)) levels) _ _ (_, refl) tt)))

module _ (text : Text) (history : History) (at len : ℕ) (piece : Piece) (read : IsReadTo text history at) (begun : is_nothing history.before ≡ false) (stands : next_step language history (drop at text) ≡ Stands piece)
    (is : line_end len (open_widths history.widths) (drop (at + len) text) ≡ Stands piece) (layout : is_layout piece.sort ≡ true) (flat : open_widths history.widths ≡ []) where
  counted : CountedEnd (situation history) (drop at text) piece
  unfolding next_step situation
  counted = counted_end (situation history) (drop at text) piece layout begun stands

  same_len : counted.len ≡ len
  same_len =
      let here = newline_first len (open_widths history.widths) (drop (at + len) text) piece is in
      let there = newline_first (length (take counted.len (drop at text))) (situation history).levels (drop counted.len (drop at text)) piece counted.stands in
      omega (arith, length-take-le counted.len (drop at text) (front_sound (class_in language) (drop at text) class.LineEnd counted.len counted.front).1, first_end _ _ _ _ (sym here.1 ∙ there.1))
    where
      end_of : List Lexeme → ℕ
      end_of [] = 0
      end_of (lexeme ∷ lexemes) = lexeme.end

      first_end : (one other : ℕ) (more rest : List Lexeme) → ◌≡◌ {A = List Lexeme} (record { begin = 0; node = grammar.Newline; end = one } ∷ more) (record { begin = 0; node = grammar.Newline; end = other } ∷ rest) → one ≡ other
      first_end one other more rest e = ap end_of e

  front_here : longest_front (class_in language) (drop at text) ≡ Some (class.LineEnd, len)
  front_here = counted.front ∙ ap (λ n. Some (class.LineEnd, n)) same_len

  begun_there : is_nothing (after_all nothing read.pieces).before ≡ false
  begun_there = ap (λ (h : History). is_nothing h.before) read.is_history ∙ begun

  counts_there : counts (mode_after (after_all nothing read.pieces).tokens) (is_balanced (after_all nothing read.pieces).tokens) ≡ true
  unfolding situation
  counts_there = ap (λ (h : History). counts (mode_after h.tokens) (is_balanced h.tokens)) read.is_history ∙ counted.counted

  flat_there : IsFlat (after_all nothing read.pieces)
  unfolding mode_after
  flat_there = search (rules, outside, counts_there, outside_none)

  line_inside : (1 ≤ len) × (at + len ≤ length text)
  line_inside = search (rules, front_sound, front_here, length-drop)

  front_text : take (at + len) text ≡ take at text ++ take len (drop at text)
  front_text = take-add at len text

  no_lines : drop len (drop (pieces_len read.pieces) (take (at + len) text)) ≡ []
  no_lines =
      drop_of_length-le (drop (pieces_len read.pieces) (take (at + len) text)) (omega (arith, read.reach, line_inside.1, length-drop (pieces_len read.pieces) (take (at + len) text), length-take-le (at + len) text line_inside.1))

  laid : IsLaid text (at + len)
  unfolding lines
  laid = record {
    pieces = read.pieces;
    n = len;
    reads = read.reads;
    margin = AfterComments begun_there counts_there (ap (λ n. longest_front (class_in language) (drop n text)) read.reach ∙ front_here);
    flat = flat_there;
    order = omega (arith, read.reach);
    inside = line_inside.1;
    some = omega (arith, read.reach, line_inside.0);
    ends = ap (λ (t : Text). ends_with nat_eq t (codes "\n")) front_text ∙ ends_after (take at text) (take len (drop at text)) some_front ∙ line_end_ends (drop at text) len front_here;
    comments = ap (λ (t : Text). list_all is_comment_only (lines t)) no_lines;
  }
    where
      some_front : 0 < length (take len (drop at text))
      some_front = let inside = line_inside in omega (arith, inside.0, inside.1, length-take-le len (drop at text) (omega (arith, inside.0, inside.1, length-drop at text)))

  lexemes_there : lexemes_before text (at + len) ≡ length (lexemes_along 0 read.pieces) + 1
  unfolding laid lines
  lexemes_there = laid_lexemes text (at + len) laid ∙ ap (λ (t : Text). length (lexemes_along 0 read.pieces) + (1 + length (lines t))) no_lines

  -- a newline and its margin were taken, with no indent open before
  pub line_ahead_cut : (levels : List ℕ) (given : Lexeme) (pending : Pending) → IsOfMargin (at + len) (margin_of (drop (at + len) text)).at levels pending → map (moved at) piece.lexemes ≡ given ∷ pending_lexemes text pending
      → IsMarginAhead text pending (length (pending_lexemes text pending) + length (remaining_outcome (after history piece) (at + piece.len) (drop piece.len (drop at text))).lexemes)
  line_ahead_cut levels given pending of lexemes =
      let all = all_lexemes text history at read begun in
      let goes = onward_stands history at (drop at text) piece begun stands in
      let whole = margin_step_len len (record { begin = 0; node = grammar.Newline; end = len } ∷ []) (open_widths history.widths) (margin_of (drop (at + len) text)) piece is in
      let more = read_more text history at (at + piece.len) piece read stands refl in
      record {
        before = length (lexemes_along 0 read.pieces) + 1;
        more = drop (prefix_len is_comment_only (lines (drop (at + len) text))) (lines (drop (at + len) text));
        lines_left = lines_ahead text (at + len) levels pending of;
        reach = omega (arith, of.to, whole, reading_reach text more.pieces more.reads, more.reach);
        known = inr (ap (λ n. is_clean_cut (take n text)) of.from ∙ laid_clean text (at + len) laid, ap (lexemes_before text) of.from ∙ lexemes_there);
        count = omega (arith, all, ap length goes.lexemes, length-append (map (moved at) piece.lexemes) (remaining_outcome (after history piece) (at + piece.len) (drop piece.len (drop at text))).lexemes, ap length lexemes);
      }

-- one of the pending lines was passed
pub passed_cut : (text : Text) (old new : Pending) (ahead : ℕ) → IsPending text old → IsPassedLine text old new → new.from < length text → IsMarginAhead text old (suc ahead) → IsMarginAhead text new ahead
passed_cut text old new ahead is passed inside at =
    record {
      before = at.before + 1;
      more = at.more;
      lines_left = ap lines (sym remainder) ∙ split.left;
      reach = omega (arith, passed.to, at.reach);
      known = inr (known at.known);
      count = omega (arith, at.count);
    }
  where
    line : Text
    line = passed.line

    split : Split (drop old.from text) line (lines_between text new.from new.to ++ at.more)
    split = first_line (drop old.from text) line (lines_between text new.from new.to ++ at.more) (at.lines_left ∙ ap (λ (ls : List Text). ls ++ at.more) passed.first)

    remainder : split.rest ≡ drop new.from text
    remainder =
        sym (drop-append_seam line split.rest) ∙ ap (drop (length line)) (sym split.whole) ∙ sym (drop-sum old.from (length line) text) ∙ ap (λ n. drop n text) (sym passed.from)

    front : take new.from text ≡ take old.from text ++ line
    front =
        ap (λ n. take n text) passed.from ∙ take-add old.from (length line) text ∙ ap (λ (t : Text). take old.from text ++ take (length line) t) split.whole ∙ ap (λ (t : Text). take old.from text ++ t) (take-append_seam line split.rest)

    comment : is_comment_only line ≡ true
    comment = (subst (AllByRecursion (λ (line : Text). is_comment_only line ≡ true)) passed.first is.comments).0

    ends : ends_with nat_eq line (codes "\n") ≡ true
    ends = go split.ended
      where
        go : (split.rest ≡ []) ⊎ ((start : Text) × (line ≡ start ++ 10 ∷ [])) → ends_with nat_eq line (codes "\n") ≡ true
        go (inl none) = absurd (omega (arith, inside, length-drop new.from text, ap length (sym remainder ∙ none)))
        go (inr some) = ap (λ (t : Text). ends_with nat_eq t (codes "\n")) some.1 ∙ ends_after some.0 (10 ∷ []) (omega arith)

    known : ((old.from ≡ 0) × (at.before ≡ 0)) ⊎ ((is_clean_cut (take old.from text) ≡ true) × (lexemes_before text old.from ≡ at.before)) → (is_clean_cut (take new.from text) ≡ true) × (lexemes_before text new.from ≡ at.before + 1)
    known (inl start) =
        let same : take new.from text ≡ line = front ∙ ap (λ n. take n text ++ line) start.0 in
        (ap is_clean_cut same ∙ line_clean line comment split.one ends, ap (λ (t : Text). length (without_closing (outcome t).lexemes)) same ∙ line_lexeme line comment split.one ends ∙ ap (λ n. n + 1) (sym start.1))
    known (inr cut) =
        let both = line_after line comment split.one ends (take old.from text) cut.0 in
        (ap is_clean_cut front ∙ both.0, ap (λ (t : Text). length (without_closing (outcome t).lexemes)) front ∙ both.1 ∙ ap (λ n. n + 1) cut.1)

-- the text may be cut at `pending.from`
pub cut_ahead : (text : Text) (pending : Pending) (ahead : ℕ) → IsPending text pending → IsMarginAhead text pending ahead → 0 < pending.from → pending.from < length text → IsCutBefore text pending.from ahead
cut_ahead text pending ahead is at some inside = go at.known
  where
    go : ((pending.from ≡ 0) × (at.before ≡ 0)) ⊎ ((is_clean_cut (take pending.from text) ≡ true) × (lexemes_before text pending.from ≡ at.before)) → IsCutBefore text pending.from ahead
    go (inl start) = absurd (omega (arith, start.0, some))
    go (inr cut) = record {
      inside = inside;
      is_kept = kept_by text pending.from (omega (arith, is.order, at.reach)) cut.0;
      count = omega (arith, cut.1, at.count);
    }

-- Kept cuts by the lexemes after them

-- the outcome that is left after a piece
abbrev left_over : Text → History → ℕ → Piece → Outcome
left_over text history at piece = remaining_outcome (after history piece) (at + piece.len) (drop piece.len (drop at text))

-- a cut is in a piece's margin if fewer lexemes are after it than after the piece's start, and no
-- fewer than after its end
pub cut_of_piece : (text : Text) (history : History) (at : ℕ) (piece : Piece) (read : IsReadTo text history at) → is_nothing history.before ≡ false → next_step language history (drop at text) ≡ Stands piece
    → (x remainder : ℕ) → IsCutBefore text x remainder → length (left_over text history at piece).lexemes ≤ remainder → remainder < length piece.lexemes + length (left_over text history at piece).lexemes → IsInMargin text x read.pieces
cut_of_piece text history at piece read begun stands x remainder is least most =
    let all = all_lexemes text history at read begun in
    let goes = onward_stands history at (drop at text) piece begun stands in
    let parts = kept_parts text x is.is_kept in
    let here = ap (λ (h : History). next_step language h (drop (pieces_len read.pieces) text)) read.is_history ∙ ap (λ n. next_step language history (drop n text)) read.reach ∙ stands in
    let whole = length-append (map (moved at) piece.lexemes) (left_over text history at piece).lexemes in
    cut_in text x read.pieces piece parts.1 parts.0 read.reads here
    (omega (arith, all, ap length goes.lexemes, whole, length-map piece.lexemes (moved at), is.count, most))
    (omega (arith, all, ap length goes.lexemes, whole, length-map piece.lexemes (moved at), is.count, least))

-- a cut is in a text's first margin if fewer lexemes are after it than in the text, and no fewer
-- than after the margin
cut_of_first : (text : Text) (piece : Piece) → first_margin [] text ≡ Stands piece
    → (x remainder : ℕ) → IsCutBefore text x remainder → length (left_over text nothing 0 piece).lexemes ≤ remainder → remainder < length piece.lexemes + length (left_over text nothing 0 piece).lexemes → IsInMargin text x []
cut_of_first text piece stands x remainder is least most =
    let goes = first_stands text piece stands in
    let parts = kept_parts text x is.is_kept in
    let whole = length-append (map (moved 0) piece.lexemes) (left_over text nothing 0 piece).lexemes in
    cut_in text x [] piece parts.1 parts.0 tt (margin_first text ∙ stands)
    (omega (arith, ap length goes.lexemes, whole, length-map piece.lexemes (moved 0), is.count, most))
    (omega (arith, ap length goes.lexemes, whole, length-map piece.lexemes (moved 0), is.count, least))

-- the lines of a margin are the pending ones
lines_ahead_of : (text : Text) (x remainder ahead : ℕ) (pieces : List Piece) (n line begin : ℕ) (levels : List ℕ) (pending : Pending) (found : HasPassed text x pieces n line) → IsOfMargin begin (margin_of (drop begin text)).at levels pending
    → pieces_len pieces + n ≡ begin → remainder + found.passed ≡ ahead → IsAfterLines text pending x remainder ahead
lines_ahead_of text x remainder ahead pieces n line begin levels pending found of place count = search (rules, drop-sum, margin_lines, lines_sum)

module _ (text : Text) (history : History) (at len : ℕ) (piece : Piece) (read : IsReadTo text history at) (begun : is_nothing history.before ≡ false) (stands : next_step language history (drop at text) ≡ Stands piece)
    (is : line_end len (open_widths history.widths) (drop (at + len) text) ≡ Stands piece) (layout : is_layout piece.sort ≡ true) where
  -- a cut in the margin after a newline has no indent open before it, and is after some of the
  -- lines
  pub line_cut : (levels : List ℕ) (given : Lexeme) (pending : Pending) → IsOfMargin (at + len) (margin_of (drop (at + len) text)).at levels pending → map (moved at) piece.lexemes ≡ given ∷ pending_lexemes text pending
      → (x remainder : ℕ) → IsCutBefore text x remainder → length (left_over text history at piece).lexemes ≤ remainder → remainder < length piece.lexemes + length (left_over text history at piece).lexemes
      → (open_widths history.widths ≡ []) × IsAfterLines text pending x remainder (length (pending_lexemes text pending) + length (left_over text history at piece).lexemes)
  line_cut levels given pending of lexemes x remainder cut least most =
      let found = cut_of_piece text history at piece read begun stands x remainder cut least most in
      let flat : open_widths history.widths ≡ [] = ap (λ (h : History). open_widths h.widths) (sym read.is_history) ∙ found.flat.no_width in
      (flat, by flat found.n found.margin found.lines_passed)
    where
      len_of : Option (Class × ℕ) → ℕ
      len_of None = 0
      len_of (Some found) = found.1

      count_of : (passed : ℕ) → lexemes_before text x ≡ length (lexemes_along 0 read.pieces) + (1 + passed) → remainder + passed ≡ length (pending_lexemes text pending) + length (left_over text history at piece).lexemes
      count_of passed before =
          let goes = onward_stands history at (drop at text) piece begun stands in
          omega (arith, all_lexemes text history at read begun, ap length goes.lexemes, length-append (map (moved at) piece.lexemes) (left_over text history at piece).lexemes, cut.count, before, ap length lexemes)

      by : open_widths history.widths ≡ [] → (n : ℕ) (margin : MarginAt text read.pieces n) → HasPassed text x read.pieces n (line_count margin) → IsAfterLines text pending x remainder (length (pending_lexemes text pending) + length (left_over text history at piece).lexemes)
      by flat n (First none zero_len) found = let both : true ≡ false = ap (λ (ps : List Piece). is_nothing (after_all nothing ps).before) (sym none) ∙ ap (λ (h : History). is_nothing h.before) read.is_history ∙ begun in cc
      by flat n (AfterComments started counted front) found =
          let here = front_here text history at len piece read begun stands is layout flat in
          let there : longest_front (class_in language) (drop at text) ≡ Some (class.LineEnd, n) = ap (λ k. longest_front (class_in language) (drop k text)) (sym read.reach) ∙ front in
          lines_ahead_of text x remainder _ read.pieces n 1 (at + len) levels pending found of (omega (arith, read.reach, ap len_of (sym there ∙ here))) (count_of found.passed found.count)

-- a cut in the first margin of the text
pub first_cut : (text : Text) (levels : List ℕ) (piece : Piece) (pending : Pending) → first_margin [] text ≡ Stands piece → IsOfMargin 0 (margin_of (drop 0 text)).at levels pending → map (moved 0) piece.lexemes ≡ pending_lexemes text pending
    → (x remainder : ℕ) → IsCutBefore text x remainder → length (left_over text nothing 0 piece).lexemes ≤ remainder → remainder < length piece.lexemes + length (left_over text nothing 0 piece).lexemes
    → IsAfterLines text pending x remainder (length (pending_lexemes text pending) + length (left_over text nothing 0 piece).lexemes)
first_cut text levels piece pending stands of lexemes x remainder cut least most =
    let found = cut_of_first text piece stands x remainder cut least most in
    by found.n found.margin found.lines_passed
  where
    by : (n : ℕ) (margin : MarginAt text [] n) → HasPassed text x [] n (line_count margin) → IsAfterLines text pending x remainder (length (pending_lexemes text pending) + length (left_over text nothing 0 piece).lexemes)
    by n (First none zero_len) found =
        let whole = length-append (map (moved 0) piece.lexemes) (left_over text nothing 0 piece).lexemes in
        lines_ahead_of text x remainder _ [] n 0 0 levels pending found of (omega (arith, zero_len)) (omega (arith, ap length (first_stands text piece stands).lexemes, whole, cut.count, found.count, ap length lexemes))
    by n (AfterComments started counted front) found = cc

-- no cut is after the lexemes of all pieces
pub none_at_end : (text : Text) (history : History) (at : ℕ) (read : IsReadTo text history at) → is_nothing history.before ≡ false → next_step language history (drop at text) ≡ Ends
    → (x remainder : ℕ) → IsCutBefore text x remainder → remainder < length (remaining_outcome history at (drop at text)).lexemes → ⊥
none_at_end text history at read begun ends x remainder is most =
    let parts = kept_parts text x is.is_kept in
    let here = ap (λ (h : History). next_step language h (drop (pieces_len read.pieces) text)) read.is_history ∙ ap (λ n. next_step language history (drop n text)) read.reach ∙ ends in
    let same = one_longest language nothing text _ _ _ _ (read_is language text) (record { reads = read.reads; stands_last = here; no_piece = λ piece e. let both : Ends ≡ Stands piece = e in cc }) in
    omega (arith, all_lexemes text history at read begun, is.count, most, cut_few text x parts.1 parts.0, ap (λ (ps : List Piece). length (lexemes_along 0 ps)) same.0)

-- no cut is in a text whose first margin has a fault
pub none_at_fault : (text : Text) (fault : Spanned grammar.Fault) → first_margin [] text ≡ Fails fault → (x remainder : ℕ) → IsCutBefore text x remainder → ⊥
none_at_fault text fault fails x remainder is =
    let parts = kept_parts text x is.is_kept in
    let none = one_longest language nothing text _ _ _ _ (read_is language text) (stops_here language nothing text (Fails fault) (margin_first text ∙ fails) (λ piece e. let both : Fails fault ≡ Stands piece = e in cc)) in
    omega (arith, parts.0, ap pieces_len none.0, ends_some (take x text) (cut (take x text) parts.1).ends, length-take x text)
