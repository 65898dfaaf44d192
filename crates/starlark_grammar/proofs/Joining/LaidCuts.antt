-- Where a text may be cut inside of its layout: after a line end that counts and whole comment-only lines after it.
use Rattle.std.proofs.Common.{◌≡◌, ℕ, ◌+◌, ◌≤◌, ◌<◌, Bool, true, false, List, [], ◌∷◌, ◌++◌, length, take, drop, map, refl, ap, ◌∙◌, sym, subst, Option, Some, None, arith, append-nil, length-append}
use Rattle.std.proofs.Common.{drop_of_length-le, eq-eqb}
use Rattle.std.proofs.Math.Seq.{drop-length}
use Rattle.std.proofs.lemmas.Bool.{and_parts, eqb-true}
use Rattle.std.specs.Prelude.{option_map, ◌==◌, nat_eq, codes, count_by, take_while, option_to_list}
use Rattle.std.specs.List.{ends_with, list_all}
use Rattle.std.proofs.lemmas.List.{take-append-drop, length-drop, length-map, length-take-le, drop-append-le}
use Rattle.std.proofs.lemmas.List.Sums.{sum_by-cons}
use Rattle.starlark_grammar.specs.declared.class.Class.TheVariants as word
use Rattle.starlark_grammar.specs.Words.{Text, class_in, language}
use Rattle.starlark_grammar.specs.Front.{longest_front}
use Rattle.starlark_grammar.specs.Tokens.{Token, Lexeme, Newline, moved}
use Rattle.starlark_grammar.specs.Depths.{Mode, is_any_closing, is_any_opening, is_balanced, mode_after, open_fstring, is_outside}
use Rattle.starlark_grammar.specs.Margins.{margin_len, Margin, comment_lines, comments_from, is_comment_only, lines, margin_of, open_widths}
use Rattle.starlark_grammar.specs.Pieces.{Ends, Layout, Piece, Stands, Step, counts, line_end, margin_step, step_at}
use Rattle.starlark_grammar.specs.Reading.{History, after, after_all, lexemes_along, next_step, nothing, outcome, pieces_len, read, situation, tokens_onto}
use Rattle.starlark_grammar.specs.Longest.{IsLongestReading, IsReading}
use Rattle.starlark_grammar.specs.Cuts.{is_clean_cut_in, is_clean_cut, is_layout, is_settled, without_closing}
use Rattle.starlark_grammar.proofs.Lists.{drop-sum}
use Rattle.starlark_grammar.proofs.Words.Fronts.{front_sound}
use Rattle.starlark_grammar.proofs.Reading.Steps.{is_nothing, lines_len}
use Rattle.starlark_grammar.proofs.Reading.Readings.{one_least, one_longest, piece_fits, read_is, started, longest_onward, stops_here}
use Rattle.starlark_grammar.proofs.Joining.CleanCuts.{Cut, along_append, but_last, cut, longest_append, past_append, pieces_append}
use Rattle.starlark_grammar.proofs.Joining.Laws.{clean_by}
use Rattle.starlark_grammar.proofs.Joining.Tabs.{first_step}
use Rattle.starlark_grammar.proofs.Joining.Followed.{longest_front_append, ends_line, ends_line_drop, ends_line_of}
use Rattle.starlark_grammar.proofs.Joining.FollowedMargins.{Followed, Whole, Within, has_whole_lines, lines_sum, some_line, some_lines, while_all, while_less, whole_after}
use Rattle.starlark_grammar.proofs.Joining.Joined.{next_stays, blank_step, counted_end, counted_step, margin_step_len, outside, whole_from_ends, onto_append}
use Rattle.starlark_grammar.proofs.Joining.Settled.{Settled, outside_none}
use Rattle.starlark_grammar.proofs.Joining.ShortenedPieces.{next_shortened}

-- the pieces of a text up to a place are those of each front that ends with an LF after them
pub reading_shortened : (history : History) (text more : Text) (pieces : List Piece) → ends_line text ≡ true → IsReading language history (text ++ more) pieces → pieces_len pieces < length text → IsReading language history text pieces
reading_shortened history text more [] h reads inside = tt
reading_shortened history text more (piece ∷ pieces) h reads inside =
    let total : pieces_len (piece ∷ pieces) ≡ piece.len + pieces_len pieces = sum_by-cons (λ (piece : Piece). piece.len) piece pieces in
    let left : drop piece.len (text ++ more) ≡ drop piece.len text ++ more = drop-append-le piece.len text more (omega (arith, inside, total)) in (
      next_shortened history text more piece h reads.0 (omega (arith, inside, total)),
      reading_shortened (after history piece) (drop piece.len text) more pieces (ends_line_drop piece.len text (omega (arith, inside, total)) h)
          (subst (λ (t : Text). IsReading language (after history piece) t pieces) left reads.1) (omega (arith, inside, total, length-drop piece.len text)),
    )

-- the margin of a text that is comment-only lines
pub comments_margin : (text : Text) → list_all is_comment_only (lines text) ≡ true → margin_of text ≡ record { comments = comments_from 0 (lines text); at = length text; blanks = []; remainder = [] }
unfolding margin_of
comments_margin text h =
    let here : comment_lines text ≡ lines text = ap (take_while is_comment_only) (sym (append-nil (lines text))) ∙ while_all is_comment_only (lines text) [] h ∙ append-nil (lines text) in
    let len : lines_sum (comment_lines text) ≡ length text = ap lines_sum here ∙ lines_len text in
    let none : drop (lines_sum (comment_lines text)) text ≡ [] = ap (λ n. drop n text) len ∙ drop-length text in
    rw (none, len, here) refl

-- No bracket, f-string or width is open.
pub record IsFlat (history : History) : Type 0 where
  pub none_open : open_fstring 0 history.tokens ≡ None
  pub balanced : is_balanced history.tokens ≡ true
  pub no_width : open_widths history.widths ≡ []

abbrev IsFlatOf : List Token → Type 0
IsFlatOf tokens = (open_fstring 0 tokens ≡ None) × (count_by is_any_opening tokens ≡ count_by is_any_closing tokens)

comments_flat : (n at : ℕ) (ls : List Text) (tokens : List Token) → IsFlatOf tokens → IsFlatOf (tokens_onto tokens (map (moved n) (comments_from at ls)))
unfolding open_fstring
comments_flat n at [] tokens h = h
comments_flat n at (line ∷ ls) tokens h = comments_flat n (at + length line) ls _ (ap (option_map _) h.0, h.1)

-- A margin stands at a place, after so many bytes: a line end that counts, or nothing at the text's begin.
pub record LaysOut (history : History) (rest : Text) (n : ℕ) (line : List Lexeme) : Type 0 where
  pub inside : n ≤ length rest
  pub step : next_step language history rest ≡ margin_step n line (open_widths history.widths) (margin_of (drop n rest))
  pub quiet : (tokens : List Token) → IsFlatOf tokens → IsFlatOf (tokens_onto tokens line)

abbrev pub line_of : ℕ → List Lexeme
line_of n = record { begin = 0; node = Newline; end = n } ∷ []

pub first_laid : (text : Text) → LaysOut nothing text 0 []
unfolding open_widths
first_laid text = record { inside = omega arith; step = first_step text; quiet = λ tokens h. h }

pub line_laid : (history : History) (rest : Text) (n : ℕ) → is_nothing history.before ≡ false → counts (mode_after history.tokens) (is_balanced history.tokens) ≡ true → longest_front (class_in language) rest ≡ Some (word.LineEnd, n) → LaysOut history rest n (line_of n)
unfolding next_step situation open_fstring
line_laid history [] n started counted front = let sound = front_sound (class_in language) [] word.LineEnd n front in absurd (omega (arith, sound.0, sound.1))
line_laid history (b ∷ bs) n started counted front =
    let sound = front_sound (class_in language) (b ∷ bs) word.LineEnd n front in
    let len : length (take n (b ∷ bs)) ≡ n = length-take-le n (b ∷ bs) sound.1 in
    record {
      inside = sound.1;
      step = counted_step (situation history) b bs n started counted front ∙ ap (λ k. line_end k (open_widths history.widths) (drop n (b ∷ bs))) len;
      quiet = λ tokens h. (ap (option_map _) h.0, h.1);
    }

-- the piece of a margin that is comment-only lines
abbrev pub comments_piece : ℕ → List Lexeme → Text → Piece
comments_piece n line remainder = record { len = n + (length remainder + 0); lexemes = line ++ map (moved n) (comments_from 0 (lines remainder) ++ []); width = None; sort = Layout }

comments_stand : (history : History) (rest : Text) (n : ℕ) (line : List Lexeme) → LaysOut history rest n line → list_all is_comment_only (lines (drop n rest)) ≡ true → next_step language history rest ≡ Stands (comments_piece n line (drop n rest))
comments_stand history rest n line laid h =
    laid.step ∙ ap (margin_step n line (open_widths history.widths)) (comments_margin (drop n rest) h) ∙ blank_step n line (open_widths history.widths) (comments_from 0 (lines (drop n rest))) (length (drop n rest))

flat_after : (history : History) (rest remainder : Text) (n : ℕ) (line : List Lexeme) → LaysOut history rest n line → IsFlat history → IsFlat (after history (comments_piece n line remainder))
unfolding after is_balanced
flat_after history rest remainder n line laid flat =
    let whole : map (moved n) (comments_from 0 (lines remainder) ++ []) ≡ map (moved n) (comments_from 0 (lines remainder)) = ap (map (moved n)) (append-nil (comments_from 0 (lines remainder))) in
    let both : tokens_onto history.tokens (line ++ map (moved n) (comments_from 0 (lines remainder) ++ [])) ≡ tokens_onto (tokens_onto history.tokens line) (map (moved n) (comments_from 0 (lines remainder))) =
    ap (λ ls. tokens_onto history.tokens (line ++ ls)) whole ∙ onto_append history.tokens line (map (moved n) (comments_from 0 (lines remainder))) in
    let now = comments_flat n 0 (lines remainder) (tokens_onto history.tokens line) (laid.quiet history.tokens (flat.none_open, eqb-true _ _ flat.balanced)) in
    record {
      none_open = ap (open_fstring 0) both ∙ now.0;
      balanced = ap (λ (ts : List Token). count_by is_any_opening ts == count_by is_any_closing ts) both ∙ eq-eqb _ _ now.1;
      no_width = ap open_widths (append-nil history.widths) ∙ flat.no_width;
    }

flat_ends : (history : History) → IsFlat history → history.before ≡ Layout → next_step language history [] ≡ Ends
unfolding next_step situation step_at mode_after
flat_ends history flat laid = rw (laid, flat.none_open) refl

flat_settled : (history : History) → IsFlat history → history.before ≡ Layout → is_settled history ≡ true
unfolding is_settled mode_after
flat_settled history flat laid = rw (laid, flat.none_open, flat.balanced, flat.no_width) refl

-- as many comments as lines
pub comments_count : (at : ℕ) (ls : List Text) → length (comments_from at ls) ≡ length ls
comments_count at [] = refl
comments_count at (line ∷ ls) = omega (arith, comments_count (at + length line) ls)

-- Where nothing is open and only comment-only lines stand after the last line end, these are a text's last piece, …
module _ (text : Text) (pieces : List Piece) (n : ℕ) (line : List Lexeme) (ends : ends_with nat_eq text (codes "\n") ≡ true) (reads : IsReading language nothing text pieces) (flat : IsFlat (after_all nothing pieces))
    (laid : LaysOut (after_all nothing pieces) (drop (pieces_len pieces) text) n line) (h : list_all is_comment_only (lines (drop n (drop (pieces_len pieces) text))) ≡ true) where
  abbrev before_lines : History
  before_lines = after_all nothing pieces

  abbrev lines_text : Text
  lines_text = drop (pieces_len pieces) text

  abbrev lines_piece : Piece
  lines_piece = comments_piece n line (drop n lines_text)

  flat_now : IsFlat (after before_lines lines_piece)
  flat_now = flat_after before_lines lines_text (drop n lines_text) n line laid flat

  settled_now : is_settled (after before_lines lines_piece) ≡ true
  unfolding after
  settled_now = flat_settled (after before_lines lines_piece) flat_now refl

  whole_reading : IsLongestReading language nothing text (pieces ++ lines_piece ∷ []) Ends
  unfolding after
  whole_reading =
      let stands = comments_stand before_lines lines_text n line laid h in
      let reach : length lines_text ≤ lines_piece.len = omega (arith, laid.inside, length-drop n lines_text) in
      let none : drop lines_piece.len lines_text ≡ [] = drop_of_length-le lines_text reach in
      let over = stops_here language (after before_lines lines_piece) (drop lines_piece.len lines_text) Ends (ap (next_step language (after before_lines lines_piece)) none ∙ flat_ends (after before_lines lines_piece) flat_now refl) (λ piece e. cc) in
      longest_append language nothing text pieces (lines_piece ∷ []) Ends reads (longest_onward language before_lines lines_text lines_piece [] Ends stands over)

  -- … and the text is a clean cut, …
  pub laid_cut : is_clean_cut text ≡ true
  laid_cut = clean_by text (pieces ++ lines_piece ∷ []) Ends whole_reading ∙ rw (past_append nothing pieces (lines_piece ∷ []), settled_now, ends) refl

  -- … of so many lexemes.
  pub laid_count : length (without_closing (outcome text).lexemes) ≡ length (lexemes_along 0 pieces) + (length line + length (lines (drop n lines_text)))
  laid_count =
      let all = (cut text laid_cut).lexemes in
      let same = (one_longest language nothing text _ _ _ _ (read_is language text) whole_reading).0 in
      let kept : without_closing (outcome text).lexemes ≡ lexemes_along 0 (pieces ++ lines_piece ∷ []) =
      ap without_closing all ∙ but_last (lexemes_along 0 (read language text).pieces) (record { begin = length text; node = Newline; end = length text }) ∙ ap (lexemes_along 0) same in
      let parts = ap length (kept ∙ along_append 0 pieces (lines_piece ∷ [])) ∙ length-append (lexemes_along 0 pieces) (lexemes_along (0 + pieces_len pieces) (lines_piece ∷ [])) in
      let one = length-append (map (moved (0 + pieces_len pieces)) lines_piece.lexemes) [] in
      omega (
        arith,
        parts,
        one,
        length-map lines_piece.lexemes (moved (0 + pieces_len pieces)),
        length-append line (map (moved n) (comments_from 0 (lines (drop n lines_text)) ++ [])),
        length-map (comments_from 0 (lines (drop n lines_text)) ++ []) (moved n),
        length-append (comments_from 0 (lines (drop n lines_text))) [],
        comments_count 0 (lines (drop n lines_text)),
      )

-- The other way round: how a clean cut ends.

margin_at : (text : Text) → (margin_of text).at ≡ lines_sum (comment_lines text)
unfolding margin_of
margin_at text = refl

-- a margin that reaches to the end of whole lines passes comment-only lines alone, and has no width
margin_whole : (n : ℕ) (line : List Lexeme) (levels : List ℕ) (text : Text) (piece : Piece) → has_whole_lines text ≡ true → margin_step n line levels (margin_of text) ≡ Stands piece → n + length text ≤ piece.len → (list_all is_comment_only (lines text) ≡ true) × (piece.width ≡ None)
margin_whole n line levels text piece whole stands reach = go (list_all is_comment_only (lines text)) refl
  where
    total : piece.len ≡ n + margin_len (margin_of text)
    total = margin_step_len n line levels (margin_of text) piece stands

    inside : Followed text [] → list_all is_comment_only (lines text) ≡ false → ⊥
    inside (Whole e f) h = omega (arith, ap (λ (m : Margin). m.at) e, margin_at text, while_less is_comment_only (lines text) h (some_lines text), lines_len text)
    inside (Within some less f) h = omega (arith, less, reach, total)

    go : (all : Bool) → list_all is_comment_only (lines text) ≡ all → (list_all is_comment_only (lines text) ≡ true) × (piece.width ≡ None)
    go true h =
        let last = ap (margin_step n line levels) (comments_margin text h) ∙ blank_step n line levels (comments_from 0 (lines text)) (length text) in
        let same : Stands piece ≡ Stands (comments_piece n line text) = sym stands ∙ last in
        (h, ap width_of_step same)
      where
        width_of_step : Step → Option ℕ
        width_of_step (Stands piece) = piece.width
        width_of_step step = None
    go false h = absurd (inside (some_line text [] whole h) h)

-- what is open before the last piece of a clean cut, and what that is
record EndsLine (history : History) (rest : Text) (last : Piece) : Type 0 where
  n : ℕ
  front : longest_front (class_in language) rest ≡ Some (word.LineEnd, n)
  counted : counts (mode_after history.tokens) (is_balanced history.tokens) ≡ true
  inside : n ≤ length rest
  comments : list_all is_comment_only (lines (drop n rest)) ≡ true
  width : last.width ≡ None
  none_open : open_fstring 0 history.tokens ≡ None
  balanced : is_balanced history.tokens ≡ true

ends_line_end : (history : History) (rest : Text) (last : Piece) → ends_line rest ≡ true → is_nothing history.before ≡ false → is_layout last.sort ≡ true → last.len ≡ length rest → next_step language history rest ≡ Stands last → EndsLine history rest last
unfolding next_step situation mode_after
ends_line_end history rest last ends begun laid reach stands =
    let end = counted_end (situation history) rest last laid begun stands in
    let sound = front_sound (class_in language) rest word.LineEnd end.len end.front in
    let place = outside (mode_after history.tokens) (is_balanced history.tokens) end.counted in
    let len : length (take end.len rest) ≡ end.len = length-take-le end.len rest sound.1 in
    let found = margin_whole (length (take end.len rest)) (line_of (length (take end.len rest))) (open_widths history.widths) (drop end.len rest) last (whole_after end.len rest (whole_from_ends rest ends)) end.stands (omega (arith, len, reach, length-drop end.len rest)) in
    record {
      n = end.len;
      front = end.front;
      counted = end.counted;
      inside = sound.1;
      comments = found.0;
      width = found.1;
      none_open = outside_none _ (ap is_outside place);
      balanced = subst (λ (m : Mode). counts m (is_balanced history.tokens) ≡ true) place end.counted;
    }

-- A margin begins somewhere in a text: at its begin, or after a line end of so many bytes that counts.
pub data MarginAt (text : Text) (pieces : List Piece) (n : ℕ) : Type 0 where
  First : pieces ≡ [] → n ≡ 0 → MarginAt text pieces n
  AfterComments : is_nothing (after_all nothing pieces).before ≡ false → counts (mode_after (after_all nothing pieces).tokens) (is_balanced (after_all nothing pieces).tokens) ≡ true
      → longest_front (class_in language) (drop (pieces_len pieces) text) ≡ Some (word.LineEnd, n) → MarginAt text pieces n

-- A place after whole comment-only lines of a margin, before which no width is open.
pub record IsLaid (text : Text) (at : ℕ) : Type 0 where
  pub pieces : List Piece
  pub n : ℕ
  pub reads : IsReading language nothing text pieces
  pub margin : MarginAt text pieces n
  pub flat : IsFlat (after_all nothing pieces)
  pub order : pieces_len pieces + n ≤ at
  pub inside : at ≤ length text
  pub some : pieces_len pieces < at
  pub ends : ends_with nat_eq (take at text) (codes "\n") ≡ true
  pub comments : list_all is_comment_only (lines (drop n (drop (pieces_len pieces) (take at text)))) ≡ true

-- how many lexemes its line end is
abbrev pub line_count : {text : Text} {pieces : List Piece} {n : ℕ} → MarginAt text pieces n → ℕ
line_count (First none zero_len) = 0
line_count (AfterComments begun counted found) = 1

-- The text in front of such a place, as it is read.
record LaidFront (text : Text) (at : ℕ) (laid : IsLaid text at) : Type 0 where
  line : List Lexeme
  count : length line ≡ line_count laid.margin
  reads : IsReading language nothing (take at text) laid.pieces
  lays : LaysOut (after_all nothing laid.pieces) (drop (pieces_len laid.pieces) (take at text)) laid.n line

front_of : (text : Text) (at : ℕ) (laid : IsLaid text at) → LaidFront text at laid
front_of text at laid =
    let found = go laid.margin in
    record { line = found.0; count = found.1; reads = reads; lays = found.2 }
  where
    front : Text
    front = take at text

    remainder : Text
    remainder = drop at text

    pieces : List Piece
    pieces = laid.pieces

    whole : front ++ remainder ≡ text
    whole = take-append-drop at text

    len : length front ≡ at
    len = length-take-le at text laid.inside

    ends : ends_line front ≡ true
    ends = ends_line_of front laid.ends

    before : pieces_len pieces < length front
    before = omega (arith, len, laid.some)

    reads : IsReading language nothing front pieces
    reads = reading_shortened nothing front remainder pieces ends (subst (λ (t : Text). IsReading language nothing t pieces) (sym whole) laid.reads) before

    left : drop (pieces_len pieces) text ≡ drop (pieces_len pieces) front ++ remainder
    left = ap (drop (pieces_len pieces)) (sym whole) ∙ drop-append-le (pieces_len pieces) front remainder (omega (arith, before))

    go : (margin : MarginAt text pieces laid.n) → (line : List Lexeme) × (length line ≡ line_count margin) × LaysOut (after_all nothing pieces) (drop (pieces_len pieces) front) laid.n line
    go (First none zero_len) = ([], refl, subst (λ (ps : List Piece). LaysOut (after_all nothing ps) (drop (pieces_len ps) front) laid.n []) (sym none) (subst (λ k. LaysOut nothing front k []) (sym zero_len) (first_laid front)))
    go (AfterComments begun counted found) =
        let again = sym (longest_front_append (drop (pieces_len pieces) front) remainder (ends_line_drop (pieces_len pieces) front before ends)) ∙ ap (longest_front (class_in language)) (sym left) ∙ found in
        (line_of laid.n, refl, line_laid (after_all nothing pieces) (drop (pieces_len pieces) front) laid.n begun counted again)

-- There the text in front is a clean cut, …
pub laid_clean : (text : Text) (at : ℕ) → IsLaid text at → is_clean_cut (take at text) ≡ true
laid_clean text at laid = let front = front_of text at laid in laid_cut (take at text) laid.pieces laid.n front.line laid.ends front.reads laid.flat front.lays laid.comments

-- … of so many lexemes.
pub laid_lexemes : (text : Text) (at : ℕ) (laid : IsLaid text at)
    → length (without_closing (outcome (take at text)).lexemes) ≡ length (lexemes_along 0 laid.pieces) + (line_count laid.margin + length (lines (drop laid.n (drop (pieces_len laid.pieces) (take at text)))))
laid_lexemes text at laid =
    let front = front_of text at laid in
    let all = laid_count (take at text) laid.pieces laid.n front.line laid.ends front.reads laid.flat front.lays laid.comments in
    let count = front.count in
    omega (arith, all, count)

-- … and it is nowhere else.

clean_ends : (text : Text) → is_clean_cut text ≡ true → ends_with nat_eq text (codes "\n") ≡ true
unfolding is_clean_cut is_clean_cut_in
clean_ends text h = (and_parts _ _ h).1

pub split_last : {A : Type 0} (xs : List A) → (xs ≡ [] → ⊥) → (init : List A) × (last : A) × (xs ≡ init ++ last ∷ [])
split_last [] some = absurd (some refl)
split_last (x ∷ []) some = ([], x, refl)
split_last (x ∷ y ∷ ys) some = let rest = split_last (y ∷ ys) (λ e. cc) in (x ∷ rest.0, rest.1, ap (λ zs. x ∷ zs) rest.2)

read_last : (history : History) (text : Text) (init : List Piece) (last : Piece) → IsReading language history text (init ++ last ∷ []) → IsReading language history text init × (next_step language (after_all history init) (drop (pieces_len init) text) ≡ Stands last)
read_last history text [] last reads = (tt, reads.0)
read_last history text (piece ∷ init) last reads =
    let rest = read_last (after history piece) (drop piece.len text) init last reads.1 in
    let total : pieces_len (piece ∷ init) ≡ piece.len + pieces_len init = sum_by-cons (λ (piece : Piece). piece.len) piece init in
    ((reads.0, rest.0), ap (next_step language (after_all (after history piece) init)) (ap (λ n. drop n text) total ∙ drop-sum piece.len (pieces_len init) text) ∙ rest.1)

read_started : (history : History) (text : Text) (piece : Piece) (pieces : List Piece) → IsReading language history text (piece ∷ pieces) → is_nothing (after_all history (piece ∷ pieces)).before ≡ false
read_started history text piece [] reads = started history piece (piece_fits language history text piece reads.0).sort
read_started history text piece (next ∷ pieces) reads = read_started (after history piece) (drop piece.len text) next pieces reads.1

pub reading_stays : (history : History) (text more : Text) (pieces : List Piece) → ends_line text ≡ true → IsReading language history text pieces → pieces_len pieces < length text → IsReading language history (text ++ more) pieces
reading_stays history text more [] h reads inside = tt
reading_stays history text more (piece ∷ pieces) h reads inside =
    let total : pieces_len (piece ∷ pieces) ≡ piece.len + pieces_len pieces = sum_by-cons (λ (piece : Piece). piece.len) piece pieces in
    let left : drop piece.len (text ++ more) ≡ drop piece.len text ++ more = drop-append-le piece.len text more (omega (arith, inside, total)) in (
      next_stays history text more piece h (omega (arith, inside, total)) reads.0,
      subst (λ (t : Text). IsReading language (after history piece) t pieces) (sym left)
          (reading_stays (after history piece) (drop piece.len text) more pieces (ends_line_drop piece.len text (omega (arith, inside, total)) h) reads.1 (omega (arith, inside, total, length-drop piece.len text))),
    )

pub ends_some : (text : Text) → ends_line text ≡ true → 0 < length text
ends_some [] h = cc
ends_some (b ∷ bs) h = omega arith

-- by the text's first margin alone
unfoldable pub laid_alone : (text : Text) (at : ℕ) → at ≤ length text → 0 < at → ends_with nat_eq (take at text) (codes "\n") ≡ true → list_all is_comment_only (lines (take at text)) ≡ true → IsLaid text at
unfolding open_fstring is_balanced open_widths
laid_alone text at inside some ends comments = record {
  pieces = [];
  n = 0;
  reads = tt;
  margin = First refl refl;
  flat = record { none_open = refl; balanced = refl; no_width = refl };
  order = omega arith;
  inside = inside;
  some = some;
  ends = ends;
  comments = comments;
}

-- by the pieces of the front: a margin at the text's begin, or one after other pieces
laid_by : (text : Text) (at : ℕ) (init : List Piece) (last : Piece) → at ≤ length text → ends_with nat_eq (take at text) (codes "\n") ≡ true → IsReading language nothing (take at text) init
    → next_step language (after_all nothing init) (drop (pieces_len init) (take at text)) ≡ Stands last → Settled (after (after_all nothing init) last) → pieces_len init + last.len ≡ at → IsLaid text at
unfolding after open_fstring is_balanced open_widths
laid_by text at [] last inside ends reads stands end total =
    let front = take at text in
    let len : length front ≡ at = length-take-le at text inside in
    let line = ends_line_of front ends in
    let found = margin_whole 0 [] [] front last (whole_from_ends front line) (sym (first_step front) ∙ stands) (omega (arith, total, len)) in
    laid_alone text at inside (omega (arith, ends_some front line, len)) ends found.0
laid_by text at (piece ∷ pieces) last inside ends reads stands end total =
    let front = take at text in
    let history = after_all nothing (piece ∷ pieces) in
    let reached = pieces_len (piece ∷ pieces) in
    let len : length front ≡ at = length-take-le at text inside in
    let line = ends_line_of front ends in
    let begun = read_started nothing front piece pieces reads in
    let fits = piece_fits language history (drop reached front) last stands in
    let least = one_least history.before begun in
    let some = fits.some in
    let before : reached < length front = omega (arith, total, len, least, some) in
    let here = ends_line_end history (drop reached front) last (ends_line_drop reached front before line) begun end.layout (omega (arith, total, len, length-drop reached front)) stands in
    let whole : front ++ drop at text ≡ text = take-append-drop at text in
    let left : drop reached text ≡ drop reached front ++ drop at text = ap (drop reached) (sym whole) ∙ drop-append-le reached front (drop at text) (omega (arith, before)) in
    record {
      pieces = piece ∷ pieces;
      n = here.n;
      reads = subst (λ (t : Text). IsReading language nothing t (piece ∷ pieces)) whole (reading_stays nothing front (drop at text) (piece ∷ pieces) line reads before);
      margin = AfterComments begun here.counted (ap (longest_front (class_in language)) left ∙ longest_front_append (drop reached front) (drop at text) (ends_line_drop reached front before line) ∙ here.front);
      flat = record { none_open = here.none_open; balanced = here.balanced; no_width = sym (ap (λ (width : Option ℕ). open_widths (history.widths ++ option_to_list width)) here.width ∙ ap open_widths (append-nil history.widths)) ∙ end.no_width };
      order = omega (arith, here.inside, len, before, length-drop reached front);
      inside = inside;
      some = omega (arith, before, len);
      ends = ends;
      comments = here.comments;
    }

-- where the text in front is a clean cut
pub clean_laid : (text : Text) (at : ℕ) → at ≤ length text → is_clean_cut (take at text) ≡ true → IsLaid text at
clean_laid text at inside h = laid_by text at parts.0 last inside (clean_ends front h) reads.0 reads.1 end (total ∙ len)
  where
    front : Text
    front = take at text

    remainder : Text
    remainder = drop at text

    whole : front ++ remainder ≡ text
    whole = take-append-drop at text

    len : length front ≡ at
    len = length-take-le at text inside

    here : Cut front (read language front).pieces
    here = cut front h

    parts : (init : List Piece) × (last : Piece) × ((read language front).pieces ≡ init ++ last ∷ [])
    parts = split_last (read language front).pieces here.some

    last : Piece
    last = parts.1

    reads : IsReading language nothing front parts.0 × (next_step language (after_all nothing parts.0) (drop (pieces_len parts.0) front) ≡ Stands last)
    reads = read_last nothing front parts.0 last (subst (IsReading language nothing front) parts.2 here.reads)

    end : Settled (after (after_all nothing parts.0) last)
    end = subst Settled (ap (after_all nothing) parts.2 ∙ past_append nothing parts.0 (last ∷ [])) here.is_settled

    total : pieces_len parts.0 + last.len ≡ length front
    total = omega (arith, ap pieces_len parts.2, pieces_append parts.0 (last ∷ []), sum_by-cons (λ (piece : Piece). piece.len) last [], here.reach)
