-- A reader before and after a piece.
use Rattle.std.proofs.Common.{◌≡◌, ℕ, zero, suc, ◌+◌, ◌≤◌, ◌<◌, ◌^◌, Bool, true, false, not, List, [], ◌∷◌, ◌++◌, length, drop, map, refl, ap, ◌∙◌, sym, subst, Option, Some, None, arith, append-nil, length-append, nat_lt, rules}
use Rattle.std.specs.Prelude.{⊤, ◌==◌, ◌&&◌, if◌then◌else◌, count_by, option_to_list, replicate}
use Rattle.std.specs.List.{AllByRecursion}
use Rattle.std.specs.Str.{IsCharBoundary, IsUtf8}
use Rattle.std.proofs.lemmas.Bool.{and_parts, and_right, both_ways, eqb-true, false_from_ne_true, ne_eqb}
use Rattle.std.proofs.lemmas.List.Sums.{sum_by-cons}
use Rattle.std.proofs.lemmas.List.{length-drop, length-map, map-append, nil_from_length}
use Rattle.std.proofs.lemmas.Str.{IsCharBoundary-start, IsUtf8-drop}
use Rattle.starlark_grammar.specs.Words.{Text, language}
use Rattle.starlark_grammar.specs.Tokens.{Lexeme, Outcome, Spanned, moved}
use Rattle.starlark_grammar.specs.Tokens as grammar
use Rattle.starlark_grammar.specs.Margins.{Margin, comment_lines, comments_from, fits, has_tab, indentation, is_content, is_widest, margin_len, margin_of, open_widths, width_of}
use Rattle.starlark_grammar.specs.Found.{at_line}
use Rattle.starlark_grammar.specs.Pieces.{Ends, Fails, Layout, Piece, Stands, Step, first_margin, line_end, margin_step}
use Rattle.starlark_grammar.specs.Cuts.{is_layout}
use Rattle.starlark_grammar.specs.Reading.{History, after, after_all, closing, history_after, next_step, outcome, outcome_after, pieces_len, nothing, read_len, tokens_onto}
use Rattle.starlark_grammar.specs.Longest.{IsReading}
use Rattle.starlark_token.specs.Lexemes.{fault_view, lexeme_view, shown_lexeme}
use Rattle.starlark_reader.specs.Inner.MarginViews.{IsRefused, IsTaken}
use Rattle.starlark_reader.specs.Inner.Pending.{IsIdle, IsPending, pending_lexemes}
use Rattle.starlark_reader.specs.Inner.Nesting.{Represents, bracket_count, keeps_nesting}
use Rattle.starlark_reader.specs.Inner.MarginCuts.{IsAfterLines, IsCutBefore, IsMarginAhead}
use Rattle.starlark_reader.specs.Inner.MarginLines.{IsOfMargin}
use Rattle.starlark_reader.specs.Inner.Reader.{HoldsCuts, IsAhead, IsAheadAfter, IsAheadPast, IsCutAhead, IsInFlatMargin, IsLeft, IsReached, IsRead, IsReadPast, IsReadTo, IsStateAfter, IsStateAtFault, Line, Origin, Start, before_view, begins_with_fault, begins_with_tab, has_read_none, history_since, is_refused, left_here, left_to_read, reach_since, remaining_outcome, step_here}
use Rattle.starlark_token.specs.TokenViews.{TokenView, Whole, token_view}
use Rattle.starlark_token.specs.declared.lexeme_error.LexemeError.{LexemeError}
use Rattle.starlark_reader.specs.declared.nesting.Nesting.{Nesting}
use Rattle.starlark_reader.specs.declared.reader.Before.TheVariants as sort
use Rattle.starlark_reader.specs.declared.reader.Reader.{Reader}
use Rattle.starlark_reader.specs.declared.reader.Stage.{Stage}
use Rattle.starlark_reader.specs.declared.reader.Stage.TheVariants as stage
use Rattle.starlark_reader.specs.declared.pending.Pending.{Pending}
use Rattle.starlark_token.specs.declared.tokens.Token.{Token}
use Rattle.starlark_grammar.proofs.Order.WholeTexts.{piece_bounded}
use Rattle.starlark_reader.proofs.TakenMargins.Pending.{margin_comments}
use Rattle.starlark_grammar.proofs.Order.Edges.{boundary_shift}
use Rattle.starlark_grammar.proofs.Lists.{drop-sum}
use Rattle.starlark_reader.proofs.TakenPieces.Here.{IsHere, after_some, kept_here}
use Rattle.starlark_reader.proofs.TakenPieces.LeftOutcomes.{GoesOn, history_onward, history_stops, line_fails, line_first, line_stands, margin_first, onward_ends, onward_fails, onward_stands, reach_onward, reach_stops}
use Rattle.starlark_grammar.proofs.Reading.Onward.{outcome_after_nothing}
use Rattle.starlark_grammar.proofs.Reading.Readings.{one_least, piece_fits, started}
use Rattle.starlark_grammar.proofs.Joining.Tabs.{margin_tab, tab, tab_of}
use Rattle.starlark_reader.proofs.OpenBrackets.OpenFStrings.{one_kept}
use Rattle.starlark_grammar.proofs.Reading.Steps.{Each, is_nothing}
use Rattle.starlark_grammar.proofs.Choices.{either}
use Rattle.starlark_reader.proofs.TakenPieces.MarginCuts.{cut_of_piece, first_ahead_cut, first_cut, line_ahead_cut, line_cut, none_at_end, none_at_fault, read_first, read_more}
use Rattle.starlark_grammar.proofs.Joining.KeptPlaces.{IsInMargin}
use Rattle.starlark_grammar.proofs.Joining.LaidCuts.{AfterComments, First, MarginAt, line_laid}
use Rattle.starlark_reader.proofs.TakenMargins.PendingLexemes.{Hands, HandsPast, hands_first, hands_later}

-- a state is always after the first margin of the text
begun : {origin : Origin} → (text : Text) (history : History) (reader : Reader) → IsStateAfter origin text history reader → is_nothing history.before ≡ false
begun text history reader kept = (after_some reader.before history.before kept.before).0

-- Layout

-- the tokens change neither brackets nor f-strings
abbrev pub AllQuiet : List Lexeme → Type 0
AllQuiet lexemes = AllByRecursion (λ (lexeme : Lexeme). keeps_nesting (Whole lexeme.node) ≡ true) lexemes

-- tokens of layout and f-string texts leave brackets and f-strings unchanged
pub quiet_kept : (lexemes : List Lexeme) (tokens : List grammar.Token) (nesting : Nesting) → AllQuiet lexemes → Represents tokens nesting → Represents (tokens_onto tokens lexemes) nesting
quiet_kept [] tokens nesting h same = same
quiet_kept (lexeme ∷ lexemes) tokens nesting h same = quiet_kept lexemes (lexeme.node ∷ tokens) nesting h.1 (one_kept lexeme.node tokens nesting h.0 same)

quiet_append : (one other : List Lexeme) → AllQuiet one → AllQuiet other → AllQuiet (one ++ other)
quiet_append [] other h k = k
quiet_append (lexeme ∷ one) other h k = (h.0, quiet_append one other h.1 k)

quiet_moved : (n : ℕ) (lexemes : List Lexeme) → AllQuiet lexemes → AllQuiet (map (moved n) lexemes)
quiet_moved n [] h = tt
quiet_moved n (lexeme ∷ lexemes) h = (h.0, quiet_moved n lexemes h.1)

dedents_quiet : (at count : ℕ) → AllQuiet (replicate count (record { begin = at; node = grammar.Dedent; end = at }))
dedents_quiet at zero = tt
dedents_quiet at (suc count) = (refl, dedents_quiet at count)

comments_quiet : (at : ℕ) (lines : List Text) → AllQuiet (comments_from at lines)
comments_quiet at [] = tt
comments_quiet at (line ∷ more) = (refl, comments_quiet (at + length line) more)

indentation_is_quiet : (levels : List ℕ) (margin : Margin) → AllQuiet (indentation levels margin)
unfolding indentation
indentation_is_quiet levels margin = go (nat_lt 0 (width_of margin) && is_widest (width_of margin) levels)
  where
    go : (opens : Bool) → AllQuiet (if opens then record { begin = margin.at; node = grammar.Indent; end = margin_len margin } ∷ [] else replicate (count_by (nat_lt (width_of margin)) levels) (record { begin = margin.at; node = grammar.Dedent; end = margin.at }))
    go true = (refl, tt)
    go false = dedents_quiet margin.at (count_by (nat_lt (width_of margin)) levels)

-- a margin with or without a newline before it: tokens of layout alone
pub record IsLayout (piece : Piece) : Type 0 where
  pub tokens : AllQuiet piece.lexemes
  pub sort : piece.sort ≡ Layout

margin_is_quiet : (len : ℕ) (line : List Lexeme) (levels : List ℕ) (text : Text) → AllQuiet line → Each IsLayout (λ fault. ⊤) (margin_step len line levels (margin_of text))
unfolding margin_step
margin_is_quiet len line levels text h =
    either (Each IsLayout (λ fault. ⊤)) (not (is_content (margin_of text).remainder)) _ _ (record { tokens = all [] tt; sort = refl })
    (either (Each IsLayout (λ fault. ⊤)) (has_tab (margin_of text)) _ _ tt
    (either (Each IsLayout (λ fault. ⊤)) (fits (width_of (margin_of text)) levels) _ _ (record { tokens = all (indentation levels (margin_of text)) (indentation_is_quiet levels (margin_of text)); sort = refl }) tt))
  where
    comments : AllQuiet (margin_of text).comments
    comments = subst AllQuiet (sym (margin_comments text)) (comments_quiet 0 (comment_lines text))

    all : (more : List Lexeme) → AllQuiet more → AllQuiet (line ++ map (moved len) ((margin_of text).comments ++ more))
    all more k = quiet_append line (map (moved len) ((margin_of text).comments ++ more)) h (quiet_moved len ((margin_of text).comments ++ more) (quiet_append (margin_of text).comments more comments k))

pub line_is_quiet : (len : ℕ) (levels : List ℕ) (remainder : Text) (piece : Piece) → line_end len levels remainder ≡ Stands piece → IsLayout piece
line_is_quiet len levels remainder piece e = subst (Each IsLayout (λ fault. ⊤)) e (margin_is_quiet len (record { begin = 0; node = grammar.Newline; end = len } ∷ []) levels remainder (refl, tt))

pub first_is_quiet : (levels : List ℕ) (text : Text) (piece : Piece) → first_margin levels text ≡ Stands piece → IsLayout piece
first_is_quiet levels text piece e = subst (Each IsLayout (λ fault. ⊤)) e (margin_is_quiet 0 [] levels text tt)

-- A piece

-- the state after one more piece
kept_after : {origin : Origin} → (text : Text) (history : History) (at : ℕ) (new : Reader) (piece : Piece) → IsUtf8 text → IsCharBoundary text at → next_step language history (drop at text) ≡ Stands piece
    → Represents (tokens_onto history.tokens piece.lexemes) new.nesting → new.levels ≡ open_widths (history.widths ++ option_to_list piece.width) → before_view new.before ≡ piece.sort → new.at ≡ at + piece.len → bracket_count new.nesting + length text < 2 ^ 32 + new.at
    → history_after (after history piece) (drop piece.len (drop at text)) ≡ history_since origin text → at + piece.len + read_len (after history piece) (drop piece.len (drop at text)) ≡ reach_since origin text → (origin ≡ Start → IsReadTo text (after history piece) new.at)
    → IsStateAfter origin text (after history piece) new
unfolding after
kept_after text history at new piece utf8 here stands nesting levels before is_at few onward reach read =
    let end : IsCharBoundary text (at + piece.len) = boundary_shift text at piece.len here (piece_bounded history (drop at text) piece (IsUtf8-drop text at utf8 here) stands).1 in
    record {
      nesting = nesting;
      levels = levels;
      before = before;
      inside = omega (arith, end.0, is_at);
      boundary = subst (IsCharBoundary text) (sym is_at) end;
      few = few;
      onward = ap (history_after (after history piece)) (ap (λ n. drop n text) is_at ∙ drop-sum at piece.len text) ∙ onward;
      reach = ap (λ n. n + read_len (after history piece) (drop n text)) is_at ∙ ap (λ (t : Text). at + piece.len + read_len (after history piece) t) (drop-sum at piece.len text) ∙ reach;
      read = read;
    }

-- the cuts after a piece that was read from the text's start on: whether its offset is one, and where each is
pub record AreCutsBehind (origin : Origin) (text : Text) (history : History) (at : ℕ) (piece : Piece) (new : Reader) : Type 0 where
  pub cut : origin ≡ Start → IsCutAhead text new stage.Onward (length (pending_lexemes text new.pending) + length (remaining_outcome (after history piece) (at + piece.len) (drop piece.len (drop at text))).lexemes)
  pub cuts : origin ≡ Start → HoldsCuts text new stage.Onward (length (remaining_outcome (after history piece) (at + piece.len) (drop piece.len (drop at text))).lexemes) (length piece.lexemes + length (remaining_outcome (after history piece) (at + piece.len) (drop piece.len (drop at text))).lexemes)
      (length (pending_lexemes text new.pending) + length (remaining_outcome (after history piece) (at + piece.len) (drop piece.len (drop at text))).lexemes)

-- a piece was read, and the rest is left after it
read_piece : {origin : Origin} → (text : Text) (whole : Outcome) (history : History) (at : ℕ) (given : List (Spanned TokenView)) (new : Reader) (piece : Piece) → GoesOn at piece whole (remaining_outcome (after history piece) (at + piece.len) (drop piece.len (drop at text)))
    → IsStateAfter origin text (after history piece) new → new.at ≡ at + piece.len → new.stage ≡ stage.Onward → HandsPast text given new.pending (map (moved at) piece.lexemes) → AreCutsBehind origin text history at piece new → IsReadPast origin text whole given new
read_piece {origin = origin} text whole history at given new piece goes kept is_at is_onward hands cuts =
    let remainder : drop piece.len (drop at text) ≡ drop new.at text = sym (drop-sum at piece.len text) ∙ ap (λ n. drop n text) (sym is_at) in
    let rest = remaining_outcome (after history piece) (at + piece.len) (drop piece.len (drop at text)) in
    let left : rest ≡ remaining_outcome (after history piece) new.at (drop new.at text) = ap (λ n. remaining_outcome (after history piece) n (drop piece.len (drop at text))) (sym is_at) ∙ ap (remaining_outcome (after history piece) new.at) remainder in
    record {
      lexemes = map (moved at) piece.lexemes;
      left = rest;
      is_left = subst (λ now. IsLeft origin text new now rest) (sym is_onward) (after history piece, kept, left);
      parts = goes.lexemes;
      fault = goes.fault;
      is_pending = hands.0;
      yielded_count = hands.1;
      cut = λ start. subst (λ now. IsCutAhead text new now (length (pending_lexemes text new.pending) + length rest.lexemes)) (sym is_onward) (cuts.cut start);
      cuts = λ start. subst (λ now. HoldsCuts text new now (length rest.lexemes) (length (map (moved at) piece.lexemes) + length rest.lexemes) (length (pending_lexemes text new.pending) + length rest.lexemes)) (sym is_onward)
          (subst (λ n. HoldsCuts text new stage.Onward (length rest.lexemes) (n + length rest.lexemes) (length (pending_lexemes text new.pending) + length rest.lexemes)) (sym (length-map piece.lexemes (moved at))) (cuts.cuts start));
    }

took_by : {origin : Origin} → (text : Text) (history : History) (old : Reader) (given : List (Spanned TokenView)) (new : Reader) (piece : Piece) → IsUtf8 text → IsStateAfter origin text history old → step_here text history old ≡ Stands piece → AreCutsBehind origin text history old.at piece new
    → Represents (tokens_onto history.tokens piece.lexemes) new.nesting → new.levels ≡ open_widths (history.widths ++ option_to_list piece.width) → before_view new.before ≡ piece.sort → new.at ≡ old.at + piece.len → bracket_count new.nesting + length text < 2 ^ 32 + new.at
    → new.stage ≡ stage.Onward → HandsPast text given new.pending (map (moved old.at) piece.lexemes) → IsReadPast origin text (left_here text history old) given new
took_by text history old given new piece utf8 kept stands cuts nesting levels before is_at few is_onward hands =
    read_piece text (left_here text history old) history old.at given new piece (onward_stands history old.at (drop old.at text) piece (begun text history old kept) stands)
    (kept_after text history old.at new piece utf8 kept.boundary stands nesting levels before is_at few (sym (history_onward history (drop old.at text) piece stands) ∙ kept.onward)
    (omega (arith, reach_onward history (drop old.at text) piece stands, kept.reach)) (λ start. read_more text history old.at new.at piece (kept.read start) stands is_at)) is_at is_onward hands cuts

-- no cut is in a piece that is no margin
no_cut_in : (text : Text) (history : History) (at : ℕ) (piece : Piece) (read : IsReadTo text history at) → is_nothing history.before ≡ false → next_step language history (drop at text) ≡ Stands piece → is_layout piece.sort ≡ false
    → (x : ℕ) → IsInMargin text x read.pieces → ⊥
no_cut_in text history at piece read begun stands other x found = by found.n found.margin
  where
    by : (n : ℕ) → MarginAt text read.pieces n → ⊥
    by n (First none zero_len) = let both : true ≡ false = ap (λ (ps : List Piece). is_nothing (after_all nothing ps).before) (sym none) ∙ ap (λ (h : History). is_nothing h.before) read.is_history ∙ begun in cc
    by n (AfterComments started counted front) =
        let here = ap (λ (h : History). next_step language h (drop (pieces_len read.pieces) text)) read.is_history ∙ ap (λ n. next_step language history (drop n text)) read.reach ∙ stands in
        let line = (line_laid (after_all nothing read.pieces) (drop (pieces_len read.pieces) text) n started counted front).step in
        let both : true ≡ false = sym (ap is_layout (line_is_quiet n (open_widths (after_all nothing read.pieces).widths) (drop n (drop (pieces_len read.pieces) text)) piece (sym line ∙ here)).sort) ∙ other in
        cc

-- a piece that is no margin
pub took_past : {origin : Origin} → (text : Text) (history : History) (old : Reader) (passed : List (Spanned TokenView)) (new : Reader) (piece : Piece) → IsUtf8 text → IsStateAfter origin text history old → step_here text history old ≡ Stands piece → is_layout piece.sort ≡ false
    → Represents (tokens_onto history.tokens piece.lexemes) new.nesting → new.levels ≡ open_widths (history.widths ++ option_to_list piece.width) → before_view new.before ≡ piece.sort → new.at ≡ old.at + piece.len → bracket_count new.nesting + length text < 2 ^ 32 + new.at
    → new.stage ≡ stage.Onward → HandsPast text passed new.pending (map (moved old.at) piece.lexemes) → IsReadPast origin text (left_here text history old) passed new
took_past text history old passed new piece utf8 kept stands other nesting levels before =
    took_by text history old passed new piece utf8 kept stands
    (record {
      cut = λ start on layout flat inside. let both : true ≡ false = ap is_layout (sym (ap before_view layout) ∙ before) ∙ other in cc;
      cuts = λ start x remainder cut least most.
          absurd (no_cut_in text history old.at piece (kept.read start) (begun text history old kept) stands other x (cut_of_piece text history old.at piece (kept.read start) (begun text history old kept) stands x remainder cut least most));
    })
    nesting levels before

pub took : {origin : Origin} → (text : Text) (history : History) (old : Reader) (given : Option (ℕ × Token × ℕ)) (new : Reader) (piece : Piece) → IsUtf8 text → IsStateAfter origin text history old → step_here text history old ≡ Stands piece → is_layout piece.sort ≡ false
    → Represents (tokens_onto history.tokens piece.lexemes) new.nesting → new.levels ≡ open_widths (history.widths ++ option_to_list piece.width) → before_view new.before ≡ piece.sort → new.at ≡ old.at + piece.len → bracket_count new.nesting + length text < 2 ^ 32 + new.at
    → new.stage ≡ stage.Onward → Hands text given new.pending (map (moved old.at) piece.lexemes) → IsRead origin text (left_here text history old) given new
took text history old given new piece = took_past text history old (map lexeme_view (option_to_list given)) new piece

-- at the start of a text no width is open
none_open : (widths : List ℕ) → Line widths ≡ Start → widths ≡ []
none_open widths start = cc

flat_start : (widths : List ℕ) → Line widths ≡ Start → open_widths widths ≡ []
unfolding open_widths
flat_start widths start = ap open_widths (none_open widths start)

-- its first margin
start_step : (widths : List ℕ) (text : Text) (step : Step) → first_margin (open_widths widths) text ≡ step → Line widths ≡ Start → first_margin [] text ≡ step
start_step widths text step is start = ap (λ levels. first_margin levels text) (sym (flat_start widths start)) ∙ is

took_first : (widths : List ℕ) (text : Text) (new : Reader) (piece : Piece) → IsUtf8 text → first_margin (open_widths widths) text ≡ Stands piece → AreCutsBehind (Line widths) text (at_line widths) 0 piece new
    → Represents (tokens_onto [] piece.lexemes) new.nesting → new.levels ≡ open_widths (widths ++ option_to_list piece.width) → before_view new.before ≡ piece.sort → new.at ≡ 0 + piece.len → bracket_count new.nesting + length text < 2 ^ 32 + new.at
    → new.stage ≡ stage.Onward → Hands text None new.pending (map (moved 0) piece.lexemes) → IsRead (Line widths) text (outcome_after (at_line widths) text) None new
took_first widths text new piece utf8 stands cuts nesting levels before is_at few is_onward hands =
    let history = at_line widths in
    let here = line_first widths text ∙ stands in
    read_piece text (outcome_after history text) history 0 [] new piece (line_stands widths text piece stands)
    (kept_after text history 0 new piece utf8 (IsCharBoundary-start text utf8) here nesting levels before is_at few (sym (history_onward history text piece here)) (omega (arith, reach_onward history text piece here))
    (λ start. subst (λ ws. IsReadTo text (after (at_line ws) piece) new.at) (sym (none_open widths start)) (read_first text new.at piece (start_step widths text (Stands piece) stands start) is_at))) is_at is_onward hands cuts

pub piece_inside : {origin : Origin} → (text : Text) (history : History) (old : Reader) (piece : Piece) → IsStateAfter origin text history old → step_here text history old ≡ Stands piece → (old.at < old.at + piece.len) × (old.at + piece.len ≤ length text)
piece_inside text history old piece kept stands =
    let fits = piece_fits language history (drop old.at text) piece stands in
    (omega (arith, one_least history.before (begun text history old kept), fits.some), omega (arith, fits.inside, kept.inside, length-drop old.at text))

-- The text's first margin

-- a first margin without fault has no tab before content
pub no_tab : (text : Text) (piece : Piece) → first_margin [] text ≡ Stands piece → begins_with_tab text ≡ false
no_tab text piece stands = false_from_ne_true (begins_with_tab text) (λ e.
    let parts = and_parts (is_content (margin_of text).remainder) (has_tab (margin_of text)) e in
    let both : Stands piece ≡ Fails tab = sym stands ∙ margin_tab 0 [] [] (margin_of text) (record { content = parts.0; is = parts.1 }) in
    cc)

-- where something was read, the first margin has no tab before content
state_begun : {origin : Origin} → (text : Text) (history : History) (reader : Reader) → IsStateAfter origin text history reader → origin ≡ Start → has_read_none reader ≡ begins_with_tab text
unfolding after
state_begun text history reader kept start = let read = kept.read start in go read.pieces read.reads read.is_history read.reach
  where
    unread : (piece : Piece) (pieces : List Piece) → IsReading language nothing text (piece ∷ pieces) → after_all nothing (piece ∷ pieces) ≡ history → pieces_len (piece ∷ pieces) ≡ reader.at → has_read_none reader ≡ false
    unread piece [] reads same reach =
        ap (λ b. reader.at == 0 && not (is_layout b)) (kept.before ∙ ap (λ (h : History). h.before) (sym same) ∙ (first_is_quiet [] text piece (sym (margin_first text) ∙ reads.0)).sort) ∙ and_right (reader.at == 0) false refl
    unread piece (next ∷ pieces) reads same reach =
        let least = one_least (after nothing piece).before (started nothing piece (piece_fits language nothing text piece reads.0).sort) in
        let some = (piece_fits language (after nothing piece) (drop piece.len text) next reads.1.0).some in
        ap (λ b. b && not (is_layout (before_view reader.before))) (ne_eqb reader.at 0 (λ zero. omega (arith, zero, reach, sum_by-cons (λ (piece : Piece). piece.len) piece (next ∷ pieces), sum_by-cons (λ (piece : Piece). piece.len) next pieces, least, some)))

    go : (pieces : List Piece) → IsReading language nothing text pieces → after_all nothing pieces ≡ history → pieces_len pieces ≡ reader.at → has_read_none reader ≡ begins_with_tab text
    go [] reads same reach = let both : true ≡ false = ap (λ (h : History). is_nothing h.before) same ∙ begun text history reader kept in cc
    go (piece ∷ pieces) reads same reach = unread piece pieces reads same reach ∙ sym (no_tab text piece (sym (margin_first text) ∙ reads.0))

-- `has_read_none` depends on the offset and the kind of the piece before
same_place : (old new : Reader) → new.at ≡ old.at → new.before ≡ old.before → has_read_none new ≡ has_read_none old
same_place old new at before = ap (λ n. n == 0 && not (is_layout (before_view new.before))) at ∙ ap (λ b. old.at == 0 && not (is_layout (before_view b))) before

-- A fault

-- a fault was read, by the lexemes before it
read_fault : {origin : Origin} → (text : Text) (whole : Outcome) (at : ℕ) (lexemes : List Lexeme) (new : Reader) (fault : Spanned grammar.Fault) (error : LexemeError) → whole ≡ record { lexemes = lexemes; fault = Some (moved at fault) }
    → fault_view error ≡ Some fault.node → new.stage ≡ stage.Fault (at + fault.begin) error (at + fault.end) → Hands text None new.pending lexemes → (origin ≡ Start → has_read_none new ≡ begins_with_tab text)
    → new.at ≤ length text → IsStateAtFault origin text new → new.at ≤ at + fault.begin → (origin ≡ Start → (x remainder : ℕ) → IsCutBefore text x remainder → remainder < length lexemes → ⊥) → IsRead origin text whole None new
read_fault {origin = origin} text whole at lexemes new fault error left view is hands place inside state before none = record {
  lexemes = lexemes;
  left = record { lexemes = []; fault = Some (moved at fault) };
  is_left = subst (λ now. IsLeft origin text new now (record { lexemes = []; fault = Some (moved at fault) })) (sym is) (fault.node, view, refl, place, inside, state, before);
  parts = ap (λ (o : Outcome). o.lexemes) left ∙ sym (append-nil lexemes);
  fault = ap (λ (o : Outcome). o.fault) left;
  is_pending = hands.0;
  yielded_count = hands.1;
  cut = λ start on. let over : stage.Fault (at + fault.begin) error (at + fault.end) ≡ stage.Onward = sym is ∙ on in cc;
  cuts = λ start x remainder cut least most. absurd (none start x remainder cut (omega (arith, most)));
}

-- after a piece all is stored
at_fault : {origin : Origin} → (text : Text) (new : Reader) → IsStateAfter origin text (history_since origin text) new → new.at ≡ reach_since origin text → IsStateAtFault origin text new
at_fault text new now at = record { levels = now.levels; whole = λ standing. now; at = λ standing. at }

pub failed : {origin : Origin} → (text : Text) (history : History) (old new : Reader) (fault : Spanned grammar.Fault) (error : LexemeError) → IsStateAfter origin text history old → step_here text history old ≡ Fails fault → fault_view error ≡ Some fault.node
    → new.stage ≡ stage.Fault (old.at + fault.begin) error (old.at + fault.end) → Hands text None new.pending [] → IsHere old new → IsRead origin text (left_here text history old) None new
failed {origin = origin} text history old new fault error kept fails view is hands here =
    let whole = sym (history_stops history (drop old.at text) (Fails fault) fails (λ piece e. cc)) ∙ kept.onward in
    let now = kept_here text history old new here kept in
    let at : new.at ≡ reach_since origin text = omega (arith, here.at, kept.reach, reach_stops history (drop old.at text) (Fails fault) fails (λ piece e. cc)) in
    read_fault text (left_here text history old) old.at [] new fault error (onward_fails history old.at (drop old.at text) fault (begun text history old kept) fails) view is hands
    (λ start. same_place old new here.at here.before ∙ state_begun text history old kept start) now.inside (at_fault text new (subst (λ (h : History). IsStateAfter origin text h new) whole now) at) (omega (arith, here.at)) (λ start x remainder cut most. omega (arith, most))

pub failed_first : (widths : List ℕ) (text : Text) (new : Reader) (fault : Spanned grammar.Fault) (error : LexemeError) → first_margin (open_widths widths) text ≡ Fails fault → fault_view error ≡ Some fault.node
    → new.stage ≡ stage.Fault (0 + fault.begin) error (0 + fault.end) → Hands text None new.pending (margin_of text).comments → new.at ≡ 0 → new.before ≡ sort.Other → new.levels ≡ open_widths widths
    → IsRead (Line widths) text (outcome_after (at_line widths) text) None new
failed_first widths text new fault error fails view is hands at before levels =
    let stays = history_stops (at_line widths) text (Fails fault) (line_first widths text ∙ fails) (λ piece e. cc) in
    let refused : begins_with_fault (Line widths) text ≡ true = ap is_refused fails in
    let state : IsStateAtFault (Line widths) text new = record { levels = levels ∙ ap (λ (h : History). open_widths h.widths) (sym stays); whole = λ standing. absurd (both_ways _ standing refused); at = λ standing. absurd (both_ways _ standing refused) } in
    read_fault text (outcome_after (at_line widths) text) 0 (margin_of text).comments new fault error (line_fails widths text fault fails) view is hands tab (omega (arith, at)) state (omega (arith, at)) (λ start x remainder cut most. none_at_fault text fault (start_step widths text (Fails fault) fails start) x remainder cut)
  where
    tab : Line widths ≡ Start → has_read_none new ≡ begins_with_tab text
    tab start =
        let has = tab_of (margin_of text) fault (start_step widths text (Fails fault) fails start) in
        let tabbed : begins_with_tab text ≡ true = rw (has.content, has.is) refl in
        let unread : has_read_none new ≡ true = rw (at, before) refl in
        unread ∙ sym tabbed

-- The text's end

pub closed : {origin : Origin} → (text : Text) (history : History) (old : Reader) (given : Option (ℕ × Token × ℕ)) (new : Reader) → IsHere old new → IsStateAfter origin text history old → step_here text history old ≡ Ends → Hands text given new.pending (closing old.at history) → new.stage ≡ stage.Closed → IsRead origin text (left_here text history old) given new
closed {origin = origin} text history old given new here kept ends hands is =
    let whole = sym (history_stops history (drop old.at text) Ends ends (λ piece e. cc)) ∙ kept.onward in
    let left = onward_ends history old.at (drop old.at text) (begun text history old kept) ends in
    record {
      lexemes = closing old.at history;
      left = record { lexemes = []; fault = None };
      is_left = subst (λ now. IsLeft origin text new now (record { lexemes = []; fault = None })) (sym is) (refl, subst (λ (h : History). IsStateAfter origin text h new) whole (kept_here text history old new here kept));
      parts = ap (λ (o : Outcome). o.lexemes) left ∙ sym (append-nil (closing old.at history));
      fault = ap (λ (o : Outcome). o.fault) left;
      is_pending = hands.0;
      yielded_count = hands.1;
      cut = λ start on. let over : stage.Closed ≡ stage.Onward = sym is ∙ on in cc;
      cuts = λ start x remainder cut least most. absurd (none_at_end text history old.at (kept.read start) (begun text history old kept) ends x remainder cut (omega (arith, most, ap (λ (o : Outcome). length o.lexemes) left)));
    }

-- the lexemes that close a text
pub closing_hands : (text : Text) (history : History) (at count : ℕ) (levels : List ℕ) (pending : Pending) (found : Token) → token_view found ≡ Whole grammar.Newline → levels ≡ open_widths history.widths → count ≡ length levels
    → (pending_lexemes text pending ≡ replicate count (record { begin = at; node = grammar.Dedent; end = at })) × IsPending text pending → Hands text (Some (at, found, at)) pending (closing at history)
closing_hands text history at count levels pending found is open_now counted waits = search (rules, hands_first)

-- What is ahead, where something was read

-- a cut before all pending lines is reached
pub reached_by : (text : Text) (reader : Reader) (at ahead : ℕ) → IsInFlatMargin reader reader.stage × IsAfterLines text reader.pending at ahead ahead → IsReached reader at
reached_by text reader at ahead is = search rules

both_count : (one other : List Lexeme) → length one + length other ≡ length (map shown_lexeme one ++ map shown_lexeme other)
both_count one other = omega (arith, length-append (map shown_lexeme one) (map shown_lexeme other), length-map one shown_lexeme, length-map other shown_lexeme)

-- what is ahead after one lexeme was passed
pub past_ahead : {origin : Origin} → (text : Text) (whole : Outcome) (lexeme : Spanned TokenView) (new : Reader) (lexemes : List (Spanned TokenView)) (fault : Option (Spanned grammar.Fault)) → IsReadPast origin text whole (lexeme ∷ []) new
    → lexemes ≡ map shown_lexeme whole.lexemes → fault ≡ whole.fault → IsAheadPast origin text lexeme new lexemes fault
past_ahead text whole lexeme new lexemes fault read ahead remainder = (
  map shown_lexeme (pending_lexemes text new.pending) ++ map shown_lexeme read.left.lexemes,
  parts ∙ ap (λ vs. vs ++ map shown_lexeme read.left.lexemes) read.yielded_count,
  record {
    left = read.left;
    is_left = read.is_left;
    is_pending = read.is_pending;
    ahead = refl;
    those_after = remainder ∙ read.fault;
    cut = λ start. subst (IsCutAhead text new new.stage) (both_count (pending_lexemes text new.pending) read.left.lexemes) (read.cut start);
    cuts = λ start. subst (λ n. HoldsCuts text new new.stage (length read.left.lexemes) n n) (both_count (pending_lexemes text new.pending) read.left.lexemes)
        (λ at remainder cut least most. read.cuts start at remainder cut least (omega (arith, most, one_first)));
  },
  λ start at cut.
      let count = both_count (pending_lexemes text new.pending) read.left.lexemes in
      reached_by text new at (length (map shown_lexeme (pending_lexemes text new.pending) ++ map shown_lexeme read.left.lexemes))
      (subst (λ n. IsInFlatMargin new new.stage × IsAfterLines text new.pending at (length (map shown_lexeme (pending_lexemes text new.pending) ++ map shown_lexeme read.left.lexemes)) n) count
      (read.cuts start at _ cut (omega (arith, count)) (omega (arith, count, one_first)))),
)
  where
    parts : lexemes ≡ map shown_lexeme read.lexemes ++ map shown_lexeme read.left.lexemes
    parts = ahead ∙ ap (λ ls. map shown_lexeme ls) read.parts ∙ map-append shown_lexeme read.lexemes read.left.lexemes

    one_first : length read.lexemes ≡ 1 + length (pending_lexemes text new.pending)
    one_first = omega (arith, ap length read.yielded_count, length-map read.lexemes shown_lexeme, length-map (pending_lexemes text new.pending) shown_lexeme)

pub read_ahead : {origin : Origin} → (text : Text) (whole : Outcome) (given : Option (ℕ × Token × ℕ)) (new : Reader) (lexemes : List (Spanned TokenView)) (fault : Option (Spanned grammar.Fault)) → IsRead origin text whole given new
    → lexemes ≡ map shown_lexeme whole.lexemes → fault ≡ whole.fault → IsAheadAfter origin text given new lexemes fault
read_ahead text whole (Some found) new lexemes fault read ahead remainder = past_ahead text whole (lexeme_view found) new lexemes fault read ahead remainder
read_ahead text whole None new lexemes fault read ahead remainder =
    let all : lexemes ≡ map shown_lexeme (pending_lexemes text new.pending) ++ map shown_lexeme read.left.lexemes =
    ahead ∙ ap (λ ls. map shown_lexeme ls) read.parts ∙ map-append shown_lexeme read.lexemes read.left.lexemes ∙ ap (λ vs. vs ++ map shown_lexeme read.left.lexemes) read.yielded_count in
    record {
      left = read.left;
      is_left = read.is_left;
      is_pending = read.is_pending;
      ahead = all;
      those_after = remainder ∙ read.fault;
      cut = λ start. subst (IsCutAhead text new new.stage) (both_count (pending_lexemes text new.pending) read.left.lexemes ∙ ap length (sym all)) (read.cut start);
      cuts = λ start. subst (λ n. HoldsCuts text new new.stage (length read.left.lexemes) n n) (both_count (pending_lexemes text new.pending) read.left.lexemes ∙ ap length (sym all))
          (λ x remainder cut least most. read.cuts start x remainder cut least (omega (arith, most, ap length read.yielded_count, length-map read.lexemes shown_lexeme, length-map (pending_lexemes text new.pending) shown_lexeme)));
    }

-- Less is left to read

pub less_taken : {origin : Origin} → (text : Text) (history : History) (old new : Reader) (piece : Piece) → IsStateAfter origin text history old → step_here text history old ≡ Stands piece → new.stage ≡ stage.Onward → new.at ≡ old.at + piece.len → left_to_read text new new.stage < left_to_read text old stage.Onward
less_taken text history old new piece kept stands is is_at = search (rules, piece_inside)

-- Margins, as they were read

module _ {origin : Origin} (text : Text) (history : History) (old : Reader) (len : ℕ) (kept : IsStateAfter origin text history old)
    (here : step_here text history old ≡ line_end len (open_widths history.widths) (drop len (drop old.at text))) where
  -- the lexeme of the newline
  abbrev given_line : List Lexeme
  given_line = record { begin = old.at; node = grammar.Newline; end = old.at + len } ∷ []

  -- the step here, by the text after the newline
  line_here : step_here text history old ≡ line_end len (open_widths history.widths) (drop (old.at + len) text)
  line_here = here ∙ ap (line_end len (open_widths history.widths)) (sym (drop-sum old.at len text))

  pub line_less : {levels : List ℕ} {pending : Pending} {whole : ℕ} (new : Reader) → IsTaken text old.at (line_end len (open_widths history.widths) (drop (old.at + len) text)) given_line history.widths levels pending whole
      → new.stage ≡ stage.Onward → new.at ≡ old.at + whole → left_to_read text new new.stage < left_to_read text old stage.Onward
  line_less new taken is is_at = less_taken text history old new taken.piece kept (line_here ∙ taken.stands) is (is_at ∙ ap (λ n. old.at + n) (sym taken.whole))

  pub line_taken : (new : Reader) (whole : ℕ) (found : Token) → token_view found ≡ Whole grammar.Newline → IsUtf8 text → IsTaken text old.at (line_end len (open_widths history.widths) (drop (old.at + len) text)) given_line history.widths new.levels new.pending whole
      → IsOfMargin (old.at + len) (margin_of (drop (old.at + len) text)).at old.levels new.pending → new.nesting ≡ old.nesting → new.before ≡ sort.Layout → new.at ≡ old.at + whole → new.stage ≡ stage.Onward → IsRead origin text (left_here text history old) (Some (old.at, found, old.at + len)) new
  line_taken new whole found is utf8 taken of nesting before is_at is_onward =
      let stands : step_here text history old ≡ Stands taken.piece = line_here ∙ taken.stands in
      let layout = line_is_quiet len (open_widths history.widths) (drop (old.at + len) text) taken.piece taken.stands in
      let few : bracket_count old.nesting + length text < 2 ^ 32 + new.at = omega (arith, kept.few, is_at) in
      let hands : Hands text (Some (old.at, found, old.at + len)) new.pending (map (moved old.at) taken.piece.lexemes) =
      rw taken.lexemes (hands_first text new.pending (old.at, found, old.at + len) (record { begin = old.at; node = grammar.Newline; end = old.at + len }) (pending_lexemes text new.pending) taken.is_pending
      (ap (λ view. record { begin = old.at; node = view; end = old.at + len }) is) refl) in
      let cuts : AreCutsBehind origin text history old.at taken.piece new = record {
        cut = λ start on layout_now flat inside.
            line_ahead_cut text history old.at len taken.piece (kept.read start) (begun text history old kept) stands taken.stands (ap is_layout layout.sort) (sym kept.levels ∙ nil_from_length old.levels (eqb-true (length old.levels) 0 (sym of.flat ∙ flat))) old.levels (record { begin = old.at; node = grammar.Newline; end = old.at + len }) new.pending of taken.lexemes;
        cuts = λ start x remainder cut least most.
            let lies = line_cut text history old.at len taken.piece (kept.read start) (begun text history old kept) stands taken.stands (ap is_layout layout.sort) old.levels (record { begin = old.at; node = grammar.Newline; end = old.at + len }) new.pending of taken.lexemes x remainder cut least most in
            ((refl, before, of.flat ∙ ap (λ (levels : List ℕ). length levels == 0) (kept.levels ∙ lies.0)), lies.1);
      } in
      took_by text history old (lexeme_view (old.at, found, old.at + len) ∷ []) new taken.piece utf8 kept stands cuts
      (rw nesting (quiet_kept taken.piece.lexemes history.tokens old.nesting layout.tokens kept.nesting)) taken.open_now (ap before_view before ∙ sym layout.sort) (is_at ∙ ap (λ n. old.at + n) (sym taken.whole)) (rw nesting few) is_onward hands

  pub line_refused : (new : Reader) (error : LexemeError) (end : ℕ) → IsRefused text (line_end len (open_widths history.widths) (drop (old.at + len) text)) [] history.widths new.levels new.pending error end
      → new.stage ≡ stage.Fault (old.at + 0) error (old.at + end) → new.at ≡ old.at → new.nesting ≡ old.nesting → new.before ≡ old.before → IsRead origin text (left_here text history old) None new
  line_refused new error end refused is at nesting before =
      failed text history old new (record { begin = 0; node = refused.node; end = end }) error kept (line_here ∙ refused.stands) refused.is is (hands_later text new.pending [] refused.is_pending refused.lexemes)
      (record { at = at; nesting = nesting; levels = refused.open_now ∙ sym kept.levels; before = before })

-- a reader that has read nothing of a line
pub record IsNew (widths : List ℕ) (reader : Reader) : Type 0 where
  pub at : reader.at ≡ 0
  pub nesting : Represents [] reader.nesting
  pub levels : reader.levels ≡ open_widths widths
  pub few : bracket_count reader.nesting ≡ 0
  pub before : reader.before ≡ sort.Other

-- how many lexemes are left after a first piece
abbrev rest_after : Text → List ℕ → Piece → ℕ
rest_after text widths piece = length (remaining_outcome (after (at_line widths) piece) (0 + piece.len) (drop piece.len (drop 0 text))).lexemes

module _ (widths : List ℕ) (text : Text) (old new : Reader) (is_new : IsNew widths old) where
  pub margin_taken : (whole : ℕ) → IsUtf8 text → length text < 2 ^ 32 → IsTaken text 0 (first_margin (open_widths widths) text) [] widths new.levels new.pending whole
      → IsOfMargin 0 (margin_of (drop 0 text)).at old.levels new.pending → new.nesting ≡ old.nesting → new.before ≡ sort.Layout → new.at ≡ old.at + whole → new.stage ≡ stage.Onward → IsRead (Line widths) text (outcome_after (at_line widths) text) None new
  margin_taken whole utf8 short taken of nesting before is_at is_onward =
      let layout = first_is_quiet (open_widths widths) text taken.piece taken.stands in
      let few : bracket_count old.nesting + length text < 2 ^ 32 + new.at = omega (arith, is_new.few, short) in
      let end : new.at ≡ 0 + taken.piece.len = omega (arith, is_at, is_new.at, taken.whole) in
      took_first widths text new taken.piece utf8 taken.stands (record { cut = cut; cuts = cuts })
      (rw nesting (quiet_kept taken.piece.lexemes [] old.nesting layout.tokens is_new.nesting)) taken.open_now (ap before_view before ∙ sym layout.sort) end (rw nesting few) is_onward (hands_later text new.pending _ taken.is_pending taken.lexemes)
    where
      cut : Line widths ≡ Start → IsCutAhead text new stage.Onward (length (pending_lexemes text new.pending) + rest_after text widths taken.piece)
      cut start on layout_now flat inside =
          subst (λ ws. IsMarginAhead text new.pending (length (pending_lexemes text new.pending) + rest_after text ws taken.piece)) (sym (none_open widths start))
          (first_ahead_cut text old.levels taken.piece new.pending (start_step widths text _ taken.stands start) of taken.lexemes)

      cuts : Line widths ≡ Start → HoldsCuts text new stage.Onward (rest_after text widths taken.piece) (length taken.piece.lexemes + rest_after text widths taken.piece) (length (pending_lexemes text new.pending) + rest_after text widths taken.piece)
      cuts start = subst (λ ws. HoldsCuts text new stage.Onward (rest_after text ws taken.piece) (length taken.piece.lexemes + rest_after text ws taken.piece) (length (pending_lexemes text new.pending) + rest_after text ws taken.piece)) (sym (none_open widths start)) (λ x remainder cut least most.
          ((refl, before, of.flat ∙ ap (λ (levels : List ℕ). length levels == 0) (is_new.levels ∙ flat_start widths start)), first_cut text old.levels taken.piece new.pending (start_step widths text _ taken.stands start) of taken.lexemes x remainder cut least most))

  pub margin_refused : (error : LexemeError) (end : ℕ) → IsRefused text (first_margin (open_widths widths) text) (margin_of text).comments widths new.levels new.pending error end
      → new.stage ≡ stage.Fault (old.at + 0) error (old.at + end) → new.at ≡ old.at → new.before ≡ old.before → IsRead (Line widths) text (outcome_after (at_line widths) text) None new
  margin_refused error end refused is at before =
      failed_first widths text new (record { begin = 0; node = refused.node; end = end }) error refused.stands refused.is (is ∙ ap (λ n. stage.Fault (n + 0) error (n + end)) is_new.at) (hands_later text new.pending _ refused.is_pending refused.lexemes) (at ∙ is_new.at) (before ∙ is_new.before)
      refused.open_now

-- what is ahead where no lexeme is pending
pub none_before : {origin : Origin} → (text : Text) (reader : Reader) (now : Stage) (lexemes : List (Spanned TokenView)) (fault : Option (Spanned grammar.Fault)) (left : Outcome) → IsIdle text reader.pending → (ahead : IsAhead origin text reader now lexemes fault) → ahead.left ≡ left
    → (lexemes ≡ map shown_lexeme left.lexemes) × (fault ≡ left.fault)
none_before text reader now lexemes fault left idle ahead e = search rules

-- the outcome of a text is ahead, where something was read from its start on
pub first_ahead : {widths : List ℕ} → (text : Text) (old new : Reader) (lexemes : List (Spanned TokenView)) (fault : Option (Spanned grammar.Fault)) → IsRead (Line widths) text (outcome_after (at_line widths) text) None new → IsIdle text old.pending
    → IsAhead (Line widths) text old stage.Begin lexemes fault → IsAhead (Line widths) text new new.stage lexemes fault
first_ahead {widths = widths} text old new lexemes fault read idle ahead =
    let both = none_before text old stage.Begin lexemes fault (outcome_after (at_line widths) text) idle ahead ahead.is_left.0 in
    read_ahead text (outcome_after (at_line widths) text) None new lexemes fault read both.0 both.1

pub new_ahead : {widths : List ℕ} → (text : Text) (old : Reader) (lexemes : List (Spanned TokenView)) (fault : Option (Spanned grammar.Fault)) → IsAhead (Line widths) text old stage.Begin lexemes fault → IsNew widths old
new_ahead text old lexemes fault ahead = record { at = ahead.is_left.1; nesting = ahead.is_left.2; levels = ahead.is_left.3; few = ahead.is_left.4; before = ahead.is_left.5 }

-- all of a text is ahead at the start of a line
pub line_ahead : (widths : List ℕ) (text : Text) (reader : Reader) → reader.stage ≡ stage.Begin → IsNew widths reader → IsPending text reader.pending → pending_lexemes text reader.pending ≡ []
    → IsAhead (Line widths) text reader reader.stage (map shown_lexeme (outcome_after (at_line widths) text).lexemes) (outcome_after (at_line widths) text).fault
line_ahead widths text reader now is_new is_pending none =
    let left = outcome_after (at_line widths) text in
    record {
      left = left;
      is_left = subst (λ (s : Stage). IsLeft (Line widths) text reader s left) (sym now) (refl, is_new.at, is_new.nesting, is_new.levels, is_new.few, is_new.before, tt);
      is_pending = is_pending;
      ahead = ap (λ (ls : List Lexeme). map shown_lexeme ls ++ map shown_lexeme left.lexemes) (sym none);
      those_after = refl;
      cut = λ start on. let both : stage.Begin ≡ stage.Onward = sym now ∙ on in cc;
      cuts = λ start x remainder cut least most. absurd (omega (arith, least, most, length-map left.lexemes shown_lexeme));
    }

pub start_ahead : (text : Text) (reader : Reader) → reader.stage ≡ stage.Begin → IsNew [] reader → IsPending text reader.pending → pending_lexemes text reader.pending ≡ []
    → IsAhead Start text reader reader.stage (map shown_lexeme (outcome text).lexemes) (outcome text).fault
start_ahead text reader now is_new is_pending none =
    subst (λ (found : Outcome). IsAhead Start text reader reader.stage (map shown_lexeme found.lexemes) found.fault) (outcome_after_nothing text) (line_ahead [] text reader now is_new is_pending none)

pub unread : (reader : Reader) → reader.at ≡ 0 → Represents [] reader.nesting → reader.levels ≡ [] → bracket_count reader.nesting ≡ 0 → reader.before ≡ sort.Other → IsNew [] reader
unfolding open_widths
unread reader at nesting levels few before = record { at = at; nesting = nesting; levels = levels; few = few; before = before }
