-- What a clean cut and a text after it come to where a tab stands in that text's first margin.
use Rattle.std.proofs.Common.{◌≡◌, ℕ, ◌+◌, ◌≤◌, ◌<◌, Bool, true, false, not, List, [], ◌∷◌, ◌++◌, length, take, drop, map, refl, ap, ◌∙◌, sym, subst, Some, None, arith, append-nil, ◌⊎◌, inl, inr}
use Rattle.std.specs.Prelude.{◌||◌, ◌==◌, if◌then◌else◌}
use Rattle.std.specs.List.{list_all}
use Rattle.std.proofs.lemmas.Bool.{and_parts}
use Rattle.std.proofs.lemmas.List.Sums.{sum_by-cons}
use Rattle.std.proofs.lemmas.List.{drop-append-le, length-drop}
use Rattle.starlark_grammar.specs.Words.{Text, language}
use Rattle.starlark_grammar.specs.Tokens.{Newline, InvalidTab, Lexeme, Spanned, Fault, moved, Outcome}
use Rattle.starlark_grammar.specs.Margins.{Margin, margin_of, is_content, has_tab, open_widths, width_of, fits}
use Rattle.starlark_grammar.specs.Pieces.{Layout, Piece, Step, Stands, Fails, Ends, Situation, margin_step, step_at}
use Rattle.starlark_grammar.specs.Reading.{History, nothing, after, after_all, situation, next_step, pieces_len, lexemes_along, outcome_of, outcome}
use Rattle.starlark_grammar.specs.Longest.{IsReading, IsLongestReading}
use Rattle.starlark_grammar.specs.Cuts.{is_layout, is_clean_cut, without_closing, is_newline, before_newline, tabbed}
use Rattle.starlark_grammar.specs.TextLaws.{HasFirstMargin}
use Rattle.starlark_grammar.proofs.MarginComments.{margin_holds}
use Rattle.starlark_grammar.proofs.Lists.{drop-sum}
use Rattle.starlark_grammar.proofs.Reading.Readings.{outcome_only, started, piece_fits}
use Rattle.starlark_grammar.proofs.Reading.Steps.{is_nothing}
use Rattle.starlark_grammar.proofs.Joining.Followed.{ends_line, ends_line_drop}
use Rattle.starlark_grammar.proofs.Joining.FollowedMargins.{whole_after, Followed, Whole, Within, margin_after, followed, has_whole_lines}
use Rattle.starlark_grammar.proofs.Joining.Settled.{Settled}
use Rattle.starlark_grammar.proofs.Joining.Joined.{whole_from_ends, last_line_end, margin_step_len, blank_step, next_stays, inside, all_moved, reads_on}
use Rattle.starlark_grammar.proofs.Joining.CleanCuts.{Cut, cut, along_append, pieces_append, but_last}

-- First margins

abbrev pub tab : Spanned Fault
tab = record { begin = 0; node = InvalidTab; end = 0 }

-- content with a tab before it
pub record HasTab (margin : Margin) : Type 0 where
  pub content : is_content margin.remainder ≡ true
  pub is : has_tab margin ≡ true

pub margin_tab : (len : ℕ) (lexemes : List Lexeme) (levels : List ℕ) (margin : Margin) → HasTab margin → margin_step len lexemes levels margin ≡ Fails tab
unfolding margin_step
margin_tab len lexemes levels margin h = rw (h.content, h.is) refl

-- every width fits where none is open
any_fits : (width : ℕ) → fits width [] ≡ true
unfolding fits
any_fits width = go (width == 0)
  where
    go : (test : Bool) → (test || false || true) ≡ true
    go true = refl
    go false = refl

-- the fault of a first margin is a tab's
pub tab_of : (margin : Margin) (found : Spanned Fault) → margin_step 0 [] [] margin ≡ Fails found → HasTab margin
unfolding margin_step
tab_of margin found e = go (is_content margin.remainder) (has_tab margin) (fits (width_of margin) []) _ _ _ refl refl (any_fits (width_of margin)) e
  where
    go : (content is fitting : Bool) (one other : Piece) (misfit : Spanned Fault) → is_content margin.remainder ≡ content → has_tab margin ≡ is → fitting ≡ true
        → (if not content then Stands one else (if is then Fails tab else (if fitting then Stands other else Fails misfit))) ≡ Fails found → HasTab margin
    go false is fitting one other misfit c t f e = cc
    go true true fitting one other misfit c t f e = record { content = c; is = t }
    go true false true one other misfit c t f e = cc
    go true false false one other misfit c t f e = cc

pub never_ends : (margin : Margin) → margin_step 0 [] [] margin ≡ Ends → ⊥
unfolding margin_step
never_ends margin e = go (not (is_content margin.remainder)) (has_tab margin) (fits (width_of margin) []) _ _ _ _ e
  where
    go : (blank is fitting : Bool) (one other : Piece) (wrong misfit : Spanned Fault)
        → (if blank then Stands one else (if is then Fails wrong else (if fitting then Stands other else Fails misfit))) ≡ Ends → ⊥
    go true is fitting one other wrong misfit e = cc
    go false true fitting one other wrong misfit e = cc
    go false false true one other wrong misfit e = cc
    go false false false one other wrong misfit e = cc

pub first_step : (text : Text) → next_step language nothing text ≡ margin_step 0 [] [] (margin_of text)
unfolding next_step situation step_at open_widths
first_step text = refl

-- A text's first margin stands, or it has a tab.
pub first_margin_is : (text : Text) → HasFirstMargin language text ⊎ HasTab (margin_of text)
first_margin_is text = go (next_step language nothing text) refl
  where
    go : (step : Step) → next_step language nothing text ≡ step → HasFirstMargin language text ⊎ HasTab (margin_of text)
    go (Stands piece) e = inl (piece, e)
    go (Fails fault) e = inr (tab_of (margin_of text) fault (sym (first_step text) ∙ e))
    go Ends e = absurd (never_ends (margin_of text) (sym (first_step text) ∙ e))

-- Lists of lexemes without a `Newline`

abbrev no_newline : List Lexeme → Bool
no_newline lexemes = list_all (λ (lexeme : Lexeme). not (is_newline lexeme.node)) lexemes

margin_comments : (text : Text) → no_newline (margin_of text).comments ≡ true
margin_comments = margin_holds (λ ls. no_newline ls ≡ true) refl (λ at line rest h. h)

none_moved : (n : ℕ) (lexemes : List Lexeme) → no_newline lexemes ≡ true → no_newline (map (moved n) lexemes) ≡ true
none_moved n [] h = refl
none_moved n (lexeme ∷ lexemes) h =
    let parts = and_parts (not (is_newline lexeme.node)) (no_newline lexemes) h in
    rw (parts.0) (none_moved n lexemes parts.1)

not_true : (test : Bool) → not test ≡ true → test ≡ false
not_true true h = cc
not_true false h = refl

-- without one none is found
none_found : (lexemes : List Lexeme) → no_newline lexemes ≡ true → before_newline lexemes ≡ None
none_found [] h = refl
none_found (lexeme ∷ lexemes) h =
    let parts = and_parts (not (is_newline lexeme.node)) (no_newline lexemes) h in
    rw (none_found lexemes parts.1, not_true (is_newline lexeme.node) parts.0) refl

-- the last is found
last_found : (before : List Lexeme) (lexeme : Lexeme) (remainder : List Lexeme) → is_newline lexeme.node ≡ true → no_newline remainder ≡ true → before_newline (before ++ lexeme ∷ remainder) ≡ Some (before, lexeme.begin)
last_found [] lexeme remainder is none = rw (none_found remainder none, is) refl
last_found (first ∷ before) lexeme remainder is none = rw (last_found before lexeme remainder is none) refl

-- The last piece

-- the last margin of a text of whole lines, with a tab in the margin after it
record TabMargin (len : ℕ) (lexemes : List Lexeme) (levels : List ℕ) (text more : Text) (piece : Piece) : Type 0 where
  fails : margin_step len lexemes levels (margin_of (text ++ more)) ≡ Fails tab
  found : piece.lexemes ≡ lexemes ++ map (moved len) (margin_of text).comments
  comments : (margin_of (text ++ more)).comments ≡ (margin_of text).comments ++ map (moved (length text)) (margin_of more).comments

tab_margin : (len : ℕ) (lexemes : List Lexeme) (levels : List ℕ) (text more : Text) (piece : Piece) → has_whole_lines text ≡ true → margin_step len lexemes levels (margin_of text) ≡ Stands piece → piece.len ≡ len + length text → HasTab (margin_of more)
    → TabMargin len lexemes levels text more piece
tab_margin len lexemes levels text more piece whole stands reach has = go (followed text more whole)
  where
    last : Piece
    last = record { len = len + (length text + 0); lexemes = lexemes ++ map (moved len) ((margin_of text).comments ++ []); width = None; sort = Layout }

    go : Followed text more → TabMargin len lexemes levels text more piece
    go (Whole e f) =
        let is_last : Stands last ≡ Stands piece = sym (ap (margin_step len lexemes levels) e ∙ blank_step len lexemes levels (margin_of text).comments (length text)) ∙ stands in
        let same : last ≡ piece = cc in
        record {
          fails = ap (margin_step len lexemes levels) f ∙ margin_tab len lexemes levels (margin_after (length text) (margin_of text).comments (margin_of more)) (record { content = has.content; is = has.is });
          found = sym (ap (λ (p : Piece). p.lexemes) same) ∙ ap (λ ls. lexemes ++ map (moved len) ls) (append-nil (margin_of text).comments);
          comments = ap (λ (m : Margin). m.comments) f;
        }
    go (Within some less f) = absurd (omega (arith, less, reach, margin_step_len len lexemes levels (margin_of text) piece stands))

-- a line end and comments after it
record LineEnds (piece : Piece) : Type 0 where
  len : ℕ
  comments : List Lexeme
  lexemes : piece.lexemes ≡ record { begin = 0; node = Newline; end = len } ∷ comments
  none : no_newline comments ≡ true

-- a line end that counts, at the end of a text, with a tab after it
line_tabbed : (s : Situation) (text more : Text) (piece : Piece) → is_nothing s.before ≡ false → ends_line text ≡ true → is_layout piece.sort ≡ true → piece.len ≡ length text → step_at language s text ≡ Stands piece → HasTab (margin_of more)
    → (step_at language s (text ++ more) ≡ Fails tab) × LineEnds piece
line_tabbed s text more piece later ends laid reach stands has =
    let end = last_line_end s text more piece ends laid later stands in
    let len : ℕ = length (take end.len text) in
    let line : Lexeme = record { begin = 0; node = Newline; end = len } in
    let found = tab_margin len (line ∷ []) s.levels (drop end.len text) more piece (whole_after end.len text (whole_from_ends text ends)) end.stands (omega (arith, reach, end.total)) has in (
      end.step ∙ found.fails,
      record {
        len = len;
        comments = map (moved len) (margin_of (drop end.len text)).comments;
        lexemes = found.found;
        none = none_moved len (margin_of (drop end.len text)).comments (margin_comments (drop end.len text));
      },
    )

-- Readings

-- the reading of a settled text with a tab after it: all but the last piece, which is a line end
record Tabbed (history : History) (text more : Text) (pieces : List Piece) : Type 0 where
  front : List Piece
  last : Piece
  split : pieces ≡ front ++ last ∷ []
  reads : IsReading language history (text ++ more) front
  fails : next_step language (after_all history front) (drop (pieces_len front) (text ++ more)) ≡ Fails tab
  some : 1 ≤ last.len
  line : LineEnds last

some_text : (text : Text) → ends_line text ≡ true → 1 ≤ length text
some_text [] h = cc
some_text (b ∷ bs) h = omega arith

last_tabbed : (history : History) (text more : Text) (piece : Piece) → is_nothing history.before ≡ false → ends_line text ≡ true → next_step language history text ≡ Stands piece → piece.len ≡ length text → Settled (after history piece) → HasTab (margin_of more)
    → Tabbed history text more (piece ∷ [])
unfolding next_step situation after
last_tabbed history text more piece later ends stands reach settled has =
    let found = line_tabbed (situation history) text more piece later ends settled.layout reach stands has in
    record {
      front = [];
      last = piece;
      split = refl;
      reads = tt;
      fails = found.0;
      some = omega (arith, reach, some_text text ends);
      line = found.1;
    }

tabbed_reading : (history : History) (text more : Text) (pieces : List Piece) → is_nothing history.before ≡ false → ends_line text ≡ true → ¬ (pieces ≡ []) → IsReading language history text pieces → pieces_len pieces ≡ length text → Settled (after_all history pieces) → HasTab (margin_of more)
    → Tabbed history text more pieces
tabbed_reading history text more [] later ends some reads reach settled has = absurd (some refl)
tabbed_reading history text more (piece ∷ []) later ends some reads reach settled has =
    last_tabbed history text more piece later ends reads.0 (omega (arith, reach, sum_by-cons (λ (piece : Piece). piece.len) piece [])) settled has
tabbed_reading history text more (piece ∷ next ∷ pieces) later ends some reads reach settled has =
    let less = inside history text piece next reads.0 reads.1.0 in
    let rest = tabbed_reading (after history piece) (drop piece.len text) more (next ∷ pieces) (started history piece (piece_fits language history text piece reads.0).sort) (ends_line_drop piece.len text less ends) (no_cons next pieces) reads.1 (omega (arith, reach, sum_by-cons (λ (piece : Piece). piece.len) piece (next ∷ pieces), length-drop piece.len text)) settled has in
    let left : drop piece.len (text ++ more) ≡ drop piece.len text ++ more = drop-append-le piece.len text more (omega (arith, less)) in
    let gone : drop (pieces_len (piece ∷ rest.front)) (text ++ more) ≡ drop (pieces_len rest.front) (drop piece.len text ++ more) =
    ap (λ n. drop n (text ++ more)) (sum_by-cons (λ (piece : Piece). piece.len) piece rest.front) ∙ drop-sum piece.len (pieces_len rest.front) (text ++ more) ∙ ap (drop (pieces_len rest.front)) left in
    record {
      front = piece ∷ rest.front;
      last = rest.last;
      split = ap (λ ps. piece ∷ ps) rest.split;
      reads = reads_on history text more piece rest.front ends less reads.0 rest.reads;
      fails = ap (next_step language (after_all (after history piece) rest.front)) gone ∙ rest.fails;
      some = rest.some;
      line = rest.line;
    }
  where
    no_cons : (p : Piece) (ps : List Piece) → p ∷ ps ≡ [] → ⊥
    no_cons p ps e = cc

-- Outcomes

-- The reading of a clean cut and a tab after it, and what that comes to.
pub record BehindTab (text more : Text) : Type 0 where
  pub front : List Piece
  pub longest : IsLongestReading language nothing (text ++ more) front (Fails tab)
  pub less : pieces_len front < length text
  pub is : outcome (text ++ more) ≡ tabbed (length text) (without_closing (outcome text).lexemes) (margin_of more).comments

pub tab_longest : (text : Text) (front : List Piece) → IsReading language nothing text front → next_step language (after_all nothing front) (drop (pieces_len front) text) ≡ Fails tab → IsLongestReading language nothing text front (Fails tab)
tab_longest text front reads fails = record { reads = reads; stands_last = fails; no_piece = λ piece e. cc }

pub outcome_by : (text : Text) (front : List Piece) (last : Step) → IsLongestReading language nothing text front last → outcome text ≡ outcome_of text front last
unfolding outcome
outcome_by text front last longest = sym (outcome_only language text _ (record { pieces = front; last = last; longest = longest; same = refl }))

abbrev tab_at : List Lexeme → ℕ → Outcome
tab_at lexemes place = record { lexemes = lexemes; fault = Some (record { begin = place; node = InvalidTab; end = place }) }

module _ (text more : Text) (has : HasTab (margin_of more)) where
  -- the lexemes of a cut without the closing `Newline`
  kept : (pieces : List Piece) → Cut text pieces → without_closing (outcome text).lexemes ≡ lexemes_along 0 pieces
  kept pieces here = ap without_closing here.lexemes ∙ but_last (lexemes_along 0 pieces) (record { begin = length text; node = Newline; end = length text })

  -- a text of comments alone
  comments_tabbed : (piece : Piece) → Cut text (piece ∷ []) → BehindTab text more
  comments_tabbed piece here =
      let reach : piece.len ≡ 0 + length text = omega (arith, here.reach, sum_by-cons (λ (piece : Piece). piece.len) piece []) in
      let found = tab_margin 0 [] [] text more piece (whole_from_ends text here.ends) (sym (first_step text) ∙ here.reads.0) reach has in
      let longest = tab_longest (text ++ more) [] tt (first_step (text ++ more) ∙ found.fails) in
      let same : without_closing (outcome text).lexemes ≡ (margin_of text).comments =
      kept (piece ∷ []) here ∙ append-nil (map (moved 0) piece.lexemes) ∙ ap (map (moved 0)) found.found ∙ all_moved 0 0 0 (margin_of text).comments refl ∙ unmoved (margin_of text).comments in
      record {
        front = [];
        longest = longest;
        less = some_text text here.ends;
        is = outcome_by (text ++ more) [] (Fails tab) longest ∙ ap (λ ls. tab_at ls 0) found.comments
            ∙ sym (ap (λ ls. tabbed (length text) ls (margin_of more).comments) same ∙ rw (none_found (margin_of text).comments (margin_comments text)) refl);
      }
    where
      unmoved : (lexemes : List Lexeme) → map (moved 0) lexemes ≡ lexemes
      unmoved [] = refl
      unmoved (lexeme ∷ lexemes) =
          let begin : 0 + lexeme.begin ≡ lexeme.begin = omega arith in
          let end : 0 + lexeme.end ≡ lexeme.end = omega arith in
          rw (begin, end, unmoved lexemes) refl

  -- a text with a line end that counts
  lines_tabbed : (first : Piece) (pieces : List Piece) → Cut text (first ∷ pieces) → Tabbed (after nothing first) (drop first.len text) more pieces → next_step language nothing (text ++ more) ≡ Stands first → first.len ≤ length text → BehindTab text more
  lines_tabbed first pieces here rest stands less =
      let front : List Piece = first ∷ rest.front in
      let total : pieces_len (first ∷ rest.front) ≡ first.len + pieces_len rest.front = sum_by-cons (λ (piece : Piece). piece.len) first rest.front in
      let left : drop first.len (text ++ more) ≡ drop first.len text ++ more = drop-append-le first.len text more less in
      let gone : drop (pieces_len (first ∷ rest.front)) (text ++ more) ≡ drop (pieces_len rest.front) (drop first.len text ++ more) =
      ap (λ n. drop n (text ++ more)) total ∙ drop-sum first.len (pieces_len rest.front) (text ++ more) ∙ ap (drop (pieces_len rest.front)) left in
      let longest = tab_longest (text ++ more) (first ∷ rest.front) (stands, subst (λ (t : Text). IsReading language (after nothing first) t rest.front) (sym left) rest.reads) (ap (next_step language (after_all (after nothing first) rest.front)) gone ∙ rest.fails) in
      let place : ℕ = 0 + pieces_len (first ∷ rest.front) in
      let line : Lexeme = record { begin = 0 + pieces_len (first ∷ rest.front) + 0; node = Newline; end = 0 + pieces_len (first ∷ rest.front) + rest.line.len } in
      let remainder : List Lexeme = map (moved (0 + pieces_len (first ∷ rest.front))) rest.line.comments in
      let last : lexemes_along (0 + pieces_len (first ∷ rest.front)) (rest.last ∷ []) ≡ record { begin = 0 + pieces_len (first ∷ rest.front) + 0; node = Newline; end = 0 + pieces_len (first ∷ rest.front) + rest.line.len } ∷ map (moved (0 + pieces_len (first ∷ rest.front))) rest.line.comments =
      append-nil (map (moved (0 + pieces_len (first ∷ rest.front))) rest.last.lexemes) ∙ ap (map (moved (0 + pieces_len (first ∷ rest.front)))) rest.line.lexemes in
      let same : without_closing (outcome text).lexemes ≡ lexemes_along 0 (first ∷ rest.front) ++ (record { begin = 0 + pieces_len (first ∷ rest.front) + 0; node = Newline; end = 0 + pieces_len (first ∷ rest.front) + rest.line.len } ∷ map (moved (0 + pieces_len (first ∷ rest.front))) rest.line.comments) =
      kept (first ∷ pieces) here ∙ ap (λ ps. lexemes_along 0 (first ∷ ps)) rest.split ∙ along_append 0 (first ∷ rest.front) (rest.last ∷ []) ∙ ap (λ ls. lexemes_along 0 (first ∷ rest.front) ++ ls) last in
      let found = last_found (lexemes_along 0 (first ∷ rest.front)) line remainder refl (none_moved (0 + pieces_len (first ∷ rest.front)) rest.line.comments rest.line.none) in
      let at : 0 + pieces_len (first ∷ rest.front) + 0 ≡ pieces_len (first ∷ rest.front) + 0 = omega arith in
      record {
        front = first ∷ rest.front;
        longest = longest;
        less = omega (arith, here.reach, sum_by-cons (λ (piece : Piece). piece.len) first pieces, total, ap pieces_len rest.split, pieces_append rest.front (rest.last ∷ []), sum_by-cons (λ (piece : Piece). piece.len) rest.last [], rest.some);
        is = outcome_by (text ++ more) (first ∷ rest.front) (Fails tab) longest ∙ ap (tab_at (lexemes_along 0 (first ∷ rest.front))) (sym at)
            ∙ sym (ap (λ ls. tabbed (length text) ls (margin_of more).comments) same ∙ rw found refl);
      }

  by_pieces : (pieces : List Piece) → Cut text pieces → BehindTab text more
  by_pieces [] here = absurd (here.some refl)
  by_pieces (piece ∷ []) here = comments_tabbed piece here
  by_pieces (first ∷ next ∷ pieces) here =
      let less = inside nothing text first next here.reads.0 here.reads.1.0 in
      let total = sum_by-cons (λ (piece : Piece). piece.len) first (next ∷ pieces) in
      let rest = tabbed_reading (after nothing first) (drop first.len text) more (next ∷ pieces) (started nothing first (piece_fits language nothing text first here.reads.0).sort) (ends_line_drop first.len text less here.ends) (no_cons next pieces) here.reads.1
      (omega (arith, here.reach, total, length-drop first.len text)) here.is_settled has in
      lines_tabbed first (next ∷ pieces) here rest (next_stays nothing text more first here.ends less here.reads.0) (omega (arith, less))
    where
      no_cons : (p : Piece) (ps : List Piece) → p ∷ ps ≡ [] → ⊥
      no_cons p ps e = cc

pub after_tab : (text more : Text) → is_clean_cut text ≡ true → HasTab (margin_of more) → BehindTab text more
after_tab text more h has = by_pieces text more has _ (cut text h)
