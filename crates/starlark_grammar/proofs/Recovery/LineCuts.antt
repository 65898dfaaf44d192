-- Cuts between lines, and what they and a text after them are together.
use Rattle.std.proofs.lemmas.List.{map-append}
use Rattle.std.proofs.Common.{◌≡◌, ℕ, zero, suc, ◌+◌, ◌<◌, Bool, true, false, List, [], ◌∷◌, ◌++◌, length, drop, map, refl, ap, ◌∙◌, sym, subst, Some, None, arith, append_assoc, append-nil}
use Rattle.std.specs.Prelude.{◌&&◌, ◌||◌, codes, nat_eq, option_map}
use Rattle.std.specs.List.{ends_with}
use Rattle.std.proofs.lemmas.Bool.{and_parts}
use Rattle.std.proofs.lemmas.List.Sums.{sum_by-cons}
use Rattle.std.proofs.Math.Seq.{drop-append-add}
use Rattle.starlark_grammar.specs.Words.{Text, language}
use Rattle.starlark_grammar.specs.Tokens.{Newline, Lexeme, moved, Outcome}
use Rattle.starlark_grammar.specs.Depths.{mode_by, mode_after, open_fstring, is_balanced, is_outside}
use Rattle.starlark_grammar.specs.Margins.{lines, margin_of, open_widths}
use Rattle.starlark_grammar.specs.Pieces.{Before, Layout, Other, Piece, Step, Stands, Fails, Ends, Situation, first_margin, margin_step, step_at}
use Rattle.starlark_grammar.specs.Reading.{History, nothing, after, after_all, situation, next_step, pieces_len, lexemes_along, lexemes_before, closing, outcome_of, reading_outcome, outcome, outcome_after, history_after, read_len}
use Rattle.starlark_grammar.specs.Longest.{IsReading, IsLongestReading}
use Rattle.starlark_grammar.specs.Cuts.{is_layout, is_newline, is_faultless}
use Rattle.starlark_grammar.specs.Found.{at_line}
use Rattle.starlark_grammar.proofs.Indentation.Widths.{positive}
use Rattle.starlark_grammar.proofs.Reading.Onward.{after_by, first_step_after, last_after, longest_after, outcome_after_nothing, outcome_is, pieces_after, read_by}
use Rattle.starlark_grammar.proofs.Reading.Readings.{one_longest, longest_onward}
use Rattle.starlark_grammar.proofs.Joining.Followed.{ends_line, ends_line_of, ends_line_some}
use Rattle.starlark_grammar.proofs.Joining.Settled.{Settled, outside_none, remainder, widths_settled, situation_after, after_onto, next_after, all_after}
use Rattle.starlark_grammar.proofs.Joining.Joined.{moved_both}
use Rattle.starlark_grammar.proofs.Joining.CleanCuts.{CharacterStarts, along_append, begun, faultless_reading, longest_append, past_append, pieces_append, along_later, same_outcome, some_before, some_append}
use Rattle.starlark_grammar.proofs.Joining.Tabs.{first_step}
use Rattle.starlark_grammar.proofs.Joining.Laws.{ends_after}
use Rattle.starlark_grammar.specs.Joining.{is_between_lines, is_line_cut, is_line_cut_after, has_newline, without_last_newline, begins_plainly, LineCutsJoin, LineCutsOfJoined}
use Rattle.starlark_grammar.proofs.Recovery.ClosedBlocks.{closing_piece, onto_dedents, plain_content, plain_margin, closing_step, dedents, dedents_moved, open_count, closed_after, none_open_dedents, balanced_dedents, none_wider, Closed, close_reading}

-- The last `Newline` of some lexemes

no_newline_dedents : (count at : ℕ) → has_newline (dedents count at) ≡ false
no_newline_dedents zero at = refl
no_newline_dedents (suc count) at = no_newline_dedents count at

pub has_newline_later : (front more : List Lexeme) → has_newline more ≡ true → has_newline (front ++ more) ≡ true
has_newline_later [] more h = h
has_newline_later (lexeme ∷ front) more h = or_right (is_newline lexeme.node) (has_newline_later front more h)
  where
    or_right : (first : Bool) {later : Bool} → later ≡ true → (first || later) ≡ true
    or_right true e = refl
    or_right false e = e

pub has_newline_moved : (n : ℕ) (lexemes : List Lexeme) → has_newline (map (moved n) lexemes) ≡ has_newline lexemes
has_newline_moved n [] = refl
has_newline_moved n (lexeme ∷ lexemes) = ap (λ (later : Bool). is_newline lexeme.node || later) (has_newline_moved n lexemes)

-- where a `Newline` comes later, what is before that stays
pub left_out_later : (front more : List Lexeme) → has_newline more ≡ true → without_last_newline (front ++ more) ≡ front ++ without_last_newline more
left_out_later [] more h = refl
left_out_later (lexeme ∷ front) more h = rw (has_newline_later front more h) (ap (λ ls. lexeme ∷ ls) (left_out_later front more h))

-- the last `Newline` is left out
pub newline_left_out : (front : List Lexeme) (newline : Lexeme) (more : List Lexeme) → is_newline newline.node ≡ true → has_newline more ≡ false → without_last_newline (front ++ (newline ∷ more)) ≡ front ++ more
newline_left_out front newline more h none = left_out_later front (newline ∷ more) (ap (λ (b : Bool). b || has_newline more) h) ∙ ap (λ ls. front ++ ls) last
  where
    last : without_last_newline (newline ∷ more) ≡ more
    last = rw (none, h) refl

-- where there is none all stays
pub none_left_out : (lexemes : List Lexeme) → has_newline lexemes ≡ false → without_last_newline lexemes ≡ lexemes
none_left_out [] h = refl
none_left_out (lexeme ∷ lexemes) h = go (is_newline lexeme.node) (has_newline lexemes) refl refl h
  where
    go : (first later : Bool) → is_newline lexeme.node ≡ first → has_newline lexemes ≡ later → (first || later) ≡ false → without_last_newline (lexeme ∷ lexemes) ≡ lexeme ∷ lexemes
    go true later e f none = cc
    go false true e f none = cc
    go false false e f none = rw (f, e) refl

-- it is the same one in moved lexemes
pub left_out_moved : (n : ℕ) (lexemes : List Lexeme) → without_last_newline (map (moved n) lexemes) ≡ map (moved n) (without_last_newline lexemes)
left_out_moved n [] = refl
left_out_moved n (lexeme ∷ lexemes) = go (is_newline lexeme.node) (has_newline lexemes) refl refl (left_out_moved n lexemes)
  where
    go : (first later : Bool) → is_newline lexeme.node ≡ first → has_newline lexemes ≡ later → without_last_newline (map (moved n) lexemes) ≡ map (moved n) (without_last_newline lexemes)
        → without_last_newline (map (moved n) (lexeme ∷ lexemes)) ≡ map (moved n) (without_last_newline (lexeme ∷ lexemes))
    go first true e f more = rw (has_newline_moved n lexemes, f) (ap (λ ls. moved n lexeme ∷ ls) more)
    go true false e f more = rw (has_newline_moved n lexemes, f, e) refl
    go false false e f more = rw (has_newline_moved n lexemes, f, e) refl

-- the closing `Newline` of a text without fault
pub closing_left_out : (front : List Lexeme) (at : ℕ) (history : History) → without_last_newline (front ++ closing at history) ≡ front ++ dedents (open_count history) at
closing_left_out front at history = newline_left_out front (record { begin = at; node = Newline; end = at }) (dedents (open_count history) at) refl (no_newline_dedents (open_count history) at)

-- A cut between lines, by its reading

pub record LineCut (history : History) (text : Text) (pieces : List Piece) : Type 0 where
  pub some : ¬ (pieces ≡ [])
  pub ends : ends_line text ≡ true
  pub reads : IsReading language history text pieces
  pub reach : pieces_len pieces ≡ length text
  pub layout : is_layout (after_all history pieces).before ≡ true
  pub none_open : open_fstring 0 (after_all history pieces).tokens ≡ None
  pub balanced : is_balanced (after_all history pieces).tokens ≡ true
  pub is : outcome_after history text ≡ record { lexemes = lexemes_along 0 pieces ++ closing (length text) (after_all history pieces); fault = None }

-- its lexemes without the closing `Newline`
pub line_cut_lexemes : (history : History) (text : Text) (pieces : List Piece) → LineCut history text pieces
    → without_last_newline (outcome_after history text).lexemes ≡ lexemes_along 0 pieces ++ dedents (open_count (after_all history pieces)) (length text)
line_cut_lexemes history text pieces h =
    ap (λ (o : Outcome). without_last_newline o.lexemes) h.is ∙ closing_left_out (lexemes_along 0 pieces) (length text) (after_all history pieces)

-- it has no fault
pub line_cut_faultless : (history : History) (text : Text) (pieces : List Piece) → LineCut history text pieces → (outcome_after history text).fault ≡ None
line_cut_faultless history text pieces h = ap (λ (o : Outcome). o.fault) h.is

between_parts : (history : History) → is_between_lines history ≡ true → (is_layout history.before ≡ true) × (open_fstring 0 history.tokens ≡ None) × (is_balanced history.tokens ≡ true)
unfolding is_between_lines mode_after
between_parts history h =
    let one = and_parts (is_layout history.before && is_outside (mode_by (open_fstring 0 history.tokens))) _ h in
    let two = and_parts (is_layout history.before) _ one.0 in
    (two.0, outside_none _ two.1, one.1)

line_cut_of : (history : History) (text : Text) (pieces : List Piece) (last : Step) → IsLongestReading language history text pieces last → outcome_after history text ≡ reading_outcome history text pieces last
    → is_faultless last ≡ true → is_between_lines (after_all history pieces) ≡ true → ends_line text ≡ true → LineCut history text pieces
line_cut_of history text pieces last longest same faultless between ends = record {
  some = λ e. let some = ends_line_some text ends in let reach = whole.1 in omega (arith, ap pieces_len e, some, reach);
  ends = ends;
  reads = longest.reads;
  reach = whole.1;
  layout = parts.0;
  none_open = parts.1;
  balanced = parts.2;
  is = same ∙ ap (reading_outcome history text pieces) whole.0 ∙ ap (λ n. record { lexemes = lexemes_along 0 pieces ++ closing n (after_all history pieces); fault = None }) whole.1;
}
  where
    parts : (is_layout (after_all history pieces).before ≡ true) × (open_fstring 0 (after_all history pieces).tokens ≡ None) × (is_balanced (after_all history pieces).tokens ≡ true)
    parts = between_parts (after_all history pieces) between

    whole : (last ≡ Ends) × (pieces_len pieces ≡ length text)
    whole = faultless_reading history text pieces last longest faultless

pub line_cut : (history : History) (text : Text) → is_line_cut_after history text ≡ true → LineCut history text (pieces_after history text)
unfolding is_line_cut_after history_after
line_cut history text h =
    let one = and_parts (is_faultless (last_after history text) && is_between_lines (after_all history (pieces_after history text))) _ h in
    let two = and_parts (is_faultless (last_after history text)) _ one.0 in
    line_cut_of history text (pieces_after history text) (last_after history text) (longest_after history text) (outcome_is history text) two.0 two.1 (ends_line_of text one.1)

-- whether a text is a cut between lines, by a longest reading of it
pub line_cut_by : (history : History) (text : Text) (pieces : List Piece) (last : Step) → IsLongestReading language history text pieces last
    → is_line_cut_after history text ≡ (is_faultless last && is_between_lines (after_all history pieces) && ends_with nat_eq text (codes "\n"))
unfolding is_line_cut_after history_after
line_cut_by history text pieces last longest =
    let same = one_longest language history text (pieces_after history text) pieces (last_after history text) last (longest_after history text) longest in
    ap (λ (ps : List Piece). is_faultless (last_after history text) && is_between_lines (after_all history ps) && ends_with nat_eq text (codes "\n")) same.0
    ∙ ap (λ (step : Step). is_faultless step && is_between_lines (after_all history pieces) && ends_with nat_eq text (codes "\n")) same.1

-- The first margin of a text that begins plainly

abbrev pub plain_piece : Piece
plain_piece = record { len = 0; lexemes = []; width = Some 0; sort = Layout }

pub plain_step : (text : Text) → begins_plainly text ≡ true → next_step language nothing text ≡ Stands plain_piece
plain_step text begins = first_step text ∙ ap (margin_step 0 [] []) (plain_margin text begins) ∙ closing_step 0 [] [] [] 0 text (plain_content text begins) refl

pub plain_some : (text : Text) → begins_plainly text ≡ true → 0 < length text
unfolding begins_plainly
plain_some [] h = cc
plain_some (b ∷ bs) h = omega arith

-- Two places with nothing open

-- after them a text is read alike
reading_between : (one other history : History) (text : Text) (pieces : List Piece) → Settled one → Settled other → IsReading language (remainder one history) text pieces → IsReading language (remainder other history) text pieces
reading_between one other history text [] h k reads = tt
reading_between one other history text (piece ∷ pieces) h k reads = (
  next_after language other history text k ∙ sym (next_after language one history text h) ∙ reads.0,
  subst (λ (past : History). IsReading language past (drop piece.len text) pieces) (sym (after_onto other history piece))
      (reading_between one other (after history piece) (drop piece.len text) pieces h k
      (subst (λ (past : History). IsReading language past (drop piece.len text) pieces) (after_onto one history piece) reads.1)),
)

longest_between : (one other history : History) (text : Text) (pieces : List Piece) (last : Step) → Settled one → Settled other → IsLongestReading language (remainder one history) text pieces last → IsLongestReading language (remainder other history) text pieces last
longest_between one other history text pieces last h k longest = record {
  reads = reading_between one other history text pieces h k longest.reads;
  stands_last =
      let end = after_all history pieces in
      let rest = drop (pieces_len pieces) text in
      ap (λ (past : History). next_step language past rest) (all_after other history pieces)
      ∙ next_after language other end rest k ∙ sym (next_after language one end rest h)
      ∙ ap (λ (past : History). next_step language past rest) (sym (all_after one history pieces)) ∙ longest.stands_last;
  no_piece = longest.no_piece;
}

between_after : (earlier history : History) → Settled earlier → is_between_lines (remainder earlier history) ≡ is_between_lines history
unfolding is_between_lines situation
between_after earlier history h = ap (λ (s : Situation). is_layout s.before && is_outside s.mode && s.is_balanced) (situation_after earlier history h)

closing_after : (at : ℕ) (earlier history : History) → Settled earlier → closing at (remainder earlier history) ≡ closing at history
closing_after at earlier history h =
    ap (λ (ws : List ℕ). record { begin = at; node = Newline; end = at } ∷ dedents (length ws) at) (widths_settled earlier.widths history.widths h.no_width)

closing_moved : (n at : ℕ) (history : History) → closing (n + at) history ≡ map (moved n) (closing at history)
closing_moved n at history = ap (λ (ls : List Lexeme). record { begin = n + at; node = Newline; end = n + at } ∷ ls) (sym (dedents_moved n (open_count history) at))

-- a margin, and nothing else
abbrev margin_alone : History
margin_alone = record { tokens = []; widths = []; before = Layout }

-- content of width 0
abbrev line_alone : History
line_alone = record { tokens = []; widths = 0 ∷ []; before = Layout }

line_settled : Settled line_alone
unfolding open_fstring is_balanced open_widths
line_settled = record { layout = refl; none_open = refl; balanced = refl; no_width = refl }

line_after : after nothing plain_piece ≡ remainder line_alone margin_alone
unfolding after
line_after = refl

closed_settled : (history : History) → open_fstring 0 history.tokens ≡ None → is_balanced history.tokens ≡ true → Settled (closed_after history)
closed_settled history none_open balanced = record {
  layout = refl;
  none_open = none_open_dedents (open_count history) history.tokens none_open;
  balanced = balanced_dedents (open_count history) history.tokens balanced;
  no_width = none_wider history.widths;
}

closed_alone : (history : History) → closed_after history ≡ remainder (closed_after history) margin_alone
closed_alone history = ap (λ ws. record { tokens = (closed_after history).tokens; widths = ws; before = Layout }) (sym (append-nil (closed_after history).widths))

-- What a line follows: a cut between lines, or nothing, where lexing begins again at that line.
pub data BeforeLine : History → Text → Type 0 where
  AfterCut : (history : History) (text : Text) → is_line_cut_after history text ≡ true → BeforeLine history text
  AtLine : (widths : List ℕ) → BeforeLine (at_line widths) []

-- what is read before such a line, which closes all blocks if it begins plainly
pub record Closes (history : History) (text : Text) (pieces : List Piece) : Type 0 where
  pub none_open : open_fstring 0 (after_all history pieces).tokens ≡ None
  pub balanced : is_balanced (after_all history pieces).tokens ≡ true
  pub faultless : (outcome_after history text).fault ≡ None
  pub kept : without_last_newline (outcome_after history text).lexemes ≡ lexemes_along 0 pieces ++ dedents (open_count (after_all history pieces)) (length text)
  pub closed : (more : Text) → begins_plainly more ≡ true → Closed history text more pieces

cut_closes : (history : History) (text : Text) (pieces : List Piece) → LineCut history text pieces → Closes history text pieces
cut_closes history text pieces cut = record {
  none_open = cut.none_open;
  balanced = cut.balanced;
  faultless = line_cut_faultless history text pieces cut;
  kept = line_cut_lexemes history text pieces cut;
  closed = λ more begins. close_reading history text more pieces cut.ends cut.some cut.reads cut.reach cut.layout begins;
}

-- the piece of no text, at the start of a line
blank_piece : Piece
blank_piece = record { len = 0; lexemes = []; width = None; sort = Layout }

blank_margin : (levels : List ℕ) → first_margin levels [] ≡ Stands blank_piece
unfolding margin_step margin_of lines blank_piece
blank_margin levels = refl

empty_longest : (widths : List ℕ) → IsLongestReading language (at_line widths) [] (blank_piece ∷ []) Ends
unfolding next_step situation step_at after mode_after open_fstring blank_piece
empty_longest widths = record { reads = (first_step_after (at_line widths) [] refl ∙ blank_margin (open_widths widths), tt); stands_last = refl; no_piece = λ piece e. cc }

line_step : (widths : List ℕ) (text : Text) → begins_plainly text ≡ true → next_step language (at_line widths) text ≡ Stands (closing_piece (length (open_widths widths)) blank_piece)
unfolding blank_piece
line_step widths text begins =
    first_step_after (at_line widths) text refl ∙ ap (margin_step 0 [] (open_widths widths)) (plain_margin text begins)
    ∙ closing_step 0 [] (open_widths widths) [] 0 text (plain_content text begins) (positive widths)
    ∙ ap (λ (ls : List Lexeme). Stands (record { len = 0; lexemes = ls; width = Some 0; sort = Layout })) (dedents_moved 0 (length (open_widths widths)) 0)

pub line_closes : (widths : List ℕ) → Closes (at_line widths) [] []
unfolding open_fstring is_balanced after blank_piece
line_closes widths = record {
  none_open = refl;
  balanced = refl;
  faultless = ap (λ (o : Outcome). o.fault) alone;
  kept = ap (λ (o : Outcome). without_last_newline o.lexemes) alone ∙ closing_left_out [] 0 (at_line widths);
  closed = closed;
}
  where
    alone : outcome_after (at_line widths) [] ≡ record { lexemes = closing 0 (at_line widths); fault = None }
    alone =
        (after_by (at_line widths) [] (blank_piece ∷ []) Ends (empty_longest widths)).0
        ∙ ap (λ (ws : List ℕ). record { lexemes = closing 0 (at_line ws); fault = None }) (append-nil widths)

    closed : (more : Text) → begins_plainly more ≡ true → Closed (at_line widths) [] more []
    closed more begins =
        record {
          pieces' = closing_piece (open_count (at_line widths)) blank_piece ∷ [];
          some = λ e. cc;
          reads = (line_step widths more begins, tt);
          len = refl;
          past = ap (λ ts. record { tokens = ts; widths = widths ++ 0 ∷ []; before = Layout }) (onto_dedents [] (open_count (at_line widths)) 0);
          lexemes = λ at. append-nil (map (moved at) (dedents (open_count (at_line widths)) 0)) ∙ dedents_moved at (open_count (at_line widths)) 0;
        }

before_closes : (history : History) (text : Text) → BeforeLine history text → (pieces : List Piece) × Closes history text pieces
before_closes _ _ (AfterCut history text cut) = (pieces_after history text, cut_closes history text (pieces_after history text) (line_cut history text cut))
before_closes _ _ (AtLine widths) = ([], line_closes widths)

pub before_faultless : (history : History) (text : Text) → BeforeLine history text → (outcome_after history text).fault ≡ None
before_faultless history text before = let here = (before_closes history text before).1 in here.faultless

module _ (history : History) (text more : Text) (pieces : List Piece) (here : Closes history text pieces) (begins : begins_plainly more ≡ true) (there : CharacterStarts more plain_piece) where
  pub closed : Closed history text more pieces
  closed = here.closed more begins

  pub all_closed : Settled (closed_after (after_all history pieces))
  all_closed = closed_settled (after_all history pieces) here.none_open here.balanced

  starts : IsLongestReading language (remainder line_alone margin_alone) more there.pieces there.last
  starts = subst (λ (past : History). IsLongestReading language past more there.pieces there.last) line_after there.longest

  pub longest : IsLongestReading language history (text ++ more) (closed.pieces' ++ there.pieces) there.last
  longest =
      let left : drop (pieces_len closed.pieces') (text ++ more) ≡ more = ap (λ n. drop n (text ++ more)) (closed.len ∙ sym (add_none (length text))) ∙ drop-append-add text more 0 in
      longest_append language history (text ++ more) closed.pieces' there.pieces there.last closed.reads
      (subst (λ (t : Text). IsLongestReading language (after_all history closed.pieces') t there.pieces there.last) (sym left)
      (subst (λ (past : History). IsLongestReading language past more there.pieces there.last) (sym (closed.past ∙ closed_alone (after_all history pieces)))
      (longest_between line_alone (closed_after (after_all history pieces)) margin_alone more there.pieces there.last line_settled all_closed starts)))
    where
      add_none : (n : ℕ) → n + 0 ≡ n
      add_none n = omega arith

  total : pieces_len (closed.pieces' ++ there.pieces) ≡ length text + pieces_len there.pieces
  total = omega (arith, pieces_append closed.pieces' there.pieces, closed.len)

  lexemes : lexemes_along 0 (closed.pieces' ++ there.pieces) ≡ without_last_newline (outcome_after history text).lexemes ++ map (moved (length text)) (lexemes_along 0 there.pieces)
  lexemes =
      let start : 0 + pieces_len closed.pieces' ≡ length text + 0 = omega (arith, closed.len) in
      let at : 0 + length text ≡ length text = omega arith in
      along_append 0 closed.pieces' there.pieces
      ∙ ap (λ ls. ls ++ lexemes_along (0 + pieces_len closed.pieces') there.pieces)
      (closed.lexemes 0 ∙ ap (λ n. lexemes_along 0 pieces ++ dedents (open_count (after_all history pieces)) n) at ∙ sym here.kept)
      ∙ ap (λ n. without_last_newline (outcome_after history text).lexemes ++ lexemes_along n there.pieces) start
      ∙ ap (λ ls. without_last_newline (outcome_after history text).lexemes ++ ls) (along_later (length text) 0 there.pieces)

  -- what is read of both, and what is read of the second text alone
  pub past : after_all history (closed.pieces' ++ there.pieces) ≡ remainder (closed_after (after_all history pieces)) (after_all margin_alone there.pieces)
  past =
      past_append history closed.pieces' there.pieces
      ∙ ap (λ (h : History). after_all h there.pieces) (closed.past ∙ closed_alone (after_all history pieces))
      ∙ all_after (closed_after (after_all history pieces)) margin_alone there.pieces

  pub past_alone : after_all nothing (plain_piece ∷ there.pieces) ≡ remainder line_alone (after_all margin_alone there.pieces)
  past_alone = ap (λ (h : History). after_all h there.pieces) line_after ∙ all_after line_alone margin_alone there.pieces

  closings : closing (length text + pieces_len there.pieces) (after_all history (closed.pieces' ++ there.pieces)) ≡ map (moved (length text)) (closing (pieces_len there.pieces) (after_all nothing (plain_piece ∷ there.pieces)))
  closings =
      let n = pieces_len there.pieces in
      ap (closing (length text + n)) past
      ∙ closing_after (length text + n) (closed_after (after_all history pieces)) (after_all margin_alone there.pieces) all_closed
      ∙ closing_moved (length text) n (after_all margin_alone there.pieces)
      ∙ ap (map (moved (length text))) (sym (closing_after n line_alone (after_all margin_alone there.pieces) line_settled) ∙ ap (closing n) (sym past_alone))

  to_end : lexemes_along 0 (closed.pieces' ++ there.pieces) ++ closing (pieces_len (closed.pieces' ++ there.pieces)) (after_all history (closed.pieces' ++ there.pieces))
      ≡ without_last_newline (outcome_after history text).lexemes ++ map (moved (length text)) (lexemes_along 0 there.pieces ++ closing (pieces_len there.pieces) (after_all nothing (plain_piece ∷ there.pieces)))
  to_end =
      let kept = without_last_newline (outcome_after history text).lexemes in
      let along = lexemes_along 0 there.pieces in
      let closes = closing (pieces_len there.pieces) (after_all nothing (plain_piece ∷ there.pieces)) in
      ap (λ n. lexemes_along 0 (closed.pieces' ++ there.pieces) ++ closing n (after_all history (closed.pieces' ++ there.pieces))) total
      ∙ ap (λ ls. lexemes_along 0 (closed.pieces' ++ there.pieces) ++ ls) closings
      ∙ ap (λ ls. ls ++ map (moved (length text)) closes) lexemes
      ∙ append_assoc kept (map (moved (length text)) along) (map (moved (length text)) closes)
      ∙ ap (λ ls. kept ++ ls) (sym (map-append (moved (length text)) along closes))

  first_len : pieces_len (plain_piece ∷ there.pieces) ≡ pieces_len there.pieces
  first_len = omega (arith, sum_by-cons (λ (piece : Piece). piece.len) plain_piece there.pieces)

  alone : without_last_newline (outcome_after history text).lexemes ++ map (moved (length text)) (lexemes_along 0 there.pieces ++ closing (pieces_len there.pieces) (after_all nothing (plain_piece ∷ there.pieces)))
      ≡ without_last_newline (outcome_after history text).lexemes ++ map (moved (length text)) (lexemes_along 0 (plain_piece ∷ there.pieces) ++ closing (pieces_len (plain_piece ∷ there.pieces)) (after_all nothing (plain_piece ∷ there.pieces)))
  alone = ap (λ n. without_last_newline (outcome_after history text).lexemes ++ map (moved (length text)) (lexemes_along 0 there.pieces ++ closing n (after_all nothing (plain_piece ∷ there.pieces)))) (sym first_len)

  by_last : (last : Step) → reading_outcome history (text ++ more) (closed.pieces' ++ there.pieces) last
      ≡ record { lexemes = without_last_newline (outcome_after history text).lexemes ++ map (moved (length text)) (outcome_of more (plain_piece ∷ there.pieces) last).lexemes; fault = option_map (moved (length text)) (outcome_of more (plain_piece ∷ there.pieces) last).fault }
  by_last (Fails fault) =
      same_outcome (some_before history.before (text ++ more) (closed.pieces' ++ there.pieces) (some_append closed.pieces' there.pieces closed.some) ∙ lexemes)
      (ap Some (sym (moved_both (length text) (pieces_len (plain_piece ∷ there.pieces)) (pieces_len (closed.pieces' ++ there.pieces)) fault (omega (arith, total, first_len)))))
  by_last (Stands piece) = same_outcome (to_end ∙ alone) refl
  by_last Ends = same_outcome (to_end ∙ alone) refl

-- the reading of a text that begins plainly
plainly : (text : Text) → begins_plainly text ≡ true → CharacterStarts text plain_piece
plainly text begins = begun text plain_piece (plain_step text begins)

plainly_longest : (text : Text) (begins : begins_plainly text ≡ true) → IsLongestReading language nothing text (plain_piece ∷ (plainly text begins).pieces) (plainly text begins).last
plainly_longest text begins = longest_onward language nothing text plain_piece (plainly text begins).pieces (plainly text begins).last (plain_step text begins) (plainly text begins).longest

-- The outcome of what a line follows, after a history, and then that of a text that begins plainly.
pub cut_joins : (history : History) (first second : Text) → BeforeLine history first → begins_plainly second ≡ true
    → outcome_after history (first ++ second) ≡ record {
      lexemes = without_last_newline (outcome_after history first).lexemes ++ map (moved (length first)) (outcome_after nothing second).lexemes;
      fault = option_map (moved (length first)) (outcome_after nothing second).fault;
    }
cut_joins history first second before begins =
    let here = before_closes history first before in
    let there = plainly second begins in
    (after_by history (first ++ second) _ there.last (longest history first second here.0 here.1 begins there)).0
    ∙ by_last history first second here.0 here.1 begins there there.last
    ∙ ap (λ (o : Outcome). record { lexemes = without_last_newline (outcome_after history first).lexemes ++ map (moved (length first)) o.lexemes; fault = option_map (moved (length first)) o.fault })
    (sym (outcome_after_nothing second ∙ there.is))

-- Both are read as far as the second one.
pub joined_read : (history : History) (first second : Text) → BeforeLine history first → begins_plainly second ≡ true → read_len history (first ++ second) ≡ length first + read_len nothing second
joined_read history first second before begins =
    let pieces = (before_closes history first before).0 in
    let here = (before_closes history first before).1 in
    let there = plainly second begins in
    let last = read_by nothing second (plain_piece ∷ there.pieces) there.last (plainly_longest second begins) in
    read_by history (first ++ second) _ there.last (longest history first second pieces here begins there)
    ∙ omega (arith, total history first second pieces here begins there, first_len history first second pieces here begins there, last)

-- Both together are a cut between lines exactly where the second one is.
pub cut_of_joined : (history : History) (first second : Text) → BeforeLine history first → begins_plainly second ≡ true
    → is_line_cut_after history (first ++ second) ≡ is_line_cut_after nothing second
cut_of_joined history first second before begins =
    let pieces = (before_closes history first before).0 in
    let here = (before_closes history first before).1 in
    let there = plainly second begins in
    let rest = after_all margin_alone there.pieces in
    line_cut_by history (first ++ second) _ there.last (longest history first second pieces here begins there)
    ∙ ap (λ (past : History). is_faultless there.last && is_between_lines past && ends_with nat_eq (first ++ second) (codes "\n")) (past history first second pieces here begins there)
    ∙ ap (λ (between : Bool). is_faultless there.last && between && ends_with nat_eq (first ++ second) (codes "\n"))
    (between_after (closed_after (after_all history pieces)) rest (all_closed history first second pieces here begins there) ∙ sym (between_after line_alone rest line_settled))
    ∙ ap (λ (ends : Bool). is_faultless there.last && is_between_lines (remainder line_alone rest) && ends) (ends_after first second (plain_some second begins))
    ∙ ap (λ (past : History). is_faultless there.last && is_between_lines past && ends_with nat_eq second (codes "\n")) (sym (past_alone history first second pieces here begins there))
    ∙ sym (line_cut_by nothing second (plain_piece ∷ there.pieces) there.last (plainly_longest second begins))

-- Histories after which the same is read: what differs is settled.
pub record Alike (one other : History) : Type 0 where
  pub earlier : History
  pub before : History
  pub common : History
  pub settled : Settled earlier
  pub other_settled : Settled before
  pub one_is : one ≡ remainder earlier common
  pub other_is : other ≡ remainder before common

-- the reading after both
alike_longest : (one other : History) (text : Text) (pieces : List Piece) (last : Step) → Alike one other → IsLongestReading language one text pieces last → IsLongestReading language other text pieces last
alike_longest one other text pieces last alike longest =
    subst (λ (past : History). IsLongestReading language past text pieces last) (sym alike.other_is)
    (longest_between alike.earlier alike.before alike.common text pieces last alike.settled alike.other_settled
    (subst (λ (past : History). IsLongestReading language past text pieces last) alike.one_is longest))

alike_past : (one other : History) (pieces : List Piece) → Alike one other → Alike (after_all one pieces) (after_all other pieces)
alike_past one other pieces alike = record {
  earlier = alike.earlier;
  before = alike.before;
  common = after_all alike.common pieces;
  settled = alike.settled;
  other_settled = alike.other_settled;
  one_is = ap (λ (past : History). after_all past pieces) alike.one_is ∙ all_after alike.earlier alike.common pieces;
  other_is = ap (λ (past : History). after_all past pieces) alike.other_is ∙ all_after alike.before alike.common pieces;
}

alike_closing : (at : ℕ) (one other : History) → Alike one other → closing at one ≡ closing at other
alike_closing at one other alike =
    ap (closing at) alike.one_is ∙ closing_after at alike.earlier alike.common alike.settled ∙ sym (ap (closing at) alike.other_is ∙ closing_after at alike.before alike.common alike.other_settled)

pub alike_before : (one other : History) → Alike one other → one.before ≡ other.before
alike_before one other alike = ap (λ (past : History). past.before) alike.one_is ∙ sym (ap (λ (past : History). past.before) alike.other_is)

alike_between : (one other : History) → Alike one other → is_between_lines one ≡ is_between_lines other
alike_between one other alike =
    ap is_between_lines alike.one_is ∙ between_after alike.earlier alike.common alike.settled ∙ sym (ap is_between_lines alike.other_is ∙ between_after alike.before alike.common alike.other_settled)

-- They have the same outcome, …
pub alike_outcome : (one other : History) (text : Text) → Alike one other → outcome_after one text ≡ outcome_after other text
alike_outcome one other text alike =
    outcome_is one text ∙ by (last_after one text)
    ∙ sym (after_by other text (pieces_after one text) (last_after one text) (alike_longest one other text (pieces_after one text) (last_after one text) alike (longest_after one text))).0
  where
    pieces : List Piece
    pieces = pieces_after one text

    to_end : closing (pieces_len pieces) (after_all one pieces) ≡ closing (pieces_len pieces) (after_all other pieces)
    to_end = alike_closing (pieces_len pieces) (after_all one pieces) (after_all other pieces) (alike_past one other pieces alike)

    by : (last : Step) → reading_outcome one text (pieces_after one text) last ≡ reading_outcome other text (pieces_after one text) last
    by (Fails fault) = same_outcome (ap (λ (before : Before). lexemes_before before text pieces) (alike_before one other alike)) refl
    by (Stands piece) = same_outcome (ap (λ ls. lexemes_along 0 pieces ++ ls) to_end) refl
    by Ends = same_outcome (ap (λ ls. lexemes_along 0 pieces ++ ls) to_end) refl

-- … as far, …
pub alike_read : (one other : History) (text : Text) → Alike one other → read_len one text ≡ read_len other text
alike_read one other text alike =
    let pieces = pieces_after one text in
    let last = last_after one text in
    read_by one text pieces last (longest_after one text) ∙ sym (read_by other text pieces last (alike_longest one other text pieces last alike (longest_after one text)))

-- … are alike after the same text, …
pub alike_after : (one other : History) (text : Text) → Alike one other → Alike (history_after one text) (history_after other text)
alike_after one other text alike =
    let pieces = pieces_after one text in
    let last = last_after one text in
    subst (λ (past : History). Alike past (history_after other text)) (sym (after_by one text pieces last (longest_after one text)).1)
    (subst (Alike (after_all one pieces)) (sym (after_by other text pieces last (alike_longest one other text pieces last alike (longest_after one text))).1) (alike_past one other pieces alike))

-- … and have the same cuts.
pub alike_line_cut : (one other : History) (text : Text) → Alike one other → is_line_cut_after one text ≡ is_line_cut_after other text
alike_line_cut one other text alike =
    let pieces = pieces_after one text in
    let last = last_after one text in
    line_cut_by one text pieces last (longest_after one text)
    ∙ ap (λ (between : Bool). is_faultless last && between && ends_with nat_eq text (codes "\n")) (alike_between (after_all one pieces) (after_all other pieces) (alike_past one other pieces alike))
    ∙ sym (line_cut_by other text pieces last (alike_longest one other text pieces last alike (longest_after one text)))

-- What a line follows is all that differs between both and that line.
pub alike_joined : (history : History) (first second : Text) → BeforeLine history first → begins_plainly second ≡ true → Alike (history_after history (first ++ second)) (history_after nothing second)
alike_joined history first second before begins =
    let pieces = (before_closes history first before).0 in
    let here = (before_closes history first before).1 in
    let there = plainly second begins in
    record {
      earlier = closed_after (after_all history pieces);
      before = line_alone;
      common = after_all margin_alone there.pieces;
      settled = all_closed history first second pieces here begins there;
      other_settled = line_settled;
      one_is = (after_by history (first ++ second) _ there.last (longest history first second pieces here begins there)).1 ∙ past history first second pieces here begins there;
      other_is = (after_by nothing second _ there.last (plainly_longest second begins)).1 ∙ past_alone history first second pieces here begins there;
    }

-- and so it is at the start of their next lines, …
pub alike_line : (one other : History) → Alike one other → Alike (at_line one.widths) (at_line other.widths)
unfolding open_fstring is_balanced
alike_line one other alike = record {
  earlier = only alike.earlier.widths;
  before = only alike.before.widths;
  common = at_line alike.common.widths;
  settled = settled_line alike.earlier.widths alike.settled.no_width;
  other_settled = settled_line alike.before.widths alike.other_settled.no_width;
  one_is = ap (λ (past : History). at_line past.widths) alike.one_is;
  other_is = ap (λ (past : History). at_line past.widths) alike.other_is;
}
  where
    only : List ℕ → History
    only widths = record { tokens = []; widths = widths; before = Layout }

    settled_line : (widths : List ℕ) → open_widths widths ≡ [] → Settled (only widths)
    settled_line widths none = record { layout = refl; none_open = refl; balanced = refl; no_width = none }

-- … and in the midst of these lines
pub alike_other : (one other : History) → Alike one other → Alike (record one { before = Other }) (record other { before = Other })
alike_other one other alike = record {
  earlier = alike.earlier;
  before = alike.before;
  common = record alike.common { before = Other };
  settled = alike.settled;
  other_settled = alike.other_settled;
  one_is = ap (λ (past : History). record past { before = Other }) alike.one_is;
  other_is = ap (λ (past : History). record past { before = Other }) alike.other_is;
}

-- The laws for whole texts

pub line_cuts_join : LineCutsJoin
unfolding is_line_cut
line_cuts_join first second h begins =
    let joins = cut_joins nothing first second (AfterCut nothing first h) begins in
    sym (outcome_after_nothing (first ++ second)) ∙ joins
    ∙ ap (λ (o : Outcome). record { lexemes = without_last_newline o.lexemes ++ map (moved (length first)) (outcome_after nothing second).lexemes; fault = option_map (moved (length first)) (outcome_after nothing second).fault }) (outcome_after_nothing first)
    ∙ ap (λ (o : Outcome). record { lexemes = without_last_newline (outcome first).lexemes ++ map (moved (length first)) o.lexemes; fault = option_map (moved (length first)) o.fault }) (outcome_after_nothing second)

pub line_cuts_of_joined : LineCutsOfJoined
unfolding is_line_cut
line_cuts_of_joined first second h begins = cut_of_joined nothing first second (AfterCut nothing first h) begins

-- a `Newline` is found in every text without fault: the closing one
pub outcome_newline : (history : History) (text : Text) → (outcome_after history text).fault ≡ None → has_newline (outcome_after history text).lexemes ≡ true
outcome_newline history text none = by (last_after history text) (outcome_is history text)
  where
    pieces : List Piece
    pieces = pieces_after history text

    closes : has_newline (lexemes_along 0 (pieces_after history text) ++ closing (pieces_len (pieces_after history text)) (after_all history (pieces_after history text))) ≡ true
    closes = has_newline_later (lexemes_along 0 pieces) (closing (pieces_len pieces) (after_all history pieces)) refl

    by : (last : Step) → outcome_after history text ≡ reading_outcome history text (pieces_after history text) last → has_newline (outcome_after history text).lexemes ≡ true
    by (Fails fault) is = let wrong : Some (moved (pieces_len pieces) fault) ≡ None = sym (ap (λ (o : Outcome). o.fault) is) ∙ none in cc
    by (Stands piece) is = ap (λ (o : Outcome). has_newline o.lexemes) is ∙ closes
    by Ends is = ap (λ (o : Outcome). has_newline o.lexemes) is ∙ closes
