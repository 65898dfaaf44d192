-- The rest of a text, after a history: its lexemes and its fault lie in it, between characters, and are few.
use Rattle.std.proofs.Common.{◌≡◌, ◌+◌, ◌*◌, ◌≤◌, false, List, [], ◌∷◌, ◌++◌, length, drop, refl, ap, sym, subst, None, IfSome, arith, length-append}
use Rattle.std.specs.List.{AllByRecursion}
use Rattle.std.specs.Str.{IsCharBoundary, IsUtf8}
use Rattle.std.proofs.lemmas.Str.{IsCharBoundary-start, IsUtf8-drop}
use Rattle.starlark_grammar.specs.Depths.{InText, Mode, mode_after}
use Rattle.starlark_grammar.specs.Laws.{AtBoundaries}
use Rattle.starlark_grammar.specs.Longest.{IsLongestReading, IsReading}
use Rattle.starlark_grammar.specs.Margins.{margin_of, open_widths}
use Rattle.starlark_grammar.specs.Pieces.{Before, Ends, Fails, Gap, Layout, Nothing, Other, Piece, Situation, Stands, Step, by_before, by_mode, step_at}
use Rattle.starlark_grammar.specs.Reading.{History, after_all, closing, lexemes_along, lexemes_before, next_step, outcome_after, pieces_len, reading_outcome, situation}
use Rattle.starlark_grammar.specs.Tokens.{Lexeme, Outcome}
use Rattle.starlark_grammar.specs.Words.{Text, language}
use Rattle.starlark_grammar.proofs.Indentation.Balance.{margin_quiet}
use Rattle.starlark_grammar.proofs.Indentation.LayoutTotals.{along_balances, closing_dedents}
use Rattle.starlark_grammar.proofs.KeptLines.Faults.{is_in_text}
use Rattle.starlark_grammar.proofs.Order.Boundaries.{Edges, margin_edges}
use Rattle.starlark_grammar.proofs.Order.Edges.{boundary_shift, edges_append}
use Rattle.starlark_grammar.proofs.Order.Inside.{order_within}
use Rattle.starlark_grammar.proofs.Order.OrderedLexemes.{after_order}
use Rattle.starlark_grammar.proofs.Order.WholeTexts.{along_bounded, fault_bounded, same_edges}
use Rattle.starlark_grammar.proofs.Reading.Onward.{after_by, last_after, longest_after, outcome_is, pieces_after}
use Rattle.starlark_grammar.proofs.Reading.Readings.{reading_fits, stops_here}
use Rattle.starlark_grammar.proofs.Reading.Steps.{is_nothing, margin_fits}

-- the lexemes before a fault are those of the pieces, or the comments of the first margin
before_by : (P : List Lexeme → Type 0) (before : Before) (text : Text) (pieces : List Piece) → P (lexemes_along 0 pieces) → P (margin_of text).comments → P (lexemes_before before text pieces)
before_by P Nothing text [] alone comments = comments
before_by P Nothing text (piece ∷ pieces) alone comments = alone
before_by P Layout text pieces alone comments = alone
before_by P Gap text pieces alone comments = alone
before_by P Other text pieces alone comments = alone

-- each byte that is read opens one width at most
pub rest_levels : (history : History) (text : Text) (pieces : List Piece) → IsReading language history text pieces
    → length (open_widths (after_all history pieces).widths) ≤ length (open_widths history.widths) + pieces_len pieces
rest_levels history text pieces reads =
    let is = along_balances language history text pieces 0 reads in
    let total = is.total in
    let wide = is.wide in
    omega (arith, total, wide)

module _ (history : History) (text : Text) where
  abbrev pieces : List Piece
  pieces = pieces_after history text

  reads : IsReading language history text pieces
  reads = (longest_after history text).reads

  abbrev closed : List Lexeme
  closed = lexemes_along 0 pieces ++ closing (pieces_len pieces) (after_all history pieces)

  -- what holds of the lexemes of the pieces, and with those that close the text, and of comments, holds of the outcome's
  each : (P : List Lexeme → Type 0) → P (lexemes_along 0 pieces) → P (margin_of text).comments → P closed → P (outcome_after history text).lexemes
  each P alone comments whole = subst P (sym (ap (λ (o : Outcome). o.lexemes) (outcome_is history text))) (by (last_after history text))
    where
      by : (last : Step) → P (reading_outcome history text pieces last).lexemes
      by (Fails fault) = before_by P history.before text pieces alone comments
      by last = whole

  total : 0 + pieces_len pieces ≡ pieces_len pieces
  total = omega arith

  pub rest_within : AllByRecursion (λ (lexeme : Lexeme). (lexeme.begin ≤ lexeme.end) × (lexeme.end ≤ length text)) (outcome_after history text).lexemes
  rest_within = let order = (after_order history text).0 in order_within text 0 (outcome_after history text).lexemes order.0 order.2 order.1

  pub rest_few : length (outcome_after history text).lexemes ≤ 2 * length text + 1 + length (open_widths history.widths)
  rest_few =
      let is = along_balances language history text pieces 0 reads in
      let total = is.total in
      let wide = is.wide in
      let bytes = is.bytes in
      let inside = reading_fits language history text pieces reads in
      let closes = (closing_dedents (pieces_len pieces) (after_all history pieces)).2 in
      let whole = length-append (lexemes_along 0 pieces) (closing (pieces_len pieces) (after_all history pieces)) in
      each (λ lexemes. length lexemes ≤ 2 * length text + 1 + length (open_widths history.widths)) (omega (arith, total, wide, bytes, inside)) (omega (arith, (margin_quiet text).inside, margin_fits text)) (omega (arith, total, wide, bytes, inside, closes, whole))

  module _ (utf8 : IsUtf8 text) where
    bounded : Edges text (lexemes_along 0 pieces) × IsCharBoundary text (pieces_len pieces)
    bounded = let found = along_bounded text 0 history pieces utf8 (IsCharBoundary-start text utf8) reads in (found.0, subst (IsCharBoundary text) total found.1)

    pub rest_edges : AllByRecursion (AtBoundaries text) (outcome_after history text).lexemes
    rest_edges =
        let here = bounded.1 in
        each (Edges text) bounded.0 (margin_edges text utf8).comments
        (edges_append text (lexemes_along 0 pieces) (closing (pieces_len pieces) (after_all history pieces)) bounded.0 ((here, here), same_edges text (pieces_len pieces) (length (open_widths (after_all history pieces).widths)) here))

    pub rest_fault_edges : IfSome (outcome_after history text).fault (AtBoundaries text)
    rest_fault_edges = subst (λ (o : Outcome). IfSome o.fault (AtBoundaries text)) (sym (outcome_is history text)) (by (last_after history text) (longest_after history text))
      where
        by : (last : Step) → IsLongestReading language history text pieces last → IfSome (reading_outcome history text pieces last).fault (AtBoundaries text)
        by (Fails fault) longest =
            let here = bounded.1 in
            let edges = fault_bounded (after_all history pieces) (drop (pieces_len pieces) text) fault (IsUtf8-drop text (pieces_len pieces) utf8 here) longest.stands_last in
            (boundary_shift text (pieces_len pieces) fault.begin here edges.0, boundary_shift text (pieces_len pieces) fault.end here edges.1)
        by (Stands piece) longest = tt
        by Ends longest = tt

-- code ends where a text does: no fault is there
code_ends : (s : Situation) → is_nothing s.before ≡ false → is_in_text s.mode ≡ false → step_at language s [] ≡ Ends
unfolding step_at
code_ends s some code = by s.before some
  where
    at : (mode : Mode) → is_in_text mode ≡ false → by_mode language s mode [] ≡ Ends
    at (InText opening) code = cc
    at mode code = refl

    by : (before : Before) → is_nothing before ≡ false → by_before language s before [] ≡ Ends
    by Nothing some = cc
    by before some = at s.mode code

pub rest_ends : (history : History) → is_nothing history.before ≡ false → is_in_text (mode_after history.tokens) ≡ false → (outcome_after history []).fault ≡ None
unfolding next_step situation
rest_ends history some code =
    ap (λ (o : Outcome). o.fault) (after_by history [] [] Ends (stops_here language history [] Ends (code_ends (situation history) some code) (λ piece e. cc))).0
