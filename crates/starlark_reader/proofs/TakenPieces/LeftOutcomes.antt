-- The outcome of the rest of a text, one piece further.
use Rattle.std.proofs.Common.{◌≡◌, ℕ, ◌+◌, false, List, [], ◌∷◌, ◌++◌, drop, map, length, refl, ap, ◌∙◌, sym, subst, Some, None, arith, append_assoc}
use Rattle.std.proofs.lemmas.List.{map-append}
use Rattle.std.proofs.lemmas.List.Sums.{sum_by-cons}
use Rattle.starlark_grammar.specs.Found.{at_line}
use Rattle.starlark_grammar.specs.Words.{Text, language}
use Rattle.starlark_grammar.specs.Tokens.{Dedent, Fault, Newline, Outcome, Spanned, moved}
use Rattle.starlark_grammar.specs.Margins.{margin_of, open_widths}
use Rattle.starlark_grammar.specs.Pieces.{Before, Ends, Fails, Gap, Layout, Nothing, Other, Piece, Stands, Step, first_margin}
use Rattle.starlark_grammar.specs.Reading.{History, after, after_all, closing, history_after, lexemes_along, lexemes_before, next_step, nothing, outcome, outcome_after, pieces_len, read_len, reading_outcome}
use Rattle.starlark_grammar.specs.Longest.{IsLongestReading}
use Rattle.starlark_reader.specs.Inner.Reader.{moved_outcome, remaining_outcome}
use Rattle.starlark_grammar.proofs.Joining.CleanCuts.{along_later, map_replicate}
use Rattle.starlark_grammar.proofs.Joining.Joined.{moved_both}
use Rattle.starlark_grammar.proofs.Reading.Onward.{after_by, first_step_after, last_after, longest_after, outcome_after_nothing, pieces_after, read_by}
use Rattle.starlark_grammar.proofs.Reading.Readings.{longest_onward, piece_fits, started, stops_here}
use Rattle.starlark_grammar.proofs.Reading.Steps.{is_nothing}

-- the outcome of pieces from byte `at` on, after a history, and of the step after them
abbrev pub outcome_along : History → ℕ → List Piece → Step → Outcome
outcome_along history at pieces (Fails fault) = record { lexemes = lexemes_along at pieces; fault = Some (moved (at + pieces_len pieces) fault) }
outcome_along history at pieces step = record { lexemes = lexemes_along at pieces ++ closing (at + pieces_len pieces) (after_all history pieces); fault = None }

-- an outcome is one piece's lexemes, and then what is left after it
pub record GoesOn (at : ℕ) (piece : Piece) (whole left : Outcome) : Type 0 where
  pub lexemes : whole.lexemes ≡ map (moved at) piece.lexemes ++ left.lexemes
  pub fault : whole.fault ≡ left.fault

-- the length with one more piece
total_len : (at : ℕ) (piece : Piece) (pieces : List Piece) → at + pieces_len (piece ∷ pieces) ≡ at + piece.len + pieces_len pieces
total_len at piece pieces = let total = sum_by-cons (λ (piece : Piece). piece.len) piece pieces in omega (arith, total)

-- the lexemes of one piece more, and the closing ones
to_end : (history : History) (at : ℕ) (piece : Piece) (pieces : List Piece)
    → lexemes_along at (piece ∷ pieces) ++ closing (at + pieces_len (piece ∷ pieces)) (after_all history (piece ∷ pieces))
    ≡ map (moved at) piece.lexemes ++ (lexemes_along (at + piece.len) pieces ++ closing (at + piece.len + pieces_len pieces) (after_all (after history piece) pieces))
to_end history at piece pieces =
    rw (total_len at piece pieces) (append_assoc (map (moved at) piece.lexemes) (lexemes_along (at + piece.len) pieces) (closing (at + piece.len + pieces_len pieces) (after_all (after history piece) pieces)))

along_onward : (history : History) (at : ℕ) (piece : Piece) (pieces : List Piece) (last : Step) → GoesOn at piece (outcome_along history at (piece ∷ pieces) last) (outcome_along (after history piece) (at + piece.len) pieces last)
along_onward history at piece pieces (Fails fault) = record { lexemes = refl; fault = ap (λ n. Some (moved n fault)) (total_len at piece pieces) }
along_onward history at piece pieces last = record { lexemes = to_end history at piece pieces; fault = refl }

-- the outcome of the rest of a text is that of its longest reading

closing_moved : (at n : ℕ) (history : History) → map (moved at) (closing n history) ≡ closing (at + n) history
closing_moved at n history = ap (λ ls. record { begin = at + n; node = Newline; end = at + n } ∷ ls) (map_replicate at (length (open_widths history.widths)) (record { begin = n; node = Dedent; end = n }))

along_moved : (at : ℕ) (pieces : List Piece) → map (moved at) (lexemes_along 0 pieces) ≡ lexemes_along at pieces
along_moved at pieces = let start : at + 0 ≡ at = omega arith in sym (along_later at 0 pieces) ∙ ap (λ n. lexemes_along n pieces) start

before_moved : (before : Before) (text : Text) (at : ℕ) (pieces : List Piece) → is_nothing before ≡ false → map (moved at) (lexemes_before before text pieces) ≡ lexemes_along at pieces
before_moved Nothing text at pieces h = cc
before_moved Layout text at pieces h = along_moved at pieces
before_moved Gap text at pieces h = along_moved at pieces
before_moved Other text at pieces h = along_moved at pieces

moved_along : (history : History) (at : ℕ) (text : Text) (pieces : List Piece) (last : Step) → is_nothing history.before ≡ false → moved_outcome at (reading_outcome history text pieces last) ≡ outcome_along history at pieces last
moved_along history at text pieces (Fails fault) h =
    ap (λ ls. record { lexemes = ls; fault = Some (moved at (moved (pieces_len pieces) fault)) }) (before_moved history.before text at pieces h)
    ∙ ap (λ f. record { lexemes = lexemes_along at pieces; fault = Some f }) (moved_both at (pieces_len pieces) (at + pieces_len pieces) fault refl)
moved_along history at text pieces last h =
    ap (λ ls. record { lexemes = ls; fault = None })
    (map-append (moved at) (lexemes_along 0 pieces) (closing (pieces_len pieces) (after_all history pieces)) ∙ ap (λ ls. ls ++ map (moved at) (closing (pieces_len pieces) (after_all history pieces))) (along_moved at pieces)
    ∙ ap (λ ls. lexemes_along at pieces ++ ls) (closing_moved at (pieces_len pieces) (after_all history pieces)))

pub left_by : (history : History) (at : ℕ) (text : Text) (pieces : List Piece) (last : Step) → is_nothing history.before ≡ false → IsLongestReading language history text pieces last → remaining_outcome history at text ≡ outcome_along history at pieces last
unfolding remaining_outcome
left_by history at text pieces last h longest = ap (moved_outcome at) (after_by history text pieces last longest).0 ∙ moved_along history at text pieces last h

-- the longest reading with a piece before it
from_piece : (history : History) (text : Text) (piece : Piece) → next_step language history text ≡ Stands piece
    → IsLongestReading language history text (piece ∷ pieces_after (after history piece) (drop piece.len text)) (last_after (after history piece) (drop piece.len text))
from_piece history text piece stands = longest_onward language history text piece _ _ stands (longest_after (after history piece) (drop piece.len text))

-- what is left after a piece
after_piece : (history : History) (at : ℕ) (text : Text) (piece : Piece) → next_step language history text ≡ Stands piece
    → remaining_outcome (after history piece) at (drop piece.len text) ≡ outcome_along (after history piece) at (pieces_after (after history piece) (drop piece.len text)) (last_after (after history piece) (drop piece.len text))
after_piece history at text piece stands =
    left_by (after history piece) at (drop piece.len text) _ _ (started history piece (piece_fits language history text piece stands).sort) (longest_after (after history piece) (drop piece.len text))

goes_by : (history : History) (at : ℕ) (text : Text) (piece : Piece) (whole : Outcome) → next_step language history text ≡ Stands piece
    → whole ≡ outcome_along history at (piece ∷ pieces_after (after history piece) (drop piece.len text)) (last_after (after history piece) (drop piece.len text)) → GoesOn at piece whole (remaining_outcome (after history piece) (at + piece.len) (drop piece.len text))
goes_by history at text piece whole stands is =
    let more = along_onward history at piece (pieces_after (after history piece) (drop piece.len text)) (last_after (after history piece) (drop piece.len text)) in
    let left = after_piece history (at + piece.len) text piece stands in
    record {
      lexemes = ap (λ (o : Outcome). o.lexemes) is ∙ more.lexemes ∙ ap (λ (o : Outcome). map (moved at) piece.lexemes ++ o.lexemes) (sym left);
      fault = ap (λ (o : Outcome). o.fault) is ∙ more.fault ∙ ap (λ (o : Outcome). o.fault) (sym left);
    }

pub onward_stands : (history : History) (at : ℕ) (text : Text) (piece : Piece) → is_nothing history.before ≡ false → next_step language history text ≡ Stands piece → GoesOn at piece (remaining_outcome history at text) (remaining_outcome (after history piece) (at + piece.len) (drop piece.len text))
onward_stands history at text piece h stands = goes_by history at text piece (remaining_outcome history at text) stands (left_by history at text _ _ h (from_piece history text piece stands))

pub onward_fails : (history : History) (at : ℕ) (text : Text) (fault : Spanned Fault) → is_nothing history.before ≡ false → next_step language history text ≡ Fails fault → remaining_outcome history at text ≡ record { lexemes = []; fault = Some (moved at fault) }
onward_fails history at text fault h fails =
    let here : at + pieces_len [] ≡ at = omega arith in
    left_by history at text [] (Fails fault) h (stops_here language history text (Fails fault) fails (λ piece e. cc))
    ∙ ap (λ n. record { lexemes = []; fault = Some (moved n fault) }) here

pub onward_ends : (history : History) (at : ℕ) (text : Text) → is_nothing history.before ≡ false → next_step language history text ≡ Ends → remaining_outcome history at text ≡ record { lexemes = closing at history; fault = None }
onward_ends history at text h ends =
    let here : at + pieces_len [] ≡ at = omega arith in
    left_by history at text [] Ends h (stops_here language history text Ends ends (λ piece e. cc))
    ∙ ap (λ n. record { lexemes = closing n history; fault = None }) here

-- The history at the text's end, one piece further

pub history_onward : (history : History) (text : Text) (piece : Piece) → next_step language history text ≡ Stands piece → history_after history text ≡ history_after (after history piece) (drop piece.len text)
history_onward history text piece stands =
    (after_by history text _ _ (from_piece history text piece stands)).1 ∙ sym (after_by (after history piece) (drop piece.len text) _ _ (longest_after (after history piece) (drop piece.len text))).1

pub history_stops : (history : History) (text : Text) (last : Step) → next_step language history text ≡ last → ((piece : Piece) → last ≡ Stands piece → ⊥) → history_after history text ≡ history
history_stops history text last is none = (after_by history text [] last (stops_here language history text last is none)).1

-- so its pieces reach as far
pub reach_onward : (history : History) (text : Text) (piece : Piece) → next_step language history text ≡ Stands piece → read_len history text ≡ piece.len + read_len (after history piece) (drop piece.len text)
reach_onward history text piece stands =
    let more = read_by (after history piece) (drop piece.len text) _ _ (longest_after (after history piece) (drop piece.len text)) in
    let total = sum_by-cons (λ (piece : Piece). piece.len) piece (pieces_after (after history piece) (drop piece.len text)) in
    omega (arith, read_by history text _ _ (from_piece history text piece stands), more, total)

pub reach_stops : (history : History) (text : Text) (last : Step) → next_step language history text ≡ last → ((piece : Piece) → last ≡ Stands piece → ⊥) → read_len history text ≡ 0
reach_stops history text last is none = read_by history text [] last (stops_here language history text last is none)

-- The start of a line

pub line_first : (widths : List ℕ) (text : Text) → next_step language (at_line widths) text ≡ first_margin (open_widths widths) text
line_first widths text = first_step_after (at_line widths) text refl

-- from the start of a line its outcome is that of its pieces
begun_along : (widths : List ℕ) (text : Text) (piece : Piece) (pieces : List Piece) (last : Step) → reading_outcome (at_line widths) text (piece ∷ pieces) last ≡ outcome_along (at_line widths) 0 (piece ∷ pieces) last
begun_along widths text piece pieces (Fails fault) = let same : pieces_len (piece ∷ pieces) ≡ 0 + pieces_len (piece ∷ pieces) = omega arith in ap (λ n. record { lexemes = lexemes_along 0 (piece ∷ pieces); fault = Some (moved n fault) }) same
begun_along widths text piece pieces last = let same : pieces_len (piece ∷ pieces) ≡ 0 + pieces_len (piece ∷ pieces) = omega arith in ap (λ n. record { lexemes = lexemes_along 0 (piece ∷ pieces) ++ closing n (after_all (at_line widths) (piece ∷ pieces)); fault = None }) same

pub line_stands : (widths : List ℕ) (text : Text) (piece : Piece) → first_margin (open_widths widths) text ≡ Stands piece → GoesOn 0 piece (outcome_after (at_line widths) text) (remaining_outcome (after (at_line widths) piece) (0 + piece.len) (drop piece.len text))
line_stands widths text piece e =
    let history = at_line widths in
    let stands : next_step language history text ≡ Stands piece = line_first widths text ∙ e in
    goes_by history 0 text piece (outcome_after history text) stands
    ((after_by history text _ _ (from_piece history text piece stands)).0 ∙ begun_along widths text piece (pieces_after (after history piece) (drop piece.len text)) (last_after (after history piece) (drop piece.len text)))

pub line_fails : (widths : List ℕ) (text : Text) (fault : Spanned Fault) → first_margin (open_widths widths) text ≡ Fails fault → outcome_after (at_line widths) text ≡ record { lexemes = (margin_of text).comments; fault = Some (moved 0 fault) }
line_fails widths text fault e = (after_by (at_line widths) text [] (Fails fault) (stops_here language (at_line widths) text (Fails fault) (line_first widths text ∙ e) (λ piece k. cc))).0

-- The start of a text

pub margin_first : (text : Text) → next_step language nothing text ≡ first_margin [] text
unfolding open_widths
margin_first text = line_first [] text

pub first_stands : (text : Text) (piece : Piece) → first_margin [] text ≡ Stands piece → GoesOn 0 piece (outcome text) (remaining_outcome (after nothing piece) (0 + piece.len) (drop piece.len text))
unfolding open_widths
first_stands text piece e = subst (λ (whole : Outcome). GoesOn 0 piece whole (remaining_outcome (after nothing piece) (0 + piece.len) (drop piece.len text))) (outcome_after_nothing text) (line_stands [] text piece e)

pub first_fails : (text : Text) (fault : Spanned Fault) → first_margin [] text ≡ Fails fault → outcome text ≡ record { lexemes = (margin_of text).comments; fault = Some (moved 0 fault) }
unfolding open_widths
first_fails text fault e = sym (outcome_after_nothing text) ∙ line_fails [] text fault e
