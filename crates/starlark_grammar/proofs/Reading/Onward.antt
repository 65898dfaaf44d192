-- Readings and outcomes after a history.
use Rattle.std.proofs.Common.{◌≡◌, ◌+◌, ◌≤◌, true, false, List, [], ◌∷◌, length, drop, refl, ap, ◌∙◌, sym, arith, Some}
use Rattle.std.proofs.lemmas.List.{length-drop}
use Rattle.starlark_grammar.specs.FoundLaws.{OutcomeAfterNothing}
use Rattle.starlark_grammar.specs.Longest.{IsLongestReading, IsReading}
use Rattle.starlark_grammar.specs.Margins.{open_widths}
use Rattle.starlark_grammar.specs.Pieces.{Before, Ends, Fails, Gap, Layout, Nothing, Other, Piece, Stands, Step, by_before, first_margin, step_at}
use Rattle.starlark_grammar.specs.Reading.{History, after, after_all, history_after, next_step, outcome, outcome_after, outcome_in, pieces_len, read, read_after, read_len, reading_outcome, situation}
use Rattle.starlark_grammar.specs.Tokens.{Fault, Outcome, Spanned, moved}
use Rattle.starlark_grammar.specs.Words.{Text, language}
use Rattle.starlark_grammar.proofs.Reading.Readings.{fault_fits, one_longest, piece_fits, read_after_is, reading_fits, started}
use Rattle.starlark_grammar.proofs.Reading.Steps.{is_nothing}

-- the pieces that are read after a history, and what stands after them
abbrev pub pieces_after : History → Text → List Piece
pieces_after history text = (read_after language history text).pieces

abbrev pub last_after : History → Text → Step
last_after history text = (read_after language history text).last

pub longest_after : (history : History) (text : Text) → IsLongestReading language history text (pieces_after history text) (last_after history text)
longest_after history text = read_after_is language history text

-- after no history a text has its outcome
pub outcome_after_nothing : OutcomeAfterNothing
unfolding outcome_after outcome outcome_in read
outcome_after_nothing text = refl

pub outcome_is : (history : History) (text : Text) → outcome_after history text ≡ reading_outcome history text (pieces_after history text) (last_after history text)
unfolding outcome_after
outcome_is history text = refl

-- the outcome by a longest reading, and what was read then
pub after_by : (history : History) (text : Text) (pieces : List Piece) (last : Step) → IsLongestReading language history text pieces last
    → (outcome_after history text ≡ reading_outcome history text pieces last) × (history_after history text ≡ after_all history pieces)
unfolding outcome_after history_after
after_by history text pieces last longest =
    let same = one_longest language history text (pieces_after history text) pieces (last_after history text) last (longest_after history text) longest in
    (ap (λ ps. reading_outcome history text ps (last_after history text)) same.0 ∙ ap (reading_outcome history text pieces) same.1, ap (after_all history) same.0)

-- how far a longest reading reaches
pub read_by : (history : History) (text : Text) (pieces : List Piece) (last : Step) → IsLongestReading language history text pieces last → read_len history text ≡ pieces_len pieces
unfolding read_len
read_by history text pieces last longest = ap pieces_len (one_longest language history text (pieces_after history text) pieces (last_after history text) last (longest_after history text) longest).0

-- at the start of a text, or of a line where lexing begins again, the first margin stands
pub first_step_after : (history : History) (text : Text) → is_nothing history.before ≡ true → next_step language history text ≡ first_margin (open_widths history.widths) text
unfolding next_step situation step_at
first_step_after history text none = go history.before none
  where
    go : (before : Before) → is_nothing before ≡ true → by_before language (situation history) before text ≡ first_margin (open_widths history.widths) text
    go Nothing none = refl
    go Layout none = cc
    go Gap none = cc
    go Other none = cc

-- what is after a piece is not the start of a text
pub later_some : (history : History) (text : Text) (pieces : List Piece) → is_nothing history.before ≡ false → IsReading language history text pieces → is_nothing (after_all history pieces).before ≡ false
later_some history text [] some reads = some
later_some history text (piece ∷ pieces) some reads = later_some (after history piece) (drop piece.len text) pieces (started history piece (piece_fits language history text piece reads.0).sort) reads.1

-- The reading of a text up to its fault.
pub record StopsAt (history : History) (text : Text) (fault : Spanned Fault) : Type 0 where
  pub pieces : List Piece
  pub found : Spanned Fault
  pub longest : IsLongestReading language history text pieces (Fails found)
  pub same : moved (pieces_len pieces) found ≡ fault
  pub is : outcome_after history text ≡ reading_outcome history text pieces (Fails found)
  pub past : history_after history text ≡ after_all history pieces
  pub begin : pieces_len pieces + found.begin ≡ fault.begin
  pub end : pieces_len pieces + found.end ≡ fault.end
  pub order : fault.begin ≤ fault.end
  pub inside : fault.end ≤ length text
  pub reach : pieces_len pieces ≤ length text

pub stops_at : (history : History) (text : Text) (fault : Spanned Fault) → (outcome_after history text).fault ≡ Some fault → StopsAt history text fault
unfolding history_after
stops_at history text fault has = by (last_after history text) (longest_after history text) (outcome_is history text) (sym (ap (λ (o : Outcome). o.fault) (outcome_is history text)) ∙ has)
  where
    pieces : List Piece
    pieces = pieces_after history text

    by : (last : Step) → IsLongestReading language history text pieces last → outcome_after history text ≡ reading_outcome history text pieces last → (reading_outcome history text pieces last).fault ≡ Some fault → StopsAt history text fault
    by (Fails found) longest is e =
        let same : moved (pieces_len pieces) found ≡ fault = cc in
        let begin : pieces_len pieces + found.begin ≡ fault.begin = ap (λ (f : Spanned Fault). f.begin) same in
        let end : pieces_len pieces + found.end ≡ fault.end = ap (λ (f : Spanned Fault). f.end) same in
        let fits = fault_fits language (after_all history pieces) (drop (pieces_len pieces) text) found longest.stands_last in
        let order = fits.order in
        let inside = fits.inside in
        let reach = reading_fits language history text pieces longest.reads in
        record {
          pieces = pieces;
          found = found;
          longest = longest;
          same = same;
          is = is;
          past = refl;
          begin = begin;
          end = end;
          order = omega (arith, begin, end, order);
          inside = omega (arith, end, inside, reach, length-drop (pieces_len pieces) text);
          reach = reach;
        }
    by (Stands piece) longest is e = cc
    by Ends longest is e = cc
