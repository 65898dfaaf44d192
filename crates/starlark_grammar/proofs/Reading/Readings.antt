-- Readings: of two one begins the other, and what is computed is the longest.
use Rattle.std.proofs.Common.{◌≡◌, ℕ, zero, suc, ◌+◌, ◌-◌, ◌≤◌, false, List, [], ◌∷◌, ◌++◌, length, drop, refl, ap, ◌∙◌, sym, subst, arith, append-nil, inl, inr, ◌⊎◌}
use Rattle.std.proofs.lemmas.List.{length-drop}
use Rattle.std.proofs.lemmas.List.Sums.{sum_by-cons}
use Rattle.starlark_grammar.specs.Words.{Text, Table}
use Rattle.starlark_grammar.specs.Tokens.{Fault, Spanned, Outcome}
use Rattle.starlark_grammar.specs.Depths.{Mode, Outside, InText, AtTop, Deeper}
use Rattle.starlark_grammar.specs.Items.{body_from, body_at}
use Rattle.starlark_grammar.specs.Pieces.{Before, Nothing, Layout, Gap, Other, Piece, Step, Stands, Fails, Ends, Situation, chunk, by_mode, by_before, step_at}
use Rattle.starlark_grammar.specs.Reading.{History, nothing, after, after_all, situation, next_step, pieces_len, read_onward, read_from, read, read_after, outcome_of, outcome_in}
use Rattle.starlark_grammar.specs.Longest.{IsReading, IsLongestReading, IsOutcome}
use Rattle.starlark_grammar.specs.Laws.{Begins}
use Rattle.starlark_grammar.proofs.Lists.{drop-sum, drop-remainder}
use Rattle.starlark_grammar.proofs.Reading.Steps.{FaultFits, PieceFits, StepFits, is_nothing, least_len, step_fits}

-- of two pieces that stand at one place
same_piece : (step : Step) (one other : Piece) → step ≡ Stands one → step ≡ Stands other → one ≡ other
same_piece step one other e f = let both : Stands one ≡ Stands other = sym e ∙ f in cc

begins_onward : (first : Piece) (one other : List Piece) → Begins one other → Begins (first ∷ one) (first ∷ other)
begins_onward first one other h = (h.0, ap (λ pieces. first ∷ pieces) h.1)

pub readings_agree : (table : Table) (history : History) (text : Text) (one other : List Piece) → IsReading table history text one → IsReading table history text other → Begins one other ⊎ Begins other one
readings_agree table history text [] other h k = inl (other, refl)
readings_agree table history text (first ∷ one) [] h k = inr (first ∷ one, refl)
readings_agree table history text (first ∷ one) (second ∷ other) h k =
    go second (same_piece (next_step table history text) first second h.0 k.0) k.1 (λ other. readings_agree table (after history first) (drop first.len text) one other h.1)
  where
    both : (rest : List Piece) → Begins one rest ⊎ Begins rest one → Begins (first ∷ one) (first ∷ rest) ⊎ Begins (first ∷ rest) (first ∷ one)
    both rest (inl more) = inl (begins_onward first one rest more)
    both rest (inr more) = inr (begins_onward first rest one more)

    go : (next : Piece) → first ≡ next → IsReading table (after history next) (drop next.len text) other
        → ((rest : List Piece) → IsReading table (after history first) (drop first.len text) rest → Begins one rest ⊎ Begins rest one)
        → Begins (first ∷ one) (next ∷ other) ⊎ Begins (next ∷ other) (first ∷ one)
    go next same reads more =
        subst (λ (p : Piece). IsReading table (after history p) (drop p.len text) other → Begins (first ∷ one) (p ∷ other) ⊎ Begins (p ∷ other) (first ∷ one)) same (λ k. both other (more other k)) reads

-- what is known of a piece that stands somewhere
pub piece_fits : (table : Table) (history : History) (text : Text) (piece : Piece) → next_step table history text ≡ Stands piece → PieceFits (least_len history.before) text piece
unfolding next_step situation
piece_fits table history text piece e = subst (StepFits (least_len history.before) text) e (step_fits table (situation history) text)

-- what is known of a fault that stands somewhere
pub fault_fits : (table : Table) (history : History) (text : Text) (fault : Spanned Fault) → next_step table history text ≡ Fails fault → FaultFits text fault
unfolding next_step situation
fault_fits table history text fault e = subst (StepFits (least_len history.before) text) e (step_fits table (situation history) text)

-- where the text is at its end
pub ends_at_end : (table : Table) (history : History) (text : Text) → next_step table history text ≡ Ends → text ≡ []
unfolding next_step situation
ends_at_end table history text e = subst (StepFits (least_len history.before) text) e (step_fits table (situation history) text)

pub reading_fits : (table : Table) (history : History) (text : Text) (pieces : List Piece) → IsReading table history text pieces → pieces_len pieces ≤ length text
reading_fits table history text [] h = omega arith
reading_fits table history text (first ∷ pieces) h =
    let fits = (piece_fits table history text first h.0).inside in
    let more = reading_fits table (after history first) (drop first.len text) pieces h.1 in
    let total = sum_by-cons (λ (piece : Piece). piece.len) first pieces in
    omega (arith, total, length-drop first.len text)

-- no piece but a first margin stands at the end of a text
none_at_end : (table : Table) (s : Situation) (piece : Piece) → is_nothing s.before ≡ false → step_at table s [] ≡ Stands piece → ⊥
unfolding step_at chunk body_at body_from
none_at_end table s piece h e = by_before' s.before h e
  where
    by_mode' : (mode : Mode) → by_mode table s mode [] ≡ Stands piece → ⊥
    by_mode' Outside e = cc
    by_mode' (InText opening) e = cc
    by_mode' AtTop e = cc
    by_mode' Deeper e = cc

    by_before' : (before : Before) → is_nothing before ≡ false → by_before table s before [] ≡ Stands piece → ⊥
    by_before' Nothing h e = cc
    by_before' Layout h e = by_mode' s.mode e
    by_before' Gap h e = by_mode' s.mode e
    by_before' Other h e = by_mode' s.mode e

-- the history after a piece isn't that of a text's start
pub started : (history : History) (piece : Piece) → is_nothing piece.sort ≡ false → is_nothing (after history piece).before ≡ false
unfolding after
started history piece h = h

pub one_least : (before : Before) → is_nothing before ≡ false → least_len before ≡ 1
one_least Nothing h = cc
one_least Layout h = refl
one_least Gap h = refl
one_least Other h = refl

-- one more piece in front
pub longest_onward : (table : Table) (history : History) (text : Text) (piece : Piece) (pieces : List Piece) (last : Step) → next_step table history text ≡ Stands piece → IsLongestReading table (after history piece) (drop piece.len text) pieces last → IsLongestReading table history text (piece ∷ pieces) last
longest_onward table history text piece pieces last e h =
    let total : pieces_len (piece ∷ pieces) ≡ piece.len + pieces_len pieces = sum_by-cons (λ (piece : Piece). piece.len) piece pieces in
    let left : drop (pieces_len (piece ∷ pieces)) text ≡ drop (pieces_len pieces) (drop piece.len text) = ap (λ n. drop n text) total ∙ drop-sum piece.len (pieces_len pieces) text in
    record {
      reads = (e, h.reads);
      stands_last = ap (next_step table (after_all (after history piece) pieces)) left ∙ h.stands_last;
      no_piece = h.no_piece;
    }

pub none_next : (table : Table) (history : History) (piece : Piece) → is_nothing history.before ≡ false → next_step table history [] ≡ Stands piece → ⊥
unfolding next_step situation
none_next table history piece h e = none_at_end table (situation history) piece h e

-- what stands after no piece
pub stops_here : (table : Table) (history : History) (text : Text) (last : Step) → next_step table history text ≡ last → ((piece : Piece) → last ≡ Stands piece → ⊥) → IsLongestReading table history text [] last
stops_here table history text last e none = record { reads = tt; stands_last = e; no_piece = none }

pub read_from_is : (table : Table) (history : History) (passed : ℕ) (text : Text) → is_nothing history.before ≡ false → IsLongestReading table history (drop passed text) (read_from table history passed text).pieces (read_from table history passed text).last
unfolding read_from
read_from_is table history zero [] h = stops_here table history [] (next_step table history []) refl (λ piece e. none_next table history piece h e)
read_from_is table history (suc passed) [] h = stops_here table history [] (next_step table history []) refl (λ piece e. none_next table history piece h e)
read_from_is table history (suc passed) (b ∷ bs) h = read_from_is table history passed bs h
read_from_is table history zero (b ∷ bs) h = go (next_step table history (b ∷ bs)) refl (λ piece k. read_from_is table (after history piece) (piece.len - 1) bs (started history piece k))
  where
    go : (step : Step) → next_step table history (b ∷ bs) ≡ step
        → ((piece : Piece) → is_nothing piece.sort ≡ false → IsLongestReading table (after history piece) (drop (piece.len - 1) bs) (read_from table (after history piece) (piece.len - 1) bs).pieces (read_from table (after history piece) (piece.len - 1) bs).last)
        → IsLongestReading table history (b ∷ bs) (read_onward step (λ piece. read_from table (after history piece) (piece.len - 1) bs)).pieces (read_onward step (λ piece. read_from table (after history piece) (piece.len - 1) bs)).last
    go (Stands piece) e more =
        let fits = piece_fits table history (b ∷ bs) piece e in
        let least = one_least history.before h in
        let some = fits.some in
        let left : drop piece.len (b ∷ bs) ≡ drop (piece.len - 1) bs = drop-remainder piece.len b bs (omega (arith, least, some)) in
        longest_onward table history (b ∷ bs) piece _ _ e (subst (λ (t : Text). IsLongestReading table (after history piece) t (read_from table (after history piece) (piece.len - 1) bs).pieces (read_from table (after history piece) (piece.len - 1) bs).last) (sym left) (more piece fits.sort))
    go (Fails fault) e more = stops_here table history (b ∷ bs) (Fails fault) e (λ piece k. cc)
    go Ends e more = stops_here table history (b ∷ bs) Ends e (λ piece k. cc)

pub read_after_is : (table : Table) (history : History) (text : Text) → IsLongestReading table history text (read_after table history text).pieces (read_after table history text).last
unfolding read_after
read_after_is table history text = go (next_step table history text) refl
  where
    go : (step : Step) → next_step table history text ≡ step → IsLongestReading table history text (read_onward step (λ piece. read_from table (after history piece) piece.len text)).pieces (read_onward step (λ piece. read_from table (after history piece) piece.len text)).last
    go (Stands piece) e =
        let fits = piece_fits table history text piece e in
        longest_onward table history text piece _ _ e (read_from_is table (after history piece) piece.len text (started history piece fits.sort))
    go (Fails fault) e = stops_here table history text (Fails fault) e (λ piece k. cc)
    go Ends e = stops_here table history text Ends e (λ piece k. cc)

pub read_is : (table : Table) (text : Text) → IsLongestReading table nothing text (read table text).pieces (read table text).last
unfolding read
read_is table text = read_after_is table nothing text

-- a longest reading goes on in no way
longest_ends : (table : Table) (history : History) (text : Text) (pieces more : List Piece) (last : Step) → IsLongestReading table history text pieces last → IsReading table history text (pieces ++ more) → more ≡ []
longest_ends table history text pieces [] last h k = refl
longest_ends table history text [] (piece ∷ more) last h k = absurd (h.no_piece piece (sym h.stands_last ∙ k.0))
longest_ends table history text (first ∷ pieces) (piece ∷ more) last h k =
    let total : pieces_len (first ∷ pieces) ≡ first.len + pieces_len pieces = sum_by-cons (λ (piece : Piece). piece.len) first pieces in
    let left : drop (pieces_len pieces) (drop first.len text) ≡ drop (pieces_len (first ∷ pieces)) text = sym (ap (λ n. drop n text) total ∙ drop-sum first.len (pieces_len pieces) text) in
    longest_ends table (after history first) (drop first.len text) pieces (piece ∷ more) last
    (record { reads = h.reads.1; stands_last = ap (next_step table (after_all (after history first) pieces)) left ∙ h.stands_last; no_piece = h.no_piece }) k.1

-- the longest reading is one
pub one_longest : (table : Table) (history : History) (text : Text) (one other : List Piece) (last end : Step) → IsLongestReading table history text one last → IsLongestReading table history text other end → (one ≡ other) × (last ≡ end)
one_longest table history text one other last end h k = go (readings_agree table history text one other h.reads k.reads)
  where
    with : (same : one ≡ other) → (one ≡ other) × (last ≡ end)
    with same = (same, sym h.stands_last ∙ ap (λ (ps : List Piece). next_step table (after_all history ps) (drop (pieces_len ps) text)) same ∙ k.stands_last)

    go : Begins one other ⊎ Begins other one → (one ≡ other) × (last ≡ end)
    go (inl more) =
        let none : more.0 ≡ [] = longest_ends table history text one more.0 last h (subst (IsReading table history text) more.1 k.reads) in
        with (sym (more.1 ∙ ap (λ ps. one ++ ps) none ∙ append-nil one))
    go (inr more) =
        let none : more.0 ≡ [] = longest_ends table history text other more.0 end k (subst (IsReading table history text) more.1 h.reads) in
        with (more.1 ∙ ap (λ ps. other ++ ps) none ∙ append-nil other)

pub outcome_is : (table : Table) (text : Text) → IsOutcome table text (outcome_in table text)
unfolding outcome_in
outcome_is table text = record { pieces = (read table text).pieces; last = (read table text).last; longest = read_is table text; same = refl }

pub outcome_only : (table : Table) (text : Text) (found : Outcome) → IsOutcome table text found → found ≡ outcome_in table text
unfolding outcome_in
outcome_only table text found h =
    let both = one_longest table nothing text h.pieces (read table text).pieces h.last (read table text).last h.longest (read_is table text) in
    h.same ∙ ap (λ (ps : List Piece). outcome_of text ps h.last) both.0 ∙ ap (outcome_of text (read table text).pieces) both.1
