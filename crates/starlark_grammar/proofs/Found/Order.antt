-- All that is found in a text lies in it, in order.
use Rattle.std.proofs.Common.{◌≡◌, ℕ, zero, suc, ◌+◌, ◌≤◌, Bool, true, false, List, [], ◌∷◌, ◌++◌, map, length, drop, refl, ap, sym, subst, ◌∙◌, arith, Option, None, Some}
use Rattle.std.proofs.lemmas.List.{length-drop}
use Rattle.std.specs.List.{AllByRecursion}
use Rattle.starlark_grammar.specs.Found.{Given, Item, Passed, Refused, faults_in, found, found_after, found_by, found_within, given, lexemes_in, moved_item, passed}
use Rattle.starlark_grammar.specs.FoundLaws.{BeginsAfter, FoundFaultsInOrder, FoundLexemesInOrder}
use Rattle.starlark_grammar.specs.AfterFaults.{restart}
use Rattle.starlark_grammar.specs.KeptLines.{is_bad_escape, passed_end, stays_open, with_literal}
use Rattle.starlark_grammar.specs.Pieces.{Before, Fails, Gap, Layout, Nothing, Other, Piece}
use Rattle.starlark_grammar.specs.Reading.{History, after_all, lexemes_along, lexemes_before, nothing, outcome_after, pieces_len, read_len}
use Rattle.starlark_grammar.specs.RecoveryLaws.{AreInOrder}
use Rattle.starlark_grammar.specs.StandIns.{stand_ins}
use Rattle.starlark_grammar.specs.Tokens.{Fault, Lexeme, Outcome, Spanned, moved}
use Rattle.starlark_grammar.specs.Words.{Text}
use Rattle.starlark_grammar.proofs.Found.FoundItems.{by_keeps, passed_bounds, passed_kept, passed_lost}
use Rattle.starlark_grammar.proofs.KeptLines.KeptFaultPlaces.{escape_begun, kept_faults_have_bytes, kept_whole, open_place}
use Rattle.starlark_grammar.proofs.KeptLines.LiteralRests.{whole_ends, whole_other}
use Rattle.starlark_grammar.proofs.KeptLines.StandIns.{stand_ins_cover, stand_ins_order}
use Rattle.starlark_grammar.proofs.Order.OrderedLexemes.{after_order, some_lexemes_before}
use Rattle.starlark_grammar.proofs.Reading.Onward.{StopsAt, read_by, stops_at}
use Rattle.starlark_grammar.proofs.Reading.Steps.{is_nothing}
use Rattle.starlark_grammar.proofs.Recovery.EarlierLexemes.{EndBy, along_ends, end_later, lexemes_before_restart}
use Rattle.starlark_grammar.proofs.Recovery.RestartBounds.{restart_bounds}
use Rattle.starlark_grammar.proofs.Recovery.Order.{order_append, order_later, order_sooner, whole_order}

-- Lexemes and faults of items

pub lexemes_append : (lexemes : List Lexeme) (items : List Item) → lexemes_in (given lexemes ++ items) ≡ lexemes ++ lexemes_in items
lexemes_append [] items = refl
lexemes_append (lexeme ∷ lexemes) items = ap (λ l. lexeme ∷ l) (lexemes_append lexemes items)

pub faults_append : (lexemes : List Lexeme) (items : List Item) → faults_in (given lexemes ++ items) ≡ faults_in items
faults_append [] items = refl
faults_append (lexeme ∷ lexemes) items = faults_append lexemes items

pub lexemes_moved : (n : ℕ) (items : List Item) → lexemes_in (map (moved_item n) items) ≡ map (moved n) (lexemes_in items)
lexemes_moved n [] = refl
lexemes_moved n (Given lexeme ∷ items) = ap (λ l. moved n lexeme ∷ l) (lexemes_moved n items)
lexemes_moved n (Refused fault ∷ items) = lexemes_moved n items

pub faults_moved : (n : ℕ) (items : List Item) → faults_in (map (moved_item n) items) ≡ map (moved n) (faults_in items)
faults_moved n [] = refl
faults_moved n (Given lexeme ∷ items) = faults_moved n items
faults_moved n (Refused fault ∷ items) = ap (λ l. moved n fault ∷ l) (faults_moved n items)

pub none_lexemes : (lexemes : List Lexeme) → lexemes_in (given lexemes) ≡ lexemes
none_lexemes [] = refl
none_lexemes (lexeme ∷ lexemes) = ap (λ l. lexeme ∷ l) (none_lexemes lexemes)

pub none_faults : (lexemes : List Lexeme) → faults_in (given lexemes) ≡ []
none_faults [] = refl
none_faults (lexeme ∷ lexemes) = none_faults lexemes

-- Lexemes in order

-- up to an offset that none of them ends after
order_to : (from : ℕ) (xs : List Lexeme) (to at : ℕ) → AreInOrder from xs to → from ≤ at → EndBy at xs → AreInOrder from xs at
order_to from [] to at order reach ends = reach
order_to from (x ∷ xs) to at order reach ends = (order.0, order.1, order_to x.end xs to at order.2 ends.0 ends.1)

order_further : (from : ℕ) (xs : List Lexeme) (to more : ℕ) → to ≤ more → AreInOrder from xs to → AreInOrder from xs more
order_further from [] to more less order = omega (arith, less, order)
order_further from (x ∷ xs) to more less order = (order.0, order.1, order_further x.end xs to more less order.2)

whole_lexemes : (history : History) (text : Text) → AreInOrder 0 (outcome_after history text).lexemes (length text)
whole_lexemes history text =
    let order = (after_order history text).0 in
    order_further 0 (outcome_after history text).lexemes order.0 (length text) order.1 (whole_order text 0 (outcome_after history text).lexemes order.0 order.2)

-- What is passed with a fault

-- the lexemes before a fault after the first margin end before what has the fault
ends_sooner : (history : History) (text : Text) (fault : Spanned Fault) (here : StopsAt history text fault) → is_nothing (after_all history here.pieces).before ≡ false → (at : ℕ) → pieces_len here.pieces ≤ at → EndBy at (outcome_after history text).lexemes
ends_sooner history text fault here begun at later = subst (λ (o : Outcome). EndBy at o.lexemes) (sym here.is) (by here.pieces refl)
  where
    by : (pieces : List Piece) → pieces ≡ here.pieces → EndBy at (lexemes_before history.before text here.pieces)
    by (piece ∷ pieces) e =
        let ends = along_ends 0 history text here.pieces here.longest.reads in
        let all : lexemes_before history.before text here.pieces ≡ lexemes_along 0 here.pieces =
        ap (lexemes_before history.before text) (sym e) ∙ some_lexemes_before history.before text piece pieces ∙ ap (lexemes_along 0) e in
        subst (EndBy at) (sym all) (end_later (0 + pieces_len here.pieces) at (lexemes_along 0 here.pieces) (omega (arith, later)) ends)
    by [] e = subst (λ (ps : List Piece). EndBy at (lexemes_before history.before text ps)) e (none history.before refl)
      where
        none : (before : Before) → history.before ≡ before → EndBy at (lexemes_before before text [])
        none Nothing f =
            let some : is_nothing history.before ≡ false = subst (λ (ps : List Piece). is_nothing (after_all history ps).before ≡ false) (sym e) begun in
            let both : true ≡ false = sym (ap is_nothing f) ∙ some in cc
        none Layout f = tt
        none Gap f = tt
        none Other f = tt

-- and those before any fault end in what is passed with it
pub ends_before_rest : (history : History) (text : Text) (fault : Spanned Fault) → (outcome_after history text).fault ≡ Some fault → EndBy (passed history text fault).len (outcome_after history text).lexemes
ends_before_rest history text fault has = by_keeps history text fault
    (λ is. subst (λ (p : Passed). EndBy p.len (outcome_after history text).lexemes) (sym (passed_kept history text fault is)) (kept is))
    (λ is. subst (λ (p : Passed). EndBy p.len (outcome_after history text).lexemes) (sym (passed_lost history text fault is)) (lost (is_bad_escape fault.node) refl (stops_at history text fault has)))
  where
    kept : stays_open history text fault ≡ true → EndBy (passed_end text (with_literal history text fault)) (outcome_after history text).lexemes
    kept is =
        let there = open_place history text fault (has, is) in
        let bytes = kept_faults_have_bytes history text fault (has, is) in
        let begin = there.here.begin in
        ends_sooner history text fault there.here there.begun (passed_end text (with_literal history text fault)) (omega (arith, bytes.0, begin))

    lost : (bad : Bool) → is_bad_escape fault.node ≡ bad → StopsAt history text fault → EndBy (restart text (with_literal history text fault)) (outcome_after history text).lexemes
    lost false e here = subst (λ (last : Spanned Fault). EndBy (restart text last) (outcome_after history text).lexemes) (sym (whole_other (read_len history text) text fault e)) (lexemes_before_restart history text fault here)
    lost true e here =
        let order = here.order in
        let begin = here.begin in
        let ends = whole_ends (read_len history text) text fault order here.inside in
        let bounds = restart_bounds text (with_literal history text fault) ends.1 in
        ends_sooner history text fault here (escape_begun history text fault here e).0 (restart text (with_literal history text fault)) (omega (arith, order, begin, ends.0, bounds.0))

-- The lexemes before a fault, and then those that stand for it, are in order in what is passed with it, and these have the
-- bytes of the fault.
pub record IsFollowed (history : History) (text : Text) (fault : Spanned Fault) : Type 0 where
  pub from : ℕ
  pub ends : EndBy from (outcome_after history text).lexemes
  pub order : AreInOrder from (passed history text fault).stand_ins (passed history text fault).len
  pub cover : AllByRecursion (BeginsAfter fault) (passed history text fault).stand_ins

pub followed : (history : History) (text : Text) (fault : Spanned Fault) → (outcome_after history text).fault ≡ Some fault → IsFollowed history text fault
followed history text fault has = by_keeps history text fault kept lost
  where
    kept : stays_open history text fault ≡ true → IsFollowed history text fault
    kept is =
        let there = open_place history text fault (has, is) in
        let here = there.here in
        let read = read_by history text here.pieces (Fails here.found) here.longest in
        let begin = here.begin in
        let order = here.order in
        let literal = whole_ends (read_len history text) text fault order here.inside in
        let begun : read_len history text ≤ fault.begin = omega (arith, read, begin) in
        let stands = stand_ins_order (read_len history text) text fault begun order literal.0 in
        record {
          from = read_len history text;
          ends = ends_sooner history text fault here there.begun (read_len history text) (omega (arith, read));
          order = subst (λ (p : Passed). AreInOrder (read_len history text) p.stand_ins p.len) (sym (passed_kept history text fault is)) (order_further (read_len history text) (stand_ins history text fault) (with_literal history text fault).end (passed_end text (with_literal history text fault)) (kept_whole history text fault (has, is)) stands);
          cover = subst (λ (p : Passed). AllByRecursion (BeginsAfter fault) p.stand_ins) (sym (passed_kept history text fault is)) (stand_ins_cover (read_len history text) text fault begun order literal.0);
        }

    lost : stays_open history text fault ≡ false → IsFollowed history text fault
    lost is = record {
      from = (passed history text fault).len;
      ends = ends_before_rest history text fault has;
      order = subst (λ (p : Passed). AreInOrder p.len p.stand_ins p.len) (sym (passed_lost history text fault is)) (omega arith);
      cover = subst (λ (p : Passed). AllByRecursion (BeginsAfter fault) p.stand_ins) (sym (passed_lost history text fault is)) tt;
    }

-- What is found

abbrev pub IsGood : Text → List Item → Type 0
IsGood text items = AreInOrder 0 (lexemes_in items) (length text) × AreInOrder 0 (faults_in items) (length text)

good_alone : (history : History) (text : Text) → IsGood text (given (outcome_after history text).lexemes)
good_alone history text = (
  subst (λ (l : List Lexeme). AreInOrder 0 l (length text)) (sym (none_lexemes (outcome_after history text).lexemes)) (whole_lexemes history text),
  subst (λ (l : List (Spanned Fault)). AreInOrder 0 l (length text)) (sym (none_faults (outcome_after history text).lexemes)) (omega arith),
)

-- with what is found after a fault
good_after : (history : History) (text : Text) (fault : Spanned Fault) → (outcome_after history text).fault ≡ Some fault → (items : List Item) → IsGood (drop (passed history text fault).len text) items
    → IsGood text (given (outcome_after history text).lexemes ++ (Refused fault ∷ (given (passed history text fault).stand_ins ++ map (moved_item (passed history text fault).len) items)))
good_after history text fault has items good = (
  subst (λ (l : List Lexeme). AreInOrder 0 l (length text)) (sym (lexemes_append left (Refused fault ∷ (given stands ++ rest)) ∙ ap (λ ls. left ++ ls) (lexemes_append stands rest ∙ ap (λ ls. stands ++ ls) (lexemes_moved at items))))
      (order_append 0 from (length text) left (stands ++ map (moved at) (lexemes_in items)) (order_to 0 left (length text) from (whole_lexemes history text) (omega arith) place.ends)
      (order_append from at (length text) stands (map (moved at) (lexemes_in items)) place.order (order_later at text (drop at text) (lexemes_in items) total good.0))),
  subst (λ (l : List (Spanned Fault)). AreInOrder 0 l (length text)) (sym (faults_append left (Refused fault ∷ (given stands ++ rest)) ∙ ap (λ fs. fault ∷ fs) (faults_append stands rest ∙ faults_moved at items)))
      (omega arith, here.order, order_sooner fault.end at (length text) (map (moved at) (faults_in items)) bounds.0 (order_later at text (drop at text) (faults_in items) total good.1)),
)
  where
    at : ℕ
    at = (passed history text fault).len

    place : IsFollowed history text fault
    place = followed history text fault has

    from : ℕ
    from = place.from

    stands : List Lexeme
    stands = (passed history text fault).stand_ins

    left : List Lexeme
    left = (outcome_after history text).lexemes

    rest : List Item
    rest = map (moved_item at) items

    here : StopsAt history text fault
    here = stops_at history text fault has

    bounds : (fault.end ≤ at) × (at ≤ length text)
    bounds = passed_bounds history text fault has

    total : at + length (drop at text) ≡ length text
    total = omega (arith, bounds.1, length-drop at text)

pub good_within : (n : ℕ) (history : History) (text : Text) → IsGood text (found_within n history text)
unfolding found_within
good_within zero history text = good_alone history text
good_within (suc n) history text = by (outcome_after history text).fault refl (good_within n)
  where
    by : (has : Option (Spanned Fault)) → (outcome_after history text).fault ≡ has → ((history : History) (text : Text) → IsGood text (found_within n history text)) → IsGood text (found_by history text has (found_within n))
    by None e again = good_alone history text
    by (Some fault) e again =
        good_after history text fault e (found_within n (passed history text fault).history (drop (passed history text fault).len text))
        (again (passed history text fault).history (drop (passed history text fault).len text))

pub good_found : (history : History) (text : Text) → IsGood text (found_after history text)
unfolding found_after
good_found history text = good_within (suc (length text)) history text

pub found_lexemes_in_order : FoundLexemesInOrder
unfolding found
found_lexemes_in_order text = (good_found nothing text).0

pub found_faults_in_order : FoundFaultsInOrder
unfolding found
found_faults_in_order text = (good_found nothing text).1
