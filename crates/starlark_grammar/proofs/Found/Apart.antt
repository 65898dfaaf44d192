-- No lexeme that is found has a part of a fault's bytes, but for comments.
use Rattle.std.proofs.Common.{◌≡◌, ℕ, zero, suc, ◌+◌, ◌≤◌, List, [], ◌∷◌, ◌++◌, map, length, drop, refl, ap, sym, subst, ◌∙◌, arith, inl, inr, Option, None, Some}
use Rattle.std.specs.List.{AllByRecursion}
use Rattle.starlark_grammar.specs.Found.{Given, Item, Refused, faults_in, found, found_after, found_by, found_within, given, lexemes_in, moved_item, passed}
use Rattle.starlark_grammar.specs.FoundLaws.{AreApart, BeginsAfter, EndsBefore, FoundApart}
use Rattle.starlark_grammar.specs.Margins.{margin_of}
use Rattle.starlark_grammar.specs.Pieces.{Before, Gap, Layout, Nothing, Other, Piece}
use Rattle.starlark_grammar.specs.Reading.{History, lexemes_along, lexemes_before, nothing, outcome_after, pieces_len}
use Rattle.starlark_grammar.specs.RecoveryLaws.{AreInOrder}
use Rattle.starlark_grammar.specs.Tokens.{Fault, Lexeme, Outcome, Spanned, moved}
use Rattle.starlark_grammar.specs.Words.{Text}
use Rattle.starlark_grammar.proofs.Found.FoundItems.{passed_bounds}
use Rattle.starlark_grammar.proofs.Found.Order.{ends_before_rest, faults_append, faults_moved, followed, lexemes_append, lexemes_moved, none_faults}
use Rattle.starlark_grammar.proofs.MarginComments.{margin_holds}
use Rattle.starlark_grammar.proofs.Order.OrderedLexemes.{some_lexemes_before}
use Rattle.starlark_grammar.proofs.Reading.Onward.{StopsAt, stops_at}
use Rattle.starlark_grammar.proofs.Recovery.EarlierLexemes.{EndBy, along_ends}
use Rattle.starlark_grammar.proofs.Recovery.Order.{order_reach}

-- Lexemes before a fault

abbrev AllBefore : Spanned Fault → List Lexeme → Type 0
AllBefore fault lexemes = AllByRecursion (λ (lexeme : Lexeme). EndsBefore lexeme fault) lexemes

sooner : (fault : Spanned Fault) (to : ℕ) (lexemes : List Lexeme) → to ≤ fault.begin → EndBy to lexemes → AllBefore fault lexemes
sooner fault to [] less ends = tt
sooner fault to (lexeme ∷ lexemes) less ends = let first = ends.0 in ((λ plain. omega (arith, less, first)), sooner fault to lexemes less ends.1)

comments_before : (fault : Spanned Fault) (text : Text) → AllBefore fault (margin_of text).comments
comments_before fault text = margin_holds (AllBefore fault) tt (λ at line rest more. ((λ plain. cc), more)) text

-- those of the outcome that has the fault
before_fault : (history : History) (text : Text) (fault : Spanned Fault) → (outcome_after history text).fault ≡ Some fault → AllBefore fault (outcome_after history text).lexemes
before_fault history text fault has = subst (λ (o : Outcome). AllBefore fault o.lexemes) (sym here.is) (by here.pieces refl)
  where
    here : StopsAt history text fault
    here = stops_at history text fault has

    none : (before : Before) → AllBefore fault (lexemes_before before text [])
    none Nothing = comments_before fault text
    none Layout = tt
    none Gap = tt
    none Other = tt

    by : (pieces : List Piece) → pieces ≡ here.pieces → AllBefore fault (lexemes_before history.before text here.pieces)
    by [] e = subst (λ (ps : List Piece). AllBefore fault (lexemes_before history.before text ps)) e (none history.before)
    by (piece ∷ pieces) e =
        let begin = here.begin in
        let all : lexemes_before history.before text here.pieces ≡ lexemes_along 0 here.pieces =
        ap (lexemes_before history.before text) (sym e) ∙ some_lexemes_before history.before text piece pieces ∙ ap (lexemes_along 0) e in
        subst (AllBefore fault) (sym all) (sooner fault (0 + pieces_len here.pieces) (lexemes_along 0 here.pieces) (omega (arith, begin)) (along_ends 0 history text here.pieces here.longest.reads))

-- Items later in a text

ends_moved : (n : ℕ) (lexeme : Lexeme) (faults : List (Spanned Fault)) → AllByRecursion (EndsBefore lexeme) faults → AllByRecursion (EndsBefore (moved n lexeme)) (map (moved n) faults)
ends_moved n lexeme [] ends = tt
ends_moved n lexeme (fault ∷ faults) ends = ((λ plain. let first = ends.0 plain in omega (arith, first)), ends_moved n lexeme faults ends.1)

begins_moved : (n : ℕ) (fault : Spanned Fault) (lexemes : List Lexeme) → AllByRecursion (BeginsAfter fault) lexemes → AllByRecursion (BeginsAfter (moved n fault)) (map (moved n) lexemes)
begins_moved n fault [] begins = tt
begins_moved n fault (lexeme ∷ lexemes) begins = (by begins.0, begins_moved n fault lexemes begins.1)
  where
    by : BeginsAfter fault lexeme → BeginsAfter (moved n fault) (moved n lexeme)
    by (inl later) = inl (omega (arith, later))
    by (inr stands) = inr (omega (arith, stands.0), omega (arith, stands.1))

apart_moved : (n : ℕ) (items : List Item) → AreApart items → AreApart (map (moved_item n) items)
apart_moved n [] apart = tt
apart_moved n (Given lexeme ∷ items) apart =
    (subst (AllByRecursion (EndsBefore (moved n lexeme))) (sym (faults_moved n items)) (ends_moved n lexeme (faults_in items) apart.0), apart_moved n items apart.1)
apart_moved n (Refused fault ∷ items) apart =
    (subst (AllByRecursion (BeginsAfter (moved n fault))) (sym (lexemes_moved n items)) (begins_moved n fault (lexemes_in items) apart.0), apart_moved n items apart.1)

-- all faults of later items are after an offset, and so are all lexemes
faults_past : (n : ℕ) (lexeme : Lexeme) (faults : List (Spanned Fault)) → lexeme.end ≤ n → AllByRecursion (EndsBefore lexeme) (map (moved n) faults)
faults_past n lexeme [] ends = tt
faults_past n lexeme (fault ∷ faults) ends = ((λ plain. omega (arith, ends)), faults_past n lexeme faults ends)

lexemes_past : (n : ℕ) (fault : Spanned Fault) (lexemes : List Lexeme) → fault.end ≤ n → AllByRecursion (BeginsAfter fault) (map (moved n) lexemes)
lexemes_past n fault [] less = tt
lexemes_past n fault (lexeme ∷ lexemes) less = (inl (omega (arith, less)), lexemes_past n fault lexemes less)

-- What is found

apart_alone : (lexemes : List Lexeme) → AreApart (given lexemes)
apart_alone [] = tt
apart_alone (lexeme ∷ lexemes) = (subst (AllByRecursion (EndsBefore lexeme)) (sym (none_faults lexemes)) tt, apart_alone lexemes)

-- lexemes, and what is found from an offset on that they end before
apart_after : (at : ℕ) (items : List Item) (lexemes : List Lexeme) → AreApart items → EndBy at lexemes → AreApart (given lexemes ++ map (moved_item at) items)
apart_after at items [] apart ends = apart_moved at items apart
apart_after at items (lexeme ∷ lexemes) apart ends =
    (subst (AllByRecursion (EndsBefore lexeme)) (sym (faults_append lexemes (map (moved_item at) items) ∙ faults_moved at items)) (faults_past at lexeme (faults_in items) ends.0), apart_after at items lexemes apart ends.1)

all_append : (P : Lexeme → Type 0) (one other : List Lexeme) → AllByRecursion P one → AllByRecursion P other → AllByRecursion P (one ++ other)
all_append P [] other all more = more
all_append P (lexeme ∷ one) other all more = (all.0, all_append P one other all.1 more)

-- lexemes, a fault after them, what stands for it, and what is found from an offset on
apart_joined : (fault : Spanned Fault) (at : ℕ) (items : List Item) (stands lexemes : List Lexeme) → fault.end ≤ at → AreApart items → AllByRecursion (BeginsAfter fault) stands → EndBy at stands → AllBefore fault lexemes → EndBy at lexemes
    → AreApart (given lexemes ++ (Refused fault ∷ (given stands ++ map (moved_item at) items)))
apart_joined fault at items stands [] less apart cover reach before ends = (
  subst (AllByRecursion (BeginsAfter fault)) (sym (lexemes_append stands (map (moved_item at) items) ∙ ap (λ ls. stands ++ ls) (lexemes_moved at items)))
      (all_append (BeginsAfter fault) stands (map (moved at) (lexemes_in items)) cover (lexemes_past at fault (lexemes_in items) less)),
  apart_after at items stands apart reach,
)
apart_joined fault at items stands (lexeme ∷ lexemes) less apart cover reach before ends = (
  subst (AllByRecursion (EndsBefore lexeme)) (sym (faults_append lexemes (Refused fault ∷ (given stands ++ map (moved_item at) items)) ∙ ap (λ fs. fault ∷ fs) (faults_append stands (map (moved_item at) items) ∙ faults_moved at items)))
      (before.0, faults_past at lexeme (faults_in items) ends.0),
  apart_joined fault at items stands lexemes less apart cover reach before.1 ends.1,
)

-- those in order end before the last offset
in_order_end : (from : ℕ) (lexemes : List Lexeme) (to : ℕ) → AreInOrder from lexemes to → EndBy to lexemes
in_order_end from [] to order = tt
in_order_end from (lexeme ∷ lexemes) to order = (order_reach lexeme.end lexemes to order.2, in_order_end lexeme.end lexemes to order.2)

apart_within : (n : ℕ) (history : History) (text : Text) → AreApart (found_within n history text)
unfolding found_within
apart_within zero history text = apart_alone (outcome_after history text).lexemes
apart_within (suc n) history text = by (outcome_after history text).fault refl (apart_within n)
  where
    by : (has : Option (Spanned Fault)) → (outcome_after history text).fault ≡ has → ((history : History) (text : Text) → AreApart (found_within n history text)) → AreApart (found_by history text has (found_within n))
    by None e again = apart_alone (outcome_after history text).lexemes
    by (Some fault) e again =
        let past = passed history text fault in
        let place = followed history text fault e in
        apart_joined fault past.len (found_within n past.history (drop past.len text)) past.stand_ins (outcome_after history text).lexemes (passed_bounds history text fault e).0
        (again past.history (drop past.len text)) place.cover (in_order_end place.from past.stand_ins past.len place.order) (before_fault history text fault e) (ends_before_rest history text fault e)

pub found_apart : FoundApart
unfolding found found_after
found_apart text = apart_within (suc (length text)) nothing text
