-- Newlines that close a text.
use Rattle.std.proofs.Common.{◌≡◌, ℕ, zero, suc, ◌+◌, ◌≤◌, ◌<◌, ◌⊎◌, inl, inr, Bool, true, false, List, [], ◌∷◌, ◌++◌, map, length, take, drop, refl, ap, sym, subst, ◌∙◌, arith, Option, None, Some}
use Rattle.std.specs.List.{ends_with, list_all}
use Rattle.std.specs.Prelude.{◌&&◌, ◌||◌, codes, nat_eq, not}
use Rattle.std.proofs.lemmas.Bool.{both_ways, lt-ltb}
use Rattle.std.proofs.lemmas.List.{drop-take, length-drop, length-take-le, take-append-drop, take_all, append-nil}
use Rattle.starlark_grammar.specs.Cuts.{is_newline}
use Rattle.starlark_grammar.specs.ClosedTexts.{Cut, IsClosedAfter, Past}
use Rattle.starlark_grammar.specs.Found.{Given, Item, Passed, Refused, found, found_after, found_by, found_from, found_within, given, lexemes_in, moved_item, passed}
use Rattle.starlark_grammar.specs.FoundLaws.{LastNewlinesClose, NewlinesClose}
use Rattle.starlark_grammar.specs.Joining.{begins_plainly, begins_undented, has_newline, is_decided, is_dedent}
use Rattle.starlark_grammar.specs.KeptLines.{with_literal, with_literal_at}
use Rattle.starlark_grammar.specs.Reading.{History, nothing, outcome_after, read_len}
use Rattle.starlark_grammar.specs.RecoveryLaws.{AreInOrder}
use Rattle.starlark_grammar.specs.Tokens.{Fault, Lexeme, Outcome, Spanned, moved}
use Rattle.starlark_grammar.specs.Words.{Text}
use Rattle.starlark_grammar.proofs.Found.ClosedTexts.{closed_ends}
use Rattle.starlark_grammar.proofs.Found.FoundItems.{by_keeps, found_after_faults, passed_bounds, passed_kept, passed_lost, whole_bounds}
use Rattle.starlark_grammar.proofs.Found.Order.{good_within}
use Rattle.starlark_grammar.proofs.Found.PassedFaults.{passed_stays}
use Rattle.starlark_grammar.proofs.Joining.Laws.{ends_after}
use Rattle.starlark_grammar.proofs.KeptLines.LiteralRests.{whole_stays}
use Rattle.starlark_grammar.proofs.KeptLines.StandIns.{no_newline}
use Rattle.starlark_grammar.proofs.Lists.{drop-sum}
use Rattle.starlark_grammar.proofs.Reading.Onward.{StopsAt, stops_at}
use Rattle.starlark_grammar.proofs.Recovery.DecidedFaults.{decided, read_stays}
use Rattle.starlark_grammar.proofs.Recovery.LineCuts.{has_newline_later}
use Rattle.starlark_grammar.proofs.Recovery.NewlineCuts.{last_newline_cuts_after, newlines_cut_after}
use Rattle.starlark_grammar.proofs.Recovery.Order.{order_reach}
use Rattle.starlark_grammar.proofs.Recovery.ShortenedFaults.{fault_shortened}

-- The front of a text with a fault that is left in it, up to so many bytes after what is passed with the fault
module _ (history : History) (text : Text) (fault : Spanned Fault) (has : (outcome_after history text).fault ≡ Some fault) (n : ℕ) (some : 0 < n) (inside : (passed history text fault).len + n ≤ length text)
    (closed : IsClosedAfter (passed history text fault).history (take n (drop (passed history text fault).len text))) where
  abbrev at : ℕ
  at = (passed history text fault).len

  abbrev so_far : Text
  so_far = take (at + n) text

  abbrev later : Text
  later = drop (at + n) text

  whole : so_far ++ later ≡ text
  whole = take-append-drop (at + n) text

  len : length so_far ≡ at + n
  len = length-take-le (at + n) text inside

  rest_is : drop at so_far ≡ take n (drop at text)
  rest_is = drop-take at n text

  front_ends : ends_with nat_eq so_far (codes "\n") ≡ true
  front_ends =
      let left : 0 < length (drop at so_far) = omega (arith, some, len, length-drop at so_far) in
      ap (λ (t : Text). ends_with nat_eq t (codes "\n")) (sym (take-append-drop at so_far)) ∙ ends_after (take at so_far) (drop at so_far) left
      ∙ ap (λ (t : Text). ends_with nat_eq t (codes "\n")) rest_is
      ∙ closed_ends (passed history text fault).history (take n (drop at text)) closed (subst (λ (t : Text). 0 < length t) rest_is left)

  reaches : (with_literal history text fault).end < length so_far
  reaches = omega (arith, whole_bounds history text fault has, some, len)

  front_own : is_decided so_far fault ≡ true
  unfolding is_decided
  front_own = let bounds = passed_bounds history text fault has in rw (lt-ltb fault.end (length so_far) (omega (arith, bounds.0, some, len)), front_ends) refl

  front_outcome : outcome_after history so_far ≡ outcome_after history text
  front_outcome =
      (fault_shortened history so_far later fault (ap (λ (t : Text). (outcome_after history t).fault) whole ∙ has) front_own
      (omega (arith, ap (λ (t : Text). (passed history t fault).len) whole, len))).0
      ∙ ap (outcome_after history) whole

  front_has : (outcome_after history so_far).fault ≡ Some fault
  front_has = ap (λ (o : Outcome). o.fault) front_outcome ∙ has

  here : StopsAt history so_far fault
  here = stops_at history so_far fault front_has

  front_len : read_len history so_far ≡ read_len history text
  front_len = let parts = decided so_far fault front_own in sym (read_stays history so_far later fault parts.1 here parts.0) ∙ ap (read_len history) whole

  front_literal : with_literal history so_far fault ≡ with_literal history text fault
  front_literal =
      let parts = decided so_far fault front_own in
      let order = here.order in
      let text_reaches : (with_literal_at (read_len history text) (so_far ++ later) fault).end < length so_far = omega (arith, ap (λ (t : Text). (with_literal_at (read_len history text) t fault).end) whole, reaches) in
      ap (λ n. with_literal_at n so_far fault) front_len
      ∙ sym (whole_stays (read_len history text) so_far later fault parts.1 (omega (arith, order, parts.0)) (inr text_reaches)).0
      ∙ ap (λ (t : Text). with_literal_at (read_len history text) t fault) whole

  front_decided : is_decided so_far (with_literal history so_far fault) ≡ true
  unfolding is_decided
  front_decided = rw front_literal (rw (lt-ltb (with_literal history text fault).end (length so_far) reaches, front_ends) refl)

  front_passed : passed history so_far fault ≡ passed history text fault
  front_passed = sym (passed_stays history so_far later fault front_has front_decided) ∙ ap (λ (t : Text). passed history t fault) whole

  pub front_closed : IsClosedAfter history so_far
  front_closed =
      Past history so_far fault front_has front_decided
      (subst (λ (p : Passed). IsClosedAfter p.history (drop p.len so_far)) (sym front_passed) (subst (IsClosedAfter (passed history text fault).history) (sym rest_is) closed))

  pub front_found : found_after history so_far ≡ given (outcome_after history text).lexemes ++ (Refused fault ∷ (given (passed history text fault).stand_ins ++ map (moved_item at) (found_after (passed history text fault).history (take n (drop at text)))))
  front_found =
      found_after_faults history so_far fault front_has
      ∙ ap (λ (o : Outcome). given o.lexemes ++ found_from so_far fault (passed history so_far fault) found_after) front_outcome
      ∙ ap (λ (p : Passed). given (outcome_after history text).lexemes ++ found_from so_far fault p found_after) front_passed
      ∙ ap (λ (t : Text). given (outcome_after history text).lexemes ++ (Refused fault ∷ (given (passed history text fault).stand_ins ++ map (moved_item at) (found_after (passed history text fault).history t)))) rest_is

-- Where the newline is

pub data LineAt (xs : List Lexeme) (others front : List Item) (line : Lexeme) (more : List Item) : Type 0 where
  Inside : (before rest : List Lexeme) → xs ≡ before ++ (line ∷ rest) → given before ≡ front → given rest ++ others ≡ more → LineAt xs others front line more
  Later : (later : List Item) → given xs ++ later ≡ front → others ≡ later ++ (Given line ∷ more) → LineAt xs others front line more

pub line_at : (xs : List Lexeme) (others front : List Item) (line : Lexeme) (more : List Item) → given xs ++ others ≡ front ++ (Given line ∷ more) → LineAt xs others front line more
line_at [] others front line more e = Later front refl e
line_at (x ∷ xs) others [] line more e =
    let same : x ≡ line = cc in
    let rest : given xs ++ others ≡ more = cc in
    Inside [] xs (ap (λ (l : Lexeme). l ∷ xs) same) refl rest
line_at (x ∷ xs) others (item ∷ front) line more e = go (line_at xs others front line more rest)
  where
    same : Given x ≡ item
    same = cc

    rest : given xs ++ others ≡ front ++ (Given line ∷ more)
    rest = cc

    go : LineAt xs others front line more → LineAt (x ∷ xs) others (item ∷ front) line more
    go (Inside before after whole front_is more_is) = Inside (x ∷ before) after (ap (λ (l : List Lexeme). x ∷ l) whole) (rw (same, front_is) refl) more_is
    go (Later later front_is is) = Later later (rw (same, front_is) refl) is

pub none_later : (later : List Item) (line : Lexeme) (more : List Item) → [] ≡ later ++ (Given line ∷ more) → ⊥
none_later [] line more e = cc
none_later (item ∷ later) line more e = cc

-- a newline among lexemes
newline_in : (before : List Lexeme) (line : Lexeme) (rest : List Lexeme) → is_newline line.node ≡ true → has_newline (before ++ (line ∷ rest)) ≡ true
newline_in before line rest is = has_newline_later before (line ∷ rest) (ap (λ (b : Bool). b || has_newline rest) is)

-- after a fault and lexemes without a newline
pub after_fault : (fault : Spanned Fault) (stands : List Lexeme) (others later : List Item) (line : Lexeme) (more : List Item) → has_newline stands ≡ false → is_newline line.node ≡ true → Refused fault ∷ (given stands ++ others) ≡ later ++ (Given line ∷ more)
    → (past : List Item) × (Refused fault ∷ (given stands ++ past) ≡ later) × (others ≡ past ++ (Given line ∷ more))
after_fault fault stands others [] line more none is e = cc
after_fault fault stands others (item ∷ later) line more none is e = by (line_at stands others later line more rest)
  where
    same : Refused fault ≡ item
    same = cc

    rest : given stands ++ others ≡ later ++ (Given line ∷ more)
    rest = cc

    by : LineAt stands others later line more → (past : List Item) × (Refused fault ∷ (given stands ++ past) ≡ item ∷ later) × (others ≡ past ++ (Given line ∷ more))
    by (Inside before after whole front_is more_is) = absurd (both_ways _ none (ap has_newline whole ∙ newline_in before line after is))
    by (Later past front_is items) = (past, rw (same, front_is) refl, items)

-- no newline stands for a fault
pub none_stands : (history : History) (text : Text) (fault : Spanned Fault) → has_newline (passed history text fault).stand_ins ≡ false
none_stands history text fault = by_keeps history text fault
    (λ is. ap (λ (p : Passed). has_newline p.stand_ins) (passed_kept history text fault is) ∙ no_newline (read_len history text) text fault)
    (λ is. ap (λ (p : Passed). has_newline p.stand_ins) (passed_lost history text fault is))

-- a lexeme among those that are in order
pub in_order : (from : ℕ) (later : List Item) (line : Lexeme) (more : List Item) (to : ℕ) → AreInOrder from (lexemes_in (later ++ (Given line ∷ more))) to → (from ≤ line.begin) × (line.begin ≤ line.end) × (line.end ≤ to)
in_order from [] line more to order = (order.0, order.1, order_reach line.end (lexemes_in more) to order.2)
in_order from (Given lexeme ∷ later) line more to order =
    let inner = in_order lexeme.end later line more to order.2 in
    let first = order.0 in
    let within = order.1 in
    (omega (arith, first, within, inner.0), inner.1, inner.2)
in_order from (Refused fault ∷ later) line more to order = in_order from later line more to order

-- the items that are moved ones
pub record MovedLine (n : ℕ) (items later : List Item) (line : Lexeme) (more : List Item) : Type 0 where
  pub before : List Item
  pub own : Lexeme
  pub rest : List Item
  pub whole : items ≡ before ++ (Given own ∷ rest)
  pub before_is : map (moved_item n) before ≡ later
  pub same : moved n own ≡ line
  pub rest_is : map (moved_item n) rest ≡ more

pub moved_line : (n : ℕ) (items later : List Item) (line : Lexeme) (more : List Item) → map (moved_item n) items ≡ later ++ (Given line ∷ more) → MovedLine n items later line more
moved_line n [] [] line more e = cc
moved_line n [] (item ∷ later) line more e = cc
moved_line n (Given lexeme ∷ items) [] line more e =
    let same : moved n lexeme ≡ line = cc in
    let rest : map (moved_item n) items ≡ more = cc in
    record { before = []; own = lexeme; rest = items; whole = refl; before_is = refl; same = same; rest_is = rest }
moved_line n (Refused fault ∷ items) [] line more e = cc
moved_line n (first ∷ items) (item ∷ later) line more e =
    let one : moved_item n first ≡ item = cc in
    let rest : map (moved_item n) items ≡ later ++ (Given line ∷ more) = cc in
    let inner = moved_line n items later line more rest in
    let whole = inner.whole in
    let before_is = inner.before_is in
    record { before = first ∷ inner.before; own = inner.own; rest = inner.rest; whole = ap (λ (l : List Item). first ∷ l) whole; before_is = rw (one, before_is) refl; same = inner.same; rest_is = inner.rest_is }

-- the `Dedent`s at the front of some lexemes
record Undented (xs : List Lexeme) : Type 0 where
  dedents : List Lexeme
  more : List Lexeme
  whole : xs ≡ dedents ++ more
  are : list_all (λ (lexeme : Lexeme). is_dedent lexeme.node) dedents ≡ true
  undented : begins_undented more ≡ true

undent : (xs : List Lexeme) → Undented xs
undent [] = record { dedents = []; more = []; whole = refl; are = refl; undented = refl }
undent (x ∷ xs) = by (is_dedent x.node) refl (undent xs)
  where
    by : (dedents : Bool) → is_dedent x.node ≡ dedents → Undented xs → Undented (x ∷ xs)
    by true e inner =
        let whole = inner.whole in
        record { dedents = x ∷ inner.dedents; more = inner.more; whole = ap (λ (l : List Lexeme). x ∷ l) whole; are = ap (λ (test : Bool). test && list_all (λ (lexeme : Lexeme). is_dedent lexeme.node) inner.dedents) e ∙ inner.are; undented = inner.undented }
    by false e inner = record { dedents = []; more = x ∷ xs; whole = refl; are = refl; undented = ap not e }

-- a line begins plainly after the newline, or the text ends there
abbrev pub EndsPlainly : Text → Lexeme → Type 0
EndsPlainly text line = (begins_plainly (drop line.end text) ≡ true) ⊎ (line.end ≡ length text)

-- it is a lexeme of the text's own outcome
own_line : (history : History) (text : Text) (before : List Lexeme) (line : Lexeme) (rest : List Lexeme) → (outcome_after history text).lexemes ≡ before ++ (line ∷ rest) → is_newline line.node ≡ true → line.begin < line.end → EndsPlainly text line → IsClosedAfter history (take line.end text)
own_line history text before line rest e is some (inl plain) =
    let parts = undent rest in
    let whole = parts.whole in
    let cut = newlines_cut_after history text before line parts.dedents parts.more (e ∙ ap (λ (l : List Lexeme). before ++ (line ∷ l)) whole) is some parts.are parts.undented plain in
    Cut history (take line.end text) cut.0
own_line history text before line rest e is some (inr last) =
    let cut = last_newline_cuts_after history text before line rest e is some last in
    subst (IsClosedAfter history) (sym (take_all line.end text (omega (arith, last)))) (Cut history text cut.0)

-- the newlines that are found with so many faults at most
abbrev pub ClosesWithin : ℕ → Type 0
ClosesWithin n = (history : History) (text : Text) (front : List Item) (line : Lexeme) (more : List Item) → found_within n history text ≡ front ++ (Given line ∷ more) → is_newline line.node ≡ true → line.begin < line.end → EndsPlainly text line
    → IsClosedAfter history (take line.end text)

-- A newline after a fault is one of the rest of the text.
pub record RestLine (n : ℕ) (history : History) (text : Text) (fault : Spanned Fault) (later : List Item) (line : Lexeme) (more : List Item) : Type 0 where
  pub own : MovedLine (passed history text fault).len (found_within n (passed history text fault).history (drop (passed history text fault).len text)) later line more
  pub is : is_newline own.own.node ≡ true
  pub some : own.own.begin < own.own.end
  pub end : (passed history text fault).len + own.own.end ≡ line.end
  pub inside : (passed history text fault).len + own.own.end ≤ length text

pub rest_line : (n : ℕ) (history : History) (text : Text) (fault : Spanned Fault) (later : List Item) (line : Lexeme) (more : List Item) → (outcome_after history text).fault ≡ Some fault
    → map (moved_item (passed history text fault).len) (found_within n (passed history text fault).history (drop (passed history text fault).len text)) ≡ later ++ (Given line ∷ more) → is_newline line.node ≡ true → line.begin < line.end → RestLine n history text fault later line more
rest_line n history text fault later line more has items is some =
    record { own = own; is = ap (λ (l : Lexeme). is_newline l.node) own.same ∙ is; some = omega (arith, some, begins, end); end = end; inside = omega (arith, place.2, bounds.1, length-drop at text) }
  where
    at : ℕ
    at = (passed history text fault).len

    past : History
    past = (passed history text fault).history

    rest : Text
    rest = drop at text

    own : MovedLine (passed history text fault).len (found_within n (passed history text fault).history (drop (passed history text fault).len text)) later line more
    own = moved_line at (found_within n past rest) later line more items

    begins : at + own.own.begin ≡ line.begin
    begins = ap (λ (l : Lexeme). l.begin) own.same

    end : at + own.own.end ≡ line.end
    end = ap (λ (l : Lexeme). l.end) own.same

    bounds : (fault.end ≤ at) × (at ≤ length text)
    bounds = passed_bounds history text fault has

    place : (0 ≤ own.own.begin) × (own.own.begin ≤ own.own.end) × (own.own.end ≤ length rest)
    place =
        let whole = own.whole in
        in_order 0 own.before own.own own.rest (length rest) (subst (λ (l : List Item). AreInOrder 0 (lexemes_in l) (length rest)) whole (good_within n past rest).0)

rest_ends : (text : Text) (at end to : ℕ) → at + end ≡ to → at ≤ length text → (begins_plainly (drop to text) ≡ true) ⊎ (to ≡ length text) → (begins_plainly (drop end (drop at text)) ≡ true) ⊎ (end ≡ length (drop at text))
rest_ends text at end to last within (inl plain) = inl (ap begins_plainly (sym (drop-sum at end text) ∙ ap (λ m. drop m text) last) ∙ plain)
rest_ends text at end to last within (inr whole) = inr (omega (arith, last, whole, within, length-drop at text))

pub closes_within : (n : ℕ) → ClosesWithin n
unfolding found_within
closes_within zero history text front line more e is some ends = go (line_at (outcome_after history text).lexemes [] front line more (append-nil (given (outcome_after history text).lexemes) ∙ e))
  where
    go : LineAt (outcome_after history text).lexemes [] front line more → IsClosedAfter history (take line.end text)
    go (Inside before rest whole front_is more_is) = own_line history text before line rest whole is some ends
    go (Later later front_is wrong) = absurd (none_later later line more wrong)
closes_within (suc n) history text front line more e is some ends = by (outcome_after history text).fault refl (closes_within n) e
  where
    lexemes : List Lexeme
    lexemes = (outcome_after history text).lexemes

    alone : LineAt lexemes [] front line more → IsClosedAfter history (take line.end text)
    alone (Inside before rest whole front_is more_is) = own_line history text before line rest whole is some ends
    alone (Later later front_is wrong) = absurd (none_later later line more wrong)

    later_line : (fault : Spanned Fault) → (outcome_after history text).fault ≡ Some fault → ClosesWithin n → (later : List Item) → RestLine n history text fault later line more → IsClosedAfter history (take line.end text)
    later_line fault has again later rest =
        let own = rest.own in
        let last = rest.end in
        let bounds = passed_bounds history text fault has in
        let left = again (passed history text fault).history (drop (passed history text fault).len text) own.before own.own own.rest own.whole rest.is rest.some
        (rest_ends text (passed history text fault).len own.own.end line.end last bounds.1 ends) in
        let less = rest.some in
        subst (λ m. IsClosedAfter history (take m text)) last (front_closed history text fault has own.own.end (omega (arith, less)) rest.inside left)

    after : (fault : Spanned Fault) → List Item
    after fault = given (passed history text fault).stand_ins ++ map (moved_item (passed history text fault).len) (found_within n (passed history text fault).history (drop (passed history text fault).len text))

    found_line : (fault : Spanned Fault) → (outcome_after history text).fault ≡ Some fault → ClosesWithin n → LineAt lexemes (Refused fault ∷ after fault) front line more → IsClosedAfter history (take line.end text)
    found_line fault has again (Inside before rest whole front_is more_is) = own_line history text before line rest whole is some ends
    found_line fault has again (Later later front_is items) =
        let past = after_fault fault (passed history text fault).stand_ins (map (moved_item (passed history text fault).len) (found_within n (passed history text fault).history (drop (passed history text fault).len text))) later line more (none_stands history text fault) is items in
        later_line fault has again past.0 (rest_line n history text fault past.0 line more has past.2 is some)

    by : (has : Option (Spanned Fault)) → (outcome_after history text).fault ≡ has → ClosesWithin n → found_by history text has (found_within n) ≡ front ++ (Given line ∷ more) → IsClosedAfter history (take line.end text)
    by None none again e = alone (line_at lexemes [] front line more (append-nil (given lexemes) ∙ e))
    by (Some fault) has again e = found_line fault has again (line_at lexemes (Refused fault ∷ after fault) front line more e)

pub newlines_close : NewlinesClose
unfolding found found_after
newlines_close text front newline more e is some plain = closes_within (suc (length text)) nothing text front newline more e is some (inl plain)

pub last_newlines_close : LastNewlinesClose
unfolding found found_after
last_newlines_close text front newline more e is some last =
    subst (IsClosedAfter nothing) (take_all newline.end text (omega (arith, last))) (closes_within (suc (length text)) nothing text front newline more e is some (inr last))
