-- What is found before and after a fault.
use Rattle.std.proofs.Common.{◌≡◌, ℕ, zero, suc, ◌+◌, ◌-◌, ◌≤◌, ◌<◌, Bool, true, false, List, [], ◌∷◌, ◌++◌, length, map, drop, refl, ap, ◌∙◌, sym, subst, Option, Some, None, arith}
use Rattle.std.proofs.lemmas.List.{length-drop}
use Rattle.std.specs.Prelude.{if◌then◌else◌, max}
use Rattle.starlark_grammar.specs.AfterFaults.{is_margin_tab, line_end_len, margin_line, next_line, restart, stopped_at}
use Rattle.starlark_grammar.specs.Found.{Passed, at_line, Refused, found_after, found_by, found_within, given, moved_item, passed}
use Rattle.starlark_grammar.specs.FoundLaws.{FaultlessFound, FoundAfterFaults}
use Rattle.starlark_grammar.specs.KeptLines.{passed_end, stays_open, with_literal}
use Rattle.starlark_grammar.specs.Reading.{History, history_after, outcome_after, read_len}
use Rattle.starlark_grammar.specs.StandIns.{stand_ins}
use Rattle.starlark_grammar.specs.Tokens.{Fault, Spanned}
use Rattle.starlark_grammar.specs.Words.{Text}
use Rattle.starlark_grammar.proofs.KeptLines.KeptFaultPlaces.{kept_end, kept_faults_have_bytes, kept_whole}
use Rattle.starlark_grammar.proofs.KeptLines.LiteralRests.{whole_ends, whole_same}
use Rattle.starlark_grammar.proofs.KeptLines.OpenQuotes.{past_fault}
use Rattle.starlark_grammar.proofs.Reading.Onward.{StopsAt, stops_at}
use Rattle.starlark_grammar.proofs.Recovery.LineCuts.{AtLine, before_faultless}
use Rattle.starlark_grammar.proofs.Recovery.RestartBounds.{restart_bounds}

-- by whether all stays open
pub by_keeps : {A : Type 0} (history : History) (text : Text) (fault : Spanned Fault) → (stays_open history text fault ≡ true → A) → (stays_open history text fault ≡ false → A) → A
by_keeps {A} history text fault hit miss = go (stays_open history text fault) refl
  where
    go : (is : Bool) → stays_open history text fault ≡ is → A
    go true e = hit e
    go false e = miss e

-- what is passed with such a fault, …
abbrev pub kept_past : History → Text → Spanned Fault → Passed
kept_past history text fault = record { len = passed_end text (with_literal history text fault); stand_ins = stand_ins history text fault; history = past_fault (history_after history text) text fault }

pub passed_kept : (history : History) (text : Text) (fault : Spanned Fault) → stays_open history text fault ≡ true → passed history text fault ≡ kept_past history text fault
unfolding passed
passed_kept history text fault is = rw is refl

-- … and with any other
abbrev pub lost_past : History → Text → Spanned Fault → Passed
lost_past history text fault = record { len = restart text (with_literal history text fault); stand_ins = []; history = at_line (history_after history text).widths }

pub passed_lost : (history : History) (text : Text) (fault : Spanned Fault) → stays_open history text fault ≡ false → passed history text fault ≡ lost_past history text fault
unfolding passed
passed_lost history text fault is = rw is refl

-- lexing stops at a fault, or later
pub stopped_past : (text : Text) (fault : Spanned Fault) → fault.begin ≤ stopped_at text fault
unfolding stopped_at
stopped_past text fault = go (is_margin_tab text fault)
  where
    go : (tab : Bool) → fault.begin ≤ max (fault.end - 1) (if tab then margin_line text (fault.begin + line_end_len (drop fault.begin text)) else fault.begin)
    go true = omega arith
    go false = omega arith

restart_past : (text : Text) (fault : Spanned Fault) → fault.begin < length text → fault.begin < restart text fault
unfolding restart next_line
restart_past text fault less = let past = stopped_past text fault in omega (arith, less, past)

-- the text without bytes has no fault at the start of a line
none_at_end : (widths : List ℕ) (fault : Spanned Fault) → (outcome_after (at_line widths) []).fault ≡ Some fault → ⊥
none_at_end widths fault has = let none : None ≡ Some fault = sym (before_faultless (at_line widths) [] (AtLine widths)) ∙ has in cc

-- the rest after a fault is in the text
pub passed_bounds : (history : History) (text : Text) (fault : Spanned Fault) → (outcome_after history text).fault ≡ Some fault → (fault.end ≤ (passed history text fault).len) × ((passed history text fault).len ≤ length text)
passed_bounds history text fault has =
    let here = stops_at history text fault has in
    let inside = here.inside in
    by_keeps history text fault
    (λ is. subst (λ (p : Passed). (fault.end ≤ p.len) × (p.len ≤ length text)) (sym (passed_kept history text fault is)) (after_end is, (kept_faults_have_bytes history text fault (has, is)).1))
    (λ is. subst (λ (p : Passed). (fault.end ≤ p.len) × (p.len ≤ length text)) (sym (passed_lost history text fault is)) (lost here))
  where
    after_end : stays_open history text fault ≡ true → fault.end ≤ passed_end text (with_literal history text fault)
    after_end is = kept_end history text fault (has, is)

    lost : StopsAt history text fault → (fault.end ≤ restart text (with_literal history text fault)) × (restart text (with_literal history text fault) ≤ length text)
    lost here =
        let ends = whole_ends (read_len history text) text fault here.order here.inside in
        let bounds = restart_bounds text (with_literal history text fault) ends.1 in
        (omega (arith, ends.0, bounds.0), bounds.1)

-- what is passed reaches to the end of its literal
pub whole_bounds : (history : History) (text : Text) (fault : Spanned Fault) → (outcome_after history text).fault ≡ Some fault → (with_literal history text fault).end ≤ (passed history text fault).len
whole_bounds history text fault has = by_keeps history text fault
    (λ is. subst (λ (p : Passed). (with_literal history text fault).end ≤ p.len) (sym (passed_kept history text fault is)) (kept_whole history text fault (has, is)))
    (λ is. subst (λ (p : Passed). (with_literal history text fault).end ≤ p.len) (sym (passed_lost history text fault is)) (lost (stops_at history text fault has)))
  where
    lost : StopsAt history text fault → (with_literal history text fault).end ≤ restart text (with_literal history text fault)
    lost here = (restart_bounds text (with_literal history text fault) (whole_ends (read_len history text) text fault here.order here.inside).1).0

-- so many faults are enough for what is found in a text
abbrev pub Enough : ℕ → History → Text → Type 0
Enough n history text = (fault : Spanned Fault) → (outcome_after history text).fault ≡ Some fault → length text < fault.begin + n

-- and one fewer for the rest after its fault
pub enough_rest : (n : ℕ) (history : History) (text : Text) (fault : Spanned Fault) → (outcome_after history text).fault ≡ Some fault → Enough (suc n) history text
    → Enough n (passed history text fault).history (drop (passed history text fault).len text)
enough_rest n history text fault has enough = by_keeps history text fault
    (λ is. subst (λ (p : Passed). Enough n p.history (drop p.len text)) (sym (passed_kept history text fault is)) (kept is))
    (λ is. subst (λ (p : Passed). Enough n p.history (drop p.len text)) (sym (passed_lost history text fault is)) (lost is))
  where
    less : length text < fault.begin + suc n
    less = enough fault has

    kept : stays_open history text fault ≡ true → Enough n (kept_past history text fault).history (drop (passed_end text (with_literal history text fault)) text)
    kept is = λ later there.
        let bytes = kept_faults_have_bytes history text fault (has, is) in
        omega (arith, bytes.0, less, length-drop (passed_end text (with_literal history text fault)) text)

    last : Spanned Fault
    last = with_literal history text fault

    lost : stays_open history text fault ≡ false → Enough n (lost_past history text fault).history (drop (restart text last) text)
    lost is = λ later there.
        let here = stops_at history text fault has in
        let order = here.order in
        let ends = whole_ends (read_len history text) text fault order here.inside in
        let bounds = restart_bounds text last ends.1 in
        let some : 0 < length (drop (restart text last) text) = some_rest (drop (restart text last) text) later there in
        let begins = (whole_same (read_len history text) text fault).0 in
        let past = restart_past text last in
        omega (arith, order, ends.0, bounds.0, bounds.1, some, begins, past, less, length-drop (restart text last) text)
      where
        some_rest : (rest : Text) (later : Spanned Fault) → (outcome_after (lost_past history text fault).history rest).fault ≡ Some later → 0 < length rest
        some_rest [] later there = absurd (none_at_end (history_after history text).widths later there)
        some_rest (b ∷ bs) later there = omega arith

pub enough_bytes : (n : ℕ) (history : History) (text : Text) → suc (length text) ≤ n → Enough n history text
enough_bytes n history text most = λ fault has. omega (arith, most)

-- one more changes nothing where there are enough
one_more : (n : ℕ) (history : History) (text : Text) → Enough n history text → found_within (suc n) history text ≡ found_within n history text
unfolding found_within
one_more zero history text enough = go (outcome_after history text).fault refl
  where
    go : (has : Option (Spanned Fault)) → (outcome_after history text).fault ≡ has → found_by history text has (found_within 0) ≡ given (outcome_after history text).lexemes
    go None e = refl
    go (Some fault) e =
        let here = stops_at history text fault e in
        let order = here.order in
        let inside = here.inside in
        let less = enough fault e in absurd (omega (arith, order, inside, less))
one_more (suc n) history text enough = go (outcome_after history text).fault refl (one_more n)
  where
    go : (has : Option (Spanned Fault)) → (outcome_after history text).fault ≡ has → ((history : History) (text : Text) → Enough n history text → found_within (suc n) history text ≡ found_within n history text)
        → found_by history text has (found_within (suc n)) ≡ found_by history text has (found_within n)
    go None e again = refl
    go (Some fault) e again =
        ap (λ items. given (outcome_after history text).lexemes ++ (Refused fault ∷ (given (passed history text fault).stand_ins ++ map (moved_item (passed history text fault).len) items)))
        (again (passed history text fault).history (drop (passed history text fault).len text) (enough_rest n history text fault e enough))

-- so each number that is enough finds the same
more_find : (more : ℕ) (history : History) (text : Text) → found_within (more + suc (length text)) history text ≡ found_after history text
unfolding found_after
more_find zero history text = let same : 0 + suc (length text) ≡ suc (length text) = omega arith in ap (λ n. found_within n history text) same
more_find (suc more) history text =
    let same : suc more + suc (length text) ≡ suc (more + suc (length text)) = omega arith in
    ap (λ n. found_within n history text) same
    ∙ one_more (more + suc (length text)) history text (enough_bytes (more + suc (length text)) history text (omega arith)) ∙ more_find more history text

pub enough_find : (n : ℕ) (history : History) (text : Text) → suc (length text) ≤ n → found_within n history text ≡ found_after history text
enough_find n history text most =
    let same : n ≡ (n - suc (length text)) + suc (length text) = omega (arith, most) in
    ap (λ n. found_within n history text) same ∙ more_find (n - suc (length text)) history text

-- The laws

after_is : (history : History) (text : Text) → found_after history text ≡ found_by history text (outcome_after history text).fault (found_within (length text))
unfolding found_after found_within
after_is history text = refl

pub faultless_found : FaultlessFound
faultless_found history text none = after_is history text ∙ ap (λ has. found_by history text has (found_within (length text))) none

pub found_after_faults : FoundAfterFaults
found_after_faults history text fault has =
    let next : Passed = passed history text fault in
    let rest : Text = drop (passed history text fault).len text in
    let enough = enough_rest (length text) history text fault has (enough_bytes (suc (length text)) history text (omega arith)) in
    after_is history text
    ∙ ap (λ has. found_by history text has (found_within (length text))) has
    ∙ ap (λ items. given (outcome_after history text).lexemes ++ (Refused fault ∷ (given (passed history text fault).stand_ins ++ map (moved_item (passed history text fault).len) items)))
    (sym (one_more (length text) (passed history text fault).history rest enough)
    ∙ enough_find (suc (length text)) (passed history text fault).history rest (omega (arith, length-drop (passed history text fault).len text)))
