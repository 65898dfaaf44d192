-- What is passed with a fault of a text that another follows, or that is after another.
use Rattle.std.proofs.Common.{◌≡◌, ℕ, ◌+◌, ◌-◌, ◌<◌, Bool, true, false, cond, not, List, [], ◌∷◌, ◌++◌, length, length-append, take, drop, refl, ap, ◌∙◌, sym, subst, Some, arith, ◌||◌, inl}
use Rattle.std.specs.Prelude.{◌&&◌, ◌==◌, if◌then◌else◌, nat_eq, nat_lt, codes}
use Rattle.std.specs.List.{prefix_len}
use Rattle.std.specs.Str.{bytes_eq}
use Rattle.std.proofs.lemmas.Bool.{and_parts, eqb-true, lt-ltb, ltb-true}
use Rattle.std.proofs.lemmas.Bool.Decides.{nat_tests}
use Rattle.std.proofs.lemmas.List.{drop-append-le, length-drop, take-append-le}
use Rattle.std.proofs.Math.Seq.{drop-append-add}
use Rattle.starlark_grammar.specs.Inner.KeptFaults.{is_in_margin}
use Rattle.starlark_grammar.specs.AfterFaults.{is_tab, restart}
use Rattle.starlark_grammar.specs.Found.{Passed, at_line, passed}
use Rattle.starlark_grammar.specs.Joining.{is_decided}
use Rattle.starlark_grammar.specs.KeptLines.{closes_literal, ends_by_comment, is_bad_escape, is_open_quote, is_unfinished, keeps_line, passed_end, stays_open, with_literal, with_literal_at}
use Rattle.starlark_grammar.specs.Margins.{begins_with_line_end}
use Rattle.starlark_grammar.specs.Depths.{Mode, mode_after, is_outside}
use Rattle.starlark_grammar.specs.Pieces.{Before, Fails}
use Rattle.starlark_grammar.specs.Reading.{History, history_after, nothing, outcome_after, read_len}
use Rattle.starlark_grammar.specs.StandIns.{stand_ins, stand_ins_at}
use Rattle.starlark_grammar.specs.Tokens.{EmptyEscapeSequence, Fault, Indentation, InvalidEscapeSequence, InvalidInput, InvalidTab, Lexeme, Outcome, ReservedKeyword, Spanned, StartsZero, UnfinishedFStringExpression, UnfinishedStringLiteral, moved}
use Rattle.starlark_grammar.specs.Words.{Text}
use Rattle.starlark_grammar.proofs.Found.FoundItems.{by_keeps, passed_kept, passed_lost}
use Rattle.starlark_grammar.proofs.Joining.Followed.{ends_line, ends_line_drop}
use Rattle.starlark_grammar.proofs.KeptLines.KeptFaultPlaces.{or_none, whole_untabbed}
use Rattle.starlark_grammar.proofs.KeptLines.LiteralRests.{whole_ends, whole_other, whole_same, whole_stays}
use Rattle.starlark_grammar.proofs.KeptLines.OpenQuotes.{past_alike, past_fault}
use Rattle.starlark_grammar.proofs.KeptLines.StandIns.{stand_ins_stay}
use Rattle.starlark_grammar.proofs.Reading.Onward.{StopsAt, read_by, stops_at}
use Rattle.starlark_grammar.proofs.Reading.Steps.{is_nothing}
use Rattle.starlark_grammar.proofs.Recovery.DecidedFaults.{InMargin, begins_stays, decided, outcome_stays, read_stays, restart_stays, restart_untabbed}
use Rattle.starlark_grammar.proofs.Recovery.LineCuts.{Alike}
use Rattle.starlark_grammar.proofs.Recovery.MovedRestarts.{not_zero}

-- whether a fault keeps its line, by whether its tab is in a margin and whether it follows a comment
keeps_by : Bool → Bool → Fault → Bool
keeps_by margin comment (ReservedKeyword word) = true
keeps_by margin comment (StartsZero word) = true
keeps_by margin comment (InvalidInput character) = not (bytes_eq character (codes "}")) && not comment
keeps_by margin comment InvalidTab = not margin
keeps_by margin comment other = false

keeps_is : (before : Before) (text : Text) (lexemes : List Lexeme) (fault : Spanned Fault) → keeps_line before text lexemes fault ≡ keeps_by (is_in_margin before text fault.begin) (ends_by_comment fault.begin lexemes) fault.node
unfolding keeps_line keeps_by
keeps_is before text lexemes fault = go fault.begin fault.node fault.end
  where
    go : (from : ℕ) (node : Fault) (end : ℕ) → keeps_line before text lexemes (record { begin = from; node = node; end = end }) ≡ keeps_by (is_in_margin before text from) (ends_by_comment from lexemes) node
    go from (ReservedKeyword word) end = refl
    go from (StartsZero word) end = refl
    go from (InvalidInput character) end = refl
    go from InvalidTab end = refl
    go from Indentation end = refl
    go from UnfinishedStringLiteral end = refl
    go from (InvalidEscapeSequence text) end = refl
    go from EmptyEscapeSequence end = refl
    go from UnfinishedFStringExpression end = refl

-- where a tab doesn't keep its line, it is in a margin
lost_margin : (margin comment : Bool) (node : Fault) → keeps_by margin comment node ≡ false → is_tab node ≡ true → margin ≡ true
unfolding keeps_by
lost_margin true comment InvalidTab lost tab = refl
lost_margin false comment InvalidTab lost tab = cc
lost_margin margin comment other lost tab = cc

pub lost_in_margin : (history : History) (text : Text) (fault : Spanned Fault) → stays_open history text fault ≡ false → InMargin history text fault
lost_in_margin history text fault none = λ tab.
    let parts = or_none (keeps_line history.before text (outcome_after history text).lexemes fault || closes_literal (read_len history text) text fault) (is_open_quote (mode_after (history_after history text).tokens) text fault) none in
    let lost = (or_none (keeps_line history.before text (outcome_after history text).lexemes fault) (closes_literal (read_len history text) text fault) parts.0).0 in
    lost_margin (is_in_margin history.before text fault.begin) (ends_by_comment fault.begin (outcome_after history text).lexemes) fault.node
    (sym (keeps_is history.before text (outcome_after history text).lexemes fault) ∙ lost) (and_parts (is_tab fault.node) _ tab).0

-- A text that another follows

tabs_stay : (text more : Text) → ends_line text ≡ true → prefix_len (nat_eq 9) (text ++ more) ≡ prefix_len (nat_eq 9) text
tabs_stay [] more h = cc
tabs_stay (b ∷ []) more h = let feed : b ≡ 10 = eqb-true b 10 h in rw feed refl
tabs_stay (b ∷ c ∷ bs) more h = go (nat_eq 9 b) (tabs_stay (c ∷ bs) more h)
  where
    go : (test : Bool) → prefix_len (nat_eq 9) (c ∷ (bs ++ more)) ≡ prefix_len (nat_eq 9) (c ∷ bs) → cond test (1 + prefix_len (nat_eq 9) (c ∷ (bs ++ more))) 0 ≡ cond test (1 + prefix_len (nat_eq 9) (c ∷ bs)) 0
    go true e = ap (λ n. 1 + n) e
    go false e = refl

-- what is decided with all of its literal is decided
pub own_decided : (history : History) (text : Text) (fault : Spanned Fault) → StopsAt history text fault → is_decided text (with_literal history text fault) ≡ true → is_decided text fault ≡ true
unfolding is_decided
own_decided history text fault here is =
    let parts = and_parts (nat_lt (with_literal history text fault).end (length text)) _ is in
    let ends = whole_ends (read_len history text) text fault here.order here.inside in
    let less : nat_lt fault.end (length text) ≡ true = lt-ltb fault.end (length text) (omega (arith, ends.0, ltb-true (with_literal history text fault).end (length text) parts.0)) in
    rw less parts.1

module _ (history : History) (first second : Text) (fault : Spanned Fault) (has : (outcome_after history first).fault ≡ Some fault) (is : is_decided first (with_literal history first fault) ≡ true) where
  here : StopsAt history first fault
  here = stops_at history first fault has

  own : is_decided first fault ≡ true
  own = own_decided history first fault here is

  begins_inside : fault.begin < length first
  begins_inside = let less = (decided first fault own).0 in let order = here.order in omega (arith, less, order)

  ends : ends_line (drop fault.begin first) ≡ true
  ends = ends_line_drop fault.begin first begins_inside (decided first fault own).1

  left : drop fault.begin (first ++ second) ≡ drop fault.begin first ++ second
  left = drop-append-le fault.begin first second (omega (arith, begins_inside))

  pub same_outcome : (outcome_after history (first ++ second) ≡ outcome_after history first) × (history_after history (first ++ second) ≡ history_after history first)
  same_outcome = let parts = decided first fault own in outcome_stays history first second fault parts.1 here parts.0

  pub has_both : (outcome_after history (first ++ second)).fault ≡ Some fault
  has_both = ap (λ (o : Outcome). o.fault) same_outcome.0 ∙ has

  same_len : read_len history (first ++ second) ≡ read_len history first
  same_len = let parts = decided first fault own in read_stays history first second fault parts.1 here parts.0

  literal_both : (with_literal_at (read_len history first) (first ++ second) fault ≡ with_literal history first fault) × (closes_literal (read_len history first) (first ++ second) fault ≡ closes_literal (read_len history first) first fault)
  literal_both = let parts = decided first (with_literal history first fault) is in whole_stays (read_len history first) first second fault parts.1 begins_inside (inl parts.0)

  pub whole_both : with_literal history (first ++ second) fault ≡ with_literal history first fault
  whole_both = ap (λ n. with_literal_at n (first ++ second) fault) same_len ∙ literal_both.0

  margin_stays : is_in_margin history.before (first ++ second) fault.begin ≡ is_in_margin history.before first fault.begin
  margin_stays = ap (λ begins. is_nothing history.before && fault.begin == 0 || begins) (ap begins_with_line_end left ∙ begins_stays (drop fault.begin first) second ends)

  line_both : keeps_line history.before (first ++ second) (outcome_after history (first ++ second)).lexemes fault ≡ keeps_line history.before first (outcome_after history first).lexemes fault
  line_both =
      keeps_is history.before (first ++ second) (outcome_after history (first ++ second)).lexemes fault
      ∙ ap (λ margin. keeps_by margin (ends_by_comment fault.begin (outcome_after history (first ++ second)).lexemes) fault.node) margin_stays
      ∙ ap (λ (o : Outcome). keeps_by (is_in_margin history.before first fault.begin) (ends_by_comment fault.begin o.lexemes) fault.node) same_outcome.0
      ∙ sym (keeps_is history.before first (outcome_after history first).lexemes fault)

  quote_in : (mode : Mode) → is_open_quote mode (first ++ second) fault ≡ is_open_quote mode first fault
  quote_in mode =
      let less = (decided first fault own).0 in
      rw (lt-ltb fault.end (length (first ++ second)) (omega (arith, less, length-append first second)), lt-ltb fault.end (length first) less) refl

  quote_both : is_open_quote (mode_after (history_after history (first ++ second)).tokens) (first ++ second) fault ≡ is_open_quote (mode_after (history_after history first).tokens) first fault
  quote_both = ap (λ (h : History). is_open_quote (mode_after h.tokens) (first ++ second) fault) same_outcome.1 ∙ quote_in (mode_after (history_after history first).tokens)

  -- so the same tokens are before the rest
  past_both : past_fault (history_after history (first ++ second)) (first ++ second) fault ≡ past_fault (history_after history first) first fault
  past_both =
      ap (λ (h : History). past_fault h (first ++ second) fault) same_outcome.1
      ∙ rw (quote_in (mode_after (history_after history first).tokens), bytes) refl
    where
      bytes : take (fault.end - fault.begin) (drop fault.begin (first ++ second)) ≡ take (fault.end - fault.begin) (drop fault.begin first)
      bytes =
          let less = (decided first fault own).0 in
          ap (take (fault.end - fault.begin)) left ∙ take-append-le (fault.end - fault.begin) (drop fault.begin first) second (omega (arith, less, length-drop fault.begin first))

  keeps_both : stays_open history (first ++ second) fault ≡ stays_open history first fault
  keeps_both = rw (line_both, same_len, literal_both.1, quote_both) refl

  begins_so : (with_literal history first fault).begin ≡ fault.begin
  begins_so = (whole_same (read_len history first) first fault).0

  tabs_both : prefix_len (nat_eq 9) (drop (with_literal history first fault).begin (first ++ second)) ≡ prefix_len (nat_eq 9) (drop (with_literal history first fault).begin first)
  tabs_both = subst (λ n. prefix_len (nat_eq 9) (drop n (first ++ second)) ≡ prefix_len (nat_eq 9) (drop n first)) (sym begins_so) (ap (prefix_len (nat_eq 9)) left ∙ tabs_stay (drop fault.begin first) second ends)

  end_stays : passed_end (first ++ second) (with_literal history (first ++ second) fault) ≡ passed_end first (with_literal history first fault)
  end_stays =
      ap (passed_end (first ++ second)) whole_both
      ∙ ap (λ n. if is_tab (with_literal history first fault).node then (with_literal history first fault).begin + n else (with_literal history first fault).end) tabs_both

  lost_stays : stays_open history first fault ≡ false → restart (first ++ second) (with_literal history (first ++ second) fault) ≡ restart first (with_literal history first fault)
  lost_stays it = ap (restart (first ++ second)) whole_both ∙ by (is_bad_escape fault.node) refl
    where
      by : (bad : Bool) → is_bad_escape fault.node ≡ bad → restart (first ++ second) (with_literal history first fault) ≡ restart first (with_literal history first fault)
      by true e =
          let order = here.order in
          let reach = (whole_ends (read_len history first) first fault order here.inside).0 in
          restart_untabbed first second (with_literal history first fault) (whole_untabbed (read_len history first) first fault e) (omega (arith, order, reach, begins_so)) is
      by false e = subst (λ (last : Spanned Fault). restart (first ++ second) last ≡ restart first last) (sym (whole_other (read_len history first) first fault e)) (restart_stays history first second fault (lost_in_margin history first fault it) here own)

  stands_both : stand_ins history (first ++ second) fault ≡ stand_ins history first fault
  stands_both =
      let begin = here.begin in
      let read = read_by history first here.pieces (Fails here.found) here.longest in
      ap (λ n. stand_ins_at n (first ++ second) fault) same_len
      ∙ stand_ins_stay (read_len history first) first second fault literal_both.0 (omega (arith, read, begin, begins_inside)) (omega (arith, begins_inside)) (whole_ends (read_len history first) first fault here.order here.inside).1

  -- the same is passed where another text follows
  pub passed_stays : passed history (first ++ second) fault ≡ passed history first fault
  passed_stays = by_keeps history first fault
      (λ it.
      passed_kept history (first ++ second) fault (keeps_both ∙ it)
      ∙ ap (λ n. let p : Passed = record { len = n; stand_ins = stand_ins history (first ++ second) fault; history = past_fault (history_after history (first ++ second)) (first ++ second) fault } in p) end_stays
      ∙ ap (λ (ls : List Lexeme). let p : Passed = record { len = passed_end first (with_literal history first fault); stand_ins = ls; history = past_fault (history_after history (first ++ second)) (first ++ second) fault } in p) stands_both
      ∙ ap (λ (h : History). let p : Passed = record { len = passed_end first (with_literal history first fault); stand_ins = stand_ins history first fault; history = h } in p) past_both
      ∙ sym (passed_kept history first fault it))
      (λ it.
      passed_lost history (first ++ second) fault (keeps_both ∙ it)
      ∙ ap (λ n. let p : Passed = record { len = n; stand_ins = []; history = at_line (history_after history (first ++ second)).widths } in p) (lost_stays it)
      ∙ ap (λ (h : History). let p : Passed = record { len = restart first (with_literal history first fault); stand_ins = []; history = at_line h.widths } in p) same_outcome.1
      ∙ sym (passed_lost history first fault it))

-- A text that is after another

module _ (before : Before) (first second : Text) (fault : Spanned Fault) (later : is_tab fault.node ≡ true → 0 < fault.begin) where
  pub keeps_moved : (lexemes own : List Lexeme) → ends_by_comment (length first + fault.begin) lexemes ≡ ends_by_comment fault.begin own → keeps_line before (first ++ second) lexemes (moved (length first) fault) ≡ keeps_line nothing.before second own fault
  unfolding keeps_by
  keeps_moved lexemes own same =
      keeps_is before (first ++ second) lexemes (moved (length first) fault)
      ∙ ap (λ comment. keeps_by (is_in_margin before (first ++ second) (length first + fault.begin)) comment fault.node) same
      ∙ by fault.node later
      ∙ sym (keeps_is nothing.before second own fault)
    where
      comment : Bool
      comment = ends_by_comment fault.begin own

      by : (node : Fault) → (is_tab node ≡ true → 0 < fault.begin) → keeps_by (is_in_margin before (first ++ second) (length first + fault.begin)) comment node ≡ keeps_by (is_in_margin nothing.before second fault.begin) comment node
      by InvalidTab h =
          let left : drop (length first + fault.begin) (first ++ second) ≡ drop fault.begin second = drop-append-add first second fault.begin in
          let late = h refl in
          rw (not_zero fault.begin late, not_zero (length first + fault.begin) (omega (arith, late)), left) (none (is_nothing before))
        where
          none : (begun : Bool) → not (begun && false || begins_with_line_end (drop fault.begin second)) ≡ not (begins_with_line_end (drop fault.begin second))
          none true = refl
          none false = refl
      by (ReservedKeyword word) h = refl
      by (StartsZero word) h = refl
      by (InvalidInput character) h = refl
      by Indentation h = refl
      by UnfinishedStringLiteral h = refl
      by (InvalidEscapeSequence text) h = refl
      by EmptyEscapeSequence h = refl
      by UnfinishedFStringExpression h = refl

pub end_moved : (first second : Text) (fault : Spanned Fault) → passed_end (first ++ second) (moved (length first) fault) ≡ length first + passed_end second fault
end_moved first second fault =
    ap (λ n. if is_tab fault.node then length first + fault.begin + n else length first + fault.end) (ap (prefix_len (nat_eq 9)) (drop-append-add first second fault.begin))
    ∙ by (is_tab fault.node)
  where
    by : (tab : Bool) → (if tab then length first + fault.begin + prefix_len (nat_eq 9) (drop fault.begin second) else length first + fault.end) ≡ length first + (if tab then fault.begin + prefix_len (nat_eq 9) (drop fault.begin second) else fault.end)
    by true = omega arith
    by false = refl

-- whether a fault is an open quote, and its bytes
pub quote_moved : (mode : Mode) (first second : Text) (fault : Spanned Fault) → is_open_quote mode (first ++ second) (moved (length first) fault) ≡ is_open_quote mode second fault
quote_moved mode first second fault = ap (λ less. is_unfinished fault.node && is_outside mode && less) less
  where
    less_both : (n a b : ℕ) → nat_lt (n + a) (n + b) ≡ nat_lt a b
    less_both n a b = grind (arith, nat_tests)

    less : nat_lt (length first + fault.end) (length (first ++ second)) ≡ nat_lt fault.end (length second)
    less = rw (length-append first second) (less_both (length first) fault.end (length second))

pub past_moved : (one other : History) (first second : Text) (fault : Spanned Fault) → Alike one other → Alike (past_fault one (first ++ second) (moved (length first) fault)) (past_fault other second fault)
past_moved one other first second fault alike =
    subst (λ (h : History). Alike h (past_fault other second fault)) (sym here) (past_alike one other second fault alike)
  where
    len : length first + fault.end - (length first + fault.begin) ≡ fault.end - fault.begin
    len = omega arith

    here : past_fault one (first ++ second) (moved (length first) fault) ≡ past_fault one second fault
    here = rw (quote_moved (mode_after one.tokens) first second fault, len, drop-append-add first second fault.begin) refl
