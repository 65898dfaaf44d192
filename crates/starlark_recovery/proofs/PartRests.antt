-- What is left of a part: its outcome, by that of the rest after what was read before; its fault; where that is passed.
use Rattle.std.proofs.Common.{◌≡◌, ◌≤◌, ◌<◌, ◌+◌, ◌-◌, ◌==◌, ℕ, suc, zero, Bool, true, false, List, [], ◌∷◌, ◌++◌, cond, map, length, drop, refl, ap, sym, subst, ◌∙◌, arith, None, Some, IfSome, inl, inr, ◌⊎◌}
use Rattle.std.proofs.lemmas.Bool.{and_parts, both_ways, cases_lt, eqb-true}
use Rattle.std.proofs.lemmas.Bool.Decides.{nat_tests}
use Rattle.std.proofs.lemmas.List.{length-drop, length-map}
use Rattle.std.proofs.lemmas.Str.{IsCharBoundary-from_drop, IsCharBoundary-from_rest, IsUtf8-drop, IsUtf8-past_char, encode_ascii}
use Rattle.std.specs.List.{AllByRecursion, prefix_len}
use Rattle.std.specs.Prelude.{◌^◌, ◌&&◌, ◌||◌, Option, if◌then◌else◌, max, nat_eq, not, ⊤}
use Rattle.std.specs.Str.{IsCharBoundary, IsUtf8}
use Rattle.starlark_grammar.specs.AfterFaults.{is_margin_tab, is_tab, line_end_len, margin_line, next_line, restart, stopped_at}
use Rattle.starlark_grammar.specs.Inner.KeptFaults.{is_in_margin, may_keep}
use Rattle.starlark_grammar.specs.KeptLines.{closes_literal, ends_by_comment, is_bad_escape, keeps_line, literal_rest, passed_end, with_literal_at}
use Rattle.starlark_grammar.specs.Laws.{AtBoundaries}
use Rattle.starlark_grammar.specs.Margins.{begins_with_line_end, fits, has_tab, is_content, margin_of, open_widths, width_of}
use Rattle.starlark_grammar.specs.Pieces.{Before, Ends, Fails, Stands, Step, first_margin, margin_step}
use Rattle.starlark_grammar.specs.Reading.{History, outcome_after}
use Rattle.starlark_grammar.specs.Tokens.{Fault, Indentation, InvalidInput, InvalidTab, Lexeme, Outcome, Spanned, moved}
use Rattle.starlark_grammar.specs.Words.{Text}
use Rattle.starlark_grammar.specs.Found.{at_line}
use Rattle.starlark_grammar.proofs.Choices.{either}
use Rattle.starlark_grammar.proofs.Joining.Joined.{unmoved}
use Rattle.starlark_grammar.proofs.KeptLines.KeptFaultPlaces.{IsKept}
use Rattle.starlark_grammar.proofs.KeptLines.LiteralRests.{closed_boundary, whole_bad}
use Rattle.starlark_grammar.proofs.Lists.{drop-sum}
use Rattle.starlark_grammar.proofs.Order.Edges.{edges_shift}
use Rattle.starlark_grammar.proofs.Order.Rests.{rest_edges, rest_fault_edges, rest_few, rest_within}
use Rattle.starlark_grammar.proofs.Reading.Onward.{stops_at}
use Rattle.starlark_grammar.proofs.Reading.Steps.{Each, is_nothing}
use Rattle.starlark_grammar.proofs.Recovery.MovedRestarts.{not_zero}
use Rattle.starlark_lexemes.specs.Inner.LexerStates.{Course, IsCourse, course_of}
use Rattle.starlark_lexemes.proofs.MovedFaults.{unmoved as unmoved_fault}
use Rattle.starlark_reader.specs.Inner.Reader.{From, Line, Origin, begin_of, begins_with_fault, history_before, is_refused, moved_fault, moved_outcome, outcome_since, remaining_outcome}
use Rattle.starlark_reader.proofs.NextLines.{next_line_drop}
use Rattle.starlark_reader.proofs.TakenPieces.LeftOutcomes.{line_fails}
use Rattle.starlark_recovery.specs.Inner.Passed.{up_to}
use Rattle.starlark_recovery.specs.Inner.RecoveryStates.{IsBegun, rest_keeps}

-- The outcome of what is left

moved_none : (found : Outcome) → moved_outcome 0 found ≡ found
moved_none found = ap (λ ls. record { lexemes = ls; fault = moved_fault 0 found.fault }) (unmoved found.lexemes) ∙ ap (λ f. record { lexemes = found.lexemes; fault = f }) (same found.fault)
  where
    same : (fault : Option (Spanned Fault)) → moved_fault 0 fault ≡ fault
    same None = refl
    same (Some fault) = ap Some (unmoved_fault fault)

pub since_is : (origin : Origin) (part : Text) → outcome_since origin part ≡ moved_outcome (begin_of origin) (outcome_after (history_before origin) (drop (begin_of origin) part))
unfolding remaining_outcome
since_is (Line widths) part = sym (moved_none (outcome_after (at_line widths) part))
since_is (From history at) part = refl

-- its fault, in the rest
pub record RestFault (origin : Origin) (part : Text) (fault : Spanned Fault) : Type 0 where
  pub inner : Spanned Fault
  pub has : (outcome_after (history_before origin) (drop (begin_of origin) part)).fault ≡ Some inner
  pub same : moved (begin_of origin) inner ≡ fault

pub rest_fault : (origin : Origin) (part : Text) (fault : Spanned Fault) → (course_of origin part).fault ≡ Some fault → RestFault origin part fault
rest_fault origin part fault has = by (outcome_after (history_before origin) (drop (begin_of origin) part)).fault refl (sym (ap (λ (o : Outcome). o.fault) (since_is origin part)) ∙ has)
  where
    by : (found : Option (Spanned Fault)) → (outcome_after (history_before origin) (drop (begin_of origin) part)).fault ≡ found → moved_fault (begin_of origin) found ≡ Some fault → RestFault origin part fault
    by None e f = cc
    by (Some inner) e f = let same : moved (begin_of origin) inner ≡ fault = cc in record { inner = inner; has = e; same = same }

-- It is in the part

all_moved : (at : ℕ) (text : Text) (lexemes : List Lexeme) → at ≤ length text → AllByRecursion (λ (lexeme : Lexeme). (lexeme.begin ≤ lexeme.end) × (lexeme.end ≤ length (drop at text))) lexemes
    → AllByRecursion (λ (lexeme : Lexeme). (lexeme.begin ≤ lexeme.end) × (lexeme.end ≤ length text)) (map (moved at) lexemes)
all_moved at text [] inside all = tt
all_moved at text (lexeme ∷ lexemes) inside all = ((omega (arith, all.0.0), omega (arith, all.0.1, inside, length-drop at text)), all_moved at text lexemes inside all.1)

module _ (origin : Origin) (part : Text) (boundary : IsCharBoundary part (begin_of origin)) (utf8 : IsUtf8 part) where
  abbrev history : History
  history = history_before origin

  abbrev at : ℕ
  at = begin_of origin

  abbrev rest : Text
  rest = drop at part

  utf8_rest : IsUtf8 rest
  utf8_rest = IsUtf8-drop part at utf8 boundary

  -- what holds of each fault of the rest, at its place in the part
  its_fault : (P : Spanned Fault → Type 0) → ((fault : Spanned Fault) → (outcome_after history rest).fault ≡ Some fault → P (moved at fault)) → IfSome (moved_fault at (outcome_after history rest).fault) P
  its_fault P each = by (outcome_after history rest).fault refl
    where
      by : (found : Option (Spanned Fault)) → (outcome_after history rest).fault ≡ found → IfSome (moved_fault at found) P
      by None e = tt
      by (Some fault) e = each fault e

  abbrev course_by : Outcome → Course
  course_by found = record { origin = origin; lexemes = found.lexemes; fault = found.fault }

  pub is_course : length (open_widths history.widths) < 2 ^ 32 → length part < 2 ^ 32 → IsCourse (course_of origin part) part
  is_course levels fits =
      let few = rest_few history rest in
      subst (λ (found : Outcome). IsCourse (course_by found) part) (sym (since_is origin part)) (record {
        fits = fits;
        utf8 = utf8;
        few = omega (arith, few, levels, fits, boundary.0, length-drop at part, length-map (outcome_after history rest).lexemes (moved at));
        within = all_moved at part (outcome_after history rest).lexemes boundary.0 (rest_within history rest);
        edges = edges_shift part at (outcome_after history rest).lexemes boundary (rest_edges history rest utf8_rest);
        fault_within = its_fault (λ fault. (fault.begin ≤ fault.end) × (fault.end ≤ length part)) (λ fault e. let here = stops_at history rest fault e in (omega (arith, here.order), omega (arith, here.inside, length-drop at part, boundary.0)));
        fault_edges = its_fault (AtBoundaries part) (λ fault e. let edges = subst (λ (f : Option (Spanned Fault)). IfSome f (AtBoundaries rest)) e (rest_fault_edges history rest utf8_rest) in (IsCharBoundary-from_rest part at fault.begin boundary.0 edges.0, IsCharBoundary-from_rest part at fault.end boundary.0 edges.1));
      })

-- Whether its fault keeps its line

first_zero : (at n : ℕ) → (at == 0 && n == 0) ≡ (at + n == 0)
first_zero at n = grind (arith, nat_tests)

same_zero : (at n : ℕ) → (at == 0 && at + n == 0) ≡ (at + n == 0)
same_zero at n = grind (arith, nat_tests)

-- what is in the margin at an offset, where `m` is that of the part or of the rest
margin_by : (origin : Origin) (part : Text) (n m : ℕ) → IsBegun origin part → (begin_of origin == 0 && m == 0) ≡ (begin_of origin + n == 0)
    → ((is_nothing (history_before origin).before && m == 0) || begins_with_line_end (drop (begin_of origin + n) part)) ≡ (begin_of origin + n == 0 || begins_with_line_end (drop (begin_of origin + n) part))
margin_by (Line widths) part n m begun start = ap (λ test. test || begins_with_line_end (drop (0 + n) part)) start
margin_by (From history at) part n m (inl some, other) start =
    ap (λ before. (is_nothing before && m == 0) || begins_with_line_end (drop (at + n) part)) other
    ∙ ap (λ test. test || begins_with_line_end (drop (at + n) part)) (ap (λ test. test && m == 0) (sym (not_zero at some)) ∙ start)
margin_by (From history at) part n m (inr line, other) start =
    ap (λ before. (is_nothing before && m == 0) || begins_with_line_end (drop (at + n) part)) other ∙ by n
  where
    first : (n : ℕ) → at + n ≡ 0 → begins_with_line_end (drop (at + n) part) ≡ (at + n == 0 || begins_with_line_end (drop (at + n) part))
    first n none = rw (none, line.1) refl

    by : (n : ℕ) → begins_with_line_end (drop (at + n) part) ≡ (at + n == 0 || begins_with_line_end (drop (at + n) part))
    by zero = first 0 (omega (arith, line.0))
    by (suc n) = ap (λ test. test || begins_with_line_end (drop (at + suc n) part)) (sym (not_zero (at + suc n) (omega arith)))

moved_equal : (at n m : ℕ) → (at + n == at + m) ≡ (n == m)
moved_equal at n m = grind (arith, nat_tests)

-- a comment ends where it is moved
ends_moved : (at n : ℕ) (lexemes : List Lexeme) → ends_by_comment (at + n) (map (moved at) lexemes) ≡ ends_by_comment n lexemes
ends_moved at n [] = refl
ends_moved at n (lexeme ∷ []) = rw (moved_equal at lexeme.end n) refl
ends_moved at n (lexeme ∷ more ∷ lexemes) = ends_moved at n (more ∷ lexemes)

module _ (origin : Origin) (part : Text) (begun : IsBegun origin part) where
  abbrev from : ℕ
  from = begin_of origin

  abbrev before : Before
  before = (history_before origin).before

  -- a tab in the margin of the rest is in that of the part
  in_margin : (n : ℕ) → is_in_margin before (drop from part) n ≡ (from + n == 0 || begins_with_line_end (drop (from + n) part))
  in_margin n =
      ap (λ (t : Text). (is_nothing before && n == 0) || begins_with_line_end t) (sym (drop-sum from n part)) ∙ margin_by origin part n n begun (first_zero from n)

  pub in_part : (n : ℕ) → is_in_margin before part (from + n) ≡ (from + n == 0 || begins_with_line_end (drop (from + n) part))
  in_part n = margin_by origin part n (from + n) begun (same_zero from n)

  keeps_moved : (lexemes : List Lexeme) (fault : Spanned Fault) → keeps_line before part (map (moved from) lexemes) (moved from fault) ≡ keeps_line before (drop from part) lexemes fault
  unfolding keeps_line
  keeps_moved lexemes fault = by fault.node
    where
      by : (node : Fault) → keeps_line before part (map (moved from) lexemes) (record { begin = from + fault.begin; node = node; end = from + fault.end }) ≡ keeps_line before (drop from part) lexemes (record { begin = fault.begin; node = node; end = fault.end })
      by (InvalidInput character) = rw (ends_moved from fault.begin lexemes) refl
      by InvalidTab = ap not (in_part fault.begin ∙ sym (in_margin fault.begin))
      by node = refl

  pub keeps_rest : (fault : Spanned Fault) (in_rest : RestFault origin part fault) → rest_keeps origin part fault ≡ keeps_line before (drop from part) (outcome_after (history_before origin) (drop from part)).lexemes in_rest.inner
  keeps_rest fault in_rest =
      ap (λ ls. keeps_line before part ls fault) (ap (λ (o : Outcome). o.lexemes) (since_is origin part))
      ∙ ap (keeps_line before part (map (moved from) (outcome_after (history_before origin) (drop from part)).lexemes)) (sym in_rest.same)
      ∙ keeps_moved (outcome_after (history_before origin) (drop from part)).lexemes in_rest.inner

  -- one that does is in no margin
  pub kept_no_margin : (fault : Spanned Fault) → IsKept before (drop from part) fault → is_margin_tab part (moved from fault) ≡ false
  kept_no_margin fault is = by (is_tab fault.node) refl
    where
      by : (tab : Bool) → is_tab fault.node ≡ tab → (tab && (from + fault.begin == 0 || begins_with_line_end (drop (from + fault.begin) part))) ≡ false
      by false e = refl
      by true e = sym (in_margin fault.begin) ∙ is.no_margin e

  -- a tab that doesn't is in one
  lost_margin : (lexemes : List Lexeme) (fault : Spanned Fault) → keeps_line before (drop from part) lexemes fault ≡ false → is_tab fault.node ≡ true → is_in_margin before (drop from part) fault.begin ≡ true
  unfolding keeps_line
  lost_margin lexemes fault loses tab = by fault.node loses tab
    where
      by : (node : Fault) → keeps_line before (drop from part) lexemes (record { begin = fault.begin; node = node; end = fault.end }) ≡ false → is_tab node ≡ true → is_in_margin before (drop from part) fault.begin ≡ true
      by InvalidTab loses tab = go (is_in_margin before (drop from part) fault.begin) loses
        where
          go : (test : Bool) → not test ≡ false → test ≡ true
          go true h = refl
          go false h = cc
      by node loses tab = cc

  pub lost_tab : (lexemes : List Lexeme) (fault : Spanned Fault) → keeps_line before (drop from part) lexemes fault ≡ false → is_margin_tab part (moved from fault) ≡ is_margin_tab (drop from part) fault
  lost_tab lexemes fault loses = by (is_tab fault.node) (lost_margin lexemes fault loses)
    where
      either : (one two test : Bool) → ((one && two) || test) ≡ true → (two || test) ≡ true
      either true two test h = h
      either false true test h = refl
      either false false test h = h

      by : (tab : Bool) → (tab ≡ true → is_in_margin before (drop from part) fault.begin ≡ true)
          → (tab && (from + fault.begin == 0 || begins_with_line_end (drop (from + fault.begin) part))) ≡ (tab && (fault.begin == 0 || begins_with_line_end (drop fault.begin (drop from part))))
      by false is = refl
      by true is = sym (in_margin fault.begin) ∙ is refl ∙ sym (either (is_nothing before) (fault.begin == 0) (begins_with_line_end (drop fault.begin (drop from part))) (is refl))

-- A fault of a first margin is a tab at the start of the text, or may not keep its line.
abbrev IsLost : Spanned Fault → Type 0
IsLost fault = (may_keep fault.node ≡ false) ⊎ ((is_tab fault.node ≡ true) × (fault.begin ≡ 0))

lost_first : (levels : List ℕ) (text : Text) → Each (λ piece. ⊤) IsLost (first_margin levels text)
unfolding margin_step may_keep
lost_first levels text =
    either (Each (λ piece. ⊤) IsLost) (not (is_content (margin_of text).remainder)) _ _ tt
    (either (Each (λ piece. ⊤) IsLost) (has_tab (margin_of text)) _ _ (inr (refl, refl))
    (either (Each (λ piece. ⊤) IsLost) (fits (width_of (margin_of text)) levels) _ _ tt (inl refl)))

-- where a fault keeps its line, the first margin stands
pub stands_first : (origin : Origin) (part : Text) (fault : Spanned Fault) → (course_of origin part).fault ≡ Some fault → may_keep fault.node ≡ true → is_margin_tab part fault ≡ false → begins_with_fault origin part ≡ false
stands_first (From history at) part fault has may inside = refl
stands_first (Line widths) part fault has may inside = by (first_margin (open_widths widths) part) refl
  where
    lost : (first : Spanned Fault) → moved 0 first ≡ fault → IsLost first → ⊥
    lost first same (inl none) = both_ways _ (sym (ap (λ (f : Spanned Fault). may_keep f.node) same) ∙ none) may
    lost first same (inr tab) =
        let begins : fault.begin ≡ 0 = omega (arith, ap (λ (f : Spanned Fault). f.begin) same, tab.1) in
        let is : is_tab fault.node ≡ true = sym (ap (λ (f : Spanned Fault). is_tab f.node) same) ∙ tab.0 in
        both_ways _ inside (rw (is, begins) refl)

    by : (step : Step) → first_margin (open_widths widths) part ≡ step → is_refused step ≡ false
    by (Fails first) e =
        let both : Some (moved 0 first) ≡ Some fault = sym (ap (λ (o : Outcome). o.fault) (line_fails widths part first e)) ∙ has in
        let same : moved 0 first ≡ fault = cc in
        absurd (lost first same (subst (Each (λ piece. ⊤) IsLost) e (lost_first (open_widths widths) part)))
    by (Stands piece) e = refl
    by Ends e = refl

-- nor is a fault in it that is of a literal
literal_first : (test : Fault → Bool) → test InvalidTab ≡ false → test Indentation ≡ false → (levels : List ℕ) (text : Text) → Each (λ piece. ⊤) (λ fault. test fault.node ≡ false) (first_margin levels text)
unfolding margin_step
literal_first test tab indent levels text =
    either (Each (λ piece. ⊤) (λ fault. test fault.node ≡ false)) (not (is_content (margin_of text).remainder)) _ _ tt
    (either (Each (λ piece. ⊤) (λ fault. test fault.node ≡ false)) (has_tab (margin_of text)) _ _ tab
    (either (Each (λ piece. ⊤) (λ fault. test fault.node ≡ false)) (fits (width_of (margin_of text)) levels) _ _ tt indent))

pub stands_literal : (test : Fault → Bool) → test InvalidTab ≡ false → test Indentation ≡ false → (origin : Origin) (part : Text) (fault : Spanned Fault) → (course_of origin part).fault ≡ Some fault → test fault.node ≡ true → begins_with_fault origin part ≡ false
stands_literal test tab indent (From history at) part fault has bad = refl
stands_literal test tab indent (Line widths) part fault has bad = by (first_margin (open_widths widths) part) refl
  where
    by : (step : Step) → first_margin (open_widths widths) part ≡ step → is_refused step ≡ false
    by (Fails first) e =
        let both : Some (moved 0 first) ≡ Some fault = sym (ap (λ (o : Outcome). o.fault) (line_fails widths part first e)) ∙ has in
        let same : moved 0 first ≡ fault = cc in
        let good = subst (Each (λ piece. ⊤) (λ fault. test fault.node ≡ false)) e (literal_first test tab indent (open_widths widths) part) in
        absurd (both_ways _ (sym (ap (λ (f : Spanned Fault). test f.node) same) ∙ good) bad)
    by (Stands piece) e = refl
    by Ends e = refl

pub stands_escape : (origin : Origin) (part : Text) (fault : Spanned Fault) → (course_of origin part).fault ≡ Some fault → is_bad_escape fault.node ≡ true → begins_with_fault origin part ≡ false
stands_escape origin part fault has bad = stands_literal is_bad_escape refl refl origin part fault has bad

-- Where it is passed

-- a literal that is closed ends between characters
pub literal_boundary : (at : ℕ) (text : Text) (fault : Spanned Fault) → closes_literal at text fault ≡ true → IsUtf8 text → fault.begin ≤ length text → IsCharBoundary text fault.end → IsCharBoundary text (with_literal_at at text fault).end
literal_boundary at text fault closes utf8 inside ends = by (cases_lt fault.end (fault.begin + (literal_rest at text fault.begin).len))
  where
    parts : (is_bad_escape fault.node ≡ true) × ((literal_rest at text fault.begin).is_closed ≡ true)
    parts = and_parts (is_bad_escape fault.node) _ closes

    by : (fault.end < fault.begin + (literal_rest at text fault.begin).len) ⊎ (fault.begin + (literal_rest at text fault.begin).len ≤ fault.end) → IsCharBoundary text (with_literal_at at text fault).end
    by (inl less) =
        let last : fault.begin + (literal_rest at text fault.begin).len ≡ (with_literal_at at text fault).end = omega (arith, less, whole_bad at text fault parts.0) in
        subst (IsCharBoundary text) last (closed_boundary at text fault.begin utf8 inside parts.1)
    by (inr over) =
        let last : fault.end ≡ (with_literal_at at text fault).end = omega (arith, over, whole_bad at text fault parts.0) in
        subst (IsCharBoundary text) last ends

-- a fault up to the end of its literal
pub whole_up_to : (at : ℕ) (text : Text) (fault : Spanned Fault) → up_to (with_literal_at at text fault).end fault ≡ with_literal_at at text fault
unfolding with_literal_at
whole_up_to at text fault = by (is_bad_escape fault.node) _
  where
    by : (bad : Bool) (end : ℕ) → up_to (if bad then up_to end fault else fault).end fault ≡ (if bad then up_to end fault else fault)
    by true end = refl
    by false end = refl

tabs_utf8 : (text : Text) → IsUtf8 text → IsUtf8 (drop (prefix_len (nat_eq 9) text) text)
tabs_utf8 [] utf8 = utf8
tabs_utf8 (b ∷ bs) utf8 = by (nat_eq 9 b) refl (tabs_utf8 bs)
  where
    by : (tab : Bool) → nat_eq 9 b ≡ tab → (IsUtf8 bs → IsUtf8 (drop (prefix_len (nat_eq 9) bs) bs)) → IsUtf8 (drop (cond tab (1 + prefix_len (nat_eq 9) bs) 0) (b ∷ bs))
    by true e more =
        let next : suc (prefix_len (nat_eq 9) bs) ≡ 1 + prefix_len (nat_eq 9) bs = omega arith in
        subst (λ n. IsUtf8 (drop n (b ∷ bs))) next (more (IsUtf8-past_char (b ∷ bs) bs 9 utf8 (ap (λ c. c ∷ bs) (sym (eqb-true 9 b e)) ∙ sym (ap (λ (l : Text). l ++ bs) (encode_ascii 9 (omega arith))))))
    by false e more = utf8

-- where lexing goes on is between characters
pub passed_boundary : (text : Text) (fault : Spanned Fault) → passed_end text fault ≤ length text → IsUtf8 text → IsCharBoundary text fault.begin → IsCharBoundary text fault.end → IsCharBoundary text (passed_end text fault)
passed_boundary text fault inside utf8 begins ends = by (is_tab fault.node) refl
  where
    by : (tab : Bool) → is_tab fault.node ≡ tab → IsCharBoundary text (passed_end text fault)
    by false e = rw e ends
    by true e =
        let end : passed_end text fault ≡ fault.begin + prefix_len (nat_eq 9) (drop fault.begin text) = rw e refl in
        let rest : drop (prefix_len (nat_eq 9) (drop fault.begin text)) (drop fault.begin text) ≡ drop (passed_end text fault) text =
        sym (drop-sum fault.begin (prefix_len (nat_eq 9) (drop fault.begin text)) text) ∙ ap (λ n. drop n text) (sym end) in
        IsCharBoundary-from_drop text (passed_end text fault) inside (subst IsUtf8 rest (tabs_utf8 (drop fault.begin text) (IsUtf8-drop text fault.begin utf8 begins)))

-- after any other fault lexing begins again at the same place

module _ (text : Text) (at : ℕ) (fault : Spanned Fault) (tab : is_margin_tab text (moved at fault) ≡ is_margin_tab (drop at text) fault) where
  abbrev after : ℕ
  after = fault.begin + line_end_len (drop fault.begin (drop at text))

  place : at + fault.begin + line_end_len (drop (at + fault.begin) text) ≡ at + after
  place = omega (arith, ap line_end_len (drop-sum at fault.begin text))

  line : margin_line text (at + fault.begin + line_end_len (drop (at + fault.begin) text)) ≡ at + margin_line (drop at text) after
  line = ap (margin_line text) place ∙ omega (arith, ap (λ (t : Text). (margin_of t).at) (drop-sum at after text))

  stopped_by : (test : Bool) → max (at + fault.end - 1) (if test then margin_line text (at + fault.begin + line_end_len (drop (at + fault.begin) text)) else at + fault.begin) ≡ at + max (fault.end - 1) (if test then margin_line (drop at text) after else fault.begin)
  stopped_by true = omega (arith, line)
  stopped_by false = omega arith

  stopped_rest : stopped_at text (moved at fault) ≡ at + stopped_at (drop at text) fault
  unfolding stopped_at
  stopped_rest = ap (λ test. max (at + fault.end - 1) (if test then margin_line text (at + fault.begin + line_end_len (drop (at + fault.begin) text)) else at + fault.begin)) tab ∙ stopped_by (is_margin_tab (drop at text) fault)

  pub restart_rest : at ≤ length text → restart text (moved at fault) ≡ at + restart (drop at text) fault
  unfolding restart
  restart_rest inside = ap (next_line text) stopped_rest ∙ next_line_drop text at (stopped_at (drop at text) fault) inside
