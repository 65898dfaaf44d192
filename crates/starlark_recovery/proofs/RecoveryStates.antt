-- A lexer that goes on after faults: what is left to it after each fault.
use Rattle.std.proofs.Common.{◌≡◌, ◌≤◌, ◌<◌, ◌+◌, ◌-◌, ◌*◌, ℕ, true, false, List, [], ◌∷◌, map, length, drop, take, refl, ap, sym, subst, ◌∙◌, arith, None, Some, IfSome, rules, inl, inr, ◌⊎◌}
use Rattle.std.proofs.lemmas.Bool.{and_parts, cases_lt}
use Rattle.std.proofs.lemmas.List.{drop_all, length-drop, length-take-le, take-append-drop}
use Rattle.std.proofs.lemmas.Str.{IsCharBoundary-start, IsUtf8-drop}
use Rattle.std.specs.Option.{option_map}
use Rattle.std.specs.Prelude.{◌^◌, ◌||◌, Bool, Option, ◌++◌, max, option_to_list}
use Rattle.std.specs.Str.{IsCharBoundary, IsUtf8}
use Rattle.starlark_base.specs.Diagnostics.{Diagnosed}
use Rattle.starlark_grammar.specs.AfterFaults.{is_margin_tab, restart}
use Rattle.starlark_grammar.specs.Found.{Item, Passed as PassedOver, at_line, found, found_after, given, moved_item, passed as passed_by}
use Rattle.starlark_grammar.specs.Inner.KeptFaults.{may_keep}
use Rattle.starlark_grammar.specs.KeptLineLaws.{KeepsLine}
use Rattle.starlark_grammar.specs.KeptLines.{LiteralRest, closes_literal, ends_by_comment, is_bad_escape, is_open_quote, is_unfinished, keeps_line, literal_rest, passed_end, stays_open, with_literal, with_literal_at}
use Rattle.starlark_grammar.specs.Margins.{open_widths}
use Rattle.starlark_grammar.specs.Depths.{Mode, mode_after}
use Rattle.starlark_grammar.specs.Reading.{History, history_after, outcome_after, read_len}
use Rattle.starlark_grammar.specs.StandIns.{stand_ins, stand_ins_at}
use Rattle.starlark_grammar.specs.Tokens.{Fault, Lexeme, Outcome, Spanned, UnfinishedStringLiteral, moved}
use Rattle.starlark_grammar.specs.Words.{Text}
use Rattle.starlark_grammar.proofs.Found.FoundItems.{passed_kept, passed_lost}
use Rattle.starlark_grammar.proofs.Found.PassedFaults.{quote_moved}
use Rattle.starlark_grammar.proofs.KeptLines.Faults.{is_in_text}
use Rattle.starlark_grammar.proofs.KeptLines.KeptFaultPlaces.{IsKept, kept, kept_faults_have_bytes, kept_other, open_place, or_none, passed_literal, whole_untabbed}
use Rattle.starlark_grammar.proofs.KeptLines.LiteralRests.{closed_later, whole_bad, whole_ends, whole_moved, whole_other, whole_same}
use Rattle.starlark_grammar.proofs.KeptLines.OpenQuotes.{past_fault}
use Rattle.starlark_grammar.proofs.KeptLines.StandIns.{stand_ins_moved}
use Rattle.starlark_grammar.proofs.Lists.{drop-sum}
use Rattle.starlark_grammar.proofs.Order.Rests.{rest_ends, rest_levels}
use Rattle.starlark_grammar.proofs.Reading.Onward.{outcome_after_nothing, stops_at}
use Rattle.starlark_grammar.proofs.Recovery.LineCuts.{AtLine, before_faultless}
use Rattle.starlark_grammar.proofs.Recovery.RestartBounds.{restart_bounds}
use Rattle.starlark_errors.specs.Exceptions.{IsException}
use Rattle.starlark_errors.specs.declared.error.kinds.ErrorKind.{ErrorKind}
use Rattle.starlark_lexemes.specs.Inner.LexerStates.{AreReadsTo, IsCourse, IsLexing, IsLexingIn, KeepsOpen, course_of, whole}
use Rattle.starlark_lexemes.specs.declared.lexer_state.LexerState.{LexerState}
use Rattle.starlark_lexemes.proofs.LexerStates.{lexing_read_in}
use Rattle.starlark_reader.specs.Inner.Reader.{From, Line, Origin, Start, begin_of, begins_with_fault, history_before, history_since, kept_history, moved_fault, remaining_outcome}
use Rattle.starlark_reader.proofs.NextLines.{next_line_least, next_line_later, restart_inside, restart_line, stopped_end}
use Rattle.starlark_reader.proofs.TakenPieces.SearchReads.{other_search}
use Rattle.starlark_reader.proofs.TakenPieces.KeptReads.{moved_passed}
use Rattle.starlark_recovery.specs.Inner.Passed.{HasPassed, up_to}
use Rattle.starlark_recovery.specs.Inner.RecoveryStates.{HasPassedOn, HasReadBefore, IsLeftOf, IsOnward, IsPaidTo, IsPart, IsPlacedIn, IsRest, IsStopped, StandsFor, Waits, after_faults, is_open_here, items_since, part_of, rest_keeps, stays_open_here, with_literal_here}
use Rattle.starlark_recovery.specs.RecoveringLexer.{AreReadsOn}
use Rattle.starlark_recovery.specs.declared.passed_faults.Passed.{Passed}
use Rattle.starlark_recovery.specs.declared.recovery_state.RecoveryState.{RecoveryState}
use Rattle.starlark_recovery.proofs.PartRests.{RestFault, is_course, keeps_rest, kept_no_margin, literal_boundary, lost_tab, passed_boundary, rest_fault, restart_rest, stands_escape, stands_first, whole_up_to}
use Rattle.starlark_recovery.proofs.RecoveredItems.{after_fault, all_moved_by_none, all_moved_twice, items_past, lexemes_moved}
use Rattle.starlark_text.specs.declared.or_memory.OrMemory.TheVariants.{Error}
use Rattle.starlark_lexemes.specs.Lexer.{search_reads}
use Rattle.starlark_token.specs.Lexemes.{lexeme_view, shown_lexeme}
use Rattle.starlark_token.specs.declared.tokens.Token.{Token}
use Rattle.starlark_words.specs.Inner.Reads.{AreReads, more_reads}

-- faults that keep their lines, and bad escapes, are no unfinished literals
kept_finished : (node : Fault) → may_keep node ≡ true → is_unfinished node ≡ false
unfolding may_keep
kept_finished UnfinishedStringLiteral keeps = cc
kept_finished node keeps = refl

escape_finished : (node : Fault) → is_bad_escape node ≡ true → is_unfinished node ≡ false
escape_finished UnfinishedStringLiteral bad = cc
escape_finished node bad = refl

-- The part

module _ (state : RecoveryState) (is : IsPart state) where
  pub part_utf8 : IsUtf8 (part_of state)
  part_utf8 = IsUtf8-drop state.text.now state.begin is.utf8 is.boundary

  pub part_len : length (part_of state) ≡ length state.text.now - state.begin
  part_len = length-drop state.begin state.text.now

  pub part_begins : state.begin ≤ length state.text.now
  part_begins = let boundary = is.boundary in boundary.0

  pub part_fits : length (part_of state) < 2 ^ 32
  part_fits = omega (arith, part_len, is.fits)

-- reads so far, by those before the part and those in it
pub on_reads : (text : Text) (begin to n earlier reads : ℕ) → begin + to ≤ length text → length text < 2 ^ 32 → HasReadBefore begin to n earlier → reads ≤ 16 * (length text - begin + 1) → AreReadsOn text n (more_reads earlier reads)
on_reads text begin to n earlier reads inside fits before few = search rules

-- a fault at which all stays open is in code
kept_in_code : (history : History) (text : Text) (fault : Spanned Fault) → KeepsLine history text fault → is_in_text (mode_after (history_after history text).tokens) ≡ false
kept_in_code history text fault keeps =
    let is = open_place history text fault keeps in
    ap (λ (h : History). is_in_text (mode_after h.tokens)) is.here.past ∙ is.in_code

-- What is left of the part

-- a fault of a line is in one that has bytes
some_bytes : (widths : List ℕ) (text : Text) → IfSome (outcome_after (at_line widths) text).fault (λ fault. 0 < length text)
some_bytes widths text = by text (outcome_after (at_line widths) text).fault refl
  where
    by : (text : Text) (found : Option (Spanned Fault)) → (outcome_after (at_line widths) text).fault ≡ found → IfSome found (λ fault. 0 < length text)
    by text None e = tt
    by [] (Some fault) e = let none = before_faultless (at_line widths) [] (AtLine widths) in cc
    by (b ∷ bs) (Some fault) e = omega arith

pub is_line : (begin : ℕ) (widths : List ℕ) (text : Text) → length (open_widths widths) ≤ begin → IsRest begin text (Line widths)
is_line begin widths text few = record { begun = tt; inside = omega arith; widths = omega (arith, few); fault = some_bytes widths text }

pub is_start : (begin : ℕ) (text : Text) → IsRest begin text Start
unfolding open_widths
is_start begin text = is_line begin [] text (omega arith)

-- a state that lexes a whole text
pub start_lexing : (text : Text) (state : LexerState) → state.reader.text.now ≡ text → IsLexing (whole state.reader.text.now) state → IsLexingIn (course_of Start text) text state
start_lexing text state same lexing =
    subst (λ (found : Outcome). IsLexingIn (record { origin = Start; lexemes = found.lexemes; fault = found.fault }) text state) (sym (outcome_after_nothing text))
    (subst (λ (t : Text). IsLexingIn (whole t) t state) same lexing)

-- the items of a line
pub line_items : (widths : List ℕ) (text : Text) → items_since (Line widths) text ≡ found_after (at_line widths) text
line_items widths text = all_moved_by_none (found_after (at_line widths) text)

-- the items of a whole text
pub start_items : (text : Text) → items_since Start text ≡ found text
unfolding found
start_items text = line_items [] text

-- a fault of what is left, by the part that was read before it
module _ (old : RecoveryState) (fault : Spanned Fault) (stopped : IsStopped old fault) where
  abbrev origin : Origin
  origin = stopped.origin

  abbrev part : Text
  part = part_of old

  abbrev at : ℕ
  at = begin_of origin

  abbrev history : History
  history = history_before origin

  abbrev rest : Text
  rest = drop at part

  pub in_rest : RestFault origin part fault
  in_rest = rest_fault origin part fault stopped.here.has

  pub begins : at + in_rest.inner.begin ≡ fault.begin
  begins = ap (λ (f : Spanned Fault). f.begin) in_rest.same

  pub later : (at ≤ fault.begin) × (at < length part)
  later = (omega (arith, begins), subst (λ (f : Option (Spanned Fault)). IfSome f (λ fault. at < length part)) stopped.here.has stopped.rest.fault)

  -- what is open at it
  abbrev pub open_now : List ℕ
  open_now = (history_since origin part).widths

  pub widths_before : length (open_widths open_now) ≤ old.begin + fault.begin
  widths_before =
      let here = stops_at history rest in_rest.inner in_rest.has in
      let levels = rest_levels history rest here.pieces here.longest.reads in
      let same = ap (λ (h : History). length (open_widths h.widths)) here.past in
      omega (arith, levels, same, here.begin, begins, stopped.rest.widths)

  -- what is left after it, by what is passed with it
  pub left_past : after_faults (old.fault_count + 1) (found old.text.now) ≡ map (moved_item old.begin) (items_past origin part (passed_by history rest in_rest.inner))
  left_past = let left = stopped.left in after_fault old.fault_count old.begin origin part (found old.text.now) left.0 in_rest.inner left.1 in_rest.has

  -- its literal, in the part and in what is left of that

  bad_place : is_bad_escape fault.node ≡ true → old.state.reader.at ≡ at + read_len history rest
  bad_place bad = stopped.here.stores.at (stands_escape origin part fault stopped.here.has bad)

  literal_moved : (n : ℕ) → (with_literal_at (at + n) part (moved at in_rest.inner) ≡ moved at (with_literal_at n rest in_rest.inner)) × (closes_literal (at + n) part (moved at in_rest.inner) ≡ closes_literal n rest in_rest.inner)
  literal_moved n =
      let len : length (take at part) ≡ at = length-take-le at part stopped.rest.inside in
      subst (λ (t : Text). (with_literal_at (at + n) t (moved at in_rest.inner) ≡ moved at (with_literal_at n rest in_rest.inner)) × (closes_literal (at + n) t (moved at in_rest.inner) ≡ closes_literal n rest in_rest.inner)) (take-append-drop at part)
      (subst (λ m. (with_literal_at (m + n) (take at part ++ rest) (moved m in_rest.inner) ≡ moved m (with_literal_at n rest in_rest.inner)) × (closes_literal (m + n) (take at part ++ rest) (moved m in_rest.inner) ≡ closes_literal n rest in_rest.inner)) len (whole_moved n (take at part) rest in_rest.inner))

  pub stands_moved : (n : ℕ) → stand_ins_at (at + n) part (moved at in_rest.inner) ≡ map (moved at) (stand_ins_at n rest in_rest.inner)
  stands_moved n =
      let len : length (take at part) ≡ at = length-take-le at part stopped.rest.inside in
      subst (λ (t : Text). stand_ins_at (at + n) t (moved at in_rest.inner) ≡ map (moved at) (stand_ins_at n rest in_rest.inner)) (take-append-drop at part)
      (subst (λ m. stand_ins_at (m + n) (take at part ++ rest) (moved m in_rest.inner) ≡ map (moved m) (stand_ins_at n rest in_rest.inner)) len (stand_ins_moved n (take at part) rest in_rest.inner))

  literal_here : (with_literal_here old fault ≡ moved at (with_literal history rest in_rest.inner)) × (closes_literal old.state.reader.at part fault ≡ closes_literal (read_len history rest) rest in_rest.inner)
  literal_here = by (is_bad_escape fault.node) refl
    where
      inner_bad : is_bad_escape in_rest.inner.node ≡ is_bad_escape fault.node
      inner_bad = ap (λ (f : Spanned Fault). is_bad_escape f.node) in_rest.same

      by : (bad : Bool) → is_bad_escape fault.node ≡ bad
          → (with_literal_here old fault ≡ moved at (with_literal history rest in_rest.inner)) × (closes_literal old.state.reader.at part fault ≡ closes_literal (read_len history rest) rest in_rest.inner)
      by true e =
          subst (λ n. (with_literal_at n part fault ≡ moved at (with_literal history rest in_rest.inner)) × (closes_literal n part fault ≡ closes_literal (read_len history rest) rest in_rest.inner)) (sym (bad_place e))
          (subst (λ (f : Spanned Fault). (with_literal_at (at + read_len history rest) part f ≡ moved at (with_literal history rest in_rest.inner)) × (closes_literal (at + read_len history rest) part f ≡ closes_literal (read_len history rest) rest in_rest.inner)) in_rest.same (literal_moved (read_len history rest)))
      by false e = (whole_other old.state.reader.at part fault e ∙ sym in_rest.same ∙ ap (moved at) (sym (whole_other (read_len history rest) rest in_rest.inner (inner_bad ∙ e))), rw (e, inner_bad ∙ e) refl)

  pub open_is : (mode : Mode) → is_open_quote mode part fault ≡ is_open_quote mode rest in_rest.inner
  open_is mode =
      let len : length (take at part) ≡ at = length-take-le at part stopped.rest.inside in
      ap (is_open_quote mode part) (sym in_rest.same)
      ∙ subst (λ (t : Text). is_open_quote mode t (moved at in_rest.inner) ≡ is_open_quote mode rest in_rest.inner) (take-append-drop at part)
      (subst (λ n. is_open_quote mode (take at part ++ rest) (moved n in_rest.inner) ≡ is_open_quote mode rest in_rest.inner) len (quote_moved mode (take at part) rest in_rest.inner))

  pub stays_is : (stays_open_here old origin fault || is_open_here old origin fault) ≡ stays_open history rest in_rest.inner
  stays_is =
      ap (λ keeps. keeps || closes_literal old.state.reader.at part fault || is_open_here old origin fault) (keeps_rest origin part stopped.rest.begun fault in_rest)
      ∙ ap (λ closes. keeps_line history.before rest (outcome_after history rest).lexemes in_rest.inner || closes || is_open_here old origin fault) literal_here.1
      ∙ ap (λ quote. keeps_line history.before rest (outcome_after history rest).lexemes in_rest.inner || closes_literal (read_len history rest) rest in_rest.inner || quote) (open_is (mode_after (history_since origin part).tokens))

  -- the kind of the fault of what is left
  pub node_is : in_rest.inner.node ≡ fault.node
  node_is = ap (λ (f : Spanned Fault). f.node) in_rest.same

  -- only an unfinished literal is an open quote
  pub finished : is_unfinished fault.node ≡ false → (is_open_here old origin fault ≡ false) × (is_open_quote (mode_after (history_after history rest).tokens) rest in_rest.inner ≡ false)
  finished none = (rw none refl, rw (ap is_unfinished node_is ∙ none) refl)

  -- with it the fault ends no sooner, and in the part
  pub literal_ends : (fault.end ≤ (with_literal_here old fault).end) × ((with_literal_here old fault).end ≤ length part)
  literal_ends = whole_ends old.state.reader.at part fault stopped.within.0 stopped.within.1

  -- any other fault has no literal
  pub other_here : is_bad_escape fault.node ≡ false → (stays_open_here old origin fault ≡ rest_keeps origin part fault) × (with_literal_here old fault ≡ fault)
  other_here good = (rw good (or_false (rest_keeps origin part fault)), whole_other old.state.reader.at part fault good)
    where
      or_false : (test : Bool) → (test || false) ≡ test
      or_false true = refl
      or_false false = refl

  -- A bad escape

  module _ (bad : is_bad_escape fault.node ≡ true) where
    abbrev left : LiteralRest
    left = literal_rest old.state.reader.at part fault.begin

    pub literal_end : (with_literal_here old fault).end ≡ max fault.end (fault.begin + left.len)
    literal_end = whole_bad old.state.reader.at part fault bad

    literal_kind : closes_literal old.state.reader.at part fault ≡ left.is_closed
    literal_kind = rw bad refl

    bad_loses : rest_keeps origin part fault ≡ false
    bad_loses = by (rest_keeps origin part fault) refl
      where
        by : (keeps : Bool) → rest_keeps origin part fault ≡ keeps → keeps ≡ false
        by true e = let good = kept_other (history_before origin).before part (course_of origin part).lexemes fault e in cc
        by false e = refl

    pub literal_open : stays_open_here old origin fault ≡ left.is_closed
    literal_open = ap (λ keeps. keeps || closes_literal old.state.reader.at part fault) bad_loses ∙ literal_kind

    pub literal_single : is_open_here old origin fault ≡ false
    literal_single = (finished (escape_finished fault.node bad)).0

    reads_few : old.state.reader.reads ≤ 10 * fault.begin + (fault.end - fault.begin) + 8
    reads_few = stopped.here.leaves.1 bad

    -- it begins between characters
    pub literal_begin : IsCharBoundary part old.state.reader.at
    literal_begin = (stopped.here.stores.whole (stands_escape origin part fault stopped.here.has bad)).boundary

    pub literal_paid : left.is_closed ≡ true → IsPaidTo old fault (with_literal_here old fault).end ((with_literal_here old fault).end - fault.begin + left.len)
    literal_paid closed =
        let some = closed_later old.state.reader.at part fault (literal_kind ∙ closed) in
        (omega arith, omega (arith, reads_few, literal_ends.0, literal_end, some, stopped.within.0))

    pub literal_lost_paid : AreReadsTo part (with_literal_here old fault) (old.state.reader.reads + ((with_literal_here old fault).end - fault.begin + left.len + 1 + 5))
    literal_lost_paid =
        let same = whole_same old.state.reader.at part fault in
        let bounds = restart_bounds part (with_literal_here old fault) literal_ends.1 in
        let stop = stopped_end part (with_literal_here old fault) in
        let search = other_search part (with_literal_here old fault) (whole_untabbed old.state.reader.at part fault bad) in
        let least = stopped.paid.0 in
        (omega (arith, least, same.0), omega (arith, reads_few, literal_ends.0, literal_end, bounds.0, stop, search, stopped.within.0))

  -- A fault that keeps its line by itself

  module _ (own : rest_keeps origin part fault ≡ true) where
    own_kept : IsKept history.before rest in_rest.inner
    own_kept = kept history.before rest (outcome_after history rest).lexemes in_rest.inner (sym (keeps_rest origin part stopped.rest.begun fault in_rest) ∙ own)

    pub own_may : may_keep fault.node ≡ true
    own_may = ap (λ (f : Spanned Fault). may_keep f.node) (sym in_rest.same) ∙ own_kept.may

    own_margin : is_margin_tab part fault ≡ false
    own_margin = ap (is_margin_tab part) (sym in_rest.same) ∙ kept_no_margin origin part stopped.rest.begun in_rest.inner own_kept

    pub own_paid : IsPaidTo old fault (passed_end part fault) (passed_end part fault - fault.begin)
    own_paid = (omega arith, stopped.here.leaves.0 own_may own_margin)

  -- A fault after which all stays open

  module _ (line : stays_open_here old origin fault ≡ true) where
    abbrev last : ℕ
    last = passed_end part (with_literal_here old fault)

    keeps_line_here : KeepsLine history rest in_rest.inner
    keeps_line_here = (in_rest.has, sym stays_is ∙ ap (λ stays. stays || is_open_here old origin fault) line)

    by_kind : {A : Type 0} → (rest_keeps origin part fault ≡ true → A) → (closes_literal old.state.reader.at part fault ≡ true → A) → A
    by_kind {A} own literal = go (rest_keeps origin part fault) refl line
      where
        go : (keeps : Bool) → rest_keeps origin part fault ≡ keeps → (keeps || closes_literal old.state.reader.at part fault) ≡ true → A
        go true e is = own e
        go false e is = literal is

    -- it is no open quote, so its bytes count no bracket
    single : is_open_quote (mode_after (history_after history rest).tokens) rest in_rest.inner ≡ false
    single = (finished (by_kind (λ own. kept_finished fault.node (own_may own)) (λ closes. escape_finished fault.node (and_parts (is_bad_escape fault.node) _ closes).0))).1

    past_is : past_fault (history_after history rest) rest in_rest.inner ≡ kept_history (history_since origin part)
    past_is = rw single refl

    last_is : last ≡ at + passed_end rest (with_literal history rest in_rest.inner)
    last_is =
        let literal = with_literal history rest in_rest.inner in
        ap (passed_end part) literal_here.0 ∙ moved_passed part at literal.begin literal.end literal.node

    pub has_bytes : (fault.begin < last) × (last ≤ length part)
    has_bytes =
        let bytes = kept_faults_have_bytes history rest in_rest.inner keeps_line_here in
        (omega (arith, bytes.0, last_is, begins), omega (arith, bytes.1, last_is, stopped.rest.inside, length-drop at part))

    pub last_fits : last < 2 ^ 32
    last_fits = omega (arith, has_bytes.1, part_fits old stopped.is_part)

    pub part_end : IsCharBoundary part last
    part_end = by_kind
        (λ own.
        let other = kept_other history.before rest (outcome_after history rest).lexemes in_rest.inner (sym (keeps_rest origin part stopped.rest.begun fault in_rest) ∙ own) in
        let same : with_literal_here old fault ≡ fault = whole_other old.state.reader.at part fault (sym (ap (λ (f : Spanned Fault). is_bad_escape f.node) in_rest.same) ∙ other) in
        subst (λ (f : Spanned Fault). IsCharBoundary part (passed_end part f)) (sym same) (passed_boundary part fault (subst (λ (f : Spanned Fault). passed_end part f ≤ length part) same has_bytes.1) (part_utf8 old stopped.is_part) stopped.begins stopped.ends))
        (λ closes.
        let bad = (and_parts (is_bad_escape fault.node) _ closes).0 in
        let begins_inside = stopped.begins in
        subst (IsCharBoundary part) (sym (passed_literal old.state.reader.at part fault bad)) (literal_boundary old.state.reader.at part fault closes (part_utf8 old stopped.is_part) begins_inside.0 stopped.ends))

    standing : begins_with_fault origin part ≡ false
    standing = by_kind
        (λ own. stands_first origin part fault stopped.here.has (own_may own) (own_margin own))
        (λ closes. stands_escape origin part fault stopped.here.has (and_parts (is_bad_escape fault.node) _ closes).0)

    pub keeps_open : (looked : ℕ) → IsPaidTo old fault last looked → KeepsOpen (course_of origin part) part fault last (old.state.reader.reads + looked + 1)
    keeps_open looked paid = record {
      later = omega (arith, has_bytes.0);
      least = omega (arith, stopped.here.least, paid.0, last_fits);
      most = paid.1;
      standing = standing;
      boundary = part_end;
    }

    -- what was read up to it, with all that is open
    abbrev opened : History
    opened = kept_history (history_since origin part)

    abbrev again : Origin
    again = From opened last

    opened_widths : length (open_widths opened.widths) ≤ old.begin + last
    opened_widths = omega (arith, widths_before, has_bytes.0)

    more_bytes : IfSome (course_of again part).fault (λ later. last < length part)
    unfolding remaining_outcome
    more_bytes = by (cases_lt last (length part))
      where
        each : (found : Option (Spanned Fault)) → last < length part → IfSome found (λ later. last < length part)
        each None less = tt
        each (Some later) less = less

        by : (last < length part) ⊎ (length part ≤ last) → IfSome (moved_fault last (outcome_after opened (drop last part)).fault) (λ later. last < length part)
        by (inl less) = each _ less
        by (inr whole) =
            let none : (outcome_after opened (drop last part)).fault ≡ None = ap (λ (t : Text). (outcome_after opened t).fault) (drop_all last part whole) ∙ rest_ends opened refl (kept_in_code history rest in_rest.inner keeps_line_here) in
            rw none tt

    pub is_again : IsRest old.begin part again
    is_again = record { begun = (inl (omega (arith, has_bytes.0)), refl); inside = has_bytes.1; widths = opened_widths; fault = more_bytes }

    pub course_again : IsCourse (course_of again part) part
    course_again =
        let bytes = has_bytes in
        is_course again part part_end (part_utf8 old stopped.is_part) (omega (arith, opened_widths, bytes.1, part_len old stopped.is_part, part_begins old stopped.is_part, stopped.is_part.fits)) (part_fits old stopped.is_part)

    -- what stands for it, in the part
    stands_here : stand_ins_at old.state.reader.at part fault ≡ map (moved at) (stand_ins history rest in_rest.inner)
    stands_here =
        let place : old.state.reader.at ≡ at + read_len history rest = stopped.here.stores.at standing in
        ap (λ n. stand_ins_at n part fault) place ∙ ap (stand_ins_at (at + read_len history rest) part) (sym in_rest.same) ∙ stands_moved (read_len history rest)

    abbrev stands : List Lexeme
    stands = map (moved old.begin) (map (moved at) (stand_ins history rest in_rest.inner))

    left_kept : after_faults (old.fault_count + 1) (found old.text.now) ≡ given stands ++ map (moved_item old.begin) (items_since again part)
    left_kept =
        left_past
        ∙ ap (λ (p : PassedOver). map (moved_item old.begin) (items_past origin part p)) (passed_kept history rest in_rest.inner keeps_line_here.1)
        ∙ ap (λ (h : History). map (moved_item old.begin) (given (map (moved at) (stand_ins history rest in_rest.inner)) ++ items_since (From h (at + passed_end rest (with_literal history rest in_rest.inner))) part)) past_is
        ∙ lexemes_moved old.begin (map (moved at) (stand_ins history rest in_rest.inner)) (items_since (From opened (at + passed_end rest (with_literal history rest in_rest.inner))) part)
        ∙ ap (λ n. given stands ++ map (moved_item old.begin) (items_since (From opened n) part)) (sym last_is)

    module _ (state : LexerState) (earlier : ℕ) (lexing : IsLexingIn (course_of again part) part state) (count : state.yielded_count ≡ 0) (going : state.has_ended ≡ false) (text : state.reader.text ≡ old.state.reader.text)
        (peeked : ℕ) (some : 1 ≤ peeked) (few : peeked ≤ 16) (reads : earlier ≡ more_reads old.earlier_reads peeked) (stand_in : Option (ℕ × Token × ℕ)) (it : StandsFor old fault stand_in) where
      abbrev on : RecoveryState
      on = record old { state = state; comment = None; stand_in = stand_in; stand_in_count = 0; fault_count = old.fault_count + 1; earlier_reads = earlier }

      reads_on : HasReadBefore old.begin last (old.fault_count + 1) earlier
      reads_on =
          let before = stopped.reads in
          let place = later in
          record {
            few = omega (arith, before.few, place.0, has_bytes.0);
            first = λ none. absurd (omega (arith, none));
            least = omega (arith, before.least, before.few, place.0, has_bytes, part_begins old stopped.is_part, stopped.is_part.fits, part_len old stopped.is_part, some, reads);
            most = omega (arith, before.most, reads, few);
          }

      waits_on : Waits on
      waits_on = by stand_in it.placed
        where
          by : (stand_in : Option (ℕ × Token × ℕ)) → IfSome stand_in (IsPlacedIn old.text.now) → IfSome stand_in (λ lexeme. (state.has_ended ≡ false) × (state.yielded_count ≡ 0) × (◌≡◌ {A = ℕ} 0 0) × IsPlacedIn old.text.now lexeme)
          by None placed = tt
          by (Some lexeme) placed = (going, count, refl, placed)

      onward_on : IsOnward on
      onward_on = record {
        origin = again;
        rest = is_again;
        lexing = lexing;
        left = (stands, left_kept, omega arith, it.views ∙ ap (λ ls. map shown_lexeme (map (moved old.begin) ls)) stands_here);
        comment = λ at. ap (λ n. ends_by_comment at (take n (course_of again part).lexemes)) count;
        earlier = tt;
        reads = reads_on;
      }

      pub kept_on : (exception : Diagnosed ErrorKind) → IsException old.code_map (moved old.begin fault) exception → HasPassedOn old fault (Error exception) on
      kept_on exception throws =
          let is = stopped.is_part in (
            record { is_part = record { fits = is.fits; utf8 = is.utf8; boundary = is.boundary; own = ap (λ t. t.now) text ∙ is.own }; lexing = (course_of again part, lexing); onward = λ goes. onward_on; waits = waits_on },
            going,
            throws,
            count,
            refl,
            refl,
            refl,
            refl,
            on_reads old.text.now old.begin last (old.fault_count + 1) earlier state.reader.reads (omega (arith, has_bytes.1, part_len old is, part_begins old is)) is.fits reads_on (omega (arith, lexing_read_in part state lexing going, part_len old is)),
          )

  -- A fault that ends its line

  module _ (end : ℕ) (end_is : end ≡ (with_literal_here old fault).end) (passed : Passed) (has : HasPassed old.code_map old.text.now old.begin fault end passed) where
    -- the fault with all of its literal
    abbrev ended : Spanned Fault
    ended = with_literal_here old fault

    ended_is : up_to end fault ≡ ended
    ended_is = ap (λ n. up_to n fault) end_is ∙ whole_up_to old.state.reader.at part fault

    ended_begin : ended.begin ≡ fault.begin
    ended_begin = (whole_same old.state.reader.at part fault).0

    abbrev from : ℕ
    from = restart part ended

    begins_at : passed.begin ≡ old.begin + from
    begins_at = has.from ∙ ap (λ (f : Spanned Fault). old.begin + restart part f) ended_is

    -- the line begins after all that was passed
    after : (at + 1 ≤ from) × (from ≤ length part)
    after = let place = later in (
      omega (arith, next_line_least part at place.1, next_line_later part at ended.begin (omega (arith, place.0, ended_begin)), restart_line part ended),
      restart_inside part ended,
    )

    abbrev next : Text
    next = drop passed.begin old.text.now

    -- the blocks that are open at the fault began before the line
    open_before : length (open_widths open_now) ≤ passed.begin
    open_before =
        let bounds = restart_bounds part ended literal_ends.1 in
        let order = stopped.within in
        omega (arith, widths_before, bounds.0, literal_ends.0, order.0, begins_at)

    passed_inside : passed.begin ≤ length old.text.now
    passed_inside = let boundary = has.boundary in boundary.0

    next_utf8 : IsUtf8 next
    next_utf8 = IsUtf8-drop old.text.now passed.begin stopped.is_part.utf8 has.boundary

    pub course_line : IsCourse (course_of (Line open_now) next) next
    course_line =
        is_course (Line open_now) next (IsCharBoundary-start next next_utf8) next_utf8 (omega (arith, open_before, passed_inside, stopped.is_part.fits))
        (omega (arith, length-drop passed.begin old.text.now, stopped.is_part.fits))

    module _ (loses : stays_open_here old origin fault ≡ false) (none : is_open_here old origin fault ≡ false) (looked : ℕ) (paid : AreReadsTo part ended (old.state.reader.reads + looked)) (state : LexerState) (earlier : ℕ) (own : state.reader.text.now ≡ next) (lexing : IsLexingIn (course_of (Line open_now) next) next state)
        (count : state.yielded_count ≡ 0) (going : state.has_ended ≡ false) (unread : state.reader.reads ≡ 0) (reads : earlier ≡ more_reads old.earlier_reads (more_reads old.state.reader.reads (more_reads passed.reads looked))) where
      abbrev restarted : RecoveryState
      restarted = record old { begin = passed.begin; state = state; comment = None; stand_in_count = 0; fault_count = old.fault_count + 1; earlier_reads = earlier }

      is_part_again : IsPart restarted
      is_part_again = let is = stopped.is_part in record { fits = is.fits; utf8 = is.utf8; boundary = has.boundary; own = own }

      reads_again : HasReadBefore passed.begin 0 (old.fault_count + 1) earlier
      reads_again =
          let line = begins_at in
          let past = after in
          let before = stopped.reads in
          let few : AreReads 1 (search_reads part ended) 0 passed.reads = subst (λ (f : Spanned Fault). AreReads 1 (search_reads part f) 0 passed.reads) ended_is has.reads in
          record {
            few = omega (arith, before.few, later.0, past.0, line);
            first = λ none. absurd (omega (arith, none));
            least = omega (arith, before.least, before.few, paid.0, few.0, reads, ended_begin, later.0, passed_inside, stopped.is_part.fits);
            most = omega (arith, before.most, paid.1, few.1, reads, line);
          }

      lost_so : stays_open history rest in_rest.inner ≡ false
      lost_so = sym stays_is ∙ rw (loses, none) refl

      lost_line : keeps_line history.before rest (outcome_after history rest).lexemes in_rest.inner ≡ false
      lost_line = sym (keeps_rest origin part stopped.rest.begun fault in_rest) ∙ (or_none (rest_keeps origin part fault) (closes_literal old.state.reader.at part fault) loses).0

      -- its tab is in a margin of both
      same_tab : is_margin_tab part (moved at (with_literal history rest in_rest.inner)) ≡ is_margin_tab rest (with_literal history rest in_rest.inner)
      same_tab = by (is_bad_escape in_rest.inner.node) refl
        where
          by : (bad : Bool) → is_bad_escape in_rest.inner.node ≡ bad → is_margin_tab part (moved at (with_literal history rest in_rest.inner)) ≡ is_margin_tab rest (with_literal history rest in_rest.inner)
          by true e = rw (whole_untabbed (read_len history rest) rest in_rest.inner e) refl
          by false e = subst (λ (f : Spanned Fault). is_margin_tab part (moved at f) ≡ is_margin_tab rest f) (sym (whole_other (read_len history rest) rest in_rest.inner e))
              (lost_tab origin part stopped.rest.begun (outcome_after history rest).lexemes in_rest.inner lost_line)

      from_is : restart part ended ≡ at + restart rest (with_literal history rest in_rest.inner)
      from_is = ap (restart part) literal_here.0 ∙ restart_rest part at (with_literal history rest in_rest.inner) same_tab stopped.rest.inside

      next_is : drop (restart part ended) part ≡ next
      next_is = sym (drop-sum old.begin (restart part ended) old.text.now) ∙ ap (λ n. drop n old.text.now) (sym begins_at)

      abbrev found_next : Text → List Item
      found_next = found_after (at_line open_now)

      items_again : after_faults (old.fault_count + 1) (found old.text.now) ≡ map (moved_item passed.begin) (items_since (Line open_now) next)
      items_again =
          left_past
          ∙ ap (λ (p : PassedOver). map (moved_item old.begin) (items_past origin part p)) (passed_lost history rest in_rest.inner lost_so)
          ∙ ap (λ n. map (moved_item old.begin) (map (moved_item n) (found_next (drop n part)))) (sym from_is)
          ∙ ap (λ (t : Text). map (moved_item old.begin) (map (moved_item (restart part ended)) (found_next t))) next_is
          ∙ all_moved_twice old.begin (restart part ended) (found_next next) ∙ ap (λ n. map (moved_item n) (found_next next)) (sym begins_at)
          ∙ ap (map (moved_item passed.begin)) (sym (line_items open_now next))

      left_again : IsLeftOf restarted (Line open_now)
      left_again = ([], items_again, omega arith, ap (λ (s : Option (ℕ × Token × ℕ)). option_to_list (option_map lexeme_view s)) stopped.none)

      onward_again : IsOnward restarted
      onward_again = record {
        origin = Line open_now;
        rest = is_line passed.begin open_now next open_before;
        lexing = lexing;
        left = left_again;
        comment = λ at. ap (λ n. ends_by_comment at (take n (course_of (Line open_now) next).lexemes)) count;
        earlier = tt;
        reads = reads_again;
      }

      pub lost_on : HasPassedOn old fault (Error passed.fault) restarted
      lost_on = (
        record { is_part = is_part_again; lexing = (course_of (Line open_now) next, lexing); onward = λ goes. onward_again; waits = rw stopped.none tt },
        going,
        has.exception,
        count,
        refl,
        refl,
        refl,
        refl,
        on_reads old.text.now passed.begin 0 (old.fault_count + 1) earlier state.reader.reads (let at = has.boundary in omega (arith, at.0)) stopped.is_part.fits reads_again (omega (arith, unread)),
      )
