-- What is found in a closed text and one after it.
use Rattle.std.proofs.Common.{◌≡◌, ℕ, zero, suc, ◌+◌, ◌≤◌, ◌<◌, Bool, true, false, List, [], ◌∷◌, ◌++◌, map, length, drop, refl, ap, ◌∙◌, sym, subst, Option, Some, None, arith, append_assoc, append-nil}
use Rattle.std.specs.Prelude.{◌&&◌, ◌||◌, ◌==◌, option_map}
use Rattle.std.proofs.lemmas.Bool.Decides.{nat_tests}
use Rattle.std.proofs.lemmas.List.{drop-append-le, length-drop, map-append}
use Rattle.std.proofs.Math.Seq.{drop-append-add}
use Rattle.starlark_grammar.specs.AfterFaults.{is_tab, restart}
use Rattle.starlark_grammar.specs.ClosedTexts.{Cut, Empty, IsClosedAfter, Past, parted}
use Rattle.starlark_grammar.specs.Found.{at_line, Given, Item, Passed, Refused, found, found_after, found_by, found_from, found_within, given, lexemes_in, moved_item, passed}
use Rattle.starlark_grammar.specs.Depths.{mode_after}
use Rattle.starlark_grammar.specs.FoundLaws.{FoundJoins}
use Rattle.starlark_grammar.specs.Joining.{begins_plainly, has_newline, is_decided, recovered_joined, without_last_newline}
use Rattle.starlark_grammar.specs.KeptLines.{closes_literal, ends_by_comment, is_comment_to, is_open_quote, keeps_line, passed_end, stays_open, with_literal, with_literal_at}
use Rattle.starlark_grammar.specs.Reading.{History, history_after, nothing, outcome_after, read_len}
use Rattle.starlark_grammar.specs.Recovery.{Recovered}
use Rattle.starlark_grammar.specs.StandIns.{stand_ins_at}
use Rattle.starlark_grammar.specs.Tokens.{Fault, Lexeme, Outcome, Spanned, moved}
use Rattle.starlark_grammar.specs.Words.{Text}
use Rattle.starlark_grammar.proofs.Found.CommentEnds.{no_comment_after}
use Rattle.starlark_grammar.proofs.Found.FoundItems.{by_keeps, faultless_found, found_after_faults, passed_bounds, passed_kept, passed_lost}
use Rattle.starlark_grammar.proofs.Found.PassedFaults.{end_moved, has_both, keeps_moved, passed_stays, past_moved, quote_moved, same_outcome}
use Rattle.starlark_grammar.proofs.Joining.Joined.{moved_both, twice}
use Rattle.starlark_grammar.proofs.KeptLines.LiteralRests.{whole_moved, whole_same}
use Rattle.starlark_grammar.proofs.KeptLines.OpenQuotes.{alike_mode, past_alike}
use Rattle.starlark_grammar.proofs.KeptLines.StandIns.{stand_ins_moved}
use Rattle.starlark_grammar.proofs.Recovery.LineCuts.{AfterCut, Alike, AtLine, BeforeLine, before_faultless, alike_before, alike_after, alike_joined, alike_line, alike_outcome, alike_read, cut_joins, has_newline_later, has_newline_moved, joined_read, left_out_later, left_out_moved, outcome_newline}
use Rattle.starlark_grammar.proofs.Recovery.MovedRestarts.{plain_tab, restart_moved}

-- Items

given_append : (one other : List Lexeme) → given (one ++ other) ≡ given one ++ given other
given_append one other = map-append (λ (lexeme : Lexeme). Given lexeme) one other

pub given_moved : (n : ℕ) (lexemes : List Lexeme) → given (map (moved n) lexemes) ≡ map (moved_item n) (given lexemes)
given_moved n [] = refl
given_moved n (lexeme ∷ lexemes) = ap (λ items. Given (moved n lexeme) ∷ items) (given_moved n lexemes)

items_twice : (a b : ℕ) (items : List Item) → map (moved_item a) (map (moved_item b) items) ≡ map (moved_item (a + b)) items
items_twice a b [] = refl
items_twice a b (Given lexeme ∷ items) = rw (moved_both a b (a + b) lexeme refl, items_twice a b items) refl
items_twice a b (Refused fault ∷ items) = rw (moved_both a b (a + b) fault refl, items_twice a b items) refl

moved_recovered : ℕ → Recovered → Recovered
moved_recovered n found = record { lexemes = map (moved n) found.lexemes; faults = map (moved n) found.faults }

-- lexemes, and what is found after them
in_front : List Lexeme → Recovered → Recovered
in_front lexemes found = record { lexemes = lexemes ++ found.lexemes; faults = found.faults }

-- lexemes, a fault, and what is found after it
with_fault : List Lexeme → Spanned Fault → Recovered → Recovered
with_fault lexemes fault found = record { lexemes = lexemes ++ found.lexemes; faults = fault ∷ found.faults }

same_recovered : {one other : List Lexeme} {here there : List (Spanned Fault)} → one ≡ other → here ≡ there → ◌≡◌ {A = Recovered} (record { lexemes = one; faults = here }) (record { lexemes = other; faults = there })
same_recovered e f = rw (e, f) refl

parted_front : (lexemes : List Lexeme) (items : List Item) → parted (given lexemes ++ items) ≡ in_front lexemes (parted items)
unfolding in_front
parted_front [] items = refl
parted_front (lexeme ∷ lexemes) items = ap (λ (found : Recovered). let r : Recovered = record { lexemes = lexeme ∷ found.lexemes; faults = found.faults } in r) (parted_front lexemes items)

parted_fault : (lexemes : List Lexeme) (fault : Spanned Fault) (items : List Item) → parted (given lexemes ++ (Refused fault ∷ items)) ≡ with_fault lexemes fault (parted items)
unfolding in_front with_fault
parted_fault lexemes fault items = parted_front lexemes (Refused fault ∷ items)

parted_moved : (n : ℕ) (items : List Item) → parted (map (moved_item n) items) ≡ moved_recovered n (parted items)
unfolding moved_recovered
parted_moved n [] = refl
parted_moved n (Given lexeme ∷ items) = ap (λ (found : Recovered). let r : Recovered = record { lexemes = moved n lexeme ∷ found.lexemes; faults = found.faults } in r) (parted_moved n items)
parted_moved n (Refused fault ∷ items) = ap (λ (found : Recovered). let r : Recovered = record { lexemes = found.lexemes; faults = moved n fault ∷ found.faults } in r) (parted_moved n items)

parted_given : (lexemes : List Lexeme) → parted (given lexemes) ≡ record { lexemes = lexemes; faults = [] }
parted_given [] = refl
parted_given (lexeme ∷ lexemes) = ap (λ (found : Recovered). let r : Recovered = record { lexemes = lexeme ∷ found.lexemes; faults = found.faults } in r) (parted_given lexemes)

-- Joined

moved_joined : (at len : ℕ) (one other : Recovered) → moved_recovered at (recovered_joined len one other) ≡ recovered_joined (at + len) (moved_recovered at one) other
unfolding moved_recovered
moved_joined at len one other = same_recovered
    (map-append (moved at) (without_last_newline one.lexemes) (map (moved len) other.lexemes) ∙ ap (λ ls. map (moved at) (without_last_newline one.lexemes) ++ ls) (twice at len other.lexemes)
    ∙ ap (λ ls. ls ++ map (moved (at + len)) other.lexemes) (sym (left_out_moved at one.lexemes)))
    (map-append (moved at) one.faults (map (moved len) other.faults) ∙ ap (λ fs. map (moved at) one.faults ++ fs) (twice at len other.faults))

front_joined : (lexemes : List Lexeme) (len : ℕ) (one other : Recovered) → has_newline one.lexemes ≡ true → in_front lexemes (recovered_joined len one other) ≡ recovered_joined len (in_front lexemes one) other
unfolding in_front
front_joined lexemes len one other some = same_recovered
    (sym (append_assoc lexemes (without_last_newline one.lexemes) (map (moved len) other.lexemes))
    ∙ ap (λ ls. ls ++ map (moved len) other.lexemes) (sym (left_out_later lexemes one.lexemes some)))
    refl

fault_joined : (lexemes : List Lexeme) (fault : Spanned Fault) (len : ℕ) (one other : Recovered) → has_newline one.lexemes ≡ true → with_fault lexemes fault (recovered_joined len one other) ≡ recovered_joined len (with_fault lexemes fault one) other
unfolding with_fault
fault_joined lexemes fault len one other some = same_recovered
    (sym (append_assoc lexemes (without_last_newline one.lexemes) (map (moved len) other.lexemes))
    ∙ ap (λ ls. ls ++ map (moved len) other.lexemes) (sym (left_out_later lexemes one.lexemes some)))
    refl

-- Comments

comment_moved : (n at : ℕ) (lexeme : Lexeme) → is_comment_to (n + at) (moved n lexeme) ≡ is_comment_to at lexeme
comment_moved n at lexeme = same _ tests
  where
    tests : (n + lexeme.end == n + at) ≡ (lexeme.end == at)
    tests = grind (arith, nat_tests)

    same : {one other : Bool} (comment : Bool) → one ≡ other → (comment && one) ≡ (comment && other)
    same comment e = ap (λ test. comment && test) e

comments_moved : (n at : ℕ) (lexemes : List Lexeme) → ends_by_comment (n + at) (map (moved n) lexemes) ≡ ends_by_comment at lexemes
comments_moved n at [] = refl
comments_moved n at (lexeme ∷ []) = comment_moved n at lexeme
comments_moved n at (lexeme ∷ next ∷ lexemes) = comments_moved n at (next ∷ lexemes)

ends_later : (at : ℕ) (front : List Lexeme) (lexeme : Lexeme) (more : List Lexeme) → ends_by_comment at (front ++ lexeme ∷ more) ≡ ends_by_comment at (lexeme ∷ more)
ends_later at [] lexeme more = refl
ends_later at (first ∷ []) lexeme more = refl
ends_later at (first ∷ second ∷ front) lexeme more = ends_later at (second ∷ front) lexeme more

pub comments_after : (n at : ℕ) (front lexemes : List Lexeme) → ends_by_comment (n + at) front ≡ false → ends_by_comment (n + at) (front ++ map (moved n) lexemes) ≡ ends_by_comment at lexemes
comments_after n at front [] none = ap (ends_by_comment (n + at)) (append-nil front) ∙ none
comments_after n at front (lexeme ∷ lexemes) none = ends_later (n + at) front (moved n lexeme) (map (moved n) lexemes) ∙ comments_moved n at (lexeme ∷ lexemes)

-- Histories after which the same is found

pub whole_alike : (one other : History) (text : Text) (fault : Spanned Fault) → Alike one other → with_literal one text fault ≡ with_literal other text fault
whole_alike one other text fault alike = ap (λ n. with_literal_at n text fault) (alike_read one other text alike)

pub passed_alike : (one other : History) (text : Text) (fault : Spanned Fault) → Alike one other
    → ((passed one text fault).len ≡ (passed other text fault).len) × ((passed one text fault).stand_ins ≡ (passed other text fault).stand_ins) × Alike (passed one text fault).history (passed other text fault).history
passed_alike one other text fault alike = by_keeps other text fault
    (λ is. rw (passed_kept one text fault (keeps_alike ∙ is), passed_kept other text fault is)
    (ap (passed_end text) literal, ap (λ n. stand_ins_at n text fault) (alike_read one other text alike), past_alike (history_after one text) (history_after other text) text fault (alike_after one other text alike)))
    (λ is. rw (passed_lost one text fault (keeps_alike ∙ is), passed_lost other text fault is) (ap (restart text) literal, refl, alike_line (history_after one text) (history_after other text) (alike_after one other text alike)))
  where
    literal : with_literal one text fault ≡ with_literal other text fault
    literal = whole_alike one other text fault alike

    quote : History → Bool
    quote history = is_open_quote (mode_after (history_after history text).tokens) text fault

    keeps_alike : stays_open one text fault ≡ stays_open other text fault
    keeps_alike =
        ap (λ (o : Outcome). keeps_line one.before text o.lexemes fault || closes_literal (read_len one text) text fault || quote one) (alike_outcome one other text alike)
        ∙ ap (λ before. keeps_line before text (outcome_after other text).lexemes fault || closes_literal (read_len one text) text fault || quote one) (alike_before one other alike)
        ∙ ap (λ n. keeps_line other.before text (outcome_after other text).lexemes fault || closes_literal n text fault || quote one) (alike_read one other text alike)
        ∙ ap (λ mode. keeps_line other.before text (outcome_after other text).lexemes fault || closes_literal (read_len other text) text fault || is_open_quote mode text fault) (alike_mode (history_after one text) (history_after other text) (alike_after one other text alike))

-- the same is found after alike histories
alike_within : (n : ℕ) (one other : History) (text : Text) → Alike one other → found_within n one text ≡ found_within n other text
unfolding found_within
alike_within zero one other text alike = ap (λ (o : Outcome). given o.lexemes) (alike_outcome one other text alike)
alike_within (suc n) one other text alike =
    ap (λ (o : Outcome). found_by one text o.fault (found_within n)) same ∙ by (outcome_after other text).fault refl (alike_within n)
  where
    same : outcome_after one text ≡ outcome_after other text
    same = alike_outcome one other text alike

    by : (has : Option (Spanned Fault)) → (outcome_after other text).fault ≡ has → ((one other : History) (text : Text) → Alike one other → found_within n one text ≡ found_within n other text)
        → found_by one text has (found_within n) ≡ found_by other text has (found_within n)
    by None e again = ap (λ (o : Outcome). given o.lexemes) same
    by (Some fault) e again =
        let next = passed_alike one other text fault alike in
        let left : List Item = given (outcome_after other text).lexemes in
        ap (λ (o : Outcome). given o.lexemes ++ found_from text fault (passed one text fault) (found_within n)) same
        ∙ ap (λ (ls : List Lexeme). left ++ (Refused fault ∷ (given ls ++ map (moved_item (passed one text fault).len) (found_within n (passed one text fault).history (drop (passed one text fault).len text))))) next.1
        ∙ ap (λ len. left ++ (Refused fault ∷ (given (passed other text fault).stand_ins ++ map (moved_item len) (found_within n (passed one text fault).history (drop len text))))) next.0
        ∙ ap (λ items. left ++ (Refused fault ∷ (given (passed other text fault).stand_ins ++ map (moved_item (passed other text fault).len) items))) (again (passed one text fault).history (passed other text fault).history (drop (passed other text fault).len text) next.2)

alike_found : (one other : History) (text : Text) → Alike one other → found_after one text ≡ found_after other text
unfolding found_after
alike_found one other text alike = alike_within (suc (length text)) one other text alike

-- A text that a line follows, and that line

module _ (history : History) (first second : Text) (line : BeforeLine history first) (plain : begins_plainly second ≡ true) where
  abbrev both : Text
  both = first ++ second

  abbrev n : ℕ
  n = length first

  abbrev own : List Lexeme
  own = without_last_newline (outcome_after history first).lexemes

  join : outcome_after history both ≡ record { lexemes = own ++ map (moved n) (outcome_after nothing second).lexemes; fault = option_map (moved n) (outcome_after nothing second).fault }
  join = cut_joins history first second line plain

  lexemes_are : (outcome_after history both).lexemes ≡ own ++ map (moved n) (outcome_after nothing second).lexemes
  lexemes_are = ap (λ (o : Outcome). o.lexemes) join

  pub fault_is : (has : Option (Spanned Fault)) → (outcome_after nothing second).fault ≡ has → (outcome_after history both).fault ≡ option_map (moved n) has
  fault_is has e = ap (λ (o : Outcome). o.fault) join ∙ ap (option_map (moved n)) e

  given_both : given (outcome_after history both).lexemes ≡ given own ++ map (moved_item n) (given (outcome_after nothing second).lexemes)
  given_both = ap given lexemes_are ∙ given_append own (map (moved n) (outcome_after nothing second).lexemes) ∙ ap (λ items. given own ++ items) (given_moved n (outcome_after nothing second).lexemes)

  -- a fault of the second text with all of its literal
  literal_moved : (fault : Spanned Fault) → (with_literal history both (moved n fault) ≡ moved n (with_literal nothing second fault)) × (closes_literal (read_len history both) both (moved n fault) ≡ closes_literal (read_len nothing second) second fault)
  literal_moved fault = subst (λ m. (with_literal_at m both (moved n fault) ≡ moved n (with_literal nothing second fault)) × (closes_literal m both (moved n fault) ≡ closes_literal (read_len nothing second) second fault)) (sym (joined_read history first second line plain)) (whole_moved (read_len nothing second) first second fault)

  pub whole_joined : (fault : Spanned Fault) → with_literal history both (moved n fault) ≡ moved n (with_literal nothing second fault)
  whole_joined fault = (literal_moved fault).0

  -- what is passed with a fault of the second text
  pub passed_moved : (fault : Spanned Fault) → (outcome_after nothing second).fault ≡ Some fault
      → ((passed history both (moved n fault)).len ≡ n + (passed nothing second fault).len) × ((passed history both (moved n fault)).stand_ins ≡ map (moved n) (passed nothing second fault).stand_ins)
      × Alike (passed history both (moved n fault)).history (passed nothing second fault).history
  passed_moved fault has = by_keeps nothing second fault
      (λ is. rw (passed_kept history both (moved n fault) (keeps_as ∙ is), passed_kept nothing second fault is) (
        ap (passed_end both) (whole_joined fault) ∙ end_moved first second last,
        ap (λ m. stand_ins_at m both (moved n fault)) (joined_read history first second line plain) ∙ stand_ins_moved (read_len nothing second) first second fault,
        past_moved (history_after history both) (history_after nothing second) first second fault alike,
      ))
      (λ is. rw (passed_lost history both (moved n fault) (keeps_as ∙ is), passed_lost nothing second fault is) (
        ap (restart both) (whole_joined fault) ∙ restart_moved first second last last_later,
        refl,
        alike_line (history_after history both) (history_after nothing second) alike,
      ))
    where
      last : Spanned Fault
      last = with_literal nothing second fault

      alike : Alike (history_after history both) (history_after nothing second)
      alike = alike_joined history first second line plain

      later : is_tab fault.node ≡ true → 0 < fault.begin
      later = plain_tab second fault plain has

      last_later : is_tab last.node ≡ true → 0 < last.begin
      last_later tab =
          let same = whole_same (read_len nothing second) second fault in
          let own = later (sym (ap is_tab same.1) ∙ tab) in
          omega (arith, own, same.0)

      keeps_as : stays_open history both (moved n fault) ≡ stays_open nothing second fault
      keeps_as =
          ap (λ keeps. keeps || closes_literal (read_len history both) both (moved n fault) || is_open_quote (mode_after (history_after history both).tokens) both (moved n fault)) (keeps_moved history.before first second fault later (outcome_after history both).lexemes (outcome_after nothing second).lexemes
          (ap (ends_by_comment (n + fault.begin)) lexemes_are
          ∙ comments_after n fault.begin own (outcome_after nothing second).lexemes (no_comment_after history first fault.begin line)))
          ∙ ap (λ closes. keeps_line nothing.before second (outcome_after nothing second).lexemes fault || closes || is_open_quote (mode_after (history_after history both).tokens) both (moved n fault)) (literal_moved fault).1
          ∙ ap (λ quote. keeps_line nothing.before second (outcome_after nothing second).lexemes fault || closes_literal (read_len nothing second) second fault || quote)
          (ap (λ mode. is_open_quote mode both (moved n fault)) (alike_mode (history_after history both) (history_after nothing second) alike) ∙ quote_moved (mode_after (history_after nothing second).tokens) first second fault)

  -- what is found in both
  pub cut_found : found_after history both ≡ given own ++ map (moved_item n) (found_after nothing second)
  cut_found = by (outcome_after nothing second).fault refl
    where
      by : (has : Option (Spanned Fault)) → (outcome_after nothing second).fault ≡ has → found_after history both ≡ given own ++ map (moved_item n) (found_after nothing second)
      by None none =
          faultless_found history both (fault_is None none) ∙ given_both
          ∙ ap (λ items. given own ++ map (moved_item n) items) (sym (faultless_found nothing second none))
      by (Some fault) has =
          let next = passed_moved fault has in
          let past : Passed = passed history both (moved n fault) in
          let len : ℕ = (passed nothing second fault).len in
          let stands : List Lexeme = (passed nothing second fault).stand_ins in
          let left : List Item = given own ++ map (moved_item n) (given (outcome_after nothing second).lexemes) in
          let rest : List Item = found_after (passed nothing second fault).history (drop (passed nothing second fault).len second) in
          let stands_is = next.1 in
          found_after_faults history both (moved n fault) (fault_is (Some fault) has)
          ∙ ap (λ items. items ++ found_from both (moved n fault) past found_after) given_both
          ∙ ap (λ items. left ++ (Refused (moved n fault) ∷ (items ++ map (moved_item past.len) (found_after past.history (drop past.len both))))) (ap given stands_is ∙ given_moved n stands)
          ∙ ap (λ k. left ++ (Refused (moved n fault) ∷ (map (moved_item n) (given stands) ++ map (moved_item k) (found_after past.history (drop k both))))) next.0
          ∙ ap (λ items. left ++ (Refused (moved n fault) ∷ (map (moved_item n) (given stands) ++ items)))
          (ap (λ (t : Text). map (moved_item (n + len)) (found_after past.history t)) (drop-append-add first second len)
          ∙ ap (map (moved_item (n + len))) (alike_found past.history (passed nothing second fault).history (drop len second) next.2)
          ∙ sym (items_twice n len rest))
          ∙ ap (λ items. left ++ (Refused (moved n fault) ∷ items)) (sym (map-append (moved_item n) (given stands) (map (moved_item len) rest)))
          ∙ append_assoc (given own) (map (moved_item n) (given (outcome_after nothing second).lexemes)) (Refused (moved n fault) ∷ map (moved_item n) (given stands ++ map (moved_item len) rest))
          ∙ ap (λ items. given own ++ items) (sym (map-append (moved_item n) (given (outcome_after nothing second).lexemes) (Refused fault ∷ (given stands ++ map (moved_item len) rest))))
          ∙ ap (λ items. given own ++ map (moved_item n) items) (sym (found_after_faults nothing second fault has))

-- Closed texts

-- what is found in a text, and in it and a text after it
record Joined (history : History) (first second : Text) : Type 0 where
  newline : has_newline (lexemes_in (found_after history first)) ≡ true
  same : parted (found_after history (first ++ second)) ≡ recovered_joined (length first) (parted (found_after history first)) (parted (found_after nothing second))

module _ (second : Text) (plain : begins_plainly second ≡ true) where
  line_joined : (history : History) (first : Text) → BeforeLine history first → Joined history first second
  unfolding in_front moved_recovered
  line_joined history first line = record {
    newline = ap (λ (r : Recovered). has_newline r.lexemes) alone ∙ outcome_newline history first none;
    same =
        ap parted (cut_found history first second line plain)
        ∙ parted_front (without_last_newline (outcome_after history first).lexemes) (map (moved_item (length first)) (found_after nothing second))
        ∙ ap (in_front (without_last_newline (outcome_after history first).lexemes)) (parted_moved (length first) (found_after nothing second))
        ∙ sym (ap (λ (r : Recovered). recovered_joined (length first) r (parted (found_after nothing second))) alone);
  }
    where
      none : (outcome_after history first).fault ≡ None
      none = before_faultless history first line

      alone : parted (found_after history first) ≡ record { lexemes = (outcome_after history first).lexemes; faults = [] }
      alone = ap parted (faultless_found history first none) ∙ parted_given (outcome_after history first).lexemes

  past_joined : (history : History) (first : Text) (fault : Spanned Fault) → (outcome_after history first).fault ≡ Some fault → is_decided first (with_literal history first fault) ≡ true
      → Joined (passed history first fault).history (drop (passed history first fault).len first) second → Joined history first second
  unfolding with_fault in_front moved_recovered
  past_joined history first fault has is after = record {
    newline = ap (λ (r : Recovered). has_newline r.lexemes) alone ∙ has_newline_later left (stands ++ map (moved at) (lexemes_in one)) newline_after;
    same =
        ap parted whole ∙ parted_fault left fault (given stands ++ map (moved_item at) two)
        ∙ ap (with_fault left fault) (parted_front stands (map (moved_item at) two) ∙ ap (in_front stands) (parted_moved at two ∙ ap (moved_recovered at) same ∙ moved_joined at (length (drop at first)) (parted one) (parted (found_after nothing second))
        ∙ ap (λ len. recovered_joined len (moved_recovered at (parted one)) (parted (found_after nothing second))) total)
        ∙ front_joined stands (length first) (moved_recovered at (parted one)) (parted (found_after nothing second)) (has_newline_moved at (lexemes_in one) ∙ newline))
        ∙ fault_joined left fault (length first) (in_front stands (moved_recovered at (parted one))) (parted (found_after nothing second)) newline_after
        ∙ sym (ap (λ (r : Recovered). recovered_joined (length first) r (parted (found_after nothing second))) alone);
  }
    where
      next : Passed
      next = passed history first fault

      at : ℕ
      at = (passed history first fault).len

      stands : List Lexeme
      stands = (passed history first fault).stand_ins

      left : List Lexeme
      left = (outcome_after history first).lexemes

      one : List Item
      one = found_after (passed history first fault).history (drop (passed history first fault).len first)

      two : List Item
      two = found_after (passed history first fault).history (drop (passed history first fault).len first ++ second)

      newline : has_newline (lexemes_in one) ≡ true
      newline = after.newline

      newline_after : has_newline (stands ++ map (moved at) (lexemes_in one)) ≡ true
      newline_after = has_newline_later stands (map (moved at) (lexemes_in one)) (has_newline_moved at (lexemes_in one) ∙ newline)

      same : parted two ≡ recovered_joined (length (drop at first)) (parted one) (parted (found_after nothing second))
      same = after.same

      inside : at ≤ length first
      inside = (passed_bounds history first fault has).1

      total : at + length (drop at first) ≡ length first
      total = omega (arith, inside, length-drop at first)

      alone : parted (found_after history first) ≡ with_fault left fault (in_front stands (moved_recovered at (parted one)))
      alone =
          ap parted (found_after_faults history first fault has) ∙ parted_fault left fault (given stands ++ map (moved_item at) one)
          ∙ ap (with_fault left fault) (parted_front stands (map (moved_item at) one) ∙ ap (in_front stands) (parted_moved at one))

      whole : found_after history (first ++ second) ≡ given left ++ (Refused fault ∷ (given stands ++ map (moved_item at) two))
      whole =
          let stays = passed_stays history first second fault has is in
          found_after_faults history (first ++ second) fault (has_both history first second fault has is)
          ∙ ap (λ (p : Passed). given (outcome_after history (first ++ second)).lexemes ++ found_from (first ++ second) fault p found_after) stays
          ∙ ap (λ (o : Outcome). given o.lexemes ++ found_from (first ++ second) fault (passed history first fault) found_after) (same_outcome history first second fault has is).0
          ∙ ap (λ (t : Text). given left ++ (Refused fault ∷ (given stands ++ map (moved_item at) (found_after (passed history first fault).history t)))) (drop-append-le at first second inside)

  closed_joined : (history : History) (first : Text) → IsClosedAfter history first → Joined history first second
  closed_joined _ _ (Empty widths) = line_joined (at_line widths) [] (AtLine widths)
  closed_joined _ _ (Cut history first cut) = line_joined history first (AfterCut history first cut)
  closed_joined _ _ (Past history first fault has is rest) =
      past_joined history first fault has is (closed_joined (passed history first fault).history (drop (passed history first fault).len first) rest)

pub found_joins : FoundJoins
unfolding found
found_joins first second closed plain = (closed_joined second plain nothing first closed).same
