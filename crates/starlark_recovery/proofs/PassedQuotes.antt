-- Open quotes that are passed: the part that begins at their line end.
use Rattle.std.proofs.Common.{◌≡◌, ◌≤◌, ◌<◌, ◌+◌, ◌-◌, ℕ, true, false, List, [], ◌∷◌, ◌++◌, map, length, drop, take, refl, ap, sym, subst, ◌∙◌, arith, None, Some, IfSome, inr}
use Rattle.std.proofs.lemmas.Bool.{eqb-true}
use Rattle.std.proofs.lemmas.Bool.Decides.{nat_tests}
use Rattle.std.proofs.lemmas.List.{length-drop, length-take-le}
use Rattle.std.proofs.lemmas.Str.{IsCharBoundary-from_rest, IsCharBoundary-start, IsUtf8-drop}
use Rattle.std.specs.Prelude.{◌^◌, ◌||◌, Bool, Option, nat_eq, nat_lt}
use Rattle.std.specs.Str.{IsCharBoundary, IsUtf8}
use Rattle.starlark_base.specs.Diagnostics.{Diagnosed}
use Rattle.starlark_errors.specs.Exceptions.{IsException}
use Rattle.starlark_errors.specs.declared.error.kinds.ErrorKind.{ErrorKind}
use Rattle.starlark_grammar.specs.Depths.{mode_after, is_outside}
use Rattle.starlark_grammar.specs.Found.{Item, Passed, found, found_after, given, moved_item, passed}
use Rattle.starlark_grammar.specs.KeptLines.{ends_by_comment, is_open_quote, is_unfinished, passed_end, with_literal}
use Rattle.starlark_grammar.specs.Margins.{begins_with_line_end, open_widths}
use Rattle.starlark_grammar.specs.Reading.{History, history_after, read_len}
use Rattle.starlark_grammar.specs.StandIns.{stand_ins, stand_ins_at}
use Rattle.starlark_grammar.specs.Tokens.{Fault, Lexeme, Spanned, moved}
use Rattle.starlark_grammar.specs.Words.{Text, begins}
use Rattle.starlark_grammar.proofs.Found.FoundItems.{passed_kept}
use Rattle.starlark_grammar.proofs.KeptLines.KeptFaultPlaces.{quote_other}
use Rattle.starlark_grammar.proofs.KeptLines.LiteralRests.{whole_other}
use Rattle.starlark_grammar.proofs.KeptLines.OpenQuotes.{QuotePlace, past_fault, quote_parts, quote_place}
use Rattle.starlark_grammar.proofs.Lists.{drop-sum}
use Rattle.starlark_lexemes.specs.Inner.LexerStates.{IsCourse, IsLexingIn, IsQuoteOf, course_of, course_quoted}
use Rattle.starlark_lexemes.specs.declared.lexer_state.LexerState.{LexerState}
use Rattle.starlark_reader.specs.Inner.Nesting.{bracket_count}
use Rattle.starlark_reader.specs.Inner.Reader.{From, IsStateAfter, Origin, begin_of, history_before, history_since, quoted_history}
use Rattle.starlark_recovery.specs.Inner.RecoveryStates.{HasPassedOn, HasReadBefore, IsLeftOf, IsOnward, IsPart, IsPlacedIn, IsRest, IsStopped, StandsFor, Waits, after_faults, is_open_here, items_since, part_of}
use Rattle.starlark_recovery.specs.declared.recovery_state.RecoveryState.{RecoveryState}
use Rattle.starlark_recovery.proofs.PartRests.{is_course, stands_literal}
use Rattle.starlark_recovery.proofs.RecoveredItems.{all_moved_by_none, all_moved_twice, items_past, lexemes_moved}
use Rattle.starlark_recovery.proofs.RecoveryStates.{in_rest, later, left_past, node_is, on_reads, open_is, part_begins, part_fits, part_len, stands_moved, stays_is, widths_before}
use Rattle.starlark_text.specs.declared.or_memory.OrMemory.TheVariants.{Error}
use Rattle.starlark_token.specs.Lexemes.{shown_lexeme}
use Rattle.starlark_token.specs.declared.tokens.Token.{Token}
use Rattle.starlark_words.specs.Inner.Reads.{more_reads}

-- whether an offset of a part is before its end, in the text
pub before_end : (begin end : ℕ) (text : Text) → begin ≤ length text → nat_lt (begin + end) (length text) ≡ nat_lt end (length (drop begin text))
before_end begin end text inside = by (length text) (length (drop begin text)) (length-drop begin text) inside
  where
    by : (n m : ℕ) → m ≡ n - begin → begin ≤ n → nat_lt (begin + end) n ≡ nat_lt end m
    by n m is inside = grind (arith, nat_tests, is, inside)

-- an LF is a line end
feed_begins : (text : Text) → begins (nat_eq 10) text ≡ true → begins_with_line_end text ≡ true
feed_begins [] feed = cc
feed_begins (b ∷ bs) feed = let same : 10 ≡ b = eqb-true 10 b feed in subst (λ c. begins_with_line_end (c ∷ bs) ≡ true) same refl

-- the same passed
same_passed : {len len' : ℕ} {stands : List Lexeme} {past past' : History} → len ≡ len' → past ≡ past' → ◌≡◌ {A = Passed} (record { len = len; stand_ins = stands; history = past }) (record { len = len'; stand_ins = stands; history = past' })
same_passed l p = rw (l, p) refl

module _ (old : RecoveryState) (fault : Spanned Fault) (stopped : IsStopped old fault) where
  abbrev origin : Origin
  origin = stopped.origin

  abbrev part : Text
  part = part_of old

  abbrev at : ℕ
  at = begin_of origin

  abbrev history : History
  history = history_before origin

  abbrev rest : Text
  rest = drop at part

  abbrev before : History
  before = history_since origin part

  -- the reader stores what is open before an unfinished literal
  pub stored : is_unfinished fault.node ≡ true → IsStateAfter origin part before old.state.reader
  stored is = stopped.here.stores.whole (stands_literal is_unfinished refl refl origin part fault stopped.here.has is)

  module _ (cut : is_open_here old origin fault ≡ true) where
    abbrev inner : Spanned Fault
    inner = (in_rest old fault stopped).inner

    same : moved at inner ≡ fault
    same = (in_rest old fault stopped).same

    cut_rest : is_open_quote (mode_after (history_after history rest).tokens) rest inner ≡ true
    cut_rest = sym (open_is old fault stopped (mode_after before.tokens)) ∙ cut

    parts : (is_unfinished fault.node ≡ true) × (is_outside (mode_after before.tokens) ≡ true) × (fault.end < length part)
    parts = quote_parts (mode_after before.tokens) part fault cut

    unfinished_rest : is_unfinished inner.node ≡ true
    unfinished_rest = ap is_unfinished (node_is old fault stopped) ∙ parts.0

    place : QuotePlace history rest inner
    place = quote_place history rest inner (in_rest old fault stopped).has cut_rest

    begin : at + inner.begin ≡ fault.begin
    begin = ap (λ (f : Spanned Fault). f.begin) same

    end : at + inner.end ≡ fault.end
    end = ap (λ (f : Spanned Fault). f.end) same

    pub some : fault.begin < fault.end
    some = let bytes = place.some in omega (arith, bytes, begin, end)

    -- its bytes, and the text from its line end on
    abbrev pub quote : Text
    quote = take (fault.end - fault.begin) (drop fault.begin part)

    abbrev pub next_at : ℕ
    next_at = old.begin + fault.end

    abbrev pub next : Text
    next = drop next_at old.text.now

    pub next_is : drop fault.end part ≡ next
    next_is = sym (drop-sum old.begin fault.end old.text.now)

    next_inside : next_at < length old.text.now
    next_inside = omega (arith, parts.2, part_len old stopped.is_part, part_begins old stopped.is_part)

    next_len : length next ≡ length part - fault.end
    next_len = sym (ap (λ (t : Text). length t) next_is) ∙ length-drop fault.end part

    pub next_boundary : IsCharBoundary old.text.now next_at
    next_boundary = IsCharBoundary-from_rest old.text.now old.begin fault.end (part_begins old stopped.is_part) stopped.ends

    next_utf8 : IsUtf8 next
    next_utf8 = IsUtf8-drop old.text.now next_at stopped.is_part.utf8 next_boundary

    pub is_quote : IsQuoteOf (course_of origin part) part fault quote next
    is_quote = record {
      order = stopped.within.0;
      inside = stopped.within.1;
      quote_len = length-take-le (fault.end - fault.begin) (drop fault.begin part) (omega (arith, length-drop fault.begin part, stopped.within.1));
      rest_len = next_len;
      standing = stands_literal is_unfinished refl refl origin part fault stopped.here.has parts.0;
    }

    -- what is open there
    abbrev pub quoted : History
    quoted = quoted_history before quote

    abbrev pub again : Origin
    again = From quoted 0

    -- the brackets so far, and those to come, can be counted
    pub quote_room : bracket_count old.state.reader.nesting + length quote + length next < 2 ^ 33
    quote_room = let state = stored parts.0 in omega (arith, state.few, stopped.here.before, is_quote.order, is_quote.inside, is_quote.quote_len, is_quote.rest_len)

    line : begins_with_line_end next ≡ true
    line =
        let there : drop inner.end rest ≡ next = sym (drop-sum at inner.end part) ∙ ap (λ n. drop n part) end ∙ next_is in
        feed_begins next (ap (begins (nat_eq 10)) (sym there) ∙ place.feed)

    widths : length (open_widths quoted.widths) ≤ next_at
    widths = let few = widths_before old fault stopped in omega (arith, few, some)

    some_bytes : (found : Option (Spanned Fault)) → IfSome found (λ later. 0 < length next)
    some_bytes None = tt
    some_bytes (Some later) = omega (arith, next_len, parts.2)

    is_next : IsRest next_at next again
    is_next = record { begun = (inr (refl, line), refl); inside = omega arith; widths = omega (arith, widths); fault = some_bytes (course_of again next).fault }

    pub course_next : IsCourse (course_of again next) next
    course_next = is_course again next (IsCharBoundary-start next next_utf8) next_utf8 (omega (arith, widths, next_inside, stopped.is_part.fits)) (omega (arith, next_len, part_fits old stopped.is_part))

    -- the lexer of the code goes on there
    pub lexing_on : (state : LexerState) (bytes text : Text) → bytes ≡ quote → text ≡ next
        → (IsQuoteOf (course_of origin part) part fault bytes text → IsCourse (course_quoted (course_of origin part) part bytes text) text → IsLexingIn (course_quoted (course_of origin part) part bytes text) text state) → IsLexingIn (course_of again next) next state
    lexing_on state bytes text of_quote of_next lexes =
        let one = subst (λ (q : Text). IsQuoteOf (course_of origin part) part fault q text → IsCourse (course_quoted (course_of origin part) part q text) text → IsLexingIn (course_quoted (course_of origin part) part q text) text state) of_quote lexes in
        let two = subst (λ (t : Text). IsQuoteOf (course_of origin part) part fault quote t → IsCourse (course_quoted (course_of origin part) part quote t) t → IsLexingIn (course_quoted (course_of origin part) part quote t) t state) of_next one in
        two is_quote course_next

    -- what is passed with it
    literal : with_literal history rest inner ≡ inner
    literal = whole_other (read_len history rest) rest inner (quote_other inner.node unfinished_rest).0

    end_is : passed_end rest (with_literal history rest inner) ≡ inner.end
    end_is = ap (passed_end rest) literal ∙ rw (quote_other inner.node unfinished_rest).1 refl

    bytes_are : take (inner.end - inner.begin) (drop inner.begin rest) ≡ quote
    bytes_are =
        let len : inner.end - inner.begin ≡ fault.end - fault.begin = omega (arith, begin, end) in
        ap (λ n. take n (drop inner.begin rest)) len ∙ ap (take (fault.end - fault.begin)) (sym (drop-sum at inner.begin part) ∙ ap (λ n. drop n part) begin)

    past_is : past_fault (history_after history rest) rest inner ≡ quoted
    past_is = rw (cut_rest, bytes_are) refl

    passed_is : passed history rest inner ≡ record { len = inner.end; stand_ins = stand_ins history rest inner; history = quoted }
    passed_is =
        passed_kept history rest inner (sym (stays_is old fault stopped) ∙ or_true _ cut)
        ∙ same_passed end_is past_is
      where
        or_true : (test : Bool) {other : Bool} → other ≡ true → (test || other) ≡ true
        or_true true e = refl
        or_true false e = e

    -- what stands for it, in the part
    stands_here : stand_ins_at old.state.reader.at part fault ≡ map (moved at) (stand_ins history rest inner)
    stands_here =
        let place : old.state.reader.at ≡ at + read_len history rest = stopped.here.stores.at is_quote.standing in
        ap (λ n. stand_ins_at n part fault) place ∙ ap (stand_ins_at (at + read_len history rest) part) (sym same) ∙ stands_moved old fault stopped (read_len history rest)

    abbrev stands : List Lexeme
    stands = map (moved old.begin) (map (moved at) (stand_ins history rest inner))

    items_next : after_faults (old.fault_count + 1) (found old.text.now) ≡ given stands ++ map (moved_item next_at) (items_since again next)
    items_next =
        left_past old fault stopped
        ∙ ap (λ (p : Passed). map (moved_item old.begin) (items_past origin part p)) passed_is
        ∙ lexemes_moved old.begin (map (moved at) (stand_ins history rest inner)) (map (moved_item (at + inner.end)) (found_after quoted (drop (at + inner.end) part)))
        ∙ ap (λ (items : List Item). given stands ++ items)
        (ap (λ n. map (moved_item old.begin) (map (moved_item n) (found_after quoted (drop n part)))) end
        ∙ ap (λ (t : Text). map (moved_item old.begin) (map (moved_item fault.end) (found_after quoted t))) next_is
        ∙ all_moved_twice old.begin fault.end (found_after quoted next)
        ∙ ap (map (moved_item next_at)) (sym (all_moved_by_none (found_after quoted next))))

    module _ (state : LexerState) (earlier : ℕ) (own : state.reader.text.now ≡ next) (lexing : IsLexingIn (course_of again next) next state) (count : state.yielded_count ≡ 0) (going : state.has_ended ≡ false) (unread : state.reader.reads ≡ 0)
        (reads : earlier ≡ more_reads old.earlier_reads (more_reads old.state.reader.reads (fault.end - fault.begin + 5))) (stand_in : Option (ℕ × Token × ℕ)) (it : StandsFor old fault stand_in) where
      abbrev on : RecoveryState
      on = record old { begin = next_at; state = state; comment = None; stand_in = stand_in; stand_in_count = 0; fault_count = old.fault_count + 1; earlier_reads = earlier }

      part_on : IsPart on
      part_on = let is = stopped.is_part in record { fits = is.fits; utf8 = is.utf8; boundary = next_boundary; own = own }

      reads_on : HasReadBefore next_at 0 (old.fault_count + 1) earlier
      reads_on =
          let so_far = stopped.reads in
          let few = stopped.here.leaves.2 parts.0 in
          let start = later old fault stopped in
          record {
            few = omega (arith, so_far.few, start.0, some);
            first = λ none. absurd (omega (arith, none));
            least = omega (arith, so_far.least, so_far.few, start.0, some, reads, next_inside, stopped.is_part.fits);
            most = omega (arith, so_far.most, few, reads, some);
          }

      left_on : IsLeftOf on again
      left_on = (stands, items_next, omega arith, it.views ∙ ap (λ ls. map shown_lexeme (map (moved old.begin) ls)) stands_here)

      waits_on : Waits on
      waits_on = by stand_in it.placed
        where
          by : (stand_in : Option (ℕ × Token × ℕ)) → IfSome stand_in (IsPlacedIn old.text.now) → IfSome stand_in (λ lexeme. (state.has_ended ≡ false) × (state.yielded_count ≡ 0) × (◌≡◌ {A = ℕ} 0 0) × IsPlacedIn old.text.now lexeme)
          by None placed = tt
          by (Some lexeme) placed = (going, count, refl, placed)

      onward_on : IsOnward on
      onward_on = record {
        origin = again;
        rest = is_next;
        lexing = lexing;
        left = left_on;
        comment = λ at. ap (λ n. ends_by_comment at (take n (course_of again next).lexemes)) count;
        earlier = tt;
        reads = reads_on;
      }

      pub quote_on : (exception : Diagnosed ErrorKind) → IsException old.code_map (moved old.begin fault) exception → HasPassedOn old fault (Error exception) on
      quote_on exception throws = (
        record { is_part = part_on; lexing = (course_of again next, lexing); onward = λ goes. onward_on; waits = waits_on },
        going,
        throws,
        count,
        refl,
        refl,
        refl,
        refl,
        on_reads old.text.now next_at 0 (old.fault_count + 1) earlier state.reader.reads (omega (arith, next_inside)) stopped.is_part.fits reads_on (omega (arith, unread)),
      )
