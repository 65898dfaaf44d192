-- The answers of a lexer that goes on after faults.
use Rattle.std.proofs.Common.{◌≡◌, ◌≤◌, ◌<◌, ◌+◌, ◌||◌, ◌&&◌, ◌==◌, ℕ, zero, suc, Bool, true, false, List, [], ◌∷◌, ◌++◌, map, length, drop, take, refl, ap, sym, subst, ◌∙◌, arith, rules, Ok, Err, None, Some, IfSome, slice_get}
use Rattle.std.proofs.lemmas.Bool.{eq-eqb, ne_eqb}
use Rattle.std.proofs.lemmas.List.{drop-map, take_all}
use Rattle.std.proofs.lemmas.Str.{IsCharBoundary-from_rest, IsCharBoundary-start}
use Rattle.std.specs.Option.{option_map}
use Rattle.std.specs.Prelude.{◌^◌, if◌then◌else◌, Option, Result, option_to_list}
use Rattle.std.specs.Str.{IsCharBoundary, IsUtf8}
use Rattle.starlark_base.specs.Diagnostics.{Diagnosed}
use Rattle.starlark_base.specs.Sources.{SourceFile}
use Rattle.starlark_grammar.specs.Found as items
use Rattle.starlark_grammar.specs.Found.{Item, moved_item}
use Rattle.starlark_grammar.specs.KeptLines.{ends_by_comment, is_comment_to}
use Rattle.starlark_grammar.specs.Tokens as grammar
use Rattle.starlark_grammar.specs.Tokens.{Fault, Lexeme, Spanned, moved}
use Rattle.starlark_grammar.specs.Words.{Text}
use Rattle.starlark_reader.specs.Inner.Reader.{IsRaw, IsSomething, Origin, Start, begin_of, history_before}
use Rattle.starlark_errors.specs.Exceptions.{IsException}
use Rattle.starlark_lexemes.specs.Inner.LexerStates as lexing
use Rattle.starlark_lexemes.specs.Inner.LexerStates.{Course, HasFound, IsBegun, IsLexing, IsLexingIn, StateView, course_of, whole}
use Rattle.starlark_lexemes.specs.Inner.RawItems.{OffsetsHold}
use Rattle.starlark_recovery.specs.Inner.RecoveryStates.{HasPassedOn, HasReadBefore, IsAdvanced, IsLeftOf, IsOnward, IsPart, IsPlacedIn, IsRecovering, IsStopped, Waits, after_faults, is_comment, is_end, items_since, last_comment, left_of, part_of, view_of}
use Rattle.starlark_lexemes.specs.Lexer.{AnswersNext, is_ended_by, yielded_by}
use Rattle.starlark_recovery.specs.RecoveringLexer.{AreReadsOn, HasReadOn, IsNextOf, RecoveringView, all_items, shown_item}
use Rattle.starlark_errors.specs.declared.error.kinds.ErrorKind.{ErrorKind}
use Rattle.starlark_lexemes.specs.declared.lexer_state.LexerState.{LexerState}
use Rattle.starlark_recovery.specs.declared.recovery_state.RecoveryState.{RecoveryState}
use Rattle.starlark_lexemes.proofs.LexerStates.{lexing_read_in, or_false}
use Rattle.starlark_recovery.proofs.RecoveredItems.{after_fault, all_moved_by_none, items_are, items_past, no_lexemes, past_given, past_stands, tail_none, tail_of, tail_some}
use Rattle.starlark_recovery.proofs.PartRests.{RestFault, rest_fault}
use Rattle.starlark_recovery.proofs.RecoveryStates.{is_start, on_reads, part_begins, part_len, start_items, start_lexing}
use Rattle.starlark_text.specs.declared.or_memory.OrMemory.{OrMemory}
use Rattle.starlark_text.specs.declared.or_memory.OrMemory.TheVariants.{Error, Memory}
use Rattle.starlark_token.specs.Lexemes.{IsWithin, lexeme_view, shown, shown_lexeme}
use Rattle.starlark_token.specs.TextItems.{Given, LexerItem, Refused}
use Rattle.starlark_token.specs.TokenViews.{TokenView, Whole, token_view}
use Rattle.starlark_token.specs.declared.lexeme_error.LexemeError.{LexemeError}
use Rattle.starlark_token.specs.declared.tokens.Token.{Token}
use Rattle.starlark_words.specs.Inner.Reads.{more_reads}

-- views whose parts are the same
pub views : (text whole : Text) (file : SourceFile) (left more : List LexerItem) (n m : ℕ) (ended other : Bool) (reads all : ℕ) → text ≡ whole → left ≡ more → n ≡ m → ended ≡ other → reads ≡ all
    → ◌≡◌ {A = RecoveringView} (record { text = text; code_map = file; left = left; fault_count = n; has_ended = ended; reads = reads }) (record { text = whole; code_map = file; left = more; fault_count = m; has_ended = other; reads = all })
views text whole file left more n m ended other reads all t l c e r = rw (t, l, c, e, r) refl

-- where nothing stands for the last fault any more
pub no_waits : (state : RecoveryState) → state.stand_in ≡ None → Waits state
no_waits state none = rw none tt

-- The start of a text

module _ (new : RecoveryState) (utf8 : IsUtf8 new.text.now) (fits : length new.text.now < 2 ^ 32) (start : new.begin ≡ 0)
    (begun : IsBegun new.text.now new.state) (lexing : IsLexing (whole new.state.reader.text.now) new.state) (count : new.fault_count ≡ 0) (comment : new.comment ≡ None) (earlier : new.earlier_reads ≡ 0)
    (none : new.stand_in ≡ None) (stood : new.stand_in_count ≡ 0) where
  part : part_of new ≡ new.text.now
  part = ap (λ n. drop n new.text.now) start

  own : new.state.reader.text.now ≡ part_of new
  own = ap (λ (v : StateView). v.text) begun.view ∙ sym part

  yielded : new.state.yielded_count ≡ 0
  yielded = ap (λ (v : StateView). v.yielded_count) begun.view

  ended : new.state.has_ended ≡ false
  ended = ap (λ (v : StateView). v.has_ended) begun.view

  goes_on : IsLexingIn (course_of Start (part_of new)) (part_of new) new.state
  goes_on = start_lexing (part_of new) new.state own lexing

  told : IsLeftOf new Start
  told = ([], rw (count, part, start) (sym (ap (map (moved_item 0)) (start_items new.text.now) ∙ all_moved_by_none (items.found new.text.now))), omega (arith, stood), rw (none, stood) refl)

  pub recovering_start : IsRecovering new
  recovering_start = record {
    is_part = record { fits = fits; utf8 = utf8; boundary = subst (IsCharBoundary new.text.now) (sym start) (IsCharBoundary-start new.text.now utf8); own = own };
    lexing = (course_of Start (part_of new), goes_on);
    onward = λ goes. record {
      origin = Start;
      rest = is_start new.begin (part_of new);
      lexing = goes_on;
      left = told;
      comment = λ at. ap (λ n. ends_by_comment at (take n (course_of Start (part_of new)).lexemes)) yielded ∙ sym (ap (λ n. is_end None n at) yielded) ∙ sym (ap (λ last. is_end last new.state.yielded_count at) comment);
      earlier = rw comment tt;
      reads = record { few = omega (arith, count); first = λ h. start; least = omega (arith, count); most = omega (arith, earlier) };
    };
    waits = no_waits new none;
  }

  pub left_start : left_of new ≡ all_items new.text.now
  unfolding all_items
  left_start = rw (ended, stood, yielded, count) refl

-- One lexeme

record LexemeAt (lexemes : List Lexeme) (k : ℕ) (x : Spanned TokenView) : Type 0 where
  pub lexeme : Lexeme
  pub more : List Lexeme
  pub left : drop k lexemes ≡ lexeme ∷ more
  pub rest : drop (k + 1) lexemes ≡ more
  pub first : take (k + 1) lexemes ≡ take k lexemes ++ lexeme ∷ []
  pub shows : shown_lexeme lexeme ≡ x

lexeme_at : (lexemes : List Lexeme) (k : ℕ) (x : Spanned TokenView) (more : List (Spanned TokenView)) → drop k (map shown_lexeme lexemes) ≡ x ∷ more → LexemeAt lexemes k x
lexeme_at (lexeme ∷ lexemes) zero x more is = record { lexeme = lexeme; more = lexemes; left = refl; rest = refl; first = refl; shows = (cc) }
lexeme_at (lexeme ∷ lexemes) (suc k) x more is =
    let inner = lexeme_at lexemes k x more is in
    let next : suc k + 1 ≡ suc (k + 1) = omega arith in
    search rules
lexeme_at [] zero x more is = cc
lexeme_at [] (suc k) x more is = cc

-- the last of some lexemes
ends_last : (at : ℕ) (lexemes : List Lexeme) (lexeme : Lexeme) → ends_by_comment at (lexemes ++ lexeme ∷ []) ≡ is_comment_to at lexeme
ends_last at (first ∷ second ∷ lexemes) lexeme = ends_last at (second ∷ lexemes) lexeme
ends_last at lexemes lexeme = refl

-- a comment before the last lexeme is not the last
not_last : (comment : Option (ℕ × ℕ)) (k at : ℕ) → IfSome comment (λ comment. comment.0 ≤ k) → is_end comment (k + 1) at ≡ false
not_last None k at before = refl
not_last (Some comment) k at before = ap (λ b. b && comment.1 == at) (ne_eqb comment.0 (k + 1) (λ same. absurd (omega (arith, before, same))))

-- the code sees the same comments
comment_shown : (before : Option (ℕ × ℕ)) (k at begin : ℕ) (node : grammar.Token) (end : ℕ) → IfSome before (λ comment. comment.0 ≤ k)
    → is_end (last_comment (Whole (shown node)) (k + 1) end before) (k + 1) at ≡ is_comment_to at (record { begin = begin; node = node; end = end })
comment_shown before k at begin (grammar.Comment text) end less = ap (λ b. b && end == at) (eq-eqb (k + 1) (k + 1) refl)
comment_shown before k at begin node end less = not_last before k at less

-- what is recorded was yielded
recorded : (is_comment : Bool) (before : Option (ℕ × ℕ)) (k end : ℕ) → IfSome before (λ comment. comment.0 ≤ k) → IfSome (if is_comment then Some (k + 1, end) else before) (λ comment. comment.0 ≤ k + 1)
recorded true before k end less = omega arith
recorded false None k end less = tt
recorded false (Some comment) k end less = omega (arith, less)

-- What is left before an answer

left_ended : (old : RecoveryState) → old.state.has_ended ≡ true → left_of old ≡ []
left_ended old ended = rw ended refl

-- the items of the part that are left
left_in_part : (old : RecoveryState) → old.stand_in ≡ None → (onward : IsOnward old) → (k : ℕ) → drop (old.stand_in_count + k) (after_faults old.fault_count (items.found old.text.now)) ≡ map (moved_item old.begin) (drop k (items_since onward.origin (part_of old)))
left_in_part old none onward k =
    let left = onward.left in
    let passed : drop old.stand_in_count (map shown_lexeme left.0) ≡ [] = drop-map shown_lexeme old.stand_in_count left.0 ∙ sym left.3 ∙ ap (λ (s : Option (ℕ × Token × ℕ)). option_to_list (option_map lexeme_view s)) none in
    ap (drop (old.stand_in_count + k)) left.1 ∙ past_stands old.stand_in_count k left.0 (map (moved_item old.begin) (items_since onward.origin (part_of old))) left.2 passed
    ∙ drop-map (moved_item old.begin) k (items_since onward.origin (part_of old))

left_goes : (old : RecoveryState) → old.state.has_ended ≡ false → old.stand_in ≡ None → (onward : IsOnward old)
    → left_of old ≡ map shown_item (map (moved_item old.begin) (items.given (drop old.state.yielded_count (course_of onward.origin (part_of old)).lexemes) ++ tail_of onward.origin (part_of old)))
left_goes old goes none onward =
    let few = (onward.lexing.1 goes).0 in
    rw goes (
    ap (map shown_item) (left_in_part old none onward old.state.yielded_count)
    ∙ ap (λ items. map shown_item (map (moved_item old.begin) items))
    (ap (λ items. drop old.state.yielded_count items) (items_are onward.origin (part_of old)) ∙ past_given old.state.yielded_count (course_of onward.origin (part_of old)).lexemes (tail_of onward.origin (part_of old)) few)
    )

-- a lexer that answers something hasn't ended
pub some_goes : {A : Type 0} {x : A} (b : Bool) → (b ≡ true → ◌≡◌ {A = Option A} (Some x) None) → b ≡ false
some_goes true none = let wrong = none refl in cc
some_goes false none = refl

-- an offset of the part, in the text
pub text_boundary : (old : RecoveryState) (is : IsPart old) (at : ℕ) → IsCharBoundary (part_of old) at → IsCharBoundary old.text.now (old.begin + at)
text_boundary old is at boundary = IsCharBoundary-from_rest old.text.now old.begin at (part_begins old is) boundary

-- what lies in the part lies in the text
pub text_within : (old : RecoveryState) (is : IsPart old) (from to : ℕ) → IsWithin (part_of old) from to → IsWithin old.text.now (old.begin + from) (old.begin + to)
text_within old is from to within =
    (omega (arith, within.0), omega (arith, within.1, part_len old is, part_begins old is), is.fits)

-- the reads of a state that goes on
reads_now : (old : RecoveryState) (is : IsPart old) (course : Course) (state : LexerState) → IsLexingIn course (part_of old) state → state.has_ended ≡ false → (to n : ℕ) → to ≤ length (part_of old) → HasReadBefore old.begin to n old.earlier_reads
    → AreReadsOn old.text.now n (more_reads old.earlier_reads state.reader.reads)
reads_now old is course state lexing going to n inside before =
    on_reads old.text.now old.begin to n old.earlier_reads state.reader.reads (omega (arith, inside, part_len old is, part_begins old is)) is.fits before (omega (arith, lexing_read_in (part_of old) state lexing going, part_len old is))

-- An item was found

module _ (old : RecoveryState) (is : IsRecovering old) (state : LexerState) (item : Option (Result (ℕ × Token × ℕ) (OrMemory (ℕ × LexemeError × ℕ)))) (on : IsAdvanced old item (record old { state = state })) where
  pub part_on : (comment : Option (ℕ × ℕ)) → IsPart (record old { state = state; comment = comment })
  part_on comment = let before = is.is_part in record { fits = before.fits; utf8 = before.utf8; boundary = before.boundary; own = on.own }

  pub lexing_on : (course : Course) × IsLexingIn course (part_of old) state
  lexing_on = (is.lexing.0, on.lexing is.lexing.0 is.lexing.1)

-- Nothing is left

module _ (old : RecoveryState) (is : IsRecovering old) (state : LexerState) (on : IsAdvanced old None (record old { state = state })) where
  same_count : state.yielded_count ≡ old.state.yielded_count
  same_count = omega (arith, on.count)

  same_end : state.has_ended ≡ old.state.has_ended
  same_end = on.ends ∙ or_false old.state.has_ended

  none_left : left_of old ≡ []
  none_left = by old.state.has_ended refl
    where
      by : (b : Bool) → old.state.has_ended ≡ b → left_of old ≡ []
      by true e = left_ended old e
      by false e =
          let onward = is.onward e in
          let course = course_of onward.origin (part_of old) in
          let none = on.found e course onward.lexing in
          left_goes old e on.none onward
          ∙ ap (λ l. map shown_item (map (moved_item old.begin) l)) (ap (λ ls. items.given ls ++ tail_of onward.origin (part_of old)) (no_lexemes course.lexemes old.state.yielded_count none.0) ∙ tail_none onward.origin (part_of old) none.1)

  onward_same : IsOnward old → IsOnward (record old { state = state })
  onward_same onward = record {
    origin = onward.origin;
    rest = onward.rest;
    lexing = on.lexing (course_of onward.origin (part_of old)) onward.lexing;
    left = onward.left;
    comment = λ at. rw same_count (onward.comment at);
    earlier = subst (λ n. IfSome old.comment (λ comment. comment.0 ≤ n)) (sym same_count) onward.earlier;
    reads = onward.reads;
  }

  pub nothing_recovering : IsRecovering (record old { state = state })
  nothing_recovering = record {
    is_part = part_on old is state None on old.comment;
    lexing = lexing_on old is state None on;
    onward = λ goes. onward_same (is.onward (sym same_end ∙ goes));
    waits = no_waits (record old { state = state }) on.none;
  }

  nothing_reads : old.state.has_ended ≡ false → HasReadOn old.text.now old.fault_count None (more_reads old.earlier_reads state.reader.reads)
  nothing_reads goes =
      let onward = is.onward goes in
      let course = course_of onward.origin (part_of old) in
      let found = on.found goes course onward.lexing in
      let reads = reads_now old is.is_part course state (on.lexing course onward.lexing) (same_end ∙ goes) (begin_of onward.origin) old.fault_count onward.rest.inside onward.reads in
      (reads, λ none. (omega (arith, onward.reads.first none, found.2, part_len old is.is_part, is.is_part.fits)))

  pub nothing_next : IsNextOf (view_of old) None (view_of (record old { state = state }))
  nothing_next =
      let same : left_of (record old { state = state }) ≡ left_of old = rw (same_end, same_count) refl in
      record {
        item = subst (λ (l : List LexerItem). AnswersNext old.code_map (slice_get l 0) None) (sym none_left) tt;
        within = tt;
        between = tt;
        after = views old.text.now old.text.now old.code_map _ _ old.fault_count (old.fault_count + 0) state.has_ended (old.state.has_ended || false) _ _ refl (same ∙ none_left ∙ sym (ap (λ (l : List LexerItem). drop 1 l) none_left)) (omega arith) on.ends refl;
        reads = λ goes. subst (λ n. HasReadOn old.text.now n None (more_reads old.earlier_reads state.reader.reads)) refl (nothing_reads goes);
      }

-- A lexeme is next

module _ (old : RecoveryState) (is : IsRecovering old) (state : LexerState) (from : ℕ) (token : Token) (to : ℕ) (going : old.state.has_ended ≡ false) (on : IsAdvanced old (Some (Ok (from, token, to))) (record old { state = state }))
    (last : Option (ℕ × ℕ)) (comment : last ≡ last_comment (token_view token) state.yielded_count to old.comment) where
  abbrev past : RecoveryState
  past = record old { state = state; comment = last }

  abbrev onward : IsOnward old
  onward = is.onward going

  abbrev course : Course
  course = course_of onward.origin (part_of old)

  given : HasFound course (part_of old) old.state (Some (Ok (from, token, to))) state
  given = on.found going course onward.lexing

  goes_on_past : IsLexingIn course (part_of old) state
  goes_on_past = on.lexing course onward.lexing

  goes : state.has_ended ≡ false
  goes = on.ends ∙ or_false old.state.has_ended ∙ going

  at : LexemeAt course.lexemes old.state.yielded_count (lexeme_view (from, token, to))
  at = lexeme_at course.lexemes old.state.yielded_count (lexeme_view (from, token, to)) given.0 given.1

  abbrev onward_past : IsOnward past
  onward_past = record {
    origin = onward.origin;
    rest = onward.rest;
    lexing = goes_on_past;
    left = onward.left;
    comment = λ place.
        ap (λ n. ends_by_comment place (take n course.lexemes)) on.count
        ∙ ap (ends_by_comment place) at.first ∙ ends_last place (take old.state.yielded_count course.lexemes) at.lexeme
        ∙ sym (comment_shown old.comment old.state.yielded_count place at.lexeme.begin at.lexeme.node at.lexeme.end onward.earlier)
        ∙ ap (λ (x : Spanned TokenView). is_end (last_comment x.node (old.state.yielded_count + 1) x.end old.comment) (old.state.yielded_count + 1) place) at.shows
        ∙ sym (ap (λ n. is_end (last_comment (token_view token) n to old.comment) n place) on.count)
        ∙ sym (ap (λ c. is_end c state.yielded_count place) comment);
    earlier = subst (λ c. IfSome c (λ comment. comment.0 ≤ state.yielded_count)) (sym comment)
        (subst (λ n. IfSome (last_comment (token_view token) n to old.comment) (λ comment. comment.0 ≤ n)) (sym on.count) (recorded (is_comment (token_view token)) old.comment old.state.yielded_count to onward.earlier));
    reads = onward.reads;
  }

  -- the items of such lexemes, with what is after them
  abbrev items_by : List Lexeme → List LexerItem
  items_by lexemes = map shown_item (map (moved_item old.begin) (items.given lexemes ++ tail_of onward.origin (part_of old)))

  left_is : left_of old ≡ Given (moved old.begin (lexeme_view (from, token, to))) ∷ left_of past
  left_is =
      left_goes old going on.none onward ∙ ap items_by at.left ∙ ap (λ (x : Spanned TokenView). Given (moved old.begin x) ∷ items_by at.more) at.shows
      ∙ ap (λ l. Given (moved old.begin (lexeme_view (from, token, to))) ∷ l) (ap items_by (sym at.rest ∙ ap (λ n. drop n course.lexemes) (sym on.count)) ∙ sym (left_goes past goes on.none onward_past))

  pub lexeme_recovering : IsRecovering past
  lexeme_recovering = record { is_part = part_on old is state _ on last; lexing = lexing_on old is state _ on; onward = λ going. onward_past; waits = no_waits past on.none }

  pub lexeme_next : IsNextOf (view_of old) (Some (Ok (old.begin + from, token, old.begin + to))) (view_of past)
  lexeme_next =
      let same : left_of past ≡ drop 1 (left_of old) = sym (ap (λ (l : List LexerItem). drop 1 l) left_is) in
      record {
        item = subst (λ (l : List LexerItem). AnswersNext old.code_map (slice_get l 0) (Some (Ok (old.begin + from, token, old.begin + to)))) (sym left_is) refl;
        within = text_within old is.is_part from to on.within;
        between = (text_boundary old is.is_part from on.between.0, text_boundary old is.is_part to on.between.1);
        after = views old.text.now old.text.now old.code_map _ _ old.fault_count (old.fault_count + 0) state.has_ended (old.state.has_ended || false) _ _ refl same (omega arith) on.ends refl;
        reads = λ now. (reads_now old is.is_part course state goes_on_past goes (begin_of onward.origin) old.fault_count onward.rest.inside onward.reads);
      }

-- Out of memory is in the place of an item

some_left : (origin : Origin) (text : Text) (k : ℕ) → IsSomething (drop k (map shown_lexeme (course_of origin text).lexemes)) (course_of origin text).fault
    → (item : Item) × (more : List Item) × (items.given (drop k (course_of origin text).lexemes) ++ tail_of origin text ≡ item ∷ more)
some_left origin text k some = by (drop k (course_of origin text).lexemes) (drop-map shown_lexeme k (course_of origin text).lexemes) (course_of origin text).fault refl
  where
    by : (left : List Lexeme) → drop k (map shown_lexeme (course_of origin text).lexemes) ≡ map shown_lexeme left → (fault : Option (Spanned Fault)) → (course_of origin text).fault ≡ fault
        → (item : Item) × (more : List Item) × (items.given left ++ tail_of origin text ≡ item ∷ more)
    by (lexeme ∷ more) e fault f = (_, _, refl)
    by [] e (Some fault) f = (_, _, tail_some origin text fault (rest_fault origin text fault f))
    by [] e None f = absurd (some e f)

-- what is left has a first item, which out of memory answers
memory_item : (file : SourceFile) (left : List LexerItem) (item : LexerItem) (more : List LexerItem) → left ≡ item ∷ more → AnswersNext file (slice_get left 0) (Some (Err Memory))
memory_item file left item more is = subst (λ (l : List LexerItem). AnswersNext file (slice_get l 0) (Some (Err Memory))) (sym is) tt

module _ (old : RecoveryState) (is : IsRecovering old) (state : LexerState) (going : old.state.has_ended ≡ false) (on : IsAdvanced old (Some (Err Memory)) (record old { state = state })) where
  has_ended : state.has_ended ≡ true
  has_ended = on.ends ∙ ap (λ b. b || true) going

  pub memory_recovering : IsRecovering (record old { state = state })
  memory_recovering = record { is_part = part_on old is state _ on old.comment; lexing = lexing_on old is state _ on; onward = λ goes. let both : true ≡ false = sym has_ended ∙ goes in cc; waits = no_waits (record old { state = state }) on.none }

  pub memory_next : IsNextOf (view_of old) (Some (Err Memory)) (view_of (record old { state = state }))
  memory_next =
      let onward = is.onward going in
      let some = some_left onward.origin (part_of old) old.state.yielded_count (on.found going (course_of onward.origin (part_of old)) onward.lexing) in
      let left = left_goes old going on.none onward ∙ ap (λ items. map shown_item (map (moved_item old.begin) items)) some.2 in
      record {
        item = memory_item old.code_map (left_of old) _ _ left;
        within = tt;
        between = tt;
        after = views old.text.now old.text.now old.code_map _ [] old.fault_count (old.fault_count + 0) state.has_ended (old.state.has_ended || true) _ _ refl (left_ended (record old { state = state }) has_ended) (omega arith) on.ends refl;
        reads = λ goes. tt;
      }

-- the span of a fault's exception is the fault's
span_has : (P : ℕ → ℕ → Type 0) (file : SourceFile) (fault : Spanned Fault) (exception : Diagnosed ErrorKind) → IsException file fault exception → P fault.begin fault.end → IfSome exception.span (λ place. P place.span.begin place.span.end)
span_has P file fault exception is one = subst (λ (d : Diagnosed ErrorKind). IfSome d.span (λ place. P place.span.begin place.span.end)) (sym is.2) one

-- A fault is next

module _ (old : RecoveryState) (is : IsRecovering old) (state : LexerState) (raw : ℕ × LexemeError × ℕ) (going : old.state.has_ended ≡ false) (on : IsAdvanced old (Some (Err (Error raw))) (record old { state = state })) where
  abbrev pub at_fault : RecoveryState
  at_fault = record old { state = state }

  abbrev pub before : IsOnward old
  before = is.onward going

  abbrev pub course_now : Course
  course_now = course_of before.origin (part_of old)

  abbrev pub reached : HasFound course_now (part_of old) old.state (Some (Err (Error raw))) state
  reached = on.found going course_now before.lexing

  all_counted : length course_now.lexemes ≡ old.state.yielded_count
  all_counted = omega (arith, reached.2.counted, on.count)

  all_taken : take old.state.yielded_count course_now.lexemes ≡ course_now.lexemes
  all_taken = take_all old.state.yielded_count course_now.lexemes (omega (arith, all_counted))

  in_rest : RestFault before.origin (part_of old) reached.0
  in_rest = rest_fault before.origin (part_of old) reached.0 reached.2.has

  -- what is left after it
  abbrev items_then : List LexerItem
  items_then = map shown_item (map (moved_item old.begin) (items_past before.origin (part_of old) (items.passed (history_before before.origin) (drop (begin_of before.origin) (part_of old)) in_rest.inner)))

  pub stopped_here : IsStopped at_fault reached.0
  stopped_here =
      let raw_is = reached.4 in
      record {
        is_part = part_on old is state _ on old.comment;
        lexing = lexing_on old is state _ on;
        origin = before.origin;
        rest = before.rest;
        here = reached.2;
        ended = on.ends ∙ ap (λ b. b || true) going;
        none = on.none;
        left = before.left;
        comment = λ at. ap (ends_by_comment at) (sym all_taken) ∙ before.comment at ∙ ap (λ n. is_end old.comment n at) (sym all_counted);
        reads = before.reads;
        paid = reached.3;
        within = subst (λ n. IsWithin (part_of old) n reached.0.end) raw_is.0 (subst (λ n. IsWithin (part_of old) raw.0 n) raw_is.2 on.within);
        begins = subst (IsCharBoundary (part_of old)) raw_is.0 on.between.0;
        ends = subst (IsCharBoundary (part_of old)) raw_is.2 on.between.1;
      }

  fault_left : left_of old ≡ Refused (moved old.begin reached.0) ∷ items_then
  fault_left =
      left_goes old going on.none before
      ∙ ap (λ l. map shown_item (map (moved_item old.begin) l)) (ap (λ ls. items.given ls ++ tail_of before.origin (part_of old)) (no_lexemes course_now.lexemes old.state.yielded_count reached.1) ∙ tail_some before.origin (part_of old) reached.0 in_rest)

  left_after_fault : (new : RecoveryState) → new.state.has_ended ≡ false → new.state.yielded_count ≡ 0 → new.stand_in_count ≡ 0 → new.fault_count ≡ old.fault_count + 1 → new.text ≡ old.text → left_of new ≡ drop 1 (left_of old)
  left_after_fault new goes none stood count text =
      let left = before.left in
      rw (goes, none, stood, count, text) (ap (map shown_item) (after_fault old.fault_count old.begin before.origin (part_of old) (items.found old.text.now) left.0 in_rest.inner left.1 in_rest.has)) ∙ sym (ap (λ (l : List LexerItem). drop 1 l) fault_left)

  fault_edges : IsCharBoundary old.text.now (old.begin + reached.0.begin) × IsCharBoundary old.text.now (old.begin + reached.0.end)
  fault_edges = (text_boundary old is.is_part reached.0.begin stopped_here.begins, text_boundary old is.is_part reached.0.end stopped_here.ends)

  pub fault_next : (result : OrMemory (Diagnosed ErrorKind)) (new : RecoveryState) → HasPassedOn at_fault reached.0 result new → IsRecovering new × IsNextOf (view_of old) (Some (Err result)) (view_of new)
  fault_next (Error exception) new passed = (
    passed.0,
    record {
      item = subst (λ (l : List LexerItem). AnswersNext old.code_map (slice_get l 0) (Some (Err (Error exception)))) (sym fault_left) passed.2;
      within = span_has (IsWithin old.text.now) old.code_map (moved old.begin reached.0) exception passed.2 (text_within old is.is_part reached.0.begin reached.0.end stopped_here.within);
      between = span_has (λ from to. IsCharBoundary old.text.now from × IsCharBoundary old.text.now to) old.code_map (moved old.begin reached.0) exception passed.2 fault_edges;
      after = ap (λ (f : SourceFile). record { text = new.text.now; code_map = f; left = left_of new; fault_count = new.fault_count; has_ended = new.state.has_ended; reads = (view_of new).reads }) passed.7
          ∙ views new.text.now old.text.now old.code_map (left_of new) (drop 1 (left_of old)) new.fault_count (old.fault_count + 1) new.state.has_ended (old.state.has_ended || false) (view_of new).reads (view_of new).reads
          (ap (λ t. t.now) passed.6) (left_after_fault new passed.1 passed.3 passed.4 passed.5 passed.6) passed.5 (passed.1 ∙ sym (or_false old.state.has_ended ∙ going)) refl;
      reads = λ goes. passed.8;
    },
  )
  fault_next Memory new passed = (
    passed.0,
    record {
      item = memory_item old.code_map (left_of old) _ _ fault_left;
      within = tt;
      between = tt;
      after = ap (λ (f : SourceFile). record { text = new.text.now; code_map = f; left = left_of new; fault_count = new.fault_count; has_ended = new.state.has_ended; reads = (view_of new).reads }) passed.4
          ∙ views new.text.now old.text.now old.code_map (left_of new) [] new.fault_count (old.fault_count + 0) new.state.has_ended (old.state.has_ended || true) (view_of new).reads (view_of new).reads
          (ap (λ t. t.now) passed.3) (left_ended new passed.1) (passed.2 ∙ (let none : old.fault_count ≡ old.fault_count + 0 = omega arith in none)) (passed.1 ∙ sym (ap (λ b. b || true) going)) refl;
      reads = λ goes. tt;
    },
  )

  -- the same, by what a call promises of the state that stopped at the fault
  pub fault_on : (stands : RecoveryState) → stands ≡ at_fault → (result : OrMemory (Diagnosed ErrorKind)) (new : RecoveryState) → ((fault : Spanned Fault) → IsStopped stands fault → IsRaw fault raw → HasPassedOn stands fault result new)
      → IsRecovering new × IsNextOf (view_of old) (Some (Err result)) (view_of new)
  fault_on stands same result new passes =
      fault_next result new
      (subst (λ (m : RecoveryState). HasPassedOn m reached.0 result new) same (passes reached.0 (subst (λ (m : RecoveryState). IsStopped m reached.0) (sym same) stopped_here) reached.4))

-- An item is found

pub advanced : (old : RecoveryState) → IsRecovering old → old.stand_in ≡ None → (item : Option (Result (ℕ × Token × ℕ) (OrMemory (ℕ × LexemeError × ℕ)))) (state : LexerState)
    → (old.state.has_ended ≡ true → (item ≡ None) × (state ≡ old.state))
    → (old.state.has_ended ≡ false → (course : Course) → IsLexing course old.state → HasFound course old.state.reader.text.now old.state item state)
    → ((course : Course) → IsLexing course old.state → IsLexing course state)
    → OffsetsHold (IsWithin old.state.reader.text.now) item
    → OffsetsHold (λ from to. IsCharBoundary old.state.reader.text.now from × IsCharBoundary old.state.reader.text.now to) item
    → lexing.view_of state ≡ record (lexing.view_of old.state) { yielded_count = old.state.yielded_count + yielded_by item; has_ended = old.state.has_ended || is_ended_by item; reads = state.reader.reads }
    → IsAdvanced old item (record old { state = state })
advanced old is none item state ended found lexing within between after =
    let own = is.is_part.own in
    let text : state.reader.text.now ≡ old.state.reader.text.now = ap (λ (v : StateView). v.text) after in
    record {
      recovering = is;
      none = none;
      ended = λ on. ((ended on).0, ap (λ (s : LexerState). s.reader.reads) (ended on).1);
      found = λ goes course now. subst (λ (t : Text). HasFound course t old.state item state) own (found goes course (subst (λ (t : Text). IsLexingIn course t old.state) (sym own) now));
      lexing = λ course now. subst (λ (t : Text). IsLexingIn course t state) (text ∙ own) (lexing course (subst (λ (t : Text). IsLexingIn course t old.state) (sym own) now));
      within = subst (λ (t : Text). OffsetsHold (IsWithin t) item) own within;
      between = subst (λ (t : Text). OffsetsHold (λ from to. IsCharBoundary t from × IsCharBoundary t to) item) own between;
      count = ap (λ (v : StateView). v.yielded_count) after;
      ends = ap (λ (v : StateView). v.has_ended) after;
      own = text ∙ own;
      after = refl;
    }

-- a state that lexes what its reader has
pub lexing_here : (old : RecoveryState) → IsRecovering old → (course : Course) × IsLexing course old.state
lexing_here old is = (is.lexing.0, subst (λ (t : Text). IsLexingIn is.lexing.0 t old.state) (sym is.is_part.own) is.lexing.1)

-- What stands for the last fault is next

module _ (old : RecoveryState) (is : IsRecovering old) (lexeme : ℕ × Token × ℕ) (some : old.stand_in ≡ Some lexeme) where
  abbrev stood : RecoveryState
  stood = record old { stand_in = None; stand_in_count = 1 }

  waiting : (old.state.has_ended ≡ false) × (old.state.yielded_count ≡ 0) × (old.stand_in_count ≡ 0) × IsPlacedIn old.text.now lexeme
  waiting = rw some at is.waits

  goes_still : old.state.has_ended ≡ false
  goes_still = waiting.0

  abbrev onward_now : IsOnward old
  onward_now = is.onward goes_still

  abbrev later_items : List Item
  later_items = map (moved_item old.begin) (items_since onward_now.origin (part_of old))

  first_of : (stands : List Lexeme) → option_to_list (option_map lexeme_view (Some lexeme)) ≡ map shown_lexeme stands → (first : Lexeme) × (stands ≡ first ∷ []) × (shown_lexeme first ≡ lexeme_view lexeme)
  first_of [] e = cc
  first_of (first ∷ []) e = (first, refl, cc)
  first_of (first ∷ second ∷ stands) e = cc

  alone : (first : Lexeme) × (onward_now.left.0 ≡ first ∷ []) × (shown_lexeme first ≡ lexeme_view lexeme)
  alone =
      first_of onward_now.left.0
      (ap (λ (s : Option (ℕ × Token × ℕ)). option_to_list (option_map lexeme_view s)) (sym some) ∙ onward_now.left.3 ∙ ap (λ n. map shown_lexeme (drop n onward_now.left.0)) waiting.2)

  -- what is left after so many items
  left_at : (n : ℕ) → (if old.state.has_ended then [] else map shown_item (drop (n + old.state.yielded_count) (after_faults old.fault_count (items.found old.text.now)))) ≡ map shown_item (drop n (after_faults old.fault_count (items.found old.text.now)))
  left_at n =
      let all : List Item = after_faults old.fault_count (items.found old.text.now) in
      let none : n + old.state.yielded_count ≡ n = omega (arith, waiting.1) in
      ap (λ (ended : Bool). if ended then [] else map shown_item (drop (n + old.state.yielded_count) all)) goes_still ∙ ap (λ k. map shown_item (drop k all)) none

  items_now : after_faults old.fault_count (items.found old.text.now) ≡ items.given (alone.0 ∷ []) ++ later_items
  items_now = let one = alone.1 in onward_now.left.1 ∙ ap (λ ls. items.given ls ++ later_items) one

  left_now : left_of old ≡ Given (lexeme_view lexeme) ∷ map shown_item later_items
  left_now =
      let shows = alone.2 in
      left_at old.stand_in_count ∙ ap (λ n. map shown_item (drop n (after_faults old.fault_count (items.found old.text.now)))) waiting.2
      ∙ ap (map shown_item) items_now ∙ ap (λ (x : Spanned TokenView). Given x ∷ map shown_item later_items) shows

  left_then : left_of stood ≡ map shown_item later_items
  left_then = left_at 1 ∙ ap (λ (l : List Item). map shown_item (drop 1 l)) items_now

  onward_then : IsOnward stood
  onward_then = record {
    origin = onward_now.origin;
    rest = onward_now.rest;
    lexing = onward_now.lexing;
    left = (alone.0 ∷ [], items_now, omega arith, refl);
    comment = onward_now.comment;
    earlier = onward_now.earlier;
    reads = onward_now.reads;
  }

  pub stood_recovering : IsRecovering stood
  stood_recovering = record { is_part = let part = is.is_part in record { fits = part.fits; utf8 = part.utf8; boundary = part.boundary; own = part.own }; lexing = is.lexing; onward = λ goes. onward_then; waits = tt }

  pub stood_next : IsNextOf (view_of old) (Some (Ok lexeme)) (view_of stood)
  stood_next =
      let placed = waiting.3 in
      record {
        item = subst (λ (l : List LexerItem). AnswersNext old.code_map (slice_get l 0) (Some (Ok lexeme))) (sym left_now) refl;
        within = placed.0;
        between = (placed.1, placed.2);
        after = views old.text.now old.text.now old.code_map _ _ old.fault_count (old.fault_count + 0) old.state.has_ended (old.state.has_ended || false) _ _ refl (left_then ∙ sym (ap (λ (l : List LexerItem). drop 1 l) left_now)) (omega arith) (sym (or_false old.state.has_ended)) refl;
        reads = λ now. reads_now old is.is_part (course_of onward_now.origin (part_of old)) old.state onward_now.lexing goes_still (begin_of onward_now.origin) old.fault_count onward_now.rest.inside onward_now.reads;
      }
