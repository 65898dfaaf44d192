-- What a step passes, and what is taken of it.
use Rattle.std.proofs.Common.{◌≡◌, ◌≢◌, ◌≤◌, ◌<◌, ◌+◌, ◌-◌, ◌^◌, ◌∷◌, ◌||◌, Bool, true, false, ℕ, List, [], Option, Some, None, Ok, Err, ap, arith, drop, length, refl, subst, sym, take, ◌∙◌}
use Rattle.std.specs.Prelude.{Result}
use Rattle.std.specs.Option.{is_some}
use Rattle.std.specs.Str.{IsCharBoundary}
use Rattle.starlark_base.specs.Diagnostics.{Diagnosed}
use Rattle.starlark_base.specs.Sources.{SourceFile}
use Rattle.starlark_grammar.specs.Tokens as grammar
use Rattle.starlark_grammar.specs.Tokens.{Fault, Spanned}
use Rattle.starlark_grammar.specs.Words.{Text}
use Rattle.starlark_grammar.proofs.Lists.{drop-sum}
use Rattle.starlark_reader.specs.Inner.Reader.{IsAhead, IsAheadAfter, IsAheadPast, IsSomething, Origin, fstring_text_lexeme, name_lexeme, newline_if, text_lexeme}
use Rattle.starlark_reader.specs.declared.reader.Reader.{Reader}
use Rattle.starlark_reader.specs.declared.reader.Stage.TheVariants as stages
use Rattle.starlark_reader.proofs.TakenPieces.PieceTaken.{left_onward}
use Rattle.starlark_lexemes.specs.Inner.LexerStates.{Course, IsCourse, HasAdvanced, HasAnswered, HasPassed, HasPassedAs, HasPassedNext, IsItemOf, IsLexing, IsTakenAs, IsTakenOf, StateView, is_out_of_memory, item_of, known_cut, left_in, lexer_view, made_view, passed_count, passed_of, valueless, view_of}
use Rattle.starlark_lexemes.specs.Lexer.{is_ended_by, most_reads, yielded_by}
use Rattle.starlark_lexemes.specs.PlainLexemes.{IsPlainIn, closing_len, is_plain, plain_token, plain_value, plain_view, token_of}
use Rattle.starlark_errors.specs.declared.error.kinds.ErrorKind.{ErrorKind}
use Rattle.starlark_lexemes.proofs.LexerItems.{course_between}
use Rattle.starlark_lexemes.proofs.LexerStates.{IsSameText, answers_within, lexing_read, or_true}
use Rattle.starlark_lexemes.specs.declared.lexer_state.LexerState.{LexerState}
use Rattle.starlark_lexemes.specs.declared.passed.Kind.{Kind}
use Rattle.starlark_lexemes.specs.declared.passed.Kind.TheVariants as kind
use Rattle.starlark_lexemes.specs.declared.passed.Passed.{Passed}
use Rattle.starlark_text.specs.declared.or_memory.OrMemory.{OrMemory}
use Rattle.starlark_token.specs.Lexemes.{lexeme_view}
use Rattle.starlark_token.specs.TokenViews.{TokenView, Whole, token_view}
use Rattle.starlark_token.specs.declared.tokens.Token.{Token}

-- a plain lexeme whose four offsets are in order, at character boundaries
pub plain_inside : (text : Text) (it : Kind) (begin end value_begin value_end : ℕ) → is_plain it ≡ true → length text < 2 ^ 32 → begin ≤ end → value_begin ≤ value_end → IsCharBoundary text begin → IsCharBoundary text end → IsCharBoundary text value_begin → IsCharBoundary text value_end
    → value_end + closing_len it ≡ end
    → IsPlainIn text (record { kind = it; begin = begin; end = end; value_begin = value_begin; value_end = value_end })
plain_inside text it begin end value_begin value_end plain short order value first last from to closes = record {
  kind = plain;
  lexeme = (order, last.0, short);
  value = (value, to.0, short);
  begin = first;
  end = last;
  value_begin = from;
  value_end = to;
  closes = closes;
}

-- the offset of a reader in code is a character boundary
pub reader_boundary : {origin : Origin} → (text : Text) (reader : Reader) (lexemes : List (Spanned TokenView)) (fault : Option (Spanned Fault)) → reader.stage ≡ stages.Onward → IsAhead origin text reader reader.stage lexemes fault → IsCharBoundary text reader.at
reader_boundary text reader lexemes fault on ahead = (left_onward text reader lexemes fault on ahead).is_left.1.boundary

pub name_shown : (text : Text) (at len end : ℕ) → end ≡ at + len → name_lexeme text at len ≡ plain_view text (record { kind = kind.Identifier; begin = at; end = end; value_begin = at; value_end = end })
name_shown text at len end is =
    let count : len ≡ end - at = omega (arith, is) in
    ap (λ n. record { begin = at; node = Whole (grammar.Identifier (take n (drop at text))); end = at + len }) count ∙ ap (λ n. record { begin = at; node = Whole (grammar.Identifier (take (end - at) (drop at text))); end = n }) (sym is)

pub string_shown : (text : Text) (at mid len body end : ℕ) → mid ≡ at → end ≡ mid + (len + body + 1) → text_lexeme text mid len body ≡ plain_view text (record { kind = kind.String; begin = at; end = end; value_begin = at + len; value_end = end - 1 })
string_shown text at mid len body end same is =
    let count : body ≡ end - 1 - (at + len) = omega (arith, is, same) in
    let last : at + (len + body + 1) ≡ end = omega (arith, is, same) in
    ap (λ n. text_lexeme text n len body) same
    ∙ ap (λ (t : Text). record { begin = at; node = Whole (grammar.String (take body t)); end = at + (len + body + 1) }) (sym (drop-sum at len text))
    ∙ ap (λ n. record { begin = at; node = Whole (grammar.String (take n (drop (at + len) text))); end = at + (len + body + 1) }) count
    ∙ ap (λ n. record { begin = at; node = Whole (grammar.String (take (end - 1 - (at + len)) (drop (at + len) text))); end = n }) last

pub fstring_text_shown : (text : Text) (at len : ℕ) → fstring_text_lexeme text at len ≡ plain_view text (record { kind = kind.FStringText; begin = at; end = at + len; value_begin = at; value_end = at + len })
fstring_text_shown text at len = let count : len ≡ at + len - at = omega (arith) in ap (λ n. record { begin = at; node = Whole (grammar.FStringText (take n (drop at text))); end = at + len }) count

-- where a lexeme was passed, something was left
pub past_something : {origin : Origin} → (text : Text) (lexeme : Spanned TokenView) (reader : Reader) (lexemes : List (Spanned TokenView)) (fault : Option (Spanned Fault)) → IsAheadPast origin text lexeme reader lexemes fault → IsSomething lexemes fault
past_something text lexeme reader lexemes fault past none whole = let both : lexeme ∷ past.0 ≡ [] = sym past.1 ∙ none in cc

-- a plain kind, of which it isn't known which
pub plain_passes : (course : Course) (old : LexerState) (it : Kind) (passed : Passed) (new : LexerState) → is_plain it ≡ true → IsPlainIn old.reader.text.now passed × IsAheadPast course.origin old.reader.text.now (plain_view old.reader.text.now passed) new.reader (left_in course old) course.fault → HasPassedAs course old it passed new
plain_passes course old kind.Made passed new plain is = cc
plain_passes course old kind.Layout passed new plain is = cc
plain_passes course old kind.Last passed new plain is = cc
plain_passes course old kind.OutOfMemory passed new plain is = cc
plain_passes course old it passed new plain is = is

pub passed_plain : (course : Course) (old : LexerState) (it : Kind) (passed : Passed) (new : LexerState) → is_plain it ≡ true → HasPassedAs course old it passed new → IsPlainIn old.reader.text.now passed × IsAheadPast course.origin old.reader.text.now (plain_view old.reader.text.now passed) new.reader (left_in course old) course.fault
passed_plain course old kind.Made passed new plain is = cc
passed_plain course old kind.Layout passed new plain is = cc
passed_plain course old kind.Last passed new plain is = cc
passed_plain course old kind.OutOfMemory passed new plain is = cc
passed_plain course old it passed new plain is = is

-- it is one lexeme
pub plain_counts : (it : Kind) → is_plain it ≡ true → (passed_count it ≡ 1) × (is_out_of_memory it ≡ false)
plain_counts kind.Made plain = (refl, refl)
plain_counts kind.Layout plain = cc
plain_counts kind.Last plain = cc
plain_counts kind.OutOfMemory plain = cc
plain_counts it plain = (refl, refl)

pub plain_advances : {course : Course} → (old : LexerState) (it : Kind) (new : LexerState) → is_plain it ≡ true → HasPassedNext course old (passed_of new it) new → HasAdvanced course old it new
plain_advances old kind.Layout new plain is = cc
plain_advances old it new plain is = is

-- what was passed is no layout
pub next_advances : {course : Course} → (old : LexerState) (it : Kind) (new : LexerState) → HasPassedNext course old (passed_of new it) new → HasAdvanced course old it new
next_advances old kind.Layout new is = absurd is.passed
next_advances old it new is = is

pub advances_next : (course : Course) (old : LexerState) (it : Kind) (new : LexerState) → it ≢ kind.Layout → HasAdvanced course old it new → HasPassedNext course old (passed_of new it) new
advances_next course old kind.Layout new other is = absurd (other refl)
advances_next course old it new other is = is

-- the token of a plain lexeme is taken
takes_plain : (old : LexerState) (it : Kind) (passed : Passed) (token : Token) (new : LexerState) → is_plain it ≡ true → (token_view token ≡ Whole (plain_token old.reader.text.now passed)) × (new ≡ old) → IsTakenAs old it passed (Ok token) new
takes_plain old kind.Made passed token new plain is = cc
takes_plain old kind.Layout passed token new plain is = cc
takes_plain old kind.Last passed token new plain is = cc
takes_plain old kind.OutOfMemory passed token new plain is = cc
takes_plain old it passed token new plain is = is

pub taken_plain : (old : LexerState) (it : Kind) (passed : Passed) (token : Token) (new : LexerState) → passed.kind ≡ it → is_plain it ≡ true → token_view token ≡ Whole (token_of it (plain_value old.reader.text.now passed)) → new ≡ old → IsTakenOf old passed (Ok token) new
taken_plain old it passed token new same plain is stays =
    subst (λ (k : Kind). IsTakenAs old k passed (Ok token) new) (sym same) (takes_plain old it passed token new plain (is ∙ ap (λ (k : Kind). Whole (token_of k (plain_value old.reader.text.now passed))) (sym same), stays))

-- what is taken of what was passed is an answer
taken_answer : (course : Course) (old mid : LexerState) (it : Kind) (passed : Passed) (taken : Result Token Kind) (new : LexerState) → HasPassedAs course old it passed mid → mid.reader.text.now ≡ old.reader.text.now → IsTakenAs mid it passed taken new → HasAnswered course old (item_of passed taken) new
taken_answer course old mid kind.Made passed (Ok token) new is text taken =
    rw taken.1 (subst (λ (t : Token). IsAheadPast course.origin old.reader.text.now (made_view passed t) mid.reader (left_in course old) course.fault) (sym taken.0) is)
taken_answer course old mid kind.Made passed (Err e) new is text taken = absurd taken
taken_answer course old mid kind.Layout passed taken new is text taken' = absurd is
taken_answer course old mid kind.Last passed (Ok token) new is text taken = absurd taken
taken_answer course old mid kind.Last passed (Err e) new is text taken = rw (taken.0, taken.1) is
taken_answer course old mid kind.OutOfMemory passed (Ok token) new is text taken = absurd taken
taken_answer course old mid kind.OutOfMemory passed (Err e) new is text taken = rw taken.0 is
taken_answer course old mid it passed (Ok token) new is text taken =
    rw taken.1 (subst (λ (view : Spanned TokenView). IsAheadPast course.origin old.reader.text.now view mid.reader (left_in course old) course.fault) (ap (λ (view : TokenView). record { begin = passed.begin; node = view; end = passed.end }) (ap (λ (t : Text). Whole (plain_token t passed)) (sym text) ∙ sym taken.0)) is.1)
taken_answer course old mid it passed (Err e) new is text taken = rw taken.0 (past_something old.reader.text.now (plain_view old.reader.text.now passed) mid.reader (left_in course old) course.fault is.1)

pub item_answers : (course : Course) (old mid : LexerState) (passed : Passed) (answer : Option (Result (ℕ × Token × ℕ) (OrMemory (Diagnosed ErrorKind)))) (new : LexerState) → HasPassed course old passed mid → mid.reader.text.now ≡ old.reader.text.now → IsItemOf mid passed answer new → HasAnswered course old answer new
item_answers course old mid passed answer new is text taken = rw taken.2 (taken_answer course old mid passed.kind passed taken.0 new is text taken.1)

-- so the lexer goes on
taken_lexing : {course : Course} → (mid : LexerState) (it : Kind) (passed : Passed) (taken : Result Token Kind) (new : LexerState) → IsLexing course mid → IsTakenAs mid it passed taken new → IsLexing course new
taken_lexing mid kind.Made passed (Ok token) new lexing taken = rw taken.1 lexing
taken_lexing mid kind.Made passed (Err e) new lexing taken = absurd taken
taken_lexing mid kind.Layout passed (Ok token) new lexing taken = absurd taken
taken_lexing mid kind.Layout passed (Err e) new lexing taken = rw taken.1 lexing
taken_lexing mid kind.Last passed (Ok token) new lexing taken = absurd taken
taken_lexing mid kind.Last passed (Err e) new lexing taken = rw taken.1 lexing
taken_lexing mid kind.OutOfMemory passed (Ok token) new lexing taken = absurd taken
taken_lexing mid kind.OutOfMemory passed (Err e) new lexing taken = rw taken.1 lexing
taken_lexing mid it passed (Ok token) new lexing taken = rw taken.1 lexing
taken_lexing mid it passed (Err e) new lexing taken = rw taken.1 (lexing.0, (λ on. cc), (λ yes. cc), (λ on. cc), (λ yes. cc))

pub item_lexing : {course : Course} → (mid : LexerState) (passed : Passed) (answer : Option (Result (ℕ × Token × ℕ) (OrMemory (Diagnosed ErrorKind)))) (new : LexerState) → IsLexing course mid → IsItemOf mid passed answer new → IsLexing course new
item_lexing mid passed answer new lexing taken = taken_lexing mid passed.kind passed taken.0 new lexing taken.1

-- and is as users see it
taken_view : (old mid : LexerState) (it : Kind) (passed : Passed) (taken : Result Token Kind) (new : LexerState)
    → view_of mid ≡ record (view_of old) { yielded_count = old.yielded_count + passed_count it; has_ended = old.has_ended || is_out_of_memory it; reads = mid.reader.reads } → IsTakenAs mid it passed taken new
    → view_of new ≡ record (view_of old) { yielded_count = old.yielded_count + yielded_by (item_of passed taken); has_ended = old.has_ended || is_ended_by (item_of passed taken); reads = new.reader.reads }
taken_view old mid kind.Made passed (Ok token) new after taken = rw taken.1 after
taken_view old mid kind.Made passed (Err e) new after taken = absurd taken
taken_view old mid kind.Layout passed (Ok token) new after taken = absurd taken
taken_view old mid kind.Layout passed (Err e) new after taken = rw (taken.0, taken.1) after
taken_view old mid kind.Last passed (Ok token) new after taken = absurd taken
taken_view old mid kind.Last passed (Err e) new after taken = rw (taken.0, taken.1) after
taken_view old mid kind.OutOfMemory passed (Ok token) new after taken = absurd taken
taken_view old mid kind.OutOfMemory passed (Err e) new after taken = rw (taken.0, taken.1) after
taken_view old mid it passed (Ok token) new after taken = rw taken.1 after
taken_view old mid it passed (Err e) new after taken =
    let less : mid.yielded_count - 1 ≡ old.yielded_count + 0 = omega (arith, ap (λ (v : StateView). v.yielded_count) after) in
    let text = ap (λ (v : StateView). v.text) after in
    rw (taken.0, taken.1, less, text) (ap (λ ended. record { text = old.reader.text.now; yielded_count = old.yielded_count + 0; has_ended = ended; reads = mid.reader.reads }) (sym (or_true old.has_ended)))

pub item_view : (old mid : LexerState) (passed : Passed) (answer : Option (Result (ℕ × Token × ℕ) (OrMemory (Diagnosed ErrorKind)))) (new : LexerState)
    → view_of mid ≡ record (view_of old) { yielded_count = old.yielded_count + passed_count passed.kind; has_ended = old.has_ended || is_out_of_memory passed.kind; reads = mid.reader.reads } → IsItemOf mid passed answer new
    → view_of new ≡ record (view_of old) { yielded_count = old.yielded_count + yielded_by answer; has_ended = old.has_ended || is_ended_by answer; reads = new.reader.reads }
item_view old mid passed answer new after taken = rw taken.2 (taken_view old mid passed.kind passed taken.0 new after taken.1)

-- nothing is taken where nothing was passed
pub last_item : (mid : LexerState) (passed : Passed) (answer : Option (Result (ℕ × Token × ℕ) (OrMemory (Diagnosed ErrorKind)))) (new : LexerState) → passed.kind ≡ kind.Last → IsItemOf mid passed answer new → (answer ≡ None) × (new ≡ mid)
last_item mid passed answer new last taken = by taken.0 (subst (λ (it : Kind). IsTakenAs mid it passed taken.0 new) last taken.1) taken.2
  where
    by : (it : Result Token Kind) → IsTakenAs mid kind.Last passed it new → answer ≡ item_of passed it → (answer ≡ None) × (new ≡ mid)
    by (Ok token) is same = absurd is
    by (Err e) is same = (same ∙ ap (λ (k : Kind). item_of passed (Err k)) is.0, is.1)

-- a name was passed, where the text and the number of items are those before
pub name_passed : (course : Course) (first state : LexerState) (mid new : Reader) (len : ℕ) → IsSameText first state → length state.reader.text.now < 2 ^ 32 → mid.stage ≡ stages.Onward → new.stage ≡ stages.Onward → IsAhead course.origin state.reader.text.now mid mid.stage (left_in course state) course.fault
    → new.at ≡ mid.at + len → IsAheadPast course.origin state.reader.text.now (name_lexeme state.reader.text.now mid.at len) new (left_in course state) course.fault
    → IsPlainIn first.reader.text.now (record { kind = kind.Identifier; begin = mid.at; end = new.at; value_begin = mid.at; value_end = new.at })
    × IsAheadPast course.origin first.reader.text.now (plain_view first.reader.text.now (record { kind = kind.Identifier; begin = mid.at; end = new.at; value_begin = mid.at; value_end = new.at })) new (left_in course first) course.fault
name_passed course first state mid new len same short on onward ahead at is =
    let text = state.reader.text.now in
    let front = reader_boundary text mid (left_in course state) course.fault on ahead in
    let last = reader_boundary text new is.0 course.fault onward is.2 in
    let past = subst (λ (view : Spanned TokenView). IsAheadPast course.origin text view new (left_in course state) course.fault) (name_shown text mid.at len new.at at) is in
    let both : IsPlainIn text (record { kind = kind.Identifier; begin = mid.at; end = new.at; value_begin = mid.at; value_end = new.at }) × IsAheadPast course.origin text (plain_view text (record { kind = kind.Identifier; begin = mid.at; end = new.at; value_begin = mid.at; value_end = new.at })) new (left_in course state) course.fault =
    (plain_inside text kind.Identifier mid.at new.at mid.at new.at refl short (omega (arith, at)) (omega (arith, at)) front last front last (omega (arith)), past) in
    rw (same.0, same.1) at both

-- a newline was passed
pub newline_passed : (course : Course) (first state : LexerState) (mid new : Reader) (len : ℕ) → IsSameText first state → length state.reader.text.now < 2 ^ 32 → mid.stage ≡ stages.Onward → IsAhead course.origin state.reader.text.now mid mid.stage (left_in course state) course.fault
    → IsCharBoundary state.reader.text.now (mid.at + len) → IsAheadAfter course.origin state.reader.text.now (newline_if true mid.at len) new (left_in course state) course.fault
    → IsPlainIn first.reader.text.now (record { kind = kind.Newline; begin = mid.at; end = mid.at + len; value_begin = mid.at + len; value_end = mid.at + len })
    × IsAheadPast course.origin first.reader.text.now (plain_view first.reader.text.now (record { kind = kind.Newline; begin = mid.at; end = mid.at + len; value_begin = mid.at + len; value_end = mid.at + len })) new (left_in course first) course.fault
unfolding token_view
newline_passed course first state mid new len same short on ahead last is =
    let text = state.reader.text.now in
    let front = reader_boundary text mid (left_in course state) course.fault on ahead in
    let both : IsPlainIn text (record { kind = kind.Newline; begin = mid.at; end = mid.at + len; value_begin = mid.at + len; value_end = mid.at + len }) × IsAheadPast course.origin text (plain_view text (record { kind = kind.Newline; begin = mid.at; end = mid.at + len; value_begin = mid.at + len; value_end = mid.at + len })) new (left_in course state) course.fault =
    (plain_inside text kind.Newline mid.at (mid.at + len) (mid.at + len) (mid.at + len) refl short (omega (arith)) (omega (arith)) front last last last (omega (arith)), is) in
    rw (same.0, same.1) at both

-- a kind without a value has no closing quotes
no_closing : (it : Kind) (view : TokenView) → ((value : Text) → view ≡ Whole (token_of it value)) → closing_len it ≡ 0
no_closing kind.String view token = let both : Whole (grammar.String []) ≡ Whole (grammar.String (0 ∷ [])) = sym (token []) ∙ token (0 ∷ []) in cc
no_closing it view token = refl

-- a keyword or symbol lies in the text
pub symbol_inside : (course : Course) (state : LexerState) (lexeme : ℕ × Token × ℕ) (new : LexerState) (plain : Passed) → is_plain plain.kind ≡ true → closing_len plain.kind ≡ 0 → IsCourse course state.reader.text.now
    → HasAnswered course state (Some (Ok lexeme)) new → plain ≡ record { kind = plain.kind; begin = lexeme.0; end = lexeme.2; value_begin = lexeme.2; value_end = lexeme.2 } → IsPlainIn state.reader.text.now plain
symbol_inside course state lexeme new plain sort bare inside is places =
    let within = answers_within course state (Some (Ok lexeme)) new refl inside is in
    let between = course_between course state.reader.text.now state.yielded_count _ is.0 inside is.1 in
    subst (IsPlainIn state.reader.text.now) (sym places) (plain_inside state.reader.text.now plain.kind lexeme.0 lexeme.2 lexeme.2 lexeme.2 sort inside.fits within.0 (omega (arith)) between.0 between.1 between.1 between.1 (omega (arith, bare)))

pub symbol_shown : (text : Text) (lexeme : ℕ × Token × ℕ) (plain : Passed) → token_view lexeme.1 ≡ Whole (token_of plain.kind (plain_value text plain)) → plain ≡ record { kind = plain.kind; begin = lexeme.0; end = lexeme.2; value_begin = lexeme.2; value_end = lexeme.2 }
    → lexeme_view lexeme ≡ plain_view text plain
symbol_shown text lexeme plain token places =
    ap (λ (view : TokenView). record { begin = lexeme.0; node = view; end = lexeme.2 }) token
    ∙ ap (λ n. record { begin = n; node = Whole (plain_token text plain); end = lexeme.2 }) (sym (ap (λ (p : Passed). p.begin) places))
    ∙ ap (λ n. record { begin = plain.begin; node = Whole (plain_token text plain); end = n }) (sym (ap (λ (p : Passed). p.end) places))

-- a lexeme without a value was passed
pub valueless_passed : (course : Course) (state : LexerState) (it : Kind) (lexeme : ℕ × Token × ℕ) (new : LexerState) → is_plain it ≡ true → IsCourse course state.reader.text.now
    → ((value : Text) → token_view lexeme.1 ≡ Whole (token_of it value)) → HasAnswered course state (Some (Ok lexeme)) new → HasPassedAs course state it (valueless it lexeme.0 lexeme.2) new
valueless_passed course state it lexeme new sort inside token is =
    let plain = valueless it lexeme.0 lexeme.2 in
    plain_passes course state it plain new sort (
      symbol_inside course state lexeme new plain sort (no_closing it _ token) inside is refl,
      subst (λ (view : Spanned TokenView). IsAheadPast course.origin state.reader.text.now view new.reader (left_in course state) course.fault) (symbol_shown state.reader.text.now lexeme plain (token _) refl) is,
    )

-- what a lexer says of itself after an answer of its state
pub view_after : (file : SourceFile) (old : LexerState) (count : ℕ) (ends : Bool) (new : LexerState) → view_of new ≡ record (view_of old) { yielded_count = old.yielded_count + count; has_ended = old.has_ended || ends; reads = new.reader.reads }
    → lexer_view new file ≡ record (lexer_view old file) { yielded_count = old.yielded_count + count; has_ended = old.has_ended || ends; reads = new.reader.reads; cut = known_cut new }
view_after file old count ends new after = ap (λ (v : StateView). record { text = v.text; code_map = file; yielded_count = v.yielded_count; has_ended = v.has_ended; reads = v.reads; cut = known_cut new }) after

-- an ended state yields nothing
pub some_going : (state : LexerState) (found : Option (Result (ℕ × Token × ℕ) (OrMemory (Diagnosed ErrorKind)))) (new : LexerState) → is_some found ≡ true → (state.has_ended ≡ true → (found ≡ None) × (new ≡ state)) → state.has_ended ≡ false
some_going state found new some ended = by state.has_ended refl
  where
    by : (b : Bool) → state.has_ended ≡ b → state.has_ended ≡ false
    by true e = let both : true ≡ false = sym some ∙ ap is_some (ended e).0 in cc
    by false e = e

-- an ended state passes nothing
pub passed_going : (old : LexerState) (passed : Passed) (new : LexerState) → (passed.kind ≡ kind.Last → ⊥) → (old.has_ended ≡ true → (passed.kind ≡ kind.Last) × (new ≡ old)) → old.has_ended ≡ false
passed_going old passed new other ended = by old.has_ended refl
  where
    by : (b : Bool) → old.has_ended ≡ b → old.has_ended ≡ false
    by true is = absurd (other (ended is).0)
    by false is = is

-- a plain kind isn't the last
pub plain_goes : (it : Kind) → is_plain it ≡ true → it ≡ kind.Last → ⊥
plain_goes it plain last = let both : is_plain kind.Last ≡ true = subst (λ (k : Kind). is_plain k ≡ true) last plain in cc

-- what was read to pass a lexeme
pub passed_reads : {course : Course} → (old new : LexerState) → IsLexing course new → old.has_ended ≡ false → new.reader.text.now ≡ old.reader.text.now → new.has_ended ≡ (old.has_ended || false) → new.reader.reads ≤ most_reads old.reader.text.now
passed_reads old new lexing going text goes = subst (λ (t : Text). new.reader.reads ≤ most_reads t) text (lexing_read new lexing (goes ∙ ap (λ b. b || false) going))

-- a plain lexeme that was passed lies in the text
pub passed_within : (course : Course) (old : LexerState) (passed : Passed) (new : LexerState) → (old.has_ended ≡ true → (passed.kind ≡ kind.Last) × (new ≡ old)) → (old.has_ended ≡ false → HasPassed course old passed new) → new.reader.text.now ≡ old.reader.text.now → is_plain passed.kind ≡ true → IsPlainIn new.reader.text.now passed
passed_within course old passed new ended is text plain =
    let going = passed_going old passed new (plain_goes passed.kind plain) ended in
    subst (λ (t : Text). IsPlainIn t passed) (sym text) (passed_plain course old passed.kind passed new plain (is going)).0

-- and is counted
pub passed_counted : (old : LexerState) (passed : Passed) (new : LexerState) → view_of new ≡ record (view_of old) { yielded_count = old.yielded_count + passed_count passed.kind; has_ended = old.has_ended || is_out_of_memory passed.kind; reads = new.reader.reads } → is_plain passed.kind ≡ true → 0 < new.yielded_count
passed_counted old passed new after plain = omega (arith, ap (λ (v : StateView). v.yielded_count) after, (plain_counts passed.kind plain).0)

-- what a call answers of a state
pub record IsNextAnswer (course : Course) (old : LexerState) (item : Option (Result (ℕ × Token × ℕ) (OrMemory (Diagnosed ErrorKind)))) (new : LexerState) : Type 0 where
  pub ended : old.has_ended ≡ true → (item ≡ None) × (new ≡ old)
  pub answer : old.has_ended ≡ false → HasAnswered course old item new
  pub lexing : IsLexing course new
  pub after : view_of new ≡ record (view_of old) { yielded_count = old.yielded_count + yielded_by item; has_ended = old.has_ended || is_ended_by item; reads = new.reader.reads }

pub item_next : (course : Course) (old mid : LexerState) (passed : Passed) (item : Option (Result (ℕ × Token × ℕ) (OrMemory (Diagnosed ErrorKind)))) (new : LexerState) → (old.has_ended ≡ true → (passed.kind ≡ kind.Last) × (mid ≡ old)) → (old.has_ended ≡ false → HasPassed course old passed mid) → IsLexing course mid
    → view_of mid ≡ record (view_of old) { yielded_count = old.yielded_count + passed_count passed.kind; has_ended = old.has_ended || is_out_of_memory passed.kind; reads = mid.reader.reads } → IsItemOf mid passed item new → IsNextAnswer course old item new
item_next course old mid passed item new ended is lexing after taken = record {
  ended = λ yes. (let none = ended yes in let last = last_item mid passed item new none.0 taken in (last.0, last.1 ∙ none.1));
  answer = λ going. item_answers course old mid passed item new (is going) (ap (λ (v : StateView). v.text) after) taken;
  lexing = item_lexing mid passed item new lexing taken;
  after = item_view old mid passed item new after taken;
}
