-- The lexer at a word that the scanner has found, and after something was taken or passed.
use Rattle.starlark_grammar.specs.Front.{language_front}
use Rattle.std.proofs.Common.{◌≡◌, ◌≢◌, ◌<◌, ◌≤◌, ◌+◌, ◌-◌, ◌*◌, ◌||◌, ◌^◌, Bool, ℕ, [], Some, true, false, ap, arith, drop, length, map, refl, subst, sym, ◌∙◌}
use Rattle.std.proofs.lemmas.List.{length-map}
use Rattle.std.proofs.lemmas.Result.{IfOk-weaker, on_err_weaker}
use Rattle.std.specs.Prelude.{Err, IfOk, None, Ok, OnErr, OnOk, Option, Result}
use Rattle.std.specs.Str.{IsCharBoundary}
use Rattle.starlark_grammar.specs.Tokens.{Spanned}
use Rattle.starlark_grammar.specs.Words.{Text, begins, is_name_start}
use Rattle.starlark_grammar.specs.declared.class.Class.{Class}
use Rattle.starlark_grammar.specs.declared.class.Class.TheVariants as class
use Rattle.starlark_reader.specs.Inner.Pending.{pending_lexemes}
use Rattle.starlark_reader.specs.Inner.Reader.{IsAhead, IsAheadAfter, IsAheadPast, IsAtCode, IsAtEnd, HasSomething, IsInCode, IsSomething, IsSound, IsWordHere, KeepsAhead, TakesNext, left_to_read, newline_if}
use Rattle.starlark_reader.specs.Inner.ReadBounds.{HasRead, HasScanned, HasScannedHere, IsMarginRead, IsTaken}
use Rattle.starlark_reader.specs.declared.reader.Reader.{Reader}
use Rattle.starlark_reader.specs.declared.reader.Stage.TheVariants as stages
use Rattle.starlark_reader.proofs.TakenPieces.PieceTaken.{left_onward}
use Rattle.starlark_reader.proofs.TakenPieces.ReaderReads.{line_reads}
use Rattle.starlark_lexemes.proofs.LexerItems.{one_more}
use Rattle.starlark_lexemes.proofs.LexerReads.{peeked_first, opened_here, peeked_after, peeked_more, peeked_taken, word_inside}
use Rattle.starlark_lexemes.proofs.LexerStates.{IsGoingOn, passed_same, same_lexing, same_text, text_of}
use Rattle.starlark_lexemes.proofs.PlainLexemes.{newline_passed}
use Rattle.starlark_lexemes.specs.Inner.LexerStates.{Course, HasGoneOn, HasPassed, HasPassedNext, IsAtLiteral, IsAtText, IsAtWord, IsAtWordless, IsCourse, IsLexing, IsLexingIn, IsReadNext, IsTakenNext, IsUnnamed, StateView, is_out_of_memory, left_in, left_to_look, left_to_pass, passed_count, valueless, view_of}
use Rattle.starlark_reader.specs.Inner.Lookaheads.{IsTextRun, HasPeeked, IsLiteralHere}
use Rattle.starlark_grammar.specs.declared.class.LiteralKind.{LiteralKind}
use Rattle.starlark_grammar.specs.declared.class.LiteralKind.TheVariants.{FString as OfFString}
use Rattle.starlark_grammar.specs.declared.class.Quote.{Quote}
use Rattle.starlark_words.specs.Inner.LiteralViews.{single_literal}
use Rattle.starlark_words.specs.Inner.PlainRuns.{IsRun}
use Rattle.starlark_lexemes.specs.declared.lexer_state.LexerState.{LexerState}
use Rattle.starlark_lexemes.specs.declared.passed.Kind.TheVariants as kind
use Rattle.starlark_lexemes.specs.declared.passed.Passed.{Passed}
use Rattle.starlark_token.specs.Lexemes.{shown_lexeme}
use Rattle.starlark_token.specs.TokenViews.{TokenView}
use Rattle.starlark_token.specs.declared.tokens.Token.{Token}
use Rattle.starlark_words.specs.Inner.ScannedWords.{begins_mark, peeked_len}
use Rattle.starlark_words.specs.declared.scanner.word.Word.{Word}

-- the reader took something
pub taken_here : {course : Course} → {E : Type 0} (old : LexerState) (reader : Reader) (taken : Result (ℕ × Token × ℕ) E) → reader.text ≡ old.reader.text → IsCourse course old.reader.text.now → old.has_ended ≡ false → old.yielded_count ≤ length course.lexemes
    → IfOk taken (λ lexeme. IsAheadAfter course.origin old.reader.text.now (Some lexeme) reader (left_in course old) course.fault) → OnErr taken (IsSomething (left_in course old) course.fault) → IsTakenNext course (record old { reader = reader }) taken
taken_here {course = course} old reader taken same text going few ahead memory =
    let now = sym (ap (λ t. t.now) same) in
    record {
      text = subst (IsCourse course) now text;
      going = going;
      few = subst (λ (t : Text). old.yielded_count ≤ length course.lexemes) now few;
      ahead = subst (λ (t : Text). IfOk taken (λ lexeme. IsAheadAfter course.origin t (Some lexeme) reader (drop old.yielded_count (map shown_lexeme course.lexemes)) course.fault)) now ahead;
      memory = subst (λ (t : Text). OnErr taken (IsSomething (drop old.yielded_count (map shown_lexeme course.lexemes)) course.fault)) now memory;
    }

-- or it read what comes next
pub read_here : {course : Course} → {E : Type 0} (old : LexerState) (reader : Reader) (read : Result (Option (ℕ × Token × ℕ)) E) → reader.text ≡ old.reader.text → IsCourse course old.reader.text.now → old.has_ended ≡ false → old.yielded_count ≤ length course.lexemes
    → IsAhead course.origin old.reader.text.now old.reader old.reader.stage (left_in course old) course.fault → IfOk read (λ given. TakesNext old.reader given reader)
    → IfOk read (λ given. given ≡ None → IsAtEnd old.reader.text.now reader) → OnErr read (HasSomething old.reader) → OnOk read (HasRead old.reader.text.now reader) → IsReadNext course (record old { reader = reader }) read
read_here {course = course} old reader read same text going few left ahead end memory reads =
    let now = sym (ap (λ t. t.now) same) in
    record {
      text = subst (IsCourse course) now text;
      going = going;
      few = subst (λ (t : Text). old.yielded_count ≤ length course.lexemes) now few;
      ahead = subst (λ (t : Text). IfOk read (λ given. IsAheadAfter course.origin t given reader (drop old.yielded_count (map shown_lexeme course.lexemes)) course.fault)) now (IfOk-weaker read _ _ (λ given takes. takes _ _ _ left) ahead);
      end = subst (λ (t : Text). IfOk read (λ given. given ≡ None → IsAtEnd t reader)) now end;
      memory = subst (λ (t : Text). OnErr read (IsSomething (drop old.yielded_count (map shown_lexeme course.lexemes)) course.fault)) now (on_err_weaker read (λ is. is _ _ _ left) memory);
      reads = subst (λ (t : Text). OnOk read (HasRead t reader)) now reads;
    }

-- how much is left to look at
look_few : (at_code : Bool) → left_to_look at_code ≤ 1
look_few true = omega arith
look_few false = omega arith

-- the first margin was read
pub first_margin : {course : Course} → (old : LexerState) (new : Reader) (at_code : Bool) → IsLexing course old → old.has_ended ≡ false → old.is_at_code ≡ false → new.text ≡ old.reader.text → IsAhead course.origin old.reader.text.now new new.stage (left_in course old) course.fault
    → left_to_read old.reader.text.now new new.stage < left_to_read old.reader.text.now old.reader old.reader.stage → HasRead old.reader.text.now new → (at_code ≡ true → IsAtCode old.reader.text.now new) → HasGoneOn course old (record old { reader = new; is_at_code = at_code })
first_margin old new at_code lexing going outside same ahead less read code = record {
  lexing = same_lexing old.reader.text.now (record old { reader = new; is_at_code = at_code }) (ap (λ t. t.now) same) (lexing.0, (λ on. ((lexing.1 going).0, ahead)), (λ yes. going), (λ on. read), code);
  after = rw same refl;
  less = let few = look_few at_code in rw (outside, same) (omega (arith, less, few));
}

-- one more lexeme can be counted
pub one_more_fits : {course : Course} → (state : LexerState) → IsCourse course state.reader.text.now → state.yielded_count ≤ length course.lexemes → state.yielded_count + 1 ≤ 2 ^ 34
one_more_fits state is few = omega (arith, few, is.few)

-- a lexeme was passed, and is counted; its offsets and its token are stored
pub past_lexing : {course : Course} → (old : LexerState) (lexeme : Spanned TokenView) (reader : Reader) (at_code : Bool) (begin end value_begin value_end : ℕ) (token : Token) → reader.text ≡ old.reader.text → IsCourse course old.reader.text.now → old.has_ended ≡ false
    → IsAheadPast course.origin old.reader.text.now lexeme reader (left_in course old) course.fault → HasRead old.reader.text.now reader → (at_code ≡ true → IsAtCode old.reader.text.now reader)
    → IsLexing course (record old { reader = reader; yielded_count = old.yielded_count + 1; is_at_code = at_code; begin = begin; end = end; value_begin = value_begin; value_end = value_end; token = token })
past_lexing {course = course} old lexeme reader at_code begin end value_begin value_end token same text going past read code =
    let further = one_more (map shown_lexeme course.lexemes) old.yielded_count lexeme past.0 past.1 in
    let state = record old { reader = reader; yielded_count = old.yielded_count + 1; is_at_code = at_code; begin = begin; end = end; value_begin = value_begin; value_end = value_end; token = token } in
    let lexing : IsLexingIn course old.reader.text.now state =
    (text, (λ on. (omega (arith, further.0, length-map course.lexemes shown_lexeme), rw further.1 past.2)), (λ yes. going), (λ on. read), code) in
    same_lexing old.reader.text.now state (ap (λ t. t.now) same) lexing

-- at a fault, and at the end
pub last_lexing : {course : Course} → (old : LexerState) (reader : Reader) → reader.text ≡ old.reader.text → IsCourse course old.reader.text.now → old.yielded_count ≤ length course.lexemes → IsAhead course.origin old.reader.text.now reader reader.stage (left_in course old) course.fault → HasRead old.reader.text.now reader
    → IsLexing course (record old { reader = reader; is_at_code = false })
last_lexing old reader same text few ahead read = same_lexing old.reader.text.now (record old { reader = reader; is_at_code = false }) (ap (λ t. t.now) same) (text, (λ on. (few, ahead)), (λ yes. cc), (λ on. read), (λ yes. cc))

-- the scanner has found a word
pub at_word : {course : Course} → (state : LexerState) (mid : Reader) (word : Word) → mid.text ≡ state.reader.text → IsLexing course state → state.is_at_code ≡ true → HasScanned word.len ((5 * word.len - 4) + 2) state.reader mid → KeepsAhead state.reader mid → IsWordHere mid.text.now mid word
    → IsAtWord course (record state { reader = mid }) word (5 * word.len - 2)
at_word {course = course} state mid word same lexing code scanned keeps stands =
    let text = ap (λ t. t.now) same in
    let going = lexing.2 code in
    let inv = lexing.1 going in
    let here = subst (λ (t : Text). IsAhead course.origin t mid mid.stage (drop state.yielded_count (map shown_lexeme course.lexemes)) course.fault) (sym text) (keeps _ _ _ inv.1) in
    let inside = word_inside mid.text.now mid _ _ word.class word.len stands.stage here (sym stands.front) in
    let peeked = peeked_after state.reader.text.now word.len ((5 * word.len - 4) + 2) (5 * word.len - 2) state.reader mid (lexing.4 code).stage (lexing.3 going) scanned (omega (arith, inside.0)) in
    record {
      text = rw same lexing.0;
      going = going;
      few = inv.0;
      ahead = here;
      stands = stands;
      code = code;
      read = subst (λ (t : Text). HasPeeked t word.len (5 * word.len - 2) mid) (sym text) peeked;
    }

pub word_sound : {course : Course} → (state : LexerState) (word : Word) (most : ℕ) → IsAtWord course state word most → IsSound state.reader
word_sound state word most at = record { text = text_of at.text; ready = (_, _, _, at.ahead) }

-- where the first two bytes tell no word
pub unnamed_here : {course : Course} → (state : LexerState) (mid : Reader) → mid.text ≡ state.reader.text → IsLexing course state → state.is_at_code ≡ true → HasScanned (peeked_len (drop mid.at mid.text.now)) (peeked_len (drop mid.at mid.text.now)) state.reader mid → KeepsAhead state.reader mid → IsAtCode mid.text.now mid → begins is_name_start (drop mid.at mid.text.now) ≡ false → begins_mark (drop mid.at mid.text.now) ≡ false
    → IsUnnamed course (record state { reader = mid })
unnamed_here {course = course} state mid same lexing at_code scanned keeps code unnamed marks =
    let text = ap (λ t. t.now) same in
    let going = lexing.2 at_code in
    let inv = lexing.1 going in
    record {
      text = rw same lexing.0;
      going = going;
      few = inv.0;
      ahead = subst (λ (t : Text). IsAhead course.origin t mid mid.stage (drop state.yielded_count (map shown_lexeme course.lexemes)) course.fault) (sym text) (keeps _ _ _ inv.1);
      code = code;
      unnamed = unnamed;
      marks = marks;
      at_code = at_code;
      read = let len = peeked_len (drop mid.at mid.text.now) in subst (λ (t : Text). HasPeeked t len len mid) (sym text) (peeked_after state.reader.text.now len len len state.reader mid (lexing.4 at_code).stage (lexing.3 going) scanned (omega arith));
    }

-- a word may be found by more reads
pub word_by_more : {course : Course} → (state : LexerState) (word : Word) (most more : ℕ) → most ≤ more → IsAtWord course state word most → IsAtWord course state word more
word_by_more state word most more enough at = record {
  text = at.text;
  going = at.going;
  few = at.few;
  ahead = at.ahead;
  stands = at.stands;
  code = at.code;
  read = (at.read.0, at.read.1, (at.read.2.0, omega (arith, at.read.2.1, enough)));
}

-- the opener of a literal that isn't plain, and the run after it
pub literal_here : {course : Course} → (state : LexerState) (mid : Reader) (it : LiteralKind) (is_raw : Bool) (quote : Quote) (len run : ℕ) → it ≢ OfFString → mid.text ≡ state.reader.text → KeepsAhead state.reader mid → IsAtWord course state (record { class = class.Opener it is_raw quote; len = len }) (5 * len - 2)
    → IsWordHere mid.text.now mid (record { class = class.Opener it is_raw quote; len = len }) → IsRun (single_literal it is_raw quote) (drop len (drop mid.at mid.text.now)) run × HasScannedHere run (6 * run + 3) state.reader mid
    → IsAtLiteral course (record state { reader = mid }) (record { class = class.Opener it is_raw quote; len = len }) run
literal_here {course = course} state mid it is_raw quote len run other same keeps at here known =
    let text = sym (ap (λ t. t.now) same) in
    record {
      text = subst (IsCourse course) text at.text;
      going = at.going;
      few = subst (λ (t : Text). state.yielded_count ≤ length course.lexemes) text at.few;
      ahead = subst (λ (t : Text). IsAhead course.origin t mid mid.stage (drop state.yielded_count (map shown_lexeme course.lexemes)) course.fault) text (keeps _ _ _ at.ahead);
      stands = subst (λ (t : Text). IsLiteralHere t mid (record { class = class.Opener it is_raw quote; len = len }) run) text (opened_here state.reader mid it is_raw quote len run other same at.read here known);
    }

-- the run of an f-string's text that was looked at
pub run_here : {course : Course} → (old : LexerState) (mid : Reader) (run : ℕ) → mid.text ≡ old.reader.text → IsLexing course old → old.has_ended ≡ false → old.reader.stage ≡ stages.Onward → KeepsAhead old.reader mid → IsTextRun mid.text.now run mid × HasScannedHere run (6 * run + 4) old.reader mid
    → IsAtText course (record old { reader = mid }) run
run_here {course = course} old mid run same lexing going onward keeps other =
    let inv = lexing.1 going in
    let now = sym (ap (λ t. t.now) same) in
    record {
      text = subst (IsCourse course) now lexing.0;
      going = going;
      few = inv.0;
      ahead = subst (λ (t : Text). IsAhead course.origin t mid mid.stage (left_in course old) course.fault) now (keeps _ _ _ inv.1);
      stands = other.0;
      read = subst (λ (t : Text). HasPeeked t run (8 * run + 4) mid) now (peeked_first old.reader.text.now run (6 * run + 4) run (8 * run + 4) old.reader mid onward (lexing.3 going) other.1 (omega arith) (omega arith));
    }

-- a word that the first two bytes don't tell
pub slow_here : {course : Course} → (old : LexerState) (mid : Reader) (word : Word) (most : ℕ) → mid.text ≡ old.reader.text → IsUnnamed course old → KeepsAhead old.reader mid → HasPeeked old.reader.text.now word.len most mid → IsWordHere mid.text.now mid word
    → IsAtWord course (record old { reader = mid }) word most
slow_here {course = course} old mid word most same at keeps peeked stands =
    let now = sym (ap (λ t. t.now) same) in
    record {
      text = subst (IsCourse course) now at.text;
      going = at.going;
      few = at.few;
      ahead = subst (λ (t : Text). IsAhead course.origin t mid mid.stage (left_in course old) course.fault) now (keeps _ _ _ at.ahead);
      stands = stands;
      code = at.at_code;
      read = subst (λ (t : Text). HasPeeked t word.len most mid) now peeked;
    }

-- no word at all
pub wordless_here : {course : Course} → (old : LexerState) (mid : Reader) → mid.text ≡ old.reader.text → IsUnnamed course old → KeepsAhead old.reader mid → HasPeeked old.reader.text.now 0 3 mid → IsAtCode mid.text.now mid → language_front (drop mid.at mid.text.now) ≡ None
    → IsAtWordless course (record old { reader = mid })
wordless_here {course = course} old mid same at keeps peeked code none =
    let now = sym (ap (λ t. t.now) same) in
    record {
      text = subst (IsCourse course) now at.text;
      going = at.going;
      few = at.few;
      ahead = subst (λ (t : Text). IsAhead course.origin t mid mid.stage (left_in course old) course.fault) now (keeps _ _ _ at.ahead);
      code = code;
      none = none;
      read = subst (λ (t : Text). HasPeeked t 0 3 mid) now peeked;
    }

-- what was read of a literal without escapes
pub plain_after : {A E : Type 0} (taken : Result A E) (old mid new : Reader) (len body : ℕ) → mid.text ≡ old.text → new.text ≡ mid.text → HasPeeked old.text.now len (5 * len - 2) old → HasScannedHere (body + 1) (6 * body + 3) old mid
    → OnOk taken (IsTaken (len + body + 1) mid new) → OnOk taken (HasRead new.text.now new)
plain_after (Ok given) old mid new len body same again peeked scanned passed =
    let more = peeked_more old.text.now len (5 * len - 2) (body + 1) (6 * body + 3) (len + body + 1) (5 * len + 6 * body + 3) old mid peeked scanned (omega arith) (omega arith) in
    subst (λ (t : Text). HasRead t new) (sym (ap (λ t. t.now) (again ∙ same))) (peeked_taken old.text.now (len + body + 1) (5 * len + 6 * body + 3) (len + body + 1) mid new more (omega arith) (omega arith) (passed.1, passed.2))
plain_after (Err error) old mid new len body same again peeked scanned passed = tt

-- the measure while the reader goes on
pub left_on : (text : Text) (reader : Reader) → reader.stage ≡ stages.Onward → left_to_read text reader reader.stage ≡ length text - reader.at + 2
left_on text reader onward = ap (left_to_read text reader) onward

-- what has no lexeme was passed
pub word_passed : {course : Course} → (state : LexerState) (new : Reader) (len most : ℕ) → new.text ≡ state.reader.text → IsCourse course state.reader.text.now → state.has_ended ≡ false → state.yielded_count ≤ length course.lexemes → state.reader.stage ≡ stages.Onward
    → HasPeeked state.reader.text.now len most state.reader → most ≤ 10 * len → IsAhead course.origin state.reader.text.now new new.stage (left_in course state) course.fault → IsAtCode state.reader.text.now new → IsTaken len state.reader new → HasGoneOn course state (record state { reader = new })
word_passed state new len most same text going few onward peeked enough ahead code taken =
    let text_now = state.reader.text.now in
    let read = peeked_taken text_now len most len state.reader new peeked (omega arith) enough (taken.1, taken.2) in
    let inside = (left_onward text_now new _ _ taken.2 ahead).is_left.1.inside in
    let left : left_to_read text_now new new.stage < left_to_read text_now state.reader state.reader.stage = omega (arith, left_on text_now new taken.2, left_on text_now state.reader onward, taken.0, taken.1.0, inside) in
    record {
      lexing = same_lexing text_now (record state { reader = new }) (ap (λ t. t.now) same) (text, (λ on. (few, ahead)), (λ yes. going), (λ on. read), (λ yes. code));
      after = rw same refl;
      less = rw same (omega (arith, left));
    }

-- after what the reader looked at
pub gone_from : {course : Course} → (state new : LexerState) (reader : Reader) → reader.text ≡ state.reader.text → left_to_read state.reader.text.now reader reader.stage ≤ left_to_read state.reader.text.now state.reader state.reader.stage → HasGoneOn course (record state { reader = reader }) new → HasGoneOn course state new
gone_from state new reader same less gone =
    let left = gone.less in
    let fewer : left_to_read reader.text.now reader reader.stage ≤ left_to_read state.reader.text.now state.reader state.reader.stage = subst (λ (t : Text). left_to_read t reader reader.stage ≤ left_to_read state.reader.text.now state.reader state.reader.stage) (sym (ap (λ t. t.now) same)) less in
    record { lexing = gone.lexing; after = gone.after ∙ rw same refl; less = omega (arith, left, fewer) }

-- after it the lexer goes on
pub gone_on : {course : Course} → (first state new : LexerState) → IsGoingOn course first state → state.has_ended ≡ false → HasGoneOn course state new → IsGoingOn course first new
gone_on first state new on going gone =
    let before = same_text first state state.reader on refl in
    let was : state.has_ended ≡ first.has_ended = ap (λ (v : StateView). v.has_ended) on.same in
    let goes : new.has_ended ≡ false = ap (λ (v : StateView). v.has_ended) gone.after ∙ going in
    record {
      lexing = gone.lexing;
      same = gone.after ∙ rw (before.0, before.1, was) refl;
      ended = λ ended. (let both : true ≡ false = sym ended ∙ goes in cc);
    }

-- what was found in code, and has no lexeme
pub found_passed : {course : Course} → (first state : LexerState) (mid new : Reader) (it : Class) (len : ℕ) → IsGoingOn course first state → mid.text ≡ state.reader.text → new.text ≡ mid.text → left_to_read state.reader.text.now mid mid.stage ≤ left_to_read state.reader.text.now state.reader state.reader.stage → IsAtWord course (record state { reader = mid }) (record { class = it; len = len }) (5 * len - 2)
    → IsAhead course.origin mid.text.now new new.stage (left_in course (record state { reader = mid })) course.fault → IsAtCode mid.text.now new → IsTaken len mid new → IsGoingOn course first (record state { reader = new }) × (left_to_pass (record state { reader = new }) < left_to_pass state)
found_passed first state mid new it len on same again less at ahead code taken =
    let gone = gone_from state (record state { reader = new }) mid same less (word_passed (record state { reader = mid }) new len (5 * len - 2) again at.text at.going at.few at.stands.stage at.read (omega arith) ahead code taken) in
    (gone_on first state (record state { reader = new }) on at.going gone, gone.less)

-- what was read of a newline that counts, and of the margin after it
pub margin_read : {course : Course} → (state : LexerState) (len : ℕ) (new : Reader) → IsAtWord course state (record { class = class.LineEnd; len = len }) (5 * len - 2) → IsMarginRead state.reader.text.now len state.reader new new.stage → HasRead state.reader.text.now new
margin_read state len new at margin =
    let inside = word_inside state.reader.text.now state.reader _ _ class.LineEnd len at.stands.stage at.ahead (sym at.stands.front) in
    line_reads state.reader.text.now len at.read.0 state.reader new inside.1 at.read.1 (at.read.2.0, omega (arith, at.read.2.1)) inside.0 margin

-- a newline was passed; where no lexeme is pending after it, code comes next
pub newline_next : {course : Course} → (state : LexerState) (len : ℕ) (new : Reader) (at_code : Bool) → new.text ≡ state.reader.text → IsAtWord course state (record { class = class.LineEnd; len = len }) (5 * len - 2) → IsCharBoundary state.reader.text.now (state.reader.at + len) → IsMarginRead state.reader.text.now len state.reader new new.stage
    → (at_code ≡ true → (new.stage ≡ stages.Onward) × IsInCode new × ((text : Text) → pending_lexemes text new.pending ≡ [])) → IsAheadAfter course.origin state.reader.text.now (newline_if true state.reader.at len) new (left_in course state) course.fault
    → HasPassedNext course state (valueless kind.Newline state.reader.at (state.reader.at + len)) (record state { reader = new; yielded_count = state.yielded_count + 1; is_at_code = at_code })
newline_next {course = course} state len new at_code same at last margin onward is = record {
  passed = newline_passed course state state state.reader new len (refl, refl) at.text.fits at.stands.stage at.ahead last is;
  lexing = past_lexing state _ new at_code state.begin state.end state.value_begin state.value_end state.token same at.text at.going is (margin_read state len new at margin) (λ yes. record { stage = (onward yes).0; idle = (is.2.is_pending, (onward yes).2 state.reader.text.now); code = (onward yes).1 });
  after = rw (same, at.going) refl;
}

-- the margin after a newline has a fault
pub faulty_margin : {course : Course} → (state : LexerState) (len : ℕ) (new : Reader) (passed : Passed) → passed.kind ≡ kind.Last → new.text ≡ state.reader.text → IsAtWord course state (record { class = class.LineEnd; len = len }) (5 * len - 2) → IsMarginRead state.reader.text.now len state.reader new new.stage
    → IsAhead course.origin state.reader.text.now new new.stage (left_in course state) course.fault → IsAtEnd state.reader.text.now new → HasPassedNext course state passed (record state { reader = new; is_at_code = false })
faulty_margin state len new passed last same at margin ahead end =
    let none : state.yielded_count + 0 ≡ state.yielded_count = omega (arith) in
    record {
      passed = rw last end;
      lexing = last_lexing state new same at.text at.few ahead (margin_read state len new at margin);
      after = rw (last, same, at.going, none) refl;
    }

-- what a step passed after what has no lexeme, it passed of the lexer before that
pub record HasPassedSince (course : Course) (first : LexerState) (what : Passed) (new : LexerState) : Type 0 where
  pub ended : first.has_ended ≡ true → (what.kind ≡ kind.Last) × (new ≡ first)
  pub passed : first.has_ended ≡ false → HasPassed course first what new
  pub lexing : IsLexing course new
  pub after : view_of new ≡ record (view_of first) { yielded_count = first.yielded_count + passed_count what.kind; has_ended = first.has_ended || is_out_of_memory what.kind; reads = new.reader.reads }

pub passed_since : {course : Course} → (first state : LexerState) (reader : Reader) (passed : Passed) (new : LexerState) → IsGoingOn course first state → state.has_ended ≡ false → reader.text ≡ state.reader.text → HasPassedNext course (record state { reader = reader }) passed new → HasPassedSince course first passed new
passed_since {course = course} first state reader passed new on going same is =
    let before = same_text first state reader on same in
    let goes : first.has_ended ≡ false = sym (ap (λ (v : StateView). v.has_ended) on.same) ∙ going in
    record {
      ended = λ ended. (let both : true ≡ false = sym ended ∙ goes in cc);
      passed = λ on. passed_same course first (record state { reader = reader }) passed.kind passed new before is.passed;
      lexing = is.lexing;
      after = rw (goes, sym before.0, sym before.1) is.after;
    }
