use Rattle.std.proofs.Common.{◌≡◌, ◌<◌, ◌+◌, ◌*◌, ◌-◌, ◌≤◌, ◌^◌, ap, arith, rules, false, refl, subst, ◌∙◌}
use Rattle.starlark_grammar.specs.declared.class.Class.TheVariants as class
use Rattle.starlark_lexemes.specs.Inner.LexerStates.{Course, HasGoneOn, IsAtWord, IsLexing, left_to_pass}
use Rattle.starlark_lexemes.specs.declared.lexer_state.LexerState.{LexerState}
use Rattle.starlark_lexemes.specs.declared.passed.Passed.{Passed}
use Rattle.starlark_lexemes.proofs.FoundWords.{HasPassedSince, at_word, faulty_margin, found_passed, gone_from, gone_on, newline_next, passed_since, unnamed_here, word_by_more, word_sound}
use Rattle.starlark_reader.specs.declared.reader.Reader.{Reader}
use Rattle.starlark_reader.proofs.TakenPieces.WordsPassed.{gap_passed, step_in_code, step_taken, word_inside_text}
use Rattle.starlark_lexemes.proofs.LexerStates.{IsGoingOn, same_text}
use Rattle.starlark_lexemes.proofs.PlainLexemes.{advances_next}
use Rattle.starlark_lexemes.proofs.LexerReads.{fault_counts, most_few, newline_counts, pending_counts}
use Rattle.starlark_lexemes.proofs.lexer_state.LexerState.advance.Goals.{After-step_over, In-Layout-look_further, in-Newline, in-Pending, in_default-class-via-in-Opener+in_default, in_default-class-via-in_default}
use Rattle.starlark_lexemes.proofs.lexer_state.LexerState.advance.Goals as goal

pub pass_name-requires : goal.pass_name-requires
pass_name-requires c =
    let inv = c.loop-self.invariant c.requires.0 c.requires.1 in
    (c.requires.0, rw c.in-Identifier.is at (at_word c.loop-self.self c.common_word.new.self c.in-Some.field-0 c.common_word.ensures.text inv.lexing c.if-not-self.false c.in-Some.ensures.lookahead c.common_word.ensures.ahead c.in-Some.ensures.stands))

pub returns-in-Identifier : goal.returns-in-Identifier
returns-in-Identifier c =
    let since = λ (course : Course) (lexing : IsLexing course c.args.self.now).
    let inv = c.loop-self.invariant course lexing in
    let at = rw c.in-Identifier.is at (at_word c.loop-self.self c.common_word.new.self c.in-Some.field-0 c.common_word.ensures.text inv.lexing c.if-not-self.false c.in-Some.ensures.lookahead c.common_word.ensures.ahead c.in-Some.ensures.stands) in
    passed_since c.args.self.now c.loop-self.self c.common_word.new.self c.pass_name.result c.pass_name.new.self inv (inv.lexing.2 c.if-not-self.false) c.common_word.ensures.text (c.pass_name.ensures course at) in
    let first = since c.requires.0 c.requires.1 in
    record { ended = first.ended; passed = λ going course lexing. (since course lexing).passed going; lexing = λ course lexing. (since course lexing).lexing; after = first.after }

pub pass_symbol-requires-clause-here : goal.pass_symbol-requires-clause-here
pass_symbol-requires-clause-here c =
    let inv = c.loop-self.invariant c.requires.0 c.requires.1 in
    (c.requires.0, rw c.in-Fixed.is at (at_word c.loop-self.self c.common_word.new.self c.in-Some.field-0 c.common_word.ensures.text inv.lexing c.if-not-self.false c.in-Some.ensures.lookahead c.common_word.ensures.ahead c.in-Some.ensures.stands))

pub returns-in-Fixed : goal.returns-in-Fixed
returns-in-Fixed c =
    let since = λ (course : Course) (lexing : IsLexing course c.args.self.now).
    let inv = c.loop-self.invariant course lexing in
    let at = rw c.in-Fixed.is at (at_word c.loop-self.self c.common_word.new.self c.in-Some.field-0 c.common_word.ensures.text inv.lexing c.if-not-self.false c.in-Some.ensures.lookahead c.common_word.ensures.ahead c.in-Some.ensures.stands) in
    passed_since c.args.self.now c.loop-self.self c.common_word.new.self c.pass_symbol.result c.pass_symbol.new.self inv (inv.lexing.2 c.if-not-self.false) c.common_word.ensures.text (c.pass_symbol.ensures course at) in
    let first = since c.requires.0 c.requires.1 in
    record { ended = first.ended; passed = λ going course lexing. (since course lexing).passed going; lexing = λ course lexing. (since course lexing).lexing; after = first.after }

pub pass_closing_curly-kind-requires : goal.pass_closing_curly-kind-requires
pass_closing_curly-kind-requires c =
    let found = c.in-Fixed-ClosingCurly in
    let course = c.requires.0 in
    let inv = c.loop-self.invariant course c.requires.1 in
    (course, subst (λ it. IsAtWord course (record c.loop-self.self { reader = c.common_word.new.self }) (record { class = it; len = c.in-Some.field-0.len }) (5 * c.in-Some.field-0.len - 2)) (found.is ∙ ap (λ terminal. class.Fixed terminal) (rw found.is at found.field-0-is)) (at_word c.loop-self.self c.common_word.new.self c.in-Some.field-0 c.common_word.ensures.text inv.lexing c.if-not-self.false c.in-Some.ensures.lookahead c.common_word.ensures.ahead c.in-Some.ensures.stands))

pub returns-in-Fixed-ClosingCurly : goal.returns-in-Fixed-ClosingCurly
returns-in-Fixed-ClosingCurly c =
    let found = c.in-Fixed-ClosingCurly in
    let since = λ (course : Course) (lexing : IsLexing course c.args.self.now).
    let inv = c.loop-self.invariant course lexing in
    let at = subst (λ it. IsAtWord course (record c.loop-self.self { reader = c.common_word.new.self }) (record { class = it; len = c.in-Some.field-0.len }) (5 * c.in-Some.field-0.len - 2)) (found.is ∙ ap (λ terminal. class.Fixed terminal) (rw found.is at found.field-0-is)) (at_word c.loop-self.self c.common_word.new.self c.in-Some.field-0 c.common_word.ensures.text inv.lexing c.if-not-self.false c.in-Some.ensures.lookahead c.common_word.ensures.ahead c.in-Some.ensures.stands) in
    passed_since c.args.self.now c.loop-self.self c.common_word.new.self _ c.pass_closing_curly-kind.new.self inv (inv.lexing.2 c.if-not-self.false) c.common_word.ensures.text (c.pass_closing_curly-kind.ensures course at) in
    let first = since c.requires.0 c.requires.1 in
    rw c.passed-in-Fixed-ClosingCurly.ensures (record { ended = first.ended; passed = λ going course lexing. (since course lexing).passed going; lexing = λ course lexing. (since course lexing).lexing; after = first.after })

pub look_further-requires : goal.look_further-requires
look_further-requires c =
    let inv = c.loop-self.invariant c.requires.0 c.requires.1 in
    (c.requires.0, unnamed_here c.loop-self.self c.common_word.new.self c.common_word.ensures.text inv.lexing c.if-not-self.false (c.common_word.ensures.peeked c.in_default-common_word.is) c.common_word.ensures.ahead c.common_word.ensures.code (c.common_word.ensures.none c.in_default-common_word.is) (c.common_word.ensures.rest c.in_default-common_word.is))

pub returns-in_default-look_further : goal.returns-in_default-look_further
returns-in_default-look_further c =
    let since = λ (course : Course) (lexing : IsLexing course c.args.self.now).
    let inv = c.loop-self.invariant course lexing in
    let passed = advances_next course (record c.loop-self.self { reader = c.common_word.new.self }) c.look_further.result c.look_further.new.self c.in_default-look_further.not-Layout (c.look_further.ensures course (unnamed_here c.loop-self.self c.common_word.new.self c.common_word.ensures.text inv.lexing c.if-not-self.false (c.common_word.ensures.peeked c.in_default-common_word.is) c.common_word.ensures.ahead c.common_word.ensures.code (c.common_word.ensures.none c.in_default-common_word.is) (c.common_word.ensures.rest c.in_default-common_word.is))) in
    passed_since c.args.self.now c.loop-self.self c.common_word.new.self _ c.look_further.new.self inv (inv.lexing.2 c.if-not-self.false) c.common_word.ensures.text passed in
    let first = since c.requires.0 c.requires.1 in
    rw c.passed-in_default-look_further.ensures (record { ended = first.ended; passed = λ going course lexing. (since course lexing).passed going; lexing = λ course lexing. (since course lexing).lexing; after = first.after })

pub pass_string-requires : goal.pass_string-requires
pass_string-requires c =
    let opener = c.in-Opener-Text-default-default in
    let kind = rw opener.is at opener.kind-is in
    let course = c.requires.0 in
    let inv = c.loop-self.invariant course c.requires.1 in
    (course, subst (λ it. IsAtWord course (record c.loop-self.self { reader = c.common_word.new.self }) (record { class = it; len = c.in-Some.field-0.len }) (5 * c.in-Some.field-0.len - 2)) (opener.is ∙ ap (λ kind. class.Opener kind opener.is_raw opener.quote) kind) (at_word c.loop-self.self c.common_word.new.self c.in-Some.field-0 c.common_word.ensures.text inv.lexing c.if-not-self.false c.in-Some.ensures.lookahead c.common_word.ensures.ahead c.in-Some.ensures.stands))

pub returns-in-Opener-Text-default-default : goal.returns-in-Opener-Text-default-default
returns-in-Opener-Text-default-default c =
    let since = λ (course : Course) (lexing : IsLexing course c.args.self.now).
    let inv = c.loop-self.invariant course lexing in
    let opener = c.in-Opener-Text-default-default in
    let kind = rw opener.is at opener.kind-is in
    passed_since c.args.self.now c.loop-self.self c.common_word.new.self c.pass_string.result c.pass_string.new.self inv (inv.lexing.2 c.if-not-self.false) c.common_word.ensures.text (c.pass_string.ensures course (subst (λ it. IsAtWord course (record c.loop-self.self { reader = c.common_word.new.self }) (record { class = it; len = c.in-Some.field-0.len }) (5 * c.in-Some.field-0.len - 2)) (opener.is ∙ ap (λ kind. class.Opener kind opener.is_raw opener.quote) kind) (at_word c.loop-self.self c.common_word.new.self c.in-Some.field-0 c.common_word.ensures.text inv.lexing c.if-not-self.false c.in-Some.ensures.lookahead c.common_word.ensures.ahead c.in-Some.ensures.stands))) in
    let first = since c.requires.0 c.requires.1 in
    record { ended = first.ended; passed = λ going course lexing. (since course lexing).passed going; lexing = λ course lexing. (since course lexing).lexing; after = first.after }

pub loop-self-preserved-in-Passed : goal.loop-self-preserved-in-Passed
loop-self-preserved-in-Passed c = λ course lexing.
    let inv = c.loop-self.invariant course lexing in
    let at = rw c.in-LineEnd.is at (at_word c.loop-self.self c.common_word.new.self c.in-Some.field-0 c.common_word.ensures.text inv.lexing c.if-not-self.false c.in-Some.ensures.lookahead c.common_word.ensures.ahead c.in-Some.ensures.stands) in
    (found_passed c.args.self.now c.loop-self.self c.common_word.new.self c.take_line_end.new.self class.LineEnd c.in-Some.field-0.len inv c.common_word.ensures.text c.take_line_end.ensures.text c.common_word.ensures.onward at (rw c.in-Passed.is at (c.in-Ok.ensures.ahead _ _ _ at.ahead)) (c.in-Ok.ensures.code c.in-Passed.is) (c.in-Ok.ensures.taken c.in-Passed.is)).0

pub step_over-requires-clause-fits : goal.step_over-requires-clause-fits
step_over-requires-clause-fits c =
    let inv = c.loop-self.invariant c.requires.0 c.requires.1 in
    let at = rw c.in-Skipped.is at (at_word c.loop-self.self c.common_word.new.self c.in-Some.field-0 c.common_word.ensures.text inv.lexing c.if-not-self.false c.in-Some.ensures.lookahead c.common_word.ensures.ahead c.in-Some.ensures.stands) in
    (word_inside_text c.common_word.new.self _ (word_sound (record c.loop-self.self { reader = c.common_word.new.self }) _ _ at) at.stands).1

-- the skipped piece was passed
gap : (c : After-step_over) (course : Course) → IsLexing course c.args.self.now → IsGoingOn course c.args.self.now (record c.loop-self.self { reader = c.step_over.new.self }) × (left_to_pass (record c.loop-self.self { reader = c.step_over.new.self }) < left_to_pass c.loop-self.self)
gap c course lexing =
    let inv = c.loop-self.invariant course lexing in
    let first = c.loop-self.self in
    let mid = c.common_word.new.self in
    let new = c.step_over.new.self in
    let len = c.in-Some.field-0.len in
    let stepped = c.step_over.ensures in
    let at = rw c.in-Skipped.is at (at_word c.loop-self.self c.common_word.new.self c.in-Some.field-0 c.common_word.ensures.text inv.lexing c.if-not-self.false c.in-Some.ensures.lookahead c.common_word.ensures.ahead c.in-Some.ensures.stands) in
    let sound = word_sound (record first { reader = mid }) _ _ at in
    let some = (word_inside_text mid _ sound at.stands).0 in
    found_passed c.args.self.now first mid new class.Skipped len inv c.common_word.ensures.text (ap (λ (reader : Reader). reader.text) stepped) c.common_word.ensures.onward at (gap_passed mid new len sound at.stands stepped _ _ _ at.ahead) (step_in_code mid new _ len _ at.stands stepped) (step_taken mid new len _ some stepped)

pub loop-self-preserved : goal.loop-self-preserved
loop-self-preserved c = λ course lexing. (gap c course lexing).0

pub loop-self-smaller : goal.loop-self-smaller
loop-self-smaller c = (gap (goal.at.loop-self-smaller c).After-step_over c.requires.0 c.requires.1).1

pub returns-in-Fault : goal.returns-in-Fault
returns-in-Fault c =
    let since = λ (course : Course) (lexing : IsLexing course c.args.self.now).
    let inv = c.loop-self.invariant course lexing in
    let at = rw c.in-LineEnd.is at (at_word c.loop-self.self c.common_word.new.self c.in-Some.field-0 c.common_word.ensures.text inv.lexing c.if-not-self.false c.in-Some.ensures.lookahead c.common_word.ensures.ahead c.in-Some.ensures.stands) in
    let passed = faulty_margin (record c.loop-self.self { reader = c.common_word.new.self }) c.in-Some.field-0.len c.take_line_end.new.self c.passed-in-Fault.result (ap (λ (p : Passed). p.kind) c.passed-in-Fault.ensures) c.take_line_end.ensures.text at (c.in-Ok.ensures.reads (fault_counts c.in-Ok.line_end c.in-Fault.is)) (rw c.in-Fault.is at (c.in-Ok.ensures.ahead _ _ _ at.ahead)) (c.in-Ok.ensures.end c.in-Fault.is) in
    passed_since c.args.self.now c.loop-self.self c.common_word.new.self _ _ inv (inv.lexing.2 c.if-not-self.false) c.common_word.ensures.text passed in
    let first = since c.requires.0 c.requires.1 in
    record { ended = first.ended; passed = λ going course lexing. (since course lexing).passed going; lexing = λ course lexing. (since course lexing).lexing; after = first.after }

pub overflow_add-self : goal.overflow_add-self
overflow_add-self c =
    let lexing = (c.loop-self.invariant c.requires.0 c.requires.1).lexing in
    let inv = lexing.1 (lexing.2 c.if-not-self.false) in
    let few = lexing.0.few in
    let count : c.match-line_end.self.yielded_count ≡ c.loop-self.self.yielded_count = elim c.match-line_end.branch [
      | in-Pending w ↦ ap (λ (state : LexerState). state.yielded_count) w.self-is
      | in-Newline w ↦ ap (λ (state : LexerState). state.yielded_count) w.self-is
    ] in
    let small : c.match-line_end.self.yielded_count + 1 ≤ 2 ^ 34 = omega (arith, count, inv.0, few) in
    search (rules, small)

pub returns-in-LineEnd : goal.returns-in-LineEnd
returns-in-LineEnd c =
    let since = λ (course : Course) (lexing : IsLexing course c.args.self.now).
    let inv = c.loop-self.invariant course lexing in
    let code = c.if-not-self.false in
    let going = inv.lexing.2 code in
    let at = rw c.in-LineEnd.is at (at_word c.loop-self.self c.common_word.new.self c.in-Some.field-0 c.common_word.ensures.text inv.lexing c.if-not-self.false c.in-Some.ensures.lookahead c.common_word.ensures.ahead c.in-Some.ensures.stands) in
    let state = record c.loop-self.self { reader = c.common_word.new.self } in
    let new = c.take_line_end.new.self in
    let len = c.in-Some.field-0.len in
    let found : HasPassedSince course c.args.self.now c.valueless.result (record c.match-line_end.self { yielded_count = c.match-line_end.self.yielded_count + 1 }) = elim c.match-line_end.branch [
      | in-Pending w ↦
          let is = w.in-Pending.is in
          let passed = newline_next state len new false c.take_line_end.ensures.text at c.in-Ok.ensures.cut (c.in-Ok.ensures.reads (pending_counts c.in-Ok.line_end is)) (λ yes. cc) (rw is at (c.in-Ok.ensures.ahead _ _ _ at.ahead)) in
          rw (w.self-is, c.valueless.ensures) (passed_since c.args.self.now c.loop-self.self c.common_word.new.self _ _ inv going c.common_word.ensures.text passed)
      | in-Newline w ↦
          let is = w.in-Newline.is in
          let passed = newline_next state len new state.is_at_code c.take_line_end.ensures.text at c.in-Ok.ensures.cut (c.in-Ok.ensures.reads (newline_counts c.in-Ok.line_end is)) (λ yes. c.in-Ok.ensures.onward is) (rw is at (c.in-Ok.ensures.ahead _ _ _ at.ahead)) in
          rw (w.self-is, c.valueless.ensures) (passed_since c.args.self.now c.loop-self.self c.common_word.new.self _ _ inv going c.common_word.ensures.text passed)
    ] in
    found in
    let first = since c.requires.0 c.requires.1 in
    record { ended = first.ended; passed = λ going course lexing. (since course lexing).passed going; lexing = λ course lexing. (since course lexing).lexing; after = first.after }

pub pass_word-kind-requires-clause-here : goal.pass_word-kind-requires-clause-here
pass_word-kind-requires-clause-here c =
    let inv = c.loop-self.invariant c.requires.0 c.requires.1 in
    (c.requires.0, word_by_more (record c.loop-self.self { reader = c.common_word.new.self }) c.in-Some.field-0 (5 * c.in-Some.field-0.len - 2) _ (most_few c.in-Some.field-0).0 (at_word c.loop-self.self c.common_word.new.self c.in-Some.field-0 c.common_word.ensures.text inv.lexing c.if-not-self.false c.in-Some.ensures.lookahead c.common_word.ensures.ahead c.in-Some.ensures.stands))

pub pass_word-kind-requires-clause-slow : goal.pass_word-kind-requires-clause-slow
pass_word-kind-requires-clause-slow c =
    let comment = c.in-Some.ensures.comment in
    elim c.in_default-class.branch [
      | in_default-class-via-in-Opener+in_default w ↦ search rules
      | in_default-class-via-in_default w ↦ search (rules, comment)
    ]

pub returns-in_default-class : goal.returns-in_default-class
returns-in_default-class c =
    let since = λ (course : Course) (lexing : IsLexing course c.args.self.now).
    let inv = c.loop-self.invariant course lexing in
    passed_since c.args.self.now c.loop-self.self c.common_word.new.self _ c.pass_word-kind.new.self inv (inv.lexing.2 c.if-not-self.false) c.common_word.ensures.text (c.pass_word-kind.ensures course (word_by_more (record c.loop-self.self { reader = c.common_word.new.self }) c.in-Some.field-0 (5 * c.in-Some.field-0.len - 2) _ (most_few c.in-Some.field-0).0 (at_word c.loop-self.self c.common_word.new.self c.in-Some.field-0 c.common_word.ensures.text inv.lexing c.if-not-self.false c.in-Some.ensures.lookahead c.common_word.ensures.ahead c.in-Some.ensures.stands))) in
    let first = since c.requires.0 c.requires.1 in
    rw c.passed-in_default-class.ensures (record { ended = first.ended; passed = λ going course lexing. (since course lexing).passed going; lexing = λ course lexing. (since course lexing).lexing; after = first.after })

-- what isn't known to be code

pub loop-self-preserved-in-Layout : goal.loop-self-preserved-in-Layout
loop-self-preserved-in-Layout c = λ course lexing.
    let inv = c.loop-self.invariant course lexing in
    gone_on c.args.self.now c.loop-self.self c.advance_outside_code.new.self inv c.if-self.false (rw c.in-Layout.is at (c.advance_outside_code.ensures course inv.lexing))

pub returns-in_default : goal.returns-in_default
returns-in_default c =
    let since = λ (course : Course) (lexing : IsLexing course c.args.self.now).
    let inv = c.loop-self.invariant course lexing in
    let passed = advances_next course c.loop-self.self c.advance_outside_code.result c.advance_outside_code.new.self c.in_default.not-Layout (c.advance_outside_code.ensures course inv.lexing) in
    passed_since c.args.self.now c.loop-self.self c.loop-self.self.reader _ c.advance_outside_code.new.self inv c.if-self.false refl passed in
    let first = since c.requires.0 c.requires.1 in
    rw c.passed-in_default.ensures (record { ended = first.ended; passed = λ going course lexing. (since course lexing).passed going; lexing = λ course lexing. (since course lexing).lexing; after = first.after })

-- what has no lexeme, where the first two bytes tell no word
further : (c : In-Layout-look_further) (course : Course) → IsLexing course c.args.self.now → HasGoneOn course c.loop-self.self c.look_further.new.self
further c course lexing =
    let inv = c.loop-self.invariant course lexing in
    gone_from c.loop-self.self c.look_further.new.self c.common_word.new.self c.common_word.ensures.text c.common_word.ensures.onward (rw c.in-Layout-look_further.is at (c.look_further.ensures course (unnamed_here c.loop-self.self c.common_word.new.self c.common_word.ensures.text inv.lexing c.if-not-self.false (c.common_word.ensures.peeked c.in_default-common_word.is) c.common_word.ensures.ahead c.common_word.ensures.code (c.common_word.ensures.none c.in_default-common_word.is) (c.common_word.ensures.rest c.in_default-common_word.is))))

pub loop-self-preserved-in-Layout-look_further : goal.loop-self-preserved-in-Layout-look_further
loop-self-preserved-in-Layout-look_further c = λ course lexing.
    let inv = c.loop-self.invariant course lexing in
    gone_on c.args.self.now c.loop-self.self c.look_further.new.self inv (inv.lexing.2 c.if-not-self.false) (further c course lexing)

pub loop-self-smaller-in-Layout-look_further : goal.loop-self-smaller-in-Layout-look_further
loop-self-smaller-in-Layout-look_further c = (further c c.requires.0 c.requires.1).less

pub returns-in_default-take_line_end-clause-passed : goal.returns-in_default-take_line_end-clause-passed
returns-in_default-take_line_end-clause-passed c = λ going course lexing.
    let inv = c.loop-self.invariant course lexing in
    let at = rw c.in-LineEnd.is at (at_word c.loop-self.self c.common_word.new.self c.in-Some.field-0 c.common_word.ensures.text inv.lexing c.if-not-self.false c.in-Some.ensures.lookahead c.common_word.ensures.ahead c.in-Some.ensures.stands) in
    let before = same_text c.args.self.now c.loop-self.self c.common_word.new.self inv c.common_word.ensures.text in
    let some = c.in_default-take_line_end.ensures.memory _ _ _ at.ahead in
    rw (c.passed-in_default-take_line_end.ensures, c.run_out-kind.ensures.0) (rw before.1 at some)
