use Rattle.std.proofs.Common.{ap, arith, refl, subst, sym}
use Rattle.std.proofs.lemmas.Result.{IfOk-weaker, on_err_weaker, on_ok_weaker}
use Rattle.starlark_grammar.specs.Words.{Text}
use Rattle.starlark_reader.specs.Inner.ReadBounds.{HasRead}
use Rattle.starlark_lexemes.proofs.FoundWords.{read_here, taken_here}
use Rattle.starlark_lexemes.proofs.LexerReads.{most_few, peeked_begun, word_inside}
use Rattle.starlark_lexemes.proofs.LexerStates.{next_same}
use Rattle.starlark_lexemes.proofs.lexer_state.LexerState.pass_word.Goals as goal

pub put_taken-requires-clause-taken : goal.put_taken-requires-clause-taken
put_taken-requires-clause-taken c =
    let at = c.requires.here.1 in
    let is = c.take_fstring-taken.ensures in
    (c.requires.here.0, taken_here c.args.self.now _ _ is.text at.text at.going at.few (IfOk-weaker c.take_fstring-taken.result _ _ (λ given takes. takes _ _ _ at.ahead) is.ahead) (on_err_weaker c.take_fstring-taken.result (λ some. some _ _ _ at.ahead) is.memory))

pub put_taken-requires-in-Some-clause-taken : goal.put_taken-requires-in-Some-clause-taken
put_taken-requires-in-Some-clause-taken c =
    let at = c.requires.here.1 in
    let is = c.take_digit-lexeme.ensures in
    (c.requires.here.0, taken_here c.args.self.now _ _ is.text at.text at.going at.few (is.ahead _ _ _ at.ahead) tt)

pub put_taken-requires-then-is_plain_number-clause-taken : goal.put_taken-requires-then-is_plain_number-clause-taken
put_taken-requires-then-is_plain_number-clause-taken c =
    let at = c.requires.here.1 in
    let is = c.take_number-taken.ensures in
    (c.requires.here.0, taken_here c.args.self.now _ _ is.text at.text at.going at.few (IfOk-weaker c.take_number-taken.result _ _ (λ given takes. takes _ _ _ at.ahead) is.ahead) (on_err_weaker c.take_number-taken.result (λ some. some _ _ _ at.ahead) is.memory))

pub put_taken-requires-clause-read : goal.put_taken-requires-clause-read
put_taken-requires-clause-read c =
    let state = c.args.self.now in
    let at = c.requires.here.1 in
    let inside = word_inside state.reader.text.now state.reader _ _ c.args.class c.args.len at.stands.stage at.ahead (sym at.stands.front) in
    let peeked = rw c.in-Opener-FString-default-default.is at at.read in
    on_ok_weaker c.take_fstring-taken.result (λ begun. subst (λ (t : Text). HasRead t c.take_fstring-taken.new.self) (sym (ap (λ t. t.now) c.take_fstring-taken.ensures.text))
    (peeked_begun state.reader.text.now c.args.len state.reader c.take_fstring-taken.new.self inside.0 peeked begun)) c.take_fstring-taken.ensures.begun

pub returns-in-Some : goal.returns-in-Some
returns-in-Some c = λ course at.
    let is = c.take_digit-lexeme.ensures in
    next_same c.args.self.now _ _ c.put_taken-in-Some.new.self (ap (λ t. t.now) is.text, refl) (c.put_taken-in-Some.ensures course (taken_here c.args.self.now _ _ is.text at.text at.going at.few (is.ahead _ _ _ at.ahead) tt))

pub put_read-requires : goal.put_read-requires
put_read-requires c =
    let state = c.args.self.now in
    let at = c.requires.here.1 in
    let few = (most_few (record { class = c.args.class; len = c.args.len })).1 in
    let is = c.refuse_word-read.ensures in (
      c.requires.here.0,
      read_here state c.refuse_word-read.new.self c.refuse_word-read.result is.text at.text at.going at.few at.ahead is.ahead is.end is.memory
          (on_ok_weaker c.refuse_word-read.result (λ reads. reads at.read.0 at.read.1 (at.read.2.0, omega (arith, at.read.2.1, few))) is.reads),
    )

pub returns-in-Opener-FString-default-default : goal.returns-in-Opener-FString-default-default
returns-in-Opener-FString-default-default c = λ course at.
    let is = c.take_fstring-taken.ensures in
    next_same c.args.self.now _ _ c.put_taken.new.self (ap (λ t. t.now) is.text, refl) (c.put_taken.ensures course (taken_here c.args.self.now _ _ is.text at.text at.going at.few (IfOk-weaker c.take_fstring-taken.result _ _ (λ given takes. takes _ _ _ at.ahead) is.ahead) (on_err_weaker c.take_fstring-taken.result (λ some. some _ _ _ at.ahead) is.memory)))

pub returns-then-is_plain_number : goal.returns-then-is_plain_number
returns-then-is_plain_number c = λ course at.
    let is = c.take_number-taken.ensures in
    next_same c.args.self.now _ _ c.put_taken-then-is_plain_number.new.self (ap (λ t. t.now) is.text, refl) (c.put_taken-then-is_plain_number.ensures course (taken_here c.args.self.now _ _ is.text at.text at.going at.few (IfOk-weaker c.take_number-taken.result _ _ (λ given takes. takes _ _ _ at.ahead) is.ahead) (on_err_weaker c.take_number-taken.result (λ some. some _ _ _ at.ahead) is.memory)))

pub returns-else-is_plain_number : goal.returns-else-is_plain_number
returns-else-is_plain_number c = λ course at.
    let state = c.args.self.now in
    let few = (most_few (record { class = c.args.class; len = c.args.len })).1 in
    let is = c.refuse_word-read.ensures in
    next_same state _ _ c.put_read.new.self (ap (λ t. t.now) is.text, refl) (c.put_read.ensures course (read_here state c.refuse_word-read.new.self c.refuse_word-read.result is.text at.text at.going at.few at.ahead is.ahead is.end is.memory
    (on_ok_weaker c.refuse_word-read.result (λ reads. reads at.read.0 at.read.1 (at.read.2.0, omega (arith, at.read.2.1, few))) is.reads)))
