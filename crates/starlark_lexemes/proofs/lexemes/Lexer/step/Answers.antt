use Rattle.std.proofs.Common.{◌≡◌, ◌∙◌, ap, true, false, subst, sym, ℕ, None, Some, Err, Result}
use Rattle.std.specs.Prelude.{◌||◌, IfSome, OnOk, Ok, Option}
use Rattle.starlark_grammar.specs.Words.{Text}
use Rattle.starlark_lexemes.specs.CutAfter.{KnowsCut}
use Rattle.starlark_lexemes.specs.LexerSteps.{IsStepIn, KnowsCutAfter}
use Rattle.starlark_lexemes.specs.declared.lexemes.Step.TheVariants.{Other}
use Rattle.std.specs.Option.{is_some}
use Rattle.starlark_base.specs.Diagnostics.{Diagnosed}
use Rattle.starlark_lexemes.specs.Inner.LexerStates.{StateView, has_fault, whole}
use Rattle.starlark_lexemes.specs.Lexer.{AnswersBetween, AnswersNext, AnswersWithin, HasReadFor, LexerView}
use Rattle.starlark_errors.specs.declared.error.kinds.ErrorKind.{ErrorKind}
use Rattle.starlark_text.specs.declared.or_memory.OrMemory.{OrMemory}
use Rattle.starlark_token.specs.declared.tokens.Token.{Token}
use Rattle.starlark_lexemes.proofs.LexerCuts.{answers_cut, knows_cut}
use Rattle.starlark_lexemes.proofs.LexerItems.{lexeme_item, next_between}
use Rattle.starlark_lexemes.proofs.LexerStates.{answers_item, answers_read, answers_within, ends_here, fault_going, moved_item, none_at_end, none_same, thrown_item, thrown_read, thrown_within, whole_lexing}
use Rattle.starlark_lexemes.proofs.PlainLexemes.{item_next, passed_going, passed_plain, passed_reads, plain_counts, plain_goes, some_going, view_after}
use Rattle.starlark_lexemes.proofs.lexemes.Lexer.step.Goals as goal

-- the cut that is known after an answer is known after its step
steps_cut : (text : Text) (count : ℕ) (known : Option ℕ) (answer : Option (Result (ℕ × Token × ℕ) (OrMemory (Diagnosed ErrorKind)))) → IfSome answer (λ item. OnOk item (KnowsCut text count known)) → KnowsCutAfter text count known (Other answer)
steps_cut text count known None is = tt
steps_cut text count known (Some (Ok lexeme)) is = is
steps_cut text count known (Some (Err refused)) is = tt

none_cut : (text : Text) (count : ℕ) (known : Option ℕ) (answer : Option (Result (ℕ × Token × ℕ) (OrMemory (Diagnosed ErrorKind)))) → is_some answer ≡ false → KnowsCutAfter text count known (Other answer)
none_cut text count known None none = tt
none_cut text count known (Some answer) none = cc

none_within : (text : Text) (answer : Option (Result (ℕ × Token × ℕ) (OrMemory (Diagnosed ErrorKind)))) → is_some answer ≡ false → IsStepIn text (Other answer)
none_within text None none = (tt, tt)
none_within text (Some answer) none = cc

true_not_false : true ≡ false → ⊥
true_not_false both = cc

-- a plain lexeme

pub returns-then-is_plain-clause-ended : goal.returns-then-is_plain-clause-ended
returns-then-is_plain-clause-ended c = λ ended.
    let last = c.advance-passed.ensures.ended (ap (λ (v : LexerView). v.has_ended) c.self.view_is ∙ ended) in
    absurd (plain_goes c.advance-passed.result.kind (sym c.is_plain.ensures ∙ c.if-is_plain.true) last.0)

pub returns-then-is_plain-clause-item : goal.returns-then-is_plain-clause-item
returns-then-is_plain-clause-item c = λ on.
    let going : c.self.inside.state.has_ended ≡ false = ap (λ (v : LexerView). v.has_ended) c.self.view_is ∙ on in
    let is = passed_plain (whole c.self.inside.state.reader.text.now) c.self.inside.state c.advance-passed.result.kind c.advance-passed.result c.advance-passed.new.self (sym c.is_plain.ensures ∙ c.if-is_plain.true) (c.advance-passed.ensures.passed going (whole c.self.inside.state.reader.text.now) c.self.invariant) in
    rw (← c.self.view_is) (lexeme_item c.self.inside.state.reader.text.now c.self.inside.state.yielded_count _ is.1.0 is.1.1, is.0)

pub returns-then-is_plain-clause-after : goal.returns-then-is_plain-clause-after
returns-then-is_plain-clause-after c =
    let one = plain_counts c.advance-passed.result.kind (sym c.is_plain.ensures ∙ c.if-is_plain.true) in
    rw (← c.self.view_is) (view_after c.self.inside.code_map c.self.inside.state 1 false c.advance-passed.new.self (rw (one.0, one.1) at c.advance-passed.ensures.after))

pub returns-then-is_plain-clause-cut : goal.returns-then-is_plain-clause-cut
returns-then-is_plain-clause-cut c =
    let plain = sym c.is_plain.ensures ∙ c.if-is_plain.true in
    let one = plain_counts c.advance-passed.result.kind plain in
    let going = passed_going c.self.inside.state c.advance-passed.result c.advance-passed.new.self (plain_goes c.advance-passed.result.kind plain) c.advance-passed.ensures.ended in
    let is = passed_plain (whole c.self.inside.state.reader.text.now) c.self.inside.state c.advance-passed.result.kind c.advance-passed.result c.advance-passed.new.self plain (c.advance-passed.ensures.passed going (whole c.self.inside.state.reader.text.now) c.self.invariant) in
    let after = rw (one.0, one.1) at c.advance-passed.ensures.after in
    knows_cut c.self.inside.state c.advance-passed.new.self _ _ c.self.invariant going is.1 (ap (λ (v : StateView). v.text) after) (ap (λ (v : StateView). v.yielded_count) after) (ap (λ (v : StateView). v.has_ended) after ∙ ap (λ b. b || false) going)

pub returns-then-is_plain-clause-reads : goal.returns-then-is_plain-clause-reads
returns-then-is_plain-clause-reads c = λ on.
    let going : c.self.inside.state.has_ended ≡ false = ap (λ (v : LexerView). v.has_ended) c.self.view_is ∙ on in
    let one = plain_counts c.advance-passed.result.kind (sym c.is_plain.ensures ∙ c.if-is_plain.true) in
    let after = rw (one.0, one.1) at c.advance-passed.ensures.after in
    rw (← c.self.view_is) (passed_reads c.self.inside.state c.advance-passed.new.self (c.advance-passed.ensures.lexing (whole c.self.inside.state.reader.text.now) c.self.invariant) going (ap (λ (v : StateView). v.text) after) (ap (λ (v : StateView). v.has_ended) after))

-- any other item

pub returns-then-is_some-clause-ended : goal.returns-then-is_some-clause-ended
returns-then-is_some-clause-ended c = λ ended.
    let n = item_next (whole c.self.inside.state.reader.text.now) c.self.inside.state c.advance-passed.new.self c.advance-passed.result c.made_item-item.result c.made_item-item.new.self c.advance-passed.ensures.ended (λ going. c.advance-passed.ensures.passed going (whole c.self.inside.state.reader.text.now) c.self.invariant) (c.advance-passed.ensures.lexing (whole c.self.inside.state.reader.text.now) c.self.invariant) c.advance-passed.ensures.after c.made_item-item.ensures in
    let was : c.self.inside.state.has_ended ≡ true = ap (λ (v : LexerView). v.has_ended) c.self.view_is ∙ ended in
    rw (n.ended was).0 tt

pub returns-then-is_some-clause-item : goal.returns-then-is_some-clause-item
returns-then-is_some-clause-item c = λ on.
    let n = item_next (whole c.self.inside.state.reader.text.now) c.self.inside.state c.advance-passed.new.self c.advance-passed.result c.made_item-item.result c.made_item-item.new.self c.advance-passed.ensures.ended (λ going. c.advance-passed.ensures.passed going (whole c.self.inside.state.reader.text.now) c.self.invariant) (c.advance-passed.ensures.lexing (whole c.self.inside.state.reader.text.now) c.self.invariant) c.advance-passed.ensures.after c.made_item-item.ensures in
    let some : is_some c.made_item-item.result ≡ true = (let is = c.is_some.ensures in let yes = c.if-is_some.true in cc) in
    let going = some_going c.self.inside.state c.made_item-item.result c.made_item-item.new.self some n.ended in
    rw (← c.self.view_is) (answers_item c.self.inside.code_map c.self.inside.state c.made_item-item.result c.made_item-item.new.self some (c.self.invariant.1 going).0 (n.answer going))

pub returns-then-is_some-clause-within : goal.returns-then-is_some-clause-within
returns-then-is_some-clause-within c =
    let n = item_next (whole c.self.inside.state.reader.text.now) c.self.inside.state c.advance-passed.new.self c.advance-passed.result c.made_item-item.result c.made_item-item.new.self c.advance-passed.ensures.ended (λ going. c.advance-passed.ensures.passed going (whole c.self.inside.state.reader.text.now) c.self.invariant) (c.advance-passed.ensures.lexing (whole c.self.inside.state.reader.text.now) c.self.invariant) c.advance-passed.ensures.after c.made_item-item.ensures in
    let some : is_some c.made_item-item.result ≡ true = (let is = c.is_some.ensures in let yes = c.if-is_some.true in cc) in
    let going = some_going c.self.inside.state c.made_item-item.result c.made_item-item.new.self some n.ended in
    rw (← c.self.view_is) (
      answers_within (whole c.self.inside.state.reader.text.now) c.self.inside.state c.made_item-item.result c.made_item-item.new.self some c.self.invariant.0 (n.answer going),
      next_between c.self.inside.state.reader.text.now c.self.inside.code_map c.self.inside.state.yielded_count c.made_item-item.result c.self.invariant.0.utf8 (answers_item c.self.inside.code_map c.self.inside.state c.made_item-item.result c.made_item-item.new.self some (c.self.invariant.1 going).0 (n.answer going)),
    )

pub returns-then-is_some-clause-after : goal.returns-then-is_some-clause-after
returns-then-is_some-clause-after c =
    let n = item_next (whole c.self.inside.state.reader.text.now) c.self.inside.state c.advance-passed.new.self c.advance-passed.result c.made_item-item.result c.made_item-item.new.self c.advance-passed.ensures.ended (λ going. c.advance-passed.ensures.passed going (whole c.self.inside.state.reader.text.now) c.self.invariant) (c.advance-passed.ensures.lexing (whole c.self.inside.state.reader.text.now) c.self.invariant) c.advance-passed.ensures.after c.made_item-item.ensures in
    rw (← c.self.view_is) (view_after c.self.inside.code_map c.self.inside.state _ _ c.made_item-item.new.self n.after)

pub returns-then-is_some-clause-cut : goal.returns-then-is_some-clause-cut
returns-then-is_some-clause-cut c =
    let n = item_next (whole c.self.inside.state.reader.text.now) c.self.inside.state c.advance-passed.new.self c.advance-passed.result c.made_item-item.result c.made_item-item.new.self c.advance-passed.ensures.ended (λ going. c.advance-passed.ensures.passed going (whole c.self.inside.state.reader.text.now) c.self.invariant) (c.advance-passed.ensures.lexing (whole c.self.inside.state.reader.text.now) c.self.invariant) c.advance-passed.ensures.after c.made_item-item.ensures in
    let some : is_some c.made_item-item.result ≡ true = (let is = c.is_some.ensures in let yes = c.if-is_some.true in cc) in
    let going = some_going c.self.inside.state c.made_item-item.result c.made_item-item.new.self some n.ended in
    steps_cut _ _ _ c.made_item-item.result (answers_cut c.self.inside.state c.made_item-item.result c.made_item-item.new.self c.self.invariant going (n.answer going) n.after)

pub returns-then-is_some-clause-reads : goal.returns-then-is_some-clause-reads
returns-then-is_some-clause-reads c = λ on.
    let n = item_next (whole c.self.inside.state.reader.text.now) c.self.inside.state c.advance-passed.new.self c.advance-passed.result c.made_item-item.result c.made_item-item.new.self c.advance-passed.ensures.ended (λ going. c.advance-passed.ensures.passed going (whole c.self.inside.state.reader.text.now) c.self.invariant) (c.advance-passed.ensures.lexing (whole c.self.inside.state.reader.text.now) c.self.invariant) c.advance-passed.ensures.after c.made_item-item.ensures in
    let some : is_some c.made_item-item.result ≡ true = (let is = c.is_some.ensures in let yes = c.if-is_some.true in cc) in
    let going = some_going c.self.inside.state c.made_item-item.result c.made_item-item.new.self some n.ended in
    rw (← c.self.view_is) (answers_read (whole c.self.inside.state.reader.text.now) c.self.inside.state c.made_item-item.result c.made_item-item.new.self some going (n.answer going) n.lexing n.after)

pub invariant_of-self-then-not-has_fault : goal.invariant_of-self-then-not-has_fault
invariant_of-self-then-not-has_fault c =
    let n = item_next (whole c.self.inside.state.reader.text.now) c.self.inside.state c.advance-passed.new.self c.advance-passed.result c.made_item-item.result c.made_item-item.new.self c.advance-passed.ensures.ended (λ going. c.advance-passed.ensures.passed going (whole c.self.inside.state.reader.text.now) c.self.invariant) (c.advance-passed.ensures.lexing (whole c.self.inside.state.reader.text.now) c.self.invariant) c.advance-passed.ensures.after c.made_item-item.ensures in
    whole_lexing c.self.inside.state.reader.text.now c.made_item-item.new.self (ap (λ (v : StateView). v.text) n.after) n.lexing

pub returns-then-not-has_fault-clause-ended : goal.returns-then-not-has_fault-clause-ended
returns-then-not-has_fault-clause-ended c = λ ended.
    let n = item_next (whole c.self.inside.state.reader.text.now) c.self.inside.state c.advance-passed.new.self c.advance-passed.result c.made_item-item.result c.made_item-item.new.self c.advance-passed.ensures.ended (λ going. c.advance-passed.ensures.passed going (whole c.self.inside.state.reader.text.now) c.self.invariant) (c.advance-passed.ensures.lexing (whole c.self.inside.state.reader.text.now) c.self.invariant) c.advance-passed.ensures.after c.made_item-item.ensures in
    let was : c.self.inside.state.has_ended ≡ true = ap (λ (v : LexerView). v.has_ended) c.self.view_is ∙ ended in
    rw (n.ended was).0 tt

pub returns-then-not-has_fault-clause-item : goal.returns-then-not-has_fault-clause-item
returns-then-not-has_fault-clause-item c = λ on.
    let n = item_next (whole c.self.inside.state.reader.text.now) c.self.inside.state c.advance-passed.new.self c.advance-passed.result c.made_item-item.result c.made_item-item.new.self c.advance-passed.ensures.ended (λ going. c.advance-passed.ensures.passed going (whole c.self.inside.state.reader.text.now) c.self.invariant) (c.advance-passed.ensures.lexing (whole c.self.inside.state.reader.text.now) c.self.invariant) c.advance-passed.ensures.after c.made_item-item.ensures in
    let none : is_some c.made_item-item.result ≡ false = (let is = c.is_some.ensures in let no = c.if-is_some.false in cc) in
    let going : c.self.inside.state.has_ended ≡ false = ap (λ (v : LexerView). v.has_ended) c.self.view_is ∙ on in
    let faultless : has_fault c.made_item-item.new.self ≡ false = (let is = c.has_fault.ensures in let no = c.if-not-has_fault.true in cc) in
    rw (← c.self.view_is) (ends_here c.self.inside.code_map c.self.inside.state c.made_item-item.result c.made_item-item.new.self none (whole_lexing c.self.inside.state.reader.text.now c.made_item-item.new.self (ap (λ (v : StateView). v.text) n.after) n.lexing) going (n.answer going) n.after faultless).0

pub returns-then-not-has_fault-clause-within : goal.returns-then-not-has_fault-clause-within
returns-then-not-has_fault-clause-within c =
    let none : is_some c.made_item-item.result ≡ false = (let is = c.is_some.ensures in let no = c.if-is_some.false in cc) in
    none_within _ c.made_item-item.result none

pub returns-then-not-has_fault-clause-after : goal.returns-then-not-has_fault-clause-after
returns-then-not-has_fault-clause-after c =
    let n = item_next (whole c.self.inside.state.reader.text.now) c.self.inside.state c.advance-passed.new.self c.advance-passed.result c.made_item-item.result c.made_item-item.new.self c.advance-passed.ensures.ended (λ going. c.advance-passed.ensures.passed going (whole c.self.inside.state.reader.text.now) c.self.invariant) (c.advance-passed.ensures.lexing (whole c.self.inside.state.reader.text.now) c.self.invariant) c.advance-passed.ensures.after c.made_item-item.ensures in
    rw (← c.self.view_is) (view_after c.self.inside.code_map c.self.inside.state _ _ c.made_item-item.new.self n.after)

pub returns-then-not-has_fault-clause-cut : goal.returns-then-not-has_fault-clause-cut
returns-then-not-has_fault-clause-cut c =
    let none : is_some c.made_item-item.result ≡ false = (let is = c.is_some.ensures in let no = c.if-is_some.false in cc) in
    none_cut _ _ _ c.made_item-item.result none

pub returns-then-not-has_fault-clause-reads : goal.returns-then-not-has_fault-clause-reads
returns-then-not-has_fault-clause-reads c = λ on.
    let n = item_next (whole c.self.inside.state.reader.text.now) c.self.inside.state c.advance-passed.new.self c.advance-passed.result c.made_item-item.result c.made_item-item.new.self c.advance-passed.ensures.ended (λ going. c.advance-passed.ensures.passed going (whole c.self.inside.state.reader.text.now) c.self.invariant) (c.advance-passed.ensures.lexing (whole c.self.inside.state.reader.text.now) c.self.invariant) c.advance-passed.ensures.after c.made_item-item.ensures in
    let none : is_some c.made_item-item.result ≡ false = (let is = c.is_some.ensures in let no = c.if-is_some.false in cc) in
    let going : c.self.inside.state.has_ended ≡ false = ap (λ (v : LexerView). v.has_ended) c.self.view_is ∙ on in
    let faultless : has_fault c.made_item-item.new.self ≡ false = (let is = c.has_fault.ensures in let no = c.if-not-has_fault.true in cc) in
    rw (← c.self.view_is) (ends_here c.self.inside.code_map c.self.inside.state c.made_item-item.result c.made_item-item.new.self none (whole_lexing c.self.inside.state.reader.text.now c.made_item-item.new.self (ap (λ (v : StateView). v.text) n.after) n.lexing) going (n.answer going) n.after faultless).1

-- where a fault was reached, its exception is returned, or out of memory in its place

pub take_exception-requires-clause-lexing : goal.take_exception-requires-clause-lexing
take_exception-requires-clause-lexing c =
    let n = item_next (whole c.self.inside.state.reader.text.now) c.self.inside.state c.advance-passed.new.self c.advance-passed.result c.made_item-item.result c.made_item-item.new.self c.advance-passed.ensures.ended (λ going. c.advance-passed.ensures.passed going (whole c.self.inside.state.reader.text.now) c.self.invariant) (c.advance-passed.ensures.lexing (whole c.self.inside.state.reader.text.now) c.self.invariant) c.advance-passed.ensures.after c.made_item-item.ensures in
    (whole c.self.inside.state.reader.text.now, n.lexing)

pub take_exception-requires-clause-end : goal.take_exception-requires-clause-end
take_exception-requires-clause-end c =
    let n = item_next (whole c.self.inside.state.reader.text.now) c.self.inside.state c.advance-passed.new.self c.advance-passed.result c.made_item-item.result c.made_item-item.new.self c.advance-passed.ensures.ended (λ going. c.advance-passed.ensures.passed going (whole c.self.inside.state.reader.text.now) c.self.invariant) (c.advance-passed.ensures.lexing (whole c.self.inside.state.reader.text.now) c.self.invariant) c.advance-passed.ensures.after c.made_item-item.ensures in
    let none : is_some c.made_item-item.result ≡ false = (let is = c.is_some.ensures in let no = c.if-is_some.false in cc) in
    let same = none_same c.self.inside.state c.made_item-item.result c.made_item-item.new.self none n.after in
    let goes = fault_going c.made_item-item.new.self (let is = c.has_fault.ensures in let yes = c.if-not-has_fault.false in cc) in
    none_at_end (whole c.self.inside.state.reader.text.now) c.self.inside.state c.made_item-item.result c.made_item-item.new.self none same.0.0 (n.answer (sym same.1 ∙ goes))

pub returns-clause-ended : goal.returns-clause-ended
returns-clause-ended c = λ ended.
    let n = item_next (whole c.self.inside.state.reader.text.now) c.self.inside.state c.advance-passed.new.self c.advance-passed.result c.made_item-item.result c.made_item-item.new.self c.advance-passed.ensures.ended (λ going. c.advance-passed.ensures.passed going (whole c.self.inside.state.reader.text.now) c.self.invariant) (c.advance-passed.ensures.lexing (whole c.self.inside.state.reader.text.now) c.self.invariant) c.advance-passed.ensures.after c.made_item-item.ensures in
    let none : is_some c.made_item-item.result ≡ false = (let is = c.is_some.ensures in let no = c.if-is_some.false in cc) in
    let same = none_same c.self.inside.state c.made_item-item.result c.made_item-item.new.self none n.after in
    let goes = fault_going c.made_item-item.new.self (let is = c.has_fault.ensures in let yes = c.if-not-has_fault.false in cc) in
    let was : c.self.inside.state.has_ended ≡ true = ap (λ (v : LexerView). v.has_ended) c.self.view_is ∙ ended in
    let both : true ≡ false = sym was ∙ sym same.1 ∙ goes in
    absurd (true_not_false both)

pub returns-clause-item : goal.returns-clause-item
returns-clause-item c = λ on.
    let n = item_next (whole c.self.inside.state.reader.text.now) c.self.inside.state c.advance-passed.new.self c.advance-passed.result c.made_item-item.result c.made_item-item.new.self c.advance-passed.ensures.ended (λ going. c.advance-passed.ensures.passed going (whole c.self.inside.state.reader.text.now) c.self.invariant) (c.advance-passed.ensures.lexing (whole c.self.inside.state.reader.text.now) c.self.invariant) c.advance-passed.ensures.after c.made_item-item.ensures in
    let none : is_some c.made_item-item.result ≡ false = (let is = c.is_some.ensures in let no = c.if-is_some.false in cc) in
    let same = none_same c.self.inside.state c.made_item-item.result c.made_item-item.new.self none n.after in
    let goes = fault_going c.made_item-item.new.self (let is = c.has_fault.ensures in let yes = c.if-not-has_fault.false in cc) in
    let mid = whole_lexing c.self.inside.state.reader.text.now c.made_item-item.new.self (ap (λ (v : StateView). v.text) n.after) n.lexing in
    let few = (mid.1 goes).0 in
    rw (← c.self.view_is) (moved_item {A = Option (Result (ℕ × Token × ℕ) (OrMemory (Diagnosed ErrorKind)))} (AnswersNext c.self.inside.code_map) c.self.inside.state c.made_item-item.new.self (Some (Err c.take_exception.result)) same.0
    (thrown_item c.self.inside.code_map c.made_item-item.new.self c.take_exception.result c.take_exception.new.self few (c.take_exception.ensures.thrown _ mid)))

pub returns-clause-within : goal.returns-clause-within
returns-clause-within c =
    let n = item_next (whole c.self.inside.state.reader.text.now) c.self.inside.state c.advance-passed.new.self c.advance-passed.result c.made_item-item.result c.made_item-item.new.self c.advance-passed.ensures.ended (λ going. c.advance-passed.ensures.passed going (whole c.self.inside.state.reader.text.now) c.self.invariant) (c.advance-passed.ensures.lexing (whole c.self.inside.state.reader.text.now) c.self.invariant) c.advance-passed.ensures.after c.made_item-item.ensures in
    let none : is_some c.made_item-item.result ≡ false = (let is = c.is_some.ensures in let no = c.if-is_some.false in cc) in
    let same = none_same c.self.inside.state c.made_item-item.result c.made_item-item.new.self none n.after in
    let goes = fault_going c.made_item-item.new.self (let is = c.has_fault.ensures in let yes = c.if-not-has_fault.false in cc) in
    let mid = whole_lexing c.self.inside.state.reader.text.now c.made_item-item.new.self (ap (λ (v : StateView). v.text) n.after) n.lexing in
    let few = (mid.1 goes).0 in
    subst (λ (v : LexerView). AnswersWithin v.text (Some (Err c.take_exception.result)) × AnswersBetween v.text (Some (Err c.take_exception.result))) c.self.view_is (
      subst (λ (t : Text). AnswersWithin t (Some (Err c.take_exception.result))) same.0.0 (thrown_within _ c.self.inside.code_map c.made_item-item.new.self c.take_exception.result c.take_exception.new.self mid.0 (c.take_exception.ensures.thrown _ mid)),
      next_between c.self.inside.state.reader.text.now c.self.inside.code_map c.self.inside.state.yielded_count (Some (Err c.take_exception.result)) c.self.invariant.0.utf8
          (moved_item {A = Option (Result (ℕ × Token × ℕ) (OrMemory (Diagnosed ErrorKind)))} (AnswersNext c.self.inside.code_map) c.self.inside.state c.made_item-item.new.self (Some (Err c.take_exception.result)) same.0
          (thrown_item c.self.inside.code_map c.made_item-item.new.self c.take_exception.result c.take_exception.new.self few (c.take_exception.ensures.thrown _ mid))),
    )

pub returns-clause-reads : goal.returns-clause-reads
returns-clause-reads c = λ on.
    let n = item_next (whole c.self.inside.state.reader.text.now) c.self.inside.state c.advance-passed.new.self c.advance-passed.result c.made_item-item.result c.made_item-item.new.self c.advance-passed.ensures.ended (λ going. c.advance-passed.ensures.passed going (whole c.self.inside.state.reader.text.now) c.self.invariant) (c.advance-passed.ensures.lexing (whole c.self.inside.state.reader.text.now) c.self.invariant) c.advance-passed.ensures.after c.made_item-item.ensures in
    let none : is_some c.made_item-item.result ≡ false = (let is = c.is_some.ensures in let no = c.if-is_some.false in cc) in
    let same = none_same c.self.inside.state c.made_item-item.result c.made_item-item.new.self none n.after in
    subst (λ (v : LexerView). HasReadFor v.text (Some (Err c.take_exception.result)) c.take_exception.new.self.reader.reads) c.self.view_is (subst (λ (t : Text). HasReadFor t (Some (Err c.take_exception.result)) c.take_exception.new.self.reader.reads) same.0.0 (thrown_read c.self.inside.code_map c.made_item-item.new.self c.take_exception.result c.take_exception.new.self (c.take_exception.ensures.thrown _ (whole_lexing c.self.inside.state.reader.text.now c.made_item-item.new.self (ap (λ (v : StateView). v.text) n.after) n.lexing))))

-- the lexer goes on in the text that it has

pub invariant_of-self : goal.invariant_of-self
invariant_of-self c = whole_lexing c.self.inside.state.reader.text.now c.advance-passed.new.self (ap (λ (v : StateView). v.text) c.advance-passed.ensures.after) (c.advance-passed.ensures.lexing (whole c.self.inside.state.reader.text.now) c.self.invariant)

pub invariant_of-self-then-is_some : goal.invariant_of-self-then-is_some
invariant_of-self-then-is_some c =
    let n = item_next (whole c.self.inside.state.reader.text.now) c.self.inside.state c.advance-passed.new.self c.advance-passed.result c.made_item-item.result c.made_item-item.new.self c.advance-passed.ensures.ended (λ going. c.advance-passed.ensures.passed going (whole c.self.inside.state.reader.text.now) c.self.invariant) (c.advance-passed.ensures.lexing (whole c.self.inside.state.reader.text.now) c.self.invariant) c.advance-passed.ensures.after c.made_item-item.ensures in
    whole_lexing c.self.inside.state.reader.text.now c.made_item-item.new.self (ap (λ (v : StateView). v.text) n.after) n.lexing

pub invariant_of-self-2 : goal.invariant_of-self-2
invariant_of-self-2 c =
    let n = item_next (whole c.self.inside.state.reader.text.now) c.self.inside.state c.advance-passed.new.self c.advance-passed.result c.made_item-item.result c.made_item-item.new.self c.advance-passed.ensures.ended (λ going. c.advance-passed.ensures.passed going (whole c.self.inside.state.reader.text.now) c.self.invariant) (c.advance-passed.ensures.lexing (whole c.self.inside.state.reader.text.now) c.self.invariant) c.advance-passed.ensures.after c.made_item-item.ensures in
    let mid = whole_lexing c.self.inside.state.reader.text.now c.made_item-item.new.self (ap (λ (v : StateView). v.text) n.after) n.lexing in
    whole_lexing c.made_item-item.new.self.reader.text.now c.take_exception.new.self (ap (λ (v : StateView). v.text) c.take_exception.ensures.after) (c.take_exception.ensures.lexing _ mid)
