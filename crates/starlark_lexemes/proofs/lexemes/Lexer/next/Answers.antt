use Rattle.std.proofs.Common.{◌≡◌, ◌∙◌, ap, true, false, subst, ℕ, Some, Err, Result, sym}
use Rattle.std.specs.Prelude.{Option}
use Rattle.std.specs.Option.{is_some}
use Rattle.starlark_base.specs.Diagnostics.{Diagnosed}
use Rattle.starlark_lexemes.specs.Inner.LexerStates.{StateView, has_fault, whole}
use Rattle.starlark_lexemes.specs.Lexer.{AnswersBetween, AnswersNext, AnswersWithin, HasReadFor, LexerView}
use Rattle.starlark_errors.specs.declared.error.kinds.ErrorKind.{ErrorKind}
use Rattle.starlark_text.specs.declared.or_memory.OrMemory.{OrMemory}
use Rattle.starlark_token.specs.declared.tokens.Token.{Token}
use Rattle.starlark_lexemes.proofs.LexerCuts.{answers_cut}
use Rattle.starlark_lexemes.proofs.LexerItems.{next_between}
use Rattle.starlark_lexemes.proofs.LexerStates.{answers_item, answers_read, answers_within, ends_here, fault_going, moved_item, none_at_end, none_same, thrown_item, thrown_read, thrown_within, whole_lexing}
use Rattle.starlark_lexemes.proofs.PlainLexemes.{some_going, view_after}
use Rattle.starlark_grammar.specs.Words.{Text}
use Rattle.starlark_lexemes.proofs.lexemes.Lexer.next.Goals as goal

pub returns-then-is_some-clause-item : goal.returns-then-is_some-clause-item
returns-then-is_some-clause-item c = λ on.
    let some : is_some c.next-item.result ≡ true = (let is = c.is_some.ensures in let yes = c.if-is_some.true in cc) in
    let going = some_going c.self.inside.state c.next-item.result c.next-item.new.self some c.next-item.ensures.ended in
    rw (← c.self.view_is) (answers_item c.self.inside.code_map c.self.inside.state c.next-item.result c.next-item.new.self some (c.self.invariant.1 going).0 (c.next-item.ensures.answer going (whole c.self.inside.state.reader.text.now) c.self.invariant))

pub returns-then-is_some-clause-within : goal.returns-then-is_some-clause-within
returns-then-is_some-clause-within c =
    let some : is_some c.next-item.result ≡ true = (let is = c.is_some.ensures in let yes = c.if-is_some.true in cc) in
    let going = some_going c.self.inside.state c.next-item.result c.next-item.new.self some c.next-item.ensures.ended in
    rw (← c.self.view_is) (answers_within (whole c.self.inside.state.reader.text.now) c.self.inside.state c.next-item.result c.next-item.new.self some c.self.invariant.0 (c.next-item.ensures.answer going (whole c.self.inside.state.reader.text.now) c.self.invariant))

pub returns-then-is_some-clause-between : goal.returns-then-is_some-clause-between
returns-then-is_some-clause-between c =
    let some : is_some c.next-item.result ≡ true = (let is = c.is_some.ensures in let yes = c.if-is_some.true in cc) in
    let going = some_going c.self.inside.state c.next-item.result c.next-item.new.self some c.next-item.ensures.ended in
    rw (← c.self.view_is)
    (next_between c.self.inside.state.reader.text.now c.self.inside.code_map c.self.inside.state.yielded_count c.next-item.result c.self.invariant.0.utf8
    (answers_item c.self.inside.code_map c.self.inside.state c.next-item.result c.next-item.new.self some (c.self.invariant.1 going).0 (c.next-item.ensures.answer going (whole c.self.inside.state.reader.text.now) c.self.invariant)))

pub returns-then-is_some-clause-after : goal.returns-then-is_some-clause-after
returns-then-is_some-clause-after c =
    let some : is_some c.next-item.result ≡ true = (let is = c.is_some.ensures in let yes = c.if-is_some.true in cc) in
    let going = some_going c.self.inside.state c.next-item.result c.next-item.new.self some c.next-item.ensures.ended in
    rw (← c.self.view_is) (view_after c.self.inside.code_map c.self.inside.state _ _ c.next-item.new.self c.next-item.ensures.after)

pub returns-then-is_some-clause-cut : goal.returns-then-is_some-clause-cut
returns-then-is_some-clause-cut c =
    let some : is_some c.next-item.result ≡ true = (let is = c.is_some.ensures in let yes = c.if-is_some.true in cc) in
    let going = some_going c.self.inside.state c.next-item.result c.next-item.new.self some c.next-item.ensures.ended in
    answers_cut c.self.inside.state c.next-item.result c.next-item.new.self c.self.invariant going (c.next-item.ensures.answer going (whole c.self.inside.state.reader.text.now) c.self.invariant) c.next-item.ensures.after

pub returns-then-is_some-clause-reads : goal.returns-then-is_some-clause-reads
returns-then-is_some-clause-reads c = λ on.
    let some : is_some c.next-item.result ≡ true = (let is = c.is_some.ensures in let yes = c.if-is_some.true in cc) in
    let going = some_going c.self.inside.state c.next-item.result c.next-item.new.self some c.next-item.ensures.ended in
    rw (← c.self.view_is) (answers_read (whole c.self.inside.state.reader.text.now) c.self.inside.state c.next-item.result c.next-item.new.self some going (c.next-item.ensures.answer going (whole c.self.inside.state.reader.text.now) c.self.invariant) (c.next-item.ensures.lexing (whole c.self.inside.state.reader.text.now) c.self.invariant) c.next-item.ensures.after)

pub returns-then-not-has_fault-clause-item : goal.returns-then-not-has_fault-clause-item
returns-then-not-has_fault-clause-item c = λ on.
    let none : is_some c.next-item.result ≡ false = (let is = c.is_some.ensures in let no = c.if-is_some.false in cc) in
    let going : c.self.inside.state.has_ended ≡ false = ap (λ (v : LexerView). v.has_ended) c.self.view_is ∙ on in
    let faultless : has_fault c.next-item.new.self ≡ false = (let is = c.has_fault.ensures in let no = c.if-not-has_fault.true in cc) in
    rw (← c.self.view_is) (ends_here c.self.inside.code_map c.self.inside.state c.next-item.result c.next-item.new.self none (whole_lexing c.self.inside.state.reader.text.now c.next-item.new.self (ap (λ (v : StateView). v.text) c.next-item.ensures.after) (c.next-item.ensures.lexing (whole c.self.inside.state.reader.text.now) c.self.invariant)) going (c.next-item.ensures.answer going (whole c.self.inside.state.reader.text.now) c.self.invariant) c.next-item.ensures.after faultless).0

pub returns-then-not-has_fault-clause-reads : goal.returns-then-not-has_fault-clause-reads
returns-then-not-has_fault-clause-reads c = λ on.
    let none : is_some c.next-item.result ≡ false = (let is = c.is_some.ensures in let no = c.if-is_some.false in cc) in
    let going : c.self.inside.state.has_ended ≡ false = ap (λ (v : LexerView). v.has_ended) c.self.view_is ∙ on in
    let faultless : has_fault c.next-item.new.self ≡ false = (let is = c.has_fault.ensures in let no = c.if-not-has_fault.true in cc) in
    rw (← c.self.view_is) (ends_here c.self.inside.code_map c.self.inside.state c.next-item.result c.next-item.new.self none (whole_lexing c.self.inside.state.reader.text.now c.next-item.new.self (ap (λ (v : StateView). v.text) c.next-item.ensures.after) (c.next-item.ensures.lexing (whole c.self.inside.state.reader.text.now) c.self.invariant)) going (c.next-item.ensures.answer going (whole c.self.inside.state.reader.text.now) c.self.invariant) c.next-item.ensures.after faultless).1

-- where a fault was reached, its exception is returned, or out of memory in its place

pub take_exception-requires-clause-lexing : goal.take_exception-requires-clause-lexing
take_exception-requires-clause-lexing c = (whole c.self.inside.state.reader.text.now, (c.next-item.ensures.lexing (whole c.self.inside.state.reader.text.now) c.self.invariant))

pub take_exception-requires-clause-end : goal.take_exception-requires-clause-end
take_exception-requires-clause-end c =
    let same = none_same c.self.inside.state c.next-item.result c.next-item.new.self (let is = c.is_some.ensures in let no = c.if-is_some.false in cc) c.next-item.ensures.after in
    let goes = fault_going c.next-item.new.self (let is = c.has_fault.ensures in let yes = c.if-not-has_fault.false in cc) in
    none_at_end (whole c.self.inside.state.reader.text.now) c.self.inside.state c.next-item.result c.next-item.new.self (let is = c.is_some.ensures in let no = c.if-is_some.false in cc) same.0.0 (c.next-item.ensures.answer (sym same.1 ∙ goes) (whole c.self.inside.state.reader.text.now) c.self.invariant)

pub returns-clause-item : goal.returns-clause-item
returns-clause-item c = λ on.
    let same = none_same c.self.inside.state c.next-item.result c.next-item.new.self (let is = c.is_some.ensures in let no = c.if-is_some.false in cc) c.next-item.ensures.after in
    let goes = fault_going c.next-item.new.self (let is = c.has_fault.ensures in let yes = c.if-not-has_fault.false in cc) in
    let mid = whole_lexing c.self.inside.state.reader.text.now c.next-item.new.self (ap (λ (v : StateView). v.text) c.next-item.ensures.after) (c.next-item.ensures.lexing (whole c.self.inside.state.reader.text.now) c.self.invariant) in
    rw (← c.self.view_is) (moved_item {A = Option (Result (ℕ × Token × ℕ) (OrMemory (Diagnosed ErrorKind)))} (AnswersNext c.self.inside.code_map) c.self.inside.state c.next-item.new.self (Some (Err c.take_exception.result)) same.0
    (thrown_item c.self.inside.code_map c.next-item.new.self c.take_exception.result c.take_exception.new.self (mid.1 goes).0 (c.take_exception.ensures.thrown _ mid)))

pub returns-clause-within : goal.returns-clause-within
returns-clause-within c =
    let same = none_same c.self.inside.state c.next-item.result c.next-item.new.self (let is = c.is_some.ensures in let no = c.if-is_some.false in cc) c.next-item.ensures.after in
    let mid = whole_lexing c.self.inside.state.reader.text.now c.next-item.new.self (ap (λ (v : StateView). v.text) c.next-item.ensures.after) (c.next-item.ensures.lexing (whole c.self.inside.state.reader.text.now) c.self.invariant) in
    subst (λ (v : LexerView). AnswersWithin v.text (Some (Err c.take_exception.result))) c.self.view_is
    (subst (λ (t : Text). AnswersWithin t (Some (Err c.take_exception.result))) same.0.0 (thrown_within _ c.self.inside.code_map c.next-item.new.self c.take_exception.result c.take_exception.new.self mid.0 (c.take_exception.ensures.thrown _ mid)))

pub returns-clause-between : goal.returns-clause-between
returns-clause-between c =
    let same = none_same c.self.inside.state c.next-item.result c.next-item.new.self (let is = c.is_some.ensures in let no = c.if-is_some.false in cc) c.next-item.ensures.after in
    let goes = fault_going c.next-item.new.self (let is = c.has_fault.ensures in let yes = c.if-not-has_fault.false in cc) in
    let mid = whole_lexing c.self.inside.state.reader.text.now c.next-item.new.self (ap (λ (v : StateView). v.text) c.next-item.ensures.after) (c.next-item.ensures.lexing (whole c.self.inside.state.reader.text.now) c.self.invariant) in
    subst (λ (v : LexerView). AnswersBetween v.text (Some (Err c.take_exception.result))) c.self.view_is
    (next_between c.self.inside.state.reader.text.now c.self.inside.code_map c.self.inside.state.yielded_count (Some (Err c.take_exception.result)) c.self.invariant.0.utf8
    (moved_item {A = Option (Result (ℕ × Token × ℕ) (OrMemory (Diagnosed ErrorKind)))} (AnswersNext c.self.inside.code_map) c.self.inside.state c.next-item.new.self (Some (Err c.take_exception.result)) same.0
    (thrown_item c.self.inside.code_map c.next-item.new.self c.take_exception.result c.take_exception.new.self (mid.1 goes).0 (c.take_exception.ensures.thrown _ mid))))

pub returns-clause-reads : goal.returns-clause-reads
returns-clause-reads c = λ on.
    let same = none_same c.self.inside.state c.next-item.result c.next-item.new.self (let is = c.is_some.ensures in let no = c.if-is_some.false in cc) c.next-item.ensures.after in
    let mid = whole_lexing c.self.inside.state.reader.text.now c.next-item.new.self (ap (λ (v : StateView). v.text) c.next-item.ensures.after) (c.next-item.ensures.lexing (whole c.self.inside.state.reader.text.now) c.self.invariant) in
    subst (λ (v : LexerView). HasReadFor v.text (Some (Err c.take_exception.result)) c.take_exception.new.self.reader.reads) c.self.view_is
    (subst (λ (t : Text). HasReadFor t (Some (Err c.take_exception.result)) c.take_exception.new.self.reader.reads) same.0.0 (thrown_read c.self.inside.code_map c.next-item.new.self c.take_exception.result c.take_exception.new.self (c.take_exception.ensures.thrown _ mid)))

-- the lexer goes on in the text that it has

pub invariant_of-self : goal.invariant_of-self
invariant_of-self c = whole_lexing c.self.inside.state.reader.text.now c.next-item.new.self (ap (λ (v : StateView). v.text) c.next-item.ensures.after) (c.next-item.ensures.lexing (whole c.self.inside.state.reader.text.now) c.self.invariant)

pub invariant_of-self-then-not-has_fault : goal.invariant_of-self-then-not-has_fault
invariant_of-self-then-not-has_fault c = whole_lexing c.self.inside.state.reader.text.now c.next-item.new.self (ap (λ (v : StateView). v.text) c.next-item.ensures.after) (c.next-item.ensures.lexing (whole c.self.inside.state.reader.text.now) c.self.invariant)

pub invariant_of-self-2 : goal.invariant_of-self-2
invariant_of-self-2 c =
    let mid = whole_lexing c.self.inside.state.reader.text.now c.next-item.new.self (ap (λ (v : StateView). v.text) c.next-item.ensures.after) (c.next-item.ensures.lexing (whole c.self.inside.state.reader.text.now) c.self.invariant) in
    whole_lexing c.next-item.new.self.reader.text.now c.take_exception.new.self (ap (λ (v : StateView). v.text) c.take_exception.ensures.after) (c.take_exception.ensures.lexing _ mid)
