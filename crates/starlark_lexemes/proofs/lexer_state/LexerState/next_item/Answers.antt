use Rattle.std.proofs.Common.{arith, ap, refl, subst, sym, ◌∙◌, IfSome, Option, Some, Ok, Err}
use Rattle.std.specs.Option.{is_some}
use Rattle.starlark_grammar.specs.Laws.{AtBoundaries}
use Rattle.starlark_grammar.specs.Tokens.{Fault, Spanned}
use Rattle.starlark_lexemes.specs.Inner.LexerStates.{HasAnswered}
use Rattle.starlark_lexemes.proofs.LexerItems.{course_between}
use Rattle.starlark_lexemes.proofs.LexerStates.{answers_read, answers_within, fault_going, fault_inside, none_at_end, none_same, refused_something}
use Rattle.starlark_lexemes.proofs.PlainLexemes.{some_going}
use Rattle.starlark_lexemes.proofs.lexer_state.LexerState.next_item.Goals as goal

-- a lexeme

pub returns-in-Some-Ok-clause-found : goal.returns-in-Some-Ok-clause-found
returns-in-Some-Ok-clause-found c = λ going course lexing.
    let answer : HasAnswered course c.args.self.now (Some (Ok c.in-Some-Ok.lexeme)) c.next.new.self = rw c.in-Some-Ok.field-0-is at (c.in-Some-Ok.ensures.answer going course lexing) in
    (answer.0, answer.1, answers_read course c.args.self.now (Some (Ok c.in-Some-Ok.lexeme)) c.next.new.self refl going answer (c.in-Some-Ok.ensures.lexing course lexing) (rw c.in-Some-Ok.field-0-is at c.in-Some-Ok.ensures.after))

pub returns-in-Some-Ok-clause-within : goal.returns-in-Some-Ok-clause-within
returns-in-Some-Ok-clause-within c =
    let course = c.requires.lexing.0 in
    let lexing = c.requires.lexing.1 in
    let going = some_going c.args.self.now c.next.result c.next.new.self (ap is_some c.in-Some-Ok.is) c.next.ensures.ended in
    let answer : HasAnswered course c.args.self.now (Some (Ok c.in-Some-Ok.lexeme)) c.next.new.self = rw c.in-Some-Ok.field-0-is at (c.in-Some-Ok.ensures.answer going course lexing) in
    answers_within course c.args.self.now (Some (Ok c.in-Some-Ok.lexeme)) c.next.new.self refl lexing.0 answer

pub returns-in-Some-Ok-clause-between : goal.returns-in-Some-Ok-clause-between
returns-in-Some-Ok-clause-between c =
    let course = c.requires.lexing.0 in
    let lexing = c.requires.lexing.1 in
    let going = some_going c.args.self.now c.next.result c.next.new.self (ap is_some c.in-Some-Ok.is) c.next.ensures.ended in
    let answer : HasAnswered course c.args.self.now (Some (Ok c.in-Some-Ok.lexeme)) c.next.new.self = rw c.in-Some-Ok.field-0-is at (c.in-Some-Ok.ensures.answer going course lexing) in
    course_between course c.args.self.now.reader.text.now c.args.self.now.yielded_count _ answer.0 lexing.0 answer.1

-- out of memory

pub returns-in-Some-Err-clause-found : goal.returns-in-Some-Err-clause-found
returns-in-Some-Err-clause-found c = λ going course lexing.
    let answer : HasAnswered course c.args.self.now (Some (Err c.in-Some-Err.field-0-0)) c.next.new.self = rw c.in-Some-Err.field-0-is at (c.in-Some-Err.ensures.answer going course lexing) in
    refused_something course c.args.self.now c.in-Some-Err.field-0-0 c.next.new.self answer

-- the end, where the fault is taken

pub take_fault-requires-clause-lexing : goal.take_fault-requires-clause-lexing
take_fault-requires-clause-lexing c = (c.requires.lexing.0, c.next.ensures.lexing c.requires.lexing.0 c.requires.lexing.1)

pub take_fault-requires-clause-end : goal.take_fault-requires-clause-end
take_fault-requires-clause-end c = λ going.
    let same = none_same c.args.self.now c.next.result c.next.new.self (ap is_some c.in-None.is) c.next.ensures.after in
    none_at_end c.requires.lexing.0 c.args.self.now c.next.result c.next.new.self (ap is_some c.in-None.is) same.0.0 (c.next.ensures.answer (sym same.1 ∙ going) c.requires.lexing.0 c.requires.lexing.1)

pub returns-clause-within : goal.returns-clause-within
returns-clause-within c =
    let course = c.requires.lexing.0 in
    let lexing = c.requires.lexing.1 in
    let same = none_same c.args.self.now c.next.result c.next.new.self (ap is_some c.in-None.is) c.next.ensures.after in
    let going = fault_going c.next.new.self (c.in_ok-take_fault-in-None.ensures.some refl) in
    let last = c.in_ok-take_fault-in-None.ensures.last going course (c.next.ensures.lexing course lexing) in
    let within = fault_inside lexing.0 last.0 last.1.has in
    (omega (arith, within.0, last.2.0, last.2.2), omega (arith, within.1, last.2.2), lexing.0.fits)

pub returns-clause-between : goal.returns-clause-between
returns-clause-between c =
    let course = c.requires.lexing.0 in
    let lexing = c.requires.lexing.1 in
    let going = fault_going c.next.new.self (c.in_ok-take_fault-in-None.ensures.some refl) in
    let last = c.in_ok-take_fault-in-None.ensures.last going course (c.next.ensures.lexing course lexing) in
    let edges = subst (λ (f : Option (Spanned Fault)). IfSome f (AtBoundaries c.args.self.now.reader.text.now)) last.1.has lexing.0.fault_edges in
    rw (last.2.0, last.2.2) edges

pub returns-in_err-take_fault-in-None-clause-lexing : goal.returns-in_err-take_fault-in-None-clause-lexing
returns-in_err-take_fault-in-None-clause-lexing c = λ course lexing. let mid = c.next.ensures.lexing course lexing in c.take_fault.ensures.lexing course mid

pub returns-clause-lexing : goal.returns-clause-lexing
returns-clause-lexing c = λ course lexing. let mid = c.next.ensures.lexing course lexing in c.take_fault.ensures.lexing course mid
