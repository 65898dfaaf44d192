use Rattle.std.proofs.Common.{ap}
use Rattle.starlark_lexemes.specs.Inner.LexerStates.{Course, IsLexing, StateView}
use Rattle.starlark_lexemes.proofs.PlainLexemes.{item_next, passed_counted, passed_within}
use Rattle.starlark_lexemes.proofs.lexer_state.LexerState.next.Goals as goal

pub item-requires-clause-within : goal.item-requires-clause-within
item-requires-clause-within c =
    let is = c.advance-passed.ensures in
    passed_within c.requires.0 c.args.self.now c.advance-passed.result c.advance-passed.new.self is.ended (λ going. is.passed going c.requires.0 c.requires.1) (ap (λ (v : StateView). v.text) is.after)

pub item-requires-clause-counted : goal.item-requires-clause-counted
item-requires-clause-counted c = passed_counted c.args.self.now c.advance-passed.result c.advance-passed.new.self c.advance-passed.ensures.after

pub returns : goal.returns
returns c =
    let is = c.advance-passed.ensures in
    let next = λ (course : Course) (lexing : IsLexing course c.args.self.now).
    item_next course c.args.self.now c.advance-passed.new.self c.advance-passed.result c.item.result c.item.new.self is.ended (λ going. is.passed going course lexing) (is.lexing course lexing) is.after c.item.ensures in
    let first = next c.requires.0 c.requires.1 in
    record { ended = first.ended; answer = λ going course lexing. (next course lexing).answer going; lexing = λ course lexing. (next course lexing).lexing; after = first.after }
