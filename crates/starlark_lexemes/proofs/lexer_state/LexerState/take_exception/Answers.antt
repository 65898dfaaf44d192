use Rattle.std.proofs.Common.{rules}
use Rattle.starlark_lexemes.proofs.LexerStates.{fault_going, fault_inside}
use Rattle.starlark_lexemes.proofs.MovedFaults.{thrown}
use Rattle.starlark_lexemes.proofs.lexer_state.LexerState.take_exception.Goals as goal

pub exception-requires-clause-order : goal.exception-requires-clause-order
exception-requires-clause-order c = search (rules, fault_going, fault_inside)

pub exception-requires-clause-fits : goal.exception-requires-clause-fits
exception-requires-clause-fits c = search (rules, fault_going, fault_inside)

pub returns-in-Ok-clause-thrown : goal.returns-in-Ok-clause-thrown
returns-in-Ok-clause-thrown c = λ course lexing.
    let taken = c.in-Some.ensures.last (fault_going c.args.self.now c.requires.fault) course lexing in
    (taken.0, taken.1, thrown c.args.code_map.now taken.0 (c.in-Some.begin, c.in-Some.fault, c.in-Some.end) c.in-Ok.exception taken.2 c.in-Ok.ensures)
