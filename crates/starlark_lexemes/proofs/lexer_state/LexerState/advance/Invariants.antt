use Rattle.starlark_lexemes.specs.Inner.LexerStates.{Course, IsLexing, left_to_pass}
use Rattle.starlark_lexemes.proofs.LexerStates.{IsGoingOn}
use Rattle.starlark_lexemes.proofs.lexer_state.LexerState.advance.Given as goal

abbrev pub invariant-loop-self : goal.invariant-loop-self
invariant-loop-self l = (course : Course) → IsLexing course l.initial.self → IsGoingOn course l.initial.self l.self

abbrev pub decreases-loop-self : goal.decreases-loop-self
decreases-loop-self l = left_to_pass l.self
