use Rattle.std.proofs.Common.{rules}
use Rattle.starlark_lexemes.specs.Inner.LexerStates.{IsTakenNext}
use Rattle.starlark_lexemes.proofs.lexer_state.LexerState.put_read.Goals as goal

pub returns : goal.returns
returns c = λ course at. let taken : IsTakenNext course c.args.self.now c.in-Some.taken = search rules in c.put_taken.ensures course taken
