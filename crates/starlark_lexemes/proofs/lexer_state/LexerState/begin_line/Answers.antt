use Rattle.std.proofs.Common.{arith, refl}
use Rattle.starlark_lexemes.proofs.lexer_state.LexerState.begin_line.Goals as goal

pub returns-clause-lexing : goal.returns-clause-lexing
returns-clause-lexing c = λ widths levels is. (
  is,
  (λ going. (omega arith, c.begin_line.ensures.ahead widths levels c.args.text.now)),
  (λ yes. cc),
  (λ going. c.begin_line.ensures.reads c.args.text.now),
  (λ yes. cc),
)

pub returns-clause-begun : goal.returns-clause-begun
returns-clause-begun c = rw (c.begin_line.ensures.text, c.begin_line.ensures.unread) refl
