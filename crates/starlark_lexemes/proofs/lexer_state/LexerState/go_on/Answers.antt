use Rattle.std.proofs.Common.{arith}
use Rattle.starlark_lexemes.proofs.lexer_state.LexerState.go_on.Goals as goal

pub returns-clause-lexing : goal.returns-clause-lexing
returns-clause-lexing c = λ course text fault here keeps is. (
  is,
  (λ going. (omega arith, c.go_on.ensures.ahead course.origin text _ (here.stores.whole keeps.standing) (omega (arith, here.before, keeps.later)) keeps.boundary)),
  (λ yes. cc),
  (λ going. c.go_on.ensures.reads text keeps.least keeps.most),
  (λ yes. cc),
)
