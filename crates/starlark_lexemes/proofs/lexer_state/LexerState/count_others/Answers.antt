use Rattle.std.proofs.Common.{ap, subst, sym}
use Rattle.starlark_reader.specs.Inner.Reader.{IsAtCode}
use Rattle.starlark_reader.specs.declared.reader.Reader.{Reader}
use Rattle.starlark_lexemes.proofs.LexerStates.{same_lexing}
use Rattle.starlark_lexemes.proofs.lexer_state.LexerState.count_others.Goals as goal

pub returns-clause-lexing : goal.returns-clause-lexing
returns-clause-lexing c = λ course lexing.
    let state = c.args.self.now in
    let text = state.reader.text.now in
    let now = lexing.1 c.requires.going in
    let same = c.count_others.ensures.same in
    same_lexing text (record state { reader = c.count_others.new.self }) (ap (λ (reader : Reader). reader.text.now) same) (
      lexing.0,
      (λ on. (now.0, c.count_others.ensures.ahead course.origin text _ _ now.1)),
      lexing.2,
      (λ on. c.count_others.ensures.reads text (lexing.3 on)),
      (λ yes. let here = lexing.4 yes in subst (IsAtCode text) (sym same) (record { stage = here.stage; idle = here.idle; code = here.code })),
    )
