use Rattle.std.proofs.Common.{arith, refl}
use Rattle.starlark_reader.specs.Inner.Reader.{history_since}
use Rattle.starlark_lexemes.proofs.lexer_state.LexerState.go_on_after_quote.Goals as goal

pub returns-clause-lexing : goal.returns-clause-lexing
returns-clause-lexing c = λ course whole fault here is whole_is.
    let state = here.stores.whole is.standing in
    let ahead = c.go_on_after_quote.ensures.ahead (history_since course.origin whole) state.nesting state.levels (omega (arith, state.few, here.before, is.order, is.inside, is.quote_len, is.rest_len)) in (
      whole_is,
      (λ going. (omega arith, ahead)),
      (λ yes. cc),
      (λ going. c.go_on_after_quote.ensures.reads c.args.text.now),
      (λ yes. cc),
    )

pub returns-clause-begun : goal.returns-clause-begun
returns-clause-begun c = rw (c.go_on_after_quote.ensures.text, c.go_on_after_quote.ensures.unread) refl
