use Rattle.std.proofs.Common.{refl}
use Rattle.starlark_token.specs.Lexemes.{lexeme_view}
use Rattle.starlark_token.specs.TextItems.{Given}
use Rattle.starlark_document.proofs.FrontItems.{front_exception}
use Rattle.starlark_document.proofs.lexed_fronts.LexedFront.take.Goals as goal

pub take_lexeme-requires-clause-cut : goal.take_lexeme-requires-clause-cut
take_lexeme-requires-clause-cut c = λ e. c.requires.cut e c.requires.answered.0 (Given (lexeme_view c.in-Ok.lexeme)) (rw c.in-Ok.is refl)

pub returns-in_ok-push-in-Err-Error-clause-front : goal.returns-in_ok-push-in-Err-Error-clause-front
returns-in_ok-push-in-Err-Error-clause-front c file next items answers is =
    front_exception c.args.text.now items c.args.self.now _ file next c.in-Err-Error.exception c.placed_fault.result is
    (rw (c.in-Err-Error.is, c.in-Err-Error.field-0-is) at answers) (λ e. c.requires.cut e file next answers) c.placed_fault.ensures
    refl c.in_ok-push-in-Err-Error.ensures.items refl refl refl
