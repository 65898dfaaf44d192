use Rattle.std.proofs.Common.{ap, map, ◌∙◌}
use Rattle.starlark_document.specs.Inner.LexedFronts.{last_newline_at}
use Rattle.starlark_token.specs.Lexemes.{lexeme_view}
use Rattle.starlark_document.proofs.LineEndings.{taken_out}
use Rattle.starlark_document.proofs.segment_lexing.without_closing.Goals as goal

pub returns-then-at-len-clause-lexemes : goal.returns-then-at-len-clause-lexemes
returns-then-at-len-clause-lexemes c =
    taken_out c.args.front.lexemes.items c.remove.new.self.items c.last_newline-at.result
    (c.last_newline-at.ensures.value ∙ ap (λ xs. last_newline_at (map lexeme_view xs)) c.deref.ensures.value)
    c.remove.ensures.items
