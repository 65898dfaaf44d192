use Rattle.std.proofs.Common.{◌∷◌, ◌++◌, [], ap, sym, ◌∙◌}
use Rattle.starlark_document.specs.declared.lexed_fronts.LexedFront.{LexedFront}
use Rattle.starlark_document.proofs.FrontItems.{front_line, front_more}
use Rattle.starlark_document.proofs.lexed_fronts.LexedFront.take_lexeme.Goals as goal
use Rattle.starlark_document.proofs.lexed_fronts.LexedFront.take_lexeme.Goals.{then-ends_line, else-ends_line}

pub returns-clause-front : goal.returns-clause-front
returns-clause-front c = λ items is.
    elim c.if-ends_line.branch [
      | then-ends_line w ↦ front_line c.args.text.now items c.args.self.now _ c.args.lexeme is
          (sym c.ends_line.ensures ∙ w.if-ends_line.true) c.requires.within c.requires.boundary
          c.requires.cut (ap (λ (f : LexedFront). f.is_cut) w.self-is ∙ w.can_end-self.ensures)
          (c.in_ok-push.ensures.items ∙ ap (λ (f : LexedFront). f.lexemes.items ++ (c.args.lexeme ∷ [])) w.self-is)
          (ap (λ (f : LexedFront). f.faults) w.self-is)
          (ap (λ (f : LexedFront). f.line_end) w.self-is)
          (ap (λ (f : LexedFront). f.least_len) w.self-is)
      | else-ends_line w ↦ front_more c.args.text.now items c.args.self.now _ c.args.lexeme is c.requires.cut (sym c.ends_line.ensures ∙ w.if-ends_line.false)
          (c.in_ok-push.ensures.items ∙ ap (λ (f : LexedFront). f.lexemes.items ++ (c.args.lexeme ∷ [])) w.self-is)
          (ap (λ (f : LexedFront). f.faults) w.self-is)
          (ap (λ (f : LexedFront). f.line_end) w.self-is)
          (ap (λ (f : LexedFront). f.is_cut) w.self-is)
          (ap (λ (f : LexedFront). f.least_len) w.self-is)
    ]
