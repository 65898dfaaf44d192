use Rattle.std.proofs.Common.{◌≡◌, Bool, false, true, refl, sym, ◌∙◌}
use Rattle.std.specs.Prelude.{not}
use Rattle.starlark_document.proofs.lexed_fronts.LexedFront.ends_before.Goals as goal

not_true : (b : Bool) → not b ≡ true → b ≡ false
not_true false e = refl
not_true true e = cc

not_false : (b : Bool) → not b ≡ false → b ≡ true
not_false false e = cc
not_false true e = refl

pub returns-clause-ends : goal.returns-clause-ends
returns-clause-ends c ends file next answers = sym (c.in_ok-is_dedent.ensures.dedent file next answers) ∙ not_true c.in_ok-is_dedent.field-0 ends

pub returns-clause-goes : goal.returns-clause-goes
returns-clause-goes c goes cut file next answers = sym (c.in_ok-is_dedent.ensures.dedent file next answers) ∙ not_false c.in_ok-is_dedent.field-0 goes
