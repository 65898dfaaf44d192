use Rattle.std.proofs.Common.{◌≡◌, ◌↔◌, Bool, IsTrue, is_eq, Less, Equal, Greater, refl, sym, ◌∙◌}
use Rattle.std.proofs.lemmas.Bool.{false≢true}
use Rattle.std.specs.declared.cmp.Ordering.{Ordering}
use Rattle.starlark_base.specs.contracts.codemap.file_span.FileSpanOrd.TheImpl.Laws.{matches_eq-law}
use Rattle.starlark_base.proofs.laws.file_spans_agree.Goals as goal

agree : (b : Bool) (o : Ordering) → b ≡ is_eq o → IsTrue b ↔ (o ≡ Equal)
agree b Less e = (λ t. absurd (false≢true (sym e ∙ t)), λ h. cc)
agree b Equal e = (λ t. refl, λ h. e)
agree b Greater e = (λ t. absurd (false≢true (sym e ∙ t)), λ h. cc)

pub returns-clause-order : goal.returns-clause-order
returns-clause-order c = agree _ _ (matches_eq-law c.args.a.now c.args.b.now)
