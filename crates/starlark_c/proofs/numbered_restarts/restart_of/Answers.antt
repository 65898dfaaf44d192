use Rattle.std.proofs.Common.{◌≡◌, ◌<◌, ◌⊎◌, ◌∙◌, ap, arith, inl, inr, length}
use Rattle.starlark_c.proofs.FaultNumbers.{no_kind, no_span, restarts_at}
use Rattle.starlark_c.proofs.numbered_restarts.restart_of.Goals as goal
use Rattle.starlark_c.proofs.numbered_restarts.restart_of.Goals.{then-kind-eq0-via-then-kind-eq0, then-kind-eq0-via-else-kind-eq0+then-kind-gt-LAST_FAULT}
use Rattle.starlark_c.specs.NumberedRestarts.{AreOf}
use Rattle.starlark_grammar.specs.Tokens.{Fault, Spanned}
use Rattle.starlark_grammar.specs.Words.{Text}
use Rattle.starlark_grammar.specs.Recovery.{restart}

pub returns-then-kind-eq0 : goal.returns-then-kind-eq0
returns-then-kind-eq0 c =
    let other : (c.args.kind ≡ 0) ⊎ (9 < c.args.kind) = elim c.then-kind-eq0.branch [
      | then-kind-eq0-via-then-kind-eq0 w ↦ inl (omega (arith, w.if-kind-eq0.true))
      | then-kind-eq0-via-else-kind-eq0+then-kind-gt-LAST_FAULT w ↦ inr (omega (arith, w.if-kind-gt-LAST_FAULT.true))
    ] in
    no_kind c.args.bytes.now c.args.begin c.args.end c.args.kind other

pub returns-in-None : goal.returns-in-None
returns-in-None c = no_span c.args.bytes.now c.args.begin c.args.end c.args.kind (rw c.in-None.is at c.text_with_span.ensures.none)

pub returns-in-Some : goal.returns-in-Some
returns-in-Some c =
    let has = c.in-Some.ensures.some in
    let value = λ (fault : Spanned Fault) (is : AreOf fault c.args.begin c.args.end c.args.kind). c.restart_after.ensures.value fault is ∙ ap (λ (text : Text). restart text fault) has.0 in
    restarts_at c.args.bytes.now c.args.begin c.args.end c.args.kind c.restart_after.result has.1 (omega (arith, c.if-kind-eq0.false)) (omega (arith, c.if-kind-gt-LAST_FAULT.false)) value (omega (arith, c.restart_after.ensures.within, ap length has.0))
