use Rattle.std.proofs.Common.{◌∙◌, ◌==◌, ap, arith, drop, not, subst, sym}
use Rattle.std.proofs.lemmas.List.{take_rest}
use Rattle.std.specs.List.{prefix_len}
use Rattle.std.specs.Str.{IsCharBoundary}
use Rattle.starlark_tokens.proofs.LineStarts.{next_tab_boundary}
use Rattle.starlark_tokens.proofs.told_faults.shown_places.next_tab.Goals as goal

pub returns-clause-value : goal.returns-clause-value
returns-clause-value c =
    let rest = take_rest c.as_bytes.result.now c.args.at ∙ ap (drop c.args.at) c.as_bytes.ensures.value in
    let len = c.before_tab_len.ensures.value ∙ ap (prefix_len (λ b. not (b == 9))) rest in
    omega (arith, len)

pub returns-clause-boundary : goal.returns-clause-boundary
returns-clause-boundary c = subst (IsCharBoundary c.args.text.now) (sym (returns-clause-value c)) (next_tab_boundary c.args.text.now c.args.at c.requires)
