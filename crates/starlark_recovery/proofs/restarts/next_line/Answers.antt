use Rattle.std.proofs.Common.{◌∙◌, ap, arith, drop, not, subst, sym}
use Rattle.std.proofs.lemmas.List.{take_rest}
use Rattle.std.specs.List.{prefix_len}
use Rattle.std.specs.Str.{IsCharBoundary}
use Rattle.starlark_grammar.specs.Margins.{is_lf}
use Rattle.starlark_recovery.proofs.RestartPlaces.{next_line_boundary}
use Rattle.starlark_recovery.proofs.restarts.next_line.Goals as goal
use Rattle.starlark_grammar.specs.Recovery.{next_line}

pub returns-clause-value : goal.returns-clause-value
unfolding next_line
returns-clause-value c =
    omega (arith, c.before_lf_len-len.ensures.value ∙ ap (prefix_len (λ b. not (is_lf b))) (take_rest c.as_bytes.result.now c.args.at ∙ ap (drop c.args.at) c.as_bytes.ensures.value))

pub returns-clause-boundary : goal.returns-clause-boundary
returns-clause-boundary c = subst (IsCharBoundary c.args.text.now) (sym (returns-clause-value c)) (next_line_boundary c.args.text.now c.args.at c.utf8.text c.requires)
