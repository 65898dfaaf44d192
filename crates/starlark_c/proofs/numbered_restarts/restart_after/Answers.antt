use Rattle.std.proofs.Common.{◌==◌, ap, sym, ◌∙◌}
use Rattle.starlark_c.proofs.FaultNumbers.{tab_number}
use Rattle.starlark_c.proofs.numbered_restarts.restart_after.Goals as goal

pub returns-clause-value : goal.returns-clause-value
returns-clause-value c fault is =
    c.restart.ensures.value fault (record { begins = is.begins; ends = is.ends; is_tab = ap (λ k. k == 3) is.is_kind ∙ sym (tab_number fault.node) })
