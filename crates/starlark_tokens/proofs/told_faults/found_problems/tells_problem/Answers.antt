use Rattle.starlark_tokens.proofs.FoundProblems.{characters_told, fault_told}
use Rattle.starlark_tokens.proofs.ProblemReports.{if_ok}
use Rattle.starlark_tokens.proofs.told_faults.found_problems.tells_problem.Goals as goal

pub returns-in-Fault : goal.returns-in-Fault
returns-in-Fault c =
    if_ok _ _ c.tells_exception.result _ _ (λ value told problem found.
    fault_told c.args.filter.now c.args.text.now c.in-Fault.exception value problem told (rw c.in-Fault.is at found)) c.tells_exception.ensures

pub returns-in-Characters : goal.returns-in-Characters
returns-in-Characters c =
    if_ok _ _ c.tells_at.result _ _ (λ value told problem found.
    characters_told c.args.filter.now c.args.text.now c.in-Characters.run' value problem told (rw c.in-Characters.is at found)) c.tells_at.ensures
