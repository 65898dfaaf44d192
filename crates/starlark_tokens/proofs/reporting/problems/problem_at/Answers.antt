use Rattle.starlark_tokens.proofs.FoundProblems.{refused_found}
use Rattle.starlark_tokens.proofs.reporting.problems.problem_at.Goals as goal

pub returns-in-Err-Error-clause-found : goal.returns-in-Err-Error-clause-found
returns-in-Err-Error-clause-found c file next before answers has =
    refused_found c.args.text.now before file next c.in-Err-Error.exception c.found_fault.result (rw (c.in-Err-Error.is, c.in-Err-Error.field-0-is) at answers)
    (c.found_fault.ensures c.args.text.now (rw (c.in-Err-Error.is, c.in-Err-Error.field-0-is) at c.requires.within) (rw (c.in-Err-Error.is, c.in-Err-Error.field-0-is) at c.requires.between))
