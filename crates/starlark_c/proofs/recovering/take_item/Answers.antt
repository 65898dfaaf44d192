use Rattle.starlark_c.proofs.Recovered.{goes_after_fault, goes_after_lexeme}
use Rattle.starlark_lexemes.proofs.NextItems.{answers_fault, answers_lexeme}
use Rattle.starlark_c.proofs.recovering.take_item.Goals as goal

pub returns-in-Ok-clause-takes : goal.returns-in-Ok-clause-takes
returns-in-Ok-clause-takes c file found answers = rw (answers_lexeme file found c.in-Ok.lexeme (rw c.in-Ok.is at answers)) (c.add_lexeme.ensures.takes c.args.faults.now)

pub returns-in-Ok-clause-going : goal.returns-in-Ok-clause-going
returns-in-Ok-clause-going c = rw c.in-Ok.is (goes_after_lexeme c.in-Ok.lexeme c.add_lexeme.result c.add_lexeme.ensures.decides)

pub returns-in-Err-Error-clause-takes : goal.returns-in-Err-Error-clause-takes
returns-in-Err-Error-clause-takes c file found answers =
    let item = answers_fault file found c.in-Err-Error.exception (rw (c.in-Err-Error.is, c.in-Err-Error.field-0-is) at answers) in
    rw item.is (c.add_fault.ensures.takes file item.fault c.args.lexemes.now item.thrown)

pub returns-in-Err-Error-clause-going : goal.returns-in-Err-Error-clause-going
returns-in-Err-Error-clause-going c = rw (c.in-Err-Error.is, c.in-Err-Error.field-0-is) (goes_after_fault c.in-Err-Error.exception c.add_fault.result c.add_fault.ensures.decides)
