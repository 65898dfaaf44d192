use Rattle.std.proofs.Common.{◌≡◌, subst}
use Rattle.starlark_c.proofs.ErrorMessages.{error_told}
use Rattle.starlark_c.specs.Messages.{fault_message}
use Rattle.starlark_c.specs.Records.{fault_number}
use Rattle.starlark_token.specs.FaultTexts.{fault_text}
use Rattle.starlark_c.proofs.starlark_fault_message.Goals as goal

pub returns-clause-errors : goal.returns-clause-errors
returns-clause-errors c error fault is number named =
    let told = subst (λ text. fault_message (fault_number fault) text ≡ fault_text error) named (error_told error fault is) in
    subst (λ kind. fault_message kind c.args.named.now ≡ fault_text error) number told
