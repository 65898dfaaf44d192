use Rattle.std.proofs.Common.{◌≡◌, ap, length, subst}
use Rattle.std.specs.Prelude.{IfSome, Option}
use Rattle.starlark_c.specs.Records.{fault_bytes}
use Rattle.starlark_grammar.specs.Tokens.{Fault}
use Rattle.starlark_c.proofs.recovering.fault_counts.Goals as goal

pub returns : goal.returns
returns c file fault before thrown =
    let view = c.error_of.ensures file fault thrown in
    let bytes : c.bytes_of_fault.result.now ≡ fault_bytes fault.node = subst (λ (o : Option Fault). IfSome o (λ f. c.bytes_of_fault.result.now ≡ fault_bytes f)) view c.bytes_of_fault.ensures in
    ap (λ t. record { lexemes = 0; values = length t; faults = 1 }) bytes
