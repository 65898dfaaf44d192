use Rattle.std.proofs.Common.{◌≡◌, ap, refl, subst, ◌∙◌}
use Rattle.std.specs.Prelude.{IfSome, Option}
use Rattle.starlark_base.specs.Spans.{ByteSpan}
use Rattle.starlark_c.specs.Records.{fault_bytes, fault_number}
use Rattle.starlark_grammar.specs.Tokens.{Fault}
use Rattle.starlark_c.proofs.recovering.fault_after.Goals as goal

pub returns : goal.returns
returns c file fault thrown =
    let view = c.error_of-error.ensures file fault thrown in
    let bytes : c.bytes_of_fault.result.now ≡ fault_bytes fault.node = subst (λ (o : Option Fault). IfSome o (λ f. c.bytes_of_fault.result.now ≡ fault_bytes f)) view c.bytes_of_fault.ensures in
    let kind : c.number_of_fault.result ≡ fault_number fault.node = subst (λ (o : Option Fault). IfSome o (λ f. c.number_of_fault.result ≡ fault_number f)) view c.number_of_fault.ensures in
    let span = c.span_of-span.ensures file fault thrown in
    let begin : c.get.result ≡ fault.begin = c.get.ensures ∙ c.begin.ensures ∙ ap (λ (s : ByteSpan). s.begin) span in
    let end : c.get-2.result ≡ fault.end = c.get-2.ensures ∙ c.end.ensures ∙ ap (λ (s : ByteSpan). s.end) span in
    rw (kind, begin, end, bytes) refl
