use Rattle.std.proofs.Common.{◌≡◌, ◌+◌, length, refl, Some, ap, subst, ◌∙◌, arith}
use Rattle.std.specs.Prelude.{IfSome, Option}
use Rattle.starlark_c.specs.Inner.Filling.{put, wanted_by}
use Rattle.starlark_c.specs.Records.{fault_bytes, fault_number}
use Rattle.starlark_base.specs.Spans.{ByteSpan}
use Rattle.starlark_grammar.specs.Tokens.{Fault, Spanned}
use Rattle.starlark_errors.specs.Exceptions.{IsException, IsFaultIn}
use Rattle.starlark_c.proofs.filling.put_fault.Goals as goal

pub returns-in_default : goal.returns-in_default
returns-in_default c fault has =
    let file = c.requires.thrown.0 in
    let thrown : IsException file fault c.args.exception.now = subst (λ (o : Option (Spanned Fault)). IsFaultIn file o (Some c.args.exception.now)) has c.requires.thrown.1 in
    let view = c.error_of-error.ensures file fault thrown in
    let bytes : c.bytes_of_fault-bytes.result.now ≡ fault_bytes fault.node = subst (λ (o : Option Fault). IfSome o (λ f. c.bytes_of_fault-bytes.result.now ≡ fault_bytes f)) view c.bytes_of_fault-bytes.ensures in
    let lexemes = c.args.filled.lexemes in
    let at = c.args.filled.values in
    let same : lexemes + 0 ≡ lexemes = omega arith in (
      omega (arith, c.in_default.ensures.none.0, ap length bytes),
      c.in_default.ensures.none.1,
      c.with.ensures ∙ ap (λ k. wanted_by k (at + length c.bytes_of_fault-bytes.result.now)) same ∙ ap (λ t. wanted_by lexemes (at + length t)) bytes,
    )

pub returns : goal.returns
returns c fault has =
    let file = c.requires.thrown.0 in
    let thrown : IsException file fault c.args.exception.now = subst (λ (o : Option (Spanned Fault)). IsFaultIn file o (Some c.args.exception.now)) has c.requires.thrown.1 in
    let view = c.error_of-error.ensures file fault thrown in
    let bytes : c.bytes_of_fault-bytes.result.now ≡ fault_bytes fault.node = subst (λ (o : Option Fault). IfSome o (λ f. c.bytes_of_fault-bytes.result.now ≡ fault_bytes f)) view c.bytes_of_fault-bytes.ensures in
    let kind : c.number_of_fault.result ≡ fault_number fault.node = subst (λ (o : Option Fault). IfSome o (λ f. c.number_of_fault.result ≡ fault_number f)) view c.number_of_fault.ensures in
    let span = c.span_of-span.ensures file fault thrown in
    let begin : c.get.result ≡ fault.begin = c.get.ensures ∙ c.begin.ensures ∙ ap (λ (s : ByteSpan). s.begin) span in
    let end : c.get-2.result ≡ fault.end = c.get-2.ensures ∙ c.end.ensures ∙ ap (λ (s : ByteSpan). s.end) span in
    let some = c.in-Some.ensures.some in
    let at = c.args.filled.values in (
      omega (arith, some.0, some.1, ap length bytes),
      some.2 ∙ ap (λ t. put at t c.args.values.now) bytes,
      ap (λ k. record { lexemes = c.args.filled.lexemes; values = k }) (some.0 ∙ ap (λ t. at + length t) bytes),
      rw (kind, begin, end, bytes) refl,
    )
