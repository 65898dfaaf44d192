use Rattle.std.proofs.Common.{◌≡◌, ap, sym, ◌∙◌}
use Rattle.std.specs.Prelude.{option_copied}
use Rattle.starlark_base.specs.Diagnostics.{Diagnosed}
use Rattle.starlark_errors.specs.declared.error.kinds.ErrorKind.{ErrorKind}
use Rattle.starlark_run.proofs.PrintedItems.{exception_line, fault_placed}
use Rattle.starlark_run.proofs.printer.Printer.exception.Goals as goal

pub fault-requires-clause-order : goal.fault-requires-clause-order
fault-requires-clause-order g c =
    (fault_placed c.requires.thrown.0 c.args.text.now c.args.exception.now c.unwrap.result.now c.utf8.text c.requires.thrown.1 (ap (λ (d : Diagnosed ErrorKind). d.span) (sym c.error.ensures) ∙ sym c.span.ensures ∙ ap option_copied c.unwrap.ensures)).order

pub fault-requires-clause-begin : goal.fault-requires-clause-begin
fault-requires-clause-begin g c =
    (fault_placed c.requires.thrown.0 c.args.text.now c.args.exception.now c.unwrap.result.now c.utf8.text c.requires.thrown.1 (ap (λ (d : Diagnosed ErrorKind). d.span) (sym c.error.ensures) ∙ sym c.span.ensures ∙ ap option_copied c.unwrap.ensures)).begin

pub fault-requires-clause-end : goal.fault-requires-clause-end
fault-requires-clause-end g c =
    (fault_placed c.requires.thrown.0 c.args.text.now c.args.exception.now c.unwrap.result.now c.utf8.text c.requires.thrown.1 (ap (λ (d : Diagnosed ErrorKind). d.span) (sym c.error.ensures) ∙ sym c.span.ensures ∙ ap option_copied c.unwrap.ensures)).end

pub returns-clause-writes : goal.returns-clause-writes
returns-clause-writes g c =
    let exception = c.args.exception.now in
    let kind : c.kind.result.now ≡ exception.value = c.kind.ensures ∙ ap (λ (d : Diagnosed ErrorKind). d.value) c.error-2.ensures in
    let line = exception_line c.requires.thrown.0 c.args.name.now c.args.text.now exception c.unwrap.result.now c.kind.result.now c.requires.thrown.1 (ap (λ (d : Diagnosed ErrorKind). d.span) (sym c.error.ensures) ∙ sym c.span.ensures ∙ ap option_copied c.unwrap.ensures) kind in
    rw line at c.fault.ensures.writes
