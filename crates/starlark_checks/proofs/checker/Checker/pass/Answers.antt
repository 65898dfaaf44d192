use Rattle.std.proofs.Common.{◌∙◌, ap}
use Rattle.starlark_checks.specs.declared.checker.Checker.{Checker}
use Rattle.starlark_checks.proofs.FoundNothing.{nothing_found}
use Rattle.starlark_checks.proofs.checker.Checker.pass.Goals as goal

pub returns-then-not-may_find-clause-finding : goal.returns-then-not-may_find-clause-finding
returns-then-not-may_find-clause-finding c = λ before h.
    nothing_found c.args.text.now before _ c.role_of-role.result c.note_line_end.new.self.number c.role_of-role.ensures (ap (λ (checker : Checker). checker.number) c.note_line_end.ensures ∙ h.number)
    (λ text begin end line_at is_after_fault stack. c.may_find.ensures text begin end line_at is_after_fault stack c.if-not-may_find.true)
