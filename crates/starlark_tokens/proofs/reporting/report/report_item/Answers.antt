use Rattle.std.proofs.Common.{◌≡◌, ◌∙◌, ap, string_bytes, subst, sym}
use Rattle.std.specs.Prelude.{IsSome, option_copied}
use Rattle.starlark_base.specs.Diagnostics.{Diagnosed}
use Rattle.starlark_errors.specs.declared.error.kinds.ErrorKind.{ErrorKind}
use Rattle.starlark_tokens.specs.Reporting.Reports.{shown_report}
use Rattle.starlark_tokens.proofs.Reported.{all_shown, given_shown, none_shown, refused_report, some_read, thrown_span}
use Rattle.starlark_tokens.proofs.reporting.report.report_item.Goals as goal

pub unwrap-requires : goal.unwrap-requires
unwrap-requires c =
    let known : option_copied c.span.result ≡ c.in-Err-Error.exception.span = c.span.ensures ∙ ap (λ (d : Diagnosed ErrorKind). d.span) c.error.ensures in
    let some = thrown_span c.requires.answered.0 c.requires.answered.1 c.in-Err-Error.exception (rw (c.in-Err-Error.is, c.in-Err-Error.field-0-is) at c.requires.answered.2) in
    some_read c.span.result (subst IsSome (sym known) some)

pub returns-in_ok-token-in-Ok-clause-lines : goal.returns-in_ok-token-in-Ok-clause-lines
returns-in_ok-token-in-Ok-clause-lines c file next answers =
    let r = c.args.reporter.now in
    let given = given_shown c.args.is_shown r.style (string_bytes r.prefix) r.text.now file next _ (rw c.in-Ok.is at answers) in
    (rw (c.in-Ok.begin-is, c.in-Ok.token-is, c.in-Ok.end-is) at c.in_ok-token-in-Ok.ensures.lines) ∙ sym given

pub returns-then-not-is_shown-clause-lines : goal.returns-then-not-is_shown-clause-lines
returns-then-not-is_shown-clause-lines c file next answers =
    let r = c.args.reporter.now in
    let none = none_shown r.style (string_bytes r.prefix) r.text.now file next c.in-Err-Error.exception (rw (c.in-Err-Error.is, c.in-Err-Error.field-0-is) at answers) in
    c.hide.ensures.lines ∙ sym none ∙ ap (λ b. shown_report b r.style (string_bytes r.prefix) r.text.now next) (sym c.if-not-is_shown.true)

pub returns-in_ok-fault-in-Err-Error-clause-lines : goal.returns-in_ok-fault-in-Err-Error-clause-lines
returns-in_ok-fault-in-Err-Error-clause-lines c file next answers =
    let r = c.args.reporter.now in
    let refused = refused_report r.style (string_bytes r.prefix) r.text.now file next c.in-Err-Error.exception c.unwrap.result.now (rw (c.in-Err-Error.is, c.in-Err-Error.field-0-is) at answers) (ap (λ (d : Diagnosed ErrorKind). d.span) (sym c.error.ensures) ∙ sym c.span.ensures ∙ ap option_copied c.unwrap.ensures) in
    let shown = ap (λ b. shown_report b r.style (string_bytes r.prefix) r.text.now next) c.if-not-is_shown.false ∙ all_shown r.style (string_bytes r.prefix) r.text.now next in
    (rw (c.kind.ensures, c.error-in-Err-Error.ensures) at c.in_ok-fault-in-Err-Error.ensures.lines) ∙ sym refused ∙ sym shown
