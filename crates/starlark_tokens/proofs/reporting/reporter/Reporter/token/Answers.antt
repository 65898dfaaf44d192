use Rattle.std.proofs.Common.{◌≡◌, ◌∙◌, true, [], refl, sym}
use Rattle.starlark_base.specs.Places.{Text}
use Rattle.starlark_token.specs.TokenViews.{TokenView}
use Rattle.starlark_tokens.specs.Reporting.Reports.{has_only_faults, token_report}
use Rattle.starlark_tokens.specs.declared.output_formats.form.Form.{Form}
use Rattle.starlark_tokens.specs.declared.output_formats.form.Form.TheVariants.{Tokens, NamedTokens, Json, Faults, PaintedFaults, JsonFaults, Github, Sarif}
use Rattle.starlark_base.specs.declared.position.Position.{Position}
use Rattle.starlark_tokens.proofs.reporting.reporter.Reporter.token.Goals as goal

no_token : (form : Form) (prefix : Text) (begin end : Position) (node : TokenView) → has_only_faults form ≡ true → token_report form prefix begin end node ≡ []
unfolding token_report
no_token Tokens prefix begin end node is = cc
no_token NamedTokens prefix begin end node is = cc
no_token Json prefix begin end node is = cc
no_token Faults prefix begin end node is = refl
no_token JsonFaults prefix begin end node is = refl
no_token PaintedFaults prefix begin end node is = refl
no_token Github prefix begin end node is = refl
no_token Sarif prefix begin end node is = refl

pub returns-then-has_only_faults-clause-lines : goal.returns-then-has_only_faults-clause-lines
returns-then-has_only_faults-clause-lines c =
    c.clear.ensures.bytes ∙ sym (no_token c.args.self.now.style.form _ _ _ _ (sym c.has_only_faults.ensures ∙ c.if-has_only_faults.true))
