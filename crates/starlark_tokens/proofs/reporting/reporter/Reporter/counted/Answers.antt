use Rattle.std.proofs.Common.{◌≡◌, ◌+◌, ◌-◌, ◌^◌, ap, arith, min, refl}
use Rattle.starlark_base.specs.Places.{place_at}
use Rattle.starlark_base.specs.Positions.{pairs_before}
use Rattle.starlark_base.specs.declared.position.Position.{Position}
use Rattle.starlark_tokens.proofs.reporting.reporter.Reporter.counted.Goals as goal

pub returns-in-Utf16-clause-value : goal.returns-in-Utf16-clause-value
returns-in-Utf16-clause-value c =
    let text = c.args.self.now.text.now in
    let at = c.args.position.at in
    let line = ap (λ (p : Position). p.place.line) c.requires.position.known in
    let column = ap (λ (p : Position). p.place.column) c.requires.position.known in
    let pairs = ap (λ (p : Position). p.pairs) c.requires.position.known in
    let counted : c.saturating_add-column.result ≡ min ((place_at text at).column + pairs_before text at) (2 ^ 64 - 1) = omega (arith, c.saturating_add-column.ensures, column, pairs) in
    rw (c.in-Utf16.is, line, pairs, counted) refl
