use Rattle.std.proofs.Common.{◌<◌, Option, length, drop, sym, subst, refl, arith}
use Rattle.std.proofs.lemmas.Bool.Decides.{nat_tests}
use Rattle.std.proofs.lemmas.Str.{IsCharBoundary-from_rest}
use Rattle.std.specs.Str.{IsCharBoundary}
use Rattle.starlark_text.specs.declared.dot_format_parser.FormatErrorKind.{FormatErrorKind}
use Rattle.starlark_text.specs.Formats.{Text, Refuses}
use Rattle.starlark_text.specs.Parsing.{IsToken, IsFault}
use Rattle.starlark_text.proofs.FormatTokens.{answered, refused, token_boundary}
use Rattle.starlark_text.proofs.dot_format_parser.FormatParser.next.Goals as goal

pub overflow_add-self : goal.overflow_add-self
overflow_add-self c =
    let token = answered c.self.inside.at c.in-Ok.len c.range_from-rest.result.now c.in-Ok.token c.in-Ok.ensures in
    let boundary = token_boundary c.self.inside.at c.in-Ok.len c.range_from-rest.result.now c.in-Ok.token c.range_from-rest.utf8 token in
    omega (arith, boundary.0, c.range_from-rest.ensures.len)

pub invariant_of-self : goal.invariant_of-self
invariant_of-self c =
    let text = c.self.inside.text.now in
    let at = c.self.inside.at in
    let token = answered at c.in-Ok.len c.range_from-rest.result.now c.in-Ok.token c.in-Ok.ensures in
    let boundary = token_boundary at c.in-Ok.len c.range_from-rest.result.now c.in-Ok.token c.range_from-rest.utf8 token in
    IsCharBoundary-from_rest text at c.in-Ok.len c.self.invariant.0 (subst (λ (t : Text). IsCharBoundary t c.in-Ok.len) c.range_from-rest.ensures.value boundary)

pub returns-in-Ok : goal.returns-in-Ok
returns-in-Ok c =
    let at = c.self.inside.at in
    let token = answered at c.in-Ok.len c.range_from-rest.result.now c.in-Ok.token c.in-Ok.ensures in
    rw (← c.self.view_is) (c.in_default.is, (c.in-Ok.len, subst (λ (t : Text). IsToken at t c.in-Ok.token c.in-Ok.len) c.range_from-rest.ensures.value token, refl))

pub returns-in-Err : goal.returns-in-Err
returns-in-Err c =
    let some : 0 < length c.range_from-rest.result.now = grind (arith, nat_tests) in
    let fault = refused c.self.inside.at c.range_from-rest.result.now c.in-Err.kind some c.in-Err.ensures in
    let here = subst (Refuses c.in-Err.kind) c.range_from-rest.ensures.value fault in
    rw (← c.self.view_is) (subst (λ (known : Option FormatErrorKind). IsFault known c.in-Err.kind (drop c.self.inside.at c.self.inside.text.now)) (sym c.in_default.is) here, refl, refl)
