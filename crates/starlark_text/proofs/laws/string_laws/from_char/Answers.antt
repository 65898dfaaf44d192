use Rattle.std.proofs.Common.{◌≡◌, ◌+◌, ◌-◌, arith, subst, sym}
use Rattle.starlark_text.specs.Strings.{IsFrom}
use Rattle.starlark_text.proofs.Characters.{from_start, nth_none, nth_some}
use Rattle.starlark_text.proofs.laws.string_laws.from_char.Goals as goal

pub returns-then-index-eq0 : goal.returns-then-index-eq0
returns-then-index-eq0 c = from_start c.args.text.now c.args.index c.if-index-eq0.true

pub returns-in_err-nth : goal.returns-in_err-nth
returns-in_err-nth c =
    let next : c.args.index - 1 + 1 ≡ c.args.index = omega arith in
    rw c.from_residual.ensures (nth_none c.args.text.now c.chars-rest.result c.nth.new.self (c.args.index - 1) c.args.index c.chars-rest.ensures.rest c.utf8.text next c.in_err-nth.ensures.ran)

pub returns : goal.returns
returns c =
    let next : c.args.index - 1 + 1 ≡ c.args.index = omega arith in
    subst (IsFrom c.args.text.now c.args.index) (sym c.as_str.ensures) (nth_some c.args.text.now c.chars-rest.result c.nth.new.self c.in_ok-nth.field-0 (c.args.index - 1) c.args.index c.chars-rest.ensures.rest c.utf8.text next c.in_ok-nth.ensures.ran)
