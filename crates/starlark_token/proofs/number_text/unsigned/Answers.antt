use Rattle.std.proofs.Common.{◌≡◌, true, false, get_or}
use Rattle.starlark_grammar.specs.Words.{is_sign}
use Rattle.starlark_token.proofs.Integers.Signs.{unsigned_signed, unsigned_plain, boundary_after_sign}
use Rattle.starlark_token.proofs.number_text.unsigned.Goals as goal

pub range_from-requires : goal.range_from-requires
range_from-requires c =
    let signed : is_sign (get_or c.args.text.now 0 0) ≡ true = rw (← c.as_bytes.ensures.value, ← c.begins_with_sign.ensures) c.if-begins_with_sign.true in
    λ some. boundary_after_sign c.args.text.now c.utf8.text signed

pub returns-then-begins_with_sign : goal.returns-then-begins_with_sign
returns-then-begins_with_sign c =
    let signed : is_sign (get_or c.args.text.now 0 0) ≡ true = rw (← c.as_bytes.ensures.value, ← c.begins_with_sign.ensures) c.if-begins_with_sign.true in
    rw c.range_from.ensures.value (unsigned_signed c.args.text.now signed)

pub returns-else-begins_with_sign : goal.returns-else-begins_with_sign
returns-else-begins_with_sign c =
    let plain : is_sign (get_or c.args.text.now 0 0) ≡ false = rw (← c.as_bytes.ensures.value, ← c.begins_with_sign.ensures) c.if-begins_with_sign.false in
    unsigned_plain c.args.text.now plain
