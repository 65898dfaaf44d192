use Rattle.std.proofs.Common.{◌≡◌, ◌+◌, ◌*◌, ◌<◌, ◌^◌, ◌∙◌, ap, get_or, subst, sym, arith, rules}
use Rattle.std.proofs.lemmas.Int.Digits.{digits_value_more}
use Rattle.std.proofs.lemmas.List.Sums.{prefix_len-drop_yes}
use Rattle.std.specs.Char.{digit_value, is_digit}
use Rattle.starlark_words.proofs.LiteralBodies.DigitRuns.{digit_passes, one_more}
use Rattle.starlark_words.proofs.escapes.digits.Goals as goal

pub overflow_mul-number : goal.overflow_mul-number
overflow_mul-number c =
    let less : c.in-Some.digit < c.args.radix = omega (arith, c.in-Some.ensures.value.0, c.in-Some.ensures.value.1) in
    let more = one_more c.args.radix c.loop-len.number c.in-Some.digit c.loop-len.len c.requires.high c.loop-len.invariant.fits less (omega (arith, c.loop-len-test.true, c.requires.few)) in
    let inside : c.loop-len.number * c.args.radix < 2 ^ 32 = omega (arith, more.0, more.1) in
    search (rules, inside)

pub overflow_add-number : goal.overflow_add-number
overflow_add-number c =
    let less : c.in-Some.digit < c.args.radix = omega (arith, c.in-Some.ensures.value.0, c.in-Some.ensures.value.1) in
    let more = one_more c.args.radix c.loop-len.number c.in-Some.digit c.loop-len.len c.requires.high c.loop-len.invariant.fits less (omega (arith, c.loop-len-test.true, c.requires.few)) in
    let inside : c.loop-len.number * c.args.radix + c.in-Some.digit < 2 ^ 32 = omega (arith, more.0, more.1) in
    search (rules, inside)

pub loop-len-preserved : goal.loop-len-preserved
loop-len-preserved c =
    let at : c.from.result ≡ get_or c.args.bytes.now c.loop-len.len 0 = c.from.ensures in
    let less : c.in-Some.digit < c.args.radix = omega (arith, c.in-Some.ensures.value.0, c.in-Some.ensures.value.1) in
    let digit : digit_value (get_or c.args.bytes.now c.loop-len.len 0) < c.args.radix = subst (λ b. digit_value b < c.args.radix) at c.in-Some.ensures.value.0 in
    let counts : c.in-Some.digit ≡ digit_value (get_or c.args.bytes.now c.loop-len.len 0) = c.in-Some.ensures.value.1 ∙ ap digit_value at in
    let on = prefix_len-drop_yes (λ b. is_digit b c.args.radix) c.args.bytes.now c.loop-len.len 0 c.loop-len-test.true (digit_passes c.args.radix (get_or c.args.bytes.now c.loop-len.len 0) digit) in
    record {
      within = omega (arith, c.loop-len-test.true);
      len = omega (arith, c.loop-len.invariant.len, on);
      number = rw (c.loop-len.invariant.number, counts) (sym (digits_value_more c.args.radix c.args.bytes.now c.loop-len.len c.loop-len-test.true));
      fits = (one_more c.args.radix c.loop-len.number c.in-Some.digit c.loop-len.len c.requires.high c.loop-len.invariant.fits less (omega (arith, c.loop-len-test.true, c.requires.few))).0;
    }
