-- A fraction goes before an exponent.
use Rattle.std.proofs.Common.{◌≡◌, drop, refl, sym, ◌∙◌, arith, false, true}
use Rattle.std.proofs.lemmas.List.{take_rest}
use Rattle.starlark_grammar.specs.Words.{begins, is_point}
use Rattle.starlark_words.proofs.LiteralBodies.DigitRuns.{decimal_same}
use Rattle.starlark_words.proofs.Scan.ScannedNumbers.{float_end, fraction_none, fraction_some}
use Rattle.starlark_words.proofs.scanner.numbers.float_end_len.Goals as goal
use Rattle.starlark_words.proofs.scanner.numbers.float_end_len.Goals.{in_default-via-then-text-lt1, in_default-via-else-text-lt1+in_default-1}

pub returns-in_default-clause-value : goal.returns-in_default-clause-value
returns-in_default-clause-value c =
    let no_point : begins is_point c.args.text.now ≡ false = elim c.in_default.branch [
      | in_default-via-then-text-lt1 w ↦ search arith
      | in_default-via-else-text-lt1+in_default-1 w ↦ search arith
    ] in
    sym (float_end c.args.text.now ∙ rw (fraction_none c.args.text.now no_point, ← c.exponent_len.ensures.value) refl)

pub returns-clause-value : goal.returns-clause-value
returns-clause-value c =
    let point : begins is_point c.args.text.now ≡ true = search arith in
    let digits = (rw take_rest at c.digits_len-digits.ensures.value) ∙ decimal_same (drop 1 c.args.text.now) in
    let exponent = rw (take_rest, take_rest) at c.exponent_len-2.ensures.value in
    let whole = rw (fraction_some c.args.text.now point) at (float_end c.args.text.now) in
    let counted = rw (← digits, ← exponent) at whole in
    omega (arith, counted)
