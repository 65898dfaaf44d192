-- The length of an exponent, by its letter, its sign and its digits.
use Rattle.std.proofs.Common.{◌≡◌, drop, refl, sym, ◌∙◌, arith}
use Rattle.std.proofs.lemmas.List.{take_rest}
use Rattle.starlark_grammar.specs.Words.{sign_len, unsigned}
use Rattle.starlark_words.proofs.LiteralBodies.DigitRuns.{decimal_same}
use Rattle.starlark_words.proofs.Scan.ScannedNumbers.{exponent_none, exponent_some, exponent_of_some}
use Rattle.starlark_words.proofs.scanner.numbers.exponent_len.Goals as goal
use Rattle.starlark_words.proofs.scanner.numbers.exponent_len.Goals.{After-digits_len-digits, in-43, in_default-power, in_default-power-2}

pub returns-in_default-clause-value : goal.returns-in_default-clause-value
returns-in_default-clause-value c = sym (exponent_none c.args.text.now (search arith))

pub returns-in_default-2-clause-value : goal.returns-in_default-2-clause-value
returns-in_default-2-clause-value c = sym (exponent_none c.args.text.now (search arith))

sign_is : (c : After-digits_len-digits) → c.if-power-lt1.sign ≡ sign_len (drop 1 c.args.text.now)
sign_is c = elim c.if-power-lt1.branch [
  | in-43 w ↦ rw (w.sign-is, ← take_rest c.args.text.now 1) (search arith)
  | in_default-power w ↦ rw (w.sign-is, ← take_rest c.args.text.now 1) (search arith)
  | in_default-power-2 w ↦ rw (w.sign-is, ← take_rest c.args.text.now 1) (search arith)
]

pub returns-then-digits-eq0-clause-value : goal.returns-then-digits-eq0-clause-value
returns-then-digits-eq0-clause-value c =
    let sign = sign_is (goal.at.returns-then-digits-eq0-clause-value c).After-digits_len-digits in
    let digits = (rw (take_rest, take_rest, sign) at c.digits_len-digits.ensures.value) ∙ decimal_same (unsigned (drop 1 c.args.text.now)) in
    sym (exponent_some c.args.text.now (search arith) ∙ rw (← digits, c.if-digits-eq0.true) refl)

pub returns-else-digits-eq0-clause-value : goal.returns-else-digits-eq0-clause-value
returns-else-digits-eq0-clause-value c =
    let sign = sign_is (goal.at.returns-else-digits-eq0-clause-value c).After-digits_len-digits in
    let digits = (rw (take_rest, take_rest, sign) at c.digits_len-digits.ensures.value) ∙ decimal_same (unsigned (drop 1 c.args.text.now)) in
    sym (exponent_some c.args.text.now (search arith) ∙ rw (← digits, ← sign) (exponent_of_some _ c.digits_len-digits.result c.if-digits-eq0.false))
