-- A base with digits goes before digits with what makes them a float.
use Rattle.std.proofs.Common.{refl, sym, ◌∙◌, arith}
use Rattle.std.proofs.lemmas.List.{take_rest}
use Rattle.starlark_words.proofs.LiteralBodies.DigitRuns.{decimal_same}
use Rattle.starlark_words.proofs.Scan.ScannedNumbers.{number_is_long, number_language, digits_only, digits_and_more}
use Rattle.starlark_words.proofs.scanner.numbers.number_from.Goals as goal
use Rattle.starlark_words.proofs.scanner.numbers.number_from.Goals.{then-more-eq0, else-more-eq0}

pub returns-in-Some-clause-word : goal.returns-in-Some-clause-word
returns-in-Some-clause-word c =
    let whole = number_language c.args.text.now (λ b rest e. omega (arith, rw e at c.type_inv.text 0)) c.requires in
    let based = rw c.in-Some.is at c.based_front.ensures.value in
    sym (whole ∙ rw (← based) refl)

pub returns-clause-word : goal.returns-clause-word
returns-clause-word c =
    let whole = number_language c.args.text.now (λ b rest e. omega (arith, rw e at c.type_inv.text 0)) c.requires in
    let based = rw c.in_default.is at c.based_front.ensures.value in
    let digits = c.digits_len-digits.ensures.value ∙ decimal_same c.args.text.now in
    let more = rw (take_rest, digits) at c.float_end_len-more.ensures.value in
    elim c.if-more-eq0.branch [
      | then-more-eq0 w ↦ sym (whole ∙ rw (← based, ← more, ← digits, w.class-is) (digits_only _ _ w.if-more-eq0.true))
      | else-more-eq0 w ↦ sym (whole ∙ rw (← based, ← more, ← digits, w.class-is) (digits_and_more _ _ w.if-more-eq0.false))
    ]

pub returns-clause-reads : goal.returns-clause-reads
returns-clause-reads c =
    let digits = c.digits_len-digits.ensures.value ∙ decimal_same c.args.text.now in
    let more = rw (take_rest, digits) at c.float_end_len-more.ensures.value in
    let whole = number_is_long c.args.text.now c.requires in
    let long = rw (← more, ← digits) at whole in
    (omega (arith, c.digits_len-digits.ensures.reads, c.float_end_len-more.ensures.reads, c.in_default.ensures.reads), omega (arith, long, c.digits_len-digits.ensures.reads, c.float_end_len-more.ensures.reads, c.float_end_len-more.ensures.few, c.in_default.ensures.reads))
