use Rattle.std.proofs.Common.{◌≡◌, ap, drop, sym, ◌∙◌, Some}
use Rattle.std.specs.List.{slice_get}
use Rattle.starlark_grammar.specs.Front.{language_front}
use Rattle.starlark_grammar.specs.declared.class.Class.TheVariants as class
use Rattle.starlark_reader.proofs.TakenPieces.TakenNumbers.{digit_here}
use Rattle.starlark_reader.proofs.reader.Reader.single_digit.Goals as goal

pub overflow_sub-result : goal.overflow_sub-result
overflow_sub-result c =
    let rest = drop c.args.self.now.at c.args.self.now.text.now in
    let front : language_front rest ≡ Some (class.Decimal, 1) = rw (c.in-Decimal-eq1.is-0, c.in-Decimal-eq1.is-1) at (sym c.requires.stands.front) in
    (digit_here rest c.in_ok-first.first.now front (ap (λ t. slice_get t 0) (sym c.range_from.ensures.value ∙ sym c.as_bytes.ensures.value) ∙ sym c.in_ok-first.ensures.value)).0

pub returns-clause-digit : goal.returns-clause-digit
returns-clause-digit c =
    let rest = drop c.args.self.now.at c.args.self.now.text.now in
    let front : language_front rest ≡ Some (class.Decimal, 1) = rw (c.in-Decimal-eq1.is-0, c.in-Decimal-eq1.is-1) at (sym c.requires.stands.front) in
    (digit_here rest c.in_ok-first.first.now front (ap (λ t. slice_get t 0) (sym c.range_from.ensures.value ∙ sym c.as_bytes.ensures.value) ∙ sym c.in_ok-first.ensures.value)).1
