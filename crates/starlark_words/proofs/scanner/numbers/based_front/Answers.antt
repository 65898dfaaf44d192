-- The digits after a base, if the first of them is one.
use Rattle.std.proofs.Common.{◌≡◌, ◌∙◌, drop, false, true, arith, sym, refl}
use Rattle.std.proofs.lemmas.Bool.Decides.{nat_tests}
use Rattle.std.proofs.lemmas.List.{take_rest}
use Rattle.starlark_grammar.specs.Words.{has_base, is_binary_digit, is_octal_digit}
use Rattle.starlark_grammar.specs.declared.class.Class.TheVariants.{Binary, Hexadecimal, Octal}
use Rattle.std.specs.Char.{is_ascii_hexdigit}
use Rattle.starlark_words.proofs.LiteralBodies.DigitRuns.{hex_same}
use Rattle.starlark_words.proofs.Scan.ScannedNumbers.{hexadecimal_base, octal_base, binary_base, based_digits, is_based_digit, no_based_digit}
use Rattle.starlark_words.proofs.scanner.numbers.based_front.Goals as goal

pub returns-in-48-eq120-default-clause-value : goal.returns-in-48-eq120-default-clause-value
returns-in-48-eq120-default-clause-value c =
    let digits = (rw take_rest at c.digits_len.ensures.value) ∙ hex_same (drop 2 c.args.text.now) in
    let base : has_base 120 88 c.args.text.now ≡ true = search arith in
    rw (hexadecimal_base c.args.text.now base, ← digits) (based_digits Hexadecimal is_ascii_hexdigit c.args.text.now c.digits_len.result digits refl (search arith))

pub returns-in-48-eq111-48-to-55-clause-value : goal.returns-in-48-eq111-48-to-55-clause-value
returns-in-48-eq111-48-to-55-clause-value c =
    let digits = rw take_rest at c.digits_len-in-48-eq111-48-to-55.ensures.value in
    let base : has_base 111 79 c.args.text.now ≡ true = search arith in
    rw (octal_base c.args.text.now base, ← digits) (based_digits Octal is_octal_digit c.args.text.now c.digits_len-in-48-eq111-48-to-55.result digits refl (search arith))

pub returns-in-48-eq98-eq48-clause-value : goal.returns-in-48-eq98-eq48-clause-value
returns-in-48-eq98-eq48-clause-value c =
    let digits = rw take_rest at c.digits_len-in-48-eq98-eq48.ensures.value in
    let base : has_base 98 66 c.args.text.now ≡ true = search arith in
    rw (binary_base c.args.text.now base, ← digits) (based_digits Binary is_binary_digit c.args.text.now c.digits_len-in-48-eq98-eq48.result digits refl (search arith))

pub returns-in_default-clause-value : goal.returns-in_default-clause-value
returns-in_default-clause-value c =
    let none : is_based_digit c.byte_at.result c.byte_at-2.result c.byte_at-3.result ≡ false = search arith in
    sym (no_based_digit c.args.text.now (rw (c.byte_at.ensures, c.byte_at-2.ensures, c.byte_at-3.ensures) at none))

pub returns-in_default-2-clause-value : goal.returns-in_default-2-clause-value
returns-in_default-2-clause-value c =
    let none : is_based_digit c.byte_at.result c.byte_at-2.result c.byte_at-3.result ≡ false = search arith in
    sym (no_based_digit c.args.text.now (rw (c.byte_at.ensures, c.byte_at-2.ensures, c.byte_at-3.ensures) at none))

pub returns-in_default-3-clause-value : goal.returns-in_default-3-clause-value
returns-in_default-3-clause-value c =
    let none : is_based_digit c.byte_at.result c.byte_at-2.result c.byte_at-3.result ≡ false = grind (arith, nat_tests) in
    sym (no_based_digit c.args.text.now (rw (c.byte_at.ensures, c.byte_at-2.ensures, c.byte_at-3.ensures) at none))

pub returns-in_default-4-clause-value : goal.returns-in_default-4-clause-value
returns-in_default-4-clause-value c =
    let none : is_based_digit c.byte_at.result c.byte_at-2.result c.byte_at-3.result ≡ false = search arith in
    sym (no_based_digit c.args.text.now (rw (c.byte_at.ensures, c.byte_at-2.ensures, c.byte_at-3.ensures) at none))

pub returns-in_default-5-clause-value : goal.returns-in_default-5-clause-value
returns-in_default-5-clause-value c =
    let none : is_based_digit c.byte_at.result c.byte_at-2.result c.byte_at-3.result ≡ false = grind (arith, nat_tests) in
    sym (no_based_digit c.args.text.now (rw (c.byte_at.ensures, c.byte_at-2.ensures, c.byte_at-3.ensures) at none))

pub returns-in_default-6-clause-value : goal.returns-in_default-6-clause-value
returns-in_default-6-clause-value c =
    let none : is_based_digit c.byte_at.result c.byte_at-2.result c.byte_at-3.result ≡ false = grind (arith, nat_tests) in
    sym (no_based_digit c.args.text.now (rw (c.byte_at.ensures, c.byte_at-2.ensures, c.byte_at-3.ensures) at none))

pub returns-in_default-7-clause-value : goal.returns-in_default-7-clause-value
returns-in_default-7-clause-value c =
    let none : is_based_digit c.byte_at.result c.byte_at-2.result c.byte_at-3.result ≡ false = grind (arith, nat_tests) in
    sym (no_based_digit c.args.text.now (rw (c.byte_at.ensures, c.byte_at-2.ensures, c.byte_at-3.ensures) at none))
