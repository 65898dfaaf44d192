-- Words and integers, closed by computing.
use Rattle.std.proofs.Common.{◌≡◌, ℕ, true, false, Some, None, refl}
use Rattle.std.specs.Prelude.{codes, pos, neg_ℤ}
use Rattle.starlark_grammar.specs.Words.{Text, class_in, openers, line_ends, symbols, names, patterns, language}
use Rattle.starlark_grammar.specs.declared.class.Class.{Class}
use Rattle.starlark_grammar.specs.declared.class.Quote.TheVariants.{Double as DoubleQuote}
use Rattle.starlark_grammar.specs.declared.class.LiteralKind.TheVariants.{FString as OfFString}
use Rattle.starlark_grammar.specs.declared.class.Class.TheVariants.{Fixed, Float, Identifier, Decimal, Skipped, Comment, Opener}
use Rattle.starlark_grammar.specs.declared.class.Terminal.TheVariants.{Ellipsis, For}
use Rattle.starlark_grammar.specs.Front.{longest_front, language_front}
use Rattle.starlark_grammar.specs.Numbers.{Small, Big, integer_of, integer_in}

abbrev HasFront : Text → Class → ℕ → Type 0
HasFront text class len = language_front text ≡ Some (class, len)

fronts :
    HasFront (codes "....5") (Fixed Ellipsis) 3
    × HasFront (codes "1e+") Decimal 1
    × HasFront (codes "1.5e-3x") Float 6
    × HasFront (codes "1..2") Float 2
    × HasFront (codes "format") Identifier 6
    × HasFront (codes "for mat") (Fixed For) 3
    × HasFront (codes "# a\r\n") Comment 3
    × HasFront (codes "fr\"x\"") (Opener OfFString true DoubleQuote) 3
    × HasFront (codes "\\\r\nx") Skipped 3
unfolding openers line_ends symbols names patterns language class_in longest_front language_front
fronts = (refl, refl, refl, refl, refl, refl, refl, refl, refl)

numbers :
    (integer_in 10 (codes "2147483647") ≡ Some (Small (pos 2147483647)))
    × (integer_in 10 (codes "2147483648") ≡ Some (Big false (codes "2147483648") 10))
    × (integer_in 16 (codes "00FFFFFFFFFF") ≡ Some (Big false (codes "ffffffffff") 16))
    × (integer_in 10 (codes "-2147483648") ≡ Some (Small (neg_ℤ (pos 2147483648))))
    × (integer_in 8 (codes "+7") ≡ Some (Small (pos 7)))
    × (integer_in 10 (codes "1_000") ≡ None)
    × (integer_in 10 (codes "+") ≡ None)
    × (integer_in 10 (codes "") ≡ None)
unfolding integer_of integer_in
numbers = (refl, refl, refl, refl, refl, refl, refl, refl)
