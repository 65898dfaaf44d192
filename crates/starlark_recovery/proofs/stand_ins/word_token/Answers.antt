use Rattle.std.proofs.Common.{◌≡◌, Some, ap, refl, true, ◌∙◌}
use Rattle.std.proofs.lemmas.Option.{same_Some}
use Rattle.starlark_grammar.specs.Numbers.{integer_in, integer_of, is_number}
use Rattle.starlark_grammar.specs.Tokens.{Identifier, Int}
use Rattle.starlark_grammar.specs.Words.{Text}
use Rattle.starlark_token.specs.TokenViews.{Whole, token_view}
use Rattle.starlark_recovery.proofs.stand_ins.word_token.Goals as goal

-- a number writes its integer
writes : (text : Text) → is_number 10 text ≡ true → integer_in 10 text ≡ Some (integer_of 10 text)
unfolding integer_in
writes text is = rw is refl

pub returns-in_ok-from_str-in-ReservedKeyword : goal.returns-in_ok-from_str-in-ReservedKeyword
unfolding token_view
returns-in_ok-from_str-in-ReservedKeyword c = rw c.in-ReservedKeyword.is (ap (λ (t : Text). Some (Whole (Identifier t))) (c.in_ok-from_str-in-ReservedKeyword.ensures.ok ∙ c.deref.ensures))

pub returns-in_ok-number_of-in-StartsZero : goal.returns-in_ok-number_of-in-StartsZero
unfolding token_view
returns-in_ok-number_of-in-StartsZero c =
    let number : is_number 10 c.deref-in-StartsZero.result.now ≡ true = rw c.deref-in-StartsZero.ensures (rw c.in-StartsZero.is at c.requires) in
    rw c.in-StartsZero.is (ap (λ it. Some (Whole (Int it))) (same_Some _ _ (c.in_ok-number_of-in-StartsZero.ensures.value ∙ writes c.deref-in-StartsZero.result.now number)) ∙ ap (λ (t : Text). Some (Whole (Int (integer_of 10 t)))) c.deref-in-StartsZero.ensures)
