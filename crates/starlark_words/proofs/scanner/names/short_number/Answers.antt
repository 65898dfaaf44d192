use Rattle.std.proofs.Common.{◌≡◌, ◌++◌, ◌∷◌, [], ap, ◌∙◌, arith, drop, length, nat_eq, refl, true}
use Rattle.std.proofs.lemmas.Bool.{agree_below_at, eqb-true}
use Rattle.std.proofs.lemmas.List.{length-drop, length-append}
use Rattle.starlark_grammar.specs.Words.{Text}
use Rattle.starlark_words.specs.Inner.ScannedWords.{word_number}
use Rattle.starlark_words.proofs.Scan.NameNumbers.{number_of_eight, number_padded}
use Rattle.starlark_words.proofs.scanner.names.short_number.Goals as goal

abbrev zeros : Text
zeros = 0 ∷ 0 ∷ 0 ∷ 0 ∷ 0 ∷ 0 ∷ 0 ∷ 0 ∷ []

pub returns : goal.returns
unfolding word_number
returns c =
    let none : word_number (drop (length c.args.text.now) zeros) ≡ 0 = eqb-true _ _ (agree_below_at (λ n. nat_eq (word_number (drop n zeros)) 0) (λ n. true) 8 (length c.args.text.now) refl c.requires) in
    c.from_le_bytes.ensures ∙ number_of_eight (c.copy_from_slice.new.self ++ drop (length c.args.text.now) zeros) (omega (arith, c.requires, ap length c.copy_from_slice.ensures.after, length-append c.copy_from_slice.new.self (drop (length c.args.text.now) zeros), length-drop (length c.args.text.now) zeros)) ∙ ap (λ (front : Text). word_number (front ++ drop (length c.args.text.now) zeros)) c.copy_from_slice.ensures.after ∙ number_padded c.args.text.now _ none
