-- Numbers as the reader takes them: what the grammar says of each class.
use Rattle.std.proofs.Common.{◌≡◌, ℕ, ◌≤◌, ◌+◌, ◌-◌, false, true, [], ◌∷◌, Some, ap, length, drop, take, refl, sym, arith, ◌∙◌}
use Rattle.std.proofs.lemmas.Bool.{and_parts}
use Rattle.std.proofs.lemmas.Bool.Decides.{nat_tests}
use Rattle.std.specs.Char.{is_ascii_digit}
use Rattle.std.specs.List.{slice_get}
use Rattle.starlark_grammar.specs.Front.{language_front}
use Rattle.starlark_grammar.specs.Pieces.{Situation, starts_zero, token, word_step}
use Rattle.starlark_grammar.specs.Reading.{History, situation}
use Rattle.starlark_grammar.specs.Words.{Text}
use Rattle.starlark_grammar.specs.declared.class.Class.{Class}
use Rattle.starlark_grammar.specs.declared.class.Class.TheVariants as class
use Rattle.starlark_grammar.proofs.Words.Classes.{word_is_of}
use Rattle.starlark_token.specs.TokenViews.{Whole, token_view}
use Rattle.starlark_token.specs.declared.tokens.Token.{Token}
use Rattle.starlark_words.specs.Inner.ScannedWords.{is_number}
use Rattle.starlark_words.specs.declared.scanner.word.Word.{Word}
use Rattle.starlark_reader.specs.Inner.Nesting.{is_fstring_start, keeps_code}
use Rattle.starlark_reader.specs.Inner.Reader.{IsStateAfter, IsWordHere, Origin, step_here}
use Rattle.starlark_reader.specs.Inner.StepViews.{IsDigitAt, IsStep, number_of}
use Rattle.starlark_reader.specs.Inner.StepViews as step
use Rattle.starlark_reader.specs.declared.reader.Reader.{Reader}
use Rattle.starlark_reader.proofs.TakenPieces.CodePlaces.{word_class, word_len}
use Rattle.starlark_reader.proofs.TakenPieces.PieceTaken.{word_read}

-- what the grammar says of a number, and that its token begins no f-string
pub number_stands : (s : Situation) (it : Class) (word rest : Text) → is_number it ≡ true → (it ≡ class.Decimal → starts_zero word ≡ false)
    → (is_fstring_start (number_of it word) ≡ false) × (word_step s it word rest ≡ token (length word) (number_of it word))
number_stands s class.Decimal word rest n plain = (refl, rw (plain refl) refl)
number_stands s class.Hexadecimal word rest n plain = (refl, refl)
number_stands s class.Octal word rest n plain = (refl, refl)
number_stands s class.Binary word rest n plain = (refl, refl)
number_stands s class.Float word rest n plain = (refl, refl)
number_stands s it word rest n plain = cc

-- a number changes neither brackets nor f-strings
pub number_changes : (it : Class) (word : Text) (found : Token) → token_view found ≡ Whole (number_of it word) → keeps_code (token_view found) ≡ true
number_changes class.Decimal word found view = ap keeps_code view
number_changes class.Hexadecimal word found view = ap keeps_code view
number_changes class.Octal word found view = ap keeps_code view
number_changes class.Binary word found view = ap keeps_code view
number_changes class.Float word found view = ap keeps_code view
number_changes class.Skipped word found view = ap keeps_code view
number_changes class.LineEnd word found view = ap keeps_code view
number_changes (class.Opener kind is_raw quote) word found view = ap keeps_code view
number_changes class.Comment word found view = ap keeps_code view
number_changes class.Tabs word found view = ap keeps_code view
number_changes class.Reserved word found view = ap keeps_code view
number_changes class.Identifier word found view = ap keeps_code view
number_changes (class.Fixed terminal) word found view = ap keeps_code view

-- the step of a number that isn't a 0 before more digits
pub number_step : {origin : Origin} → (text : Text) (history : History) (reader : Reader) (word : Word) (found : Token) → IsStateAfter origin text history reader → IsWordHere text reader word → is_number word.class ≡ true
    → (word.class ≡ class.Decimal → starts_zero (take word.len (drop reader.at text)) ≡ false) → token_view found ≡ Whole (number_of word.class (take word.len (drop reader.at text))) → IsStep (step_here text history reader) (step.Token found word.len)
number_step text history reader word found kept here number plain view =
    let rest = drop reader.at text in
    let stands = number_stands (situation history) word.class (take word.len rest) (drop word.len rest) number plain in (
      number_of word.class (take word.len rest),
      view,
      stands.0,
      word_read text history reader word kept here ∙ stands.1 ∙ ap (λ n. token n (number_of word.class (take word.len rest))) (word_len rest word.class word.len (sym here.front)),
    )

-- an integer of one digit is that digit
pub digit_here : (rest : Text) (byte : ℕ) → language_front rest ≡ Some (class.Decimal, 1) → slice_get rest 0 ≡ Some byte → (48 ≤ byte) × IsDigitAt (byte - 48) rest
digit_here [] byte front is = cc
digit_here (b ∷ bs) byte front is =
    let digit = digit_range b (and_parts (is_ascii_digit b) true (word_is_of (b ∷ []) class.Decimal (word_class (b ∷ bs) class.Decimal 1 front))).0 in
    let same : b ≡ byte = cc in
    let back : b ≡ byte - 48 + 48 = omega (arith, digit, same) in
    (omega (arith, digit, same), (omega (arith, digit, same), ap (λ (n : ℕ). n ∷ []) back))
  where
    digit_range : (b : ℕ) → is_ascii_digit b ≡ true → (48 ≤ b) × (b ≤ 57)
    digit_range b h = (grind (arith, nat_tests), grind (arith, nat_tests))
