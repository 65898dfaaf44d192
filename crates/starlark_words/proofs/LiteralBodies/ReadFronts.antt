-- What the first bytes of the rest of a body tell, which are read of it.
use Rattle.std.proofs.Common.{◌≡◌, ◌+◌, ◌<◌, ◌≤◌, ℕ, length, get_or, Bool, true, false, [], ◌∷◌, Option, Some, None, IfSome, take, drop, encode_utf8, nat_eq, refl, sym, ap, ◌∙◌, arith}
use Rattle.std.proofs.lemmas.Bool.Decides.{nat_tests}
use Rattle.std.proofs.lemmas.Str.{encode_ascii}
use Rattle.std.specs.List.{slice_get}
use Rattle.std.specs.Str.{continuation_len}
use Rattle.std.specs.Map.{lookup}
use Rattle.starlark_grammar.specs.FrontCharacter.{first_character}
use Rattle.starlark_grammar.specs.Items.{Literal, Found, goes, simple, simple_escapes, drops_backslash, found_at}
use Rattle.starlark_grammar.specs.Words.{Text, is_octal_digit}
use Rattle.starlark_words.proofs.LiteralBodies.Escapes.{escape_other, escape_short}
use Rattle.starlark_words.proofs.LiteralBodies.FirstBytes.{at_escape, at_raw, closes, raw_kept}
use Rattle.starlark_words.proofs.PeekedBytes.{at_front, second_at_front}

-- quotes that close a literal are at most three
pub closes_by_three : (literal : Literal) (text : Text) → closes literal (take 3 text) ≡ closes literal text
closes_by_three literal text = by_quotes literal.opening.is_triple refl text
  where
    by_quotes : (is_triple : Bool) → literal.opening.is_triple ≡ is_triple → (text : Text) → closes literal (take 3 text) ≡ closes literal text
    by_quotes is_triple e [] = refl
    by_quotes true e (a ∷ []) = rw e refl
    by_quotes true e (a ∷ b ∷ []) = rw e refl
    by_quotes true e (a ∷ b ∷ c ∷ rest) = rw e refl
    by_quotes false e (a ∷ []) = rw e refl
    by_quotes false e (a ∷ b ∷ []) = rw e refl
    by_quotes false e (a ∷ b ∷ c ∷ rest) = rw e refl

second_by_three : (text : Text) → slice_get (take 3 text) 1 ≡ slice_get text 1
second_by_three [] = refl
second_by_three (a ∷ []) = refl
second_by_three (a ∷ b ∷ rest) = refl

after_one : (text : Text) → slice_get (drop 1 text) 0 ≡ slice_get text 1
after_one [] = refl
after_one (a ∷ []) = refl
after_one (a ∷ b ∷ rest) = refl

short_by_two : (literal : Literal) (front : Text) (b : ℕ) (found : Option ℕ) → slice_get front 0 ≡ Some 92 → slice_get front 1 ≡ Some b → literal.opening.is_raw ≡ false → found ≡ lookup (nat_eq b) simple_escapes
    → IfSome found (λ value. value < 128) → IfSome found (λ value. (text : Text) → front ≡ take 3 text → found_at literal text ≡ goes 2 (encode_utf8 value))
short_by_two literal front b None first second plain is ascii = tt
short_by_two literal front b (Some value) first second plain is ascii = λ text read.
    let begins : slice_get text 0 ≡ Some 92 = at_front text text front (Some 92) read refl (sym first) in
    let remainder : slice_get (drop 1 text) 0 ≡ Some b = after_one text ∙ sym (second_by_three text) ∙ sym (ap (λ (t : Text). slice_get t 1) read) ∙ second in
    at_escape literal text 92 begins refl plain ∙ escape_short literal.kind (drop 1 text) b value remainder (sym is) ∙ ap (goes 2) (sym (encode_ascii value ascii))

-- an escape of two bytes is told by them
pub short_by_three : (literal : Literal) (front : Text) (found : Option ℕ) → 2 ≤ length front → get_or front 0 0 ≡ 92 → literal.opening.is_raw ≡ false → found ≡ lookup (nat_eq (get_or front 1 0)) simple_escapes
    → IfSome found (λ value. value < 128) → IfSome found (λ value. (text : Text) → front ≡ take 3 text → found_at literal text ≡ goes 2 (encode_utf8 value))
short_by_three literal [] found long first plain is ascii = absurd (omega (arith, long))
short_by_three literal (a ∷ []) found long first plain is ascii = absurd (omega (arith, long))
short_by_three literal (a ∷ b ∷ rest) found long first plain is ascii = short_by_two literal (a ∷ b ∷ rest) b found (ap Some first) refl plain is ascii

-- a byte that is a character alone
one_byte : (b : ℕ) (rest : Text) → b < 128 → first_character (b ∷ rest) ≡ b ∷ []
one_byte b rest small = rw alone refl
  where
    alone : continuation_len b ≡ 0
    alone = grind (arith, nat_tests)

-- a backslash that stays before the character after it
abbrev pub kept : Text → Found
kept text = goes (1 + length (first_character (drop 1 text))) (92 ∷ first_character (drop 1 text))

kept_pair : (text : Text) (b : ℕ) → slice_get text 0 ≡ Some 92 → slice_get (drop 1 text) 0 ≡ Some b → b < 128 → kept text ≡ goes 2 (take 2 text)
kept_pair [] b first second small = grind arith
kept_pair (x ∷ []) b first second small = grind arith
kept_pair (x ∷ y ∷ rest) b first second small =
    let x_is : x ≡ 92 = cc in
    let y_is : y ≡ b = cc in
    let character : first_character (y ∷ rest) ≡ b ∷ [] = ap (λ i. first_character (i ∷ rest)) y_is ∙ one_byte b rest small in
    let pair : take 2 (x ∷ y ∷ rest) ≡ 92 ∷ b ∷ [] = ap (λ i. i ∷ y ∷ []) x_is ∙ ap (λ i. 92 ∷ i ∷ []) y_is in
    ap (λ (t : Text). goes (1 + length t) (92 ∷ t)) character ∙ sym (ap (goes 2) pair)

-- a byte after which a backslash stays
abbrev pub Stays : Literal → ℕ → Type 0
Stays literal b = (text : Text) → slice_get text 0 ≡ Some 92 → slice_get (drop 1 text) 0 ≡ Some b → found_at literal text ≡ kept text

pub raw_stays : (literal : Literal) (b : ℕ) → literal.opening.is_raw ≡ true → drops_backslash literal.kind literal.opening.quote b ≡ false → Stays literal b
raw_stays literal b raw keeps text first second = at_raw literal text 92 first refl raw ∙ raw_kept literal.kind literal.opening.quote (drop 1 text) b second keeps

pub escape_stays : (literal : Literal) (b : ℕ) → literal.opening.is_raw ≡ false → is_octal_digit b ≡ false → (b ≡ 10 → ⊥) → (b ≡ 13 → ⊥) → (b ≡ 120 → ⊥) → (b ≡ 117 → ⊥) → (b ≡ 85 → ⊥) → lookup (nat_eq b) simple_escapes ≡ None → Stays literal b
escape_stays literal b plain octal feed return x u long none text first second =
    at_escape literal text 92 first refl plain ∙ escape_other literal.kind (drop 1 text) b second octal feed return x u long ∙ ap (λ found. simple found (first_character (drop 1 text))) none

-- an item of two bytes that stays is told by them
pub pair_by_three : (literal : Literal) (front : Text) → 2 ≤ length front → get_or front 0 0 ≡ 92 → get_or front 1 0 < 128 → Stays literal (get_or front 1 0) → (text : Text) → front ≡ take 3 text → found_at literal text ≡ goes 2 (take 2 text)
pair_by_three literal [] long first small stays text read = absurd (omega (arith, long))
pair_by_three literal (a ∷ []) long first small stays text read = absurd (omega (arith, long))
pair_by_three literal (a ∷ b ∷ rest) long first small stays text read =
    let begins : slice_get text 0 ≡ Some 92 = at_front text text (a ∷ b ∷ rest) (Some 92) read refl (sym (ap Some first)) in
    let second : slice_get (drop 1 text) 0 ≡ Some b = second_at_front text (a ∷ b ∷ rest) (Some b) read refl in
    stays text begins second ∙ kept_pair text b begins second small
