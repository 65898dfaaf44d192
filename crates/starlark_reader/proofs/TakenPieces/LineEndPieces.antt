-- A newline is the line end at the start of the text.
use Rattle.std.proofs.Common.{◌≡◌, ℕ, zero, suc, ◌<◌, ◌==◌, ◌&&◌, Bool, true, false, [], ◌∷◌, length, take, nat_eq, refl, sym, ◌∙◌, Some, arith}
use Rattle.std.proofs.lemmas.Bool.{and_parts, eqb-true, ltb-true}
use Rattle.std.proofs.lemmas.List.{length-take-le}
use Rattle.std.specs.List.{starts_with}
use Rattle.std.specs.Prelude.{if◌then◌else◌, nat_lt}
use Rattle.starlark_grammar.specs.AfterFaults.{line_end_len}
use Rattle.starlark_grammar.specs.Front.{language_front}
use Rattle.starlark_grammar.specs.Words.{Text, class_in, language}
use Rattle.starlark_grammar.specs.declared.class.Class.TheVariants as word
use Rattle.starlark_grammar.proofs.Words.Classes.{line_end_fits}
use Rattle.starlark_grammar.proofs.Words.Fronts.{front_sound}
use Rattle.starlark_reader.specs.Inner.PieceViews.{IsLineEnd}

-- a word that is a newline has the bytes of its line end
abbrev is_whole : Text → Bool
is_whole front = nat_lt 0 (length front) && line_end_len front == length front

pub line_end_word : (front : Text) → class_in language front ≡ Some word.LineEnd → IsLineEnd (length front) front
line_end_word front known =
    let parts = and_parts (nat_lt 0 (length front)) (line_end_len front == length front) (line_end_fits is_whole refl refl front known) in
    (ltb-true 0 (length front) parts.0, eqb-true (line_end_len front) (length front) parts.1)

-- a line end that is a text's front begins the text
pub line_end_front : (n : ℕ) (text : Text) → 0 < n → line_end_len (take n text) ≡ n → line_end_len text ≡ n
line_end_front zero text some is = absurd (omega (arith, some))
line_end_front (suc n) [] some is = absurd (omega (arith, is))
line_end_front (suc n) (b ∷ bs) some is = go (nat_eq 10 b && true) (nat_eq 13 b) n bs is
  where
    go : (feed return : Bool) (n : ℕ) (bs : Text)
        → (if feed then 1 else (if return && starts_with nat_eq (take n bs) (10 ∷ []) then 2 else 0)) ≡ suc n
        → (if feed then 1 else (if return && starts_with nat_eq bs (10 ∷ []) then 2 else 0)) ≡ suc n
    go false true zero bs is = absurd (omega (arith, is))
    go false true (suc n) [] is = is
    go false true (suc n) (c ∷ cs) is = is
    go feed return n bs is = is

-- the word at the start of a text
pub line_end_here : (text : Text) (len : ℕ) → Some (word.LineEnd, len) ≡ language_front text → IsLineEnd len text
unfolding language_front
line_end_here text len front =
    let sound = front_sound (class_in language) text word.LineEnd len (sym front) in
    (sound.0, line_end_front len text sound.0 ((line_end_word (take len text) sound.2).1 ∙ length-take-le len text sound.1))
