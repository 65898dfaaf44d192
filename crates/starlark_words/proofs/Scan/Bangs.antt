-- No word begins with a bang, and only comments with a hash sign.
use Rattle.std.proofs.Common.{◌≡◌, ◌≢◌, ℕ, zero, suc, Bool, true, false, ◌==◌, [], ◌∷◌, ap, get_or, refl, subst, sym, take, ◌∙◌, Option, Some, None, arith}
use Rattle.std.proofs.lemmas.Bool.{and_parts, eqb-true, not-true}
use Rattle.std.proofs.lemmas.List.{get_or-take}
use Rattle.std.specs.Option.{option_map}
use Rattle.std.specs.Prelude.{IfSome}
use Rattle.starlark_grammar.specs.Front.{language_front}
use Rattle.starlark_grammar.specs.Pieces.{is_bang}
use Rattle.starlark_grammar.specs.Words.{Text, class_in, is_comment, is_name_start, language}
use Rattle.starlark_grammar.specs.declared.class.Class.{Class}
use Rattle.starlark_grammar.specs.declared.class.Class.TheVariants.{Comment}
use Rattle.starlark_grammar.proofs.Words.Classes.{word_is_of}
use Rattle.starlark_grammar.proofs.Words.Fronts.{front_sound}
use Rattle.starlark_words.specs.Inner.ScannedWords.{begins_number, mark_front, word_view}
use Rattle.starlark_words.specs.declared.scanner.word.Word.{Word}
use Rattle.starlark_words.proofs.Scan.ByFirst.{front_mark}
use Rattle.starlark_words.proofs.Scan.Marks.{mark_by_three, no_mark_at_bang, no_mark_at_hash}

at_bang : (rest : Text) → begins_number (33 ∷ rest) ≡ false → (get_or rest 0 0 == 61) ≡ false → language_front (33 ∷ rest) ≡ None
at_bang rest number other =
    front_mark (33 ∷ rest) (omega arith) (omega arith) (omega arith) (omega arith) refl number
    ∙ mark_by_three (33 ∷ rest)
    ∙ no_mark_at_bang (get_or rest 0 0) (get_or rest 1 0) other

no_word_at_bang : (text : Text) → is_bang text ≡ true → language_front text ≡ None
no_word_at_bang [] h = cc
no_word_at_bang (a ∷ []) h = rw (eqb-true a 33 h) (at_bang [] refl refl)
no_word_at_bang (a ∷ b ∷ rest) h = let parts = and_parts _ _ h in rw (eqb-true a 33 parts.0) (at_bang (b ∷ rest) refl (not-true _ parts.1))

-- where a word is, there is no bang
pub no_bang_at_front : (text : Text) (front : Class × ℕ) → Some front ≡ language_front text → is_bang text ≡ false
no_bang_at_front text front h = go (is_bang text) refl
  where
    go : (bang : Bool) → is_bang text ≡ bang → is_bang text ≡ false
    go false e = e
    go true e = let none : Some front ≡ None = h ∙ no_word_at_bang text e in cc

pub no_bang_at_word : (text : Text) (found : Option Word) → IfSome found (λ word. Some (word_view word) ≡ language_front text) → IfSome found (λ word. is_bang text ≡ false)
no_bang_at_word text None h = tt
no_bang_at_word text (Some word) h = no_bang_at_front text (word_view word) h

-- a comment begins with a hash sign
hash_first : (text : Text) (len : ℕ) → language_front text ≡ Some (Comment, len) → get_or text 0 0 ≡ 35
unfolding language_front
hash_first text len front = go len (word_is_of (take len text) Comment (front_sound (class_in language) text Comment len front).2)
  where
    begins : (word : Text) → is_comment word ≡ true → get_or word 0 0 ≡ 35
    begins [] h = cc
    begins (b ∷ bs) h = eqb-true b 35 (and_parts (b == 35) _ h).0

    go : (n : ℕ) → is_comment (take n text) ≡ true → get_or text 0 0 ≡ 35
    go zero h = absurd (omega (arith, begins [] h))
    go (suc n) h = omega (arith, begins (take (suc n) text) h, get_or-take (suc n) text 0 0 (omega arith))

-- a mark is no comment, nor is a name
pub mark_not_comment : (text : Text) (found : Option Word) (a b c : ℕ) → a ≡ get_or text 0 0 → option_map word_view found ≡ mark_front (a ∷ b ∷ c ∷ []) → IfSome found (λ word. Some (word_view word) ≡ language_front text) → IfSome found (λ word. word.class ≢ Comment)
mark_not_comment text None a b c first mark front = tt
mark_not_comment text (Some word) a b c first mark front = λ comment.
    let hash = hash_first text word.len (sym front ∙ ap (λ it. Some (it, word.len)) comment) in
    let none : mark_front (a ∷ b ∷ c ∷ []) ≡ None = subst (λ n. mark_front (n ∷ b ∷ c ∷ []) ≡ None) (sym (first ∙ hash)) (no_mark_at_hash b c) in
    let nothing : Some (word_view word) ≡ None = mark ∙ none in
    cc

pub name_not_comment : (text : Text) (word : Word) → is_name_start (get_or text 0 0) ≡ true → Some (word_view word) ≡ language_front text → word.class ≢ Comment
name_not_comment text word starts front = λ comment.
    let hash = hash_first text word.len (sym front ∙ ap (λ it. Some (it, word.len)) comment) in
    let no : is_name_start 35 ≡ true = subst (λ n. is_name_start n ≡ true) hash starts in
    cc
