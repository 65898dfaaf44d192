-- The step at an offset: the next part of an f-string text, or what the word in code determines.
use Rattle.std.proofs.Common.{◌≡◌, ℕ, ◌≤◌, ◌<◌, Bool, true, false, ◌&&◌, [], ◌∷◌, length, take, drop, refl, ap, ◌∙◌, arith, None, Some}
use Rattle.std.proofs.lemmas.List.{length-take-le}
use Rattle.std.specs.Str.{IsUtf8, IsCharBoundary}
use Rattle.std.proofs.Math.Bool.{and-false}
use Rattle.starlark_grammar.specs.Depths.{Mode, Outside, InText, AtTop, Deeper}
use Rattle.starlark_grammar.specs.Front.{language_front, longest_front}
use Rattle.starlark_grammar.specs.Pieces.{Situation, Before, Nothing, by_mode, by_before, chunk, front_step, in_code, is_bang, takes_bang, token, step_at, word_step}
use Rattle.starlark_grammar.specs.Tokens.{FStringBang, Opening}
use Rattle.starlark_grammar.specs.Words.{Text, class_in, language}
use Rattle.starlark_grammar.specs.declared.class.Class.{Class}
use Rattle.starlark_grammar.proofs.Order.WholeTexts.{word_edge}
use Rattle.starlark_grammar.proofs.Words.Fronts.{front_sound}
use Rattle.starlark_reader.specs.Inner.PieceViews.{IsAfter, is_code}

-- the lexer mode determines the step after something that was read
pub by_read : (follows_gap : Bool) (s : Situation) (text : Text) → IsAfter follows_gap s.before → step_at language s text ≡ by_mode language s s.mode text
unfolding step_at
by_read follows_gap s text remainder = go s.before remainder
  where
    go : (before : Before) → IsAfter follows_gap before → by_before language s before text ≡ by_mode language s s.mode text
    go Nothing h = absurd h
    go before h = refl

-- the step in f-string text
pub in_text : (follows_gap : Bool) (s : Situation) (text : Text) (opening : Opening) → IsAfter follows_gap s.before → s.mode ≡ InText opening → step_at language s text ≡ chunk opening text
in_text follows_gap s text opening remainder here = by_read follows_gap s text remainder ∙ ap (λ p. by_mode language s p text) here

-- the step in code
pub code_at : (follows_gap : Bool) (s : Situation) (text : Text) (at : Mode) → is_code at ≡ true → IsAfter follows_gap s.before → s.mode ≡ at → step_at language s text ≡ in_code language s text
code_at follows_gap s text at code remainder here = by_read follows_gap s text remainder ∙ ap (λ p. by_mode language s p text) here ∙ go at code
  where
    go : (at : Mode) → is_code at ≡ true → by_mode language s at text ≡ in_code language s text
    go Outside code = refl
    go (InText opening) code = cc
    go AtTop code = refl
    go Deeper code = refl

pub in_code_front : (s : Situation) (text : Text) (class : Class) (len : ℕ) → language_front text ≡ Some (class, len) → is_bang text ≡ false → in_code language s text ≡ word_step s class (take len text) (drop len text)
unfolding language_front longest_front
in_code_front s [] class len front bang = cc
in_code_front s (b ∷ bs) class len front bang = rw (bang, and-false (takes_bang s.mode s.before), front) refl

pub bang_in_code : (s : Situation) (text : Text) → (takes_bang s.mode s.before && is_bang text) ≡ true → in_code language s text ≡ token 1 FStringBang
bang_in_code s [] bang = cc (and-false (takes_bang s.mode s.before), bang)
bang_in_code s (b ∷ bs) bang = rw bang refl

-- the first character is a fault where neither a bang nor a word is
pub in_code_none : (s : Situation) (text : Text) → 0 < length text → language_front text ≡ None → (takes_bang s.mode s.before && is_bang text) ≡ false → in_code language s text ≡ front_step s text None
unfolding language_front longest_front
in_code_none s [] some front bang = absurd (omega (arith, some))
in_code_none s (b ∷ bs) some front bang = rw (bang, front) refl

-- two bytes determine whether a text begins with a bang
pub bang_in_two : (text : Text) → is_bang (take 2 text) ≡ is_bang text
bang_in_two [] = refl
bang_in_two (b ∷ []) = refl
bang_in_two (b ∷ c ∷ bs) = refl

-- a bang that is allowed is the step
pub bang_at : (follows_gap : Bool) (s : Situation) (text : Text) (at : Mode) → is_code at ≡ true → IsAfter follows_gap s.before → s.mode ≡ at → (takes_bang at s.before && is_bang text) ≡ true → step_at language s text ≡ token 1 FStringBang
bang_at follows_gap s text at code remainder here bang = code_at follows_gap s text at code remainder here ∙ bang_in_code s text (ap (λ p. takes_bang p s.before && is_bang text) here ∙ bang)

-- the word determines the step, where no bang is
pub word_at : (follows_gap : Bool) (s : Situation) (text : Text) (at : Mode) (class : Class) (len : ℕ) → is_code at ≡ true → IsAfter follows_gap s.before → s.mode ≡ at → language_front text ≡ Some (class, len) → is_bang text ≡ false
    → step_at language s text ≡ word_step s class (take len text) (drop len text)
word_at follows_gap s text at class len code remainder here front bang = code_at follows_gap s text at code remainder here ∙ in_code_front s text class len front bang

-- a word is in its text, and its end is a character boundary
pub word_len : (text : Text) (class : Class) (len : ℕ) → language_front text ≡ Some (class, len) → length (take len text) ≡ len
unfolding language_front
word_len text class len front = length-take-le len text ((front_sound (class_in language) text class len front).1)

-- a word isn't empty
pub word_some : (text : Text) (class : Class) (len : ℕ) → language_front text ≡ Some (class, len) → 1 ≤ len
unfolding language_front
word_some text class len front = (front_sound (class_in language) text class len front).0

-- a word has its class
pub word_class : (text : Text) (class : Class) (len : ℕ) → language_front text ≡ Some (class, len) → class_in language (take len text) ≡ Some class
unfolding language_front
word_class text class len front = (front_sound (class_in language) text class len front).2

pub word_cut : (text : Text) (class : Class) (len : ℕ) → IsUtf8 text → language_front text ≡ Some (class, len) → IsCharBoundary text len
unfolding language_front
word_cut text class len utf8 front = word_edge text class len utf8 front
