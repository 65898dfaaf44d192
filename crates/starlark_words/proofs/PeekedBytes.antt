-- The first bytes of a text, as they are read.
use Rattle.std.proofs.Common.{◌≡◌, ℕ, List, [], ◌∷◌, Option, drop, take, refl, sym, ap, ◌∙◌}
use Rattle.std.specs.List.{slice_get}
use Rattle.starlark_grammar.specs.Words.{Text}

-- the first byte of a text that is read
pub first_of : (bytes text : Text) (b : Option ℕ) → bytes ≡ text → b ≡ slice_get bytes 0 → slice_get text 0 ≡ b
first_of bytes text b same is = sym (ap (λ (t : Text). slice_get t 0) same) ∙ sym is

first_by_three : (text : Text) → slice_get (take 3 text) 0 ≡ slice_get text 0
first_by_three [] = refl
first_by_three (a ∷ rest) = refl

-- the first byte of a text is that of its front
pub at_front : (text bytes front : Text) (b : Option ℕ) → front ≡ take 3 bytes → bytes ≡ text → b ≡ slice_get front 0 → slice_get text 0 ≡ b
at_front text bytes front b read same is =
    sym (first_by_three text) ∙ sym (ap (λ (t : List ℕ). slice_get (take 3 t) 0) same) ∙ sym (ap (λ (t : List ℕ). slice_get t 0) read) ∙ sym is

second_by_three : (text : Text) → slice_get (take 3 text) 1 ≡ slice_get (drop 1 text) 0
second_by_three [] = refl
second_by_three (a ∷ []) = refl
second_by_three (a ∷ b ∷ rest) = refl

-- the byte after the first one of a text is the second of its front
pub second_at_front : (text front : Text) (b : Option ℕ) → front ≡ take 3 text → b ≡ slice_get front 1 → slice_get (drop 1 text) 0 ≡ b
second_at_front text front b read is = sym (second_by_three text) ∙ sym (ap (λ (t : List ℕ). slice_get t 1) read) ∙ sym is
