-- How deep a place is in brackets and f-strings, counted over the tokens before it, the last of them first.
use Rattle.std.specs.Prelude.{ℕ, zero, suc, ◌+◌, ◌-◌, max, Bool, true, false, ◌&&◌, ◌||◌, ◌==◌, if◌then◌else◌, List, [], ◌∷◌, map, fold, count_by, Option, Some, None, option_map}
use Rattle.starlark_grammar.specs.Words as word
use Rattle.starlark_grammar.specs.Tokens.{Token, Opening, FStringStart, FStringEnd, FStringExprStart, FStringExprEnd, Word}

pub data Shape : Type 0 where
  Round : Shape
  Square : Shape
  Curly : Shape

abbrev pub is_opening : Shape → Token → Bool
is_opening Round (Word word.OpeningRound) = true
is_opening Square (Word word.OpeningSquare) = true
is_opening Curly (Word word.OpeningCurly) = true
is_opening shape token = false

abbrev pub is_closing : Shape → Token → Bool
is_closing Round (Word word.ClosingRound) = true
is_closing Square (Word word.ClosingSquare) = true
is_closing Curly (Word word.ClosingCurly) = true
is_closing shape token = false

abbrev pub is_any_opening : Token → Bool
is_any_opening token = is_opening Round token || is_opening Square token || is_opening Curly token

abbrev pub is_any_closing : Token → Bool
is_any_closing token = is_closing Round token || is_closing Square token || is_closing Curly token

-- as many brackets of any shape were opened as were closed
unfoldable pub is_balanced : List Token → Bool
is_balanced tokens = count_by is_any_opening tokens == count_by is_any_closing tokens

-- The open f-string in which n others are open, with the tokens that lie in it and in no later one.
unfoldable pub open_fstring : ℕ → List Token → Option (Opening × List Token)
open_fstring n [] = None
open_fstring n (FStringEnd ∷ before) = open_fstring (suc n) before
open_fstring zero (FStringStart opening ∷ before) = Some (opening, [])
open_fstring (suc n) (FStringStart opening ∷ before) = open_fstring n before
open_fstring zero (token ∷ before) = option_map (λ found. (found.0, token ∷ found.1)) (open_fstring zero before)
open_fstring (suc n) (token ∷ before) = open_fstring (suc n) before

-- of an f-string's own tokens those of its open expression
abbrev pub expression_tokens : List Token → Option (List Token)
expression_tokens [] = None
expression_tokens (FStringExprStart ∷ before) = Some []
expression_tokens (FStringExprEnd ∷ before) = None
expression_tokens (token ∷ before) = option_map (λ tokens. token ∷ tokens) (expression_tokens before)

-- openings less closings, and not below 0
abbrev pub surplus : Shape → List Token → ℕ
surplus shape tokens = count_by (is_opening shape) tokens - count_by (is_closing shape) tokens

-- The depth in braces: that of the open expression is 1, each brace in it opens one more or closes one; else it is 0.
abbrev pub braces_of : Option (List Token) → ℕ
braces_of None = 0
braces_of (Some tokens) = 1 + count_by (is_opening Curly) tokens - count_by (is_closing Curly) tokens

unfoldable pub braces : List Token → ℕ
braces own = braces_of (expression_tokens own)

-- the fronts of a list, from the empty one to the whole
abbrev pub fronts : List Token → List (List Token)
fronts [] = [] ∷ []
fronts (token ∷ tokens) = [] ∷ map (λ front. token ∷ front) (fronts tokens)

-- The depth in round or square brackets: the greatest surplus from some place on.
unfoldable pub depth : Shape → List Token → ℕ
depth shape own = fold max 0 (map (surplus shape) (fronts own))

-- Where a place is: outside of f-strings, in the text of one, in an expression of one, or deeper in that.
pub data Mode : Type 0 where
  Outside : Mode
  InText : (opening : Opening) → Mode
  AtTop : Mode
  Deeper : Mode

abbrev pub is_outside : Mode → Bool
is_outside Outside = true
is_outside mode = false

abbrev pub inside : Opening × List Token → Mode
inside found =
    if braces found.1 == 0 then InText found.0
    else (if braces found.1 == 1 && depth Round found.1 == 0 && depth Square found.1 == 0 then AtTop else Deeper)

abbrev pub mode_by : Option (Opening × List Token) → Mode
mode_by None = Outside
mode_by (Some found) = inside found

unfoldable pub mode_after : List Token → Mode
mode_after tokens = mode_by (open_fstring 0 tokens)
