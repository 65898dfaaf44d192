-- Texts by the table before `rf'` and `rf"` were openers, closed by computing.
use Rattle.std.proofs.Common.{◌≡◌, refl}
use Rattle.std.specs.Prelude.{true, false, None, [], ◌∷◌, codes, List}
use Rattle.starlark_grammar.specs.Words.{Text}
use Rattle.starlark_grammar.specs.Tokens.{Newline, Identifier, String, FStringText, FStringEnd, Lexeme}
use Rattle.starlark_grammar.specs.Reading.{outcome_in}
use Rattle.starlark_grammar.specs.EarlierLanguage.{earlier_language, holds_rf_opener}
use Rattle.starlark_grammar.proofs.Rows.Shapes.{all_definitions, at, fstring_start, raw, single, plain}

-- the text had these lexemes before, and no fault
abbrev LexedEarlier : Text → List Lexeme → Type 0
LexedEarlier text lexemes = outcome_in earlier_language text ≡ record { lexemes = lexemes; fault = None }

earlier :
    LexedEarlier (codes "rf'x'") (at 0 (Identifier (codes "rf")) 2 ∷ at 2 (String (codes "x")) 5 ∷ at 5 Newline 5 ∷ [])
    × LexedEarlier (codes "rf\"x\"") (at 0 (Identifier (codes "rf")) 2 ∷ at 2 (String (codes "x")) 5 ∷ at 5 Newline 5 ∷ [])
    × LexedEarlier (codes "fr'x'") (at 0 (fstring_start raw single plain) 3 ∷ at 3 (FStringText (codes "x")) 4 ∷ at 4 FStringEnd 5 ∷ at 5 Newline 5 ∷ [])
unfolding all_definitions earlier_language
earlier = (refl, refl, refl)

-- An opener is held wherever its bytes stand, also where it begins no word.
held :
    (holds_rf_opener (codes "rf'x'") ≡ true)
    × (holds_rf_opener (codes "x = rf\"") ≡ true)
    × (holds_rf_opener (codes "xrf'a'") ≡ true)
    × (holds_rf_opener (codes "rf rfx' fr'a' r'f'") ≡ false)
unfolding holds_rf_opener
held = (refl, refl, refl, refl)
