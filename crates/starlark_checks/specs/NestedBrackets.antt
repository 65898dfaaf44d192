-- Lexemes whose brackets and f-strings nest, and what the checks find there.
use Rattle.std.specs.Prelude.{◌≡◌, Bool, true, false, List, [], ◌∷◌, ◌++◌, Option, Some, None, ⊤}
use Rattle.starlark_grammar.specs.Tokens.{Spanned}
use Rattle.starlark_token.specs.TokenViews.{TokenView}
use Rattle.starlark_checks.specs.Findings.{Lexeme, Passed, Text, finding, open_brackets}
use Rattle.starlark_checks.specs.TokenRoles.{role_of}
use Rattle.starlark_checks.specs.declared.check.Check.{Check}
use Rattle.starlark_checks.specs.declared.check.Check.TheVariants.{NeverClosed, ClosesNothing, ClosesAnother}
use Rattle.starlark_checks.specs.declared.check.Finding.{Finding}
use Rattle.starlark_checks.specs.declared.token_roles.Role.{Role}
use Rattle.starlark_checks.specs.declared.token_roles.Role.TheVariants.{Opening, Closing, FStringStart, ExpressionStart, FStringEnd, Number, Word, MarkerStart, Other}
use Rattle.starlark_checks.specs.declared.token_roles.Shape.{Shape}
use Rattle.starlark_checks.specs.declared.token_roles.Shape.TheVariants.{Curly}

-- neither opens nor closes anything
abbrev pub is_plain : Role → Bool
is_plain Number = true
is_plain Word = true
is_plain (MarkerStart byte) = true
is_plain Other = true
is_plain role = false

-- Lexemes of code, or of an f-string's text and expressions, whose brackets and f-strings nest.
pub data Nest : (is_in_fstring : Bool) → List (Spanned TokenView) → Type 0 where
  Nothing : (is_in_fstring : Bool) → Nest is_in_fstring []
  Plain : (is_in_fstring : Bool) (lexeme : Spanned TokenView) (rest : List (Spanned TokenView)) → is_plain (role_of lexeme.node) ≡ true → Nest is_in_fstring rest → Nest is_in_fstring (lexeme ∷ rest)
  Bracket : (shape : Shape) (first last : Spanned TokenView) (inside rest : List (Spanned TokenView)) → role_of first.node ≡ Opening shape → role_of last.node ≡ Closing shape → Nest false inside → Nest false rest → Nest false (first ∷ (inside ++ last ∷ rest))
  FString : (is_triple : Bool) (first last : Spanned TokenView) (inside rest : List (Spanned TokenView)) → role_of first.node ≡ FStringStart is_triple → role_of last.node ≡ FStringEnd → Nest true inside → Nest false rest → Nest false (first ∷ (inside ++ last ∷ rest))
  Expression : (first last : Spanned TokenView) (inside rest : List (Spanned TokenView)) → role_of first.node ≡ ExpressionStart → role_of last.node ≡ Closing Curly → Nest false inside → Nest true rest → Nest true (first ∷ (inside ++ last ∷ rest))

-- what was passed with some more lexemes
abbrev pub passed_onto : List Passed → List (Spanned TokenView) → List Passed
passed_onto before [] = before
passed_onto before (lexeme ∷ lexemes) = passed_onto (Lexeme lexeme ∷ before) lexemes

abbrev pub is_of_brackets : Check → Bool
is_of_brackets NeverClosed = true
is_of_brackets ClosesNothing = true
is_of_brackets ClosesAnother = true
is_of_brackets check = false

-- a check of brackets found something
abbrev pub tells_brackets : Option Finding → Bool
tells_brackets None = false
tells_brackets (Some found) = is_of_brackets found.check

-- no check of brackets finds anything at some lexemes after what was passed
abbrev pub AreQuiet : Text → List Passed → List (Spanned TokenView) → Type 0
AreQuiet text before [] = ⊤
AreQuiet text before (lexeme ∷ lexemes) = (tells_brackets (finding text before lexeme) ≡ false) × AreQuiet text (Lexeme lexeme ∷ before) lexemes

-- In a text whose brackets and f-strings nest no check of brackets finds anything, and no bracket stays open.
abbrev pub NestedAreQuiet : Type 0
NestedAreQuiet = (text : Text) (lexemes : List (Spanned TokenView)) → Nest false lexemes → AreQuiet text [] lexemes × (open_brackets (passed_onto [] lexemes) ≡ [])

-- a part of an f-string
abbrev pub is_of_fstring : Role → Bool
is_of_fstring (FStringStart is_triple) = true
is_of_fstring ExpressionStart = true
is_of_fstring FStringEnd = true
is_of_fstring role = false

abbrev pub HaveNoFString : List (Spanned TokenView) → Type 0
HaveNoFString [] = ⊤
HaveNoFString (lexeme ∷ lexemes) = (is_of_fstring (role_of lexeme.node) ≡ false) × HaveNoFString lexemes

-- Where no check of brackets finds anything, and no bracket stays open, the brackets nest, in a text without f-strings.
abbrev pub QuietNest : Type 0
QuietNest = (text : Text) (lexemes : List (Spanned TokenView)) → HaveNoFString lexemes → AreQuiet text [] lexemes → open_brackets (passed_onto [] lexemes) ≡ [] → Nest false lexemes
