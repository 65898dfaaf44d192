-- Items of a text by their number: its lexemes, and its fault after them.
use Rattle.std.proofs.Common.{◌≡◌, ℕ, zero, suc, List, [], ◌∷◌, ◌++◌, map, length, refl, ap, None, Some, slice_get, option_to_list}
use Rattle.std.specs.Prelude.{Option}
use Rattle.starlark_grammar.specs.Tokens.{Fault, Lexeme, Spanned}
use Rattle.starlark_token.specs.Lexemes.{shown_lexeme}
use Rattle.starlark_token.specs.TextItems.{Given, LexerItem, Refused}
use Rattle.starlark_token.specs.TokenViews.{TokenView}

abbrev pub given : Lexeme → LexerItem
given lexeme = Given (shown_lexeme lexeme)

-- no fault is a lexeme
pub only_faults : (fs : List (Spanned Fault)) (h : ℕ) (x : Spanned TokenView) → slice_get (map Refused fs) h ≡ Some (Given x) → ⊥
only_faults [] zero x e = cc
only_faults [] (suc h) x e = cc
only_faults (f ∷ fs) zero x e = cc
only_faults (f ∷ fs) (suc h) x e = only_faults fs h x e

-- the fault is the item after all lexemes
pub fault_at : (ls : List Lexeme) (o : Option (Spanned Fault)) (h : ℕ) (f : Spanned Fault) → slice_get (map given ls ++ map Refused (option_to_list o)) h ≡ Some (Refused f) → (o ≡ Some f) × (h ≡ length ls)
fault_at [] None zero f e = cc
fault_at [] None (suc h) f e = cc
fault_at [] (Some g) zero f e = let same : g ≡ f = cc in (ap Some same, refl)
fault_at [] (Some g) (suc zero) f e = cc
fault_at [] (Some g) (suc (suc h)) f e = cc
fault_at (l ∷ ls) o zero f e = cc
fault_at (l ∷ ls) o (suc h) f e = let rest = fault_at ls o h f e in (rest.0, ap suc rest.1)
