-- What is so of the ends of a text's lexemes is so of those of the list that holds them.
use Rattle.std.proofs.Common.{◌≡◌, ℕ, ◌<◌, ◌≤◌, ◌^◌, List, [], ◌∷◌, map, length, sym, subst, arith}
use Rattle.std.specs.List.{All, AllByRecursion}
use Rattle.std.proofs.lemmas.List.Elements.{All-from_recursion}
use Rattle.starlark_grammar.specs.Words.{Text}
use Rattle.starlark_grammar.specs.Tokens.{Lexeme, Spanned}
use Rattle.starlark_grammar.specs.Reading.{outcome}
use Rattle.starlark_token.specs.Lexemes.{IsWithin, lexeme_view, shown_lexeme}
use Rattle.starlark_lexed_text.specs.Inner.LexedTexts.{AllNear}
use Rattle.starlark_grammar.proofs.Order.Inside.{all_within}
use Rattle.starlark_token.specs.TokenViews.{TokenView}
use Rattle.starlark_token.specs.declared.tokens.Token.{Token}
use Rattle.std.specs.Str.{IsCharBoundary, IsUtf8}
use Rattle.starlark_grammar.proofs.Order.WholeTexts.{outcome_edges}

-- with something weaker that follows
pub found_all : (P Q : ℕ → ℕ → Type 0) (found : List (ℕ × Token × ℕ)) (lexemes : List Lexeme) → ((begin end : ℕ) → P begin end → Q begin end) → map lexeme_view found ≡ map shown_lexeme lexemes
    → AllByRecursion (λ (l : Lexeme). P l.begin l.end) lexemes → AllByRecursion (λ (x : ℕ × Token × ℕ). Q x.0 x.2) found
found_all P Q [] lexemes weaker e all = tt
found_all P Q (x ∷ xs) [] weaker e all = cc
found_all P Q (x ∷ xs) (l ∷ ls) weaker e all =
    let first : lexeme_view x ≡ shown_lexeme l = cc in
    (subst (λ (s : Spanned TokenView). Q s.begin s.end) (sym first) (weaker l.begin l.end all.0), found_all P Q xs ls weaker (cc) all.1)

-- the lexemes of a text that isn't too long lie inside of it, …
pub lexemes_within : (text : Text) (found : List (ℕ × Token × ℕ)) → map lexeme_view found ≡ map shown_lexeme (outcome text).lexemes → length text < 2 ^ 32 → All (λ lexeme. IsWithin text lexeme.0 lexeme.2) found
lexemes_within text found e short =
    All-from_recursion (λ (lexeme : ℕ × Token × ℕ). IsWithin text lexeme.0 lexeme.2) found
    (found_all (λ begin end. (begin ≤ end) × (end ≤ length text)) (IsWithin text) found (outcome text).lexemes (λ begin end h. (h.0, h.1, short)) e (all_within text))

-- … so that their places are small.
pub lexemes_near : (text : Text) (found : List (ℕ × Token × ℕ)) → map lexeme_view found ≡ map shown_lexeme (outcome text).lexemes → length text < 2 ^ 32 → AllNear found
lexemes_near text found e short =
    found_all (λ begin end. (begin ≤ end) × (end ≤ length text)) (λ begin end. (begin < 2 ^ 32) × (end < 2 ^ 32)) found (outcome text).lexemes (λ begin end h. (omega (arith, h.0, h.1, short), omega (arith, h.1, short))) e (all_within text)

pub lexemes_between : (text : Text) (found : List (ℕ × Token × ℕ)) → IsUtf8 text → map lexeme_view found ≡ map shown_lexeme (outcome text).lexemes
    → All (λ lexeme. IsCharBoundary text lexeme.0 × IsCharBoundary text lexeme.2) found
lexemes_between text found utf8 e =
    All-from_recursion (λ (lexeme : ℕ × Token × ℕ). IsCharBoundary text lexeme.0 × IsCharBoundary text lexeme.2) found
    (found_all (λ begin end. IsCharBoundary text begin × IsCharBoundary text end) (λ begin end. IsCharBoundary text begin × IsCharBoundary text end) found (outcome text).lexemes (λ begin end h. h) e (outcome_edges text utf8))
