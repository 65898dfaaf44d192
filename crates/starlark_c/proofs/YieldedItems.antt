-- What a lexer yields, by the lexemes and the fault of its text.
use Rattle.std.proofs.Common.{◌≡◌, ℕ, zero, suc, ◌+◌, ◌≤◌, List, [], ◌∷◌, ◌++◌, map, length, take, refl, ap, subst, sym, ◌∙◌, arith, None, Some, Ok, Err, slice_get, option_to_list}
use Rattle.std.specs.Prelude.{Option}
use Rattle.std.proofs.lemmas.List.{length-map}
use Rattle.starlark_base.specs.Diagnostics.{Diagnosed}
use Rattle.starlark_base.specs.Sources.{SourceFile}
use Rattle.starlark_c.specs.Endings.{lexemes_of}
use Rattle.starlark_grammar.specs.Reading.{outcome}
use Rattle.starlark_grammar.specs.Tokens.{Fault, Lexeme, Spanned}
use Rattle.starlark_grammar.specs.Words.{Text}
use Rattle.starlark_errors.specs.Exceptions.{IsException, IsFaultIn}
use Rattle.starlark_lexemes.specs.Lexer.{AnswersNext}
use Rattle.starlark_errors.specs.declared.error.kinds.ErrorKind.{ErrorKind}
use Rattle.starlark_text.specs.declared.or_memory.OrMemory.TheVariants as refusal
use Rattle.starlark_token.specs.Lexemes.{lexeme_view, shown_lexeme}
use Rattle.starlark_token.specs.TextItems.{Given, Refused, items}
use Rattle.starlark_token.proofs.NumberedItems.{fault_at, given, only_faults}
use Rattle.starlark_lexemes.proofs.NextItems.{found_fault, found_lexeme, found_none}
use Rattle.starlark_token.specs.TokenViews.{TokenView}
use Rattle.starlark_token.specs.declared.tokens.Token.{Token}

lexeme_at : (ls : List Lexeme) (fs : List (Spanned Fault)) (h : ℕ) (x : Spanned TokenView) → slice_get (map given ls ++ map Refused fs) h ≡ Some (Given x) → slice_get (map shown_lexeme ls) h ≡ Some x
lexeme_at [] fs h x e = absurd (only_faults fs h x e)
lexeme_at (l ∷ ls) fs zero x e = let same : shown_lexeme l ≡ x = cc in ap Some same
lexeme_at (l ∷ ls) fs (suc h) x e = lexeme_at ls fs h x e

none_at : (ls : List Lexeme) (o : Option (Spanned Fault)) (h : ℕ) → slice_get (map given ls ++ map Refused (option_to_list o)) h ≡ None → h ≤ length ls → (o ≡ None) × (h ≡ length ls)
none_at [] None zero e few = (refl, refl)
none_at [] None (suc h) e few = absurd (omega (arith, few))
none_at [] (Some g) zero e few = cc
none_at [] (Some g) (suc h) e few = absurd (omega (arith, few))
none_at (l ∷ ls) o zero e few = cc
none_at (l ∷ ls) o (suc h) e few = let rest = none_at ls o h e (omega (arith, few)) in (rest.0, ap suc rest.1)

-- one item more of a list
pub take_next : {A : Type 0} (xs : List A) (h : ℕ) (x : A) → slice_get xs h ≡ Some x → (h + 1 ≤ length xs) × (take (h + 1) xs ≡ take h xs ++ x ∷ [])
take_next [] zero x e = cc
take_next [] (suc h) x e = cc
take_next (y ∷ ys) zero x e = let same : y ≡ x = cc in (omega arith, ap (λ z. z ∷ []) same)
take_next (y ∷ ys) (suc h) x e =
    let rest = take_next ys h x e in
    let next : suc h + 1 ≡ suc (h + 1) = omega arith in
    (omega (arith, rest.0), rw next (ap (λ zs. y ∷ zs) rest.1))

-- the next lexeme of a text
pub record IsNext (text : Text) (h : ℕ) (x : Spanned TokenView) : Type 0 where
  pub is : slice_get (lexemes_of text) h ≡ Some x
  pub few : h + 1 ≤ length (lexemes_of text)
  pub some : h + 1 ≤ length (items text)
  pub more : take (h + 1) (lexemes_of text) ≡ take h (lexemes_of text) ++ x ∷ []

-- the lexeme among the items of a text
pub given_next : (text : Text) (h : ℕ) (x : Spanned TokenView) → slice_get (items text) h ≡ Some (Given x) → IsNext text h x
unfolding items
given_next text h x here =
    let at = lexeme_at (outcome text).lexemes (option_to_list (outcome text).fault) h x here in
    let step = take_next (lexemes_of text) h x at in
    record { is = at; few = step.0; some = (take_next (items text) h (Given x) here).0; more = step.1 }

pub next_lexeme : (file : SourceFile) (text : Text) (h : ℕ) (found : ℕ × Token × ℕ) → AnswersNext file (slice_get (items text) h) (Some (Ok found)) → IsNext text h (lexeme_view found)
next_lexeme file text h found answers = given_next text h (lexeme_view found) (found_lexeme file (slice_get (items text) h) found answers)

-- the fault of a text, after all its lexemes
pub record IsLast (file : SourceFile) (text : Text) (h : ℕ) (exception : Diagnosed ErrorKind) : Type 0 where
  pub fault : Spanned Fault
  pub is : (outcome text).fault ≡ Some fault
  pub all : h ≡ length (lexemes_of text)
  pub thrown : IsException file fault exception
  pub within : IsFaultIn file (outcome text).fault (Some exception)

pub next_fault : (file : SourceFile) (text : Text) (h : ℕ) (exception : Diagnosed ErrorKind) → AnswersNext file (slice_get (items text) h) (Some (Err (refusal.Error exception))) → IsLast file text h exception
unfolding items
next_fault file text h exception answers =
    let found = found_fault file (slice_get (items text) h) exception answers in
    let at = fault_at (outcome text).lexemes (outcome text).fault h found.fault found.is in
    record {
      fault = found.fault;
      is = at.0;
      all = at.1 ∙ sym (length-map (outcome text).lexemes shown_lexeme);
      thrown = found.thrown;
      within = subst (λ (f : Option (Spanned Fault)). IsFaultIn file f (Some exception)) (sym at.0) found.thrown;
    }

pub next_none : (file : SourceFile) (text : Text) (h : ℕ) → AnswersNext file (slice_get (items text) h) None → h ≤ length (lexemes_of text) → ((outcome text).fault ≡ None) × (h ≡ length (lexemes_of text))
unfolding items
next_none file text h answers few =
    let none = found_none file (slice_get (items text) h) answers in
    let at = none_at (outcome text).lexemes (outcome text).fault h none (omega (arith, few, length-map (outcome text).lexemes shown_lexeme)) in
    (at.0, at.1 ∙ sym (length-map (outcome text).lexemes shown_lexeme))
