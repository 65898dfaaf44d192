-- The item that a lexer answers next, of those that are left.
use Rattle.std.proofs.Common.{◌≡◌, ℕ, List, [], ◌∷◌, drop, None, Some, Ok, Err, ap, refl, sym}
use Rattle.std.specs.Prelude.{Option, Result, slice_get}
use Rattle.starlark_base.specs.Diagnostics.{Diagnosed}
use Rattle.starlark_base.specs.Sources.{SourceFile}
use Rattle.starlark_grammar.specs.Tokens.{Fault, Spanned}
use Rattle.starlark_errors.specs.Exceptions.{IsException}
use Rattle.starlark_lexemes.specs.Lexer.{Answers, AnswersNext}
use Rattle.starlark_errors.specs.declared.error.kinds.ErrorKind.{ErrorKind}
use Rattle.starlark_text.specs.declared.or_memory.OrMemory.{OrMemory}
use Rattle.starlark_text.specs.declared.or_memory.OrMemory.TheVariants as refusal
use Rattle.starlark_token.specs.Lexemes.{lexeme_view}
use Rattle.starlark_token.specs.TextItems.{LexerItem, Given, Refused}
use Rattle.starlark_token.specs.declared.tokens.Token.{Token}

-- the item that was answered, and those after it
pub record IsNext (file : SourceFile) (left : List LexerItem) (answer : Result (ℕ × Token × ℕ) (OrMemory (Diagnosed ErrorKind))) : Type 0 where
  pub next : LexerItem
  pub is : left ≡ next ∷ drop 1 left
  pub answers : Answers file next answer

pub next_item : (file : SourceFile) (left : List LexerItem) (answer : Result (ℕ × Token × ℕ) (OrMemory (Diagnosed ErrorKind))) → AnswersNext file (slice_get left 0) (Some answer) → IsNext file left answer
next_item file [] answer answers = absurd answers
next_item file (item ∷ more) answer answers = record { next = item; is = refl; answers = answers }

-- where nothing is answered nothing is left
pub next_none : (file : SourceFile) (left : List LexerItem) → AnswersNext file (slice_get left 0) None → left ≡ []
next_none file [] answers = refl
next_none file (item ∷ more) answers = absurd answers

-- an item that is answered by a lexeme is that lexeme
pub answers_lexeme : (file : SourceFile) (item : LexerItem) (lexeme : ℕ × Token × ℕ) → Answers file item (Ok lexeme) → item ≡ Given (lexeme_view lexeme)
answers_lexeme file (Given found) lexeme answers = ap Given (sym answers)
answers_lexeme file (Refused fault) lexeme answers = absurd answers

-- … and one that is answered by an exception is its fault
pub record IsFaultItem (file : SourceFile) (item : LexerItem) (exception : Diagnosed ErrorKind) : Type 0 where
  pub fault : Spanned Fault
  pub is : item ≡ Refused fault
  pub thrown : IsException file fault exception

pub answers_fault : (file : SourceFile) (item : LexerItem) (exception : Diagnosed ErrorKind) → Answers file item (Err (refusal.Error exception)) → IsFaultItem file item exception
answers_fault file (Given found) exception answers = absurd answers
answers_fault file (Refused fault) exception answers = record { fault = fault; is = refl; thrown = answers }

-- the same of an item that may be there
pub found_lexeme : (file : SourceFile) (found : Option LexerItem) (lexeme : ℕ × Token × ℕ) → AnswersNext file found (Some (Ok lexeme)) → found ≡ Some (Given (lexeme_view lexeme))
found_lexeme file None lexeme answers = absurd answers
found_lexeme file (Some item) lexeme answers = ap Some (answers_lexeme file item lexeme answers)

pub record IsFoundFault (file : SourceFile) (found : Option LexerItem) (exception : Diagnosed ErrorKind) : Type 0 where
  pub fault : Spanned Fault
  pub is : found ≡ Some (Refused fault)
  pub thrown : IsException file fault exception

pub found_fault : (file : SourceFile) (found : Option LexerItem) (exception : Diagnosed ErrorKind) → AnswersNext file found (Some (Err (refusal.Error exception))) → IsFoundFault file found exception
found_fault file None exception answers = absurd answers
found_fault file (Some item) exception answers =
    let is = answers_fault file item exception answers in
    record { fault = is.fault; is = ap Some is.is; thrown = is.thrown }

pub found_none : (file : SourceFile) (found : Option LexerItem) → AnswersNext file found None → found ≡ None
found_none file None answers = refl
found_none file (Some item) answers = absurd answers
