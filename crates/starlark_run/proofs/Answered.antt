-- What a lexer answers, by the items of its text.
use Rattle.std.proofs.Common.{◌≡◌, ℕ, ◌≤◌, [], length, drop, sym, subst, None, Some, Ok, Err, slice_get}
use Rattle.starlark_base.specs.Diagnostics.{Diagnosed}
use Rattle.starlark_base.specs.Places.{Text}
use Rattle.starlark_base.specs.Sources.{SourceFile}
use Rattle.starlark_text.specs.declared.or_memory.OrMemory.TheVariants as refusal
use Rattle.starlark_errors.specs.Exceptions.{IsFaultIn}
use Rattle.starlark_errors.specs.declared.error.kinds.ErrorKind.{ErrorKind}
use Rattle.starlark_grammar.specs.Reading.{outcome}
use Rattle.starlark_token.specs.TextItems.{items}
use Rattle.starlark_token.specs.declared.tokens.Token.{Token}
use Rattle.starlark_lexemes.specs.Lexer.{AnswersNext}
use Rattle.starlark_lexemes.proofs.NextItems.{found_fault, found_lexeme, found_none}
use Rattle.starlark_run.specs.Inner.FaultLine.{fault_items}
use Rattle.starlark_run.proofs.PrintedItems.{IsNextLexeme, next_given, next_refused, none_left}

-- A lexeme that is answered is the next one of the grammar.
pub next_lexeme : (file : SourceFile) (text : Text) (h : ℕ) (found : ℕ × Token × ℕ) → AnswersNext file (slice_get (items text) h) (Some (Ok found)) → IsNextLexeme text h found
next_lexeme file text h found answers = next_given text h found (found_lexeme file (slice_get (items text) h) found answers)

-- An exception that is answered is that of the text's fault, which is the last item.
pub record IsNextFault (file : SourceFile) (text : Text) (h : ℕ) (exception : Diagnosed ErrorKind) : Type 0 where
  pub thrown : IsFaultIn file (outcome text).fault (Some exception)
  pub items : drop h (items text) ≡ fault_items text

pub next_fault : (file : SourceFile) (text : Text) (h : ℕ) (exception : Diagnosed ErrorKind) → AnswersNext file (slice_get (items text) h) (Some (Err (refusal.Error exception))) → IsNextFault file text h exception
next_fault file text h exception answers =
    let found = found_fault file (slice_get (items text) h) exception answers in
    let next = next_refused text h found.fault found.is in
    record {
      thrown = subst (λ f. IsFaultIn file f (Some exception)) (sym next.0) found.thrown;
      items = next.1;
    }

-- Where nothing is answered all items are handed out; a text of which no fault was has none.
pub all_given : (file : SourceFile) (text : Text) (h : ℕ) → AnswersNext file (slice_get (items text) h) None → h ≤ length (outcome text).lexemes → (drop h (items text) ≡ []) × ((outcome text).fault ≡ None)
all_given file text h answers few = none_left text h (found_none file (slice_get (items text) h) answers) few
