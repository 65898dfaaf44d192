-- Problems that are found, by what they are of the text's problems.
use Rattle.std.proofs.Common.{◌≡◌, ◌∙◌, Bool, true, List, ap, codes, Some, Err}
use Rattle.starlark_base.specs.Diagnostics.{Diagnosed}
use Rattle.starlark_base.specs.Places.{Text}
use Rattle.starlark_base.specs.Sources.{SourceFile}
use Rattle.starlark_checks.specs.Findings.{Passed}
use Rattle.starlark_checks.specs.declared.check.Finding as check
use Rattle.starlark_errors.specs.declared.error.kinds.ErrorKind.{ErrorKind}
use Rattle.starlark_grammar.specs.Tokens as grammar
use Rattle.starlark_grammar.specs.Tokens.{Spanned}
use Rattle.starlark_lexemes.specs.Lexer.{Answers, IsException}
use Rattle.starlark_text.specs.declared.or_memory.OrMemory.TheVariants as refusal
use Rattle.starlark_token.specs.FaultCodes.{fault_code}
use Rattle.starlark_token.specs.TextItems.{Given, LexerItem, Refused}
use Rattle.starlark_tokens.specs.Inner.FoundProblems.{IsFound, IsHeld}
use Rattle.starlark_tokens.specs.Reporting.Reports.{characters_report, finding_report, problem_report, shown_report}
use Rattle.starlark_tokens.specs.ToldFaults.Problems.{OfCharacters, OfCheck, OfLexer, Problem, is_told, problem_at, problem_of, tells_at}
use Rattle.starlark_tokens.specs.declared.output_formats.form.Style.{Style}
use Rattle.starlark_tokens.specs.declared.told_faults.filters.Filter.{Filter}
use Rattle.starlark_tokens.specs.declared.told_faults.found_problems.FoundProblem.{FoundProblem}
use Rattle.starlark_tokens.specs.declared.told_faults.found_problems.FoundProblem.TheVariants.{Fault, Characters, Finding}
use Rattle.starlark_tokens.specs.declared.told_faults.found_problems.InvalidRun.{InvalidRun}

-- what was found at an item that was answered as an exception
pub refused_found : (text : Text) (before : List Passed) (file : SourceFile) (next : LexerItem) (exception : Diagnosed ErrorKind) (found : FoundProblem) → Answers file next (Err (refusal.Error exception))
    → ((file : SourceFile) (fault : Spanned grammar.Fault) → IsException file fault exception → IsFound text found (problem_of fault)) → IsHeld text (Some found) (problem_at text before next)
refused_found text before file (Given lexeme) exception found answers is = absurd answers
refused_found text before file (Refused fault) exception found answers is = is file fault answers

-- a fault that was found is told as the problem that it is
pub fault_told : (which : Filter) (text : Text) (exception : Diagnosed ErrorKind) (value : Bool) (problem : Problem) → ((file : SourceFile) (fault : Spanned grammar.Fault) → IsException file fault exception → value ≡ is_told which text (OfLexer fault))
    → IsFound text (Fault exception) problem → value ≡ is_told which text problem
fault_told which text exception value (OfLexer fault) told found = told found.0.0 fault found.0.1
fault_told which text exception value (OfCharacters begin end) told found = absurd found
fault_told which text exception value (OfCheck finding) told found = absurd found

pub characters_told : (which : Filter) (text : Text) (run : InvalidRun) (value : Bool) (problem : Problem) → value ≡ tells_at which text run.begin (codes "SL002") → IsFound text (Characters run) problem → value ≡ is_told which text problem
unfolding fault_code
characters_told which text run value (OfCharacters begin end) told found = told ∙ ap (λ n. tells_at which text n (codes "SL002")) found.begin_is
characters_told which text run value (OfLexer fault) told found = absurd found
characters_told which text run value (OfCheck finding) told found = absurd found

-- the item that a fault was answered for
pub fault_answer : (text : Text) (exception : Diagnosed ErrorKind) (problem : Problem) → IsFound text (Fault exception) problem → (file : SourceFile) × (next : LexerItem) × Answers file next (Err (refusal.Error exception))
fault_answer text exception (OfLexer fault) found = (found.0.0, Refused fault, found.0.1)
fault_answer text exception (OfCharacters begin end) found = absurd found
fault_answer text exception (OfCheck finding) found = absurd found

-- what is printed of what was found
pub fault_printed : (style : Style) (prefix text lines : Text) (exception : Diagnosed ErrorKind) (problem : Problem) → ((file : SourceFile) (next : LexerItem) → Answers file next (Err (refusal.Error exception)) → lines ≡ shown_report true style prefix text next)
    → IsFound text (Fault exception) problem → lines ≡ problem_report style prefix text problem
unfolding problem_report
fault_printed style prefix text lines exception (OfLexer fault) printed found = printed found.0.0 (Refused fault) found.0.1
fault_printed style prefix text lines exception (OfCharacters begin end) printed found = absurd found
fault_printed style prefix text lines exception (OfCheck finding) printed found = absurd found

pub characters_printed : (style : Style) (prefix text lines : Text) (run : InvalidRun) (problem : Problem) → lines ≡ characters_report style prefix text run.begin run.end → IsFound text (Characters run) problem → lines ≡ problem_report style prefix text problem
unfolding problem_report
characters_printed style prefix text lines run (OfCharacters begin end) printed found = printed ∙ ap (λ n. characters_report style prefix text n run.end) found.begin_is ∙ ap (characters_report style prefix text begin) found.end_is
characters_printed style prefix text lines run (OfLexer fault) printed found = absurd found
characters_printed style prefix text lines run (OfCheck finding) printed found = absurd found

pub finding_printed : (style : Style) (prefix text lines : Text) (finding : check.Finding) (problem : Problem) → lines ≡ finding_report style prefix text finding → IsFound text (Finding finding) problem → lines ≡ problem_report style prefix text problem
unfolding problem_report
finding_printed style prefix text lines finding (OfCheck other) printed found = printed ∙ ap (finding_report style prefix text) found
finding_printed style prefix text lines finding (OfLexer fault) printed found = absurd found
finding_printed style prefix text lines finding (OfCharacters begin end) printed found = absurd found
