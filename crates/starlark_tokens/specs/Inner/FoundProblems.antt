-- What the code has of problems, and the problem that is held while the next one may lengthen it.
use Rattle.std.specs.Prelude.{◌≡◌, ◌≤◌, ◌==◌, ℕ, if◌then◌else◌, List, Option, Some, None, Err, ⊤}
use Rattle.std.specs.Str.{IsCharBoundary}
use Rattle.starlark_base.specs.Places.{Text}
use Rattle.starlark_base.specs.Sources.{SourceFile}
use Rattle.starlark_lexemes.specs.Lexer.{AnswersBetween, AnswersWithin, IsException}
use Rattle.starlark_text.specs.declared.or_memory.OrMemory.TheVariants as refusal
use Rattle.starlark_tokens.specs.ToldFaults.Problems.{OfCharacters, OfCheck, OfLexer, Problem, both, joined, joined_after, touch}
use Rattle.starlark_tokens.specs.declared.told_faults.found_problems.FoundProblem.{FoundProblem}
use Rattle.starlark_tokens.specs.declared.told_faults.found_problems.FoundProblem.TheVariants.{Fault, Characters, Finding}
use Rattle.starlark_tokens.specs.declared.told_faults.found_problems.InvalidRun.{InvalidRun}

-- characters between two boundaries of a text
pub record IsRun (text : Text) (run : InvalidRun) (begin end : ℕ) : Type 0 where
  pub begin_is : run.begin ≡ begin
  pub end_is : run.end ≡ end
  pub begin_boundary : IsCharBoundary text run.begin
  pub end_boundary : IsCharBoundary text run.end
  pub order : run.begin ≤ run.end

-- what was found in a text is this problem
abbrev pub IsFound : Text → FoundProblem → Problem → Type 0
IsFound text (Fault exception) (OfLexer fault) =
    ((file : SourceFile) × IsException file fault exception)
    × AnswersWithin text (Some (Err (refusal.Error exception))) × AnswersBetween text (Some (Err (refusal.Error exception)))
IsFound text (Characters run) (OfCharacters begin end) = IsRun text run begin end
IsFound text (Finding finding) (OfCheck other) = finding ≡ other
IsFound text found problem = ⊥

-- the same of a problem that may be there
abbrev pub IsHeld : Text → Option FoundProblem → Option Problem → Type 0
IsHeld text None None = ⊤
IsHeld text (Some found) (Some problem) = IsFound text found problem
IsHeld text found problem = ⊥

-- what was found as one run with what is held, if both are of characters that touch
abbrev pub joined_run : Option FoundProblem → FoundProblem → Option InvalidRun
joined_run (Some (Characters last)) (Characters run) =
    if last.end == run.begin then Some (record { begin = last.begin; end = run.end }) else None
joined_run held next = None

-- the problems that are left, with one that is held before them
abbrev pub joined_with : Option Problem → List Problem → List Problem
joined_with None problems = joined problems
joined_with (Some last) problems = joined_after last problems

-- the problem that is done with where the next one comes
abbrev pub done_by : Option Problem → Option Problem → Option Problem
done_by (Some last) (Some next) = if touch last next then None else Some last
done_by last next = None

-- the problem that is held then
abbrev pub held_after : Option Problem → Option Problem → Option Problem
held_after (Some last) (Some next) = if touch last next then Some (both last next) else Some next
held_after last None = last
held_after None next = next
