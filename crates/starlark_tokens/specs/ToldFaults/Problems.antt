-- The problems of a text: the faults of the lexer, and what the checks find.
use Rattle.std.specs.Prelude.{ℕ, Bool, false, true, not, ◌&&◌, ◌==◌, if◌then◌else◌, List, [], ◌∷◌, ◌++◌, Option, Some, filter, map, option_to_list}
use Rattle.std.specs.Option.{option_map}
use Rattle.starlark_base.specs.Places.{Text}
use Rattle.starlark_checks.specs.CheckTexts.{check_code}
use Rattle.starlark_checks.specs.Findings as checks
use Rattle.starlark_checks.specs.Findings.{Passed, finding, open_brackets}
use Rattle.starlark_checks.specs.declared.check.Finding.{Finding}
use Rattle.starlark_grammar.specs.Tokens.{Fault, InvalidInput, Spanned}
use Rattle.starlark_recovery.specs.RecoveringLexer.{all_items}
use Rattle.starlark_token.specs.FaultCodes.{fault_code}
use Rattle.starlark_token.specs.TextItems.{LexerItem, Given, Refused}
use Rattle.starlark_tokens.specs.OutputFormats.SourceLines.{boundary_from}
use Rattle.starlark_tokens.specs.ToldFaults.Filters.{tells, tells_fault}
use Rattle.starlark_tokens.specs.ToldFaults.IgnoreComments.{is_ignored}
use Rattle.starlark_tokens.specs.ToldFaults.ShownPlaces.{shown_at, shown_of}
use Rattle.starlark_tokens.specs.declared.told_faults.filters.Filter.{Filter}

-- a fault of the lexer, characters between two offsets none of which begins a token, or what a check finds
pub data Problem : Type 0 where
  OfLexer : (fault : Spanned Fault) → Problem
  OfCharacters : (begin end : ℕ) → Problem
  OfCheck : (finding : Finding) → Problem

-- a fault is of a character that begins no token
abbrev pub is_invalid : Fault → Bool
is_invalid (InvalidInput character) = true
is_invalid fault = false

-- the problem that a fault is
abbrev pub problem_of : Spanned Fault → Problem
problem_of fault = if is_invalid fault.node then OfCharacters fault.begin fault.end else OfLexer fault

-- an item, as the checks see it
abbrev pub passed : LexerItem → Passed
passed (Given lexeme) = checks.Lexeme lexeme
passed (Refused fault) = checks.Fault

-- the problem at an item, if there is one: the fault that it is, or what the checks find at it; the items before it are
-- listed last first
abbrev pub problem_at : Text → (before : List Passed) → LexerItem → Option Problem
problem_at text before (Given lexeme) = option_map OfCheck (finding text before lexeme)
problem_at text before (Refused fault) = Some (problem_of fault)

-- the problems at each of some items, and then the brackets that are never closed
unfoldable pub problems_from : Text → (before : List Passed) → List LexerItem → List Problem
problems_from text before [] = map OfCheck (open_brackets before)
problems_from text before (item ∷ items) = option_to_list (problem_at text before item) ++ problems_from text (passed item ∷ before) items

-- two problems are of characters that touch
abbrev pub touch : (last next : Problem) → Bool
touch (OfCharacters begin middle) (OfCharacters other end) = middle == other
touch last next = false

-- two problems that touch as one
abbrev pub both : (last next : Problem) → Problem
both (OfCharacters begin middle) (OfCharacters other end) = OfCharacters begin end
both last next = next

-- a problem and those after it, where characters that touch are one problem
unfoldable pub joined_after : (last : Problem) → List Problem → List Problem
joined_after last [] = last ∷ []
joined_after last (next ∷ problems) =
    if touch last next then joined_after (both last next) problems else last ∷ joined_after next problems

-- problems, where characters that touch are one
abbrev pub joined : List Problem → List Problem
joined [] = []
joined (first ∷ problems) = joined_after first problems

-- what is shown at an offset, and has a code, is told: it is asked for, and no comment on its line leaves it out
abbrev pub tells_at : Filter → Text → (at : ℕ) → (code : Text) → Bool
tells_at which text at code = tells which code && not (is_ignored text at code)

-- a problem is told, by the place where it is shown
abbrev pub is_told : Filter → Text → Problem → Bool
is_told which text (OfLexer fault) =
    tells_fault which fault.node && not (is_ignored text (shown_at text (shown_of fault.node) fault.begin fault.end) (fault_code fault.node))
is_told which text (OfCharacters begin end) = tells_at which text begin (fault_code (InvalidInput []))
is_told which text (OfCheck finding) = tells_at which text (boundary_from text finding.begin) (check_code finding.check)

-- the problems of a text that are told
abbrev pub told : Filter → Text → List Problem → List Problem
told which text problems = filter (is_told which text) problems

-- all problems of a text that are told
unfoldable pub problems : Filter → Text → List Problem
problems which text = told which text (joined (problems_from text [] (all_items text)))
