-- What is open after some tokens, the innermost first: brackets, f-strings and their expressions.
use Rattle.std.specs.Prelude.{ℕ, Bool, true, false, ◌&&◌, ◌||◌, if◌then◌else◌, nat_lt, not, List, [], ◌∷◌, ◌++◌, drop, Option, Some, None, option_to_list}
use Rattle.starlark_checks.specs.declared.check.Check.{Check}
use Rattle.starlark_checks.specs.declared.check.Check.TheVariants.{NeverClosed, ClosesNothing, ClosesAnother, FStringLineEnd}
use Rattle.starlark_checks.specs.declared.check.Finding.{Finding}
use Rattle.starlark_checks.specs.declared.open_stack.OpenKind.{OpenKind}
use Rattle.starlark_checks.specs.declared.open_stack.OpenKind.TheVariants.{Bracket, Expression, FString}
use Rattle.starlark_checks.specs.declared.open_stack.Opened.{Opened}
use Rattle.starlark_checks.specs.declared.token_roles.Role.{Role}
use Rattle.starlark_checks.specs.declared.token_roles.Role.TheVariants.{Opening, Closing, FStringStart, ExpressionStart, FStringEnd}
use Rattle.starlark_checks.specs.declared.token_roles.Shape.{Shape}
use Rattle.starlark_checks.specs.declared.token_roles.Shape.TheVariants.{Round, Square, Curly}

abbrev pub is_same : Shape → Shape → Bool
is_same Round Round = true
is_same Square Square = true
is_same Curly Curly = true
is_same shape other = false

abbrev pub is_fstring : OpenKind → Bool
is_fstring (FString is_triple) = true
is_fstring kind = false

-- A closing bracket closes a bracket, if only by mistake; a `}` closes an expression, too.
abbrev pub can_close : Shape → OpenKind → Bool
can_close shape (Bracket other) = true
can_close shape (Expression keeps_line) = is_same shape Curly
can_close shape (FString is_triple) = false

-- what a closing bracket leaves open
abbrev pub without_closed : Shape → List Opened → List Opened
without_closed shape [] = []
without_closed shape (item ∷ stack) = if can_close shape item.kind then stack else item ∷ stack

-- the innermost f-string, and what it is in
abbrev pub from_fstring : List Opened → List Opened
from_fstring [] = []
from_fstring (item ∷ stack) = if is_fstring item.kind then item ∷ stack else from_fstring stack

-- an expression is open that has to end on its line
abbrev pub keeps_line : List Opened → Bool
keeps_line [] = false
keeps_line (item ∷ stack) = item.keeps_line

-- An expression of the innermost f-string has to end on its line: the f-string has one quote, and is in no such expression.
abbrev pub begins_kept_line : List Opened → Bool
begins_kept_line [] = false
begins_kept_line (item ∷ stack) = go item.kind
  where
    go : OpenKind → Bool
    go (FString is_triple) = not is_triple && not item.keeps_line
    go kind = false

abbrev pub is_kept_line : OpenKind → Bool
is_kept_line (Expression keeps_line) = keeps_line
is_kept_line kind = false

-- what is open after something more is opened
abbrev pub opened_by : OpenKind → (begin end : ℕ) → List Opened → List Opened
opened_by kind begin end stack = (record { kind = kind; begin = begin; end = end; keeps_line = is_kept_line kind || keeps_line stack }) ∷ stack

-- What is open after one more token. Where an f-string goes on or ends, what is open in it is no longer open.
abbrev pub open_after : Role → (begin end : ℕ) → List Opened → List Opened
open_after (Opening shape) begin end stack = opened_by (Bracket shape) begin end stack
open_after (Closing shape) begin end stack = without_closed shape stack
open_after (FStringStart is_triple) begin end stack = opened_by (FString is_triple) begin end stack
open_after ExpressionStart begin end stack = opened_by (Expression (begins_kept_line (from_fstring stack))) begin end (from_fstring stack)
open_after FStringEnd begin end stack = drop 1 (from_fstring stack)
open_after role begin end stack = stack

-- whether something is opened
abbrev pub opens : Role → Bool
opens (Opening shape) = true
opens (FStringStart is_triple) = true
opens ExpressionStart = true
opens role = false

-- a finding that is about no other bytes
abbrev pub found_at : Check → (begin end : ℕ) → Finding
found_at check begin end = record { check = check; begin = begin; end = end; opening = begin }

-- What is found at a closing bracket, by what is innermost before it. That is an f-string only where an earlier finding has
-- taken its expression. An expression goes on after a line end if a lexeme with one in it, or right before it, begins in it:
-- `line_begin` is the begin of the last such lexeme.
abbrev pub at_closing : Shape → Option Opened → (line_begin begin end : ℕ) → Option Finding
at_closing shape None line_begin begin end = Some (found_at ClosesNothing begin end)
at_closing shape (Some item) line_begin begin end = go item.kind
  where
    go : OpenKind → Option Finding
    go (Bracket other) = if is_same other shape then None else Some (record { check = ClosesAnother; begin = begin; end = end; opening = item.begin })
    go (Expression keeps_line) =
        if is_same shape Curly then (if keeps_line && nat_lt item.begin line_begin then Some (found_at FStringLineEnd item.begin end) else None)
        else Some (found_at ClosesNothing begin end)
    go (FString is_triple) = None

-- the finding of what is never closed, if it is a bracket or the `{` of an expression
abbrev pub unclosed : Opened → Option Finding
unclosed item = go item.kind
  where
    go : OpenKind → Option Finding
    go (FString is_triple) = None
    go kind = Some (found_at NeverClosed item.begin item.end)

-- the findings of the brackets never closed, the outermost first
abbrev pub never_closed : List Opened → List Finding
never_closed [] = []
never_closed (item ∷ stack) = never_closed stack ++ option_to_list (unclosed item)
