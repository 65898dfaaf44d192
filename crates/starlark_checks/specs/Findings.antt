-- What the checks find at a lexeme of a text, by what was passed before it, which is listed last first.
use Rattle.std.specs.Prelude.{ℕ, ◌==◌, Bool, true, false, ◌&&◌, if◌then◌else◌, nat_le, length, List, [], ◌∷◌, Option, Some, None}
use Rattle.std.specs.List.{list_any, slice_get, slice_range}
use Rattle.starlark_grammar.specs.Tokens.{Spanned}
use Rattle.starlark_grammar.specs.Words as words
use Rattle.starlark_token.specs.TokenViews.{TokenView}
use Rattle.starlark_checks.specs.declared.check.Check.TheVariants.{NumberBeforeWord}
use Rattle.starlark_checks.specs.declared.check.Finding.{Finding}
use Rattle.starlark_checks.specs.declared.open_stack.Opened.{Opened}
use Rattle.starlark_checks.specs.declared.token_roles.Role.{Role}
use Rattle.starlark_checks.specs.declared.token_roles.Role.TheVariants.{Closing, Number, Word, MarkerStart}
use Rattle.starlark_checks.specs.MergeMarkers.{marker_at}
use Rattle.starlark_checks.specs.OpenStack.{at_closing, found_at, keeps_line, never_closed, open_after}
use Rattle.starlark_checks.specs.TokenRoles.{role_of}

abbrev pub Text : Type 0
Text = words.Text

-- a lexeme or a fault of a text
pub data Passed : Type 0 where
  Lexeme : (lexeme : Spanned TokenView) → Passed
  Fault : Passed

abbrev pub has_fault : List Passed → Bool
has_fault [] = false
has_fault (Lexeme lexeme ∷ before) = has_fault before
has_fault (Fault ∷ before) = true

-- What is open. After a fault nothing is, since the lexer begins anew after most faults.
abbrev pub open_in : List Passed → List Opened
open_in [] = []
open_in (Lexeme lexeme ∷ before) = if has_fault before then [] else open_after (role_of lexeme.node) lexeme.begin lexeme.end (open_in before)
open_in (Fault ∷ before) = []

-- where the last lexeme ends
abbrev pub end_of : List Passed → ℕ
end_of [] = 0
end_of (Lexeme lexeme ∷ before) = lexeme.end
end_of (Fault ∷ before) = end_of before

-- an LF is between two offsets
abbrev pub has_line_end : Text → (from to : ℕ) → Bool
has_line_end text from to = nat_le from to && nat_le to (length text) && list_any (λ b. b == 10) (slice_range text from to)

-- where the last lexeme begins that has a line end in it or right before it, of those in an expression that has to end on
-- its line
abbrev pub line_begin : Text → List Passed → ℕ
line_begin text [] = 0
line_begin text (Lexeme lexeme ∷ before) = if keeps_line (open_in before) && has_line_end text (end_of before) lexeme.end then lexeme.begin else line_begin text before
line_begin text (Fault ∷ before) = line_begin text before

-- whether a fault was passed last
abbrev pub follows_fault : List Passed → Bool
follows_fault (Fault ∷ before) = true
follows_fault before = false

-- the span of a lexeme, if it is a number; not of one right after a fault, since it may stand for that
abbrev pub span_of_number : (is_after_fault : Bool) → Role → (begin end : ℕ) → Option (ℕ × ℕ)
span_of_number false Number begin end = Some (begin, end)
span_of_number is_after_fault role begin end = None

-- the span of the lexeme right before, if that is such a number
abbrev pub number_in : List Passed → Option (ℕ × ℕ)
number_in (Lexeme lexeme ∷ before) = span_of_number (follows_fault before) (role_of lexeme.node) lexeme.begin lexeme.end
number_in before = None

-- what is found at a number, name or keyword, by the number before it
abbrev pub after_number : Option (ℕ × ℕ) → (begin end : ℕ) → Option Finding
after_number None begin end = None
after_number (Some span) begin end = if span.1 == begin then Some (found_at NumberBeforeWord span.0 end) else None

-- What is found at a lexeme. No role has two checks, so there is at most one finding.
abbrev pub found_by : Text → Role → (begin end : ℕ) → Option (ℕ × ℕ) → (is_after_fault : Bool) → (line_at : ℕ) → List Opened → Option Finding
found_by text (Closing shape) begin end number is_after_fault line_at stack = if is_after_fault then None else at_closing shape (slice_get stack 0) line_at begin end
found_by text Number begin end number is_after_fault line_at stack = after_number number begin end
found_by text Word begin end number is_after_fault line_at stack = after_number number begin end
found_by text (MarkerStart byte) begin end number is_after_fault line_at stack = marker_at text begin byte
found_by text role begin end number is_after_fault line_at stack = None

-- what is found at a lexeme of a text, by what was passed before
unfoldable pub finding : Text → List Passed → Spanned TokenView → Option Finding
finding text before lexeme =
    found_by text (role_of lexeme.node) lexeme.begin lexeme.end (number_in before) (has_fault before) (line_begin text (Lexeme lexeme ∷ before)) (open_in before)

-- the findings of the brackets never closed, once the text has ended, first to last
unfoldable pub open_brackets : List Passed → List Finding
open_brackets before = never_closed (open_in before)
