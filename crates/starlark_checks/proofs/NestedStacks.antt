-- What is open along lexemes whose brackets and f-strings nest.
use Rattle.std.proofs.Common.{◌≡◌, ℕ, Bool, true, false, List, [], ◌∷◌, ◌++◌, None, Option, Some, refl, ◌∙◌}
use Rattle.std.specs.Prelude.{◌==◌, ◌&&◌, ◌||◌, drop, if◌then◌else◌, nat_lt}
use Rattle.starlark_grammar.specs.Tokens.{Spanned}
use Rattle.starlark_token.specs.TokenViews.{TokenView}
use Rattle.starlark_checks.specs.Findings.{Lexeme, Passed, Text, after_number, finding, found_by, has_fault, line_begin, number_in, open_brackets, open_in}
use Rattle.starlark_checks.specs.MergeMarkers.{begins_line, is_marker, marker_at}
use Rattle.starlark_checks.specs.NestedBrackets.{AreQuiet, Bracket, Expression, FString, Nest, NestedAreQuiet, Nothing, Plain, is_plain, passed_onto, tells_brackets}
use Rattle.starlark_checks.specs.OpenStack.{at_closing, begins_kept_line, from_fstring, is_fstring, keeps_line, open_after}
use Rattle.starlark_checks.specs.TokenRoles.{role_of}
use Rattle.starlark_checks.specs.declared.check.Finding.{Finding}
use Rattle.starlark_checks.specs.declared.open_stack.OpenKind.TheVariants as kind
use Rattle.starlark_checks.specs.declared.open_stack.Opened.{Opened}
use Rattle.starlark_checks.specs.declared.token_roles.Role.{Role}
use Rattle.starlark_checks.specs.declared.token_roles.Role.TheVariants.{Opening, Closing, FStringStart, ExpressionStart, FStringEnd, Number, Word, MarkerStart}
use Rattle.starlark_checks.specs.declared.token_roles.Shape.{Shape}
use Rattle.starlark_checks.specs.declared.token_roles.Shape.TheVariants.{Round, Square, Curly}

-- a bracket and an expression that are opened
abbrev bracket : Shape → (begin end : ℕ) → List Opened → Opened
bracket shape begin end stack = record { kind = kind.Bracket shape; begin = begin; end = end; keeps_line = keeps_line stack }

abbrev expression : (keeps : Bool) → (begin end : ℕ) → List Opened → Opened
expression keeps begin end stack = record { kind = kind.Expression keeps; begin = begin; end = end; keeps_line = keeps || keeps_line stack }

-- One lexeme further

pub stack_after : (before : List Passed) (lexeme : Spanned TokenView) (role : Role) → has_fault before ≡ false → role_of lexeme.node ≡ role → open_in (Lexeme lexeme ∷ before) ≡ open_after role lexeme.begin lexeme.end (open_in before)
stack_after before lexeme role none is = rw (none, is) refl

pub plain_stack : (role : Role) (begin end : ℕ) (stack : List Opened) → is_plain role ≡ true → open_after role begin end stack ≡ stack
plain_stack (Opening shape) begin end stack is = cc
plain_stack (Closing shape) begin end stack is = cc
plain_stack (FStringStart is_triple) begin end stack is = cc
plain_stack ExpressionStart begin end stack is = cc
plain_stack FStringEnd begin end stack is = cc
plain_stack role begin end stack is = refl

-- What is found at one lexeme

quiet_if : (b : Bool) (found : Finding) → tells_brackets (Some found) ≡ false → tells_brackets (if b then Some found else None) ≡ false
quiet_if true found quiet = quiet
quiet_if false found quiet = refl

quiet_number : (number : Option (ℕ × ℕ)) (begin end : ℕ) → tells_brackets (after_number number begin end) ≡ false
quiet_number None begin end = refl
quiet_number (Some span) begin end = quiet_if (span.1 == begin) _ refl

quiet_marker : (text : Text) (begin byte : ℕ) → tells_brackets (marker_at text begin byte) ≡ false
quiet_marker text begin byte = quiet_if (begins_line text begin && is_marker (drop begin text) byte) _ refl

-- no check of brackets finds anything at a role, whatever was passed
abbrev IsQuiet : Role → Type 0
IsQuiet role = (text : Text) (begin end : ℕ) (number : Option (ℕ × ℕ)) (is_after_fault : Bool) (line_at : ℕ) (stack : List Opened) → tells_brackets (found_by text role begin end number is_after_fault line_at stack) ≡ false

quiet_plain : (role : Role) → is_plain role ≡ true → IsQuiet role
quiet_plain Number is = λ text begin end number is_after_fault line_at stack. quiet_number number begin end
quiet_plain Word is = λ text begin end number is_after_fault line_at stack. quiet_number number begin end
quiet_plain (MarkerStart byte) is = λ text begin end number is_after_fault line_at stack. quiet_marker text begin byte
quiet_plain (Closing shape) is = cc
quiet_plain role is = λ text begin end number is_after_fault line_at stack. refl

quiet_role : (text : Text) (before : List Passed) (lexeme : Spanned TokenView) (role : Role) → role_of lexeme.node ≡ role → IsQuiet role → tells_brackets (finding text before lexeme) ≡ false
unfolding finding
quiet_role text before lexeme role is quiet = rw is (quiet text lexeme.begin lexeme.end (number_in before) (has_fault before) (line_begin text (Lexeme lexeme ∷ before)) (open_in before))

-- a closing bracket at which no check of brackets finds anything, after what it closes
abbrev Matches : Shape → Opened → Type 0
Matches shape item = (line_at begin end : ℕ) → tells_brackets (at_closing shape (Some item) line_at begin end) ≡ false

quiet_closing : (text : Text) (before : List Passed) (lexeme : Spanned TokenView) (shape : Shape) (item : Opened) (stack : List Opened) → has_fault before ≡ false → role_of lexeme.node ≡ Closing shape → open_in before ≡ item ∷ stack → Matches shape item → tells_brackets (finding text before lexeme) ≡ false
unfolding finding
quiet_closing text before lexeme shape item stack none is open_is quiet = rw (is, none, open_is) (quiet _ lexeme.begin lexeme.end)

matches_bracket : (shape : Shape) (begin end : ℕ) (stack : List Opened) → Matches shape (bracket shape begin end stack)
matches_bracket Round begin end stack = λ line_at from to. refl
matches_bracket Square begin end stack = λ line_at from to. refl
matches_bracket Curly begin end stack = λ line_at from to. refl

matches_expression : (keeps : Bool) (begin end : ℕ) (stack : List Opened) → Matches Curly (expression keeps begin end stack)
matches_expression keeps begin end stack = λ line_at from to. quiet_if (keeps && nat_lt begin line_at) _ refl

-- Several lexemes

-- brackets and f-strings are open after some lexemes as before them, and no check of brackets finds anything at them
record Stays (text : Text) (before : List Passed) (lexemes : List (Spanned TokenView)) : Type 0 where
  none : has_fault (passed_onto before lexemes) ≡ false
  stack : open_in (passed_onto before lexemes) ≡ open_in before
  quiet : AreQuiet text before lexemes

onto_append : (before : List Passed) (first second : List (Spanned TokenView)) → passed_onto before (first ++ second) ≡ passed_onto (passed_onto before first) second
onto_append before [] second = refl
onto_append before (lexeme ∷ first) second = onto_append (Lexeme lexeme ∷ before) first second

quiet_append : (text : Text) (before : List Passed) (first second : List (Spanned TokenView)) → AreQuiet text before first → AreQuiet text (passed_onto before first) second → AreQuiet text before (first ++ second)
quiet_append text before [] second quiet more = more
quiet_append text before (lexeme ∷ first) second quiet more = (quiet.0, quiet_append text (Lexeme lexeme ∷ before) first second quiet.1 more)

-- a pair of lexemes, with lexemes in it and after it
enclosed : (text : Text) (before : List Passed) (first last : Spanned TokenView) (inside rest : List (Spanned TokenView)) → tells_brackets (finding text before first) ≡ false → Stays text (Lexeme first ∷ before) inside
    → tells_brackets (finding text (passed_onto (Lexeme first ∷ before) inside) last) ≡ false → open_in (Lexeme last ∷ passed_onto (Lexeme first ∷ before) inside) ≡ open_in before
    → Stays text (Lexeme last ∷ passed_onto (Lexeme first ∷ before) inside) rest → Stays text before (first ∷ (inside ++ last ∷ rest))
enclosed text before first last inside rest quiet within closing closes after =
    let onto = onto_append (Lexeme first ∷ before) inside (last ∷ rest) in
    record {
      none = rw onto after.none;
      stack = rw onto (after.stack ∙ closes);
      quiet = (quiet, quiet_append text (Lexeme first ∷ before) inside (last ∷ rest) within.quiet (closing, after.quiet));
    }

-- in an f-string that is innermost
abbrev is_in : Bool → List Opened → Bool
is_in false stack = true
is_in true [] = false
is_in true (item ∷ stack) = is_fstring item.kind

from_same : (stack : List Opened) → is_in true stack ≡ true → from_fstring stack ≡ stack
from_same [] inside = cc
from_same (item ∷ stack) inside = rw inside refl

stays : (is_in_fstring : Bool) (lexemes : List (Spanned TokenView)) → Nest is_in_fstring lexemes → (text : Text) (before : List Passed) → has_fault before ≡ false → is_in is_in_fstring (open_in before) ≡ true → Stays text before lexemes
stays _ _ (Nothing is_in_fstring) text before none inside = record { none = none; stack = refl; quiet = tt }
stays _ _ (Plain is_in_fstring lexeme rest plain nest) text before none inside =
    let role = role_of lexeme.node in
    let same : open_in (Lexeme lexeme ∷ before) ≡ open_in before = stack_after before lexeme role none refl ∙ plain_stack role lexeme.begin lexeme.end (open_in before) plain in
    let after = stays is_in_fstring rest nest text (Lexeme lexeme ∷ before) none (rw same inside) in
    record {
      none = after.none;
      stack = after.stack ∙ same;
      quiet = (quiet_role text before lexeme role refl (quiet_plain role plain), after.quiet);
    }
stays _ _ (Bracket shape first last within rest opens closes nest more) text before none inside =
    let stack = open_in before in
    let item = bracket shape first.begin first.end stack in
    let inner = stays false within nest text (Lexeme first ∷ before) none refl in
    let middle = passed_onto (Lexeme first ∷ before) within in
    let open_is : open_in middle ≡ item ∷ stack = inner.stack ∙ stack_after before first (Opening shape) none opens in
    let closed : open_in (Lexeme last ∷ middle) ≡ stack = stack_after middle last (Closing shape) inner.none closes ∙ rw open_is refl in
    enclosed text before first last within rest (quiet_role text before first (Opening shape) opens (λ text begin end number is_after_fault line_at stack. refl)) inner
    (quiet_closing text middle last shape item stack inner.none closes open_is (matches_bracket shape first.begin first.end stack)) closed
    (stays false rest more text (Lexeme last ∷ middle) inner.none refl)
stays _ _ (FString is_triple first last within rest opens closes nest more) text before none inside =
    let stack = open_in before in
    let opened = stack_after before first (FStringStart is_triple) none opens in
    let inner = stays true within nest text (Lexeme first ∷ before) none (rw opened refl) in
    let middle = passed_onto (Lexeme first ∷ before) within in
    let closed : open_in (Lexeme last ∷ middle) ≡ stack = stack_after middle last FStringEnd inner.none closes ∙ rw (inner.stack, opened) refl in
    enclosed text before first last within rest (quiet_role text before first (FStringStart is_triple) opens (λ text begin end number is_after_fault line_at stack. refl)) inner
    (quiet_role text middle last FStringEnd closes (λ text begin end number is_after_fault line_at stack. refl)) closed
    (stays false rest more text (Lexeme last ∷ middle) inner.none refl)
stays _ _ (Expression first last within rest opens closes nest more) text before none inside =
    let stack = open_in before in
    let keeps = begins_kept_line stack in
    let item = expression keeps first.begin first.end stack in
    let inner = stays false within nest text (Lexeme first ∷ before) none refl in
    let middle = passed_onto (Lexeme first ∷ before) within in
    let open_is : open_in middle ≡ item ∷ stack = inner.stack ∙ stack_after before first ExpressionStart none opens ∙ rw (from_same stack inside) refl in
    let closed : open_in (Lexeme last ∷ middle) ≡ stack = stack_after middle last (Closing Curly) inner.none closes ∙ rw open_is refl in
    enclosed text before first last within rest (quiet_role text before first ExpressionStart opens (λ text begin end number is_after_fault line_at stack. refl)) inner
    (quiet_closing text middle last Curly item stack inner.none closes open_is (matches_expression keeps first.begin first.end stack)) closed
    (stays true rest more text (Lexeme last ∷ middle) inner.none (rw closed inside))

pub nested_are_quiet : NestedAreQuiet
unfolding open_brackets
nested_are_quiet text lexemes nest = let stay = stays false lexemes nest text [] refl refl in (stay.quiet, rw stay.stack refl)
