-- Lexemes at which no check of brackets finds anything, and what they close.
use Rattle.std.proofs.Common.{◌≡◌, ℕ, Bool, true, false, List, [], ◌∷◌, ◌++◌, None, Option, Some, ap, append_assoc, refl, subst, sym, ◌∙◌}
use Rattle.std.specs.Prelude.{if◌then◌else◌, option_to_list}
use Rattle.starlark_grammar.specs.Tokens.{Spanned}
use Rattle.starlark_token.specs.TokenViews.{TokenView}
use Rattle.starlark_checks.specs.Findings.{Lexeme, Passed, Text, finding, has_fault, line_begin, open_brackets, open_in}
use Rattle.starlark_checks.specs.NestedBrackets.{AreQuiet, Bracket, HaveNoFString, Nest, Nothing, Plain, QuietNest, is_of_fstring, is_plain, passed_onto, tells_brackets}
use Rattle.starlark_checks.specs.OpenStack.{at_closing, found_at, is_same, keeps_line, never_closed, unclosed, without_closed}
use Rattle.starlark_checks.specs.TokenRoles.{role_of}
use Rattle.std.specs.List.{slice_get}
use Rattle.starlark_checks.specs.declared.check.Check.TheVariants.{NeverClosed}
use Rattle.starlark_checks.specs.declared.check.Finding.{Finding}
use Rattle.starlark_checks.specs.declared.open_stack.OpenKind.{OpenKind}
use Rattle.starlark_checks.specs.declared.open_stack.OpenKind.TheVariants as kind
use Rattle.starlark_checks.specs.declared.open_stack.Opened.{Opened}
use Rattle.starlark_checks.specs.declared.token_roles.Role.{Role}
use Rattle.starlark_checks.specs.declared.token_roles.Role.TheVariants.{Opening, Closing, FStringStart, ExpressionStart, FStringEnd}
use Rattle.starlark_checks.specs.declared.token_roles.Shape.{Shape}
use Rattle.starlark_checks.specs.declared.token_roles.Shape.TheVariants.{Round, Square, Curly}
use Rattle.starlark_checks.proofs.NestedStacks.{stack_after}

-- Lexemes that close what is open: what nests, a bracket's closing, and so on.
data Closes : List Opened → List (Spanned TokenView) → Type 0 where
  Done : (lexemes : List (Spanned TokenView)) → Nest false lexemes → Closes [] lexemes
  Step : (item : Opened) (stack : List Opened) (shape : Shape) (last : Spanned TokenView) (inside rest : List (Spanned TokenView)) → item.kind ≡ kind.Bracket shape → role_of last.node ≡ Closing shape → Nest false inside → Closes stack rest → Closes (item ∷ stack) (inside ++ last ∷ rest)

-- a plain lexeme before them
with_plain : (lexeme : Spanned TokenView) → is_plain (role_of lexeme.node) ≡ true → (stack : List Opened) (lexemes : List (Spanned TokenView)) → Closes stack lexemes → Closes stack (lexeme ∷ lexemes)
with_plain lexeme plain _ _ (Done lexemes nest) = Done (lexeme ∷ lexemes) (Plain false lexeme lexemes plain nest)
with_plain lexeme plain _ _ (Step item stack shape last inside rest is closes nest more) = Step item stack shape last (lexeme ∷ inside) rest is closes (Plain false lexeme inside plain nest) more

-- a pair of brackets before them
with_pair : (shape : Shape) (first closing : Spanned TokenView) (within : List (Spanned TokenView)) → role_of first.node ≡ Opening shape → role_of closing.node ≡ Closing shape → Nest false within
    → (stack : List Opened) (lexemes : List (Spanned TokenView)) → Closes stack lexemes → Closes stack (first ∷ (within ++ closing ∷ lexemes))
with_pair shape first closing within opens closed inner _ _ (Done lexemes nest) = Done _ (Bracket shape first closing within lexemes opens closed inner nest)
with_pair shape first closing within opens closed inner _ _ (Step item stack other last inside rest is closes nest more) =
    subst (λ (lexemes : List (Spanned TokenView)). Closes (item ∷ stack) (first ∷ lexemes)) (append_assoc within (closing ∷ inside) (last ∷ rest))
    (Step item stack other last (first ∷ (within ++ closing ∷ inside)) rest is closes (Bracket shape first closing within inside opens closed inner nest) more)

-- an opening bracket before them, which they close
with_opening : (shape : Shape) (first : Spanned TokenView) → role_of first.node ≡ Opening shape → (item : Opened) → item.kind ≡ kind.Bracket shape → (stack : List Opened) (lexemes : List (Spanned TokenView)) → Closes (item ∷ stack) lexemes → Closes stack (first ∷ lexemes)
with_opening shape first opens item kind_is stack _ (Step _ _ other last inside rest is closes nest more) =
    let same : shape ≡ other = cc in
    with_pair shape first last inside opens (rw same closes) nest stack rest more

abbrev is_bracket : OpenKind → Bool
is_bracket (kind.Bracket shape) = true
is_bracket other = false

-- brackets alone are open
abbrev AreBrackets : List Opened → Type 0
AreBrackets [] = Unit {0}
AreBrackets (item ∷ stack) = (is_bracket item.kind ≡ true) × AreBrackets stack

shape_of : (opened : OpenKind) → is_bracket opened ≡ true → (shape : Shape) × (opened ≡ kind.Bracket shape)
shape_of (kind.Bracket shape) is = (shape, refl)
shape_of other is = cc

never_empty : (findings : List Finding) (found : Finding) → findings ++ found ∷ [] ≡ [] → ⊥
never_empty [] found e = cc
never_empty (first ∷ findings) found e = cc

closed_by : (shape other : Shape) (item : Opened) (stack : List Opened) → item.kind ≡ kind.Bracket other → without_closed shape (item ∷ stack) ≡ stack
closed_by shape other item stack is = rw is refl

bracket_unclosed : (item : Opened) (shape : Shape) → item.kind ≡ kind.Bracket shape → unclosed item ≡ Some (found_at NeverClosed item.begin item.end)
bracket_unclosed item shape is = rw is refl

none_open : (stack : List Opened) → AreBrackets stack → never_closed stack ≡ [] → stack ≡ []
none_open [] brackets none = refl
none_open (item ∷ stack) brackets none =
    let shape = shape_of item.kind brackets.0 in
    let found = ap (λ (found : Option Finding). never_closed stack ++ option_to_list found) (sym (bracket_unclosed item shape.0 shape.1)) in
    absurd (never_empty (never_closed stack) (found_at NeverClosed item.begin item.end) (found ∙ none))

same_shapes : (shape other : Shape) → is_same shape other ≡ true → shape ≡ other
same_shapes Round Round is = refl
same_shapes Square Square is = refl
same_shapes Curly Curly is = refl
same_shapes shape other is = cc

-- What is found at a closing bracket

finding_at_closing : (text : Text) (before : List Passed) (lexeme : Spanned TokenView) (shape : Shape) (stack : List Opened) → has_fault before ≡ false → role_of lexeme.node ≡ Closing shape → open_in before ≡ stack
    → finding text before lexeme ≡ at_closing shape (slice_get stack 0) (line_begin text (Lexeme lexeme ∷ before)) lexeme.begin lexeme.end
unfolding finding
finding_at_closing text before lexeme shape stack none is open_is = rw (is, none, open_is) refl

told_unless : (b : Bool) (found : Finding) → tells_brackets (Some found) ≡ true → tells_brackets (if b then None else Some found) ≡ false → b ≡ true
told_unless true found told quiet = refl
told_unless false found told quiet = cc

closes_same : (shape other : Shape) (item : Opened) (line_at begin end : ℕ) → item.kind ≡ kind.Bracket other → tells_brackets (at_closing shape (Some item) line_at begin end) ≡ false → other ≡ shape
closes_same shape other item line_at begin end is quiet = same_shapes other shape (told_unless (is_same other shape) _ refl (rw is at quiet))

-- One lexeme more

close_more : (lexeme : Spanned TokenView) (lexemes : List (Spanned TokenView)) (text : Text) (before : List Passed) (shape : Shape) → has_fault before ≡ false → role_of lexeme.node ≡ Closing shape → tells_brackets (finding text before lexeme) ≡ false
    → (stack : List Opened) → open_in before ≡ stack → AreBrackets stack → ((left : List Opened) → open_in (Lexeme lexeme ∷ before) ≡ left → AreBrackets left → Closes left lexemes) → Closes stack (lexeme ∷ lexemes)
close_more lexeme lexemes text before shape none is quiet [] open_is brackets again =
    let told : true ≡ false = ap tells_brackets (sym (finding_at_closing text before lexeme shape [] none is open_is)) ∙ quiet in cc
close_more lexeme lexemes text before shape none is quiet (item ∷ stack) open_is brackets again =
    let other = shape_of item.kind brackets.0 in
    let found = ap tells_brackets (sym (finding_at_closing text before lexeme shape (item ∷ stack) none is open_is)) ∙ quiet in
    let same = closes_same shape other.0 item (line_begin text (Lexeme lexeme ∷ before)) lexeme.begin lexeme.end other.1 found in
    let left = stack_after before lexeme (Closing shape) none is ∙ ap (without_closed shape) open_is ∙ closed_by shape other.0 item stack other.1 in
    Step item stack shape lexeme [] lexemes (other.1 ∙ ap kind.Bracket same) is (Nothing false) (again stack left brackets.1)

one_more : (lexeme : Spanned TokenView) (lexemes : List (Spanned TokenView)) (text : Text) (before : List Passed) → has_fault before ≡ false → tells_brackets (finding text before lexeme) ≡ false → is_of_fstring (role_of lexeme.node) ≡ false
    → (stack : List Opened) → open_in before ≡ stack → AreBrackets stack → ((left : List Opened) → open_in (Lexeme lexeme ∷ before) ≡ left → AreBrackets left → Closes left lexemes)
    → (role : Role) → role_of lexeme.node ≡ role → Closes stack (lexeme ∷ lexemes)
one_more lexeme lexemes text before none quiet own stack open_is brackets again (Opening shape) is =
    let item : Opened = record { kind = kind.Bracket shape; begin = lexeme.begin; end = lexeme.end; keeps_line = keeps_line stack } in
    with_opening shape lexeme is item refl stack lexemes (again (item ∷ stack) (stack_after before lexeme (Opening shape) none is ∙ rw open_is refl) (refl, brackets))
one_more lexeme lexemes text before none quiet own stack open_is brackets again (Closing shape) is =
    close_more lexeme lexemes text before shape none is quiet stack open_is brackets again
one_more lexeme lexemes text before none quiet own stack open_is brackets again (FStringStart is_triple) is = let bad : true ≡ false = ap is_of_fstring (sym is) ∙ own in cc
one_more lexeme lexemes text before none quiet own stack open_is brackets again ExpressionStart is = let bad : true ≡ false = ap is_of_fstring (sym is) ∙ own in cc
one_more lexeme lexemes text before none quiet own stack open_is brackets again FStringEnd is = let bad : true ≡ false = ap is_of_fstring (sym is) ∙ own in cc
one_more lexeme lexemes text before none quiet own stack open_is brackets again role is =
    with_plain lexeme (ap is_plain is) stack lexemes (again stack (stack_after before lexeme role none is ∙ open_is) brackets)

closes : (lexemes : List (Spanned TokenView)) (text : Text) (before : List Passed) → has_fault before ≡ false → HaveNoFString lexemes → AreQuiet text before lexemes → never_closed (open_in (passed_onto before lexemes)) ≡ []
    → (stack : List Opened) → open_in before ≡ stack → AreBrackets stack → Closes stack lexemes
closes [] text before none own quiet closed stack open_is brackets =
    let empty = none_open stack brackets (ap never_closed (sym open_is) ∙ closed) in
    subst (λ (stack : List Opened). Closes stack []) (sym empty) (Done [] (Nothing false))
closes (lexeme ∷ lexemes) text before none own quiet closed stack open_is brackets =
    one_more lexeme lexemes text before none quiet.0 own.0 stack open_is brackets (closes lexemes text (Lexeme lexeme ∷ before) none own.1 quiet.1 closed) (role_of lexeme.node) refl

nest_of : (lexemes : List (Spanned TokenView)) → Closes [] lexemes → Nest false lexemes
nest_of _ (Done lexemes nest) = nest

pub quiet_nest : QuietNest
unfolding open_brackets
quiet_nest text lexemes own quiet closed = nest_of lexemes (closes lexemes text [] refl own quiet closed [] refl tt)
