-- Lexemes at which no check finds anything.
use Rattle.std.proofs.Common.{◌≡◌, ℕ, Bool, List, None, Option, sym}
use Rattle.starlark_grammar.specs.Tokens.{Spanned}
use Rattle.starlark_token.specs.TokenViews.{TokenView}
use Rattle.starlark_checks.specs.Findings.{Passed, Text, finding, found_by, number_in}
use Rattle.starlark_checks.specs.TokenRoles.{role_of}
use Rattle.starlark_checks.specs.declared.open_stack.Opened.{Opened}
use Rattle.starlark_checks.specs.declared.token_roles.Role.{Role}

-- no check finds anything at a role after a number, or after none
abbrev pub FindsNothing : Role → Option (ℕ × ℕ) → Type 0
FindsNothing role number = (text : Text) (begin end line_at : ℕ) (is_after_fault : Bool) (stack : List Opened) → found_by text role begin end number is_after_fault line_at stack ≡ None

pub nothing_found : (text : Text) (before : List Passed) (lexeme : Spanned TokenView) (role : Role) (number : Option (ℕ × ℕ)) → role ≡ role_of lexeme.node → number ≡ number_in before → FindsNothing role number → None ≡ finding text before lexeme
unfolding finding
nothing_found text before lexeme role number is same nothing = rw (← is, ← same) (sym (nothing text lexeme.begin lexeme.end _ _ _))
