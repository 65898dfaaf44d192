-- What a checker stores, and how it changes.
use Rattle.std.specs.Prelude.{◌≡◌, ℕ, false, ◌&&◌, if◌then◌else◌, List}
use Rattle.starlark_checks.specs.Findings.{Passed, Text, end_of, follows_fault, has_fault, has_line_end, line_begin, number_in, open_in, span_of_number}
use Rattle.starlark_checks.specs.OpenStack.{keeps_line, open_after}
use Rattle.starlark_checks.specs.declared.checker.Checker.{Checker}
use Rattle.starlark_checks.specs.declared.token_roles.Role.{Role}

-- the checker has passed these lexemes and faults of a text
pub record HasPassed (text : Text) (before : List Passed) (checker : Checker) : Type 0 where
  pub stack : checker.stack ≡ open_in before
  pub number : checker.number ≡ number_in before
  pub last_end : checker.last_end ≡ end_of before
  pub line_begin : checker.line_begin ≡ line_begin text before
  pub has_fault : checker.has_fault ≡ has_fault before
  pub follows_fault : checker.follows_fault ≡ follows_fault before

-- the checker with the line end of a lexeme
abbrev pub noted : Text → (begin end : ℕ) → Checker → Checker
noted text begin end checker = record checker {
  line_begin = if keeps_line checker.stack && has_line_end text checker.last_end end then begin else checker.line_begin;
}

-- the checker after a lexeme of a role whose line end it has
abbrev pub advanced : Role → (begin end : ℕ) → Checker → Checker
advanced role begin end checker = record checker {
  stack = if checker.has_fault then checker.stack else open_after role begin end checker.stack;
  number = span_of_number checker.follows_fault role begin end;
  last_end = end;
  follows_fault = false;
}
