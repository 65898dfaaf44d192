use Rattle.std.proofs.Common.{ap, refl}
use Rattle.starlark_grammar.specs.Tokens as grammar
use Rattle.starlark_token.specs.TokenViews.{Whole, token_view}
use Rattle.starlark_lexemes.specs.declared.passed.Kind.TheVariants as kind
use Rattle.starlark_lexemes.proofs.PlainLexemes.{taken_plain}
use Rattle.starlark_lexemes.proofs.lexer_state.LexerState.take.Goals as goal

pub returns-in_ok-copied-in-Identifier : goal.returns-in_ok-copied-in-Identifier
unfolding token_view
returns-in_ok-copied-in-Identifier c =
    let is = c.in_ok-copied-in-Identifier.ensures.value in
    taken_plain c.args.self.now kind.Identifier c.args.passed _ _ c.in-Identifier.is refl (ap (λ t. Whole (grammar.Identifier t)) is.0) is.1

pub returns-in_ok-copied-in-String : goal.returns-in_ok-copied-in-String
unfolding token_view
returns-in_ok-copied-in-String c =
    let is = c.in_ok-copied-in-String.ensures.value in
    taken_plain c.args.self.now kind.String c.args.passed _ _ c.in-String.is refl (ap (λ t. Whole (grammar.String t)) is.0) is.1

pub returns-in_ok-copied-in-FStringText : goal.returns-in_ok-copied-in-FStringText
unfolding token_view
returns-in_ok-copied-in-FStringText c =
    let is = c.in_ok-copied-in-FStringText.ensures.value in
    taken_plain c.args.self.now kind.FStringText c.args.passed _ _ c.in-FStringText.is refl (ap (λ t. Whole (grammar.FStringText t)) is.0) is.1

pub returns-in_ok-copied-in-Comment : goal.returns-in_ok-copied-in-Comment
unfolding token_view
returns-in_ok-copied-in-Comment c =
    let is = c.in_ok-copied-in-Comment.ensures.value in
    taken_plain c.args.self.now kind.Comment c.args.passed _ _ c.in-Comment.is refl (ap (λ t. Whole (grammar.Comment t)) is.0) is.1

pub returns-in-Newline : goal.returns-in-Newline
unfolding token_view
returns-in-Newline c = taken_plain c.args.self.now kind.Newline c.args.passed _ _ c.in-Newline.is refl refl refl

pub returns-in-Indent : goal.returns-in-Indent
unfolding token_view
returns-in-Indent c = taken_plain c.args.self.now kind.Indent c.args.passed _ _ c.in-Indent.is refl refl refl

pub returns-in-Dedent : goal.returns-in-Dedent
unfolding token_view
returns-in-Dedent c = taken_plain c.args.self.now kind.Dedent c.args.passed _ _ c.in-Dedent.is refl refl refl

pub returns-in-FStringExprStart : goal.returns-in-FStringExprStart
unfolding token_view
returns-in-FStringExprStart c = taken_plain c.args.self.now kind.FStringExprStart c.args.passed _ _ c.in-FStringExprStart.is refl refl refl

pub returns-in-FStringExprEnd : goal.returns-in-FStringExprEnd
unfolding token_view
returns-in-FStringExprEnd c = taken_plain c.args.self.now kind.FStringExprEnd c.args.passed _ _ c.in-FStringExprEnd.is refl refl refl

pub returns-in-FStringEnd : goal.returns-in-FStringEnd
unfolding token_view
returns-in-FStringEnd c = taken_plain c.args.self.now kind.FStringEnd c.args.passed _ _ c.in-FStringEnd.is refl refl refl
