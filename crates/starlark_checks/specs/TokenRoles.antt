-- What tokens are to the checks.
use Rattle.starlark_grammar.specs.declared.class.Terminal.TheVariants as terminal
use Rattle.starlark_grammar.specs.declared.class.Terminal.{Terminal}
use Rattle.starlark_grammar.specs.Tokens as grammar
use Rattle.starlark_token.specs.TokenViews.{TokenView, Whole}
use Rattle.starlark_checks.specs.declared.token_roles.Role.{Role}
use Rattle.starlark_checks.specs.declared.token_roles.Role.TheVariants.{Opening, Closing, FStringStart, ExpressionStart, FStringEnd, Number, Word, MarkerStart, Other}
use Rattle.starlark_checks.specs.declared.token_roles.Shape.TheVariants.{Round, Square, Curly}

-- the role of a keyword or symbol
abbrev pub role_of_terminal : Terminal → Role
role_of_terminal terminal.OpeningRound = Opening Round
role_of_terminal terminal.OpeningSquare = Opening Square
role_of_terminal terminal.OpeningCurly = Opening Curly
role_of_terminal terminal.ClosingRound = Closing Round
role_of_terminal terminal.ClosingSquare = Closing Square
role_of_terminal terminal.ClosingCurly = Closing Curly
role_of_terminal terminal.LessLess = MarkerStart 60
role_of_terminal terminal.EqualEqual = MarkerStart 61
role_of_terminal terminal.GreaterGreater = MarkerStart 62
role_of_terminal terminal.And = Word
role_of_terminal terminal.Break = Word
role_of_terminal terminal.Continue = Word
role_of_terminal terminal.Def = Word
role_of_terminal terminal.Elif = Word
role_of_terminal terminal.Else = Word
role_of_terminal terminal.For = Word
role_of_terminal terminal.If = Word
role_of_terminal terminal.In = Word
role_of_terminal terminal.Lambda = Word
role_of_terminal terminal.Load = Word
role_of_terminal terminal.Not = Word
role_of_terminal terminal.Or = Word
role_of_terminal terminal.Pass = Word
role_of_terminal terminal.Return = Word
role_of_terminal symbol = Other

-- The role of a token. The `}` after an expression of an f-string is a closing bracket.
abbrev pub role_of : TokenView → Role
role_of (Whole (grammar.Word word)) = role_of_terminal word
role_of (Whole (grammar.Identifier name)) = Word
role_of (Whole (grammar.Int value)) = Number
role_of (Whole (grammar.Float text)) = Number
role_of (Whole (grammar.FStringStart opening)) = FStringStart opening.is_triple
role_of (Whole grammar.FStringExprStart) = ExpressionStart
role_of (Whole grammar.FStringExprEnd) = Closing Curly
role_of (Whole grammar.FStringEnd) = FStringEnd
role_of view = Other
