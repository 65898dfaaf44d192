-- The numbers of kinds, and their names. A number never changes: a new kind gets the next one.
use Rattle.std.specs.Prelude.{◌≡◌, ℕ, List, [], ◌∷◌, ◌++◌, codes, map, nat_eq, unwrap_or}
use Rattle.std.specs.Map.{lookup}
use Rattle.starlark_grammar.specs.contracts.class.TerminalPartialEq.TheImpl as terminals
use Rattle.starlark_grammar.specs.Tokens as grammar
use Rattle.starlark_grammar.specs.declared.class.Terminal.{Terminal}
use Rattle.starlark_grammar.specs.declared.class.TheConstants.{KINDS}
use Rattle.starlark_grammar.specs.Words.{Text}
use Rattle.starlark_token.specs.TokenTexts.{whole_kind}
use Rattle.starlark_token.specs.TokenViews.{TokenView, Whole}

-- the number of a keyword or symbol: that in its row
unfoldable pub terminal_number : Terminal → ℕ
terminal_number terminal = unwrap_or (lookup ((terminals.ghosts).eq terminal) (map (λ row. (row.0, row.2)) KINDS)) 0

-- the numbers of the grammar's tokens
unfoldable pub token_number : grammar.Token → ℕ
token_number (grammar.Comment text) = 1
token_number grammar.Indent = 2
token_number grammar.Dedent = 3
token_number grammar.Newline = 4
token_number (grammar.Identifier name) = 5
token_number (grammar.Int value) = 6
token_number (grammar.Float text) = 7
token_number (grammar.String value) = 8
token_number (grammar.Bytes value) = 9
token_number (grammar.FStringStart opening) = 10
token_number (grammar.FStringText value) = 11
token_number grammar.FStringExprStart = 12
token_number grammar.FStringExprEnd = 13
token_number grammar.FStringBang = 14
token_number grammar.FStringEnd = 15
token_number (grammar.Word terminal) = terminal_number terminal

-- the number of a token's kind; 0 for a word of the scanner, which no lexer yields
unfoldable pub kind_number : TokenView → ℕ
kind_number (Whole token) = token_number token
kind_number view = 0

-- the names of the kinds that are neither keywords nor symbols, each after its number
abbrev pub other_names : List (ℕ × Text)
other_names =
    (1, codes "Comment") ∷ (2, codes "Indent") ∷ (3, codes "Dedent") ∷ (4, codes "Newline") ∷ (5, codes "Identifier")
    ∷ (6, codes "Int") ∷ (7, codes "Float") ∷ (8, codes "String") ∷ (9, codes "Bytes") ∷ (10, codes "FStringStart")
    ∷ (11, codes "FStringText") ∷ (12, codes "FStringExprStart") ∷ (13, codes "FStringExprEnd")
    ∷ (14, codes "FStringBang") ∷ (15, codes "FStringEnd")
    ∷ []

-- the name of the kind with a number; empty where no kind has it
unfoldable pub kind_name : ℕ → Text
kind_name kind = unwrap_or (lookup (nat_eq kind) (other_names ++ map (λ row. (row.2, row.1.now)) KINDS)) []

-- the name at this number is that of each token which has it
abbrev pub NamesTokens : ℕ → Type 0
NamesTokens kind = (token : grammar.Token) → token_number token ≡ kind → kind_name kind ≡ whole_kind token
