-- The names of the grammar's tokens, found by their numbers.
use borrow.Enum.Match.{tag_small}
use denote.Enum.Declared.{tag_of, variants}
use Rattle.std.proofs.Common.{◌≡◌, ℕ, Bool, true, bytes_eq, length, map, nat_eq, refl, unwrap_or, ◌<◌, []}
use Rattle.std.proofs.lemmas.Bool.{agree_below_at}
use Rattle.std.proofs.lemmas.Slice.Eq.{bytes_eq-Decides}
use Rattle.std.specs.Map.{lookup}
use Rattle.starlark_c.specs.Kinds.{kind_name, terminal_number, token_number}
use Rattle.starlark_grammar.specs.Tokens as grammar
use Rattle.starlark_grammar.specs.Words.{Text}
use Rattle.starlark_grammar.specs.contracts.class.Terminal.{the_type}
use Rattle.starlark_grammar.specs.declared.class.Terminal.{Terminal}
use Rattle.starlark_grammar.specs.declared.class.TheConstants.{KINDS}
use Rattle.starlark_token.specs.TokenTexts.{terminal_kind, whole_kind}

-- whether a keyword or symbol has this tag
abbrev has_tag : ℕ → Terminal → Bool
has_tag tag terminal = nat_eq tag (tag_of the_type terminal)

-- the number and the name of the keyword or symbol with this tag
abbrev number_by_tag : ℕ → ℕ
number_by_tag tag = unwrap_or (lookup (has_tag tag) (map (λ row. (row.0, row.2)) KINDS)) 0

abbrev name_by_tag : ℕ → Text
name_by_tag tag = unwrap_or (lookup (has_tag tag) (map (λ row. (row.0, row.1.now)) KINDS)) []

-- whether its name is found by its number
abbrev is_named : ℕ → Bool
is_named tag = bytes_eq (kind_name (number_by_tag tag)) (name_by_tag tag)

each_is_named : (tag : ℕ) → tag < length (variants the_type) → is_named tag ≡ true
unfolding kind_name
each_is_named tag small = agree_below_at is_named (λ _. true) (length (variants the_type)) tag refl small

-- the name of a keyword or symbol is found by its number
pub terminal_named : (terminal : Terminal) → kind_name (terminal_number terminal) ≡ terminal_kind terminal
unfolding terminal_number terminal_kind
terminal_named terminal =
    (bytes_eq-Decides (kind_name (terminal_number terminal)) (terminal_kind terminal)).0
    (each_is_named (tag_of the_type terminal) (tag_small the_type terminal))

-- the name of a token is found by its number
pub token_named : (token : grammar.Token) → kind_name (token_number token) ≡ whole_kind token
unfolding kind_name token_number whole_kind
token_named (grammar.Word terminal) = terminal_named terminal
token_named token = refl
