-- Runs of a literal's body: characters without escapes.
use Rattle.std.specs.Prelude.{◌≡◌, ℕ, Bool, ◌&&◌, ◌||◌, ◌==◌, not, take, true}
use Rattle.std.specs.List.{list_all}
use Rattle.std.specs.Str.{IsCharBoundary, byte}
use Rattle.starlark_grammar.specs.Items.{Literal, is_brace, quote_byte}
use Rattle.starlark_grammar.specs.Words.{Text}

-- the bytes that end a run: the literal's quote, a backslash, a CR, an LF that ends the literal,
-- and the braces in an f-string
abbrev pub is_special : Literal → ℕ → Bool
is_special literal b =
    b == quote_byte literal.opening.quote || (b == byte "\\" || (b == byte "\r" || ((b == byte "\n" && not literal.opening.is_triple) || is_brace literal.kind b)))

-- all other bytes
abbrev pub is_in_run : Literal → ℕ → Bool
is_in_run literal b = not (is_special literal b)

-- so many bytes at the front of a body are in a run of the literal
pub record IsRun (literal : Literal) (text : Text) (count : ℕ) : Type 0 where
  pub boundary : IsCharBoundary text count
  pub all : list_all (is_in_run literal) (take count text) ≡ true
