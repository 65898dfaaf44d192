-- The closing quotes of a literal.
use Rattle.std.proofs.Common.{◌≡◌, ℕ, ◌≤◌, Bool, true, false, length, refl, arith}
use Rattle.std.specs.List.{list_all}
use Rattle.starlark_grammar.specs.declared.class.Quote.{Quote}
use Rattle.starlark_grammar.specs.declared.class.Quote.TheVariants.{Single as SingleQuote, Double as DoubleQuote}
use Rattle.starlark_grammar.specs.Tokens.{Opening}
use Rattle.starlark_grammar.specs.Items.{closing_quotes}

-- what holds of both quotes holds of all closing quotes
pub quotes_hold : (test : ℕ → Bool) → test 39 ≡ true → test 34 ≡ true → (opening : Opening) → list_all test (closing_quotes opening) ≡ true
quotes_hold test single double opening = go opening.is_triple opening.quote
  where
    go : (triple : Bool) (quote : Quote) → list_all test (closing_quotes (record { is_raw = opening.is_raw; quote = quote; is_triple = triple })) ≡ true
    go true SingleQuote = rw single refl
    go true DoubleQuote = rw double refl
    go false SingleQuote = rw single refl
    go false DoubleQuote = rw double refl

pub some_quotes : (opening : Opening) → 1 ≤ length (closing_quotes opening)
some_quotes opening = go opening.is_triple
  where
    go : (triple : Bool) → 1 ≤ length (closing_quotes (record { is_raw = opening.is_raw; quote = opening.quote; is_triple = triple }))
    go true = omega arith
    go false = omega arith
