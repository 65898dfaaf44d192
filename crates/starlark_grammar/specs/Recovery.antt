-- What is found in a text that is lexed on after its faults, its lexemes and its faults apart.
use Rattle.std.specs.Prelude.{List}
unfoldable pub use Rattle.starlark_grammar.specs.AfterFaults.{is_margin_tab, is_tab, line_end_len, margin_line, next_line, restart, stopped_at}
use Rattle.starlark_grammar.specs.Tokens.{Lexeme, Spanned, Fault}

-- what is found in a text: its lexemes and its faults
pub record Recovered : Type 0 where
  pub lexemes : List Lexeme
  pub faults : List (Spanned Fault)
