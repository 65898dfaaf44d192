-- The items of a text: its lexemes, and then its fault.
use Rattle.std.specs.Prelude.{List, ◌++◌, map, option_to_list}
use Rattle.starlark_grammar.specs.Words.{Text}
use Rattle.starlark_grammar.specs.Tokens as grammar
use Rattle.starlark_grammar.specs.Reading.{outcome}
use Rattle.starlark_token.specs.Lexemes.{shown_lexeme}
use Rattle.starlark_token.specs.TokenViews.{TokenView}

-- an item of a text: a lexeme, or the text's fault
pub data LexerItem : Type 0 where
  Given : (lexeme : grammar.Spanned TokenView) → LexerItem
  Refused : (fault : grammar.Spanned grammar.Fault) → LexerItem

-- the items of a text, with the fault after all lexemes
unfoldable pub items : Text → List LexerItem
items text = map (λ lexeme. Given (shown_lexeme lexeme)) (outcome text).lexemes ++ map Refused (option_to_list (outcome text).fault)
