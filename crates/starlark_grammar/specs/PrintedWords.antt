-- How the keywords and the symbols are written.
use Rattle.std.specs.Prelude.{◌≡◌, ◌++◌, [], Some, map, unwrap_or}
use Rattle.std.specs.Map.{lookup}
use Rattle.starlark_grammar.specs.contracts.class.ClassPartialEq.TheImpl as class
use Rattle.starlark_grammar.specs.Words.{Text, Terminal, Fixed, class_in, language, names, symbols}

-- The word of a keyword or a symbol: the one in its row.
unfoldable pub word_of : Terminal → Text
word_of terminal = unwrap_or (lookup ((class.ghosts).eq (Fixed terminal)) (map (λ row. (row.1, row.0)) (symbols ++ names))) []

-- Each of them is read as the keyword or symbol whose word it is.
abbrev pub PrintedWordsReadBack : Type 0
PrintedWordsReadBack = (terminal : Terminal) → class_in language (word_of terminal) ≡ Some (Fixed terminal)
