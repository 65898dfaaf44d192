-- The table of the language, by its parts.
use Rattle.std.proofs.Common.{◌≡◌, Bool, true, false, cond, List, [], ◌∷◌, ◌++◌, refl, ap, ◌∙◌, Some}
use Rattle.std.specs.Map.{lookup}
use Rattle.std.specs.Option.{option_or}
use Rattle.std.specs.Str.{bytes_eq}
use Rattle.starlark_grammar.specs.Words.{Text, Class, Table, class_in, listed, openers, line_ends, symbols, names, patterns, language}

class_in-append : (front back : Table) (word : Text) → class_in (front ++ back) word ≡ option_or (class_in front word) (class_in back word)
unfolding class_in
class_in-append [] back word = refl
class_in-append (row ∷ rows) back word = go (row.0 word) (class_in-append rows back word)
  where
    go : (passes : Bool) → class_in (rows ++ back) word ≡ option_or (class_in rows word) (class_in back word)
        → cond passes (Some row.1) (class_in (rows ++ back) word) ≡ option_or (cond passes (Some row.1) (class_in rows word)) (class_in back word)
    go true more = refl
    go false more = more

-- the class of a word by a list of words
pub class_in-listed : (rows : List (Text × Class)) (word : Text) → class_in (listed rows) word ≡ lookup (bytes_eq word) rows
unfolding class_in
class_in-listed [] word = refl
class_in-listed (row ∷ rows) word = ap (cond (bytes_eq word row.0) (Some row.1)) (class_in-listed rows word)

-- the class by a list of words and a table after it
pub class_in-remainder : (rows : List (Text × Class)) (back : Table) (word : Text) → class_in (listed rows ++ back) word ≡ option_or (lookup (bytes_eq word) rows) (class_in back word)
class_in-remainder rows back word = class_in-append (listed rows) back word ∙ ap (λ found. option_or found (class_in back word)) (class_in-listed rows word)

-- The class of a word by the language: the lists in turn, and then the patterns.
pub class_in-language : (word : Text) → class_in language word ≡ option_or (lookup (bytes_eq word) openers) (option_or (lookup (bytes_eq word) line_ends) (option_or (lookup (bytes_eq word) symbols) (option_or (lookup (bytes_eq word) names) (class_in patterns word))))
unfolding language
class_in-language word =
    class_in-remainder openers (listed line_ends ++ (listed symbols ++ (listed names ++ patterns))) word
    ∙ ap (option_or (lookup (bytes_eq word) openers)) (class_in-remainder line_ends (listed symbols ++ (listed names ++ patterns)) word
    ∙ ap (option_or (lookup (bytes_eq word) line_ends)) (class_in-remainder symbols (listed names ++ patterns) word
    ∙ ap (option_or (lookup (bytes_eq word) symbols)) (class_in-remainder names patterns word)))
