-- The words of the keywords and the symbols are read as what they are the words of.
use borrow.Enum.Match.{tag_small}
use denote.Enum.Bare.{same_true}
use denote.Enum.Declared.{tag_of, variants}
use Rattle.std.proofs.Common.{◌≡◌, ℕ, Bool, true, false, nat_eq, length, map, refl, sym, ap, Option, Some, None, unwrap_or, ◌++◌, ◌<◌, []}
use Rattle.std.proofs.lemmas.Bool.{agree_below_at}
use Rattle.std.specs.Map.{lookup}
use Rattle.starlark_grammar.specs.declared.class.Class.{Class}
use Rattle.starlark_grammar.specs.declared.class.Class.TheVariants as class
use Rattle.starlark_grammar.specs.declared.class.Terminal.{Terminal}
use Rattle.starlark_grammar.specs.contracts.class.Terminal.{the_type}
use Rattle.starlark_grammar.specs.Words.{Text, class_in, openers, line_ends, symbols, names, patterns, language}
use Rattle.starlark_grammar.specs.PrintedWords.{word_of, PrintedWordsReadBack}

-- whether a class is that of the keyword or symbol with this tag
abbrev has_tag : ℕ → Class → Bool
has_tag tag (class.Fixed terminal) = nat_eq tag (tag_of the_type terminal)
has_tag tag other = false

-- the word of the keyword or symbol with this tag
abbrev word_by_tag : ℕ → Text
word_by_tag tag = unwrap_or (lookup (has_tag tag) (map (λ row. (row.1, row.0)) (symbols ++ names))) []

-- it is read as the one with this tag
abbrev is_read : ℕ → Option Class → Bool
is_read tag (Some class) = has_tag tag class
is_read tag None = false

each_is_read : (tag : ℕ) → tag < length (variants the_type) → is_read tag (class_in language (word_by_tag tag)) ≡ true
unfolding class_in openers line_ends symbols names patterns language
each_is_read tag small = agree_below_at (λ tag. is_read tag (class_in language (word_by_tag tag))) (λ _. true) (length (variants the_type)) tag refl small

read_as : (terminal : Terminal) (found : Option Class) → is_read (tag_of the_type terminal) found ≡ true → found ≡ Some (class.Fixed terminal)
read_as terminal (Some (class.Fixed other)) h = ap (λ terminal. Some (class.Fixed terminal)) (sym (same_true the_type tt terminal other h))
read_as terminal found h = cc

pub words_read_back : PrintedWordsReadBack
unfolding word_of symbols names
words_read_back terminal = read_as terminal (class_in language (word_of terminal)) (each_is_read (tag_of the_type terminal) (tag_small the_type terminal))
