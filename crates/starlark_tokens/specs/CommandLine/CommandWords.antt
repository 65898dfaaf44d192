-- The words of a command line.
use Rattle.std.specs.Prelude.{◌≡◌, ℕ, ◌+◌, Bool, not, nat_eq, if◌then◌else◌, List, [], ◌∷◌, ◌++◌, codes, drop, map, take, Option, Some, None}
use Rattle.std.specs.List.{list_any, prefix_len, starts_with}
use Rattle.std.specs.Str.{bytes_eq}
use Rattle.starlark_base.specs.Places.{Text}
use Rattle.starlark_tokens.specs.declared.command_line.command_words.Words.{Words as WordsRecord}

-- the two texts are the same
abbrev pub is_same : Text → Text → Bool
is_same = bytes_eq

-- the word begins with the text
abbrev pub begins_with : (front word : Text) → Bool
begins_with front word = starts_with nat_eq word front

-- the word is one of the texts
abbrev pub is_any : List Text → Text → Bool
is_any texts word = list_any (λ text. is_same word text) texts

-- an option that has a value, without it
abbrev pub takes_value : Text → Bool
takes_value =
    is_any (codes "--format" ∷ codes "--exclude" ∷ codes "--include" ∷ codes "--files-from" ∷ codes "--stdin-filename" ∷ codes "--explain" ∷ codes "--max-faults" ∷ codes "--color"
    ∷ codes "--columns" ∷ codes "--select" ∷ codes "--ignore" ∷ codes "--names" ∷ [])

-- how many words are before the first `--`
abbrev pub leading_count : List Text → ℕ
leading_count words = prefix_len (λ word. not (is_same word (codes "--"))) words

-- an option with its value, in one word
abbrev pub with_value : (option value : Text) → Text
with_value option value = option ++ 61 ∷ value

-- Words, each option in one word with the value that follows it. An option may wait for its value, which is the first of
-- them; one at the end stays alone.
unfoldable pub joined_after : (waiting : Option Text) → List Text → List Text
joined_after None [] = []
joined_after (Some option) [] = option ∷ []
joined_after None (word ∷ words) = if takes_value word then joined_after (Some word) words else word ∷ joined_after None words
joined_after (Some option) (word ∷ words) = with_value option word ∷ joined_after None words

-- words, each option in one word with the value that follows it
abbrev pub joined : List Text → List Text
joined words = joined_after None words

-- The words are those before the first `--` of some arguments, joined, and all after it.
pub record AreWordsOf (arguments : List Text) (words : WordsRecord) : Type 0 where
  pub leading : map (λ word. word.items) words.leading.items ≡ joined (take (leading_count arguments) arguments)
  pub trailing : map (λ word. word.items) words.trailing.items ≡ drop (leading_count arguments + 1) arguments
