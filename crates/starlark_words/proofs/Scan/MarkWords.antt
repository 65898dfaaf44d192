-- The word that is found by the first bytes of a text.
use Rattle.std.proofs.Common.{◌≡◌, ◌≢◌, ℕ, ◌<◌, false, [], ◌∷◌, get_or, sym, ap, ◌∙◌, Option, None, Some, inl, inr}
use Rattle.std.specs.Option.{option_map}
use Rattle.std.specs.Prelude.{IfSome}
use Rattle.starlark_grammar.specs.Front.{language_front}
use Rattle.starlark_grammar.specs.Words.{Text}
use Rattle.starlark_grammar.specs.declared.class.Class.{Class}
use Rattle.starlark_grammar.specs.declared.class.Class.TheVariants.{LineEnd}
use Rattle.starlark_words.specs.Inner.ScannedWords.{begins_mark, is_common_front, mark_front, word_view}
use Rattle.starlark_words.specs.declared.scanner.word.Word.{Word}
use Rattle.starlark_words.proofs.Scan.ByFirst.{word_of_mark}
use Rattle.starlark_words.proofs.Scan.Marks.{by_two, line_feed, mark_by_three}

-- a word that was found
pub if_found : (found : Option Word) (front : Option (Class × ℕ)) → option_map word_view found ≡ front → IfSome found (λ word. Some (word_view word) ≡ front)
if_found None front h = tt
if_found (Some word) front h = h

-- what is found is the longest word, and nothing is found where no common mark is
abbrev pub IsWord : Text → Option Word → Type 0
IsWord text found = IfSome found (λ word. Some (word_view word) ≡ language_front text) × (found ≡ None → begins_mark text ≡ false)

is_mark : (text : Text) (found : Option Word) → ((i : ℕ) → get_or text i 0 < 256) → option_map word_view found ≡ mark_front text → IsWord text found
is_mark text None small is = (tt, λ none. sym (ap is_common_front is))
is_mark text (Some word) small is = (sym (word_of_mark text (word_view word) small (sym is)), λ none. cc)

pub by_three_bytes : (text : Text) (found : Option Word) → ((i : ℕ) → get_or text i 0 < 256) → option_map word_view found ≡ mark_front (get_or text 0 0 ∷ get_or text 1 0 ∷ get_or text 2 0 ∷ []) → IsWord text found
by_three_bytes text found small is = is_mark text found small (is ∙ sym (mark_by_three text))

pub by_two_bytes : (text : Text) (found : Option Word) → ((i : ℕ) → get_or text i 0 < 256) → get_or text 1 0 ≢ get_or text 0 0 → option_map word_view found ≡ mark_front (get_or text 0 0 ∷ get_or text 1 0 ∷ 0 ∷ []) → IsWord text found
by_two_bytes text found small other is =
    elim (by_two (get_or text 0 0) (get_or text 1 0) (get_or text 2 0) other) [ inl same ↦ by_three_bytes text found small (is ∙ sym same) | inr none ↦ nothing found (is ∙ none.0) (ap is_common_front (mark_by_three text) ∙ none.1) ]
  where
    nothing : (found : Option Word) → option_map word_view found ≡ None → begins_mark text ≡ false → IsWord text found
    nothing None e h = (tt, λ none. h)
    nothing (Some word) e h = cc

pub at_line_feed : (text : Text) → ((i : ℕ) → get_or text i 0 < 256) → get_or text 0 0 ≡ 10 → language_front text ≡ Some (LineEnd, 1)
at_line_feed text small first = word_of_mark text (LineEnd, 1) small (mark_by_three text ∙ rw first (line_feed (get_or text 1 0) (get_or text 2 0)))
