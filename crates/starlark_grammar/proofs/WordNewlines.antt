-- Where the words of the language have line feeds: line ends, and those that are escaped, at their ends, and others nowhere.
use Rattle.std.proofs.Common.{◌≡◌, ℕ, Bool, true, false, not, [], ◌∷◌, refl, sym, subst, Option, Some, None, arith}
use Rattle.std.specs.Prelude.{◌&&◌, ◌==◌, nat_eq}
use Rattle.std.specs.Char.{is_ascii_digit, is_ascii_hexdigit}
use Rattle.std.specs.List.{list_all}
use Rattle.std.proofs.lemmas.Bool.{and_parts, eqb-true}
use Rattle.std.proofs.lemmas.Bool.Decides.{nat_tests}
use Rattle.starlark_grammar.specs.Words.{Text, class_in, openers, line_ends, symbols, names, language, is_run, is_in_name, is_in_line, is_identifier, is_comment, is_based, is_octal_digit, is_binary_digit, is_float, is_pointed}
use Rattle.starlark_grammar.specs.declared.class.Class.{Class}
use Rattle.starlark_grammar.specs.declared.class.Class.TheVariants.{Skipped, LineEnd}
use Rattle.starlark_grammar.proofs.Words.EachByte.{based_passes, binary_named, digits_pass, float_passes, hexadecimal_named, identifier_passes, octal_named, pointed_passes, run_passes, PassesNames}
use Rattle.starlark_grammar.proofs.Words.Classes.{RowsFit, language_all_fit, patterns_all_fit}

-- an LF stands at the end at most
abbrev pub feed_last : Text → Bool
feed_last [] = true
feed_last (b ∷ []) = true
feed_last (b ∷ c ∷ bs) = not (b == 10) && feed_last (c ∷ bs)

-- neither CR nor LF
abbrev pub in_line : Text → Bool
in_line = list_all is_in_line

-- what is so of the words of a class
abbrev pub line_fits : Class → Text → Bool
line_fits Skipped word = feed_last word
line_fits LineEnd word = feed_last word
line_fits class word = in_line word

-- Lists of words

rows_fit : RowsFit line_fits
unfolding openers line_ends symbols names
rows_fit = (refl, refl, refl, refl)

-- Patterns

names_in_line : PassesNames is_in_line
names_in_line = record { named = λ b h. grind (arith, nat_tests); signed = λ b h. grind (arith, nat_tests); point = refl }

pub run_in_line : (p : ℕ → Bool) (word : Text) → ((b : ℕ) → p b ≡ true → is_in_line b ≡ true) → is_run p word ≡ true → in_line word ≡ true
run_in_line = run_passes is_in_line names_in_line

pub digits_in_line : (word : Text) → is_run is_ascii_digit word ≡ true → in_line word ≡ true
digits_in_line = digits_pass is_in_line names_in_line

pub identifier_in_line : (word : Text) → is_identifier word ≡ true → in_line word ≡ true
identifier_in_line = identifier_passes is_in_line names_in_line

pub based_in_line : (lower upper : ℕ) (digit : ℕ → Bool) (word : Text) → is_in_name lower ≡ true → is_in_name upper ≡ true → ((b : ℕ) → digit b ≡ true → is_in_name b ≡ true) → is_based lower upper digit word ≡ true → in_line word ≡ true
based_in_line = based_passes is_in_line names_in_line

pub float_in_line : (word : Text) → is_float word ≡ true → in_line word ≡ true
float_in_line = float_passes is_in_line names_in_line

pub pointed_in_line : (word : Text) → is_pointed word ≡ true → in_line word ≡ true
pointed_in_line = pointed_passes is_in_line names_in_line

pub same_in_line : (a b : ℕ) → is_in_line a ≡ true → (a == b) ≡ true → is_in_line b ≡ true
same_in_line a b h e = subst (λ c. is_in_line c ≡ true) (eqb-true a b e) h

equal_in_line : (a b : ℕ) → is_in_line a ≡ true → (b == a) ≡ true → is_in_line b ≡ true
equal_in_line a b h e = subst (λ c. is_in_line c ≡ true) (sym (eqb-true b a e)) h

pub comment_in_line : (word : Text) → is_comment word ≡ true → in_line word ≡ true
comment_in_line [] h = refl
comment_in_line (b ∷ bs) h =
    let parts = and_parts (b == 35) (list_all is_in_line bs) h in
    rw (equal_in_line 35 b refl parts.0) parts.1

-- a word without an LF has none before its end
in_line_last : (word : Text) → in_line word ≡ true → feed_last word ≡ true
in_line_last [] h = refl
in_line_last (b ∷ []) h = refl
in_line_last (b ∷ c ∷ bs) h =
    let parts = and_parts (is_in_line b) (in_line (c ∷ bs)) h in
    let line = and_parts (not (b == 13)) (not (b == 10)) parts.0 in
    rw line.1 (in_line_last (c ∷ bs) parts.1)

-- A word has a line feed at its end at most, and one that isn't skipped or a line end has none at all.
pub language_lines : (word : Text) (class : Class) → class_in language word ≡ Some class → line_fits class word ≡ true
language_lines = language_all_fit line_fits rows_fit (λ word. patterns_all_fit line_fits word (λ h. in_line_last word (run_in_line (nat_eq 32) word (λ b h. same_in_line 32 b refl h) h)) (comment_in_line word)
    (run_in_line (nat_eq 9) word (λ b h. same_in_line 9 b refl h)) (identifier_in_line word) (digits_in_line word) (based_in_line 120 88 is_ascii_hexdigit word refl refl hexadecimal_named)
    (based_in_line 111 79 is_octal_digit word refl refl octal_named) (based_in_line 98 66 is_binary_digit word refl refl binary_named) (float_in_line word) (pointed_in_line word))

-- whatever its class
feed_last_of : (word : Text) (class : Class) → line_fits class word ≡ true → feed_last word ≡ true
feed_last_of word Skipped h = h
feed_last_of word LineEnd h = h
feed_last_of word class h = in_line_last word h

-- a text with an LF before its end is no word
pub feed_ends : (word : Text) → feed_last word ≡ false → class_in language word ≡ None
feed_ends word h = go (class_in language word) refl
  where
    go : (found : Option Class) → class_in language word ≡ found → found ≡ None
    go None e = refl
    go (Some class) e = let last = feed_last_of word class (language_lines word class e) in cc
