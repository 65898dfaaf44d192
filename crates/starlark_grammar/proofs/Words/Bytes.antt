-- Of which bytes the words of the language are.
use Rattle.std.proofs.Common.{◌≡◌, ℕ, Bool, true, [], ◌∷◌, refl, subst, Some, arith}
use Rattle.std.specs.Prelude.{◌&&◌, ◌==◌, nat_eq}
use Rattle.std.specs.Char.{is_ascii, is_ascii_hexdigit}
use Rattle.std.specs.List.{list_all}
use Rattle.std.proofs.lemmas.Bool.{and_parts, eqb-true}
use Rattle.std.proofs.lemmas.Bool.Decides.{nat_tests}
use Rattle.starlark_grammar.specs.Words.{Text, Class, Skipped, Comment, LineEnd, class_in, openers, line_ends, symbols, names, language, is_run, is_comment, is_octal_digit, is_binary_digit}
use Rattle.starlark_grammar.specs.Gaps.{is_gap_byte}
use Rattle.starlark_grammar.proofs.Words.Classes.{RowsFit, language_all_fit, patterns_all_fit}
use Rattle.starlark_grammar.proofs.Words.EachByte.{based_passes, binary_named, digits_pass, float_passes, hexadecimal_named, identifier_passes, octal_named, pointed_passes, run_passes, PassesNames}
use Rattle.starlark_grammar.proofs.Order.Gaps.{all_gaps, blank_gap}

-- all bytes are below 128
abbrev pub is_plain : Text → Bool
is_plain = list_all is_ascii

-- what is so of the words of a class
abbrev pub word_fits : Class → Text → Bool
word_fits Skipped word = all_gaps word && is_plain word
word_fits LineEnd word = all_gaps word && is_plain word
word_fits Comment word = is_comment word
word_fits class word = is_plain word

rows_fit : RowsFit word_fits
unfolding openers line_ends symbols names is_gap_byte
rows_fit = (refl, refl, refl, refl)

-- Patterns

names_plain : PassesNames is_ascii
names_plain = record { named = λ b h. grind (arith, nat_tests); signed = λ b h. grind (arith, nat_tests); point = refl }

same_plain : (a b : ℕ) → is_ascii a ≡ true → (a == b) ≡ true → is_ascii b ≡ true
same_plain a b h e = subst (λ c. is_ascii c ≡ true) (eqb-true a b e) h

spaces_fit : (word : Text) → is_run (nat_eq 32) word ≡ true → (all_gaps word && is_plain word) ≡ true
spaces_fit [] h = refl
spaces_fit (b ∷ bs) h = go (b ∷ bs) h
  where
    go : (word : Text) → list_all (nat_eq 32) word ≡ true → (all_gaps word && is_plain word) ≡ true
    go [] h = refl
    go (b ∷ bs) h =
        let parts = and_parts (nat_eq 32 b) (list_all (nat_eq 32) bs) h in
        let more = and_parts (all_gaps bs) (is_plain bs) (go bs parts.1) in
        let same : 32 ≡ b = eqb-true 32 b parts.0 in
        let first : is_gap_byte (b ∷ bs) ≡ true = subst (λ (c : ℕ). is_gap_byte (c ∷ bs) ≡ true) same (blank_gap 32 bs refl) in
        rw (first, more.0, same_plain 32 b refl parts.0, more.1) refl

pub language_fits : (word : Text) (class : Class) → class_in language word ≡ Some class → word_fits class word ≡ true
language_fits = language_all_fit word_fits rows_fit (λ word. patterns_all_fit word_fits word (spaces_fit word) (λ h. h)
    (run_passes is_ascii names_plain (nat_eq 9) word (λ b h. same_plain 9 b refl h)) (identifier_passes is_ascii names_plain word) (digits_pass is_ascii names_plain word)
    (based_passes is_ascii names_plain 120 88 is_ascii_hexdigit word refl refl hexadecimal_named) (based_passes is_ascii names_plain 111 79 is_octal_digit word refl refl octal_named)
    (based_passes is_ascii names_plain 98 66 is_binary_digit word refl refl binary_named) (float_passes is_ascii names_plain word) (pointed_passes is_ascii names_plain word))
