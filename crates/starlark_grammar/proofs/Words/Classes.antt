-- What a word of a class is, where the language has the class only for the words of one pattern.
use Rattle.std.proofs.Common.{◌≡◌, ℕ, ◌<◌, ◌≤◌, Bool, true, false, cond, List, [], ◌∷◌, drop, refl, ◌∙◌, sym, subst, Option, Some, None, arith, ◌||◌, nat_eq}
use Rattle.std.specs.Prelude.{◌&&◌, ◌==◌, codes}
use Rattle.std.specs.Char.{is_ascii_digit, is_ascii_hexdigit, is_digit}
use Rattle.std.specs.List.{list_all}
use Rattle.std.specs.Map.{lookup}
use Rattle.std.specs.Option.{option_or}
use Rattle.std.specs.Str.{bytes_eq, IsUtf8, IsCharBoundary}
use Rattle.std.proofs.lemmas.Bool.{and_parts}
use Rattle.std.proofs.lemmas.Bool.Decides.{nat_tests}
use Rattle.std.proofs.lemmas.Slice.Eq.{bytes_eq-Decides}
use Rattle.std.proofs.lemmas.Str.{IsCharBoundary-after_ascii}
use Rattle.starlark_grammar.specs.Words.{Text, Class, Skipped, Comment, Tabs, LineEnd, Identifier, Decimal, Hexadecimal, Octal, Binary, Float, class_in, openers, line_ends, symbols, names, patterns, language, is_run, is_identifier, is_comment, is_based, is_octal_digit, is_binary_digit, is_float, is_pointed, is_sign, unsigned}
use Rattle.starlark_grammar.specs.Numbers.{integer_of, integer_in, is_number}
use Rattle.starlark_grammar.proofs.Words.Tables.{class_in-language}

-- whether a test of a class and a word is passed by each row of a list
abbrev pub all_fit : (Class → Text → Bool) → List (Text × Class) → Bool
all_fit fits rows = list_all (λ (row : Text × Class). fits row.1 row.0) rows

lookup_fits : (fits : Class → Text → Bool) (word : Text) (rows : List (Text × Class)) (class : Class) → all_fit fits rows ≡ true → lookup (bytes_eq word) rows ≡ Some class → fits class word ≡ true
lookup_fits fits word [] class h e = cc
lookup_fits fits word (row ∷ rows) class h e =
    let parts = and_parts (fits row.1 row.0) (all_fit fits rows) h in
    go (bytes_eq word row.0) refl e parts.0 (lookup_fits fits word rows class parts.1)
  where
    go : (same : Bool) → bytes_eq word row.0 ≡ same → cond same (Some row.1) (lookup (bytes_eq word) rows) ≡ Some class → fits row.1 row.0 ≡ true → (lookup (bytes_eq word) rows ≡ Some class → fits class word ≡ true) → fits class word ≡ true
    go false f e here more = more e
    go true f e here more =
        let equal : word ≡ row.0 = (bytes_eq-Decides word row.0).0 f in
        let known : row.1 ≡ class = cc in
        subst (λ (c : Class). fits c word ≡ true) known (subst (λ (w : Text). fits row.1 w ≡ true) (sym equal) here)

-- one list of words, and then others
part_fits : (fits : Class → Text → Bool) (word : Text) (class : Class) (found rest : Option Class) → (found ≡ Some class → fits class word ≡ true) → (rest ≡ Some class → fits class word ≡ true) → option_or found rest ≡ Some class → fits class word ≡ true
part_fits fits word class None rest h k e = k e
part_fits fits word class (Some other) rest h k e = h e

-- whether it is passed by each row of the four lists
abbrev pub RowsFit : (Class → Text → Bool) → Type 0
RowsFit fits = (all_fit fits openers ≡ true) × (all_fit fits line_ends ≡ true) × (all_fit fits symbols ≡ true) × (all_fit fits names ≡ true)

-- Where the rows of all lists and the patterns pass it, each word of the language and its class do.
pub language_all_fit : (fits : Class → Text → Bool) → RowsFit fits
    → ((word : Text) (class : Class) → class_in patterns word ≡ Some class → fits class word ≡ true)
    → (word : Text) (class : Class) → class_in language word ≡ Some class → fits class word ≡ true
language_all_fit fits by_rows by_patterns word class e =
    part_fits fits word class (lookup (bytes_eq word) openers) _ (lookup_fits fits word openers class by_rows.0)
    (part_fits fits word class (lookup (bytes_eq word) line_ends) _ (lookup_fits fits word line_ends class by_rows.1)
    (part_fits fits word class (lookup (bytes_eq word) symbols) _ (lookup_fits fits word symbols class by_rows.2)
    (part_fits fits word class (lookup (bytes_eq word) names) _ (lookup_fits fits word names class by_rows.3) (by_patterns word class))))
    (sym (class_in-language word) ∙ e)

-- one row of tests
row_fits : (fits : Class → Text → Bool) (word : Text) (test : Bool) (class found : Class) (rest : Option Class) → (test ≡ true → fits class word ≡ true) → (rest ≡ Some found → fits found word ≡ true) → cond test (Some class) rest ≡ Some found → fits found word ≡ true
row_fits fits word true class found rest h k e =
    let known : class ≡ found = cc in
    subst (λ (c : Class). fits c word ≡ true) known (h refl)
row_fits fits word false class found rest h k e = k e

none_found : (fits : Class → Text → Bool) (word : Text) (found : Class) → ◌≡◌ {A = Option Class} None (Some found) → fits found word ≡ true
none_found fits word found e = cc

-- Where the words of each pattern pass it with its class, each word of the patterns and its class do.
pub patterns_all_fit : (fits : Class → Text → Bool) (word : Text)
    → (is_run (nat_eq 32) word ≡ true → fits Skipped word ≡ true) → (is_comment word ≡ true → fits Comment word ≡ true) → (is_run (nat_eq 9) word ≡ true → fits Tabs word ≡ true)
    → (is_identifier word ≡ true → fits Identifier word ≡ true) → (is_run is_ascii_digit word ≡ true → fits Decimal word ≡ true)
    → (is_based 120 88 is_ascii_hexdigit word ≡ true → fits Hexadecimal word ≡ true) → (is_based 111 79 is_octal_digit word ≡ true → fits Octal word ≡ true)
    → (is_based 98 66 is_binary_digit word ≡ true → fits Binary word ≡ true) → (is_float word ≡ true → fits Float word ≡ true) → (is_pointed word ≡ true → fits Float word ≡ true)
    → (class : Class) → class_in patterns word ≡ Some class → fits class word ≡ true
unfolding class_in patterns
patterns_all_fit fits word spaces comment tabs identifier decimal hexadecimal octal binary float pointed class =
    row_fits fits word (is_run (nat_eq 32) word) Skipped class _ spaces
    (row_fits fits word (is_comment word) Comment class _ comment
    (row_fits fits word (is_run (nat_eq 9) word) Tabs class _ tabs
    (row_fits fits word (is_identifier word) Identifier class _ identifier
    (row_fits fits word (is_run is_ascii_digit word) Decimal class _ decimal
    (row_fits fits word (is_based 120 88 is_ascii_hexdigit word) Hexadecimal class _ hexadecimal
    (row_fits fits word (is_based 111 79 is_octal_digit word) Octal class _ octal
    (row_fits fits word (is_based 98 66 is_binary_digit word) Binary class _ binary
    (row_fits fits word (is_float word) Float class _ float
    (row_fits fits word (is_pointed word) Float class _ pointed (none_found fits word class))))))))))

-- a test of the words of a line end
abbrev of_line_end : (Text → Bool) → Class → Text → Bool
of_line_end test LineEnd word = test word
of_line_end test class word = true

line_end_rows : (test : Text → Bool) → test (codes "\n") ≡ true → test (codes "\r\n") ≡ true → RowsFit (of_line_end test)
unfolding openers line_ends symbols names
line_end_rows test one two = (refl, rw (one, two) refl, refl, refl)

-- What both line ends pass, each word of that class does.
pub line_end_fits : (test : Text → Bool) → test (codes "\n") ≡ true → test (codes "\r\n") ≡ true → (word : Text) → class_in language word ≡ Some LineEnd → test word ≡ true
line_end_fits test one two word e =
    language_all_fit (of_line_end test) (line_end_rows test one two) (λ word. patterns_all_fit (of_line_end test) word (λ h. refl) (λ h. refl) (λ h. refl) (λ h. refl) (λ h. refl) (λ h. refl) (λ h. refl) (λ h. refl) (λ h. refl) (λ h. refl)) word LineEnd e

-- The classes of comments and of integers have one pattern each, and no listed word.
abbrev pub is_of : Class → Text → Bool
is_of Comment word = is_comment word
is_of Decimal word = is_run is_ascii_digit word
is_of Hexadecimal word = is_based 120 88 is_ascii_hexdigit word
is_of Octal word = is_based 111 79 is_octal_digit word
is_of Binary word = is_based 98 66 is_binary_digit word
is_of class word = true

rows_are : RowsFit is_of
unfolding openers line_ends symbols names
rows_are = (refl, refl, refl, refl)

pub word_is_of : (word : Text) (class : Class) → class_in language word ≡ Some class → is_of class word ≡ true
word_is_of = language_all_fit is_of rows_are (λ word. patterns_all_fit is_of word (λ h. refl) (λ h. h) (λ h. refl) (λ h. refl) (λ h. h) (λ h. h) (λ h. h) (λ h. h) (λ h. refl) (λ h. refl))

-- Digits of a base

-- a list that passes a test passes a weaker one
pub all_more : (p q : ℕ → Bool) (word : Text) → ((b : ℕ) → p b ≡ true → q b ≡ true) → list_all p word ≡ true → list_all q word ≡ true
all_more p q [] h k = refl
all_more p q (b ∷ bs) h k = let parts = and_parts (p b) (list_all p bs) k in rw (h b parts.0) (all_more p q bs h parts.1)

run_more : (p q : ℕ → Bool) (word : Text) → ((b : ℕ) → p b ≡ true → q b ≡ true) → is_run p word ≡ true → is_run q word ≡ true
run_more p q [] h k = cc
run_more p q (b ∷ bs) h k = all_more p q (b ∷ bs) h k

decimal_digit : (b : ℕ) → is_ascii_digit b ≡ true → is_digit b 10 ≡ true
decimal_digit b h = grind (arith, nat_tests)

hexadecimal_digit : (b : ℕ) → is_ascii_hexdigit b ≡ true → is_digit b 16 ≡ true
hexadecimal_digit b h = grind (arith, nat_tests)

pub decimal_digits : (word : Text) → class_in language word ≡ Some Decimal → is_run (λ b. is_digit b 10) word ≡ true
decimal_digits word known = run_more is_ascii_digit (λ b. is_digit b 10) word decimal_digit (word_is_of word Decimal known)

-- AfterComments `0` and a letter stand digits of the base, and a text may be cut there.
pub record IsBased (is_of_base : ℕ → Bool) (word : Text) : Type 0 where
  pub digits : is_run is_of_base (drop 2 word) ≡ true
  pub boundary : IsCharBoundary word 2

letter_is_ascii : (letter lower upper : ℕ) → lower < 128 → upper < 128 → (letter == lower || letter == upper) ≡ true → letter < 128
letter_is_ascii letter lower upper h k e = grind (arith, nat_tests)

based : (lower upper : ℕ) (p : ℕ → Bool) (word : Text) → lower < 128 → upper < 128 → IsUtf8 word → is_based lower upper p word ≡ true → IsBased p word
based lower upper p [] h k utf8 e = cc
based lower upper p (z ∷ []) h k utf8 e = cc
based lower upper p (z ∷ letter ∷ digits) h k utf8 e =
    let outer = and_parts (z == 48 && (letter == lower || letter == upper)) (is_run p digits) e in
    let inner = and_parts (z == 48) (letter == lower || letter == upper) outer.0 in
    record {
      digits = outer.1;
      boundary = IsCharBoundary-after_ascii (z ∷ letter ∷ digits) 1 utf8 (omega arith) (letter_is_ascii letter lower upper h k inner.1);
    }

pub hexadecimal_digits : (word : Text) → IsUtf8 word → class_in language word ≡ Some Hexadecimal → IsBased (λ b. is_digit b 16) word
hexadecimal_digits word utf8 known =
    let found : IsBased is_ascii_hexdigit word = based 120 88 is_ascii_hexdigit word (omega arith) (omega arith) utf8 (word_is_of word Hexadecimal known) in
    record { digits = run_more is_ascii_hexdigit (λ b. is_digit b 16) (drop 2 word) hexadecimal_digit found.digits; boundary = found.boundary }

pub octal_digits : (word : Text) → IsUtf8 word → class_in language word ≡ Some Octal → IsBased (λ b. is_digit b 8) word
octal_digits word utf8 known = based 111 79 is_octal_digit word (omega arith) (omega arith) utf8 (word_is_of word Octal known)

pub binary_digits : (word : Text) → IsUtf8 word → class_in language word ≡ Some Binary → IsBased (λ b. is_digit b 2) word
binary_digits word utf8 known = based 98 66 is_binary_digit word (omega arith) (omega arith) utf8 (word_is_of word Binary known)

-- Digits alone are a number: no digit is a sign.
digit_no_sign : (b base : ℕ) → base ≤ 36 → is_digit b base ≡ true → is_sign b ≡ false
digit_no_sign b base most h = grind (arith, nat_tests)

digits_unsigned : (base : ℕ) (digits : Text) → base ≤ 36 → is_run (λ b. is_digit b base) digits ≡ true → unsigned digits ≡ digits
digits_unsigned base [] most h = refl
digits_unsigned base (b ∷ bs) most h = rw (digit_no_sign b base most (and_parts (is_digit b base) (list_all (λ b. is_digit b base) bs) h).0) refl

-- decimal digits are a number
pub digits_number : (word : Text) → is_run is_ascii_digit word ≡ true → is_number 10 word ≡ true
digits_number word is =
    let digits = run_more is_ascii_digit (λ b. is_digit b 10) word decimal_digit is in
    rw (digits_unsigned 10 word (omega arith) digits) digits

pub digits_are_number : (base : ℕ) (digits : Text) → base ≤ 36 → is_run (λ b. is_digit b base) digits ≡ true → integer_in base digits ≡ Some (integer_of base digits)
unfolding integer_in
digits_are_number base digits most h = rw (digits_unsigned base digits most h, h) refl
