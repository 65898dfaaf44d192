-- AfterComments a skipped piece and after an identifier a text may be cut, since both are ASCII.
use Rattle.std.proofs.Common.{◌≡◌, ℕ, zero, suc, ◌<◌, ◌≤◌, ◌⊎◌, Bool, true, false, cond, nat_eq, List, [], ◌∷◌, length, get_or, take, refl, ap, Option, Some, None, unwrap_or, inl, inr, arith, add-one}
use Rattle.std.proofs.lemmas.Bool.{and_parts, eqb-true, ltb-true, lt-ltb}
use Rattle.std.proofs.lemmas.Slice.Eq.{bytes_eq-Decides}
use Rattle.std.proofs.lemmas.Str.{IsCharBoundary-after_ascii}
use Rattle.std.specs.Char.{is_ascii}
use Rattle.std.specs.List.{list_all}
use Rattle.std.specs.Map.{lookup}
use Rattle.std.specs.Option.{option_or}
use Rattle.std.specs.Str.{bytes_eq, IsUtf8, IsCharBoundary}
use Rattle.starlark_grammar.specs.Words.{Text, class_in, openers, line_ends, symbols, names, patterns, language, is_run, is_identifier, is_in_name, is_name_start}
use Rattle.starlark_grammar.specs.declared.class.Class.{Class}
use Rattle.starlark_grammar.specs.declared.class.Class.TheVariants.{Skipped, Comment, Tabs, Identifier, Decimal, Hexadecimal, Octal, Binary, Float}
use Rattle.starlark_grammar.specs.Front.{language_front}
use Rattle.starlark_words.specs.OneIdentifier.{IsCut, if_skipped, if_identifier}
use Rattle.starlark_grammar.proofs.Words.Fronts.{front_sound}
use Rattle.starlark_grammar.proofs.Words.Tables.{class_in-language}
use Rattle.starlark_words.proofs.Scan.ByFirst.{in_name_is_ascii}

-- the classes that this is about
abbrev pub IsBare : Option Class → Type 0
IsBare (Some Skipped) = Unit {0}
IsBare (Some Identifier) = Unit {0}
IsBare found = ⊥

abbrev AllAscii : Text → Type 0
AllAscii word = list_all is_ascii word ≡ true

-- a list that passes a test passes a weaker one
weaker : (strong weak : ℕ → Bool) → ((b : ℕ) → strong b ≡ true → weak b ≡ true) → (word : Text) → list_all strong word ≡ true → list_all weak word ≡ true
weaker strong weak more [] h = refl
weaker strong weak more (b ∷ bs) h =
    let parts = and_parts _ _ h in
    rw (more b parts.0) (weaker strong weak more bs parts.1)

blank_is_ascii : (b : ℕ) → nat_eq 32 b ≡ true → is_ascii b ≡ true
blank_is_ascii b h = rw (← eqb-true 32 b h) refl

name_is_ascii : (b : ℕ) → is_in_name b ≡ true → is_ascii b ≡ true
name_is_ascii b h = lt-ltb b 128 (in_name_is_ascii b h)

begin_is_ascii : (b : ℕ) → is_name_start b ≡ true → is_ascii b ≡ true
begin_is_ascii b h = name_is_ascii b (rw h refl)

blanks_are_ascii : (word : Text) → is_run (nat_eq 32) word ≡ true → AllAscii word
blanks_are_ascii [] h = refl
blanks_are_ascii (b ∷ bs) h = weaker (nat_eq 32) is_ascii blank_is_ascii (b ∷ bs) h

identifier_is_ascii : (word : Text) → is_identifier word ≡ true → AllAscii word
identifier_is_ascii [] h = refl
identifier_is_ascii (b ∷ bs) h =
    let parts = and_parts _ _ h in
    rw (begin_is_ascii b parts.0) (weaker is_in_name is_ascii name_is_ascii bs parts.1)

-- the words of a list of ASCII words
listed_are_ascii : (rows : List (Text × Class)) → list_all (λ row. list_all is_ascii row.0) rows ≡ true → (word : Text) (class : Class) → lookup (bytes_eq word) rows ≡ Some class → AllAscii word
listed_are_ascii [] ascii word class h = grind arith
listed_are_ascii (row ∷ rows) ascii word class h =
    let parts = and_parts _ _ ascii in
    by_test (bytes_eq word row.0) refl parts.0 (listed_are_ascii rows parts.1 word class) h
  where
    by_test : (same : Bool) → bytes_eq word row.0 ≡ same → AllAscii row.0 → (lookup (bytes_eq word) rows ≡ Some class → AllAscii word) → cond same (Some row.1) (lookup (bytes_eq word) rows) ≡ Some class → AllAscii word
    by_test true e here further h = rw ((bytes_eq-Decides word row.0).0 e) here
    by_test false e here further h = further h

-- a list in front of other tables
list_first : (rows : List (Text × Class)) → list_all (λ row. list_all is_ascii row.0) rows ≡ true → (word : Text) (further : Option Class) → (IsBare further → AllAscii word) → IsBare (option_or (lookup (bytes_eq word) rows) further) → AllAscii word
list_first rows ascii word further remainder bare = by_row (lookup (bytes_eq word) rows) refl bare
  where
    by_row : (found : Option Class) → lookup (bytes_eq word) rows ≡ found → IsBare (option_or found further) → AllAscii word
    by_row (Some class) e h = listed_are_ascii rows ascii word class e
    by_row None e h = remainder h

-- the patterns
of_two : (blank comment tabs name decimal hexadecimal octal binary float pointed : Bool)
    → IsBare (cond blank (Some Skipped) (cond comment (Some Comment) (cond tabs (Some Tabs) (cond name (Some Identifier) (cond decimal (Some Decimal) (cond hexadecimal (Some Hexadecimal) (cond octal (Some Octal) (cond binary (Some Binary) (cond float (Some Float) (cond pointed (Some Float) None))))))))))
    → (blank ≡ true) ⊎ (name ≡ true)
of_two true comment tabs name decimal hexadecimal octal binary float pointed h = inl refl
of_two false true tabs name decimal hexadecimal octal binary float pointed h = absurd h
of_two false false true name decimal hexadecimal octal binary float pointed h = absurd h
of_two false false false true decimal hexadecimal octal binary float pointed h = inr refl
of_two false false false false true hexadecimal octal binary float pointed h = absurd h
of_two false false false false false true octal binary float pointed h = absurd h
of_two false false false false false false true binary float pointed h = absurd h
of_two false false false false false false false true float pointed h = absurd h
of_two false false false false false false false false true pointed h = absurd h
of_two false false false false false false false false false true h = absurd h
of_two false false false false false false false false false false h = absurd h

pattern_is_ascii : (word : Text) → IsBare (class_in patterns word) → AllAscii word
unfolding class_in patterns
pattern_is_ascii word h = either (of_two _ _ _ _ _ _ _ _ _ _ h)
  where
    either : (is_run (nat_eq 32) word ≡ true) ⊎ (is_identifier word ≡ true) → AllAscii word
    either (inl blanks) = blanks_are_ascii word blanks
    either (inr name) = identifier_is_ascii word name

word_is_ascii : (word : Text) → IsBare (class_in language word) → AllAscii word
unfolding openers line_ends symbols names
word_is_ascii word h =
    list_first openers refl word _ (list_first line_ends refl word _ (list_first symbols refl word _ (list_first names refl word _ (pattern_is_ascii word)))) (rw (← class_in-language word) h)

-- the last of some ASCII bytes at the front
last_is_ascii : (text : Text) (n : ℕ) → AllAscii (take (suc n) text) → n < length text → get_or text n 0 < 128
last_is_ascii [] n h within = absurd (omega (arith, within))
last_is_ascii (b ∷ bs) zero h within = ltb-true b 128 (and_parts _ _ h).0
last_is_ascii (b ∷ bs) (suc n) h within = last_is_ascii bs n (and_parts _ _ h).1 (omega (arith, within))

-- where a word of these classes ends
word_is_cut : (text : Text) → IsUtf8 text → (class : Class) (len : ℕ) → language_front text ≡ Some (class, len) → IsBare (Some class) → IsCut text len
unfolding language_front
word_is_cut text utf8 class len h bare =
    let sound = front_sound (class_in language) text class len h in
    record { some = sound.0; inside = sound.1; boundary = cut len sound.0 sound.1 (word_is_ascii (take len text) (rw sound.2 bare)) }
  where
    cut : (len : ℕ) → 1 ≤ len → len ≤ length text → AllAscii (take len text) → IsCharBoundary text len
    cut zero some inside ascii = absurd (omega (arith, some))
    cut (suc n) some inside ascii = rw add-one at (IsCharBoundary-after_ascii text n utf8 (omega (arith, inside)) (last_is_ascii text n ascii (omega (arith, inside))))

skipped_front : (front : Option (Class × ℕ)) (len : ℕ) → if_skipped front ≡ Some len → front ≡ Some (Skipped, len)
skipped_front (Some (Skipped, n)) len same = ap (λ found. Some (Skipped, unwrap_or found 0)) same
skipped_front front len same = grind arith

pub skipped_is_cut : (text : Text) → IsUtf8 text → (len : ℕ) → if_skipped (language_front text) ≡ Some len → IsCut text len
skipped_is_cut text utf8 len h = word_is_cut text utf8 Skipped len (skipped_front (language_front text) len h) tt

identifier_front : (front : Option (Class × ℕ)) (len : ℕ) → if_identifier front ≡ Some len → front ≡ Some (Identifier, len)
identifier_front (Some (Identifier, n)) len same = ap (λ found. Some (Identifier, unwrap_or found 0)) same
identifier_front front len same = grind arith

pub identifier_is_cut : (text : Text) → IsUtf8 text → (len : ℕ) → if_identifier (language_front text) ≡ Some len → IsCut text len
identifier_is_cut text utf8 len h = word_is_cut text utf8 Identifier len (identifier_front (language_front text) len h) tt
