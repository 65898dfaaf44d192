-- The longest front of a text, by the text's first byte.
use Rattle.std.proofs.Common.{◌≡◌, ◌≢◌, ℕ, suc, ◌+◌, ◌<◌, Bool, true, false, cond, not, ◌&&◌, ◌||◌, ◌==◌, nat_eq, List, [], ◌∷◌, ◌++◌, take, get_or, refl, ap, sym, ◌∙◌, Option, unwrap_or, Some, None, arith}
use Rattle.std.proofs.lemmas.Bool.{and_parts, eqb-true, not-true, ne_eqb}
use Rattle.std.proofs.lemmas.Map.Entries.{lookup-filter-keys}
use Rattle.std.proofs.lemmas.Slice.Eq.{bytes_eq-Decides}
use Rattle.std.proofs.lemmas.Bool.Decides.{nat_tests}
use Rattle.std.specs.Char.{is_ascii_digit, is_ascii_hexdigit}
use Rattle.std.specs.List.{list_all, prefix_len}
use Rattle.std.specs.Map.{lookup}
use Rattle.std.specs.Option.{option_map, option_or}
use Rattle.std.specs.Str.{bytes_eq}
use Rattle.starlark_grammar.specs.Words.{Text, class_in, openers, line_ends, symbols, names, patterns, language, is_name_start, is_in_name, is_in_line, is_based, is_fraction, is_pointed, begins, begins_with_digit, is_point, is_identifier, is_comment, is_run, is_octal_digit, is_binary_digit}
use Rattle.starlark_grammar.specs.declared.class.Class.{Class}
use Rattle.starlark_grammar.specs.declared.class.Class.TheVariants.{Skipped, Comment, Tabs, Identifier}
use Rattle.starlark_grammar.specs.Front.{longer, longest_front, language_front}
use Rattle.starlark_words.specs.Inner.ScannedWords.{begins_fraction, begins_number, class_of_name, mark_front, mark_of, marks, quotes}
use Rattle.starlark_grammar.proofs.Words.Fronts.{front_none, front_run}
use Rattle.starlark_words.proofs.Scan.Listed.{opener_of, all_pass, begins_otherwise, lookup_fails, lookup_elsewhere, each_byte, implied}
use Rattle.starlark_words.proofs.Scan.WordFronts.{front_ended, run_and, take_after}
use Rattle.starlark_grammar.proofs.Words.Tables.{class_in-language}

-- a byte that begins neither blanks, tabs, a comment nor a number
abbrev pub is_plain : ℕ → Bool
is_plain b = not (nat_eq 32 b) && (not (nat_eq 9 b) && (not (b == 35) && (not (is_point b) && (not (b == 48) && not (is_ascii_digit b)))))

pub record Plain (b : ℕ) : Type 0 where
  pub blank : nat_eq 32 b ≡ false
  pub tab : nat_eq 9 b ≡ false
  pub hash : (b == 35) ≡ false
  pub point : is_point b ≡ false
  pub zero : (b == 48) ≡ false
  pub digit : is_ascii_digit b ≡ false

plain : (b : ℕ) → is_plain b ≡ true → Plain b
plain b h =
    let one = and_parts _ _ h in
    let two = and_parts _ _ one.1 in
    let three = and_parts _ _ two.1 in
    let four = and_parts _ _ three.1 in
    let five = and_parts _ _ four.1 in
    record { blank = not-true _ one.0; tab = not-true _ two.0; hash = not-true _ three.0; point = not-true _ four.0; zero = not-true _ five.0; digit = not-true _ five.1 }

not_based : (lower upper : ℕ) (test : ℕ → Bool) (b : ℕ) (word : Text) → (b == 48) ≡ false → is_based lower upper test (b ∷ word) ≡ false
not_based lower upper test b [] h = refl
not_based lower upper test b (c ∷ word) h = rw h refl

not_pointed : (b : ℕ) (word : Text) → is_point b ≡ false → is_pointed (b ∷ word) ≡ false
not_pointed b word h = rw h refl

and_false : (x y : Bool) → y ≡ false → (x && y) ≡ false
and_false true y h = h
and_false false y h = refl

no_digit : (word : Text) → begins is_ascii_digit word ≡ false → begins_with_digit word ≡ false
no_digit [] h = refl
no_digit (b ∷ word) h = rw h refl

-- a point with no digit after it begins no number
point_alone : (word : Text) → begins is_ascii_digit word ≡ false → is_pointed (46 ∷ word) ≡ false
point_alone word h = and_false (is_fraction (46 ∷ word)) (begins_with_digit word) (no_digit word h)

-- the numbers among the patterns, for words that begin with no number's byte
no_number : (b : ℕ) (word : Text) → is_ascii_digit b ≡ false → (b == 48) ≡ false → is_pointed (b ∷ word) ≡ false
    → class_in patterns (b ∷ word) ≡ cond (is_run (nat_eq 32) (b ∷ word)) (Some Skipped) (cond (is_comment (b ∷ word)) (Some Comment) (cond (is_run (nat_eq 9) (b ∷ word)) (Some Tabs) (cond (is_identifier (b ∷ word)) (Some Identifier) None)))
unfolding class_in patterns
no_number b word digit zero point =
    rw (digit, not_based 120 88 is_ascii_hexdigit b word zero, not_based 111 79 is_octal_digit b word zero, not_based 98 66 is_binary_digit b word zero, point) refl

-- the patterns, for words that begin with a plain byte
patterns_plain : (b : ℕ) (word : Text) → Plain b → class_in patterns (b ∷ word) ≡ cond (is_name_start b && list_all is_in_name word) (Some Identifier) None
patterns_plain b word h = no_number b word h.digit h.zero (not_pointed b word h.point) ∙ rw (h.blank, h.hash, h.tab) refl

-- names

name_is_plain : (b : ℕ) → b < 256 → is_name_start b ≡ true → Plain b
name_is_plain b small h = plain b (implied _ _ (each_byte (λ b. not (is_name_start b) || is_plain b) b refl small) h)

no_line_end_is_name : (b : ℕ) → b < 256 → is_name_start b ≡ true → all_pass (begins_otherwise b) line_ends ≡ true
unfolding line_ends
no_line_end_is_name b small h = implied _ _ (each_byte (λ b. not (is_name_start b) || all_pass (begins_otherwise b) line_ends) b refl small) h

no_symbol_is_name : (b : ℕ) → b < 256 → is_name_start b ≡ true → all_pass (begins_otherwise b) symbols ≡ true
unfolding symbols
no_symbol_is_name b small h = implied _ _ (each_byte (λ b. not (is_name_start b) || all_pass (begins_otherwise b) symbols) b refl small) h

names_are_names : all_pass is_identifier names ≡ true
unfolding names
names_are_names = refl

openers_are_no_names : all_pass (λ word. not (list_all is_in_name word)) openers ≡ true
unfolding openers
openers_are_no_names = refl

is_empty : Text → Bool
is_empty [] = true
is_empty (b ∷ word) = false

-- whether no byte stands after the first that is in no name
abbrev ends_at_other : Text → Bool
ends_at_other [] = true
ends_at_other (b ∷ word) = cond (is_in_name b) (ends_at_other word) (is_empty word)

openers_end_so : all_pass ends_at_other openers ≡ true
unfolding openers is_empty
openers_end_so = refl

goes_on : (front : Text) (c d : ℕ) (word : Text) → list_all is_in_name front ≡ true → is_in_name c ≡ false → ends_at_other (front ++ c ∷ d ∷ word) ≡ false
unfolding is_empty
goes_on [] c d word all fails = rw fails refl
goes_on (b ∷ front) c d word all fails =
    let parts = and_parts (is_in_name b) (list_all is_in_name front) all in
    rw parts.0 (goes_on front c d word parts.1 fails)

in_name : (b : ℕ) → is_name_start b ≡ true → is_in_name b ≡ true
in_name b h = rw h refl

class_of_named : (b : ℕ) (word : Text) → b < 256 → is_name_start b ≡ true → class_in language (b ∷ word) ≡ cond (list_all is_in_name word) (Some (class_of_name (b ∷ word))) (opener_of (b ∷ word))
class_of_named b word small h = class_in-language (b ∷ word) ∙ go (list_all is_in_name word) refl
  where
    or_none : (found : Option Class) → option_or found None ≡ found
    or_none None = refl
    or_none (Some class) = refl

    or_identifier : (found : Option Class) → option_or found (Some Identifier) ≡ Some (unwrap_or found Identifier)
    or_identifier None = refl
    or_identifier (Some class) = refl

    go : (all : Bool) → list_all is_in_name word ≡ all
        → option_or (opener_of (b ∷ word)) (option_or (lookup (bytes_eq (b ∷ word)) line_ends) (option_or (lookup (bytes_eq (b ∷ word)) symbols) (option_or (lookup (bytes_eq (b ∷ word)) names) (class_in patterns (b ∷ word)))))
        ≡ cond all (Some (class_of_name (b ∷ word))) (opener_of (b ∷ word))
    go true e =
        rw (
          lookup_fails (λ word. not (list_all is_in_name word)) (b ∷ word) openers openers_are_no_names (rw (in_name b h, e) refl),
          lookup_elsewhere b word line_ends (no_line_end_is_name b small h),
          lookup_elsewhere b word symbols (no_symbol_is_name b small h),
          patterns_plain b word (name_is_plain b small h),
          h,
          e,
        ) (or_identifier _)
    go false e =
        rw (
          lookup_elsewhere b word line_ends (no_line_end_is_name b small h),
          lookup_elsewhere b word symbols (no_symbol_is_name b small h),
          lookup_fails is_identifier (b ∷ word) names names_are_names (rw (h, e) refl),
          patterns_plain b word (name_is_plain b small h),
          h,
          e,
        ) (or_none _)

-- the class and the length of a name, or of an opener that is longer by one byte
abbrev pub named : Option Class → Class → ℕ → Option (Class × ℕ)
named (Some opener) name n = Some (opener, n + 1)
named None name n = Some (name, n)

-- a text that begins with a name's byte
pub front_named : (text : Text) (n : ℕ) → ((i : ℕ) → get_or text i 0 < 256) → begins is_name_start text ≡ true → n ≡ prefix_len is_in_name text → language_front text ≡ named (opener_of (take (n + 1) text)) (class_of_name (take n text)) n
unfolding language_front
front_named [] n small h e = cc
front_named (b ∷ rest) n small h e =
    front_ended is_in_name (class_in language) (λ word. class_of_name (b ∷ word)) (λ word. opener_of (b ∷ word)) b rest
    (λ word. class_of_named b word (small 0) h)
    (λ word all. lookup_fails (λ word. not (list_all is_in_name word)) (b ∷ word) openers openers_are_no_names (rw (in_name b h, all) refl))
    (λ front c d word all fails. lookup_fails ends_at_other (b ∷ (front ++ c ∷ d ∷ word)) openers openers_end_so (rw (in_name b h) (goes_on front c d word all fails)))
    ∙ shape n (prefix_len is_in_name rest) (e ∙ rw (in_name b h) (omega arith))
  where
    one_more : (found : Option Class) (name : Class) (m : ℕ) → run_and found name m ≡ named found name (suc m)
    one_more (Some class) name m = ap (λ k. Some (class, k)) (omega arith)
    one_more None name m = ap (λ k. Some (name, k)) (omega arith)

    shape : (n m : ℕ) → n ≡ suc m → run_and (opener_of (b ∷ take (m + 1) rest)) (class_of_name (b ∷ take m rest)) m ≡ named (opener_of (take (n + 1) (b ∷ rest))) (class_of_name (take n (b ∷ rest))) n
    shape n m e = rw (e, take_after b rest (suc m + 1) (m + 1) (omega arith)) (one_more _ _ m)

-- a byte of a name is below 128
pub in_name_is_ascii : (b : ℕ) → is_in_name b ≡ true → b < 128
in_name_is_ascii b h = grind (arith, nat_tests)

-- whether no word of the lists begins with a byte
is_unlisted : ℕ → Bool
is_unlisted b = all_pass (begins_otherwise b) openers && (all_pass (begins_otherwise b) line_ends && (all_pass (begins_otherwise b) symbols && all_pass (begins_otherwise b) names))

class_of_unlisted : (b : ℕ) (word : Text) → is_unlisted b ≡ true → class_in language (b ∷ word) ≡ class_in patterns (b ∷ word)
unfolding is_unlisted
class_of_unlisted b word h =
    let one = and_parts _ _ h in
    let two = and_parts _ _ one.1 in
    let three = and_parts _ _ two.1 in
    class_in-language (b ∷ word)
    ∙ rw (
      lookup_elsewhere b word openers one.0,
      lookup_elsewhere b word line_ends two.0,
      lookup_elsewhere b word symbols three.0,
      lookup_elsewhere b word names three.1,
    ) refl

class_of_blank : (word : Text) → class_in language (32 ∷ word) ≡ cond (list_all (nat_eq 32) word) (Some Skipped) None
unfolding is_unlisted openers line_ends symbols names
class_of_blank word = class_of_unlisted 32 word refl ∙ no_number 32 word refl refl (not_pointed 32 word refl)

class_of_tab : (word : Text) → class_in language (9 ∷ word) ≡ cond (list_all (nat_eq 9) word) (Some Tabs) None
unfolding is_unlisted openers line_ends symbols names
class_of_tab word = class_of_unlisted 9 word refl ∙ no_number 9 word refl refl (not_pointed 9 word refl)

class_of_hash : (word : Text) → class_in language (35 ∷ word) ≡ cond (list_all is_in_line word) (Some Comment) None
unfolding is_unlisted openers line_ends symbols names
class_of_hash word = class_of_unlisted 35 word refl ∙ no_number 35 word refl refl (not_pointed 35 word refl)

-- a text whose first byte begins a run
front_of_run : (test : ℕ → Bool) (class : Class) (first : ℕ) → 0 < first → test first ≡ true → ((word : Text) → class_in language (first ∷ word) ≡ cond (list_all test word) (Some class) None) → (text : Text) → get_or text 0 0 ≡ first → language_front text ≡ Some (class, prefix_len test text)
unfolding language_front
front_of_run test class first some passes known [] e = absurd (omega (arith, some, e))
front_of_run test class first some passes known (b ∷ rest) e = rw (e, front_run test (class_in language) (λ _. class) first rest known, passes) (ap (λ n. Some (class, n)) (omega arith))

-- a text that begins with a blank, with a tab, or with `#`
pub front_blank : (text : Text) → get_or text 0 0 ≡ 32 → language_front text ≡ Some (Skipped, prefix_len (nat_eq 32) text)
front_blank = front_of_run (nat_eq 32) Skipped 32 (omega arith) refl class_of_blank

-- a run of spaces
pub front_spaces : (text : Text) (len : ℕ) → len ≡ prefix_len (nat_eq 32) text → 0 < len → language_front text ≡ Some (Skipped, len)
front_spaces [] len e some = absurd (omega (arith, e, some))
front_spaces (b ∷ rest) len e some = go (nat_eq 32 b) refl
  where
    go : (blank : Bool) → nat_eq 32 b ≡ blank → language_front (b ∷ rest) ≡ Some (Skipped, len)
    go true is = front_blank (b ∷ rest) (sym (eqb-true 32 b is)) ∙ ap (λ n. Some (Skipped, n)) (sym e)
    go false is =
        let none : prefix_len (nat_eq 32) (b ∷ rest) ≡ 0 = rw is refl in
        absurd (omega (arith, some, e, none))

pub front_tab : (text : Text) → get_or text 0 0 ≡ 9 → language_front text ≡ Some (Tabs, prefix_len (nat_eq 9) text)
front_tab = front_of_run (nat_eq 9) Tabs 9 (omega arith) refl class_of_tab

pub front_hash : (text : Text) → get_or text 0 0 ≡ 35 → language_front text ≡ Some (Comment, prefix_len is_in_line text)
front_hash = front_of_run is_in_line Comment 35 (omega arith) refl class_of_hash

-- marks

or_false : (x y : Bool) → (x || y) ≡ false → (x ≡ false) × (y ≡ false)
or_false true y h = cc
or_false false y h = (refl, h)

or_right : (x y : Bool) → (x || y) ≡ true → x ≡ false → y ≡ true
or_right true y h e = cc
or_right false y h e = h

lookup_append : (test : Text → Bool) (front back : List (Text × Class)) → lookup test (front ++ back) ≡ option_or (lookup test front) (lookup test back)
lookup_append test [] back = refl
lookup_append test (row ∷ rows) back = go (test row.0) (lookup_append test rows back)
  where
    go : (passes : Bool) → lookup test (rows ++ back) ≡ option_or (lookup test rows) (lookup test back)
        → cond passes (Some row.1) (lookup test (rows ++ back)) ≡ option_or (cond passes (Some row.1) (lookup test rows)) (lookup test back)
    go true more = refl
    go false more = more

or_none : (found : Option Class) → option_or found None ≡ found
or_none None = refl
or_none (Some class) = refl

-- without a prefix only the quotes are openers
unprefixed : (b : ℕ) (word : Text) → is_name_start b ≡ false → opener_of (b ∷ word) ≡ lookup (bytes_eq (b ∷ word)) quotes
unfolding openers
unprefixed b word name = sym (lookup-filter-keys (bytes_eq (b ∷ word)) (λ key. not (begins is_name_start key)) true (λ key same. ap (λ other. not (begins is_name_start other)) (sym ((bytes_eq-Decides (b ∷ word) key).0 same)) ∙ rw name refl) openers)

no_name_is_other : (b : ℕ) → b < 256 → is_name_start b ≡ false → all_pass (begins_otherwise b) names ≡ true
unfolding names
no_name_is_other b small h = or_right _ _ (each_byte (λ b. is_name_start b || all_pass (begins_otherwise b) names) b refl small) h

class_of_mark : (b : ℕ) (word : Text) → b < 256 → is_name_start b ≡ false → class_in patterns (b ∷ word) ≡ None → class_in language (b ∷ word) ≡ mark_of (b ∷ word)
unfolding marks
class_of_mark b word small name pattern =
    class_in-language (b ∷ word)
    ∙ rw (unprefixed b word name, lookup_elsewhere b word names (no_name_is_other b small name), pattern) (ap (λ symbol. option_or (lookup (bytes_eq (b ∷ word)) quotes) (option_or (lookup (bytes_eq (b ∷ word)) line_ends) symbol)) (or_none _))
    ∙ sym (lookup_append (bytes_eq (b ∷ word)) quotes (line_ends ++ symbols) ∙ ap (option_or (lookup (bytes_eq (b ∷ word)) quotes)) (lookup_append (bytes_eq (b ∷ word)) line_ends symbols))

front_marks : (b : ℕ) (rest : Text) → ((word : Text) → class_in patterns (b ∷ word) ≡ None) → b < 256 → is_name_start b ≡ false → longest_front (class_in language) (b ∷ rest) ≡ longest_front mark_of (b ∷ rest)
unfolding longest_front
front_marks b rest pattern small name = λ i. longer (longest_front (λ word. class_of_mark b word small name (pattern word) i) rest) (class_of_mark b [] small name (pattern []) i)

class_of_point : (word : Text) → begins is_ascii_digit word ≡ false → class_in language (46 ∷ word) ≡ mark_of (46 ∷ word)
class_of_point word h = class_of_mark 46 word (omega arith) refl (no_number 46 word refl refl (point_alone word h))

front_point : (rest : Text) → begins is_ascii_digit rest ≡ false → longest_front (class_in language) (46 ∷ rest) ≡ longest_front mark_of (46 ∷ rest)
unfolding longest_front
front_point [] h = ap (option_map (λ class. (class, 1))) (class_of_point [] refl)
front_point (c ∷ rest) h = λ i. longer (longer (longest_front (λ word. class_of_point (c ∷ word) h i) rest) (class_of_point (c ∷ []) h i)) (class_of_point [] refl i)

-- a byte that begins gaps, comments, tabs, names or numbers, and no marks
is_branch : ℕ → Bool
is_branch b = b == 32 || (b == 9 || (b == 35 || (is_name_start b || is_ascii_digit b)))

plain_or_point : (b : ℕ) → b < 256 → is_branch b ≡ false → (b == 46 || is_plain b) ≡ true
unfolding is_branch
plain_or_point b small h = or_right _ _ (each_byte (λ b. is_branch b || (b == 46 || is_plain b)) b refl small) h

no_mark_at_branch : (b : ℕ) (rest : Text) → b < 256 → is_branch b ≡ true → longest_front mark_of (b ∷ rest) ≡ None
unfolding is_branch marks line_ends symbols
no_mark_at_branch b rest small h = front_none mark_of b rest (λ word. lookup_elsewhere b word marks (implied _ _ (each_byte (λ b. not (is_branch b) || all_pass (begins_otherwise b) marks) b refl small) h))

no_name : (b : ℕ) → b < 256 → is_branch b ≡ false → is_name_start b ≡ false
unfolding is_branch
no_name b small h = not-true _ (or_right _ _ (each_byte (λ b. is_branch b || not (is_name_start b)) b refl small) h)

-- a text that begins with any other byte
front_other : (b : ℕ) (rest : Text) → b < 256 → is_branch b ≡ false → begins_fraction (b ∷ rest) ≡ false → language_front (b ∷ rest) ≡ mark_front (b ∷ rest)
unfolding language_front
front_other b rest small branch fraction = go (b == 46) refl
  where
    after_point : (rest : Text) → b ≡ 46 → begins_fraction (b ∷ rest) ≡ false → begins is_ascii_digit rest ≡ false
    after_point [] point h = refl
    after_point (c ∷ rest) point h = rw point at h

    go : (point : Bool) → (b == 46) ≡ point → longest_front (class_in language) (b ∷ rest) ≡ mark_front (b ∷ rest)
    go true point = let is : b ≡ 46 = eqb-true b 46 point in rw fraction (rw is (front_point rest (after_point rest is fraction)))
    go false point = rw fraction (front_marks b rest (λ word. patterns_plain b word (plain b (or_right _ _ (plain_or_point b small branch) point)) ∙ rw (no_name b small branch) refl) small (no_name b small branch))

-- a text that begins with none of the bytes that begin other words
pub front_mark : (text : Text) → get_or text 0 0 < 256 → get_or text 0 0 ≢ 32 → get_or text 0 0 ≢ 9 → get_or text 0 0 ≢ 35 → begins is_name_start text ≡ false → begins_number text ≡ false → language_front text ≡ mark_front text
unfolding is_branch language_front longest_front
front_mark [] small blank tab hash name number = refl
front_mark (b ∷ []) small blank tab hash name number =
    front_other b [] small (rw (ne_eqb b 32 blank, ne_eqb b 9 tab, ne_eqb b 35 hash, name, number) refl) refl
front_mark (b ∷ c ∷ rest) small blank tab hash name number =
    let parts = or_false (is_ascii_digit b) (b == 46 && is_ascii_digit c) number in
    front_other b (c ∷ rest) small (rw (ne_eqb b 32 blank, ne_eqb b 9 tab, ne_eqb b 35 hash, name, parts.0) refl) parts.1

-- a mark at the front is the longest word there
pub word_of_mark : (text : Text) (found : Class × ℕ) → ((i : ℕ) → get_or text i 0 < 256) → mark_front text ≡ Some found → language_front text ≡ Some found
unfolding longest_front language_front
word_of_mark [] found small is = is
word_of_mark (b ∷ rest) found small is = go (begins_fraction (b ∷ rest)) (is_branch b) refl refl
  where
    go : (fraction branch : Bool) → begins_fraction (b ∷ rest) ≡ fraction → is_branch b ≡ branch → language_front (b ∷ rest) ≡ Some found
    go true branch fraction e = let none : mark_front (b ∷ rest) ≡ None = rw fraction refl in cc
    go false true fraction e = let none : mark_front (b ∷ rest) ≡ None = rw fraction (no_mark_at_branch b rest (small 0) e) in cc
    go false false fraction e = front_other b rest (small 0) e fraction ∙ is
