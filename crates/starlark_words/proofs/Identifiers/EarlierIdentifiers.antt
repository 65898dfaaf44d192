-- A text of skipped pieces and identifiers has no quote, and so no opener: it reads the same by the table before `rf'` and
-- `rf"` were openers.
use Rattle.std.proofs.Common.{◌≡◌, ◌↔◌, ℕ, Bool, true, false, nat_eq, not, List, [], ◌∷◌, ◌++◌, length, map, take, drop, refl, sym, ap, subst, ◌∙◌, Some, None, ◌||◌, arith}
use Rattle.std.specs.Prelude.{codes}
use Rattle.std.specs.List.{list_all}
use Rattle.std.specs.Str.{bytes_eq}
use Rattle.std.proofs.lemmas.Bool.{and_parts, eqb-true}
use Rattle.std.proofs.lemmas.Bool.Decides.{nat_tests}
use Rattle.std.proofs.lemmas.List.{take-append-drop}
use Rattle.std.proofs.lemmas.List.Folds.{list_all-append}
use Rattle.std.proofs.lemmas.Slice.Eq.{bytes_eq-Decides}
use Rattle.std.proofs.Math.Seq.{take-append_seam}
use Rattle.starlark_grammar.specs.Words.{Text, class_in, openers, line_ends, symbols, names, patterns, language, is_run, is_identifier, is_in_name, is_name_start}
use Rattle.starlark_grammar.specs.declared.class.Class.{Class}
use Rattle.starlark_grammar.specs.declared.class.Class.TheVariants.{Skipped, Identifier}
use Rattle.starlark_grammar.specs.Front.{language_front}
use Rattle.starlark_grammar.specs.EarlierLanguage.{is_rf_opener, earlier_language, earlier_front}
use Rattle.starlark_grammar.proofs.Words.Classes.{RowsFit, all_more, language_all_fit, patterns_all_fit}
use Rattle.starlark_grammar.proofs.Words.EarlierTable.{class_agrees, front_agrees}
use Rattle.starlark_grammar.proofs.Words.Fronts.{front_sound}
use Rattle.starlark_words.proofs.Scan.Listed.{is_quote}
use Rattle.starlark_words.specs.OneIdentifier.{FrontOf, ReadsBy, skipped, IsOneIdentifier, IsOneIdentifierBy}

abbrev is_no_quote : ℕ → Bool
is_no_quote b = not (is_quote b)

abbrev has_no_quote : Text → Bool
has_no_quote = list_all is_no_quote

-- what is so of the words of the two classes
abbrev quote_fits : Class → Text → Bool
quote_fits Skipped word = has_no_quote word
quote_fits Identifier word = has_no_quote word
quote_fits class word = true

rows_fit : RowsFit quote_fits
unfolding openers line_ends symbols names
rows_fit = (refl, refl, refl, refl)

name_is_none : (b : ℕ) → is_in_name b ≡ true → is_no_quote b ≡ true
name_is_none b h = grind (arith, nat_tests)

begin_is_none : (b : ℕ) → is_name_start b ≡ true → is_no_quote b ≡ true
begin_is_none b h = grind (arith, nat_tests)

blank_is_none : (b : ℕ) → nat_eq 32 b ≡ true → is_no_quote b ≡ true
blank_is_none b h = rw (← eqb-true 32 b h) refl

blanks_fit : (word : Text) → is_run (nat_eq 32) word ≡ true → has_no_quote word ≡ true
blanks_fit [] h = refl
blanks_fit (b ∷ bs) h = all_more (nat_eq 32) is_no_quote (b ∷ bs) blank_is_none h

identifier_fits : (word : Text) → is_identifier word ≡ true → has_no_quote word ≡ true
identifier_fits [] h = refl
identifier_fits (b ∷ bs) h =
    let parts = and_parts _ _ h in
    rw (begin_is_none b parts.0) (all_more is_in_name is_no_quote bs name_is_none parts.1)

-- by both tables
language_fits : (word : Text) (class : Class) → class_in language word ≡ Some class → quote_fits class word ≡ true
language_fits = language_all_fit quote_fits rows_fit (λ word. patterns_all_fit quote_fits word (blanks_fit word) (λ h. refl) (λ h. refl) (identifier_fits word) (λ h. refl) (λ h. refl) (λ h. refl) (λ h. refl) (λ h. refl) (λ h. refl))

single_is_no_word : class_in earlier_language (codes "rf'") ≡ None
unfolding earlier_language class_in openers line_ends symbols names patterns
single_is_no_word = refl

double_is_no_word : class_in earlier_language (codes "rf\"") ≡ None
unfolding earlier_language class_in openers line_ends symbols names patterns
double_is_no_word = refl

is_no_word : (word : Text) → is_rf_opener word ≡ true → class_in earlier_language word ≡ None
is_no_word word h = go (bytes_eq word (codes "rf'")) refl h
  where
    go : (same : Bool) → bytes_eq word (codes "rf'") ≡ same → (same || bytes_eq word (codes "rf\"")) ≡ true → class_in earlier_language word ≡ None
    go true e h = subst (λ (w : Text). class_in earlier_language w ≡ None) (sym ((bytes_eq-Decides word (codes "rf'")).0 e)) single_is_no_word
    go false e h = subst (λ (w : Text). class_in earlier_language w ≡ None) (sym ((bytes_eq-Decides word (codes "rf\"")).0 h)) double_is_no_word

earlier_fits : (word : Text) (class : Class) → class_in earlier_language word ≡ Some class → quote_fits class word ≡ true
earlier_fits word class e = go (is_rf_opener word) refl
  where
    go : (is_new : Bool) → is_rf_opener word ≡ is_new → quote_fits class word ≡ true
    go true f = let none = is_no_word word f in cc
    go false f = language_fits word class (class_agrees word f ∙ e)

-- A front of one of the two classes has no quote.
abbrev FindsNoQuotes : FrontOf → Type 0
FindsNoQuotes front = (text : Text) (class : Class) (len : ℕ) → front text ≡ Some (class, len) → quote_fits class (take len text) ≡ true

language_finds : FindsNoQuotes language_front
unfolding language_front
language_finds text class len e = language_fits (take len text) class (front_sound (class_in language) text class len e).2

earlier_finds : FindsNoQuotes earlier_front
unfolding earlier_front
earlier_finds text class len e = earlier_fits (take len text) class (front_sound (class_in earlier_language) text class len e).2

-- Texts without a quote

no_quote_append : (front back : Text) → has_no_quote front ≡ true → has_no_quote back ≡ true → has_no_quote (front ++ back) ≡ true
no_quote_append front back h k = rw (list_all-append is_no_quote front back, h, k) refl

no_quote_parts : (front back : Text) → has_no_quote (front ++ back) ≡ true → (has_no_quote front ≡ true) × (has_no_quote back ≡ true)
no_quote_parts front back h = and_parts (has_no_quote front) (has_no_quote back) (sym (list_all-append is_no_quote front back) ∙ h)

no_quote_front : (n : ℕ) (text : Text) → has_no_quote text ≡ true → has_no_quote (take n text) ≡ true
no_quote_front n text h = (no_quote_parts (take n text) (drop n text) (subst (λ (t : Text). has_no_quote t ≡ true) (sym (take-append-drop n text)) h)).0

is_no_opener : (word : Text) → has_no_quote word ≡ true → is_rf_opener word ≡ false
is_no_opener word h = go (bytes_eq word (codes "rf'")) (bytes_eq word (codes "rf\"")) refl refl
  where
    go : (one other : Bool) → bytes_eq word (codes "rf'") ≡ one → bytes_eq word (codes "rf\"") ≡ other → (one || other) ≡ false
    go false false e f = refl
    go true other e f =
        let has : has_no_quote (codes "rf'") ≡ true = subst (λ (w : Text). has_no_quote w ≡ true) ((bytes_eq-Decides word (codes "rf'")).0 e) h in
        cc
    go false true e f =
        let has : has_no_quote (codes "rf\"") ≡ true = subst (λ (w : Text). has_no_quote w ≡ true) ((bytes_eq-Decides word (codes "rf\"")).0 f) h in
        cc

agree : (text : Text) → has_no_quote text ≡ true → language_front text ≡ earlier_front text
agree text h = front_agrees text (is_no_opener (take 3 text) (no_quote_front 3 text h))

-- Readings

abbrev NoQuotes : List (Class × Text) → Type 0
NoQuotes words = (front : FrontOf) → FindsNoQuotes front → (text rest : Text) → ReadsBy front text words rest → has_no_quote rest ≡ true → has_no_quote text ≡ true

-- a word and what is left after it
one_more : (front : FrontOf) → FindsNoQuotes front → (class : Class) → ((word : Text) → quote_fits class word ≡ true → has_no_quote word ≡ true)
    → (text word more : Text) → text ≡ word ++ more → front text ≡ Some (class, length word) → has_no_quote more ≡ true → has_no_quote text ≡ true
one_more front finds class bare text word more cut found h =
    let fits : quote_fits class (take (length word) text) ≡ true = finds text class (length word) found in
    let same : take (length word) text ≡ word = ap (take (length word)) cut ∙ take-append_seam word more in
    let none : has_no_quote word ≡ true = subst (λ (w : Text). has_no_quote w ≡ true) same (bare (take (length word) text) fits) in
    subst (λ (t : Text). has_no_quote t ≡ true) (sym cut) (no_quote_append word more none h)

skipped_after : (pieces : List Text) → NoQuotes (map skipped pieces)
skipped_after [] front finds text rest reads h = subst (λ (t : Text). has_no_quote t ≡ true) (sym reads) h
skipped_after (piece ∷ pieces) front finds text rest reads h =
    one_more front finds Skipped (λ word k. k) text piece reads.0 reads.1 reads.2 (skipped_after pieces front finds reads.0 rest reads.3 h)

all_before : (before remainder : List Text) (name : Text) → NoQuotes (map skipped before ++ (Identifier, name) ∷ map skipped remainder)
all_before [] remainder name front finds text rest reads h =
    one_more front finds Identifier (λ word k. k) text name reads.0 reads.1 reads.2 (skipped_after remainder front finds reads.0 rest reads.3 h)
all_before (piece ∷ before) remainder name front finds text rest reads h =
    one_more front finds Skipped (λ word k. k) text piece reads.0 reads.1 reads.2 (all_before before remainder name front finds reads.0 rest reads.3 h)

-- A reading of a text without a quote is one by whatever finds the same words in such texts.
reads_too : (one other : FrontOf) → ((text : Text) → has_no_quote text ≡ true → one text ≡ other text) → (text rest : Text) (words : List (Class × Text)) → has_no_quote text ≡ true → ReadsBy one text words rest → ReadsBy other text words rest
reads_too one other same text rest [] h reads = reads
reads_too one other same text rest (word ∷ words) h reads =
    let remainder : has_no_quote reads.0 ≡ true = (no_quote_parts word.1 reads.0 (subst (λ (t : Text). has_no_quote t ≡ true) reads.1 h)).1 in
    (reads.0, reads.1, sym (same text h) ∙ reads.2, reads_too one other same reads.0 rest words remainder reads.3)

is_one_too : (one other : FrontOf) → FindsNoQuotes one → ((text : Text) → has_no_quote text ≡ true → one text ≡ other text) → (text name : Text) → IsOneIdentifierBy one text name → IsOneIdentifierBy other text name
is_one_too one other finds same text name is =
    let none : has_no_quote text ≡ true = all_before is.before is.remainder name one finds text [] is.words refl in
    record { before = is.before; remainder = is.remainder; words = reads_too one other same text [] _ none is.words }

-- A text is one identifier by both tables, or by none.
pub identifiers_stay : (text name : Text) → IsOneIdentifier text name ↔ IsOneIdentifierBy earlier_front text name
identifiers_stay text name = (
  is_one_too language_front earlier_front language_finds agree text name,
  is_one_too earlier_front language_front earlier_finds (λ text h. sym (agree text h)) text name,
)
