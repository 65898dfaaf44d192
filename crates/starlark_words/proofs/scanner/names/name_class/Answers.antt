-- Each keyword and reserved word stands in its slot, and each slot has a word and its kind.
use Rattle.std.proofs.Common.{◌≡◌, ◌≢◌, ◌≤◌, ◌<◌, ◌+◌, ◌*◌, ◌/◌, ◌%◌, ◌^◌, ◌∙◌, ◌∷◌, [], ℕ, suc, zero, Bool, true, false, List, Option, None, Some, ap, arith, drop, get_or, length, nat_eq, refl, sym, take, unwrap_or, if◌then◌else◌, subst, ◌⊎◌, inl, inr}
use Rattle.std.proofs.lemmas.Bool.{and_parts, cases_lt, ne_eqb}
use Rattle.std.proofs.lemmas.Bool.Decides.{nat_tests}
use Rattle.std.proofs.lemmas.List.{length-take}
use Rattle.std.proofs.lemmas.List.Sums.{prefix_len-le-length}
use Rattle.std.specs.List.{list_all, prefix_len}
use Rattle.std.specs.Map.{lookup}
use Rattle.std.specs.Option.{option_map}
use Rattle.std.specs.Prelude.{nat_lt}
use Rattle.std.specs.Str.{bytes_eq}
use Rattle.starlark_grammar.specs.Words.{Text, is_in_name, names, symbols}
use Rattle.starlark_grammar.specs.declared.class.Class.{Class}
use Rattle.starlark_grammar.specs.declared.class.Class.TheVariants.{Fixed, Identifier, Reserved}
use Rattle.starlark_words.specs.Inner.ScannedWords.{class_of_name, keyword_kinds, word_number}
use Rattle.starlark_words.specs.declared.scanner.names.TheConstants.{FACTOR, LISTED}
use Rattle.starlark_words.proofs.LiteralBodies.BodyRuns.{run_all}
use Rattle.starlark_words.proofs.Scan.Listed.{lookup_fails}
use Rattle.starlark_words.proofs.Scan.NameNumbers.{in_name_byte, name_of_number, word_of}
use Rattle.starlark_words.proofs.scanner.names.name_class.Goals as goal

-- the slot of a number of so many bytes
abbrev slot_at : ℕ → ℕ → ℕ
slot_at len number = 8 * len + number * FACTOR % 2 ^ 64 / 2 ^ 61

-- whether a word is in its slot
abbrev is_found : Text → Bool
is_found word = nat_eq (get_or LISTED.0 (slot_at (length word) (word_number word)) 0) (word_number word)

-- the class of a listed word by its kind
abbrev class_by : ℕ → Class
class_by kind = unwrap_or (option_map Fixed (lookup (nat_eq kind) keyword_kinds)) Reserved

-- the class of the word in a slot, by the table and by its kind
abbrev class_at : ℕ → Option Class
class_at slot = lookup (bytes_eq (word_of 8 (get_or LISTED.0 slot 0))) names

abbrev kind_at : ℕ → Option Class
kind_at slot = if nat_eq (get_or LISTED.0 slot 0) 0 then None else Some (class_by (get_or LISTED.1 slot 0))

-- the values of the numbers below one
abbrev below : {A : Type 0} → (ℕ → A) → ℕ → List A
below f zero = []
below f (suc n) = f n ∷ below f n

below_at : {A : Type 0} (f g : ℕ → A) (n i : ℕ) → below f n ≡ below g n → i < n → f i ≡ g i
below_at f g zero i same h = absurd (omega (arith, h))
below_at f g (suc n) i same h = go (cases_lt i n) (below_at f g n i (ap (drop 1) same))
  where
    go : (i < n) ⊎ (n ≤ i) → (i < n → f i ≡ g i) → f i ≡ g i
    go (inl less) earlier = earlier less
    go (inr last) earlier =
        let e : n ≡ i = omega (arith, h, last) in
        subst (λ i. f i ≡ g i) e (ap (λ l. get_or l 0 (f n)) same)

-- the name at the front of a text
record Name (len number : ℕ) (name : Text) : Type 0 where
  pub long : length name ≡ len
  pub letters : list_all is_in_name name ≡ true
  pub numbered : number ≡ word_number name

named : (len number : ℕ) (text : Text) → len ≡ prefix_len is_in_name text → number ≡ word_number (take len text) → Name len number (take len text)
named len number text is numbered =
    record { long = omega (arith, length-take len text, is, prefix_len-le-length is_in_name text); letters = subst (λ n. list_all is_in_name (take n text) ≡ true) (sym is) (run_all is_in_name text); numbered = numbered }

number_some : (name : Text) → 0 < length name → list_all is_in_name name ≡ true → 0 < word_number name
unfolding word_number
number_some [] some letters = absurd (omega (arith, some))
number_some (b ∷ name) some letters =
    let byte = in_name_byte b (and_parts (is_in_name b) (list_all is_in_name name) letters).0 in
    omega (arith, byte.0)

-- the class of a name that is in its slot
class_in_slot : (len number : ℕ) (name : Text) → Name len number name → 0 < len → len ≤ 8 → get_or LISTED.0 (slot_at len number) 0 ≡ number → class_of_name name ≡ class_by (get_or LISTED.1 (slot_at len number) 0)
unfolding names symbols
class_in_slot len number name it some short found =
    let is_name : word_of 8 (get_or LISTED.0 (slot_at len number) 0) ≡ name = ap (word_of 8) (found ∙ it.numbered) ∙ name_of_number 8 name (omega (arith, it.long, short)) it.letters in
    let row = below_at class_at kind_at 72 (slot_at len number) refl (omega (arith, short)) in
    let positive = number_some name (omega (arith, it.long, some)) it.letters in
    let known : nat_eq (get_or LISTED.0 (slot_at len number) 0) 0 ≡ false = ne_eqb _ _ (omega (arith, found, it.numbered, positive)) in
    let is_some : kind_at (slot_at len number) ≡ Some (class_by (get_or LISTED.1 (slot_at len number) 0)) = rw known refl in
    ap (λ word. unwrap_or (lookup (bytes_eq word) names) Identifier) (sym is_name) ∙ ap (λ class. unwrap_or class Identifier) (row ∙ is_some)

pub returns-then-len-ge9 : goal.returns-then-len-ge9
unfolding names
returns-then-len-ge9 c =
    let same = c.requires.len in
    let more = c.if-len-ge9.true in
    let fails : nat_lt (length (take c.args.len c.args.text.now)) 9 ≡ false = grind (arith, nat_tests, length-take c.args.len c.args.text.now, same, prefix_len-le-length is_in_name c.args.text.now, more) in
    sym (ap (λ class. unwrap_or class Identifier) (lookup_fails (λ word. nat_lt (length word) 9) (take c.args.len c.args.text.now) names refl fails))

pub name_number-number-requires-clause-within : goal.name_number-number-requires-clause-within
name_number-number-requires-clause-within c = omega (arith, c.requires.len, prefix_len-le-length is_in_name c.args.text.now)

pub returns-then-slot-number : goal.returns-then-slot-number
unfolding names word_number
returns-then-slot-number c =
    let it = named c.args.len c.name_number-number.result c.args.text.now c.requires.len c.name_number-number.ensures in
    let other : get_or LISTED.0 (slot_at c.args.len c.name_number-number.result) 0 ≢ c.name_number-number.result = c.if-slot-number.true in
    let fails : is_found (take c.args.len c.args.text.now) ≡ false = rw (it.long, ← it.numbered) (ne_eqb _ _ other) in
    sym (ap (λ class. unwrap_or class Identifier) (lookup_fails is_found (take c.args.len c.args.text.now) names refl fails))

pub returns-in-Some : goal.returns-in-Some
returns-in-Some c =
    let it = named c.args.len c.name_number-number.result c.args.text.now c.requires.len c.name_number-number.ensures in
    let class = class_in_slot c.args.len c.name_number-number.result (take c.args.len c.args.text.now) it c.requires.some (omega (arith, c.if-len-ge9.false)) c.if-slot-number.false in
    sym (class ∙ ap (λ keyword. unwrap_or (option_map Fixed keyword) Reserved) (sym c.keyword.ensures ∙ c.in-Some.is))

pub returns-in-None : goal.returns-in-None
returns-in-None c =
    let it = named c.args.len c.name_number-number.result c.args.text.now c.requires.len c.name_number-number.ensures in
    let class = class_in_slot c.args.len c.name_number-number.result (take c.args.len c.args.text.now) it c.requires.some (omega (arith, c.if-len-ge9.false)) c.if-slot-number.false in
    sym (class ∙ ap (λ keyword. unwrap_or (option_map Fixed keyword) Reserved) (sym c.keyword.ensures ∙ c.in-None.is))
