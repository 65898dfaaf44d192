-- Skipped pieces, one identifier, skipped pieces.
use Rattle.std.proofs.Common.{◌≡◌, ◌↔◌, ℕ, zero, suc, ◌≤◌, ◌==◌, true, false, List, [], ◌∷◌, ◌++◌, length, map, take, drop, refl, sym, ap, subst, ◌∙◌, Option, Some, None, unwrap_or, arith}
use Rattle.std.proofs.lemmas.List.{length-take}
use Rattle.starlark_grammar.specs.Words.{Text}
use Rattle.starlark_grammar.specs.declared.class.Class.{Class}
use Rattle.starlark_grammar.specs.declared.class.Class.TheVariants.{Skipped, Identifier}
use Rattle.starlark_grammar.specs.Front.{language_front, longest_front}
use Rattle.starlark_words.specs.OneIdentifier.{ReadCounter, skipped, IsOneIdentifier, IsAfterSkipped, if_skipped, if_identifier}

-- what the two tests say of a front
pub skipped_front : (front : Option (Class × ℕ)) (len : ℕ) → if_skipped front ≡ Some len → front ≡ Some (Skipped, len)
skipped_front (Some (Skipped, n)) len same = ap (λ found. Some (Skipped, unwrap_or found 0)) same
skipped_front front len same = grind arith

pub identifier_front : (front : Option (Class × ℕ)) (len : ℕ) → if_identifier front ≡ Some len → front ≡ Some (Identifier, len)
identifier_front (Some (Identifier, n)) len same = ap (λ found. Some (Identifier, unwrap_or found 0)) same
identifier_front front len same = grind arith

abbrev len_of : Option (Class × ℕ) → ℕ
len_of None = 0
len_of (Some front) = front.1

-- a text that is cut
cut_text : (len : ℕ) (text : Text) → text ≡ take len text ++ drop len text
cut_text zero text = refl
cut_text (suc len) [] = refl
cut_text (suc len) (b ∷ rest) = ap (λ bytes. b ∷ bytes) (cut_text len rest)

cut_len : (len : ℕ) (text : Text) → len ≤ length text → length (take len text) ≡ len
cut_len len text inside = omega (arith, length-take len text)

-- what is left after a word is what its length says
left_over : (word more : Text) → drop (length word) (word ++ more) ≡ more
left_over [] more = refl
left_over (b ∷ word) more = left_over word more

cut_front : (word more : Text) → take (length word) (word ++ more) ≡ word
cut_front [] more = refl
cut_front (b ∷ word) more = ap (λ bytes. b ∷ bytes) (cut_front word more)

-- two words that are read at one place are one
same_more : (text word more other further : Text) (class : Class) → text ≡ word ++ more → text ≡ other ++ further → language_front text ≡ Some (class, length word) → language_front text ≡ Some (class, length other) → (word ≡ other) × (more ≡ further)
same_more text word more other further class one two front found =
    let len : length word ≡ length other = ap len_of (sym front ∙ found) in (
      sym (cut_front word more) ∙ ap (take (length word)) (sym one ∙ two) ∙ ap (λ k. take k (other ++ further)) len ∙ cut_front other further,
      sym (left_over word more) ∙ ap (drop (length word)) (sym one ∙ two) ∙ ap (λ k. drop k (other ++ further)) len ∙ left_over other further,
    )

-- words and further words
reads_join : (text : Text) (words more : List (Class × Text)) (mid rest : Text) → ReadCounter text words mid → ReadCounter mid more rest → ReadCounter text (words ++ more) rest
reads_join text [] more mid rest same further = subst (λ t. ReadCounter t more rest) (sym same) further
reads_join text (word ∷ words) more mid rest reads further = (reads.0, reads.1, reads.2, reads_join reads.0 words more mid rest reads.3 further)

reads_split : (text : Text) (words more : List (Class × Text)) (rest : Text) → ReadCounter text (words ++ more) rest → (mid : Text) × ReadCounter text words mid × ReadCounter mid more rest
reads_split text [] more rest reads = (text, refl, reads)
reads_split text (word ∷ words) more rest reads =
    let found = reads_split reads.0 words more rest reads.3 in
    (found.0, (reads.0, reads.1, reads.2, found.1), found.2)

-- one word
reads_one : (class : Class) (len : ℕ) (text : Text) → language_front text ≡ Some (class, len) → len ≤ length text → ReadCounter text ((class, take len text) ∷ []) (drop len text)
reads_one class len text front inside = (drop len text, cut_text len text, front ∙ ap (λ k. Some (class, k)) (sym (cut_len len text inside)), refl)

map_skipped : (one other : List Text) → map skipped (one ++ other) ≡ map skipped one ++ map skipped other
map_skipped [] other = refl
map_skipped (piece ∷ pieces) other = ap (λ words. skipped piece ∷ words) (map_skipped pieces other)

-- one skipped piece more
pub after_more : (text rest : Text) (len : ℕ) → IsAfterSkipped text rest → if_skipped (language_front rest) ≡ Some len → len ≤ length rest → IsAfterSkipped text (drop len rest)
after_more text rest len passed here inside =
    let one = reads_one Skipped len rest (skipped_front (language_front rest) len here) inside in (
      passed.0 ++ take len rest ∷ [],
      subst (λ words. ReadCounter text words (drop len rest)) (sym (map_skipped passed.0 (take len rest ∷ [])))
          (reads_join text (map skipped passed.0) (skipped (take len rest) ∷ []) rest (drop len rest) passed.1 one),
    )

-- what is left after all skipped pieces is one text
some_none : (n : ℕ) → ◌≡◌ {A = Option ℕ} (Some n) None → ⊥
some_none n h = grind arith

no_more : (text : Text) (len : ℕ) → language_front text ≡ Some (Skipped, len) → if_skipped (language_front text) ≡ None → ⊥
no_more text len front none = some_none len (sym (ap if_skipped front) ∙ none)

pub one_rest : (text : Text) (one other : List Text) (rest remainder : Text) → ReadCounter text (map skipped one) rest → ReadCounter text (map skipped other) remainder → if_skipped (language_front rest) ≡ None → if_skipped (language_front remainder) ≡ None → rest ≡ remainder
one_rest text [] [] rest remainder here there none nothing = sym here ∙ there
one_rest text [] (piece ∷ pieces) rest remainder here there none nothing = absurd (no_more text (length piece) there.2 (ap (λ t. if_skipped (language_front t)) here ∙ none))
one_rest text (piece ∷ pieces) [] rest remainder here there none nothing = absurd (no_more text (length piece) here.2 (ap (λ t. if_skipped (language_front t)) there ∙ nothing))
one_rest text (piece ∷ pieces) (part ∷ parts) rest remainder here there none nothing =
    let same = same_more text piece here.0 part there.0 Skipped here.1 there.1 here.2 there.2 in
    one_rest here.0 pieces parts rest remainder here.3 (subst (λ t. ReadCounter t (map skipped parts) remainder) (sym same.1) there.3) none nothing

-- an identifier isn't skipped, and after the last piece nothing is
not_skipped : (front : Option (Class × ℕ)) (len : ℕ) → front ≡ Some (Identifier, len) → if_skipped front ≡ None
not_skipped front len e = ap if_skipped e

nothing_left : if_skipped (language_front []) ≡ None
unfolding language_front longest_front
nothing_left = refl

-- The text that the code comes to: after skipped pieces, and none stands there.
pub record IsRest (text rest : Text) : Type 0 where
  pub passed : IsAfterSkipped text rest
  pub all : if_skipped (language_front rest) ≡ None

-- where an identifier stands there, and nothing but skipped pieces after it
pub found_one : (text rest : Text) (len : ℕ) → IsRest text rest → if_identifier (language_front rest) ≡ Some len → len ≤ length rest → IsRest (drop len rest) [] → IsOneIdentifier text (take len rest)
found_one text rest len begin here inside end =
    let name = reads_one Identifier len rest (identifier_front (language_front rest) len here) inside in
    let remainder = reads_join rest ((Identifier, take len rest) ∷ []) (map skipped end.passed.0) (drop len rest) [] name end.passed.1 in
    record { before = begin.passed.0; remainder = end.passed.0; words = reads_join text (map skipped begin.passed.0) ((Identifier, take len rest) ∷ map skipped end.passed.0) rest [] begin.passed.1 remainder }

-- The only identifier that a text may be stands there.
pub record IsThere (rest word : Text) : Type 0 where
  pub front : language_front rest ≡ Some (Identifier, length word)
  pub name : take (length word) rest ≡ word
  pub end : IsAfterSkipped (drop (length word) rest) []

pub must_be : (text rest name : Text) → IsRest text rest → IsOneIdentifier text name → IsThere rest name
must_be text rest name begin one =
    let split = reads_split text (map skipped one.before) ((Identifier, name) ∷ map skipped one.remainder) [] one.words in
    let here = split.2 in
    let same = one_rest text begin.passed.0 one.before rest split.0 begin.passed.1 split.1 begin.all (not_skipped (language_front split.0) (length name) here.2) in
    let cut : rest ≡ name ++ here.0 = same ∙ here.1 in
    record {
      front = ap language_front same ∙ here.2;
      name = ap (take (length name)) cut ∙ cut_front name here.0;
      end = (one.remainder, subst (λ t. ReadCounter t (map skipped one.remainder) []) (sym (ap (drop (length name)) cut ∙ left_over name here.0)) here.3);
    }

pub none_there : (text rest name : Text) → IsRest text rest → if_identifier (language_front rest) ≡ None → IsOneIdentifier text name → ⊥
none_there text rest name begin none one = some_none (length name) (sym (ap if_identifier (must_be text rest name begin one).front) ∙ none)

pub only_one : (text rest remainder name : Text) (len : ℕ) → IsRest text rest → if_identifier (language_front rest) ≡ Some len → IsRest (drop len rest) remainder → IsOneIdentifier text name → (take len rest ≡ name) × (remainder ≡ [])
only_one text rest remainder name len begin here end one =
    let there = must_be text rest name begin one in
    let same : len ≡ length name = ap len_of (sym (identifier_front (language_front rest) len here) ∙ there.front) in
    let left = subst (λ k. IsAfterSkipped (drop k rest) []) (sym same) there.end in
    (ap (λ k. take k rest) same ∙ there.name, one_rest (drop len rest) end.passed.0 left.0 remainder [] end.passed.1 left.1 end.all nothing_left)

-- the three answers of the code
none_some : (name : Text) → ◌≡◌ {A = Option Text} None (Some name) → ⊥
none_some name h = grind arith

abbrev pub Answers : Text → Option Text → Type 0
Answers text found = (name : Text) → (found ≡ Some name) ↔ IsOneIdentifier text name

pub no_identifier : (text rest : Text) → IsRest text rest → if_identifier (language_front rest) ≡ None → Answers text None
no_identifier text rest begin none name = (λ h. absurd (none_some name h), λ one. absurd (none_there text rest name begin none one))

pub more_after : (text rest remainder : Text) (len : ℕ) → IsRest text rest → if_identifier (language_front rest) ≡ Some len → IsRest (drop len rest) remainder → (length remainder == 0) ≡ false → Answers text None
more_after text rest remainder len begin here end more name = (λ h. absurd (none_some name h), λ one. absurd (not_empty remainder (only_one text rest remainder name len begin here end one).1 more))
  where
    not_empty : (bytes : Text) → bytes ≡ [] → (length bytes == 0) ≡ false → ⊥
    not_empty [] h more = grind arith
    not_empty (b ∷ bs) h more = grind arith

pub one_found : (text rest remainder : Text) (len : ℕ) → IsRest text rest → if_identifier (language_front rest) ≡ Some len → len ≤ length rest → IsRest (drop len rest) remainder → (length remainder == 0) ≡ true → IsOneIdentifier text (take len rest)
one_found text rest remainder len begin here inside end none = by_after remainder end none
  where
    by_after : (bytes : Text) → IsRest (drop len rest) bytes → (length bytes == 0) ≡ true → IsOneIdentifier text (take len rest)
    by_after [] end none = found_one text rest len begin here inside end
    by_after (b ∷ bs) end none = grind arith

pub one_alone : (text rest remainder : Text) (len : ℕ) → IsRest text rest → if_identifier (language_front rest) ≡ Some len → len ≤ length rest → IsRest (drop len rest) remainder → (length remainder == 0) ≡ true → Answers text (Some (take len rest))
one_alone text rest remainder len begin here inside end none name = (
  λ same. subst (IsOneIdentifier text) (ap (λ found. unwrap_or found []) same) (one_found text rest remainder len begin here inside end none),
  λ one. ap Some (only_one text rest remainder name len begin here end one).0,
)
