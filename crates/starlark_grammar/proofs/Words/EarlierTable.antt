-- The table of the language and the one before `rf'` and `rf"` were openers: they differ for these two words alone.
use Rattle.std.proofs.Common.{◌≡◌, ℕ, suc, Bool, true, false, cond, not, List, [], ◌∷◌, ◌++◌, take, drop, refl, ap, ◌∙◌, sym, subst, Option, Some, ◌||◌}
use Rattle.std.specs.Prelude.{filter, codes}
use Rattle.std.specs.Map.{lookup}
use Rattle.std.specs.Option.{option_or}
use Rattle.std.specs.Str.{bytes_eq}
use Rattle.std.proofs.lemmas.Slice.Eq.{bytes_eq-Decides}
use Rattle.std.proofs.lemmas.List.{take-append-drop}
use Rattle.starlark_grammar.specs.Words.{Text, Class, class_in, listed, openers, line_ends, symbols, names, patterns, language}
use Rattle.starlark_grammar.specs.Front.{longer, longest_front, language_front}
use Rattle.starlark_grammar.specs.EarlierLanguage.{is_rf_opener, earlier_language, earlier_front}
use Rattle.starlark_grammar.proofs.Words.Tables.{class_in-remainder}

-- the rows but for the two
abbrev pub earlier_rows : List (Text × Class) → List (Text × Class)
earlier_rows = filter (λ (row : Text × Class). not (is_rf_opener row.0))

-- what is found among them of another word
lookup_earlier : (word : Text) (rows : List (Text × Class)) → is_rf_opener word ≡ false → lookup (bytes_eq word) (earlier_rows rows) ≡ lookup (bytes_eq word) rows
lookup_earlier word [] h = refl
lookup_earlier word (row ∷ rows) h = go (is_rf_opener row.0) (bytes_eq word row.0) refl refl (lookup_earlier word rows h)
  where
    go : (left_out same : Bool) → is_rf_opener row.0 ≡ left_out → bytes_eq word row.0 ≡ same → lookup (bytes_eq word) (earlier_rows rows) ≡ lookup (bytes_eq word) rows
        → lookup (bytes_eq word) (earlier_rows (row ∷ rows)) ≡ lookup (bytes_eq word) (row ∷ rows)
    go false same e f more = rw e (ap (cond (bytes_eq word row.0) (Some row.1)) more)
    go true false e f more = rw (e, f) more
    go true true e f more =
        let equal : word ≡ row.0 = (bytes_eq-Decides word row.0).0 f in
        let other : is_rf_opener row.0 ≡ false = subst (λ (w : Text). is_rf_opener w ≡ false) equal h in
        cc

-- Any other word has the same class by both tables.
pub class_agrees : (word : Text) → is_rf_opener word ≡ false → class_in language word ≡ class_in earlier_language word
unfolding language earlier_language
class_agrees word h =
    class_in-remainder openers (listed line_ends ++ (listed symbols ++ (listed names ++ patterns))) word
    ∙ ap (λ found. option_or found (class_in (listed line_ends ++ (listed symbols ++ (listed names ++ patterns))) word)) (sym (lookup_earlier word openers h))
    ∙ sym (class_in-remainder (earlier_rows openers) (listed line_ends ++ (listed symbols ++ (listed names ++ patterns))) word)

-- Classes that agree on each front of a text have the same longest front there.
pub fronts_agree : {C : Type 0} (one other : Text → Option C) (text : Text) → ((n : ℕ) → one (take n text) ≡ other (take n text)) → longest_front one text ≡ longest_front other text
unfolding longest_front
fronts_agree one other [] h = refl
fronts_agree one other (b ∷ rest) h = rw (fronts_agree (λ word. one (b ∷ word)) (λ word. other (b ∷ word)) rest (λ n. h (suc n))) (ap (longer (longest_front (λ word. other (b ∷ word)) rest)) (h 1))

-- A text that begins with one of the two has it as its front of three bytes.
opener_in_front : (word more : Text) → is_rf_opener word ≡ true → is_rf_opener (take 3 (word ++ more)) ≡ true
opener_in_front word more h = go (bytes_eq word (codes "rf'")) refl h
  where
    go : (same : Bool) → bytes_eq word (codes "rf'") ≡ same → (same || bytes_eq word (codes "rf\"")) ≡ true → is_rf_opener (take 3 (word ++ more)) ≡ true
    go true e h = subst (λ (w : Text). is_rf_opener (take 3 (w ++ more)) ≡ true) (sym ((bytes_eq-Decides word (codes "rf'")).0 e)) refl
    go false e h = subst (λ (w : Text). is_rf_opener (take 3 (w ++ more)) ≡ true) (sym ((bytes_eq-Decides word (codes "rf\"")).0 h)) refl

-- where the front of three bytes is none of the two, no front is
fronts_of_three : (text : Text) (n : ℕ) → is_rf_opener (take 3 text) ≡ false → is_rf_opener (take n text) ≡ false
fronts_of_three text n h = go (is_rf_opener (take n text)) refl
  where
    go : (found : Bool) → is_rf_opener (take n text) ≡ found → found ≡ false
    go false e = refl
    go true e =
        let held : is_rf_opener (take 3 text) ≡ true = subst (λ (t : Text). is_rf_opener (take 3 t) ≡ true) (take-append-drop n text) (opener_in_front (take n text) (drop n text) e) in
        cc

-- where none of the two stands at the front, the longest front is the same by both tables
pub front_agrees : (text : Text) → is_rf_opener (take 3 text) ≡ false → language_front text ≡ earlier_front text
unfolding language_front earlier_front
front_agrees text h = fronts_agree (class_in language) (class_in earlier_language) text (λ n. class_agrees (take n text) (fronts_of_three text n h))
