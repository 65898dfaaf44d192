-- The matches of a needle, counted along a text.
use Rattle.std.proofs.Common.{◌≡◌, ℕ, zero, suc, ◌+◌, ◌-◌, ◌<◌, ◌≤◌, ◌↔◌, Bool, true, false, cond, List, [], ◌∷◌, ◌++◌, length, take, drop, get_or, IsTrue, is_some, Option, Some, None, nat_eq, refl, ap, sym, ◌∙◌, ◌⊎◌, inl, inr, arith, length-append, length-drop}
use Rattle.std.proofs.lemmas.Bool.{cases_Bool, cases_lt}
use Rattle.std.proofs.lemmas.List.{take-append-drop, drop_more, drop_all, get_or_append_left, get_or-append-add, length-take}
use Rattle.std.proofs.lemmas.Slice.Eq.{bytes_eq-Decides}
use Rattle.std.specs.List.{starts_with}
use Rattle.memchr.specs.Find.{OccursAt, FindsNeedle, matches_from, matches, match_len, occurs_at}
use Rattle.memchr.proofs.lemmas.MatchLemmas.{OccursAt-split, OccursAt-part, OccursAt-from_part, OccursAt-true, occurs_at-true}
use Rattle.starlark_text.specs.Strings.{Contains, matches_after, match_count}

pub contains_from_occurs : (text needle : List ℕ) (k : ℕ) → OccursAt text needle k → Contains text needle
contains_from_occurs text needle k occurs = (take k text, drop (k + length needle) text, sym (take-append-drop k text) ∙ ap (λ t. take k text ++ t) (OccursAt-split text needle k occurs))

pub occurs_from_contains : (text needle front back : List ℕ) → text ≡ front ++ (needle ++ back) → OccursAt text needle (length front)
occurs_from_contains text needle front back joined =
    record {
      fits = omega (arith, ap length joined, length-append front (needle ++ back), length-append needle back);
      reads = λ j within. ap (λ t. get_or t (length front + j) 0) joined ∙ get_or-append-add front (needle ++ back) j 0 ∙ get_or_append_left needle back 0 j within;
    }

pub contains_found : (text needle : List ℕ) (r : Option ℕ) → FindsNeedle text needle 0 r → IsTrue (is_some r) ↔ Contains text needle
contains_found text needle None none = (
  λ no. cc,
  λ there. let occurs = occurs_from_contains text needle there.0 there.1 there.2 in absurd (none (length there.0) (omega arith) (omega (arith, occurs.fits)) occurs),
)
contains_found text needle (Some k) found = (λ yes. contains_from_occurs text needle k found.1, λ there. refl)

-- whether the needle begins what is left
occurs_test : (text needle : List ℕ) (i : ℕ) → i < length text → 0 < length needle → occurs_at text needle i ≡ starts_with nat_eq (drop i text) needle
occurs_test text needle i within some = go (cases_Bool (starts_with nat_eq (drop i text) needle)) (cases_Bool (occurs_at text needle i))
  where
    there : starts_with nat_eq (drop i text) needle ≡ true → occurs_at text needle i ≡ true
    there starts =
        let same = sym ((bytes_eq-Decides needle (take (length needle) (drop i text))).0 starts) in
        let room : length needle ≤ length text - i = omega (arith, ap length same, length-take (length needle) (drop i text), length-drop i text) in
        occurs_at-true text needle i (OccursAt-from_part text needle i (omega arith) same)

    here : occurs_at text needle i ≡ true → starts_with nat_eq (drop i text) needle ≡ true
    here occurs = (bytes_eq-Decides needle (take (length needle) (drop i text))).1 (sym (OccursAt-part text needle i (OccursAt-true text needle i occurs)))

    go : (starts_with nat_eq (drop i text) needle ≡ true) ⊎ (starts_with nat_eq (drop i text) needle ≡ false) → (occurs_at text needle i ≡ true) ⊎ (occurs_at text needle i ≡ false) → occurs_at text needle i ≡ starts_with nat_eq (drop i text) needle
    go (inl starts) occurs = there starts ∙ sym starts
    go (inr otherwise) (inl occurs) = occurs ∙ sym (here occurs)
    go (inr otherwise) (inr none) = none ∙ sym otherwise

no_room : (text needle : List ℕ) (i : ℕ) → length text ≤ i → 0 < length needle → occurs_at text needle i ≡ false
no_room text needle i past some = go (cases_Bool (occurs_at text needle i))
  where
    go : (occurs_at text needle i ≡ true) ⊎ (occurs_at text needle i ≡ false) → occurs_at text needle i ≡ false
    go (inl occurs) = let at = OccursAt-true text needle i occurs in absurd (omega (arith, at.fits))
    go (inr none) = none

one_more : (b : Bool) (i : ℕ) (found later : List ℕ) (m n : ℕ) → length found ≡ m → length later ≡ n → length (cond b (i ∷ found) later) ≡ cond b (suc m) n
one_more true i found later m n hit miss = ap suc hit
one_more false i found later m n hit miss = miss

-- the list of matches is as long as the count, from each place on
counted : (text needle : List ℕ) → 0 < length needle → (inside i n : ℕ) → i + n ≡ length text + 1 → length (matches_from text needle inside i n) ≡ matches_after needle inside (drop i text)
unfolding matches_from matches_after
counted text needle some inside i zero whole = rw (drop_all i text (omega arith)) refl
counted text needle some (suc inside) i (suc n) whole = go (cases_lt i (length text)) (counted text needle some inside (i + 1) n (omega arith))
  where
    go : (i < length text) ⊎ (length text ≤ i) → length (matches_from text needle inside (i + 1) n) ≡ matches_after needle inside (drop (i + 1) text) → length (matches_from text needle inside (i + 1) n) ≡ matches_after needle (suc inside) (drop i text)
    go (inl within) later = later ∙ sym (ap (matches_after needle (suc inside)) (drop_more text i 0 within))
    go (inr past) later = later ∙ ap (matches_after needle inside) (drop_all (i + 1) text (omega arith)) ∙ sym (ap (matches_after needle (suc inside)) (drop_all i text past))
counted text needle some zero i (suc n) whole = go (cases_lt i (length text)) (counted text needle some (match_len needle - 1) (i + 1) n (omega arith)) (counted text needle some 0 (i + 1) n (omega arith))
  where
    width : match_len needle - 1 ≡ length needle - 1
    width = omega arith

    go : (i < length text) ⊎ (length text ≤ i)
        → length (matches_from text needle (match_len needle - 1) (i + 1) n) ≡ matches_after needle (match_len needle - 1) (drop (i + 1) text)
        → length (matches_from text needle 0 (i + 1) n) ≡ matches_after needle 0 (drop (i + 1) text)
        → length (cond (occurs_at text needle i) (i ∷ matches_from text needle (match_len needle - 1) (i + 1) n) (matches_from text needle 0 (i + 1) n)) ≡ matches_after needle 0 (drop i text)
    go (inl within) hit miss =
        ap (λ b. length (cond b (i ∷ matches_from text needle (match_len needle - 1) (i + 1) n) (matches_from text needle 0 (i + 1) n))) (occurs_test text needle i within some)
        ∙ one_more (starts_with nat_eq (drop i text) needle) i (matches_from text needle (match_len needle - 1) (i + 1) n) (matches_from text needle 0 (i + 1) n) (matches_after needle (length needle - 1) (drop (i + 1) text)) (matches_after needle 0 (drop (i + 1) text)) (hit ∙ ap (λ k. matches_after needle k (drop (i + 1) text)) width) miss
        ∙ ap (λ t. cond (starts_with nat_eq t needle) (suc (matches_after needle (length needle - 1) (drop (i + 1) text))) (matches_after needle 0 (drop (i + 1) text))) (drop_more text i 0 within)
        ∙ sym (ap (matches_after needle 0) (drop_more text i 0 within))
    go (inr past) hit miss =
        ap (λ b. length (cond b (i ∷ matches_from text needle (match_len needle - 1) (i + 1) n) (matches_from text needle 0 (i + 1) n))) (no_room text needle i past some)
        ∙ miss
        ∙ ap (matches_after needle 0) (drop_all (i + 1) text (omega arith))
        ∙ sym (ap (matches_after needle 0) (drop_all i text past))

pub matches_counted : (text needle : List ℕ) → 0 < length needle → length (matches text needle 0) ≡ match_count text needle
matches_counted text [] some = absurd (omega arith)
matches_counted text (b ∷ needle) some = let whole : length text + 1 - 0 ≡ length text + 1 = omega arith in ap (λ n. length (matches_from text (b ∷ needle) 0 0 n)) whole ∙ counted text (b ∷ needle) some 0 0 (length text + 1) (omega arith)
