-- Blanks, byte by byte.
use Rattle.std.proofs.Common.{◌≡◌, ℕ, zero, suc, ◌+◌, ◌≤◌, ◌<◌, Bool, true, false, cond, [], ◌∷◌, length, take, drop, refl, ap, ◌∙◌, sym, arith, one-add, zero-add, nat_eq, get_or}
use Rattle.std.specs.Prelude.{◌==◌, ◌||◌, if◌then◌else◌, count_by}
use Rattle.std.specs.List.{list_any, prefix_len}
use Rattle.std.proofs.Math.Seq.{drop-cons}
use Rattle.std.proofs.lemmas.Bool.Decides.{nat_tests}
use Rattle.std.proofs.lemmas.List.{length-drop}
use Rattle.std.proofs.lemmas.List.Sums.{prefix_len-le-length, prefix_len_passes, prefix_len_stops, sum_by-cons}
use Rattle.starlark_grammar.specs.Words.{Text}
use Rattle.starlark_grammar.specs.Margins.{is_blank, blanks_len}
use Rattle.starlark_reader.specs.Inner.MarginViews.{IsBlanks}
use Rattle.starlark_reader.specs.declared.margins.Margin.{Margin}

-- the blanks at the start of a text
abbrev pub blanks_at : Text → Text
blanks_at text = take (blanks_len text) text

-- a margin of blanks alone, which content follows
abbrev pub blanks_margin : ℕ → ℕ → Bool → Margin
blanks_margin blanks width has_tab = record { at = 0; blanks = blanks; width = width; has_tab = has_tab; is_content = true }

-- the blanks of a text were counted up to a length
pub record IsPassed (text : Text) (found : Margin) : Type 0 where
  pub inside : found.blanks ≤ length text
  pub few : found.width ≤ found.blanks
  pub len : found.blanks + length (blanks_at (drop found.blanks text)) ≡ length (blanks_at text)
  pub width : found.width + count_by (nat_eq 32) (blanks_at (drop found.blanks text)) ≡ count_by (nat_eq 32) (blanks_at text)
  pub has_tab : (found.has_tab || list_any (nat_eq 9) (blanks_at (drop found.blanks text))) ≡ list_any (nat_eq 9) (blanks_at text)

pub none_passed : (text : Text) → IsPassed text (blanks_margin 0 0 false)
none_passed text = record { inside = omega arith; few = omega arith; len = zero-add _; width = zero-add _; has_tab = refl }

blank_front : (b : ℕ) (bs : Text) → is_blank b ≡ true → blanks_at (b ∷ bs) ≡ b ∷ blanks_at bs
blank_front b bs h = rw (h, one-add) refl

pub other_front : (b : ℕ) (bs : Text) → is_blank b ≡ false → blanks_at (b ∷ bs) ≡ []
other_front b bs h = rw h refl

-- the byte at an offset
pub at_front : (text : Text) (n b : ℕ) → n < length text → b ≡ get_or text n 0 → drop n text ≡ b ∷ drop (n + 1) text
at_front text n b inside e = drop-cons text n 0 inside ∙ ap (λ x. x ∷ drop (suc n) text) (sym e) ∙ ap (λ i. b ∷ drop i text) one
  where
    one : suc n ≡ n + 1
    one = omega arith

pub one_passed : (text : Text) (old new : Margin) (b : ℕ) → IsPassed text old → old.blanks < length text → b ≡ get_or text old.blanks 0 → is_blank b ≡ true →
    new.blanks ≡ old.blanks + 1 → new.width ≡ old.width + cond (b == 32) 1 0 → new.has_tab ≡ (b == 9 || old.has_tab) → IsPassed text new
one_passed text old new b passed less here blank is_len is_width is_tab =
    let split = at_front text old.blanks b less here in
    let front : blanks_at (drop old.blanks text) ≡ b ∷ blanks_at (drop (old.blanks + 1) text) = ap blanks_at split ∙ blank_front b (drop (old.blanks + 1) text) blank in
    let width : count_by (nat_eq 32) (blanks_at (drop old.blanks text)) ≡ cond (b == 32) 1 0 + count_by (nat_eq 32) (blanks_at (drop (old.blanks + 1) text)) = ap (count_by (nat_eq 32)) front ∙ sum_by-cons (λ x. cond (nat_eq 32 x) 1 0) b (blanks_at (drop (old.blanks + 1) text)) ∙ ap (λ t. cond t 1 0 + count_by (nat_eq 32) (blanks_at (drop (old.blanks + 1) text))) (same b 32) in
    let tab : list_any (nat_eq 9) (blanks_at (drop old.blanks text)) ≡ (b == 9 || list_any (nat_eq 9) (blanks_at (drop (old.blanks + 1) text))) = ap (list_any (nat_eq 9)) front ∙ ap (λ t. t || list_any (nat_eq 9) (blanks_at (drop (old.blanks + 1) text))) (same b 9) in
    record {
      inside = omega (arith, is_len, passed.inside, ap (λ (t : Text). length t) split, length-drop old.blanks text);
      few = omega (arith, is_len, is_width, passed.few, one (b == 32));
      len = rw is_len (omega (arith, passed.len, ap (λ (t : Text). length t) front));
      width = rw (is_len, is_width) (omega (arith, passed.width, width));
      has_tab = rw (is_len, is_tab) (either (b == 9) old.has_tab (list_any (nat_eq 9) (blanks_at (drop (old.blanks + 1) text))) ∙ ap (λ t. old.has_tab || t) (sym tab) ∙ passed.has_tab);
    }
  where
    same : (b c : ℕ) → nat_eq c b ≡ (b == c)
    same b c = grind (arith, nat_tests)

    one : (t : Bool) → cond t 1 0 ≤ 1
    one true = omega arith
    one false = omega arith

    either : (t had rest : Bool) → ((t || had) || rest) ≡ (had || (t || rest))
    either true true rest = refl
    either t had rest = refl

-- all blanks were counted
pub all_passed : (text : Text) (found : Margin) → IsPassed text found → blanks_at (drop found.blanks text) ≡ [] → IsBlanks (blanks_at text) found
all_passed text found passed none = record {
  len = omega (arith, passed.len, ap (λ (t : Text). length t) none);
  width = omega (arith, passed.width, ap (count_by (nat_eq 32)) none);
  has_tab = either found.has_tab ∙ ap (λ t. found.has_tab || list_any (nat_eq 9) t) (sym none) ∙ passed.has_tab;
}
  where
    either : (t : Bool) → t ≡ (t || false)
    either true = refl
    either false = refl

-- spaces at the start
pub spaces_passed : (text : Text) (n : ℕ) → n ≤ prefix_len (nat_eq 32) text → IsPassed text (blanks_margin n n false)
spaces_passed text zero inside = none_passed text
spaces_passed text (suc n) inside =
    one_passed text (blanks_margin n n false) (blanks_margin (suc n) (suc n) false) 32 (spaces_passed text n (omega (arith, inside)))
    (omega (arith, inside, prefix_len-le-length (nat_eq 32) text)) (space (get_or text n 0) (prefix_len_passes (nat_eq 32) text n 0 (omega (arith, inside)))) refl (omega arith) (omega arith) refl
  where
    space : (b : ℕ) → nat_eq 32 b ≡ true → 32 ≡ b
    space b e = grind (arith, nat_tests)

-- spaces at the start, and a tab or a CR after them
pub blank_passed : (text : Text) (spaces : ℕ) (is_tab : Bool) → spaces ≤ prefix_len (nat_eq 32) text → spaces < length text → get_or text spaces 0 ≡ (if is_tab then 9 else 13)
    → IsPassed text (blanks_margin (spaces + 1) spaces is_tab)
blank_passed text spaces true few less next = one_passed text (blanks_margin spaces spaces false) (blanks_margin (spaces + 1) spaces true) 9 (spaces_passed text spaces few) less (sym next) refl refl (omega arith) refl
blank_passed text spaces false few less next = one_passed text (blanks_margin spaces spaces false) (blanks_margin (spaces + 1) spaces false) 13 (spaces_passed text spaces few) less (sym next) refl refl (omega arith) refl

-- spaces alone, with no tab and no CR after them
pub only_spaces : (text : Text) (n : ℕ) → n ≡ prefix_len (nat_eq 32) text → (n < length text → get_or text n 0 ≡ 9 → ⊥) → (n < length text → get_or text n 0 ≡ 13 → ⊥)
    → IsBlanks (blanks_at text) (blanks_margin n n false)
only_spaces text n is no_tab no_return = all_passed text _ (spaces_passed text n (omega (arith, is))) (none (drop n text) refl)
  where
    other : (b : ℕ) → nat_eq 32 b ≡ false → (b ≡ 9 → ⊥) → (b ≡ 13 → ⊥) → is_blank b ≡ false
    other b space tab return = grind (arith, nat_tests)

    none : (rest : Text) → drop n text ≡ rest → blanks_at rest ≡ []
    none [] e = refl
    none (b ∷ bs) e =
        let less : n < length text = omega (arith, ap (λ (t : Text). length t) e, length-drop n text) in
        let stops : nat_eq 32 (get_or text n 0) ≡ false = rw is (prefix_len_stops (nat_eq 32) text 0 (rw is at less)) in
        ap blanks_at (sym e ∙ at_front text n (get_or text n 0) less refl) ∙ other_front (get_or text n 0) (drop (n + 1) text) (other (get_or text n 0) stops (no_tab less) (no_return less))
