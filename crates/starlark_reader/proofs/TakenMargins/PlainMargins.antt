-- Margins of spaces alone, or of spaces and CRs.
use Rattle.std.proofs.Common.{◌≡◌, ℕ, ◌+◌, ◌<◌, Bool, true, false, [], ◌∷◌, length, drop, refl, ap, ◌∙◌, sym, subst, arith, nat_eq, get_or, ◌⊎◌, inl, inr}
use Rattle.std.specs.Prelude.{◌==◌, not}
use Rattle.std.specs.List.{prefix_len}
use Rattle.std.proofs.lemmas.Bool.Decides.{nat_tests}
use Rattle.std.proofs.lemmas.List.{drop_all, length-drop}
use Rattle.starlark_grammar.specs.Words.{Text}
use Rattle.starlark_grammar.specs.Margins.{begins_comment, is_content, is_lf, margin_of}
use Rattle.starlark_reader.specs.Inner.MarginViews.{IsMargin, spaces_margin}
use Rattle.starlark_reader.specs.declared.margins.Margin.{Margin}
use Rattle.starlark_reader.proofs.TakenMargins.Blanks.{IsPassed, all_passed, at_front, blanks_at, blanks_margin, only_spaces, other_front}
use Rattle.starlark_reader.proofs.TakenMargins.MarginLines.{last_passed, none_passed}

abbrev margin_found : ℕ → ℕ → Bool → Margin
margin_found len width content = record { at = 0; blanks = len; width = width; has_tab = false; is_content = content }

-- the whole text is spaces
pub spaces_alone : (text : Text) (n : ℕ) → n ≡ prefix_len (nat_eq 32) text → n ≡ length text → IsMargin (margin_of text) (margin_found n n false)
spaces_alone text n is all =
    let blanks = only_spaces text n is (λ less tab. absurd (omega (arith, less, all))) (λ less return. absurd (omega (arith, less, all))) in
    last_passed text text [] 0 (blanks_margin n n false) false (none_passed text) refl blanks (sym (drop_all n text (omega (arith, all)))) refl refl

-- spaces, and then a byte that is no blank and begins no comment
pub spaces_first : (text : Text) (n b : ℕ) → n ≡ prefix_len (nat_eq 32) text → n < length text → b ≡ get_or text n 0 → (b ≡ 9 → ⊥) → (b ≡ 13 → ⊥) → (b ≡ 35 → ⊥)
    → IsMargin (margin_of text) (margin_found n n (not (nat_eq b 10)))
spaces_first text n b is less here no_tab no_return no_hash =
    let split = at_front text n b less here in
    let blanks = only_spaces text n is (λ inside tab. no_tab (here ∙ tab)) (λ inside return. no_return (here ∙ return)) in
    last_passed text text (drop n text) 0 (blanks_margin n n false) (not (nat_eq b 10)) (none_passed text) refl blanks refl (ap begins_comment split ∙ other b no_hash) (content b ∙ sym (ap is_content split))
  where
    other : (b : ℕ) → (b ≡ 35 → ⊥) → (b == 35) ≡ false
    other b unlike = grind (arith, nat_tests)

    content : (b : ℕ) → not (nat_eq b 10) ≡ not (is_lf b)
    content b = refl

-- spaces, and then content
pub content_first : (text : Text) (n b : ℕ) → n ≡ prefix_len (nat_eq 32) text → n < length text → b ≡ get_or text n 0 → (b ≡ 9 → ⊥) → (b ≡ 13 → ⊥) → (b ≡ 35 → ⊥) → (b ≡ 10 → ⊥) → IsMargin (margin_of text) (spaces_margin n)
content_first text n b is less here no_tab no_return no_hash no_feed =
    subst (λ content. IsMargin (margin_of text) (margin_found n n content)) (other b no_feed) (spaces_first text n b is less here no_tab no_return no_hash)
  where
    other : (b : ℕ) → (b ≡ 10 → ⊥) → not (nat_eq b 10) ≡ true
    other b unlike = grind (arith, nat_tests)

-- a quote, or a byte that is greater than all that have a meaning in a margin
pub content_plain : (text : Text) (n b : ℕ) → n ≡ prefix_len (nat_eq 32) text → n < length text → b ≡ get_or text n 0 → (b ≡ 34) ⊎ (35 < b) → IsMargin (margin_of text) (spaces_margin n)
content_plain text n b is less here (inl e) =
    content_first text n b is less here (λ tab. omega (arith, tab, e)) (λ return. omega (arith, return, e)) (λ hash. omega (arith, hash, e)) (λ feed. omega (arith, feed, e))
content_plain text n b is less here (inr e) =
    content_first text n b is less here (λ tab. omega (arith, tab, e)) (λ return. omega (arith, return, e)) (λ hash. omega (arith, hash, e)) (λ feed. omega (arith, feed, e))

-- spaces, and then an LF
pub line_end_first : (text : Text) (n : ℕ) → n ≡ prefix_len (nat_eq 32) text → n < length text → get_or text n 0 ≡ 10 → IsMargin (margin_of text) (margin_found n n false)
line_end_first text n is less feed = spaces_first text n 10 is less (sym feed) (λ tab. cc) (λ return. cc) (λ hash. cc)

-- spaces and CRs were counted, and an LF or the text's end is next
pub spaces_and_returns : (text : Text) (len n : ℕ) → IsPassed text (blanks_margin len n false) → (len < length text → get_or text len 0 ≡ 10) → IsMargin (margin_of text) (margin_found len n false)
spaces_and_returns text len n passed feed = go (drop len text) refl
  where
    go : (rest : Text) → drop len text ≡ rest → IsMargin (margin_of text) (margin_found len n false)
    go [] e = last_passed text text [] 0 (blanks_margin len n false) false (none_passed text) refl (all_passed text (blanks_margin len n false) passed (ap blanks_at e)) (sym e) refl refl
    go (b ∷ bs) e =
        let inside : len < length text = omega (arith, ap (λ (t : Text). length t) e, length-drop len text) in
        let split = at_front text len 10 inside (sym (feed inside)) in
        let blanks = all_passed text (blanks_margin len n false) passed (ap blanks_at split ∙ other_front 10 (drop (len + 1) text) refl) in
        last_passed text text (drop len text) 0 (blanks_margin len n false) false (none_passed text) refl blanks refl (ap begins_comment split) (sym (ap is_content split))
