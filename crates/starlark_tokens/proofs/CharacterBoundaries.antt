-- Character boundaries of a text and of parts of it.
use Rattle.std.proofs.Common.{◌≡◌, ℕ, ◌+◌, ◌-◌, ◌<◌, ◌≤◌, ◌⊎◌, inl, inr, Bool, true, false, not, get_or, length, drop, sym, subst, arith, length-drop}
use Rattle.std.proofs.lemmas.Bool.{cases_lt, false_from_ne_true, le-leb, leb-true, lt-ltb, ltb-true, not_from_false, not_from_true, or_cases, or_left, or_right}
use Rattle.std.proofs.lemmas.List.{get_or-drop}
use Rattle.std.proofs.lemmas.List.Sums.{prefix_len_is}
use Rattle.std.specs.List.{prefix_len}
use Rattle.std.specs.Prelude.{nat_lt, nat_le, slice_index}
use Rattle.std.specs.Str.{IsCharBoundary}
use Rattle.starlark_base.specs.Places.{Text}
use Rattle.starlark_text.specs.Characters.{starts_character}
use Rattle.starlark_tokens.specs.OutputFormats.SourceLines.{boundary_from}

abbrev follows : ℕ → Bool
follows b = not (starts_character b)

-- a byte that begins a character is at a boundary, …
boundary_at : (text : Text) (i : ℕ) → i < length text → starts_character (get_or text i 0) ≡ true → IsCharBoundary text i
boundary_at text i within starts = (omega arith, λ less high. by high (or_cases (nat_lt (get_or text i 0) 128) (nat_le 192 (get_or text i 0)) starts))
  where
    by : 128 ≤ slice_index text i → (nat_lt (get_or text i 0) 128 ≡ true) ⊎ (nat_le 192 (get_or text i 0) ≡ true) → 192 ≤ slice_index text i
    by high (inl low) = absurd (omega (arith, high, ltb-true (get_or text i 0) 128 low))
    by high (inr is) = leb-true 192 (get_or text i 0) is

-- … and a boundary within the text is at such a byte
starts_at : (text : Text) (i : ℕ) → i < length text → IsCharBoundary text i → starts_character (get_or text i 0) ≡ true
starts_at text i within boundary = by (cases_lt (get_or text i 0) 128)
  where
    by : (get_or text i 0 < 128) ⊎ (128 ≤ get_or text i 0) → starts_character (get_or text i 0) ≡ true
    by (inl low) = or_left (nat_lt (get_or text i 0) 128) _ (lt-ltb (get_or text i 0) 128 low)
    by (inr high) = or_right _ (nat_le 192 (get_or text i 0)) (le-leb 192 (get_or text i 0) (boundary.1 within high))

-- the first boundary that isn't before an offset
pub boundary_is : (text : Text) (at n : ℕ) → (at ≤ length text → at ≤ n) → IsCharBoundary text n → ((i : ℕ) → at ≤ i → i < n → IsCharBoundary text i → ⊥) → (length text < at → n ≡ length text) → n ≡ boundary_from text at
boundary_is text at n onward boundary between beyond = by (cases_lt (length text) at)
  where
    by : (length text < at) ⊎ (at ≤ length text) → n ≡ boundary_from text at
    by (inl past) = omega (arith, past, beyond past)
    by (inr inside) =
        let len = length-drop at text in
        let after = onward inside in
        let is : prefix_len follows (drop at text) ≡ n - at =
        prefix_len_is follows (drop at text) (n - at) 0 (omega (arith, len, boundary.0))
        (λ k l. subst (λ b. follows b ≡ true) (sym (get_or-drop at text k 0)) (not_from_false _ (false_from_ne_true _ (λ starts. between (at + k) (omega arith) (omega (arith, l, after)) (boundary_at text (at + k) (omega (arith, l, after, boundary.0)) starts)))))
        (λ l. subst (λ b. follows b ≡ false) (sym (get_or-drop at text (n - at) 0)) (subst (λ k. follows (get_or text k 0) ≡ false) (omega (arith, after)) (not_from_true _ (starts_at text n (omega (arith, l, len, after)) boundary)))) in
        omega (arith, is, after, boundary.0)

-- no other boundary is between
pub first_boundary : (at n other : ℕ) (text : Text) → ((i : ℕ) → at ≤ i → i < n → IsCharBoundary text i → ⊥) → at ≤ other → IsCharBoundary text other → n ≤ other
first_boundary at n other text between after boundary = by (cases_lt other n)
  where
    by : (other < n) ⊎ (n ≤ other) → n ≤ other
    by (inl before) = absurd (between other after before boundary)
    by (inr is) = is
