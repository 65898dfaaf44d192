-- The longest front, by the classes of the words that begin with a byte.
use Rattle.std.proofs.Common.{◌≡◌, ℕ, zero, suc, ◌+◌, ◌<◌, ◌≤◌, Bool, true, false, cond, [], ◌∷◌, length, take, refl, ap, sym, subst, ◌∙◌, Option, Some, None, ◌⊎◌, ◌↔◌, inl, inr, arith, one-add, add-one}
use Rattle.std.specs.List.{list_all, prefix_len}
use Rattle.std.specs.Option.{option_map}
use Rattle.starlark_grammar.specs.Words.{Text}
use Rattle.starlark_grammar.specs.Front.{longer, longest_front}
use Rattle.starlark_grammar.specs.Longest.{IsLongestFront}

-- the parts of equal pairs
some_parts : {C : Type 0} (x y : C × ℕ) → Some x ≡ Some y → (x.0 ≡ y.0) × (x.1 ≡ y.1)
some_parts {C} x y e = let same : x ≡ y = cc in (ap (λ (p : C × ℕ). p.0) same, ap (λ (p : C × ℕ). p.1) same)

-- no word that begins with this byte has a class
pub front_none : {C : Type 0} (class_of : Text → Option C) (b : ℕ) (rest : Text) → ((word : Text) → class_of (b ∷ word) ≡ None) → longest_front class_of (b ∷ rest) ≡ None
unfolding longest_front
front_none class_of b [] h = rw (h []) refl
front_none class_of b (c ∷ rest) h = rw (h [], front_none (λ word. class_of (b ∷ word)) c rest (λ word. h (c ∷ word))) refl

-- of the words that begin with this byte only that of one byte may have a class
pub front_single : {C : Type 0} (class_of : Text → Option C) (b : ℕ) (rest : Text) → ((c : ℕ) (word : Text) → class_of (b ∷ c ∷ word) ≡ None) → longest_front class_of (b ∷ rest) ≡ option_map (λ class. (class, 1)) (class_of (b ∷ []))
unfolding longest_front
front_single class_of b [] h = refl
front_single class_of b (c ∷ rest) h = rw (front_none (λ word. class_of (b ∷ word)) c rest (h c)) refl

-- of the words that begin with this byte those have a class whose other bytes pass a test
pub front_run : {C : Type 0} (test : ℕ → Bool) (class_of : Text → Option C) (g : Text → C) (b : ℕ) (rest : Text) → ((word : Text) → class_of (b ∷ word) ≡ cond (list_all test word) (Some (g word)) None) → longest_front class_of (b ∷ rest) ≡ Some (g (take (prefix_len test rest) rest), prefix_len test rest + 1)
unfolding longest_front
front_run test class_of g b [] h = rw (h []) refl
front_run test class_of g b (c ∷ rest) h = go (test c) refl (front_run test (λ word. class_of (b ∷ word)) (λ word. g (c ∷ word)) c rest)
  where
    go : (passes : Bool) → test c ≡ passes
        → (((word : Text) → class_of (b ∷ c ∷ word) ≡ cond (list_all test word) (Some (g (c ∷ word))) None) → longest_front (λ word. class_of (b ∷ word)) (c ∷ rest) ≡ Some (g (c ∷ take (prefix_len test rest) rest), prefix_len test rest + 1))
        → longest_front class_of (b ∷ c ∷ rest) ≡ Some (g (take (prefix_len test (c ∷ rest)) (c ∷ rest)), prefix_len test (c ∷ rest) + 1)
    go true e more = rw (more (λ word. rw (h (c ∷ word), e) refl), e, one-add) (ap (λ n. Some (g (c ∷ take (prefix_len test rest) rest), n)) (omega arith))
    go false e more = rw (front_none (λ word. class_of (b ∷ word)) c rest (λ word. rw (h (c ∷ word), e) refl), h [], e) refl

-- the longest front isn't empty, lies inside the text and has its class
pub front_sound : {C : Type 0} (class_of : Text → Option C) (text : Text) (class : C) (n : ℕ) → longest_front class_of text ≡ Some (class, n) → (1 ≤ n) × (n ≤ length text) × (class_of (take n text) ≡ Some class)
unfolding longest_front
front_sound class_of [] class n e = cc
front_sound {C} class_of (b ∷ rest) class n e = go (longest_front (λ word. class_of (b ∷ word)) rest) (class_of (b ∷ [])) refl e (front_sound (λ word. class_of (b ∷ word)) rest)
  where
    go : (more : Option (C × ℕ)) (alone : Option C) → class_of (b ∷ []) ≡ alone → longer more alone ≡ Some (class, n)
        → ((c : C) (m : ℕ) → more ≡ Some (c, m) → (1 ≤ m) × (m ≤ length rest) × (class_of (b ∷ take m rest) ≡ Some c))
        → (1 ≤ n) × (n ≤ length (b ∷ rest)) × (class_of (take n (b ∷ rest)) ≡ Some class)
    go (Some front) alone known e ih =
        let sound = ih front.0 front.1 refl in
        let parts = some_parts (front.0, front.1 + 1) (class, n) e in
        (omega arith, omega arith, rw (← parts.1, add-one) (sound.2 ∙ ap Some parts.0))
    go None None known e ih = cc
    go None (Some c) known e ih = let parts = some_parts (c, 1) (class, n) e in (omega arith, omega arith, rw (← parts.1) (known ∙ ap Some parts.0))

-- where there is no longest front, no front has a class
pub front_absent : {C : Type 0} (class_of : Text → Option C) (text : Text) → longest_front class_of text ≡ None → (m : ℕ) → 1 ≤ m → m ≤ length text → class_of (take m text) ≡ None
unfolding longest_front
front_absent class_of [] e m some inside = absurd (omega arith)
front_absent {C} class_of (b ∷ rest) e m some inside = go (longest_front (λ word. class_of (b ∷ word)) rest) (class_of (b ∷ [])) refl e (front_absent (λ word. class_of (b ∷ word)) rest) m some inside
  where
    go : (more : Option (C × ℕ)) (alone : Option C) → class_of (b ∷ []) ≡ alone → longer more alone ≡ None
        → (more ≡ None → (k : ℕ) → 1 ≤ k → k ≤ length rest → class_of (b ∷ take k rest) ≡ None)
        → (m : ℕ) → 1 ≤ m → m ≤ length (b ∷ rest) → class_of (take m (b ∷ rest)) ≡ None
    go (Some front) alone known e ih m some inside = cc
    go None (Some c) known e ih m some inside = cc
    go None None known e ih zero some inside = absurd (omega arith)
    go None None known e ih (suc zero) some inside = known
    go None None known e ih (suc (suc k)) some inside = ih refl (suc k) (omega arith) (omega arith)

-- no front that is longer than the longest has a class
pub front_longest : {C : Type 0} (class_of : Text → Option C) (text : Text) (class : C) (n : ℕ) → longest_front class_of text ≡ Some (class, n) → (m : ℕ) → n < m → m ≤ length text → class_of (take m text) ≡ None
unfolding longest_front
front_longest class_of [] class n e m more inside = cc
front_longest {C} class_of (b ∷ rest) class n e m more inside = go (longest_front (λ word. class_of (b ∷ word)) rest) (class_of (b ∷ [])) refl e (front_longest (λ word. class_of (b ∷ word)) rest) m more inside
  where
    go : (found : Option (C × ℕ)) (alone : Option C) → longest_front (λ word. class_of (b ∷ word)) rest ≡ found → longer found alone ≡ Some (class, n)
        → ((c : C) (k : ℕ) → found ≡ Some (c, k) → (m : ℕ) → k < m → m ≤ length rest → class_of (b ∷ take m rest) ≡ None)
        → (m : ℕ) → n < m → m ≤ length (b ∷ rest) → class_of (take m (b ∷ rest)) ≡ None
    go found alone known e ih zero more inside = absurd (omega arith)
    go (Some front) alone known e ih (suc m) more inside =
        let parts = some_parts (front.0, front.1 + 1) (class, n) e in
        ih front.0 front.1 refl m (omega arith) (omega arith)
    go None None known e ih m more inside = cc
    go None (Some c) known e ih (suc m) more inside =
        let parts = some_parts (c, 1) (class, n) e in
        front_absent (λ word. class_of (b ∷ word)) rest known m (omega arith) (omega arith)

-- of two numbers
order : (m n : ℕ) → (m < n) ⊎ ((n < m) ⊎ (m ≡ n))
order zero zero = inr (inr refl)
order zero (suc n) = inl (omega arith)
order (suc m) zero = inr (inl (omega arith))
order (suc m) (suc n) = next (order m n)
  where
    next : (m < n) ⊎ ((n < m) ⊎ (m ≡ n)) → (suc m < suc n) ⊎ ((suc n < suc m) ⊎ (suc m ≡ suc n))
    next (inl less) = inl (omega arith)
    next (inr (inl more)) = inr (inl (omega arith))
    next (inr (inr same)) = inr (inr (ap suc same))

-- What is computed is the longest front, …
pub longest_front_is : {C : Type 0} (class_of : Text → Option C) (text : Text) (class : C) (n : ℕ) → longest_front class_of text ≡ Some (class, n) → IsLongestFront class_of text class n
longest_front_is class_of text class n e =
    let sound = front_sound class_of text class n e in
    record { some = sound.0; inside = sound.1; known = sound.2; longest = front_longest class_of text class n e }

-- … and there is no other.
pub longest_front_found : {C : Type 0} (class_of : Text → Option C) (text : Text) (class : C) (n : ℕ) → IsLongestFront class_of text class n → longest_front class_of text ≡ Some (class, n)
longest_front_found {C} class_of text class n is = go (longest_front class_of text) refl
  where
    not_none : (m : ℕ) (c : C) → class_of (take m text) ≡ None → class_of (take m text) ≡ Some c → ⊥
    not_none m c e f = cc

    equal : (c : C) → longest_front class_of text ≡ Some (c, n) → ◌≡◌ {A = Option (C × ℕ)} (Some (c, n)) (Some (class, n))
    equal c e = let sound = front_sound class_of text c n e in let known = is.known in cc

    compare : (c : C) (m : ℕ) → longest_front class_of text ≡ Some (c, m) → (m < n) ⊎ ((n < m) ⊎ (m ≡ n)) → ◌≡◌ {A = Option (C × ℕ)} (Some (c, m)) (Some (class, n))
    compare c m e (inl less) = absurd (not_none n class (front_longest class_of text c m e n less is.inside) is.known)
    compare c m e (inr (inl more)) =
        let sound = front_sound class_of text c m e in
        absurd (not_none m c (is.longest m more sound.1) sound.2)
    compare c m e (inr (inr same)) = subst (λ (k : ℕ). longest_front class_of text ≡ Some (c, k) → ◌≡◌ {A = Option (C × ℕ)} (Some (c, k)) (Some (class, n))) (sym same) (equal c) e

    go : (found : Option (C × ℕ)) → longest_front class_of text ≡ found → found ≡ Some (class, n)
    go None e = absurd (not_none n class (front_absent class_of text e n is.some is.inside) is.known)
    go (Some front) e = compare front.0 front.1 e (order front.1 n)

-- There is no longest front exactly where no front has a class.
pub front_none_exactly : {C : Type 0} (class_of : Text → Option C) (text : Text) → (longest_front class_of text ≡ None) ↔ ((n : ℕ) → 1 ≤ n → n ≤ length text → class_of (take n text) ≡ None)
front_none_exactly {C} class_of text = (front_absent class_of text, λ h. go (longest_front class_of text) refl h)
  where
    not_none : (m : ℕ) (c : C) → class_of (take m text) ≡ None → class_of (take m text) ≡ Some c → ⊥
    not_none m c e f = cc

    go : (found : Option (C × ℕ)) → longest_front class_of text ≡ found → ((n : ℕ) → 1 ≤ n → n ≤ length text → class_of (take n text) ≡ None) → found ≡ None
    go None e h = refl
    go (Some front) e h =
        let sound = front_sound class_of text front.0 front.1 e in
        absurd (not_none front.1 front.0 (h front.1 sound.0 sound.1) sound.2)
