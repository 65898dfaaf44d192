-- The longest front, by the classes of the words that begin with a byte.
use Rattle.std.proofs.Common.{◌≡◌, ℕ, suc, ◌+◌, Bool, true, false, cond, [], ◌∷◌, ◌++◌, take, refl, ap, ◌∙◌, Option, Some, None, arith}
use Rattle.std.specs.List.{list_all, prefix_len}
use Rattle.std.specs.Option.{option_map}
use Rattle.starlark_grammar.specs.Words.{Text}
use Rattle.starlark_grammar.specs.Front.{longer, longest_front}
use Rattle.starlark_grammar.proofs.Words.Fronts.{front_single}

-- a front of two bytes, and else one of one byte
pub front_double : {C : Type 0} (class_of : Text → Option C) (b c : ℕ) (rest : Text) → ((d : ℕ) (word : Text) → class_of (b ∷ c ∷ d ∷ word) ≡ None) → longest_front class_of (b ∷ c ∷ rest) ≡ longer (option_map (λ class. (class, 1)) (class_of (b ∷ c ∷ []))) (class_of (b ∷ []))
unfolding longest_front
front_double class_of b c rest h = rw (front_single (λ word. class_of (b ∷ word)) c rest h) refl

-- a front of three bytes, and else one of two or one
pub front_triple : {C : Type 0} (class_of : Text → Option C) (b c d : ℕ) (rest : Text) → ((e : ℕ) (word : Text) → class_of (b ∷ c ∷ d ∷ e ∷ word) ≡ None) → longest_front class_of (b ∷ c ∷ d ∷ rest) ≡ longer (longer (option_map (λ class. (class, 1)) (class_of (b ∷ c ∷ d ∷ []))) (class_of (b ∷ c ∷ []))) (class_of (b ∷ []))
unfolding longest_front
front_triple class_of b c d rest h = rw (front_double (λ word. class_of (b ∷ word)) c d rest h) refl

pub take_after : (c : ℕ) (rest : Text) (m n : ℕ) → m ≡ suc n → take m (c ∷ rest) ≡ c ∷ take n rest
take_after c rest m n e = rw e refl

-- a run of so many bytes after the first, and perhaps one byte more
abbrev pub run_and : {C : Type 0} → Option C → C → ℕ → Option (C × ℕ)
run_and (Some class) other n = Some (class, n + 2)
run_and None other n = Some (other, n + 1)

-- of the words that begin with this byte those have a class whose other bytes pass a test, and some of which only the last byte fails it
pub front_ended : {C : Type 0} (test : ℕ → Bool) (class_of : Text → Option C) (g : Text → C) (h : Text → Option C) (b : ℕ) (rest : Text)
    → ((word : Text) → class_of (b ∷ word) ≡ cond (list_all test word) (Some (g word)) (h word))
    → ((word : Text) → list_all test word ≡ true → h word ≡ None)
    → ((front : Text) (c d : ℕ) (word : Text) → list_all test front ≡ true → test c ≡ false → h (front ++ c ∷ d ∷ word) ≡ None)
    → longest_front class_of (b ∷ rest) ≡ run_and (h (take (prefix_len test rest + 1) rest)) (g (take (prefix_len test rest) rest)) (prefix_len test rest)
unfolding longest_front
front_ended test class_of g h b [] known passing ending = rw (known [], passing [] refl) refl
front_ended {C} test class_of g h b (c ∷ rest) known passing ending = go (test c) refl (front_ended test (λ word. class_of (b ∷ word)) (λ word. g (c ∷ word)) (λ word. h (c ∷ word)) c rest)
  where
    longer_run : (found : Option C) (other : C) (n : ℕ) (alone : Option C) → longer (run_and found other n) alone ≡ run_and found other (n + 1)
    longer_run (Some class) other n alone = ap (λ k. Some (class, k)) (omega arith)
    longer_run None other n alone = refl

    longer_single : (found : Option C) (other : C) → longer (option_map (λ class. (class, 1)) found) (Some other) ≡ run_and found other 0
    longer_single (Some class) other = refl
    longer_single None other = refl

    go : (passes : Bool) → test c ≡ passes
        → (((word : Text) → class_of (b ∷ c ∷ word) ≡ cond (list_all test word) (Some (g (c ∷ word))) (h (c ∷ word)))
        → ((word : Text) → list_all test word ≡ true → h (c ∷ word) ≡ None)
        → ((front : Text) (x y : ℕ) (word : Text) → list_all test front ≡ true → test x ≡ false → h (c ∷ (front ++ x ∷ y ∷ word)) ≡ None)
        → longest_front (λ word. class_of (b ∷ word)) (c ∷ rest) ≡ run_and (h (c ∷ take (prefix_len test rest + 1) rest)) (g (c ∷ take (prefix_len test rest) rest)) (prefix_len test rest))
        → longest_front class_of (b ∷ c ∷ rest) ≡ run_and (h (take (prefix_len test (c ∷ rest) + 1) (c ∷ rest))) (g (take (prefix_len test (c ∷ rest)) (c ∷ rest))) (prefix_len test (c ∷ rest))
    go true e more =
        let inner = more (λ word. rw (known (c ∷ word), e) refl) (λ word all. passing (c ∷ word) (rw (e) all)) (λ front x y word all fails. ending (c ∷ front) x y word (rw e all) fails) in
        rw (inner, e, take_after c rest (1 + prefix_len test rest + 1) (prefix_len test rest + 1) (omega arith), take_after c rest (1 + prefix_len test rest) (prefix_len test rest) (omega arith)) (longer_run _ _ (prefix_len test rest) _ ∙ ap (run_and _ _) (omega arith))
    go false e more = rw (front_single (λ word. class_of (b ∷ word)) c rest (λ d word. rw (known (c ∷ d ∷ word), e) (ending [] c d word refl e)), known [], known (c ∷ []), e) (longer_single (h (c ∷ [])) (g []))
