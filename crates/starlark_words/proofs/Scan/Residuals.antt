-- The longest front byte by byte: what the words that go on from a byte have for classes.
use Rattle.std.proofs.Common.{◌≡◌, ℕ, zero, suc, ◌+◌, Bool, true, false, [], ◌∷◌, drop, refl, ap, sym, ◌∙◌, cond, unwrap_or, Option, Some, None, arith, one-add, add-one}
use Rattle.std.specs.List.{prefix_len, list_all}
use Rattle.std.specs.Option.{option_map, option_or}
use Rattle.starlark_grammar.specs.Words.{Text, is_run}
use Rattle.starlark_grammar.specs.Front.{longer, longest_front}
use Rattle.starlark_grammar.specs.Lengths.{longest_len}

-- so many bytes longer
abbrev pub longer_by : {C : Type 0} → ℕ → Option (C × ℕ) → Option (C × ℕ)
longer_by k None = None
longer_by k (Some front) = Some (front.0, front.1 + k)

-- a longer front goes before the empty one
abbrev pub or_empty : {C : Type 0} → Option (C × ℕ) → Option C → Option (C × ℕ)
or_empty None None = None
or_empty None (Some class) = Some (class, 0)
or_empty (Some front) empty = Some (front.0, front.1 + 1)

-- The longest front that may also be empty.
unfoldable pub front_on : {C : Type 0} → (Text → Option C) → Text → Option (C × ℕ)
front_on class_of [] = or_empty None (class_of [])
front_on class_of (b ∷ rest) = or_empty (front_on (λ word. class_of (b ∷ word)) rest) (class_of [])

-- the longest front of a text that has a first byte
pub front_first : {C : Type 0} (class_of : Text → Option C) (b : ℕ) (rest : Text) → longest_front class_of (b ∷ rest) ≡ longer_by 1 (front_on (λ word. class_of (b ∷ word)) rest)
unfolding longest_front front_on
front_first {C} class_of b [] = go (class_of (b ∷ []))
  where
    go : (alone : Option C) → longer None alone ≡ longer_by 1 (or_empty None alone)
    go None = refl
    go (Some c) = refl
front_first {C} class_of b (c ∷ rest) = rw (front_first (λ word. class_of (b ∷ word)) c rest) (go (front_on (λ word. class_of (b ∷ c ∷ word)) rest) (class_of (b ∷ [])))
  where
    go : (more : Option (C × ℕ)) (alone : Option C) → longer (longer_by 1 more) alone ≡ longer_by 1 (or_empty more alone)
    go None None = refl
    go None (Some c) = refl
    go (Some front) alone = refl

-- the longest front that may be empty, of a text that has a first byte
pub front_next : {C : Type 0} (class_of : Text → Option C) (b : ℕ) (rest : Text) → front_on class_of (b ∷ rest) ≡ or_empty (front_on (λ word. class_of (b ∷ word)) rest) (class_of [])
unfolding front_on
front_next class_of b rest = refl

-- only the classes of words matter
pub front_same : {C : Type 0} (class_of other : Text → Option C) (text : Text) → ((word : Text) → class_of word ≡ other word) → front_on class_of text ≡ front_on other text
unfolding front_on
front_same class_of other [] h = rw (h []) refl
front_same class_of other (b ∷ rest) h = rw (h [], front_same (λ word. class_of (b ∷ word)) (λ word. other (b ∷ word)) rest (λ word. h (b ∷ word))) refl

-- no word has a class
pub front_never : {C : Type 0} (class_of : Text → Option C) (text : Text) → ((word : Text) → class_of word ≡ None) → front_on class_of text ≡ None
unfolding front_on
front_never class_of [] h = rw (h []) refl
front_never class_of (b ∷ rest) h = rw (h [], front_never (λ word. class_of (b ∷ word)) rest (λ word. h (b ∷ word))) refl

-- no word goes on with the text's next byte
pub front_stops : {C : Type 0} (class_of : Text → Option C) (b : ℕ) (rest : Text) → ((word : Text) → class_of (b ∷ word) ≡ None) → front_on class_of (b ∷ rest) ≡ or_empty None (class_of [])
unfolding front_on
front_stops class_of b rest h = rw (front_never (λ word. class_of (b ∷ word)) rest h) refl

-- a class of the empty word is found at least
pub front_some : {C : Type 0} (class_of : Text → Option C) (text : Text) (class : C) → class_of [] ≡ Some class → front_on class_of text ≡ None → ⊥
unfolding front_on
front_some class_of [] class h none = cc
front_some {C} class_of (b ∷ rest) class h none = go (front_on (λ word. class_of (b ∷ word)) rest) (class_of []) h none
  where
    go : (more : Option (C × ℕ)) (alone : Option C) → alone ≡ Some class → or_empty more alone ≡ None → ⊥
    go None None e n = cc
    go None (Some c) e n = cc
    go (Some front) alone e n = cc

-- Bytes that change no class are passed over.
pub front_passes : {C : Type 0} (class_of : Text → Option C) (b : ℕ) (rest : Text) → ((word : Text) → class_of (b ∷ word) ≡ class_of word) → front_on class_of (b ∷ rest) ≡ longer_by 1 (front_on class_of rest)
unfolding front_on
front_passes {C} class_of b rest h = rw (front_same (λ word. class_of (b ∷ word)) class_of rest h) (go (front_on class_of rest) (class_of []) refl (front_some class_of rest))
  where
    go : (more : Option (C × ℕ)) (alone : Option C) → class_of [] ≡ alone → ((class : C) → class_of [] ≡ Some class → more ≡ None → ⊥) → or_empty more alone ≡ longer_by 1 more
    go None None e found = refl
    go None (Some c) e found = absurd (found c e refl)
    go (Some front) alone e found = refl

pub longer_by_more : {C : Type 0} (m n : ℕ) (front : Option (C × ℕ)) → longer_by m (longer_by n front) ≡ longer_by (n + m) front
longer_by_more m n None = refl
longer_by_more m n (Some front) = ap (λ k. Some (front.0, k)) (omega arith)

pub longer_by_none : {C : Type 0} (front : Option (C × ℕ)) → longer_by 0 front ≡ front
longer_by_none None = refl
longer_by_none (Some front) = ap (λ k. Some (front.0, k)) (omega arith)

-- AfterComments a first byte with which no word ends, the words are those that go on.
pub front_into : {C : Type 0} (class_of next : Text → Option C) (b : ℕ) (rest : Text) → ((word : Text) → class_of (b ∷ word) ≡ next word) → class_of [] ≡ None → front_on class_of (b ∷ rest) ≡ longer_by 1 (front_on next rest)
unfolding front_on
front_into {C} class_of next b rest h empty = rw (front_same (λ word. class_of (b ∷ word)) next rest h, empty) (go (front_on next rest))
  where
    go : (more : Option (C × ℕ)) → or_empty more None ≡ longer_by 1 more
    go None = refl
    go (Some front) = refl

-- A run of bytes that change no class is passed over.
pub front_run : {C : Type 0} (test : ℕ → Bool) (class_of : Text → Option C) (text : Text) → ((b : ℕ) (word : Text) → test b ≡ true → class_of (b ∷ word) ≡ class_of word) → front_on class_of text ≡ longer_by (prefix_len test text) (front_on class_of (drop (prefix_len test text) text))
front_run test class_of [] h = sym (longer_by_none (front_on class_of []))
front_run test class_of (b ∷ rest) h = go (test b) refl (front_run test class_of rest h)
  where
    go : (passes : Bool) → test b ≡ passes
        → front_on class_of rest ≡ longer_by (prefix_len test rest) (front_on class_of (drop (prefix_len test rest) rest))
        → front_on class_of (b ∷ rest) ≡ longer_by (prefix_len test (b ∷ rest)) (front_on class_of (drop (prefix_len test (b ∷ rest)) (b ∷ rest)))
    go true e more = rw (e, front_passes class_of b rest (λ word. h b word e), one-add) (ap (longer_by 1) more ∙ longer_by_more 1 (prefix_len test rest) (front_on class_of (drop (prefix_len test rest) rest)) ∙ rw add-one refl)
    go false e more = rw e (sym (longer_by_none (front_on class_of (b ∷ rest))))

-- the front that may be empty is the longest front, and else the empty one
pub front_on_longest : {C : Type 0} (class_of : Text → Option C) (text : Text) → front_on class_of text ≡ option_or (longest_front class_of text) (option_map (λ class. (class, 0)) (class_of []))
unfolding longest_front front_on
front_on_longest {C} class_of [] = go (class_of [])
  where
    go : (empty : Option C) → or_empty None empty ≡ option_or None (option_map (λ class. (class, 0)) empty)
    go None = refl
    go (Some c) = refl
front_on_longest {C} class_of (b ∷ rest) = rw (front_first class_of b rest) (go (front_on (λ word. class_of (b ∷ word)) rest) (class_of []))
  where
    go : (more : Option (C × ℕ)) (empty : Option C) → or_empty more empty ≡ option_or (longer_by 1 more) (option_map (λ class. (class, 0)) empty)
    go None None = refl
    go None (Some c) = refl
    go (Some front) empty = refl

-- of the empty text only the empty word is a front
pub front_end : {C : Type 0} (class_of : Text → Option C) → front_on class_of [] ≡ or_empty None (class_of [])
unfolding front_on
front_end class_of = refl

-- The words of a run that may be empty.
pub front_of_run : {C : Type 0} (test : ℕ → Bool) (class : C) (text : Text) → front_on (λ word. cond (list_all test word) (Some class) None) text ≡ Some (class, prefix_len test text)
front_of_run test class [] = front_end (λ word. cond (list_all test word) (Some class) None)
front_of_run {C} test class (b ∷ rest) = go (test b) refl (front_of_run test class rest)
  where
    run : Text → Option C
    run word = cond (list_all test word) (Some class) None

    go : (passes : Bool) → test b ≡ passes → front_on run rest ≡ Some (class, prefix_len test rest) → front_on run (b ∷ rest) ≡ Some (class, prefix_len test (b ∷ rest))
    go true e more = rw (front_passes run b rest (λ word. rw e refl), more, e, one-add, add-one) refl
    go false e more = rw (front_stops run b rest (λ word. rw e refl), e) refl

-- so many bytes of a class, if there are any
abbrev pub if_some : {C : Type 0} → C → ℕ → Option (C × ℕ)
if_some class zero = None
if_some class (suc n) = Some (class, suc n)

-- The words of a run of one byte or more.
pub front_of_some : {C : Type 0} (test : ℕ → Bool) (class : C) (text : Text) → front_on (λ word. cond (is_run test word) (Some class) None) text ≡ if_some class (prefix_len test text)
front_of_some test class [] = front_end (λ word. cond (is_run test word) (Some class) None)
front_of_some {C} test class (b ∷ rest) = go (test b) refl
  where
    run : Text → Option C
    run word = cond (is_run test word) (Some class) None

    go : (passes : Bool) → test b ≡ passes → front_on run (b ∷ rest) ≡ if_some class (prefix_len test (b ∷ rest))
    go true e = rw (front_into run (λ word. cond (list_all test word) (Some class) None) b rest (λ word. rw e refl) refl, front_of_run test class rest, e, one-add, add-one) refl
    go false e = rw (front_stops run b rest (λ word. rw e refl), e) refl

-- the words that pass a test
abbrev pub if_passes : {C : Type 0} → C → (Text → Bool) → Text → Option C
if_passes class test word = cond (test word) (Some class) None

-- The longest front that passes a test, from its length.
pub front_of_test : {C : Type 0} (class : C) (test : Text → Bool) (text : Text) → longest_front (if_passes class test) text ≡ if_some class (longest_len test text)
unfolding longest_front longest_len
front_of_test class test [] = refl
front_of_test {C} class test (b ∷ rest) =
    go (longest_len (λ word. test (b ∷ word)) rest) (longest_front (if_passes class (λ word. test (b ∷ word))) rest) (longest_front (if_passes {C = ℕ} 0 (λ word. test (b ∷ word))) rest)
    (test (b ∷ [])) (front_of_test class (λ word. test (b ∷ word)) rest) (front_of_test {C = ℕ} 0 (λ word. test (b ∷ word)) rest)
  where
    go : (n : ℕ) (more : Option (C × ℕ)) (plain : Option (ℕ × ℕ)) (alone : Bool) → more ≡ if_some class n → plain ≡ if_some {C = ℕ} 0 n
        → longer more (cond alone (Some class) None) ≡ if_some class (unwrap_or (option_map (λ (front : ℕ × ℕ). front.1) (longer plain (cond alone (Some 0) None))) 0)
    go zero more plain true e f = rw (e, f) refl
    go zero more plain false e f = rw (e, f) refl
    go (suc n) more plain alone e f = rw (e, f, add-one) refl

-- the length from the front
pub len_of_test : {C : Type 0} (class : C) (test : Text → Bool) (text : Text) (n : ℕ) → longest_front (if_passes class test) text ≡ if_some class n → longest_len test text ≡ n
len_of_test {C} class test text n e = go (longest_len test text) n (sym (front_of_test class test text) ∙ e)
  where
    go : (m n : ℕ) → ◌≡◌ {A = Option (C × ℕ)} (if_some class m) (if_some class n) → m ≡ n
    go zero zero e = refl
    go zero (suc n) e = cc
    go (suc m) zero e = cc
    go (suc m) (suc n) e = ap (λ (found : Option (C × ℕ)). unwrap_or (option_map (λ (front : C × ℕ). front.1) found) 0) e
