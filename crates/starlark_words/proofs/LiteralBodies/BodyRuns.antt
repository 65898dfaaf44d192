-- A body after a run.
use Rattle.std.proofs.Math.Utf8.{encode, encodes, scalar, scalars, scalar_cases}
use Rattle.std.proofs.Common.{◌≡◌, ◌⊎◌, inl, inr, ℕ, ◌+◌, ◌≤◌, ◌<◌, ◌==◌, ◌&&◌, ◌||◌, Bool, true, false, not, nat_eq, List, [], ◌∷◌, ◌++◌, length, take, drop, refl, ap, ◌∙◌, sym, subst, one-add, arith}
use Rattle.std.proofs.lemmas.Bool.{and_parts, not-true}
use Rattle.std.proofs.lemmas.Bool.Decides.{nat_tests}
use Rattle.std.proofs.lemmas.List.{append_assoc, length-append, length-drop, take-append-drop, drop_at}
use Rattle.std.proofs.lemmas.List.Folds.{list_all-append}
use Rattle.std.proofs.lemmas.Str.{IsUtf8-drop, IsUtf8-take, length-encode, len_utf8_bounds}
use Rattle.std.specs.Prelude.{if◌then◌else◌}
use Rattle.std.specs.List.{list_all, prefix_len, starts_with}
use Rattle.std.specs.Str.{IsCharBoundary, IsUtf8}
use Rattle.starlark_grammar.specs.FrontCharacter.{first_character}
use Rattle.starlark_grammar.specs.Words.{Text}
use Rattle.starlark_grammar.specs.declared.class.Quote.{Quote}
use Rattle.starlark_grammar.specs.Items.{Literal, Item, goes, closing_quotes, found_at, is_brace, quote_byte, body_at, body_value}
use Rattle.starlark_words.specs.Inner.PlainRuns.{is_in_run, is_special}
use Rattle.starlark_words.proofs.LiteralBodies.BodySteps.{IsFront, front_more, front_none}
use Rattle.starlark_grammar.proofs.Order.Edges.{encoded}
use Rattle.starlark_grammar.proofs.Lists.{drop-sum}
use Rattle.starlark_words.proofs.LiteralBodies.RunBytes.{run_edge}

-- what each test of a special byte says where it fails
pub record IsOther (literal : Literal) (b : ℕ) : Type 0 where
  pub quote : (b == quote_byte literal.opening.quote) ≡ false
  pub backslash : (b == 92) ≡ false
  pub return : (b == 13) ≡ false
  pub line : (b == 10 && not literal.opening.is_triple) ≡ false
  pub brace : is_brace literal.kind b ≡ false

pub others : (literal : Literal) (b : ℕ) → is_in_run literal b ≡ true → IsOther literal b
others literal b h = go _ _ _ _ _ refl refl refl refl refl (not-true (is_special literal b) h)
  where
    go : (q s r l c : Bool) → (b == quote_byte literal.opening.quote) ≡ q → (b == 92) ≡ s → (b == 13) ≡ r → (b == 10 && not literal.opening.is_triple) ≡ l → is_brace literal.kind b ≡ c
        → is_special literal b ≡ false → IsOther literal b
    go q s r l c e f g k m h =
        let all : (q || (s || (r || (l || c)))) ≡ false = rw (sym e, sym f, sym g, sym k, sym m) h in
        record { quote = e ∙ grind (arith, all); backslash = f ∙ grind (arith, all); return = g ∙ grind (arith, all); line = k ∙ grind (arith, all); brace = m ∙ grind (arith, all) }

-- another byte than its quote closes no literal
stays : (literal : Literal) (b : ℕ) (bs : Text) → (b == quote_byte literal.opening.quote) ≡ false → starts_with nat_eq (b ∷ bs) (closing_quotes literal.opening) ≡ false
stays literal b bs h = go literal.opening.is_triple literal.opening.quote h
  where
    flipped : (q : ℕ) → (b == q) ≡ false → nat_eq q b ≡ false
    flipped q h = grind (arith, nat_tests)

    go : (triple : Bool) (quote : Quote) → (b == quote_byte quote) ≡ false → starts_with nat_eq (b ∷ bs) (closing_quotes (record { is_raw = literal.opening.is_raw; quote = quote; is_triple = triple })) ≡ false
    go true quote h = rw (flipped (quote_byte quote) h) refl
    go false quote h = rw (flipped (quote_byte quote) h) refl

-- a byte of a run begins a character that denotes itself
run_item : (literal : Literal) (b : ℕ) (bs : Text) → is_in_run literal b ≡ true → found_at literal (b ∷ bs) ≡ goes (length (first_character (b ∷ bs))) (first_character (b ∷ bs))
unfolding found_at
run_item literal b bs h =
    let other = others literal b h in
    rw (stays literal b bs other.quote, other.line, other.return, other.backslash, other.brace) refl

-- a front, and one of what is left after it
pub front_after : (literal : Literal) (text : Text) (n m : ℕ) (first second : Text) → IsFront literal text n first → IsFront literal (drop n text) m second → IsFront literal text (n + m) (first ++ second)
front_after literal text n m first second front more =
    let rest : drop (n + m) text ≡ drop m (drop n text) = drop-sum n m text in
    record {
      inside = omega (arith, front.inside, more.inside, length-drop n text);
      len = rw rest (omega (arith, front.len, more.len));
      value = rw rest (append_assoc first second (body_value (body_at literal (drop m (drop n text)))) ∙ ap (λ (t : Text). first ++ t) more.value ∙ front.value);
      stop = rw rest (more.stop ∙ front.stop);
    }

-- a character whose bytes are of a run
character_front : (literal : Literal) (c : ℕ) (rest : Text) → c < 1114112 → list_all (is_in_run literal) (encode c) ≡ true → IsFront literal (encode c ++ rest) (length (encode c)) (encode c)
character_front literal c rest small all = go (encode c) refl all
  where
    item : Item
    item = record { len = length (encode c); value = encode c }

    none_more : 0 + length (encode c) ≡ length (encode c)
    none_more = omega arith

    found : found_at literal (encode c ++ rest) ≡ goes (length (first_character (encode c ++ rest))) (first_character (encode c ++ rest)) → IsFront literal (encode c ++ rest) (length (encode c)) (encode c)
    found e = subst (λ n. IsFront literal (encode c ++ rest) n (encode c)) none_more (front_more literal (encode c ++ rest) 0 [] item (front_none literal (encode c ++ rest)) (e ∙ ap (λ (t : Text). goes (length t) t) (encoded c rest small)))

    go : (bytes : Text) → encode c ≡ bytes → list_all (is_in_run literal) bytes ≡ true → IsFront literal (encode c ++ rest) (length (encode c)) (encode c)
    go [] e all = absurd (omega (arith, ap (λ (t : Text). length t) e, length-encode c, (len_utf8_bounds c).0))
    go (b ∷ bs) e all =
        let first : is_in_run literal b ≡ true = (and_parts (is_in_run literal b) (list_all (is_in_run literal) bs) all).0 in
        found (subst (λ (t : Text). found_at literal (t ++ rest) ≡ goes (length (first_character (t ++ rest))) (first_character (t ++ rest))) (sym e) (run_item literal b (bs ++ rest) first))

-- characters whose bytes are of a run
characters_front : (literal : Literal) (cs : List ℕ) (rest : Text) → scalars cs ≡ true → list_all (is_in_run literal) (encodes cs) ≡ true → IsFront literal (encodes cs ++ rest) (length (encodes cs)) (encodes cs)
characters_front literal [] rest s all = front_none literal rest
characters_front literal (c ∷ cs) rest s all =
    let parts = and_parts (scalar c) (scalars cs) s in
    let bytes = and_parts (list_all (is_in_run literal) (encode c)) (list_all (is_in_run literal) (encodes cs)) (sym (list_all-append (is_in_run literal) (encode c) (encodes cs)) ∙ all) in
    let nested : (encode c ++ encodes cs) ++ rest ≡ encode c ++ (encodes cs ++ rest) = append_assoc (encode c) (encodes cs) rest in
    let remainder : drop (length (encode c)) (encode c ++ (encodes cs ++ rest)) ≡ encodes cs ++ rest = drop_at (encode c) (encodes cs ++ rest) (length (encode c)) refl in
    let first = character_front literal c (encodes cs ++ rest) (in_range (scalar_cases c parts.0)) bytes.0 in
    let more = subst (λ (t : Text). IsFront literal t (length (encodes cs)) (encodes cs)) (sym remainder) (characters_front literal cs rest parts.1 bytes.1) in
    let whole = front_after literal (encode c ++ (encodes cs ++ rest)) (length (encode c)) (length (encodes cs)) (encode c) (encodes cs) first more in
    subst (λ n. IsFront literal ((encode c ++ encodes cs) ++ rest) n (encode c ++ encodes cs)) (sym (length-append (encode c) (encodes cs)))
    (subst (λ (t : Text). IsFront literal t (length (encode c) + length (encodes cs)) (encode c ++ encodes cs)) (sym nested) whole)
  where
    in_range : (c < 55296) ⊎ ((57344 ≤ c) × (c < 1114112)) → c < 1114112
    in_range (inl h) = omega (arith, h)
    in_range (inr h) = h.1

-- the bytes of a run pass its test
pub run_all : (p : ℕ → Bool) (xs : Text) → list_all p (take (prefix_len p xs) xs) ≡ true
run_all p [] = refl
run_all p (x ∷ xs) = go (p x) refl (run_all p xs)
  where
    go : (passes : Bool) → p x ≡ passes → list_all p (take (prefix_len p xs) xs) ≡ true → list_all p (take (if passes then 1 + prefix_len p xs else 0) (x ∷ xs)) ≡ true
    go false e more = refl
    go true e more = rw (one-add, e) more

-- The bytes at the front of a body denote themselves if all are of a run.
pub bytes_front : (literal : Literal) (text run : Text) (len : ℕ) → IsUtf8 text → IsCharBoundary text len → run ≡ take len text → list_all (is_in_run literal) run ≡ true → IsFront literal text (length run) run
bytes_front literal text run len utf8 boundary same all =
    let split : run ++ drop len text ≡ text = ap (λ (t : Text). t ++ drop len text) same ∙ take-append-drop len text in
    let characters : IsUtf8 run = subst (λ (t : Text). IsUtf8 t) (sym same) (IsUtf8-take text len utf8 boundary) in
    subst (λ (t : Text). IsFront literal t (length run) run) split
    (subst (λ (t : Text). IsFront literal (t ++ drop len text) (length t) t) characters.1.1
    (characters_front literal characters.0 (drop len text) characters.1.0 (subst (λ (t : Text). list_all (is_in_run literal) t ≡ true) (sym characters.1.1) all)))

-- So does the run there.
pub run_front : (literal : Literal) (text run : Text) → IsUtf8 text → run ≡ take (prefix_len (is_in_run literal) text) text → IsFront literal text (length run) run
run_front literal text run utf8 same =
    bytes_front literal text run (prefix_len (is_in_run literal) text) utf8 (run_edge literal text) same (subst (λ (t : Text). list_all (is_in_run literal) t ≡ true) (sym same) (run_all (is_in_run literal) text))

-- a front, and the run after it
pub front_run : (literal : Literal) (text rest : Text) (count : ℕ) (denoted run : Text) → IsUtf8 text → IsCharBoundary text count → IsFront literal text count denoted → rest ≡ drop count text → run ≡ take (prefix_len (is_in_run literal) rest) rest
    → IsFront literal text (count + length run) (denoted ++ run)
front_run literal text rest count denoted run utf8 boundary front remainder same =
    front_after literal text count (length run) denoted run front
    (run_front literal (drop count text) run (IsUtf8-drop text count utf8 boundary) (same ∙ ap (λ (t : Text). take (prefix_len (is_in_run literal) t) t) remainder))
