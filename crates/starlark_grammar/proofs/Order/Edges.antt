-- Where a text may be cut between characters.
use Rattle.std.specs.Map.{lookup}
use Rattle.std.specs.Str.Parse.{digits_value}
use Rattle.std.proofs.Math.Utf8.{encode, encodes, scalar, scalars, scalar_cases}
use Rattle.std.proofs.lemmas.Bool.Decides.{nat_tests}
use Rattle.std.proofs.Common.{◌≡◌, ℕ, zero, suc, ◌+◌, ◌-◌, ◌≤◌, ◌<◌, Bool, true, false, cond, not, List, [], ◌∷◌, ◌++◌, length, take, drop, get_or, refl, ap, ◌∙◌, sym, subst, Option, Some, None, arith, nat_eq, ◌⊎◌, inl, inr, one-add, ◌/◌}
use Rattle.std.specs.Prelude.{⊤, ◌==◌, ◌&&◌, if◌then◌else◌, nat_lt, map}
use Rattle.std.specs.Char.{is_ascii, is_ascii_hexdigit, len_utf8}
use Rattle.std.specs.List.{prefix_len, starts_with, AllByRecursion}
use Rattle.std.specs.Str.{byte, IsUtf8, IsAscii, IsCharBoundary, continuation_len}
use Rattle.std.proofs.lemmas.Bool.{and_parts, eqb-true, ltb-true, lt-ltb, le-ltb, cases_lt}
use Rattle.std.proofs.lemmas.List.{length-append, length-drop, take-append-drop, get_or-drop, length-take-le}
use Rattle.std.proofs.Math.Seq.{take-append_seam}
use Rattle.std.proofs.lemmas.List.Sums.{sum_by-cons}
use Rattle.std.proofs.lemmas.Slice.Eq.{bytes_eq-Decides}
use Rattle.std.proofs.lemmas.Str.{IsCharBoundary-before_ascii, IsCharBoundary-from_take, IsCharBoundary-from_rest, IsUtf8-drop, IsUtf8-from_ascii, IsCharBoundary-end, IsCharBoundary-past_char, length-encode}
use Rattle.starlark_grammar.specs.Words.{Text, Quote, SingleQuote, DoubleQuote, Kind, OfText, OfBytes, OfFString, is_octal_digit}
use Rattle.starlark_grammar.specs.Tokens.{Opening, Lexeme, moved}
use Rattle.starlark_grammar.specs.Items.{Literal, Item, Stop, Closing, Line, Ended, OpeningBrace, ClosingBrace, BadEscape, Found, Goes, Stops, closing_quotes, quote_byte, broken, numbered, is_character, hexadecimal, octal, escaped_newline, simple, simple_escapes, escape, raw_pair, brace, found_at, Body, body_len, body_onward, body_from, body_at, is_brace, is_of_bytes}
use Rattle.starlark_grammar.specs.FrontCharacter.{first_character}
use Rattle.starlark_grammar.specs.Laws.{AtBoundaries}
use Rattle.starlark_grammar.proofs.ClosingQuotes.{quotes_hold}
use Rattle.starlark_grammar.proofs.Lists.{drop-sum, drop-remainder}
use Rattle.starlark_grammar.proofs.Literals.Bodies.{FoundFits, found_fits}
use Rattle.starlark_grammar.proofs.Words.Bytes.{is_plain}
use Rattle.starlark_grammar.proofs.Choices.{either, when}

plain_ascii : (text : Text) → is_plain text ≡ true → IsAscii text
plain_ascii [] h i = omega arith
plain_ascii (b ∷ bs) h zero = let parts = and_parts (is_ascii b) (is_plain bs) h in ltb-true b 128 parts.0
plain_ascii (b ∷ bs) h (suc i) = let parts = and_parts (is_ascii b) (is_plain bs) h in plain_ascii bs parts.1 i

-- after a front of ASCII
pub after_plain : (text front rest : Text) → IsUtf8 text → text ≡ front ++ rest → is_plain front ≡ true → IsCharBoundary text (length front)
after_plain text front rest utf8 e plain =
    let taken : take (length front) text ≡ front = ap (take (length front)) e ∙ take-append_seam front rest in
    let len : length text ≡ length front + length rest = ap (λ (t : Text). length t) e ∙ length-append front rest in
    IsCharBoundary-from_take text (length front) utf8 (omega (arith, len)) (subst (λ (t : Text). IsUtf8 t) (sym taken) (IsUtf8-from_ascii front (plain_ascii front plain)))

-- before a byte of ASCII
pub before_byte : (text : Text) (at b : ℕ) (rest : Text) → drop at text ≡ b ∷ rest → b < 128 → IsCharBoundary text at
before_byte text at b rest e small =
    let len : length (drop at text) ≡ suc (length rest) = ap (λ (t : Text). length t) e in
    let same : get_or text at 0 ≡ b = ap (λ n. get_or text n 0) zero_more ∙ sym (get_or-drop at text 0 0) ∙ ap (λ (t : Text). get_or t 0 0) e in
    IsCharBoundary-before_ascii text at (omega (arith, len, length-drop at text)) (omega (arith, same, small))
  where
    zero_more : at ≡ at + 0
    zero_more = omega arith

-- a boundary of what is left after one is a boundary
pub boundary_shift : (text : Text) (at n : ℕ) → IsCharBoundary text at → IsCharBoundary (drop at text) n → IsCharBoundary text (at + n)
boundary_shift text at n here more = IsCharBoundary-from_rest text at n here.0 more

pub edges_append : (text : Text) (xs ys : List Lexeme) → AllByRecursion (AtBoundaries text) xs → AllByRecursion (AtBoundaries text) ys → AllByRecursion (AtBoundaries text) (xs ++ ys)
edges_append text [] ys h k = k
edges_append text (x ∷ xs) ys h k = (h.0, edges_append text xs ys h.1 k)

pub edges_shift : (text : Text) (at : ℕ) (xs : List Lexeme) → IsCharBoundary text at → AllByRecursion (AtBoundaries (drop at text)) xs → AllByRecursion (AtBoundaries text) (map (moved at) xs)
edges_shift text at [] here h = tt
edges_shift text at (x ∷ xs) here h = ((boundary_shift text at x.begin here h.0.0, boundary_shift text at x.end here h.0.1), edges_shift text at xs here h.1)

-- a text that begins with another
pub starts_split : (text needle : Text) → starts_with nat_eq text needle ≡ true → text ≡ needle ++ drop (length needle) text
starts_split text needle h =
    let same : needle ≡ take (length needle) text = (bytes_eq-Decides needle (take (length needle) text)).0 h in
    sym (take-append-drop (length needle) text) ∙ ap (λ (t : Text). t ++ drop (length needle) text) (sym same)

-- Characters

lead : (a : ℕ) (bs rest : Text) → continuation_len a ≡ length bs → first_character (a ∷ (bs ++ rest)) ≡ a ∷ bs
lead a bs rest e = ap (λ n. a ∷ take n (bs ++ rest)) e ∙ ap (λ (t : Text). a ∷ t) (take-append_seam bs rest)

-- How many bytes follow a first byte of two, three or four bytes.
pub two_bytes : (a : ℕ) → 192 ≤ a → a < 224 → continuation_len a ≡ 1
two_bytes a h k = rw (le-ltb a 128 (omega (arith, h)), lt-ltb a 224 k) refl

pub three_bytes : (a : ℕ) → 224 ≤ a → a < 240 → continuation_len a ≡ 2
three_bytes a h k = rw (le-ltb a 128 (omega (arith, h)), le-ltb a 224 h, lt-ltb a 240 k) refl

pub four_bytes : (a : ℕ) → 240 ≤ a → continuation_len a ≡ 3
four_bytes a h = rw (le-ltb a 128 (omega (arith, h)), le-ltb a 224 (omega (arith, h)), le-ltb a 240 h) refl

pub encoded : (c : ℕ) (rest : Text) → c < 1114112 → first_character (encode c ++ rest) ≡ encode c
unfolding encode
encoded c rest small = go (cases_lt c 128) (cases_lt c 2048) (cases_lt c 65536)
  where
    one : c < 128 → continuation_len c ≡ 0
    one h = rw (lt-ltb c 128 h) refl

    go : (c < 128) ⊎ (128 ≤ c) → (c < 2048) ⊎ (2048 ≤ c) → (c < 65536) ⊎ (65536 ≤ c) → first_character (encode c ++ rest) ≡ encode c
    go (inl h) k m = rw (lt-ltb c 128 h) (lead c [] rest (one h))
    go (inr h) (inl k) m = rw (le-ltb c 128 h, lt-ltb c 2048 k) (lead (192 + c / 64) _ rest (two_bytes (192 + c / 64) (omega arith) (omega (arith, k))))
    go (inr h) (inr k) (inl m) = rw (le-ltb c 128 h, le-ltb c 2048 k, lt-ltb c 65536 m) (lead (224 + c / 4096) _ rest (three_bytes (224 + c / 4096) (omega arith) (omega (arith, m))))
    go (inr h) (inr k) (inr m) = rw (le-ltb c 128 h, le-ltb c 2048 k, le-ltb c 65536 m) (lead (240 + c / 262144) _ rest (four_bytes (240 + c / 262144) (omega arith)))

-- after the first character
pub character_edge : (text : Text) → IsUtf8 text → IsCharBoundary text (length (first_character text))
character_edge text utf8 = go utf8.0 utf8.1.0 utf8.1.1
  where
    go : (cs : List ℕ) → scalars cs ≡ true → encodes cs ≡ text → IsCharBoundary text (length (first_character text))
    go [] s e = subst (λ (t : Text). IsCharBoundary t (length (first_character t))) e (IsCharBoundary-end [])
    go (c ∷ cs) s e =
        let parts = and_parts (scalar c) (scalars cs) s in
        let small : c < 1114112 = in_range (scalar_cases c parts.0) in
        let first : length (first_character text) ≡ 0 + len_utf8 c = ap (λ (t : Text). length (first_character t)) (sym e) ∙ ap (λ (t : Text). length t) (encoded c (encodes cs) small) ∙ length-encode c ∙ omega arith in
        subst (IsCharBoundary text) (sym first) (IsCharBoundary-past_char text (encodes cs) 0 c (omega arith) utf8 (sym e))
      where
        in_range : (c < 55296) ⊎ ((57344 ≤ c) × (c < 1114112)) → c < 1114112
        in_range (inl h) = omega (arith, h)
        in_range (inr h) = h.1

-- Stops

-- what stands at a stop; a bad escape and its last character end between characters
abbrev pub StopAt : Opening → Text → Stop → Type 0
StopAt opening text Closing = text ≡ closing_quotes opening ++ drop (length (closing_quotes opening)) text
StopAt opening text OpeningBrace = (rest : Text) × (text ≡ byte "{" ∷ rest)
StopAt opening text ClosingBrace = (rest : Text) × (text ≡ byte "}" ∷ rest)
StopAt opening text Line = (rest : Text) × (text ≡ byte "\n" ∷ rest)
StopAt opening text Ended = ⊤
StopAt opening text (BadEscape read last) = (rest : Text) × (text ≡ byte "\\" ∷ rest) × (IsUtf8 text → IsCharBoundary text read × IsCharBoundary text (read - last))

abbrev FoundAt : Opening → Text → Found → Type 0
FoundAt opening text (Goes item) = ⊤
FoundAt opening text (Stops stop) = StopAt opening text stop

plain_take : (n : ℕ) (text : Text) → is_plain text ≡ true → is_plain (take n text) ≡ true
plain_take zero text h = refl
plain_take (suc n) [] h = refl
plain_take (suc n) (b ∷ bs) h = let parts = and_parts (is_ascii b) (is_plain bs) h in rw (parts.0) (plain_take n bs parts.1)

pub plain_end : (text : Text) (n : ℕ) → IsUtf8 text → n ≤ length text → is_plain (take n text) ≡ true → IsCharBoundary text n
plain_end text n utf8 inside h = subst (IsCharBoundary text) (length-take-le n text inside) (after_plain text (take n text) (drop n text) utf8 (sym (take-append-drop n text)) h)

-- a front of a front
take_less : (n m : ℕ) (text : Text) → n ≤ m → take n (take m text) ≡ take n text
take_less zero m text h = refl
take_less (suc n) zero text h = absurd (omega (arith, h))
take_less (suc n) (suc m) [] h = refl
take_less (suc n) (suc m) (b ∷ bs) h = ap (λ (t : Text). b ∷ t) (take_less n m bs (omega (arith, h)))

-- so many bytes of ASCII of an escape, and the character after them
abbrev Good : Text → ℕ → Type 0
Good tail good = (1 ≤ good) × (good ≤ suc (length tail)) × (is_plain (take good (92 ∷ tail)) ≡ true)

broken_end : (opening : Opening) (tail : Text) (good : ℕ) → Good tail good → StopAt opening (92 ∷ tail) (BadEscape good 1)
broken_end opening tail good h =
    let some = h.0 in
    let inside = h.1 in
    let less : is_plain (take (good - 1) (92 ∷ tail)) ≡ true = subst (λ (t : Text). is_plain t ≡ true) (take_less (good - 1) good (92 ∷ tail) (omega arith)) (plain_take (good - 1) (take good (92 ∷ tail)) h.2) in
    (tail, refl, λ utf8. (plain_end (92 ∷ tail) good utf8 inside h.2, plain_end (92 ∷ tail) (good - 1) utf8 (omega (arith, inside)) less))

broken_at : (opening : Opening) (tail : Text) (good : ℕ) (remainder : Text) → Good tail good → drop good (92 ∷ tail) ≡ remainder → FoundAt opening (92 ∷ tail) (broken good remainder)
broken_at opening tail good [] h e = broken_end opening tail good h
broken_at opening tail good (b ∷ bs) h e = (tail, refl, λ utf8. (last utf8, subst (IsCharBoundary (92 ∷ tail)) first (here utf8)))
  where
    k : ℕ
    k = length (first_character (b ∷ bs))

    here : IsUtf8 (92 ∷ tail) → IsCharBoundary (92 ∷ tail) good
    here utf8 = plain_end (92 ∷ tail) good utf8 h.1 h.2

    first : good ≡ good + k - k
    first = omega arith

    last : IsUtf8 (92 ∷ tail) → IsCharBoundary (92 ∷ tail) (good + k)
    last utf8 = boundary_shift (92 ∷ tail) good k (here utf8) (subst (λ (t : Text). IsCharBoundary t k) (sym e) (character_edge (b ∷ bs) (subst (λ (t : Text). IsUtf8 t) e (IsUtf8-drop (92 ∷ tail) good utf8 (here utf8)))))

numbered_at : (opening : Opening) (tail : Text) (len : ℕ) (is_byte : Bool) (n : ℕ) → Good tail len → FoundAt opening (92 ∷ tail) (numbered len is_byte n)
numbered_at opening tail len true n h = either (FoundAt opening (92 ∷ tail)) (nat_lt n 256) _ _ tt (broken_end opening tail len h)
numbered_at opening tail len false n h = either (FoundAt opening (92 ∷ tail)) (is_character n) _ _ tt (broken_end opening tail len h)

-- a run of digits
pub digits_run : (p : ℕ → Bool) (wanted : ℕ) (text : Text) → ((b : ℕ) → p b ≡ true → is_ascii b ≡ true) → (prefix_len p (take wanted text) ≤ length text) × (is_plain (take (prefix_len p (take wanted text)) text) ≡ true)
digits_run p zero text h = (omega arith, refl)
digits_run p (suc wanted) [] h = (omega arith, refl)
digits_run p (suc wanted) (b ∷ bs) h = go (p b) refl (digits_run p wanted bs h)
  where
    go : (passes : Bool) → p b ≡ passes → (prefix_len p (take wanted bs) ≤ length bs) × (is_plain (take (prefix_len p (take wanted bs)) bs) ≡ true)
        → (cond passes (1 + prefix_len p (take wanted bs)) 0 ≤ suc (length bs)) × (is_plain (take (cond passes (1 + prefix_len p (take wanted bs)) 0) (b ∷ bs)) ≡ true)
    go false e more = (omega arith, refl)
    go true e more =
        let inside = more.0 in
        let front : take (1 + prefix_len p (take wanted bs)) (b ∷ bs) ≡ b ∷ take (prefix_len p (take wanted bs)) bs = rw one-add refl in
        (omega (arith, inside), subst (λ (t : Text). is_plain t ≡ true) (sym front) (rw (h b e) more.1))

pub hex_plain : (b : ℕ) → is_ascii_hexdigit b ≡ true → is_ascii b ≡ true
hex_plain b h = grind (arith, nat_tests)

pub octal_plain : (b : ℕ) → is_octal_digit b ≡ true → is_ascii b ≡ true
octal_plain b h = grind (arith, nat_tests)

hexadecimal_at : (opening : Opening) (x wanted : ℕ) (is_byte : Bool) (bs : Text) → is_ascii x ≡ true → FoundAt opening (92 ∷ x ∷ bs) (hexadecimal wanted is_byte bs)
hexadecimal_at opening x wanted is_byte bs small = go (prefix_len is_ascii_hexdigit (take wanted bs)) (digits_run is_ascii_hexdigit wanted bs hex_plain)
  where
    go : (n : ℕ) → (n ≤ length bs) × (is_plain (take n bs) ≡ true) → FoundAt opening (92 ∷ x ∷ bs) (if n == wanted then numbered (2 + n) is_byte (digits_value 16 (take n bs)) else broken (2 + n) (drop n bs))
    go n h =
        let inside = h.0 in
        let two : 2 + n ≡ suc (suc n) = omega arith in
        let plain : is_plain (take (2 + n) (92 ∷ x ∷ bs)) ≡ true = subst (λ k. is_plain (take k (92 ∷ x ∷ bs)) ≡ true) (sym two) (rw small h.1) in
        let good : Good (x ∷ bs) (2 + n) = (omega arith, omega (arith, inside), plain) in
        either (FoundAt opening (92 ∷ x ∷ bs)) (n == wanted) _ _ (numbered_at opening (x ∷ bs) (2 + n) is_byte (digits_value 16 (take n bs)) good) (broken_at opening (x ∷ bs) (2 + n) (drop n bs) good (ap (λ k. drop k (92 ∷ x ∷ bs)) two))

octal_at : (opening : Opening) (is_byte : Bool) (bs : Text) → FoundAt opening (92 ∷ bs) (octal is_byte bs)
octal_at opening is_byte bs =
    let n : ℕ = prefix_len is_octal_digit (take 3 bs) in
    let run = digits_run is_octal_digit 3 bs octal_plain in
    let inside = run.0 in
    let one : 1 + n ≡ suc n = omega arith in
    let plain : is_plain (take (1 + n) (92 ∷ bs)) ≡ true = subst (λ k. is_plain (take k (92 ∷ bs)) ≡ true) (sym one) run.1 in
    numbered_at opening bs (1 + n) is_byte (digits_value 8 (take n bs)) (omega arith, omega (arith, inside), plain)

escaped_feed_at : (opening : Opening) (remainder : Text) → FoundAt opening (92 ∷ 13 ∷ remainder) (escaped_newline remainder)
escaped_feed_at opening [] = broken_at opening (13 ∷ []) 2 [] (omega arith, omega arith, refl) refl
escaped_feed_at opening (b ∷ bs) = either (FoundAt opening (92 ∷ 13 ∷ b ∷ bs)) (b == byte "\n") _ _ tt (broken_at opening (13 ∷ b ∷ bs) 2 (b ∷ bs) (omega arith, omega arith, refl) refl)

simple_at : (opening : Opening) (text : Text) (value : Option ℕ) (character : Text) → FoundAt opening text (simple value character)
simple_at opening text (Some value) character = tt
simple_at opening text None character = tt

pub letter_small : (b letter : ℕ) → is_ascii letter ≡ true → (b == letter) ≡ true → is_ascii b ≡ true
letter_small b letter h e = subst (λ c. is_ascii c ≡ true) (sym (eqb-true b letter e)) h

escape_at : (opening : Opening) (kind : Kind) (bs : Text) → FoundAt opening (92 ∷ bs) (escape kind bs)
unfolding escape
escape_at opening kind [] = broken_at opening [] 1 [] (omega arith, omega arith, refl) refl
escape_at opening kind (b ∷ bs) =
    let P : Found → Type 0 = FoundAt opening (92 ∷ b ∷ bs) in
    either P (b == byte "\n") _ _ tt
    (when P (b == byte "\r") _ _ (λ e. subst (λ c. FoundAt opening (92 ∷ c ∷ bs) (escaped_newline bs)) (sym (eqb-true b 13 e)) (escaped_feed_at opening bs))
    (when P (b == byte "x") _ _ (λ e. hexadecimal_at opening b 2 (is_of_bytes kind) bs (letter_small b (byte "x") refl e))
    (when P (b == byte "u") _ _ (λ e. hexadecimal_at opening b 4 false bs (letter_small b (byte "u") refl e))
    (when P (b == byte "U") _ _ (λ e. hexadecimal_at opening b 8 false bs (letter_small b (byte "U") refl e))
    (either P (is_octal_digit b) _ _ (octal_at opening (is_of_bytes kind) (b ∷ bs))
    (simple_at opening (92 ∷ b ∷ bs) (lookup (nat_eq b) simple_escapes) (first_character (b ∷ bs))))))))

raw_pair_at : (opening : Opening) (text : Text) (kind : Kind) (quote : Quote) (bs : Text) → FoundAt opening text (raw_pair kind quote bs)
unfolding raw_pair
raw_pair_at opening text kind quote [] = tt
raw_pair_at opening text kind quote (b ∷ bs) = tt

brace_stop : (opening : Opening) (kind : Kind) (b : ℕ) (bs : Text) → is_brace kind b ≡ true → FoundAt opening (b ∷ bs) (Stops (if b == byte "{" then OpeningBrace else ClosingBrace))
brace_stop opening kind b bs h = go (b == byte "{") refl
  where
    other : (kind : Kind) → is_brace kind b ≡ true → (b == byte "{") ≡ false → b ≡ byte "}"
    other OfFString h e = grind (arith, nat_tests)
    other OfText h e = cc
    other OfBytes h e = cc

    go : (test : Bool) → (b == byte "{") ≡ test → StopAt opening (b ∷ bs) (if test then OpeningBrace else ClosingBrace)
    go false e = (bs, ap (λ c. c ∷ bs) (other kind h e))
    go true e = (bs, ap (λ c. c ∷ bs) (eqb-true b (byte "{") e))

brace_at : (opening : Opening) (kind : Kind) (b : ℕ) (bs : Text) → is_brace kind b ≡ true → FoundAt opening (b ∷ bs) (brace b bs)
brace_at opening kind b [] h = brace_stop opening kind b [] h
brace_at opening kind b (c ∷ cs) h = either (FoundAt opening (b ∷ c ∷ cs)) (b == c) _ _ tt (brace_stop opening kind b (c ∷ cs) h)

found_stop : (literal : Literal) (text : Text) → FoundAt literal.opening text (found_at literal text)
unfolding found_at
found_stop literal [] = tt
found_stop literal (b ∷ bs) =
    let P : Found → Type 0 = FoundAt literal.opening (b ∷ bs) in
    when P (starts_with nat_eq (b ∷ bs) (closing_quotes literal.opening)) _ _ (starts_split (b ∷ bs) (closing_quotes literal.opening))
    (when P (b == byte "\n" && not literal.opening.is_triple) _ _ (λ h. (bs, ap (λ c. c ∷ bs) (eqb-true b (byte "\n") (and_parts (b == byte "\n") (not literal.opening.is_triple) h).0)))
    (either P (b == byte "\r") _ _ tt
    (either P (b == byte "\\" && literal.opening.is_raw) _ _ (raw_pair_at literal.opening (b ∷ bs) literal.kind literal.opening.quote bs)
    (when P (b == byte "\\") _ _ (λ e. subst (λ c. FoundAt literal.opening (c ∷ bs) (escape literal.kind bs)) (sym (eqb-true b 92 e)) (escape_at literal.opening literal.kind bs))
    (when P (is_brace literal.kind b) _ _ (brace_at literal.opening literal.kind b bs) tt)))))

body_stop : (literal : Literal) (passed : ℕ) (text : Text) → StopAt literal.opening (drop (body_len (body_from literal passed text)) (drop passed text)) (body_from literal passed text).stop
unfolding body_from
body_stop literal zero [] = tt
body_stop literal (suc passed) [] = tt
body_stop literal (suc passed) (b ∷ bs) = body_stop literal passed bs
body_stop literal zero (b ∷ bs) = go (found_at literal (b ∷ bs)) (found_stop literal (b ∷ bs)) (found_fits literal (b ∷ bs)) (λ passed. body_stop literal passed bs)
  where
    go : (found : Found) → FoundAt literal.opening (b ∷ bs) found → FoundFits literal.opening (b ∷ bs) found → ((passed : ℕ) → StopAt literal.opening (drop (body_len (body_from literal passed bs)) (drop passed bs)) (body_from literal passed bs).stop)
        → StopAt literal.opening (drop (body_len (body_onward found (λ passed. body_from literal passed bs))) (b ∷ bs)) (body_onward found (λ passed. body_from literal passed bs)).stop
    go (Stops stop) here fits more = here
    go (Goes item) here fits more =
        let rest : Body = body_from literal (item.len - 1) bs in
        let total : body_len (record { items = item ∷ rest.items; stop = rest.stop }) ≡ item.len + body_len rest = sum_by-cons (λ (item : Item). item.len) item rest.items in
        let left : drop (body_len rest) (drop (item.len - 1) bs) ≡ drop (body_len (record { items = item ∷ rest.items; stop = rest.stop })) (b ∷ bs) =
        sym (ap (λ n. drop n (b ∷ bs)) total ∙ drop-sum item.len (body_len rest) (b ∷ bs) ∙ ap (drop (body_len rest)) (drop-remainder item.len b bs fits.0)) in
        subst (λ (t : Text). StopAt literal.opening t rest.stop) left (more (item.len - 1))

pub stop_at : (literal : Literal) (text : Text) → StopAt literal.opening (drop (body_len (body_at literal text)) text) (body_at literal text).stop
unfolding body_at
stop_at literal text = body_stop literal 0 text

pub quotes_plain : (opening : Opening) → is_plain (closing_quotes opening) ≡ true
quotes_plain = quotes_hold is_ascii refl refl

-- before closing quotes, and after them
pub closing_edges : (opening : Opening) (text : Text) (at : ℕ) → IsUtf8 text → drop at text ≡ closing_quotes opening ++ drop (length (closing_quotes opening)) (drop at text) → IsCharBoundary text at × IsCharBoundary text (at + length (closing_quotes opening))
closing_edges opening text at utf8 e =
    let before : IsCharBoundary text at = first (closing_quotes opening) refl e in
    (before, boundary_shift text at (length (closing_quotes opening)) before (after_plain (drop at text) (closing_quotes opening) (drop (length (closing_quotes opening)) (drop at text)) (IsUtf8-drop text at utf8 before) e (quotes_plain opening)))
  where
    small : quote_byte opening.quote < 128
    small = go opening.quote
      where
        go : (quote : Quote) → quote_byte quote < 128
        go SingleQuote = omega arith
        go DoubleQuote = omega arith

    begins : (triple : Bool) → (rest : Text) × (closing_quotes (record { is_raw = opening.is_raw; quote = opening.quote; is_triple = triple }) ≡ quote_byte opening.quote ∷ rest)
    begins true = (_, refl)
    begins false = (_, refl)

    first : (quotes : Text) → closing_quotes opening ≡ quotes → drop at text ≡ closing_quotes opening ++ drop (length (closing_quotes opening)) (drop at text) → IsCharBoundary text at
    first quotes same e =
        let shape = begins opening.is_triple in
        before_byte text at (quote_byte opening.quote) (shape.0 ++ drop (length (closing_quotes opening)) (drop at text)) (e ∙ ap (λ (t : Text). t ++ drop (length (closing_quotes opening)) (drop at text)) shape.1) small
