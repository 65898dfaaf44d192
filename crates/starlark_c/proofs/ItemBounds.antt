-- What an item of a literal denotes has no more bytes than the item, so a body's value has no more than the body.
use Rattle.std.proofs.Common.{ℕ, zero, suc, ◌+◌, ◌-◌, ◌≤◌, ◌<◌, Bool, true, false, not, [], ◌∷◌, length, take, drop, ap, arith, Option, Some, None, nat_eq, length-append}
use Rattle.std.specs.Prelude.{⊤, ◌==◌, ◌&&◌, if◌then◌else◌, nat_lt, encode_utf8}
use Rattle.std.proofs.lemmas.Bool.{eqb-true, lt-ltb, ltb-true}
use Rattle.std.proofs.lemmas.List.Concat.{flat_map-cons}
use Rattle.std.proofs.lemmas.List.Sums.{sum_by-cons}
use Rattle.std.proofs.lemmas.Str.{length-encode, len_utf8_ascii, len_utf8_bounds}
use Rattle.std.specs.Char.{digit_value, is_ascii_hexdigit, len_utf8}
use Rattle.std.specs.List.{prefix_len, starts_with}
use Rattle.std.specs.Map.{lookup}
use Rattle.std.specs.Str.{byte}
use Rattle.std.specs.Str.Parse.{digits_value}
use Rattle.starlark_grammar.specs.FrontCharacter.{first_character}
use Rattle.starlark_grammar.specs.Items.{Body, Found, Goes, Item, Literal, Stops, body_at, body_from, body_len, body_onward, body_value, brace, broken, closing_quotes, drops_backslash, escape, escaped_newline, found_at, goes, hexadecimal, is_brace, is_character, is_of_bytes, numbered, octal, raw_pair, simple, simple_escapes}
use Rattle.starlark_grammar.specs.declared.class.LiteralKind.{LiteralKind as Kind}
use Rattle.starlark_grammar.specs.declared.class.Quote.{Quote}
use Rattle.starlark_grammar.specs.Words.{Text, is_octal_digit}
use Rattle.starlark_grammar.proofs.Choices.{by_test, either, when}

abbrev Short : Found → Type 0
Short (Goes item) = length item.value ≤ item.len
Short (Stops stop) = ⊤

broken_short : (good : ℕ) (rest : Text) → Short (broken good rest)
broken_short good [] = tt
broken_short good (b ∷ bs) = tt

-- a character has at most four bytes, …
encoded_four : (c : ℕ) → length (encode_utf8 c) ≤ 4
encoded_four c = omega (arith, length-encode c, (len_utf8_bounds c).1)

-- … and at most two where its number is small
encoded_two : (c : ℕ) → c < 2048 → length (encode_utf8 c) ≤ 2
encoded_two c small =
    let few : len_utf8 c ≤ 2 = either (λ n. n ≤ 2) (nat_lt c 128) 1 _ (omega arith) (rw (lt-ltb c 2048 small) (omega arith)) in
    omega (arith, length-encode c, few)

numbered_short : (len : ℕ) (is_byte : Bool) (n : ℕ) → 1 ≤ len → length (encode_utf8 n) ≤ len → Short (numbered len is_byte n)
numbered_short len true n some long = either Short (nat_lt n 256) (goes len (n ∷ [])) (broken len []) some (broken_short len [])
numbered_short len false n some long = either Short (is_character n) (goes len (encode_utf8 n)) (broken len []) long (broken_short len [])

hexadecimal_short : (wanted : ℕ) (is_byte : Bool) (text : Text) → 2 ≤ wanted → Short (hexadecimal wanted is_byte text)
hexadecimal_short wanted is_byte text least = go (prefix_len is_ascii_hexdigit (take wanted text))
  where
    go : (n : ℕ) → Short (if n == wanted then numbered (2 + n) is_byte (digits_value 16 (take n text)) else broken (2 + n) (drop n text))
    go n =
        when Short (n == wanted) (numbered (2 + n) is_byte (digits_value 16 (take n text))) (broken (2 + n) (drop n text))
        (λ all. numbered_short (2 + n) is_byte (digits_value 16 (take n text)) (omega arith) (omega (arith, encoded_four (digits_value 16 (take n text)), eqb-true n wanted all, least)))
        (broken_short (2 + n) (drop n text))

-- a digit, or 36 where it is none
digit_small : (c : ℕ) → digit_value c ≤ 36
digit_small c =
    by_test (λ n. n ≤ 36) (nat_lt c 48) 36 _ (λ e. omega arith) (λ f.
    by_test (λ n. n ≤ 36) (nat_lt c 58) (c - 48) _ (λ e. omega (arith, ltb-true c 58 e)) (λ f.
    by_test (λ n. n ≤ 36) (nat_lt c 65) 36 _ (λ e. omega arith) (λ f.
    by_test (λ n. n ≤ 36) (nat_lt c 91) (c - 55) _ (λ e. omega (arith, ltb-true c 91 e)) (λ f.
    by_test (λ n. n ≤ 36) (nat_lt c 97) 36 _ (λ e. omega arith) (λ f.
    by_test (λ n. n ≤ 36) (nat_lt c 123) (c - 87) 36 (λ e. omega (arith, ltb-true c 123 e)) (λ f. omega arith))))))

-- so many octal digits denote a character of no more bytes than they and a backslash have
octal_digits : (n : ℕ) (text : Text) → length (encode_utf8 (digits_value 8 (take n text))) ≤ 1 + n
octal_digits zero text = omega (arith, length-encode (digits_value 8 []), len_utf8_ascii (digits_value 8 []) (omega arith))
octal_digits (suc zero) [] = omega (arith, encoded_two 0 (omega arith))
octal_digits (suc zero) (c ∷ cs) = encoded_two _ (omega (arith, digit_small c))
octal_digits (suc (suc zero)) [] = omega (arith, encoded_two 0 (omega arith))
octal_digits (suc (suc zero)) (c ∷ []) = omega (arith, encoded_two (digits_value 8 (c ∷ [])) (omega (arith, digit_small c)))
octal_digits (suc (suc zero)) (c ∷ d ∷ cs) = omega (arith, encoded_two (digits_value 8 (c ∷ d ∷ [])) (omega (arith, digit_small c, digit_small d)))
octal_digits (suc (suc (suc n))) text = omega (arith, encoded_four (digits_value 8 (take (suc (suc (suc n))) text)))

octal_short : (is_byte : Bool) (text : Text) → Short (octal is_byte text)
octal_short is_byte text =
    let n = prefix_len is_octal_digit (take 3 text) in
    numbered_short (1 + n) is_byte (digits_value 8 (take n text)) (omega arith) (octal_digits n text)

escaped_short : (text : Text) → Short (escaped_newline text)
escaped_short [] = broken_short 2 []
escaped_short (b ∷ bs) = either Short (b == byte "\n") (goes 3 []) (broken 2 (b ∷ bs)) (omega arith) (broken_short 2 (b ∷ bs))

simple_short : (value : Option ℕ) (character : Text) → Short (simple value character)
simple_short (Some value) character = omega arith
simple_short None character = omega arith

escape_short : (kind : Kind) (text : Text) → Short (escape kind text)
unfolding escape
escape_short kind [] = broken_short 1 []
escape_short kind (b ∷ bs) =
    either Short (b == byte "\n") _ _ (omega arith)
    (either Short (b == byte "\r") _ _ (escaped_short bs)
    (either Short (b == byte "x") _ _ (hexadecimal_short 2 (is_of_bytes kind) bs (omega arith))
    (either Short (b == byte "u") _ _ (hexadecimal_short 4 false bs (omega arith))
    (either Short (b == byte "U") _ _ (hexadecimal_short 8 false bs (omega arith))
    (either Short (is_octal_digit b) _ _ (octal_short (is_of_bytes kind) (b ∷ bs))
    (simple_short (lookup (nat_eq b) simple_escapes) (first_character (b ∷ bs))))))))

raw_short : (kind : Kind) (quote : Quote) (text : Text) → Short (raw_pair kind quote text)
unfolding raw_pair
raw_short kind quote [] = tt
raw_short kind quote (b ∷ bs) =
    either (λ (t : Text). length t ≤ 1 + length (first_character (b ∷ bs))) (drops_backslash kind quote b) (first_character (b ∷ bs)) (byte "\\" ∷ first_character (b ∷ bs)) (omega arith) (omega arith)

brace_short : (b : ℕ) (text : Text) → Short (brace b text)
brace_short b [] = tt
brace_short b (c ∷ cs) = either Short (b == c) (goes 2 (b ∷ [])) _ (omega arith) tt

found_short : (literal : Literal) (text : Text) → Short (found_at literal text)
unfolding found_at
found_short literal [] = tt
found_short literal (b ∷ bs) =
    either Short (starts_with nat_eq (b ∷ bs) (closing_quotes literal.opening)) _ _ tt
    (either Short (b == byte "\n" && not literal.opening.is_triple) _ _ tt
    (either Short (b == byte "\r") _ _ (omega arith)
    (either Short (b == byte "\\" && literal.opening.is_raw) _ _ (raw_short literal.kind literal.opening.quote bs)
    (either Short (b == byte "\\") _ _ (escape_short literal.kind bs)
    (either Short (is_brace literal.kind b) _ _ (brace_short b bs)
    (omega arith))))))

abbrev BodyShort : Body → Type 0
BodyShort body = length (body_value body) ≤ body_len body

onward_short : (found : Found) (again : ℕ → Body) → Short found → ((n : ℕ) → BodyShort (again n)) → BodyShort (body_onward found again)
onward_short (Stops stop) again short more = omega arith
onward_short (Goes item) again short more =
    let rest = again (item.len - 1) in
    omega (
      arith,
      ap length (flat_map-cons (λ (i : Item). i.value) item rest.items),
      length-append item.value (body_value rest),
      sum_by-cons (λ (i : Item). i.len) item rest.items,
      short,
      more (item.len - 1),
    )

body_from_short : (literal : Literal) (passed : ℕ) (text : Text) → BodyShort (body_from literal passed text)
unfolding body_from
body_from_short literal zero [] = omega arith
body_from_short literal (suc passed) [] = omega arith
body_from_short literal (suc passed) (b ∷ bs) = body_from_short literal passed bs
body_from_short literal zero (b ∷ bs) = onward_short (found_at literal (b ∷ bs)) (λ passed. body_from literal passed bs) (found_short literal (b ∷ bs)) (λ passed. body_from_short literal passed bs)

-- the value of a body has no more bytes than the body
pub body_short : (literal : Literal) (text : Text) → length (body_value (body_at literal text)) ≤ body_len (body_at literal text)
unfolding body_at
body_short literal text = body_from_short literal 0 text
