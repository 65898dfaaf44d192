-- Items end between characters.
use Rattle.std.proofs.Common.{◌≡◌, ℕ, suc, ◌+◌, ◌≤◌, ◌==◌, Bool, true, false, not, [], ◌∷◌, length, take, drop, refl, sym, subst, Option, Some, None, arith, nat_eq}
use Rattle.std.proofs.lemmas.Bool.{and_parts, eqb-true}
use Rattle.std.proofs.lemmas.Bool.Decides.{nat_tests}
use Rattle.std.proofs.lemmas.Str.{IsUtf8-drop}
use Rattle.std.specs.Char.{is_ascii, is_ascii_hexdigit}
use Rattle.std.specs.List.{prefix_len, starts_with}
use Rattle.std.specs.Map.{lookup}
use Rattle.std.specs.Prelude.{⊤, ◌&&◌, if◌then◌else◌, nat_lt}
use Rattle.std.specs.Str.{byte, IsUtf8, IsCharBoundary}
use Rattle.std.specs.Str.Parse.{digits_value}
use Rattle.starlark_grammar.specs.Words.{Text, is_octal_digit}
use Rattle.starlark_grammar.specs.declared.class.Quote.{Quote}
use Rattle.starlark_grammar.specs.declared.class.LiteralKind.{LiteralKind as Kind}
use Rattle.starlark_grammar.specs.declared.class.LiteralKind.TheVariants.{Text as OfText, Bytes as OfBytes, FString as OfFString}
use Rattle.starlark_grammar.specs.Items.{Literal, Item, Found, Goes, Stops, closing_quotes, broken, numbered, is_character, hexadecimal, octal, escaped_newline, simple, simple_escapes, escape, raw_pair, brace, found_at, is_brace, is_of_bytes}
use Rattle.starlark_grammar.specs.FrontCharacter.{first_character}
use Rattle.starlark_grammar.proofs.Order.Edges.{boundary_shift, character_edge, digits_run, hex_plain, letter_small, octal_plain, plain_end}
use Rattle.starlark_grammar.proofs.Choices.{either, when}
use Rattle.starlark_grammar.proofs.Words.Bytes.{is_plain}

-- the end of an item
abbrev pub EdgeAt : Text → Found → Type 0
EdgeAt text (Goes item) = IsUtf8 text → IsCharBoundary text item.len
EdgeAt text (Stops stop) = ⊤

-- an item of ASCII, of so many bytes
abbrev AsciiFront : Text → ℕ → Type 0
AsciiFront text n = (n ≤ length text) × (is_plain (take n text) ≡ true)

ascii_edge : (text : Text) (n : ℕ) → AsciiFront text n → IsUtf8 text → IsCharBoundary text n
ascii_edge text n front utf8 = plain_end text n utf8 front.0 front.1

broken_edge : (text : Text) (good : ℕ) (remainder : Text) → EdgeAt text (broken good remainder)
broken_edge text good [] = tt
broken_edge text good (b ∷ bs) = tt

numbered_edge : (text : Text) (len : ℕ) (is_byte : Bool) (n : ℕ) → AsciiFront text len → EdgeAt text (numbered len is_byte n)
numbered_edge text len true n front = either (EdgeAt text) (nat_lt n 256) _ _ (ascii_edge text len front) tt
numbered_edge text len false n front = either (EdgeAt text) (is_character n) _ _ (ascii_edge text len front) tt

hexadecimal_edge : (x wanted : ℕ) (is_byte : Bool) (bs : Text) → is_ascii x ≡ true → EdgeAt (92 ∷ x ∷ bs) (hexadecimal wanted is_byte bs)
hexadecimal_edge x wanted is_byte bs small = go (prefix_len is_ascii_hexdigit (take wanted bs)) (digits_run is_ascii_hexdigit wanted bs hex_plain)
  where
    go : (n : ℕ) → (n ≤ length bs) × (is_plain (take n bs) ≡ true) → EdgeAt (92 ∷ x ∷ bs) (if n == wanted then numbered (2 + n) is_byte (digits_value 16 (take n bs)) else broken (2 + n) (drop n bs))
    go n h =
        let inside = h.0 in
        let two : 2 + n ≡ suc (suc n) = omega arith in
        let plain : is_plain (take (2 + n) (92 ∷ x ∷ bs)) ≡ true = subst (λ k. is_plain (take k (92 ∷ x ∷ bs)) ≡ true) (sym two) (rw small h.1) in
        either (EdgeAt (92 ∷ x ∷ bs)) (n == wanted) _ _ (numbered_edge (92 ∷ x ∷ bs) (2 + n) is_byte (digits_value 16 (take n bs)) (omega (arith, inside), plain)) (broken_edge (92 ∷ x ∷ bs) (2 + n) (drop n bs))

octal_edge : (is_byte : Bool) (bs : Text) → EdgeAt (92 ∷ bs) (octal is_byte bs)
octal_edge is_byte bs =
    let n : ℕ = prefix_len is_octal_digit (take 3 bs) in
    let run = digits_run is_octal_digit 3 bs octal_plain in
    let inside = run.0 in
    let one : 1 + n ≡ suc n = omega arith in
    let plain : is_plain (take (1 + n) (92 ∷ bs)) ≡ true = subst (λ k. is_plain (take k (92 ∷ bs)) ≡ true) (sym one) run.1 in
    numbered_edge (92 ∷ bs) (1 + n) is_byte (digits_value 8 (take n bs)) (omega (arith, inside), plain)

escaped_feed_edge : (remainder : Text) → EdgeAt (92 ∷ 13 ∷ remainder) (escaped_newline remainder)
escaped_feed_edge [] = tt
escaped_feed_edge (b ∷ bs) = when (EdgeAt (92 ∷ 13 ∷ b ∷ bs)) (b == byte "\n") _ _ (λ e. ascii_edge (92 ∷ 13 ∷ b ∷ bs) 3 (omega arith, rw (letter_small b (byte "\n") refl e) refl)) (broken_edge (92 ∷ 13 ∷ b ∷ bs) 2 (b ∷ bs))

-- a byte of ASCII and the character after it
pair_edge : (b : ℕ) (bs : Text) → is_ascii b ≡ true → IsUtf8 (b ∷ bs) → IsCharBoundary (b ∷ bs) (1 + length (first_character bs))
pair_edge b bs small utf8 =
    let one = ascii_edge (b ∷ bs) 1 (omega arith, rw small refl) utf8 in
    boundary_shift (b ∷ bs) 1 (length (first_character bs)) one (character_edge bs (IsUtf8-drop (b ∷ bs) 1 utf8 one))

-- the bytes that stand for one other are ASCII
simple_small : (b value : ℕ) → lookup (nat_eq b) simple_escapes ≡ Some value → is_ascii b ≡ true
unfolding simple_escapes
simple_small b value h = grind (arith, nat_tests)

simple_edge : (b : ℕ) (bs : Text) (found : Option ℕ) → lookup (nat_eq b) simple_escapes ≡ found → EdgeAt (92 ∷ b ∷ bs) (simple found (first_character (b ∷ bs)))
simple_edge b bs (Some value) e = ascii_edge (92 ∷ b ∷ bs) 2 (omega arith, rw (simple_small b value e) refl)
simple_edge b bs None e = pair_edge 92 (b ∷ bs) refl

escape_edge : (kind : Kind) (bs : Text) → EdgeAt (92 ∷ bs) (escape kind bs)
unfolding escape
escape_edge kind [] = tt
escape_edge kind (b ∷ bs) =
    let P : Found → Type 0 = EdgeAt (92 ∷ b ∷ bs) in
    when P (b == byte "\n") _ _ (λ e. ascii_edge (92 ∷ b ∷ bs) 2 (omega arith, rw (letter_small b (byte "\n") refl e) refl))
    (when P (b == byte "\r") _ _ (λ e. subst (λ c. EdgeAt (92 ∷ c ∷ bs) (escaped_newline bs)) (sym (eqb-true b 13 e)) (escaped_feed_edge bs))
    (when P (b == byte "x") _ _ (λ e. hexadecimal_edge b 2 (is_of_bytes kind) bs (letter_small b (byte "x") refl e))
    (when P (b == byte "u") _ _ (λ e. hexadecimal_edge b 4 false bs (letter_small b (byte "u") refl e))
    (when P (b == byte "U") _ _ (λ e. hexadecimal_edge b 8 false bs (letter_small b (byte "U") refl e))
    (either P (is_octal_digit b) _ _ (octal_edge (is_of_bytes kind) (b ∷ bs))
    (simple_edge b bs (lookup (nat_eq b) simple_escapes) refl))))))

raw_pair_edge : (kind : Kind) (quote : Quote) (bs : Text) → EdgeAt (92 ∷ bs) (raw_pair kind quote bs)
unfolding raw_pair
raw_pair_edge kind quote [] = tt
raw_pair_edge kind quote (b ∷ bs) = pair_edge 92 (b ∷ bs) refl

brace_small : (kind : Kind) (b : ℕ) → is_brace kind b ≡ true → is_ascii b ≡ true
brace_small OfFString b h = grind (arith, nat_tests)
brace_small OfText b h = cc
brace_small OfBytes b h = cc

brace_edge : (kind : Kind) (b : ℕ) (bs : Text) → is_brace kind b ≡ true → EdgeAt (b ∷ bs) (brace b bs)
brace_edge kind b [] h = tt
brace_edge kind b (c ∷ cs) h = when (EdgeAt (b ∷ c ∷ cs)) (b == c) _ _ (λ e. ascii_edge (b ∷ c ∷ cs) 2 (omega arith, two e)) tt
  where
    two : (b == c) ≡ true → is_plain (take 2 (b ∷ c ∷ cs)) ≡ true
    two e = let small = brace_small kind b h in rw (small, ← eqb-true b c e, small) refl

found_edge : (literal : Literal) (text : Text) → EdgeAt text (found_at literal text)
unfolding found_at
found_edge literal [] = tt
found_edge literal (b ∷ bs) =
    let P : Found → Type 0 = EdgeAt (b ∷ bs) in
    either P (starts_with nat_eq (b ∷ bs) (closing_quotes literal.opening)) _ _ tt
    (either P (b == byte "\n" && not literal.opening.is_triple) _ _ tt
    (when P (b == byte "\r") _ _ (λ e. ascii_edge (b ∷ bs) 1 (omega arith, rw (letter_small b (byte "\r") refl e) refl))
    (when P (b == byte "\\" && literal.opening.is_raw) _ _ (λ e. subst (λ c. EdgeAt (c ∷ bs) (raw_pair literal.kind literal.opening.quote bs)) (sym (eqb-true b 92 (and_parts (b == byte "\\") literal.opening.is_raw e).0)) (raw_pair_edge literal.kind literal.opening.quote bs))
    (when P (b == byte "\\") _ _ (λ e. subst (λ c. EdgeAt (c ∷ bs) (escape literal.kind bs)) (sym (eqb-true b 92 e)) (escape_edge literal.kind bs))
    (when P (is_brace literal.kind b) _ _ (brace_edge literal.kind b bs) (character_edge (b ∷ bs)))))))

pub item_edge : (literal : Literal) (text : Text) (item : Item) → IsUtf8 text → found_at literal text ≡ Goes item → IsCharBoundary text item.len
item_edge literal text item utf8 e = subst (EdgeAt text) e (found_edge literal text) utf8
