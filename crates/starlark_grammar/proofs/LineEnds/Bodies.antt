-- Bodies of literals in a text whose LFs are written as CR LF.
use Rattle.std.proofs.Common.{◌≡◌, ℕ, zero, suc, ◌+◌, ◌-◌, ◌/◌, ◌%◌, ◌≤◌, ◌<◌, Bool, true, false, cond, not, List, [], ◌∷◌, ◌++◌, length, take, drop, refl, ap, ◌∙◌, sym, subst, Option, Some, None, arith, nat_eq, ◌⊎◌, inl, inr, one-add}
use Rattle.std.specs.Prelude.{◌&&◌, ◌||◌, ◌==◌, if◌then◌else◌, nat_lt, encode_utf8, codes}
use Rattle.std.proofs.Math.Utf8.{encode, encodes, scalar, scalars, scalar_cases}
use Rattle.std.specs.Char.{is_ascii_hexdigit, is_ascii}
use Rattle.std.specs.List.{prefix_len, starts_with}
use Rattle.std.specs.Map.{lookup}
use Rattle.std.specs.Str.{byte, continuation_len, IsUtf8}
use Rattle.std.specs.Str.Parse.{digits_value}
use Rattle.std.proofs.lemmas.Bool.{and_parts, eqb-true, cases_lt, lt-ltb, le-ltb}
use Rattle.std.proofs.lemmas.Bool.Decides.{nat_tests}
use Rattle.std.proofs.lemmas.List.{drop-take}
use Rattle.std.proofs.lemmas.List.Sums.{sum_by-cons}
use Rattle.starlark_grammar.specs.Words.{Text, is_in_line, is_octal_digit}
use Rattle.starlark_grammar.specs.declared.class.Quote.{Quote}
use Rattle.starlark_grammar.specs.declared.class.LiteralKind.{LiteralKind as Kind}
use Rattle.starlark_grammar.specs.declared.class.Quote.TheVariants.{Single as SingleQuote, Double as DoubleQuote}
use Rattle.starlark_grammar.specs.declared.class.LiteralKind.TheVariants.{Text as OfText, Bytes as OfBytes, FString as OfFString}
use Rattle.starlark_grammar.specs.Items.{Literal, Item, Stop, Line, OpeningBrace, ClosingBrace, Found, Goes, Stops, goes, closing_quotes, broken, is_character, numbered, hexadecimal, octal, simple_escapes, simple, is_of_bytes, escape, drops_backslash, raw_pair, brace, is_brace, found_at, Body, body_len, body_value, body_onward, body_from, body_at}
use Rattle.starlark_grammar.specs.FrontCharacter.{first_character}
use Rattle.starlark_grammar.specs.Margins.{is_lf}
use Rattle.starlark_grammar.specs.LineEnds.{holds_escaped_newline}
use Rattle.starlark_grammar.proofs.Lists.{drop-sum, drop-remainder}
use Rattle.starlark_grammar.proofs.WordNewlines.{in_line}
use Rattle.starlark_grammar.proofs.Literals.Bodies.{FoundFits, found_fits}
use Rattle.starlark_grammar.proofs.Order.Edges.{digits_run, four_bytes, hex_plain, octal_plain, starts_split, three_bytes, two_bytes}
use Rattle.starlark_grammar.proofs.Words.Bytes.{is_plain}
use Rattle.starlark_grammar.proofs.Joining.FollowedBodies.{both, both_equal, is_closed, closing_in_line}
use Rattle.starlark_grammar.proofs.LineEnds.Texts.{crlf, no_return, crlf_front, starts_crlf, run_crlf}

-- Characters

-- no LF among the bytes of a character, where so many bytes are still to come of one
abbrev pub apart : ℕ → Text → Bool
apart zero [] = true
apart (suc n) [] = true
apart (suc n) (b ∷ bs) = not (is_lf b) && apart n bs
apart zero (b ∷ bs) = apart (continuation_len b) bs

high_byte : (b : ℕ) → 128 ≤ b → is_lf b ≡ false
high_byte b h = grind (arith, nat_tests)

low_byte : (b : ℕ) → b < 128 → continuation_len b ≡ 0
low_byte b h = rw (lt-ltb b 128 h) refl

apart_lead : (n b : ℕ) (bs : Text) → continuation_len b ≡ n → apart n bs ≡ true → apart 0 (b ∷ bs) ≡ true
apart_lead n b bs e h = subst (λ k. apart k bs ≡ true) (sym e) h

apart_next : (n b : ℕ) (bs : Text) → 128 ≤ b → apart n bs ≡ true → apart (suc n) (b ∷ bs) ≡ true
apart_next n b bs high h = rw (high_byte b high) h

following : (n bits : ℕ) (bs : Text) → apart n bs ≡ true → apart (suc n) ((128 + bits % 64) ∷ bs) ≡ true
following n bits bs h = apart_next n (128 + bits % 64) bs (omega arith) h

encode_apart : (c : ℕ) (rest : Text) → c < 1114112 → apart 0 rest ≡ true → apart 0 (encode c ++ rest) ≡ true
unfolding encode
encode_apart c rest small more = go (cases_lt c 128) (cases_lt c 2048) (cases_lt c 65536)
  where
    go : (c < 128) ⊎ (128 ≤ c) → (c < 2048) ⊎ (2048 ≤ c) → (c < 65536) ⊎ (65536 ≤ c) → apart 0 (encode c ++ rest) ≡ true
    go (inl h) k m = rw (lt-ltb c 128 h) (apart_lead 0 c rest (low_byte c h) more)
    go (inr h) (inl k) m = rw (le-ltb c 128 h, lt-ltb c 2048 k) (apart_lead 1 (192 + c / 64) ((128 + c % 64) ∷ rest) (two_bytes (192 + c / 64) (omega arith) (omega (arith, k))) (following 0 c rest more))
    go (inr h) (inr k) (inl m) = rw (le-ltb c 128 h, le-ltb c 2048 k, lt-ltb c 65536 m)
        (apart_lead 2 (224 + c / 4096) ((128 + c / 64 % 64) ∷ (128 + c % 64) ∷ rest) (three_bytes (224 + c / 4096) (omega arith) (omega (arith, m))) (following 1 (c / 64) ((128 + c % 64) ∷ rest) (following 0 c rest more)))
    go (inr h) (inr k) (inr m) = rw (le-ltb c 128 h, le-ltb c 2048 k, le-ltb c 65536 m)
        (apart_lead 3 (240 + c / 262144) ((128 + c / 4096 % 64) ∷ (128 + c / 64 % 64) ∷ (128 + c % 64) ∷ rest) (four_bytes (240 + c / 262144) (omega arith))
        (following 2 (c / 4096) ((128 + c / 64 % 64) ∷ (128 + c % 64) ∷ rest) (following 1 (c / 64) ((128 + c % 64) ∷ rest) (following 0 c rest more))))

-- a text of characters
pub utf8_apart : (text : Text) → IsUtf8 text → apart 0 text ≡ true
utf8_apart text utf8 = subst (λ (t : Text). apart 0 t ≡ true) utf8.1.1 (go utf8.0 utf8.1.0)
  where
    in_range : (c : ℕ) → (c < 55296) ⊎ ((57344 ≤ c) × (c < 1114112)) → c < 1114112
    in_range c (inl h) = omega (arith, h)
    in_range c (inr h) = h.1

    go : (cs : List ℕ) → scalars cs ≡ true → apart 0 (encodes cs) ≡ true
    go [] s = refl
    go (c ∷ cs) s = let parts = and_parts (scalar c) (scalars cs) s in encode_apart c (encodes cs) (in_range c (scalar_cases c parts.0)) (go cs parts.1)

pub form_other : (b : ℕ) (bs : Text) → is_lf b ≡ false → crlf (b ∷ bs) ≡ b ∷ crlf bs
form_other b bs e = rw e refl

-- the rest of a character
record RestCrlf (n : ℕ) (text : Text) : Type 0 where
  same : take n (crlf text) ≡ take n text
  left : drop (length (take n text)) (crlf text) ≡ crlf (drop (length (take n text)) text)
  apart : apart 0 (drop (length (take n text)) text) ≡ true

rest_crlf : (n : ℕ) (text : Text) → apart n text ≡ true → RestCrlf n text
rest_crlf zero [] h = record { same = refl; left = refl; apart = refl }
rest_crlf (suc n) [] h = record { same = refl; left = refl; apart = refl }
rest_crlf zero (b ∷ bs) h = record { same = refl; left = refl; apart = h }
rest_crlf (suc n) (b ∷ bs) h =
    let parts = and_parts (not (is_lf b)) (apart n bs) h in
    go (not_true (is_lf b) parts.0) (rest_crlf n bs parts.1)
  where
    not_true : (test : Bool) → not test ≡ true → test ≡ false
    not_true true h = cc
    not_true false h = refl

    go : is_lf b ≡ false → RestCrlf n bs → RestCrlf (suc n) (b ∷ bs)
    go e rest = record {
      same = ap (take (suc n)) (form_other b bs e) ∙ ap (λ (t : Text). b ∷ t) rest.same;
      left = ap (drop (suc (length (take n bs)))) (form_other b bs e) ∙ rest.left;
      apart = rest.apart;
    }

-- after ASCII bytes
pub apart_plain : (n : ℕ) (text : Text) → is_plain (take n text) ≡ true → apart 0 text ≡ true → apart 0 (drop n text) ≡ true
apart_plain zero text h k = k
apart_plain (suc n) [] h k = refl
apart_plain (suc n) (b ∷ bs) h k =
    let parts = and_parts (is_ascii b) (is_plain (take n bs)) h in
    apart_plain n bs parts.1 (subst (λ m. apart m bs ≡ true) (low_byte b (small b parts.0)) k)
  where
    small : (b : ℕ) → is_ascii b ≡ true → b < 128
    small b h = grind (arith, nat_tests)

-- Items

-- What is found in the form of a text: the same value, and the form of what is left; and a stop that closes a body.
abbrev FoundCrlf : Text → Found → Found → Type 0
FoundCrlf text (Goes item) other = (form : Item) × (other ≡ Goes form) × (form.value ≡ item.value) × (drop form.len (crlf text) ≡ crlf (drop item.len text)) × (apart 0 (drop item.len text) ≡ true)
FoundCrlf text (Stops stop) other = is_closed stop ≡ true → other ≡ Stops stop

same_stop : (text : Text) (stop : Stop) → FoundCrlf text (Stops stop) (Stops stop)
same_stop text stop = λ closed. refl

-- the same item, where no LF is in it
same_item : (text : Text) (len : ℕ) (value : Text) (other : Found) → drop len (crlf text) ≡ crlf (drop len text) → apart 0 (drop len text) ≡ true → other ≡ goes len value → FoundCrlf text (goes len value) other
same_item text len value other left more e = (record { len = len; value = value }, e, refl, left, more)

broken_crlf : (text : Text) (good : ℕ) (remainder : Text) (other : Found) → FoundCrlf text (broken good remainder) other
broken_crlf text good [] other = λ closed. cc
broken_crlf text good (b ∷ bs) other = λ closed. cc

goes_crlf : (text : Text) (len : ℕ) (value : Text) (test : Bool) (other : Found) → drop len (crlf text) ≡ crlf (drop len text) → apart 0 (drop len text) ≡ true → other ≡ (if test then goes len value else broken len []) → FoundCrlf text (if test then goes len value else broken len []) other
goes_crlf text len value true other left more e = same_item text len value other left more e
goes_crlf text len value false other left more e = broken_crlf text len [] other

numbered_crlf : (text : Text) (len : ℕ) (is_byte : Bool) (n : ℕ) (other : Found) → drop len (crlf text) ≡ crlf (drop len text) → apart 0 (drop len text) ≡ true → other ≡ numbered len is_byte n → FoundCrlf text (numbered len is_byte n) other
numbered_crlf text len true n other left more e = goes_crlf text len (n ∷ []) (nat_lt n 256) other left more e
numbered_crlf text len false n other left more e = goes_crlf text len (encode_utf8 n) (is_character n) other left more e

-- bytes that pass a test of bytes in a line
run_in : (test : ℕ → Bool) (most : ℕ) (text : Text) → ((b : ℕ) → test b ≡ true → is_in_line b ≡ true) → (in_line (take (prefix_len test (take most text)) text) ≡ true) × (prefix_len test (take most text) ≤ length text)
run_in test zero text h = (refl, omega arith)
run_in test (suc most) [] h = (refl, omega arith)
run_in test (suc most) (b ∷ bs) h = go (test b) refl (run_in test most bs h)
  where
    go : (passes : Bool) → test b ≡ passes → (in_line (take (prefix_len test (take most bs)) bs) ≡ true) × (prefix_len test (take most bs) ≤ length bs)
        → (in_line (take (cond passes (1 + prefix_len test (take most bs)) 0) (b ∷ bs)) ≡ true) × (cond passes (1 + prefix_len test (take most bs)) 0 ≤ length (b ∷ bs))
    go false e more = (refl, omega arith)
    go true e more =
        let rest = more.1 in
        (rw (one-add) (rw (h b e) more.0), omega (arith, rest))

hex_line : (b : ℕ) → is_ascii_hexdigit b ≡ true → is_in_line b ≡ true
hex_line b h = grind (arith, nat_tests)

octal_line : (b : ℕ) → is_octal_digit b ≡ true → is_in_line b ≡ true
octal_line b h = grind (arith, nat_tests)

-- digits after a backslash and a letter
hexadecimal_crlf : (x wanted : ℕ) (is_byte : Bool) (bs : Text) → is_lf x ≡ false → apart 0 bs ≡ true → FoundCrlf (92 ∷ x ∷ bs) (hexadecimal wanted is_byte bs) (hexadecimal wanted is_byte (crlf bs))
hexadecimal_crlf x wanted is_byte bs plain more = go (prefix_len is_ascii_hexdigit (take wanted bs)) refl
  where
    by : ℕ → Text → Found
    by n text = if n == wanted then numbered (2 + n) is_byte (digits_value 16 (take n text)) else broken (2 + n) (drop n text)

    again : prefix_len is_ascii_hexdigit (take wanted (crlf bs)) ≡ prefix_len is_ascii_hexdigit (take wanted bs)
    again = run_crlf is_ascii_hexdigit wanted bs refl refl

    go : (n : ℕ) → prefix_len is_ascii_hexdigit (take wanted bs) ≡ n → FoundCrlf (92 ∷ x ∷ bs) (by n bs) (hexadecimal wanted is_byte (crlf bs))
    go n e =
        let run = run_in is_ascii_hexdigit wanted bs hex_line in
        let plain_run = digits_run is_ascii_hexdigit wanted bs hex_plain in
        let front = crlf_front n bs (subst (λ k. k ≤ length bs) e run.1) (subst (λ k. in_line (take k bs) ≡ true) e run.0) in
        let two : 2 + n ≡ suc (suc n) = omega arith in
        let left : drop (2 + n) (crlf (92 ∷ x ∷ bs)) ≡ crlf (drop (2 + n) (92 ∷ x ∷ bs)) =
        rw (two) (ap (λ (t : Text). drop (suc n) t) (form_other x bs plain) ∙ front.1) in
        let rest : apart 0 (drop (2 + n) (92 ∷ x ∷ bs)) ≡ true =
        rw (two) (apart_plain n bs (subst (λ k. is_plain (take k bs) ≡ true) e plain_run.1) more) in
        let same : hexadecimal wanted is_byte (crlf bs) ≡ by n (crlf bs) = ap (λ k. by k (crlf bs)) (again ∙ e) in
        let digits : by n (crlf bs) ≡ (if n == wanted then numbered (2 + n) is_byte (digits_value 16 (take n bs)) else broken (2 + n) (drop n (crlf bs))) =
        ap (λ (t : Text). if n == wanted then numbered (2 + n) is_byte (digits_value 16 t) else broken (2 + n) (drop n (crlf bs))) front.0 in
        test (n == wanted) n left rest (same ∙ digits)
      where
        test : (full : Bool) (n : ℕ) → drop (2 + n) (crlf (92 ∷ x ∷ bs)) ≡ crlf (drop (2 + n) (92 ∷ x ∷ bs)) → apart 0 (drop (2 + n) (92 ∷ x ∷ bs)) ≡ true
            → hexadecimal wanted is_byte (crlf bs) ≡ (if full then numbered (2 + n) is_byte (digits_value 16 (take n bs)) else broken (2 + n) (drop n (crlf bs)))
            → FoundCrlf (92 ∷ x ∷ bs) (if full then numbered (2 + n) is_byte (digits_value 16 (take n bs)) else broken (2 + n) (drop n bs)) (hexadecimal wanted is_byte (crlf bs))
        test true n left rest e = numbered_crlf (92 ∷ x ∷ bs) (2 + n) is_byte (digits_value 16 (take n bs)) _ left rest e
        test false n left rest e = broken_crlf (92 ∷ x ∷ bs) (2 + n) (drop n bs) _

octal_crlf : (is_byte : Bool) (bs : Text) → apart 0 bs ≡ true → FoundCrlf (92 ∷ bs) (octal is_byte bs) (octal is_byte (crlf bs))
octal_crlf is_byte bs more = go (prefix_len is_octal_digit (take 3 bs)) refl
  where
    by : ℕ → Text → Found
    by n text = numbered (1 + n) is_byte (digits_value 8 (take n text))

    go : (n : ℕ) → prefix_len is_octal_digit (take 3 bs) ≡ n → FoundCrlf (92 ∷ bs) (by n bs) (octal is_byte (crlf bs))
    go n e =
        let run = run_in is_octal_digit 3 bs octal_line in
        let plain_run = digits_run is_octal_digit 3 bs octal_plain in
        let front = crlf_front n bs (subst (λ k. k ≤ length bs) e run.1) (subst (λ k. in_line (take k bs) ≡ true) e run.0) in
        let one : 1 + n ≡ suc n = omega arith in
        let left : drop (1 + n) (crlf (92 ∷ bs)) ≡ crlf (drop (1 + n) (92 ∷ bs)) = rw (one) front.1 in
        let rest : apart 0 (drop (1 + n) (92 ∷ bs)) ≡ true = rw (one) (apart_plain n bs (subst (λ k. is_plain (take k bs) ≡ true) e plain_run.1) more) in
        let same : octal is_byte (crlf bs) ≡ by n (crlf bs) = ap (λ k. by k (crlf bs)) (run_crlf is_octal_digit 3 bs refl refl ∙ e) in
        numbered_crlf (92 ∷ bs) (1 + n) is_byte (digits_value 8 (take n bs)) _ left rest (same ∙ ap (λ (t : Text). numbered (1 + n) is_byte (digits_value 8 t)) front.0)

-- a character after so many bytes
character_crlf : (b : ℕ) (bs : Text) → is_lf b ≡ false → apart 0 (b ∷ bs) ≡ true
    → (first_character (b ∷ crlf bs) ≡ first_character (b ∷ bs)) × (drop (length (first_character (b ∷ bs))) (b ∷ crlf bs) ≡ crlf (drop (length (first_character (b ∷ bs))) (b ∷ bs))) × (apart 0 (drop (length (first_character (b ∷ bs))) (b ∷ bs)) ≡ true)
character_crlf b bs plain h = let rest = rest_crlf (continuation_len b) bs h in (ap (λ (t : Text). b ∷ t) rest.same, rest.left, rest.apart)

simple_crlf : (b : ℕ) (bs : Text) (value : Option ℕ) → is_lf b ≡ false → b < 128 ⊎ (value ≡ None) → apart 0 (b ∷ bs) ≡ true → FoundCrlf (92 ∷ b ∷ bs) (simple value (first_character (b ∷ bs))) (simple value (first_character (b ∷ crlf bs)))
simple_crlf b bs None plain known h =
    let rest = character_crlf b bs plain h in
    let len : 1 + length (first_character (b ∷ bs)) ≡ suc (length (first_character (b ∷ bs))) = omega arith in
    same_item (92 ∷ b ∷ bs) (1 + length (first_character (b ∷ bs))) (92 ∷ first_character (b ∷ bs)) _
    (rw (len) (ap (drop (length (first_character (b ∷ bs)))) (form_other b bs plain) ∙ rest.1)) (rw (len) rest.2) (ap (simple None) rest.0)
simple_crlf b bs (Some value) plain known h =
    same_item (92 ∷ b ∷ bs) 2 (value ∷ []) _ (ap (drop 1) (form_other b bs plain)) (small known) refl
  where
    small : b < 128 ⊎ (Some value ≡ None) → apart 0 bs ≡ true
    small (inl low) = subst (λ n. apart n bs ≡ true) (low_byte b low) h
    small (inr none) = cc

-- the bytes of simple escapes are ASCII
looked_up : (b : ℕ) → b < 128 ⊎ (lookup (nat_eq b) simple_escapes ≡ None)
unfolding simple_escapes
looked_up b = go (cases_lt b 128)
  where
    go : (b < 128) ⊎ (128 ≤ b) → b < 128 ⊎ (lookup (nat_eq b) simple_escapes ≡ None)
    go (inl low) = inl low
    go (inr high) = inr (grind (arith, nat_tests))

escape_crlf : (kind : Kind) (bs : Text) → no_return bs ≡ true → apart 0 bs ≡ true → FoundCrlf (92 ∷ bs) (escape kind bs) (escape kind (crlf bs))
unfolding escape
escape_crlf kind [] h more = broken_crlf (92 ∷ []) 1 [] (escape kind [])
escape_crlf kind (b ∷ bs) h more = go (is_lf b) refl
  where
    parts : (not (b == 13) ≡ true) × (no_return bs ≡ true)
    parts = and_parts (not (b == 13)) (no_return bs) h

    P : Found → Found → Type 0
    P = FoundCrlf (92 ∷ b ∷ bs)

    ascii : b < 128 → apart 0 bs ≡ true
    ascii low = subst (λ n. apart n bs ≡ true) (low_byte b low) more

    letter : (c : ℕ) → c < 128 → (b == c) ≡ true → apart 0 bs ≡ true
    letter c low e = ascii (omega (arith, low, eqb-true b c e))

    other : is_lf b ≡ false → FoundCrlf (92 ∷ b ∷ bs) (escape kind (b ∷ bs)) (escape kind (b ∷ crlf bs))
    other plain =
        both (FoundCrlf (92 ∷ b ∷ bs)) (b == byte "\n") _ _ _ _ (λ e. let wrong : true ≡ false = sym e ∙ plain in cc) (λ e.
        both (FoundCrlf (92 ∷ b ∷ bs)) (b == byte "\r") _ _ _ _ (λ e. let wrong : not true ≡ true = subst (λ (t : Bool). not t ≡ true) e parts.0 in cc) (λ e.
        both (FoundCrlf (92 ∷ b ∷ bs)) (b == byte "x") _ _ _ _ (λ e. hexadecimal_crlf b 2 (is_of_bytes kind) bs plain (letter 120 (omega arith) e)) (λ e.
        both (FoundCrlf (92 ∷ b ∷ bs)) (b == byte "u") _ _ _ _ (λ e. hexadecimal_crlf b 4 false bs plain (letter 117 (omega arith) e)) (λ e.
        both (FoundCrlf (92 ∷ b ∷ bs)) (b == byte "U") _ _ _ _ (λ e. hexadecimal_crlf b 8 false bs plain (letter 85 (omega arith) e)) (λ e.
        both (FoundCrlf (92 ∷ b ∷ bs)) (is_octal_digit b) _ _ _ _ (λ e. subst (λ (t : Text). FoundCrlf (92 ∷ b ∷ bs) (octal (is_of_bytes kind) (b ∷ bs)) (octal (is_of_bytes kind) t)) (form_other b bs plain) (octal_crlf (is_of_bytes kind) (b ∷ bs) more)) (λ e.
        simple_crlf b bs (lookup (nat_eq b) simple_escapes) plain (looked_up b) more))))))

    feed : (c : ℕ) → c ≡ 10 → apart 0 (c ∷ bs) ≡ true → FoundCrlf (92 ∷ c ∷ bs) (escape kind (c ∷ bs)) (escape kind (13 ∷ 10 ∷ crlf bs))
    feed c e k = subst (λ c. apart 0 (c ∷ bs) ≡ true → FoundCrlf (92 ∷ c ∷ bs) (escape kind (c ∷ bs)) (escape kind (13 ∷ 10 ∷ crlf bs))) (sym e) (λ k. (record { len = 3; value = [] }, refl, refl, refl, k)) k

    go : (lf_search : Bool) → is_lf b ≡ lf_search → FoundCrlf (92 ∷ b ∷ bs) (escape kind (b ∷ bs)) (escape kind (if lf_search then 13 ∷ 10 ∷ crlf bs else b ∷ crlf bs))
    go true e = feed b (eqb-true b 10 e) more
    go false e = other e

-- a raw backslash that no LF follows
raw_pair_crlf : (kind : Kind) (quote : Quote) (bs : Text) → starts_with nat_eq bs (codes "\n") ≡ false → apart 0 bs ≡ true → FoundCrlf (92 ∷ bs) (raw_pair kind quote bs) (raw_pair kind quote (crlf bs))
unfolding raw_pair
raw_pair_crlf kind quote [] other more = λ closed. cc
raw_pair_crlf kind quote (b ∷ bs) other more =
    let plain : is_lf b ≡ false = not_feed b bs other in
    let rest = character_crlf b bs plain more in
    let len : 1 + length (first_character (b ∷ bs)) ≡ suc (length (first_character (b ∷ bs))) = omega arith in
    same_item (92 ∷ b ∷ bs) (1 + length (first_character (b ∷ bs))) (if drops_backslash kind quote b then first_character (b ∷ bs) else byte "\\" ∷ first_character (b ∷ bs)) _
    (rw (len) (ap (drop (length (first_character (b ∷ bs)))) (form_other b bs plain) ∙ rest.1)) (rw (len) rest.2)
    (ap (raw_pair kind quote) (form_other b bs plain) ∙ ap (λ (character : Text). goes (1 + length character) (if drops_backslash kind quote b then character else byte "\\" ∷ character)) rest.0)
  where
    not_feed : (b : ℕ) (bs : Text) → starts_with nat_eq (b ∷ bs) (codes "\n") ≡ false → is_lf b ≡ false
    not_feed b bs h = go (is_lf b) refl
      where
        go : (feed : Bool) → is_lf b ≡ feed → feed ≡ false
        go false e = refl
        go true e = let wrong : true ≡ false = subst (λ c. starts_with nat_eq (c ∷ bs) (codes "\n") ≡ false) (eqb-true b 10 e) h in cc

brace_crlf : (kind : Kind) (b : ℕ) (bs : Text) → is_brace kind b ≡ true → no_return bs ≡ true → apart 0 (b ∷ bs) ≡ true → FoundCrlf (b ∷ bs) (brace b bs) (brace b (crlf bs))
brace_crlf kind b [] h k more = same_stop (b ∷ []) (if b == byte "{" then OpeningBrace else ClosingBrace)
brace_crlf kind b (c ∷ cs) h k more = go (is_lf c) refl
  where
    low : (kind : Kind) → is_brace kind b ≡ true → (b < 128) × (is_lf b ≡ false) × (nat_eq b 13 ≡ false)
    low OfFString h = (grind (arith, nat_tests), grind (arith, nat_tests), grind (arith, nat_tests))
    low OfText h = cc
    low OfBytes h = cc

    stop : Stop
    stop = if b == byte "{" then OpeningBrace else ClosingBrace

    remainder : apart 0 (c ∷ cs) ≡ true
    remainder = subst (λ n. apart n (c ∷ cs) ≡ true) (low_byte b (low kind h).0) more

    go : (lf_search : Bool) → is_lf c ≡ lf_search → FoundCrlf (b ∷ c ∷ cs) (brace b (c ∷ cs)) (brace b (if lf_search then 13 ∷ 10 ∷ crlf cs else c ∷ crlf cs))
    go true e =
        let other : (b == c) ≡ false = ap (λ n. b == n) (eqb-true c 10 e) ∙ (low kind h).1 in
        rw (other, (low kind h).2) (λ closed. refl)
    go false e = both (FoundCrlf (b ∷ c ∷ cs)) (b == c) _ _ _ _
        (λ same. same_item (b ∷ c ∷ cs) 2 (b ∷ []) _ (drop_two (low kind h).1 e) (subst (λ n. apart n cs ≡ true) (low_byte c (omega (arith, (low kind h).0, eqb-true b c same))) remainder) refl)
        (λ differs. λ closed. refl)
      where
        drop_two : is_lf b ≡ false → is_lf c ≡ false → drop 2 (crlf (b ∷ c ∷ cs)) ≡ crlf (drop 2 (b ∷ c ∷ cs))
        drop_two f e = rw (f, e) refl

-- What stands at a place that no LF begins.
found_crlf : (literal : Literal) (b : ℕ) (bs : Text) → is_lf b ≡ false → not (b == 13) ≡ true → no_return bs ≡ true → apart 0 (b ∷ bs) ≡ true
    → ((b == byte "\\" && literal.opening.is_raw) ≡ true → starts_with nat_eq bs (codes "\n") ≡ false) → FoundCrlf (b ∷ bs) (found_at literal (b ∷ bs)) (found_at literal (b ∷ crlf bs))
unfolding found_at
found_crlf literal b bs plain returned h more raw =
    both_equal (FoundCrlf (b ∷ bs)) (starts_with nat_eq (b ∷ bs) (closing_quotes literal.opening)) (starts_with nat_eq (b ∷ crlf bs) (closing_quotes literal.opening)) _ _ _ _ starts (λ closed. refl)
    (both (FoundCrlf (b ∷ bs)) (b == byte "\n" && not literal.opening.is_triple) _ _ _ _ (λ e. λ closed. cc) (λ e.
    both (FoundCrlf (b ∷ bs)) (b == byte "\r") _ _ _ _ (λ e. let wrong : not true ≡ true = subst (λ (t : Bool). not t ≡ true) e returned in cc) (λ e.
    both (FoundCrlf (b ∷ bs)) (b == byte "\\" && literal.opening.is_raw) _ _ _ _ (λ e. slash _ _ (and_parts (b == byte "\\") literal.opening.is_raw e).0 (λ more. raw_pair_crlf literal.kind literal.opening.quote bs (raw e) more)) (λ e.
    both (FoundCrlf (b ∷ bs)) (b == byte "\\") _ _ _ _ (λ e. slash _ _ e (λ more. escape_crlf literal.kind bs h more)) (λ e.
    both (FoundCrlf (b ∷ bs)) (is_brace literal.kind b) _ _ _ _ (λ e. brace_crlf literal.kind b bs e h more) (λ e.
    let rest = character_crlf b bs plain more in
    same_item (b ∷ bs) (length (first_character (b ∷ bs))) (first_character (b ∷ bs)) _ (ap (drop (length (first_character (b ∷ bs)))) (form_other b bs plain) ∙ rest.1) rest.2
    (ap (λ (character : Text). goes (length character) character) rest.0)))))))
  where
    starts : starts_with nat_eq (b ∷ crlf bs) (closing_quotes literal.opening) ≡ starts_with nat_eq (b ∷ bs) (closing_quotes literal.opening)
    starts = ap (λ (t : Text). starts_with nat_eq t (closing_quotes literal.opening)) (sym (form_other b bs plain)) ∙ starts_crlf (b ∷ bs) (closing_quotes literal.opening) (closing_in_line literal.opening)

    slash : (one other : Found) → (b == byte "\\") ≡ true → (apart 0 bs ≡ true → FoundCrlf (92 ∷ bs) one other) → FoundCrlf (b ∷ bs) one other
    slash one other e f =
        let same : b ≡ 92 = eqb-true b 92 e in
        subst (λ c. FoundCrlf (c ∷ bs) one other) (sym same) (f (subst (λ c. apart 0 (c ∷ bs) ≡ true) same more))

-- quotes begin with no byte of a line end, and no backslash
quote_other : (literal : Literal) (b : ℕ) (bs : Text) → nat_eq 39 b ≡ false → nat_eq 34 b ≡ false → starts_with nat_eq (b ∷ bs) (closing_quotes literal.opening) ≡ false
quote_other literal b bs single double = go literal.opening.is_triple literal.opening.quote
  where
    go : (triple : Bool) (quote : Quote) → starts_with nat_eq (b ∷ bs) (closing_quotes (record { is_raw = literal.opening.is_raw; quote = quote; is_triple = triple })) ≡ false
    go true SingleQuote = rw (single) refl
    go true DoubleQuote = rw (double) refl
    go false SingleQuote = rw (single) refl
    go false DoubleQuote = rw (double) refl

no_brace : (kind : Kind) → is_brace kind 10 ≡ false
no_brace OfText = refl
no_brace OfBytes = refl
no_brace OfFString = refl

-- what stands at an LF, …
found_feed : (literal : Literal) (bs : Text) → found_at literal (10 ∷ bs) ≡ (if literal.opening.is_triple then goes 1 (10 ∷ []) else Stops Line)
unfolding found_at
found_feed literal bs = rw (quote_other literal 10 bs refl refl) (go literal.opening.is_triple (no_brace literal.kind))
  where
    go : (triple : Bool) → is_brace literal.kind 10 ≡ false
        → (if not triple then Stops Line else (if is_brace literal.kind 10 then brace 10 bs else goes 1 (10 ∷ []))) ≡ (if triple then goes 1 (10 ∷ []) else Stops Line)
    go true e = rw (e) refl
    go false e = refl

-- … at a CR, …
found_return : (literal : Literal) (bs : Text) → found_at literal (13 ∷ bs) ≡ goes 1 []
unfolding found_at
found_return literal bs = rw (quote_other literal 13 bs refl refl) refl

-- … and at a raw backslash that an LF follows
found_raw : (literal : Literal) (cs : Text) → literal.opening.is_raw ≡ true → (value : Text) × (found_at literal (92 ∷ 10 ∷ cs) ≡ goes 2 value)
unfolding found_at raw_pair
found_raw literal cs raw = (if drops_backslash literal.kind literal.opening.quote 10 then 10 ∷ [] else 92 ∷ 10 ∷ [], rw (quote_other literal 92 (10 ∷ cs) refl refl, raw) refl)

-- Bodies

-- the body after an item
from_is : (literal : Literal) (passed : ℕ) (text : Text) → body_from literal passed text ≡ body_at literal (drop passed text)
unfolding body_from body_at
from_is literal zero text = refl
from_is literal (suc passed) [] = refl
from_is literal (suc passed) (b ∷ bs) = from_is literal passed bs

abbrev with_item : Item → Body → Body
with_item item rest = record { items = item ∷ rest.items; stop = rest.stop }

unrolled : (literal : Literal) (b : ℕ) (bs : Text) → body_at literal (b ∷ bs) ≡ body_onward (found_at literal (b ∷ bs)) (λ passed. body_from literal passed bs)
unfolding body_at body_from
unrolled literal b bs = refl

body_item : (literal : Literal) (b : ℕ) (bs : Text) (item : Item) → found_at literal (b ∷ bs) ≡ Goes item → 1 ≤ item.len → body_at literal (b ∷ bs) ≡ with_item item (body_at literal (drop item.len (b ∷ bs)))
body_item literal b bs item e some =
    unrolled literal b bs ∙ ap (λ (found : Found). body_onward found (λ passed. body_from literal passed bs)) e
    ∙ ap (with_item item) (from_is literal (item.len - 1) bs ∙ ap (body_at literal) (sym (drop-remainder item.len b bs some)))

some_item : (literal : Literal) (text : Text) (item : Item) → found_at literal text ≡ Goes item → 1 ≤ item.len
some_item literal text item e = (subst (FoundFits literal.opening text) e (found_fits literal text)).0

-- A body that is closed has the same stop and value in the form, and the form of what is left after it.
pub record BodyCrlf (literal : Literal) (text : Text) (body : Body) : Type 0 where
  pub stop : (body_at literal (crlf text)).stop ≡ body.stop
  pub value : body_value (body_at literal (crlf text)) ≡ body_value body
  pub left : drop (body_len (body_at literal (crlf text))) (crlf text) ≡ crlf (drop (body_len body) text)

item_total : (item : Item) (rest : Body) → body_len (with_item item rest) ≡ item.len + body_len rest
item_total item rest = sum_by-cons (λ (item : Item). item.len) item rest.items

item_left : (item : Item) (rest : Body) (text : Text) → drop (body_len (with_item item rest)) text ≡ drop (body_len rest) (drop item.len text)
item_left item rest text = ap (λ n. drop n text) (item_total item rest) ∙ drop-sum item.len (body_len rest) text

item_onward : (literal : Literal) (text : Text) (item form : Item) (rest : Body) → body_at literal (crlf text) ≡ with_item form (body_at literal (drop form.len (crlf text))) → form.value ≡ item.value → drop form.len (crlf text) ≡ crlf (drop item.len text)
    → BodyCrlf literal (drop item.len text) rest → BodyCrlf literal text (with_item item rest)
item_onward literal text item form rest e same left again =
    let other : Body = body_at literal (crlf (drop item.len text)) in
    let whole : body_at literal (crlf text) ≡ with_item form (body_at literal (crlf (drop item.len text))) = e ∙ ap (λ (t : Text). with_item form (body_at literal t)) left in
    record {
      stop = ap (λ (body : Body). body.stop) whole ∙ again.stop;
      value = ap body_value whole ∙ ap (λ (v : Text). v ++ body_value (body_at literal (crlf (drop item.len text)))) same ∙ ap (λ (v : Text). item.value ++ v) again.value;
      left = ap (λ (body : Body). drop (body_len body) (crlf text)) whole ∙ item_left form other (crlf text) ∙ ap (drop (body_len other)) left ∙ again.left ∙ ap crlf (sym (item_left item rest text));
    }

-- an LF in a triple literal
feed_onward : (literal : Literal) (bs : Text) (rest : Body) → literal.opening.is_triple ≡ true → BodyCrlf literal bs rest → BodyCrlf literal (10 ∷ bs) (with_item (record { len = 1; value = 10 ∷ [] }) rest)
feed_onward literal bs rest triple again =
    let here : found_at literal (10 ∷ crlf bs) ≡ goes 1 (10 ∷ []) = found_feed literal (crlf bs) ∙ ap (λ (t : Bool). if t then goes 1 (10 ∷ []) else Stops Line) triple in
    let second : body_at literal (10 ∷ crlf bs) ≡ with_item (record { len = 1; value = 10 ∷ [] }) (body_at literal (crlf bs)) = body_item literal 10 (crlf bs) (record { len = 1; value = 10 ∷ [] }) here (omega arith) in
    let whole : body_at literal (13 ∷ 10 ∷ crlf bs) ≡ with_item (record { len = 1; value = [] }) (with_item (record { len = 1; value = 10 ∷ [] }) (body_at literal (crlf bs))) =
    body_item literal 13 (10 ∷ crlf bs) (record { len = 1; value = [] }) (found_return literal (10 ∷ crlf bs)) (omega arith) ∙ ap (with_item (record { len = 1; value = [] })) second in
    record {
      stop = ap (λ (body : Body). body.stop) whole ∙ again.stop;
      value = ap body_value whole ∙ ap (λ (v : Text). 10 ∷ v) again.value;
      left = ap (λ (body : Body). drop (body_len body) (13 ∷ 10 ∷ crlf bs)) whole
          ∙ item_left (record { len = 1; value = [] }) (with_item (record { len = 1; value = 10 ∷ [] }) (body_at literal (crlf bs))) (13 ∷ 10 ∷ crlf bs)
          ∙ item_left (record { len = 1; value = 10 ∷ [] }) (body_at literal (crlf bs)) (10 ∷ crlf bs) ∙ again.left
          ∙ ap crlf (sym (item_left (record { len = 1; value = 10 ∷ [] }) rest (10 ∷ bs)));
    }

-- Raw bodies hold no backslash right before an LF.
abbrev pub RawApart : Literal → Text → Body → Type 0
RawApart literal text body = literal.opening.is_raw ≡ true → holds_escaped_newline (take (body_len body) text) ≡ false

raw_apart : (literal : Literal) (b : ℕ) (bs : Text) (rest : ℕ → Body) → RawApart literal (b ∷ bs) (body_onward (found_at literal (b ∷ bs)) rest) → (b == byte "\\" && literal.opening.is_raw) ≡ true → starts_with nat_eq bs (codes "\n") ≡ false
raw_apart literal b bs rest none e = go (starts_with nat_eq bs (codes "\n")) refl
  where
    parts : ((b == byte "\\") ≡ true) × (literal.opening.is_raw ≡ true)
    parts = and_parts (b == byte "\\") literal.opening.is_raw e

    go : (starts : Bool) → starts_with nat_eq bs (codes "\n") ≡ starts → starts ≡ false
    go false f = refl
    go true f =
        let cs : Text = drop 1 bs in
        let same : b ∷ bs ≡ 92 ∷ 10 ∷ drop 1 bs = ap (λ c. c ∷ bs) (eqb-true b 92 parts.0) ∙ ap (λ (t : Text). 92 ∷ t) (starts_split bs (codes "\n") f) in
        let found = found_raw literal (drop 1 bs) parts.1 in
        let item : Item = record { len = 2; value = found.0 } in
        let len : body_len (body_onward (found_at literal (92 ∷ 10 ∷ drop 1 bs)) rest) ≡ suc (suc (body_len (rest 1))) =
        ap (λ (found : Found). body_len (body_onward found rest)) found.1 ∙ item_total item (rest 1) ∙ omega arith in
        let holds : holds_escaped_newline (take (body_len (body_onward (found_at literal (92 ∷ 10 ∷ drop 1 bs)) rest)) (92 ∷ 10 ∷ drop 1 bs)) ≡ false =
        subst (λ (t : Text). holds_escaped_newline (take (body_len (body_onward (found_at literal t) rest)) t) ≡ false) same (none parts.1) in
        sym (ap (λ n. holds_escaped_newline (take n (92 ∷ 10 ∷ drop 1 bs))) len) ∙ holds

pub holds_drop : (n : ℕ) (text : Text) → holds_escaped_newline text ≡ false → holds_escaped_newline (drop n text) ≡ false
holds_drop zero text h = h
holds_drop (suc n) [] h = h
holds_drop (suc n) (b ∷ bs) h = holds_drop n bs (go (b == byte "\\" && starts_with nat_eq bs (codes "\n")) h)
  where
    go : (test : Bool) → (test || holds_escaped_newline bs) ≡ false → holds_escaped_newline bs ≡ false
    go true e = cc
    go false e = e

body_from_crlf : (literal : Literal) (passed : ℕ) (text : Text) → no_return text ≡ true → apart 0 (drop passed text) ≡ true → RawApart literal (drop passed text) (body_from literal passed text) → is_closed (body_from literal passed text).stop ≡ true
    → BodyCrlf literal (drop passed text) (body_from literal passed text)
unfolding body_from
body_from_crlf literal zero [] h more raw closed = cc
body_from_crlf literal (suc passed) [] h more raw closed = cc
body_from_crlf literal (suc passed) (b ∷ bs) h more raw closed = body_from_crlf literal passed bs (and_parts (not (b == 13)) (no_return bs) h).1 more raw closed
body_from_crlf literal zero (b ∷ bs) h more raw closed = by (is_lf b) refl (λ passed. body_from_crlf literal passed bs parts.1)
  where
    parts : (not (b == 13) ≡ true) × (no_return bs ≡ true)
    parts = and_parts (not (b == 13)) (no_return bs) h

    rest : ℕ → Body
    rest passed = body_from literal passed bs

    Again : Type 0
    Again = (passed : ℕ) → apart 0 (drop passed bs) ≡ true → RawApart literal (drop passed bs) (body_from literal passed bs) → is_closed (body_from literal passed bs).stop ≡ true → BodyCrlf literal (drop passed bs) (body_from literal passed bs)

    -- what is left after an item
    remainder : (item : Item) → 1 ≤ item.len → RawApart literal (b ∷ bs) (with_item item (body_from literal (item.len - 1) bs)) → RawApart literal (drop (item.len - 1) bs) (body_from literal (item.len - 1) bs)
    remainder item some none is_raw =
        let all = none is_raw in
        let total : take (body_len (with_item item (body_from literal (item.len - 1) bs))) (b ∷ bs) ≡ take (item.len + body_len (body_from literal (item.len - 1) bs)) (b ∷ bs) = ap (λ n. take n (b ∷ bs)) (item_total item (body_from literal (item.len - 1) bs)) in
        let dropped : drop item.len (take (item.len + body_len (body_from literal (item.len - 1) bs)) (b ∷ bs)) ≡ take (body_len (body_from literal (item.len - 1) bs)) (drop (item.len - 1) bs) =
        drop-take item.len (body_len (body_from literal (item.len - 1) bs)) (b ∷ bs) ∙ ap (take (body_len (body_from literal (item.len - 1) bs))) (drop-remainder item.len b bs some) in
        subst (λ (t : Text). holds_escaped_newline t ≡ false) (ap (drop item.len) total ∙ dropped) (holds_drop item.len (take (body_len (with_item item (body_from literal (item.len - 1) bs))) (b ∷ bs)) all)

    feed : (b : ℕ) → b ≡ 10 → apart 0 (b ∷ bs) ≡ true → RawApart literal (b ∷ bs) (body_onward (found_at literal (b ∷ bs)) rest) → is_closed (body_onward (found_at literal (b ∷ bs)) rest).stop ≡ true → Again
        → BodyCrlf literal (b ∷ bs) (body_onward (found_at literal (b ∷ bs)) rest)
    feed b e more raw closed again = go (found_at literal (b ∷ bs)) (ap (λ c. found_at literal (c ∷ bs)) e ∙ found_feed literal bs) literal.opening.is_triple refl closed raw
      where
        go : (found : Found) → found ≡ (if literal.opening.is_triple then goes 1 (10 ∷ []) else Stops Line) → (triple : Bool) → literal.opening.is_triple ≡ triple → is_closed (body_onward found rest).stop ≡ true → RawApart literal (b ∷ bs) (body_onward found rest)
            → BodyCrlf literal (b ∷ bs) (body_onward found rest)
        go (Stops stop) f true t closed raw = let wrong : Stops stop ≡ goes 1 (10 ∷ []) = f ∙ ap (λ (t : Bool). if t then goes 1 (10 ∷ []) else Stops Line) t in cc
        go (Stops stop) f false t closed raw =
            let line : Stops stop ≡ Stops Line = f ∙ ap (λ (t : Bool). if t then goes 1 (10 ∷ []) else Stops Line) t in
            let same : stop ≡ Line = cc in
            let wrong : true ≡ false = sym closed ∙ ap is_closed same in cc
        go (Goes item) f false t closed raw = let wrong : Goes item ≡ Stops Line = f ∙ ap (λ (t : Bool). if t then goes 1 (10 ∷ []) else Stops Line) t in cc
        go (Goes item) f true t closed raw =
            let goes_on : Goes item ≡ goes 1 (10 ∷ []) = f ∙ ap (λ (t : Bool). if t then goes 1 (10 ∷ []) else Stops Line) t in
            let same : item ≡ record { len = 1; value = 10 ∷ [] } = cc in
            let rest_apart : apart 0 bs ≡ true = subst (λ c. apart 0 (c ∷ bs) ≡ true) e more in
            subst (λ c. BodyCrlf literal (c ∷ bs) (body_onward (Goes item) rest)) (sym e)
            (subst (λ (i : Item). BodyCrlf literal (10 ∷ bs) (body_onward (Goes i) rest)) (sym same)
            (feed_onward literal bs (body_from literal 0 bs) t
            (again 0 rest_apart (one_less (subst (λ (i : Item). RawApart literal (b ∷ bs) (body_onward (Goes i) rest)) same raw)) (subst (λ (i : Item). is_closed (body_onward (Goes i) rest).stop ≡ true) same closed))))
          where
            one_less : RawApart literal (b ∷ bs) (with_item (record { len = 1; value = 10 ∷ [] }) (body_from literal 0 bs)) → RawApart literal bs (body_from literal 0 bs)
            one_less none is_raw =
                let one : body_len (with_item (record { len = 1; value = 10 ∷ [] }) (body_from literal 0 bs)) ≡ suc (body_len (body_from literal 0 bs)) = item_total (record { len = 1; value = 10 ∷ [] }) (body_from literal 0 bs) ∙ omega arith in
                holds_drop 1 (take (suc (body_len (body_from literal 0 bs))) (b ∷ bs)) (subst (λ n. holds_escaped_newline (take n (b ∷ bs)) ≡ false) one (none is_raw))

    by : (lf_search : Bool) → is_lf b ≡ lf_search → Again → BodyCrlf literal (b ∷ bs) (body_onward (found_at literal (b ∷ bs)) rest)
    by true e again = feed b (eqb-true b 10 e) more raw closed again
    by false e again = go (found_at literal (b ∷ bs)) refl (found_crlf literal b bs e parts.0 parts.1 more (raw_apart literal b bs rest raw)) raw closed
      where
        go : (found : Found) → found_at literal (b ∷ bs) ≡ found → FoundCrlf (b ∷ bs) found (found_at literal (b ∷ crlf bs)) → RawApart literal (b ∷ bs) (body_onward found rest) → is_closed (body_onward found rest).stop ≡ true → BodyCrlf literal (b ∷ bs) (body_onward found rest)
        go (Stops stop) f other raw closed =
            let whole : body_at literal (crlf (b ∷ bs)) ≡ record { items = []; stop = stop } =
            ap (body_at literal) (form_other b bs e) ∙ unrolled literal b (crlf bs) ∙ ap (λ (found : Found). body_onward found (λ passed. body_from literal passed (crlf bs))) (other closed) in
            record {
              stop = ap (λ (body : Body). body.stop) whole;
              value = ap body_value whole;
              left = ap (λ (body : Body). drop (body_len body) (crlf (b ∷ bs))) whole;
            }
        go (Goes item) f other raw closed =
            let some = some_item literal (b ∷ bs) item f in
            let left : drop item.len (b ∷ bs) ≡ drop (item.len - 1) bs = drop-remainder item.len b bs some in
            let form : Item = other.0 in
            let some_form = some_item literal (b ∷ crlf bs) other.0 other.1 in
            let whole : body_at literal (crlf (b ∷ bs)) ≡ with_item other.0 (body_at literal (drop other.0.len (crlf (b ∷ bs)))) =
            subst (λ (t : Text). body_at literal t ≡ with_item other.0 (body_at literal (drop other.0.len t))) (sym (form_other b bs e)) (body_item literal b (crlf bs) other.0 other.1 some_form) in
            item_onward literal (b ∷ bs) item other.0 (body_from literal (item.len - 1) bs) whole other.2 other.3
            (subst (λ (t : Text). BodyCrlf literal t (body_from literal (item.len - 1) bs)) (sym left) (again (item.len - 1) (subst (λ (t : Text). apart 0 t ≡ true) left other.4) (remainder item some raw) closed))

pub body_crlf : (literal : Literal) (text : Text) → no_return text ≡ true → apart 0 text ≡ true → RawApart literal text (body_at literal text) → is_closed (body_at literal text).stop ≡ true → BodyCrlf literal text (body_at literal text)
unfolding body_at
body_crlf literal text h more raw closed = body_from_crlf literal 0 text h more raw closed
