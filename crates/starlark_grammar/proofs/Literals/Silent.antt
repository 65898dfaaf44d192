-- A body that denotes nothing is a gap: its items are CRs and escaped line ends.
use Rattle.std.proofs.Common.{◌≡◌, ℕ, zero, suc, ◌+◌, ◌-◌, ◌≤◌, Bool, true, false, not, [], ◌∷◌, ◌++◌, length, take, drop, refl, sym, subst, Option, Some, None, arith, nat_eq}
use Rattle.std.specs.Prelude.{⊤, ◌==◌, ◌&&◌, if◌then◌else◌, nat_lt, encode_utf8}
use Rattle.std.specs.Char.{is_ascii_hexdigit, len_utf8}
use Rattle.std.specs.List.{prefix_len, starts_with}
use Rattle.std.specs.Map.{lookup}
use Rattle.std.specs.Str.{byte}
use Rattle.std.specs.Str.Parse.{digits_value}
use Rattle.std.proofs.lemmas.Bool.{eqb-true}
use Rattle.std.proofs.lemmas.Bool.Decides.{nat_tests}
use Rattle.std.proofs.lemmas.Str.{length-encode}
use Rattle.std.proofs.lemmas.List.Sums.{sum_by-cons}
use Rattle.starlark_grammar.specs.Words.{Text, Quote, Kind, is_octal_digit}
use Rattle.starlark_grammar.specs.Items.{Literal, Item, Stop, Found, Goes, Stops, goes, closing_quotes, broken, is_character, numbered, hexadecimal, escaped_newline, simple_escapes, simple, is_of_bytes, escape, drops_backslash, raw_pair, brace, is_brace, found_at, Body, body_len, body_value, body_onward, body_from, body_at, OpeningBrace, ClosingBrace}
use Rattle.starlark_grammar.specs.FrontCharacter.{first_character}
use Rattle.starlark_grammar.specs.Gaps.{is_gap_byte, IsGap}
use Rattle.starlark_grammar.proofs.Lists.{drop-remainder}
use Rattle.starlark_grammar.proofs.Literals.Bodies.{FoundFits, found_fits}
use Rattle.starlark_grammar.proofs.Order.Gaps.{gap_none, gap_join, gap_shift, word_gap}
use Rattle.starlark_grammar.proofs.Choices.{either, when}

-- an item that denotes nothing is a gap
abbrev Silent : Text → Found → Type 0
Silent text (Goes item) = item.value ≡ [] → IsGap text 0 item.len
Silent text (Stops stop) = ⊤

loud : (text : Text) (len b : ℕ) (bs : Text) → Silent text (goes len (b ∷ bs))
loud text len b bs e = cc

broken_silent : (text : Text) (good : ℕ) (remainder : Text) → Silent text (broken good remainder)
broken_silent text good [] = tt
broken_silent text good (b ∷ bs) = tt

encode_loud : (text : Text) (len n : ℕ) → Silent text (goes len (encode_utf8 n))
encode_loud text len n = go (encode_utf8 n) (length-encode n)
  where
    some : 1 ≤ len_utf8 n
    some = grind (arith, nat_tests)

    go : (value : Text) → length value ≡ len_utf8 n → Silent text (goes len value)
    go [] e = absurd (omega (arith, e, some))
    go (b ∷ bs) e = loud text len b bs

numbered_silent : (text : Text) (len : ℕ) (is_byte : Bool) (n : ℕ) → Silent text (numbered len is_byte n)
numbered_silent text len true n = either (Silent text) (nat_lt n 256) _ _ (loud text len n []) (broken_silent text len [])
numbered_silent text len false n = either (Silent text) (is_character n) _ _ (encode_loud text len n) (broken_silent text len [])

hexadecimal_silent : (text : Text) (wanted : ℕ) (is_byte : Bool) (remainder : Text) → Silent text (hexadecimal wanted is_byte remainder)
hexadecimal_silent text wanted is_byte remainder = go (prefix_len is_ascii_hexdigit (take wanted remainder))
  where
    go : (n : ℕ) → Silent text (if n == wanted then numbered (2 + n) is_byte (digits_value 16 (take n remainder)) else broken (2 + n) (drop n remainder))
    go n = either (Silent text) (n == wanted) _ _ (numbered_silent text (2 + n) is_byte (digits_value 16 (take n remainder))) (broken_silent text (2 + n) (drop n remainder))

simple_silent : (text : Text) (value : Option ℕ) (character : Text) → Silent text (simple value character)
simple_silent text (Some value) character = loud text 2 value []
simple_silent text None character = loud text (1 + length character) 92 character

escaped_feed_silent : (bs : Text) → Silent (92 ∷ 13 ∷ bs) (escaped_newline bs)
unfolding is_gap_byte
escaped_feed_silent [] = tt
escaped_feed_silent (b ∷ bs) = when (Silent (92 ∷ 13 ∷ b ∷ bs)) (b == byte "\n") _ _
    (λ e none. let same : b ≡ 10 = eqb-true b 10 e in subst (λ c. IsGap (92 ∷ 13 ∷ c ∷ bs) 0 3) (sym same) (word_gap (92 ∷ 13 ∷ 10 ∷ []) bs refl))
    (broken_silent (92 ∷ 13 ∷ b ∷ bs) 2 (b ∷ bs))

escape_silent : (kind : Kind) (bs : Text) → Silent (92 ∷ bs) (escape kind bs)
unfolding escape is_gap_byte
escape_silent kind [] = tt
escape_silent kind (b ∷ bs) =
    let P : Found → Type 0 = Silent (92 ∷ b ∷ bs) in
    when P (b == byte "\n") _ _ (λ e none. let same : b ≡ 10 = eqb-true b 10 e in subst (λ c. IsGap (92 ∷ c ∷ bs) 0 2) (sym same) (word_gap (92 ∷ 10 ∷ []) bs refl))
    (when P (b == byte "\r") _ _ (λ e. let same : b ≡ 13 = eqb-true b 13 e in subst (λ c. Silent (92 ∷ c ∷ bs) (escaped_newline bs)) (sym same) (escaped_feed_silent bs))
    (either P (b == byte "x") _ _ (hexadecimal_silent (92 ∷ b ∷ bs) 2 (is_of_bytes kind) bs)
    (either P (b == byte "u") _ _ (hexadecimal_silent (92 ∷ b ∷ bs) 4 false bs)
    (either P (b == byte "U") _ _ (hexadecimal_silent (92 ∷ b ∷ bs) 8 false bs)
    (either P (is_octal_digit b) _ _ (numbered_silent (92 ∷ b ∷ bs) (1 + prefix_len is_octal_digit (take 3 (b ∷ bs))) (is_of_bytes kind) _)
    (simple_silent (92 ∷ b ∷ bs) (lookup (nat_eq b) simple_escapes) (first_character (b ∷ bs))))))))

raw_pair_silent : (text : Text) (kind : Kind) (quote : Quote) (bs : Text) → Silent text (raw_pair kind quote bs)
unfolding raw_pair
raw_pair_silent text kind quote [] = tt
raw_pair_silent text kind quote (b ∷ bs) = go (drops_backslash kind quote b)
  where
    go : (drops : Bool) → Silent text (goes (1 + length (first_character (b ∷ bs))) (if drops then first_character (b ∷ bs) else byte "\\" ∷ first_character (b ∷ bs)))
    go true = loud text (1 + length (first_character (b ∷ bs))) b _
    go false = loud text (1 + length (first_character (b ∷ bs))) 92 _

stops_silent : (text : Text) (test : Bool) (one other : Stop) → Silent text (Stops (if test then one else other))
stops_silent text true one other = tt
stops_silent text false one other = tt

brace_silent : (text : Text) (b : ℕ) (bs : Text) → Silent text (brace b bs)
brace_silent text b [] = stops_silent text (b == byte "{") OpeningBrace ClosingBrace
brace_silent text b (c ∷ cs) = either (Silent text) (b == c) _ _ (loud text 2 b []) (stops_silent text (b == byte "{") OpeningBrace ClosingBrace)

found_silent : (literal : Literal) (text : Text) → Silent text (found_at literal text)
unfolding found_at is_gap_byte
found_silent literal [] = tt
found_silent literal (b ∷ bs) =
    let P : Found → Type 0 = Silent (b ∷ bs) in
    either P (starts_with nat_eq (b ∷ bs) (closing_quotes literal.opening)) _ _ tt
    (either P (b == byte "\n" && not literal.opening.is_triple) _ _ tt
    (when P (b == byte "\r") _ _ (λ e none. let same : b ≡ 13 = eqb-true b 13 e in subst (λ c. IsGap (c ∷ bs) 0 1) (sym same) (word_gap (13 ∷ []) bs refl))
    (either P (b == byte "\\" && literal.opening.is_raw) _ _ (raw_pair_silent (b ∷ bs) literal.kind literal.opening.quote bs)
    (when P (b == byte "\\") _ _ (λ e. let same : b ≡ 92 = eqb-true b 92 e in subst (λ c. Silent (c ∷ bs) (escape literal.kind bs)) (sym same) (escape_silent literal.kind bs))
    (either P (is_brace literal.kind b) _ _ (brace_silent (b ∷ bs) b bs)
    (loud (b ∷ bs) (length (first_character (b ∷ bs))) b _))))))

no_front : (xs ys : Text) → xs ++ ys ≡ [] → (xs ≡ []) × (ys ≡ [])
no_front [] ys e = (refl, e)
no_front (x ∷ xs) ys e = cc

body_silent : (literal : Literal) (passed : ℕ) (text : Text) → body_value (body_from literal passed text) ≡ [] → IsGap (drop passed text) 0 (body_len (body_from literal passed text))
unfolding body_from
body_silent literal zero [] e = gap_none [] 0
body_silent literal (suc passed) [] e = gap_none [] 0
body_silent literal (suc passed) (b ∷ bs) e = body_silent literal passed bs e
body_silent literal zero (b ∷ bs) e = go (found_at literal (b ∷ bs)) (found_silent literal (b ∷ bs)) (found_fits literal (b ∷ bs)) (λ passed. body_silent literal passed bs) e
  where
    go : (found : Found) → Silent (b ∷ bs) found → FoundFits literal.opening (b ∷ bs) found → ((passed : ℕ) → body_value (body_from literal passed bs) ≡ [] → IsGap (drop passed bs) 0 (body_len (body_from literal passed bs)))
        → body_value (body_onward found (λ passed. body_from literal passed bs)) ≡ [] → IsGap (b ∷ bs) 0 (body_len (body_onward found (λ passed. body_from literal passed bs)))
    go (Stops stop) silent fits more e = gap_none (b ∷ bs) 0
    go (Goes item) silent fits more e =
        let rest : Body = body_from literal (item.len - 1) bs in
        let none = no_front item.value (body_value rest) e in
        let total : item.len + body_len rest ≡ body_len (record { items = item ∷ rest.items; stop = rest.stop }) = sym (sum_by-cons (λ (item : Item). item.len) item rest.items) in
        let left : drop (item.len - 1) bs ≡ drop item.len (b ∷ bs) = sym (drop-remainder item.len b bs fits.0) in
        let remainder : IsGap (drop item.len (b ∷ bs)) 0 (body_len rest) = subst (λ (t : Text). IsGap t 0 (body_len rest)) left (more (item.len - 1) none.1) in
        gap_join (b ∷ bs) 0 item.len _ (silent none.0) (gap_shift item.len (b ∷ bs) 0 (body_len rest) item.len _ (omega arith) (sym total) remainder)

pub silent_gap : (literal : Literal) (text : Text) → body_value (body_at literal text) ≡ [] → IsGap text 0 (body_len (body_at literal text))
unfolding body_at
silent_gap literal text = body_silent literal 0 text
