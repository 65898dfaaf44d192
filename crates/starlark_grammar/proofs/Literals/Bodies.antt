-- Items, stops and bodies lie inside of the text.
use Rattle.std.proofs.Common.{◌≡◌, ℕ, zero, suc, ◌+◌, ◌-◌, ◌≤◌, Bool, true, false, not, [], ◌∷◌, length, take, drop, ap, ◌∙◌, sym, subst, Option, Some, None, arith, nat_eq}
use Rattle.std.specs.Prelude.{⊤, ◌==◌, ◌&&◌, if◌then◌else◌, nat_lt, encode_utf8}
use Rattle.std.proofs.lemmas.Bool.{and_parts, eqb-true}
use Rattle.std.proofs.lemmas.List.{length-drop}
use Rattle.std.proofs.lemmas.List.Sums.{prefix_len-le-length, sum_by-cons}
use Rattle.std.proofs.lemmas.Slice.Eq.{bytes_eq-Decides}
use Rattle.std.specs.Char.{is_ascii_hexdigit}
use Rattle.std.specs.List.{prefix_len, starts_with}
use Rattle.std.specs.Map.{lookup}
use Rattle.std.specs.Str.{byte, continuation_len}
use Rattle.std.specs.Str.Parse.{digits_value}
use Rattle.starlark_grammar.proofs.Lists.{take_fits, drop-sum, drop-remainder}
use Rattle.starlark_grammar.specs.Words.{Text, Quote, Kind, begins, is_octal_digit}
use Rattle.starlark_grammar.specs.Tokens.{Opening}
use Rattle.starlark_grammar.specs.Items.{Literal, Item, Stop, Closing, Line, Ended, OpeningBrace, ClosingBrace, BadEscape, Found, Goes, Stops, goes, closing_quotes, broken, is_character, numbered, hexadecimal, octal, escaped_newline, simple_escapes, simple, is_of_bytes, escape, raw_pair, brace, is_brace, found_at, Body, body_len, body_onward, body_from, body_at}
use Rattle.starlark_grammar.specs.FrontCharacter.{first_character}
use Rattle.starlark_grammar.proofs.Choices.{either, by_test}

pub character_fits : (text : Text) → length (first_character text) ≤ length text
character_fits [] = omega arith
character_fits (b ∷ bs) = let fits = take_fits (continuation_len b) bs in omega (arith, fits.0)

-- an item has a byte and lies inside; a stop has its bytes inside
abbrev pub StopFits : Opening → Text → Stop → Type 0
StopFits opening text Closing = length (closing_quotes opening) ≤ length text
StopFits opening text Line = (1 ≤ length text) × (begins (nat_eq 10) text ≡ true)
StopFits opening text Ended = ⊤
StopFits opening text OpeningBrace = 1 ≤ length text
StopFits opening text ClosingBrace = 1 ≤ length text
StopFits opening text (BadEscape read last) = (1 ≤ last) × (last ≤ read) × (read ≤ length text)

abbrev pub FoundFits : Opening → Text → Found → Type 0
FoundFits opening text (Goes item) = (1 ≤ item.len) × (item.len ≤ length text)
FoundFits opening text (Stops stop) = StopFits opening text stop

broken_fits : (opening : Opening) (good : ℕ) (remainder text : Text) → 1 ≤ good → good + length remainder ≤ length text → FoundFits opening text (broken good remainder)
broken_fits opening good [] text some inside = (omega arith, some, omega arith)
broken_fits opening good (b ∷ bs) text some inside =
    let fits = character_fits (b ∷ bs) in (omega arith, omega arith, omega (arith, fits))

numbered_fits : (opening : Opening) (len : ℕ) (is_byte : Bool) (n : ℕ) (text : Text) → 1 ≤ len → len ≤ length text → FoundFits opening text (numbered len is_byte n)
numbered_fits opening len true n text some inside = either (FoundFits opening text) (nat_lt n 256) (goes len (n ∷ [])) (broken len []) (some, inside) (broken_fits opening len [] text some (omega arith))
numbered_fits opening len false n text some inside = either (FoundFits opening text) (is_character n) (goes len (encode_utf8 n)) (broken len []) (some, inside) (broken_fits opening len [] text some (omega arith))

digits_fit : (test : ℕ → Bool) (wanted : ℕ) (text : Text) → prefix_len test (take wanted text) ≤ length text
digits_fit test wanted text =
    let fits = take_fits wanted text in
    let within = prefix_len-le-length test (take wanted text) in
    omega (arith, fits.0, within)

hexadecimal_fits : (opening : Opening) (wanted : ℕ) (is_byte : Bool) (text whole : Text) → 2 + length text ≤ length whole → FoundFits opening whole (hexadecimal wanted is_byte text)
hexadecimal_fits opening wanted is_byte text whole inside = go (prefix_len is_ascii_hexdigit (take wanted text)) (digits_fit is_ascii_hexdigit wanted text)
  where
    go : (n : ℕ) → n ≤ length text → FoundFits opening whole (if n == wanted then numbered (2 + n) is_byte (digits_value 16 (take n text)) else broken (2 + n) (drop n text))
    go n fits = either (FoundFits opening whole) (n == wanted) (numbered (2 + n) is_byte (digits_value 16 (take n text))) (broken (2 + n) (drop n text)) (numbered_fits opening (2 + n) is_byte (digits_value 16 (take n text)) whole (omega arith) (omega arith)) (broken_fits opening (2 + n) (drop n text) whole (omega arith) (omega (arith, length-drop n text)))

octal_fits : (opening : Opening) (is_byte : Bool) (text whole : Text) → 1 + length text ≤ length whole → FoundFits opening whole (octal is_byte text)
octal_fits opening is_byte text whole inside =
    let fits = digits_fit is_octal_digit 3 text in
    numbered_fits opening (1 + prefix_len is_octal_digit (take 3 text)) is_byte (digits_value 8 (take (prefix_len is_octal_digit (take 3 text)) text)) whole (omega arith) (omega (arith, fits))

escaped_feed_fits : (opening : Opening) (text whole : Text) → 2 + length text ≤ length whole → FoundFits opening whole (escaped_newline text)
escaped_feed_fits opening [] whole inside = broken_fits opening 2 [] whole (omega arith) inside
escaped_feed_fits opening (b ∷ bs) whole inside = either (FoundFits opening whole) (b == byte "\n") (goes 3 []) (broken 2 (b ∷ bs)) (omega arith, omega arith) (broken_fits opening 2 (b ∷ bs) whole (omega arith) inside)

simple_fits : (opening : Opening) (value : Option ℕ) (character whole : Text) → 1 ≤ length character → 1 + length character ≤ length whole → FoundFits opening whole (simple value character)
simple_fits opening (Some value) character whole some inside = (omega arith, omega arith)
simple_fits opening None character whole some inside = (omega arith, inside)

escape_fits : (opening : Opening) (kind : Kind) (text whole : Text) → 1 + length text ≤ length whole → FoundFits opening whole (escape kind text)
unfolding escape
escape_fits opening kind [] whole inside = broken_fits opening 1 [] whole (omega arith) inside
escape_fits opening kind (b ∷ bs) whole inside =
    let fits = character_fits (b ∷ bs) in
    let P : Found → Type 0 = FoundFits opening whole in
    either P (b == byte "\n") _ _ (omega arith, omega arith)
    (either P (b == byte "\r") _ _ (escaped_feed_fits opening bs whole (omega arith))
    (either P (b == byte "x") _ _ (hexadecimal_fits opening 2 (is_of_bytes kind) bs whole (omega arith))
    (either P (b == byte "u") _ _ (hexadecimal_fits opening 4 false bs whole (omega arith))
    (either P (b == byte "U") _ _ (hexadecimal_fits opening 8 false bs whole (omega arith))
    (either P (is_octal_digit b) _ _ (octal_fits opening (is_of_bytes kind) (b ∷ bs) whole inside)
    (simple_fits opening (lookup (nat_eq b) simple_escapes) (first_character (b ∷ bs)) whole (omega arith) (omega (arith, fits))))))))

raw_pair_fits : (opening : Opening) (kind : Kind) (quote : Quote) (text whole : Text) → 1 + length text ≤ length whole → FoundFits opening whole (raw_pair kind quote text)
unfolding raw_pair
raw_pair_fits opening kind quote [] whole inside = tt
raw_pair_fits opening kind quote (b ∷ bs) whole inside = let fits = character_fits (b ∷ bs) in (omega arith, omega (arith, fits))

brace_fits : (opening : Opening) (b : ℕ) (text whole : Text) → 1 + length text ≤ length whole → FoundFits opening whole (brace b text)
brace_fits opening b [] whole inside = either (StopFits opening whole) (b == byte "{") OpeningBrace ClosingBrace (omega arith) (omega arith)
brace_fits opening b (c ∷ cs) whole inside =
    either (FoundFits opening whole) (b == c) (goes 2 (b ∷ [])) (Stops (if b == byte "{" then OpeningBrace else ClosingBrace)) (omega arith, omega arith)
    (either (StopFits opening whole) (b == byte "{") OpeningBrace ClosingBrace (omega arith) (omega arith))

-- a text that begins with another isn't shorter
pub starts_fits : (text needle : Text) → starts_with nat_eq text needle ≡ true → length needle ≤ length text
starts_fits text needle h =
    let same : needle ≡ take (length needle) text = (bytes_eq-Decides needle (take (length needle) text)).0 h in
    let fits = take_fits (length needle) text in
    let len : length needle ≡ length (take (length needle) text) = ap (λ (t : Text). length t) same in
    omega (arith, fits.0, len)

pub found_fits : (literal : Literal) (text : Text) → FoundFits literal.opening text (found_at literal text)
unfolding found_at
found_fits literal [] = tt
found_fits literal (b ∷ bs) =
    let fits = character_fits (b ∷ bs) in
    let opening = literal.opening in
    let P : Found → Type 0 = FoundFits literal.opening (b ∷ bs) in
    by_test P (starts_with nat_eq (b ∷ bs) (closing_quotes literal.opening)) _ _ (starts_fits (b ∷ bs) (closing_quotes literal.opening)) (λ e.
    by_test P (b == byte "\n" && not literal.opening.is_triple) _ _ (λ e. (omega arith, ap (nat_eq 10) (eqb-true b 10 (and_parts (b == byte "\n") _ e).0))) (λ e.
    either P (b == byte "\r") _ _ (omega arith, omega arith)
    (either P (b == byte "\\" && literal.opening.is_raw) _ _ (raw_pair_fits literal.opening literal.kind literal.opening.quote bs (b ∷ bs) (omega arith))
    (either P (b == byte "\\") _ _ (escape_fits literal.opening literal.kind bs (b ∷ bs) (omega arith))
    (either P (is_brace literal.kind b) _ _ (brace_fits literal.opening b bs (b ∷ bs) (omega arith))
    (omega arith, fits))))))

-- A body and the bytes of its stop lie inside of the text.
abbrev pub BodyFits : Literal → Text → Body → Type 0
BodyFits literal text body = (body_len body ≤ length text) × StopFits literal.opening (drop (body_len body) text) body.stop

-- an item, and the body after it
onward_fits : (literal : Literal) (item : Item) (b : ℕ) (bs : Text) (rest : Body) → 1 ≤ item.len → item.len ≤ length (b ∷ bs) → BodyFits literal (drop (item.len - 1) bs) rest → BodyFits literal (b ∷ bs) (record { items = item ∷ rest.items; stop = rest.stop })
onward_fits literal item b bs rest some inside fits =
    let total : body_len (record { items = item ∷ rest.items; stop = rest.stop }) ≡ item.len + body_len rest = sum_by-cons (λ (item : Item). item.len) item rest.items in
    let first = fits.0 in
    let left : drop (body_len (record { items = item ∷ rest.items; stop = rest.stop })) (b ∷ bs) ≡ drop (body_len rest) (drop (item.len - 1) bs) =
    ap (λ n. drop n (b ∷ bs)) total ∙ drop-sum item.len (body_len rest) (b ∷ bs) ∙ ap (drop (body_len rest)) (drop-remainder item.len b bs some) in
    (omega (arith, total, length-drop (item.len - 1) bs), subst (λ (t : Text). StopFits literal.opening t rest.stop) (sym left) fits.1)

body_from_fits : (literal : Literal) (passed : ℕ) (text : Text) → BodyFits literal (drop passed text) (body_from literal passed text)
unfolding body_from
body_from_fits literal zero [] = (omega arith, tt)
body_from_fits literal (suc passed) [] = (omega arith, tt)
body_from_fits literal (suc passed) (b ∷ bs) = body_from_fits literal passed bs
body_from_fits literal zero (b ∷ bs) = go (found_at literal (b ∷ bs)) (found_fits literal (b ∷ bs)) (λ passed. body_from_fits literal passed bs)
  where
    go : (found : Found) → FoundFits literal.opening (b ∷ bs) found → ((passed : ℕ) → BodyFits literal (drop passed bs) (body_from literal passed bs)) → BodyFits literal (b ∷ bs) (body_onward found (λ passed. body_from literal passed bs))
    go (Stops stop) fits more = (omega arith, fits)
    go (Goes item) fits more = onward_fits literal item b bs (body_from literal (item.len - 1) bs) fits.0 fits.1 (more (item.len - 1))

pub body_fits : (literal : Literal) (text : Text) → BodyFits literal text (body_at literal text)
unfolding body_at
body_fits literal text = body_from_fits literal 0 text
