-- Bodies at the front of a text stay where the text ends sooner, with an LF, if they stop before that.
use Rattle.std.proofs.Common.{◌≡◌, ℕ, zero, suc, ◌+◌, ◌-◌, ◌≤◌, ◌<◌, Bool, true, false, not, [], ◌∷◌, ◌++◌, length, take, drop, refl, ap, ◌∙◌, sym, subst, Option, Some, None, arith, ◌⊎◌, inl, inr}
use Rattle.std.specs.Prelude.{⊤, ◌&&◌, ◌==◌, if◌then◌else◌, nat_eq, nat_lt, encode_utf8}
use Rattle.std.specs.Char.{is_ascii_hexdigit}
use Rattle.std.specs.List.{prefix_len, starts_with}
use Rattle.std.specs.Map.{lookup}
use Rattle.std.specs.Str.{byte}
use Rattle.std.specs.Str.Parse.{digits_value}
use Rattle.std.proofs.lemmas.Bool.{cases_lt, eqb-true}
use Rattle.std.proofs.lemmas.List.{drop-append-le, length-drop, take-append-le}
use Rattle.std.proofs.lemmas.List.Sums.{sum_by-cons}
use Rattle.starlark_grammar.specs.Words.{Text, is_octal_digit}
use Rattle.starlark_grammar.specs.declared.class.Quote.{Quote}
use Rattle.starlark_grammar.specs.declared.class.LiteralKind.{LiteralKind as Kind}
use Rattle.starlark_grammar.specs.Items.{Literal, Item, Stop, Closing, Line, Ended, OpeningBrace, ClosingBrace, BadEscape, Found, Goes, Stops, goes, closing_quotes, broken, broken_by, is_character, numbered, hexadecimal, octal, escaped_newline, simple_escapes, simple, is_of_bytes, escape, raw_pair, brace, is_brace, found_at, Body, body_len, body_onward, body_from, body_at}
use Rattle.starlark_grammar.specs.FrontCharacter.{first_character}
use Rattle.starlark_grammar.proofs.Choices.{by_test}
use Rattle.starlark_grammar.proofs.Literals.Bodies.{found_fits, FoundFits}
use Rattle.starlark_grammar.proofs.Joining.Followed.{ends_line, ends_line_rest}
use Rattle.starlark_grammar.proofs.Joining.FollowedBodies.{both, both_equal, closing_in_line, starts_append}
use Rattle.starlark_grammar.proofs.Joining.ShortenedBodies.{FoundShortened, found_shortened, prefix_shortened, character_shortened, octal_of_front, goes_on, no_brace, after_backslash}
use Rattle.starlark_grammar.proofs.Recovery.FollowedStops.{StopInside, inside_later}

-- Stops

-- A stop that is found in a text is found in its front too: a bad escape where it was read before the front's end.
abbrev StopShortened : ℕ → Found → Found → Type 0
StopShortened len (Stops (BadEscape read last)) other = read < len → other ≡ Stops (BadEscape read last)
StopShortened len (Stops Line) other = other ≡ Stops Line
StopShortened len (Stops ClosingBrace) other = other ≡ Stops ClosingBrace
StopShortened len found other = ⊤

same_stop : (len : ℕ) (found : Found) → StopShortened len found found
same_stop len (Goes item) = tt
same_stop len (Stops Closing) = tt
same_stop len (Stops Line) = refl
same_stop len (Stops Ended) = tt
same_stop len (Stops OpeningBrace) = tt
same_stop len (Stops ClosingBrace) = refl
same_stop len (Stops (BadEscape read last)) = λ inside. refl

-- a bad escape whose bytes in order reach the front's end
broken_far : (good whole : ℕ) (text : Text) (other : Found) → whole ≤ good → StopShortened whole (broken good text) other
broken_far good whole [] other h = λ inside. absurd (omega (arith, h, inside))
broken_far good whole (b ∷ bs) other h = λ inside. absurd (omega (arith, h, inside))

broken_short : (good : ℕ) (text more : Text) → StopShortened (good + length text) (broken good (text ++ more)) (broken good text)
broken_short good [] more = broken_far good (good + 0) more (broken good []) (omega arith)
broken_short good (b ∷ bs) more = λ inside. ap (broken_by good) (character_shortened (b ∷ bs) more (omega (arith, inside)))

numbered_short : (whole len : ℕ) (is_byte : Bool) (n : ℕ) (other : Found) → (len < whole → other ≡ numbered len is_byte n) → StopShortened whole (numbered len is_byte n) other
numbered_short whole len true n other h = by_test (λ found. StopShortened whole found other) (nat_lt n 256) (goes len (n ∷ [])) (broken len []) (λ yes. tt) (λ no less. h less ∙ rw no refl)
numbered_short whole len false n other h = by_test (λ found. StopShortened whole found other) (is_character n) (goes len (encode_utf8 n)) (broken len []) (λ yes. tt) (λ no less. h less ∙ rw no refl)

hexadecimal_short : (wanted : ℕ) (is_byte : Bool) (text more : Text) → StopShortened (2 + length text) (hexadecimal wanted is_byte (text ++ more)) (hexadecimal wanted is_byte text)
hexadecimal_short wanted is_byte text more = go (prefix_len is_ascii_hexdigit (take wanted (text ++ more))) refl
  where
    by : ℕ → Text → Found
    by n text = if n == wanted then numbered (2 + n) is_byte (digits_value 16 (take n text)) else broken (2 + n) (drop n text)

    again : (n : ℕ) → prefix_len is_ascii_hexdigit (take wanted (text ++ more)) ≡ n → n < length text → hexadecimal wanted is_byte text ≡ by n text
    again n e inside =
        let same : prefix_len is_ascii_hexdigit (take wanted text) ≡ n = prefix_shortened is_ascii_hexdigit wanted text more (omega (arith, inside, e)) ∙ e in
        ap (λ n. by n text) same

    equal : (n : ℕ) → prefix_len is_ascii_hexdigit (take wanted (text ++ more)) ≡ n → (n == wanted) ≡ true → 2 + n < 2 + length text → hexadecimal wanted is_byte text ≡ numbered (2 + n) is_byte (digits_value 16 (take n (text ++ more)))
    equal n e full inside = again n e (omega (arith, inside)) ∙ rw (full, take-append-le n text more (omega (arith, inside))) refl

    short : (n : ℕ) → prefix_len is_ascii_hexdigit (take wanted (text ++ more)) ≡ n → (n == wanted) ≡ false → (n < length text) ⊎ (length text ≤ n) → StopShortened (2 + length text) (broken (2 + n) (drop n (text ++ more))) (hexadecimal wanted is_byte text)
    short n e miss (inl inside) =
        let found : hexadecimal wanted is_byte text ≡ broken (2 + n) (drop n text) = again n e inside ∙ rw miss refl in
        let left : drop n (text ++ more) ≡ drop n text ++ more = drop-append-le n text more (omega (arith, inside)) in
        let total : 2 + n + length (drop n text) ≡ 2 + length text = omega (arith, inside, length-drop n text) in
        subst (λ (other : Found). StopShortened (2 + length text) (broken (2 + n) (drop n (text ++ more))) other) (sym found)
        (subst (λ (rest : Text). StopShortened (2 + length text) (broken (2 + n) rest) (broken (2 + n) (drop n text))) (sym left)
        (subst (λ whole. StopShortened whole (broken (2 + n) (drop n text ++ more)) (broken (2 + n) (drop n text))) total (broken_short (2 + n) (drop n text) more)))
    short n e miss (inr none) = broken_far (2 + n) (2 + length text) (drop n (text ++ more)) (hexadecimal wanted is_byte text) (omega (arith, none))

    go : (n : ℕ) → prefix_len is_ascii_hexdigit (take wanted (text ++ more)) ≡ n → StopShortened (2 + length text) (by n (text ++ more)) (hexadecimal wanted is_byte text)
    go n e = both (λ one other. StopShortened (2 + length text) one (hexadecimal wanted is_byte text)) (n == wanted) _ _ (Stops Ended) (Stops Ended)
        (λ full. numbered_short (2 + length text) (2 + n) is_byte (digits_value 16 (take n (text ++ more))) _ (equal n e full))
        (λ miss. short n e miss (cases_lt n (length text)))

octal_short : (is_byte : Bool) (text more : Text) → StopShortened (1 + length text) (octal is_byte (text ++ more)) (octal is_byte text)
octal_short is_byte text more = numbered_short (1 + length text) _ is_byte _ _ (octal_of_front is_byte text more (prefix_len is_octal_digit (take 3 (text ++ more))) refl)

escaped_feed_short : (text more : Text) → StopShortened (2 + length text) (escaped_newline (text ++ more)) (escaped_newline text)
escaped_feed_short [] [] = broken_far 2 2 [] (broken 2 []) (omega arith)
escaped_feed_short [] (c ∷ more) = both (λ one other. StopShortened 2 one (escaped_newline [])) (c == byte "\n") _ _ (Stops Ended) (Stops Ended) (λ e. tt) (λ e. broken_far 2 2 (c ∷ more) (escaped_newline []) (omega arith))
escaped_feed_short (b ∷ bs) more = both (StopShortened (2 + length (b ∷ bs))) (b == byte "\n") _ _ _ _ (λ e. tt) (λ e. broken_short 2 (b ∷ bs) more)

simple_short : (whole : ℕ) (value : Option ℕ) (character : Text) (other : Found) → StopShortened whole (simple value character) other
simple_short whole (Some value) character other = tt
simple_short whole None character other = tt

escape_short : (kind : Kind) (text more : Text) → 0 < length text → StopShortened (1 + length text) (escape kind (text ++ more)) (escape kind text)
unfolding escape
escape_short kind [] more some = absurd (omega (arith, some))
escape_short kind (b ∷ bs) more some =
    let two : 2 + length bs ≡ 1 + length (b ∷ bs) = omega arith in
    let P : Found → Found → Type 0 = StopShortened (1 + length (b ∷ bs)) in
    both P (b == byte "\n") _ _ _ _ (λ e. tt) (λ e.
    both P (b == byte "\r") _ _ _ _ (λ e. subst (λ n. StopShortened n (escaped_newline (bs ++ more)) (escaped_newline bs)) two (escaped_feed_short bs more)) (λ e.
    both P (b == byte "x") _ _ _ _ (λ e. subst (λ n. StopShortened n (hexadecimal 2 (is_of_bytes kind) (bs ++ more)) (hexadecimal 2 (is_of_bytes kind) bs)) two (hexadecimal_short 2 (is_of_bytes kind) bs more)) (λ e.
    both P (b == byte "u") _ _ _ _ (λ e. subst (λ n. StopShortened n (hexadecimal 4 false (bs ++ more)) (hexadecimal 4 false bs)) two (hexadecimal_short 4 false bs more)) (λ e.
    both P (b == byte "U") _ _ _ _ (λ e. subst (λ n. StopShortened n (hexadecimal 8 false (bs ++ more)) (hexadecimal 8 false bs)) two (hexadecimal_short 8 false bs more)) (λ e.
    both P (is_octal_digit b) _ _ _ _ (λ e. octal_short (is_of_bytes kind) (b ∷ bs) more) (λ e.
    simple_short _ (lookup (nat_eq b) simple_escapes) (first_character (b ∷ (bs ++ more))) _))))))

raw_pair_short : (whole : ℕ) (kind : Kind) (quote : Quote) (text : Text) (other : Found) → StopShortened whole (raw_pair kind quote text) other
unfolding raw_pair
raw_pair_short whole kind quote [] other = tt
raw_pair_short whole kind quote (b ∷ bs) other = tt

brace_short : (len b : ℕ) (bs more : Text) → 0 < length bs → StopShortened len (brace b (bs ++ more)) (brace b bs)
brace_short len b [] more some = absurd (omega (arith, some))
brace_short len b (c ∷ cs) more some = same_stop len (brace b (c ∷ cs))

stop_shortened : (literal : Literal) (text more : Text) → ends_line text ≡ true → StopShortened (length text) (found_at literal (text ++ more)) (found_at literal text)
unfolding found_at
stop_shortened literal [] more h = cc
stop_shortened literal (b ∷ bs) more h =
    let P : Found → Found → Type 0 = StopShortened (length (b ∷ bs)) in
    let one : 1 + length bs ≡ length (b ∷ bs) = omega arith in
    both_equal P (starts_with nat_eq (b ∷ (bs ++ more)) (closing_quotes literal.opening)) (starts_with nat_eq (b ∷ bs) (closing_quotes literal.opening)) _ _ _ _ (sym (starts_append (b ∷ bs) (closing_quotes literal.opening) more h (closing_in_line literal.opening))) tt
    (both P (b == byte "\n" && not literal.opening.is_triple) _ _ _ _ (λ e. refl) (λ e.
    both P (b == byte "\r") _ _ _ _ (λ e. tt) (λ e.
    both P (b == byte "\\" && literal.opening.is_raw) _ _ _ _ (λ e. raw_pair_short _ literal.kind literal.opening.quote (bs ++ more) _) (λ e.
    both P (b == byte "\\") _ _ _ _ (λ e. subst (λ n. StopShortened n (escape literal.kind (bs ++ more)) (escape literal.kind bs)) one (escape_short literal.kind bs more (after_backslash b bs h (eqb-true b 92 e)))) (λ e.
    both P (is_brace literal.kind b) _ _ _ _ (λ e. brace_short _ b bs more (goes_on b bs h (no_brace literal.kind b e))) (λ e. tt))))))

-- Bodies

stop_found : (len : ℕ) (stop : Stop) (other : Found) → StopInside len 0 stop → FoundShortened len (Stops stop) other → StopShortened len (Stops stop) other → other ≡ Stops stop
stop_found len Closing other h found short = found refl
stop_found len OpeningBrace other h found short = found refl
stop_found len Line other h found short = short
stop_found len ClosingBrace other h found short = short
stop_found len Ended other h found short = absurd h
stop_found len (BadEscape read last) other h found short = short (omega (arith, h))

body_from_short : (literal : Literal) (passed : ℕ) (text more : Text) → ends_line text ≡ true → StopInside (length text) (passed + body_len (body_from literal passed (text ++ more))) (body_from literal passed (text ++ more)).stop → passed + body_len (body_from literal passed (text ++ more)) < length text
    → body_from literal passed text ≡ body_from literal passed (text ++ more)
unfolding body_from
body_from_short literal passed [] more h stops inside = absurd (omega (arith, inside))
body_from_short literal (suc passed) (b ∷ bs) more h stops inside =
    body_from_short literal passed bs more (ends_line_rest b bs (omega (arith, inside)) h)
    (inside_later _ _ (length bs) (passed + body_len (body_from literal passed (bs ++ more))) (body_from literal passed (bs ++ more)).stop (omega arith) stops) (omega (arith, inside))
body_from_short literal zero (b ∷ bs) more h stops inside =
    go (found_at literal (b ∷ (bs ++ more))) (found_at literal (b ∷ bs)) (found_shortened literal (b ∷ bs) more h) (stop_shortened literal (b ∷ bs) more h) (found_fits literal (b ∷ (bs ++ more))) (λ passed. body_from_short literal passed bs more) stops inside
  where
    whole : ℕ → Body
    whole passed = body_from literal passed (bs ++ more)

    go : (found other : Found) → FoundShortened (length (b ∷ bs)) found other → StopShortened (length (b ∷ bs)) found other → FoundFits literal.opening (b ∷ (bs ++ more)) found
        → ((passed : ℕ) → ends_line bs ≡ true → StopInside (length bs) (passed + body_len (body_from literal passed (bs ++ more))) (body_from literal passed (bs ++ more)).stop → passed + body_len (body_from literal passed (bs ++ more)) < length bs → body_from literal passed bs ≡ body_from literal passed (bs ++ more))
        → StopInside (length (b ∷ bs)) (0 + body_len (body_onward found whole)) (body_onward found whole).stop → 0 + body_len (body_onward found whole) < length (b ∷ bs) → body_onward other (λ passed. body_from literal passed bs) ≡ body_onward found whole
    go (Stops stop) other shortened short fits rest stops inside =
        ap (λ (found : Found). body_onward found (λ passed. body_from literal passed bs)) (stop_found (length (b ∷ bs)) stop other (inside_later _ _ (length (b ∷ bs)) 0 stop (omega arith) stops) shortened short)
    go (Goes item) other shortened short fits rest stops inside =
        let total = sum_by-cons (λ (item : Item). item.len) item (whole (item.len - 1)).items in
        let some = fits.0 in
        let found : other ≡ Goes item = shortened (omega (arith, inside, total)) in
        let later = inside_later _ _ (length bs) (item.len - 1 + body_len (whole (item.len - 1))) (whole (item.len - 1)).stop (omega (arith, total, some)) stops in
        let remainder = rest (item.len - 1) (ends_line_rest b bs (omega (arith, inside, total, some)) h) later (omega (arith, inside, total, some)) in
        ap (λ (found : Found). body_onward found (λ passed. body_from literal passed bs)) found ∙ ap (λ (rest : Body). record { items = item ∷ rest.items; stop = rest.stop }) remainder

-- A body that stops before the front's end.
pub body_short : (literal : Literal) (text more : Text) → ends_line text ≡ true → StopInside (length text) (body_len (body_at literal (text ++ more))) (body_at literal (text ++ more)).stop → body_len (body_at literal (text ++ more)) < length text → body_at literal text ≡ body_at literal (text ++ more)
unfolding body_at
body_short literal text more h stops inside =
    let body : Body = body_from literal 0 (text ++ more) in
    body_from_short literal 0 text more h (inside_later (length text) (body_len body) (length text) (0 + body_len body) body.stop (omega arith) stops) (omega (arith, inside))
