-- Bodies at the front of a text whose last byte is an LF stay where the text goes on, if they stop before its end.
use Rattle.std.proofs.Common.{◌≡◌, ℕ, zero, suc, ◌+◌, ◌-◌, ◌≤◌, ◌<◌, Bool, true, false, not, [], ◌∷◌, ◌++◌, length, take, drop, refl, ap, ◌∙◌, sym, subst, Option, Some, None, arith, ◌⊎◌, inl, inr}
use Rattle.std.specs.Prelude.{⊤, ◌&&◌, ◌==◌, if◌then◌else◌, nat_eq, nat_lt, encode_utf8}
use Rattle.std.specs.Char.{is_ascii_hexdigit}
use Rattle.std.specs.List.{prefix_len, starts_with}
use Rattle.std.specs.Map.{lookup}
use Rattle.std.specs.Str.{byte}
use Rattle.std.specs.Str.Parse.{digits_value}
use Rattle.std.proofs.lemmas.Bool.{and_parts, cases_lt}
use Rattle.std.proofs.lemmas.List.{drop-append-le, length-drop, take-append-le}
use Rattle.std.proofs.lemmas.List.Sums.{sum_by-cons}
use Rattle.starlark_grammar.specs.Words.{Text, is_octal_digit}
use Rattle.starlark_grammar.specs.declared.class.Quote.{Quote}
use Rattle.starlark_grammar.specs.declared.class.LiteralKind.{LiteralKind as Kind}
use Rattle.starlark_grammar.specs.Items.{Literal, Item, Stop, Closing, Line, Ended, OpeningBrace, ClosingBrace, BadEscape, Found, Goes, Stops, goes, closing_quotes, broken, broken_by, is_character, numbered, hexadecimal, octal, escaped_newline, simple_escapes, simple, is_of_bytes, escape, raw_pair, brace, is_brace, found_at, Body, body_len, body_onward, body_from, body_at}
use Rattle.starlark_grammar.specs.FrontCharacter.{first_character}
use Rattle.starlark_grammar.proofs.Choices.{either, by_test}
use Rattle.starlark_grammar.proofs.Lists.{drop-nil}
use Rattle.starlark_grammar.proofs.Literals.Bodies.{found_fits, FoundFits}
use Rattle.starlark_grammar.proofs.Joining.Followed.{ends_line, ends_line_rest}
use Rattle.starlark_grammar.proofs.Joining.FollowedBodies.{FoundFollowed, StopFollowed, both, both_equal, character_append, closing_in_line, found_append, prefix_append, starts_append, octal_onward}

-- Bad escapes

-- A bad escape that was read before the end is found again.
abbrev BadFollowed : ℕ → Found → Found → Type 0
BadFollowed whole (Stops (BadEscape read last)) other = read < whole → other ≡ Stops (BadEscape read last)
BadFollowed whole found other = ⊤

broken_bad : (good : ℕ) (text more : Text) → BadFollowed (good + length text) (broken good text) (broken good (text ++ more))
broken_bad good [] more = λ inside. absurd (omega (arith, inside))
broken_bad good (b ∷ bs) more = λ inside. ap (broken_by good) (character_append (b ∷ bs) more (omega (arith, inside)))

numbered_bad : (whole len : ℕ) (is_byte : Bool) (n : ℕ) (other : Found) → (len < whole → other ≡ numbered len is_byte n) → BadFollowed whole (numbered len is_byte n) other
numbered_bad whole len true n other h = by_test (λ found. BadFollowed whole found other) (nat_lt n 256) (goes len (n ∷ [])) (broken len []) (λ yes. tt) (λ no less. h less ∙ rw no refl)
numbered_bad whole len false n other h = by_test (λ found. BadFollowed whole found other) (is_character n) (goes len (encode_utf8 n)) (broken len []) (λ yes. tt) (λ no less. h less ∙ rw no refl)

drop_whole : (n : ℕ) (text : Text) → length text ≤ n → drop n text ≡ []
drop_whole n [] h = drop-nil n
drop_whole zero (b ∷ bs) h = absurd (omega (arith, h))
drop_whole (suc n) (b ∷ bs) h = drop_whole n bs (omega (arith, h))

hexadecimal_bad : (wanted : ℕ) (is_byte : Bool) (text more : Text) → BadFollowed (2 + length text) (hexadecimal wanted is_byte text) (hexadecimal wanted is_byte (text ++ more))
hexadecimal_bad wanted is_byte text more = go (prefix_len is_ascii_hexdigit (take wanted text)) refl
  where
    by : ℕ → Text → Found
    by n text = if n == wanted then numbered (2 + n) is_byte (digits_value 16 (take n text)) else broken (2 + n) (drop n text)

    again : (n : ℕ) → prefix_len is_ascii_hexdigit (take wanted text) ≡ n → n < length text → hexadecimal wanted is_byte (text ++ more) ≡ by n (text ++ more)
    again n e inside =
        let same : prefix_len is_ascii_hexdigit (take wanted (text ++ more)) ≡ n = prefix_append is_ascii_hexdigit wanted text more (omega (arith, inside, e)) ∙ e in
        ap (λ n. by n (text ++ more)) same

    equal : (n : ℕ) → prefix_len is_ascii_hexdigit (take wanted text) ≡ n → (n == wanted) ≡ true → 2 + n < 2 + length text → hexadecimal wanted is_byte (text ++ more) ≡ numbered (2 + n) is_byte (digits_value 16 (take n text))
    equal n e full inside = again n e (omega (arith, inside)) ∙ rw (full, take-append-le n text more (omega (arith, inside))) refl

    short : (n : ℕ) → prefix_len is_ascii_hexdigit (take wanted text) ≡ n → (n == wanted) ≡ false → (n < length text) ⊎ (length text ≤ n) → BadFollowed (2 + length text) (broken (2 + n) (drop n text)) (hexadecimal wanted is_byte (text ++ more))
    short n e miss (inl inside) =
        let found : hexadecimal wanted is_byte (text ++ more) ≡ broken (2 + n) (drop n text ++ more) = again n e inside ∙ rw (miss, drop-append-le n text more (omega (arith, inside))) refl in
        let total : 2 + n + length (drop n text) ≡ 2 + length text = omega (arith, inside, length-drop n text) in
        subst (λ (other : Found). BadFollowed (2 + length text) (broken (2 + n) (drop n text)) other) (sym found)
        (subst (λ whole. BadFollowed whole (broken (2 + n) (drop n text)) (broken (2 + n) (drop n text ++ more))) total (broken_bad (2 + n) (drop n text) more))
    short n e miss (inr none) =
        subst (λ (rest : Text). BadFollowed (2 + length text) (broken (2 + n) rest) (hexadecimal wanted is_byte (text ++ more))) (sym (drop_whole n text none)) (λ inside. absurd (omega (arith, inside, none)))

    go : (n : ℕ) → prefix_len is_ascii_hexdigit (take wanted text) ≡ n → BadFollowed (2 + length text) (by n text) (hexadecimal wanted is_byte (text ++ more))
    go n e = both (λ one other. BadFollowed (2 + length text) one (hexadecimal wanted is_byte (text ++ more))) (n == wanted) _ _ (Stops Ended) (Stops Ended)
        (λ full. numbered_bad (2 + length text) (2 + n) is_byte (digits_value 16 (take n text)) _ (equal n e full))
        (λ miss. short n e miss (cases_lt n (length text)))

octal_bad : (is_byte : Bool) (text more : Text) → BadFollowed (1 + length text) (octal is_byte text) (octal is_byte (text ++ more))
octal_bad is_byte text more = numbered_bad (1 + length text) _ is_byte _ _ (octal_onward is_byte text more (prefix_len is_octal_digit (take 3 text)) refl)

escaped_feed_bad : (text more : Text) → BadFollowed (2 + length text) (escaped_newline text) (escaped_newline (text ++ more))
escaped_feed_bad [] more = λ inside. absurd (omega (arith, inside))
escaped_feed_bad (b ∷ bs) more = both (BadFollowed (2 + length (b ∷ bs))) (b == byte "\n") _ _ _ _ (λ e. tt) (λ e. broken_bad 2 (b ∷ bs) more)

simple_bad : (whole : ℕ) (value : Option ℕ) (character : Text) (other : Found) → BadFollowed whole (simple value character) other
simple_bad whole (Some value) character other = tt
simple_bad whole None character other = tt

escape_bad : (kind : Kind) (text more : Text) → BadFollowed (1 + length text) (escape kind text) (escape kind (text ++ more))
unfolding escape
escape_bad kind [] more = λ inside. absurd (omega (arith, inside))
escape_bad kind (b ∷ bs) more =
    let two : 2 + length bs ≡ 1 + length (b ∷ bs) = omega arith in
    let P : Found → Found → Type 0 = BadFollowed (1 + length (b ∷ bs)) in
    both P (b == byte "\n") _ _ _ _ (λ e. tt) (λ e.
    both P (b == byte "\r") _ _ _ _ (λ e. subst (λ n. BadFollowed n (escaped_newline bs) (escaped_newline (bs ++ more))) two (escaped_feed_bad bs more)) (λ e.
    both P (b == byte "x") _ _ _ _ (λ e. subst (λ n. BadFollowed n (hexadecimal 2 (is_of_bytes kind) bs) (hexadecimal 2 (is_of_bytes kind) (bs ++ more))) two (hexadecimal_bad 2 (is_of_bytes kind) bs more)) (λ e.
    both P (b == byte "u") _ _ _ _ (λ e. subst (λ n. BadFollowed n (hexadecimal 4 false bs) (hexadecimal 4 false (bs ++ more))) two (hexadecimal_bad 4 false bs more)) (λ e.
    both P (b == byte "U") _ _ _ _ (λ e. subst (λ n. BadFollowed n (hexadecimal 8 false bs) (hexadecimal 8 false (bs ++ more))) two (hexadecimal_bad 8 false bs more)) (λ e.
    both P (is_octal_digit b) _ _ _ _ (λ e. octal_bad (is_of_bytes kind) (b ∷ bs) more) (λ e.
    simple_bad _ (lookup (nat_eq b) simple_escapes) (first_character (b ∷ bs)) _))))))

raw_pair_bad : (whole : ℕ) (kind : Kind) (quote : Quote) (text : Text) (other : Found) → BadFollowed whole (raw_pair kind quote text) other
unfolding raw_pair
raw_pair_bad whole kind quote [] other = tt
raw_pair_bad whole kind quote (b ∷ bs) other = tt

brace_bad : (whole b : ℕ) (bs : Text) (other : Found) → BadFollowed whole (brace b bs) other
brace_bad whole b [] other = either (λ (stop : Stop). BadFollowed whole (Stops stop) other) (b == byte "{") OpeningBrace ClosingBrace tt tt
brace_bad whole b (c ∷ cs) other =
    either (λ (found : Found). BadFollowed whole found other) (b == c) (goes 2 (b ∷ [])) (Stops (if b == byte "{" then OpeningBrace else ClosingBrace)) tt
    (either (λ (stop : Stop). BadFollowed whole (Stops stop) other) (b == byte "{") OpeningBrace ClosingBrace tt tt)

bad_append : (literal : Literal) (text more : Text) → ends_line text ≡ true → BadFollowed (length text) (found_at literal text) (found_at literal (text ++ more))
unfolding found_at
bad_append literal [] more h = cc
bad_append literal (b ∷ bs) more h =
    let P : Found → Found → Type 0 = BadFollowed (length (b ∷ bs)) in
    let one : 1 + length bs ≡ length (b ∷ bs) = omega arith in
    both_equal P (starts_with nat_eq (b ∷ bs) (closing_quotes literal.opening)) (starts_with nat_eq (b ∷ (bs ++ more)) (closing_quotes literal.opening)) _ _ _ _ (starts_append (b ∷ bs) (closing_quotes literal.opening) more h (closing_in_line literal.opening)) tt
    (both P (b == byte "\n" && not literal.opening.is_triple) _ _ _ _ (λ e. tt) (λ e.
    both P (b == byte "\r") _ _ _ _ (λ e. tt) (λ e.
    both P (b == byte "\\" && literal.opening.is_raw) _ _ _ _ (λ e. raw_pair_bad _ literal.kind literal.opening.quote bs _) (λ e.
    both P (b == byte "\\") _ _ _ _ (λ e. subst (λ n. BadFollowed n (escape literal.kind bs) (escape literal.kind (bs ++ more))) one (escape_bad literal.kind bs more)) (λ e.
    both P (is_brace literal.kind b) _ _ _ _ (λ e. brace_bad _ b bs _) (λ e. tt))))))

-- Bodies

-- A stop by which a text of so many bytes isn't at its end, after so many of them.
abbrev pub StopInside : ℕ → ℕ → Stop → Type 0
StopInside whole used Ended = ⊥
StopInside whole used (BadEscape read last) = used + read < whole
StopInside whole used stop = ⊤

pub inside_later : (whole used other after : ℕ) (stop : Stop) → whole + after ≡ other + used → StopInside whole used stop → StopInside other after stop
inside_later whole used other after Closing e h = tt
inside_later whole used other after Line e h = tt
inside_later whole used other after Ended e h = h
inside_later whole used other after OpeningBrace e h = tt
inside_later whole used other after ClosingBrace e h = tt
inside_later whole used other after (BadEscape read last) e h = omega (arith, e, h)

-- a stop that is inside is found again
stop_found : (whole : ℕ) (stop : Stop) (other : Found) → StopInside whole 0 stop → StopFollowed stop other → BadFollowed whole (Stops stop) other → other ≡ Stops stop
stop_found whole Closing other h follows bad = follows
stop_found whole Line other h follows bad = follows
stop_found whole Ended other h follows bad = absurd h
stop_found whole OpeningBrace other h follows bad = follows
stop_found whole ClosingBrace other h follows bad = follows
stop_found whole (BadEscape read last) other h follows bad = bad (omega (arith, h))

-- the body of a text of which so many bytes are passed over stops inside
abbrev BodyInside : Literal → ℕ → Text → Type 0
BodyInside literal passed text = StopInside (length text) (passed + body_len (body_from literal passed text)) (body_from literal passed text).stop

-- it isn't at the end yet
passed_inside : (literal : Literal) (passed : ℕ) (text : Text) → BodyInside literal passed text → passed < length text
unfolding body_from
passed_inside literal zero [] h = absurd h
passed_inside literal (suc passed) [] h = absurd h
passed_inside literal zero (b ∷ bs) h = omega arith
passed_inside literal (suc passed) (b ∷ bs) h =
    let more = passed_inside literal passed bs (inside_later _ _ (length bs) (passed + body_len (body_from literal passed bs)) (body_from literal passed bs).stop (omega arith) h) in omega (arith, more)

body_from_stays : (literal : Literal) (passed : ℕ) (text more : Text) → ends_line text ≡ true → BodyInside literal passed text → body_from literal passed (text ++ more) ≡ body_from literal passed text
unfolding body_from
body_from_stays literal zero [] more h inside = cc
body_from_stays literal (suc passed) [] more h inside = cc
body_from_stays literal (suc passed) (b ∷ bs) more h inside =
    let rest = inside_later _ _ (length bs) (passed + body_len (body_from literal passed bs)) (body_from literal passed bs).stop (omega arith) inside in
    let less = passed_inside literal passed bs rest in
    body_from_stays literal passed bs more (ends_line_rest b bs (omega (arith, less)) h) rest
body_from_stays literal zero (b ∷ bs) more h inside =
    go (found_at literal (b ∷ bs)) (found_at literal (b ∷ (bs ++ more))) (found_append literal (b ∷ bs) more h) (bad_append literal (b ∷ bs) more h) (found_fits literal (b ∷ bs)) (λ passed. body_from_stays literal passed bs more) inside
  where
    again : ℕ → Body
    again passed = body_from literal passed (bs ++ more)

    go : (found other : Found) → FoundFollowed (length (b ∷ bs)) found other → BadFollowed (length (b ∷ bs)) found other → FoundFits literal.opening (b ∷ bs) found
        → ((passed : ℕ) → ends_line bs ≡ true → BodyInside literal passed bs → body_from literal passed (bs ++ more) ≡ body_from literal passed bs)
        → StopInside (length (b ∷ bs)) (0 + body_len (body_onward found (λ passed. body_from literal passed bs))) (body_onward found (λ passed. body_from literal passed bs)).stop
        → body_onward other again ≡ body_onward found (λ passed. body_from literal passed bs)
    go (Stops stop) other follows bad fits rest inside = ap (λ (found : Found). body_onward found again) (stop_found (length (b ∷ bs)) stop other (inside_later _ _ (length (b ∷ bs)) 0 stop (omega arith) inside) follows bad)
    go (Goes item) other follows bad fits rest inside =
        let some = fits.0 in
        let left : Body = body_from literal (item.len - 1) bs in
        let total = sum_by-cons (λ (item : Item). item.len) item left.items in
        let later = inside_later _ _ (length bs) (item.len - 1 + body_len left) left.stop (omega (arith, total, some)) inside in
        let less = passed_inside literal (item.len - 1) bs later in
        let found : other ≡ Goes item = follows (omega (arith, less, some)) in
        let remainder = rest (item.len - 1) (ends_line_rest b bs (omega (arith, less)) h) later in
        ap (λ (found : Found). body_onward found again) found ∙ ap (λ (rest : Body). record { items = item ∷ rest.items; stop = rest.stop }) remainder

-- A body that stops before the end stays.
pub body_stays : (literal : Literal) (text more : Text) → ends_line text ≡ true → StopInside (length text) (body_len (body_at literal text)) (body_at literal text).stop → body_at literal (text ++ more) ≡ body_at literal text
unfolding body_at
body_stays literal text more h inside = body_from_stays literal 0 text more h (inside_later (length text) (body_len (body_from literal 0 text)) (length text) (0 + body_len (body_from literal 0 text)) (body_from literal 0 text).stop (omega arith) inside)

-- A body that stops at a line's end is that of a literal of one quote.

abbrev SingleLine : Literal → Found → Type 0
SingleLine literal (Stops Line) = literal.opening.is_triple ≡ false
SingleLine literal found = ⊤

broken_single : (literal : Literal) (good : ℕ) (text : Text) → SingleLine literal (broken good text)
broken_single literal good [] = tt
broken_single literal good (b ∷ bs) = tt

numbered_single : (literal : Literal) (len : ℕ) (is_byte : Bool) (n : ℕ) → SingleLine literal (numbered len is_byte n)
numbered_single literal len true n = either (SingleLine literal) (nat_lt n 256) (goes len (n ∷ [])) (broken len []) tt tt
numbered_single literal len false n = either (SingleLine literal) (is_character n) (goes len (encode_utf8 n)) (broken len []) tt tt

hexadecimal_single : (literal : Literal) (wanted : ℕ) (is_byte : Bool) (text : Text) → SingleLine literal (hexadecimal wanted is_byte text)
hexadecimal_single literal wanted is_byte text = go (prefix_len is_ascii_hexdigit (take wanted text))
  where
    go : (n : ℕ) → SingleLine literal (if n == wanted then numbered (2 + n) is_byte (digits_value 16 (take n text)) else broken (2 + n) (drop n text))
    go n = either (SingleLine literal) (n == wanted) (numbered (2 + n) is_byte (digits_value 16 (take n text))) (broken (2 + n) (drop n text)) (numbered_single literal (2 + n) is_byte _) (broken_single literal (2 + n) (drop n text))

escaped_feed_single : (literal : Literal) (text : Text) → SingleLine literal (escaped_newline text)
escaped_feed_single literal [] = tt
escaped_feed_single literal (b ∷ bs) = either (SingleLine literal) (b == byte "\n") (goes 3 []) (broken 2 (b ∷ bs)) tt tt

simple_single : (literal : Literal) (value : Option ℕ) (character : Text) → SingleLine literal (simple value character)
simple_single literal (Some value) character = tt
simple_single literal None character = tt

escape_single : (literal : Literal) (kind : Kind) (text : Text) → SingleLine literal (escape kind text)
unfolding escape
escape_single literal kind [] = tt
escape_single literal kind (b ∷ bs) =
    let P : Found → Type 0 = SingleLine literal in
    either P (b == byte "\n") _ _ tt
    (either P (b == byte "\r") _ _ (escaped_feed_single literal bs)
    (either P (b == byte "x") _ _ (hexadecimal_single literal 2 (is_of_bytes kind) bs)
    (either P (b == byte "u") _ _ (hexadecimal_single literal 4 false bs)
    (either P (b == byte "U") _ _ (hexadecimal_single literal 8 false bs)
    (either P (is_octal_digit b) _ _ (numbered_single literal _ (is_of_bytes kind) _)
    (simple_single literal (lookup (nat_eq b) simple_escapes) (first_character (b ∷ bs))))))))

raw_pair_single : (literal : Literal) (kind : Kind) (quote : Quote) (text : Text) → SingleLine literal (raw_pair kind quote text)
unfolding raw_pair
raw_pair_single literal kind quote [] = tt
raw_pair_single literal kind quote (b ∷ bs) = tt

brace_single : (literal : Literal) (b : ℕ) (bs : Text) → SingleLine literal (brace b bs)
brace_single literal b [] = either (λ (stop : Stop). SingleLine literal (Stops stop)) (b == byte "{") OpeningBrace ClosingBrace tt tt
brace_single literal b (c ∷ cs) =
    either (SingleLine literal) (b == c) (goes 2 (b ∷ [])) (Stops (if b == byte "{" then OpeningBrace else ClosingBrace)) tt
    (either (λ (stop : Stop). SingleLine literal (Stops stop)) (b == byte "{") OpeningBrace ClosingBrace tt tt)

found_single : (literal : Literal) (text : Text) → SingleLine literal (found_at literal text)
unfolding found_at
found_single literal [] = tt
found_single literal (b ∷ bs) =
    let P : Found → Type 0 = SingleLine literal in
    either P (starts_with nat_eq (b ∷ bs) (closing_quotes literal.opening)) _ _ tt
    (by_test P (b == byte "\n" && not literal.opening.is_triple) _ _ (λ e. not_triple literal.opening.is_triple (and_parts (b == byte "\n") _ e).1) (λ e.
    either P (b == byte "\r") _ _ tt
    (either P (b == byte "\\" && literal.opening.is_raw) _ _ (raw_pair_single literal literal.kind literal.opening.quote bs)
    (either P (b == byte "\\") _ _ (escape_single literal literal.kind bs)
    (either P (is_brace literal.kind b) _ _ (brace_single literal b bs) tt)))))
  where
    not_triple : (test : Bool) → not test ≡ true → test ≡ false
    not_triple true h = cc
    not_triple false h = refl

line_single : (literal : Literal) (passed : ℕ) (text : Text) → (body_from literal passed text).stop ≡ Line → literal.opening.is_triple ≡ false
unfolding body_from
line_single literal zero [] h = cc
line_single literal (suc passed) [] h = cc
line_single literal (suc passed) (b ∷ bs) h = line_single literal passed bs h
line_single literal zero (b ∷ bs) h = go (found_at literal (b ∷ bs)) (found_single literal (b ∷ bs)) (λ passed. line_single literal passed bs) h
  where
    go : (found : Found) → SingleLine literal found → ((passed : ℕ) → (body_from literal passed bs).stop ≡ Line → literal.opening.is_triple ≡ false) → (body_onward found (λ passed. body_from literal passed bs)).stop ≡ Line → literal.opening.is_triple ≡ false
    go (Stops stop) single more h = subst (λ (stop : Stop). SingleLine literal (Stops stop)) h single
    go (Goes item) single more h = more (item.len - 1) h

pub body_single : (literal : Literal) (text : Text) → (body_at literal text).stop ≡ Line → literal.opening.is_triple ≡ false
unfolding body_at
body_single literal text h = line_single literal 0 text h
