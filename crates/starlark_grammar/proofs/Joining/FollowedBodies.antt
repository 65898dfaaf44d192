-- Bodies at the front of a text whose last byte is an LF stay where the text goes on, if they are closed.
use Rattle.std.proofs.Common.{◌≡◌, ℕ, zero, suc, ◌+◌, ◌-◌, ◌<◌, Bool, true, false, cond, not, [], ◌∷◌, ◌++◌, length, take, drop, refl, ap, ◌∙◌, sym, subst, Option, Some, None, arith}
use Rattle.std.specs.Prelude.{⊤, ◌&&◌, ◌==◌, if◌then◌else◌, nat_eq, nat_lt, encode_utf8}
use Rattle.std.specs.Char.{is_ascii_hexdigit}
use Rattle.std.specs.List.{prefix_len, starts_with}
use Rattle.std.specs.Map.{lookup}
use Rattle.std.specs.Str.{byte, continuation_len}
use Rattle.std.specs.Str.Parse.{digits_value}
use Rattle.std.proofs.lemmas.Bool.{and_parts, eqb-true}
use Rattle.std.proofs.lemmas.List.{length-take, take-append-le}
use Rattle.starlark_grammar.specs.Words.{Text, is_in_line, is_octal_digit}
use Rattle.starlark_grammar.specs.declared.class.Quote.{Quote}
use Rattle.starlark_grammar.specs.declared.class.LiteralKind.{LiteralKind as Kind}
use Rattle.starlark_grammar.specs.declared.class.LiteralKind.TheVariants.{Text as OfText, Bytes as OfBytes, FString as OfFString}
use Rattle.starlark_grammar.specs.Tokens.{Opening}
use Rattle.starlark_grammar.specs.Items.{Literal, Stop, Closing, Line, Ended, OpeningBrace, ClosingBrace, BadEscape, Found, Goes, Stops, goes, closing_quotes, broken, is_character, numbered, hexadecimal, octal, escaped_newline, simple_escapes, simple, is_of_bytes, escape, drops_backslash, raw_pair, brace, is_brace, found_at, Body, body_onward, body_from, body_at}
use Rattle.starlark_grammar.specs.FrontCharacter.{first_character}
use Rattle.starlark_grammar.proofs.ClosingQuotes.{quotes_hold}
use Rattle.starlark_grammar.proofs.Choices.{by_test}
use Rattle.starlark_grammar.proofs.Literals.Bodies.{found_fits, FoundFits}
use Rattle.starlark_grammar.proofs.WordNewlines.{in_line}
use Rattle.starlark_grammar.proofs.Joining.Followed.{ends_line, ends_line_rest}

-- Fronts

-- a byte in a line isn't the LF at the end
other_byte : (b c : ℕ) → (b == 10) ≡ true → is_in_line c ≡ true → nat_eq c b ≡ false
other_byte b c h k =
    let same : b ≡ 10 = eqb-true b 10 h in
    let parts = and_parts (not (c == 13)) (not (c == 10)) k in
    subst (λ n. nat_eq c n ≡ false) (sym same) (go (c == 10) parts.1)
  where
    go : (test : Bool) → not test ≡ true → test ≡ false
    go true h = cc
    go false h = refl

-- what a text that ends with an LF begins with, where no LF is in that, …
pub starts_append : (text needle more : Text) → ends_line text ≡ true → in_line needle ≡ true → starts_with nat_eq (text ++ more) needle ≡ starts_with nat_eq text needle
starts_append text [] more h k = refl
starts_append [] (c ∷ cs) more h k = cc
starts_append (b ∷ []) (c ∷ cs) more h k = rw (other_byte b c h (and_parts (is_in_line c) (in_line cs) k).0) refl
starts_append (b ∷ d ∷ bs) (c ∷ cs) more h k = rw (starts_append (d ∷ bs) cs more h (and_parts (is_in_line c) (in_line cs) k).1) refl

-- … and that it is longer
pub starts_inside : (text needle : Text) → ends_line text ≡ true → in_line needle ≡ true → starts_with nat_eq text needle ≡ true → length needle < length text
starts_inside [] needle h k e = cc
starts_inside (b ∷ bs) [] h k e = omega arith
starts_inside (b ∷ []) (c ∷ cs) h k e = let other = other_byte b c h (and_parts (is_in_line c) (in_line cs) k).0 in let parts = and_parts (nat_eq c b) _ e in cc
starts_inside (b ∷ d ∷ bs) (c ∷ cs) h k e =
    let more = starts_inside (d ∷ bs) cs h (and_parts (is_in_line c) (in_line cs) k).1 (and_parts (nat_eq c b) _ e).1 in omega arith

pub closing_in_line : (opening : Opening) → in_line (closing_quotes opening) ≡ true
closing_in_line = quotes_hold is_in_line refl refl

-- Items

-- What is found is found again, where an item ends before the end, and at most stops.
abbrev pub StopFollowed : Stop → Found → Type 0
StopFollowed Ended other = ⊤
StopFollowed (BadEscape read last) other = ⊤
StopFollowed stop other = other ≡ Stops stop

abbrev pub FoundFollowed : ℕ → Found → Found → Type 0
FoundFollowed len (Goes item) other = item.len < len → other ≡ Goes item
FoundFollowed len (Stops stop) other = StopFollowed stop other

-- two of each, by one test
pub both : (P : Found → Found → Type 0) (test : Bool) (x y v w : Found) → (test ≡ true → P x v) → (test ≡ false → P y w) → P (if test then x else y) (if test then v else w)
both P true x y v w hit miss = hit refl
both P false x y v w hit miss = miss refl

same_followed : (len : ℕ) (found : Found) → FoundFollowed len found found
same_followed len (Goes item) = λ inside. refl
same_followed len (Stops Closing) = refl
same_followed len (Stops Line) = refl
same_followed len (Stops Ended) = tt
same_followed len (Stops OpeningBrace) = refl
same_followed len (Stops ClosingBrace) = refl
same_followed len (Stops (BadEscape read last)) = tt

broken_followed : (len good : ℕ) (remainder : Text) (other : Found) → FoundFollowed len (broken good remainder) other
broken_followed len good [] other = tt
broken_followed len good (b ∷ bs) other = tt

numbered_followed : (whole len : ℕ) (is_byte : Bool) (n : ℕ) (other : Found) → (len < whole → other ≡ numbered len is_byte n) → FoundFollowed whole (numbered len is_byte n) other
numbered_followed whole len true n other h = by_test (λ found. FoundFollowed whole found other) (nat_lt n 256) (goes len (n ∷ [])) (broken len []) (λ yes less. h less ∙ rw yes refl) (λ no. tt)
numbered_followed whole len false n other h = by_test (λ found. FoundFollowed whole found other) (is_character n) (goes len (encode_utf8 n)) (broken len []) (λ yes less. h less ∙ rw yes refl) (λ no. tt)

-- a run that ends before the end
pub prefix_append : (test : ℕ → Bool) (most : ℕ) (text more : Text) → prefix_len test (take most text) < length text → prefix_len test (take most (text ++ more)) ≡ prefix_len test (take most text)
prefix_append test zero text more h = refl
prefix_append test (suc most) [] more h = absurd (omega arith)
prefix_append test (suc most) (b ∷ bs) more h = go (test b) (prefix_append test most bs more) h
  where
    go : (passes : Bool) → (prefix_len test (take most bs) < length bs → prefix_len test (take most (bs ++ more)) ≡ prefix_len test (take most bs))
        → cond passes (1 + prefix_len test (take most bs)) 0 < length (b ∷ bs) → cond passes (1 + prefix_len test (take most (bs ++ more))) 0 ≡ cond passes (1 + prefix_len test (take most bs)) 0
    go true rest h = ap (λ n. 1 + n) (rest (omega arith))
    go false rest h = refl

hexadecimal_append : (wanted : ℕ) (is_byte : Bool) (text more : Text) → FoundFollowed (2 + length text) (hexadecimal wanted is_byte text) (hexadecimal wanted is_byte (text ++ more))
hexadecimal_append wanted is_byte text more = go (prefix_len is_ascii_hexdigit (take wanted text)) refl
  where
    by : ℕ → Text → Found
    by n text = if n == wanted then numbered (2 + n) is_byte (digits_value 16 (take n text)) else broken (2 + n) (drop n text)

    equal : (n : ℕ) → prefix_len is_ascii_hexdigit (take wanted text) ≡ n → (n == wanted) ≡ true → 2 + n < 2 + length text → hexadecimal wanted is_byte (text ++ more) ≡ numbered (2 + n) is_byte (digits_value 16 (take n text))
    equal n e full inside =
        let again : prefix_len is_ascii_hexdigit (take wanted (text ++ more)) ≡ n = prefix_append is_ascii_hexdigit wanted text more (omega arith) ∙ e in
        ap (λ n. by n (text ++ more)) again ∙ rw (full, take-append-le n text more (omega arith)) refl

    go : (n : ℕ) → prefix_len is_ascii_hexdigit (take wanted text) ≡ n → FoundFollowed (2 + length text) (by n text) (hexadecimal wanted is_byte (text ++ more))
    go n e = both (λ one other. FoundFollowed (2 + length text) one (hexadecimal wanted is_byte (text ++ more))) (n == wanted) _ _ (Stops Ended) (Stops Ended)
        (λ full. numbered_followed (2 + length text) (2 + n) is_byte (digits_value 16 (take n text)) _ (equal n e full))
        (λ short. broken_followed (2 + length text) (2 + n) (drop n text) _)

-- an octal escape of so many digits
abbrev pub octal_by : Bool → ℕ → Text → Found
octal_by is_byte n text = numbered (1 + n) is_byte (digits_value 8 (take n text))

-- one that ends before the end
pub octal_onward : (is_byte : Bool) (text more : Text) (n : ℕ) → prefix_len is_octal_digit (take 3 text) ≡ n → 1 + n < 1 + length text → octal is_byte (text ++ more) ≡ octal_by is_byte n text
octal_onward is_byte text more n e inside =
    let again : prefix_len is_octal_digit (take 3 (text ++ more)) ≡ n = prefix_append is_octal_digit 3 text more (omega (arith, e, inside)) ∙ e in
    ap (λ n. octal_by is_byte n (text ++ more)) again ∙ ap (λ (digits : Text). numbered (1 + n) is_byte (digits_value 8 digits)) (take-append-le n text more (omega (arith, inside)))

octal_append : (is_byte : Bool) (text more : Text) → FoundFollowed (1 + length text) (octal is_byte text) (octal is_byte (text ++ more))
octal_append is_byte text more = numbered_followed (1 + length text) _ is_byte _ _ (octal_onward is_byte text more (prefix_len is_octal_digit (take 3 text)) refl)

escaped_feed_append : (len : ℕ) (text more : Text) → FoundFollowed len (escaped_newline text) (escaped_newline (text ++ more))
escaped_feed_append len [] more = tt
escaped_feed_append len (b ∷ bs) more = both (FoundFollowed len) (b == byte "\n") _ _ _ _ (λ e. same_followed len (goes 3 [])) (λ e. broken_followed len 2 (b ∷ bs) (broken 2 (b ∷ (bs ++ more))))

pub character_append : (text more : Text) → length (first_character text) < length text → first_character (text ++ more) ≡ first_character text
character_append [] more inside = absurd (omega arith)
character_append (b ∷ bs) more inside = ap (λ (rest : Text). b ∷ rest) (take-append-le (continuation_len b) bs more (omega (arith, length-take (continuation_len b) bs)))

simple_followed : (len : ℕ) (value : Option ℕ) (one other : Text) → (1 + length one < len → other ≡ one) → FoundFollowed len (simple value one) (simple value other)
simple_followed len (Some value) one other h = λ inside. refl
simple_followed len None one other h = λ inside. ap (simple None) (h inside)

pub escape_append : (kind : Kind) (text more : Text) → FoundFollowed (1 + length text) (escape kind text) (escape kind (text ++ more))
unfolding escape
escape_append kind [] more = tt
escape_append kind (b ∷ bs) more =
    let len : ℕ = 1 + length (b ∷ bs) in
    let two : 2 + length bs ≡ 1 + length (b ∷ bs) = omega arith in
    let P : Found → Found → Type 0 = FoundFollowed (1 + length (b ∷ bs)) in
    both P (b == byte "\n") _ _ _ _ (λ e. same_followed _ (goes 2 [])) (λ e.
    both P (b == byte "\r") _ _ _ _ (λ e. escaped_feed_append _ bs more) (λ e.
    both P (b == byte "x") _ _ _ _ (λ e. subst (λ n. FoundFollowed n (hexadecimal 2 (is_of_bytes kind) bs) (hexadecimal 2 (is_of_bytes kind) (bs ++ more))) two (hexadecimal_append 2 (is_of_bytes kind) bs more)) (λ e.
    both P (b == byte "u") _ _ _ _ (λ e. subst (λ n. FoundFollowed n (hexadecimal 4 false bs) (hexadecimal 4 false (bs ++ more))) two (hexadecimal_append 4 false bs more)) (λ e.
    both P (b == byte "U") _ _ _ _ (λ e. subst (λ n. FoundFollowed n (hexadecimal 8 false bs) (hexadecimal 8 false (bs ++ more))) two (hexadecimal_append 8 false bs more)) (λ e.
    both P (is_octal_digit b) _ _ _ _ (λ e. octal_append (is_of_bytes kind) (b ∷ bs) more) (λ e.
    simple_followed _ (lookup (nat_eq b) simple_escapes) (first_character (b ∷ bs)) (first_character (b ∷ (bs ++ more))) (λ inside. character_append (b ∷ bs) more (omega arith))))))))

pub raw_pair_append : (kind : Kind) (quote : Quote) (text more : Text) → FoundFollowed (1 + length text) (raw_pair kind quote text) (raw_pair kind quote (text ++ more))
unfolding raw_pair
raw_pair_append kind quote [] more = tt
raw_pair_append kind quote (b ∷ bs) more = λ inside.
    ap (λ (character : Text). goes (1 + length character) (if drops_backslash kind quote b then character else byte "\\" ∷ character)) (character_append (b ∷ bs) more (omega arith))

-- no brace stands alone at the end
brace_append : (literal : Literal) (b : ℕ) (bs more : Text) → ends_line (b ∷ bs) ≡ true → is_brace literal.kind b ≡ true → FoundFollowed (length (b ∷ bs)) (brace b bs) (brace b (bs ++ more))
brace_append literal b [] more h e = go literal.kind (subst (λ n. is_brace literal.kind n ≡ true) (eqb-true b 10 h) e)
  where
    go : (kind : Kind) → is_brace kind 10 ≡ true → FoundFollowed 1 (brace b []) (brace b more)
    go OfText e = cc
    go OfBytes e = cc
    go OfFString e = cc
brace_append literal b (c ∷ cs) more h e = same_followed (length (b ∷ c ∷ cs)) (brace b (c ∷ cs))

-- the same test twice
pub both_equal : (P : Found → Found → Type 0) (test again : Bool) (x y v w : Found) → again ≡ test → P x v → P y w → P (if test then x else y) (if again then v else w)
both_equal P test again x y v w e hit miss = subst (λ (again : Bool). P (if test then x else y) (if again then v else w)) (sym e) (both P test x y v w (λ f. hit) (λ f. miss))

-- What stands at a place of a body: an item that ends before the text does stays, and so do all stops but a bad escape.
pub found_append : (literal : Literal) (text more : Text) → ends_line text ≡ true → FoundFollowed (length text) (found_at literal text) (found_at literal (text ++ more))
unfolding found_at
found_append literal [] more h = cc
found_append literal (b ∷ bs) more h =
    let P : Found → Found → Type 0 = FoundFollowed (length (b ∷ bs)) in
    let one : 1 + length bs ≡ length (b ∷ bs) = omega arith in
    both_equal P (starts_with nat_eq (b ∷ bs) (closing_quotes literal.opening)) (starts_with nat_eq (b ∷ (bs ++ more)) (closing_quotes literal.opening)) _ _ _ _ (starts_append (b ∷ bs) (closing_quotes literal.opening) more h (closing_in_line literal.opening)) refl
    (both P (b == byte "\n" && not literal.opening.is_triple) _ _ _ _ (λ e. refl) (λ e.
    both P (b == byte "\r") _ _ _ _ (λ e. same_followed _ (goes 1 [])) (λ e.
    both P (b == byte "\\" && literal.opening.is_raw) _ _ _ _ (λ e. subst (λ n. FoundFollowed n (raw_pair literal.kind literal.opening.quote bs) (raw_pair literal.kind literal.opening.quote (bs ++ more))) one (raw_pair_append literal.kind literal.opening.quote bs more)) (λ e.
    both P (b == byte "\\") _ _ _ _ (λ e. subst (λ n. FoundFollowed n (escape literal.kind bs) (escape literal.kind (bs ++ more))) one (escape_append literal.kind bs more)) (λ e.
    both P (is_brace literal.kind b) _ _ _ _ (λ e. brace_append literal b bs more h e) (λ e.
    λ inside. ap (λ (character : Text). goes (length character) character) (character_append (b ∷ bs) more inside)))))))

-- Bodies

-- a body that a literal's or a chunk's end closes
abbrev pub is_closed : Stop → Bool
is_closed Closing = true
is_closed OpeningBrace = true
is_closed stop = false

closed_followed : (stop : Stop) (other : Found) → is_closed stop ≡ true → StopFollowed stop other → other ≡ Stops stop
closed_followed Closing other h follows = follows
closed_followed OpeningBrace other h follows = follows
closed_followed Line other h follows = cc
closed_followed Ended other h follows = cc
closed_followed ClosingBrace other h follows = cc
closed_followed (BadEscape read last) other h follows = cc

-- it isn't at the end yet
pub closed_inside : (literal : Literal) (passed : ℕ) (text : Text) → is_closed (body_from literal passed text).stop ≡ true → passed < length text
unfolding body_from
closed_inside literal zero [] h = cc
closed_inside literal (suc passed) [] h = cc
closed_inside literal zero (b ∷ bs) h = omega arith
closed_inside literal (suc passed) (b ∷ bs) h = let more = closed_inside literal passed bs h in omega arith

pub body_from_append : (literal : Literal) (passed : ℕ) (text more : Text) → ends_line text ≡ true → is_closed (body_from literal passed text).stop ≡ true → body_from literal passed (text ++ more) ≡ body_from literal passed text
unfolding body_from
body_from_append literal zero [] more h closed = cc
body_from_append literal (suc passed) [] more h closed = cc
body_from_append literal (suc passed) (b ∷ bs) more h closed =
    let inside = closed_inside literal passed bs closed in
    body_from_append literal passed bs more (ends_line_rest b bs (omega arith) h) closed
body_from_append literal zero (b ∷ bs) more h closed =
    go (found_at literal (b ∷ bs)) (found_at literal (b ∷ (bs ++ more))) (found_append literal (b ∷ bs) more h) (found_fits literal (b ∷ bs)) (λ passed. body_from_append literal passed bs more) closed
  where
    again : ℕ → Body
    again passed = body_from literal passed (bs ++ more)

    go : (found other : Found) → FoundFollowed (length (b ∷ bs)) found other → FoundFits literal.opening (b ∷ bs) found
        → ((passed : ℕ) → ends_line bs ≡ true → is_closed (body_from literal passed bs).stop ≡ true → body_from literal passed (bs ++ more) ≡ body_from literal passed bs)
        → is_closed (body_onward found (λ passed. body_from literal passed bs)).stop ≡ true → body_onward other again ≡ body_onward found (λ passed. body_from literal passed bs)
    go (Stops stop) other follows fits rest closed = ap (λ (found : Found). body_onward found again) (closed_followed stop other closed follows)
    go (Goes item) other follows fits rest closed =
        let inside = closed_inside literal (item.len - 1) bs closed in
        let some = fits.0 in
        let found : other ≡ Goes item = follows (omega arith) in
        let remainder = rest (item.len - 1) (ends_line_rest b bs (omega arith) h) closed in
        ap (λ (found : Found). body_onward found again) found ∙ ap (λ (rest : Body). record { items = item ∷ rest.items; stop = rest.stop }) remainder

-- A body that is closed stays.
pub body_append : (literal : Literal) (text more : Text) → ends_line text ≡ true → is_closed (body_at literal text).stop ≡ true → body_at literal (text ++ more) ≡ body_at literal text
unfolding body_at
body_append literal text more h closed = body_from_append literal 0 text more h closed
