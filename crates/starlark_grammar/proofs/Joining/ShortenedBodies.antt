-- Items and bodies of literals that stand in a text stand in it too where it ends sooner, with an LF after them.
use Rattle.std.proofs.Common.{◌≡◌, ℕ, zero, suc, ◌+◌, ◌-◌, ◌<◌, Bool, true, false, cond, [], ◌∷◌, ◌++◌, length, take, drop, refl, ap, ◌∙◌, sym, subst, Option, Some, None, arith, length-append}
use Rattle.std.specs.Prelude.{◌&&◌, ◌==◌, if◌then◌else◌, nat_eq, nat_lt, encode_utf8, not}
use Rattle.std.specs.Char.{is_ascii_hexdigit}
use Rattle.std.specs.List.{prefix_len, starts_with}
use Rattle.std.specs.Map.{lookup}
use Rattle.std.specs.Str.{byte, continuation_len}
use Rattle.std.specs.Str.Parse.{digits_value}
use Rattle.std.proofs.lemmas.Bool.{eqb-true}
use Rattle.std.proofs.lemmas.List.{length-take, take-append-le}
use Rattle.std.proofs.lemmas.List.Sums.{sum_by-cons}
use Rattle.starlark_grammar.specs.Words.{Text, is_octal_digit}
use Rattle.starlark_grammar.specs.declared.class.Quote.{Quote}
use Rattle.starlark_grammar.specs.declared.class.LiteralKind.{LiteralKind as Kind}
use Rattle.starlark_grammar.specs.declared.class.LiteralKind.TheVariants.{Text as OfText, Bytes as OfBytes, FString as OfFString}
use Rattle.starlark_grammar.specs.Items.{Literal, Line, Ended, Item, Found, Goes, Stops, goes, closing_quotes, broken, is_character, numbered, hexadecimal, octal, escaped_newline, simple_escapes, simple, is_of_bytes, escape, drops_backslash, raw_pair, brace, is_brace, found_at, Body, body_len, body_onward, body_from, body_at}
use Rattle.starlark_grammar.specs.FrontCharacter.{first_character}
use Rattle.starlark_grammar.proofs.Choices.{by_test}
use Rattle.starlark_grammar.proofs.Literals.Bodies.{found_fits, FoundFits}
use Rattle.starlark_grammar.proofs.Joining.Followed.{ends_line, ends_line_rest}
use Rattle.starlark_grammar.proofs.Joining.FollowedBodies.{both, both_equal, closing_in_line, is_closed, starts_append, octal_by}

-- What is found in a text is found in its front, where an item ends before the front does, or a body is closed.
abbrev pub FoundShortened : ℕ → Found → Found → Type 0
FoundShortened len (Goes item) other = item.len < len → other ≡ Goes item
FoundShortened len (Stops stop) other = is_closed stop ≡ true → other ≡ Stops stop

pub same_shortened : (len : ℕ) (found : Found) → FoundShortened len found found
same_shortened len (Goes item) = λ inside. refl
same_shortened len (Stops stop) = λ closed. refl

broken_shortened : (len good : ℕ) (remainder : Text) (other : Found) → FoundShortened len (broken good remainder) other
broken_shortened len good [] other = λ closed. cc
broken_shortened len good (b ∷ bs) other = λ closed. cc

numbered_shortened : (whole len : ℕ) (is_byte : Bool) (n : ℕ) (other : Found) → (len < whole → other ≡ numbered len is_byte n) → FoundShortened whole (numbered len is_byte n) other
numbered_shortened whole len true n other h = by_test (λ found. FoundShortened whole found other) (nat_lt n 256) (goes len (n ∷ [])) (broken len []) (λ yes less. h less ∙ rw yes refl) (λ no closed. cc)
numbered_shortened whole len false n other h = by_test (λ found. FoundShortened whole found other) (is_character n) (goes len (encode_utf8 n)) (broken len []) (λ yes less. h less ∙ rw yes refl) (λ no closed. cc)

-- a run that ends before the front does
pub prefix_shortened : (test : ℕ → Bool) (most : ℕ) (text more : Text) → prefix_len test (take most (text ++ more)) < length text → prefix_len test (take most text) ≡ prefix_len test (take most (text ++ more))
prefix_shortened test zero text more h = refl
prefix_shortened test (suc most) [] more h = absurd (omega (arith, h))
prefix_shortened test (suc most) (b ∷ bs) more h = go (test b) (prefix_shortened test most bs more) h
  where
    go : (passes : Bool) → (prefix_len test (take most (bs ++ more)) < length bs → prefix_len test (take most bs) ≡ prefix_len test (take most (bs ++ more)))
        → cond passes (1 + prefix_len test (take most (bs ++ more))) 0 < length (b ∷ bs) → cond passes (1 + prefix_len test (take most bs)) 0 ≡ cond passes (1 + prefix_len test (take most (bs ++ more))) 0
    go true rest h = ap (λ n. 1 + n) (rest (omega arith))
    go false rest h = refl

hexadecimal_shortened : (wanted : ℕ) (is_byte : Bool) (text more : Text) → FoundShortened (2 + length text) (hexadecimal wanted is_byte (text ++ more)) (hexadecimal wanted is_byte text)
hexadecimal_shortened wanted is_byte text more = go (prefix_len is_ascii_hexdigit (take wanted (text ++ more))) refl
  where
    by : ℕ → Text → Found
    by n text = if n == wanted then numbered (2 + n) is_byte (digits_value 16 (take n text)) else broken (2 + n) (drop n text)

    equal : (n : ℕ) → prefix_len is_ascii_hexdigit (take wanted (text ++ more)) ≡ n → (n == wanted) ≡ true → 2 + n < 2 + length text → hexadecimal wanted is_byte text ≡ numbered (2 + n) is_byte (digits_value 16 (take n (text ++ more)))
    equal n e full inside =
        let again : prefix_len is_ascii_hexdigit (take wanted text) ≡ n = prefix_shortened is_ascii_hexdigit wanted text more (omega (arith, e, inside)) ∙ e in
        ap (λ n. by n text) again ∙ rw (full, take-append-le n text more (omega (arith, inside))) refl

    go : (n : ℕ) → prefix_len is_ascii_hexdigit (take wanted (text ++ more)) ≡ n → FoundShortened (2 + length text) (by n (text ++ more)) (hexadecimal wanted is_byte text)
    go n e = both (λ one other. FoundShortened (2 + length text) one (hexadecimal wanted is_byte text)) (n == wanted) _ _ (Stops Ended) (Stops Ended)
        (λ full. numbered_shortened (2 + length text) (2 + n) is_byte (digits_value 16 (take n (text ++ more))) _ (equal n e full))
        (λ short. broken_shortened (2 + length text) (2 + n) (drop n (text ++ more)) _)

-- an octal escape that ends before the front does
pub octal_of_front : (is_byte : Bool) (text more : Text) (n : ℕ) → prefix_len is_octal_digit (take 3 (text ++ more)) ≡ n → 1 + n < 1 + length text → octal is_byte text ≡ octal_by is_byte n (text ++ more)
octal_of_front is_byte text more n e inside =
    let again : prefix_len is_octal_digit (take 3 text) ≡ n = prefix_shortened is_octal_digit 3 text more (omega (arith, e, inside)) ∙ e in
    ap (λ n. octal_by is_byte n text) again ∙ ap (λ (digits : Text). numbered (1 + n) is_byte (digits_value 8 digits)) (sym (take-append-le n text more (omega (arith, inside))))

octal_shortened : (is_byte : Bool) (text more : Text) → FoundShortened (1 + length text) (octal is_byte (text ++ more)) (octal is_byte text)
octal_shortened is_byte text more = numbered_shortened (1 + length text) _ is_byte _ _ (octal_of_front is_byte text more (prefix_len is_octal_digit (take 3 (text ++ more))) refl)

escaped_feed_shortened : (text more : Text) → FoundShortened (2 + length text) (escaped_newline (text ++ more)) (escaped_newline text)
escaped_feed_shortened [] [] = λ closed. cc
escaped_feed_shortened [] (c ∷ more) = both (λ one other. FoundShortened 2 one (escaped_newline [])) (c == byte "\n") _ _ (Stops Ended) (Stops Ended) (λ e. λ inside. absurd (omega (arith, inside))) (λ e. broken_shortened 2 2 (c ∷ more) (escaped_newline []))
escaped_feed_shortened (b ∷ bs) more = both (FoundShortened (2 + length (b ∷ bs))) (b == byte "\n") _ _ _ _ (λ e. same_shortened _ (goes 3 [])) (λ e. broken_shortened (2 + length (b ∷ bs)) 2 (b ∷ (bs ++ more)) (broken 2 (b ∷ bs)))

pub character_shortened : (text more : Text) → length (first_character (text ++ more)) < length text → first_character text ≡ first_character (text ++ more)
character_shortened [] more inside = absurd (omega (arith, inside))
character_shortened (b ∷ bs) more inside =
    ap (λ (rest : Text). b ∷ rest) (sym (take-append-le (continuation_len b) bs more (omega (arith, inside, length-take (continuation_len b) (bs ++ more), length-append bs more))))

simple_shortened : (len : ℕ) (value : Option ℕ) (one other : Text) → (1 + length one < len → other ≡ one) → FoundShortened len (simple value one) (simple value other)
simple_shortened len (Some value) one other h = λ inside. refl
simple_shortened len None one other h = λ inside. ap (simple None) (h inside)

pub escape_shortened : (kind : Kind) (text more : Text) → 0 < length text → FoundShortened (1 + length text) (escape kind (text ++ more)) (escape kind text)
unfolding escape
escape_shortened kind [] more some = absurd (omega (arith, some))
escape_shortened kind (b ∷ bs) more some =
    let two : 2 + length bs ≡ 1 + length (b ∷ bs) = omega arith in
    let P : Found → Found → Type 0 = FoundShortened (1 + length (b ∷ bs)) in
    both P (b == byte "\n") _ _ _ _ (λ e. same_shortened _ (goes 2 [])) (λ e.
    both P (b == byte "\r") _ _ _ _ (λ e. subst (λ n. FoundShortened n (escaped_newline (bs ++ more)) (escaped_newline bs)) two (escaped_feed_shortened bs more)) (λ e.
    both P (b == byte "x") _ _ _ _ (λ e. subst (λ n. FoundShortened n (hexadecimal 2 (is_of_bytes kind) (bs ++ more)) (hexadecimal 2 (is_of_bytes kind) bs)) two (hexadecimal_shortened 2 (is_of_bytes kind) bs more)) (λ e.
    both P (b == byte "u") _ _ _ _ (λ e. subst (λ n. FoundShortened n (hexadecimal 4 false (bs ++ more)) (hexadecimal 4 false bs)) two (hexadecimal_shortened 4 false bs more)) (λ e.
    both P (b == byte "U") _ _ _ _ (λ e. subst (λ n. FoundShortened n (hexadecimal 8 false (bs ++ more)) (hexadecimal 8 false bs)) two (hexadecimal_shortened 8 false bs more)) (λ e.
    both P (is_octal_digit b) _ _ _ _ (λ e. octal_shortened (is_of_bytes kind) (b ∷ bs) more) (λ e.
    simple_shortened _ (lookup (nat_eq b) simple_escapes) (first_character (b ∷ (bs ++ more))) (first_character (b ∷ bs)) (λ inside. character_shortened (b ∷ bs) more (omega (arith, inside)))))))))

pub raw_pair_shortened : (kind : Kind) (quote : Quote) (text more : Text) → 0 < length text → FoundShortened (1 + length text) (raw_pair kind quote (text ++ more)) (raw_pair kind quote text)
unfolding raw_pair
raw_pair_shortened kind quote [] more some = absurd (omega (arith, some))
raw_pair_shortened kind quote (b ∷ bs) more some = λ inside.
    ap (λ (character : Text). goes (1 + length character) (if drops_backslash kind quote b then character else byte "\\" ∷ character)) (character_shortened (b ∷ bs) more (omega (arith, inside)))

-- after a byte that is no LF a text that ends with one goes on
pub goes_on : (b : ℕ) (bs : Text) → ends_line (b ∷ bs) ≡ true → (b ≡ 10 → ⊥) → 0 < length bs
goes_on b [] h other = absurd (other (eqb-true b 10 h))
goes_on b (c ∷ cs) h other = omega arith

pub after_backslash : (b : ℕ) (bs : Text) → ends_line (b ∷ bs) ≡ true → b ≡ 92 → 0 < length bs
after_backslash b bs h e = goes_on b bs h (λ feed. omega (arith, e, feed))

pub no_brace : (kind : Kind) (b : ℕ) → is_brace kind b ≡ true → b ≡ 10 → ⊥
no_brace kind b h e = go kind (subst (λ n. is_brace kind n ≡ true) e h)
  where
    go : (kind : Kind) → is_brace kind 10 ≡ true → ⊥
    go OfText e = cc
    go OfBytes e = cc
    go OfFString e = cc

brace_shortened : (len b : ℕ) (bs more : Text) → 0 < length bs → FoundShortened len (brace b (bs ++ more)) (brace b bs)
brace_shortened len b [] more some = absurd (omega (arith, some))
brace_shortened len b (c ∷ cs) more some = same_shortened len (brace b (c ∷ cs))

-- What stands at a place of a body.
pub found_shortened : (literal : Literal) (text more : Text) → ends_line text ≡ true → FoundShortened (length text) (found_at literal (text ++ more)) (found_at literal text)
unfolding found_at
found_shortened literal [] more h = cc
found_shortened literal (b ∷ bs) more h =
    let P : Found → Found → Type 0 = FoundShortened (length (b ∷ bs)) in
    let one : 1 + length bs ≡ length (b ∷ bs) = omega arith in
    both_equal P (starts_with nat_eq (b ∷ (bs ++ more)) (closing_quotes literal.opening)) (starts_with nat_eq (b ∷ bs) (closing_quotes literal.opening)) _ _ _ _ (sym (starts_append (b ∷ bs) (closing_quotes literal.opening) more h (closing_in_line literal.opening))) (λ closed. refl)
    (both P (b == byte "\n" && not literal.opening.is_triple) _ _ _ _ (λ e. same_shortened (length (b ∷ bs)) (Stops Line)) (λ e.
    both P (b == byte "\r") _ _ _ _ (λ e. same_shortened (length (b ∷ bs)) (goes 1 [])) (λ e.
    both P (b == byte "\\" && literal.opening.is_raw) _ _ _ _ (λ e. subst (λ n. FoundShortened n (raw_pair literal.kind literal.opening.quote (bs ++ more)) (raw_pair literal.kind literal.opening.quote bs)) one (raw_pair_shortened literal.kind literal.opening.quote bs more (after_backslash b bs h (eqb-true b 92 (left_true (b == byte "\\") literal.opening.is_raw e))))) (λ e.
    both P (b == byte "\\") _ _ _ _ (λ e. subst (λ n. FoundShortened n (escape literal.kind (bs ++ more)) (escape literal.kind bs)) one (escape_shortened literal.kind bs more (after_backslash b bs h (eqb-true b 92 e)))) (λ e.
    both P (is_brace literal.kind b) _ _ _ _ (λ e. brace_shortened _ b bs more (goes_on b bs h (no_brace literal.kind b e))) (λ e.
    λ inside. ap (λ (character : Text). goes (length character) character) (character_shortened (b ∷ bs) more inside)))))))
  where
    left_true : (x y : Bool) → (x && y) ≡ true → x ≡ true
    left_true true y e = refl
    left_true false y e = cc

-- Bodies

pub body_from_shortened : (literal : Literal) (passed : ℕ) (text more : Text) → ends_line text ≡ true → is_closed (body_from literal passed (text ++ more)).stop ≡ true → passed + body_len (body_from literal passed (text ++ more)) < length text
    → body_from literal passed text ≡ body_from literal passed (text ++ more)
unfolding body_from
body_from_shortened literal passed [] more h closed inside = absurd (omega (arith, inside))
body_from_shortened literal (suc passed) (b ∷ bs) more h closed inside = body_from_shortened literal passed bs more (ends_line_rest b bs (omega (arith, inside)) h) closed (omega (arith, inside))
body_from_shortened literal zero (b ∷ bs) more h closed inside =
    go (found_at literal (b ∷ (bs ++ more))) (found_at literal (b ∷ bs)) (found_shortened literal (b ∷ bs) more h) (found_fits literal (b ∷ (bs ++ more))) (λ passed. body_from_shortened literal passed bs more) closed inside
  where
    whole : ℕ → Body
    whole passed = body_from literal passed (bs ++ more)

    go : (found other : Found) → FoundShortened (length (b ∷ bs)) found other → FoundFits literal.opening (b ∷ (bs ++ more)) found
        → ((passed : ℕ) → ends_line bs ≡ true → is_closed (body_from literal passed (bs ++ more)).stop ≡ true → passed + body_len (body_from literal passed (bs ++ more)) < length bs → body_from literal passed bs ≡ body_from literal passed (bs ++ more))
        → is_closed (body_onward found whole).stop ≡ true → 0 + body_len (body_onward found whole) < length (b ∷ bs) → body_onward other (λ passed. body_from literal passed bs) ≡ body_onward found whole
    go (Stops stop) other shortened fits rest closed inside = ap (λ (found : Found). body_onward found (λ passed. body_from literal passed bs)) (shortened closed)
    go (Goes item) other shortened fits rest closed inside =
        let total = sum_by-cons (λ (item : Item). item.len) item (whole (item.len - 1)).items in
        let some = fits.0 in
        let found : other ≡ Goes item = shortened (omega (arith, inside, total)) in
        let remainder = rest (item.len - 1) (ends_line_rest b bs (omega (arith, inside, total, some)) h) closed (omega (arith, inside, total, some)) in
        ap (λ (found : Found). body_onward found (λ passed. body_from literal passed bs)) found ∙ ap (λ (rest : Body). record { items = item ∷ rest.items; stop = rest.stop }) remainder

-- A closed body that ends before the front does.
pub body_shortened : (literal : Literal) (text more : Text) → ends_line text ≡ true → is_closed (body_at literal (text ++ more)).stop ≡ true → body_len (body_at literal (text ++ more)) < length text → body_at literal text ≡ body_at literal (text ++ more)
unfolding body_at
body_shortened literal text more h closed inside = body_from_shortened literal 0 text more h closed (omega (arith, inside))
