-- The forms of items, and what ends items that no quotes close, agree with what is found at a place of a body.
use Rattle.std.proofs.Common.{◌≡◌, ℕ, ◌+◌, ◌≤◌, ◌⊎◌, inl, inr, Bool, true, false, not, [], ◌∷◌, length, take, drop, refl, ap, ◌∙◌, sym, subst, Some, None, Option, arith, nat_eq}
use Rattle.std.specs.Prelude.{⊤, ◌==◌, ◌&&◌, ◌||◌, if◌then◌else◌, nat_lt, encode_utf8}
use Rattle.std.specs.Char.{is_ascii_hexdigit}
use Rattle.std.specs.List.{prefix_len, starts_with}
use Rattle.std.specs.Map.{lookup}
use Rattle.std.specs.Str.{byte, bytes_eq}
use Rattle.std.specs.Str.Parse.{digits_value}
use Rattle.std.proofs.lemmas.Bool.{and_parts, eqb-true, eq-eqb}
use Rattle.std.proofs.lemmas.Slice.Eq.{bytes_eq-Decides}
use Rattle.starlark_grammar.specs.Words.{Text, Quote, SingleQuote, DoubleQuote, Kind, OfText, OfBytes, OfFString, is_octal_digit}
use Rattle.starlark_grammar.specs.Items.{Literal, Item, Stop, Closing, Line, Ended, OpeningBrace, ClosingBrace, BadEscape, Found, Goes, Stops, goes, quote_byte, broken, is_character, numbered, hexadecimal, octal, escaped_newline, simple_escapes, simple, is_of_bytes, escape, raw_pair, brace, is_brace}
use Rattle.starlark_grammar.specs.FrontCharacter.{first_character}
use Rattle.starlark_grammar.specs.Literals.{Form, Character, Return, Escape, RawPair, Braces, is_plain_byte, is_itself, HasForm, ItemAt, IsSingle, StopsAt}
use Rattle.starlark_grammar.proofs.Choices.{either, by_test}

-- `found_at` without its tests for closing quotes and for the end of a line
abbrev pub item_found : Literal → Text → Found
item_found literal [] = Stops Ended
item_found literal (b ∷ bs) =
    if b == byte "\r" then goes 1 []
    else (if b == byte "\\" && literal.opening.is_raw then raw_pair literal.kind literal.opening.quote bs
    else (if b == byte "\\" then escape literal.kind bs
    else (if is_brace literal.kind b then brace b bs
    else goes (length (first_character (b ∷ bs))) (first_character (b ∷ bs)))))

-- Escapes

-- an escape is longer than its backslash, and its only stop is a bad one
abbrev pub EscapeIs : Found → Type 0
EscapeIs (Goes item) = 2 ≤ item.len
EscapeIs (Stops (BadEscape read last)) = ⊤
EscapeIs (Stops stop) = ⊥

broken_is : (good : ℕ) (remainder : Text) → EscapeIs (broken good remainder)
broken_is good [] = tt
broken_is good (b ∷ bs) = tt

numbered_is : (len : ℕ) (is_byte : Bool) (n : ℕ) → 2 ≤ len → EscapeIs (numbered len is_byte n)
numbered_is len true n long = either EscapeIs (nat_lt n 256) (goes len (n ∷ [])) (broken len []) long tt
numbered_is len false n long = either EscapeIs (is_character n) (goes len (encode_utf8 n)) (broken len []) long tt

hexadecimal_is : (wanted : ℕ) (is_byte : Bool) (text : Text) → EscapeIs (hexadecimal wanted is_byte text)
hexadecimal_is wanted is_byte text = go (prefix_len is_ascii_hexdigit (take wanted text))
  where
    go : (n : ℕ) → EscapeIs (if n == wanted then numbered (2 + n) is_byte (digits_value 16 (take n text)) else broken (2 + n) (drop n text))
    go n = either EscapeIs (n == wanted) _ _ (numbered_is (2 + n) is_byte (digits_value 16 (take n text)) (omega arith)) (broken_is (2 + n) (drop n text))

octal_is : (is_byte : Bool) (b : ℕ) (bs : Text) → is_octal_digit b ≡ true → EscapeIs (octal is_byte (b ∷ bs))
octal_is is_byte b bs digit = numbered_is (1 + prefix_len is_octal_digit (take 3 (b ∷ bs))) is_byte (digits_value 8 (take (prefix_len is_octal_digit (take 3 (b ∷ bs))) (b ∷ bs))) some
  where
    some : 2 ≤ 1 + prefix_len is_octal_digit (take 3 (b ∷ bs))
    some = rw (digit) (omega arith)

escaped_feed_is : (text : Text) → EscapeIs (escaped_newline text)
escaped_feed_is [] = tt
escaped_feed_is (b ∷ bs) = either EscapeIs (b == byte "\n") _ _ (omega arith) (broken_is 2 (b ∷ bs))

simple_is : (value : Option ℕ) (b : ℕ) (bs : Text) → EscapeIs (simple value (first_character (b ∷ bs)))
simple_is (Some value) b bs = omega arith
simple_is None b bs = omega arith

pub escape_is : (kind : Kind) (text : Text) → EscapeIs (escape kind text)
unfolding escape
escape_is kind [] = tt
escape_is kind (b ∷ bs) =
    either EscapeIs (b == byte "\n") _ _ (omega arith)
    (either EscapeIs (b == byte "\r") _ _ (escaped_feed_is bs)
    (either EscapeIs (b == byte "x") _ _ (hexadecimal_is 2 (is_of_bytes kind) bs)
    (either EscapeIs (b == byte "u") _ _ (hexadecimal_is 4 false bs)
    (either EscapeIs (b == byte "U") _ _ (hexadecimal_is 8 false bs)
    (by_test EscapeIs (is_octal_digit b) _ _ (octal_is (is_of_bytes kind) b bs)
    (λ e. simple_is (lookup (nat_eq b) simple_escapes) b bs))))))

-- From what is found to forms and stops

abbrev pub FoundIs : Literal → Text → Found → Type 0
FoundIs literal text (Goes item) = ItemAt literal text item
FoundIs literal text (Stops stop) = StopsAt literal text stop

raw_is : (literal : Literal) (b : ℕ) (bs : Text) → b ≡ byte "\\" → literal.opening.is_raw ≡ true → FoundIs literal (b ∷ bs) (raw_pair literal.kind literal.opening.quote bs)
unfolding raw_pair
raw_is literal b [] backslash raw = inr (raw, ap (λ c. c ∷ []) backslash)
raw_is literal b (c ∷ cs) backslash raw = (RawPair, (backslash, raw, refl))

cooked_is : (literal : Literal) (b : ℕ) (bs : Text) → b ≡ byte "\\" → (b == byte "\\") ≡ true → literal.opening.is_raw ≡ false → FoundIs literal (b ∷ bs) (escape literal.kind bs)
cooked_is literal b bs backslash test cooked = go (escape literal.kind bs) refl (escape_is literal.kind bs)
  where
    go : (found : Found) → escape literal.kind bs ≡ found → EscapeIs found → FoundIs literal (b ∷ bs) found
    go (Goes item) e long = (Escape, (backslash, cooked, e))
    go (Stops Closing) e long = absurd long
    go (Stops Line) e long = absurd long
    go (Stops Ended) e long = absurd long
    go (Stops OpeningBrace) e long = absurd long
    go (Stops ClosingBrace) e long = absurd long
    go (Stops (BadEscape read last)) e long = (cooked, rw (backslash) refl, e)

brace_by : (literal : Literal) (b : ℕ) (bs : Text) → literal.kind ≡ OfFString → ((b == byte "{") || (b == byte "}")) ≡ true → starts_with nat_eq (b ∷ bs) (b ∷ b ∷ []) ≡ false
    → StopsAt literal (b ∷ bs) (if b == byte "{" then OpeningBrace else ClosingBrace)
brace_by literal b bs kind is single = go (b == byte "{") refl is
  where
    go : (opens : Bool) → (b == byte "{") ≡ opens → (opens || (b == byte "}")) ≡ true → StopsAt literal (b ∷ bs) (if opens then OpeningBrace else ClosingBrace)
    go true e is = let same : b ≡ byte "{" = eqb-true b (byte "{") e in (kind, (rw (same) refl, subst (λ c. starts_with nat_eq (b ∷ bs) (c ∷ c ∷ []) ≡ false) same single))
    go false e is = let same : b ≡ byte "}" = eqb-true b (byte "}") is in (kind, (rw (same) refl, subst (λ c. starts_with nat_eq (b ∷ bs) (c ∷ c ∷ []) ≡ false) same single))

brace_is : (literal : Literal) (b : ℕ) (bs : Text) → is_brace literal.kind b ≡ true → FoundIs literal (b ∷ bs) (brace b bs)
brace_is literal b bs is = go bs (kind_is literal.kind b is)
  where
    kind_is : (kind : Kind) (b : ℕ) → is_brace kind b ≡ true → (kind ≡ OfFString) × (((b == byte "{") || (b == byte "}")) ≡ true)
    kind_is OfFString b is = (refl, is)
    kind_is OfText b is = cc
    kind_is OfBytes b is = cc

    again : (b c : ℕ) (cs : Text) (test : Bool) → nat_eq b c ≡ test → nat_eq b b ≡ true → starts_with nat_eq (b ∷ c ∷ cs) (b ∷ b ∷ []) ≡ test
    again b c cs true e same = rw (same, e) refl
    again b c cs false e same = rw (same, e) refl

    go : (bs : Text) → (literal.kind ≡ OfFString) × (((b == byte "{") || (b == byte "}")) ≡ true) → FoundIs literal (b ∷ bs) (brace b bs)
    go [] parts = brace_by literal b [] parts.0 parts.1 (rw (eq-eqb b b refl) refl)
    go (c ∷ cs) parts = by_test (FoundIs literal (b ∷ c ∷ cs)) (b == c) _ _
        (λ e. (Braces, (is, rw (e) refl, refl)))
        (λ e. brace_by literal b (c ∷ cs) parts.0 parts.1 (again b c cs false e (eq-eqb b b refl)))

pub item_found_is : (literal : Literal) (text : Text) → FoundIs literal text (item_found literal text)
item_found_is literal [] = inl refl
item_found_is literal (b ∷ bs) =
    let P : Found → Type 0 = FoundIs literal (b ∷ bs) in
    by_test P (b == byte "\r") _ _ (λ e. (Return, (eqb-true b (byte "\r") e, refl))) (λ no_return.
    by_test P (b == byte "\\" && literal.opening.is_raw) _ _ (λ e. let parts = and_parts (b == byte "\\") literal.opening.is_raw e in raw_is literal b bs (eqb-true b (byte "\\") parts.0) parts.1) (λ no_raw.
    by_test P (b == byte "\\") _ _ (λ e. cooked_is literal b bs (eqb-true b (byte "\\") e) e (second (b == byte "\\") literal.opening.is_raw e no_raw)) (λ no_backslash.
    by_test P (is_brace literal.kind b) _ _ (brace_is literal b bs) (λ no_brace.
    (Character, (rw (no_return, no_backslash, no_brace) refl, refl))))))
  where
    second : (x y : Bool) → x ≡ true → (x && y) ≡ false → y ≡ false
    second true y e f = f
    second false y e f = cc

-- From forms to what is found

pub item_found_from : (literal : Literal) (text : Text) (item : Item) → ItemAt literal text item → item_found literal text ≡ Goes item
item_found_from literal text item is = go is.0 text is.1
  where
    of_parts : (b : ℕ) → is_plain_byte literal.kind b ≡ true → ((b == byte "\r") ≡ false) × ((b == byte "\\") ≡ false) × (is_brace literal.kind b ≡ false)
    of_parts b e =
        let first = and_parts (not (b == byte "\r") && not (b == byte "\\")) (not (is_brace literal.kind b)) e in
        let rest = and_parts (not (b == byte "\r")) (not (b == byte "\\")) first.0 in
        (negated (b == byte "\r") rest.0, negated (b == byte "\\") rest.1, negated (is_brace literal.kind b) first.1)
      where
        negated : (x : Bool) → not x ≡ true → x ≡ false
        negated true e = cc
        negated false e = refl

    by_brace : (kind : Kind) (b : ℕ) → is_brace kind b ≡ true → ((b == byte "\r") ≡ false) × ((b == byte "\\") ≡ false)
    by_brace OfText b e = cc
    by_brace OfBytes b e = cc
    by_brace OfFString b e = here (b == byte "{") refl e
      where
        here : (opens : Bool) → (b == byte "{") ≡ opens → (opens || (b == byte "}")) ≡ true → ((b == byte "\r") ≡ false) × ((b == byte "\\") ≡ false)
        here true e is = let same : b ≡ byte "{" = eqb-true b (byte "{") e in (rw (same) refl, rw (same) refl)
        here false e is = let same : b ≡ byte "}" = eqb-true b (byte "}") is in (rw (same) refl, rw (same) refl)

    doubled : (b : ℕ) (bs : Text) → starts_with nat_eq bs (b ∷ []) ≡ true → brace b bs ≡ goes 2 (b ∷ [])
    doubled b [] e = cc
    doubled b (c ∷ cs) e = let parts = and_parts (nat_eq b c) _ e in rw (parts.0) refl

    go : (form : Form) (text : Text) → HasForm literal form text item → item_found literal text ≡ Goes item
    go Character [] has = absurd has
    go Return [] has = absurd has
    go Escape [] has = absurd has
    go RawPair [] has = absurd has
    go Braces [] has = absurd has
    go Character (b ∷ bs) has = let parts = of_parts b has.0 in rw (parts.0, parts.1, parts.2) (ap Goes (sym has.1))
    go Return (b ∷ bs) has = rw (has.0) (ap Goes (sym has.1))
    go Escape (b ∷ bs) has = rw (has.0, has.1) has.2
    go RawPair (b ∷ bs) has = rw (has.0, has.1) has.2
    go Braces (b ∷ bs) has = let parts = by_brace literal.kind b has.0 in rw (parts.0, parts.1, has.0) (doubled b bs has.1 ∙ ap Goes (sym has.2))

-- at most one item is at a place
pub one_item : (literal : Literal) (text : Text) (one other : Item) → ItemAt literal text one → ItemAt literal text other → one ≡ other
one_item literal text one other is also = let same : Goes one ≡ Goes other = sym (item_found_from literal text one is) ∙ item_found_from literal text other also in cc

-- a single brace
single : (literal : Literal) (b : ℕ) (stop : Stop) (text : Text) → ((c : ℕ) (cs : Text) → b ≡ c → item_found literal (c ∷ cs) ≡ brace c cs) → (if b == byte "{" then OpeningBrace else ClosingBrace) ≡ stop
    → IsSingle b text → item_found literal text ≡ Stops stop
single literal b stop [] is_found is_stop is = cc
single literal b stop (c ∷ cs) is_found is_stop is =
    let parts = and_parts (nat_eq b c) _ is.0 in
    let same : b ≡ c = eqb-true b c parts.0 in
    is_found c cs same ∙ subst (λ d. brace d cs ≡ Stops stop) same (go cs (subst (λ d. starts_with nat_eq (d ∷ cs) (b ∷ b ∷ []) ≡ false) (sym same) is.1))
  where
    miss : (d : ℕ) (ds : Text) (test : Bool) → nat_eq b d ≡ test → starts_with nat_eq (b ∷ d ∷ ds) (b ∷ b ∷ []) ≡ false → test ≡ false
    miss d ds false e twice = refl
    miss d ds true e twice = absurd (never (rw (eq-eqb b b refl, e) refl) twice)
      where
        never : {x : Bool} → x ≡ true → x ≡ false → ⊥
        never e f = cc

    go : (cs : Text) → starts_with nat_eq (b ∷ cs) (b ∷ b ∷ []) ≡ false → brace b cs ≡ Stops stop
    go [] twice = ap Stops is_stop
    go (d ∷ ds) twice = rw (miss d ds (nat_eq b d) refl twice) (ap Stops is_stop)

single_opening : (literal : Literal) (text : Text) → literal.kind ≡ OfFString → IsSingle (byte "{") text → item_found literal text ≡ Stops OpeningBrace
single_opening literal text kind is = single literal (byte "{") OpeningBrace text (λ c cs e. rw (← e, kind) refl) refl is

single_closing : (literal : Literal) (text : Text) → literal.kind ≡ OfFString → IsSingle (byte "}") text → item_found literal text ≡ Stops ClosingBrace
single_closing literal text kind is = single literal (byte "}") ClosingBrace text (λ c cs e. rw (← e, kind) refl) refl is

bad_escape : (literal : Literal) (text : Text) (read last : ℕ) → literal.opening.is_raw ≡ false → starts_with nat_eq text (byte "\\" ∷ []) ≡ true → escape literal.kind (drop 1 text) ≡ Stops (BadEscape read last) → item_found literal text ≡ Stops (BadEscape read last)
bad_escape literal [] read last cooked starts e = cc
bad_escape literal (b ∷ bs) read last cooked starts e =
    let same : byte "\\" ≡ b = eqb-true (byte "\\") b (and_parts (nat_eq (byte "\\") b) _ starts).0 in
    rw (← same, cooked) e

-- what ends items that no quotes close is no item, but for an LF
pub stops_found : (literal : Literal) (text : Text) (stop : Stop) → StopsAt literal text stop → (stop ≡ Line) ⊎ (item_found literal text ≡ Stops stop)
unfolding raw_pair
stops_found literal text Closing is = absurd is
stops_found literal text Line is = inl refl
stops_found literal text Ended (inl none) = inr (rw (none) refl)
stops_found literal text Ended (inr is) = inr (rw (is.1, is.0) refl)
stops_found literal text OpeningBrace is = inr (single_opening literal text is.0 is.1)
stops_found literal text ClosingBrace is = inr (single_closing literal text is.0 is.1)
stops_found literal text (BadEscape read last) is = inr (bad_escape literal text read last is.0 is.1 is.2)

-- Quotes

-- a quote is an item of its own
pub quote_found : (literal : Literal) (quote : Quote) (bs : Text) → item_found literal (quote_byte quote ∷ bs) ≡ goes 1 (quote_byte quote ∷ [])
quote_found literal quote bs = go literal.kind quote
  where
    go : (kind : Kind) (quote : Quote) → item_found (record { kind = kind; opening = literal.opening }) (quote_byte quote ∷ bs) ≡ goes 1 (quote_byte quote ∷ [])
    go OfText SingleQuote = refl
    go OfText DoubleQuote = refl
    go OfBytes SingleQuote = refl
    go OfBytes DoubleQuote = refl
    go OfFString SingleQuote = refl
    go OfFString DoubleQuote = refl

pub feed_found : (literal : Literal) (bs : Text) → item_found literal (byte "\n" ∷ bs) ≡ goes 1 (byte "\n" ∷ [])
feed_found literal bs = go literal.kind
  where
    go : (kind : Kind) → item_found (record { kind = kind; opening = literal.opening }) (byte "\n" ∷ bs) ≡ goes 1 (byte "\n" ∷ [])
    go OfText = refl
    go OfBytes = refl
    go OfFString = refl

-- where an item is a byte that denotes itself, the text begins with that byte
pub itself_front : (literal : Literal) (text : Text) (item : Item) (b : ℕ) → ItemAt literal text item → is_itself b item ≡ true → (bs : Text) × (text ≡ b ∷ bs)
unfolding raw_pair
itself_front literal text item b is same = go is.0 text is.1
  where
    parts : (item.len ≡ 1) × (item.value ≡ b ∷ [])
    parts =
        let both = and_parts (item.len == 1) (bytes_eq item.value (b ∷ [])) same in
        (eqb-true item.len 1 both.0, (bytes_eq-Decides item.value (b ∷ [])).0 both.1)

    len_of : Found → ℕ
    len_of (Goes item) = item.len
    len_of (Stops stop) = 0

    long : {found : Found} → EscapeIs found → found ≡ Goes item → 2 ≤ item.len
    long is e = subst EscapeIs e is

    go : (form : Form) (text : Text) → HasForm literal form text item → (bs : Text) × (text ≡ b ∷ bs)
    go Character [] has = absurd has
    go Return [] has = absurd has
    go Escape [] has = absurd has
    go RawPair [] has = absurd has
    go Braces [] has = absurd has
    go Character (c ∷ cs) has =
        let value : first_character (c ∷ cs) ≡ b ∷ [] = sym (ap (λ (i : Item). i.value) has.1) ∙ parts.1 in
        let first : c ≡ b = cc in
        (cs, ap (λ d. d ∷ cs) first)
    go Return (c ∷ cs) has = let value : [] ≡ b ∷ [] = sym (ap (λ (i : Item). i.value) has.1) ∙ parts.1 in cc
    go Escape (c ∷ cs) has = absurd (omega (arith, long (escape_is literal.kind cs) has.2, parts.0))
    go RawPair (c ∷ []) has = let none : Stops Ended ≡ Goes item = has.2 in cc
    go RawPair (c ∷ d ∷ ds) has = let len : 1 + length (first_character (d ∷ ds)) ≡ item.len = ap len_of has.2 in absurd (omega (arith, len, parts.0))
    go Braces (c ∷ cs) has = let len : item.len ≡ 2 = ap (λ (i : Item). i.len) has.2 in absurd (omega (arith, len, parts.0))
