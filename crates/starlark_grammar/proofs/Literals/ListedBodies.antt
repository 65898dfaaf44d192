-- The computed body is the only list of items that holds nothing forbidden, with what ends it.
use Rattle.std.proofs.Common.{◌≡◌, ℕ, zero, suc, ◌+◌, ◌-◌, ◌≤◌, ◌⊎◌, inl, inr, Bool, true, false, not, cond, List, [], ◌∷◌, ◌++◌, length, drop, refl, ap, ◌∙◌, sym, subst, arith, nat_eq, length-append}
use Rattle.std.specs.Prelude.{⊤, ◌==◌, ◌&&◌, nat_le, codes}
use Rattle.std.specs.List.{prefix_len, starts_with, list_any}
use Rattle.std.specs.Str.{byte, bytes_eq}
use Rattle.std.proofs.lemmas.Bool.{and_parts, eqb-true, eq-eqb, leb-true, le-leb, or_parts, or_from}
use Rattle.std.proofs.lemmas.List.Sums.{sum_by-cons}
use Rattle.starlark_grammar.specs.Words.{Text, Quote, SingleQuote, DoubleQuote, OfFString}
use Rattle.starlark_grammar.specs.Tokens.{Opening}
use Rattle.starlark_grammar.specs.Items.{Literal, Item, Stop, Closing, Line, Ended, OpeningBrace, ClosingBrace, BadEscape, Found, Goes, Stops, goes, quote_byte, closing_quotes, found_at, Body, body_onward, body_from, body_at}
use Rattle.starlark_grammar.specs.Literals.{ItemAt, ItemsAt, items_len, itself, is_itself, holds_closing, quotes_before_last, IsGoodBody, StopsAt, IsUnclosedBody, IsBadBody, IsBodyBy, IsBody}
use Rattle.starlark_grammar.specs.Laws.{BodyIs, BodyIsOne, BodyIsBad, GoodOrBad, GoodLiteralIsToken, BadLiteralIsFault, ChunkIsBody}
use Rattle.starlark_grammar.specs.Pieces.{literal_by, chunk, chunk_by}
use Rattle.starlark_grammar.proofs.Lists.{drop-sum, drop-remainder}
use Rattle.starlark_grammar.proofs.Literals.Bodies.{found_fits, FoundFits}
use Rattle.starlark_grammar.proofs.Literals.Forms.{item_found, FoundIs, item_found_is, item_found_from, one_item, stops_found, quote_found, feed_found, itself_front}

never : {x : Bool} → x ≡ true → x ≡ false → ⊥
never e f = cc

-- Quotes at the front of a text

abbrev pub count : Opening → ℕ
count opening = length (closing_quotes opening)

-- whether n quotes are at the front
abbrev pub begins : ℕ → ℕ → Text → Bool
begins zero q text = true
begins (suc n) q [] = false
begins (suc n) q (b ∷ bs) = nat_eq q b && begins n q bs

three_begin : (q : ℕ) (text : Text) → starts_with nat_eq text (q ∷ q ∷ q ∷ []) ≡ begins 3 q text
three_begin q [] = refl
three_begin q (b ∷ []) = refl
three_begin q (b ∷ c ∷ []) = refl
three_begin q (b ∷ c ∷ d ∷ ds) = refl

one_begins : (q : ℕ) (text : Text) → starts_with nat_eq text (q ∷ []) ≡ begins 1 q text
one_begins q [] = refl
one_begins q (b ∷ bs) = refl

closing_begins : (opening : Opening) (text : Text) → starts_with nat_eq text (closing_quotes opening) ≡ begins (count opening) (quote_byte opening.quote) text
closing_begins opening text = go opening.is_triple
  where
    go : (triple : Bool) → let here : Opening = record { is_raw = opening.is_raw; quote = opening.quote; is_triple = triple } in starts_with nat_eq text (closing_quotes here) ≡ begins (length (closing_quotes here)) (quote_byte opening.quote) text
    go true = three_begin (quote_byte opening.quote) text
    go false = one_begins (quote_byte opening.quote) text

some_close : (opening : Opening) → 1 ≤ count opening
some_close opening = go opening.is_triple
  where
    go : (triple : Bool) → 1 ≤ length (closing_quotes (record { is_raw = opening.is_raw; quote = opening.quote; is_triple = triple }))
    go true = omega arith
    go false = omega arith

-- Lists of items

items_after : (item : Item) (items : List Item) (text : Text) → drop (items_len (item ∷ items)) text ≡ drop (items_len items) (drop item.len text)
items_after item items text = ap (λ n. drop n text) (sum_by-cons (λ (i : Item). i.len) item items) ∙ drop-sum item.len (items_len items) text

items_append : (literal : Literal) (text : Text) (items more : List Item) → ItemsAt literal text items → ItemsAt literal (drop (items_len items) text) more → ItemsAt literal text (items ++ more)
items_append literal text [] more stand remainder = remainder
items_append literal text (item ∷ items) more stand remainder =
    (stand.0, items_append literal (drop item.len text) items more stand.1 (subst (λ (t : Text). ItemsAt literal t more) (items_after item items text) remainder))

-- a text whose first item is one byte that denotes itself
itself_text : (literal : Literal) (text : Text) (item : Item) (b : ℕ) → ItemAt literal text item → is_itself b item ≡ true → text ≡ b ∷ drop item.len text
itself_text literal text item b stand same =
    let front = itself_front literal text item b stand same in
    let len : item.len ≡ 1 = eqb-true item.len 1 (and_parts (item.len == 1) (bytes_eq item.value (b ∷ [])) same).0 in
    front.1 ∙ ap (λ (t : Text). b ∷ t) (sym (ap (λ n. drop n text) len ∙ ap (λ (t : Text). drop 1 t) front.1))

-- Plain quotes at the front of items are quotes at the front of the text, …
quotes_text : (literal : Literal) (q n : ℕ) (text : Text) (items : List Item) → ItemsAt literal text items → n ≤ prefix_len (is_itself q) items → begins n q text ≡ true
quotes_text literal q zero text items stand few = refl
quotes_text literal q (suc n) text [] stand few = absurd (omega (arith, few))
quotes_text literal q (suc n) text (item ∷ items) stand few = go (is_itself q item) refl (quotes_text literal q n (drop item.len text) items stand.1) few
  where
    go : (same : Bool) → is_itself q item ≡ same → (n ≤ prefix_len (is_itself q) items → begins n q (drop item.len text) ≡ true) → suc n ≤ cond same (1 + prefix_len (is_itself q) items) 0 → begins (suc n) q text ≡ true
    go true e more few = ap (begins (suc n) q) (itself_text literal text item q stand.0 e) ∙ rw (eq-eqb q q refl) (more (omega (arith, few)))
    go false e more few = absurd (omega (arith, few))

-- … and the other way round, as far as the items reach, or if no quote comes after them.
text_quotes : (literal : Literal) (quote : Quote) (n : ℕ) (text : Text) (items : List Item) → ItemsAt literal text items
    → (n ≤ length items) ⊎ (begins 1 (quote_byte quote) (drop (items_len items) text) ≡ false) → begins n (quote_byte quote) text ≡ true → n ≤ prefix_len (is_itself (quote_byte quote)) items
text_quotes literal quote zero text items stand far h = omega arith
text_quotes literal quote (suc n) text [] stand (inl few) h = absurd (omega (arith, few))
text_quotes literal quote (suc n) [] [] stand (inr none) h = cc
text_quotes literal quote (suc n) (b ∷ bs) [] stand (inr none) h =
    let first = (and_parts (nat_eq (quote_byte quote) b) (begins n (quote_byte quote) bs) h).0 in
    absurd (never (rw (first) refl) none)
text_quotes literal quote (suc n) [] (item ∷ items) stand far h = cc
text_quotes literal quote (suc n) (b ∷ bs) (item ∷ items) stand far h = by (text_quotes literal quote n bs items) far
  where
    More : Type 0
    More = ItemsAt literal bs items → (n ≤ length items) ⊎ (begins 1 (quote_byte quote) (drop (items_len items) bs) ≡ false) → begins n (quote_byte quote) bs ≡ true → n ≤ prefix_len (is_itself (quote_byte quote)) items

    parts : (nat_eq (quote_byte quote) b ≡ true) × (begins n (quote_byte quote) bs ≡ true)
    parts = and_parts (nat_eq (quote_byte quote) b) (begins n (quote_byte quote) bs) h

    first : quote_byte quote ≡ b
    first = eqb-true (quote_byte quote) b parts.0

    same : item ≡ itself (quote_byte quote ∷ [])
    same =
        let found : Goes item ≡ goes 1 (quote_byte quote ∷ []) = sym (item_found_from literal (b ∷ bs) item stand.0) ∙ ap (λ c. item_found literal (c ∷ bs)) (sym first) ∙ quote_found literal quote bs in
        cc

    len : item.len ≡ 1
    len = ap (λ (i : Item). i.len) same

    is : is_itself (quote_byte quote) item ≡ true
    is = ap (is_itself (quote_byte quote)) same ∙ rw (eq-eqb (quote_byte quote) (quote_byte quote) refl) refl

    rest : drop item.len (b ∷ bs) ≡ bs
    rest = ap (λ n. drop n (b ∷ bs)) len

    onward : More → (n ≤ length items) ⊎ (begins 1 (quote_byte quote) (drop (items_len items) bs) ≡ false) → suc n ≤ prefix_len (is_itself (quote_byte quote)) (item ∷ items)
    onward more far = rw (is) (omega (arith, more (subst (λ (t : Text). ItemsAt literal t items) rest stand.1) far parts.1))

    by : More → (suc n ≤ length (item ∷ items)) ⊎ (begins 1 (quote_byte quote) (drop (items_len (item ∷ items)) (b ∷ bs)) ≡ false) → suc n ≤ prefix_len (is_itself (quote_byte quote)) (item ∷ items)
    by more (inl few) = onward more (inl (omega (arith, few)))
    by more (inr none) = onward more (inr (subst (λ (t : Text). begins 1 (quote_byte quote) t ≡ false) (items_after item items (b ∷ bs) ∙ ap (drop (items_len items)) rest) none))

-- Places that a body passes: neither closing quotes nor an LF that ends the literal are there.

abbrev pub ends_line : Opening → Text → Bool
ends_line opening [] = false
ends_line opening (b ∷ bs) = b == byte "\n" && not opening.is_triple

abbrev pub Passes : Literal → Text → Type 0
Passes literal text = (begins (count literal.opening) (quote_byte literal.opening.quote) text ≡ false) × (ends_line literal.opening text ≡ false)

abbrev pub AllPass : Literal → Text → List Item → Type 0
AllPass literal text [] = ⊤
AllPass literal text (item ∷ items) = Passes literal text × AllPass literal (drop item.len text) items

-- what is found at a passed place
found_passed : (literal : Literal) (text : Text) → Passes literal text → found_at literal text ≡ item_found literal text
unfolding found_at
found_passed literal [] passes = refl
found_passed literal (b ∷ bs) passes = rw (closing_begins literal.opening (b ∷ bs), passes.0, passes.1) refl

-- what is found at any place
abbrev pub PlaceIs : Literal → Text → Type 0
PlaceIs literal text = ((begins (count literal.opening) (quote_byte literal.opening.quote) text ≡ true) × (found_at literal text ≡ Stops Closing))
    ⊎ (((begins (count literal.opening) (quote_byte literal.opening.quote) text ≡ false) × (ends_line literal.opening text ≡ true) × (found_at literal text ≡ Stops Line))
    ⊎ (Passes literal text × (found_at literal text ≡ item_found literal text)))

mode_is : (literal : Literal) (text : Text) → PlaceIs literal text
unfolding found_at
mode_is literal [] = inr (inr ((none literal.opening, refl), refl))
  where
    none : (opening : Opening) → begins (count opening) (quote_byte opening.quote) [] ≡ false
    none opening = go opening.is_triple
      where
        go : (triple : Bool) → begins (length (closing_quotes (record { is_raw = opening.is_raw; quote = opening.quote; is_triple = triple }))) (quote_byte opening.quote) [] ≡ false
        go true = refl
        go false = refl
mode_is literal (b ∷ bs) = go (begins (count literal.opening) (quote_byte literal.opening.quote) (b ∷ bs)) refl
  where
    go : (closes : Bool) → begins (count literal.opening) (quote_byte literal.opening.quote) (b ∷ bs) ≡ closes → PlaceIs literal (b ∷ bs)
    go true e = inl (e, rw (closing_begins literal.opening (b ∷ bs), e) refl)
    go false e = inr (line (b == byte "\n" && not literal.opening.is_triple) refl)
      where
        line : (ends : Bool) → (b == byte "\n" && not literal.opening.is_triple) ≡ ends
            → ((begins (count literal.opening) (quote_byte literal.opening.quote) (b ∷ bs) ≡ false) × (ends_line literal.opening (b ∷ bs) ≡ true) × (found_at literal (b ∷ bs) ≡ Stops Line))
            ⊎ (Passes literal (b ∷ bs) × (found_at literal (b ∷ bs) ≡ item_found literal (b ∷ bs)))
        line true f = inl (e, f, rw (closing_begins literal.opening (b ∷ bs), e, f) refl)
        line false f = inr ((e, f), rw (closing_begins literal.opening (b ∷ bs), e, f) refl)

-- From passed places to what a list holds

-- A list holds no closing quotes if its first items are at passed places, and the other items hold none.
quotes_passed : (literal : Literal) (text : Text) (items more : List Item) → ItemsAt literal text (items ++ more) → AllPass literal text items → holds_closing literal.opening more ≡ false → holds_closing literal.opening (items ++ more) ≡ false
quotes_passed literal text [] more stand pass none = none
quotes_passed literal text (item ∷ items) more stand pass none =
    or_from _ _ (go (nat_le (count literal.opening) (prefix_len (is_itself (quote_byte literal.opening.quote)) (item ∷ (items ++ more)))) refl)
    (quotes_passed literal (drop item.len text) items more stand.1 pass.1 none)
  where
    go : (closes : Bool) → nat_le (count literal.opening) (prefix_len (is_itself (quote_byte literal.opening.quote)) (item ∷ (items ++ more))) ≡ closes → closes ≡ false
    go false e = refl
    go true e = absurd (never (quotes_text literal (quote_byte literal.opening.quote) (count literal.opening) text (item ∷ (items ++ more)) stand (leb-true _ _ e)) pass.0.0)

-- No LF that ends the literal is among items at passed places.
feeds_passed : (literal : Literal) (text : Text) (items : List Item) → ItemsAt literal text items → AllPass literal text items → (not literal.opening.is_triple && list_any (is_itself (byte "\n")) items) ≡ false
feeds_passed literal text items stand pass = go literal.opening.is_triple refl
  where
    each : (text : Text) (items : List Item) → literal.opening.is_triple ≡ false → ItemsAt literal text items → AllPass literal text items → list_any (is_itself (byte "\n")) items ≡ false
    each text [] one stand pass = refl
    each text (item ∷ items) one stand pass = or_from _ _ (here (is_itself (byte "\n") item) refl) (each (drop item.len text) items one stand.1 pass.1)
      where
        here : (same : Bool) → is_itself (byte "\n") item ≡ same → same ≡ false
        here false e = refl
        here true e =
            let front = itself_front literal text item (byte "\n") stand.0 e in
            absurd (never (ap (ends_line literal.opening) front.1 ∙ rw (one) refl) pass.0.1)

    go : (triple : Bool) → literal.opening.is_triple ≡ triple → (not triple && list_any (is_itself (byte "\n")) items) ≡ false
    go true e = refl
    go false e = each text items e stand pass

-- the closing quotes but the last aren't enough to close a literal
quotes_few : (opening : Opening) → holds_closing opening (quotes_before_last opening) ≡ false
quotes_few opening = go opening.is_triple opening.quote
  where
    go : (triple : Bool) (quote : Quote) → let here : Opening = record { is_raw = opening.is_raw; quote = quote; is_triple = triple } in holds_closing here (quotes_before_last here) ≡ false
    go true SingleQuote = refl
    go true DoubleQuote = refl
    go false SingleQuote = refl
    go false DoubleQuote = refl

quote_stands : (literal : Literal) (quote : Quote) (bs : Text) → ItemAt literal (quote_byte quote ∷ bs) (itself (quote_byte quote ∷ []))
quote_stands literal quote bs = subst (FoundIs literal (quote_byte quote ∷ bs)) (quote_found literal quote bs) (item_found_is literal (quote_byte quote ∷ bs))

-- the closing quotes but the last are items
quotes_stand : (literal : Literal) (text : Text) → begins (count literal.opening) (quote_byte literal.opening.quote) text ≡ true → ItemsAt literal text (quotes_before_last literal.opening)
quotes_stand literal text h = go literal.opening.is_triple h
  where
    quote : Quote
    quote = literal.opening.quote

    two : (text : Text) → begins 3 (quote_byte quote) text ≡ true → ItemsAt literal text (itself (quote_byte quote ∷ []) ∷ itself (quote_byte quote ∷ []) ∷ [])
    two [] h = absurd (never h refl)
    two (b ∷ []) h = absurd (never (and_parts (nat_eq (quote_byte quote) b) _ h).1 refl)
    two (b ∷ c ∷ ds) h =
        let first = and_parts (nat_eq (quote_byte quote) b) (begins 2 (quote_byte quote) (c ∷ ds)) h in
        let second = and_parts (nat_eq (quote_byte quote) c) (begins 1 (quote_byte quote) ds) first.1 in (
          subst (λ d. ItemAt literal (d ∷ c ∷ ds) (itself (quote_byte quote ∷ []))) (eqb-true (quote_byte quote) b first.0) (quote_stands literal quote (c ∷ ds)),
          (subst (λ d. ItemAt literal (d ∷ ds) (itself (quote_byte quote ∷ []))) (eqb-true (quote_byte quote) c second.0) (quote_stands literal quote ds), tt),
        )

    go : (triple : Bool) → let here : Opening = record { is_raw = literal.opening.is_raw; quote = literal.opening.quote; is_triple = triple } in
        begins (length (closing_quotes here)) (quote_byte literal.opening.quote) text ≡ true → ItemsAt literal text (quotes_before_last here)
    go true h = two text h
    go false h = tt

-- From what a list holds to passed places

-- after the items comes no quote, or the closing quotes but the last are among them
abbrev pub Enough : Literal → Text → List Item → List Item → Type 0
Enough literal text items more = (count literal.opening ≤ 1 + length more) ⊎ (begins 1 (quote_byte literal.opening.quote) (drop (items_len (items ++ more)) text) ≡ false)

passed : (literal : Literal) (text : Text) (items more : List Item) → ItemsAt literal text (items ++ more) → Enough literal text items more
    → holds_closing literal.opening (items ++ more) ≡ false → (literal.opening.is_triple ≡ false → list_any (is_itself (byte "\n")) items ≡ false) → AllPass literal text items
passed literal text [] more stand enough none no_feed = tt
passed literal text (item ∷ items) more stand enough none no_feed = ((no_quotes (begins (count literal.opening) (quote_byte literal.opening.quote) text) refl, no_end text stand.0 literal.opening.is_triple refl), passed literal (drop item.len text) items more stand.1 (remainder enough) (or_parts _ _ none).1 (λ one. (or_parts _ _ (no_feed one)).1))
  where
    remainder : Enough literal text (item ∷ items) more → Enough literal (drop item.len text) items more
    remainder (inl few) = inl few
    remainder (inr none) = inr (subst (λ (t : Text). begins 1 (quote_byte literal.opening.quote) t ≡ false) (items_after item (items ++ more) text) none)

    far : Enough literal text (item ∷ items) more → (count literal.opening ≤ length (item ∷ (items ++ more))) ⊎ (begins 1 (quote_byte literal.opening.quote) (drop (items_len (item ∷ (items ++ more))) text) ≡ false)
    far (inl few) = inl (omega (arith, few, length-append items more))
    far (inr none) = inr none

    no_quotes : (closes : Bool) → begins (count literal.opening) (quote_byte literal.opening.quote) text ≡ closes → closes ≡ false
    no_quotes false e = refl
    no_quotes true e =
        let many = text_quotes literal literal.opening.quote (count literal.opening) text (item ∷ (items ++ more)) stand (far enough) e in
        absurd (never (le-leb _ _ many) (or_parts _ _ none).0)

    no_end : (text : Text) → ItemAt literal text item → (triple : Bool) → literal.opening.is_triple ≡ triple → ends_line literal.opening text ≡ false
    no_end [] stand triple e = refl
    no_end (b ∷ bs) stand true e = rw (e) (and_false (b == byte "\n"))
      where
        and_false : (x : Bool) → (x && false) ≡ false
        and_false true = refl
        and_false false = refl
    no_end (b ∷ bs) stand false e = here (b == byte "\n") refl
      where
        here : (feed : Bool) → (b == byte "\n") ≡ feed → (feed && not literal.opening.is_triple) ≡ false
        here false f = refl
        here true f =
            let found : Goes item ≡ goes 1 (byte "\n" ∷ []) = sym (item_found_from literal (b ∷ bs) item stand) ∙ ap (λ c. item_found literal (c ∷ bs)) (eqb-true b (byte "\n") f) ∙ feed_found literal bs in
            let same : item ≡ itself (byte "\n" ∷ []) = cc in
            absurd (never (ap (is_itself (byte "\n")) same) (or_parts _ _ (no_feed e)).0)

-- Stops

feed_no_quote : (quote : Quote) → byte "\n" ≡ quote_byte quote → ⊥
feed_no_quote SingleQuote e = omega (arith, e)
feed_no_quote DoubleQuote e = omega (arith, e)

none_begin : (q n : ℕ) (text : Text) → 1 ≤ n → begins 1 q text ≡ false → begins n q text ≡ false
none_begin q zero text some none = absurd (omega (arith, some))
none_begin q (suc n) [] some none = refl
none_begin q (suc n) (b ∷ bs) some none = go (nat_eq q b) none
  where
    go : (same : Bool) → (same && true) ≡ false → (same && begins n q bs) ≡ false
    go false none = refl
    go true none = cc

-- an LF at the front, as the text says it
feed_first : (text : Text) → starts_with nat_eq text (codes "\n") ≡ true → (bs : Text) × (text ≡ byte "\n" ∷ bs)
feed_first [] h = cc
feed_first (b ∷ bs) h = (bs, ap (λ c. c ∷ bs) (sym (eqb-true (byte "\n") b (and_parts (nat_eq (byte "\n") b) true h).0)))

-- an LF that ends a literal is at the front
line_first : (opening : Opening) (text : Text) → ends_line opening text ≡ true → (opening.is_triple ≡ false) × ((bs : Text) × (text ≡ byte "\n" ∷ bs))
line_first opening [] h = cc
line_first opening (b ∷ bs) h =
    let parts = and_parts (b == byte "\n") (not opening.is_triple) h in
    (negated opening.is_triple parts.1, (bs, ap (λ c. c ∷ bs) (eqb-true b (byte "\n") parts.0)))
  where
    negated : (x : Bool) → not x ≡ true → x ≡ false
    negated true e = cc
    negated false e = refl

line_ends : (literal : Literal) (text : Text) → StopsAt literal text Line → ends_line literal.opening text ≡ true
line_ends literal text is =
    let first = feed_first text is.1 in
    ap (ends_line literal.opening) first.1 ∙ rw (is.0) refl

-- what ends items that no quotes close begins with no quote, …
stop_no_quote : (literal : Literal) (text : Text) (stop : Stop) → StopsAt literal text stop → begins 1 (quote_byte literal.opening.quote) text ≡ false
stop_no_quote literal [] stop is = refl
stop_no_quote literal (b ∷ bs) stop is = rw (other (nat_eq (quote_byte literal.opening.quote) b) refl) refl
  where
    quote : Quote
    quote = literal.opening.quote

    not_quote : quote_byte quote ≡ b → (stop ≡ Line) ⊎ (item_found literal (b ∷ bs) ≡ Stops stop) → ⊥
    not_quote e (inl line) =
        let first = feed_first (b ∷ bs) (subst (StopsAt literal (b ∷ bs)) line is).1 in
        let feed : b ≡ byte "\n" = cc in
        feed_no_quote quote (sym feed ∙ sym e)
    not_quote e (inr f) = let no : goes 1 (quote_byte quote ∷ []) ≡ Stops stop = sym (quote_found literal quote bs) ∙ ap (λ c. item_found literal (c ∷ bs)) e ∙ f in cc

    other : (same : Bool) → nat_eq (quote_byte quote) b ≡ same → same ≡ false
    other false e = refl
    other true e = absurd (not_quote (eqb-true (quote_byte quote) b e) (stops_found literal (b ∷ bs) stop is))

-- … and is the stop that is found.
stop_found : (literal : Literal) (text : Text) (stop : Stop) → StopsAt literal text stop → found_at literal text ≡ Stops stop
stop_found literal text stop is = go (stops_found literal text stop is) (mode_is literal text)
  where
    go : (stop ≡ Line) ⊎ (item_found literal text ≡ Stops stop) → PlaceIs literal text → found_at literal text ≡ Stops stop
    go found (inl place) = absurd (never place.0 (none_begin (quote_byte literal.opening.quote) (count literal.opening) text (some_close literal.opening) (stop_no_quote literal text stop is)))
    go (inl line) (inr (inl place)) = place.2 ∙ ap Stops (sym line)
    go (inr f) (inr (inl place)) =
        let first = line_first literal.opening text place.1 in
        let no : goes 1 (byte "\n" ∷ []) ≡ Stops stop = sym (feed_found literal first.1.0) ∙ ap (item_found literal) (sym first.1.1) ∙ f in cc
    go (inl line) (inr (inr place)) = absurd (never (line_ends literal text (subst (StopsAt literal text) line is)) place.0.1)
    go (inr f) (inr (inr place)) = place.1 ∙ f

-- A stop that is found is closing quotes, or what ends items that no quotes close.
found_stop : (literal : Literal) (text : Text) (stop : Stop) → found_at literal text ≡ Stops stop
    → ((stop ≡ Closing) × (begins (count literal.opening) (quote_byte literal.opening.quote) text ≡ true)) ⊎ StopsAt literal text stop
found_stop literal text stop e = go (mode_is literal text)
  where
    same : {found : Found} → found_at literal text ≡ found → found ≡ Stops stop
    same f = sym f ∙ e

    go : PlaceIs literal text → ((stop ≡ Closing) × (begins (count literal.opening) (quote_byte literal.opening.quote) text ≡ true)) ⊎ StopsAt literal text stop
    go (inl place) = let equal : Stops Closing ≡ Stops stop = same place.1 in let closing : stop ≡ Closing = cc in inl (closing, place.0)
    go (inr (inl place)) =
        let equal : Stops Line ≡ Stops stop = same place.2 in
        let line : Line ≡ stop = cc in
        let first = line_first literal.opening text place.1 in
        inr (subst (StopsAt literal text) line (first.0, ap (λ (t : Text). starts_with nat_eq t (codes "\n")) first.1.1))
    go (inr (inr place)) = inr (subst (FoundIs literal text) (same place.1) (item_found_is literal text))

-- An item that is found is at a passed place.
found_item : (literal : Literal) (text : Text) (item : Item) → found_at literal text ≡ Goes item → ItemAt literal text item × Passes literal text
found_item literal text item e = go (mode_is literal text)
  where
    go : PlaceIs literal text → ItemAt literal text item × Passes literal text
    go (inl place) = let no : Stops Closing ≡ Goes item = sym place.1 ∙ e in cc
    go (inr (inl place)) = let no : Stops Line ≡ Goes item = sym place.2 ∙ e in cc
    go (inr (inr place)) = (subst (FoundIs literal text) (sym place.1 ∙ e) (item_found_is literal text), place.0)

-- Bodies

-- a body that begins later in a text
body_passed : (literal : Literal) (n : ℕ) (text : Text) → body_from literal n text ≡ body_at literal (drop n text)
unfolding body_from body_at
body_passed literal zero text = refl
body_passed literal (suc n) [] = refl
body_passed literal (suc n) (b ∷ bs) = body_passed literal n bs

body_item : (literal : Literal) (text : Text) (item : Item) → found_at literal text ≡ Goes item
    → body_at literal text ≡ record { items = item ∷ (body_at literal (drop item.len text)).items; stop = (body_at literal (drop item.len text)).stop }
unfolding body_from body_at found_at
body_item literal [] item e = cc
body_item literal (b ∷ bs) item e =
    let fits : FoundFits literal.opening (b ∷ bs) (Goes item) = subst (FoundFits literal.opening (b ∷ bs)) e (found_fits literal (b ∷ bs)) in
    ap (λ (found : Found). body_onward found (λ n. body_from literal n bs)) e
    ∙ ap (λ (body : Body). record { items = item ∷ body.items; stop = body.stop }) (body_passed literal (item.len - 1) bs ∙ ap (body_at literal) (sym (drop-remainder item.len b bs fits.0)))

body_stop : (literal : Literal) (text : Text) (stop : Stop) → found_at literal text ≡ Stops stop → body_at literal text ≡ record { items = []; stop = stop }
unfolding body_from body_at found_at
body_stop literal [] stop e = let same : Ended ≡ stop = cc in ap (λ (s : Stop). record { items = []; stop = s }) same
body_stop literal (b ∷ bs) stop e = ap (λ (found : Found). body_onward found (λ n. body_from literal n bs)) e

-- items at passed places, and then a stop, are the body
body_listed : (literal : Literal) (text : Text) (items : List Item) (stop : Stop) → ItemsAt literal text items → AllPass literal text items → found_at literal (drop (items_len items) text) ≡ Stops stop
    → body_at literal text ≡ record { items = items; stop = stop }
body_listed literal text [] stop stand pass e = body_stop literal text stop e
body_listed literal text (item ∷ items) stop stand pass e =
    let found = found_passed literal text pass.0 ∙ item_found_from literal text item stand.0 in
    let more = body_listed literal (drop item.len text) items stop stand.1 pass.1 (ap (found_at literal) (sym (items_after item items text)) ∙ e) in
    body_item literal text item found ∙ ap (λ (body : Body). record { items = item ∷ body.items; stop = body.stop }) more

-- The items of a body are at passed places, and after them its stop is found.
pub record IsScanned (literal : Literal) (text : Text) (body : Body) : Type 0 where
  pub listed : ItemsAt literal text body.items
  pub pass : AllPass literal text body.items
  pub found : found_at literal (drop (items_len body.items) text) ≡ Stops body.stop

scanned_item : (literal : Literal) (text : Text) (item : Item) (rest : Body) → found_at literal text ≡ Goes item → IsScanned literal (drop item.len text) rest
    → IsScanned literal text (record { items = item ∷ rest.items; stop = rest.stop })
scanned_item literal text item rest e more =
    let here = found_item literal text item e in
    record { listed = (here.0, more.listed); pass = (here.1, more.pass); found = ap (found_at literal) (items_after item rest.items text) ∙ more.found }

scanned_from : (literal : Literal) (n : ℕ) (text : Text) → IsScanned literal (drop n text) (body_from literal n text)
unfolding body_from found_at
scanned_from literal zero [] = record { listed = tt; pass = tt; found = refl }
scanned_from literal (suc n) [] = record { listed = tt; pass = tt; found = refl }
scanned_from literal (suc n) (b ∷ bs) = scanned_from literal n bs
scanned_from literal zero (b ∷ bs) = go (found_at literal (b ∷ bs)) refl (found_fits literal (b ∷ bs)) (λ n. scanned_from literal n bs)
  where
    go : (found : Found) → found_at literal (b ∷ bs) ≡ found → FoundFits literal.opening (b ∷ bs) found → ((n : ℕ) → IsScanned literal (drop n bs) (body_from literal n bs)) → IsScanned literal (b ∷ bs) (body_onward found (λ n. body_from literal n bs))
    go (Stops stop) e fits more = record { listed = tt; pass = tt; found = e }
    go (Goes item) e fits more = scanned_item literal (b ∷ bs) item (body_from literal (item.len - 1) bs) e
        (subst (λ (t : Text). IsScanned literal t (body_from literal (item.len - 1) bs)) (sym (drop-remainder item.len b bs fits.0)) (more (item.len - 1)))

scanned : (literal : Literal) (text : Text) → IsScanned literal text (body_at literal text)
unfolding body_at
scanned literal text = scanned_from literal 0 text

-- The laws

append_nil : (items : List Item) → items ++ [] ≡ items
append_nil [] = refl
append_nil (item ∷ items) = ap (λ (more : List Item). item ∷ more) (append_nil items)

-- the closing quotes but the last hold no LF that ends the literal
quotes_no_feed : (opening : Opening) (items : List Item) → (not opening.is_triple && list_any (is_itself (byte "\n")) (items ++ quotes_before_last opening)) ≡ (not opening.is_triple && list_any (is_itself (byte "\n")) items)
quotes_no_feed opening items = go opening.is_triple
  where
    go : (triple : Bool) → let here : Opening = record { is_raw = opening.is_raw; quote = opening.quote; is_triple = triple } in
        (not triple && list_any (is_itself (byte "\n")) (items ++ quotes_before_last here)) ≡ (not triple && list_any (is_itself (byte "\n")) items)
    go true = refl
    go false = ap (list_any (is_itself (byte "\n"))) (append_nil items)

good_of : (literal : Literal) (text : Text) (items : List Item) → ItemsAt literal text items → AllPass literal text items → begins (count literal.opening) (quote_byte literal.opening.quote) (drop (items_len items) text) ≡ true → IsGoodBody literal text items
good_of literal text items stand pass closed = record {
  listed = stand;
  closed = closing_begins literal.opening (drop (items_len items) text) ∙ closed;
  allowed = or_from _ _
      (quotes_passed literal text items (quotes_before_last literal.opening) (items_append literal text items (quotes_before_last literal.opening) stand (quotes_stand literal (drop (items_len items) text) closed)) pass (quotes_few literal.opening))
      (quotes_no_feed literal.opening items ∙ feeds_passed literal text items stand pass);
}

unclosed_of : (literal : Literal) (text : Text) (items : List Item) (stop : Stop) → ItemsAt literal text items → AllPass literal text items → StopsAt literal (drop (items_len items) text) stop → IsUnclosedBody literal text items stop
unclosed_of literal text items stop stand pass stops = record {
  listed = stand;
  stops = stops;
  allowed = or_from _ _
      (subst (λ (all : List Item). holds_closing literal.opening all ≡ false) (append_nil items) (quotes_passed literal text items [] (subst (ItemsAt literal text) (sym (append_nil items)) stand) pass refl))
      (feeds_passed literal text items stand pass);
}

-- a body that no quotes close is a body
body_unclosed : (literal : Literal) (text : Text) (items : List Item) (stop : Stop) → IsUnclosedBody literal text items stop → IsBodyBy literal text items stop
body_unclosed literal text items Closing is = absurd is.stops
body_unclosed literal text items Line is = is
body_unclosed literal text items Ended is = is
body_unclosed literal text items OpeningBrace is = is
body_unclosed literal text items ClosingBrace is = is
body_unclosed literal text items (BadEscape read last) is = is

unclosed_body : (literal : Literal) (text : Text) (items : List Item) (stop : Stop) → (stop ≡ Closing → ⊥) → IsBodyBy literal text items stop → IsUnclosedBody literal text items stop
unclosed_body literal text items Closing other is = absurd (other refl)
unclosed_body literal text items Line other is = is
unclosed_body literal text items Ended other is = is
unclosed_body literal text items OpeningBrace other is = is
unclosed_body literal text items ClosingBrace other is = is
unclosed_body literal text items (BadEscape read last) other is = is

pub body_is : BodyIs
body_is literal text = go (body_at literal text) (scanned literal text)
  where
    go : (body : Body) → IsScanned literal text body → IsBody literal text body
    go body is = by (found_stop literal (drop (items_len body.items) text) body.stop is.found)
      where
        by : ((body.stop ≡ Closing) × (begins (count literal.opening) (quote_byte literal.opening.quote) (drop (items_len body.items) text) ≡ true)) ⊎ StopsAt literal (drop (items_len body.items) text) body.stop → IsBody literal text body
        by (inl closed) = subst (IsBodyBy literal text body.items) (sym closed.0) (good_of literal text body.items is.listed is.pass closed.1)
        by (inr stops) = body_unclosed literal text body.items body.stop (unclosed_of literal text body.items body.stop is.listed is.pass stops)

no_feed : (opening : Opening) (items : List Item) → (not opening.is_triple && list_any (is_itself (byte "\n")) items) ≡ false → opening.is_triple ≡ false → list_any (is_itself (byte "\n")) items ≡ false
no_feed opening items none one = go opening.is_triple one none
  where
    go : (triple : Bool) → triple ≡ false → (not triple && list_any (is_itself (byte "\n")) items) ≡ false → list_any (is_itself (byte "\n")) items ≡ false
    go false one none = none
    go true one none = cc

quotes_many : (opening : Opening) → count opening ≤ 1 + length (quotes_before_last opening)
quotes_many opening = go opening.is_triple
  where
    go : (triple : Bool) → let here : Opening = record { is_raw = opening.is_raw; quote = opening.quote; is_triple = triple } in length (closing_quotes here) ≤ 1 + length (quotes_before_last here)
    go true = omega arith
    go false = omega arith

closing_found : (literal : Literal) (text : Text) → begins (count literal.opening) (quote_byte literal.opening.quote) text ≡ true → found_at literal text ≡ Stops Closing
closing_found literal text closed = go (mode_is literal text)
  where
    go : PlaceIs literal text → found_at literal text ≡ Stops Closing
    go (inl place) = place.1
    go (inr (inl place)) = absurd (never closed place.0)
    go (inr (inr place)) = absurd (never closed place.0.0)

good_one : (literal : Literal) (text : Text) (items : List Item) → IsGoodBody literal text items → body_at literal text ≡ record { items = items; stop = Closing }
good_one literal text items is =
    let closed = sym (closing_begins literal.opening (drop (items_len items) text)) ∙ is.closed in
    let parts = or_parts (holds_closing literal.opening (items ++ quotes_before_last literal.opening)) _ is.allowed in
    let whole = items_append literal text items (quotes_before_last literal.opening) is.listed (quotes_stand literal (drop (items_len items) text) closed) in
    let pass = passed literal text items (quotes_before_last literal.opening) whole (inl (quotes_many literal.opening)) parts.0 (no_feed literal.opening items (sym (quotes_no_feed literal.opening items) ∙ parts.1)) in
    body_listed literal text items Closing is.listed pass (closing_found literal (drop (items_len items) text) closed)

unclosed_one : (literal : Literal) (text : Text) (items : List Item) (stop : Stop) → IsUnclosedBody literal text items stop → body_at literal text ≡ record { items = items; stop = stop }
unclosed_one literal text items stop is =
    let parts = or_parts (holds_closing literal.opening items) _ is.allowed in
    let same = append_nil items in
    let pass = passed literal text items [] (subst (ItemsAt literal text) (sym same) is.listed)
    (inr (subst (λ (all : List Item). begins 1 (quote_byte literal.opening.quote) (drop (items_len all) text) ≡ false) (sym same) (stop_no_quote literal (drop (items_len items) text) stop is.stops)))
    (subst (λ (all : List Item). holds_closing literal.opening all ≡ false) (sym same) parts.0) (no_feed literal.opening items parts.1) in
    body_listed literal text items stop is.listed pass (stop_found literal (drop (items_len items) text) stop is.stops)

pub body_is_one : BodyIsOne
body_is_one literal text body is = go body.items body.stop is
  where
    go : (items : List Item) (stop : Stop) → IsBodyBy literal text items stop → record { items = items; stop = stop } ≡ body_at literal text
    go items Closing is = sym (good_one literal text items is)
    go items Line is = sym (unclosed_one literal text items Line is)
    go items Ended is = sym (unclosed_one literal text items Ended is)
    go items OpeningBrace is = sym (unclosed_one literal text items OpeningBrace is)
    go items ClosingBrace is = sym (unclosed_one literal text items ClosingBrace is)
    go items (BadEscape read last) is = sym (unclosed_one literal text items (BadEscape read last) is)

-- no list of items is longer than one that no quotes close, if it holds no forbidden LF
longest : (literal : Literal) (stop : Stop) (text : Text) (items more : List Item) → ItemsAt literal text items → StopsAt literal (drop (items_len items) text) stop
    → ItemsAt literal text more → (literal.opening.is_triple ≡ false → list_any (is_itself (byte "\n")) more ≡ false) → length more ≤ length items
longest literal stop text items [] stand stops also none = omega arith
longest literal stop text [] (item ∷ more) stand stops also none = absurd (go (stops_found literal text stop stops))
  where
    go : (stop ≡ Line) ⊎ (item_found literal text ≡ Stops stop) → ⊥
    go (inr found) = let no : Goes item ≡ Stops stop = sym (item_found_from literal text item also.0) ∙ found in cc
    go (inl line) =
        let is = subst (StopsAt literal text) line stops in
        let first = feed_first text is.1 in
        let found : Goes item ≡ goes 1 (byte "\n" ∷ []) = sym (item_found_from literal text item also.0) ∙ ap (item_found literal) first.1 ∙ feed_found literal first.0 in
        let same : item ≡ itself (byte "\n" ∷ []) = cc in
        never (ap (is_itself (byte "\n")) same) (or_parts _ _ (none is.0)).0
longest literal stop text (item ∷ items) (other ∷ more) stand stops also none =
    let same : other ≡ item = one_item literal text other item also.0 stand.0 in
    let remainder : ItemsAt literal (drop item.len text) more = subst (λ (i : Item). ItemsAt literal (drop i.len text) more) same also.1 in
    let less : length more ≤ length items = longest literal stop (drop item.len text) items more stand.1 (subst (λ (t : Text). StopsAt literal t stop) (items_after item items text) stops) remainder (λ one. (or_parts (is_itself (byte "\n") other) (list_any (is_itself (byte "\n")) more) (none one)).1) in
    omega (arith, less)

pub body_is_bad : BodyIsBad
body_is_bad literal text items stop = (λ bad. (unclosed_one literal text items stop bad.unclosed, other bad.unclosed), λ h. bad_of h.0 h.1)
  where
    other : IsUnclosedBody literal text items stop → stop ≡ Closing → ⊥
    other is e = subst (StopsAt literal (drop (items_len items) text)) e is.stops

    bad_of : body_at literal text ≡ record { items = items; stop = stop } → (stop ≡ Closing → ⊥) → IsBadBody literal text items stop
    bad_of e open_still =
        let is : IsUnclosedBody literal text items stop = unclosed_body literal text items stop open_still (subst (IsBody literal text) e (body_is literal text)) in
        record {
          unclosed = is;
          longest = λ more also allowed. longest literal stop text items more is.listed is.stops also (no_feed literal.opening more (or_parts (holds_closing literal.opening more) _ allowed).1);
          no_good = λ good is_good. open_still (ap (λ (body : Body). body.stop) (sym e ∙ good_one literal text good is_good));
        }

pub good_or_bad : GoodOrBad
good_or_bad literal text = go (body_at literal text).items (body_at literal text).stop refl (body_is literal text)
  where
    bad : (items : List Item) (stop : Stop) → record { items = items; stop = stop } ≡ body_at literal text → (stop ≡ Closing → ⊥) → ((items : List Item) × IsGoodBody literal text items) ⊎ ((items : List Item) × ((stop : Stop) × IsBadBody literal text items stop))
    bad items stop e other = inr (items, (stop, (body_is_bad literal text items stop).1 (sym e, other)))

    go : (items : List Item) (stop : Stop) → record { items = items; stop = stop } ≡ body_at literal text → IsBodyBy literal text items stop → ((items : List Item) × IsGoodBody literal text items) ⊎ ((items : List Item) × ((stop : Stop) × IsBadBody literal text items stop))
    go items Closing e is = inl (items, is)
    go items Line e is = bad items Line e (λ no. cc)
    go items Ended e is = bad items Ended e (λ no. cc)
    go items OpeningBrace e is = bad items OpeningBrace e (λ no. cc)
    go items ClosingBrace e is = bad items ClosingBrace e (λ no. cc)
    go items (BadEscape read last) e is = bad items (BadEscape read last) e (λ no. cc)

pub good_literal : GoodLiteralIsToken
good_literal mode kind opening len remainder items is = ap (λ (body : Body). literal_by mode kind opening len remainder body body.stop) (good_one (record { kind = kind; opening = opening }) remainder items is)

pub bad_literal : BadLiteralIsFault
bad_literal mode kind opening len remainder items stop is = ap (λ (body : Body). literal_by mode kind opening len remainder body body.stop) (unclosed_one (record { kind = kind; opening = opening }) remainder items stop is.unclosed)

pub chunk_body : ChunkIsBody
unfolding chunk
chunk_body opening text body is = ap (λ (found : Body). chunk_by opening text found found.stop) (sym (body_is_one (record { kind = OfFString; opening = opening }) text body is))
