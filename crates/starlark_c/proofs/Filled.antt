-- Records and values of one lexeme more.
use Rattle.std.proofs.Common.{◌≡◌, ℕ, zero, suc, ◌+◌, ◌≤◌, List, [], ◌∷◌, ◌++◌, length, take, drop, refl, ap, sym, ◌∙◌, arith, append-nil, append_assoc, length-append, length-drop}
use Rattle.std.specs.Prelude.{Option}
use Rattle.std.proofs.Math.Seq.{drop-append-add}
use Rattle.std.proofs.lemmas.List.{drop-drop, take-append-drop, take-append-le, take_at}
use Rattle.std.proofs.lemmas.List.Concat.{flat_map-append}
use Rattle.starlark_c.specs.Endings.{Buffers, Hold}
use Rattle.starlark_c.specs.Inner.Filling.{IsPut, filled_by, put}
use Rattle.starlark_c.specs.Records.{record_in, records, records_from, stored_bytes, values}
use Rattle.starlark_c.specs.TextParts.{part_in}
use Rattle.starlark_c.specs.declared.endings.Filled.{Filled}
use Rattle.starlark_c.specs.declared.records.LexemeRecord.{LexemeRecord}
use Rattle.starlark_grammar.specs.Tokens.{Spanned}
use Rattle.starlark_grammar.specs.Words.{Text}
use Rattle.starlark_token.specs.TokenViews.{TokenView}

pub values_more : (home : Option Text) (xs : List (Spanned TokenView)) (x : Spanned TokenView) → values home (xs ++ x ∷ []) ≡ values home xs ++ stored_bytes home x
unfolding values
values_more home xs x =
    flat_map-append (λ (lexeme : Spanned TokenView). stored_bytes home lexeme) xs (x ∷ [])
    ∙ ap (λ bytes. values home xs ++ bytes) (append-nil (stored_bytes home x))

pub values_cons : (home : Option Text) (x : Spanned TokenView) (xs : List (Spanned TokenView)) → length (values home (x ∷ xs)) ≡ length (stored_bytes home x) + length (values home xs)
unfolding values
values_cons home x xs = length-append (stored_bytes home x) (values home xs)

pub values_nil : (home : Option Text) → values home [] ≡ []
unfolding values
values_nil home = refl

pub records_nil : (home : Option Text) → records home [] ≡ []
unfolding records_from
records_nil home = refl

pub records_more : (home : Option Text) (at : ℕ) (xs : List (Spanned TokenView)) (x : Spanned TokenView) → records_from home at (xs ++ x ∷ []) ≡ records_from home at xs ++ record_in home (at + length (values home xs)) x ∷ []
unfolding records_from
records_more home at [] x =
    let here : at ≡ at + length (values home []) = omega (arith, ap length (values_nil home)) in
    ap (λ n. record_in home n x ∷ []) here
records_more home at (y ∷ ys) x =
    let next = at + length (stored_bytes home y) in
    let here : next + length (values home ys) ≡ at + length (values home (y ∷ ys)) = omega (arith, values_cons home y ys) in
    ap (λ rs. record_in home at y ∷ rs) (records_more home next ys x) ∙ ap (λ n. record_in home at y ∷ (records_from home next ys ++ record_in home n x ∷ [])) here

pub length_records : (home : Option Text) (at : ℕ) (xs : List (Spanned TokenView)) → length (records_from home at xs) ≡ length xs
unfolding records_from
length_records home at [] = refl
length_records home at (x ∷ xs) = ap suc (length_records home (at + length (stored_bytes home x)) xs)

-- a list that begins with some items, with more items put after them
pub put_more : {A : Type 0} (front items base now after : List A) (at : ℕ) → at ≡ length front → now ≡ front ++ drop (length front) base → after ≡ put at items now → after ≡ (front ++ items) ++ drop (length (front ++ items)) base
put_more front items base now after at here was is =
    let rest = drop (length front) base in
    let before : take at now ≡ front = ap (λ n. take n now) here ∙ ap (take (length front)) was ∙ take_at front rest (length front) refl in
    let remainder : drop (at + length items) now ≡ drop (length (front ++ items)) base =
    ap (λ n. drop (n + length items) now) here
    ∙ ap (drop (length front + length items)) was
    ∙ drop-append-add front rest (length items)
    ∙ drop-drop (length items) (length front) base
    ∙ ap (λ n. drop n base) (sym (length-append front items)) in
    is ∙ ap (λ xs. xs ++ (items ++ drop (at + length items) now)) before ∙ ap (λ xs. front ++ (items ++ xs)) remainder ∙ sym (append_assoc front items (drop (length (front ++ items)) base))

-- such a list is as long as before
pub same_length : {A : Type 0} (front base now : List A) → now ≡ front ++ drop (length front) base → length front ≤ length base → length now ≡ length base
same_length front base now was fits = omega (arith, ap length was, length-append front (drop (length front) base), length-drop (length front) base, fits)

pub hold_none : (home : Option Text) (before : Buffers) → Hold (records home []) (values home []) before before
hold_none home before = rw (records_nil home, values_nil home) (record { lexemes_fit = omega arith; values_fit = omega arith; lexemes = refl; values = refl })

pub hold_more : (home : Option Text) (before now after : Buffers) (xs : List (Spanned TokenView)) (x : Spanned TokenView) (filled more : Filled) → Hold (records home xs) (values home xs) before now → filled ≡ filled_by home xs → IsPut (part_in home x) x filled now after more
    → Hold (records home (xs ++ x ∷ [])) (values home (xs ++ x ∷ [])) before after
hold_more home before now after xs x filled more held counted puts =
    let count : filled.lexemes ≡ length (records home xs) = ap (λ (f : Filled). f.lexemes) counted ∙ sym (length_records home 0 xs) in
    let bytes : filled.values ≡ length (values home xs) = ap (λ (f : Filled). f.values) counted in
    let one : record_in home filled.values x ≡ record_in home (0 + length (values home xs)) x = let same : filled.values ≡ 0 + length (values home xs) = omega (arith, bytes) in ap (λ n. record_in home n x) same in
    let all = records_more home 0 xs x in
    let whole = values_more home xs x in
    let fewer : length now.lexemes ≡ length before.lexemes = same_length (records home xs) before.lexemes now.lexemes held.lexemes held.lexemes_fit in
    let shorter : length now.values ≡ length before.values = same_length (values home xs) before.values now.values held.values held.values_fit in
    record {
      lexemes_fit = omega (arith, ap length all, length-append (records home xs) (record_in home (0 + length (values home xs)) x ∷ []), count, puts.lexemes_fit, fewer);
      values_fit = omega (arith, ap length whole, length-append (values home xs) (stored_bytes home x), bytes, puts.values_fit, shorter);
      lexemes = rw all (put_more (records home xs) _ before.lexemes now.lexemes after.lexemes filled.lexemes count held.lexemes (puts.lexemes ∙ ap (λ r. put filled.lexemes (r ∷ []) now.lexemes) one));
      values = rw whole (put_more (values home xs) (stored_bytes home x) before.values now.values after.values filled.values bytes held.values puts.values);
    }

take_records : (home : Option Text) (at c : ℕ) (xs : List (Spanned TokenView)) → take c (records_from home at xs) ≡ records_from home at (take c xs)
unfolding records_from
take_records home at zero xs = refl
take_records home at (suc c) [] = refl
take_records home at (suc c) (x ∷ xs) = ap (λ rs. record_in home at x ∷ rs) (take_records home (at + length (stored_bytes home x)) c xs)

values_parts : (home : Option Text) (c : ℕ) (xs : List (Spanned TokenView)) → values home xs ≡ values home (take c xs) ++ values home (drop c xs)
unfolding values
values_parts home c xs =
    ap (values home) (sym (take-append-drop c xs)) ∙ flat_map-append (λ (lexeme : Spanned TokenView). stored_bytes home lexeme) (take c xs) (drop c xs)

pub fewer_values : (home : Option Text) (c : ℕ) (xs : List (Spanned TokenView)) → length (values home (take c xs)) ≤ length (values home xs)
fewer_values home c xs = omega (arith, ap length (values_parts home c xs), length-append (values home (take c xs)) (values home (drop c xs)))

take_values : (home : Option Text) (c : ℕ) (xs : List (Spanned TokenView)) → take (length (values home (take c xs))) (values home xs) ≡ values home (take c xs)
take_values home c xs = ap (take (length (values home (take c xs)))) (values_parts home c xs) ∙ take_at (values home (take c xs)) (values home (drop c xs)) (length (values home (take c xs))) refl

-- the first of some records
pub front_records : (home : Option Text) (xs : List (Spanned TokenView)) (more : List LexemeRecord) (c : ℕ) → c ≤ length xs → take c (records home xs ++ more) ≡ records home (take c xs)
front_records home xs more c few = take-append-le c (records home xs) more (omega (arith, few, length_records home 0 xs)) ∙ take_records home 0 c xs

-- The first of the lexemes that the buffers have.
pub front_lexemes : (home : Option Text) (before after : Buffers) (xs : List (Spanned TokenView)) (c : ℕ) → Hold (records home xs) (values home xs) before after → c ≤ length xs → take c after.lexemes ≡ records home (take c xs)
front_lexemes home before after xs c held few = ap (take c) held.lexemes ∙ front_records home xs (drop (length (records home xs)) before.lexemes) c few

pub front_values : (home : Option Text) (before after : Buffers) (xs : List (Spanned TokenView)) (c : ℕ) → Hold (records home xs) (values home xs) before after → take (length (values home (take c xs))) after.values ≡ values home (take c xs)
front_values home before after xs c held =
    ap (take (length (values home (take c xs)))) held.values
    ∙ take-append-le (length (values home (take c xs))) (values home xs) (drop (length (values home xs)) before.values) (fewer_values home c xs)
    ∙ take_values home c xs

-- the same of values that have more after them
pub front_values_more : (home : Option Text) (base now more : Text) (xs : List (Spanned TokenView)) (c : ℕ) → now ≡ (values home xs ++ more) ++ base → take (length (values home (take c xs))) now ≡ values home (take c xs)
front_values_more home base now more xs c is =
    ap (take (length (values home (take c xs)))) (is ∙ append_assoc (values home xs) more base)
    ∙ take-append-le (length (values home (take c xs))) (values home xs) (more ++ base) (fewer_values home c xs)
    ∙ take_values home c xs

-- The text that a fault names, after the values.
pub hold_fault : (home : Option Text) (before now : Buffers) (values_after : Text) (xs : List (Spanned TokenView)) (named : Text) (filled : Filled) → Hold (records home xs) (values home xs) before now → filled ≡ filled_by home xs
    → filled.values + length named ≤ length now.values → values_after ≡ put filled.values named now.values
    → Hold (records home xs) (values home xs ++ named) before (record { lexemes = now.lexemes; values = values_after })
hold_fault home before now values_after xs named filled held counted fits is =
    let bytes : filled.values ≡ length (values home xs) = ap (λ (f : Filled). f.values) counted in
    let shorter : length now.values ≡ length before.values = same_length (values home xs) before.values now.values held.values held.values_fit in
    record {
      lexemes_fit = held.lexemes_fit;
      values_fit = omega (arith, length-append (values home xs) named, bytes, fits, shorter);
      lexemes = held.lexemes;
      values = put_more (values home xs) named before.values now.values values_after filled.values bytes held.values is;
    }

pub same_sizes : (home : Option Text) (before now : Buffers) (xs : List (Spanned TokenView)) → Hold (records home xs) (values home xs) before now → (length now.lexemes ≡ length before.lexemes) × (length now.values ≡ length before.values)
same_sizes home before now xs held = (
  same_length (records home xs) before.lexemes now.lexemes held.lexemes held.lexemes_fit,
  same_length (values home xs) before.values now.values held.values held.values_fit,
)

counted_more : (home : Option Text) (xs : List (Spanned TokenView)) (x : Spanned TokenView) (filled more : Filled) → filled ≡ filled_by home xs → more ≡ record { lexemes = filled.lexemes + 1; values = filled.values + length (stored_bytes home x) } → more ≡ filled_by home (xs ++ x ∷ [])
counted_more home xs x filled more counted is =
    let count : filled.lexemes + 1 ≡ length (xs ++ x ∷ []) = omega (arith, ap (λ (f : Filled). f.lexemes) counted, length-append xs (x ∷ [])) in
    let bytes : filled.values + length (stored_bytes home x) ≡ length (values home (xs ++ x ∷ [])) =
    omega (arith, ap (λ (f : Filled). f.values) counted, ap length (values_more home xs x), length-append (values home xs) (stored_bytes home x)) in
    is ∙ ap (λ k. record { lexemes = k; values = filled.values + length (stored_bytes home x) }) count ∙ ap (λ k. record { lexemes = length (xs ++ x ∷ []); values = k }) bytes

-- The buffers after the next lexeme of a text.
pub record IsFilled (home : Option Text) (before after : Buffers) (xs : List (Spanned TokenView)) (filled : Filled) : Type 0 where
  pub hold : Hold (records home xs) (values home xs) before after
  pub counts : filled ≡ filled_by home xs

pub put_next : (home : Option Text) (all : List (Spanned TokenView)) (n : ℕ) (x : Spanned TokenView) (before now after : Buffers) (filled more : Filled) → take (n + 1) all ≡ take n all ++ x ∷ [] → Hold (records home (take n all)) (values home (take n all)) before now → filled ≡ filled_by home (take n all)
    → IsPut (part_in home x) x filled now after more → IsFilled home before after (take (n + 1) all) more
put_next home all n x before now after filled more next held counted puts =
    rw next (record { hold = hold_more home before now after (take n all) x filled more held counted puts; counts = counted_more home (take n all) x filled more counted puts.adds })
