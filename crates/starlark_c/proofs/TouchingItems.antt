-- The lexemes and faults of a document that touch a range, and what fills the buffers with one more.
use Rattle.std.proofs.Common.{◌≡◌, ℕ, zero, suc, ◌≤◌, ◌<◌, ◌^◌, Bool, true, false, nat_le, List, [], ◌∷◌, ◌++◌, Some, map, drop, length, slice_get, refl, ap, sym, subst, ◌∙◌, arith, append-nil, append_assoc}
use Rattle.std.proofs.lemmas.Bool.{le-leb, lt-leb}
use Rattle.std.proofs.lemmas.Option.{same_Some}
use Rattle.std.specs.List.{prefix_len}
use Rattle.std.specs.Prelude.{◌&&◌, Ok, Err, Result, cond, filter}
use Rattle.starlark_c.specs.DocumentItems.{Fills, touches}
use Rattle.starlark_c.specs.Inner.DocumentItems.{Adds, AreWithin}
use Rattle.starlark_c.specs.Inner.Recovering.{counts_with, wanted_on}
use Rattle.starlark_c.specs.RecoveredTexts.{Contents, capped_counts}
use Rattle.starlark_c.specs.declared.document_endings.FillEnding.TheVariants as ending
use Rattle.starlark_c.specs.declared.recovered_endings.Counts.{Counts}
use Rattle.starlark_c.proofs.AddedItems.{have_more, need}
use Rattle.starlark_c.proofs.Recovered.{IsDone, held_before, lacking}
use Rattle.starlark_document.specs.Documents.{faults_of, lexemes_of}
use Rattle.starlark_grammar.proofs.Found.Order.{found_faults_in_order, found_lexemes_in_order}
use Rattle.starlark_grammar.specs.Found.{found, lexemes_in}
use Rattle.starlark_grammar.specs.Tokens.{Fault, Spanned}
use Rattle.starlark_grammar.specs.Words.{Text}
use Rattle.starlark_grammar.specs.RecoveryLaws.{AreInOrder}
use Rattle.starlark_token.specs.Lexemes.{shown_lexeme}
use Rattle.starlark_token.specs.TextItems.{LexerItem, Refused}

-- Whether a span touches a range

touches-yes : {A : Type 0} (from to : ℕ) (x : Spanned A) → from ≤ x.end → x.begin ≤ to → touches from to x ≡ true
touches-yes from to x late early = ap (λ b. b && nat_le x.begin to) (le-leb from x.end late) ∙ le-leb x.begin to early

touches-ends : {A : Type 0} (from to : ℕ) (x : Spanned A) → x.end < from → touches from to x ≡ false
touches-ends from to x before = ap (λ b. b && nat_le x.begin to) (lt-leb from x.end before)

and-false : (b : Bool) → (b && false) ≡ false
and-false true = refl
and-false false = refl

touches-begins : {A : Type 0} (from to : ℕ) (x : Spanned A) → to < x.begin → touches from to x ≡ false
touches-begins from to x after = ap (λ b. nat_le from x.end && b) (lt-leb x.begin to after) ∙ and-false (nat_le from x.end)

-- Those of spans in order that touch a range

kept : {A : Type 0} (test : Spanned A → Bool) (x : Spanned A) (xs : List (Spanned A)) → test x ≡ true → filter test (x ∷ xs) ≡ x ∷ filter test xs
kept test x xs passes = ap (λ b. cond b (x ∷ filter test xs) (filter test xs)) passes

left_out : {A : Type 0} (test : Spanned A → Bool) (x : Spanned A) (xs : List (Spanned A)) → test x ≡ false → filter test (x ∷ xs) ≡ filter test xs
left_out test x xs fails = ap (λ b. cond b (x ∷ filter test xs) (filter test xs)) fails

-- spans that begin after a range
all_after : {A : Type 0} (from to start end : ℕ) (xs : List (Spanned A)) → to < start → AreInOrder start xs end → filter (touches from to) xs ≡ []
all_after from to start end [] after order = refl
all_after from to start end (x ∷ xs) after order =
    let begin = order.0 in
    let within = order.1 in
    left_out (touches from to) x xs (touches-begins from to x (omega (arith, after, begin)))
    ∙ all_after from to x.end end xs (omega (arith, after, begin, within)) order.2

pub first_of : {A : Type 0} (xs : List A) (x : A) → slice_get xs 0 ≡ Some x → xs ≡ x ∷ drop 1 xs
first_of [] x is = absurd (cc)
first_of (y ∷ ys) x is = ap (λ z. z ∷ ys) (same_Some y x is)

abbrev pub items_touching : {A : Type 0} → (Spanned A → LexerItem) → (from to : ℕ) → List (Spanned A) → List LexerItem
items_touching item from to xs = map item (filter (touches from to) xs)

-- The first span touches the range, …
pub touching_first : {A : Type 0} (item : Spanned A → LexerItem) (from to : ℕ) (xs later : List (Spanned A)) (x : Spanned A) → xs ≡ x ∷ later → from ≤ x.end → x.begin ≤ to
    → items_touching item from to xs ≡ item x ∷ items_touching item from to later
touching_first item from to xs later x is late early = ap (items_touching item from to) is ∙ ap (map item) (kept (touches from to) x later (touches-yes from to x late early))

-- … ends before it, …
pub passed_first : {A : Type 0} (item : Spanned A → LexerItem) (from to : ℕ) (xs later : List (Spanned A)) (x : Spanned A) → xs ≡ x ∷ later → x.end < from
    → items_touching item from to xs ≡ items_touching item from to later
passed_first item from to xs later x is before = ap (items_touching item from to) is ∙ ap (map item) (left_out (touches from to) x later (touches-ends from to x before))

-- … or begins after it.
pub none_after : {A : Type 0} (item : Spanned A → LexerItem) (from to : ℕ) (xs later : List (Spanned A)) (x : Spanned A) → xs ≡ x ∷ later → to < x.begin → AreWithin xs
    → items_touching item from to xs ≡ []
none_after item from to xs later x is after within =
    let order : AreInOrder within.0 (x ∷ later) within.1 = subst (λ ys. AreInOrder within.0 ys within.1) is within.3 in
    let begin = order.1 in
    ap (items_touching item from to) is
    ∙ ap (map item) (left_out (touches from to) x later (touches-begins from to x after) ∙ all_after from to x.end within.1 later (omega (arith, after, begin)) order.2)

in_order_by : {A : Type 0} (start end : ℕ) (xs : List (Spanned A)) → AreInOrder start xs end → start ≤ end
in_order_by start end [] order = order
in_order_by start end (x ∷ xs) order =
    let begin = order.0 in
    let within = order.1 in
    omega (arith, begin, within, in_order_by x.end end xs order.2)

-- the first of spans in order, and the later ones
pub record IsFirstWithin {A : Type 0} (x : Spanned A) (later : List (Spanned A)) : Type 0 where
  pub begin : x.begin < 2 ^ 32
  pub end : x.end < 2 ^ 32
  pub rest : AreWithin later

pub first_within : {A : Type 0} (xs later : List (Spanned A)) (x : Spanned A) → xs ≡ x ∷ later → AreWithin xs → IsFirstWithin x later
first_within xs later x is within =
    let order : AreInOrder within.0 (x ∷ later) within.1 = subst (λ ys. AreInOrder within.0 ys within.1) is within.3 in
    let inside = order.1 in
    let last = in_order_by x.end within.1 later order.2 in
    let fits = within.2 in record {
      begin = omega (arith, inside, last, fits);
      end = omega (arith, last, fits);
      rest = (x.end, within.1, fits, order.2);
    }

-- … and the same where an iterator has returned the first

pub touch_one : {A : Type 0} (item : Spanned A → LexerItem) (from to : ℕ) (old new : List (Spanned A)) (x : Spanned A) → slice_get old 0 ≡ Some x → new ≡ drop 1 old → from ≤ x.end → x.begin ≤ to
    → items_touching item from to old ≡ item x ∷ items_touching item from to new
touch_one item from to old new x is after late early =
    touching_first item from to old (drop 1 old) x (first_of old x is) late early ∙ ap (λ xs. item x ∷ items_touching item from to xs) (sym after)

pub stop_one : {A : Type 0} (item : Spanned A → LexerItem) (from to : ℕ) (old : List (Spanned A)) (x : Spanned A) → slice_get old 0 ≡ Some x → to < x.begin → AreWithin old
    → items_touching item from to old ≡ []
stop_one item from to old x is after within = none_after item from to old (drop 1 old) x (first_of old x is) after within

pub rest_one : {A : Type 0} (old new : List (Spanned A)) (x : Spanned A) → slice_get old 0 ≡ Some x → new ≡ drop 1 old → AreWithin old → IsFirstWithin x new
rest_one old new x is after within = subst (IsFirstWithin x) (sym after) (first_within old (drop 1 old) x (first_of old x is) within)

-- the later ones of spans, of which the first doesn't touch the range
pub record IsPassed {A : Type 0} (item : Spanned A → LexerItem) (from to : ℕ) (old new : List (Spanned A)) : Type 0 where
  pub rest : AreWithin new
  pub same : items_touching item from to old ≡ items_touching item from to new

pub pass_one : {A : Type 0} (item : Spanned A → LexerItem) (from to : ℕ) (old new : List (Spanned A)) (x : Spanned A) → slice_get old 0 ≡ Some x → new ≡ drop 1 old → AreWithin old → x.end < from
    → IsPassed item from to old new
pass_one item from to old new x is after within before = record {
  rest = (rest_one old new x is after within).rest;
  same = passed_first item from to old (drop 1 old) x (first_of old x is) before ∙ ap (items_touching item from to) (sym after);
}

pub fewer_one : {A : Type 0} (old new : List A) (x : A) → slice_get old 0 ≡ Some x → new ≡ drop 1 old → length new < length old
fewer_one old new x is after = omega (arith, ap length (first_of old x is), ap length after)

-- Without some that end before the range the same ones touch it.
pub touching_rest : {A : Type 0} (from to : ℕ) (test : Spanned A → Bool) (xs : List (Spanned A)) → ((x : Spanned A) → test x ≡ true → x.end < from)
    → filter (touches from to) (drop (prefix_len test xs) xs) ≡ filter (touches from to) xs
touching_rest from to test [] ends = refl
touching_rest {A = A} from to test (x ∷ xs) ends = by (test x) refl (touching_rest from to test xs ends)
  where
    by : (b : Bool) → test x ≡ b → filter (touches from to) (drop (prefix_len test xs) xs) ≡ filter (touches from to) xs
        → filter (touches from to) (drop (prefix_len test (x ∷ xs)) (x ∷ xs)) ≡ filter (touches from to) (x ∷ xs)
    by true passes later =
        let count : prefix_len test (x ∷ xs) ≡ suc (prefix_len test xs) = rw passes (omega arith) in
        ap (λ (n : ℕ). filter (touches from to) (drop n (x ∷ xs))) count ∙ later ∙ sym (left_out (touches from to) x xs (touches-ends from to x (ends x passes)))
    by false fails later =
        let count : prefix_len test (x ∷ xs) ≡ 0 = rw fails refl in
        ap (λ (n : ℕ). filter (touches from to) (drop n (x ∷ xs))) count

within_rest : {A : Type 0} (n : ℕ) (start end : ℕ) (xs : List (Spanned A)) → AreInOrder start xs end → (from : ℕ) × AreInOrder from (drop n xs) end
within_rest zero start end xs order = (start, order)
within_rest (suc n) start end [] order = (start, order)
within_rest (suc n) start end (x ∷ xs) order = within_rest n x.end end xs order.2

pub dropped_within : {A : Type 0} (n : ℕ) (xs : List (Spanned A)) → AreWithin xs → AreWithin (drop n xs)
dropped_within n xs within = let rest = within_rest n within.0 within.1 xs within.3 in (rest.0, within.1, within.2, rest.1)

shown_in_order : {A B : Type 0} (f : Spanned A → Spanned B) (start end : ℕ) (xs : List (Spanned A)) → ((x : Spanned A) → ((f x).begin ≡ x.begin) × ((f x).end ≡ x.end)) → AreInOrder start xs end
    → AreInOrder start (map f xs) end
shown_in_order f start end [] same order = order
shown_in_order f start end (x ∷ xs) same order =
    let begin = (same x).0 in
    let ending = (same x).1 in
    let first = order.0 in
    let within = order.1 in (
      omega (arith, begin, first),
      omega (arith, begin, ending, within),
      subst (λ n. AreInOrder n (map f xs) end) (sym ending) (shown_in_order f x.end end xs same order.2),
    )

pub lexemes_within : (text : Text) → length text < 2 ^ 32 → AreWithin (lexemes_of text)
lexemes_within text fits =
    (0, length text, fits, shown_in_order shown_lexeme 0 (length text) (lexemes_in (found text)) (λ x. (refl, refl)) (found_lexemes_in_order text))

pub faults_within : (text : Text) → length text < 2 ^ 32 → AreWithin (faults_of text)
faults_within text fits = (0, length text, fits, found_faults_in_order text)

-- What is wanted

-- with one item more
pub want_one : (w more : Counts) (item : LexerItem) (left later : List LexerItem) → left ≡ item ∷ later → more ≡ capped_counts (counts_with w item) → wanted_on more later ≡ wanted_on w left
want_one w more item left later is counted = ap (λ k. wanted_on k later) counted ∙ sym (ap (wanted_on w) is)

-- with none
pub want_none : (w : Counts) (left : List LexerItem) → left ≡ [] → w ≡ wanted_on w left
want_none w left none = sym (ap (wanted_on w) none)

-- What fills the buffers

-- what was added by its offsets is the fault that has them
pub of_fault : (fault : Spanned Fault) (begin end : ℕ) (filled : Counts) (before after : Contents) (answer : Result Counts Counts) → begin ≡ fault.begin → end ≡ fault.end
    → Adds (Refused (record { begin = begin; node = fault.node; end = end })) filled before after answer → Adds (Refused fault) filled before after answer
of_fault fault begin end filled before after answer begins ends adds =
    subst (λ (n : ℕ). Adds (Refused (record { begin = fault.begin; node = fault.node; end = n })) filled before after answer) ends
    (subst (λ (n : ℕ). Adds (Refused (record { begin = n; node = fault.node; end = end })) filled before after answer) begins adds)

-- one item more is done
pub done_one : (all left later : List LexerItem) (item : LexerItem) (before now after : Contents) (filled more : Counts) → IsDone all left before now filled → left ≡ item ∷ later
    → Adds item filled now after (Ok more) → IsDone all later before after more
done_one all left later item before now after filled more inv is adds = record {
  done = inv.done ++ item ∷ [];
  is = inv.is ∙ ap (λ xs. inv.done ++ xs) is ∙ sym (append_assoc inv.done (item ∷ []) later);
  have = have_more inv.done item before now after filled more inv.have adds.0 adds.1;
}

-- the same items are left
pub done_same : (all left later : List LexerItem) (before now : Contents) (filled : Counts) → IsDone all left before now filled → left ≡ later → IsDone all later before now filled
done_same all left later before now filled inv same = subst (λ xs. IsDone all xs before now filled) same inv

-- all items are done
pub fills_whole : (all left : List LexerItem) (before now : Contents) (filled : Counts) → IsDone all left before now filled → left ≡ [] → Fills all before now (ending.Whole filled)
fills_whole all left before now filled inv none =
    let same : all ≡ inv.done = inv.is ∙ ap (λ xs. inv.done ++ xs) none ∙ append-nil inv.done in
    rw same inv.have

-- an item has no room
pub fills_full : (all left later : List LexerItem) (item : LexerItem) (before now after : Contents) (filled wanted told : Counts) → IsDone all left before now filled → left ≡ item ∷ later
    → Adds item filled now after (Err wanted) → told ≡ wanted_on wanted later → Fills all before after (ending.Full told)
fills_full all left later item before now after filled wanted told inv first adds is =
    let held = inv.have in
    let joined : all ≡ inv.done ++ item ∷ later = inv.is ∙ ap (λ xs. inv.done ++ xs) first in
    let needs = need inv.done item later filled held.counts in
    let told_is : told ≡ wanted_on (capped_counts (counts_with filled item)) later = is ∙ ap (λ k. wanted_on k later) adds.2 in (
      rw joined (record { lack = lacking _ inv.done before now filled _ _ needs held adds.0; needs = told_is ∙ needs.is }),
      rw adds.1 (held_before all inv.done item later before now filled joined held adds.0),
    )
