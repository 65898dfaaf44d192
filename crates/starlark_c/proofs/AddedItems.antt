-- What belongs to items, one after another.
use Rattle.std.proofs.Common.{◌≡◌, ℕ, suc, ◌+◌, ◌≤◌, ◌<◌, min, List, [], ◌∷◌, ◌++◌, length, take, drop, slice_set, inl, inr, ◌⊎◌, refl, ap, sym, ◌∙◌, arith, append-nil, append_assoc, length-append}
use Rattle.std.proofs.lemmas.List.{set_split, take-append-drop}
use Rattle.starlark_c.specs.Inner.Recovering.{ArePut, IsPutAt, counts_with, wanted_on}
use Rattle.starlark_c.specs.RecoveredTexts.{AreFilled, Begins, Contents, added, all_added, capped_counts, contents, counts_of, joined, sums}
use Rattle.starlark_c.specs.declared.recovered_endings.Counts.{Counts}
use Rattle.starlark_c.proofs.Filled.{put_more, same_length}
use Rattle.starlark_token.specs.TextItems.{LexerItem, Given, Refused}

abbrev pub no_counts : Counts
no_counts = record { lexemes = 0; values = 0; faults = 0 }

pub same_counts : (a b : Counts) → a.lexemes ≡ b.lexemes → a.values ≡ b.values → a.faults ≡ b.faults → a ≡ b
same_counts a b l v f =
    ap (λ (n : ℕ). record a { lexemes = n }) l ∙ ap (λ (n : ℕ). record a { lexemes = b.lexemes; values = n }) v ∙ ap (λ (n : ℕ). record b { faults = n }) f

pub same_contents : (a b : Contents) → a.lexemes ≡ b.lexemes → a.values ≡ b.values → a.faults ≡ b.faults → a ≡ b
same_contents a b l v f =
    ap (λ xs. record a { lexemes = xs }) l ∙ ap (λ xs. record a { lexemes = b.lexemes; values = xs }) v ∙ ap (λ xs. record b { faults = xs }) f

sums_none : (c : Counts) → sums c no_counts ≡ c
sums_none c = same_counts _ _ (omega arith) (omega arith) (omega arith)

none_sums : (c : Counts) → sums no_counts c ≡ c
none_sums c = same_counts _ _ (omega arith) (omega arith) (omega arith)

sums_on : (a b c : Counts) → sums (sums a b) c ≡ sums a (sums b c)
sums_on a b c = same_counts _ _ (omega arith) (omega arith) (omega arith)

joined_on : (a b c : Contents) → joined a (joined b c) ≡ joined (joined a b) c
joined_on a b c = same_contents _ _ (sym (append_assoc a.lexemes b.lexemes c.lexemes)) (sym (append_assoc a.values b.values c.values)) (sym (append_assoc a.faults b.faults c.faults))

counts_joined : (a b : Contents) → counts_of (joined a b) ≡ sums (counts_of a) (counts_of b)
counts_joined a b = same_counts _ _ (length-append a.lexemes b.lexemes) (length-append a.values b.values) (length-append a.faults b.faults)

-- what two lists of items add, one after the other
all_added_on : (c : Counts) (xs ys : List LexerItem) → all_added c (xs ++ ys) ≡ joined (all_added c xs) (all_added (sums c (counts_of (all_added c xs))) ys)
unfolding all_added
all_added_on c [] ys = ap (λ k. all_added k ys) (sym (sums_none c))
all_added_on c (x ∷ xs) ys =
    let one = added c x in
    let next = sums c (counts_of one) in
    let more = all_added next xs in
    let place : sums next (counts_of more) ≡ sums c (counts_of (joined one more)) = sums_on c (counts_of one) (counts_of more) ∙ ap (sums c) (sym (counts_joined one more)) in
    ap (joined one) (all_added_on next xs ys) ∙ joined_on one more (all_added (sums next (counts_of more)) ys) ∙ ap (λ k. joined (joined one more) (all_added k ys)) place

all_added_one : (c : Counts) (x : LexerItem) → all_added c (x ∷ []) ≡ added c x
unfolding all_added
all_added_one c x = same_contents _ _ (append-nil (added c x).lexemes) (append-nil (added c x).values) (append-nil (added c x).faults)

pub contents_none : contents [] ≡ record { lexemes = []; values = []; faults = [] }
unfolding all_added
contents_none = refl

-- what belongs to two lists of items
contents_on : (xs ys : List LexerItem) → contents (xs ++ ys) ≡ joined (contents xs) (all_added (counts_of (contents xs)) ys)
contents_on xs ys = all_added_on no_counts xs ys ∙ ap (λ k. joined (contents xs) (all_added k ys)) (none_sums (counts_of (contents xs)))

-- … and to one item more
contents_more : (xs : List LexerItem) (x : LexerItem) → contents (xs ++ x ∷ []) ≡ joined (contents xs) (added (counts_of (contents xs)) x)
contents_more xs x = contents_on xs (x ∷ []) ∙ ap (joined (contents xs)) (all_added_one (counts_of (contents xs)) x)

pub have_none : (before : Contents) → AreFilled (contents []) before before no_counts
have_none before = rw contents_none (record {
  lexemes = record { fits = omega arith; is = refl };
  values = record { fits = omega arith; is = refl };
  faults = record { fits = omega arith; is = refl };
  counts = refl;
})

begins_more : {A : Type 0} (front items base now after : List A) (at : ℕ) → at ≡ length front → Begins front base now → IsPutAt at items now after → Begins (front ++ items) base after
begins_more front items base now after at here begun puts = record {
  fits = omega (arith, here, begun.fits, puts.fits (omega (arith, here, begun.fits, long)), long, length-append front items);
  is = put_more front items base now after at here begun.is puts.is;
}
  where
    long : length now ≡ length base
    long = same_length front base now begun.is begun.fits

-- the buffers have one item more
pub have_more : (xs : List LexerItem) (x : LexerItem) (before now after : Contents) (filled more : Counts) → AreFilled (contents xs) before now filled → ArePut filled (added filled x) now after → more ≡ counts_with filled x → AreFilled (contents (xs ++ x ∷ [])) before after more
have_more xs x before now after filled more held puts counted =
    let counts = held.counts in
    let old = contents xs in
    let all : contents (xs ++ x ∷ []) ≡ joined old (added filled x) = contents_more xs x ∙ ap (λ k. joined old (added k x)) (sym counts) in
    rw all (record {
      lexemes = begins_more old.lexemes (added filled x).lexemes before.lexemes now.lexemes after.lexemes filled.lexemes (ap (λ (c : Counts). c.lexemes) counts) held.lexemes puts.lexemes;
      values = begins_more old.values (added filled x).values before.values now.values after.values filled.values (ap (λ (c : Counts). c.values) counts) held.values puts.values;
      faults = begins_more old.faults (added filled x).faults before.faults now.faults after.faults filled.faults (ap (λ (c : Counts). c.faults) counts) held.faults puts.faults;
      counts = counted ∙ ap (λ k. sums k (counts_of (added filled x))) counts ∙ sym (counts_joined old (added filled x));
    })

-- Nothing was put into a buffer.
pub put_nothing : {A : Type 0} (at : ℕ) (list : List A) → IsPutAt at [] list list
put_nothing at list =
    let none : at + 0 ≡ at = omega arith in record {
      fits = λ within. omega (arith, within);
      is = sym (ap (λ n. take at list ++ drop n list) none ∙ take-append-drop at list);
    }

-- One item was put into a buffer.
pub put_one : {A : Type 0} (at : ℕ) (item same : A) (list : List A) → at < length list → item ≡ same → IsPutAt at (same ∷ []) list (slice_set list at item)
put_one at item same list within is =
    let one : suc at ≡ at + 1 = omega arith in record {
      fits = λ before. omega (arith, within);
      is = set_split list at item within ∙ ap (λ x. take at list ++ x ∷ drop (suc at) list) is ∙ ap (λ n. take at list ++ same ∷ drop n list) one;
    }

-- No room for a lexeme is no room for an item.
pub lack_lexeme : {A B C : Type 0} → A ⊎ B → A ⊎ B ⊎ C
lack_lexeme (inl few) = inl few
lack_lexeme (inr short) = inr (inl short)

min_more : (a b m : ℕ) → min (min a m + b) m ≡ min (a + b) m
min_more a b m = grind arith

capped_more : (a b : Counts) → capped_counts (sums (capped_counts a) b) ≡ capped_counts (sums a b)
capped_more a b = same_counts _ _ (min_more a.lexemes b.lexemes _) (min_more a.values b.values _) (min_more a.faults b.faults _)

-- an item adds as much wherever it is
same_added : (a b : Counts) (x : LexerItem) → counts_of (added a x) ≡ counts_of (added b x)
same_added a b (Given lexeme) = refl
same_added a b (Refused fault) = refl

-- what is wanted with items more
wanted_all : (c : Counts) (xs : List LexerItem) → wanted_on (capped_counts c) xs ≡ capped_counts (sums c (counts_of (all_added c xs)))
unfolding all_added
wanted_all c [] = ap capped_counts (sym (sums_none c))
wanted_all c (x ∷ xs) =
    let one = added c x in
    let next = sums c (counts_of one) in
    let more = all_added next xs in
    let step : capped_counts (counts_with (capped_counts c) x) ≡ capped_counts next =
    ap (λ k. capped_counts (sums (capped_counts c) k)) (same_added (capped_counts c) c x) ∙ capped_more c (counts_of one) in
    ap (λ k. wanted_on k xs) step ∙ wanted_all next xs ∙ ap capped_counts (sums_on c (counts_of one) (counts_of more) ∙ ap (sums c) (sym (counts_joined one more)))

-- what all items need, where one after the first ones has no room
pub record IsNeed (all : List LexerItem) (least : Counts) (wanted : Counts) : Type 0 where
  pub lexemes : least.lexemes ≤ (counts_of (contents all)).lexemes
  pub values : least.values ≤ (counts_of (contents all)).values
  pub faults : least.faults ≤ (counts_of (contents all)).faults
  pub is : wanted ≡ capped_counts (counts_of (contents all))

needed : (xs : List LexerItem) (x : LexerItem) (rest : List LexerItem) (filled : Counts) → filled ≡ counts_of (contents xs) → counts_of (contents (xs ++ x ∷ rest)) ≡ sums (counts_with filled x) (counts_of (all_added (counts_with filled x) rest))
unfolding all_added
needed xs x rest filled counted =
    let old = contents xs in
    let tail = joined (added filled x) (all_added (counts_with filled x) rest) in
    let all : contents (xs ++ x ∷ rest) ≡ joined old tail = contents_on xs (x ∷ rest) ∙ ap (λ k. joined old (all_added k (x ∷ rest))) (sym counted) in
    ap counts_of all ∙ counts_joined old tail ∙ ap (λ k. sums k (counts_of tail)) (sym counted) ∙ ap (sums filled) (counts_joined (added filled x) (all_added (counts_with filled x) rest)) ∙ sym (sums_on filled (counts_of (added filled x)) (counts_of (all_added (counts_with filled x) rest)))

pub need : (xs : List LexerItem) (x : LexerItem) (rest : List LexerItem) (filled : Counts) → filled ≡ counts_of (contents xs) → IsNeed (xs ++ x ∷ rest) (counts_with filled x) (wanted_on (capped_counts (counts_with filled x)) rest)
need xs x rest filled counted =
    let least = counts_with filled x in
    let whole : counts_of (contents (xs ++ x ∷ rest)) ≡ sums least (counts_of (all_added least rest)) = needed xs x rest filled counted in
    record {
      lexemes = omega (arith, ap (λ (c : Counts). c.lexemes) whole);
      values = omega (arith, ap (λ (c : Counts). c.values) whole);
      faults = omega (arith, ap (λ (c : Counts). c.faults) whole);
      is = wanted_all least rest ∙ ap capped_counts (sym whole);
    }
