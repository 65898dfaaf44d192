-- How much is wanted for the first lexemes of a text.
use Rattle.std.proofs.Common.{◌≡◌, ℕ, ◌+◌, ◌-◌, ◌≤◌, ◌<◌, Bool, min, ◌++◌, length, take, refl, ap, subst, ◌∙◌, sym, true, false, arith, None, Some, ◌⊎◌, inl, inr, append-nil, is_some, IfSome, length-append}
use Rattle.std.proofs.lemmas.Bool.{cases_lt}
use Rattle.std.specs.Prelude.{Option}
use Rattle.starlark_c.specs.Endings.{all_values, capped, lexemes_of, named}
use Rattle.starlark_c.specs.Inner.Filling.{IsWanted, filled_by, wanted_by}
use Rattle.starlark_c.specs.LastCuts.{IsCutIn, IsFirstPiece, HasNoCut}
use Rattle.starlark_c.specs.Records.{fault_bytes, stored_bytes, values}
use Rattle.starlark_c.specs.declared.endings.Filled.{Filled}
use Rattle.starlark_c.proofs.Ends.{whole_front}
use Rattle.starlark_c.proofs.Filled.{values_more}
use Rattle.starlark_c.proofs.YieldedItems.{IsNext}
use Rattle.starlark_grammar.specs.Reading.{outcome}
use Rattle.starlark_grammar.specs.Tokens.{Fault, Spanned}
use Rattle.starlark_grammar.specs.Words.{Text}
use Rattle.starlark_token.specs.TokenViews.{TokenView}

min_more : (a b m : ℕ) → min (min a m + b) m ≡ min (a + b) m
min_more a b m = grind arith

capped_more : (a b : ℕ) → capped (capped a + b) ≡ capped (a + b)
capped_more a b = min_more a b _

-- what is wanted for so many lexemes and bytes more
wanted_on : (lexemes bytes one more : ℕ) (old new : Filled) → old ≡ wanted_by lexemes bytes → new ≡ wanted_by (old.lexemes + one) (old.values + more) → new ≡ wanted_by (lexemes + one) (bytes + more)
wanted_on lexemes bytes one more old new was is =
    is
    ∙ ap (λ (f : Filled). wanted_by (f.lexemes + one) (f.values + more)) was
    ∙ ap (λ k. record { lexemes = k; values = capped (capped bytes + more) }) (capped_more lexemes one)
    ∙ ap (λ k. record { lexemes = capped (lexemes + one); values = k }) (capped_more bytes more)

long_more : (home : Option Text) (text : Text) (n : ℕ) (x : Spanned TokenView) → IsNext text n x → length (values home (take n (lexemes_of text))) + length (stored_bytes home x) ≡ length (values home (take (n + 1) (lexemes_of text)))
long_more home text n x next =
    omega (arith, ap (λ xs. length (values home xs)) next.more, ap length (values_more home (take n (lexemes_of text)) x), length-append (values home (take n (lexemes_of text))) (stored_bytes home x))

pub more_values : (home : Option Text) (text : Text) (n : ℕ) (x : Spanned TokenView) → IsNext text n x → length (values home (take n (lexemes_of text))) ≤ length (values home (take (n + 1) (lexemes_of text)))
more_values home text n x next = omega (arith, long_more home text n x next)

pub wanted_more : (home : Option Text) (text : Text) (n : ℕ) (x : Spanned TokenView) (old new : Filled) → IsNext text n x → old ≡ wanted_by n (length (values home (take n (lexemes_of text)))) → new ≡ wanted_by (old.lexemes + 1) (old.values + length (stored_bytes home x))
    → new ≡ wanted_by (n + 1) (length (values home (take (n + 1) (lexemes_of text))))
wanted_more home text n x old new next was is =
    wanted_on n (length (values home (take n (lexemes_of text)))) 1 (length (stored_bytes home x)) old new was is ∙ ap (wanted_by (n + 1)) (long_more home text n x next)

-- what is wanted for all lexemes is at least that for the first ones
pub all_bytes : (home : Option Text) (text : Text) (n : ℕ) (fault : Spanned Fault) → n ≡ length (lexemes_of text) → (outcome text).fault ≡ Some fault → length (values home (take n (lexemes_of text))) + length (fault_bytes fault.node) ≡ length (all_values home text)
all_bytes home text n fault all has =
    omega (
      arith,
      ap (λ xs. length (values home xs)) (whole_front text n all),
      ap (λ (f : Option (Spanned Fault)). length (values home (lexemes_of text) ++ named f)) has,
      length-append (values home (lexemes_of text)) (fault_bytes fault.node),
    )

-- what is wanted with the text that the fault names
pub wanted_at_fault : (home : Option Text) (text : Text) (n : ℕ) (fault : Spanned Fault) (filled : Filled) → n ≡ length (lexemes_of text) → (outcome text).fault ≡ Some fault → filled ≡ filled_by home (take n (lexemes_of text))
    → wanted_by filled.lexemes (filled.values + length (fault_bytes fault.node)) ≡ wanted_by (length (lexemes_of text)) (length (all_values home text))
wanted_at_fault home text n fault filled all has counted =
    let count : filled.lexemes ≡ length (lexemes_of text) = ap (λ (f : Filled). f.lexemes) counted ∙ ap length (whole_front text n all) in
    let bytes : filled.values + length (fault_bytes fault.node) ≡ length (all_values home text) = omega (arith, ap (λ (f : Filled). f.values) counted, all_bytes home text n fault all has) in
    ap (λ k. wanted_by k (filled.values + length (fault_bytes fault.node))) count ∙ ap (wanted_by (length (lexemes_of text))) bytes

pub wanted_fault : (home : Option Text) (text : Text) (n long : ℕ) (fault : Spanned Fault) (old new : Filled) → n ≡ length (lexemes_of text) → (outcome text).fault ≡ Some fault → old ≡ wanted_by n (length (values home (take n (lexemes_of text)))) → long ≡ length (fault_bytes fault.node)
    → new ≡ wanted_by (old.lexemes + 0) (old.values + long) → new ≡ wanted_by (length (lexemes_of text)) (length (all_values home text))
wanted_fault home text n long fault old new all has was longs is =
    let count : n + 0 ≡ length (lexemes_of text) = omega (arith, all) in
    let bytes : length (values home (take n (lexemes_of text))) + long ≡ length (all_values home text) = omega (arith, all_bytes home text n fault all has, longs) in
    wanted_on n (length (values home (take n (lexemes_of text)))) 0 long old new was is ∙ ap (λ k. wanted_by k (length (values home (take n (lexemes_of text))) + long)) count ∙ ap (wanted_by (length (lexemes_of text))) bytes

-- there is no cut after one lexeme more, if there is none right after it
pub uncut_more : (is_front : Bool) (text : Text) (n : ℕ) → HasNoCut is_front text n → ((at : ℕ) → IsCutIn text is_front (n + 1) at → ⊥) → HasNoCut is_front text (n + 1)
uncut_more is_front text n before none some at is_some few is = by (cases_lt n some)
  where
    by : (n < some) ⊎ (some ≤ n) → ⊥
    by (inl more) = let same : some ≡ n + 1 = omega (arith, more, few) in none at (subst (λ k. IsCutIn text is_front k at) same is)
    by (inr less) = before some at is_some less is

-- the first piece ends at a cut, …
pub piece_to_cut : (home : Option Text) (is_front : Bool) (text : Text) (n at : ℕ) → HasNoCut is_front text n → IsCutIn text is_front (n + 1) at → IsFirstPiece home is_front text (n + 1) (length (values home (take (n + 1) (lexemes_of text))))
piece_to_cut home is_front text n at before is = let same : n + 1 - 1 ≡ n = omega arith in inl (rw same before, (at, is), refl)

-- … or it is all
pub piece_of_all : (home : Option Text) (is_front : Bool) (text : Text) (n : ℕ) → HasNoCut is_front text n → n ≡ length (lexemes_of text) → IsFirstPiece home is_front text (length (lexemes_of text)) (length (all_values home text))
piece_of_all home is_front text n before all = inr (subst (HasNoCut is_front text) all before, refl, refl)

-- a cut that was found, …
pub cut_found : (is_front : Bool) (text other : Text) (n count : ℕ) (found : Option ℕ) → other ≡ text → count ≡ n + 1 → IfSome found (IsCutIn text is_front count) → is_some found ≡ true → (at : ℕ) × IsCutIn other is_front (n + 1) at
cut_found is_front text other n count None same is cut some = cc
cut_found is_front text other n count (Some at) same is cut some = (at, rw same (rw is at cut))

-- … or none
pub no_cut_found : (is_front : Bool) (text other : Text) (n count : ℕ) (found : Option ℕ) → other ≡ text → count ≡ n + 1 → ((at : ℕ) → IsCutIn text is_front count at → found ≡ Some at) → is_some found ≡ false → (at : ℕ) → IsCutIn other is_front (n + 1) at → ⊥
no_cut_found is_front text other n count found same is known none at cut =
    let there : found ≡ Some at = known at (rw is (rw same at cut)) in
    let some : is_some found ≡ true = ap is_some there in
    cc

-- what is wanted for all of a text without fault
bytes_of_all : (home : Option Text) (text : Text) (n : ℕ) → (outcome text).fault ≡ None → n ≡ length (lexemes_of text) → length (values home (take n (lexemes_of text))) ≡ length (all_values home text)
bytes_of_all home text n none all =
    ap (λ xs. length (values home xs)) (whole_front text n all) ∙ sym (ap (λ (f : Option (Spanned Fault)). length (values home (lexemes_of text) ++ named f)) none ∙ ap length (append-nil (values home (lexemes_of text))))

pub wanted_all : (home : Option Text) (is_front : Bool) (text : Text) (count n : ℕ) (passed : Filled) → (outcome text).fault ≡ None → n ≡ length (lexemes_of text) → count ≤ n → length (values home (take count (lexemes_of text))) ≤ length (values home (take n (lexemes_of text)))
    → HasNoCut is_front text n → passed ≡ wanted_by n (length (values home (take n (lexemes_of text)))) → IsWanted home text is_front count passed
wanted_all home is_front text count n passed none all later more uncut was =
    let bytes = bytes_of_all home text n none all in
    record {
      all_lexemes = length (lexemes_of text);
      all_bytes = length (all_values home text);
      first = inr (refl, refl);
      piece = piece_of_all home is_front text n uncut all;
      more_lexemes = omega (arith, later, all);
      more_bytes = omega (arith, more, bytes);
      needs = was ∙ ap (λ k. wanted_by k (length (values home (take n (lexemes_of text))))) all ∙ ap (wanted_by (length (lexemes_of text))) bytes;
    }
