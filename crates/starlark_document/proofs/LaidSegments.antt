-- Segments that are laid one after another, and their texts.
use Rattle.std.proofs.Common.{◌≡◌, ◌<◌, ◌+◌, ℕ, zero, suc, Bool, true, false, List, [], ◌∷◌, ◌++◌, ◌∙◌, sym, ap, refl, subst, arith, add-one, length, take, drop, get_or, append_assoc, take-append-drop, length-drop}
use Rattle.std.specs.Prelude.{nat_eq}
use Rattle.std.proofs.lemmas.Bool.{eqb-true, false_from_ne_true}
use Rattle.std.proofs.lemmas.List.{drop_more}
use Rattle.std.proofs.Math.Seq.{take-suc}
use Rattle.starlark_document.specs.Inner.Segments.{AreLaid, AreOpen, Follows, HaveLens, text_in, text_of}
use Rattle.starlark_document.specs.declared.segments.Segment.{Segment}
use Rattle.starlark_grammar.specs.Words.{Text}

-- Texts

pub text_append : (xs ys : List Segment) → text_of (xs ++ ys) ≡ text_of xs ++ text_of ys
text_append [] ys = refl
text_append (x ∷ xs) ys = ap (λ (t : Text). text_in x ++ t) (text_append xs ys) ∙ sym (append_assoc (text_in x) (text_of xs) (text_of ys))

pub text_split : (n : ℕ) (xs : List Segment) → text_of xs ≡ text_of (take n xs) ++ text_of (drop n xs)
text_split n xs = ap text_of (sym (take-append-drop n xs)) ∙ text_append (take n xs) (drop n xs)

-- Lists at an index

pub split_at : (xs : List Segment) (n : ℕ) (x : Segment) → n < length xs → x ≡ get_or xs n x → drop n xs ≡ x ∷ drop (n + 1) xs
split_at xs n x less is = drop_more xs n x less ∙ ap (λ (y : Segment). y ∷ drop (n + 1) xs) (sym is)

pub text_at : (xs : List Segment) (n : ℕ) (x : Segment) → n < length xs → x ≡ get_or xs n x
    → text_of xs ≡ text_of (take n xs) ++ (text_in x ++ text_of (drop (n + 1) xs))
text_at xs n x less is = text_split n xs ∙ ap (λ (ys : List Segment). text_of (take n xs) ++ text_of ys) (split_at xs n x less is)

pub take_one : (xs : List Segment) (n : ℕ) (x : Segment) → n < length xs → x ≡ get_or xs n x → take (n + 1) xs ≡ take n xs ++ (x ∷ [])
take_one xs n x less is = ap (λ (k : ℕ). take k xs) (add-one n) ∙ take-suc xs n x less ∙ ap (λ (z : Segment). take n xs ++ (z ∷ [])) (sym is)

-- Segments that others follow

-- whether the segment after some is the first of the text, where the first of them is
abbrev pub is_first_after : Bool → List Segment → Bool
is_first_after is_first [] = is_first
is_first_after is_first (x ∷ xs) = false

pub follows_first : (f : Bool) (x : Segment) → Follows false x → Follows f x
follows_first true x follows = tt
follows_first false x follows = follows

pub laid_first : (f : Bool) (xs : List Segment) → AreLaid false xs → AreLaid f xs
laid_first f [] laid = laid
laid_first f (x ∷ []) laid = (follows_first f x laid.0, laid.1)
laid_first f (x ∷ (y ∷ xs)) laid = (follows_first f x laid.0, laid.1, laid.2)

pub laid_parts : (f : Bool) (xs : List Segment) (y : Segment) (ys : List Segment) → AreLaid f (xs ++ (y ∷ ys)) → AreOpen f xs × AreLaid (is_first_after f xs) (y ∷ ys)
laid_parts f [] y ys laid = (tt, laid)
laid_parts f (x ∷ []) y ys laid = ((laid.0, laid.1, tt), laid.2)
laid_parts f (x ∷ (z ∷ xs)) y ys laid =
    let more = laid_parts false (z ∷ xs) y ys laid.2 in
    ((laid.0, laid.1, more.0), more.1)

pub laid_append : (f : Bool) (xs ys : List Segment) → AreOpen f xs → AreLaid (is_first_after f xs) ys → AreLaid f (xs ++ ys)
laid_append f [] ys are_open laid = laid
laid_append f (x ∷ []) [] are_open laid = absurd laid
laid_append f (x ∷ []) (y ∷ ys) are_open laid = (are_open.0, are_open.1, laid)
laid_append f (x ∷ (z ∷ xs)) ys are_open laid = (are_open.0, are_open.1, laid_append false (z ∷ xs) ys are_open.2 laid)

pub open_append : (f : Bool) (xs ys : List Segment) → AreOpen f xs → AreOpen (is_first_after f xs) ys → AreOpen f (xs ++ ys)
open_append f [] ys are_open more = more
open_append f (x ∷ xs) ys are_open more = (are_open.0, are_open.1, open_append false xs ys are_open.2 (after xs ys more))
  where
    after : (xs ys : List Segment) → AreOpen false ys → AreOpen (is_first_after false xs) ys
    after [] ys more = more
    after (x ∷ xs) ys more = more

-- of segments that are laid the first one follows, and its length is that of its text
pub laid_head : (f : Bool) (x : Segment) (xs : List Segment) → AreLaid f (x ∷ xs) → Follows f x × (x.len ≡ length (text_in x))
laid_head f x [] laid = (laid.0, laid.1.len)
laid_head f x (y ∷ xs) laid = (laid.0, laid.1.lexed.len)

pub lens_laid : (f : Bool) (xs : List Segment) → AreLaid f xs → HaveLens xs
lens_laid f [] laid = tt
lens_laid f (x ∷ []) laid = (laid.1.len, tt)
lens_laid f (x ∷ (y ∷ xs)) laid = (laid.1.lexed.len, lens_laid false (y ∷ xs) laid.2)

-- Segments that are laid, cut at an index

pub laid_cut : (f : Bool) (xs ys : List Segment) → AreLaid f (xs ++ ys) → 0 < length ys → AreOpen f xs × AreLaid (is_first_after f xs) ys
laid_cut f xs [] laid some = absurd (omega arith)
laid_cut f xs (y ∷ ys) laid some = laid_parts f xs y ys laid

pub laid_around : (xs : List Segment) (n : ℕ) → AreLaid true xs → n < length xs → AreOpen true (take n xs) × AreLaid (is_first_after true (take n xs)) (drop n xs)
laid_around xs n laid less = laid_cut true (take n xs) (drop n xs) (subst (AreLaid true) (sym (take-append-drop n xs)) laid) (omega (arith, length-drop n xs))

-- only the segment of index 0 is the first
pub first_taken : (xs : List Segment) (n : ℕ) → n < length xs → is_first_after true (take n xs) ≡ nat_eq n 0
first_taken xs zero less = refl
first_taken [] (suc n) less = absurd (omega arith)
first_taken (x ∷ xs) (suc n) less = sym (false_from_ne_true (nat_eq (suc n) 0) (λ e. let zero_is = eqb-true (suc n) 0 e in omega arith))

pub laid_at : (xs : List Segment) (n : ℕ) (x : Segment) → AreLaid true xs → n < length xs → x ≡ get_or xs n x
    → AreOpen true (take n xs) × AreLaid (is_first_after true (take n xs)) (x ∷ drop (n + 1) xs)
laid_at xs n x laid less is =
    laid_parts true (take n xs) x (drop (n + 1) xs) (subst (AreLaid true) (sym (take-append-drop n xs) ∙ ap (λ (ys : List Segment). take n xs ++ ys) (split_at xs n x less is)) laid)

pub len_at : (xs : List Segment) (n : ℕ) (x : Segment) → AreLaid true xs → n < length xs → x ≡ get_or xs n x → x.len ≡ length (text_in x)
len_at xs n x laid less is = (laid_head (is_first_after true (take n xs)) x (drop (n + 1) xs) (laid_at xs n x laid less is).1).1
