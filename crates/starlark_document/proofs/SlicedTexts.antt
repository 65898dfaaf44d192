-- Parts of a text, and where it may be cut.
use Rattle.std.proofs.Common.{◌≡◌, ℕ, ◌+◌, ◌-◌, ◌<◌, ◌≤◌, List, ◌++◌, ap, arith, drop, get_or, inl, inr, length, length-append, length-drop, refl, subst, sym, take, ◌∙◌}
use Rattle.std.proofs.lemmas.Bool.{cases_lt}
use Rattle.std.proofs.lemmas.List.{drop-append-le, drop-drop, drop_at, get_or-append_right, get_or_append_left, take-append-le}
use Rattle.std.proofs.lemmas.Str.{IsCharBoundary-start}
use Rattle.std.specs.Str.{IsCharBoundary, IsUtf8}

-- a byte of a text inside of a part of it
pub byte_inside : (before mid after : List ℕ) (at : ℕ) → length before ≤ at → at - length before < length mid
    → get_or (before ++ (mid ++ after)) at 0 ≡ get_or mid (at - length before) 0
byte_inside before mid after at from within =
    get_or-append_right before (mid ++ after) (length before) at 0 refl from ∙ get_or_append_left mid after 0 (at - length before) within

-- the byte of a text after a part of it
pub byte_after : (before mid after : List ℕ) (at : ℕ) → length before ≤ at → at - length before ≡ length mid
    → get_or (before ++ (mid ++ after)) at 0 ≡ get_or after 0 0
byte_after before mid after at from end =
    let zero : at - length before - length mid ≡ 0 = omega arith in
    get_or-append_right before (mid ++ after) (length before) at 0 refl from
    ∙ get_or-append_right mid after (length mid) (at - length before) 0 refl (omega arith)
    ∙ ap (λ (n : ℕ). get_or after n 0) zero

-- a text may be cut where a part of it may
pub IsCharBoundary-of_part : (before mid after : List ℕ) (at : ℕ) → IsUtf8 after → length before ≤ at → IsCharBoundary mid (at - length before)
    → IsCharBoundary (before ++ (mid ++ after)) at
IsCharBoundary-of_part before mid after at utf8 from cut =
    let whole = length-append before (mid ++ after) in
    let rest = length-append mid after in (
      omega (arith, whole, rest, cut.0),
      λ within high.
          elim (cases_lt (at - length before) (length mid)) [
            | inl inside ↦ let same = byte_inside before mid after at from inside in omega (arith, same, high, cut.1 inside (omega (arith, same, high)))
            | inr past ↦
                let end : at - length before ≡ length mid = omega (arith, past, cut.0) in
                let same = byte_after before mid after at from end in
                omega (arith, same, high, (IsCharBoundary-start after utf8).1 (omega (arith, whole, rest, within, end)) (omega (arith, same, high)))
          ],
    )

-- a part of a text may be cut where the text may
pub IsCharBoundary-in_part : (before mid after : List ℕ) (at : ℕ) → length before ≤ at → at ≤ length before + length mid → IsCharBoundary (before ++ (mid ++ after)) at
    → IsCharBoundary mid (at - length before)
IsCharBoundary-in_part before mid after at from to cut =
    let whole = length-append before (mid ++ after) in
    let rest = length-append mid after in (
      omega (arith, from, to),
      λ within high.
          let same = byte_inside before mid after at from within in
          omega (arith, same, high, cut.1 (omega (arith, whole, rest, within, from)) (omega (arith, same, high))),
    )

-- a range of a text that lies in a part of it
pub range_inside : (before mid after : List ℕ) (from to : ℕ) → length before ≤ from → from ≤ to → to ≤ length before + length mid
    → take (to - length before - (from - length before)) (drop (from - length before) mid) ≡ take (to - from) (drop from (before ++ (mid ++ after)))
range_inside before mid after from to start order end =
    let at : from ≡ length before + (from - length before) = omega arith in
    let count : to - length before - (from - length before) ≡ to - from = omega arith in
    let left : drop from (before ++ (mid ++ after)) ≡ drop (from - length before) mid ++ after =
    ap (λ (n : ℕ). drop n (before ++ (mid ++ after))) at
    ∙ sym (drop-drop (from - length before) (length before) (before ++ (mid ++ after)))
    ∙ ap (λ (xs : List ℕ). drop (from - length before) xs) (drop_at before (mid ++ after) (length before) refl)
    ∙ drop-append-le (from - length before) mid after (omega arith) in
    ap (λ (n : ℕ). take n (drop (from - length before) mid)) count
    ∙ sym (take-append-le (to - from) (drop (from - length before) mid) after (omega (arith, length-drop (from - length before) mid)))
    ∙ ap (λ (xs : List ℕ). take (to - from) xs) (sym left)

-- a text that is a part of another may be cut where the other may
pub IsCharBoundary-in_own : (whole before mid after text : List ℕ) (begin at : ℕ) → whole ≡ before ++ (mid ++ after) → text ≡ mid → begin ≡ length before
    → begin ≤ at → at ≤ length before + length mid → IsCharBoundary whole at → IsCharBoundary text (at - begin)
IsCharBoundary-in_own whole before mid after text begin at split same start from to cut =
    let parts = subst (λ (xs : List ℕ). IsCharBoundary xs at) split cut in
    let own = IsCharBoundary-in_part before mid after at (omega (arith, start, from)) to parts in
    subst (λ (xs : List ℕ). IsCharBoundary xs (at - begin)) (sym same) (subst (λ (n : ℕ). IsCharBoundary mid (at - n)) (sym start) own)

-- a range of a text, read from a part of it
pub range_in_own : (whole before mid after text : List ℕ) (begin from to : ℕ) → whole ≡ before ++ (mid ++ after) → text ≡ mid → begin ≡ length before
    → begin ≤ from → from ≤ to → to ≤ length before + length mid → take (to - begin - (from - begin)) (drop (from - begin) text) ≡ take (to - from) (drop from whole)
range_in_own whole before mid after text begin from to split same start order later end =
    ap (λ (xs : List ℕ). take (to - begin - (from - begin)) (drop (from - begin) xs)) same
    ∙ ap (λ (n : ℕ). take (to - n - (from - n)) (drop (from - n) mid)) start
    ∙ range_inside before mid after from to (omega (arith, start, order)) later end
    ∙ ap (λ (xs : List ℕ). take (to - from) (drop from xs)) (sym split)
