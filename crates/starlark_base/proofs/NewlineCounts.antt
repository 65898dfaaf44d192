-- Numbers of LF in a text, counted in parts.
use Rattle.std.proofs.Common.{◌≡◌, ℕ, ◌+◌, ◌-◌, ◌≤◌, ◌++◌, List, cond, count_by, length, take, drop, ap, sym, ◌∙◌, arith}
use Rattle.std.proofs.lemmas.List.{take_all}
use Rattle.std.proofs.lemmas.List.Sums.{sum_by-append}
use Rattle.std.proofs.Math.Seq.{take-add}
use Rattle.starlark_base.specs.Places.{is_lf}

-- the number of LF in two texts
pub lines-append : (front more : List ℕ) → count_by is_lf (front ++ more) ≡ count_by is_lf front + count_by is_lf more
lines-append front more = sum_by-append (λ x. cond (is_lf x) 1 0) front more

-- the LF up to an offset are those up to an earlier one, and those between
pub lines_between : (text : List ℕ) (from to : ℕ) → from ≤ to → count_by is_lf (take to text) ≡ count_by is_lf (take from text) + count_by is_lf (take (to - from) (drop from text))
lines_between text from to order =
    let same : to ≡ from + (to - from) = omega arith in
    ap (λ (n : ℕ). count_by is_lf (take n text)) same
    ∙ ap (count_by is_lf) (take-add from (to - from) text)
    ∙ lines-append (take from text) (take (to - from) (drop from text))

-- the LF of a text are those up to an offset, and those after it
pub lines_after : (text : List ℕ) (at : ℕ) → at ≤ length text → count_by is_lf text ≡ count_by is_lf (take at text) + count_by is_lf (take (length text - at) (drop at text))
lines_after text at within = ap (count_by is_lf) (sym (take_all (length text) text (omega arith))) ∙ lines_between text at (length text) within
