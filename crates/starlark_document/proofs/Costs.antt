-- What lexing texts one after another takes, and lexers that no item has ended.
use Rattle.std.proofs.Common.{◌≡◌, ◌≤◌, ◌<◌, ◌+◌, ◌-◌, ◌||◌, ℕ, zero, suc, Bool, true, false, arith, refl, sym, subst, inl, inr, Option, None, Ok, Err, Some}
use Rattle.std.proofs.Math.Nat.{add-mul, le-mul_of_pos_right, min-eq_left, min-eq_right, mul-zero}
use Rattle.std.proofs.lemmas.Bool.{cases_lt}
use Rattle.std.proofs.lemmas.Nat.{mul-le}
use Rattle.std.specs.Prelude.{◌*◌, ◌⊎◌, min, IfSome, Result}
use Rattle.starlark_base.specs.Diagnostics.{Diagnosed}
use Rattle.starlark_document.specs.Inner.Costs.{IsCostSoFar, IsPaid, IsPartCost, IsTextCost, cost_sum}
use Rattle.starlark_document.specs.declared.segment_lexing.LexingCost.{LexingCost}
use Rattle.starlark_document.specs.declared.segments.Segment.{Segment}
use Rattle.starlark_grammar.specs.Words.{Text}
use Rattle.starlark_recovery.specs.RecoveringLexer.{AreReadsOn, HasReadOn, is_memory}
use Rattle.starlark_errors.specs.declared.error.kinds.ErrorKind.{ErrorKind}
use Rattle.starlark_text.specs.declared.or_memory.OrMemory.{OrMemory}
use Rattle.starlark_text.specs.declared.or_memory.OrMemory.TheVariants.{Error, Memory}
use Rattle.starlark_token.specs.declared.tokens.Token.{Token}

-- the reads of two lexings are within the bound, if those of each are
pub paid_sum : (first second : LexingCost) → IsPaid first → IsPaid second → IsPaid (cost_sum first second)
paid_sum first second one two = omega (arith, one, two)

-- texts that lie in `len` bytes each have at most so many bytes
most_sum : (len : ℕ) (first second : LexingCost) → first.lexed ≤ first.starts * len → second.lexed ≤ len → 0 < second.starts → (cost_sum first second).lexed ≤ (cost_sum first second).starts * len
most_sum len first second most inside some =
    let once : 1 * len ≤ second.starts * len = mul-le 1 len second.starts len some (omega arith) in
    let all : first.lexed + second.lexed ≤ (first.starts + second.starts) * len = omega (arith, most, inside, once, add-mul first.starts second.starts len) in
    saturated len (first.lexed + second.lexed) (first.starts + second.starts) all
  where
    -- a product that saturates at its first factor
    saturated : (len lexed starts : ℕ) → lexed ≤ starts * len → min lexed 18446744073709551615 ≤ min starts 18446744073709551615 * len
    saturated zero lexed starts most =
        let nothing : lexed ≤ 0 = omega (arith, most, mul-zero starts) in
        omega (arith, nothing)
    saturated (suc n) lexed starts most = by (cases_lt 18446744073709551615 starts)
      where
        by : (18446744073709551615 < starts) ⊎ (starts ≤ 18446744073709551615) → min lexed 18446744073709551615 ≤ min starts 18446744073709551615 * suc n
        by (inl many) =
            let one = le-mul_of_pos_right {m = suc n} 18446744073709551615 (omega arith) in
            subst (λ m. min lexed 18446744073709551615 ≤ m * suc n) (sym (min-eq_right (omega (arith, many)))) (omega (arith, one))
        by (inr few) = subst (λ m. min lexed 18446744073709551615 ≤ m * suc n) (sym (min-eq_left few)) (omega (arith, most))

-- the bound of the texts so far holds in a longer text
most_longer : (len longer starts lexed : ℕ) → len ≤ longer → lexed ≤ starts * len → lexed ≤ starts * longer
most_longer len longer starts lexed order most = omega (arith, most, mul-le starts len starts longer (omega arith) order)

-- one text more, from which another one goes on
pub so_far_more : (len longer rest : ℕ) (first second : LexingCost) → len ≤ longer → rest ≤ len → 0 < rest → IsCostSoFar len first → IsTextCost rest second → IsCostSoFar longer (cost_sum first second)
so_far_more len longer rest first second order inside some is more = record {
  most = most_longer len longer (cost_sum first second).starts (cost_sum first second).lexed order (most_sum len first second is.most (omega (arith, more.lexed, inside)) more.some);
  few = omega (arith, is.few, more.few, more.lexed, some);
  paid = paid_sum first second is.paid more.paid;
}

-- some of a text is left, where not all of it was cut off
pub some_left : (all len rest : ℕ) → rest ≡ all - len → 0 < all → (0 < len → len < all) → 0 < rest
some_left all zero rest is some begun = omega (arith, is, some)
some_left all (suc len) rest is some begun = let less = begun (omega arith) in omega (arith, is, less)

-- the last text
pub part_cost : (len rest : ℕ) (first second : LexingCost) → rest ≤ len → (0 < len → 0 < rest) → IsCostSoFar len first → IsTextCost rest second → (second.starts ≡ 1 → rest ≤ second.reads) → IsPartCost len (cost_sum first second)
part_cost len rest first second inside left is more whole = record {
  most = most_sum len first second is.most (omega (arith, more.lexed, inside)) more.some;
  few = omega (arith, is.few, more.few, more.lexed);
  paid = paid_sum first second is.paid more.paid;
  some = λ all. by (cases_lt 1 second.starts) (left all);
  least = λ one.
      let none : first.starts ≡ 0 = omega (arith, one, more.some) in
      let nothing : first.lexed ≤ 0 * len = subst (λ n. first.lexed ≤ n * len) none is.most in
      let read = whole (omega (arith, one, more.some)) in
      omega (arith, nothing, read, more.lexed);
}
  where
    by : (1 < second.starts) ⊎ (second.starts ≤ 1) → 0 < rest → 0 < (cost_sum first second).reads
    by (inl again) some = omega (arith, again, more.read)
    by (inr once) some = omega (arith, some, whole (omega (arith, once, more.some)))

-- the reads of a lexer that no item has ended are within the bound
pub reads_on : (text : Text) (fault_count reads : ℕ) (item : Result (ℕ × Token × ℕ) (OrMemory (Diagnosed ErrorKind))) → is_memory (Some item) ≡ false → HasReadOn text fault_count (Some item) reads → AreReadsOn text fault_count reads
reads_on text fault_count reads (Ok found) going read = read
reads_on text fault_count reads (Err (Error exception)) going read = read
reads_on text fault_count reads (Err Memory) going read = cc

pub goes_on : (has_ended memory : Bool) → has_ended ≡ false → memory ≡ false → (has_ended || memory) ≡ false
goes_on true memory going none = cc
goes_on false memory going none = none

-- the segment of a text is shorter than it, or the text was lexed to its end
pub whole_read : (is_cut : Bool) (found : Option Segment) (len starts reads : ℕ) → (is_cut ≡ true → IfSome found (λ segment. segment.len < len)) → (is_cut ≡ false → starts ≡ 1 → len ≤ reads)
    → IfSome found (λ segment. segment.len ≡ len → starts ≡ 1 → len ≤ reads)
whole_read is_cut None len starts reads short read = tt
whole_read true (Some segment) len starts reads short read = λ same one. absurd (omega (arith, same, short refl))
whole_read false (Some segment) len starts reads short read = λ same one. read refl one
