-- What lexing takes.
use Rattle.std.specs.Prelude.{◌≡◌, ◌≤◌, ◌<◌, ◌+◌, ◌*◌, min, ℕ}
use Rattle.starlark_document.specs.declared.segment_lexing.LexingCost.{LexingCost}
use Rattle.starlark_recovery.specs.RecoveringLexer.{most_reads_on}

-- the reads are within the bound for the bytes that were lexed and the starts of lexing
abbrev pub IsPaid : LexingCost → Type 0
IsPaid cost = cost.reads ≤ most_reads_on cost.lexed cost.starts

-- a sum that saturates at 2^64 - 1
abbrev pub saturated_sum : ℕ → ℕ → ℕ
saturated_sum first second = min (first + second) 18446744073709551615

-- what two lexings took
abbrev pub cost_sum : LexingCost → LexingCost → LexingCost
cost_sum first second = record {
  lexed = saturated_sum first.lexed second.lexed;
  starts = saturated_sum first.starts second.starts;
  reads = saturated_sum first.reads second.reads;
}

-- what lexing a text of `len` bytes took: it started at least once, and at most once more than there are bytes, or reads
pub record IsTextCost (len : ℕ) (cost : LexingCost) : Type 0 where
  pub lexed : cost.lexed ≡ len
  pub some : 0 < cost.starts
  pub few : cost.starts ≤ len + 1
  pub read : cost.starts ≤ cost.reads + 1
  pub paid : IsPaid cost

-- what lexing texts of some bytes took, each of which lies in `len` bytes
pub record IsCostSoFar (len : ℕ) (cost : LexingCost) : Type 0 where
  pub most : cost.lexed ≤ cost.starts * len
  pub few : cost.starts ≤ 2 * cost.lexed
  pub paid : IsPaid cost

-- what lexing a part of `len` bytes took; some byte was read, and where lexing started once, each
pub record IsPartCost (len : ℕ) (cost : LexingCost) : Type 0 where
  pub most : cost.lexed ≤ cost.starts * len
  pub few : cost.starts ≤ 2 * cost.lexed + 1
  pub paid : IsPaid cost
  pub some : 0 < len → 0 < cost.reads
  pub least : cost.starts ≡ 1 → cost.lexed ≤ cost.reads
