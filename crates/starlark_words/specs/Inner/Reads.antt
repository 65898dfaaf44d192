-- Counts of reads.
use Rattle.std.specs.Prelude.{ℕ, ◌+◌, ◌*◌, ◌≤◌, min}

-- the count after `more` reads; it saturates at 2^64 - 1
abbrev pub more_reads : ℕ → ℕ → ℕ
more_reads count more = min (count + more) 18446744073709551615

-- between two counts there are at least `least` and at most `most` reads
abbrev pub AreReads : ℕ → ℕ → ℕ → ℕ → Type 0
AreReads least most before after = (more_reads before least ≤ after) × (after ≤ before + most)

-- each step of 16 bytes that begins in the first `len` bytes, from byte `from` on, counts as 16 reads, after `passed` others
abbrev pub CountsSteps : (from len passed before after : ℕ) → Type 0
CountsSteps from len passed before after = (count : ℕ) → from + 16 * count ≤ len → more_reads before (passed + from + 16 * count + 16) ≤ after
