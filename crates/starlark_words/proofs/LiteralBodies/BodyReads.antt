-- How often the bytes of a body are read.
use Rattle.std.proofs.Common.{ℕ, ◌+◌, ◌-◌, ◌*◌, ◌<◌, ◌≤◌, arith}
use Rattle.starlark_words.specs.Inner.Reads.{AreReads}

-- a run and an item after what was read, of which three bytes were read with the run
pub item_reads : (known len run item before there front after : ℕ) → known ≤ len → 0 < item → AreReads (len - known) (8 * (len - known)) before there → AreReads (3 + (run + 1)) (3 + (6 * run + 1)) there front
    → AreReads (item - 3) (item + 2) front after → AreReads (len + run + item - known) (8 * (len + run + item - known)) before after
item_reads known len run item before there front after inside some so_far ran found =
    (omega (arith, inside, so_far.0, ran.0, found.0), omega (arith, inside, some, so_far.1, ran.1, found.1))

-- a run and an escape of two bytes after what was read
pub short_reads : (known len run before there after : ℕ) → known ≤ len → AreReads (len - known) (8 * (len - known)) before there → AreReads (3 + (run + 1)) (3 + (6 * run + 1)) there after
    → AreReads (len + run + 2 - known) (8 * (len + run + 2 - known)) before after
short_reads known len run before there after inside so_far ran = (omega (arith, inside, so_far.0, ran.0), omega (arith, inside, so_far.1, ran.1))
