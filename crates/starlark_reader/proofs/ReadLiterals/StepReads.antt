-- Reads of a literal's bytes.
use Rattle.std.proofs.Common.{◌≡◌, ◌≤◌, ◌+◌, ◌-◌, ◌*◌, ℕ, Bool, true, false, length, max, refl, arith}
use Rattle.starlark_grammar.specs.Items.{closing_quotes}
use Rattle.starlark_grammar.specs.Tokens.{Opening}
use Rattle.starlark_words.specs.Inner.Reads.{AreReads, more_reads}
use Rattle.starlark_reader.specs.Inner.ReadBounds.{AreEscapeReads, AreFaultReads, AreWordReads, IsFaultAt, is_tab_error}
use Rattle.starlark_reader.specs.Inner.StepViews as step
use Rattle.starlark_reader.specs.Inner.StepViews.{ReadStep, fault_step}
use Rattle.starlark_token.specs.declared.lexeme_error.LexemeError.{LexemeError}

-- a literal is closed by one quote or by three
pub closing_some : (opening : Opening) → (1 ≤ length (closing_quotes opening)) × (length (closing_quotes opening) ≤ 3)
closing_some opening = by_quotes opening.is_triple refl
  where
    by_quotes : (is_triple : Bool) → opening.is_triple ≡ is_triple → (1 ≤ length (closing_quotes opening)) × (length (closing_quotes opening) ≤ 3)
    by_quotes true e = rw e (omega arith, omega arith)
    by_quotes false e = rw e (omega arith, omega arith)

pub fault_reads : (passed factor more line extra begin end : ℕ) (found : ℕ × LexemeError × ℕ) (before after : ℕ) → IsFaultAt begin end found → passed ≤ end → AreReads (begin - passed) (factor * (end - passed) + extra) before after → AreWordReads passed factor more line extra (fault_step found) before after
fault_reads passed factor more line extra begin end found before after is later reads = rw (is.2, is.0, is.1) (reads, later)

-- reads up to a bad escape after `len` bytes of a body
pub escape_reads : (passed len end : ℕ) (found : ℕ × LexemeError × ℕ) (before after : ℕ) → IsFaultAt (passed + len) end found → after ≤ before + 8 * len + (end - (passed + len)) + 6 → AreEscapeReads passed (fault_step found) before after
escape_reads passed len end found before after is reads = rw (is.0, is.1) (λ node view bad. (omega arith, omega (arith, reads)))

-- the reads of a body, with those of its first `run` bytes, which were known
pub body_reads : (run len least stopped extra spare before between after : ℕ) → run ≤ len → AreReads run (8 * run + spare) before between → AreReads (len - run + least) (8 * (len - run) + stopped + extra) between after
    → AreReads (len + least) (8 * len + stopped + extra + spare) before after
body_reads run len least stopped extra spare before between after inside known reads = (omega (arith, inside, known.0, reads.0), omega (arith, inside, known.1, reads.1))

-- those two bytes are read after the run that is known
pub later_reads : (least most before after : ℕ) → AreReads least most before after → AreReads least most (more_reads before 2) (more_reads after 2)
later_reads least most before after reads = (omega (arith, reads.0), omega (arith, reads.1))

-- what was read of an opener and a run, one after the other
pub split_reads : (len run before after : ℕ) → AreReads (len + run) (5 * len + 8 * run + 3) before after → (between : ℕ) × AreReads len (5 * len + 3) before between × AreReads run (8 * run) between after
split_reads len run before after reads = (max (after - 8 * run) (more_reads before len), (omega (arith, reads.0), omega (arith, reads.1)), (omega (arith, reads.0), omega (arith, reads.1)))

-- the reads after an opener of one quote, with the two bytes that determine that
pub single_reads : (passed : ℕ) (step : ReadStep) (before between after : ℕ) → between ≡ more_reads before 2 → AreWordReads passed 9 0 0 6 step between after → AreWordReads passed 9 2 0 8 step before after
single_reads passed (step.Token token len) before between after told reads = ((omega (arith, told, reads.0.0), omega (arith, told, reads.0.1)), reads.1)
single_reads passed (step.Fault begin fault end) before between after told reads = by_fault (is_tab_error fault) reads
  where
    by_fault : (tab : Bool) → AreFaultReads tab passed 0 begin end (9 * (end - passed) + 6) between after → AreFaultReads tab passed 0 begin end (9 * (end - passed) + 8) before after
    by_fault true reads = absurd (omega (arith, reads.2))
    by_fault false reads = ((omega (arith, told, reads.0.0), omega (arith, told, reads.0.1)), reads.1)
single_reads passed (step.Text value chunk) before between after told reads = absurd reads

-- the reads after an opener of three quotes
pub triple_reads : (passed : ℕ) (step : ReadStep) (before between after : ℕ) → between ≡ more_reads before 2 → AreWordReads (passed + 2) 9 0 0 6 step between after → AreWordReads passed 9 2 0 8 step before after
triple_reads passed (step.Token token len) before between after told reads = ((omega (arith, told, reads.0.0, reads.1), omega (arith, told, reads.0.1, reads.1)), omega (arith, reads.1))
triple_reads passed (step.Fault begin fault end) before between after told reads = by_fault (is_tab_error fault) reads
  where
    by_fault : (tab : Bool) → AreFaultReads tab (passed + 2) 0 begin end (9 * (end - (passed + 2)) + 6) between after → AreFaultReads tab passed 0 begin end (9 * (end - passed) + 8) before after
    by_fault true reads = absurd (omega (arith, reads.2))
    by_fault false reads = ((omega (arith, told, reads.0.0), omega (arith, told, reads.0.1)), omega (arith, reads.1))
triple_reads passed (step.Text value chunk) before between after told reads = absurd reads
