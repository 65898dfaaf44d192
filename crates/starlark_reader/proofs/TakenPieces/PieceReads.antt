-- Reads of a piece's bytes.
use Rattle.std.proofs.Common.{◌≤◌, ◌<◌, ◌+◌, ◌-◌, ◌*◌, Bool, true, false, ℕ, length, arith}
use Rattle.std.specs.Prelude.{if◌then◌else◌}
use Rattle.starlark_grammar.specs.AfterFaults.{next_line}
use Rattle.starlark_grammar.specs.Words.{Text}
use Rattle.starlark_words.specs.Inner.Reads.{AreReads, more_reads}
use Rattle.starlark_reader.specs.Inner.ReadBounds.{AreFaultReads, AreStepReads, AreWordReads, IsOfWord, IsTabFault, is_tab_error}
use Rattle.starlark_reader.specs.Inner.StepViews as steps
use Rattle.starlark_reader.specs.Inner.StepViews.{ReadStep}
use Rattle.starlark_reader.proofs.NextLines.{next_line_least}

-- a word that is a token or a fault, of which at most two bytes are read once more
pub word_reads : (len line : ℕ) (step : ReadStep) (before after : ℕ) → more_reads before 0 ≤ after → after ≤ before + 2 → IsOfWord len step → AreWordReads len 9 2 line 8 step before after
word_reads len line (steps.Token token taken) before after least most is = ((omega (arith, is, least), omega (arith, is, most)), omega (arith, is))
word_reads len line (steps.Text value chunk) before after least most is = absurd is
word_reads len line (steps.Fault begin fault end) before after least most is = rw is.2 ((omega (arith, least, is.0), omega (arith, most)), is.1)

-- tabs, which are a fault at their start
pub tabs_reads : (len line : ℕ) (step : ReadStep) (reads : ℕ) → IsTabFault step → 0 < len → len ≤ line → AreWordReads len 9 2 line 8 step reads reads
tabs_reads len line (steps.Token token taken) reads is some inside = absurd is
tabs_reads len line (steps.Text value chunk) reads is some inside = absurd is
tabs_reads len line (steps.Fault begin fault end) reads is some inside = rw is.1 ((omega arith, omega arith), is.0, omega (arith, some, inside), inside)

-- no opener is tabs, whose first line has `line` bytes
pub opener_reads : (len line : ℕ) (step : ReadStep) (before after : ℕ) → AreWordReads len 9 2 0 8 step before after → AreWordReads len 9 2 line 8 step before after
opener_reads len line (steps.Token token taken) before after reads = reads
opener_reads len line (steps.Text value chunk) before after reads = absurd reads
opener_reads len line (steps.Fault begin fault end) before after reads = by_fault (is_tab_error fault) reads
  where
    by_fault : (tab : Bool) → AreFaultReads tab len 0 begin end (9 * (end - len) + 8) before after → AreFaultReads tab len line begin end (9 * (end - len) + 8) before after
    by_fault true reads = absurd (omega (arith, reads.2))
    by_fault false reads = reads

-- a step with its word, whose first line has `line` bytes
pub whole_reads : (passed line : ℕ) (text : Text) (step : ReadStep) (before between after : ℕ) → 0 < passed → line ≤ next_line text 0 → AreReads passed (5 * passed + 3) before between
    → AreWordReads passed 9 2 line 8 step between after → AreStepReads 0 10 (next_line text 0) 10 step before after
whole_reads passed line text (steps.Token token len) before between after some whole word reads = ((omega (arith, word.0, reads.0.0, reads.1), omega (arith, some, word.1, reads.0.1, reads.1)), omega (arith, some, reads.1))
whole_reads passed line text (steps.Text value chunk) before between after some whole word reads = absurd reads
whole_reads passed line text (steps.Fault begin fault end) before between after some whole word reads = by_fault (is_tab_error fault) reads
  where
    by_fault : (tab : Bool) → AreFaultReads tab passed line begin end (9 * (end - passed) + 8) between after → AreReads begin (if tab then 5 * next_line text 0 + 3 else 10 * end + 10) before after
    by_fault true reads = (omega (arith, word.0, reads.0.0, reads.1), omega (arith, whole, word.1, reads.0.1, reads.3))
    by_fault false reads = (omega (arith, word.0, reads.0.0), omega (arith, some, word.1, reads.0.1, reads.1))

-- a fault where no word is
pub none_reads : (text : Text) (step : ReadStep) (before between after : ℕ) → 0 < length text → AreReads 0 3 before between → AreStepReads 0 3 0 2 step between after → AreStepReads 0 10 (next_line text 0) 10 step before after
none_reads text (steps.Token token len) before between after some none reads = ((omega (arith, none.0, reads.0.0), omega (arith, none.1, reads.0.1, reads.1)), reads.1)
none_reads text (steps.Text value chunk) before between after some none reads = ((omega (arith, none.0, reads.0.0), omega (arith, none.1, reads.0.1, reads.1)), reads.1)
none_reads text (steps.Fault begin fault end) before between after some none reads = by_fault (is_tab_error fault) reads
  where
    line : 1 ≤ next_line text 0
    line = let least = next_line_least text 0 some in omega (arith, least)

    by_fault : (tab : Bool) → AreReads begin (if tab then 5 * 0 + 3 else 3 * end + 2) between after → AreReads begin (if tab then 5 * next_line text 0 + 3 else 10 * end + 10) before after
    by_fault true reads = (omega (arith, none.0, reads.0), omega (arith, line, none.1, reads.1))
    by_fault false reads = (omega (arith, none.0, reads.0), omega (arith, none.1, reads.1))

-- an f-string text
pub chunk_reads : (line : ℕ) (step : ReadStep) (before after : ℕ) → AreStepReads 0 10 0 10 step before after → AreStepReads 0 10 line 10 step before after
chunk_reads line (steps.Token token len) before after reads = reads
chunk_reads line (steps.Text value chunk) before after reads = reads
chunk_reads line (steps.Fault begin fault end) before after reads = by_fault (is_tab_error fault) reads
  where
    by_fault : (tab : Bool) → AreReads begin (if tab then 5 * 0 + 3 else 10 * end + 10) before after → AreReads begin (if tab then 5 * line + 3 else 10 * end + 10) before after
    by_fault true reads = (reads.0, omega (arith, reads.1))
    by_fault false reads = reads
