-- Numbers of reads of bytes, by what was read.
use Rattle.std.specs.Prelude.{◌≡◌, ◌≤◌, ◌<◌, ◌+◌, ◌-◌, ◌*◌, if◌then◌else◌, Bool, true, false, ℕ, Option, None, Some, length, ⊤}
use Rattle.starlark_grammar.specs.AfterFaults.{is_margin_tab, is_tab, restart}
use Rattle.starlark_grammar.specs.Inner.KeptFaults.{may_keep}
use Rattle.starlark_grammar.specs.KeptLines.{is_bad_escape, is_unfinished, passed_end}
use Rattle.starlark_grammar.specs.Tokens.{Fault, Spanned}
use Rattle.starlark_grammar.specs.Words.{Text}
use Rattle.starlark_token.specs.Lexemes.{fault_view}
use Rattle.starlark_token.specs.declared.lexeme_error.LexemeError.{LexemeError}
use Rattle.starlark_words.specs.Inner.Reads.{AreReads, more_reads}
use Rattle.starlark_reader.specs.Searches.{search_reads}
use Rattle.starlark_reader.specs.Inner.StepViews as step
use Rattle.starlark_reader.specs.Inner.StepViews.{ReadStep}
use Rattle.starlark_reader.specs.declared.reader.Reader.{Reader}
use Rattle.starlark_reader.specs.declared.reader.Stage.{Stage}
use Rattle.starlark_reader.specs.declared.reader.Stage.TheVariants as stage
use Rattle.starlark_reader.specs.Inner.Pending.{owed}

-- whether an error is the fault of a tab
abbrev pub is_tab_view : Option Fault → Bool
is_tab_view (Some node) = is_tab node
is_tab_view None = false

abbrev pub is_tab_error : LexemeError → Bool
is_tab_error error = is_tab_view (fault_view error)

-- reads of a step after its first `passed` bytes: at most `factor` a byte; those of a fault are of
-- each byte before it and of bytes up to its end, and those of a tab's fault of the first `line` bytes
abbrev pub AreStepReads : (passed factor line extra : ℕ) → ReadStep → (before after : ℕ) → Type 0
AreStepReads passed factor line extra (step.Token token len) before after = AreReads (len - passed) (factor * (len - passed)) before after × (passed < len)
AreStepReads passed factor line extra (step.Text value chunk) before after = AreReads (chunk.len + chunk.stop_len - passed) (factor * (chunk.len + chunk.stop_len - passed)) before after × (passed < chunk.len + chunk.stop_len)
AreStepReads passed factor line extra (step.Fault begin fault end) before after = AreReads begin (if is_tab_error fault then 5 * line + 3 else factor * end + extra) before after

-- the step takes a whole word of `len` bytes, or is a fault from there on that ends after them, and
-- no tab's
abbrev pub IsOfWord : ℕ → ReadStep → Type 0
IsOfWord len (step.Token token taken) = taken ≡ len
IsOfWord len (step.Text value chunk) = ⊥
IsOfWord len (step.Fault begin fault end) = (begin ≡ 0) × (len ≤ end) × (is_tab_error fault ≡ false)

-- the fault is from one offset to another, and no tab's
abbrev pub IsFaultAt : ℕ → ℕ → ℕ × LexemeError × ℕ → Type 0
IsFaultAt begin end found = (found.0 ≡ begin) × (found.2 ≡ end) × (is_tab_error found.1 ≡ false)

-- the step is the fault of a tab here
abbrev pub IsTabFault : ReadStep → Type 0
IsTabFault (step.Fault begin fault end) = (begin ≡ 0) × (is_tab_error fault ≡ true)
IsTabFault step = ⊥

-- reads at a fault after a word of `passed` bytes: the word is tabs in the first `line` bytes, or the
-- fault ends after it
abbrev pub AreFaultReads : (is_tab : Bool) (passed line begin end most before after : ℕ) → Type 0
AreFaultReads true passed line begin end most before after = AreReads 0 0 before after × (begin ≡ 0) × (0 < line) × (passed ≤ line)
AreFaultReads false passed line begin end most before after = AreReads (begin - passed) most before after × (passed ≤ end)

-- reads of a token or a fault after its word of `passed` bytes, which may be all of it
abbrev pub AreWordReads : (passed factor more line extra : ℕ) → ReadStep → (before after : ℕ) → Type 0
AreWordReads passed factor more line extra (step.Token token len) before after = AreReads (len - passed) (factor * (len - passed) + more) before after × (passed ≤ len)
AreWordReads passed factor more line extra (step.Text value chunk) before after = ⊥
AreWordReads passed factor more line extra (step.Fault begin fault end) before after = AreFaultReads (is_tab_error fault) passed line begin end (factor * (end - passed) + extra) before after

-- the fault is as `P` says, as the grammar sees it
abbrev pub AtFault : ℕ → LexemeError → ℕ → (Spanned Fault → Type 0) → Type 0
AtFault begin fault end P = (node : Fault) → fault_view fault ≡ Some node → P (record { begin = begin; node = node; end = end })

-- reads up to a bad escape in a literal, after `spent` others, are at most ten for each byte before
-- it, one for each of its own, and six more
abbrev pub LeavesEscape : (spent : ℕ) → Spanned Fault → (before after : ℕ) → Type 0
LeavesEscape spent fault before after = is_bad_escape fault.node ≡ true → after + spent ≤ before + 10 * fault.begin + (fault.end - fault.begin) + 6

-- reads up to a fault that may keep its line, after `spent` others, leave one for each byte that is
-- passed with it and one more: all are at most ten for each of these bytes; and a bad escape leaves
-- reads for what is left of its literal
abbrev pub LeavesReads : (spent : ℕ) → Text → ReadStep → (before after : ℕ) → Type 0
LeavesReads spent text (step.Fault begin fault end) before after =
    AtFault begin fault end (λ spanned. (may_keep spanned.node ≡ true → after + spent + (passed_end text spanned - begin) + 1 ≤ before + 10 * (passed_end text spanned - begin)) × LeavesEscape spent spanned before after)
LeavesReads spent text step before after = ⊤

-- the reader advanced to byte `at`, and read nothing
abbrev pub IsPassedBy : ℕ → Reader → Reader → Type 0
IsPassedBy at old new = (new.at ≡ at) × (new.reads ≡ old.reads) × (owed new.pending ≤ owed old.pending)

-- the reader took a piece of `len` bytes, and read nothing
abbrev pub IsTaken : ℕ → Reader → Reader → Type 0
IsTaken len old new = (0 < len) × IsPassedBy (old.at + len) old new × (new.stage ≡ stage.Onward)

-- the reader peeked with `least` to `most` reads, and one more for each byte that it advanced
abbrev pub HasScanned : (least most : ℕ) → Reader → Reader → Type 0
HasScanned least most old new =
    (old.at ≤ new.at) × (new.stage ≡ old.stage) × (owed new.pending ≤ owed old.pending) × AreReads (new.at - old.at + least) (new.at - old.at + most) old.reads new.reads

-- the reader peeked with `least` to `most` reads, and its offset is unchanged
abbrev pub HasScannedHere : (least most : ℕ) → Reader → Reader → Type 0
HasScannedHere least most old new = (new.at ≡ old.at) × (new.stage ≡ old.stage) × (owed new.pending ≤ owed old.pending) × AreReads least most old.reads new.reads

-- the reader took the start of an f-string, whose opener has `len` bytes, and read the two bytes
-- after that
abbrev pub HasStarted : (len : ℕ) → Reader → Reader → Type 0
HasStarted len old new = (old.at + len ≤ new.at) × (new.at ≤ old.at + len + 2) × (new.stage ≡ stage.Onward) × (owed new.pending ≤ owed old.pending) × AreReads 2 2 old.reads new.reads

-- the reader advanced past the step, or stopped at its fault, and read nothing
abbrev pub IsPassed : Reader → ReadStep → Reader → Type 0
IsPassed old (step.Token token len) new = IsPassedBy (old.at + len) old new × (new.stage ≡ stage.Onward)
IsPassed old (step.Text value chunk) new = IsPassedBy (old.at + (chunk.len + chunk.stop_len)) old new × (new.stage ≡ stage.Onward)
IsPassed old (step.Fault begin fault end) new = IsPassedBy old.at old new × (new.stage ≡ stage.Fault (old.at + begin) fault (old.at + end))

-- reads at a fault and in the search after it, at most: sixteen for each byte up to where lexing begins
-- again, and sixteen more
abbrev pub most_reads_to : Text → Spanned Fault → ℕ
most_reads_to text fault = 16 * (restart text fault + 1)

-- reads at a fault that keeps its line leave one for each byte that is passed with it and one more:
-- all are at most ten for each byte up to the last of these and two more; at a bad escape in a
-- literal they are at most ten for each byte before it, one for each of its own, and eight more; and
-- at an unfinished literal ten for each byte up to its end, and twelve more
abbrev pub LeavesPassed : (text : Text) → Spanned Fault → (reads : ℕ) → Type 0
LeavesPassed text fault reads =
    (may_keep fault.node ≡ true → is_margin_tab text fault ≡ false → reads + (passed_end text fault - fault.begin) + 1 ≤ 10 * passed_end text fault + 2)
    × (is_bad_escape fault.node ≡ true → reads ≤ 10 * fault.begin + (fault.end - fault.begin) + 8)
    × (is_unfinished fault.node ≡ true → reads ≤ 10 * fault.end + 12)

-- reads of a literal's body after an opening of `passed` bytes, up to its bad escape
abbrev pub AreEscapeReads : (passed : ℕ) → ReadStep → (before after : ℕ) → Type 0
AreEscapeReads passed (step.Fault begin fault end) before after =
    AtFault begin fault end (λ spanned. is_bad_escape spanned.node ≡ true → (passed ≤ begin) × (after ≤ before + 8 * (begin - passed) + (end - begin) + 6))
AreEscapeReads passed step before after = ⊤

-- the margin after a newline of `len` bytes was read; at its fault, the bound includes the search
abbrev pub IsMarginRead : Text → ℕ → Reader → Reader → Stage → Type 0
IsMarginRead text len old new stage.Onward =
    AreReads (new.at - (old.at + len)) (5 * (new.at - (old.at + len)) + 5) old.reads new.reads × (old.at + len + owed new.pending ≤ new.at)
IsMarginRead text len old new (stage.Fault begin fault end) =
    (begin ≡ old.at) × (more_reads old.reads 0 ≤ new.reads)
    × AtFault begin fault end (λ spanned. (new.reads + search_reads text spanned + 5 * len ≤ old.reads + 10 * (restart text spanned - old.at) + 8) × (owed new.pending ≡ 0) × (old.at ≤ restart text spanned) × (may_keep spanned.node ≡ true → is_margin_tab text spanned ≡ true) × (is_bad_escape spanned.node ≡ false) × (is_unfinished spanned.node ≡ false))
IsMarginRead text len old new stage = ⊥

-- the reads at a stage: one to ten for each byte passed; at a fault one or more
-- for each byte before it; the upper bound includes five for each byte of pending comments, and at a
-- fault the search after it, or the bytes that are passed with it
abbrev pub HasReadAt : (text : Text) → Reader → Stage → Type 0
HasReadAt text reader stage.Begin = (reader.at ≡ 0) × (reader.reads + 5 * owed reader.pending ≡ 0)
HasReadAt text reader stage.Onward = (more_reads 0 reader.at ≤ reader.reads) × (reader.reads + 5 * owed reader.pending ≤ 10 * reader.at + 2)
HasReadAt text reader (stage.Fault begin fault end) = (more_reads 0 begin ≤ reader.reads) × AtFault begin fault end (λ spanned. (reader.reads + search_reads text spanned + 5 * owed reader.pending ≤ most_reads_to text spanned) × LeavesPassed text spanned (reader.reads + 5 * owed reader.pending))
HasReadAt text reader stage.Closed = (more_reads 0 (length text) ≤ reader.reads) × (reader.reads + 5 * owed reader.pending ≤ 10 * length text + 9)

abbrev pub HasRead : (text : Text) → Reader → Type 0
HasRead text reader = HasReadAt text reader reader.stage

-- the reads after the last lexeme, when the fault was taken or there is none
abbrev pub HasReadLast : (text : Text) → Option (ℕ × LexemeError × ℕ) → Reader → Type 0
HasReadLast text (Some found) reader = (more_reads 0 found.0 ≤ reader.reads) × AtFault found.0 found.1 found.2 (λ spanned. (reader.reads + search_reads text spanned ≤ most_reads_to text spanned) × LeavesPassed text spanned reader.reads)
HasReadLast text None reader = HasRead text reader × (more_reads 0 (length text) ≤ reader.reads) × (reader.reads < 10 * (length text + 1))
