-- The reads of a reader after each of its steps.
use Rattle.std.proofs.Common.{◌≡◌, ◌≤◌, ◌<◌, ◌+◌, ◌*◌, ◌∙◌, ℕ, Bool, false, true, List, Option, Some, ap, drop, length, refl, subst, sym, arith}
use Rattle.std.specs.Prelude.{IfErr, Result, Ok, Err, if◌then◌else◌}
use Rattle.starlark_grammar.specs.AfterFaults.{is_tab, next_line}
use Rattle.starlark_grammar.specs.Depths.{InText, mode_after}
use Rattle.starlark_grammar.specs.Inner.Openings.{opening_view}
use Rattle.starlark_grammar.specs.KeptLines.{is_unfinished}
use Rattle.starlark_grammar.specs.Reading.{History}
use Rattle.starlark_grammar.specs.Words.{Text}
use Rattle.starlark_grammar.specs.Tokens.{Fault, Spanned, Token, UnfinishedStringLiteral}
use Rattle.starlark_grammar.specs.declared.class.LiteralKind.{LiteralKind}
use Rattle.starlark_grammar.specs.declared.class.Opening as code
use Rattle.starlark_grammar.specs.declared.class.Quote.{Quote}
use Rattle.starlark_token.specs.Lexemes.{fault_view}
use Rattle.starlark_token.specs.TokenViews.{TokenView}
use Rattle.starlark_token.specs.declared.lexeme_error.LexemeError.{LexemeError}
use Rattle.starlark_reader.specs.Inner.Reader.{IsAhead, IsLeft, IsStateAfter, Origin, history_since, step_here}
use Rattle.starlark_words.specs.Inner.LiteralViews.{fstring_literal, single_literal}
use Rattle.starlark_words.specs.Inner.PlainRuns.{IsRun}
use Rattle.starlark_words.specs.Inner.Reads.{AreReads, more_reads}
use Rattle.starlark_reader.specs.Inner.Lookaheads.{IsTextRun}
use Rattle.starlark_reader.specs.Inner.Nesting.{Represents}
use Rattle.starlark_reader.specs.Inner.Pending.{IsIdle, owed}
use Rattle.starlark_reader.specs.Inner.StepViews.{IsStep, ReadStep}
use Rattle.starlark_reader.specs.Inner.ReadBounds.{AreStepReads, HasRead, HasReadAt, HasScannedHere, IsMarginRead, IsPassed, IsPassedBy, LeavesReads, is_tab_view}
use Rattle.starlark_reader.proofs.TakenPieces.Here.{fault_here}
use Rattle.starlark_reader.proofs.TakenPieces.KeptReads.{moved_passed}
use Rattle.starlark_reader.proofs.TakenPieces.SearchReads.{fault_restart, step_search}
use Rattle.starlark_reader.specs.declared.literal.chunks.Chunk.{Chunk}
use Rattle.starlark_reader.specs.Inner.StepViews as steps
use Rattle.starlark_reader.specs.declared.reader.Reader.{Reader}
use Rattle.starlark_reader.specs.declared.reader.Stage.{Stage}
use Rattle.starlark_reader.specs.declared.reader.Stage.TheVariants as stages

-- the reads of a reader before byte `at`, as numbers
abbrev pub IsReadBefore : (before at owes : ℕ) → Type 0
IsReadBefore before at owes = (more_reads 0 at ≤ before) × (before + 5 * owes ≤ 10 * at + 2)

-- the reads after a piece of `len` bytes
pub onward_reads : (text : Text) (len before : ℕ) (old new : Reader) → IsReadBefore before old.at (owed old.pending) → AreReads len (10 * len) before old.reads
    → IsPassedBy (old.at + len) old new × (new.stage ≡ stages.Onward) → HasRead text new
onward_reads text len before old new has read passed =
    subst (HasReadAt text new) (sym passed.1) (omega (arith, has.0, read.0, passed.0.0, passed.0.1), omega (arith, has.1, read.1, passed.0.0, passed.0.1, passed.0.2))

-- the reads at an unfinished literal
unfinished_reads : (begin end line : ℕ) (fault : LexemeError) (node : Fault) (before after : ℕ) → fault_view fault ≡ Some node → is_unfinished node ≡ true → AreStepReads 0 10 line 10 (steps.Fault begin fault end) before after → after ≤ before + (10 * end + 10)
unfinished_reads begin end line fault node before after view cut reads = subst (λ tab. after ≤ before + (if tab then 5 * line + 3 else 10 * end + 10)) (ap is_tab_view view ∙ other node cut) reads.1
  where
    other : (node : Fault) → is_unfinished node ≡ true → is_tab node ≡ false
    other UnfinishedStringLiteral cut = refl
    other node cut = cc

-- the reads after a token or an f-string text, or at a fault
pub step_reads : {origin : Origin} → (text : Text) (before : ℕ) (history : History) (step : ReadStep) (old new : Reader) → IsStateAfter origin text history old → IsStep (step_here text history old) step
    → IsReadBefore before old.at (owed old.pending) → AreStepReads 0 10 (next_line (drop old.at text) 0) 10 step before old.reads → LeavesReads 0 (drop old.at text) step before old.reads → IsPassed old step new → HasRead text new
step_reads text before history (steps.Token token len) old new kept stands has read leaves passed = onward_reads text len before old new has (omega (arith, read.0.0), omega (arith, read.0.1)) passed
step_reads text before history (steps.Text value chunk) old new kept stands has read leaves passed = onward_reads text (chunk.len + chunk.stop_len) before old new has (omega (arith, read.0.0), omega (arith, read.0.1)) passed
step_reads text before history (steps.Fault begin fault end) old new kept stands has read leaves passed =
    let here = fault_here text history old (record { begin = begin; node = stands.0; end = end }) kept stands.2 in
    subst (HasReadAt text new) (sym passed.1) (
      omega (arith, has.0, read.0, passed.0.1),
      λ node is.
          let after = fault_restart text old.at begin end node kept.inside here.1 in
          let search = step_search text old.at begin end fault node is kept.inside here.1 in
          (omega (arith, after, search, has.1, read.1, passed.0.1, passed.0.2), ((λ keeps inside. omega (arith, moved_passed text old.at begin end node, (leaves node is).0 keeps, has.1, passed.0.1, passed.0.2)), (λ bad. omega (arith, (leaves node is).1 bad, has.1, passed.0.1, passed.0.2)), (λ cut. omega (arith, unfinished_reads begin end (next_line (drop old.at text) 0) fault node before old.reads is cut read, has.1, passed.0.1, passed.0.2)))),
    )

-- the reads after a newline and its margin
pub line_reads : (text : Text) (len before : ℕ) (old new : Reader) → old.at + len ≤ length text → IsReadBefore before old.at (owed old.pending) → AreReads len (5 * len) before old.reads → 0 < len
    → IsMarginRead text len old new new.stage → HasRead text new
line_reads text len before old new inside has read some margin = go new.stage margin
  where
    go : (stage : Stage) → IsMarginRead text len old new stage → HasReadAt text new stage
    go stages.Onward margin = (omega (arith, has.0, read.0, margin.0.0, margin.1), omega (arith, has.1, read.1, some, margin.0.1, margin.1))
    go (stages.Fault begin fault end) margin = (omega (arith, has.0, read.0, margin.0, margin.1), λ node is. let there = margin.2 node is in (omega (arith, has.1, read.1, there.0, there.1, there.2), ((λ keeps inside. let tab = there.3 keeps in cc), (λ bad. let good = there.4 in cc), (λ cut. let finished = there.5 in cc))))
    go stage margin = absurd margin

-- the run that was peeked after an opener, …
pub opened_run : (rest : Text) (reads : ℕ) (reader : Reader) (kind : LiteralKind) (is_raw : Bool) (quote : Quote) (len : ℕ) (found : Result ℕ ℕ) → rest ≡ drop len (drop reader.at reader.text.now)
    → IfErr found (λ run. IsRun (single_literal kind is_raw quote) rest run × AreReads (run + 2) (6 * run + 3) reader.reads reads)
    → IfErr found (λ run. IsRun (single_literal kind is_raw quote) (drop len (drop reader.at reader.text.now)) run × HasScannedHere run (6 * run + 3) reader (record reader { reads = reads }))
opened_run rest reads reader kind is_raw quote len (Ok value) e other = tt
opened_run rest reads reader kind is_raw quote len (Err run) e other = (subst (λ (t : Text). IsRun (single_literal kind is_raw quote) t run) e other.0, (refl, refl, omega arith, (omega (arith, other.1.0), other.1.1)))

-- … and in the text of an f-string
pub text_run : (text rest : Text) (reads : ℕ) (reader : Reader) (opening : code.Opening) (found : Result Chunk ℕ) → rest ≡ drop reader.at text → reader.stage ≡ stages.Onward → IsIdle text reader.pending
    → ((tokens : List Token) → Represents tokens reader.nesting → mode_after tokens ≡ InText (opening_view opening)) → IfErr found (λ run. IsRun (fstring_literal (opening_view opening)) rest run × AreReads run (6 * run + 4) reader.reads reads)
    → IfErr found (λ run. IsTextRun text run (record reader { reads = reads }) × HasScannedHere run (6 * run + 4) reader (record reader { reads = reads }))
text_run text rest reads reader opening (Ok value) e onward idle inside other = tt
text_run text rest reads reader opening (Err run) e onward idle inside other =
    (record { opening = opening; stage = onward; idle = idle; inside = inside; run = subst (λ (t : Text). IsRun (fstring_literal (opening_view opening)) t run) e other.0 }, (refl, refl, omega arith, other.1))

-- a state doesn't depend on the number of reads
pub state_reads : {origin : Origin} → (text : Text) (history : History) (reader : Reader) (reads : ℕ) → IsStateAfter origin text history reader → IsStateAfter origin text history (record reader { reads = reads })
state_reads text history reader reads state =
    record { nesting = state.nesting; levels = state.levels; before = state.before; inside = state.inside; boundary = state.boundary; few = state.few; onward = state.onward; reach = state.reach; read = state.read }

pub reads_ahead : {origin : Origin} → (text : Text) (reader : Reader) (reads : ℕ) (stage : Stage) (lexemes : List (Spanned TokenView)) (fault : Option (Spanned Fault)) → IsAhead origin text reader stage lexemes fault
    → IsAhead origin text (record reader { reads = reads }) stage lexemes fault
reads_ahead {origin = origin} text reader reads stage lexemes fault ahead =
    record { left = ahead.left; is_left = by_stage stage ahead.is_left; is_pending = ahead.is_pending; ahead = ahead.ahead; those_after = ahead.those_after; cut = ahead.cut; cuts = ahead.cuts }
  where
    by_stage : (stage : Stage) → IsLeft origin text reader stage ahead.left → IsLeft origin text (record reader { reads = reads }) stage ahead.left
    by_stage stages.Begin left = left
    by_stage stages.Onward left = (left.0, state_reads text left.0 reader reads left.1, left.2)
    by_stage (stages.Fault begin fault end) left = (left.0, left.1, left.2, left.3, left.4, record { levels = left.5.levels; whole = λ standing. state_reads text (history_since origin text) reader reads (left.5.whole standing); at = left.5.at }, left.6)
    by_stage stages.Closed left = (left.0, state_reads text (history_since origin text) reader reads left.1)
