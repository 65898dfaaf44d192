use Rattle.std.proofs.Common.{◌≡◌, ◌+◌, ◌*◌, ◌<◌, ℕ, None, Some, ap, arith, drop, false, length, refl, rules, sym, take, true, ◌∙◌}
use Rattle.std.proofs.Math.Nat.{sub-zero}
use Rattle.starlark_grammar.specs.AfterFaults.{is_tab, next_line}
use Rattle.starlark_grammar.specs.Front.{language_front}
use Rattle.starlark_grammar.specs.KeptLines.{is_bad_escape}
use Rattle.starlark_grammar.specs.Pieces as grammar
use Rattle.starlark_grammar.specs.Reading.{History}
use Rattle.starlark_grammar.specs.Tokens as tokens
use Rattle.starlark_grammar.specs.Tokens.{InvalidTab, ReservedKeyword, StartsZero}
use Rattle.starlark_grammar.specs.Words.{Text, class_in, language}
use Rattle.starlark_grammar.specs.declared.class.Class.{Class}
use Rattle.starlark_grammar.specs.declared.class.Class.TheVariants as class
use Rattle.starlark_token.specs.Lexemes.{fault_view}
use Rattle.starlark_token.specs.declared.lexeme_error.LexemeError.{LexemeError}
use Rattle.starlark_token.specs.declared.lexeme_error.LexemeError.TheVariants as error
use Rattle.starlark_reader.specs.Inner.StepViews as steps
use Rattle.starlark_reader.specs.Inner.ReadBounds.{AreWordReads, LeavesReads, is_tab_error}
use Rattle.starlark_reader.specs.Inner.Reader.{IsStateAfter, Origin, step_here}
use Rattle.starlark_reader.specs.Inner.StepViews.{IsFaultWord, IsStep}
use Rattle.starlark_reader.proofs.NextLines.{tabs_line}
use Rattle.starlark_reader.proofs.TakenMargins.PendingLexemes.{after_error}
use Rattle.starlark_reader.proofs.TakenPieces.CodePlaces.{word_class, word_cut, word_len, word_some}
use Rattle.starlark_reader.proofs.TakenPieces.NextLexeme.{onward_something}
use Rattle.starlark_reader.proofs.TakenPieces.PieceReads.{tabs_reads, word_reads}
use Rattle.starlark_reader.proofs.TakenPieces.PieceTaken.{refused_fits, refused_read}
use Rattle.starlark_reader.proofs.TakenPieces.KeptReads.{step_leaves, tabs_leave, word_leaves}
use Rattle.starlark_reader.proofs.TakenPieces.SameTexts.{at_step, state_here, taken_here}
use Rattle.starlark_reader.proofs.TakenPieces.WordSteps.{step_of_word, word_step_reads}
use Rattle.starlark_reader.proofs.reader.Reader.refuse_word.Goals as goal
use Rattle.starlark_reader.proofs.reader.Reader.refuse_word.Goals.{Joined-word, in-Tabs, in-Decimal+in_ok-text-in-Decimal, in_default+in_ok-text-in_default}

pub range-text-requires-clause-end_boundary : goal.range-text-requires-clause-end_boundary
range-text-requires-clause-end_boundary c =
    word_cut c.range_from-rest.result.now c.args.word.class c.args.word.len c.range_from-rest.utf8 (ap language_front c.range_from-rest.ensures.value ∙ sym c.requires.stands.front)

pub returns-in_err-text-in-Decimal-clause-memory : goal.returns-in_err-text-in-Decimal-clause-memory
returns-in_err-text-in-Decimal-clause-memory c = after_error c.from_residual.result _ (λ origin lexemes fault ahead. onward_something c.args.self.now.text.now c.args.self.now lexemes fault c.requires.stands.idle c.requires.stands.stage ahead)

pub returns-in_err-text-in_default-clause-memory : goal.returns-in_err-text-in_default-clause-memory
returns-in_err-text-in_default-clause-memory c = after_error c.from_residual-in_err-text-in_default.result _ (λ origin lexemes fault ahead. onward_something c.args.self.now.text.now c.args.self.now lexemes fault c.requires.stands.idle c.requires.stands.stage ahead)

-- no other word is a fault
reserved_only : (it : Class) (word : Text) → IsFaultWord it word → (it ≡ class.Tabs → ⊥) → (it ≡ class.Decimal → ⊥) → it ≡ class.Reserved
reserved_only class.Reserved word is tabs decimal = refl
reserved_only class.Tabs word is tabs decimal = absurd (tabs refl)
reserved_only class.Decimal word is tabs decimal = absurd (decimal refl)
reserved_only it word is tabs decimal = absurd is

-- the fault of a word, and its reads
record IsRefused (class : Class) (word : Text) (found : LexemeError × ℕ) : Type 0 where
  step : (s : grammar.Situation) (remainder : Text) → IsStep (grammar.word_step s class word remainder) (steps.Fault 0 found.0 found.1)
  reads : (reads : ℕ) → AreWordReads (length word) 9 2 (next_line word 0) 8 (steps.Fault 0 found.0 found.1) reads reads
  leaves : (reads : ℕ) → LeavesReads (5 * length word + 3) word (steps.Fault 0 found.0 found.1) reads reads

-- of a word that the fault holds whole
whole_refused : (class : Class) (word : Text) (error : LexemeError) (node : tokens.Fault) → 0 < length word → fault_view error ≡ Some node → ((s : grammar.Situation) (remainder : Text) → grammar.word_step s class word remainder ≡ grammar.fault 0 node (length word))
    → is_tab_error error ≡ false → is_tab node ≡ false → is_bad_escape node ≡ false → IsRefused class word (error, length word)
whole_refused class word error node some view step no_tab no_tab_node good = record {
  step = λ s remainder. (node, view, step s remainder);
  reads = λ reads. word_reads (length word) (next_line word 0) (steps.Fault 0 error (length word)) reads reads (omega arith) (omega arith) (refl, omega arith, no_tab);
  leaves = λ reads. step_leaves (5 * length word + 3) word (grammar.fault 0 node (length word)) (steps.Fault 0 error (length word)) reads reads (node, view, refl) (word_leaves word (5 * length word + 3) (length word) node reads reads no_tab_node good (omega (arith, some)));
}

refused : (c : Joined-word) → IsRefused c.args.word.class c.range-text.result.now c.match-word.fault
refused c =
    let word = c.range-text.result.now in
    let rest = drop c.args.self.now.at c.args.self.now.text.now in
    let front : word ≡ take c.args.word.len rest = c.range-text.ensures.value ∙ ap (λ n. take n c.range_from-rest.result.now) (sub-zero _) ∙ ap (take c.args.word.len) c.range_from-rest.ensures.value in
    let known : class_in language word ≡ Some c.args.word.class = ap (class_in language) front ∙ word_class rest c.args.word.class c.args.word.len (sym c.requires.stands.front) in
    let len : length word ≡ c.args.word.len = ap (λ (t : Text). length t) front ∙ word_len rest c.args.word.class c.args.word.len (sym c.requires.stands.front) in
    let some : 0 < length word = search (rules, len, word_some) in
    let fault : IsFaultWord c.args.word.class word = rw front c.requires.fault in
    elim c.match-word.branch [
      | in-Tabs w ↦ rw w.fault-is (record {
        step = λ s remainder. rw w.in-Tabs.is (InvalidTab, refl, refl);
        reads = λ reads. tabs_reads (length word) (next_line word 0) (steps.Fault 0 error.InvalidTab 0) reads (refl, refl) some (tabs_line word (known ∙ ap Some w.in-Tabs.is));
        leaves = λ reads. step_leaves (5 * length word + 3) word (grammar.fault 0 InvalidTab 0) (steps.Fault 0 error.InvalidTab 0) reads reads (InvalidTab, refl, refl) (tabs_leave word reads (known ∙ ap Some w.in-Tabs.is) some);
      })
      | in-Decimal+in_ok-text-in-Decimal w ↦
          let zero : grammar.starts_zero word ≡ true = rw w.in-Decimal.is at fault in
          rw (w.fault-is, ← len, w.in-Decimal.is) (whole_refused class.Decimal word (error.StartsZero w.in_ok-text-in-Decimal.text) (StartsZero word) some (ap (λ text. Some (StartsZero text)) w.in_ok-text-in-Decimal.ensures.ok) (λ s remainder. rw zero refl) refl refl refl)
      | in_default+in_ok-text-in_default w ↦
          rw (w.fault-is, ← len, reserved_only c.args.word.class word fault w.in_default.not-Tabs w.in_default.not-Decimal) (whole_refused class.Reserved word (error.ReservedKeyword w.in_ok-text-in_default.text) (ReservedKeyword word) some (ap (λ text. Some (ReservedKeyword text)) w.in_ok-text-in_default.ensures.ok) (λ s remainder. refl) refl refl refl)
    ]

-- the step at the reader's offset
stops : {origin : Origin} → (c : Joined-word) (history : History) → IsStateAfter origin c.args.self.now.text.now history c.args.self.now → IsStep (step_here c.args.self.now.text.now history c.args.self.now) (steps.Fault 0 c.match-word.fault.0 c.match-word.fault.1)
stops c history kept =
    let front : c.range-text.result.now ≡ take c.args.word.len (drop c.args.self.now.at c.args.self.now.text.now) = c.range-text.ensures.value ∙ ap (λ n. take n c.range_from-rest.result.now) (sub-zero _) ∙ ap (take c.args.word.len) c.range_from-rest.ensures.value in
    step_of_word c.args.self.now.text.now history c.args.self.now c.args.word c.range-text.result.now (steps.Fault 0 c.match-word.fault.0 c.match-word.fault.1) kept c.requires.stands front (refused c).step

pub refuse-requires : goal.refuse-requires
refuse-requires c =
    let fits = refused_fits _ _ _ _ (at_step c.args.self.now _ c.requires.sound c.requires.stands.stage c.requires.stands.idle (λ origin history kept. stops (goal.at.refuse-requires c).Joined-word history kept)) in
    record { begin = fits.0; end = fits.1 }

pub returns-clause-ahead : goal.returns-clause-ahead
returns-clause-ahead c =
    let read = refused_read c.args.self.now _ _ _ c.requires.stands.idle in
    taken_here c.args.self.now None c.refuse.new.self c.requires.stands.stage c.requires.stands.idle (λ origin history kept. rw c.refuse.ensures (read origin history kept (stops (goal.at.returns-clause-ahead c).Joined-word history kept)))

pub returns-clause-reads : goal.returns-clause-reads
returns-clause-reads c = λ before has read.
    let front : c.range-text.result.now ≡ take c.args.word.len (drop c.args.self.now.at c.args.self.now.text.now) = c.range-text.ensures.value ∙ ap (λ n. take n c.range_from-rest.result.now) (sub-zero _) ∙ ap (take c.args.word.len) c.range_from-rest.ensures.value in
    let old = c.args.self.now in
    let rest = drop old.at old.text.now in
    let left = state_here old c.requires.sound c.requires.stands.stage in
    let step = steps.Fault 0 c.match-word.fault.0 c.match-word.fault.1 in
    let given = refused (goal.at.returns-clause-reads c).Joined-word in
    let is = stops (goal.at.returns-clause-reads c).Joined-word left.1 left.2 in
    let len : length c.range-text.result.now ≡ c.args.word.len = ap (λ (t : Text). length t) front ∙ word_len rest c.args.word.class c.args.word.len (sym c.requires.stands.front) in
    let more : AreWordReads c.args.word.len 9 2 (next_line (take c.args.word.len rest) 0) 8 step old.reads old.reads = rw (len, front) at (given.reads old.reads) in
    word_step_reads old.text.now before old.reads old.reads left.1 c.args.word step old c.refuse.new.self left.2 c.requires.stands is has read more (rw (len, front) at (given.leaves old.reads)) (rw c.refuse.ensures ((refl, refl, omega arith), refl))
