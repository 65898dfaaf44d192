-- One call after another on a reader, whose text stays the same.
use Rattle.std.proofs.Common.{rules, ◌≡◌, ◌∷◌, [], ap, refl, subst, sym, ℕ}
use Rattle.std.specs.Prelude.{List, Option}
use Rattle.starlark_grammar.specs.Pieces.{Step}
use Rattle.starlark_grammar.specs.Reading.{History}
use Rattle.starlark_grammar.specs.Tokens.{Fault, Outcome, Spanned}
use Rattle.starlark_grammar.specs.Words.{Text}
use Rattle.starlark_token.specs.TokenViews.{TokenView}
use Rattle.starlark_token.specs.declared.tokens.Token.{Token}
use Rattle.starlark_reader.specs.Inner.Reader.{HasSomething, IsAhead, IsAheadAfter, IsAheadPast, IsAtCode, IsAtStep, IsLeft, IsRead, IsReadPast, IsSomething, IsSound, IsStateAfter, KeepsAhead, Origin, PassesNext, TakesNext, history_since, left_here, step_here}
use Rattle.starlark_reader.proofs.TakenPieces.PieceTaken.{left_onward, onward_ahead, onward_past}
use Rattle.starlark_reader.proofs.TakenPieces.ReaderReads.{reads_ahead}
use Rattle.starlark_reader.specs.Inner.Pending.{IsIdle}
use Rattle.starlark_reader.specs.Inner.ReadBounds.{HasReadAt}
use Rattle.starlark_reader.specs.declared.reader.Reader.{Reader}
use Rattle.starlark_reader.specs.declared.reader.Stage.{Stage}
use Rattle.starlark_reader.specs.declared.reader.Stage.TheVariants as stages

-- what the reader stores between two pieces
pub state_here : (reader : Reader) → IsSound reader → reader.stage ≡ stages.Onward → (origin : Origin) × (history : History) × IsStateAfter origin reader.text.now history reader
state_here reader sound onward =
    let ready = sound.ready in
    let left = (left_onward reader.text.now reader ready.1 ready.2 onward ready.3).is_left in
    (ready.0, left.0, left.1)

-- the step at the reader's offset, whatever the history
pub at_step : (reader : Reader) (P : History → Step → Type 0) → IsSound reader → reader.stage ≡ stages.Onward → IsIdle reader.text.now reader.pending
    → ((origin : Origin) (history : History) → IsStateAfter origin reader.text.now history reader → P history (step_here reader.text.now history reader)) → IsAtStep reader P
at_step reader P sound onward idle here =
    let state = state_here reader sound onward in
    record { text = sound.text; stage = onward; stands = (state.0, state.1, state.2, here state.0 state.1 state.2); idle = idle }

-- a lexeme was yielded, or passed, whatever the history
pub taken_here : (old : Reader) (given : Option (ℕ × Token × ℕ)) (new : Reader) → old.stage ≡ stages.Onward → IsIdle old.text.now old.pending
    → ((origin : Origin) (history : History) → IsStateAfter origin old.text.now history old → IsRead origin old.text.now (left_here old.text.now history old) given new) → TakesNext old given new
taken_here old given new onward idle read = λ origin lexemes fault ahead. onward_ahead old.text.now old given new lexemes fault (read origin) idle (left_onward old.text.now old lexemes fault onward ahead)

pub passed_here : (old : Reader) (lexeme : Spanned TokenView) (new : Reader) → old.stage ≡ stages.Onward → IsIdle old.text.now old.pending
    → ((origin : Origin) (history : History) → IsStateAfter origin old.text.now history old → IsReadPast origin old.text.now (left_here old.text.now history old) (lexeme ∷ []) new) → PassesNext old lexeme new
passed_here old lexeme new onward idle read = λ origin lexemes fault ahead. onward_past old.text.now old lexeme new lexemes fault (read origin) idle (left_onward old.text.now old lexemes fault onward ahead)

pub sound_after : (old new : Reader) → new.text ≡ old.text → IsSound old → KeepsAhead old new → IsSound new
sound_after old new same sound keeps = search rules

pub scanned_sound : (reader : Reader) (reads : ℕ) → IsSound reader → IsSound (record reader { reads = reads })
scanned_sound reader reads sound = sound_after reader (record reader { reads = reads }) refl sound (λ origin lexemes fault ahead. reads_ahead reader.text.now reader reads reader.stage lexemes fault ahead)

module _ (old mid new : Reader) (same : mid.text ≡ old.text) (first : KeepsAhead old mid) where
  pub keeps_twice : KeepsAhead mid new → KeepsAhead old new
  keeps_twice second = λ origin lexemes fault ahead.
      subst (λ (t : Text). (origin : Origin) (lexemes : List (Spanned TokenView)) (fault : Option (Spanned Fault)) → IsAhead origin t mid mid.stage lexemes fault → IsAhead origin t new new.stage lexemes fault) (ap (λ t. t.now) same) second origin lexemes fault (first origin lexemes fault ahead)

  pub keeps_passes : (lexeme : Text → Spanned TokenView) → PassesNext mid (lexeme mid.text.now) new → PassesNext old (lexeme old.text.now) new
  keeps_passes lexeme second = λ origin lexemes fault ahead.
      subst (λ (t : Text). (origin : Origin) (lexemes : List (Spanned TokenView)) (fault : Option (Spanned Fault)) → IsAhead origin t mid mid.stage lexemes fault → IsAheadPast origin t (lexeme t) new lexemes fault) (ap (λ t. t.now) same) second origin lexemes fault (first origin lexemes fault ahead)

  pub keeps_takes : (given : Option (ℕ × Token × ℕ)) → TakesNext mid given new → TakesNext old given new
  keeps_takes given second = λ origin lexemes fault ahead.
      subst (λ (t : Text). (origin : Origin) (lexemes : List (Spanned TokenView)) (fault : Option (Spanned Fault)) → IsAhead origin t mid mid.stage lexemes fault → IsAheadAfter origin t given new lexemes fault) (ap (λ t. t.now) same) second origin lexemes fault (first origin lexemes fault ahead)

pub keeps_something : (old mid : Reader) → mid.text ≡ old.text → KeepsAhead old mid → HasSomething mid → HasSomething old
keeps_something old mid same first second = λ origin lexemes fault ahead.
    subst (λ (t : Text). (origin : Origin) (lexemes : List (Spanned TokenView)) (fault : Option (Spanned Fault)) → IsAhead origin t mid mid.stage lexemes fault → IsSomething lexemes fault) (ap (λ t. t.now) same) second origin lexemes fault (first origin lexemes fault ahead)

pub code_after : (old new : Reader) → new.text ≡ old.text → IsAtCode old.text.now new → IsAtCode new.text.now new
code_after old new same = subst (λ (t : Text). IsAtCode t new) (sym (ap (λ t. t.now) same))

-- What is ahead in a text doesn't depend on the text that the reader borrows

module _ (text : Text) (reader over : Reader) where
  pub over_state : {origin : Origin} → (history : History) → IsStateAfter origin text history reader → IsStateAfter origin text history (record reader { text = over.text })
  over_state history state =
      record { nesting = state.nesting; levels = state.levels; before = state.before; inside = state.inside; boundary = state.boundary; few = state.few; onward = state.onward; reach = state.reach; read = state.read }

  over_left : (origin : Origin) (stage : Stage) (left : Outcome) → IsLeft origin text reader stage left → IsLeft origin text (record reader { text = over.text }) stage left
  over_left origin stages.Begin left is = is
  over_left origin stages.Onward left is = (is.0, over_state is.0 is.1, is.2)
  over_left origin (stages.Fault begin fault end) left is = (is.0, is.1, is.2, is.3, is.4, record { levels = is.5.levels; whole = λ standing. over_state (history_since origin text) (is.5.whole standing); at = is.5.at }, is.6)
  over_left origin stages.Closed left is = (is.0, over_state (history_since origin text) is.1)

  pub over_ahead : {origin : Origin} → (stage : Stage) (lexemes : List (Spanned TokenView)) (fault : Option (Spanned Fault)) → IsAhead origin text reader stage lexemes fault → IsAhead origin text (record reader { text = over.text }) stage lexemes fault
  over_ahead {origin = origin} stage lexemes fault ahead =
      record { left = ahead.left; is_left = over_left origin stage ahead.left ahead.is_left; is_pending = ahead.is_pending; ahead = ahead.ahead; those_after = ahead.those_after; cut = ahead.cut; cuts = ahead.cuts }

  pub over_reads : (stage : Stage) → HasReadAt text reader stage → HasReadAt text (record reader { text = over.text }) stage
  over_reads stages.Begin has = has
  over_reads stage has = has

  pub over_code : IsAtCode text reader → IsAtCode text (record reader { text = over.text })
  over_code code = record { stage = code.stage; idle = code.idle; code = code.code }
