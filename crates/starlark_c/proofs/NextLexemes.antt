-- The buffers after the next lexeme of a text, and the lexer after it.
use Rattle.std.proofs.Common.{◌≡◌, ℕ, ◌+◌, ◌≤◌, ◌||◌, false, refl, length, take, ap, ◌∙◌, arith, Ok, Err}
use Rattle.std.specs.Prelude.{Bool, Option, ⊤}
use Rattle.starlark_c.specs.Endings.{Buffers, Hold, IsText, lexemes_of}
use Rattle.starlark_c.specs.Inner.Filling.{EndsWithCutPoint, IsCutPoint, IsLastStop, IsOverflow, MayStop, PutsNext, filled_by, wanted_by}
use Rattle.starlark_c.specs.Records.{records, stored_bytes, values}
use Rattle.starlark_c.specs.declared.endings.Ending.{Ending}
use Rattle.starlark_c.specs.declared.endings.Filled.{Filled}
use Rattle.starlark_c.specs.declared.fill_state.FillState.{FillState}
use Rattle.starlark_c.proofs.Filled.{put_next}
use Rattle.starlark_c.proofs.YieldedItems.{IsNext}
use Rattle.starlark_c.proofs.LastStops.{lacks_next, last_with_room, overflow_last}
use Rattle.starlark_c.proofs.Stops.{all_but, overflow_filled, overflows, stop_stays}
use Rattle.starlark_grammar.specs.Tokens.{Spanned}
use Rattle.starlark_grammar.specs.Words.{Text}
use Rattle.starlark_lexemes.specs.Lexer.{LexerView}
use Rattle.starlark_token.specs.TokenViews.{TokenView}

-- the first lexemes of a text fill the buffers
pub record HasFilled (home : Option Text) (text : Text) (n : ℕ) (progress : FillState) (before now : Buffers) : Type 0 where
  pub few : n ≤ length (lexemes_of text)
  pub hold : Hold (records home (take n (lexemes_of text))) (values home (take n (lexemes_of text))) before now
  pub filled : progress.filled ≡ filled_by home (take n (lexemes_of text))
  pub stop : IsCutPoint home text n progress.stop

-- and then those with the next one, after which there may be a stop
pub has_filled_more : (home : Option Text) (text : Text) (n : ℕ) (x : Spanned TokenView) (old new : FillState) (before now after : Buffers) (done : ⊤) → HasFilled home text n old before now → IsNext text n x → PutsNext home x old new now after (Ok done)
    → HasFilled home text (n + 1) new before after
has_filled_more home text n x old new before now after done had next puts =
    let more = put_next home (lexemes_of text) n x before now after old.filled new.filled next.more had.hold had.filled puts.0 in
    record { few = next.few; hold = more.hold; filled = more.counts; stop = rw puts.1 (stop_stays home text n old.stop had.stop) }

pub may_stop : (home : Option Text) (text : Text) (n : ℕ) (progress : FillState) (before now : Buffers) → HasFilled home text (n + 1) progress before now → IsLastStop text n progress.stop → MayStop home text (n + 1) progress
may_stop home text n progress before now had last = record { some = omega arith; last = λ more at later few is. last more at later (omega (arith, few)) is; few = had.few; filled = had.filled; stop = had.stop }

-- and then with a stop
pub has_stopped : (home : Option Text) (text : Text) (n : ℕ) (old new : FillState) (before now : Buffers) → HasFilled home text n old before now → new.filled ≡ old.filled → IsCutPoint home text n new.stop → HasFilled home text n new before now
has_stopped home text n old new before now had same stop = record { few = had.few; hold = had.hold; filled = same ∙ had.filled; stop = stop }

-- what is wanted with the next one, if it has no room
pub wanted_with_next : (home : Option Text) (text : Text) (n : ℕ) (x : Spanned TokenView) (old new : FillState) (before now after : Buffers) (wanted : Filled) → HasFilled home text n old before now → IsNext text n x → PutsNext home x old new now after (Err wanted)
    → wanted ≡ wanted_by (n + 1) (length (values home (take (n + 1) (lexemes_of text))))
wanted_with_next home text n x old new before now after wanted had next puts =
    let both = all_but home text n x old.filled next had.few had.filled in
    puts.2 ∙ ap (λ k. wanted_by k (old.filled.values + length (stored_bytes home x))) both.0 ∙ ap (wanted_by (n + 1)) both.1

-- how lexing ends then
pub ends_without_room : (home : Option Text) (text : Text) (n : ℕ) (x : Spanned TokenView) (old new : FillState) (before now after : Buffers) (wanted : Filled) (end : Ending) (is_front : Bool) → IsText text → old.stop.is_front ≡ is_front → HasFilled home text n old before now → IsLastStop text n old.stop → IsNext text n x → PutsNext home x old new now after (Err wanted)
    → IsOverflow home text (n + 1) new end → EndsWithCutPoint home text is_front before after (end, new.stop)
ends_without_room home text n x old new before now after wanted end is_front is kind had last next puts over = (
  overflows home text before now after n x old end is next had.few had.hold had.filled had.stop puts.0 (rw puts.1 at over),
  n,
  had.few,
  rw puts.1 had.stop,
  rw puts.1 kind,
  overflow_filled home text (n + 1) new end over,
  rw puts.1 (overflow_last home is_front text before (n + 1) old end kind (last_with_room home is_front text before n old.stop kind (lacks_next home text before now after n x old.filled next had.few had.hold had.filled puts.0) last) (rw puts.1 at over)),
)

-- a lexer that goes on in a text, with so many lexemes yielded
pub record IsGoing (text : Text) (n : ℕ) (lexer : LexerView) : Type 0 where
  pub going : lexer.has_ended ≡ false
  pub text_is : lexer.text ≡ text
  pub count : lexer.yielded_count ≡ n

pub goes_on : (text : Text) (n more reads : ℕ) (cut : Option ℕ) (old new : LexerView) → IsGoing text n old → new ≡ record old { yielded_count = old.yielded_count + more; reads = reads; cut = cut } → IsGoing text (n + more) new
goes_on text n more reads cut old new is after = record {
  going = ap (λ (l : LexerView). l.has_ended) after ∙ is.going;
  text_is = ap (λ (l : LexerView). l.text) after ∙ is.text_is;
  count = ap (λ (l : LexerView). l.yielded_count) after ∙ ap (λ k. k + more) is.count;
}

pub stays : (text : Text) (n reads : ℕ) (cut : Option ℕ) (old new : LexerView) → IsGoing text n old → new ≡ record old { yielded_count = old.yielded_count + 0; reads = reads; cut = cut } → IsGoing text n new
stays text n reads cut old new is after = let same : n + 0 ≡ n = omega arith in rw same at (goes_on text n 0 reads cut old new is after)

pub goes_on_with : (text : Text) (n reads : ℕ) (cut : Option ℕ) (old new : LexerView) → IsGoing text n old → new ≡ record old { yielded_count = old.yielded_count + 1; has_ended = old.has_ended || false; reads = reads; cut = cut } → IsGoing text (n + 1) new
goes_on_with text n reads cut old new is after = record {
  going = ap (λ (l : LexerView). l.has_ended) after ∙ rw is.going refl;
  text_is = ap (λ (l : LexerView). l.text) after ∙ is.text_is;
  count = ap (λ (l : LexerView). l.yielded_count) after ∙ ap (λ k. k + 1) is.count;
}
