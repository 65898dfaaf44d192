-- Where a lexer may cut its text.
use Rattle.std.proofs.Common.{◌≡◌, ◌<◌, ◌+◌, ◌∙◌, ℕ, Bool, List, false, true, ap, refl, sym, subst, length, map, take, arith, IfSome, None, Some, Ok, rules}
use Rattle.std.proofs.lemmas.Bool.{and_parts, lt-ltb, ltb-true}
use Rattle.std.proofs.lemmas.List.{length-drop, length-map, length-take}
use Rattle.std.specs.Prelude.{◌&&◌, ◌||◌, if◌then◌else◌, nat_lt, not, OnOk, Option, Result}
use Rattle.starlark_base.specs.Diagnostics.{Diagnosed}
use Rattle.starlark_base.specs.Sources.{SourceFile}
use Rattle.starlark_grammar.specs.Cuts.{is_kept_cut, without_closing}
use Rattle.starlark_grammar.specs.Reading.{outcome}
use Rattle.starlark_grammar.specs.Tokens.{Fault, Spanned}
use Rattle.starlark_grammar.specs.Words.{Text}
use Rattle.starlark_grammar.proofs.Joining.CleanCuts.{cut}
use Rattle.starlark_grammar.proofs.Joining.LaidCuts.{ends_some}
use Rattle.starlark_grammar.proofs.Joining.LineCuts.{kept_parts}
use Rattle.starlark_reader.specs.Inner.MarginCuts.{IsCutBefore}
use Rattle.starlark_reader.specs.Inner.Reader.{IsAhead, IsAheadPast, IsReached, Start}
use Rattle.starlark_reader.specs.declared.reader.Before.{Before}
use Rattle.starlark_reader.specs.declared.reader.Before.TheVariants as before
use Rattle.starlark_reader.specs.declared.reader.Reader.{Reader}
use Rattle.starlark_reader.specs.declared.reader.Stage.{Stage}
use Rattle.starlark_reader.specs.declared.reader.Stage.TheVariants as stages
use Rattle.starlark_lexemes.specs.CutAfter.{IsCutAfter, KnowsCut}
use Rattle.starlark_lexemes.specs.Inner.LexerStates.{HasAnswered, IsLexing, StateView, known_cut, left_in, lexer_view, reached_cut, view_of, whole}
use Rattle.starlark_lexemes.specs.Lexer.{is_ended_by, yielded_by}
use Rattle.starlark_errors.specs.declared.error.kinds.ErrorKind.{ErrorKind}
use Rattle.starlark_lexemes.specs.declared.lexer_state.LexerState.{LexerState}
use Rattle.starlark_text.specs.declared.or_memory.OrMemory.{OrMemory}
use Rattle.starlark_token.specs.Lexemes.{lexeme_view, shown_lexeme}
use Rattle.starlark_token.specs.TokenViews.{TokenView}
use Rattle.starlark_token.specs.declared.tokens.Token.{Token}

-- a kept cut has bytes before it
pub kept_some : (text : Text) (at : ℕ) → is_kept_cut text at ≡ true → 0 < at
kept_some text at h = omega (arith, ends_some (take at text) (cut (take at text) ((kept_parts text at h).1)).ends, length-take at text)

-- an offset that the reader says is a cut, before what is left
pub cut_kept : (text : Text) (state : LexerState) (found : Option ℕ) → IsLexing (whole text) state → state.has_ended ≡ false
    → IfSome found (λ at. (lexemes : List (Spanned TokenView)) (fault : Option (Spanned Fault)) → IsAhead Start state.reader.text.now state.reader state.reader.stage lexemes fault → IsCutBefore state.reader.text.now at (length lexemes))
    → IfSome found (λ at. IsCutBefore state.reader.text.now at (length (left_in (whole text) state)))
cut_kept text state None lexing going kept = kept
cut_kept text state (Some at) lexing going kept = kept _ _ (lexing.1 going).1

pub cut_after : (state : LexerState) (found : Option ℕ) → IsLexing (whole state.reader.text.now) state → state.has_ended ≡ false → IfSome found (λ at. IsCutBefore state.reader.text.now at (length (left_in (whole state.reader.text.now) state)))
    → IfSome found (IsCutAfter state.reader.text.now state.yielded_count)
cut_after state None lexing going before = tt
cut_after state (Some at) lexing going before = record {
  inside = before.inside;
  is_kept = before.is_kept;
  lexemes = omega (
    arith,
    before.count,
    (lexing.1 going).0,
    length-drop state.yielded_count (map shown_lexeme (outcome state.reader.text.now).lexemes),
    length-map (outcome state.reader.text.now).lexemes shown_lexeme,
  );
}

-- What a lexer knows of cuts

known_is : (state : LexerState) → known_cut state ≡ (if not state.has_ended && nat_lt 0 state.yielded_count then reached_cut state.reader.text.now state.reader state.reader.stage state.reader.before else None)
unfolding known_cut
known_is state = refl

reached_is : (text : Text) (reader : Reader) (stage : Stage) (before : Before) (at : ℕ) → reader.stage ≡ stage → reader.before ≡ before → reached_cut text reader stage before ≡ Some at → IsReached reader at × (0 < at) × (at < length text)
reached_is text reader stages.Onward before.Layout at on layout is = by (reader.pending.is_flat && nat_lt 0 reader.pending.from && nat_lt reader.pending.from (length text)) refl is
  where
    from : ℕ
    from = reader.pending.from

    by : (b : Bool) → (reader.pending.is_flat && nat_lt 0 from && nat_lt from (length text)) ≡ b → (if b then Some from else None) ≡ Some at → IsReached reader at × (0 < at) × (at < length text)
    by false e same = cc
    by true e same =
        let place : from ≡ at = cc in
        let both = and_parts (reader.pending.is_flat && nat_lt 0 from) (nat_lt from (length text)) e in
        let parts = and_parts reader.pending.is_flat (nat_lt 0 from) both.0 in
        (((on, layout, parts.0), sym place), omega (arith, ltb-true 0 from parts.1, place), omega (arith, ltb-true from (length text) both.1, place))
reached_is text reader stage before at on layout is = cc

-- the reader has reached each cut that is known
pub known_reached : (state : LexerState) (at : ℕ) → known_cut state ≡ Some at → (state.has_ended ≡ false) × (IsReached state.reader at × (0 < at) × (at < length state.reader.text.now))
known_reached state at is = by state.has_ended (nat_lt 0 state.yielded_count) refl (sym (known_is state) ∙ is)
  where
    found : Option ℕ
    found = reached_cut state.reader.text.now state.reader state.reader.stage state.reader.before

    by : (ended some : Bool) → state.has_ended ≡ ended → (if not ended && some then found else None) ≡ Some at → (state.has_ended ≡ false) × (IsReached state.reader at × (0 < at) × (at < length state.reader.text.now))
    by false true e same = (e, reached_is state.reader.text.now state.reader state.reader.stage state.reader.before at refl refl same)
    by ended some e same = cc

-- each cut that the reader has reached after a lexeme is known
cut_known : (state : LexerState) (at : ℕ) → state.has_ended ≡ false → 0 < state.yielded_count → IsReached state.reader at → 0 < at → at < length state.reader.text.now → known_cut state ≡ Some at
cut_known state at going some reached first inside = search (rules, lt-ltb, known_is)

no_cut_yet : (state : LexerState) → state.yielded_count ≡ 0 → known_cut state ≡ None
no_cut_yet state none = known_is state ∙ rw none (by state.has_ended)
  where
    by : (ended : Bool) → (if not ended && false then reached_cut state.reader.text.now state.reader state.reader.stage state.reader.before else None) ≡ None
    by true = refl
    by false = refl

pub fresh_view : (state : LexerState) (text : Text) (file : SourceFile) → view_of state ≡ record { text = text; yielded_count = 0; has_ended = false; reads = 0 }
    → lexer_view state file ≡ record { text = text; code_map = file; yielded_count = 0; has_ended = false; reads = 0; cut = None }
fresh_view state text file is = search (rules, no_cut_yet)

-- After a lexeme

pub knows_cut : (old new : LexerState) (lexeme : Spanned TokenView) (fault : Option (Spanned Fault)) → IsLexing (whole old.reader.text.now) old → old.has_ended ≡ false → IsAheadPast Start old.reader.text.now lexeme new.reader (left_in (whole old.reader.text.now) old) fault
    → new.reader.text.now ≡ old.reader.text.now → new.yielded_count ≡ old.yielded_count + 1 → new.has_ended ≡ false → KnowsCut new.reader.text.now new.yielded_count (known_cut new)
knows_cut old new lexeme fault lexing going past text count goes = λ at cut.
    let before : IsCutBefore old.reader.text.now at (length past.0) = record {
      inside = subst (λ (t : Text). at < length t) text cut.inside;
      is_kept = subst (λ (t : Text). is_kept_cut t at ≡ true) text cut.is_kept;
      count = omega (
        arith,
        subst (λ (t : Text). length (without_closing (outcome (take at t)).lexemes) ≡ new.yielded_count) text cut.lexemes,
        count,
        ap length past.1,
        (lexing.1 going).0,
        length-drop old.yielded_count (map shown_lexeme (outcome old.reader.text.now).lexemes),
        length-map (outcome old.reader.text.now).lexemes shown_lexeme,
      );
    } in
    cut_known new at goes (omega (arith, count)) (past.3 refl at before) (kept_some new.reader.text.now at cut.is_kept) cut.inside

pub answers_cut : (old : LexerState) (answer : Option (Result (ℕ × Token × ℕ) (OrMemory (Diagnosed ErrorKind)))) (new : LexerState) → IsLexing (whole old.reader.text.now) old → old.has_ended ≡ false → HasAnswered (whole old.reader.text.now) old answer new
    → view_of new ≡ record (view_of old) { yielded_count = old.yielded_count + yielded_by answer; has_ended = old.has_ended || is_ended_by answer; reads = new.reader.reads }
    → IfSome answer (λ item. OnOk item (KnowsCut new.reader.text.now new.yielded_count (known_cut new)))
answers_cut old (Some (Ok lexeme)) new lexing going is after =
    knows_cut old new (lexeme_view lexeme) (outcome old.reader.text.now).fault lexing going is (ap (λ (v : StateView). v.text) after) (ap (λ (v : StateView). v.yielded_count) after) (ap (λ (v : StateView). v.has_ended) after ∙ ap (λ b. b || false) going)
answers_cut old answer new lexing going is after = tt
