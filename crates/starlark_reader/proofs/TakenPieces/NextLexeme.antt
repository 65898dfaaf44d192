-- What a reader yields next.
use Rattle.std.proofs.Common.{◌≡◌, Bool, true, false, ℕ, zero, suc, ◌+◌, ◌<◌, ◌≤◌, length, length-append, take, arith, List, [], ◌∷◌, ◌++◌, map, drop, refl, sym, ap, subst, ◌∙◌, None, Some, ◌⊎◌, inl, inr, rules}
use Rattle.std.specs.Prelude.{Option, nat_lt, sum_by}
use Rattle.starlark_grammar.specs.Words.{Text, language}
use Rattle.starlark_grammar.specs.Tokens.{Fault, Lexeme, Outcome, Spanned, moved}
use Rattle.starlark_grammar.specs.Pieces.{Piece, Step, Fails}
use Rattle.starlark_grammar.specs.Found.{at_line}
use Rattle.starlark_grammar.specs.Reading.{History, lexemes_along, outcome_after, read_after, reading_outcome}
use Rattle.starlark_token.specs.Lexemes.{lexeme_view, shown_lexeme}
use Rattle.starlark_reader.specs.Inner.MarginCuts.{IsAfterLines, IsCutBefore, IsMarginAhead}
use Rattle.starlark_reader.specs.Inner.MarginLines.{IsLinePassed, IsPassedLine}
use Rattle.starlark_reader.specs.Inner.Nesting.{bracket_count}
use Rattle.starlark_reader.specs.Inner.Pending.{IsFirst, IsFirstPast, IsIdle, lines_between, pending_lexemes}
use Rattle.starlark_reader.specs.Inner.Reader.{IsAhead, IsAheadAfter, IsAheadPast, IsInFlatMargin, IsLast, IsLeft, IsOver, IsReady, IsSomething, IsStateAfter, From, IsLine, Line, Origin, Start, history_since, moved_fault, outcome_since, remaining_outcome}
use Rattle.starlark_token.specs.TokenViews.{TokenView}
use Rattle.starlark_token.specs.declared.lexeme_error.LexemeError.{LexemeError}
use Rattle.starlark_token.specs.declared.tokens.Token.{Token}
use Rattle.starlark_reader.specs.declared.reader.Reader.{Reader}
use Rattle.starlark_reader.specs.declared.reader.Stage.{Stage}
use Rattle.starlark_reader.specs.declared.reader.Stage.TheVariants as stage
use Rattle.starlark_reader.specs.declared.pending.Pending.{Pending}
use Rattle.starlark_reader.proofs.TakenPieces.Here.{IsHere, kept_here}
use Rattle.starlark_reader.proofs.TakenPieces.MarginCuts.{passed_cut}
use Rattle.starlark_reader.proofs.TakenPieces.Taken.{none_before, reached_by}
use Rattle.starlark_reader.proofs.TakenMargins.Pending.{no_lines_between}
use Rattle.std.proofs.lemmas.Bool.{ltb-false, ltb-true}
use Rattle.std.proofs.lemmas.List.{length-map}
use Rattle.std.proofs.lemmas.List.Sums.{sum_by-cons}

pub same_left : (origin : Origin) (text : Text) (old new : Reader) (stage : Stage) (left : Outcome) → IsHere old new → IsLeft origin text old stage left → IsLeft origin text new stage left
same_left origin text old new stage.Begin left here h = (h.0, here.at ∙ h.1, rw here.nesting h.2, here.levels ∙ h.3, ap bracket_count here.nesting ∙ h.4, here.before ∙ h.5, h.6)
same_left origin text old new stage.Onward left here h = (h.0, kept_here text h.0 old new here h.1, h.2 ∙ ap (λ at. remaining_outcome h.0 at (drop at text)) (sym here.at))
same_left origin text old new (stage.Fault begin fault end) left here h = (h.0, h.1, h.2, λ start. rw (here.at, here.before) (h.3 start), rw here.at h.4, record { levels = here.levels ∙ h.5.levels; whole = λ standing. kept_here text (history_since origin text) old new here (h.5.whole standing); at = λ standing. here.at ∙ h.5.at standing }, rw here.at h.6)
same_left origin text old new stage.Closed left here h = (h.0, kept_here text (history_since origin text) old new here h.1)

flat_here : (old new : Reader) (now later : Stage) → IsHere old new → new.pending ≡ old.pending → later ≡ now → IsInFlatMargin old now → IsInFlatMargin new later
flat_here old new now later here pending same is = (same ∙ is.0, here.before ∙ is.1, ap (λ (p : Pending). p.is_flat) pending ∙ is.2)

-- what is ahead of a reader is ahead of one with the same state
pub ahead_here : {origin : Origin} → (text : Text) (old new : Reader) (lexemes : List (Spanned TokenView)) (fault : Option (Spanned Fault)) → IsHere old new → new.stage ≡ old.stage → new.pending ≡ old.pending → IsAhead origin text old old.stage lexemes fault → IsAhead origin text new new.stage lexemes fault
ahead_here {origin = origin} text old new lexemes fault here same pending ahead = record {
  left = ahead.left;
  is_left = same_left origin text old new new.stage ahead.left here (subst (λ (s : Stage). IsLeft origin text old s ahead.left) (sym same) ahead.is_left);
  is_pending = rw pending ahead.is_pending;
  ahead = ahead.ahead ∙ ap (λ (p : Pending). map shown_lexeme (pending_lexemes text p) ++ map shown_lexeme ahead.left.lexemes) (sym pending);
  those_after = ahead.those_after;
  cut = λ start on layout flat inside.
      subst (λ (p : Pending). IsMarginAhead text p (length lexemes)) (sym pending)
      (ahead.cut start (sym same ∙ on) (sym here.before ∙ layout) (ap (λ (p : Pending). p.is_flat) (sym pending) ∙ flat) (subst (λ (p : Pending). p.from < length text) pending inside));
  cuts = λ start x remainder cut least most.
      let lies = ahead.cuts start x remainder cut least most in
      (flat_here old new old.stage new.stage here pending same lies.0, subst (λ (p : Pending). IsAfterLines text p x remainder (length lexemes)) (sym pending) lies.1);
}

-- where there are lines there are bytes
lines_some : (text : Text) (from to : ℕ) → 0 < length (lines_between text from to) → from < to
lines_some text from to some = go (nat_lt from to) refl
  where
    go : (b : Bool) → nat_lt from to ≡ b → from < to
    go true e = ltb-true from to e
    go false e = absurd (omega (arith, some, ap length (no_lines_between text from to (ltb-false from to e))))

-- a cut is after one pending line fewer, once the first was passed
after_passed : (text : Text) (old new : Pending) (at remainder ahead : ℕ) → IsPassedLine text old new → IsAfterLines text old at remainder (1 + ahead) → remainder ≤ ahead → IsAfterLines text new at remainder ahead
after_passed text old new at remainder ahead passed is few = go is.passed is.few is.place is.count
  where
    go : (n : ℕ) → n ≤ length (lines_between text old.from old.to) → at ≡ old.from + sum_by (λ (line : Text). length line) (take n (lines_between text old.from old.to)) → remainder + n ≡ 1 + ahead → IsAfterLines text new at remainder ahead
    go zero inside place count = absurd (omega (arith, count, few))
    go (suc n) inside place count =
        let sum = ap (λ (ls : List Text). sum_by (λ (line : Text). length line) (take (suc n) ls)) passed.first ∙ sum_by-cons (λ (line : Text). length line) passed.line (take n (lines_between text new.from new.to)) in
        record {
          passed = n;
          few = omega (arith, inside, ap length passed.first);
          place = omega (arith, place, sum, passed.from);
          count = omega (arith, count);
        }

-- the first pending lexeme is passed
pub lexeme_past : {origin : Origin} → (text : Text) (old new : Reader) (x : Spanned TokenView) (lexemes : List (Spanned TokenView)) (fault : Option (Spanned Fault)) → IsHere old new → new.stage ≡ old.stage → IsFirstPast text x old.pending new.pending → (new.pending.is_flat ≡ true → IsPassedLine text old.pending new.pending)
    → (old.pending.from < old.pending.to → new.pending.is_flat ≡ old.pending.is_flat) → IsAhead origin text old old.stage lexemes fault → IsAheadPast origin text x new lexemes fault
lexeme_past {origin = origin} text old new x lexemes fault here same first lines stays ahead = (
  map shown_lexeme (pending_lexemes text new.pending) ++ map shown_lexeme ahead.left.lexemes,
  ahead.ahead ∙ ap (λ vs. vs ++ map shown_lexeme ahead.left.lexemes) first.1,
  record {
    left = ahead.left;
    is_left = same_left origin text old new new.stage ahead.left here (subst (λ (s : Stage). IsLeft origin text old s ahead.left) (sym same) ahead.is_left);
    is_pending = first.0;
    ahead = refl;
    those_after = ahead.those_after;
    cut = λ start on layout flat inside.
        let passed = lines flat in
        passed_cut text old.pending new.pending (length (map shown_lexeme (pending_lexemes text new.pending) ++ map shown_lexeme ahead.left.lexemes)) ahead.is_pending passed inside
        (subst (IsMarginAhead text old.pending) (ap length (ahead.ahead ∙ ap (λ vs. vs ++ map shown_lexeme ahead.left.lexemes) first.1)) (ahead.cut start (sym same ∙ on) (sym here.before ∙ layout) passed.flat (omega (arith, passed.from, inside))));
    cuts = λ start at remainder cut least most. after_first start at remainder cut least (omega (arith, most));
  },
  λ start at cut. reached_by text new at _ (after_first start at _ cut (omega (arith, length-append (map shown_lexeme (pending_lexemes text new.pending)) (map shown_lexeme ahead.left.lexemes), length-map ahead.left.lexemes shown_lexeme)) (omega arith)),
)
  where
    more : List (Spanned TokenView)
    more = map shown_lexeme (pending_lexemes text new.pending) ++ map shown_lexeme ahead.left.lexemes

    all : length lexemes ≡ 1 + length more
    all = omega (arith, ap length (ahead.ahead ∙ ap (λ vs. vs ++ map shown_lexeme ahead.left.lexemes) first.1))

    after_first : origin ≡ Start → (at remainder : ℕ) → IsCutBefore text at remainder → length ahead.left.lexemes ≤ remainder → remainder ≤ length more → IsInFlatMargin new new.stage × IsAfterLines text new.pending at remainder (length more)
    after_first start at remainder cut least most =
        let lies = ahead.cuts start at remainder cut least (omega (arith, most, all)) in
        let flat = stays (lines_some text old.pending.from old.pending.to (omega (arith, lies.1.count, lies.1.few, most, all))) ∙ lies.0.2 in
        let passed = lines flat in (
          (same ∙ lies.0.0, here.before ∙ lies.0.1, flat),
          after_passed text old.pending new.pending at remainder (length more) passed (subst (IsAfterLines text old.pending at remainder) all lies.1) most,
        )

-- the first lexeme after the comments is yielded, where no comment is pending
pub pending_token_next : {origin : Origin} → (text : Text) (old new : Reader) (found : Option (ℕ × Token × ℕ)) (lexemes : List (Spanned TokenView)) (fault : Option (Spanned Fault)) → IsHere old new → new.stage ≡ old.stage → old.pending.to ≤ old.pending.from → IsFirst text old.pending new.pending found
    → IsLinePassed text old.pending new.pending found → IsAhead origin text old old.stage lexemes fault → IsAheadAfter origin text found new lexemes fault
pending_token_next text old new None lexemes fault here same none first lines ahead = ahead_here text old new lexemes fault here same first.1 ahead
pending_token_next text old new (Some x) lexemes fault here same none first lines ahead = lexeme_past text old new (lexeme_view x) lexemes fault here same first lines (λ some. absurd (omega (arith, none, some))) ahead

-- the fault is returned after the last lexeme
pub fault_next : {origin : Origin} → (text : Text) (old new : Reader) (lexemes : List (Spanned TokenView)) (fault : Option (Spanned Fault)) (begin : ℕ) (error : LexemeError) (end : ℕ) → IsHere old new → IsIdle text old.pending → old.stage ≡ stage.Fault begin error end → IsAhead origin text old old.stage lexemes fault
    → IsLast origin text lexemes fault (Some (begin, error, end)) new
fault_next text old new lexemes fault begin error end here idle e ahead = search (rules, same_left, none_before)

pub nothing_next : {origin : Origin} → (text : Text) (old new : Reader) (lexemes : List (Spanned TokenView)) (fault : Option (Spanned Fault)) → IsHere old new → IsIdle text old.pending → new.pending ≡ old.pending → old.stage ≡ stage.Closed → new.stage ≡ stage.Closed
    → IsAhead origin text old old.stage lexemes fault → (lexemes ≡ []) × (fault ≡ None) × IsAhead origin text new new.stage [] None × IsStateAfter origin text (history_since origin text) new
nothing_next text old new lexemes fault here idle same e e_now ahead = search (rules, kept_here, none_before)

-- Something is ahead of a text that isn't read to its end.

none_mapped : {A B : Type 0} (f : A → B) (xs : List A) → map f xs ≡ [] → xs ≡ []
none_mapped f [] e = refl
none_mapped f (x ∷ xs) e = cc

some_lexeme : (xs : List Lexeme) (y : Lexeme) (ys : List Lexeme) → xs ++ y ∷ ys ≡ [] → ⊥
some_lexeme [] y ys e = cc
some_lexeme (x ∷ xs) y ys e = cc

reading_something : (history : History) (text : Text) (pieces : List Piece) (last : Step) → (reading_outcome history text pieces last).lexemes ≡ [] → (reading_outcome history text pieces last).fault ≡ None → ⊥
reading_something history text pieces (Fails fault) e none = cc
reading_something history text pieces last e none = some_lexeme (lexemes_along 0 pieces) _ _ e

rest_something : (history : History) (at : ℕ) (text : Text) → map shown_lexeme (remaining_outcome history at text).lexemes ≡ [] → (remaining_outcome history at text).fault ≡ None → ⊥
unfolding remaining_outcome outcome_after
rest_something history at text e none =
    reading_something history text (read_after language history text).pieces (read_after language history text).last (none_mapped (moved at) _ (none_mapped shown_lexeme _ e)) (unmoved _ none)
  where
    unmoved : (fault : Option (Spanned Fault)) → moved_fault at fault ≡ None → fault ≡ None
    unmoved None e = refl
    unmoved (Some fault) e = cc

line_something : (origin : Origin) (text : Text) → IsLine origin → map shown_lexeme (outcome_since origin text).lexemes ≡ [] → (outcome_since origin text).fault ≡ None → ⊥
unfolding outcome_after
line_something (Line widths) text line e none = reading_something (at_line widths) text (read_after language (at_line widths) text).pieces (read_after language (at_line widths) text).last (none_mapped shown_lexeme _ e) none
line_something (From history at) text line e none = line

pub begin_something : {origin : Origin} → (text : Text) (reader : Reader) (lexemes : List (Spanned TokenView)) (fault : Option (Spanned Fault)) → IsIdle text reader.pending → reader.stage ≡ stage.Begin → IsAhead origin text reader reader.stage lexemes fault → IsSomething lexemes fault
begin_something {origin = origin} text reader lexemes fault idle e ahead = λ none faultless.
    let left = subst (λ (s : Stage). IsLeft origin text reader s ahead.left) e ahead.is_left in
    let both = none_before text reader reader.stage lexemes fault (outcome_since origin text) idle ahead left.0 in
    line_something origin text left.6 (sym both.0 ∙ none) (sym both.1 ∙ faultless)

pub onward_something : {origin : Origin} → (text : Text) (reader : Reader) (lexemes : List (Spanned TokenView)) (fault : Option (Spanned Fault)) → IsIdle text reader.pending → reader.stage ≡ stage.Onward → IsAhead origin text reader reader.stage lexemes fault → IsSomething lexemes fault
onward_something text reader lexemes fault idle e ahead = search (rules, none_before, rest_something)

-- no lexeme is pending if none was taken
pub none_left : (text : Text) (old : Reader) (new : Pending) (found : Option (ℕ × Token × ℕ)) → ((x : ℕ × Token × ℕ) → found ≡ Some x → ⊥) → IsFirst text old.pending new found → IsReady text old old.stage → IsIdle text old.pending × (new ≡ old.pending)
none_left text old new None none first ready = ((ready.3.is_pending, first.0), first.1)
none_left text old new (Some x) none first ready = absurd (none x refl)

-- all pieces are read at a fault and at the end
pub over : (now : Stage) → ((begin : ℕ) × (error : LexemeError) × (end : ℕ) × (now ≡ stage.Fault begin error end)) ⊎ (now ≡ stage.Closed) → IsOver now
over now (inl at_fault) = subst IsOver (sym at_fault.3) tt
over now (inr closed) = subst IsOver (sym closed) tt

pub last_next : {origin : Origin} → (text : Text) (old new : Reader) (lexemes : List (Spanned TokenView)) (fault : Option (Spanned Fault)) → IsHere old new → IsIdle text old.pending → new.pending ≡ old.pending → IsOver old.stage → ((begin : ℕ) (error : LexemeError) (end : ℕ) → old.stage ≡ stage.Fault begin error end → ⊥)
    → new.stage ≡ stage.Closed → IsAhead origin text old old.stage lexemes fault → (lexemes ≡ []) × (fault ≡ None) × IsAhead origin text new new.stage [] None × IsStateAfter origin text (history_since origin text) new
last_next {origin = origin} text old new lexemes fault here idle same all none e_now ahead = by old.stage refl all
  where
    by : (now : Stage) → old.stage ≡ now → IsOver now → (lexemes ≡ []) × (fault ≡ None) × IsAhead origin text new new.stage [] None × IsStateAfter origin text (history_since origin text) new
    by (stage.Fault begin error end) e h = absurd (none begin error end e)
    by stage.Closed e h = nothing_next text old new lexemes fault here idle same e e_now ahead
    by now e h = absurd h
