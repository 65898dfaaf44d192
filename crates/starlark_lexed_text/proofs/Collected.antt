-- The lexemes of a text that were handed out so far, in a list.
use Rattle.std.proofs.Common.{◌≡◌, Bool, true, false, ℕ, ◌+◌, ◌-◌, ◌<◌, ◌≤◌, List, [], ◌∷◌, ◌++◌, drop, map, take, length, refl, ap, sym, subst, ◌∙◌, arith, append-nil, append_assoc, length-append, ◌||◌, None, Some, Ok, Result, rules}
use Rattle.std.specs.Prelude.{◌&&◌, IfSome, Option, codes, nat_eq, nat_le, nat_lt}
use Rattle.std.specs.List.{AllByRecursion, ends_with}
use Rattle.starlark_base.specs.Diagnostics.{Diagnosed}
use Rattle.std.specs.Option.{is_some}
use Rattle.std.proofs.lemmas.Bool.{leb-false, leb-true, ltb-false, ltb-true}
use Rattle.std.proofs.lemmas.List.{length-map, map-append, take_all}
use Rattle.starlark_grammar.specs.Words.{Text}
use Rattle.starlark_grammar.specs.Tokens.{Spanned}
use Rattle.starlark_grammar.specs.Reading.{History, outcome}
use Rattle.starlark_token.specs.Lexemes.{lexeme_view, shown_lexeme}
use Rattle.starlark_grammar.specs.Cuts.{is_clean_cut, is_kept_cut, is_settled, without_closing}
use Rattle.starlark_grammar.proofs.Joining.KeptPlaces.{cut_some}
use Rattle.starlark_grammar.proofs.Joining.Laws.{kept_cuts_keep}
use Rattle.starlark_grammar.proofs.Joining.LineCuts.{kept_parts}
use Rattle.starlark_lexed_text.specs.Inner.LexedTexts.{AreCuts, IsCutOf, IsReadPart, IsRising, PartView, cuts_at, end_cuts, holds_cut}
use Rattle.starlark_reader.specs.Inner.MarginCuts.{IsCutBefore, lexemes_before}
use Rattle.starlark_lexed_text.specs.declared.cuts.Cut.{Cut}
use Rattle.starlark_lexemes.proofs.LexerCuts.{kept_some}
use Rattle.starlark_lexed_text.proofs.KeptCuts.{faultless_cut, faulty_cut, in_order, some_lexemes, whole_kept, held_left, held_one, held_right, kept_inside}
use Rattle.starlark_lexed_text.proofs.Elements.{all_append, all_weaker}
use Rattle.starlark_lexed_text.proofs.JoinedLists.{begun}
use Rattle.starlark_reader.proofs.TakenPieces.LeftOutcomes.{margin_first}
use Rattle.starlark_reader.proofs.TakenPieces.Taken.{no_tab}
use Rattle.starlark_reader.specs.Inner.Reader.{IsReached, IsStateAfter, Start, begins_with_tab, has_read_none}
use Rattle.starlark_lexemes.specs.Inner.RawItems.{IsRawIn}
use Rattle.starlark_lexemes.specs.Lexer.{is_ended_by, yielded_by}
use Rattle.starlark_lexemes.specs.Inner.LexerStates.{HasAnswered, HasTakenLast, IsBegun, IsLexing, StateView, left_in, view_of, whole}
use Rattle.starlark_errors.specs.declared.error.kinds.ErrorKind.{ErrorKind}
use Rattle.starlark_lexemes.specs.declared.lexer_state.LexerState.{LexerState}
use Rattle.starlark_lexemes.proofs.LexerItems.{one_more as next_left}
use Rattle.starlark_text.specs.declared.or_memory.OrMemory.{OrMemory}
use Rattle.starlark_token.specs.TokenViews.{TokenView}
use Rattle.starlark_token.specs.declared.lexeme_error.LexemeError.{LexemeError}
use Rattle.starlark_token.specs.declared.tokens.Token.{Token}

-- What was handed out and what is left in a lexer's state are all lexemes of a text.
pub record IsCollected (text : Text) (state : LexerState) (found : List (ℕ × Token × ℕ)) : Type 0 where
  pub lexing : IsLexing (whole text) state
  pub view : view_of state ≡ record { text = text; yielded_count = length found; has_ended = false; reads = state.reader.reads }
  pub all : map shown_lexeme (outcome text).lexemes ≡ map lexeme_view found ++ left_in (whole text) state

pub text_is : (text : Text) (state : LexerState) (found : List (ℕ × Token × ℕ)) → IsCollected text state found → state.reader.text.now ≡ text
text_is text state found is = ap (λ (v : StateView). v.text) is.view

pub goes_on : (text : Text) (state : LexerState) (found : List (ℕ × Token × ℕ)) → IsCollected text state found → state.has_ended ≡ false
goes_on text state found is = ap (λ (v : StateView). v.has_ended) is.view

-- with one lexeme more, right after which a kept cut is reached
pub one_more : (text : Text) (old new : LexerState) (found : List (ℕ × Token × ℕ)) (lexeme : ℕ × Token × ℕ) → IsCollected text old found → HasAnswered (whole text) old (Some (Ok lexeme)) new → IsLexing (whole text) new
    → view_of new ≡ record (view_of old) { yielded_count = old.yielded_count + 1; has_ended = false; reads = new.reader.reads }
    → IsCollected text new (found ++ lexeme ∷ []) × (length found < length (outcome text).lexemes) × ((at : ℕ) → IsCutBefore text at (length (left_in (whole text) new)) → IsReached new.reader at)
one_more text old new found lexeme is answer lexing after =
    let left : left_in (whole text) new ≡ answer.0 =
    ap (λ (v : StateView). drop v.yielded_count (map shown_lexeme (outcome text).lexemes)) after ∙ (next_left (map shown_lexeme (outcome text).lexemes) old.yielded_count (lexeme_view lexeme) answer.0 answer.1).1 in
    let all : map shown_lexeme (outcome text).lexemes ≡ map lexeme_view found ++ lexeme_view lexeme ∷ left_in (whole text) new = is.all ∙ ap (λ vs. map lexeme_view found ++ vs) (answer.1 ∙ ap (λ vs. lexeme_view lexeme ∷ vs) (sym left)) in
    let parts : map lexeme_view (found ++ lexeme ∷ []) ++ left_in (whole text) new ≡ map lexeme_view found ++ lexeme_view lexeme ∷ left_in (whole text) new =
    ap (λ vs. vs ++ left_in (whole text) new) (map-append lexeme_view found (lexeme ∷ [])) ∙ append_assoc (map lexeme_view found) (lexeme_view lexeme ∷ []) (left_in (whole text) new) in
    let count : length (map shown_lexeme (outcome text).lexemes) ≡ length (map lexeme_view found) + length (lexeme_view lexeme ∷ left_in (whole text) new) = ap length all ∙ length-append (map lexeme_view found) (lexeme_view lexeme ∷ left_in (whole text) new) in (
      record {
        lexing = lexing;
        view = after ∙ ap (λ (v : StateView). record v { yielded_count = v.yielded_count + 1; has_ended = false; reads = new.reader.reads }) is.view
            ∙ ap (λ n. record { text = text; yielded_count = n; has_ended = false; reads = new.reader.reads }) (sym (length-append found (lexeme ∷ [])));
        all = all ∙ sym parts;
      },
      omega (arith, count, length-map (outcome text).lexemes shown_lexeme, length-map found lexeme_view),
      λ at cut. answer.3 refl at (subst (λ n. IsCutBefore old.reader.text.now at n) (ap length left) (subst (λ (t : Text). IsCutBefore t at (length (left_in (whole text) new))) (sym (text_is text old found is)) cut)),
    )

-- where only the number of reads changes
pub same_collected : (text : Text) (old new : LexerState) (found : List (ℕ × Token × ℕ)) → IsCollected text old found → IsLexing (whole text) new → view_of new ≡ record (view_of old) { reads = new.reader.reads } → IsCollected text new found
same_collected text old new found is lexing after = search rules

-- where no lexeme is left
pub none_collected : (text : Text) (old new : LexerState) (answer : Option (Result (ℕ × Token × ℕ) (OrMemory (Diagnosed ErrorKind)))) (found : List (ℕ × Token × ℕ)) → is_some answer ≡ false → IsCollected text old found → IsLexing (whole text) new
    → view_of new ≡ record (view_of old) { yielded_count = old.yielded_count + yielded_by answer; has_ended = old.has_ended || is_ended_by answer; reads = new.reader.reads } → IsCollected text new found
none_collected text old new (Some answer) found none is lexing after = cc
none_collected text old new None found none is lexing after =
    let count : old.yielded_count + 0 ≡ old.yielded_count = omega arith in
    same_collected text old new found is lexing
    (after ∙ ap (λ n. record (view_of old) { yielded_count = n; has_ended = old.has_ended || false; reads = new.reader.reads }) count ∙ ap (λ b. record (view_of old) { has_ended = b || false; reads = new.reader.reads }) (goes_on text old found is)
    ∙ ap (λ b. record (view_of old) { has_ended = b; reads = new.reader.reads }) (sym (goes_on text old found is)))

-- so fewer are ahead
pub less_left : {A : Type 0} (all : ℕ) (old new : List A) (x : A) → new ≡ old ++ x ∷ [] → length old < all → all - length new < all - length old
less_left all old new x is some = omega (arith, ap length is, length-append old (x ∷ []), some)

-- none yet
pub collected_none : (state : LexerState) (found : List (ℕ × Token × ℕ)) → found ≡ [] → IsLexing (whole state.reader.text.now) state → IsBegun state.reader.text.now state → IsCollected state.reader.text.now state found
collected_none state found none lexing begun = search rules

-- all of them, where none is left
none_left : (text : Text) (state : LexerState) (found : List (ℕ × Token × ℕ)) → IsCollected text state found → left_in (whole text) state ≡ [] → map lexeme_view found ≡ map shown_lexeme (outcome text).lexemes
none_left text state found is none = sym (is.all ∙ ap (λ vs. map lexeme_view found ++ vs) none ∙ append-nil (map lexeme_view found))

found_all : (text : Text) (state : LexerState) (found : List (ℕ × Token × ℕ)) → IsCollected text state found → left_in (whole text) state ≡ [] → length found ≡ length (outcome text).lexemes
found_all text state found is none = sym (length-map found lexeme_view) ∙ ap length (none_left text state found is none) ∙ length-map (outcome text).lexemes shown_lexeme

-- The cuts that were found so far: all before a text's end and before so many lexemes or fewer.
pub record AreCutsSoFar (text : Text) (count : ℕ) (cuts : List Cut) : Type 0 where
  pub each : AllByRecursion (IsCutOf text) cuts
  pub order : IsRising cuts
  pub inside : AllByRecursion (λ (cut : Cut). cut.at < length text) cuts
  pub few : AllByRecursion (λ (cut : Cut). cut.lexemes ≤ count) cuts
  pub all : (at : ℕ) → is_kept_cut text at ≡ true → at < length text → lexemes_before text at ≤ count → holds_cut at cuts ≡ true

pub no_cuts_yet : (text : Text) (cuts : List Cut) → cuts ≡ [] → AreCutsSoFar text 0 cuts
no_cuts_yet text cuts none = subst (AreCutsSoFar text 0) (sym none) (record { each = tt; order = tt; inside = tt; few = tt; all = λ at kept inside few. absurd (omega (arith, few, cut_some text at (kept_inside text at kept) (kept_parts text at kept).1)) })

-- one more after them
rising_last : (cuts : List Cut) (last : Cut) → IsRising cuts → AllByRecursion (λ (cut : Cut). cut.at < last.at) cuts → IsRising (cuts ++ last ∷ [])
rising_last [] last rising before = (tt, tt)
rising_last (cut ∷ cuts) last rising before = (all_append (λ (remainder : Cut). cut.at < remainder.at) cuts (last ∷ []) rising.0 (before.0, tt), rising_last cuts last rising.1 before.1)

before_last : (text : Text) (cuts : List Cut) (count : ℕ) (last : Cut) → AllByRecursion (IsCutOf text) cuts → AllByRecursion (λ (cut : Cut). cut.lexemes ≤ count) cuts → IsCutOf text last → count < last.lexemes → AllByRecursion (λ (cut : Cut). cut.at < last.at) cuts
before_last text [] count last each few is more = tt
before_last text (cut ∷ cuts) count last each few is more = (less (nat_lt cut.at last.at) refl, before_last text cuts count last each.1 few.1 is more)
  where
    less : (b : Bool) → nat_lt cut.at last.at ≡ b → cut.at < last.at
    less true e = ltb-true cut.at last.at e
    less false e =
        let same : cut.at ≡ last.at = omega (arith, ltb-false cut.at last.at e, in_order text cut last each.0 is (omega (arith, few.0, more))) in
        absurd (omega (arith, few.0, more, each.0.lexemes, is.lexemes, ap (lexemes_before text) same))

-- after one lexeme more, where there may be a cut
pub cuts_more : (text : Text) (count : ℕ) (rest : List (Spanned TokenView)) (cuts : List Cut) (place : Option ℕ) → AreCutsSoFar text count cuts → (count + 1) + length rest ≡ length (outcome text).lexemes → IfSome place (λ at. IsCutBefore text at (length rest))
    → ((at : ℕ) → IsCutBefore text at (length rest) → place ≡ Some at) → AreCutsSoFar text (count + 1) (cuts ++ cuts_at place (count + 1))
cuts_more text count rest cuts place so whole found reached = by place found reached
  where
    right_after : (at : ℕ) → is_kept_cut text at ≡ true → at < length text → lexemes_before text at ≤ count + 1 → count < lexemes_before text at → IsCutBefore text at (length rest)
    right_after at kept inside few more = record { inside = inside; is_kept = kept; count = omega (arith, whole, few, more) }

    all_more : (more : List Cut) → ((at : ℕ) → IsCutBefore text at (length rest) → holds_cut at more ≡ true) → (at : ℕ) → is_kept_cut text at ≡ true → at < length text → lexemes_before text at ≤ count + 1 → holds_cut at (cuts ++ more) ≡ true
    all_more more last at kept inside few = go (nat_le (lexemes_before text at) count) refl
      where
        go : (b : Bool) → nat_le (lexemes_before text at) count ≡ b → holds_cut at (cuts ++ more) ≡ true
        go true e = held_left at cuts more (so.all at kept inside (leb-true (lexemes_before text at) count e))
        go false e = held_right at cuts more (last at (right_after at kept inside few (leb-false (lexemes_before text at) count e)))

    few_more : AllByRecursion (λ (cut : Cut). cut.lexemes ≤ count + 1) cuts
    few_more = all_weaker (λ (cut : Cut). cut.lexemes ≤ count) (λ (cut : Cut). cut.lexemes ≤ count + 1) cuts (λ cut few. omega (arith, few)) so.few

    by : (place : Option ℕ) → IfSome place (λ at. IsCutBefore text at (length rest)) → ((at : ℕ) → IsCutBefore text at (length rest) → place ≡ Some at) → AreCutsSoFar text (count + 1) (cuts ++ cuts_at place (count + 1))
    by None none reached = record {
      each = all_append (IsCutOf text) cuts [] so.each tt;
      order = subst IsRising (sym (append-nil cuts)) so.order;
      inside = all_append (λ (cut : Cut). cut.at < length text) cuts [] so.inside tt;
      few = all_append (λ (cut : Cut). cut.lexemes ≤ count + 1) cuts [] few_more tt;
      all = all_more [] (λ at cut. let some : None ≡ Some at = reached at cut in cc);
    }
    by (Some at) cut reached =
        let last : Cut = record { at = at; lexemes = count + 1 } in
        let is : IsCutOf text last = record { inside = omega (arith, cut.inside); is_kept = cut.is_kept; lexemes = omega (arith, cut.count, whole) } in
        record {
          each = all_append (IsCutOf text) cuts (last ∷ []) so.each (is, tt);
          order = rising_last cuts last so.order (before_last text cuts count last so.each so.few is (omega arith));
          inside = all_append (λ (cut : Cut). cut.at < length text) cuts (last ∷ []) so.inside (cut.inside, tt);
          few = all_append (λ (cut : Cut). cut.lexemes ≤ count + 1) cuts (last ∷ []) few_more (omega arith, tt);
          all = all_more (last ∷ []) (λ other there. let same : Some at ≡ Some other = reached other there in let equal : at ≡ other = cc in subst (λ n. holds_cut n (record { at = at; lexemes = count + 1 } ∷ []) ≡ true) equal (held_one (record { at = at; lexemes = count + 1 })));
        }

-- after all lexemes they are all but the text's end
kept_few : (text : Text) (at : ℕ) → is_kept_cut text at ≡ true → lexemes_before text at ≤ length (outcome text).lexemes
kept_few text at kept = let law = kept_cuts_keep text at kept in omega (arith, ap length law.1, length-append (without_closing (outcome (take at text)).lexemes) law.0)

all_held : (text : Text) (cuts more : List Cut) (count : ℕ) → AreCutsSoFar text count cuts → count ≡ length (outcome text).lexemes → (is_clean_cut text ≡ true → holds_cut (length text) more ≡ true) → (at : ℕ) → is_kept_cut text at ≡ true → holds_cut at (cuts ++ more) ≡ true
all_held text cuts more count so same last at kept = go (nat_lt at (length text)) refl
  where
    go : (b : Bool) → nat_lt at (length text) ≡ b → holds_cut at (cuts ++ more) ≡ true
    go true e = held_left at cuts more (so.all at kept (ltb-true at (length text) e) (omega (arith, same, kept_few text at kept)))
    go false e =
        let whole : at ≡ length text = omega (arith, ltb-false at (length text) e, kept_inside text at kept) in
        held_right at cuts more (ap (λ n. holds_cut n more) whole ∙ last (ap is_clean_cut (sym (take_all at text (omega (arith, whole)))) ∙ (kept_parts text at kept).1))

-- with the text's fault after them
pub fault_given : (text : Text) (state new : LexerState) (part : PartView) (found : ℕ × LexemeError × ℕ) → IsCollected text state part.lexemes → HasTakenLast (whole text) state (Some found) new
    → AreCutsSoFar text (length part.lexemes) part.cuts → part.fault ≡ Some found → part.is_cut ≡ false → part.has_tab ≡ has_read_none new.reader → IsReadPart text part
fault_given text state new part found is last so thrown no_cut tab =
    let same : state.reader.text.now ≡ text = text_is text state part.lexemes is in
    let fault : (outcome text).fault ≡ Some last.0 = last.1.has in
    record {
      lexemes = none_left text state part.lexemes is last.1.none;
      fault = subst (λ f. IsRawIn f part.fault) (sym fault) (subst (IsRawIn (Some last.0)) (sym thrown) last.2);
      cuts = record {
        each = so.each;
        order = so.order;
        all = λ place kept. subst (λ cuts. holds_cut place cuts ≡ true) (append-nil part.cuts)
            (all_held text part.cuts [] (length part.lexemes) so (found_all text state part.lexemes is last.1.none) (λ clean. let both : true ≡ false = sym clean ∙ faulty_cut text last.0 fault in cc) place kept);
      };
      is_cut = no_cut ∙ sym (faulty_cut text last.0 fault);
      tab = tab ∙ last.1.tab refl ∙ ap begins_with_tab same;
    }

-- the cut at a text's end, where it is one, after others
end_is : (text : Text) (cuts : List Cut) (count : ℕ) (is_cut : Bool) → AreCutsSoFar text count cuts → is_cut ≡ is_clean_cut text → count ≡ length (outcome text).lexemes → AreCuts text (cuts ++ end_cuts text count is_cut)
end_is text cuts count true so is same =
    let last : IsCutOf text (record { at = length text; lexemes = count - 1 }) = subst (λ n. IsCutOf text (record { at = length text; lexemes = n - 1 })) (sym same) (whole_kept text (sym is)) in
    record {
      each = all_append (IsCutOf text) cuts (record { at = length text; lexemes = count - 1 } ∷ []) so.each (last, tt);
      order = rising_last cuts (record { at = length text; lexemes = count - 1 }) so.order so.inside;
      all = all_held text cuts (record { at = length text; lexemes = count - 1 } ∷ []) count so same (λ clean. held_one (record { at = length text; lexemes = count - 1 }));
    }
end_is text cuts count false so is same = record {
  each = all_append (IsCutOf text) cuts [] so.each tt;
  order = subst IsRising (sym (append-nil cuts)) so.order;
  all = all_held text cuts [] count so same (λ clean. let both : false ≡ true = is ∙ clean in cc);
}

-- where the text has none
pub all_given : (text : Text) (state new : LexerState) (part : PartView) (cuts : List Cut) → IsCollected text state part.lexemes → HasTakenLast (whole text) state None new → part.fault ≡ None
    → AreCutsSoFar text (length part.lexemes) cuts → part.cuts ≡ cuts ++ end_cuts text (length part.lexemes) part.is_cut → part.is_cut ≡ is_clean_cut text → part.has_tab ≡ false → IsReadPart text part
all_given text state new part cuts is answer no_fault so same is_cut no_tabs =
    let none : (outcome text).fault ≡ None = answer.1 in
    record {
      lexemes = none_left text state part.lexemes is answer.0;
      fault = subst (λ f. IsRawIn f part.fault) (sym none) (subst (IsRawIn None) (sym no_fault) tt);
      cuts = subst (AreCuts text) (sym same) (end_is text cuts (length part.lexemes) part.is_cut so is_cut (found_all text state part.lexemes is answer.0));
      is_cut = is_cut;
      tab = let margin = begun text none in no_tabs ∙ sym (no_tab text margin.0 (sym (margin_first text) ∙ margin.1));
    }

-- a cut before the text's end lies in the text
pub cut_inside : (text : Text) (ahead : ℕ) (place : Option ℕ) → IfSome place (λ at. IsCutBefore text at ahead) → IfSome place (λ at. at < length text)
cut_inside text ahead None found = tt
cut_inside text ahead (Some at) found = found.inside

-- how many are found and how many are left
pub all_counted : (text : Text) (state : LexerState) (found : List (ℕ × Token × ℕ)) → IsCollected text state found → length found + length (left_in (whole text) state) ≡ length (outcome text).lexemes
all_counted text state found is = omega (arith, ap length is.all, length-append (map lexeme_view found) (left_in (whole text) state), length-map found lexeme_view, length-map (outcome text).lexemes shown_lexeme)

-- The lexeme that was handed out last is in the list, and the cuts up to it are in theirs.
pub record HasPushed (text : Text) (state : LexerState) (lexemes pushed : List (ℕ × Token × ℕ)) (found : List Cut) : Type 0 where
  pub more : length lexemes < length (outcome text).lexemes
  pub collected : IsCollected text state pushed
  pub cuts : AreCutsSoFar text (length pushed) found

pub pushed_one : (text : Text) (old new : LexerState) (lexemes pushed : List (ℕ × Token × ℕ)) (lexeme : ℕ × Token × ℕ) (cuts found : List Cut) (place : Option ℕ) (len : ℕ) → IsCollected text old lexemes → AreCutsSoFar text (length lexemes) cuts
    → HasAnswered (whole text) old (Some (Ok lexeme)) new → IsLexing (whole text) new → view_of new ≡ record (view_of old) { yielded_count = old.yielded_count + 1; has_ended = false; reads = new.reader.reads }
    → pushed ≡ lexemes ++ lexeme ∷ [] → IfSome place (λ at. IsCutBefore new.reader.text.now at (length (left_in (whole text) new))) → ((at : ℕ) → IsReached new.reader at → 0 < at → at < length new.reader.text.now → place ≡ Some at)
    → len ≡ length pushed → found ≡ cuts ++ cuts_at place len → HasPushed text new lexemes pushed found
pushed_one text old new lexemes pushed lexeme cuts found place len is so answer lexing after push kept reached counted all =
    let more = one_more text old new lexemes lexeme is answer lexing after in
    let collected : IsCollected text new pushed = subst (IsCollected text new) (sym push) more.0 in
    let one : length pushed ≡ length lexemes + 1 = ap length push ∙ length-append lexemes (lexeme ∷ []) in
    let same = text_is text new pushed collected in
    let later = cuts_more text (length lexemes) (left_in (whole text) new) cuts place so (omega (arith, one, all_counted text new pushed collected))
    (subst (λ (t : Text). IfSome place (λ at. IsCutBefore t at (length (left_in (whole text) new)))) same kept)
    (λ at cut. reached at (more.2 at cut) (kept_some text at cut.is_kept) (subst (λ (t : Text). at < length t) (sym same) cut.inside)) in
    search rules

-- Nothing is left of a text without fault only where it has a lexeme at least.
pub some_given : (text : Text) (state new : LexerState) (found : List (ℕ × Token × ℕ)) → IsCollected text state found → HasTakenLast (whole text) state None new → 0 < length found
some_given text state new found is answer =
    omega (arith, some_lexemes text answer.1, found_all text state found is answer.0)

-- whether the text is a clean cut, which the history at its end tells
pub settled_is : (text : Text) (state new : LexerState) (found : List (ℕ × Token × ℕ)) (is_cut : Bool) → IsCollected text state found → HasTakenLast (whole text) state None new
    → ((history : History) → IsStateAfter Start text history new.reader → is_cut ≡ (is_settled history && ends_with nat_eq text (codes "\n"))) → is_cut ≡ is_clean_cut text
settled_is text state new found is_cut is answer by = search (rules, text_is, faultless_cut)
