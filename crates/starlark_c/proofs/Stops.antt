-- Where a text may be cut, and how lexing ends.
use Rattle.std.proofs.Common.{◌≡◌, ℕ, ◌+◌, ◌≤◌, ◌<◌, length, take, drop, refl, ap, sym, ◌∙◌, arith, Some, true, inl, inr, subst, ◌++◌, ◌⊎◌, length-append}
use Rattle.std.specs.Prelude.{Option}
use Rattle.std.proofs.lemmas.List.{length-take, length-take-le, take-take}
use Rattle.starlark_c.specs.Endings.{Buffers, Ends, EndsFront, Hold, IsCut, IsText, all_values, lexemes_of, named}
use Rattle.starlark_c.specs.Inner.Filling.{EndsAtFault, EndsWithCutPoint, HasNoRoom, IsFilledTo, IsOverflow, IsCutPoint, IsCutPointIn, IsStopped, MayStop, filled_by, has_stop}
use Rattle.starlark_c.specs.LastCuts.{IsCutIn}
use Rattle.starlark_c.specs.Records.{records, stored_bytes, values}
use Rattle.starlark_c.specs.TextParts.{part_in}
use Rattle.starlark_c.specs.declared.endings.Ending.{Ending}
use Rattle.starlark_c.specs.declared.endings.Ending.TheVariants as ending
use Rattle.starlark_c.specs.declared.endings.Filled.{Filled}
use Rattle.starlark_c.specs.declared.fill_state.FillState.{FillState}
use Rattle.starlark_c.specs.declared.fill_state.CutPoint.{CutPoint}
use Rattle.starlark_c.proofs.Filled.{front_lexemes, front_records, front_values, front_values_more, same_sizes, values_more}
use Rattle.starlark_c.proofs.YieldedItems.{IsNext}
use Rattle.starlark_c.proofs.CutTexts.{piece_at, piece_append}
use Rattle.starlark_c.proofs.Ends.{ends_fault}
use Rattle.starlark_grammar.specs.Reading.{outcome}
use Rattle.starlark_grammar.specs.Tokens.{Fault, Spanned}
use Rattle.starlark_grammar.specs.Words.{Text}
use Rattle.starlark_token.specs.TokenViews.{TokenView}

-- the stop stays one after one lexeme more
pub stop_stays : (home : Option Text) (text : Text) (n : ℕ) (stop : CutPoint) → IsCutPoint home text n stop → IsCutPoint home text (n + 1) stop
stop_stays home text n stop (inl none) = inl none
stop_stays home text n stop (inr is) = inr (record { some = is.some; few = omega (arith, is.few); cut = is.cut; values = is.values })

-- a stop after all lexemes that were yielded
pub stop_at : (home : Option Text) (text : Text) (n at : ℕ) (progress : FillState) → MayStop home text n progress → IsCutIn text progress.stop.is_front n at → IsCutPoint home text n (record { at = at; filled = progress.filled; is_front = progress.stop.is_front })
stop_at home text n at progress may cut =
    let count : progress.filled.lexemes ≡ n = ap (λ (f : Filled). f.lexemes) may.filled ∙ length-take-le n (lexemes_of text) may.few in
    inr (record {
      some = omega (arith, count, may.some);
      few = omega (arith, count);
      cut = rw count cut;
      values = ap (λ (f : Filled). f.values) may.filled ∙ ap (λ k. length (values home (take k (lexemes_of text)))) (sym count);
    })

-- What a stop that is none leaves.
pub no_stop : (home : Option Text) (text : Text) (n : ℕ) (stop : CutPoint) → IsCutPoint home text n stop → 0 < stop.filled.lexemes → IsCutPointIn home text n stop
no_stop home text n stop (inl none) some = absurd (omega (arith, none, some))
no_stop home text n stop (inr is) some = is

-- What fills the buffers, with one lexeme more.
pub all_but : (home : Option Text) (text : Text) (n : ℕ) (x : Spanned TokenView) (filled : Filled) → IsNext text n x → n ≤ length (lexemes_of text) → filled ≡ filled_by home (take n (lexemes_of text))
    → (filled.lexemes + 1 ≡ n + 1) × (filled.values + length (stored_bytes home x) ≡ length (values home (take (n + 1) (lexemes_of text))))
all_but home text n x filled next few counted =
    let count : filled.lexemes ≡ n = ap (λ (f : Filled). f.lexemes) counted ∙ length-take-le n (lexemes_of text) few in
    let bytes : filled.values ≡ length (values home (take n (lexemes_of text))) = ap (λ (f : Filled). f.values) counted in (
      omega (arith, count),
      omega (arith, bytes, ap (λ xs. length (values home xs)) next.more, ap length (values_more home (take n (lexemes_of text)) x), length-append (values home (take n (lexemes_of text))) (stored_bytes home x)),
    )

-- How lexing ends at a stop, where the buffers didn't change.
pub stopped : (home : Option Text) (text : Text) (before now after : Buffers) (n : ℕ) (progress : FillState) (end : Ending) → IsText text → n ≤ length (lexemes_of text) → Hold (records home (take n (lexemes_of text))) (values home (take n (lexemes_of text))) before now
    → progress.filled ≡ filled_by home (take n (lexemes_of text)) → IsCutPoint home text n progress.stop → after.lexemes ≡ now.lexemes → after.values ≡ now.values → IsStopped text progress end → Ends home text before after end
stopped home text before now after n progress (ending.Piece filled next) is few held counted stop same_lexemes same_values over =
    let here = no_stop home text n progress.stop stop over.2 in
    let all = lexemes_of text in
    let count = progress.stop.filled.lexemes in
    let less : count ≤ length (take n all) = omega (arith, here.few, length-take-le n all few) in
    let front : take count (take n all) ≡ take count all = take-take count n all here.few in
    let lexemes : take count after.lexemes ≡ records home (take count (take n all)) = ap (take count) same_lexemes ∙ front_lexemes home before now (take n all) count held less in
    let bytes : take (length (values home (take count (take n all)))) after.values ≡ values home (take count (take n all)) = ap (take (length (values home (take count (take n all))))) same_values ∙ front_values home before now (take n all) count held in
    let same : filled ≡ record { lexemes = count; values = length (values home (take count all)) } = over.1 ∙ ap (λ v. record { lexemes = count; values = v }) here.values in
    (is, record { count = count; few = omega (arith, here.few, few); piece = rw over.0 (piece_at text progress.stop.at count here.cut.cut); all_lexemes = rw front at lexemes; all_values = rw front at bytes; counts = same })
stopped home text before now after n progress (ending.Memory told) is few held counted stop same_lexemes same_values over =
    (is, record { count = n; few = few; hold = rw (same_lexemes, same_values) held; counts = over ∙ counted ∙ ap (λ k. record { lexemes = k; values = length (values home (take n (lexemes_of text))) }) (length-take-le n (lexemes_of text) few) })
stopped home text before now after n progress (ending.Full wanted) is few held counted stop same_lexemes same_values over = absurd over
stopped home text before now after n progress (ending.Whole filled) is few held counted stop same_lexemes same_values over = absurd over
stopped home text before now after n progress (ending.Fault filled fault) is few held counted stop same_lexemes same_values over = absurd over
stopped home text before now after n progress (ending.NotUtf8 valid) is few held counted stop same_lexemes same_values over = absurd over
stopped home text before now after n progress ending.TooLong is few held counted stop same_lexemes same_values over = absurd over

-- How lexing ends where a lexeme has no room.
pub overflows : (home : Option Text) (text : Text) (before now after : Buffers) (n : ℕ) (x : Spanned TokenView) (progress : FillState) (end : Ending) → IsText text → IsNext text n x → n ≤ length (lexemes_of text)
    → Hold (records home (take n (lexemes_of text))) (values home (take n (lexemes_of text))) before now → progress.filled ≡ filled_by home (take n (lexemes_of text)) → IsCutPoint home text n progress.stop
    → HasNoRoom (part_in home x) x progress.filled now after → IsOverflow home text (n + 1) progress end → Ends home text before after end
overflows home text before now after n x progress (ending.Full wanted) is one few held counted stop none over =
    (is, record { lexemes = over.0.all_lexemes; bytes = over.0.all_bytes; first = over.0.first; lacks = lacking none.lacks; needs = over.0.needs; count = n; few = few; hold = rw (none.lexemes, none.values) held })
  where
    lacking : (length now.lexemes < progress.filled.lexemes + 1) ⊎ (length now.values < progress.filled.values + length (stored_bytes home x)) → (length before.lexemes < over.0.all_lexemes) ⊎ (length before.values < over.0.all_bytes)
    lacking (inl short) = inl (omega (arith, short, (all_but home text n x progress.filled one few counted).0, (same_sizes home before now (take n (lexemes_of text)) held).0, over.0.more_lexemes))
    lacking (inr short) = inr (omega (arith, short, (all_but home text n x progress.filled one few counted).1, (same_sizes home before now (take n (lexemes_of text)) held).1, over.0.more_bytes))
overflows home text before now after n x progress (ending.Piece filled next) is one few held counted stop none over = stopped home text before now after n progress (ending.Piece filled next) is few held counted stop none.lexemes none.values over
overflows home text before now after n x progress (ending.Memory told) is one few held counted stop none over = stopped home text before now after n progress (ending.Memory told) is few held counted stop none.lexemes none.values over
overflows home text before now after n x progress (ending.Whole filled) is one few held counted stop none over = absurd over
overflows home text before now after n x progress (ending.Fault filled fault) is one few held counted stop none over = absurd over
overflows home text before now after n x progress (ending.NotUtf8 valid) is one few held counted stop none over = absurd over
overflows home text before now after n x progress ending.TooLong is one few held counted stop none over = absurd over

-- How lexing ends at a fault.
pub ends_at_fault : (home : Option Text) (text : Text) (before now : Buffers) (values_after : Text) (n : ℕ) (fault : Spanned Fault) (progress : FillState) (end : Ending) → IsText text → (outcome text).fault ≡ Some fault → n ≡ length (lexemes_of text)
    → Hold (records home (take n (lexemes_of text))) (values home (take n (lexemes_of text))) before now → progress.filled ≡ filled_by home (take n (lexemes_of text)) → IsCutPoint home text n progress.stop → EndsAtFault text fault progress now.values values_after end
    → Ends home text before (record { lexemes = now.lexemes; values = values_after }) end
ends_at_fault home text before now values_after n fault progress (ending.Fault more told) is has all held counted stop ends = ends_fault home text before now values_after n fault progress.filled (ending.Fault more told) is has all held counted ends
ends_at_fault home text before now values_after n fault progress (ending.Full wanted) is has all held counted stop ends = ends_fault home text before now values_after n fault progress.filled (ending.Full wanted) is has all held counted ends.0
ends_at_fault home text before now values_after n fault progress (ending.Piece filled next) is has all held counted stop ends = stopped home text before now _ n progress (ending.Piece filled next) is (omega (arith, all)) held counted stop refl ends.1 ends.0
ends_at_fault home text before now values_after n fault progress (ending.Memory told) is has all held counted stop ends = stopped home text before now _ n progress (ending.Memory told) is (omega (arith, all)) held counted stop refl ends.1 ends.0
ends_at_fault home text before now values_after n fault progress (ending.Whole filled) is has all held counted stop ends = absurd ends.0
ends_at_fault home text before now values_after n fault progress (ending.NotUtf8 valid) is has all held counted stop ends = absurd ends.0
ends_at_fault home text before now values_after n fault progress ending.TooLong is has all held counted stop ends = absurd ends.0

-- The stop where a piece ends.
pub overflow_filled : (home : Option Text) (text : Text) (count : ℕ) (progress : FillState) (end : Ending) → IsOverflow home text count progress end → IsFilledTo progress.stop end
overflow_filled home text count progress (ending.Piece filled next) over = (over.1, over.2)
overflow_filled home text count progress (ending.Whole filled) over = tt
overflow_filled home text count progress (ending.Fault filled fault) over = tt
overflow_filled home text count progress (ending.Full wanted) over = tt
overflow_filled home text count progress (ending.NotUtf8 valid) over = tt
overflow_filled home text count progress (ending.Memory filled) over = tt
overflow_filled home text count progress ending.TooLong over = tt

pub fault_filled : (text : Text) (fault : Spanned Fault) (progress : FillState) (before after : Text) (end : Ending) → EndsAtFault text fault progress before after end → IsFilledTo progress.stop end
fault_filled text fault progress before after (ending.Piece filled next) ends = (ends.0.1, ends.0.2)
fault_filled text fault progress before after (ending.Whole filled) ends = tt
fault_filled text fault progress before after (ending.Fault filled told) ends = tt
fault_filled text fault progress before after (ending.Full wanted) ends = tt
fault_filled text fault progress before after (ending.NotUtf8 valid) ends = tt
fault_filled text fault progress before after (ending.Memory filled) ends = tt
fault_filled text fault progress before after ending.TooLong ends = tt

-- How lexing the front of a longer text ends, at its last stop.
cut_there : (home : Option Text) (text : Text) (after : Buffers) (n : ℕ) (stop : CutPoint) → IsCutPointIn home text n stop → n ≤ length (lexemes_of text) → stop.is_front ≡ true → take stop.filled.lexemes after.lexemes ≡ records home (take stop.filled.lexemes (lexemes_of text))
    → take (length (values home (take stop.filled.lexemes (lexemes_of text)))) after.values ≡ values home (take stop.filled.lexemes (lexemes_of text)) → (rest : Text) → IsCut home (text ++ rest) after stop.filled stop.at
cut_there home text after n stop here inside front lexemes bytes rest =
    let both = piece_append text rest stop.at stop.filled.lexemes here.cut.cut (here.cut.stays front) in
    record {
      count = stop.filled.lexemes;
      few = omega (arith, ap length both.1, length-take stop.filled.lexemes (lexemes_of (text ++ rest)), length-take stop.filled.lexemes (lexemes_of text), here.few, inside);
      piece = both.0;
      all_lexemes = rw both.1 lexemes;
      all_values = rw both.1 bytes;
      counts = rw both.1 (ap (λ v. record { lexemes = stop.filled.lexemes; values = v }) here.values);
    }

pub front_cut : (home : Option Text) (text : Text) (before after : Buffers) (end : Ending) (stop : CutPoint) → EndsWithCutPoint home text true before after (end, stop) → (stop.filled.lexemes ≡ 0 → ⊥) → has_stop end ≡ true → EndsFront home text before after (ending.Piece stop.filled stop.at)
front_cut home text before after end stop ends some over = by_stop ends.3
  where
    c : ℕ
    c = stop.filled.lexemes

    by_end : IsCutPointIn home text ends.1 stop → (end : Ending) → Ends home text before after end → IsFilledTo stop end → has_stop end ≡ true → EndsFront home text before after (ending.Piece stop.filled stop.at)
    by_end here (ending.Whole filled) is filling over =
        let few : c ≤ length (lexemes_of text) = omega (arith, here.few, ends.2) in
        (is.0, cut_there home text after ends.1 stop here ends.2 ends.4 (front_lexemes home before after (lexemes_of text) c is.1.hold few) (front_values home before after (lexemes_of text) c is.1.hold))
    by_end here (ending.Fault filled fault) is filling over =
        let few : c ≤ length (lexemes_of text) = omega (arith, here.few, ends.2) in
        let held = is.1.hold in (
          is.0,
          cut_there home text after ends.1 stop here ends.2 ends.4 (ap (take c) held.lexemes ∙ front_records home (lexemes_of text) (drop (length (records home (lexemes_of text))) before.lexemes) c few)
              (front_values_more home (drop (length (all_values home text)) before.values) after.values (named (outcome text).fault) (lexemes_of text) c held.values),
        )
    by_end here (ending.Piece filled next) is filling over =
        let same : is.1.count ≡ c = sym (ap (λ (f : Filled). f.lexemes) is.1.counts) ∙ ap (λ (f : Filled). f.lexemes) filling.0 in (
          is.0,
          cut_there home text after ends.1 stop here ends.2 ends.4 (subst (λ k. take k after.lexemes ≡ records home (take k (lexemes_of text))) same is.1.all_lexemes)
              (subst (λ k. take (length (values home (take k (lexemes_of text)))) after.values ≡ values home (take k (lexemes_of text))) same is.1.all_values),
        )
    by_end here (ending.Full wanted) is filling over = cc
    by_end here (ending.NotUtf8 valid) is filling over = cc
    by_end here (ending.Memory filled) is filling over = cc
    by_end here ending.TooLong is filling over = cc

    by_stop : IsCutPoint home text ends.1 stop → EndsFront home text before after (ending.Piece stop.filled stop.at)
    by_stop (inl none) = absurd (some none)
    by_stop (inr here) = by_end here end ends.0 ends.5 over

-- Where there is no stop in a front all is as for a text.
pub front_stays : (home : Option Text) (text : Text) (before after : Buffers) (end : Ending) (stop : CutPoint) → EndsWithCutPoint home text true before after (end, stop) → (0 < stop.filled.lexemes → has_stop end ≡ true → ⊥) → EndsFront home text before after end
front_stays home text before after end stop ends none = by_end end ends.0 ends.5 none
  where
    by_end : (end : Ending) → Ends home text before after end → IsFilledTo stop end → (0 < stop.filled.lexemes → has_stop end ≡ true → ⊥) → EndsFront home text before after end
    by_end (ending.Piece filled next) is filling none = absurd (none filling.1 refl)
    by_end (ending.Whole filled) is filling none = is
    by_end (ending.Fault filled fault) is filling none = is
    by_end (ending.Full wanted) is filling none = is
    by_end (ending.NotUtf8 valid) is filling none = is
    by_end (ending.Memory filled) is filling none = is
    by_end ending.TooLong is filling none = is
