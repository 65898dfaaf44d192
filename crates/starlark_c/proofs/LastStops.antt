-- After the last stop no cut has room.
use Rattle.std.proofs.Common.{◌≡◌, ℕ, zero, suc, ◌+◌, ◌-◌, ◌≤◌, ◌<◌, Bool, true, false, List, [], ◌∷◌, length, take, refl, ap, subst, sym, ◌∙◌, arith, Some, ◌⊎◌, inl, inr}
use Rattle.std.specs.Prelude.{Option}
use Rattle.std.proofs.lemmas.Bool.{cases_lt}
use Rattle.std.proofs.lemmas.List.{length-map, length-take}
use Rattle.starlark_c.specs.Endings.{Buffers, Hold, all_values, lexemes_of}
use Rattle.starlark_c.specs.Inner.Filling.{EndsAtFault, EndsWithCutPoint, HasNoRoom, IsFilledTo, IsLastStop, IsOverflow, IsStopAtLastCut, filled_by, has_stop}
use Rattle.starlark_c.specs.LastCuts.{IsCutIn, IsLastCut, HasNoCut, LackRoom, StopsAtLastCut}
use Rattle.starlark_c.specs.Records.{records, stored_bytes, values}
use Rattle.starlark_c.specs.TextParts.{part_in}
use Rattle.starlark_c.specs.declared.endings.Ending.{Ending}
use Rattle.starlark_c.specs.declared.endings.Ending.TheVariants as ending
use Rattle.starlark_c.specs.declared.endings.Filled.{Filled}
use Rattle.starlark_c.specs.declared.fill_state.CutPoint.{CutPoint}
use Rattle.starlark_c.specs.declared.fill_state.FillState.{FillState}
use Rattle.starlark_c.proofs.CutTexts.{piece_at}
use Rattle.starlark_c.proofs.Filled.{same_sizes, values_cons, values_nil}
use Rattle.starlark_c.proofs.Stops.{all_but}
use Rattle.starlark_c.proofs.Wanted.{piece_of_all, wanted_at_fault}
use Rattle.starlark_c.proofs.YieldedItems.{IsNext}
use Rattle.starlark_grammar.specs.Cuts.{without_closing}
use Rattle.starlark_grammar.specs.Reading.{outcome}
use Rattle.starlark_grammar.specs.Tokens.{Fault, Spanned}
use Rattle.starlark_grammar.specs.Words.{Text}
use Rattle.starlark_token.specs.Lexemes.{shown_lexeme}
use Rattle.starlark_token.specs.TokenViews.{TokenView}

-- The last stop of the lexemes so far

-- a stop after all of them is the last
pub last_here : (text : Text) (n : ℕ) (stop : CutPoint) → stop.filled.lexemes ≡ n → IsLastStop text n stop
last_here text n stop all more at later few is = absurd (omega (arith, all, later, few))

-- it stays the last where no cut is right after them
pub last_stays : (text : Text) (n : ℕ) (stop : CutPoint) → 0 < n → IsLastStop text (n - 1) stop → ((at : ℕ) → IsCutIn text stop.is_front n at → ⊥) → IsLastStop text n stop
last_stays text n stop some last none more at later few is = by (cases_lt more n)
  where
    by : (more < n) ⊎ (n ≤ more) → ⊥
    by (inl less) = last more at later (omega (arith, less)) is
    by (inr least) = let same : more ≡ n = omega (arith, least, few) in none at (subst (λ k. IsCutIn text stop.is_front k at) same is)

-- Where lexing ends

-- fewer lexemes have no more values
values_less : (home : Option Text) (a b : ℕ) (xs : List (Spanned TokenView)) → a ≤ b → length (values home (take a xs)) ≤ length (values home (take b xs))
values_less home zero b xs less = omega (arith, ap length (values_nil home))
values_less home (suc a) zero xs less = absurd (omega (arith, less))
values_less home (suc a) (suc b) [] less = omega (arith)
values_less home (suc a) (suc b) (x ∷ xs) less = omega (arith, values_cons home x (take a xs), values_cons home x (take b xs), values_less home a b xs (omega (arith, less)))

lacks_more : (home : Option Text) (buffers : Buffers) (text : Text) (n more : ℕ) → n ≤ more → LackRoom home buffers text n → LackRoom home buffers text more
lacks_more home buffers text n more less (inl short) = inl (omega (arith, less, short))
lacks_more home buffers text n more less (inr short) = inr (omega (arith, short, values_less home n more (lexemes_of text) less))

-- no lexeme is after the last
pub last_of_all : (home : Option Text) (is_front : Bool) (text : Text) (before : Buffers) (n : ℕ) (stop : CutPoint) → stop.is_front ≡ is_front → n ≡ length (lexemes_of text) → IsLastStop text n stop → IsLastCut home is_front text before stop.filled.lexemes
last_of_all home is_front text before n stop kind all last more at later is =
    let front : IsCutIn text stop.is_front more at = rw kind is in
    let piece = (piece_at text at more is.cut).lexemes in
    let few : more ≤ n = omega (arith, all, ap length piece, length-map (without_closing (outcome (take at text)).lexemes) shown_lexeme, is.cut.lexemes, length-take more (lexemes_of text)) in
    absurd (last more at later few front)

-- no lexeme more has room
pub last_with_room : (home : Option Text) (is_front : Bool) (text : Text) (before : Buffers) (n : ℕ) (stop : CutPoint) → stop.is_front ≡ is_front → LackRoom home before text (n + 1) → IsLastStop text n stop → IsLastCut home is_front text before stop.filled.lexemes
last_with_room home is_front text before n stop kind lack last more at later is = by (cases_lt n more)
  where
    by : (n < more) ⊎ (more ≤ n) → LackRoom home before text more
    by (inl less) = lacks_more home before text (n + 1) more (omega (arith, less)) lack
    by (inr few) = absurd (last more at later few (rw kind is))

pub lacks_next : (home : Option Text) (text : Text) (before now after : Buffers) (n : ℕ) (x : Spanned TokenView) (filled : Filled) → IsNext text n x → n ≤ length (lexemes_of text)
    → Hold (records home (take n (lexemes_of text))) (values home (take n (lexemes_of text))) before now → filled ≡ filled_by home (take n (lexemes_of text)) → HasNoRoom (part_in home x) x filled now after → LackRoom home before text (n + 1)
lacks_next home text before now after n x filled one few held counted none = by none.lacks
  where
    by : (length now.lexemes < filled.lexemes + 1) ⊎ (length now.values < filled.values + length (stored_bytes home x)) → LackRoom home before text (n + 1)
    by (inl short) = inl (omega (arith, short, (all_but home text n x filled one few counted).0, (same_sizes home before now (take n (lexemes_of text)) held).0))
    by (inr short) = inr (omega (arith, short, (all_but home text n x filled one few counted).1, (same_sizes home before now (take n (lexemes_of text)) held).1))

pub overflow_last : (home : Option Text) (is_front : Bool) (text : Text) (before : Buffers) (count : ℕ) (progress : FillState) (end : Ending) → progress.stop.is_front ≡ is_front → IsLastCut home is_front text before progress.stop.filled.lexemes → IsOverflow home text count progress end
    → IsStopAtLastCut home is_front text before progress.stop end
overflow_last home is_front text before count progress (ending.Piece filled next) kind last over = last
overflow_last home is_front text before count progress (ending.Full wanted) kind last over =
    (over.1, subst (IsLastCut home is_front text before) over.1 last, record { lexemes = over.0.all_lexemes; bytes = over.0.all_bytes; piece = rw kind at over.0.piece; needs = over.0.needs })
overflow_last home is_front text before count progress (ending.Whole filled) kind last over = last
overflow_last home is_front text before count progress (ending.Fault filled fault) kind last over = last
overflow_last home is_front text before count progress (ending.NotUtf8 valid) kind last over = tt
overflow_last home is_front text before count progress (ending.Memory filled) kind last over = tt
overflow_last home is_front text before count progress ending.TooLong kind last over = tt

-- where there is no stop, the text isn't cut so far
pub uncut_so_far : (is_front : Bool) (text : Text) (n : ℕ) (stop : CutPoint) → stop.is_front ≡ is_front → stop.filled.lexemes ≡ 0 → IsLastStop text n stop → HasNoCut is_front text n
uncut_so_far is_front text n stop kind none last some at is_some few is = last some at (omega (arith, none, is_some)) few (rw kind is)

pub fault_last : (home : Option Text) (is_front : Bool) (text : Text) (before : Buffers) (n : ℕ) (fault : Spanned Fault) (progress : FillState) (old new : Text) (end : Ending) → progress.stop.is_front ≡ is_front → (outcome text).fault ≡ Some fault → n ≡ length (lexemes_of text)
    → progress.filled ≡ filled_by home (take n (lexemes_of text)) → IsLastStop text n progress.stop → EndsAtFault text fault progress old new end → IsStopAtLastCut home is_front text before progress.stop end
fault_last home is_front text before n fault progress old new end kind has all counted stop ends = by end ends
  where
    last : IsLastCut home is_front text before progress.stop.filled.lexemes
    last = last_of_all home is_front text before n progress.stop kind all stop

    by : (end : Ending) → EndsAtFault text fault progress old new end → IsStopAtLastCut home is_front text before progress.stop end
    by (ending.Piece filled next) ends = last
    by (ending.Full wanted) ends = (
      ends.1,
      subst (IsLastCut home is_front text before) ends.1 last,
      record {
        lexemes = length (lexemes_of text);
        bytes = length (all_values home text);
        piece = piece_of_all home is_front text n (uncut_so_far is_front text n progress.stop kind ends.1 stop) all;
        needs = ends.0.2 ∙ wanted_at_fault home text n fault progress.filled all has counted;
      },
    )
    by (ending.Whole filled) ends = last
    by (ending.Fault filled told) ends = last
    by (ending.NotUtf8 valid) ends = tt
    by (ending.Memory filled) ends = tt
    by ending.TooLong ends = tt

-- What a call ends with

pub stops_last : (home : Option Text) (text : Text) (before after : Buffers) (end : Ending) (stop : CutPoint) → EndsWithCutPoint home text false before after (end, stop) → StopsAtLastCut home false text before end
stops_last home text before after (ending.Piece filled next) stop ends = subst (λ (f : Filled). IsLastCut home false text before f.lexemes) (sym ends.5.0) ends.6
stops_last home text before after (ending.Full wanted) stop ends = (ends.6.1, ends.6.2)
stops_last home text before after (ending.Whole filled) stop ends = tt
stops_last home text before after (ending.Fault filled fault) stop ends = tt
stops_last home text before after (ending.NotUtf8 valid) stop ends = tt
stops_last home text before after (ending.Memory filled) stop ends = tt
stops_last home text before after ending.TooLong stop ends = tt

-- at the last stop
pub front_stops : (home : Option Text) (text : Text) (before after : Buffers) (end : Ending) (stop : CutPoint) → EndsWithCutPoint home text true before after (end, stop) → has_stop end ≡ true → StopsAtLastCut home true text before (ending.Piece stop.filled stop.at)
front_stops home text before after (ending.Piece filled next) stop ends over = ends.6
front_stops home text before after (ending.Whole filled) stop ends over = ends.6
front_stops home text before after (ending.Fault filled fault) stop ends over = ends.6
front_stops home text before after (ending.Full wanted) stop ends over = cc
front_stops home text before after (ending.NotUtf8 valid) stop ends over = cc
front_stops home text before after (ending.Memory filled) stop ends over = cc
front_stops home text before after ending.TooLong stop ends over = cc

-- or as a text ends, where there is none
pub front_ends : (home : Option Text) (text : Text) (before after : Buffers) (end : Ending) (stop : CutPoint) → EndsWithCutPoint home text true before after (end, stop) → (0 < stop.filled.lexemes → has_stop end ≡ true → ⊥) → StopsAtLastCut home true text before end
front_ends home text before after end stop ends none = by end ends.5 ends.6 none (cases_lt 0 stop.filled.lexemes)
  where
    at_none : stop.filled.lexemes ≤ 0 → IsLastCut home true text before stop.filled.lexemes → IsLastCut home true text before 0
    at_none few last = let same : stop.filled.lexemes ≡ 0 = omega (arith, few) in subst (IsLastCut home true text before) same last

    by : (end : Ending) → IsFilledTo stop end → IsStopAtLastCut home true text before stop end → (0 < stop.filled.lexemes → has_stop end ≡ true → ⊥) → (0 < stop.filled.lexemes) ⊎ (stop.filled.lexemes ≤ 0) → StopsAtLastCut home true text before end
    by (ending.Piece filled next) filling last none some = subst (λ (f : Filled). IsLastCut home true text before f.lexemes) (sym filling.0) last
    by (ending.Full wanted) filling last none some = (last.1, last.2)
    by (ending.Whole filled) filling last none (inl some) = absurd (none some refl)
    by (ending.Whole filled) filling last none (inr few) = at_none few last
    by (ending.Fault filled fault) filling last none (inl some) = absurd (none some refl)
    by (ending.Fault filled fault) filling last none (inr few) = at_none few last
    by (ending.NotUtf8 valid) filling last none some = tt
    by (ending.Memory filled) filling last none some = tt
    by ending.TooLong filling last none some = tt
