-- Kept cuts: whether a text is a clean cut, how many lexemes stand before a cut, and whether a list has all cuts.
use Rattle.std.proofs.Common.{◌≡◌, true, false, refl, ap, List, None, Some, ℕ, suc, zero, ◌+◌, ◌-◌, ◌<◌, ◌≤◌, Bool, [], ◌∷◌, ◌++◌, map, take, drop, length, sym, ◌∙◌, arith, length-append, ◌⊎◌, inl, inr}
use Rattle.std.specs.Prelude.{◌&&◌, codes, nat_eq, ◌==◌, ◌||◌}
use Rattle.std.specs.List.{ends_with, AllByRecursion}
use Rattle.starlark_grammar.specs.Words.{Text, language}
use Rattle.starlark_grammar.specs.Tokens.{Fault, Spanned, Lexeme, Outcome, moved}
use Rattle.starlark_grammar.specs.Pieces.{Fails, Piece, Step}
use Rattle.starlark_grammar.specs.Reading.{outcome, outcome_in, outcome_of, read, after_all, closing, history_after, lexemes_along, nothing, pieces_len}
use Rattle.starlark_grammar.specs.Cuts.{is_clean_cut, is_clean_cut_in, is_faultless, is_settled, without_closing, is_kept_cut}
use Rattle.std.proofs.lemmas.Bool.{and_parts, cases_lt, eq-eqb, eqb-true, or_right}
use Rattle.std.proofs.lemmas.List.{length-map, length-take-le, take-append-drop, take-take, take_all, take-append-le}
use Rattle.starlark_grammar.specs.TextLaws.{HasFirstMargin}
use Rattle.starlark_grammar.proofs.Joining.CleanCuts.{both, begun, cut, longest, pieces_append}
use Rattle.starlark_grammar.proofs.Joining.Laws.{faults_join, cuts_of_joined}
use Rattle.starlark_grammar.proofs.Joining.LineCuts.{kept_by, kept_parts}
use Rattle.starlark_grammar.proofs.Reading.Readings.{longest_onward, one_longest, read_is, reading_fits}
use Rattle.starlark_lexed_text.specs.Inner.LexedTexts.{IsCutOf, AreBeyond, holds_cut, later_cut}
use Rattle.starlark_reader.specs.Inner.MarginCuts.{lexemes_before}
use Rattle.starlark_lexed_text.specs.declared.cuts.Cut.{Cut}
use Rattle.starlark_lexed_text.proofs.JoinedLists.{outcome_append}
use Rattle.std.proofs.lemmas.List.Sums.{sum_by-cons}
use Rattle.std.proofs.Math.Seq.{take-append-add}

no_fault : (text : Text) (pieces : List Piece) (last : Step) → (outcome_of text pieces last).fault ≡ None → is_faultless last ≡ true
no_fault text pieces (Fails fault) h = cc
no_fault text pieces last h = refl

a_fault : (text : Text) (pieces : List Piece) (last : Step) (fault : Spanned Fault) → (outcome_of text pieces last).fault ≡ Some fault → is_faultless last ≡ false
a_fault text pieces (Fails found) fault h = refl
a_fault text pieces last fault h = cc

-- a text without fault is one where nothing is open at its end and its last byte is an LF
pub faultless_cut : (text : Text) → (outcome text).fault ≡ None → is_clean_cut text ≡ (is_settled (history_after nothing text) && ends_with nat_eq text (codes "\n"))
unfolding is_clean_cut is_clean_cut_in outcome outcome_in history_after read
faultless_cut text h =
    ap (λ (b : Bool). b && is_settled (history_after nothing text) && ends_with nat_eq text (codes "\n")) (no_fault text (read language text).pieces (read language text).last h)

-- one with a fault is none
pub faulty_cut : (text : Text) (fault : Spanned Fault) → (outcome text).fault ≡ Some fault → is_clean_cut text ≡ false
unfolding is_clean_cut is_clean_cut_in outcome outcome_in history_after read
faulty_cut text fault h =
    ap (λ (b : Bool). b && is_settled (history_after nothing text) && ends_with nat_eq text (codes "\n")) (a_fault text (read language text).pieces (read language text).last fault h)

-- A clean cut has no fault.
pub clean_faultless : (text : Text) → is_clean_cut text ≡ true → (outcome text).fault ≡ None
unfolding is_clean_cut is_clean_cut_in outcome outcome_in
clean_faultless text h =
    go (read language text).last (and_parts (is_faultless (read language text).last) _ (and_parts (is_faultless (read language text).last && is_settled (after_all nothing (read language text).pieces)) _ h).0).0
  where
    go : (last : Step) → is_faultless last ≡ true → (outcome_of text (read language text).pieces last).fault ≡ None
    go (Fails fault) e = cc
    go last e = refl

-- a text without fault has a lexeme at least
pub some_lexemes : (text : Text) → (outcome text).fault ≡ None → 0 < length (outcome text).lexemes
unfolding outcome outcome_in
some_lexemes text none = go (read language text).last none
  where
    go : (last : Step) → (outcome_of text (read language text).pieces last).fault ≡ None → 0 < length (outcome_of text (read language text).pieces last).lexemes
    go (Fails fault) e = cc
    go last e = omega (arith, length-append (lexemes_along 0 (read language text).pieces) (closing (pieces_len (read language text).pieces) (after_all nothing (read language text).pieces)))

pub count_is : (lexemes : List Lexeme) → length (without_closing lexemes) ≡ length lexemes - 1
count_is lexemes = length-take-le (length lexemes - 1) lexemes (omega arith)

-- lexemes of joined texts without their closing `Newline`
pub count_append : (first second : Text) → is_clean_cut first ≡ true → (outcome second).fault ≡ None
    → length (without_closing (outcome (first ++ second)).lexemes) ≡ length (without_closing (outcome first).lexemes) + length (without_closing (outcome second).lexemes)
count_append first second clean none =
    let whole : (outcome (first ++ second)).lexemes ≡ without_closing (outcome first).lexemes ++ map (moved (length first)) (outcome second).lexemes = ap (λ (o : Outcome). o.lexemes) (outcome_append first second clean none) in
    omega (arith, count_is (outcome (first ++ second)).lexemes, count_is (outcome second).lexemes, ap length whole, length-append (without_closing (outcome first).lexemes) (map (moved (length first)) (outcome second).lexemes), length-map (outcome second).lexemes (moved (length first)), some_lexemes second none)

-- the end of a clean cut is a kept one
pub whole_kept : (text : Text) → is_clean_cut text ≡ true → IsCutOf text (record { at = length text; lexemes = length (outcome text).lexemes - 1 })
whole_kept text clean =
    record {
      inside = omega arith;
      is_kept = kept_by text (length text) (omega (arith, (cut text clean).reach)) (ap is_clean_cut (take_all (length text) text (omega arith)) ∙ clean);
      lexemes = sym (ap (λ t. length (without_closing (outcome t).lexemes)) (take_all (length text) text (omega arith)) ∙ count_is (outcome text).lexemes);
    }

-- Before a kept cut that lies no further, no more lexemes stand; …
pub no_more_before : (text : Text) (at to : ℕ) → at ≤ to → to ≤ length text → is_clean_cut (take at text) ≡ true → is_clean_cut (take to text) ≡ true → lexemes_before text at ≤ lexemes_before text to
no_more_before text at to order inside first second =
    let whole = take to text in
    let front : take at whole ≡ take at text = take-take at to text order in
    let clean : is_clean_cut (take at whole) ≡ true = ap is_clean_cut front ∙ first in
    let parts : take at whole ++ drop at whole ≡ whole = take-append-drop at whole in
    let count = count_append (take at whole) (drop at whole) clean ((faults_join (take at whole) (drop at whole) clean).0 (ap (λ t. (outcome t).fault) parts ∙ clean_faultless whole second)) in
    omega (arith, count, ap (λ t. length (without_closing (outcome t).lexemes)) parts, ap (λ t. length (without_closing (outcome t).lexemes)) front)

-- … so one that has fewer lexemes before it doesn't lie further.
pub in_order : (text : Text) (one other : Cut) → IsCutOf text one → IsCutOf text other → one.lexemes < other.lexemes → one.at ≤ other.at
in_order text one other is is' less = by (cases_lt other.at one.at)
  where
    by : (other.at < one.at) ⊎ (one.at ≤ other.at) → one.at ≤ other.at
    by (inr order) = order
    by (inl below) = absurd (omega (arith, less, is.lexemes, is'.lexemes, no_more_before text other.at one.at (omega (arith, below)) is.inside (kept_parts text other.at is'.is_kept).1 (kept_parts text one.at is.is_kept).1))

second_len : (second : Text) (margin : HasFirstMargin language second) → pieces_len (read language second).pieces ≡ margin.0.len + pieces_len (begun second margin.0 margin.1).pieces
second_len second margin =
    let there = begun second margin.0 margin.1 in
    let whole = one_longest language nothing second _ _ _ _ (read_is language second) (longest_onward language nothing second margin.0 there.pieces there.last margin.1 there.longest) in
    ap pieces_len whole.0 ∙ sum_by-cons (λ (piece : Piece). piece.len) margin.0 there.pieces

-- How far the reading of joined texts goes.
pub reach_append : (first second : Text) → is_clean_cut first ≡ true → HasFirstMargin language second → pieces_len (read language (first ++ second)).pieces ≡ length first + pieces_len (read language second).pieces
reach_append first second clean margin =
    let here = cut first clean in
    let there = begun second margin.0 margin.1 in
    let pieces = (read language first).pieces in
    let both' = both first second margin.0 pieces here there margin.1 in
    let whole = one_longest language nothing (first ++ second) _ _ _ _ (read_is language (first ++ second)) (longest first second margin.0 pieces here there margin.1) in
    omega (arith, ap pieces_len whole.0, pieces_append both'.pieces' there.pieces, both'.len, second_len second margin)

-- Lists

pub held_left : (at : ℕ) (one other : List Cut) → holds_cut at one ≡ true → holds_cut at (one ++ other) ≡ true
held_left at [] other h = cc
held_left at (cut ∷ one) other h = go (cut.at == at) h (held_left at one other)
  where
    go : (here : Bool) → (here || holds_cut at one) ≡ true → (holds_cut at one ≡ true → holds_cut at (one ++ other) ≡ true) → (here || holds_cut at (one ++ other)) ≡ true
    go true h more = refl
    go false h more = more h

pub held_right : (at : ℕ) (one other : List Cut) → holds_cut at other ≡ true → holds_cut at (one ++ other) ≡ true
held_right at [] other h = h
held_right at (cut ∷ one) other h = ap (λ b. cut.at == at || b) (held_right at one other h) ∙ or_right (cut.at == at) true refl

pub held_one : (cut : Cut) → holds_cut cut.at (cut ∷ []) ≡ true
held_one cut = ap (λ b. b || false) (eq-eqb cut.at cut.at refl)

held_later : (len count at : ℕ) (cuts : List Cut) → holds_cut at cuts ≡ true → holds_cut (len + at) (map (later_cut len count) cuts) ≡ true
held_later len count at [] h = cc
held_later len count at (cut ∷ cuts) h = go (cut.at == at) refl h (held_later len count at cuts)
  where
    go : (here : Bool) → (cut.at == at) ≡ here → (here || holds_cut at cuts) ≡ true → (holds_cut at cuts ≡ true → holds_cut (len + at) (map (later_cut len count) cuts) ≡ true) → (len + cut.at == len + at || holds_cut (len + at) (map (later_cut len count) cuts)) ≡ true
    go true e h more = ap (λ b. b || holds_cut (len + at) (map (later_cut len count) cuts)) (eq-eqb (len + cut.at) (len + at) (ap (λ n. len + n) (eqb-true cut.at at e)))
    go false e h more = ap (λ b. len + cut.at == len + at || b) (more h) ∙ or_right (len + cut.at == len + at) true refl

-- one that lies there is as all are
pub held_as : (P : Cut → Type 0) (at : ℕ) (cuts : List Cut) → holds_cut at cuts ≡ true → AllByRecursion P cuts → (cut : Cut) × (cut.at ≡ at) × P cut
held_as P at [] h all = cc
held_as P at (cut ∷ cuts) h all = go (cut.at == at) refl h (λ k. held_as P at cuts k all.1)
  where
    go : (here : Bool) → (cut.at == at) ≡ here → (here || holds_cut at cuts) ≡ true → (holds_cut at cuts ≡ true → (cut : Cut) × (cut.at ≡ at) × P cut) → (cut : Cut) × (cut.at ≡ at) × P cut
    go true e h more = (cut, eqb-true cut.at at e, all.0)
    go false e h more = more h

-- one that lies no further is among the first
pub held_front : (at to n : ℕ) (cuts : List Cut) → holds_cut at cuts ≡ true → AreBeyond cuts to n → at ≤ to → holds_cut at (take n cuts) ≡ true
held_front at to zero cuts h beyond less = let found = held_as (λ (cut : Cut). to < cut.at) at cuts h beyond in absurd (omega (arith, found.1, found.2, less))
held_front at to (suc n) [] h beyond less = h
held_front at to (suc n) (cut ∷ cuts) h beyond less = go (cut.at == at) h (λ k. held_front at to n cuts k beyond less)
  where
    go : (here : Bool) → (here || holds_cut at cuts) ≡ true → (holds_cut at cuts ≡ true → holds_cut at (take n cuts) ≡ true) → (here || holds_cut at (take n cuts)) ≡ true
    go true h more = refl
    go false h more = more h

-- Kept cuts

pub kept_inside : (text : Text) (at : ℕ) → is_kept_cut text at ≡ true → at ≤ length text
kept_inside text at h = omega (arith, (kept_parts text at h).0, reading_fits language _ text (read language text).pieces (read_is language text).reads)

-- A kept cut of a text lies as well in another that begins as that does, if not after a kept cut of that.
pub kept_in : (old new : Text) (at x : ℕ) → take at old ≡ take at new → is_kept_cut old at ≡ true → x ≤ at → is_clean_cut (take x new) ≡ true → is_kept_cut old x ≡ true
kept_in old new at x same kept less clean =
    kept_by old x (omega (arith, less, (kept_parts old at kept).0)) (ap is_clean_cut (sym (take-take x at old less) ∙ ap (take x) same ∙ take-take x at new less) ∙ clean)

-- All kept cuts of two texts joined are those of both.
pub held_append : (first second : Text) (one other : List Cut) (count : ℕ) → is_clean_cut first ≡ true → HasFirstMargin language second → ((x : ℕ) → x ≤ length first → is_clean_cut (take x first) ≡ true → holds_cut x one ≡ true)
    → ((x : ℕ) → is_kept_cut second x ≡ true → holds_cut x other ≡ true) → (x : ℕ) → is_kept_cut (first ++ second) x ≡ true → holds_cut x (one ++ map (later_cut (length first) count) other) ≡ true
held_append first second one other count clean margin before remainder x kept = by (cases_lt (length first) x)
  where
    parts : (x ≤ pieces_len (read language (first ++ second)).pieces) × (is_clean_cut (take x (first ++ second)) ≡ true)
    parts = kept_parts (first ++ second) x kept

    by : (length first < x) ⊎ (x ≤ length first) → holds_cut x (one ++ map (later_cut (length first) count) other) ≡ true
    by (inr less) = held_left x one _ (before x less (ap is_clean_cut (sym (take-append-le x first second less)) ∙ parts.1))
    by (inl more) =
        let place : x ≡ length first + (x - length first) = omega (arith, more) in
        let front : take x (first ++ second) ≡ first ++ take (x - length first) second = ap (λ n. take n (first ++ second)) place ∙ take-append-add first second (x - length first) in
        let some : 0 < length (take (x - length first) second) = omega (arith, length-take-le (x - length first) second (omega (arith, kept_inside (first ++ second) x kept, length-append first second)), more) in
        let cut_there : is_clean_cut (take (x - length first) second) ≡ true = sym (cuts_of_joined first (take (x - length first) second) clean some) ∙ ap is_clean_cut (sym front) ∙ parts.1 in
        let reach : x - length first ≤ pieces_len (read language second).pieces = omega (arith, parts.0, reach_append first second clean margin) in
        held_right x one _ (ap (λ n. holds_cut n (map (later_cut (length first) count) other)) place ∙ held_later (length first) count (x - length first) other (remainder (x - length first) (kept_by second (x - length first) reach cut_there)))
