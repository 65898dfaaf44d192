-- Faults that keep their lines: where they are, and what is after them.
use Rattle.std.proofs.Common.{◌≡◌, ℕ, ◌+◌, ◌-◌, ◌≤◌, ◌<◌, Bool, true, false, not, List, [], ◌∷◌, length, drop, refl, ap, ◌∙◌, sym, subst, arith, Some, ◌||◌}
use Rattle.std.specs.Prelude.{◌&&◌, ◌==◌, if◌then◌else◌, nat_eq, codes}
use Rattle.std.specs.List.{prefix_len}
use Rattle.std.specs.Str.{bytes_eq}
use Rattle.std.proofs.lemmas.Bool.{and_parts}
use Rattle.std.proofs.lemmas.List.{length-drop}
use Rattle.std.proofs.lemmas.List.Sums.{prefix_len-le-length}
use Rattle.starlark_grammar.specs.AfterFaults.{is_tab}
use Rattle.starlark_grammar.specs.Inner.KeptFaults.{is_in_margin, may_keep}
use Rattle.starlark_grammar.specs.KeptLineLaws.{KeepsLine, KeptFaultsHaveBytes, WordsKeepLines}
use Rattle.starlark_grammar.specs.KeptLines.{closes_literal, ends_by_comment, is_bad_escape, is_open_quote, is_unfinished, keeps_line, passed_end, stays_open, with_literal, with_literal_at}
use Rattle.starlark_grammar.specs.Margins.{begins_with_line_end}
use Rattle.starlark_grammar.specs.Longest.{IsReading}
use Rattle.starlark_grammar.specs.Numbers.{is_number}
use Rattle.starlark_grammar.specs.Pieces.{Before, Fails, Piece}
use Rattle.starlark_grammar.specs.Reading.{History, after, after_all, history_after, next_step, outcome_after, pieces_len, read_len}
use Rattle.starlark_grammar.specs.Tokens.{EmptyEscapeSequence, Fault, Indentation, InvalidEscapeSequence, InvalidInput, InvalidTab, Lexeme, ReservedKeyword, Spanned, StartsZero, UnfinishedFStringExpression, UnfinishedStringLiteral}
use Rattle.starlark_grammar.specs.Depths.{InText, Mode, mode_after, is_outside}
use Rattle.starlark_grammar.specs.Words.{Text, language}
use Rattle.starlark_grammar.proofs.KeptLines.Faults.{CodeFault, code_fault, escape_place, first_fault, is_in_text}
use Rattle.starlark_grammar.proofs.KeptLines.LiteralRests.{closed_later, whole_ends, whole_other, whole_same}
use Rattle.starlark_grammar.proofs.KeptLines.OpenQuotes.{quote_place}
use Rattle.starlark_grammar.proofs.Reading.Onward.{StopsAt, later_some, stops_at}
use Rattle.starlark_grammar.proofs.Reading.Readings.{piece_fits, started}
use Rattle.starlark_grammar.proofs.Reading.Steps.{is_nothing}
use Rattle.starlark_grammar.proofs.Words.Classes.{digits_number}

-- what is said of a fault that keeps its line
pub record IsKept (before : Before) (text : Text) (fault : Spanned Fault) : Type 0 where
  pub may : may_keep fault.node ≡ true
  pub no_margin : is_tab fault.node ≡ true → is_in_margin before text fault.begin ≡ false

unnot : (test : Bool) → not test ≡ true → test ≡ false
unnot true h = cc
unnot false h = refl

pub kept : (before : Before) (text : Text) (lexemes : List Lexeme) (fault : Spanned Fault) → keeps_line before text lexemes fault ≡ true → IsKept before text fault
unfolding keeps_line may_keep
kept before text lexemes fault h = go fault.begin fault.node fault.end h
  where
    go : (from : ℕ) (node : Fault) (end : ℕ) → keeps_line before text lexemes (record { begin = from; node = node; end = end }) ≡ true → IsKept before text (record { begin = from; node = node; end = end })
    go from (ReservedKeyword word) end h = record { may = refl; no_margin = λ tab. cc }
    go from (StartsZero word) end h = record { may = refl; no_margin = λ tab. cc }
    go from (InvalidInput character) end h =
        let parts = and_parts (not (bytes_eq character (codes "}"))) (not (ends_by_comment from lexemes)) h in
        record { may = parts.0; no_margin = λ tab. cc }
    go from InvalidTab end h = record { may = refl; no_margin = λ tab. unnot _ h }
    go from Indentation end h = cc
    go from UnfinishedStringLiteral end h = cc
    go from (InvalidEscapeSequence text) end h = cc
    go from EmptyEscapeSequence end h = cc
    go from UnfinishedFStringExpression end h = cc

-- such a fault is no bad escape
pub kept_other : (before : Before) (text : Text) (lexemes : List Lexeme) (fault : Spanned Fault) → keeps_line before text lexemes fault ≡ true → is_bad_escape fault.node ≡ false
unfolding keeps_line
kept_other before text lexemes fault h = go fault.node h
  where
    go : (node : Fault) → keeps_line before text lexemes (record { begin = fault.begin; node = node; end = fault.end }) ≡ true → is_bad_escape node ≡ false
    go (InvalidEscapeSequence text) h = cc
    go node h = refl

-- faults of words keep their lines
pub words_keep_lines : WordsKeepLines
unfolding keeps_line
words_keep_lines before text lexemes begin end word = (refl, refl)

pub or_none : (one other : Bool) → (one || other) ≡ false → (one ≡ false) × (other ≡ false)
or_none false other h = (refl, h)
or_none true other h = cc

-- the fault keeps its line by itself
abbrev KeepsItself : History → Text → Spanned Fault → Type 0
KeepsItself history text fault = ((outcome_after history text).fault ≡ Some fault) × (keeps_line history.before text (outcome_after history text).lexemes fault ≡ true)

record Place (history : History) (text : Text) (fault : Spanned Fault) : Type 0 where
  pub here : StopsAt history text fault
  pub code : CodeFault (after_all history here.pieces) (drop (pieces_len here.pieces) text) here.found
  pub begun : is_nothing (after_all history here.pieces).before ≡ false
  pub start : pieces_len here.pieces ≡ fault.begin

place : (history : History) (text : Text) (fault : Spanned Fault) → KeepsItself history text fault → Place history text fault
place history text fault keeps = record { here = here; code = code; begun = begun; start = omega (arith, here.begin, code.word.begins) }
  where
    here : StopsAt history text fault
    here = stops_at history text fault keeps.0

    at : ℕ
    at = pieces_len here.pieces

    node : here.found.node ≡ fault.node
    node = ap (λ (f : Spanned Fault). f.node) here.same

    is : IsKept history.before text fault
    is = kept history.before text (outcome_after history text).lexemes fault keeps.1

    may : may_keep here.found.node ≡ true
    may = ap may_keep node ∙ is.may

    no_margin : is_tab here.found.node ≡ true → here.found.begin ≡ 0 → (is_nothing history.before && at == 0 ≡ false) × (begins_with_line_end (drop at text) ≡ false)
    no_margin tab zero =
        let same : fault.begin ≡ at = omega (arith, here.begin, zero) in
        or_none (is_nothing history.before && at == 0) (begins_with_line_end (drop at text)) (ap (is_in_margin history.before text) (sym same) ∙ is.no_margin (sym (ap is_tab node) ∙ tab))

    -- the fault isn't that of the first margin
    first : (pieces : List Piece) → pieces ≡ here.pieces → is_nothing (after_all history pieces).before ≡ false
    first (piece ∷ pieces) e =
        let reads : IsReading language history text (piece ∷ pieces) = subst (IsReading language history text) (sym e) here.longest.reads in
        later_some (after history piece) (drop piece.len text) pieces (started history piece (piece_fits language history text piece reads.0).sort) reads.1
    first [] e = go (is_nothing history.before) refl
      where
        go : (none : Bool) → is_nothing history.before ≡ none → is_nothing history.before ≡ false
        go false some = some
        go true none =
            let fails : next_step language history text ≡ Fails here.found = subst (λ (ps : List Piece). next_step language (after_all history ps) (drop (pieces_len ps) text) ≡ Fails here.found) (sym e) here.longest.stands_last in
            let margin = first_fault history text here.found none fails in
            let zero : pieces_len here.pieces ≡ 0 = ap pieces_len (sym e) in
            let wrong = (no_margin (margin.1 may) margin.0).0 in
            let is : (is_nothing history.before && pieces_len here.pieces == 0) ≡ true = rw (none, zero) refl in
            let both : true ≡ false = sym is ∙ wrong in cc

    begun : is_nothing (after_all history here.pieces).before ≡ false
    begun = first here.pieces refl

    code : CodeFault (after_all history here.pieces) (drop (pieces_len here.pieces) text) here.found
    code = code_fault (after_all history here.pieces) (drop at text) here.found begun here.longest.stands_last may (λ tab zero. (no_margin tab zero).1)

-- it has a byte, and ends before the bytes that are passed do
abbrev Passes : Text → Spanned Fault → Spanned Fault → Type 0
Passes text fault last = (fault.begin < passed_end text last) × (passed_end text last ≤ length text) × (fault.end ≤ passed_end text last) × (last.end ≤ passed_end text last)

own_passes : (history : History) (text : Text) (fault : Spanned Fault) → KeepsItself history text fault → Passes text fault fault
own_passes history text fault keeps = go (is_tab fault.node) refl
  where
    is : Place history text fault
    is = place history text fault keeps

    node : is_tab is.here.found.node ≡ is_tab fault.node
    node = ap (λ (f : Spanned Fault). is_tab f.node) is.here.same

    ends : Bool → ℕ
    ends tab = if tab then fault.begin + prefix_len (nat_eq 9) (drop fault.begin text) else fault.end

    go : (tab : Bool) → is_tab fault.node ≡ tab → (fault.begin < ends tab) × (ends tab ≤ length text) × (fault.end ≤ ends tab) × (fault.end ≤ ends tab)
    go false e =
        let some = is.code.word.some (node ∙ e) in
        (omega (arith, some, is.here.end, is.start), is.here.inside, omega arith, omega arith)
    go true e =
        let tabs : drop fault.begin text ≡ 9 ∷ is.code.rest = ap (λ n. drop n text) (sym is.start) ∙ is.code.same ∙ ap (λ c. c ∷ is.code.rest) (is.code.word.tab (node ∙ e)).0 in
        let len : prefix_len (nat_eq 9) (drop fault.begin text) ≡ 1 + prefix_len (nat_eq 9) is.code.rest = ap (prefix_len (nat_eq 9)) tabs in
        let most = prefix_len-le-length (nat_eq 9) (drop fault.begin text) in
        let less : length (drop fault.begin text) ≡ length text - fault.begin = length-drop fault.begin text in
        let order = is.here.order in
        let inside = is.here.inside in
        let empty = (is.code.word.tab (node ∙ e)).1 in
        let end = is.here.end in
        let start = is.start in
        (omega (arith, len), omega (arith, len, most, less, order, inside), omega (arith, empty, end, start), omega (arith, empty, end, start))

-- The word of an integer with a leading 0 is a number.
pub zero_number : (history : History) (text : Text) (fault : Spanned Fault) (word : Text) → (outcome_after history text).fault ≡ Some fault → fault.node ≡ StartsZero word → is_number 10 word ≡ true
zero_number history text fault word has is =
    let keeps : keeps_line history.before text (outcome_after history text).lexemes fault ≡ true = zero_keeps history.before text (outcome_after history text).lexemes fault word is in
    let there = place history text fault (has, keeps) in
    let node : there.here.found.node ≡ StartsZero word = ap (λ (f : Spanned Fault). f.node) there.here.same ∙ is in
    digits_number word (there.code.word.digits word node)
  where
    zero_keeps : (before : Before) (text : Text) (lexemes : List Lexeme) (fault : Spanned Fault) (word : Text) → fault.node ≡ StartsZero word → keeps_line before text lexemes fault ≡ true
    zero_keeps before text lexemes fault word is =
        subst (λ (node : Fault). keeps_line before text lexemes (record { begin = fault.begin; node = node; end = fault.end }) ≡ true) (sym is) (words_keep_lines before text lexemes fault.begin fault.end word).1

-- a literal that is closed
pub tab_other : (node : Fault) → is_tab node ≡ true → is_bad_escape node ≡ false
tab_other InvalidTab tab = refl
tab_other node tab = cc

pub no_tab : (node : Fault) → is_bad_escape node ≡ true → is_tab node ≡ false
no_tab InvalidTab bad = cc
no_tab node bad = refl

pub whole_untabbed : (at : ℕ) (text : Text) (fault : Spanned Fault) → is_bad_escape fault.node ≡ true → is_tab (with_literal_at at text fault).node ≡ false
whole_untabbed at text fault bad = no_tab (with_literal_at at text fault).node (ap is_bad_escape (whole_same at text fault).1 ∙ bad)

-- where a literal ends with its bad escape, it is passed
pub passed_literal : (at : ℕ) (text : Text) (fault : Spanned Fault) → is_bad_escape fault.node ≡ true → passed_end text (with_literal_at at text fault) ≡ (with_literal_at at text fault).end
passed_literal at text fault bad = rw (whole_untabbed at text fault bad) refl

literal_passes : (history : History) (text : Text) (fault : Spanned Fault) → (outcome_after history text).fault ≡ Some fault → closes_literal (read_len history text) text fault ≡ true → Passes text fault (with_literal history text fault)
literal_passes history text fault has closes =
    let here = stops_at history text fault has in
    let order = here.order in
    let inside = here.inside in
    let at = read_len history text in
    let ends = whole_ends at text fault order inside in
    let bad = (and_parts (is_bad_escape fault.node) _ closes).0 in
    let last = passed_literal at text fault bad in
    (omega (arith, closed_later at text fault closes, last), omega (arith, ends.1, last), omega (arith, ends.0, last), omega (arith, last))

-- by what all stays open
pub by_open : {A : Type 0} (history : History) (text : Text) (fault : Spanned Fault) → stays_open history text fault ≡ true → (keeps_line history.before text (outcome_after history text).lexemes fault ≡ true → A)
    → (closes_literal (read_len history text) text fault ≡ true → A) → (is_open_quote (mode_after (history_after history text).tokens) text fault ≡ true → A) → A
by_open {A} history text fault is own literal quote = go (keeps_line history.before text (outcome_after history text).lexemes fault) (closes_literal (read_len history text) text fault) refl refl is
  where
    go : (keeps closes : Bool) → keeps_line history.before text (outcome_after history text).lexemes fault ≡ keeps → closes_literal (read_len history text) text fault ≡ closes
        → (keeps || closes || is_open_quote (mode_after (history_after history text).tokens) text fault) ≡ true → A
    go true closes e f is = own e
    go false true e f is = literal f
    go false false e f is = quote is

-- an open quote is no bad escape, and no tab
pub quote_other : (node : Fault) → is_unfinished node ≡ true → (is_bad_escape node ≡ false) × (is_tab node ≡ false)
quote_other UnfinishedStringLiteral is = (refl, refl)
quote_other node is = cc

quote_passes : (history : History) (text : Text) (fault : Spanned Fault) → (outcome_after history text).fault ≡ Some fault → is_open_quote (mode_after (history_after history text).tokens) text fault ≡ true → Passes text fault fault
quote_passes history text fault has is =
    let there = quote_place history text fault has is in
    let last : passed_end text fault ≡ fault.end = rw (quote_other fault.node there.node).1 refl in
    (omega (arith, last, there.some), omega (arith, last, there.inside), omega (arith, last), omega (arith, last))

open_passes : (history : History) (text : Text) (fault : Spanned Fault) → KeepsLine history text fault → Passes text fault (with_literal history text fault)
open_passes history text fault keeps = by_open history text fault keeps.1
    (λ own. subst (Passes text fault) (sym (whole_other (read_len history text) text fault (kept_other history.before text (outcome_after history text).lexemes fault own))) (own_passes history text fault (keeps.0, own)))
    (λ closes. literal_passes history text fault keeps.0 closes)
    (λ quote.
    let there = quote_place history text fault keeps.0 quote in
    subst (Passes text fault) (sym (whole_other (read_len history text) text fault (quote_other fault.node there.node).0)) (quote_passes history text fault keeps.0 quote))

pub kept_faults_have_bytes : KeptFaultsHaveBytes
kept_faults_have_bytes history text fault keeps = let passes = open_passes history text fault keeps in (passes.0, passes.1)

pub kept_end : (history : History) (text : Text) (fault : Spanned Fault) → KeepsLine history text fault → fault.end ≤ passed_end text (with_literal history text fault)
kept_end history text fault keeps = (open_passes history text fault keeps).2

pub kept_whole : (history : History) (text : Text) (fault : Spanned Fault) → KeepsLine history text fault → (with_literal history text fault).end ≤ passed_end text (with_literal history text fault)
kept_whole history text fault keeps = (open_passes history text fault keeps).3

-- Where a bad escape is
pub escape_begun : (history : History) (text : Text) (fault : Spanned Fault) (here : StopsAt history text fault) → is_bad_escape fault.node ≡ true → (is_nothing (after_all history here.pieces).before ≡ false) × (is_in_text (mode_after (after_all history here.pieces).tokens) ≡ false)
escape_begun history text fault here bad = escape_place (after_all history here.pieces) (drop (pieces_len here.pieces) text) here.found here.longest.stands_last (ap (λ (f : Spanned Fault). is_bad_escape f.node) here.same ∙ bad)

-- It is in code, after the first margin.
pub record OpenPlace (history : History) (text : Text) (fault : Spanned Fault) : Type 0 where
  pub here : StopsAt history text fault
  pub begun : is_nothing (after_all history here.pieces).before ≡ false
  pub in_code : is_in_text (mode_after (after_all history here.pieces).tokens) ≡ false

pub open_place : (history : History) (text : Text) (fault : Spanned Fault) → KeepsLine history text fault → OpenPlace history text fault
open_place history text fault keeps = by_open history text fault keeps.1
    (λ own. let is = place history text fault (keeps.0, own) in record { here = is.here; begun = is.begun; in_code = is.code.in_code })
    (λ closes.
    let here = stops_at history text fault keeps.0 in
    let place = escape_begun history text fault here (and_parts (is_bad_escape fault.node) _ closes).0 in
    record { here = here; begun = place.0; in_code = place.1 })
    (λ quote. let there = quote_place history text fault keeps.0 quote in record { here = there.here; begun = there.begun; in_code = outside_code (mode_after (after_all history there.here.pieces).tokens) there.outside })
  where
    outside_code : (mode : Mode) → is_outside mode ≡ true → is_in_text mode ≡ false
    outside_code (InText opening) is = cc
    outside_code mode is = refl
