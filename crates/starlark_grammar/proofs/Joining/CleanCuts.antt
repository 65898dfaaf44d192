-- The outcome of two texts joined at a clean cut.
use Rattle.std.proofs.Common.{◌≡◌, ℕ, zero, suc, ◌+◌, ◌-◌, true, false, List, [], ◌∷◌, ◌++◌, length, take, drop, map, refl, ap, ◌∙◌, sym, subst, Option, Some, arith, append_assoc, length-append, replicate}
use Rattle.std.specs.Prelude.{◌&&◌, option_map}
use Rattle.std.proofs.Math.Seq.{drop-append-add, take-append_seam}
use Rattle.std.proofs.lemmas.Bool.{and_parts, both_ways}
use Rattle.std.proofs.lemmas.List.{length-drop, map-append}
use Rattle.std.proofs.lemmas.List.Sums.{sum_by-cons, sum_by-append}
use Rattle.starlark_grammar.specs.Words.{Text, Table, language}
use Rattle.starlark_grammar.specs.Tokens.{Newline, Dedent, Lexeme, Spanned, moved, Fault, Outcome}
use Rattle.starlark_grammar.specs.Margins.{open_widths}
use Rattle.starlark_grammar.specs.Pieces.{Before, Nothing, Piece, Step, Stands, Fails, Ends, first_margin, step_at}
use Rattle.starlark_grammar.specs.Reading.{History, nothing, after, after_all, situation, next_step, pieces_len, read, read_from, lexemes_along, closing, lexemes_before, outcome_of, outcome_in, outcome}
use Rattle.starlark_grammar.specs.Longest.{IsReading, IsLongestReading}
use Rattle.starlark_grammar.specs.Cuts.{is_layout, is_clean_cut, is_clean_cut_in, is_faultless, is_settled, joined}
use Rattle.starlark_grammar.specs.TextLaws.{CutsJoin}
use Rattle.starlark_grammar.proofs.Lists.{drop-sum}
use Rattle.starlark_grammar.proofs.Order.OrderedLexemes.{some_lexemes_before}
use Rattle.starlark_grammar.proofs.Reading.Readings.{longest_onward, read_from_is, read_is, reading_fits, ends_at_end, started, piece_fits, outcome_only}
use Rattle.starlark_grammar.proofs.Joining.Followed.{ends_line, ends_line_of}
use Rattle.starlark_grammar.proofs.Joining.Settled.{Settled, settled, remainder, widths_settled, all_after, longest_after}
use Rattle.starlark_grammar.proofs.Joining.Joined.{Joined, join_reading, moved_both, all_moved}

-- Lists of pieces

pub pieces_append : (one other : List Piece) → pieces_len (one ++ other) ≡ pieces_len one + pieces_len other
pieces_append one other = sum_by-append (λ (piece : Piece). piece.len) one other

pub along_append : (at : ℕ) (one other : List Piece) → lexemes_along at (one ++ other) ≡ lexemes_along at one ++ lexemes_along (at + pieces_len one) other
along_append at [] other = let same : at ≡ at + pieces_len [] = omega arith in ap (λ n. lexemes_along n other) same
along_append at (piece ∷ one) other =
    let total : at + piece.len + pieces_len one ≡ at + pieces_len (piece ∷ one) = omega (arith, sum_by-cons (λ (piece : Piece). piece.len) piece one) in
    ap (λ ls. map (moved at) piece.lexemes ++ ls) (along_append (at + piece.len) one other ∙ ap (λ n. lexemes_along (at + piece.len) one ++ lexemes_along n other) total)
    ∙ sym (append_assoc (map (moved at) piece.lexemes) (lexemes_along (at + piece.len) one) (lexemes_along (at + pieces_len (piece ∷ one)) other))

pub along_later : (n at : ℕ) (pieces : List Piece) → lexemes_along (n + at) pieces ≡ map (moved n) (lexemes_along at pieces)
along_later n at [] = refl
along_later n at (piece ∷ pieces) =
    let next : n + at + piece.len ≡ n + (at + piece.len) = omega arith in
    ap (λ k. map (moved (n + at)) piece.lexemes ++ lexemes_along k pieces) next
    ∙ ap (λ ls. map (moved (n + at)) piece.lexemes ++ ls) (along_later n (at + piece.len) pieces)
    ∙ ap (λ ls. ls ++ map (moved n) (lexemes_along (at + piece.len) pieces)) (sym (all_moved n at (n + at) piece.lexemes refl))
    ∙ sym (map-append (moved n) (map (moved at) piece.lexemes) (lexemes_along (at + piece.len) pieces))

pub past_append : (history : History) (one other : List Piece) → after_all history (one ++ other) ≡ after_all (after_all history one) other
past_append history [] other = refl
past_append history (piece ∷ one) other = past_append (after history piece) one other

-- a reading, and a longest one after it
pub longest_append : (table : Table) (history : History) (text : Text) (one other : List Piece) (last : Step) → IsReading table history text one → IsLongestReading table (after_all history one) (drop (pieces_len one) text) other last → IsLongestReading table history text (one ++ other) last
longest_append table history text [] other last reads longest = longest
longest_append table history text (piece ∷ one) other last reads longest =
    let total : pieces_len (piece ∷ one) ≡ piece.len + pieces_len one = sum_by-cons (λ (piece : Piece). piece.len) piece one in
    let left : drop (pieces_len (piece ∷ one)) text ≡ drop (pieces_len one) (drop piece.len text) = ap (λ n. drop n text) total ∙ drop-sum piece.len (pieces_len one) text in
    longest_onward table history text piece (one ++ other) last reads.0
    (longest_append table (after history piece) (drop piece.len text) one other last reads.1 (subst (λ (t : Text). IsLongestReading table (after_all (after history piece) one) t other last) left longest))

pub but_last : {A : Type 0} (xs : List A) (x : A) → take (length (xs ++ x ∷ []) - 1) (xs ++ x ∷ []) ≡ xs
but_last xs x = let len : length (xs ++ x ∷ []) - 1 ≡ length xs = omega (arith, length-append xs (x ∷ [])) in ap (λ n. take n (xs ++ x ∷ [])) len ∙ take-append_seam xs (x ∷ [])

pub map_replicate : (n k : ℕ) (x : Lexeme) → map (moved n) (replicate k x) ≡ replicate k (moved n x)
map_replicate n zero x = refl
map_replicate n (suc k) x = ap (λ ls. moved n x ∷ ls) (map_replicate n k x)

closing_later : (n at : ℕ) (earlier history : History) → Settled earlier → closing (n + at) (remainder earlier history) ≡ map (moved n) (closing at history)
closing_later n at earlier history h =
    ap (λ (ws : List ℕ). record { begin = n + at; node = Newline; end = n + at } ∷ replicate (length ws) (record { begin = n + at; node = Dedent; end = n + at })) (widths_settled earlier.widths history.widths h.no_width)
    ∙ ap (λ ls. record { begin = n + at; node = Newline; end = n + at } ∷ ls) (sym (map_replicate n (length (open_widths history.widths)) (record { begin = at; node = Dedent; end = at })))

-- A clean cut, by its reading.
pub record Cut (text : Text) (pieces : List Piece) : Type 0 where
  pub some : ¬ (pieces ≡ [])
  pub ends : ends_line text ≡ true
  pub reads : IsReading language nothing text pieces
  pub reach : pieces_len pieces ≡ length text
  pub is_settled : Settled (after_all nothing pieces)
  pub lexemes : (outcome text).lexemes ≡ lexemes_along 0 pieces ++ record { begin = length text; node = Newline; end = length text } ∷ []

-- after a text without fault and without open widths only a `Newline` comes
closed : (text : Text) (pieces : List Piece) (last : Step) → last ≡ Ends → pieces_len pieces ≡ length text → open_widths (after_all nothing pieces).widths ≡ []
    → (outcome_of text pieces last).lexemes ≡ lexemes_along 0 pieces ++ record { begin = length text; node = Newline; end = length text } ∷ []
closed text pieces last e reach none =
    ap (λ (step : Step). (outcome_of text pieces step).lexemes) e
    ∙ ap (λ (ws : List ℕ). lexemes_along 0 pieces ++ record { begin = pieces_len pieces; node = Newline; end = pieces_len pieces } ∷ replicate (length ws) (record { begin = pieces_len pieces; node = Dedent; end = pieces_len pieces })) none
    ∙ ap (λ n. lexemes_along 0 pieces ++ record { begin = n; node = Newline; end = n } ∷ []) reach

-- a longest reading without fault stops at the text's end, …
longest_ends : (history : History) (text : Text) (pieces : List Piece) (last : Step) → IsLongestReading language history text pieces last → is_faultless last ≡ true → last ≡ Ends
longest_ends history text pieces last longest faultless = go last refl faultless
  where
    go : (step : Step) → last ≡ step → is_faultless step ≡ true → last ≡ Ends
    go (Stands piece) e h = absurd (longest.no_piece piece e)
    go (Fails fault) e h = cc
    go Ends e h = e

-- … and its pieces are the whole text
longest_reaches : (history : History) (text : Text) (pieces : List Piece) (last : Step) → IsLongestReading language history text pieces last → last ≡ Ends → pieces_len pieces ≡ length text
longest_reaches history text pieces last longest at_end =
    let none = ends_at_end language (after_all history pieces) (drop (pieces_len pieces) text) (longest.stands_last ∙ at_end) in
    omega (arith, reading_fits language history text pieces longest.reads, length-drop (pieces_len pieces) text, ap length none)

-- a longest reading without a fault: it ends, and its pieces are the whole text
pub faultless_reading : (history : History) (text : Text) (pieces : List Piece) (last : Step) → IsLongestReading language history text pieces last → is_faultless last ≡ true → (last ≡ Ends) × (pieces_len pieces ≡ length text)
faultless_reading history text pieces last longest faultless =
    let at_end = longest_ends history text pieces last longest faultless in
    (at_end, longest_reaches history text pieces last longest at_end)

cut_of : (text : Text) (pieces : List Piece) (last : Step) → IsLongestReading language nothing text pieces last → (outcome text).lexemes ≡ (outcome_of text pieces last).lexemes → is_faultless last ≡ true → is_settled (after_all nothing pieces) ≡ true → ends_line text ≡ true → Cut text pieces
cut_of text pieces last longest same faultless settled_end ends = record {
  some = λ e. both_ways _ (subst (λ (ps : List Piece). is_layout (after_all nothing ps).before ≡ false) (sym e) refl) is.layout;
  ends = ends;
  reads = longest.reads;
  reach = whole.1;
  is_settled = is;
  lexemes = same ∙ closed text pieces last whole.0 whole.1 is.no_width;
}
  where
    is : Settled (after_all nothing pieces)
    is = settled (after_all nothing pieces) settled_end

    whole : (last ≡ Ends) × (pieces_len pieces ≡ length text)
    whole = faultless_reading nothing text pieces last longest faultless

pub cut : (text : Text) → is_clean_cut text ≡ true → Cut text (read language text).pieces
unfolding is_clean_cut is_clean_cut_in outcome outcome_in
cut text h =
    let one = and_parts (is_faultless (read language text).last && is_settled (after_all nothing (read language text).pieces)) _ h in
    let two = and_parts (is_faultless (read language text).last) _ one.0 in
    cut_of text (read language text).pieces (read language text).last (read_is language text) refl two.0 two.1 (ends_line_of text one.1)

-- the reading of a text whose first margin stands
pub record CharacterStarts (text : Text) (first : Piece) : Type 0 where
  pub pieces : List Piece
  pub last : Step
  pub longest : IsLongestReading language (after nothing first) (drop first.len text) pieces last
  pub is : outcome text ≡ outcome_of text (first ∷ pieces) last

pub begun : (text : Text) (first : Piece) → next_step language nothing text ≡ Stands first → CharacterStarts text first
unfolding outcome
begun text first stands =
    let fits = piece_fits language nothing text first stands in
    let rest = read_from_is language (after nothing first) first.len text (started nothing first fits.sort) in
    record {
      pieces = (read_from language (after nothing first) first.len text).pieces;
      last = (read_from language (after nothing first) first.len text).last;
      longest = rest;
      is = sym (outcome_only language text _ (record { pieces = first ∷ (read_from language (after nothing first) first.len text).pieces; last = (read_from language (after nothing first) first.len text).last; longest = longest_onward language nothing text first _ _ stands rest; same = refl }));
    }

margin_of_first : (text : Text) (first : Piece) → next_step language nothing text ≡ Stands first → first_margin [] text ≡ Stands first
unfolding next_step situation step_at open_widths
margin_of_first text first stands = stands

pub some_before : (before : Before) (text : Text) (pieces : List Piece) → ¬ (pieces ≡ []) → lexemes_before before text pieces ≡ lexemes_along 0 pieces
some_before before text [] some = absurd (some refl)
some_before before text (piece ∷ pieces) some = some_lexemes_before before text piece pieces

pub some_append : (one other : List Piece) → ¬ (one ≡ []) → ¬ (one ++ other ≡ [])
some_append [] other some e = some refl
some_append (piece ∷ one) other some e = cc

pub same_outcome : {one other : List Lexeme} {fault end : Option (Spanned Fault)} → one ≡ other → fault ≡ end → ◌≡◌ {A = Outcome} (record { lexemes = one; fault = fault }) (record { lexemes = other; fault = end })
same_outcome e f = rw (e, f) refl

module _ (text more : Text) (first : Piece) (pieces : List Piece) (here : Cut text pieces) (there : CharacterStarts more first) (stands : next_step language nothing more ≡ Stands first) where
  pub both : Joined nothing (after_all nothing pieces) text more pieces first
  both = join_reading nothing text more pieces first here.ends here.some here.reads here.reach here.is_settled (margin_of_first more first stands)

  whole : List Piece
  whole = both.pieces' ++ there.pieces

  pub longest : IsLongestReading language nothing (text ++ more) (both.pieces' ++ there.pieces) there.last
  longest =
      let left : drop (pieces_len both.pieces') (text ++ more) ≡ drop first.len more = ap (λ n. drop n (text ++ more)) both.len ∙ drop-append-add text more first.len in
      longest_append language nothing (text ++ more) both.pieces' there.pieces there.last both.reads
      (subst (λ (t : Text). IsLongestReading language (after_all nothing both.pieces') t there.pieces there.last) (sym left)
      (subst (λ (past : History). IsLongestReading language past (drop first.len more) there.pieces there.last) (sym both.past)
      (longest_after language (after_all nothing pieces) (after nothing first) (drop first.len more) there.pieces there.last here.is_settled there.longest)))

  joined_is : outcome (text ++ more) ≡ outcome_of (text ++ more) (both.pieces' ++ there.pieces) there.last
  unfolding outcome
  joined_is = sym (outcome_only language (text ++ more) _ (record { pieces = both.pieces' ++ there.pieces; last = there.last; longest = longest; same = refl }))

  total : pieces_len (both.pieces' ++ there.pieces) ≡ length text + pieces_len (first ∷ there.pieces)
  total = omega (arith, pieces_append both.pieces' there.pieces, both.len, sum_by-cons (λ (piece : Piece). piece.len) first there.pieces)

  lexemes : lexemes_along 0 (both.pieces' ++ there.pieces) ≡ lexemes_along 0 pieces ++ map (moved (length text)) (lexemes_along 0 (first ∷ there.pieces))
  lexemes =
      let start : 0 + pieces_len both.pieces' ≡ length text + (0 + first.len) = omega (arith, both.len) in
      along_append 0 both.pieces' there.pieces
      ∙ ap (λ ls. ls ++ lexemes_along (0 + pieces_len both.pieces') there.pieces) (both.lexemes 0)
      ∙ append_assoc (lexemes_along 0 pieces) (map (moved (0 + length text)) first.lexemes) (lexemes_along (0 + pieces_len both.pieces') there.pieces)
      ∙ ap (λ ls. lexemes_along 0 pieces ++ ls)
      (ap (λ n. map (moved (0 + length text)) first.lexemes ++ lexemes_along n there.pieces) start
      ∙ ap (λ ls. map (moved (0 + length text)) first.lexemes ++ ls) (along_later (length text) (0 + first.len) there.pieces)
      ∙ ap (λ ls. ls ++ map (moved (length text)) (lexemes_along (0 + first.len) there.pieces)) (sym (all_moved (length text) 0 (0 + length text) first.lexemes (omega arith)))
      ∙ sym (map-append (moved (length text)) (map (moved 0) first.lexemes) (lexemes_along (0 + first.len) there.pieces)))

  pub past : after_all nothing (both.pieces' ++ there.pieces) ≡ remainder (after_all nothing pieces) (after_all nothing (first ∷ there.pieces))
  past = past_append nothing both.pieces' there.pieces ∙ ap (λ (h : History). after_all h there.pieces) both.past ∙ all_after (after_all nothing pieces) (after nothing first) there.pieces

  cut_lexemes : (other : List Lexeme) → lexemes_along 0 pieces ++ map (moved (length text)) other ≡ joined (length text) (outcome text).lexemes other
  cut_lexemes other = ap (λ ls. ls ++ map (moved (length text)) other)
      (sym (ap (λ (ls : List Lexeme). take (length ls - 1) ls) here.lexemes ∙ but_last (lexemes_along 0 pieces) (record { begin = length text; node = Newline; end = length text })))

  to_end : lexemes_along 0 (both.pieces' ++ there.pieces) ++ closing (pieces_len (both.pieces' ++ there.pieces)) (after_all nothing (both.pieces' ++ there.pieces))
      ≡ joined (length text) (outcome text).lexemes (lexemes_along 0 (first ∷ there.pieces) ++ closing (pieces_len (first ∷ there.pieces)) (after_all nothing (first ∷ there.pieces)))
  to_end =
      let end = pieces_len (first ∷ there.pieces) in
      let last = after_all nothing (first ∷ there.pieces) in
      ap (λ n. lexemes_along 0 (both.pieces' ++ there.pieces) ++ closing n (after_all nothing (both.pieces' ++ there.pieces))) total
      ∙ ap (λ (h : History). lexemes_along 0 (both.pieces' ++ there.pieces) ++ closing (length text + end) h) past
      ∙ ap (λ ls. lexemes_along 0 (both.pieces' ++ there.pieces) ++ ls) (closing_later (length text) end (after_all nothing pieces) last here.is_settled)
      ∙ ap (λ ls. ls ++ map (moved (length text)) (closing end last)) lexemes
      ∙ append_assoc (lexemes_along 0 pieces) (map (moved (length text)) (lexemes_along 0 (first ∷ there.pieces))) (map (moved (length text)) (closing end last))
      ∙ ap (λ ls. lexemes_along 0 pieces ++ ls) (sym (map-append (moved (length text)) (lexemes_along 0 (first ∷ there.pieces)) (closing end last)))
      ∙ cut_lexemes (lexemes_along 0 (first ∷ there.pieces) ++ closing end last)

  -- what the joined text comes to, by what stands last
  by_last : (last : Step) → outcome_of (text ++ more) (both.pieces' ++ there.pieces) last
      ≡ record { lexemes = joined (length text) (outcome text).lexemes (outcome_of more (first ∷ there.pieces) last).lexemes; fault = option_map (moved (length text)) (outcome_of more (first ∷ there.pieces) last).fault }
  by_last (Fails fault) =
      same_outcome (some_before Nothing (text ++ more) (both.pieces' ++ there.pieces) (some_append both.pieces' there.pieces both.some) ∙ lexemes ∙ cut_lexemes (lexemes_along 0 (first ∷ there.pieces)))
      (ap Some (sym (moved_both (length text) (pieces_len (first ∷ there.pieces)) (pieces_len (both.pieces' ++ there.pieces)) fault (sym total))))
  by_last (Stands piece) = same_outcome to_end refl
  by_last Ends = same_outcome to_end refl

pub cuts_join : CutsJoin
cuts_join text more h margin =
    let here = cut text h in
    let there = begun more margin.0 margin.1 in
    joined_is text more margin.0 (read language text).pieces here there margin.1
    ∙ by_last text more margin.0 (read language text).pieces here there margin.1 there.last
    ∙ ap (λ (o : Outcome). record { lexemes = joined (length text) (outcome text).lexemes o.lexemes; fault = option_map (moved (length text)) o.fault }) (sym there.is)
