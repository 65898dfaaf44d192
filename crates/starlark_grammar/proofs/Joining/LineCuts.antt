-- Line ends and comment-only lines, and cuts after them.
use Rattle.std.proofs.Common.{◌≡◌, ℕ, ◌+◌, ◌-◌, ◌≤◌, ◌<◌, Bool, true, false, List, [], ◌∷◌, ◌++◌, length, take, drop, map, refl, ap, ◌∙◌, sym, subst, Some, arith, append-nil, le-leb, length-append, inl, inr, ◌⊎◌}
use Rattle.std.specs.Prelude.{if◌then◌else◌, codes, nat_eq, nat_le, not, ◌&&◌}
use Rattle.std.specs.List.{ends_with, list_all, onto_first}
use Rattle.std.proofs.lemmas.Bool.{and_parts, leb-true}
use Rattle.std.proofs.lemmas.List.{length-map, length-take-le}
use Rattle.std.proofs.lemmas.List.Sums.{sum_by-cons}
use Rattle.starlark_grammar.proofs.Lists.{drop-sum}
use Rattle.starlark_grammar.specs.declared.class.Class.TheVariants as word
use Rattle.starlark_grammar.specs.Words.{Text, class_in, language}
use Rattle.starlark_grammar.specs.Front.{longest_front}
use Rattle.starlark_grammar.specs.Tokens.{Lexeme, Newline, Outcome, moved}
use Rattle.starlark_grammar.specs.Margins.{is_comment_only, is_lf, lines}
use Rattle.starlark_grammar.specs.Pieces.{Piece, Stands}
use Rattle.starlark_grammar.specs.Reading.{History, after, after_all, lexemes_along, next_step, nothing, outcome, pieces_len, read}
use Rattle.starlark_grammar.specs.Longest.{IsLongestReading, IsReading}
use Rattle.starlark_grammar.specs.Cuts.{is_clean_cut, is_kept_cut, without_closing}
use Rattle.starlark_grammar.specs.Laws.{Begins}
use Rattle.starlark_grammar.specs.TextLaws.{HasFirstMargin}
use Rattle.starlark_grammar.proofs.Words.Classes.{line_end_fits}
use Rattle.starlark_grammar.proofs.Words.Fronts.{front_sound}
use Rattle.starlark_grammar.proofs.Order.OrderedLexemes.{is_line}
use Rattle.starlark_grammar.proofs.Reading.Readings.{read_is, readings_agree}
use Rattle.starlark_grammar.proofs.Joining.CleanCuts.{cut, cuts_join, pieces_append}
use Rattle.starlark_grammar.proofs.Joining.Laws.{cuts_of_joined}
use Rattle.starlark_grammar.proofs.Joining.LaidCuts.{IsLaid, laid_clean, laid_lexemes, laid_alone}

-- A line end ends with an LF.

pub line_end_ends : (rest : Text) (n : ℕ) → longest_front (class_in language) rest ≡ Some (word.LineEnd, n) → ends_with nat_eq (take n rest) (codes "\n") ≡ true
line_end_ends rest n front =
    let sound = front_sound (class_in language) rest word.LineEnd n front in
    line_end_fits (λ front. ends_with nat_eq front (codes "\n")) refl refl (take n rest) sound.2

-- A comment-only line

-- the lines of one line
pub one_line : (line : Text) → is_line line ≡ true → 0 < length line → lines line ≡ line ∷ []
unfolding lines
one_line [] one some = absurd (omega (arith, some))
one_line (b ∷ []) one some = go (is_lf b)
  where
    go : (feed : Bool) → (if feed then (b ∷ []) ∷ [] else onto_first b []) ≡ (b ∷ []) ∷ []
    go true = refl
    go false = refl
one_line (b ∷ c ∷ bs) one some = go (is_lf b) (and_parts (not (is_lf b)) (is_line (c ∷ bs)) one) (one_line (c ∷ bs))
  where
    go : (feed : Bool) → (not feed ≡ true) × (is_line (c ∷ bs) ≡ true) → (is_line (c ∷ bs) ≡ true → 0 < length (c ∷ bs) → lines (c ∷ bs) ≡ (c ∷ bs) ∷ []) → (if feed then (b ∷ []) ∷ lines (c ∷ bs) else onto_first b (lines (c ∷ bs))) ≡ (b ∷ c ∷ bs) ∷ []
    go true h more = cc
    go false h more = ap (onto_first b) (more h.1 (omega arith))

pub some_comment : (line : Text) → is_comment_only line ≡ true → 0 < length line
some_comment [] h = cc
some_comment (b ∷ bs) h = omega arith

take_whole : (text : Text) → take (length text) text ≡ text
take_whole [] = refl
take_whole (b ∷ bs) = ap (λ t. b ∷ t) (take_whole bs)

module _ (line : Text) (comment : is_comment_only line ≡ true) (one : is_line line ≡ true) (ends : ends_with nat_eq line (codes "\n") ≡ true) where
  alone : IsLaid line (length line)
  alone =
      laid_alone line (length line) (omega arith) (some_comment line comment) (ap (λ (t : Text). ends_with nat_eq t (codes "\n")) (take_whole line) ∙ ends)
      (ap (λ (t : Text). list_all is_comment_only (lines t)) (take_whole line) ∙ ap (list_all is_comment_only) (one_line line one (some_comment line comment)) ∙ ap (λ (b : Bool). b && true) comment)

  -- it is a clean cut
  pub line_clean : is_clean_cut line ≡ true
  line_clean = ap is_clean_cut (sym (take_whole line)) ∙ laid_clean line (length line) alone

  -- of one lexeme
  pub line_lexeme : length (without_closing (outcome line).lexemes) ≡ 1
  unfolding alone laid_alone
  line_lexeme =
      ap (λ (t : Text). length (without_closing (outcome t).lexemes)) (sym (take_whole line)) ∙ laid_lexemes line (length line) alone
      ∙ ap (λ (t : Text). 0 + (0 + length (lines t))) (take_whole line) ∙ ap (λ (ls : List Text). 0 + (0 + length ls)) (one_line line one (some_comment line comment))

  -- its margin stands
  line_margin : HasFirstMargin language line
  line_margin = go (read language line).pieces (cut line line_clean).some (cut line line_clean).reads
    where
      go : (pieces : List Piece) → (pieces ≡ [] → ⊥) → IsReading language nothing line pieces → HasFirstMargin language line
      go [] some reads = absurd (some refl)
      go (piece ∷ pieces) some reads = (piece, reads.0)

  -- and after a clean cut
  pub line_after : (first : Text) → is_clean_cut first ≡ true → (is_clean_cut (first ++ line) ≡ true) × (length (without_closing (outcome (first ++ line)).lexemes) ≡ length (without_closing (outcome first).lexemes) + 1)
  line_after first clean =
      let whole : (outcome (first ++ line)).lexemes ≡ without_closing (outcome first).lexemes ++ map (moved (length first)) (outcome line).lexemes = ap (λ (o : Outcome). o.lexemes) (cuts_join first line clean line_margin) in
      let all = ap length whole ∙ length-append (without_closing (outcome first).lexemes) (map (moved (length first)) (outcome line).lexemes) in
      let some = ap length (cut line line_clean).lexemes ∙ length-append (lexemes_along 0 (read language line).pieces) (record { begin = length line; node = Newline; end = length line } ∷ []) in (
        cuts_of_joined first line clean (some_comment line comment) ∙ line_clean,
        omega (
          arith,
          all,
          length-map (outcome line).lexemes (moved (length first)),
          some,
          line_lexeme,
          count_kept (outcome line).lexemes,
          count_kept (outcome (first ++ line)).lexemes,
        ),
      )
    where
      count_kept : (lexemes : List Lexeme) → length (without_closing lexemes) ≡ length lexemes - 1
      count_kept lexemes = length-take-le (length lexemes - 1) lexemes (omega arith)

-- Kept cuts

pub kept_by : (text : Text) (at : ℕ) → at ≤ pieces_len (read language text).pieces → is_clean_cut (take at text) ≡ true → is_kept_cut text at ≡ true
unfolding is_kept_cut
kept_by text at reach clean = ap (λ (b : Bool). b && is_clean_cut (take at text)) (le-leb at (pieces_len (read language text).pieces) reach) ∙ clean

-- what a kept cut is
pub kept_parts : (text : Text) (at : ℕ) → is_kept_cut text at ≡ true → (at ≤ pieces_len (read language text).pieces) × (is_clean_cut (take at text) ≡ true)
unfolding is_kept_cut
kept_parts text at h = let parts = and_parts (nat_le at (pieces_len (read language text).pieces)) (is_clean_cut (take at text)) h in (leb-true at _ parts.0, parts.1)

drop_first : (first : Piece) (front : List Piece) (text : Text) → drop (pieces_len (first ∷ front)) text ≡ drop (pieces_len front) (drop first.len text)
drop_first first front text = ap (λ n. drop n text) (sum_by-cons (λ (piece : Piece). piece.len) first front) ∙ drop-sum first.len (pieces_len front) text

-- one piece more
pub reads_more : (history : History) (text : Text) (pieces : List Piece) (piece : Piece) → IsReading language history text pieces → next_step language (after_all history pieces) (drop (pieces_len pieces) text) ≡ Stands piece → IsReading language history text (pieces ++ piece ∷ [])
reads_more history text [] piece reads stands = (stands, tt)
reads_more history text (first ∷ pieces) piece reads stands =
    (reads.0, reads_more (after history first) (drop first.len text) pieces piece reads.1 (ap (next_step language (after_all (after history first) pieces)) (sym (drop_first first pieces text)) ∙ stands))

-- the piece after some
pub next_reads : (history : History) (text : Text) (front : List Piece) (piece : Piece) (more : List Piece) → IsReading language history text (front ++ piece ∷ more) → next_step language (after_all history front) (drop (pieces_len front) text) ≡ Stands piece
next_reads history text [] piece more reads = reads.0
next_reads history text (first ∷ front) piece more reads =
    ap (next_step language (after_all (after history first) front)) (drop_first first front text) ∙ next_reads (after history first) (drop first.len text) front piece more reads.1

-- No reading goes further than the longest.
pub reading_reach : (text : Text) (pieces : List Piece) → IsReading language nothing text pieces → pieces_len pieces ≤ pieces_len (read language text).pieces
reading_reach text pieces reads = go (readings_agree language nothing text pieces (read language text).pieces reads (read_is language text).reads)
  where
    longest : IsLongestReading language nothing text (read language text).pieces (read language text).last
    longest = read_is language text

    stuck : (more : List Piece) → pieces ≡ (read language text).pieces ++ more → pieces_len pieces ≤ pieces_len (read language text).pieces
    stuck [] e = omega (arith, ap pieces_len (e ∙ append-nil (read language text).pieces))
    stuck (piece ∷ more) e = absurd (longest.no_piece piece (sym longest.stands_last ∙ next_reads nothing text (read language text).pieces piece more (subst (IsReading language nothing text) e reads)))

    go : Begins pieces (read language text).pieces ⊎ Begins (read language text).pieces pieces → pieces_len pieces ≤ pieces_len (read language text).pieces
    go (inl more) = omega (arith, ap pieces_len more.1, pieces_append pieces more.0)
    go (inr more) = stuck more.0 more.1
