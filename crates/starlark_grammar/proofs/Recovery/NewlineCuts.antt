-- Where a `Newline` of some bytes ends, a text is a cut between lines.
use Rattle.std.proofs.Common.{◌≡◌, ℕ, zero, suc, ◌+◌, ◌≤◌, ◌<◌, Bool, true, false, List, [], ◌∷◌, ◌++◌, length, take, drop, map, refl, ap, ◌∙◌, sym, subst, Some, None, arith, append_assoc, append-nil, drop_of_length-le}
use Rattle.std.specs.Prelude.{◌&&◌, ◌||◌, ◌==◌, not, if◌then◌else◌, nat_eq, nat_lt, codes, cond, count_by, replicate, take_while}
use Rattle.std.specs.List.{ends_with, list_all, onto_first}
use Rattle.std.specs.Str.{byte}
use Rattle.std.proofs.Math.Seq.{take-length}
use Rattle.std.proofs.lemmas.Bool.{and_parts, both_ways, not-true}
use Rattle.std.proofs.lemmas.List.{take-append-drop, drop-take, length-drop, length-take-le, drop-append-le}
use Rattle.std.proofs.lemmas.List.Sums.{sum_by-cons}
use Rattle.starlark_grammar.specs.declared.class.Class.TheVariants as word
use Rattle.starlark_grammar.specs.Words.{Text, class_in, language}
use Rattle.starlark_grammar.specs.Front.{longest_front}
use Rattle.starlark_grammar.specs.Tokens.{Lexeme, Newline, Dedent, Outcome, moved}
use Rattle.starlark_grammar.specs.Depths.{Mode, is_balanced, mode_after, open_fstring, is_outside}
use Rattle.starlark_grammar.specs.Margins.{comment_lines, fits, indentation, is_blank, is_comment_only, is_lf, lines, margin_of, open_widths}
use Rattle.starlark_grammar.specs.Pieces.{Ends, Layout, Piece, Stands, Step, counts, margin_step, step_at}
use Rattle.starlark_grammar.specs.Reading.{History, after, after_all, closing, lexemes_along, next_step, nothing, outcome_after, pieces_len, situation}
use Rattle.starlark_grammar.specs.Longest.{IsLongestReading, IsReading}
use Rattle.starlark_grammar.specs.Cuts.{is_newline}
use Rattle.starlark_grammar.proofs.Recovery.LineCuts.{line_cut_by}
use Rattle.starlark_grammar.proofs.Lists.{drop-sum}
use Rattle.starlark_grammar.proofs.Words.Fronts.{front_sound}
use Rattle.starlark_grammar.proofs.Reading.Steps.{is_nothing}
use Rattle.starlark_grammar.proofs.Reading.Onward.{after_by, outcome_after_nothing}
use Rattle.starlark_grammar.proofs.Reading.Readings.{longest_onward, stops_here}
use Rattle.starlark_grammar.proofs.Joining.CleanCuts.{along_append, longest_append, past_append, pieces_append}
use Rattle.starlark_grammar.proofs.Joining.Followed.{ends_line_drop, ends_line_of, longest_front_append}
use Rattle.starlark_grammar.proofs.Joining.Joined.{blank_step, outside}
use Rattle.starlark_grammar.proofs.Joining.LaidCuts.{line_laid, line_of, reading_shortened}
use Rattle.starlark_grammar.proofs.Joining.Laws.{ends_after}
use Rattle.starlark_grammar.proofs.Joining.LineCuts.{line_end_ends}
use Rattle.starlark_grammar.proofs.Joining.Settled.{outside_none}
use Rattle.starlark_grammar.specs.Joining.{LastNewlineCuts, NewlinesCut, begins_plainly, begins_undented, has_newline, is_between_lines, is_dedent, is_line_cut, is_line_cut_after, without_last_newline}
use Rattle.starlark_grammar.proofs.Recovery.NewlinePieces.{NewlineAt, newline_found, newline_there, none_repeated}

-- the last `Newline`, which no other follows
last_left_out : (xs : List Lexeme) (newline : Lexeme) (rest : List Lexeme) → is_newline newline.node ≡ true → has_newline rest ≡ false → without_last_newline (xs ++ (newline ∷ rest)) ≡ xs ++ rest
last_left_out [] newline rest is none = rw (none, is) refl
last_left_out (x ∷ xs) newline rest is none = rw (newline_there xs newline rest is) (ap (λ ls. x ∷ ls) (last_left_out xs newline rest is none))

abbrev pub dedent_at : ℕ → Lexeme
dedent_at at = record { begin = at; node = Dedent; end = at }

-- The text up to a line end that counts

-- a line end at the end of a text
abbrev last_piece : ℕ → Piece
last_piece n = record { len = n + (0 + 0); lexemes = line_of n ++ map (moved n) ([] ++ []); width = None; sort = Layout }

none_margin : margin_of [] ≡ record { comments = []; at = 0; blanks = []; remainder = [] }
unfolding margin_of lines
none_margin = refl

line_ends : (history : History) (n : ℕ) → open_fstring 0 history.tokens ≡ None → next_step language (after history (last_piece n)) [] ≡ Ends
unfolding next_step situation step_at mode_after after open_fstring
line_ends history n none = rw none refl

line_between : (history : History) (n : ℕ) → open_fstring 0 history.tokens ≡ None → is_balanced history.tokens ≡ true → is_between_lines (after history (last_piece n)) ≡ true
unfolding is_between_lines mode_after after open_fstring is_balanced
line_between history n none balanced = rw none balanced

module _ (history : History) (text : Text) (pieces : List Piece) (n : ℕ) (reads : IsReading language history text pieces) (begun : is_nothing (after_all history pieces).before ≡ false)
    (counted : counts (mode_after (after_all history pieces).tokens) (is_balanced (after_all history pieces).tokens) ≡ true)
    (found : longest_front (class_in language) (drop (pieces_len pieces) text) ≡ Some (word.LineEnd, n)) where
  abbrev pub so_far : Text
  so_far = take (pieces_len pieces + n) text

  abbrev before_line : History
  before_line = after_all history pieces

  sound : (1 ≤ n) × (n ≤ length (drop (pieces_len pieces) text)) × (class_in language (take n (drop (pieces_len pieces) text)) ≡ Some word.LineEnd)
  sound = front_sound (class_in language) (drop (pieces_len pieces) text) word.LineEnd n found

  inside : pieces_len pieces + n ≤ length text
  inside = omega (arith, sound.1, length-drop (pieces_len pieces) text, sound.0)

  len : length so_far ≡ pieces_len pieces + n
  len = length-take-le (pieces_len pieces + n) text inside

  line_text : drop (pieces_len pieces) so_far ≡ take n (drop (pieces_len pieces) text)
  line_text = drop-take (pieces_len pieces) n text

  line_len : length (drop (pieces_len pieces) so_far) ≡ n
  line_len = omega (arith, length-drop (pieces_len pieces) so_far, len)

  -- its last byte is an LF
  pub ends : ends_with nat_eq so_far (codes "\n") ≡ true
  ends =
      ap (λ (t : Text). ends_with nat_eq t (codes "\n")) (sym (take-append-drop (pieces_len pieces) so_far))
      ∙ ends_after (take (pieces_len pieces) so_far) (drop (pieces_len pieces) so_far) (omega (arith, line_len, sound.0))
      ∙ ap (λ (t : Text). ends_with nat_eq t (codes "\n")) line_text
      ∙ line_end_ends (drop (pieces_len pieces) text) n found

  whole : so_far ++ drop (pieces_len pieces + n) text ≡ text
  whole = take-append-drop (pieces_len pieces + n) text

  before : pieces_len pieces < length so_far
  before = omega (arith, len, sound.0)

  reads_short : IsReading language history so_far pieces
  reads_short = reading_shortened history so_far (drop (pieces_len pieces + n) text) pieces (ends_line_of so_far ends) (subst (λ (t : Text). IsReading language history t pieces) (sym whole) reads) before

  found_short : longest_front (class_in language) (drop (pieces_len pieces) so_far) ≡ Some (word.LineEnd, n)
  found_short =
      let left : drop (pieces_len pieces) text ≡ drop (pieces_len pieces) so_far ++ drop (pieces_len pieces + n) text =
      ap (drop (pieces_len pieces)) (sym whole) ∙ drop-append-le (pieces_len pieces) so_far (drop (pieces_len pieces + n) text) (omega (arith, before)) in
      sym (longest_front_append (drop (pieces_len pieces) so_far) (drop (pieces_len pieces + n) text) (ends_line_drop (pieces_len pieces) so_far before (ends_line_of so_far ends))) ∙ ap (longest_front (class_in language)) (sym left) ∙ found

  stands_short : next_step language before_line (drop (pieces_len pieces) so_far) ≡ Stands (last_piece n)
  stands_short =
      let none : drop n (drop (pieces_len pieces) so_far) ≡ [] = drop_of_length-le (drop (pieces_len pieces) so_far) (omega (arith, line_len)) in
      (line_laid before_line (drop (pieces_len pieces) so_far) n begun counted found_short).step
      ∙ ap (λ (t : Text). margin_step n (line_of n) (open_widths before_line.widths) (margin_of t)) none
      ∙ ap (margin_step n (line_of n) (open_widths before_line.widths)) none_margin
      ∙ blank_step n (line_of n) (open_widths before_line.widths) [] 0

  none_open : open_fstring 0 before_line.tokens ≡ None
  unfolding mode_after
  none_open = outside_none _ (ap is_outside (outside (mode_after before_line.tokens) (is_balanced before_line.tokens) counted))

  balanced : is_balanced before_line.tokens ≡ true
  balanced = subst (λ (m : Mode). counts m (is_balanced before_line.tokens) ≡ true) (outside (mode_after before_line.tokens) (is_balanced before_line.tokens) counted) counted

  -- the line end is its last piece
  pub longest : IsLongestReading language history so_far (pieces ++ last_piece n ∷ []) Ends
  longest =
      let none : drop (last_piece n).len (drop (pieces_len pieces) so_far) ≡ [] = drop_of_length-le (drop (pieces_len pieces) so_far) (omega (arith, line_len)) in
      let over = stops_here language (after before_line (last_piece n)) (drop (last_piece n).len (drop (pieces_len pieces) so_far)) Ends (ap (next_step language (after before_line (last_piece n))) none ∙ line_ends before_line n none_open) (λ piece e. cc) in
      longest_append language history so_far pieces (last_piece n ∷ []) Ends reads_short (longest_onward language before_line (drop (pieces_len pieces) so_far) (last_piece n) [] Ends stands_short over)

  pub is_cut : is_line_cut_after history so_far ≡ true
  is_cut =
      let between = ap is_between_lines (past_append history pieces (last_piece n ∷ [])) ∙ line_between before_line n none_open balanced in
      line_cut_by history so_far (pieces ++ last_piece n ∷ []) Ends longest ∙ rw (between, ends) refl

  pub no_fault : (outcome_after history so_far).fault ≡ None
  no_fault = ap (λ (o : Outcome). o.fault) (after_by history so_far (pieces ++ last_piece n ∷ []) Ends longest).0

  -- its lexemes

  abbrev closed_pieces : List Piece
  closed_pieces = pieces ++ last_piece n ∷ []

  abbrev end : ℕ
  end = pieces_len pieces + n

  abbrev open_count : ℕ
  open_count = length (open_widths before_line.widths)

  closed_len : pieces_len closed_pieces ≡ end
  closed_len = omega (arith, pieces_append pieces (last_piece n ∷ []), sum_by-cons (λ (piece : Piece). piece.len) (last_piece n) [])

  closed_widths : (after_all history closed_pieces).widths ≡ before_line.widths
  unfolding after
  closed_widths = ap (λ (h : History). h.widths) (past_append history pieces (last_piece n ∷ [])) ∙ append-nil before_line.widths

  closing_is : closing (pieces_len closed_pieces) (after_all history closed_pieces) ≡ record { begin = end; node = Newline; end = end } ∷ replicate open_count (dedent_at end)
  closing_is =
      ap (λ k. closing k (after_all history closed_pieces)) closed_len
      ∙ ap (λ (ws : List ℕ). record { begin = end; node = Newline; end = end } ∷ replicate (length (open_widths ws)) (dedent_at end)) closed_widths

  pub lexemes_so_far : without_last_newline (outcome_after history so_far).lexemes ≡ lexemes_along 0 pieces ++ (moved (0 + pieces_len pieces) (record { begin = 0; node = Newline; end = n }) ∷ replicate open_count (dedent_at end))
  lexemes_so_far =
      let line : Lexeme = moved (0 + pieces_len pieces) (record { begin = 0; node = Newline; end = n }) in
      let all : (outcome_after history so_far).lexemes ≡ lexemes_along 0 closed_pieces ++ closing (pieces_len closed_pieces) (after_all history closed_pieces) =
      ap (λ (o : Outcome). o.lexemes) (after_by history so_far closed_pieces Ends longest).0 in
      ap without_last_newline (all ∙ ap (λ ls. lexemes_along 0 closed_pieces ++ ls) closing_is)
      ∙ last_left_out (lexemes_along 0 closed_pieces) (record { begin = end; node = Newline; end = end }) (replicate open_count (dedent_at end)) refl (none_repeated open_count (dedent_at end) refl)
      ∙ ap (λ ls. ls ++ replicate open_count (dedent_at end)) (along_append 0 pieces (last_piece n ∷ []))
      ∙ append_assoc (lexemes_along 0 pieces) (line ∷ []) (replicate open_count (dedent_at end))

-- A line that begins plainly

plain_byte : (b : ℕ) (bs : Text) → begins_plainly (b ∷ bs) ≡ true → (is_blank b ≡ false) × (is_lf b ≡ false) × ((b == byte "#") ≡ false)
unfolding begins_plainly
plain_byte b bs h = go (is_blank b) (is_lf b) (b == byte "#") h
  where
    go : (blank feed sharp : Bool) → not (blank || feed || sharp) ≡ true → (blank ≡ false) × (feed ≡ false) × (sharp ≡ false)
    go true feed sharp h = cc
    go false true sharp h = cc
    go false false true h = cc
    go false false false h = (refl, refl, refl)

no_comment : (b : ℕ) (bs : Text) → is_blank b ≡ false → (b == byte "#") ≡ false → is_comment_only (b ∷ bs) ≡ false
no_comment b bs blank sharp = rw (blank) sharp

plain_lines : (b : ℕ) (bs : Text) → is_blank b ≡ false → is_lf b ≡ false → (b == byte "#") ≡ false → comment_lines (b ∷ bs) ≡ []
unfolding lines
plain_lines b bs blank feed sharp = rw feed (go (lines bs))
  where
    go : (more : List Text) → take_while is_comment_only (onto_first b more) ≡ []
    go [] = rw (no_comment b [] blank sharp) refl
    go (line ∷ more) = rw (no_comment b line blank sharp) refl

plain_margin : (text : Text) → begins_plainly text ≡ true → margin_of text ≡ record { comments = []; at = 0; blanks = []; remainder = text }
unfolding begins_plainly margin_of
plain_margin [] h = cc
plain_margin (b ∷ bs) h =
    let plain = plain_byte b bs h in
    rw (plain_lines b bs plain.0 plain.1 plain.2, plain.0) refl

-- all open widths are positive
all_positive : (widths : List ℕ) → count_by (nat_lt 0) (open_widths widths) ≡ length (open_widths widths)
unfolding open_widths
all_positive [] = refl
all_positive (w ∷ widths) = go (nat_lt 0 w) (list_all (nat_lt w) widths) refl (all_positive widths)
  where
    go : (positive kept : Bool) → nat_lt 0 w ≡ positive → count_by (nat_lt 0) (open_widths widths) ≡ length (open_widths widths)
        → count_by (nat_lt 0) (if positive && kept then w ∷ open_widths widths else open_widths widths) ≡ length (if positive && kept then w ∷ open_widths widths else open_widths widths)
    go true true e more =
        let one : ◌≡◌ {A = ℕ} (cond (nat_lt 0 w) 1 0) 1 = rw e refl in
        sum_by-cons (λ v. cond (nat_lt 0 v) 1 0) w (open_widths widths) ∙ omega (arith, more, one)
    go true false e more = more
    go false kept e more = more

-- the line end before such a line, and a `Dedent` for each open width
plain_step : (n : ℕ) (widths : List ℕ) (text : Text) → begins_plainly text ≡ true
    → margin_step n (line_of n) (open_widths widths) (margin_of text) ≡ Stands (record { len = n + 0; lexemes = line_of n ++ map (moved n) (replicate (length (open_widths widths)) (dedent_at 0)); width = Some 0; sort = Layout })
unfolding margin_step indentation fits begins_plainly
plain_step n widths [] h = cc
plain_step n widths (b ∷ bs) h =
    let plain = plain_byte b bs h in
    rw (plain_margin (b ∷ bs) h, plain.1, all_positive widths) refl

map_repeated : (k n : ℕ) (x : Lexeme) → map (moved n) (replicate k x) ≡ replicate k (moved n x)
map_repeated zero n x = refl
map_repeated (suc k) n x = ap (λ ls. moved n x ∷ ls) (map_repeated k n x)

-- Two lists that begin with `Dedent`s alone, and go on with none, begin with the same.
same_dedents : (xs ys more other : List Lexeme) → list_all (λ (lexeme : Lexeme). is_dedent lexeme.node) xs ≡ true → list_all (λ (lexeme : Lexeme). is_dedent lexeme.node) ys ≡ true
    → begins_undented more ≡ true → begins_undented other ≡ true → xs ++ more ≡ ys ++ other → xs ≡ ys
same_dedents [] [] more other one two h k e = refl
same_dedents [] (y ∷ ys) more other one two h k e =
    let parts = and_parts (is_dedent y.node) (list_all (λ (lexeme : Lexeme). is_dedent lexeme.node) ys) two in
    let both : not (is_dedent y.node) ≡ true = sym (ap begins_undented e) ∙ h in
    absurd (both_ways (is_dedent y.node) (not-true (is_dedent y.node) both) parts.0)
same_dedents (x ∷ xs) [] more other one two h k e =
    let parts = and_parts (is_dedent x.node) (list_all (λ (lexeme : Lexeme). is_dedent lexeme.node) xs) one in
    let both : not (is_dedent x.node) ≡ true = ap begins_undented e ∙ k in
    absurd (both_ways (is_dedent x.node) (not-true (is_dedent x.node) both) parts.0)
same_dedents (x ∷ xs) (y ∷ ys) more other one two h k e =
    let same : x ≡ y = cc in
    let rest : xs ++ more ≡ ys ++ other = cc in
    let first = and_parts (is_dedent x.node) (list_all (λ (lexeme : Lexeme). is_dedent lexeme.node) xs) one in
    let second = and_parts (is_dedent y.node) (list_all (λ (lexeme : Lexeme). is_dedent lexeme.node) ys) two in
    ap (λ z. z ∷ xs) same ∙ ap (λ zs. y ∷ zs) (same_dedents xs ys more other first.1 second.1 h k rest)

all_dedents : (k at : ℕ) → list_all (λ (lexeme : Lexeme). is_dedent lexeme.node) (replicate k (dedent_at at)) ≡ true
all_dedents zero at = refl
all_dedents (suc k) at = all_dedents k at

-- The laws

-- where such a `Newline` ends
newline_end : (history : History) (text : Text) (front : List Lexeme) (newline : Lexeme) (rest : List Lexeme) (here : NewlineAt history text 0 front newline rest) → newline.end ≡ pieces_len here.earlier + here.n
newline_end history text front newline rest here = omega (arith, ap (λ (l : Lexeme). l.end) here.newline_is)

-- the `Dedent`s after it, where a line begins plainly
dedents_are : (history : History) (text : Text) (front : List Lexeme) (newline : Lexeme) (dedents more : List Lexeme) (here : NewlineAt history text 0 front newline (dedents ++ more))
    → list_all (λ (lexeme : Lexeme). is_dedent lexeme.node) dedents ≡ true → begins_undented more ≡ true → begins_plainly (drop here.n (drop (pieces_len here.earlier) text)) ≡ true
    → dedents ≡ replicate (length (open_widths (after_all history here.earlier).widths)) (dedent_at (pieces_len here.earlier + here.n))
dedents_are history text front newline dedents more here all undented plain =
    let k : ℕ = length (open_widths (after_all history here.earlier).widths) in
    let end : ℕ = pieces_len here.earlier + here.n in
    let is : Stands here.piece ≡ Stands (record { len = here.n + 0; lexemes = line_of here.n ++ map (moved here.n) (replicate k (dedent_at 0)); width = Some 0; sort = Layout }) =
    sym here.stands ∙ plain_step here.n (after_all history here.earlier).widths (drop here.n (drop (pieces_len here.earlier) text)) plain in
    let lexemes : line_of here.n ++ here.others ≡ line_of here.n ++ map (moved here.n) (replicate k (dedent_at 0)) = sym here.lexemes ∙ ap lexemes_of is in
    let others : here.others ≡ map (moved here.n) (replicate k (dedent_at 0)) = cc in
    let at : 0 + pieces_len here.earlier + (here.n + 0) ≡ end = omega arith in
    let there : map (moved (0 + pieces_len here.earlier)) here.others ≡ replicate k (dedent_at end) =
    ap (map (moved (0 + pieces_len here.earlier))) (others ∙ map_repeated k here.n (dedent_at 0)) ∙ map_repeated k (0 + pieces_len here.earlier) (moved here.n (dedent_at 0)) ∙ ap (λ m. replicate k (dedent_at m)) at in
    same_dedents dedents (replicate k (dedent_at end)) more here.more all (all_dedents k end) undented here.undented (here.rest_is ∙ ap (λ ls. ls ++ here.more) there)
  where
    lexemes_of : Step → List Lexeme
    lexemes_of (Stands piece) = piece.lexemes
    lexemes_of step = []

-- Where a `Newline` of some bytes ends, and a line begins plainly, the rest of a text so far is a cut between lines.
pub newlines_cut_after : (history : History) (text : Text) (front : List Lexeme) (newline : Lexeme) (dedents more : List Lexeme) → (outcome_after history text).lexemes ≡ front ++ (newline ∷ (dedents ++ more))
    → is_newline newline.node ≡ true → newline.begin < newline.end → list_all (λ (lexeme : Lexeme). is_dedent lexeme.node) dedents ≡ true → begins_undented more ≡ true → begins_plainly (drop newline.end text) ≡ true
    → (is_line_cut_after history (take newline.end text) ≡ true) × (without_last_newline (outcome_after history (take newline.end text)).lexemes ≡ front ++ (newline ∷ dedents))
newlines_cut_after history text front newline dedents more e is some all undented plain =
    let here = newline_found history text front newline (dedents ++ more) e is some in
    let end : newline.end ≡ pieces_len here.earlier + here.n = newline_end history text front newline (dedents ++ more) here in
    let left : drop newline.end text ≡ drop here.n (drop (pieces_len here.earlier) text) = ap (λ k. drop k text) end ∙ drop-sum (pieces_len here.earlier) here.n text in
    let short = dedents_are history text front newline dedents more here all undented (sym (ap begins_plainly left) ∙ plain) in
    let so_far : take newline.end text ≡ take (pieces_len here.earlier + here.n) text = ap (λ k. take k text) end in (
      ap (is_line_cut_after history) so_far ∙ is_cut history text here.earlier here.n here.reads here.begun here.counted here.found,
      ap (λ (t : Text). without_last_newline (outcome_after history t).lexemes) so_far ∙ lexemes_so_far history text here.earlier here.n here.reads here.begun here.counted here.found
          ∙ ap (λ ls. ls ++ (moved (0 + pieces_len here.earlier) (record { begin = 0; node = Newline; end = here.n }) ∷ replicate (length (open_widths (after_all history here.earlier).widths)) (dedent_at (pieces_len here.earlier + here.n)))) (sym here.front_is)
          ∙ ap (λ (l : Lexeme). front ++ (l ∷ replicate (length (open_widths (after_all history here.earlier).widths)) (dedent_at (pieces_len here.earlier + here.n)))) (sym here.newline_is)
          ∙ ap (λ ls. front ++ (newline ∷ ls)) (sym short),
    )

-- One at its end makes it a cut, without a fault.
pub last_newline_cuts_after : (history : History) (text : Text) (front : List Lexeme) (newline : Lexeme) (more : List Lexeme) → (outcome_after history text).lexemes ≡ front ++ (newline ∷ more)
    → is_newline newline.node ≡ true → newline.begin < newline.end → newline.end ≡ length text → (is_line_cut_after history text ≡ true) × ((outcome_after history text).fault ≡ None)
last_newline_cuts_after history text front newline more e is some last =
    let here = newline_found history text front newline more e is some in
    let end : pieces_len here.earlier + here.n ≡ length text = sym (newline_end history text front newline more here) ∙ last in
    let whole : text ≡ take (pieces_len here.earlier + here.n) text = sym (ap (λ k. take k text) end ∙ take-length text) in (
      ap (is_line_cut_after history) whole ∙ is_cut history text here.earlier here.n here.reads here.begun here.counted here.found,
      ap (λ (t : Text). (outcome_after history t).fault) whole ∙ no_fault history text here.earlier here.n here.reads here.begun here.counted here.found,
    )

pub newlines_cut : NewlinesCut
unfolding is_line_cut
newlines_cut text front newline dedents more e is some all undented plain =
    let cuts = newlines_cut_after nothing text front newline dedents more (ap (λ (o : Outcome). o.lexemes) (outcome_after_nothing text) ∙ e) is some all undented plain in
    (cuts.0, sym (ap (λ (o : Outcome). without_last_newline o.lexemes) (outcome_after_nothing (take newline.end text))) ∙ cuts.1)

pub last_newline_cuts : LastNewlineCuts
unfolding is_line_cut
last_newline_cuts text front newline more e is some last =
    let cuts = last_newline_cuts_after nothing text front newline more (ap (λ (o : Outcome). o.lexemes) (outcome_after_nothing text) ∙ e) is some last in
    (cuts.0, sym (ap (λ (o : Outcome). o.fault) (outcome_after_nothing text)) ∙ cuts.1)
