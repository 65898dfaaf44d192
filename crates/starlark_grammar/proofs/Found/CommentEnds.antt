-- No comment ends where a cut between lines does.
use Rattle.std.proofs.Common.{◌≡◌, ℕ, zero, suc, ◌+◌, ◌≤◌, ◌<◌, Bool, true, false, not, List, [], ◌∷◌, ◌++◌, map, length, take, drop, refl, ap, sym, subst, ◌∙◌, arith, append-nil, one-add, ◌-◌, cond, Option, Some, None, ◌⊎◌, inl, inr}
use Rattle.std.specs.List.{AllByRecursion, prefix_len}
use Rattle.std.specs.Prelude.{◌&&◌, ◌==◌, if◌then◌else◌, count_by, replicate, sum_by, take_while, nat_lt}
use Rattle.std.proofs.lemmas.Bool.Decides.{nat_tests}
use Rattle.std.proofs.lemmas.List.{length-drop}
use Rattle.std.proofs.lemmas.List.Sums.{sum_by-cons}
use Rattle.starlark_grammar.specs.Cuts.{is_layout}
use Rattle.starlark_grammar.specs.Found.{at_line}
use Rattle.starlark_grammar.specs.Joining.{without_last_newline}
use Rattle.starlark_grammar.specs.Longest.{IsReading}
use Rattle.starlark_grammar.specs.Margins.{Margin, open_widths, comment_of, comment_part, comments_from, fits, has_tab, indentation, is_comment_only, is_content, is_lf, is_widest, lines, margin_len, margin_of, width_of, without_return}
use Rattle.starlark_grammar.specs.Pieces.{Fails, Layout, Piece, Stands, margin_step}
use Rattle.starlark_grammar.specs.Reading.{History, after, after_all, lexemes_along, next_step, outcome_after, pieces_len}
use Rattle.starlark_grammar.specs.KeptLines.{ends_by_comment, is_comment_to}
use Rattle.starlark_grammar.specs.Tokens.{Dedent, Indent, Indentation, InvalidTab, Lexeme, Newline, moved}
use Rattle.starlark_grammar.specs.Words.{Text, language}
use Rattle.starlark_grammar.proofs.Joining.Followed.{ends_line, ends_line_drop, ends_line_made}
use Rattle.starlark_grammar.proofs.Order.OrderedLexemes.{Split, first_line}
use Rattle.starlark_grammar.proofs.Reading.Onward.{first_step_after, pieces_after}
use Rattle.starlark_grammar.proofs.Reading.Readings.{one_least, piece_fits, started}
use Rattle.starlark_grammar.proofs.Reading.Steps.{is_nothing}
use Rattle.starlark_grammar.proofs.Recovery.ClosedBlocks.{dedents, open_count}
use Rattle.starlark_grammar.proofs.Recovery.EarlierLexemes.{EndBy, end_moved, piece_ends}
use Rattle.starlark_grammar.proofs.Recovery.LineCuts.{AfterCut, AtLine, BeforeLine, LineCut, line_closes, line_cut, line_cut_lexemes}
use Rattle.starlark_grammar.proofs.Recovery.NewlinePieces.{line_piece}

-- Lexemes that are no comment that ends at an offset or later

abbrev IsShort : ℕ → Lexeme → Type 0
IsShort n lexeme = (more : ℕ) → is_comment_to (n + more) lexeme ≡ false

abbrev AreShort : ℕ → List Lexeme → Type 0
AreShort n lexemes = AllByRecursion (IsShort n) lexemes

short_by_end : (n : ℕ) (lexeme : Lexeme) → lexeme.end < n → IsShort n lexeme
short_by_end n lexeme less = λ more. go _ (lexeme.end == n + more) (other more)
  where
    other : (more : ℕ) → (lexeme.end == n + more) ≡ false
    other more = grind (arith, nat_tests, less)

    go : (comment test : Bool) → test ≡ false → (comment && test) ≡ false
    go true test e = e
    go false test e = refl

short_append : (n : ℕ) (one other : List Lexeme) → AreShort n one → AreShort n other → AreShort n (one ++ other)
short_append n [] other h k = k
short_append n (x ∷ one) other h k = (h.0, short_append n one other h.1 k)

short_by_ends : (n to : ℕ) (lexemes : List Lexeme) → to < n → EndBy to lexemes → AreShort n lexemes
short_by_ends n to [] less h = tt
short_by_ends n to (lexeme ∷ lexemes) less h = let first = h.0 in (short_by_end n lexeme (omega (arith, less, first)), short_by_ends n to lexemes less h.1)

-- what is a comment stays one where it is moved
short_moved : (at n : ℕ) (lexemes : List Lexeme) → AreShort n lexemes → AreShort (at + n) (map (moved at) lexemes)
short_moved at n [] h = tt
short_moved at n (lexeme ∷ lexemes) h = (λ more. by _ (same more) (h.0 more), short_moved at n lexemes h.1)
  where
    same : (more : ℕ) → (at + lexeme.end == at + n + more) ≡ (lexeme.end == n + more)
    same more = grind (arith, nat_tests)

    by : {one other : Bool} (comment : Bool) → one ≡ other → (comment && other) ≡ false → (comment && one) ≡ false
    by true e h = e ∙ h
    by false e h = refl

short_none : (n more : ℕ) (lexemes : List Lexeme) → AreShort n lexemes → ends_by_comment (n + more) lexemes ≡ false
short_none n more [] h = refl
short_none n more (lexeme ∷ []) h = h.0 more
short_none n more (lexeme ∷ next ∷ lexemes) h = short_none n more (next ∷ lexemes) h.1

short_dedents : (n at count : ℕ) → AreShort n (replicate count (record { begin = at; node = Dedent; end = at }))
short_dedents n at zero = tt
short_dedents n at (suc count) = (λ more. refl, short_dedents n at count)

-- Comment-only lines

pub return_less : (text : Text) → length (without_return text) ≤ length text
return_less [] = omega arith
return_less (b ∷ []) = go (b == 13)
  where
    go : (test : Bool) → length (if test then [] else b ∷ []) ≤ 1
    go true = omega arith
    go false = omega arith
return_less (b ∷ c ∷ bs) = let rest = return_less (c ∷ bs) in omega (arith, rest)

taken_less : (text : Text) → ends_line text ≡ true → length (take_while (λ b. not (is_lf b)) text) < length text
taken_less [] h = cc
taken_less (b ∷ []) h = rw h omega arith
taken_less (b ∷ c ∷ bs) h = go (is_lf b) (taken_less (c ∷ bs) h)
  where
    go : (feed : Bool) → length (take_while (λ b. not (is_lf b)) (c ∷ bs)) < length (c ∷ bs) → length (take (cond (not feed) (1 + prefix_len (λ b. not (is_lf b)) (c ∷ bs)) 0) (b ∷ c ∷ bs)) < length (b ∷ c ∷ bs)
    go true less = omega arith
    go false less =
        let same : length (take (1 + prefix_len (λ b. not (is_lf b)) (c ∷ bs)) (b ∷ c ∷ bs)) ≡ suc (length (take_while (λ b. not (is_lf b)) (c ∷ bs))) = ap (λ n. length (take n (b ∷ c ∷ bs))) (one-add (prefix_len (λ b. not (is_lf b)) (c ∷ bs))) in
        omega (arith, same, less)

part_less : (line : Text) → ends_line line ≡ true → length (comment_part line) < length line
part_less line h = let less = taken_less line h in let most = return_less (take_while (λ b. not (is_lf b)) line) in omega (arith, less, most)

abbrev lines_len : List Text → ℕ
lines_len ls = sum_by (λ (line : Text). length line) ls

line_of_rest : (front : Text) (b : ℕ) (bs : Text) → ends_line (front ++ b ∷ bs) ≡ ends_line (b ∷ bs)
line_of_rest [] b bs = refl
line_of_rest (c ∷ []) b bs = refl
line_of_rest (c ∷ d ∷ front) b bs = line_of_rest (d ∷ front) b bs

-- a text of whole lines
abbrev IsWhole : Text → Type 0
IsWhole text = (text ≡ []) ⊎ (ends_line text ≡ true)

rest_whole : (text front rest : Text) → text ≡ front ++ rest → IsWhole text → IsWhole rest
rest_whole text front [] e h = inl refl
rest_whole text front (b ∷ bs) e (inr ends) = inr (sym (line_of_rest front b bs) ∙ ap ends_line (sym e) ∙ ends)
rest_whole text [] (b ∷ bs) e (inl none) = cc
rest_whole text (c ∷ front) (b ∷ bs) e (inl none) = cc

line_ends : (text line : Text) (more : List Text) → Split text line more → lines text ≡ line ∷ more → IsWhole text → ends_line line ≡ true
unfolding lines
line_ends text line more split e whole = by split.ended whole
  where
    by : (split.rest ≡ []) ⊎ ((front : Text) × (line ≡ front ++ 10 ∷ [])) → IsWhole text → ends_line line ≡ true
    by (inr found) whole = ap ends_line found.1 ∙ ends_line_made found.0
    by (inl none) (inr ends) =
        let same : text ≡ line = split.whole ∙ ap (λ (t : Text). line ++ t) none ∙ append-nil line in
        ap ends_line (sym same) ∙ ends
    by (inl none) (inl empty) = let wrong : [] ≡ line ∷ more = ap lines (sym empty) ∙ e in cc

comments_short : (at : ℕ) (text : Text) (ls : List Text) → lines text ≡ ls → IsWhole text → AreShort (at + lines_len (take_while is_comment_only ls)) (comments_from at (take_while is_comment_only ls))
comments_short at text [] e whole = tt
comments_short at text (line ∷ more) e whole = by (is_comment_only line) (comments_short (at + length line) split.rest more split.left (rest_whole text line split.rest split.whole whole))
  where
    split : Split text line more
    split = first_line text line more e

    by : (test : Bool) → AreShort (at + length line + lines_len (take_while is_comment_only more)) (comments_from (at + length line) (take_while is_comment_only more))
        → AreShort (at + lines_len (take (cond test (1 + prefix_len is_comment_only more) 0) (line ∷ more))) (comments_from at (take (cond test (1 + prefix_len is_comment_only more) 0) (line ∷ more)))
    by false rest = tt
    by true rest =
        let total : at + length line + lines_len (take_while is_comment_only more) ≡ at + lines_len (line ∷ take_while is_comment_only more) = omega (arith, sum_by-cons (λ (l : Text). length l) line (take_while is_comment_only more)) in
        let less = part_less line (line_ends text line more split e whole) in
        subst (λ n. AreShort (at + lines_len (take n (line ∷ more))) (comments_from at (take n (line ∷ more)))) (sym (one-add (prefix_len is_comment_only more)))
        (short_by_end (at + lines_len (line ∷ take_while is_comment_only more)) (comment_of at line) (omega (arith, total, less)), subst (λ n. AreShort n (comments_from (at + length line) (take_while is_comment_only more))) total rest)

margin_short : (text : Text) → IsWhole text → AreShort (margin_of text).at (margin_of text).comments
unfolding margin_of
margin_short text whole =
    let none : 0 + lines_len (take_while is_comment_only (lines text)) ≡ lines_len (take_while is_comment_only (lines text)) = omega arith in
    subst (λ n. AreShort n (comments_from 0 (take_while is_comment_only (lines text)))) none (comments_short 0 text (lines text) refl whole)

-- Pieces

short_more : (n to : ℕ) (lexemes : List Lexeme) → n ≤ to → AreShort n lexemes → AreShort to lexemes
short_more n to [] less h = tt
short_more n to (lexeme ∷ lexemes) less h = (λ more. let same : n + (to - n + more) ≡ to + more = omega (arith, less) in subst (λ k. is_comment_to k lexeme ≡ false) same (h.0 (to - n + more)), short_more n to lexemes less h.1)

indentation_short : (n : ℕ) (levels : List ℕ) (margin : Margin) → AreShort n (indentation levels margin)
unfolding indentation
indentation_short n levels margin = go (nat_lt 0 (width_of margin) && is_widest (width_of margin) levels)
  where
    go : (test : Bool) → AreShort n (if test then record { begin = margin.at; node = Indent; end = margin_len margin } ∷ [] else replicate (count_by (nat_lt (width_of margin)) levels) (record { begin = margin.at; node = Dedent; end = margin.at }))
    go true = (λ more. refl, tt)
    go false = short_dedents n margin.at (count_by (nat_lt (width_of margin)) levels)

step_short : (len : ℕ) (line : List Lexeme) (levels : List ℕ) (margin : Margin) (piece : Piece) → ((n : ℕ) → AreShort n line) → AreShort margin.at margin.comments → margin_step len line levels margin ≡ Stands piece → AreShort piece.len piece.lexemes
unfolding margin_step
step_short len line levels margin piece first comments e = go (not (is_content margin.remainder)) (has_tab margin) (fits (width_of margin) levels) (indentation levels margin) (indentation_short (margin_len margin) levels margin) e
  where
    made : List Lexeme → Option ℕ → Piece
    made indents width = record { len = len + margin_len margin; lexemes = line ++ map (moved len) (margin.comments ++ indents); width = width; sort = Layout }

    stands : (indents : List Lexeme) (width : Option ℕ) → AreShort (margin_len margin) indents → Stands (made indents width) ≡ Stands piece → AreShort piece.len piece.lexemes
    stands indents width h e =
        let same : made indents width ≡ piece = cc in
        subst (λ (p : Piece). AreShort p.len p.lexemes) same
        (short_append (len + margin_len margin) line (map (moved len) (margin.comments ++ indents)) (first (len + margin_len margin))
        (short_moved len (margin_len margin) (margin.comments ++ indents) (short_append (margin_len margin) margin.comments indents (short_more margin.at (margin_len margin) margin.comments (omega arith) comments) h)))

    go : (blank tab fitting : Bool) (indents : List Lexeme) → AreShort (margin_len margin) indents
        → (if blank then Stands (made [] None) else (if tab then Fails (record { begin = 0; node = InvalidTab; end = 0 }) else (if fitting then Stands (made indents (Some (width_of margin))) else Fails (record { begin = 0; node = Indentation; end = len + margin_len margin })))) ≡ Stands piece → AreShort piece.len piece.lexemes
    go true tab fitting indents h e = stands [] None tt e
    go false true fitting indents h e = cc
    go false false true indents h e = stands indents (Some (width_of margin)) h e
    go false false false indents h e = cc

drop_whole : (n : ℕ) (text : Text) → ends_line text ≡ true → IsWhole (drop n text)
drop_whole zero text h = inr h
drop_whole (suc n) [] h = inl refl
drop_whole (suc n) (b ∷ []) h = by n
  where
    by : (n : ℕ) → IsWhole (drop n [])
    by zero = inl refl
    by (suc n) = inl refl
drop_whole (suc n) (b ∷ c ∷ bs) h = drop_whole n (c ∷ bs) h

-- the last piece of a cut between lines
last_short : (history : History) (text : Text) (piece : Piece) → ends_line text ≡ true → next_step language history text ≡ Stands piece → is_layout piece.sort ≡ true → AreShort piece.len piece.lexemes
last_short history text piece ends e laid = by (is_nothing history.before) refl
  where
    by : (none : Bool) → is_nothing history.before ≡ none → AreShort piece.len piece.lexemes
    by true is = step_short 0 [] (open_widths history.widths) (margin_of text) piece (λ n. tt) (margin_short text (inr ends)) (sym (first_step_after history text is) ∙ e)
    by false is =
        let line = line_piece history text piece is e laid in
        step_short line.n (record { begin = 0; node = Newline; end = line.n } ∷ []) _ (margin_of (drop line.n text)) piece (λ n. (λ more. refl, tt)) (margin_short (drop line.n text) (drop_whole line.n text ends)) line.stands

along_short : (at : ℕ) (history : History) (text : Text) (pieces : List Piece) → ends_line text ≡ true → IsReading language history text pieces → pieces_len pieces ≡ length text → is_layout (after_all history pieces).before ≡ true
    → AreShort (at + length text) (lexemes_along at pieces)
unfolding after
along_short at history text [] ends reads reach laid = tt
along_short at history text (piece ∷ []) ends reads reach laid =
    let len : piece.len ≡ length text = omega (arith, reach, sum_by-cons (λ (piece : Piece). piece.len) piece []) in
    subst (λ n. AreShort (at + n) (map (moved at) piece.lexemes ++ [])) len (short_append (at + piece.len) (map (moved at) piece.lexemes) [] (short_moved at piece.len piece.lexemes (last_short history text piece ends reads.0 (sort laid))) tt)
  where
    sort : is_layout (after history piece).before ≡ true → is_layout piece.sort ≡ true
    sort h = h
along_short at history text (piece ∷ next ∷ pieces) ends reads reach laid =
    let total = sum_by-cons (λ (piece : Piece). piece.len) piece (next ∷ pieces) in
    let begun = started history piece (piece_fits language history text piece reads.0).sort in
    let fits = piece_fits language (after history piece) (drop piece.len text) next reads.1.0 in
    let less : piece.len < length text = omega (arith, total, reach, one_least (after history piece).before begun, fits.some, sum_by-cons (λ (piece : Piece). piece.len) next pieces) in
    let whole : at + piece.len + length (drop piece.len text) ≡ at + length text = omega (arith, less, length-drop piece.len text) in
    short_append (at + length text) (map (moved at) piece.lexemes) (lexemes_along (at + piece.len) (next ∷ pieces))
    (short_by_ends (at + length text) (at + piece.len) (map (moved at) piece.lexemes) (omega (arith, less)) (end_moved at piece.len piece.lexemes (piece_ends history text piece reads.0)))
    (subst (λ n. AreShort n (lexemes_along (at + piece.len) (next ∷ pieces))) whole
    (along_short (at + piece.len) (after history piece) (drop piece.len text) (next ∷ pieces) (ends_line_drop piece.len text less ends) reads.1 (omega (arith, reach, total, length-drop piece.len text)) laid))

cut_comments : (history : History) (text : Text) (pieces : List Piece) (more : ℕ) → LineCut history text pieces → ends_by_comment (length text + more) (without_last_newline (outcome_after history text).lexemes) ≡ false
cut_comments history text pieces more cut =
    let count = open_count (after_all history pieces) in
    ap (ends_by_comment (length text + more)) (line_cut_lexemes history text pieces cut)
    ∙ short_none (length text) more (lexemes_along 0 pieces ++ dedents count (length text))
    (short_append (length text) (lexemes_along 0 pieces) (dedents count (length text)) along (short_dedents (length text) (length text) count))
  where
    none : 0 + length text ≡ length text
    none = omega arith

    along : AreShort (length text) (lexemes_along 0 pieces)
    along = subst (λ n. AreShort n (lexemes_along 0 pieces)) none (along_short 0 history text pieces cut.ends cut.reads cut.reach cut.layout)

-- before a line no comment ends in that line
pub no_comment_after : (history : History) (text : Text) (more : ℕ) → BeforeLine history text → ends_by_comment (length text + more) (without_last_newline (outcome_after history text).lexemes) ≡ false
no_comment_after _ _ more (AfterCut history text cut) = cut_comments history text (pieces_after history text) more (line_cut history text cut)
no_comment_after _ _ more (AtLine widths) =
    let here = line_closes widths in
    let count = open_count (at_line widths) in
    ap (ends_by_comment (0 + more)) here.kept ∙ short_none 0 more (dedents count 0) (short_dedents 0 0 count)
