-- Only after a `Newline` or a comment may a text be cut.
use Rattle.std.proofs.Common.{◌≡◌, ℕ, ◌+◌, ◌≤◌, Bool, true, false, List, [], ◌∷◌, ◌++◌, map, length, take, drop, refl, ap, subst, sym, ◌∙◌, None, arith, append-nil}
use Rattle.std.specs.List.{list_all}
use Rattle.std.proofs.lemmas.Bool.{and_parts}
use Rattle.std.proofs.lemmas.List.{length-drop, length-take, length-take-le, map-append}
use Rattle.std.proofs.lemmas.List.Sums.{sum_by-cons}
use Rattle.starlark_c.specs.Endings.{lexemes_of}
use Rattle.starlark_c.specs.Inner.Filling.{ends_line}
use Rattle.starlark_c.proofs.CutTexts.{piece_at}
use Rattle.starlark_c.proofs.YieldedItems.{IsNext}
use Rattle.starlark_grammar.specs.Cuts.{is_clean_cut, is_layout, without_closing}
use Rattle.starlark_grammar.specs.Longest.{IsReading}
use Rattle.starlark_grammar.specs.Margins.{Margin, blanks_len, comment_lines, comments_from, is_content, margin_len, margin_of}
use Rattle.starlark_grammar.specs.Pieces.{Layout, Piece, Stands, margin_step}
use Rattle.starlark_grammar.specs.Reading.{History, after, after_all, lexemes_along, next_step, nothing, outcome, pieces_len, read, situation}
use Rattle.starlark_grammar.specs.Tokens.{Lexeme, Newline, Spanned, moved}
use Rattle.starlark_grammar.specs.Words.{Text, class_in, language}
use Rattle.starlark_grammar.specs.declared.class.Class.TheVariants as class
use Rattle.starlark_grammar.proofs.Joining.CleanCuts.{along_append, but_last, cut, past_append, pieces_append}
use Rattle.starlark_grammar.proofs.Joining.Joined.{CountedEnd, counted_end, margin_step_len}
use Rattle.starlark_grammar.proofs.Joining.LaidCuts.{split_last}
use Rattle.starlark_grammar.proofs.Joining.LineCuts.{kept_parts, next_reads}
use Rattle.starlark_grammar.proofs.Joining.Tabs.{first_step}
use Rattle.starlark_grammar.proofs.Reading.Readings.{piece_fits, started}
use Rattle.starlark_grammar.proofs.Reading.Steps.{is_nothing}
use Rattle.starlark_grammar.proofs.Words.Fronts.{front_sound}
use Rattle.starlark_lexemes.specs.CutAfter.{IsCutAfter}
use Rattle.starlark_token.specs.Lexemes.{shown_lexeme}
use Rattle.starlark_token.specs.TokenViews.{TokenView}

-- Lists whose last items end lines

abbrev is_line : Spanned TokenView → Bool
is_line lexeme = ends_line lexeme.node

all_last : (xs : List (Spanned TokenView)) (x : Spanned TokenView) → list_all is_line (xs ++ x ∷ []) ≡ true → is_line x ≡ true
all_last [] x all = (and_parts (is_line x) true all).0
all_last (y ∷ xs) x all = all_last xs x (and_parts (is_line y) (list_all is_line (xs ++ x ∷ [])) all).1

none_of_append : (xs ys : List (Spanned TokenView)) → [] ≡ xs ++ ys → ys ≡ []
none_of_append [] ys e = sym e
none_of_append (x ∷ xs) ys e = cc

last_of : (front : List (Spanned TokenView)) (x : Spanned TokenView) (xs ys : List (Spanned TokenView)) → front ++ x ∷ [] ≡ xs ++ ys → (ys ≡ [] → xs ≡ []) → list_all is_line ys ≡ true → is_line x ≡ true
last_of front x [] ys e some all = all_last front x (ap (list_all is_line) e ∙ all)
last_of [] x (y ∷ xs) ys e some all =
    let rest : [] ≡ xs ++ ys = cc in
    let none = some (none_of_append xs ys rest) in
    cc
last_of (z ∷ front) x (y ∷ xs) ys e some all =
    let rest : front ++ x ∷ [] ≡ xs ++ ys = cc in
    last_of front x xs ys rest (λ none. let no = some none in cc) all

all_append : (xs ys : List (Spanned TokenView)) → list_all is_line xs ≡ true → list_all is_line ys ≡ true → list_all is_line (xs ++ ys) ≡ true
all_append [] ys one other = other
all_append (x ∷ xs) ys one other = let parts = and_parts (is_line x) (list_all is_line xs) one in rw (parts.0, all_append xs ys parts.1 other) refl

-- so it is of lexemes as the grammar has them
abbrev are_lines : List Lexeme → Bool
are_lines lexemes = list_all is_line (map shown_lexeme lexemes)

lines_append : (xs ys : List Lexeme) → are_lines xs ≡ true → are_lines ys ≡ true → are_lines (xs ++ ys) ≡ true
lines_append xs ys one other = ap (list_all is_line) (map-append shown_lexeme xs ys) ∙ all_append (map shown_lexeme xs) (map shown_lexeme ys) one other

lines_moved : (n : ℕ) (xs : List Lexeme) → are_lines xs ≡ true → are_lines (map (moved n) xs) ≡ true
lines_moved n [] all = refl
lines_moved n (x ∷ xs) all = let parts = and_parts (is_line (shown_lexeme x)) (are_lines xs) all in rw (parts.0, lines_moved n xs parts.1) refl

comments_are_lines : (at : ℕ) (ls : List Text) → are_lines (comments_from at ls) ≡ true
comments_are_lines at [] = refl
comments_are_lines at (line ∷ ls) = comments_are_lines (at + length line) ls

margin_comments : (text : Text) → are_lines (margin_of text).comments ≡ true
unfolding margin_of
margin_comments text = comments_are_lines 0 (comment_lines text)

-- A margin that reaches the text's end

margin_rest : (text : Text) → length text ≤ margin_len (margin_of text) → length (margin_of text).remainder ≡ 0
unfolding margin_of
margin_rest text reach =
    let line = drop (margin_of text).at text in
    omega (arith, reach, length-drop (margin_of text).at text, length-drop (blanks_len line) line, length-take (blanks_len line) line)

no_content : (text : Text) → length text ≡ 0 → is_content text ≡ false
no_content [] none = refl
no_content (b ∷ bs) none = absurd (omega (arith, none))

blank_laid : (len : ℕ) (line : List Lexeme) (levels : List ℕ) (margin : Margin) → is_content margin.remainder ≡ false
    → margin_step len line levels margin ≡ Stands (record { len = len + margin_len margin; lexemes = line ++ map (moved len) (margin.comments ++ []); width = None; sort = Layout })
unfolding margin_step
blank_laid len line levels margin blank = rw blank refl

margin_lines : (len : ℕ) (line : List Lexeme) (levels : List ℕ) (text : Text) (piece : Piece) → are_lines line ≡ true → margin_step len line levels (margin_of text) ≡ Stands piece → len + length text ≤ piece.len
    → (are_lines piece.lexemes ≡ true) × ((more : List Lexeme) × (piece.lexemes ≡ line ++ more))
margin_lines len line levels text piece all stands reach =
    let total = margin_step_len len line levels (margin_of text) piece stands in
    let blank = no_content (margin_of text).remainder (margin_rest text (omega (arith, reach, total))) in
    let comments = map (moved len) ((margin_of text).comments ++ []) in
    let both = sym stands ∙ blank_laid len line levels (margin_of text) blank in
    let same : piece ≡ record { len = len + margin_len (margin_of text); lexemes = line ++ comments; width = None; sort = Layout } = cc in
    let are = lines_append line comments all (lines_moved len ((margin_of text).comments ++ []) (ap are_lines (append-nil (margin_of text).comments) ∙ margin_comments text)) in
    (ap (λ (p : Piece). are_lines p.lexemes) same ∙ are, (comments, ap (λ (p : Piece). p.lexemes) same))

-- The last piece of a clean cut

sort_after : (history : History) (piece : Piece) → (after history piece).before ≡ piece.sort
unfolding after
sort_after history piece = refl

begun_after : (history : History) (text : Text) (piece : Piece) (pieces : List Piece) → IsReading language history text (piece ∷ pieces) → is_nothing (after_all history (piece ∷ pieces)).before ≡ false
begun_after history text piece [] reads = started history piece (piece_fits language history text piece reads.0).sort
begun_after history text piece (next ∷ pieces) reads = begun_after (after history piece) (drop piece.len text) next pieces reads.1

reads_front : (history : History) (text : Text) (one other : List Piece) → IsReading language history text (one ++ other) → IsReading language history text one
reads_front history text [] other reads = tt
reads_front history text (piece ∷ one) other reads = (reads.0, reads_front (after history piece) (drop piece.len text) one other reads.1)

counted : (history : History) (rest : Text) (last : Piece) → is_nothing history.before ≡ false → is_layout last.sort ≡ true → next_step language history rest ≡ Stands last → CountedEnd (situation history) rest last
unfolding next_step situation
counted history rest last begun layout stands = counted_end (situation history) rest last layout begun stands

last_lines : (text : Text) (init : List Piece) (last : Piece) → IsReading language nothing text init → next_step language (after_all nothing init) (drop (pieces_len init) text) ≡ Stands last → pieces_len init + last.len ≡ length text → is_layout last.sort ≡ true
    → (are_lines last.lexemes ≡ true) × (last.lexemes ≡ [] → init ≡ [])
last_lines text [] last reads stands reach layout = ((margin_lines 0 [] [] text last refl (sym (first_step text) ∙ stands) (omega (arith, reach))).0, (λ none. refl))
last_lines text (piece ∷ pieces) last reads stands reach layout =
    let init = piece ∷ pieces in
    let history = after_all nothing init in
    let rest = drop (pieces_len init) text in
    let end = counted history rest last (begun_after nothing text piece pieces reads) layout stands in
    let inside = front_sound (class_in language) rest class.LineEnd end.len end.front in
    let line = margin_lines (length (take end.len rest)) (record { begin = 0; node = Newline; end = length (take end.len rest) } ∷ []) _ (drop end.len rest) last refl end.stands
    (omega (arith, reach, length-take-le end.len rest inside.1, inside.1, length-drop end.len rest, length-drop (pieces_len init) text)) in
    (line.0, (λ none. absurd (omega (arith, ap length none, ap length line.1.1))))

-- the lexemes of a clean cut without the closing `Newline`: those before the last line, and those of its end
record LastLine (text : Text) : Type 0 where
  before : List Lexeme
  line : List Lexeme
  parts : without_closing (outcome text).lexemes ≡ before ++ line
  all : are_lines line ≡ true
  some : line ≡ [] → before ≡ []

last_line : (text : Text) → is_clean_cut text ≡ true → LastLine text
last_line text clean =
    let found = cut text clean in
    let pieces = (read language text).pieces in
    let split = split_last pieces found.some in
    let init = split.0 in
    let last = split.1 in
    let reads = subst (IsReading language nothing text) split.2 found.reads in
    let stands = next_reads nothing text init last [] reads in
    let before = ap (λ (ps : List Piece). (after_all nothing ps).before) split.2 ∙ ap (λ (h : History). h.before) (past_append nothing init (last ∷ [])) ∙ sort_after (after_all nothing init) last in
    let layout = ap is_layout (sym before) ∙ found.is_settled.layout in
    let reach : pieces_len init + last.len ≡ length text = omega (arith, found.reach, ap pieces_len split.2, pieces_append init (last ∷ []), sum_by-cons (λ (piece : Piece). piece.len) last []) in
    let lines = last_lines text init last (reads_front nothing text init (last ∷ []) reads) stands reach layout in
    record {
      before = lexemes_along 0 init;
      line = lexemes_along (0 + pieces_len init) (last ∷ []);
      parts =
          ap without_closing found.lexemes ∙ but_last (lexemes_along 0 pieces) (record { begin = length text; node = Newline; end = length text }) ∙ ap (lexemes_along 0) split.2
          ∙ along_append 0 init (last ∷ []);
      all = ap are_lines (append-nil (map (moved (0 + pieces_len init)) last.lexemes)) ∙ lines_moved (0 + pieces_len init) last.lexemes lines.0;
      some = λ none. ap (lexemes_along 0) (lines.1 (none_moved (0 + pieces_len init) last.lexemes (sym (append-nil (map (moved (0 + pieces_len init)) last.lexemes)) ∙ none)));
    }
  where
    none_moved : (n : ℕ) (xs : List Lexeme) → map (moved n) xs ≡ [] → xs ≡ []
    none_moved n [] e = refl
    none_moved n (x ∷ xs) e = cc

pub cut_ends_line : (text : Text) (n at : ℕ) (x : Spanned TokenView) → IsNext text n x → IsCutAfter text (n + 1) at → ends_line x.node ≡ true
cut_ends_line text n at x next is =
    let found = last_line (take at text) (kept_parts text at is.is_kept).1 in
    let both = sym next.more ∙ (piece_at text at (n + 1) is).lexemes ∙ ap (map shown_lexeme) found.parts ∙ map-append shown_lexeme found.before found.line in
    last_of (take n (lexemes_of text)) x (map shown_lexeme found.before) (map shown_lexeme found.line) both (λ none. ap (map shown_lexeme) (found.some (none_shown found.line none))) found.all
  where
    none_shown : (xs : List Lexeme) → map shown_lexeme xs ≡ [] → xs ≡ []
    none_shown [] e = refl
    none_shown (x ∷ xs) e = cc

-- so there is no cut after another lexeme
pub none_after : (text : Text) (n at : ℕ) (x : Spanned TokenView) → IsNext text n x → ends_line x.node ≡ false → IsCutAfter text (n + 1) at → ⊥
none_after text n at x next other is = let ends = cut_ends_line text n at x next is in cc
