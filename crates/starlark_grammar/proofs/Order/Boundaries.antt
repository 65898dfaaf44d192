-- Lexemes begin and end between characters.
use Rattle.std.proofs.Common.{◌≡◌, ℕ, zero, suc, ◌+◌, ◌-◌, ◌≤◌, ◌<◌, Bool, true, false, cond, List, [], ◌∷◌, ◌++◌, length, take, drop, refl, ap, ◌∙◌, sym, subst, arith, ◌⊎◌, inl, inr, ◌||◌, nat_lt, one-add, append_assoc}
use Rattle.std.specs.Prelude.{◌&&◌, ◌==◌, if◌then◌else◌, take_while, replicate, count_by}
use Rattle.std.specs.Char.{is_ascii}
use Rattle.std.specs.List.{prefix_len, AllByRecursion}
use Rattle.std.specs.Str.{byte, IsUtf8, IsCharBoundary}
use Rattle.std.proofs.lemmas.Bool.{cases_lt, eqb-true}
use Rattle.std.proofs.lemmas.Bool.Decides.{nat_tests}
use Rattle.std.proofs.lemmas.List.{take-append-drop, length-append, length-drop, drop-append-le}
use Rattle.std.proofs.Math.Seq.{drop-append_seam}
use Rattle.std.proofs.lemmas.List.Sums.{sum_by-cons}
use Rattle.std.proofs.lemmas.Str.{IsCharBoundary-end, IsCharBoundary-start, IsUtf8-drop}
use Rattle.starlark_grammar.specs.Words.{Text}
use Rattle.starlark_grammar.specs.Tokens.{Lexeme, Indent, Dedent}
use Rattle.starlark_grammar.specs.Margins.{begins_with_line_end, is_blank, is_lf, blanks_len, lines, begins_comment, is_comment_only, comment_part, comments_from, comment_lines, Margin, margin_of, margin_len, width_of, is_widest, indentation}
use Rattle.starlark_grammar.specs.Gaps.{is_gap_byte, IsGap}
use Rattle.starlark_grammar.specs.Laws.{AtBoundaries}
use Rattle.starlark_grammar.proofs.Lists.{drop-sum}
use Rattle.starlark_grammar.proofs.Order.OrderedLexemes.{Split, first_line, comment_spans, comment_tail, part_len, lines_sum}
use Rattle.starlark_grammar.proofs.Words.Bytes.{is_plain}
use Rattle.starlark_grammar.proofs.Order.Edges.{after_plain, before_byte, boundary_shift}

abbrev pub Edges : Text → List Lexeme → Type 0
Edges text lexemes = AllByRecursion (AtBoundaries text) lexemes

-- a byte of a gap is ASCII
gap_small : (b : ℕ) (bs : Text) → is_gap_byte (b ∷ bs) ≡ true → b < 128
unfolding is_gap_byte
gap_small b bs h = go (begins_with_line_end bs) h
  where
    go : (line : Bool) → (is_blank b || is_lf b || (b == byte "\\" && line)) ≡ true → b < 128
    go true h = grind (arith, nat_tests)
    go false h = grind (arith, nat_tests)

gap_edge : (text : Text) (from to at : ℕ) → IsGap text from to → from ≤ at → at < to → to ≤ length text → IsCharBoundary text at
gap_edge text from to at gap least less inside = go (drop at text) refl (gap at least less)
  where
    go : (t : Text) → drop at text ≡ t → is_gap_byte t ≡ true → IsCharBoundary text at
    go [] e h =
        let none : length (drop at text) ≡ 0 = ap (λ (t : Text). length t) e in
        absurd (omega (arith, none, less, inside, length-drop at text))
    go (b ∷ bs) e h = before_byte text at b bs e (gap_small b bs h)

-- the begin of a comment
hash : (line : Text) (at : ℕ) → begins_comment (drop at line) ≡ true → (rest : Text) × (drop at line ≡ 35 ∷ rest)
hash line at h = go (drop at line) refl h
  where
    go : (t : Text) → drop at line ≡ t → begins_comment t ≡ true → (rest : Text) × (drop at line ≡ 35 ∷ rest)
    go [] e h = cc
    go (b ∷ bs) e h = (bs, e ∙ ap (λ c. c ∷ bs) (eqb-true b 35 h))

-- the end of a line
line_edge : (whole : Text) (at : ℕ) (text line : Text) (more : List Text) → IsUtf8 whole → drop at whole ≡ text → Split text line more → 1 ≤ length line → IsCharBoundary whole (at + length line)
line_edge whole at text line more utf8 e split some = go split.ended
  where
    len : length whole - at ≡ length line + length split.rest
    len = sym (length-drop at whole) ∙ ap (λ (t : Text). length t) (e ∙ split.whole) ∙ length-append line split.rest

    go : (split.rest ≡ []) ⊎ ((front : Text) × (line ≡ front ++ 10 ∷ [])) → IsCharBoundary whole (at + length line)
    go (inl none) =
        let empty : length split.rest ≡ 0 = ap (λ (t : Text). length t) none in
        let same : length whole ≡ at + length line = omega (arith, len, empty, some) in
        subst (IsCharBoundary whole) same (IsCharBoundary-end whole)
    go (inr found) =
        let front : Text = found.0 in
        let before : drop (at + length front) whole ≡ 10 ∷ split.rest =
        drop-sum at (length front) whole ∙ ap (drop (length front)) (e ∙ split.whole ∙ ap (λ (t : Text). t ++ split.rest) found.1 ∙ append_assoc front (10 ∷ []) split.rest) ∙ drop-append_seam front (10 ∷ split.rest) in
        let edge : IsCharBoundary whole (at + length front) = before_byte whole (at + length front) 10 split.rest before (omega arith) in
        let utf8_here = IsUtf8-drop whole (at + length front) utf8 edge in
        let line_len : length line ≡ length front + 1 = ap (λ (t : Text). length t) found.1 ∙ length-append front (10 ∷ []) in
        let total : at + length front + 1 ≡ at + length line = omega (arith, line_len) in
        subst (IsCharBoundary whole) total (boundary_shift whole (at + length front) 1 edge (after_plain (drop (at + length front) whole) (10 ∷ []) split.rest utf8_here before refl))

comments_edges : (whole : Text) (at : ℕ) (text : Text) (ls : List Text) → IsUtf8 whole → drop at whole ≡ text → lines text ≡ ls → IsCharBoundary whole at → Edges whole (comments_from at (take_while is_comment_only ls)) × IsCharBoundary whole (at + lines_sum (take_while is_comment_only ls))
comments_edges whole at text [] utf8 e f here = (tt, subst (IsCharBoundary whole) same here)
  where
    same : at ≡ at + lines_sum []
    same = omega arith
comments_edges whole at text (line ∷ more) utf8 e f here =
    go (is_comment_only line) refl (λ some. comments_edges whole (at + length line) split.rest more utf8 remainder split.left (line_edge whole at text line more utf8 e split some))
  where
    split : Split text line more
    split = first_line text line more f

    remainder : drop (at + length line) whole ≡ split.rest
    remainder = drop-sum at (length line) whole ∙ ap (drop (length line)) (e ∙ split.whole) ∙ drop-append_seam line split.rest

    begin : is_comment_only line ≡ true → blanks_len line ≤ length line → IsCharBoundary whole (at + blanks_len line)
    begin k inside =
        let found = hash line (blanks_len line) k in
        before_byte whole (at + blanks_len line) 35 (found.0 ++ split.rest)
        (drop-sum at (blanks_len line) whole ∙ ap (drop (blanks_len line)) (e ∙ split.whole) ∙ drop-append-le (blanks_len line) line split.rest inside ∙ ap (λ (t : Text). t ++ split.rest) found.1) (omega arith)

    end : 1 ≤ length line → IsCharBoundary whole (at + length (comment_part line))
    end some = ending (cases_lt (length (comment_part line)) (length line))
      where
        whole_line : IsCharBoundary whole (at + length line)
        whole_line = line_edge whole at text line more utf8 e split some

        ending : (length (comment_part line) < length line) ⊎ (length line ≤ length (comment_part line)) → IsCharBoundary whole (at + length (comment_part line))
        ending (inl less) =
            let here_len : length (line ++ split.rest) ≡ length line + length split.rest = length-append line split.rest in
            let there : IsCharBoundary (line ++ split.rest) (length (comment_part line)) = gap_edge (line ++ split.rest) (length (comment_part line)) (length line) (length (comment_part line)) (comment_tail line split.rest split.one) (omega arith) less (omega (arith, here_len)) in
            boundary_shift whole at (length (comment_part line)) here (subst (λ (t : Text). IsCharBoundary t (length (comment_part line))) (sym (e ∙ split.whole)) there)
        ending (inr least) =
            let inside = part_len line in
            let same : at + length line ≡ at + length (comment_part line) = omega (arith, least, inside) in
            subst (IsCharBoundary whole) same whole_line

    go : (passes : Bool) → is_comment_only line ≡ passes
        → (1 ≤ length line → Edges whole (comments_from (at + length line) (take_while is_comment_only more)) × IsCharBoundary whole (at + length line + lines_sum (take_while is_comment_only more)))
        → Edges whole (comments_from at (take (cond passes (1 + prefix_len is_comment_only more) 0) (line ∷ more))) × IsCharBoundary whole (at + lines_sum (take (cond passes (1 + prefix_len is_comment_only more) 0) (line ∷ more)))
    go false k again = let same : at ≡ at + lines_sum [] = omega arith in (tt, subst (IsCharBoundary whole) same here)
    go true k again =
        let spans = comment_spans line k in
        let inside = part_len line in
        let some : 1 ≤ length line = omega (arith, spans, inside) in
        let rest = again some in
        let taken : take (1 + prefix_len is_comment_only more) (line ∷ more) ≡ line ∷ take_while is_comment_only more = rw one-add refl in
        let sum : lines_sum (line ∷ take_while is_comment_only more) ≡ length line + lines_sum (take_while is_comment_only more) = sum_by-cons (λ (line : Text). length line) line (take_while is_comment_only more) in
        let total : at + length line + lines_sum (take_while is_comment_only more) ≡ at + lines_sum (line ∷ take_while is_comment_only more) = omega (arith, sum) in
        subst (λ (ls : List Text). Edges whole (comments_from at ls) × IsCharBoundary whole (at + lines_sum ls)) (sym taken)
        (((begin k (omega (arith, spans, inside)), end some), rest.0), subst (IsCharBoundary whole) total rest.1)

-- Margins

blanks_plain : (line : Text) → is_plain (take (blanks_len line) line) ≡ true
blanks_plain [] = refl
blanks_plain (b ∷ bs) = go (is_blank b) refl (blanks_plain bs)
  where
    small : is_blank b ≡ true → is_ascii b ≡ true
    small h = grind (arith, nat_tests)

    go : (blank : Bool) → is_blank b ≡ blank → is_plain (take (blanks_len bs) bs) ≡ true → is_plain (take (cond blank (1 + blanks_len bs) 0) (b ∷ bs)) ≡ true
    go false e more = refl
    go true e more = rw one-add (rw (small e) more)

-- the comments of a margin, its last line, and its end
pub record MarginEdges (text : Text) (margin : Margin) : Type 0 where
  pub comments : Edges text margin.comments
  pub at : IsCharBoundary text margin.at
  pub end : IsCharBoundary text (margin_len margin)

pub margin_edges : (text : Text) → IsUtf8 text → MarginEdges text (margin_of text)
unfolding margin_of
margin_edges text utf8 =
    let both = comments_edges text 0 text (lines text) utf8 refl refl (IsCharBoundary-start text utf8) in
    let at : ℕ = lines_sum (comment_lines text) in
    let same : 0 + lines_sum (comment_lines text) ≡ lines_sum (comment_lines text) = omega arith in
    let here : IsCharBoundary text (lines_sum (comment_lines text)) = subst (IsCharBoundary text) same both.1 in
    let line : Text = drop (lines_sum (comment_lines text)) text in
    record {
      comments = both.0;
      at = here;
      end = boundary_shift text (lines_sum (comment_lines text)) (length (take (blanks_len line) line)) here (after_plain line (take (blanks_len line) line) (drop (blanks_len line) line) (IsUtf8-drop text (lines_sum (comment_lines text)) utf8 here) (sym (take-append-drop (blanks_len line) line)) (blanks_plain line));
    }

dedents_edges : (text : Text) (at k : ℕ) → IsCharBoundary text at → Edges text (replicate k (record { begin = at; node = Dedent; end = at }))
dedents_edges text at zero here = tt
dedents_edges text at (suc k) here = ((here, here), dedents_edges text at k here)

pub indentation_edges : (levels : List ℕ) (text : Text) → IsUtf8 text → Edges text (indentation levels (margin_of text))
unfolding indentation
indentation_edges levels text utf8 = go (nat_lt 0 (width_of (margin_of text)) && is_widest (width_of (margin_of text)) levels) (margin_edges text utf8)
  where
    margin : Margin
    margin = margin_of text

    go : (widest : Bool) → MarginEdges text margin → Edges text (if widest then record { begin = margin.at; node = Indent; end = margin_len margin } ∷ [] else replicate (count_by (nat_lt (width_of margin)) levels) (record { begin = margin.at; node = Dedent; end = margin.at }))
    go true edges = ((edges.at, edges.end), tt)
    go false edges = dedents_edges text margin.at (count_by (nat_lt (width_of margin)) levels) edges.at
