-- Margins in a text whose LFs are written as CR LF.
use Rattle.std.proofs.Common.{◌≡◌, ℕ, zero, suc, ◌+◌, Bool, true, false, cond, not, List, [], ◌∷◌, ◌++◌, length, take, drop, map, refl, ap, ◌∙◌, sym, subst, Option, Some, None, arith, ◌⊎◌, inl, inr, one-add, append_assoc, length-append, replicate}
use Rattle.std.specs.Prelude.{◌&&◌, ◌==◌, if◌then◌else◌, nat_eq, nat_lt, sum_by, count_by, take_while}
use Rattle.std.specs.List.{list_all, onto_first, prefix_len}
use Rattle.std.proofs.Math.Seq.{drop-append_seam}
use Rattle.std.proofs.lemmas.Bool.{and_parts, eqb-true}
use Rattle.std.proofs.lemmas.List.{take-append-drop, length-take-le}
use Rattle.std.proofs.lemmas.List.Sums.{sum_by-cons, prefix_len-le-length}
use Rattle.starlark_grammar.specs.Words.{Text}
use Rattle.starlark_grammar.specs.Tokens.{Token, Newline, Comment, Indent, Dedent, Lexeme, InvalidTab, Indentation, moved}
use Rattle.starlark_grammar.specs.Margins.{is_blank, is_lf, blanks_len, lines, begins_comment, is_comment_only, without_return, comment_part, comment_of, comments_from, comment_lines, Margin, margin_from, margin_of, margin_len, is_content, has_tab, width_of, is_widest, fits, indentation}
use Rattle.starlark_grammar.specs.Pieces.{Layout, Piece, Stands, Fails, margin_step}
use Rattle.starlark_grammar.proofs.MarginComments.{margin_holds}
use Rattle.starlark_grammar.proofs.Lists.{drop-sum}
use Rattle.starlark_grammar.proofs.LineEnds.Texts.{crlf, no_return, crlf_append}
use Rattle.starlark_grammar.proofs.LineEnds.Bodies.{form_other}

-- the tokens of lexemes
abbrev pub nodes : List Lexeme → List Token
nodes lexemes = map (λ (lexeme : Lexeme). lexeme.node) lexemes

pub nodes_append : (one other : List Lexeme) → nodes (one ++ other) ≡ nodes one ++ nodes other
nodes_append [] other = refl
nodes_append (lexeme ∷ one) other = ap (λ ts. lexeme.node ∷ ts) (nodes_append one other)

pub nodes_moved : (n : ℕ) (lexemes : List Lexeme) → nodes (map (moved n) lexemes) ≡ nodes lexemes
nodes_moved n [] = refl
nodes_moved n (lexeme ∷ lexemes) = ap (λ ts. lexeme.node ∷ ts) (nodes_moved n lexemes)

-- Blanks at the front

-- How the blanks at the front of a text go on: with something else than an LF, or with an LF, before which the CR is a blank too.
data BlanksCrlf (text : Text) : Type 0 where
  Plain : blanks_len (crlf text) ≡ blanks_len text → take (blanks_len text) (crlf text) ≡ take (blanks_len text) text → drop (blanks_len text) (crlf text) ≡ crlf (drop (blanks_len text) text)
      → is_content (crlf (drop (blanks_len text) text)) ≡ is_content (drop (blanks_len text) text) → BlanksCrlf text
  Fed : (rest : Text) → drop (blanks_len text) text ≡ 10 ∷ rest → drop (blanks_len (crlf text)) (crlf text) ≡ 10 ∷ crlf rest → BlanksCrlf text

blanks_crlf : (text : Text) → BlanksCrlf text
blanks_crlf [] = Plain refl refl refl refl
blanks_crlf (b ∷ bs) = by (is_lf b) refl (is_blank b) refl (blanks_crlf bs)
  where
    by : (feed : Bool) → is_lf b ≡ feed → (blank : Bool) → is_blank b ≡ blank → BlanksCrlf bs → BlanksCrlf (b ∷ bs)
    by true e blank f more =
        let same : b ≡ 10 = eqb-true b 10 e in
        subst (λ c. BlanksCrlf (c ∷ bs)) (sym same) (Fed bs refl refl)
    by false e false f more =
        Plain (rw (e, f) refl) (rw (f) refl) (rw (f) refl) (rw (f) (ap is_content (form_other b bs e)))
    by false e true f (Plain len front left content) =
        Plain (rw (e, f) (ap (λ n. 1 + n) len))
        (rw (f) (rw one-add (ap (take (suc (blanks_len bs))) (form_other b bs e) ∙ ap (λ (t : Text). b ∷ t) front)))
        (rw (f) (rw one-add (ap (drop (suc (blanks_len bs))) (form_other b bs e) ∙ left)))
        (rw (f) (rw one-add content))
    by false e true f (Fed rest here there) =
        Fed rest (rw (f) (rw one-add here)) (ap (λ (t : Text). drop (blanks_len t) t) (form_other b bs e) ∙ rw (f) (rw one-add there))

-- Lines

onto_crlf : (b : ℕ) (ls : List Text) → is_lf b ≡ false → onto_first b (map crlf ls) ≡ map crlf (onto_first b ls)
onto_crlf b [] e = ap (λ (t : Text). t ∷ []) (sym (form_other b [] e))
onto_crlf b (l ∷ ls) e = ap (λ (t : Text). t ∷ map crlf ls) (sym (form_other b l e))

lines_crlf : (text : Text) → lines (crlf text) ≡ map crlf (lines text)
unfolding lines
lines_crlf [] = refl
lines_crlf (b ∷ bs) = by (is_lf b) refl (lines_crlf bs)
  where
    by : (feed : Bool) → is_lf b ≡ feed → lines (crlf bs) ≡ map crlf (lines bs) → lines (if feed then 13 ∷ 10 ∷ crlf bs else b ∷ crlf bs) ≡ map crlf (if feed then (b ∷ []) ∷ lines bs else onto_first b (lines bs))
    by true e more = ap (λ ls. (13 ∷ 10 ∷ []) ∷ ls) more ∙ ap (λ c. crlf (c ∷ []) ∷ map crlf (lines bs)) (sym (eqb-true b 10 e))
    by false e more = rw (e) (ap (onto_first b) more ∙ onto_crlf b (lines bs) e)

lines_no_return : (text : Text) → no_return text ≡ true → list_all (λ (line : Text). no_return line) (lines text) ≡ true
unfolding lines
lines_no_return [] h = refl
lines_no_return (b ∷ bs) h = by (is_lf b) (lines bs) (lines_no_return bs parts.1)
  where
    parts : (not (b == 13) ≡ true) × (no_return bs ≡ true)
    parts = and_parts (not (b == 13)) (no_return bs) h

    by : (feed : Bool) (ls : List Text) → list_all (λ (line : Text). no_return line) ls ≡ true → list_all (λ (line : Text). no_return line) (if feed then (b ∷ []) ∷ ls else onto_first b ls) ≡ true
    by true ls k = rw (parts.0) k
    by false [] k = rw (parts.0) refl
    by false (l ∷ ls) k = rw (parts.0) k

comment_crlf : (text : Text) → begins_comment (crlf text) ≡ begins_comment text
comment_crlf [] = refl
comment_crlf (b ∷ bs) = by (is_lf b) refl
  where
    by : (feed : Bool) → is_lf b ≡ feed → begins_comment (if feed then 13 ∷ 10 ∷ crlf bs else b ∷ crlf bs) ≡ begins_comment (b ∷ bs)
    by true e = ap (λ c. begins_comment (c ∷ bs)) (sym (eqb-true b 10 e))
    by false e = refl

only_crlf : (line : Text) → is_comment_only (crlf line) ≡ is_comment_only line
only_crlf line = by (blanks_crlf line)
  where
    by : BlanksCrlf line → is_comment_only (crlf line) ≡ is_comment_only line
    by (Plain len front left content) = ap (λ n. begins_comment (drop n (crlf line))) len ∙ ap begins_comment left ∙ comment_crlf (drop (blanks_len line) line)
    by (Fed rest here there) = ap begins_comment there ∙ sym (ap begins_comment here)

while_crlf : (ls : List Text) → take_while is_comment_only (map crlf ls) ≡ map crlf (take_while is_comment_only ls)
while_crlf [] = refl
while_crlf (l ∷ ls) = by (is_comment_only l) refl (while_crlf ls)
  where
    by : (only : Bool) → is_comment_only l ≡ only → take_while is_comment_only (map crlf ls) ≡ map crlf (take_while is_comment_only ls) → take_while is_comment_only (map crlf (l ∷ ls)) ≡ map crlf (take_while is_comment_only (l ∷ ls))
    by true e more = rw (only_crlf l, e) (rw (one-add, one-add) (ap (λ (m : List Text). crlf l ∷ m) more))
    by false e more = rw (only_crlf l, e) refl

comment_lines_crlf : (text : Text) → comment_lines (crlf text) ≡ map crlf (comment_lines text)
comment_lines_crlf text = ap (take_while is_comment_only) (lines_crlf text) ∙ while_crlf (lines text)

-- Comments

without_made : (text : Text) → without_return (text ++ 13 ∷ []) ≡ text
without_made [] = refl
without_made (b ∷ []) = refl
without_made (b ∷ c ∷ bs) = ap (λ (t : Text). b ∷ t) (without_made (c ∷ bs))

without_plain : (text : Text) → no_return text ≡ true → without_return text ≡ text
without_plain [] h = refl
without_plain (b ∷ []) h = by (b == 13) (and_parts (not (b == 13)) true h).0
  where
    by : (test : Bool) → not test ≡ true → (if test then [] else b ∷ []) ≡ b ∷ []
    by true e = cc
    by false e = refl
without_plain (b ∷ c ∷ bs) h = ap (λ (t : Text). b ∷ t) (without_plain (c ∷ bs) (and_parts (not (b == 13)) (no_return (c ∷ bs)) h).1)

abbrev line_part : Text → Text
line_part text = take_while (λ b. not (is_lf b)) text

part_no_return : (text : Text) → no_return text ≡ true → no_return (line_part text) ≡ true
part_no_return [] h = refl
part_no_return (b ∷ bs) h = by (not (is_lf b)) (part_no_return bs parts.1)
  where
    parts : (not (b == 13) ≡ true) × (no_return bs ≡ true)
    parts = and_parts (not (b == 13)) (no_return bs) h

    by : (in_line : Bool) → no_return (line_part bs) ≡ true → no_return (take (cond in_line (1 + prefix_len (λ b. not (is_lf b)) bs) 0) (b ∷ bs)) ≡ true
    by true k = rw one-add (rw (parts.0) k)
    by false k = refl

part_crlf : (text : Text) → (line_part (crlf text) ≡ line_part text) ⊎ (line_part (crlf text) ≡ line_part text ++ 13 ∷ [])
part_crlf [] = inl refl
part_crlf (b ∷ bs) = by (is_lf b) refl (part_crlf bs)
  where
    by : (feed : Bool) → is_lf b ≡ feed → (line_part (crlf bs) ≡ line_part bs) ⊎ (line_part (crlf bs) ≡ line_part bs ++ 13 ∷ [])
        → (line_part (if feed then 13 ∷ 10 ∷ crlf bs else b ∷ crlf bs) ≡ line_part (b ∷ bs)) ⊎ (line_part (if feed then 13 ∷ 10 ∷ crlf bs else b ∷ crlf bs) ≡ line_part (b ∷ bs) ++ 13 ∷ [])
    by true e more = inr (rw (e) refl)
    by false e (inl same) = inl (rw (e) (rw (one-add, one-add) (ap (λ (t : Text). b ∷ t) same)))
    by false e (inr same) = inr (rw (e) (rw (one-add, one-add) (ap (λ (t : Text). b ∷ t) same)))

comment_part_crlf : (line : Text) → no_return line ≡ true → comment_part (crlf line) ≡ comment_part line
comment_part_crlf line h = by (part_crlf line)
  where
    plain : without_return (line_part line) ≡ line_part line
    plain = without_plain (line_part line) (part_no_return line h)

    by : (line_part (crlf line) ≡ line_part line) ⊎ (line_part (crlf line) ≡ line_part line ++ 13 ∷ []) → comment_part (crlf line) ≡ comment_part line
    by (inl same) = ap without_return same
    by (inr same) = ap without_return same ∙ without_made (line_part line) ∙ sym plain

comment_node : (at place : ℕ) (line : Text) → no_return line ≡ true → is_comment_only line ≡ true → (comment_of place (crlf line)).node ≡ (comment_of at line).node
comment_node at place line h only = by (blanks_crlf line)
  where
    by : BlanksCrlf line → (comment_of place (crlf line)).node ≡ (comment_of at line).node
    by (Plain len front left content) = rw (len, comment_part_crlf line h) refl
    by (Fed rest here there) = let wrong : true ≡ false = sym only ∙ ap begins_comment here in cc

comments_nodes : (at place : ℕ) (ls : List Text) → list_all (λ (line : Text). no_return line) ls ≡ true → list_all is_comment_only ls ≡ true → nodes (comments_from place (map crlf ls)) ≡ nodes (comments_from at ls)
comments_nodes at place [] h only = refl
comments_nodes at place (line ∷ ls) h only =
    let parts = and_parts (no_return line) (list_all (λ (line : Text). no_return line) ls) h in
    let onlys = and_parts (is_comment_only line) (list_all is_comment_only ls) only in
    ap (λ t. t ∷ nodes (comments_from (place + length (crlf line)) (map crlf ls))) (comment_node at place line parts.0 onlys.0)
    ∙ ap (λ ts. (comment_of at line).node ∷ ts) (comments_nodes (at + length line) (place + length (crlf line)) ls parts.1 onlys.1)

while_only : (ls : List Text) → list_all is_comment_only (take_while is_comment_only ls) ≡ true
while_only [] = refl
while_only (l ∷ ls) = by (is_comment_only l) refl (while_only ls)
  where
    by : (only : Bool) → is_comment_only l ≡ only → list_all is_comment_only (take_while is_comment_only ls) ≡ true → list_all is_comment_only (take (cond only (1 + prefix_len is_comment_only ls) 0) (l ∷ ls)) ≡ true
    by true e more = rw one-add (rw (e) more)
    by false e more = refl

while_no_return : (ls : List Text) → list_all (λ (line : Text). no_return line) ls ≡ true → list_all (λ (line : Text). no_return line) (take_while is_comment_only ls) ≡ true
while_no_return [] h = refl
while_no_return (l ∷ ls) h = by (is_comment_only l) (while_no_return ls parts.1)
  where
    parts : (no_return l ≡ true) × (list_all (λ (line : Text). no_return line) ls ≡ true)
    parts = and_parts (no_return l) (list_all (λ (line : Text). no_return line) ls) h

    by : (only : Bool) → list_all (λ (line : Text). no_return line) (take_while is_comment_only ls) ≡ true → list_all (λ (line : Text). no_return line) (take (cond only (1 + prefix_len is_comment_only ls) 0) (l ∷ ls)) ≡ true
    by true more = rw one-add (rw (parts.0) more)
    by false more = refl

-- what is left after comment-only lines

abbrev flat : List Text → Text
flat [] = []
flat (l ∷ ls) = l ++ flat ls

flat_lines : (text : Text) → flat (lines text) ≡ text
unfolding lines
flat_lines [] = refl
flat_lines (b ∷ bs) = by (is_lf b) (lines bs) (flat_lines bs)
  where
    by : (feed : Bool) (ls : List Text) → flat ls ≡ bs → flat (if feed then (b ∷ []) ∷ ls else onto_first b ls) ≡ b ∷ bs
    by true ls e = ap (λ (t : Text). b ∷ t) e
    by false [] e = ap (λ (t : Text). b ∷ t) e
    by false (l ∷ ls) e = ap (λ (t : Text). b ∷ t) e

flat_append : (one other : List Text) → flat (one ++ other) ≡ flat one ++ flat other
flat_append [] other = refl
flat_append (l ∷ one) other = ap (λ (t : Text). l ++ t) (flat_append one other) ∙ sym (append_assoc l (flat one) (flat other))

flat_crlf : (ls : List Text) → crlf (flat ls) ≡ flat (map crlf ls)
flat_crlf [] = refl
flat_crlf (l ∷ ls) = crlf_append l (flat ls) ∙ ap (λ (t : Text). crlf l ++ t) (flat_crlf ls)

flat_len : (ls : List Text) → length (flat ls) ≡ sum_by (λ (line : Text). length line) ls
flat_len [] = refl
flat_len (l ∷ ls) = omega (arith, length-append l (flat ls), flat_len ls, sum_by-cons (λ (line : Text). length line) l ls)

after_comments : (text : Text) → drop (sum_by (λ (line : Text). length line) (map crlf (comment_lines text))) (crlf text) ≡ crlf (drop (sum_by (λ (line : Text). length line) (comment_lines text)) text)
after_comments text =
    let first : List Text = comment_lines text in
    let rest : List Text = drop (prefix_len is_comment_only (lines text)) (lines text) in
    let whole : text ≡ flat (comment_lines text) ++ flat (drop (prefix_len is_comment_only (lines text)) (lines text)) =
    sym (flat_lines text) ∙ ap flat (sym (take-append-drop (prefix_len is_comment_only (lines text)) (lines text))) ∙ flat_append (comment_lines text) (drop (prefix_len is_comment_only (lines text)) (lines text)) in
    let len : sum_by (λ (line : Text). length line) (map crlf (comment_lines text)) ≡ length (crlf (flat (comment_lines text))) = sym (flat_len (map crlf (comment_lines text))) ∙ ap (λ (t : Text). length t) (sym (flat_crlf (comment_lines text))) in
    let here : drop (sum_by (λ (line : Text). length line) (comment_lines text)) text ≡ flat (drop (prefix_len is_comment_only (lines text)) (lines text)) =
    ap (λ n. drop n text) (sym (flat_len (comment_lines text))) ∙ ap (drop (length (flat (comment_lines text)))) whole ∙ drop-append_seam (flat (comment_lines text)) (flat (drop (prefix_len is_comment_only (lines text)) (lines text))) in
    ap (λ n. drop n (crlf text)) len
    ∙ ap (λ (t : Text). drop (length (crlf (flat (comment_lines text)))) (crlf t)) whole
    ∙ ap (drop (length (crlf (flat (comment_lines text))))) (crlf_append (flat (comment_lines text)) (flat (drop (prefix_len is_comment_only (lines text)) (lines text))))
    ∙ drop-append_seam (crlf (flat (comment_lines text))) (crlf (flat (drop (prefix_len is_comment_only (lines text)) (lines text))))
    ∙ ap crlf (sym here)

-- Margins

-- How the form of a text goes on after a margin: by the form of what is left, or from an LF on, whose CR is one of the blanks.
pub data Left (text other : Text) (content : Bool) : Type 0 where
  Whole : other ≡ crlf text → Left text other content
  AfterComments : (rest : Text) → text ≡ 10 ∷ rest → other ≡ 10 ∷ crlf rest → content ≡ false → Left text other content

margin_drop : (passed : List Text) (at : ℕ) (text rest : Text) → drop at text ≡ rest → drop (margin_len (margin_from passed at rest)) text ≡ drop (blanks_len rest) rest
margin_drop passed at text rest e =
    drop-sum at (length (take (blanks_len rest) rest)) text ∙ ap (drop (length (take (blanks_len rest) rest))) e ∙ ap (λ n. drop n rest) (length-take-le (blanks_len rest) rest (prefix_len-le-length is_blank rest))

abbrev lines_sum : List Text → ℕ
lines_sum ls = sum_by (λ (line : Text). length line) ls

margin_is : (text : Text) → margin_of text ≡ margin_from (comment_lines text) (lines_sum (comment_lines text)) (drop (lines_sum (comment_lines text)) text)
unfolding margin_of
margin_is text = refl

margin_form : (text : Text) → margin_of (crlf text) ≡ margin_from (map crlf (comment_lines text)) (lines_sum (map crlf (comment_lines text))) (crlf (drop (lines_sum (comment_lines text)) text))
margin_form text =
    margin_is (crlf text) ∙ ap (λ (ls : List Text). margin_from ls (lines_sum ls) (drop (lines_sum ls) (crlf text))) (comment_lines_crlf text)
    ∙ ap (margin_from (map crlf (comment_lines text)) (lines_sum (map crlf (comment_lines text)))) (after_comments text)

-- a margin and that of the form
record MarginCrlf (text : Text) (margin form : Margin) : Type 0 where
  comments : nodes form.comments ≡ nodes margin.comments
  content : is_content form.remainder ≡ is_content margin.remainder
  blanks : is_content margin.remainder ≡ true → form.blanks ≡ margin.blanks
  left : Left (drop (margin_len margin) text) (drop (margin_len form) (crlf text)) (is_content margin.remainder)

from_crlf : (text rest : Text) (passed : List Text) → no_return text ≡ true → drop (lines_sum passed) text ≡ rest → drop (lines_sum (map crlf passed)) (crlf text) ≡ crlf rest → list_all (λ (line : Text). no_return line) passed ≡ true → list_all is_comment_only passed ≡ true
    → MarginCrlf text (margin_from passed (lines_sum passed) rest) (margin_from (map crlf passed) (lines_sum (map crlf passed)) (crlf rest))
from_crlf text rest passed h here there plain only = by (blanks_crlf rest)
  where
    dropped : drop (margin_len (margin_from passed (lines_sum passed) rest)) text ≡ drop (blanks_len rest) rest
    dropped = margin_drop passed (lines_sum passed) text rest here

    dropped_form : drop (margin_len (margin_from (map crlf passed) (lines_sum (map crlf passed)) (crlf rest))) (crlf text) ≡ drop (blanks_len (crlf rest)) (crlf rest)
    dropped_form = margin_drop (map crlf passed) (lines_sum (map crlf passed)) (crlf text) (crlf rest) there

    by : BlanksCrlf rest → MarginCrlf text (margin_from passed (lines_sum passed) rest) (margin_from (map crlf passed) (lines_sum (map crlf passed)) (crlf rest))
    by (Plain len front left content) = record {
      comments = comments_nodes 0 0 passed plain only;
      content = ap (λ n. is_content (drop n (crlf rest))) len ∙ ap is_content left ∙ content;
      blanks = λ some. ap (λ n. take n (crlf rest)) len ∙ front;
      left = Whole (dropped_form ∙ ap (λ n. drop n (crlf rest)) len ∙ left ∙ ap crlf (sym dropped));
    }
    by (Fed more blank form) =
        let none : is_content (drop (blanks_len rest) rest) ≡ false = ap is_content blank in
        record {
          comments = comments_nodes 0 0 passed plain only;
          content = ap is_content form ∙ sym none;
          blanks = λ some. let wrong : true ≡ false = sym some ∙ none in cc;
          left = AfterComments more (dropped ∙ blank) (dropped_form ∙ form) none;
        }

margin_crlf : (text : Text) → no_return text ≡ true → MarginCrlf text (margin_of text) (margin_of (crlf text))
margin_crlf text h =
    subst (λ (m : Margin). MarginCrlf text m (margin_of (crlf text))) (sym (margin_is text))
    (subst (MarginCrlf text (margin_from (comment_lines text) (lines_sum (comment_lines text)) (drop (lines_sum (comment_lines text)) text))) (sym (margin_form text))
    (from_crlf text (drop (lines_sum (comment_lines text)) text) (comment_lines text) h refl (after_comments text) (while_no_return (lines text) (lines_no_return text h)) (while_only (lines text))))

-- pieces with the same tokens, width and sort
pub record PieceCrlf (piece form : Piece) : Type 0 where
  pub same : nodes form.lexemes ≡ nodes piece.lexemes
  pub width : form.width ≡ piece.width
  pub sort : form.sort ≡ piece.sort

pub replicate_nodes : (k : ℕ) (x y : Lexeme) → x.node ≡ y.node → nodes (replicate k x) ≡ nodes (replicate k y)
replicate_nodes zero x y e = refl
replicate_nodes (suc k) x y e = ap (λ t. t ∷ nodes (replicate k x)) e ∙ ap (λ ts. y.node ∷ ts) (replicate_nodes k x y e)

indent_nodes : (levels : List ℕ) (margin form : Margin) → form.blanks ≡ margin.blanks → nodes (indentation levels form) ≡ nodes (indentation levels margin)
unfolding indentation
indent_nodes levels margin form e = width (width_of form) (width_of margin) (ap (λ (blanks : Text). count_by (nat_eq 32) blanks) e)
  where
    width : (w v : ℕ) → w ≡ v
        → nodes (if nat_lt 0 w && is_widest w levels then record { begin = form.at; node = Indent; end = margin_len form } ∷ [] else replicate (count_by (nat_lt w) levels) (record { begin = form.at; node = Dedent; end = form.at }))
        ≡ nodes (if nat_lt 0 v && is_widest v levels then record { begin = margin.at; node = Indent; end = margin_len margin } ∷ [] else replicate (count_by (nat_lt v) levels) (record { begin = margin.at; node = Dedent; end = margin.at }))
    width w v f = rw (f) (by (nat_lt 0 v && is_widest v levels) (count_by (nat_lt v) levels))
      where
        by : (widest : Bool) (n : ℕ)
            → nodes (if widest then record { begin = form.at; node = Indent; end = margin_len form } ∷ [] else replicate n (record { begin = form.at; node = Dedent; end = form.at }))
            ≡ nodes (if widest then record { begin = margin.at; node = Indent; end = margin_len margin } ∷ [] else replicate n (record { begin = margin.at; node = Dedent; end = margin.at }))
        by true n = refl
        by false n = replicate_nodes n _ _ refl

-- tokens that open and close nothing
abbrev pub is_neutral : Token → Bool
is_neutral Newline = true
is_neutral (Comment text) = true
is_neutral Indent = true
is_neutral Dedent = true
is_neutral token = false

abbrev pub neutral : List Lexeme → Bool
neutral lexemes = list_all is_neutral (nodes lexemes)

neutral_append : (one other : List Lexeme) → neutral one ≡ true → neutral other ≡ true → neutral (one ++ other) ≡ true
neutral_append [] other h k = k
neutral_append (lexeme ∷ one) other h k = let parts = and_parts (is_neutral lexeme.node) (neutral one) h in rw (parts.0) (neutral_append one other parts.1 k)

neutral_margin : (text : Text) → neutral (margin_of text).comments ≡ true
neutral_margin = margin_holds (λ ls. neutral ls ≡ true) refl (λ at line rest h. h)

-- a margin that stands, in the form
pub record MarginStands (len : ℕ) (before : List Lexeme) (levels : List ℕ) (text : Text) (at : ℕ) (piece : Piece) : Type 0 where
  pub form : Piece
  pub stands : margin_step len before levels (margin_of (crlf text)) ≡ Stands form
  pub like : PieceCrlf piece form
  pub sort : piece.sort ≡ Layout
  pub outside : is_content (margin_of text).remainder ≡ false → neutral piece.lexemes ≡ true
  pub len_is : piece.len ≡ at + margin_len (margin_of text)
  pub form_len : form.len ≡ len + margin_len (margin_of (crlf text))
  pub left : Left (drop (margin_len (margin_of text)) text) (drop (margin_len (margin_of (crlf text))) (crlf text)) (is_content (margin_of text).remainder)

pub margin_stands : (at len : ℕ) (line before : List Lexeme) (levels : List ℕ) (text : Text) (piece : Piece) → no_return text ≡ true → nodes before ≡ nodes line → margin_step at line levels (margin_of text) ≡ Stands piece → neutral line ≡ true → MarginStands len before levels text at piece
unfolding margin_step
margin_stands at len line before levels text piece h same stands calm =
    go (is_content (margin_of text).remainder) refl (has_tab (margin_of text)) refl (fits (width_of (margin_of text)) levels) refl stands
  where
    both : MarginCrlf text (margin_of text) (margin_of (crlf text))
    both = margin_crlf text h

    here : List Lexeme → Option ℕ → Piece
    here lexemes width = record { len = at + margin_len (margin_of text); lexemes = line ++ map (moved at) ((margin_of text).comments ++ lexemes); width = width; sort = Layout }

    there : List Lexeme → Option ℕ → Piece
    there lexemes width = record { len = len + margin_len (margin_of (crlf text)); lexemes = before ++ map (moved len) ((margin_of (crlf text)).comments ++ lexemes); width = width; sort = Layout }

    alike : (one other : List Lexeme) → nodes other ≡ nodes one → nodes (before ++ map (moved len) ((margin_of (crlf text)).comments ++ other)) ≡ nodes (line ++ map (moved at) ((margin_of text).comments ++ one))
    alike one other e =
        nodes_append before (map (moved len) ((margin_of (crlf text)).comments ++ other))
        ∙ ap (λ ts. ts ++ nodes (map (moved len) ((margin_of (crlf text)).comments ++ other))) same
        ∙ ap (λ ts. nodes line ++ ts) (nodes_moved len ((margin_of (crlf text)).comments ++ other) ∙ nodes_append (margin_of (crlf text)).comments other
        ∙ ap (λ ts. ts ++ nodes other) both.comments ∙ ap (λ ts. nodes (margin_of text).comments ++ ts) e
        ∙ sym (nodes_append (margin_of text).comments one) ∙ sym (nodes_moved at ((margin_of text).comments ++ one)))
        ∙ sym (nodes_append line (map (moved at) ((margin_of text).comments ++ one)))

    made : (one other : List Lexeme) (width : Option ℕ) → nodes other ≡ nodes one → Stands (here one width) ≡ Stands piece → margin_step len before levels (margin_of (crlf text)) ≡ Stands (there other width) → (is_content (margin_of text).remainder ≡ false → one ≡ []) → MarginStands len before levels text at piece
    made one other width e f g none =
        let piece_is : here one width ≡ piece = cc in
        subst (MarginStands len before levels text at) piece_is (record {
          form = there other width;
          stands = g;
          like = record { same = alike one other e; width = refl; sort = refl };
          sort = refl;
          outside = λ blank. neutral_append line (map (moved at) ((margin_of text).comments ++ one)) calm (ap (λ ts. list_all is_neutral ts) (nodes_moved at ((margin_of text).comments ++ one))
              ∙ neutral_append (margin_of text).comments one (neutral_margin text) (ap neutral (none blank)));
          len_is = refl;
          form_len = refl;
          left = both.left;
        })

    go : (content : Bool) → is_content (margin_of text).remainder ≡ content → (tab : Bool) → has_tab (margin_of text) ≡ tab → (fitting : Bool) → fits (width_of (margin_of text)) levels ≡ fitting
        → (if not content then Stands (here [] None) else (if tab then Fails (record { begin = 0; node = InvalidTab; end = 0 }) else (if fitting then Stands (here (indentation levels (margin_of text)) (Some (width_of (margin_of text)))) else Fails (record { begin = 0; node = Indentation; end = at + margin_len (margin_of text) })))) ≡ Stands piece
        → MarginStands len before levels text at piece
    go false c tab t fitting f e = made [] [] None refl e (rw (both.content, c) refl) (λ blank. refl)
    go true c true t fitting f e = cc
    go true c false t false f e = cc
    go true c false t true f e =
        let blanks : (margin_of (crlf text)).blanks ≡ (margin_of text).blanks = both.blanks c in
        let width : width_of (margin_of (crlf text)) ≡ width_of (margin_of text) = ap (λ (blanks : Text). count_by (nat_eq 32) blanks) blanks in
        let tabs : has_tab (margin_of (crlf text)) ≡ false = ap (λ (blanks : Text). Rattle.std.specs.List.list_any (nat_eq 9) blanks) blanks ∙ t in
        made (indentation levels (margin_of text)) (indentation levels (margin_of (crlf text))) (Some (width_of (margin_of text))) (indent_nodes levels (margin_of text) (margin_of (crlf text)) blanks) e
        (rw (both.content, c, tabs, width, f) refl) (λ blank. let wrong : true ≡ false = sym c ∙ blank in cc)
