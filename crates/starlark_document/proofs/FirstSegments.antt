-- What is found in the first segment of a text.
use Rattle.std.proofs.Common.{◌≡◌, ℕ, zero, suc, ◌-◌, ◌≤◌, ◌<◌, nat_lt, Bool, true, false, List, [], ◌∷◌, ◌++◌, map, take, drop, length, refl, ap, sym, subst, ◌∙◌, append_assoc, append-nil, arith, count_by, length-drop}
use Rattle.std.specs.Prelude.{◌==◌, ◌&&◌, nat_le}
use Rattle.std.specs.List.{AllByRecursion}
use Rattle.std.proofs.lemmas.Bool.{and_parts, eqb-true, le-leb, leb-true}
use Rattle.std.proofs.lemmas.List.{drop_all, length-take-le, take_all}
use Rattle.starlark_base.specs.Places.{is_lf}
use Rattle.starlark_document.specs.Documents.{AreInside, EndsWithLine, is_line_end, line_end_from, may_end}
use Rattle.starlark_document.specs.Inner.LexedFronts.{BeginUndented, EndsPlainly, IsFirstSegment, IsLexedFront, IsSized, given_of, is_dedent_item, is_dedent_view, refused_of, without_newline}
use Rattle.starlark_document.specs.Inner.Segments.{AreFaults, text_in}
use Rattle.starlark_document.specs.declared.lexed_fronts.LexedFront.{LexedFront}
use Rattle.starlark_document.specs.declared.segments.Segment.{Segment}
use Rattle.starlark_document.proofs.FoundInSegments.{all_without}
use Rattle.starlark_document.proofs.FrontItems.{given_append, plain_of, refused_append}
use Rattle.starlark_document.proofs.SegmentLaws.{items_are_found, items_close, items_cut}
use Rattle.starlark_document.proofs.LineEndings.{without_shown}
use Rattle.starlark_grammar.specs.Words.{Text}
use Rattle.starlark_grammar.specs.Joining.{begins_plainly, without_last_newline}
use Rattle.starlark_grammar.specs.ClosedTexts.{Empty, IsClosed}
use Rattle.starlark_grammar.specs.Found.{faults_in, found, lexemes_in}
use Rattle.starlark_recovery.specs.RecoveringLexer.{all_items}
use Rattle.starlark_token.specs.Lexemes.{lexeme_view, shown_lexeme}
use Rattle.starlark_token.specs.TextItems.{LexerItem, Given, Refused}
use Rattle.starlark_token.specs.TokenViews.{TokenView, Whole, is_newline_view}
use Rattle.starlark_grammar.specs.Tokens.{Dedent, Lexeme, Spanned}

-- a text that begins plainly isn't empty
plain_some : (text : Text) → begins_plainly text ≡ true → 0 < length text
unfolding begins_plainly
plain_some [] plain = cc
plain_some (b ∷ bs) plain = omega arith

pub plain_below : (text : Text) (at : ℕ) → begins_plainly (drop at text) ≡ true → at < length text
plain_below text at plain = omega (arith, length-drop at text, plain_some (drop at text) plain)

-- a length that was tested
pub zero_of : (n : ℕ) → true ≡ (n == 0) → n ≡ 0
zero_of n e = eqb-true n 0 (sym e)

-- an empty text is closed
pub empty_closed : (text : Text) → length text ≡ 0 → IsClosed text
empty_closed [] e = Empty []
empty_closed (b ∷ bs) e = absurd (omega (arith, e))

-- a text that ends with a newline of some bytes is closed
pub line_closed : (text : Text) (front : LexedFront) → IsLexedFront text (all_items text) front → front.line_end ≡ length text → IsClosed text
line_closed text front is end = by_length (length text) refl
  where
    by_length : (n : ℕ) → length text ≡ n → IsClosed text
    by_length zero e = empty_closed text e
    by_length (suc n) e =
        let ends = is.line_end (omega (arith, e, end)) in
        items_close text ends.front ends.newline ends.more ends.items ends.is_line_end (ends.end ∙ end)

-- a text whose last newline ends before its end doesn't end with one
pub unended : (text : Text) (front : LexedFront) → IsLexedFront text (all_items text) front → (front.line_end ≡ length text → ⊥) → EndsWithLine text → ⊥
unended text front is other ends = other (is.last ∙ ap (line_end_from 0) (items_are_found text).0 ∙ ends)

-- `Dedent`s are no faults
no_faults : (dedents : List LexerItem) → AllByRecursion (λ item. is_dedent_item item ≡ true) dedents → refused_of dedents ≡ []
no_faults [] all = refl
no_faults (Given lexeme ∷ more) all = no_faults more all.1
no_faults (Refused fault ∷ more) all = cc

-- the segment of a whole text that is the last of a document
pub whole_last : (text : Text) (front : LexedFront) (segment : Segment) → IsLexedFront text (all_items text) front
    → text_in segment ≡ text → segment.len ≡ length text → segment.lines ≡ count_by is_lf text → segment.content.value.lexemes.items ≡ front.lexemes.items → segment.content.value.faults ≡ front.faults
    → IsFirstSegment text true segment
whole_last text front segment is same len lines lexemes faults = record {
  within = omega (arith, len);
  text = same ∙ sym (take_all segment.len text (omega (arith, len)));
  len = len ∙ sym (ap length same);
  some = λ l. omega (arith, len, l);
  cut = λ l. absurd (omega (arith, len, l));
  last = λ e f. record {
    lexemes = rw (same, lexemes) (is.lexemes ∙ (items_are_found text).0);
    faults = rw (same, faults) (subst (λ fs. AreFaults fs front.faults.items) (items_are_found text).1 is.faults);
    len = len ∙ sym (ap length same);
    lines = lines ∙ sym (ap (count_by is_lf) same);
  };
  inner = λ e f. cc;
}

-- the segment of a whole text that others follow
pub whole_open : (text : Text) (front rest : LexedFront) (segment : Segment) → IsLexedFront text (all_items text) front → IsClosed text
    → map lexeme_view rest.lexemes.items ≡ without_newline (map lexeme_view front.lexemes.items) → rest.faults ≡ front.faults
    → text_in segment ≡ text → segment.len ≡ length text → segment.lines ≡ count_by is_lf text → segment.content.value.lexemes.items ≡ rest.lexemes.items → segment.content.value.faults ≡ rest.faults
    → IsFirstSegment text false segment
whole_open text front rest segment is closed taken kept same len lines lexemes faults = record {
  within = omega (arith, len);
  text = same ∙ sym (take_all segment.len text (omega (arith, len)));
  len = len ∙ sym (ap length same);
  some = λ l. omega (arith, len, l);
  cut = λ l. absurd (omega (arith, len, l));
  last = λ e f. cc;
  inner = λ e f. record {
    is_closed = rw same closed;
    lexed = record {
      lexemes = rw (same, lexemes) (taken ∙ ap without_newline (is.lexemes ∙ (items_are_found text).0) ∙ without_shown (lexemes_in (found text)));
      faults = rw (same, faults, kept) (subst (λ fs. AreFaults fs front.faults.items) (items_are_found text).1 is.faults);
      len = len ∙ sym (ap length same);
      lines = lines ∙ sym (ap (count_by is_lf) same);
    };
  };
}

-- the segment of a text up to where it can be cut, before an item that isn't a `Dedent`
pub cut_first : (text : Text) (is_last : Bool) (items more : List LexerItem) (front : LexedFront) (segment : Segment)
    → all_items text ≡ items ++ more → IsLexedFront text items front → front.is_cut ≡ true → BeginUndented more
    → text_in segment ≡ take front.line_end text → segment.len ≡ front.line_end → segment.lines ≡ count_by is_lf (take front.line_end text) → segment.content.value.lexemes.items ≡ front.lexemes.items → segment.content.value.faults ≡ front.faults
    → IsFirstSegment text is_last segment
cut_first text is_last items more front segment all is is_cut other same len lines lexemes faults =
    let ends = is.cut is_cut in
    let plain = plain_of front.least_len text front.line_end ends.may in
    let below = plain_below text front.line_end plain in
    let split : all_items text ≡ ends.front ++ (Given ends.newline ∷ (ends.dedents ++ more)) = all ∙ ap (λ xs. xs ++ more) ends.items ∙ append_assoc ends.front (Given ends.newline ∷ ends.dedents) more in
    let cut = items_cut text ends.front ends.newline ends.dedents more split ends.is_line_end ends.are_dedents other (subst (λ n. begins_plainly (drop n text) ≡ true) (sym ends.end) plain) in
    let closed : IsClosed (take front.line_end text) = subst (λ n. IsClosed (take n text)) ends.end cut.0 in
    let given : map shown_lexeme (without_last_newline (lexemes_in (found (take front.line_end text)))) ≡ given_of (ends.front ++ (Given ends.newline ∷ ends.dedents)) =
    subst (λ n. map shown_lexeme (without_last_newline (lexemes_in (found (take n text)))) ≡ given_of (ends.front ++ (Given ends.newline ∷ ends.dedents))) ends.end cut.1 in
    let len_in : segment.len ≡ length (text_in segment) = len ∙ sym (length-take-le front.line_end text is.within) ∙ sym (ap length same) in
    let refused : faults_in (found (take front.line_end text)) ≡ refused_of items =
    subst (λ n. faults_in (found (take n text)) ≡ refused_of ends.front) ends.end cut.2 ∙ sym (ap refused_of ends.items ∙ refused_append ends.front (Given ends.newline ∷ ends.dedents) ∙ ap (λ fs. refused_of ends.front ++ fs) (no_faults ends.dedents ends.are_dedents) ∙ append-nil (refused_of ends.front)) in
    record {
      within = omega (arith, len, is.within);
      text = rw len same;
      len = len_in;
      some = λ l. omega (arith, len, ends.end, ends.is_line_end.1);
      cut = λ l. (
        record {
          is_closed = rw same closed;
          lexed = record {
            lexemes = rw (same, lexemes) (is.lexemes ∙ ap given_of ends.items ∙ sym given);
            faults = rw (same, faults) (subst (λ fs. AreFaults fs front.faults.items) (sym refused) is.faults);
            len = len_in;
            lines = lines ∙ sym (ap (count_by is_lf) same);
          };
        },
        rw len plain,
      );
      last = λ e f. absurd (omega (arith, e, len, below));
      inner = λ e f. absurd (omega (arith, e, len, below));
    }

-- Segments that can't be cut

all_mapped : {A B : Type 0} (P : B → Type 0) (f : A → B) (xs : List A) → AllByRecursion P (map f xs) → AllByRecursion (λ x. P (f x)) xs
all_mapped P f [] all = tt
all_mapped P f (x ∷ xs) all = (all.0, all_mapped P f xs all.1)

pub mapped_all : {A B : Type 0} (P : B → Type 0) (f : A → B) (xs : List A) → AllByRecursion (λ x. P (f x)) xs → AllByRecursion P (map f xs)
mapped_all P f [] all = tt
mapped_all P f (x ∷ xs) all = (all.0, mapped_all P f xs all.1)

inside_append : (least : ℕ) (text : Text) (xs ys : List (Spanned TokenView)) → AreInside least text xs → AreInside least text ys → AreInside least text (xs ++ ys)
inside_append least text [] ys one other = other
inside_append least text (x ∷ xs) ys one other = (one.0, inside_append least text xs ys one.1 other)

-- a text in which no segment may end, …
pub whole_uncut : (text : Text) (front : LexedFront) (segment : Segment) → IsLexedFront text (all_items text) front → front.is_cut ≡ false → text_in segment ≡ text → segment.len ≡ length text → IsSized text front.least_len segment
whole_uncut text front segment is uncut same len = record {
  uncut = rw same (mapped_all Inside shown_lexeme own (all_without (λ (x : Lexeme). Inside (shown_lexeme x)) (lexemes_in (found text)) (all_mapped Inside shown_lexeme (lexemes_in (found text)) (rw (items_are_found text).0 at (is.uncut uncut)))));
  long = λ less. absurd (omega (arith, less, len));
}
  where
    Inside : Spanned TokenView → Type 0
    Inside x = is_line_end x && may_end front.least_len text x.end ≡ false

    own : List Lexeme
    own = without_last_newline (lexemes_in (found text))

-- … and a front of one
plain_later : (at e : ℕ) (text : Text) → begins_plainly (drop e (take at text)) ≡ true → begins_plainly (drop e text) ≡ true
unfolding begins_plainly
plain_later zero zero text plain = cc
plain_later zero (suc e) text plain = cc
plain_later (suc at) zero [] plain = cc
plain_later (suc at) zero (b ∷ bs) plain = plain
plain_later (suc at) (suc e) [] plain = cc
plain_later (suc at) (suc e) (b ∷ bs) plain = plain_later at e bs plain

may_later : (least at e : ℕ) (text : Text) → at ≤ length text → may_end least (take at text) e ≡ true → may_end least text e ≡ true
may_later least at e text within may =
    let parts = and_parts (nat_le least e && nat_le least (length (take at text) - e)) (begins_plainly (drop e (take at text))) may in
    let lens = and_parts (nat_le least e) (nat_le least (length (take at text) - e)) parts.0 in
    let more : nat_le least (length text - e) ≡ true = le-leb least (length text - e) (omega (arith, leb-true least (length (take at text) - e) lens.1, length-take-le at text within, within)) in
    rw (lens.0, more, plain_later at e text parts.1) refl

inside_front : (least at : ℕ) (text : Text) (xs : List (Spanned TokenView)) → at ≤ length text → AreInside least text xs → AreInside least (take at text) xs
inside_front least at text [] within all = tt
inside_front least at text (x ∷ xs) within all = (by (is_line_end x) (may_end least (take at text) x.end) refl all.0, inside_front least at text xs within all.1)
  where
    by : (line may : Bool) → may_end least (take at text) x.end ≡ may → line && may_end least text x.end ≡ false → line && may ≡ false
    by false may e inside = refl
    by true false e inside = refl
    by true true e inside = absurd (let later = may_later least at x.end text within e in true_false later inside)
      where
        true_false : may_end least text x.end ≡ true → may_end least text x.end ≡ false → ⊥
        true_false is not_is = cc

-- no segment may end at the end of a text
none_at_end : (least at : ℕ) (text : Text) → length text ≤ at → may_end least text at ≡ false
unfolding begins_plainly
none_at_end least at text past = rw (drop_all at text past) (and_false (nat_le least at && nat_le least (length text - at)))
  where
    and_false : (b : Bool) → b && false ≡ false
    and_false true = refl
    and_false false = refl

dedents_inside : (least : ℕ) (text : Text) (dedents : List LexerItem) → AllByRecursion (λ item. is_dedent_item item ≡ true) dedents → AreInside least text (given_of dedents)
dedents_inside least text [] all = tt
dedents_inside least text (Refused fault ∷ more) all = dedents_inside least text more all.1
dedents_inside least text (Given x ∷ more) all = (one x.node all.0, dedents_inside least text more all.1)
  where
    one : (node : TokenView) → is_dedent_view node ≡ true → is_newline_view node && nat_lt x.begin x.end && may_end least text x.end ≡ false
    one (Whole Dedent) is = refl
    one node is = cc

pub cut_uncut : (text : Text) (items more : List LexerItem) (front : LexedFront) (segment : Segment) → all_items text ≡ items ++ more → IsLexedFront text items front → front.is_cut ≡ true → BeginUndented more
    → text_in segment ≡ take front.line_end text → segment.len ≡ front.line_end → IsSized text front.least_len segment
cut_uncut text items more front segment all is is_cut other same len = record {
  uncut = rw same (rw given inside);
  long = λ less. (omega (arith, len, leb-true front.least_len front.line_end lens.0), omega (arith, len, leb-true front.least_len (length text - front.line_end) lens.1));
}
  where
    ends : EndsPlainly front.least_len text items front.line_end
    ends = is.cut is_cut

    lens : (nat_le front.least_len front.line_end ≡ true) × (nat_le front.least_len (length text - front.line_end) ≡ true)
    lens = and_parts _ _ (and_parts (nat_le front.least_len front.line_end && nat_le front.least_len (length text - front.line_end)) (begins_plainly (drop front.line_end text)) ends.may).0

    plain : begins_plainly (drop front.line_end text) ≡ true
    plain = plain_of front.least_len text front.line_end ends.may

    split : all_items text ≡ ends.front ++ (Given ends.newline ∷ (ends.dedents ++ more))
    split = all ∙ ap (λ xs. xs ++ more) ends.items ∙ append_assoc ends.front (Given ends.newline ∷ ends.dedents) more

    given : map shown_lexeme (without_last_newline (lexemes_in (found (take front.line_end text)))) ≡ given_of ends.front ++ (ends.newline ∷ given_of ends.dedents)
    given = subst (λ n. map shown_lexeme (without_last_newline (lexemes_in (found (take n text)))) ≡ given_of (ends.front ++ (Given ends.newline ∷ ends.dedents))) ends.end
        (items_cut text ends.front ends.newline ends.dedents more split ends.is_line_end ends.are_dedents other (subst (λ n. begins_plainly (drop n text) ≡ true) (sym ends.end) plain)).1
        ∙ given_append ends.front (Given ends.newline ∷ ends.dedents)

    last : is_line_end ends.newline && may_end front.least_len (take front.line_end text) ends.newline.end ≡ false
    last = ap (λ (b : Bool). is_line_end ends.newline && b) (none_at_end front.least_len ends.newline.end (take front.line_end text) (omega (arith, ends.end, length-take-le front.line_end text is.within))) ∙ none (is_line_end ends.newline)
      where
        none : (b : Bool) → b && false ≡ false
        none true = refl
        none false = refl

    inside : AreInside front.least_len (take front.line_end text) (given_of ends.front ++ (ends.newline ∷ given_of ends.dedents))
    inside = inside_append front.least_len (take front.line_end text) (given_of ends.front) (ends.newline ∷ given_of ends.dedents)
        (inside_front front.least_len front.line_end text (given_of ends.front) is.within ends.earlier) (last, dedents_inside front.least_len (take front.line_end text) ends.dedents ends.are_dedents)
