-- Texts joined at clean cuts.
use Rattle.std.proofs.Common.{◌≡◌, ℕ, ◌+◌, ◌<◌, Bool, true, false, not, List, [], ◌∷◌, ◌++◌, length, take, drop, map, refl, ap, ◌∙◌, sym, subst, Option, Some, None, arith, append_assoc, append-nil, ◌⊎◌, inl, inr}
use Rattle.std.specs.Prelude.{⊤, ◌&&◌, if◌then◌else◌, nat_lt, option_to_list}
use Rattle.std.proofs.lemmas.Bool.{both_ways}
use Rattle.std.proofs.lemmas.List.Sums.{sum_by-cons}
use Rattle.std.proofs.lemmas.List.{drop-append-le, take-append-le, length-drop, length-take, map-append}
use Rattle.starlark_grammar.specs.declared.class.Class.TheVariants as word
use Rattle.starlark_grammar.specs.Words.{Text, class_in, language}
use Rattle.starlark_grammar.specs.declared.class.LiteralKind.{LiteralKind as Kind}
use Rattle.starlark_grammar.specs.declared.class.Class.{Class}
use Rattle.starlark_grammar.specs.Front.{longest_front}
use Rattle.starlark_grammar.specs.Numbers.{integer_of}
use Rattle.starlark_grammar.specs.Tokens.{Token, Newline, Int, StartsZero, FStringBang, Indent, InvalidTab, Indentation, Opening, Lexeme, moved}
use Rattle.starlark_grammar.specs.Items.{Stop, Closing, OpeningBrace, BadEscape, Body}
use Rattle.starlark_grammar.specs.Depths.{Mode, Outside, InText, AtTop, Deeper}
use Rattle.starlark_grammar.specs.Margins.{Margin, margin_of, margin_len, is_content, has_tab, width_of, fits, indentation, open_widths}
use Rattle.starlark_grammar.specs.Pieces.{fault, token, Before, Nothing, Layout, Gap, Other, Piece, Step, Stands, Fails, Ends, Situation, margin_step, first_margin, line_end, counts, is_bang, takes_bang, literal_by, opener, chunk_by, chunk, starts_zero, word_step, front_step, in_code, by_mode, by_before, step_at}
use Rattle.starlark_grammar.specs.Reading.{tokens_onto, History, nothing, after, after_all, situation, next_step, pieces_len, lexemes_along}
use Rattle.starlark_grammar.specs.Longest.{IsReading}
use Rattle.starlark_grammar.specs.Cuts.{is_layout}
use Rattle.starlark_grammar.proofs.Literals.LiteralSteps.{chunk_holds, opener_holds, escape_holds}
use Rattle.starlark_grammar.proofs.Words.Fronts.{longest_front_is}
use Rattle.starlark_grammar.proofs.Reading.Readings.{none_next, started, piece_fits}
use Rattle.starlark_grammar.proofs.Reading.Steps.{is_nothing}
use Rattle.starlark_grammar.proofs.Joining.Followed.{ends_line, ends_line_drop, longest_front_append}
use Rattle.starlark_grammar.proofs.Joining.FollowedPieces.{CountedLineEnd, step_append}
use Rattle.starlark_grammar.proofs.Joining.FollowedMargins.{whole_after, Followed, Whole, Within, margin_after, followed, has_whole_lines}
use Rattle.starlark_grammar.proofs.Joining.Settled.{Settled, remainder, onto_earlier}

-- Margins and line ends

pub whole_from_ends : (text : Text) → ends_line text ≡ true → has_whole_lines text ≡ true
whole_from_ends [] h = refl
whole_from_ends (b ∷ []) h = h
whole_from_ends (b ∷ c ∷ bs) h = whole_from_ends (c ∷ bs) h

pub content_append : (text more : Text) → 0 < length text → is_content (text ++ more) ≡ is_content text
content_append [] more some = absurd (omega (arith, some))
content_append (b ∷ bs) more some = refl

-- where the margin ends inside of the text
pub step_within : (len : ℕ) (lexemes : List Lexeme) (levels : List ℕ) (text more : Text) → 0 < length (margin_of text).remainder
    → margin_of (text ++ more) ≡ record { comments = (margin_of text).comments; at = (margin_of text).at; blanks = (margin_of text).blanks; remainder = (margin_of text).remainder ++ more }
    → margin_step len lexemes levels (margin_of (text ++ more)) ≡ margin_step len lexemes levels (margin_of text)
unfolding margin_step indentation
step_within len lexemes levels text more some e = rw (e, content_append (margin_of text).remainder more some) refl

pub moved_both : {A : Type 0} (a b c : ℕ) (x : Rattle.starlark_grammar.specs.Tokens.Spanned A) → a + b ≡ c → moved a (moved b x) ≡ moved c x
moved_both a b c x e =
    let begin : a + (b + x.begin) ≡ c + x.begin = omega (arith, e) in
    let end : a + (b + x.end) ≡ c + x.end = omega (arith, e) in
    rw (begin, end) refl

pub all_moved : (a b c : ℕ) (lexemes : List Lexeme) → a + b ≡ c → map (moved a) (map (moved b) lexemes) ≡ map (moved c) lexemes
all_moved a b c [] e = refl
all_moved a b c (lexeme ∷ lexemes) e = rw (moved_both a b c lexeme e, all_moved a b c lexemes e) refl

pub twice : {A : Type 0} (a b : ℕ) (xs : List (Rattle.starlark_grammar.specs.Tokens.Spanned A)) → map (moved a) (map (moved b) xs) ≡ map (moved (a + b)) xs
twice a b [] = refl
twice a b (x ∷ xs) = rw (moved_both a b (a + b) x refl, twice a b xs) refl

pub unmoved : {A : Type 0} (xs : List (Rattle.starlark_grammar.specs.Tokens.Spanned A)) → map (moved 0) xs ≡ xs
unmoved [] = refl
unmoved (x ∷ xs) =
    let begin : 0 + x.begin ≡ x.begin = omega arith in
    let end : 0 + x.end ≡ x.end = omega arith in
    rw (begin, end, unmoved xs) refl

-- where the text is all comment-only lines: what the margin is then
abbrev pub joined_piece : ℕ → List Lexeme → Piece → Piece
joined_piece len lexemes piece = record { len = len + piece.len; lexemes = lexemes ++ map (moved len) piece.lexemes; width = piece.width; sort = piece.sort }

indentation_after : (n : ℕ) (comments : List Lexeme) (margin : Margin) → indentation [] (margin_after n comments margin) ≡ map (moved n) (indentation [] margin)
unfolding indentation
indentation_after n comments margin = go (nat_lt 0 (width_of margin))
  where
    end : n + margin.at + length margin.blanks ≡ n + (margin.at + length margin.blanks)
    end = omega arith

    indents : (end : ℕ) → List Lexeme
    indents end = record { begin = n + margin.at; node = Indent; end = end } ∷ []

    go : (positive : Bool) → (if positive && true then record { begin = n + margin.at; node = Indent; end = n + margin.at + length margin.blanks } ∷ [] else [])
        ≡ map (moved n) (if positive && true then record { begin = margin.at; node = Indent; end = margin.at + length margin.blanks } ∷ [] else [])
    go true = ap indents end
    go false = refl

-- A margin without fault, and the same after a line end and more comment-only lines.
step_after : (len : ℕ) (lexemes : List Lexeme) (n : ℕ) (comments : List Lexeme) (margin : Margin) (first : Piece) → margin_step 0 [] [] margin ≡ Stands first
    → margin_step len lexemes [] (margin_after n comments margin) ≡ Stands (joined_piece (len + n) (lexemes ++ map (moved len) comments) first)
unfolding margin_step
step_after len lexemes n comments margin first e =
    go (not (is_content margin.remainder)) (has_tab margin) (fits (width_of margin) []) refl e
  where
    laid : List Lexeme → Option ℕ → Piece
    laid indents width = record { len = 0 + margin_len margin; lexemes = map (moved 0) (margin.comments ++ indents); width = width; sort = Layout }

    made : List Lexeme → Option ℕ → Piece
    made indents width = record { len = len + margin_len (margin_after n comments margin); lexemes = lexemes ++ map (moved len) ((comments ++ map (moved n) margin.comments) ++ indents); width = width; sort = Layout }

    same : (indents : List Lexeme) (width : Option ℕ) → made (map (moved n) indents) width ≡ joined_piece (len + n) (lexemes ++ map (moved len) comments) (laid indents width)
    same indents width =
        let total : len + (n + margin.at + length margin.blanks) ≡ len + n + (0 + (margin.at + length margin.blanks)) = omega arith in
        let lists : lexemes ++ map (moved len) ((comments ++ map (moved n) margin.comments) ++ map (moved n) indents) ≡ (lexemes ++ map (moved len) comments) ++ map (moved (len + n)) (map (moved 0) (margin.comments ++ indents)) =
        ap (λ ls. lexemes ++ map (moved len) ls) (append_assoc comments (map (moved n) margin.comments) (map (moved n) indents) ∙ ap (λ ls. comments ++ ls) (sym (map-append (moved n) margin.comments indents)))
        ∙ ap (λ ls. lexemes ++ ls) (map-append (moved len) comments (map (moved n) (margin.comments ++ indents)))
        ∙ sym (append_assoc lexemes (map (moved len) comments) (map (moved len) (map (moved n) (margin.comments ++ indents))))
        ∙ ap (λ ls. (lexemes ++ map (moved len) comments) ++ ls) (all_moved len n (len + n) (margin.comments ++ indents) refl ∙ sym (all_moved (len + n) 0 (len + n) (margin.comments ++ indents) (omega arith))) in
        rw (total, lists) refl

    stands : (one other : Piece) → Stands one ≡ Stands first → other ≡ joined_piece (len + n) (lexemes ++ map (moved len) comments) one → Stands other ≡ Stands (joined_piece (len + n) (lexemes ++ map (moved len) comments) first)
    stands one other e f = let same : one ≡ first = cc in ap Stands (f ∙ ap (joined_piece (len + n) (lexemes ++ map (moved len) comments)) same)

    go : (blank tab fitting : Bool) → fits (width_of margin) [] ≡ fitting
        → (if blank then Stands (laid [] None) else (if tab then Fails (record { begin = 0; node = InvalidTab; end = 0 }) else (if fitting then Stands (laid (indentation [] margin) (Some (width_of margin))) else Fails (record { begin = 0; node = Indentation; end = 0 + margin_len margin })))) ≡ Stands first
        → (if blank then Stands (made [] None) else (if tab then Fails (record { begin = 0; node = InvalidTab; end = 0 }) else (if fitting then Stands (made (indentation [] (margin_after n comments margin)) (Some (width_of margin))) else Fails (record { begin = 0; node = Indentation; end = len + margin_len (margin_after n comments margin) })))) ≡ Stands (joined_piece (len + n) (lexemes ++ map (moved len) comments) first)
    go true tab fitting f e = stands (laid [] None) (made [] None) e (same [] None)
    go false true fitting f e = cc
    go false false true f e = stands (laid (indentation [] margin) (Some (width_of margin))) _ e (ap (λ ls. made ls (Some (width_of margin))) (indentation_after n comments margin) ∙ same (indentation [] margin) (Some (width_of margin)))
    go false false false f e = cc

-- Which steps are layout

abbrev NoLayout : Step → Type 0
NoLayout (Stands piece) = is_layout piece.sort ≡ false
NoLayout (Fails fault) = ⊤
NoLayout Ends = ⊤

plain_literal : (mode : Mode) (kind : Kind) (opening : Opening) (len : ℕ) (remainder : Text) (body : Body) (stop : Stop) → NoLayout (literal_by mode kind opening len remainder body stop)
plain_literal mode kind opening len remainder body Closing = refl
plain_literal mode kind opening len remainder body (BadEscape read last) = escape_holds NoLayout _ _ (λ end. tt) (λ escape end. tt)
plain_literal mode kind opening len remainder body stop = tt

plain_opener : (mode : Mode) (kind : Kind) (opening : Opening) (len : ℕ) (remainder : Text) → NoLayout (opener mode kind opening len remainder)
plain_opener mode kind opening len remainder = opener_holds NoLayout mode kind opening len remainder refl (λ len rest body stop. plain_literal mode kind opening len rest body stop)

plain_chunk_by : (opening : Opening) (text : Text) (body : Body) (stop : Stop) → NoLayout (chunk_by opening text body stop)
plain_chunk_by opening text body OpeningBrace = refl
plain_chunk_by opening text body Closing = refl
plain_chunk_by opening text body stop = tt

plain_chunk : (opening : Opening) (text : Text) → NoLayout (chunk opening text)
plain_chunk opening text = chunk_holds NoLayout opening text (plain_chunk_by opening text)

plain_if : (b : Bool) (one other : Step) → NoLayout one → NoLayout other → NoLayout (if b then one else other)
plain_if true one other h k = h
plain_if false one other h k = k

-- a line end that counts
pub record CountedEnd (s : Situation) (text : Text) (piece : Piece) : Type 0 where
  pub len : ℕ
  pub front : longest_front (class_in language) text ≡ Some (word.LineEnd, len)
  pub counted : counts s.mode s.is_balanced ≡ true
  pub stands : line_end (length (take len text)) s.levels (drop len text) ≡ Stands piece

layout_not : (step : Step) (piece : Piece) → NoLayout step → step ≡ Stands piece → is_layout piece.sort ≡ true → ⊥
layout_not (Stands other) piece none e h = let same : other ≡ piece = cc in both_ways _ (subst (λ (p : Piece). is_layout p.sort ≡ false) same none) h
layout_not (Fails fault) piece none e h = cc
layout_not Ends piece none e h = cc

module _ (s : Situation) (text : Text) (piece : Piece) (laid : is_layout piece.sort ≡ true) where
  by_class : (class : Class) (len : ℕ) → longest_front (class_in language) text ≡ Some (class, len) → word_step s class (take len text) (drop len text) ≡ Stands piece → CountedEnd s text piece
  by_class word.Skipped len front e = absurd (layout_not _ piece refl e laid)
  by_class word.Comment len front e = absurd (layout_not _ piece refl e laid)
  by_class word.Tabs len front e = absurd (layout_not _ piece tt e laid)
  by_class word.LineEnd len front e = go (counts s.mode s.is_balanced) refl e
    where
      go : (counted : Bool) → counts s.mode s.is_balanced ≡ counted
          → (if counted then line_end (length (take len text)) s.levels (drop len text) else Stands (record { len = length (take len text); lexemes = []; width = None; sort = Other })) ≡ Stands piece → CountedEnd s text piece
      go true f e = record { len = len; front = front; counted = f; stands = e }
      go false f e = absurd (layout_not _ piece refl e laid)
  by_class (word.Opener kind is_raw quote) len front e = absurd (layout_not _ piece (plain_opener s.mode kind _ _ _) e laid)
  by_class word.Reserved len front e = absurd (layout_not _ piece tt e laid)
  by_class word.Identifier len front e = absurd (layout_not _ piece refl e laid)
  by_class word.Decimal len front e = absurd (layout_not _ piece (plain_if (starts_zero (take len text)) (fault 0 (StartsZero (take len text)) (length (take len text))) (token (length (take len text)) (Int (integer_of 10 (take len text)))) tt refl) e laid)
  by_class word.Hexadecimal len front e = absurd (layout_not _ piece refl e laid)
  by_class word.Octal len front e = absurd (layout_not _ piece refl e laid)
  by_class word.Binary len front e = absurd (layout_not _ piece refl e laid)
  by_class word.Float len front e = absurd (layout_not _ piece refl e laid)
  by_class (word.Fixed terminal) len front e = absurd (layout_not _ piece refl e laid)

  by_front : (found : Option (Class × ℕ)) → longest_front (class_in language) text ≡ found → front_step s text found ≡ Stands piece → CountedEnd s text piece
  by_front None front e = cc
  by_front (Some found) front e = by_class found.0 found.1 front e

  in_code_end : in_code language s text ≡ Stands piece → CountedEnd s text piece
  in_code_end e = go text refl e
    where
      bang : (b : ℕ) (bs : Text) (bangs : Bool) → text ≡ b ∷ bs → (if bangs then token 1 FStringBang else front_step s (b ∷ bs) (longest_front (class_in language) (b ∷ bs))) ≡ Stands piece → CountedEnd s text piece
      bang b bs true same e = absurd (layout_not _ piece refl e laid)
      bang b bs false same e = by_front (longest_front (class_in language) text) refl (subst (λ (t : Text). front_step s t (longest_front (class_in language) t) ≡ Stands piece) (sym same) e)

      go : (t : Text) → text ≡ t → in_code language s t ≡ Stands piece → CountedEnd s text piece
      go [] same e = cc
      go (b ∷ bs) same e = bang b bs (takes_bang s.mode s.before && is_bang (b ∷ bs)) same e

  by_mode_end : (mode : Mode) → by_mode language s mode text ≡ Stands piece → CountedEnd s text piece
  by_mode_end Outside e = in_code_end e
  by_mode_end (InText opening) e = absurd (layout_not _ piece (plain_chunk opening text) e laid)
  by_mode_end AtTop e = in_code_end e
  by_mode_end Deeper e = in_code_end e

  pub counted_end : is_nothing s.before ≡ false → step_at language s text ≡ Stands piece → CountedEnd s text piece
  unfolding step_at
  counted_end started e = go s.before started e
    where
      go : (before : Before) → is_nothing before ≡ false → by_before language s before text ≡ Stands piece → CountedEnd s text piece
      go Nothing h e = cc
      go Layout h e = by_mode_end s.mode e
      go Gap h e = by_mode_end s.mode e
      go Other h e = by_mode_end s.mode e

pub outside : (mode : Mode) (balanced : Bool) → counts mode balanced ≡ true → mode ≡ Outside
outside Outside balanced h = refl
outside (InText opening) balanced h = cc
outside AtTop balanced h = cc
outside Deeper balanced h = cc

-- what stands where a line end counts
pub counted_step : (s : Situation) (b : ℕ) (bs : Text) (len : ℕ) → is_nothing s.before ≡ false → counts s.mode s.is_balanced ≡ true → longest_front (class_in language) (b ∷ bs) ≡ Some (word.LineEnd, len)
    → step_at language s (b ∷ bs) ≡ line_end (length (take len (b ∷ bs))) s.levels (drop len (b ∷ bs))
unfolding step_at
counted_step s b bs len started counted front = before_is s.before started ∙ ap (λ (mode : Mode). by_mode language s mode (b ∷ bs)) mode ∙ rw (mode, front) (rw (counted') refl)
  where
    mode : s.mode ≡ Outside
    mode = outside s.mode s.is_balanced counted

    counted' : s.is_balanced ≡ true
    counted' = rw mode at counted

    before_is : (before : Before) → is_nothing before ≡ false → by_before language s before (b ∷ bs) ≡ by_mode language s s.mode (b ∷ bs)
    before_is Nothing h = cc
    before_is Layout h = refl
    before_is Gap h = refl
    before_is Other h = refl

-- the line end that a text ends with, where the text goes on
pub record LastLineEnd (s : Situation) (text more : Text) (piece : Piece) : Type 0 where
  pub len : ℕ
  pub total : length (take len text) + length (drop len text) ≡ length text
  pub stands : line_end (length (take len text)) s.levels (drop len text) ≡ Stands piece
  pub step : step_at language s (text ++ more) ≡ line_end (length (take len text)) s.levels (drop len text ++ more)

pub last_line_end : (s : Situation) (text more : Text) (piece : Piece) → ends_line text ≡ true → is_layout piece.sort ≡ true → is_nothing s.before ≡ false → step_at language s text ≡ Stands piece → LastLineEnd s text more piece
last_line_end s text more piece ends laid started stands = counted (counted_end s text piece laid started stands) text refl
  where
    counted : CountedEnd s text piece → (t : Text) → text ≡ t → LastLineEnd s text more piece
    counted end [] same = absurd (both_ways _ (subst (λ (t : Text). ends_line t ≡ false) (sym same) refl) ends)
    counted end (b ∷ bs) same =
        let n = end.len in
        let inside = (longest_front_is (class_in language) text word.LineEnd n end.front).inside in
        let front : longest_front (class_in language) ((b ∷ bs) ++ more) ≡ Some (word.LineEnd, n) = subst (λ (t : Text). longest_front (class_in language) (t ++ more) ≡ Some (word.LineEnd, n)) same (longest_front_append text more ends ∙ end.front) in
        let step = subst (λ (t : Text). step_at language s (t ++ more) ≡ line_end (length (take n (t ++ more))) s.levels (drop n (t ++ more))) (sym same) (counted_step s b (bs ++ more) n started end.counted front) in
        let taken : take n (text ++ more) ≡ take n text = take-append-le n text more inside in
        let left : drop n (text ++ more) ≡ drop n text ++ more = drop-append-le n text more inside in
        record {
          len = n;
          total = omega (arith, length-take n text, length-drop n text, inside);
          stands = end.stands;
          step = step ∙ rw (taken, left) refl;
        }

-- how long the piece of a margin is
pub margin_step_len : (len : ℕ) (lexemes : List Lexeme) (levels : List ℕ) (margin : Margin) (piece : Piece) → margin_step len lexemes levels margin ≡ Stands piece → piece.len ≡ len + margin_len margin
unfolding margin_step
margin_step_len len lexemes levels margin piece e = go (not (is_content margin.remainder)) (has_tab margin) (fits (width_of margin) levels) (indentation levels margin) e
  where
    made : List Lexeme → Option ℕ → Piece
    made indents width = record { len = len + margin_len margin; lexemes = lexemes ++ map (moved len) (margin.comments ++ indents); width = width; sort = Layout }

    stands : (one : Piece) → Stands one ≡ Stands piece → piece.len ≡ one.len
    stands one e = let same : one ≡ piece = cc in sym (ap (λ (p : Piece). p.len) same)

    go : (blank tab fitting : Bool) (indents : List Lexeme)
        → (if blank then Stands (made [] None) else (if tab then Fails (record { begin = 0; node = InvalidTab; end = 0 }) else (if fitting then Stands (made indents (Some (width_of margin))) else Fails (record { begin = 0; node = Indentation; end = len + margin_len margin })))) ≡ Stands piece → piece.len ≡ len + margin_len margin
    go true tab fitting indents e = stands (made [] None) e
    go false true fitting indents e = cc
    go false false true indents e = stands (made indents (Some (width_of margin))) e
    go false false false indents e = cc

pub blank_step : (len : ℕ) (lexemes : List Lexeme) (levels : List ℕ) (comments : List Lexeme) (at : ℕ) → margin_step len lexemes levels (record { comments = comments; at = at; blanks = []; remainder = [] }) ≡ Stands (record { len = len + (at + 0); lexemes = lexemes ++ map (moved len) (comments ++ []); width = None; sort = Layout })
unfolding margin_step
blank_step len lexemes levels comments at = refl

-- The last margin of a text of whole lines, with a text after it whose first margin stands.
joined_margin : (len : ℕ) (lexemes : List Lexeme) (text more : Text) (piece first : Piece) → has_whole_lines text ≡ true → margin_step len lexemes [] (margin_of text) ≡ Stands piece → piece.len ≡ len + length text → first_margin [] more ≡ Stands first
    → (margin_step len lexemes [] (margin_of (text ++ more)) ≡ Stands (joined_piece (len + length text) piece.lexemes first)) × (piece.width ≡ None)
joined_margin len lexemes text more piece first whole stands reach begins = go (followed text more whole)
  where
    last : Piece
    last = record { len = len + (length text + 0); lexemes = lexemes ++ map (moved len) ((margin_of text).comments ++ []); width = None; sort = Layout }

    last_step : margin_of text ≡ record { comments = (margin_of text).comments; at = length text; blanks = []; remainder = [] } → margin_step len lexemes [] (margin_of text) ≡ Stands last
    last_step e = ap (margin_step len lexemes []) e ∙ blank_step len lexemes [] (margin_of text).comments (length text)

    go : Followed text more → (margin_step len lexemes [] (margin_of (text ++ more)) ≡ Stands (joined_piece (len + length text) piece.lexemes first)) × (piece.width ≡ None)
    go (Whole e f) =
        let is_last : Stands last ≡ Stands piece = sym (last_step e) ∙ stands in
        let same : last ≡ piece = cc in
        let lists : lexemes ++ map (moved len) (margin_of text).comments ≡ piece.lexemes = ap (λ ls. lexemes ++ map (moved len) ls) (sym (append-nil (margin_of text).comments)) ∙ ap (λ (p : Piece). p.lexemes) same in (
          ap (margin_step len lexemes []) f ∙ step_after len lexemes (length text) (margin_of text).comments (margin_of more) first begins
              ∙ ap (λ ls. Stands (joined_piece (len + length text) ls first)) lists,
          sym (ap (λ (p : Piece). p.width) same),
        )
    go (Within some less f) = absurd (omega (arith, less, reach, margin_step_len len lexemes [] (margin_of text) piece stands))

-- a situation that is read for the first time, or not
pub last_append : (s : Situation) (text more : Text) (piece first : Piece) → ends_line text ≡ true → s.levels ≡ [] → is_layout piece.sort ≡ true → piece.len ≡ length text → step_at language s text ≡ Stands piece → first_margin [] more ≡ Stands first
    → (step_at language s (text ++ more) ≡ Stands (joined_piece (length text) piece.lexemes first)) × (piece.width ≡ None)
unfolding step_at
last_append s text more piece first ends levels laid reach stands begins = go s.before refl stands
  where
    Claim : Before → Type 0
    Claim before = (by_before language s before (text ++ more) ≡ Stands (joined_piece (length text) piece.lexemes first)) × (piece.width ≡ None)

    later : is_nothing s.before ≡ false → Claim s.before
    later started =
        let end = last_line_end s text more piece ends laid started stands in
        let len : ℕ = length (take end.len text) in
        let flat : line_end len [] (drop end.len text) ≡ Stands piece = subst (λ (ls : List ℕ). line_end len ls (drop end.len text) ≡ Stands piece) levels end.stands in
        let found = joined_margin len (record { begin = 0; node = Newline; end = len } ∷ []) (drop end.len text) more piece first (whole_after end.len text (whole_from_ends text ends)) flat (omega (arith, reach, end.total)) begins in
        (end.step ∙ ap (λ (ls : List ℕ). line_end len ls (drop end.len text ++ more)) levels ∙ found.0 ∙ ap (λ n. Stands (joined_piece n piece.lexemes first)) end.total, found.1)

    go : (before : Before) → s.before ≡ before → by_before language s before text ≡ Stands piece → Claim before
    go Nothing same e =
        let zero_len : 0 + length text ≡ length text = omega arith in
        let flat : first_margin [] text ≡ Stands piece = subst (λ (ls : List ℕ). first_margin ls text ≡ Stands piece) levels e in
        let found = joined_margin 0 [] text more piece first (whole_from_ends text ends) flat (omega (arith, reach)) begins in
        (ap (λ (ls : List ℕ). first_margin ls (text ++ more)) levels ∙ found.0 ∙ ap (λ n. Stands (joined_piece n piece.lexemes first)) zero_len, found.1)
    go Layout same e = subst Claim same (later (ap is_nothing same))
    go Gap same e = subst Claim same (later (ap is_nothing same))
    go Other same e = subst Claim same (later (ap is_nothing same))

-- A margin that ends before its text does stays where the text goes on.
margin_stays : (len : ℕ) (lexemes : List Lexeme) (levels : List ℕ) (text more : Text) (piece : Piece) → has_whole_lines text ≡ true → margin_step len lexemes levels (margin_of text) ≡ Stands piece → piece.len < len + length text
    → margin_step len lexemes levels (margin_of (text ++ more)) ≡ Stands piece
margin_stays len lexemes levels text more piece whole stands less = go (followed text more whole)
  where
    go : Followed text more → margin_step len lexemes levels (margin_of (text ++ more)) ≡ Stands piece
    go (Whole e f) = absurd (omega (arith, less, margin_step_len len lexemes levels (margin_of text) piece stands, ap margin_len e))
    go (Within some inside f) = step_within len lexemes levels text more some f ∙ stands

-- A piece that ends before its text does stays where the text goes on.
stands_append : (s : Situation) (text more : Text) (piece : Piece) → ends_line text ≡ true → piece.len < length text → step_at language s text ≡ Stands piece → step_at language s (text ++ more) ≡ Stands piece
unfolding step_at
stands_append s text more piece ends less stands = go s.before refl stands
  where
    later : is_nothing s.before ≡ false → step_at language s (text ++ more) ≡ Stands piece
    later started = by (step_append s text more piece started ends stands)
      where
        by : (step_at language s (text ++ more) ≡ Stands piece) ⊎ CountedLineEnd s text more (step_at language s text) (step_at language s (text ++ more)) → step_at language s (text ++ more) ≡ Stands piece
        by (inl same) = same
        by (inr end) =
            end.followed ∙ margin_stays end.len (record { begin = 0; node = Newline; end = end.len } ∷ []) s.levels (drop end.len text) more piece (whole_after end.len text (whole_from_ends text ends)) (sym end.here ∙ stands) (omega (arith, less, length-drop end.len text, end.inside))

    go : (before : Before) → s.before ≡ before → by_before language s before text ≡ Stands piece → by_before language s before (text ++ more) ≡ Stands piece
    go Nothing same e = margin_stays 0 [] s.levels text more piece (whole_from_ends text ends) e (omega (arith, less))
    go Layout same e = subst (λ (before : Before). by_before language s before (text ++ more) ≡ Stands piece) same (later (ap is_nothing same))
    go Gap same e = subst (λ (before : Before). by_before language s before (text ++ more) ≡ Stands piece) same (later (ap is_nothing same))
    go Other same e = subst (λ (before : Before). by_before language s before (text ++ more) ≡ Stands piece) same (later (ap is_nothing same))

-- Readings

pub next_stays : (history : History) (text more : Text) (piece : Piece) → ends_line text ≡ true → piece.len < length text → next_step language history text ≡ Stands piece → next_step language history (text ++ more) ≡ Stands piece
unfolding next_step situation
next_stays history text more piece ends less stands = stands_append (situation history) text more piece ends less stands

-- The reading of a settled text with a text after it whose first margin stands.
pub record Joined (history settled : History) (text more : Text) (pieces : List Piece) (first : Piece) : Type 0 where
  pub pieces' : List Piece
  pub some : ¬ (pieces' ≡ [])
  pub reads : IsReading language history (text ++ more) pieces'
  pub len : pieces_len pieces' ≡ length text + first.len
  pub past : after_all history pieces' ≡ remainder settled (after nothing first)
  pub lexemes : (at : ℕ) → lexemes_along at pieces' ≡ lexemes_along at pieces ++ map (moved (at + length text)) first.lexemes

pub onto_append : (tokens : List Token) (one other : List Lexeme) → tokens_onto tokens (one ++ other) ≡ tokens_onto (tokens_onto tokens one) other
onto_append tokens [] other = refl
onto_append tokens (lexeme ∷ one) other = onto_append (lexeme.node ∷ tokens) one other

onto_moved : (tokens : List Token) (n : ℕ) (lexemes : List Lexeme) → tokens_onto tokens (map (moved n) lexemes) ≡ tokens_onto tokens lexemes
onto_moved tokens n [] = refl
onto_moved tokens n (lexeme ∷ lexemes) = onto_moved (lexeme.node ∷ tokens) n lexemes

-- the last piece of a settled text leads to no content line
margin_width : (len : ℕ) (lexemes : List Lexeme) (levels : List ℕ) (text : Text) (piece : Piece) → has_whole_lines text ≡ true → margin_step len lexemes levels (margin_of text) ≡ Stands piece → piece.len ≡ len + length text → piece.width ≡ None
margin_width len lexemes levels text piece whole stands reach = go (followed text [] whole)
  where
    go : Followed text [] → piece.width ≡ None
    go (Whole e f) =
        let is_last = sym (ap (margin_step len lexemes levels) e ∙ blank_step len lexemes levels (margin_of text).comments (length text)) ∙ stands in
        let same : record { len = len + (length text + 0); lexemes = lexemes ++ map (moved len) ((margin_of text).comments ++ []); width = None; sort = Layout } ≡ piece = cc in
        sym (ap (λ (p : Piece). p.width) same)
    go (Within some less f) = absurd (omega (arith, less, reach, margin_step_len len lexemes levels (margin_of text) piece stands))

last_width : (s : Situation) (text : Text) (piece : Piece) → ends_line text ≡ true → is_layout piece.sort ≡ true → piece.len ≡ length text → step_at language s text ≡ Stands piece → piece.width ≡ None
unfolding step_at
last_width s text piece ends laid reach stands = go s.before refl stands
  where
    later : is_nothing s.before ≡ false → piece.width ≡ None
    later started = counted (counted_end s text piece laid started stands)
      where
        counted : CountedEnd s text piece → piece.width ≡ None
        counted end =
            let inside = (longest_front_is (class_in language) text word.LineEnd end.len end.front).inside in
            margin_width (length (take end.len text)) (record { begin = 0; node = Newline; end = length (take end.len text) } ∷ []) s.levels (drop end.len text) piece (whole_after end.len text (whole_from_ends text ends)) end.stands (omega (arith, reach, length-take end.len text, length-drop end.len text, inside))

    go : (before : Before) → s.before ≡ before → by_before language s before text ≡ Stands piece → piece.width ≡ None
    go Nothing same e = margin_width 0 [] s.levels text piece (whole_from_ends text ends) e (omega (arith, reach))
    go Layout same e = later (ap is_nothing same)
    go Gap same e = later (ap is_nothing same)
    go Other same e = later (ap is_nothing same)

-- the last piece alone
join_last : (history : History) (text more : Text) (piece first : Piece) → ends_line text ≡ true → next_step language history text ≡ Stands piece → piece.len ≡ length text → Settled (after history piece) → first_margin [] more ≡ Stands first
    → Joined history (after history piece) text more (piece ∷ []) first
unfolding next_step situation after
join_last history text more piece first ends stands reach settled begins =
    let width = last_width (situation history) text piece ends settled.layout reach stands in
    let widths : history.widths ++ option_to_list piece.width ≡ history.widths = ap (λ w. history.widths ++ option_to_list w) width ∙ append-nil history.widths in
    let levels : open_widths history.widths ≡ [] = ap open_widths (sym widths) ∙ settled.no_width in
    let joined = last_append (situation history) text more piece first ends levels settled.layout reach stands begins in
    let last = joined_piece (length text) piece.lexemes first in
    let tokens : tokens_onto history.tokens last.lexemes ≡ tokens_onto [] first.lexemes ++ tokens_onto history.tokens piece.lexemes =
    onto_append history.tokens piece.lexemes (map (moved (length text)) first.lexemes)
    ∙ onto_moved (tokens_onto history.tokens piece.lexemes) (length text) first.lexemes
    ∙ onto_earlier [] (tokens_onto history.tokens piece.lexemes) first.lexemes in
    record {
      pieces' = last ∷ [];
      some = λ e. no_cons last [] e;
      reads = (joined.0, tt);
      len = omega (arith, sum_by-cons (λ (piece : Piece). piece.len) last []);
      past = ap (λ ts. record { tokens = ts; widths = history.widths ++ option_to_list first.width; before = first.sort }) tokens
          ∙ ap (λ ws. record { tokens = tokens_onto [] first.lexemes ++ tokens_onto history.tokens piece.lexemes; widths = ws ++ option_to_list first.width; before = first.sort }) (sym widths);
      lexemes = λ at. append-nil (map (moved at) last.lexemes) ∙ map-append (moved at) piece.lexemes (map (moved (length text)) first.lexemes)
          ∙ ap (λ ls. map (moved at) piece.lexemes ++ ls) (all_moved at (length text) (at + length text) first.lexemes refl)
          ∙ ap (λ ls. ls ++ map (moved (at + length text)) first.lexemes) (sym (append-nil (map (moved at) piece.lexemes)));
    }
  where
    no_cons : (p : Piece) (ps : List Piece) → p ∷ ps ≡ [] → ⊥
    no_cons p ps e = cc

-- a piece after which another stands ends before the text does
pub inside : (history : History) (text : Text) (piece next : Piece) → next_step language history text ≡ Stands piece → next_step language (after history piece) (drop piece.len text) ≡ Stands next → piece.len < length text
inside history text piece next stands remainder = go (drop piece.len text) refl remainder
  where
    go : (rest : Text) → drop piece.len text ≡ rest → next_step language (after history piece) rest ≡ Stands next → piece.len < length text
    go [] e f = absurd (none_next language (after history piece) next (started history piece (piece_fits language history text piece stands).sort) f)
    go (b ∷ bs) e f = omega (arith, length-drop piece.len text, ap length e)

-- a piece that ends before its text does, and a reading of the rest of a text that goes on
pub reads_on : (history : History) (text more : Text) (piece : Piece) (pieces : List Piece) → ends_line text ≡ true → piece.len < length text → next_step language history text ≡ Stands piece → IsReading language (after history piece) (drop piece.len text ++ more) pieces
    → IsReading language history (text ++ more) (piece ∷ pieces)
reads_on history text more piece pieces ends less stands reads =
    (next_stays history text more piece ends less stands, subst (λ (t : Text). IsReading language (after history piece) t pieces) (sym (drop-append-le piece.len text more (omega (arith, less)))) reads)

total_at : (at n : ℕ) (text : Text) → n < length text → at + n + length (drop n text) ≡ at + length text
total_at at n text less = omega (arith, length-drop n text)

-- Of a settled text all pieces but the last stay, and the last goes on with the first margin of the text after.
pub join_reading : (history : History) (text more : Text) (pieces : List Piece) (first : Piece) → ends_line text ≡ true → ¬ (pieces ≡ []) → IsReading language history text pieces → pieces_len pieces ≡ length text → Settled (after_all history pieces) → first_margin [] more ≡ Stands first
    → Joined history (after_all history pieces) text more pieces first
join_reading history text more [] first ends some reads reach settled begins = absurd (some refl)
join_reading history text more (piece ∷ []) first ends some reads reach settled begins =
    join_last history text more piece first ends reads.0 (omega (arith, reach, sum_by-cons (λ (piece : Piece). piece.len) piece [])) settled begins
join_reading history text more (piece ∷ next ∷ pieces) first ends some reads reach settled begins =
    let total = sum_by-cons (λ (piece : Piece). piece.len) piece (next ∷ pieces) in
    let less = inside history text piece next reads.0 reads.1.0 in
    let rest = join_reading (after history piece) (drop piece.len text) more (next ∷ pieces) first (ends_line_drop piece.len text less ends) (no_cons next pieces) reads.1 (omega (arith, reach, total, length-drop piece.len text)) settled begins in
    record {
      pieces' = piece ∷ rest.pieces';
      some = no_cons piece rest.pieces';
      reads = reads_on history text more piece rest.pieces' ends less reads.0 rest.reads;
      len = omega (arith, rest.len, less, length-drop piece.len text, sum_by-cons (λ (piece : Piece). piece.len) piece rest.pieces');
      past = rest.past;
      lexemes = λ at. ap (λ ls. map (moved at) piece.lexemes ++ ls) (rest.lexemes (at + piece.len) ∙ ap (λ n. lexemes_along (at + piece.len) (next ∷ pieces) ++ map (moved n) first.lexemes) (total_at at piece.len text less))
          ∙ sym (append_assoc (map (moved at) piece.lexemes) (lexemes_along (at + piece.len) (next ∷ pieces)) (map (moved (at + length text)) first.lexemes));
    }
  where
    no_cons : (p : Piece) (ps : List Piece) → p ∷ ps ≡ [] → ⊥
    no_cons p ps e = cc
