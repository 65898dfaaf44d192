-- The lexemes of a margin, and what taking it does.
use Rattle.std.proofs.Common.{◌≡◌, ℕ, ◌+◌, Bool, true, false, List, [], ◌∷◌, ◌++◌, ap, ◌∙◌, sym, subst, refl, arith, map, drop, append-nil, rules}
use Rattle.std.specs.Str.{IsUtf8, IsCharBoundary}
use Rattle.std.proofs.lemmas.List.{map-append}
use Rattle.std.proofs.lemmas.Str.{IsCharBoundary-start}
use Rattle.starlark_grammar.specs.Words.{Text}
use Rattle.starlark_grammar.specs.Tokens.{Indentation, InvalidTab, Lexeme, Newline, moved}
use Rattle.starlark_grammar.specs.Margins.{Margin, comments_from, fits, margin_of, open_widths}
use Rattle.starlark_grammar.specs.Pieces.{Stands, fault, first_margin, line_end, margin_step}
use Rattle.starlark_grammar.proofs.Joining.Joined.{twice, unmoved}
use Rattle.starlark_reader.specs.Inner.MarginViews.{IsFaultFound, IsLaidOut, IsLeftOut, IsMargin, IsRefused, IsTaken, margin_fault, margin_indentation, margin_lexemes, margin_piece}
use Rattle.starlark_reader.specs.Inner.MarginLines.{IsOfMargin}
use Rattle.starlark_reader.specs.Inner.Pending.{IsPending, lexemes_after, lines_between, pending_lexemes}
use Rattle.starlark_reader.specs.declared.margins.Margin.{Margin as Measured}
use Rattle.starlark_reader.specs.declared.pending.AfterComments.{AfterComments}
use Rattle.starlark_reader.specs.declared.pending.Pending.{Pending}
use Rattle.starlark_token.specs.declared.lexeme_error.LexemeError.{LexemeError}
use Rattle.starlark_reader.proofs.TakenMargins.Pending.{are_comments, margin_between}

-- The margin's step

module _ (len : ℕ) (before : List Lexeme) (levels : List ℕ) (seen : Margin) (margin : Measured) (same : IsMargin seen margin) where
  pub decided_blank : margin.is_content ≡ false → margin_step len before levels seen ≡ Stands (margin_piece len before levels seen)
  unfolding margin_step
  decided_blank h = let none = sym same.is_content ∙ h in rw none refl

  pub decided_tab : margin.is_content ≡ true → margin.has_tab ≡ true → margin_step len before levels seen ≡ fault 0 InvalidTab 0
  unfolding margin_step
  decided_tab h k = let some = sym same.is_content ∙ h in let tab = sym same.blanks.has_tab ∙ k in rw (some, tab) refl

  pub decided_fits : margin.is_content ≡ true → margin.has_tab ≡ false → fits margin.width levels ≡ true → margin_step len before levels seen ≡ Stands (margin_piece len before levels seen)
  unfolding margin_step
  decided_fits h k l = let some = sym same.is_content ∙ h in let tab = sym same.blanks.has_tab ∙ k in let fitting = sym (ap (λ w. fits w levels) same.blanks.width) ∙ l in rw (some, tab, fitting) refl

  pub decided_misfit : margin.is_content ≡ true → margin.has_tab ≡ false → fits margin.width levels ≡ false → margin_step len before levels seen ≡ fault 0 Indentation (len + margin.at + margin.blanks)
  unfolding margin_step
  decided_misfit h k l = search rules

-- a tab before content
pub left_tab : (levels : List ℕ) (seen : Margin) (margin : Measured) → IsMargin seen margin → margin.is_content ≡ true → margin.has_tab ≡ true → (remainder : AfterComments) → IsLeftOut seen levels levels remainder remainder
left_tab levels seen margin same some is_tab remainder =
    record {
      stands = λ len before. decided_tab len before levels seen margin same some is_tab ∙ rw (sym same.blanks.has_tab ∙ is_tab) refl;
      levels = refl;
      same = refl;
    }

-- Pending lexemes

-- if no lexeme is pending, none is after the comments
pub after_none : (text : Text) (pending : Pending) → pending_lexemes text pending ≡ [] → lexemes_after pending.remainder ≡ []
unfolding pending_lexemes
after_none text pending none = go (comments_from pending.from (lines_between text pending.from pending.to)) none
  where
    go : (comments : List Lexeme) → comments ++ lexemes_after pending.remainder ≡ [] → lexemes_after pending.remainder ≡ []
    go [] h = h
    go (comment ∷ comments) h = cc

-- the pending lexemes of a margin that begins at byte `begin`
abbrev margin_pending : ℕ → ℕ → AfterComments → Bool → Pending
margin_pending begin at remainder flat = record { from = begin; to = begin + at; remainder = remainder; is_flat = flat }

module _ (text : Text) (begin : ℕ) (margin : Measured) (utf8 : IsUtf8 text) (here : IsCharBoundary text begin) (same : IsMargin (margin_of (drop begin text)) margin) where
  margin_waits : (levels : List ℕ) (remainder : AfterComments) (flat : Bool) → lexemes_after remainder ≡ map (moved begin) (margin_indentation levels (margin_of (drop begin text)))
      → IsPending text (margin_pending begin margin.at remainder flat) × (map (moved begin) (margin_lexemes levels (margin_of (drop begin text))) ≡ pending_lexemes text (margin_pending begin margin.at remainder flat))
  unfolding pending_lexemes
  margin_waits levels remainder flat e =
      let both = margin_between text begin margin.at utf8 here same.at in (
        are_comments text begin margin.at utf8 here same.at,
        map-append (moved begin) (margin_of (drop begin text)).comments (margin_indentation levels (margin_of (drop begin text))) ∙ rw (both, e) refl,
      )

-- What taking a margin does

module _ (text : Text) (begin : ℕ) (pending : Pending) (margin : Measured) (utf8 : IsUtf8 text) (here : IsCharBoundary text begin) (same : IsMargin (margin_of (drop begin text)) margin) (old : List ℕ) (of : IsOfMargin begin margin.at old pending) where
  of_margin : margin_pending begin margin.at pending.remainder pending.is_flat ≡ pending
  of_margin = go pending.from pending.to of.from of.to
    where
      go : (from to : ℕ) → from ≡ begin → to ≡ begin + margin.at → margin_pending begin margin.at pending.remainder pending.is_flat ≡ record { from = from; to = to; remainder = pending.remainder; is_flat = pending.is_flat }
      go from to e f = rw (e, f) refl

  -- all lexemes of a margin are pending if those after its comments are
  waits : (levels : List ℕ) → lexemes_after pending.remainder ≡ map (moved begin) (margin_indentation levels (margin_of (drop begin text)))
      → IsPending text pending × (map (moved begin) (margin_lexemes levels (margin_of (drop begin text))) ≡ pending_lexemes text pending)
  waits levels e = subst (λ p. IsPending text p × (map (moved begin) (margin_lexemes levels (margin_of (drop begin text))) ≡ pending_lexemes text p)) of_margin
      (margin_waits text begin margin utf8 here same levels pending.remainder pending.is_flat e)

  -- only the comments are pending if no lexeme after them is
  comments_wait : lexemes_after pending.remainder ≡ [] → IsPending text pending × (map (moved begin) (margin_of (drop begin text)).comments ≡ pending_lexemes text pending)
  unfolding pending_lexemes
  comments_wait none = subst (λ p. IsPending text p × (map (moved begin) (margin_of (drop begin text)).comments ≡ pending_lexemes text p)) of_margin (
    are_comments text begin margin.at utf8 here same.at,
    rw (margin_between text begin margin.at utf8 here same.at, none) (sym (append-nil _)),
  )

module _ (text : Text) (levels now widths : List ℕ) (margin : Measured) (pending : Pending) (open_now : levels ≡ open_widths widths) (utf8 : IsUtf8 text) (same : IsMargin (margin_of text) margin) (of : IsOfMargin 0 margin.at levels pending) where
  pub first_taken : IsLaidOut 0 (margin_of text) widths levels now pending.remainder → IsTaken text 0 (first_margin (open_widths widths) text) [] widths now pending (margin.at + margin.blanks)
  first_taken laid =
      let both = waits text 0 pending margin utf8 (IsCharBoundary-start text utf8) same levels of levels laid.those_after in
      record {
        piece = margin_piece 0 [] levels (margin_of text);
        stands = ap (λ ls. margin_step 0 [] ls (margin_of text)) (sym open_now) ∙ laid.stands 0 [];
        whole = omega (arith, same.at, same.blanks.len);
        is_pending = both.0;
        lexemes = twice 0 0 (margin_lexemes levels (margin_of text)) ∙ both.1;
        open_now = laid.open_now;
      }

  pub first_refused : (remainder : AfterComments) → IsLeftOut (margin_of text) levels now remainder pending.remainder → lexemes_after remainder ≡ [] → (error : LexemeError) (end : ℕ) → IsFaultFound (margin_fault 0 (margin_of text)) (error, end)
      → IsRefused text (first_margin (open_widths widths) text) (margin_of text).comments widths now pending error end
  first_refused remainder left idle error end found =
      let both = comments_wait text 0 pending margin utf8 (IsCharBoundary-start text utf8) same levels of (ap lexemes_after left.same ∙ idle) in
      record {
        node = found.0;
        is = found.1;
        stands = ap (λ ls. margin_step 0 [] ls (margin_of text)) (sym open_now) ∙ left.stands 0 [] ∙ found.2;
        is_pending = both.0;
        lexemes = sym (unmoved (margin_of text).comments) ∙ both.1;
        open_now = left.levels ∙ open_now;
      }

-- the lexeme of a newline of `len` bytes
abbrev newline : ℕ → Lexeme
newline len = record { begin = 0; node = Newline; end = len }

module _ (text : Text) (at len : ℕ) (levels now widths : List ℕ) (margin : Measured) (pending : Pending) (open_now : levels ≡ open_widths widths) (same : IsMargin (margin_of (drop (at + len) text)) margin) where
  pub end_taken : IsUtf8 text → IsCharBoundary text (at + len) → IsOfMargin (at + len) margin.at levels pending → IsLaidOut (at + len) (margin_of (drop (at + len) text)) widths levels now pending.remainder
      → IsTaken text at (line_end len (open_widths widths) (drop (at + len) text)) (record { begin = at; node = Newline; end = at + len } ∷ []) widths now pending (len + margin.at + margin.blanks)
  end_taken utf8 here of laid =
      let start : at + 0 ≡ at = omega arith in
      let both = waits text (at + len) pending margin utf8 here same levels of levels laid.those_after in
      record {
        piece = margin_piece len (newline len ∷ []) levels (margin_of (drop (at + len) text));
        stands = ap (λ ls. margin_step len (newline len ∷ []) ls (margin_of (drop (at + len) text))) (sym open_now) ∙ laid.stands len (newline len ∷ []);
        whole = omega (arith, same.at, same.blanks.len);
        is_pending = both.0;
        lexemes = ap (λ ls. record { begin = at + 0; node = Newline; end = at + len } ∷ ls) (twice at len (margin_lexemes levels (margin_of (drop (at + len) text))) ∙ both.1) ∙ ap (λ n. record { begin = n; node = Newline; end = at + len } ∷ pending_lexemes text pending) start;
        open_now = laid.open_now;
      }

  pub end_refused : (remainder after_now : AfterComments) → IsLeftOut (margin_of (drop (at + len) text)) levels now remainder after_now → (pending_lexemes text pending ≡ []) × IsPending text pending → (error : LexemeError) (end : ℕ) → IsFaultFound (margin_fault len (margin_of (drop (at + len) text))) (error, end)
      → IsRefused text (line_end len (open_widths widths) (drop (at + len) text)) [] widths now pending error end
  end_refused remainder after_now left none error end found = search rules
