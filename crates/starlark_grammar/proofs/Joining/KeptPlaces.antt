-- In which piece of a text a kept cut lies, by how many lexemes stand before it.
use Rattle.std.proofs.Common.{◌≡◌, ℕ, ◌+◌, ◌≤◌, ◌<◌, List, [], ◌∷◌, ◌++◌, length, take, drop, map, true, refl, ap, ◌∙◌, sym, subst, arith, append-nil, append_assoc, length-append, inl, inr, ◌⊎◌}
use Rattle.std.specs.Prelude.{not, take_while, ⊤}
use Rattle.std.proofs.lemmas.List.{drop-append-le, length-drop, length-map, length-take-le, take-append-drop}
use Rattle.std.proofs.Math.Seq.{take-append_seam}
use Rattle.starlark_grammar.specs.Words.{Text, language}
use Rattle.starlark_grammar.specs.Tokens.{Lexeme, moved}
use Rattle.starlark_grammar.specs.Margins.{comment_lines, fits, has_tab, indentation, is_comment_only, is_content, lines, margin_of, open_widths, width_of}
use Rattle.starlark_grammar.specs.Pieces.{Piece, Stands, margin_step}
use Rattle.starlark_grammar.specs.Reading.{after_all, lexemes_along, next_step, nothing, outcome, pieces_len, read}
use Rattle.starlark_grammar.specs.Longest.{IsReading}
use Rattle.starlark_grammar.specs.Cuts.{is_clean_cut, without_closing}
use Rattle.starlark_grammar.specs.Laws.{Begins}
use Rattle.starlark_grammar.proofs.Choices.{either}
use Rattle.starlark_grammar.proofs.Reading.Readings.{read_is, reading_fits, readings_agree}
use Rattle.starlark_grammar.proofs.Reading.Steps.{Each, lines_len}
use Rattle.starlark_grammar.proofs.Joining.CleanCuts.{along_append, pieces_append}
use Rattle.starlark_grammar.proofs.Joining.Followed.{ends_line_of}
use Rattle.starlark_grammar.proofs.Joining.FollowedMargins.{lines_append, lines_sum, while_all, whole_after}
use Rattle.starlark_grammar.proofs.Joining.Joined.{whole_from_ends}
use Rattle.starlark_grammar.proofs.Joining.LaidCuts.{AfterComments, First, IsFlat, IsLaid, LaysOut, clean_laid, MarginAt, comments_count, first_laid, laid_lexemes, line_count, line_laid, line_of, split_last}
use Rattle.starlark_grammar.proofs.Joining.LineCuts.{next_reads, reads_more}

-- The margin of a cut

-- it stands where the reading goes as far as the cut
margin_stands : (text : Text) (at : ℕ) (laid : IsLaid text at) → at ≤ pieces_len (read language text).pieces → (piece : Piece) × (next_step language (after_all nothing laid.pieces) (drop (pieces_len laid.pieces) text) ≡ Stands piece)
margin_stands text at laid reach = go (readings_agree language nothing text laid.pieces (read language text).pieces laid.reads (read_is language text).reads)
  where
    reads : IsReading language nothing text (read language text).pieces
    reads = (read_is language text).reads

    further : (more : List Piece) → (read language text).pieces ≡ laid.pieces ++ more → (piece : Piece) × (next_step language (after_all nothing laid.pieces) (drop (pieces_len laid.pieces) text) ≡ Stands piece)
    further [] e = absurd (omega (arith, ap pieces_len (e ∙ append-nil laid.pieces), laid.some, reach))
    further (piece ∷ more) e = (piece, next_reads nothing text laid.pieces piece more (subst (IsReading language nothing text) e reads))

    go : Begins laid.pieces (read language text).pieces ⊎ Begins (read language text).pieces laid.pieces → (piece : Piece) × (next_step language (after_all nothing laid.pieces) (drop (pieces_len laid.pieces) text) ≡ Stands piece)
    go (inl more) = further more.0 more.1
    go (inr more) = absurd (omega (arith, ap pieces_len more.1, pieces_append (read language text).pieces more.0, laid.some, reach))

-- A margin has its line end's lexemes and its comments at least.
abbrev HasAtLeast : ℕ → Piece → Type 0
HasAtLeast count piece = count ≤ length piece.lexemes

at_least : (n : ℕ) (line comments more : List Lexeme) → length line + length comments ≤ length (line ++ map (moved n) (comments ++ more))
at_least n line comments more = omega (arith, length-append line (map (moved n) (comments ++ more)), length-map (comments ++ more) (moved n), length-append comments more)

margin_count : (text : Text) → length (margin_of text).comments ≡ length (comment_lines text)
unfolding margin_of
margin_count text = comments_count 0 (comment_lines text)

margin_least : (n : ℕ) (line : List Lexeme) (levels : List ℕ) (text : Text) (piece : Piece) → margin_step n line levels (margin_of text) ≡ Stands piece → length line + length (comment_lines text) ≤ length piece.lexemes
unfolding margin_step
margin_least n line levels text piece stands =
    let least : HasAtLeast (length line + length (margin_of text).comments) piece =
    subst (Each (HasAtLeast (length line + length (margin_of text).comments)) (λ fault. ⊤)) stands
    (either (Each (HasAtLeast (length line + length (margin_of text).comments)) (λ fault. ⊤)) (not (is_content (margin_of text).remainder)) _ _ (at_least n line (margin_of text).comments [])
    (either (Each (HasAtLeast (length line + length (margin_of text).comments)) (λ fault. ⊤)) (has_tab (margin_of text)) _ _ tt
    (either (Each (HasAtLeast (length line + length (margin_of text).comments)) (λ fault. ⊤)) (fits (width_of (margin_of text)) levels) _ _ (at_least n line (margin_of text).comments (indentation levels (margin_of text))) tt))) in
    omega (arith, least, margin_count text)

-- A place after so many comment-only lines of a margin, which begins after some pieces and a line end of so many bytes, with
-- the lexemes of the pieces and one or none of the line end before it.
pub record HasPassed (text : Text) (at : ℕ) (pieces : List Piece) (n line : ℕ) : Type 0 where
  pub passed : ℕ
  pub few : passed ≤ length (comment_lines (drop n (drop (pieces_len pieces) text)))
  pub place : at ≡ pieces_len pieces + n + lines_sum (take passed (comment_lines (drop n (drop (pieces_len pieces) text))))
  pub count : length (without_closing (outcome (take at text)).lexemes) ≡ length (lexemes_along 0 pieces) + (line + passed)

module _ (text : Text) (at : ℕ) (laid : IsLaid text at) where
  -- the lines before the cut
  abbrev lines_before : Text
  lines_before = drop laid.n (drop (pieces_len laid.pieces) (take at text))

  abbrev margin_text : Text
  margin_text = drop laid.n (drop (pieces_len laid.pieces) text)

  parts : margin_text ≡ lines_before ++ drop at text
  parts =
      let len = length-take-le at text laid.inside in
      ap (λ t. drop laid.n (drop (pieces_len laid.pieces) t)) (sym (take-append-drop at text))
      ∙ ap (drop laid.n) (drop-append-le (pieces_len laid.pieces) (take at text) (drop at text) (omega (arith, len, laid.some)))
      ∙ drop-append-le laid.n (drop (pieces_len laid.pieces) (take at text)) (drop at text) (omega (arith, len, laid.order, length-drop (pieces_len laid.pieces) (take at text)))

  front_lines : comment_lines margin_text ≡ lines lines_before ++ take_while is_comment_only (lines (drop at text))
  front_lines =
      let whole = whole_after laid.n _ (whole_after (pieces_len laid.pieces) _ (whole_from_ends (take at text) (ends_line_of (take at text) laid.ends))) in
      ap comment_lines parts ∙ ap (take_while is_comment_only) (lines_append lines_before (drop at text) whole) ∙ while_all is_comment_only (lines lines_before) (lines (drop at text)) laid.comments

  all_lines : length (lines lines_before) ≤ length (comment_lines margin_text)
  all_lines = omega (arith, ap length front_lines, length-append (lines lines_before) (take_while is_comment_only (lines (drop at text))))

  -- it lies after so many of its margin's comment-only lines
  laid_after : HasPassed text at laid.pieces laid.n (line_count laid.margin)
  laid_after =
      let front : take (length (lines lines_before)) (comment_lines margin_text) ≡ lines lines_before =
      ap (take (length (lines lines_before))) front_lines ∙ take-append_seam (lines lines_before) (take_while is_comment_only (lines (drop at text))) in
      record {
        passed = length (lines lines_before);
        few = all_lines;
        place = omega (arith, laid.order, length-take-le at text laid.inside, length-drop (pieces_len laid.pieces) (take at text), length-drop laid.n (drop (pieces_len laid.pieces) (take at text)), lines_len lines_before, ap lines_sum front);
        count = laid_lexemes text at laid;
      }

  lays : (margin : MarginAt text laid.pieces laid.n) → (line : List Lexeme) × (length line ≡ line_count margin) × LaysOut (after_all nothing laid.pieces) (drop (pieces_len laid.pieces) text) laid.n line
  lays (First none zero_len) = ([], refl, subst (λ (ps : List Piece). LaysOut (after_all nothing ps) (drop (pieces_len ps) text) laid.n []) (sym none) (subst (λ k. LaysOut nothing text k []) (sym zero_len) (first_laid text)))
  lays (AfterComments begun counted found) = (line_of laid.n, refl, line_laid (after_all nothing laid.pieces) (drop (pieces_len laid.pieces) text) laid.n begun counted found)

  -- its margin gives all lexemes between
  pub laid_least : (piece : Piece) → next_step language (after_all nothing laid.pieces) (drop (pieces_len laid.pieces) text) ≡ Stands piece → line_count laid.margin + length (lines lines_before) ≤ length piece.lexemes
  laid_least piece stands =
      let out = lays laid.margin in
      let least = margin_least laid.n out.0 (open_widths (after_all nothing laid.pieces).widths) margin_text piece (sym out.2.step ∙ stands) in
      omega (arith, least, out.1, all_lines)

  -- and one at least
  pub laid_some : 0 < line_count laid.margin + length (lines lines_before)
  laid_some = go laid.margin
    where
      some_lines : (t : Text) → 0 < length t → 0 < length (lines t)
      some_lines t some = by (lines t) refl
        where
          by : (ls : List Text) → lines t ≡ ls → 0 < length ls
          by [] e = absurd (omega (arith, some, lines_len t, ap lines_sum e))
          by (l ∷ ls) e = omega arith

      go : (margin : MarginAt text laid.pieces laid.n) → 0 < line_count margin + length (lines lines_before)
      go (First none zero_len) =
          let begins : pieces_len laid.pieces ≡ 0 = ap pieces_len none in
          let len : 0 < length lines_before = omega (arith, zero_len, begins, laid.some, length-take-le at text laid.inside, length-drop laid.n (drop (pieces_len laid.pieces) (take at text)), length-drop (pieces_len laid.pieces) (take at text)) in
          omega (arith, some_lines lines_before len)
      go (AfterComments begun counted found) = omega arith

-- Which piece it is

last_same : (one other : List Piece) (p q : Piece) → one ++ p ∷ [] ≡ other ++ q ∷ [] → one ≡ other
last_same [] [] p q e = refl
last_same [] (y ∷ other) p q e = absurd (omega (arith, ap length e, length-append other (q ∷ [])))
last_same (x ∷ one) [] p q e = absurd (omega (arith, ap length e, length-append one (p ∷ [])))
last_same (x ∷ one) (y ∷ other) p q e =
    let first : x ≡ y = cc in
    let rest : one ++ p ∷ [] ≡ other ++ q ∷ [] = cc in
    rw (first, last_same one other p q rest) refl

-- pieces and one more, where others and one more go on after them
no_more : (one other more : List Piece) (p q : Piece) → one ++ p ∷ [] ≡ (other ++ q ∷ []) ++ more → (one ≡ other) ⊎ (length (lexemes_along 0 other) + length q.lexemes ≤ length (lexemes_along 0 one))
no_more one other [] p q e = inl (last_same one other p q (e ∙ append-nil (other ++ q ∷ [])))
no_more one other (x ∷ more) p q e =
    let cut = split_last (x ∷ more) (λ k. cc) in
    let same : one ≡ (other ++ q ∷ []) ++ cut.0 = last_same one ((other ++ q ∷ []) ++ cut.0) p cut.1 (e ∙ ap (λ ps. (other ++ q ∷ []) ++ ps) cut.2 ∙ sym (append_assoc (other ++ q ∷ []) cut.0 (cut.1 ∷ []))) in
    let all = ap length (ap (lexemes_along 0) same ∙ along_append 0 (other ++ q ∷ []) cut.0) in
    let two = ap length (along_append 0 other (q ∷ [])) in
    inr (omega (
      arith,
      all,
      length-append (lexemes_along 0 (other ++ q ∷ [])) (lexemes_along (0 + pieces_len (other ++ q ∷ [])) cut.0),
      two,
      length-append (lexemes_along 0 other) (lexemes_along (0 + pieces_len other) (q ∷ [])),
      length-append (map (moved (0 + pieces_len other)) q.lexemes) [],
      length-map q.lexemes (moved (0 + pieces_len other)),
    ))

-- A cut before which more lexemes stand than before a piece, and no more than with those of the piece, lies in that piece.
pub laid_in : (text : Text) (at : ℕ) (laid : IsLaid text at) (pieces : List Piece) (piece : Piece) → at ≤ pieces_len (read language text).pieces → IsReading language nothing text pieces
    → next_step language (after_all nothing pieces) (drop (pieces_len pieces) text) ≡ Stands piece
    → length (lexemes_along 0 pieces) < length (without_closing (outcome (take at text)).lexemes) → length (without_closing (outcome (take at text)).lexemes) ≤ length (lexemes_along 0 pieces) + length piece.lexemes → laid.pieces ≡ pieces
laid_in text at laid pieces piece reach reads stands more few =
    go (readings_agree language nothing text (laid.pieces ++ margin.0 ∷ []) (pieces ++ piece ∷ []) (reads_more nothing text laid.pieces margin.0 laid.reads margin.1) (reads_more nothing text pieces piece reads stands))
  where
    margin : (piece : Piece) × (next_step language (after_all nothing laid.pieces) (drop (pieces_len laid.pieces) text) ≡ Stands piece)
    margin = margin_stands text at laid reach

    by_more : (laid.pieces ≡ pieces) ⊎ (length (lexemes_along 0 pieces) + length piece.lexemes ≤ length (lexemes_along 0 laid.pieces)) → laid.pieces ≡ pieces
    by_more (inl same) = same
    by_more (inr beyond) = absurd (omega (arith, beyond, few, laid_lexemes text at laid, laid_some text at laid))

    by_less : (pieces ≡ laid.pieces) ⊎ (length (lexemes_along 0 laid.pieces) + length margin.0.lexemes ≤ length (lexemes_along 0 pieces)) → laid.pieces ≡ pieces
    by_less (inl same) = sym same
    by_less (inr beyond) = absurd (omega (arith, beyond, more, laid_lexemes text at laid, laid_least text at laid margin.0 margin.1))

    go : Begins (laid.pieces ++ margin.0 ∷ []) (pieces ++ piece ∷ []) ⊎ Begins (pieces ++ piece ∷ []) (laid.pieces ++ margin.0 ∷ []) → laid.pieces ≡ pieces
    go (inl remainder) = by_less (no_more pieces laid.pieces remainder.0 piece margin.0 remainder.1)
    go (inr remainder) = by_more (no_more laid.pieces pieces remainder.0 margin.0 piece remainder.1)

-- A place in the margin after some pieces, before which nothing is open.
pub record IsInMargin (text : Text) (at : ℕ) (pieces : List Piece) : Type 0 where
  pub n : ℕ
  pub margin : MarginAt text pieces n
  pub flat : IsFlat (after_all nothing pieces)
  pub lines_passed : HasPassed text at pieces n (line_count margin)

-- So lies a kept cut, by the lexemes before it.
pub cut_in : (text : Text) (at : ℕ) (pieces : List Piece) (piece : Piece) → is_clean_cut (take at text) ≡ true → at ≤ pieces_len (read language text).pieces → IsReading language nothing text pieces
    → next_step language (after_all nothing pieces) (drop (pieces_len pieces) text) ≡ Stands piece
    → length (lexemes_along 0 pieces) < length (without_closing (outcome (take at text)).lexemes) → length (without_closing (outcome (take at text)).lexemes) ≤ length (lexemes_along 0 pieces) + length piece.lexemes → IsInMargin text at pieces
cut_in text at pieces piece clean reach reads stands more few =
    let inside : at ≤ length text = omega (arith, reach, (reading_fits language nothing text (read language text).pieces (read_is language text).reads)) in
    let laid = clean_laid text at inside clean in
    subst (IsInMargin text at) (laid_in text at laid pieces piece reach reads stands more few)
    (record { n = laid.n; margin = laid.margin; flat = laid.flat; lines_passed = laid_after text at laid })

-- One lexeme at least stands before a clean cut.
pub cut_some : (text : Text) (at : ℕ) → at ≤ length text → is_clean_cut (take at text) ≡ true → 0 < length (without_closing (outcome (take at text)).lexemes)
cut_some text at inside clean = let laid = clean_laid text at inside clean in omega (arith, laid_lexemes text at laid, laid_some text at laid)

-- No more lexemes stand before a kept cut than are read.
pub cut_few : (text : Text) (at : ℕ) → is_clean_cut (take at text) ≡ true → at ≤ pieces_len (read language text).pieces → length (without_closing (outcome (take at text)).lexemes) ≤ length (lexemes_along 0 (read language text).pieces)
cut_few text at clean reach = go (readings_agree language nothing text (laid.pieces ++ margin.0 ∷ []) (read language text).pieces (reads_more nothing text laid.pieces margin.0 laid.reads margin.1) (read_is language text).reads)
  where
    laid : IsLaid text at
    laid = clean_laid text at (omega (arith, reach, reading_fits language nothing text (read language text).pieces (read_is language text).reads)) clean

    margin : (piece : Piece) × (next_step language (after_all nothing laid.pieces) (drop (pieces_len laid.pieces) text) ≡ Stands piece)
    margin = margin_stands text at laid reach

    with_margin : length (without_closing (outcome (take at text)).lexemes) ≤ length (lexemes_along 0 (laid.pieces ++ margin.0 ∷ []))
    with_margin =
        omega (
          arith,
          laid_lexemes text at laid,
          laid_least text at laid margin.0 margin.1,
          ap length (along_append 0 laid.pieces (margin.0 ∷ [])),
          length-append (lexemes_along 0 laid.pieces) (lexemes_along (0 + pieces_len laid.pieces) (margin.0 ∷ [])),
          length-append (map (moved (0 + pieces_len laid.pieces)) margin.0.lexemes) [],
          length-map margin.0.lexemes (moved (0 + pieces_len laid.pieces)),
        )

    beyond : (more : List Piece) → laid.pieces ++ margin.0 ∷ [] ≡ (read language text).pieces ++ more → length (without_closing (outcome (take at text)).lexemes) ≤ length (lexemes_along 0 (read language text).pieces)
    beyond [] e = omega (arith, with_margin, ap (λ ps. length (lexemes_along 0 ps)) (e ∙ append-nil (read language text).pieces))
    beyond (piece ∷ more) e =
        let longest = read_is language text in
        absurd (longest.no_piece piece (sym longest.stands_last ∙ next_reads nothing text (read language text).pieces piece more (subst (IsReading language nothing text) e (reads_more nothing text laid.pieces margin.0 laid.reads margin.1))))

    go : Begins (laid.pieces ++ margin.0 ∷ []) (read language text).pieces ⊎ Begins (read language text).pieces (laid.pieces ++ margin.0 ∷ []) → length (without_closing (outcome (take at text)).lexemes) ≤ length (lexemes_along 0 (read language text).pieces)
    go (inl more) =
        omega (
          arith,
          with_margin,
          ap (λ ps. length (lexemes_along 0 ps)) more.1,
          ap length (along_append 0 (laid.pieces ++ margin.0 ∷ []) more.0),
          length-append (lexemes_along 0 (laid.pieces ++ margin.0 ∷ [])) (lexemes_along (0 + pieces_len (laid.pieces ++ margin.0 ∷ [])) more.0),
        )
    go (inr more) = beyond more.0 more.1
