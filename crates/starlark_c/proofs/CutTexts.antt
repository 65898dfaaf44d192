-- A piece of a text: what is before a kept cut. Also of one that begins with the text.
use Rattle.std.proofs.Common.{◌≡◌, ℕ, ◌<◌, ◌≤◌, Bool, true, false, not, List, [], ◌∷◌, ◌++◌, map, length, take, drop, refl, ap, subst, sym, ◌∙◌, arith, ◌⊎◌, inl, inr, length-append}
use Rattle.std.specs.Prelude.{◌||◌, ◌==◌, if◌then◌else◌, sum_by, take_while}
use Rattle.std.specs.List.{onto_first}
use Rattle.std.specs.Str.{byte}
use Rattle.std.proofs.lemmas.Bool.{both_ways}
use Rattle.std.proofs.lemmas.List.{drop-append-le, length-map, length-take, map-append, take-append-drop, take-append-le, take_at}
use Rattle.starlark_c.specs.Endings.{IsPiece, lexemes_of}
use Rattle.starlark_c.specs.LastCuts.{is_without_margin}
use Rattle.starlark_grammar.specs.Cuts.{is_clean_cut, is_kept_cut, without_closing}
use Rattle.starlark_grammar.specs.Margins.{blanks_len, has_tab, is_blank, is_comment_only, is_lf, lines, margin_of}
use Rattle.starlark_grammar.specs.Pieces.{Fails}
use Rattle.starlark_grammar.specs.Reading.{nothing, outcome, pieces_len, read}
use Rattle.starlark_grammar.specs.Longest.{IsLongestReading}
use Rattle.starlark_grammar.specs.TextLaws.{HasFirstMargin, Join}
use Rattle.starlark_grammar.specs.Tokens.{Lexeme, Outcome, moved}
use Rattle.starlark_grammar.specs.Words.{Text, language}
use Rattle.starlark_grammar.proofs.Joining.CleanCuts.{cuts_join}
use Rattle.starlark_grammar.proofs.Joining.LineCuts.{kept_parts}
use Rattle.starlark_grammar.proofs.Joining.Tabs.{HasTab, after_tab, first_margin_is, tab}
use Rattle.starlark_grammar.proofs.Reading.Readings.{one_longest, read_is}
use Rattle.starlark_lexemes.proofs.LexerCuts.{kept_some}
use Rattle.starlark_lexemes.specs.CutAfter.{IsCutAfter}
use Rattle.starlark_token.specs.Lexemes.{shown_lexeme}

-- a text is what is before a kept cut of it, joined with the rest
kept_joins : (text : Text) (at : ℕ) → is_kept_cut text at ≡ true → Join (take at text) (drop at text)
kept_joins text at kept = go (first_margin_is (drop at text))
  where
    whole : take at text ++ drop at text ≡ text
    whole = take-append-drop at text

    go : HasFirstMargin language (drop at text) ⊎ HasTab (margin_of (drop at text)) → Join (take at text) (drop at text)
    go (inl margin) = cuts_join (take at text) (drop at text) (kept_parts text at kept).1 margin
    go (inr has) =
        let found = after_tab (take at text) (drop at text) (kept_parts text at kept).1 has in
        let same = one_longest language nothing text (read language text).pieces found.front (read language text).last (Fails tab) (read_is language text)
        (subst (λ (t : Text). IsLongestReading language nothing t found.front (Fails tab)) whole found.longest) in
        absurd (omega (arith, found.less, (kept_parts text at kept).0, ap pieces_len same.0, length-take at text))

piece_by : (text : Text) (at count : ℕ) → 0 < at → at ≤ length text → is_clean_cut (take at text) ≡ true → length (without_closing (outcome (take at text)).lexemes) ≡ count → Join (take at text) (drop at text) → IsPiece text at count
piece_by text at count some inside clean counted joins =
    let first = take at text in
    let front = without_closing (outcome first).lexemes in
    let all : (outcome text).lexemes ≡ front ++ map (moved (length first)) (outcome (drop at text)).lexemes =
    ap (λ (t : Text). (outcome t).lexemes) (sym (take-append-drop at text)) ∙ ap (λ (o : Outcome). o.lexemes) joins in
    record {
      some = some;
      inside = inside;
      clean = clean;
      lexemes =
          ap (λ (ls : List Lexeme). take count (map shown_lexeme ls)) all
          ∙ ap (take count) (map-append shown_lexeme front (map (moved (length first)) (outcome (drop at text)).lexemes))
          ∙ take_at (map shown_lexeme front) _ count (length-map front shown_lexeme ∙ counted);
      joins = joins;
    }

pub piece_at : (text : Text) (at count : ℕ) → IsCutAfter text count at → IsPiece text at count
piece_at text at count cut = piece_by text at count (kept_some text at cut.is_kept) (omega (arith, cut.inside)) (kept_parts text at cut.is_kept).1 cut.lexemes (kept_joins text at cut.is_kept)

-- Fronts of longer texts

-- a line that begins with neither a blank nor a comment has no blanks in its first margin
no_blanks : (b : ℕ) (bs : Text) → is_blank b ≡ false → (b == byte "#") ≡ false → (margin_of (b ∷ bs)).blanks ≡ []
unfolding margin_of lines
no_blanks b bs blank comment = ap blanks (first (is_lf b)) ∙ rw blank refl
  where
    blanks : List Text → Text
    blanks passed = take (blanks_len (drop (sum_by (λ (line : Text). length line) passed) (b ∷ bs))) (drop (sum_by (λ (line : Text). length line) passed) (b ∷ bs))

    line : (more : Text) → is_comment_only (b ∷ more) ≡ false
    line more = rw (blank, comment) refl

    none : (more : List Text) → take_while is_comment_only (onto_first b more) ≡ []
    none [] = rw (line []) refl
    none (l ∷ more) = rw (line l) refl

    first : (feed : Bool) → take_while is_comment_only (if feed then (b ∷ []) ∷ lines bs else onto_first b (lines bs)) ≡ []
    first true = rw (line []) refl
    first false = none (lines bs)

neither : (x y : Bool) → not (x || y) ≡ true → (x ≡ false) × (y ≡ false)
neither true y h = cc
neither false true h = cc
neither false false h = (refl, refl)

-- so its first margin stands, whatever follows
front_margin : (text rest : Text) → is_without_margin text ≡ true → HasFirstMargin language (text ++ rest)
unfolding is_without_margin
front_margin [] rest empty = cc
front_margin (b ∷ bs) rest empty = go (first_margin_is (b ∷ (bs ++ rest)))
  where
    go : HasFirstMargin language (b ∷ (bs ++ rest)) ⊎ HasTab (margin_of (b ∷ (bs ++ rest))) → HasFirstMargin language (b ∷ (bs ++ rest))
    go (inl margin) = margin
    go (inr has) =
        let tests = neither (is_blank b) (b == byte "#") empty in
        let none : has_tab (margin_of (b ∷ (bs ++ rest))) ≡ false = rw (no_blanks b (bs ++ rest) tests.0 tests.1) refl in
        absurd (both_ways _ none has.is)

-- a piece of a front is one of the longer text, with the same lexemes
pub piece_append : (text rest : Text) (at count : ℕ) → IsCutAfter text count at → is_without_margin (drop at text) ≡ true → (IsPiece (text ++ rest) at count) × (take count (lexemes_of (text ++ rest)) ≡ take count (lexemes_of text))
piece_append text rest at count cut empty =
    let inside : at ≤ length text = omega (arith, cut.inside) in
    let clean = (kept_parts text at cut.is_kept).1 in
    let same : take at (text ++ rest) ≡ take at text = take-append-le at text rest inside in
    let remainder : drop at (text ++ rest) ≡ drop at text ++ rest = drop-append-le at text rest inside in
    let joins : Join (take at (text ++ rest)) (drop at (text ++ rest)) = rw (same, remainder) (cuts_join (take at text) (drop at text ++ rest) clean (front_margin (drop at text) rest empty)) in
    let piece = piece_by (text ++ rest) at count (kept_some text at cut.is_kept) (omega (arith, inside, length-append text rest)) (rw same clean) (rw same cut.lexemes) joins in
    (piece, piece.lexemes ∙ ap (λ (t : Text). map shown_lexeme (without_closing (outcome t).lexemes)) same ∙ sym (piece_at text at count cut).lexemes)
