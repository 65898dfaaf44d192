-- Indents, dedents and lexemes of whole texts.
use Rattle.std.proofs.Common.{◌≡◌, ℕ, zero, suc, ◌+◌, ◌-◌, ◌*◌, ◌≤◌, ◌<◌, cond, List, [], ◌∷◌, ◌++◌, length, take, drop, refl, ap, ◌∙◌, sym, subst, Some, None, arith, ◌⊎◌, inl, inr, append-nil, append_assoc}
use Rattle.std.specs.Prelude.{map, replicate, option_to_list}
use Rattle.std.proofs.lemmas.Bool.{cases_lt}
use Rattle.std.proofs.lemmas.List.{length-append, length-map, length-replicate, take-append-le}
use Rattle.std.proofs.Math.Seq.{take-append-add}
use Rattle.std.proofs.lemmas.List.Folds.{sum_by-replicate}
use Rattle.std.proofs.lemmas.List.Sums.{sum_by-cons, sum_by-append, sum_by-take-le}
use Rattle.starlark_grammar.specs.Words.{Text, Table}
use Rattle.starlark_grammar.specs.Tokens.{Lexeme, moved, Dedent, Newline, Fault, Spanned, Outcome}
use Rattle.starlark_grammar.specs.Margins.{margin_of, open_widths}
use Rattle.starlark_grammar.specs.Pieces.{Piece, Step, Stands, Fails, Ends}
use Rattle.starlark_grammar.specs.Reading.{History, nothing, after, after_all, pieces_len, lexemes_along, closing, outcome_of, outcome_in, read}
use Rattle.starlark_grammar.specs.Longest.{IsReading}
use Rattle.starlark_grammar.specs.Laws.{is_indent, is_dedent, indents, dedents}
use Rattle.starlark_grammar.proofs.Reading.Steps.{margin_fits}
use Rattle.starlark_grammar.proofs.Reading.Readings.{reading_fits, read_is}
use Rattle.starlark_grammar.proofs.Indentation.Balance.{levels_len, count-moved, margin_quiet, piece_balances}

dedents-append : (xs ys : List Lexeme) → dedents (xs ++ ys) ≡ dedents xs + dedents ys
dedents-append xs ys = sum_by-append (λ (lexeme : Lexeme). cond (is_dedent lexeme.node) 1 0) xs ys

indents-append : (xs ys : List Lexeme) → indents (xs ++ ys) ≡ indents xs + indents ys
indents-append xs ys = sum_by-append (λ (lexeme : Lexeme). cond (is_indent lexeme.node) 1 0) xs ys

-- dedents follow indents in lexemes that are preceded by so many open widths
abbrev Follows : ℕ → List Lexeme → Type 0
Follows levels lexemes = (n : ℕ) → dedents (take n lexemes) ≤ indents (take n lexemes) + levels

follows_after : (levels more : ℕ) (xs ys : List Lexeme) → dedents xs ≤ levels → dedents xs + more ≡ indents xs + levels → Follows more ys → Follows levels (xs ++ ys)
follows_after levels more xs ys few total h n = go (cases_lt n (length xs))
  where
    go : (n < length xs) ⊎ (length xs ≤ n) → dedents (take n (xs ++ ys)) ≤ indents (take n (xs ++ ys)) + levels
    go (inl less) =
        let part = sum_by-take-le (λ (lexeme : Lexeme). cond (is_dedent lexeme.node) 1 0) xs n in
        rw (take-append-le n xs ys (omega arith)) (omega (arith, part, few))
    go (inr rest) =
        let m : ℕ = n - length xs in
        let whole : length xs + m ≡ n = omega (arith, rest) in
        let same : take n (xs ++ ys) ≡ xs ++ take m ys = ap (λ k. take k (xs ++ ys)) (sym whole) ∙ take-append-add xs ys m in
        let remainder = h m in
        let all_dedents = dedents-append xs (take m ys) in
        let all_indents = indents-append xs (take m ys) in
        subst (λ (ls : List Lexeme). dedents ls ≤ indents ls + levels) (sym same) (omega (arith, remainder, all_dedents, all_indents, few, total))

after_widths : (history : History) (piece : Piece) → (after history piece).widths ≡ history.widths ++ option_to_list piece.width
unfolding after
after_widths history piece = refl

along_follows : (table : Table) (history : History) (text : Text) (pieces : List Piece) (at : ℕ) (tail : List Lexeme) → IsReading table history text pieces → Follows (levels_len (after_all history pieces).widths) tail → Follows (levels_len history.widths) (lexemes_along at pieces ++ tail)
along_follows table history text [] at tail reads h = h
along_follows table history text (piece ∷ pieces) at tail reads h =
    let balances = piece_balances table history text piece reads.0 in
    let more = along_follows table (after history piece) (drop piece.len text) pieces (at + piece.len) tail reads.1 h in
    let few = balances.few in
    let total = balances.total in
    let dedents_same = count-moved is_dedent at piece.lexemes in
    let indents_same = count-moved is_indent at piece.lexemes in
    subst (Follows (levels_len history.widths)) (sym (append_assoc (map (moved at) piece.lexemes) (lexemes_along (at + piece.len) pieces) tail))
    (follows_after (levels_len history.widths) (levels_len (history.widths ++ option_to_list piece.width)) (map (moved at) piece.lexemes) (lexemes_along (at + piece.len) pieces ++ tail)
    (omega (arith, few, dedents_same)) (omega (arith, total, dedents_same, indents_same))
    (subst (λ (ws : List ℕ). Follows (levels_len ws) (lexemes_along (at + piece.len) pieces ++ tail)) (after_widths history piece) more))

pub record AlongBalances (history : History) (pieces : List Piece) (lexemes : List Lexeme) : Type 0 where
  pub total : dedents lexemes + levels_len (after_all history pieces).widths ≡ indents lexemes + levels_len history.widths
  pub bytes : length lexemes ≤ pieces_len pieces + dedents lexemes
  pub wide : indents lexemes ≤ pieces_len pieces

pub along_balances : (table : Table) (history : History) (text : Text) (pieces : List Piece) (at : ℕ) → IsReading table history text pieces → AlongBalances history pieces (lexemes_along at pieces)
along_balances table history text [] at reads = record { total = refl; bytes = omega arith; wide = omega arith }
along_balances table history text (piece ∷ pieces) at reads =
    let balances = piece_balances table history text piece reads.0 in
    let more = along_balances table (after history piece) (drop piece.len text) pieces (at + piece.len) reads.1 in
    let rest : List Lexeme = lexemes_along (at + piece.len) pieces in
    let here : List Lexeme = map (moved at) piece.lexemes in
    let widths : levels_len (after history piece).widths ≡ levels_len (history.widths ++ option_to_list piece.width) = ap (λ ws. levels_len ws) (after_widths history piece) in
    let dedents_same = count-moved is_dedent at piece.lexemes in
    let indents_same = count-moved is_indent at piece.lexemes in
    let dedents_all = dedents-append here rest in
    let indents_all = indents-append here rest in
    let len_all = length-append here rest in
    let len_same = length-map piece.lexemes (moved at) in
    let len : pieces_len (piece ∷ pieces) ≡ piece.len + pieces_len pieces = sum_by-cons (λ (piece : Piece). piece.len) piece pieces in
    record {
      total = omega (arith, balances.total, more.total, widths, dedents_same, indents_same, dedents_all, indents_all);
      bytes = omega (arith, balances.bytes, more.bytes, len, len_all, len_same, dedents_same, dedents_all);
      wide = omega (arith, balances.wide, more.wide, len, indents_same, indents_all);
    }

-- what closes a text
pub closing_dedents : (at : ℕ) (history : History) → (dedents (closing at history) ≡ levels_len history.widths) × (indents (closing at history) ≡ 0) × (length (closing at history) ≡ 1 + levels_len history.widths)
closing_dedents at history =
    let newline : Lexeme = record { begin = at; node = Newline; end = at } in
    let dedent : Lexeme = record { begin = at; node = Dedent; end = at } in
    let k : ℕ = levels_len history.widths in
    let each : dedents (replicate k dedent) ≡ k * 1 = sum_by-replicate (λ (lexeme : Lexeme). cond (is_dedent lexeme.node) 1 0) k dedent in
    let none : indents (replicate k dedent) ≡ k * 0 = sum_by-replicate (λ (lexeme : Lexeme). cond (is_indent lexeme.node) 1 0) k dedent in
    let first = dedents-append (newline ∷ []) (replicate k dedent) in
    let second = indents-append (newline ∷ []) (replicate k dedent) in
    let len = length-replicate k dedent in
    (omega (arith, each, first), omega (arith, none, second), omega (arith, len))

closing_follows : (at : ℕ) (history : History) → Follows (levels_len history.widths) (closing at history)
closing_follows at history n =
    let part = sum_by-take-le (λ (lexeme : Lexeme). cond (is_dedent lexeme.node) 1 0) (closing at history) n in
    let all = (closing_dedents at history).0 in
    omega (arith, part, all)

none_open : levels_len [] ≡ 0
unfolding open_widths
none_open = refl

-- The laws, by what stands after the longest reading.
abbrev pub OutcomeBalances : Text → Outcome → Type 0
OutcomeBalances text found =
    ((n : ℕ) → dedents (take n found.lexemes) ≤ indents (take n found.lexemes))
    × (found.fault ≡ None → dedents found.lexemes ≡ indents found.lexemes)
    × (length found.lexemes + length (option_to_list found.fault) ≤ 2 * length text + 1)

comments_balance : (text : Text) (fault : Spanned Fault) → OutcomeBalances text (record { lexemes = (margin_of text).comments; fault = Some fault })
comments_balance text fault =
    let quiet = margin_quiet text in
    let none = quiet.none in
    let inside = quiet.inside in
    let fits = margin_fits text in
    ((λ n. let part = sum_by-take-le (λ (lexeme : Lexeme). cond (is_dedent lexeme.node) 1 0) (margin_of text).comments n in omega (arith, part, none)), (λ e. cc), omega (arith, inside, fits))

pieces_balance : (table : Table) (text : Text) (pieces : List Piece) (fault : Spanned Fault) → IsReading table nothing text pieces → OutcomeBalances text (record { lexemes = lexemes_along 0 pieces; fault = Some fault })
pieces_balance table text pieces fault reads =
    let balances = along_balances table nothing text pieces 0 reads in
    let total = balances.total in
    let bytes = balances.bytes in
    let wide = balances.wide in
    let fits = reading_fits table nothing text pieces reads in
    let follows = along_follows table nothing text pieces 0 [] reads (λ n. let none = take_none n in rw none (omega arith)) in
    ((λ n. let here = subst (Follows (levels_len [])) (append-nil (lexemes_along 0 pieces)) follows n in omega (arith, here, none_open)), (λ e. cc), omega (arith, total, bytes, wide, fits, none_open))
  where
    take_none : (n : ℕ) → ◌≡◌ {A = List Lexeme} (take n []) []
    take_none zero = refl
    take_none (suc n) = refl

whole_balances : (table : Table) (text : Text) (pieces : List Piece) → IsReading table nothing text pieces → OutcomeBalances text (record { lexemes = lexemes_along 0 pieces ++ closing (pieces_len pieces) (after_all nothing pieces); fault = None })
whole_balances table text pieces reads =
    let balances = along_balances table nothing text pieces 0 reads in
    let total = balances.total in
    let bytes = balances.bytes in
    let wide = balances.wide in
    let fits = reading_fits table nothing text pieces reads in
    let last : List Lexeme = closing (pieces_len pieces) (after_all nothing pieces) in
    let closes = closing_dedents (pieces_len pieces) (after_all nothing pieces) in
    let first = closes.0 in
    let second = closes.1 in
    let third = closes.2 in
    let follows = along_follows table nothing text pieces 0 last reads (closing_follows (pieces_len pieces) (after_all nothing pieces)) in
    let dedents_all = dedents-append (lexemes_along 0 pieces) last in
    let indents_all = indents-append (lexemes_along 0 pieces) last in
    let len_all = length-append (lexemes_along 0 pieces) last in
    ((λ n. let here = follows n in omega (arith, here, none_open)), (λ e. omega (arith, total, first, second, dedents_all, indents_all, none_open)), omega (arith, total, bytes, wide, fits, first, third, len_all, none_open))

outcome_of_balances : (table : Table) (text : Text) (pieces : List Piece) (last : Step) → IsReading table nothing text pieces → OutcomeBalances text (outcome_of text pieces last)
outcome_of_balances table text [] (Fails fault) reads = comments_balance text (moved 0 fault)
outcome_of_balances table text (piece ∷ pieces) (Fails fault) reads = pieces_balance table text (piece ∷ pieces) (moved (pieces_len (piece ∷ pieces)) fault) reads
outcome_of_balances table text pieces (Stands piece) reads = whole_balances table text pieces reads
outcome_of_balances table text pieces Ends reads = whole_balances table text pieces reads

pub outcome_balances : (table : Table) (text : Text) → OutcomeBalances text (outcome_in table text)
unfolding outcome_in
outcome_balances table text = outcome_of_balances table text (read table text).pieces (read table text).last (read_is table text).reads
