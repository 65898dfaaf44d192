-- Content at the start of a line, after a text that leaves blocks open: what the text's last piece is then.
use Rattle.std.proofs.Common.{◌≡◌, ℕ, zero, suc, ◌+◌, ◌<◌, Bool, true, false, not, cond, List, [], ◌∷◌, ◌++◌, length, take, drop, map, refl, ap, ◌∙◌, sym, subst, Some, None, arith, append_assoc, append-nil, replicate, nat_lt}
use Rattle.std.specs.Prelude.{◌&&◌, ◌||◌, ◌==◌, if◌then◌else◌, count_by, sum_by, take_while, option_to_list}
use Rattle.std.specs.List.{list_all, onto_first}
use Rattle.std.specs.Str.{byte}
use Rattle.std.proofs.lemmas.Bool.{and_parts}
use Rattle.std.proofs.lemmas.Bool.Decides.{nat_tests}
use Rattle.std.proofs.lemmas.List.{length-drop, map-append}
use Rattle.std.proofs.lemmas.List.Folds.{list_all-append}
use Rattle.std.proofs.lemmas.List.Sums.{sum_by-cons}
use Rattle.starlark_grammar.specs.Words.{Text, language}
use Rattle.starlark_grammar.specs.Tokens.{Token, Newline, Dedent, Lexeme, moved}
use Rattle.starlark_grammar.specs.Depths.{open_fstring, is_balanced, is_any_opening, is_any_closing}
use Rattle.starlark_grammar.specs.Margins.{margin_of, margin_from, is_blank, is_lf, is_content, is_comment_only, blanks_len, lines, fits, indentation, open_widths}
use Rattle.starlark_grammar.specs.Pieces.{Before, Nothing, Layout, Gap, Other, Piece, Stands, Situation, margin_step, by_before, step_at}
use Rattle.starlark_grammar.specs.Reading.{History, tokens_onto, after, after_all, situation, next_step, pieces_len, lexemes_along}
use Rattle.starlark_grammar.specs.Longest.{IsReading}
use Rattle.starlark_grammar.specs.Cuts.{is_layout}
use Rattle.starlark_grammar.proofs.Indentation.Widths.{positive}
use Rattle.starlark_grammar.proofs.Reading.Readings.{started, piece_fits}
use Rattle.starlark_grammar.proofs.Reading.Steps.{is_nothing}
use Rattle.starlark_grammar.proofs.Joining.Followed.{ends_line, ends_line_drop}
use Rattle.starlark_grammar.proofs.Joining.FollowedMargins.{whole_after, Followed, Whole, Within, margin_after, followed, has_whole_lines}
use Rattle.starlark_grammar.proofs.Joining.Joined.{whole_from_ends, last_line_end, margin_step_len, blank_step, inside, reads_on, onto_append}
use Rattle.starlark_grammar.specs.Joining.{begins_plainly}

-- The first margin of a text that begins plainly

no_margin : (blank feed comment : Bool) → not (blank || feed || comment) ≡ true → (blank ≡ false) × (feed ≡ false) × (comment ≡ false)
no_margin true feed comment h = cc
no_margin false true comment h = cc
no_margin false false true h = cc
no_margin false false false h = (refl, refl, refl)

pub plain_content : (text : Text) → begins_plainly text ≡ true → is_content text ≡ true
unfolding begins_plainly
plain_content [] h = cc
plain_content (b ∷ bs) h = ap not (no_margin (is_blank b) (is_lf b) (b == byte "#") h).1

-- it is empty
pub plain_margin : (text : Text) → begins_plainly text ≡ true → margin_of text ≡ record { comments = []; at = 0; blanks = []; remainder = text }
unfolding begins_plainly margin_of lines
plain_margin [] h = cc
plain_margin (b ∷ bs) h =
    ap (λ (ls : List Text). margin_from ls (sum_by length ls) (drop (sum_by length ls) (b ∷ bs))) (none (is_lf b) (lines bs) is.1)
    ∙ ap (λ n. record { comments = []; at = 0; blanks = take n (b ∷ bs); remainder = drop n (b ∷ bs) }) (no_blanks bs)
  where
    is : (is_blank b ≡ false) × (is_lf b ≡ false) × ((b == byte "#") ≡ false)
    is = no_margin (is_blank b) (is_lf b) (b == byte "#") h

    no_blanks : (line : Text) → blanks_len (b ∷ line) ≡ 0
    no_blanks line = ap (λ (blank : Bool). cond blank (1 + blanks_len line) 0) is.0

    no_comment : (line : Text) → is_comment_only (b ∷ line) ≡ false
    no_comment line = rw (no_blanks line) is.2

    none : (feed : Bool) (ls : List Text) → feed ≡ false → take_while is_comment_only (if feed then (b ∷ []) ∷ ls else onto_first b ls) ≡ []
    none true ls f = cc
    none false [] f = rw (no_comment []) refl
    none false (l ∷ ls) f = rw (no_comment l) refl

-- Blocks that are closed

-- a `Dedent` for each of some blocks, all at one place
abbrev pub dedents : ℕ → ℕ → List Lexeme
dedents count at = replicate count (record { begin = at; node = Dedent; end = at })

pub dedents_moved : (n count at : ℕ) → map (moved n) (dedents count at) ≡ dedents count (n + at)
dedents_moved n zero at = refl
dedents_moved n (suc count) at = ap (λ (ls : List Lexeme). record { begin = n + at; node = Dedent; end = n + at } ∷ ls) (dedents_moved n count at)

-- a last piece, and after it content of width 0
abbrev pub closing_piece : ℕ → Piece → Piece
closing_piece count piece = record { len = piece.len; lexemes = piece.lexemes ++ dedents count piece.len; width = Some 0; sort = Layout }

all_close : (levels : List ℕ) → list_all (nat_lt 0) levels ≡ true → count_by (nat_lt 0) levels ≡ length levels
all_close [] h = refl
all_close (width ∷ levels) h =
    let parts = and_parts (nat_lt 0 width) (list_all (nat_lt 0) levels) h in
    let first : ◌≡◌ {A = ℕ} (cond (nat_lt 0 width) 1 0) 1 = ap (λ (b : Bool). cond b 1 0) parts.0 in
    omega (arith, first, sum_by-cons (λ v. cond (nat_lt 0 v) 1 0) width levels, all_close levels parts.1)

pub closing_step : (len : ℕ) (lexemes : List Lexeme) (levels : List ℕ) (comments : List Lexeme) (at : ℕ) (text : Text) → is_content text ≡ true → list_all (nat_lt 0) levels ≡ true
    → margin_step len lexemes levels (record { comments = comments; at = at; blanks = []; remainder = text }) ≡ Stands (record { len = len + (at + 0); lexemes = lexemes ++ map (moved len) (comments ++ dedents (length levels) at); width = Some 0; sort = Layout })
unfolding margin_step fits indentation
closing_step len lexemes levels comments at text content positive = rw (content, all_close levels positive) refl

-- The last margin of a text of whole lines, with content at the start of the next one.
closed_margin : (len : ℕ) (lexemes : List Lexeme) (levels : List ℕ) (text more : Text) (piece : Piece) → has_whole_lines text ≡ true → margin_step len lexemes levels (margin_of text) ≡ Stands piece → piece.len ≡ len + length text → begins_plainly more ≡ true → list_all (nat_lt 0) levels ≡ true
    → (margin_step len lexemes levels (margin_of (text ++ more)) ≡ Stands (closing_piece (length levels) piece)) × (piece.width ≡ None)
closed_margin len lexemes levels text more piece whole stands reach begins positive = go (followed text more whole)
  where
    last : Piece
    last = record { len = len + (length text + 0); lexemes = lexemes ++ map (moved len) ((margin_of text).comments ++ []); width = None; sort = Layout }

    last_step : margin_of text ≡ record { comments = (margin_of text).comments; at = length text; blanks = []; remainder = [] } → margin_step len lexemes levels (margin_of text) ≡ Stands last
    last_step e = ap (margin_step len lexemes levels) e ∙ blank_step len lexemes levels (margin_of text).comments (length text)

    total : len + (length text + 0 + 0) ≡ len + (length text + 0)
    total = omega arith

    lists : (count : ℕ) (comments : List Lexeme) → lexemes ++ map (moved len) (comments ++ dedents count (length text + 0)) ≡ (lexemes ++ map (moved len) comments) ++ dedents count (len + (length text + 0))
    lists count comments =
        ap (λ ls. lexemes ++ ls) (map-append (moved len) comments (dedents count (length text + 0)))
        ∙ sym (append_assoc lexemes (map (moved len) comments) (map (moved len) (dedents count (length text + 0))))
        ∙ ap (λ ls. (lexemes ++ map (moved len) comments) ++ ls) (dedents_moved len count (length text + 0))

    made : (count : ℕ) → ◌≡◌ {A = Piece} (record { len = len + (length text + 0 + 0); lexemes = lexemes ++ map (moved len) (((margin_of text).comments ++ []) ++ dedents count (length text + 0)); width = Some 0; sort = Layout }) (closing_piece count last)
    made count = rw (total, lists count ((margin_of text).comments ++ [])) refl

    go : Followed text more → (margin_step len lexemes levels (margin_of (text ++ more)) ≡ Stands (closing_piece (length levels) piece)) × (piece.width ≡ None)
    go (Whole e f) =
        let is_last : Stands last ≡ Stands piece = sym (last_step e) ∙ stands in
        let same : last ≡ piece = cc in (
          ap (margin_step len lexemes levels) (f ∙ ap (margin_after (length text) (margin_of text).comments) (plain_margin more begins))
              ∙ closing_step len lexemes levels ((margin_of text).comments ++ []) (length text + 0) more (plain_content more begins) positive
              ∙ ap Stands (made (length levels) ∙ ap (closing_piece (length levels)) same),
          sym (ap (λ (p : Piece). p.width) same),
        )
    go (Within some less f) = absurd (omega (arith, less, reach, margin_step_len len lexemes levels (margin_of text) piece stands))

-- the last piece, by the situation
closed_step : (s : Situation) (text more : Text) (piece : Piece) → ends_line text ≡ true → list_all (nat_lt 0) s.levels ≡ true → is_layout piece.sort ≡ true → piece.len ≡ length text → step_at language s text ≡ Stands piece → begins_plainly more ≡ true
    → (step_at language s (text ++ more) ≡ Stands (closing_piece (length s.levels) piece)) × (piece.width ≡ None)
unfolding step_at
closed_step s text more piece ends positive laid reach stands begins = go s.before refl stands
  where
    Claim : Before → Type 0
    Claim before = (by_before language s before (text ++ more) ≡ Stands (closing_piece (length s.levels) piece)) × (piece.width ≡ None)

    later : is_nothing s.before ≡ false → Claim s.before
    later started =
        let end = last_line_end s text more piece ends laid started stands in
        let len : ℕ = length (take end.len text) in
        let found = closed_margin len (record { begin = 0; node = Newline; end = len } ∷ []) s.levels (drop end.len text) more piece (whole_after end.len text (whole_from_ends text ends)) end.stands (omega (arith, reach, end.total)) begins positive in
        (end.step ∙ found.0, found.1)

    go : (before : Before) → s.before ≡ before → by_before language s before text ≡ Stands piece → Claim before
    go Nothing same e = closed_margin 0 [] s.levels text more piece (whole_from_ends text ends) e (omega (arith, reach)) begins positive
    go Layout same e = subst Claim same (later (ap is_nothing same))
    go Gap same e = subst Claim same (later (ap is_nothing same))
    go Other same e = subst Claim same (later (ap is_nothing same))

-- Open widths

-- after content of width 0 none is open
pub none_wider : (widths : List ℕ) → open_widths (widths ++ 0 ∷ []) ≡ []
unfolding open_widths
none_wider [] = refl
none_wider (w ∷ widths) =
    ap (λ (least : Bool). if nat_lt 0 w && least then w ∷ open_widths (widths ++ 0 ∷ []) else open_widths (widths ++ 0 ∷ [])) (list_all-append (nat_lt w) widths (0 ∷ []))
    ∙ go (nat_lt 0 w) (list_all (nat_lt w) widths) (nat_lt w 0) least (none_wider widths)
  where
    least : nat_lt w 0 ≡ false
    least = grind (arith, nat_tests)

    go : (more all less : Bool) → less ≡ false → open_widths (widths ++ 0 ∷ []) ≡ [] → (if more && (all && (less && true)) then w ∷ open_widths (widths ++ 0 ∷ []) else open_widths (widths ++ 0 ∷ [])) ≡ []
    go more all true e rest = cc
    go false all false e rest = rest
    go true true false e rest = rest
    go true false false e rest = rest

-- What was read

-- tokens, and `Dedent`s after them
abbrev pub with_dedents : ℕ → List Token → List Token
with_dedents zero tokens = tokens
with_dedents (suc count) tokens = with_dedents count (Dedent ∷ tokens)

pub onto_dedents : (tokens : List Token) (count at : ℕ) → tokens_onto tokens (dedents count at) ≡ with_dedents count tokens
onto_dedents tokens zero at = refl
onto_dedents tokens (suc count) at = onto_dedents (Dedent ∷ tokens) count at

-- They open and close nothing.
pub none_open_dedents : (count : ℕ) (tokens : List Token) → open_fstring 0 tokens ≡ None → open_fstring 0 (with_dedents count tokens) ≡ None
unfolding open_fstring
none_open_dedents zero tokens h = h
none_open_dedents (suc count) tokens h = none_open_dedents count (Dedent ∷ tokens) (more h)
  where
    more : open_fstring 0 tokens ≡ None → open_fstring 0 (Dedent ∷ tokens) ≡ None
    more h = rw h refl

pub balanced_dedents : (count : ℕ) (tokens : List Token) → is_balanced tokens ≡ true → is_balanced (with_dedents count tokens) ≡ true
unfolding is_balanced
balanced_dedents zero tokens h = h
balanced_dedents (suc count) tokens h = balanced_dedents count (Dedent ∷ tokens) (more h)
  where
    more : is_balanced tokens ≡ true → is_balanced (Dedent ∷ tokens) ≡ true
    more h =
        let opened : count_by is_any_opening (Dedent ∷ tokens) ≡ count_by is_any_opening tokens = omega (arith, sum_by-cons (λ token. cond (is_any_opening token) 1 0) Dedent tokens) in
        let closed : count_by is_any_closing (Dedent ∷ tokens) ≡ count_by is_any_closing tokens = omega (arith, sum_by-cons (λ token. cond (is_any_closing token) 1 0) Dedent tokens) in
        ap (λ n. n == count_by is_any_closing (Dedent ∷ tokens)) opened ∙ ap (λ n. count_by is_any_opening tokens == n) closed ∙ h

abbrev pub open_count : History → ℕ
open_count history = length (open_widths history.widths)

-- what was read, and after it content of width 0
abbrev pub closed_after : History → History
closed_after history = record { tokens = with_dedents (open_count history) history.tokens; widths = history.widths ++ 0 ∷ []; before = Layout }

-- Readings

-- The reading of a text that ends with a margin, with content at the start of the next line.
pub record Closed (history : History) (text more : Text) (pieces : List Piece) : Type 0 where
  pub pieces' : List Piece
  pub some : ¬ (pieces' ≡ [])
  pub reads : IsReading language history (text ++ more) pieces'
  pub len : pieces_len pieces' ≡ length text
  pub past : after_all history pieces' ≡ closed_after (after_all history pieces)
  pub lexemes : (at : ℕ) → lexemes_along at pieces' ≡ lexemes_along at pieces ++ dedents (open_count (after_all history pieces)) (at + length text)

no_cons : (p : Piece) (ps : List Piece) → p ∷ ps ≡ [] → ⊥
no_cons p ps e = cc

-- the last piece alone
close_last : (history : History) (text more : Text) (piece : Piece) → ends_line text ≡ true → next_step language history text ≡ Stands piece → piece.len ≡ length text → is_layout piece.sort ≡ true → begins_plainly more ≡ true
    → Closed history text more (piece ∷ [])
unfolding next_step situation after
close_last history text more piece ends stands reach laid begins =
    let found = closed_step (situation history) text more piece ends (positive history.widths) laid reach stands begins in
    let widths : history.widths ≡ history.widths ++ option_to_list piece.width = sym (ap (λ w. history.widths ++ option_to_list w) found.1 ∙ append-nil history.widths) in
    let count = length (open_widths history.widths) in
    let last = closing_piece count piece in
    let tokens : tokens_onto history.tokens last.lexemes ≡ with_dedents count (tokens_onto history.tokens piece.lexemes) =
    onto_append history.tokens piece.lexemes (dedents count piece.len) ∙ onto_dedents (tokens_onto history.tokens piece.lexemes) count piece.len in
    record {
      pieces' = last ∷ [];
      some = λ e. no_cons last [] e;
      reads = (found.0, tt);
      len = omega (arith, reach, sum_by-cons (λ (piece : Piece). piece.len) last []);
      past = ap (λ ts. record { tokens = ts; widths = history.widths ++ 0 ∷ []; before = Layout }) tokens
          ∙ ap (λ (ws : List ℕ). record { tokens = with_dedents (length (open_widths ws)) (tokens_onto history.tokens piece.lexemes); widths = ws ++ 0 ∷ []; before = Layout }) widths;
      lexemes = λ at. append-nil (map (moved at) last.lexemes) ∙ map-append (moved at) piece.lexemes (dedents count piece.len)
          ∙ ap (λ ls. map (moved at) piece.lexemes ++ ls) (dedents_moved at count piece.len)
          ∙ ap (λ n. map (moved at) piece.lexemes ++ dedents count (at + n)) reach
          ∙ ap (λ (ws : List ℕ). map (moved at) piece.lexemes ++ dedents (length (open_widths ws)) (at + length text)) widths
          ∙ ap (λ ls. ls ++ dedents (length (open_widths (history.widths ++ option_to_list piece.width))) (at + length text)) (sym (append-nil (map (moved at) piece.lexemes)));
    }

-- All pieces but the last stay, and the last closes the blocks.
pub close_reading : (history : History) (text more : Text) (pieces : List Piece) → ends_line text ≡ true → ¬ (pieces ≡ []) → IsReading language history text pieces → pieces_len pieces ≡ length text → is_layout (after_all history pieces).before ≡ true → begins_plainly more ≡ true
    → Closed history text more pieces
unfolding after
close_reading history text more [] ends some reads reach laid begins = absurd (some refl)
close_reading history text more (piece ∷ []) ends some reads reach laid begins =
    close_last history text more piece ends reads.0 (omega (arith, reach, sum_by-cons (λ (piece : Piece). piece.len) piece [])) (sort laid) begins
  where
    sort : is_layout (after history piece).before ≡ true → is_layout piece.sort ≡ true
    sort h = h
close_reading history text more (piece ∷ next ∷ pieces) ends some reads reach laid begins =
    let total = sum_by-cons (λ (piece : Piece). piece.len) piece (next ∷ pieces) in
    let less = inside history text piece next reads.0 reads.1.0 in
    let begun = started history piece (piece_fits language history text piece reads.0).sort in
    let rest = close_reading (after history piece) (drop piece.len text) more (next ∷ pieces) (ends_line_drop piece.len text less ends) (no_cons next pieces) reads.1 (omega (arith, reach, total, length-drop piece.len text)) laid begins in
    record {
      pieces' = piece ∷ rest.pieces';
      some = no_cons piece rest.pieces';
      reads = reads_on history text more piece rest.pieces' ends less reads.0 rest.reads;
      len = omega (arith, rest.len, less, length-drop piece.len text, sum_by-cons (λ (piece : Piece). piece.len) piece rest.pieces');
      past = rest.past;
      lexemes = λ at. ap (λ ls. map (moved at) piece.lexemes ++ ls) (rest.lexemes (at + piece.len) ∙ ap (λ n. lexemes_along (at + piece.len) (next ∷ pieces) ++ dedents (open_count (after_all history (piece ∷ next ∷ pieces))) n) (along at piece.len less))
          ∙ sym (append_assoc (map (moved at) piece.lexemes) (lexemes_along (at + piece.len) (next ∷ pieces)) (dedents (open_count (after_all history (piece ∷ next ∷ pieces))) (at + length text)));
    }
  where
    along : (at n : ℕ) → n < length text → at + n + length (drop n text) ≡ at + length text
    along at n less = omega (arith, length-drop n text)
