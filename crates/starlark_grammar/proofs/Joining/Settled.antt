-- What was read before a settled place makes no difference after it.
use Rattle.std.proofs.Common.{◌≡◌, ℕ, zero, suc, ◌+◌, Bool, true, false, List, [], ◌∷◌, ◌++◌, length, drop, cond, subst, refl, ap, ◌∙◌, sym, Option, Some, None, arith, append_assoc, nat_lt}
use Rattle.std.specs.Prelude.{◌==◌, ◌&&◌, if◌then◌else◌, count_by, option_map, option_to_list}
use Rattle.std.specs.List.{list_all}
use Rattle.std.proofs.lemmas.Bool.{and_parts, eqb-true}
use Rattle.std.proofs.lemmas.Bool.Decides.{nat_tests}
use Rattle.std.proofs.lemmas.List.Folds.{list_all-append}
use Rattle.std.proofs.lemmas.List.Sums.{sum_by-append}
use Rattle.starlark_grammar.specs.Words.{Text, Table}
use Rattle.starlark_grammar.specs.Tokens.{Token, Opening, FStringStart, FStringEnd, Lexeme}
use Rattle.starlark_grammar.specs.Depths.{InText, AtTop, Deeper, Round, Square, braces, depth, open_fstring, mode_by, mode_after, is_balanced, is_any_opening, is_any_closing, is_outside}
use Rattle.starlark_grammar.specs.Margins.{open_widths}
use Rattle.starlark_grammar.specs.Pieces.{Piece, Step}
use Rattle.starlark_grammar.specs.Reading.{History, tokens_onto, after, after_all, situation, next_step, pieces_len}
use Rattle.starlark_grammar.specs.Longest.{IsReading, IsLongestReading}
use Rattle.starlark_grammar.specs.Cuts.{is_layout, is_settled}

pub map_none : {A B : Type 0} (f : A → B) (o : Option A) → option_map f o ≡ None → o ≡ None
map_none f None h = refl
map_none f (Some x) h = cc

-- where no f-string is open, none in which others are open is
none_open : (n : ℕ) (tokens : List Token) → open_fstring n tokens ≡ None → open_fstring (suc n) tokens ≡ None
unfolding open_fstring
none_open n [] h = refl
none_open n (FStringEnd ∷ before) h = none_open (suc n) before h
none_open zero (FStringStart opening ∷ before) h = cc
none_open (suc n) (FStringStart opening ∷ before) h = none_open n before h
none_open zero (token ∷ before) h = none_open zero before (map_none _ (open_fstring zero before) h)
none_open (suc n) (token ∷ before) h = none_open (suc n) before h

all_none : (n : ℕ) (tokens : List Token) → open_fstring 0 tokens ≡ None → open_fstring n tokens ≡ None
all_none zero tokens h = h
all_none (suc n) tokens h = none_open n tokens (all_none n tokens h)

pub open_settled : (earlier : List Token) → open_fstring 0 earlier ≡ None → (n : ℕ) (tokens : List Token) → open_fstring n (tokens ++ earlier) ≡ open_fstring n tokens
unfolding open_fstring
open_settled earlier h n [] = all_none n earlier h
open_settled earlier h n (FStringEnd ∷ before) = open_settled earlier h (suc n) before
open_settled earlier h zero (FStringStart opening ∷ before) = refl
open_settled earlier h (suc n) (FStringStart opening ∷ before) = open_settled earlier h n before
open_settled earlier h zero (token ∷ before) = ap (option_map (λ (found : Opening × List Token). (found.0, token ∷ found.1))) (open_settled earlier h zero before)
open_settled earlier h (suc n) (token ∷ before) = open_settled earlier h (suc n) before

-- outside of f-strings none is open
pub outside_none : (found : Option (Opening × List Token)) → is_outside (mode_by found) ≡ true → found ≡ None
outside_none None h = refl
outside_none (Some found) h = absurd (go (braces found.1 == 0) (braces found.1 == 1 && depth Round found.1 == 0 && depth Square found.1 == 0) h)
  where
    go : (text top : Bool) → is_outside (if text then InText found.0 else (if top then AtTop else Deeper)) ≡ true → ⊥
    go true top e = cc
    go false true e = cc
    go false false e = cc

-- counts on both sides grow by the same
same_growth : (a b c : ℕ) → (a + c == b + c) ≡ (a == b)
same_growth a b c = grind (arith, nat_tests)

balanced_settled : (tokens earlier : List Token) → is_balanced earlier ≡ true → is_balanced (tokens ++ earlier) ≡ is_balanced tokens
unfolding is_balanced
balanced_settled tokens earlier h =
    let same : count_by is_any_opening earlier ≡ count_by is_any_closing earlier = eqb-true _ _ h in
    rw (sum_by-append (λ token. cond (is_any_opening token) 1 0) tokens earlier, sum_by-append (λ token. cond (is_any_closing token) 1 0) tokens earlier, same) (same_growth (count_by is_any_opening tokens) (count_by is_any_closing tokens) (count_by is_any_closing earlier))

no_widths : (widths : List ℕ) → (length widths == 0) ≡ true → widths ≡ []
no_widths [] h = refl
no_widths (w ∷ widths) h = absurd (omega (arith, eqb-true (length (w ∷ widths)) 0 h))

pub widths_settled : (earlier widths : List ℕ) → open_widths earlier ≡ [] → open_widths (earlier ++ widths) ≡ open_widths widths
unfolding open_widths
widths_settled [] widths h = refl
widths_settled (w ∷ earlier) widths h =
    ap (λ (test : Bool). if nat_lt 0 w && test then w ∷ open_widths (earlier ++ widths) else open_widths (earlier ++ widths)) (list_all-append (nat_lt w) earlier widths)
    ∙ go (nat_lt 0 w) (list_all (nat_lt w) earlier) (list_all (nat_lt w) widths) h (widths_settled earlier widths)
  where
    go : (positive least more : Bool) → (if positive && least then w ∷ open_widths earlier else open_widths earlier) ≡ []
        → (open_widths earlier ≡ [] → open_widths (earlier ++ widths) ≡ open_widths widths)
        → (if positive && (least && more) then w ∷ open_widths (earlier ++ widths) else open_widths (earlier ++ widths)) ≡ open_widths widths
    go true true more e rest = cc
    go true false more e rest = rest e
    go false least more e rest = rest e

-- what was read, with a settled history before it
abbrev pub remainder : History → History → History
remainder earlier history = record { tokens = history.tokens ++ earlier.tokens; widths = earlier.widths ++ history.widths; before = history.before }

-- what a settled history is
pub record Settled (history : History) : Type 0 where
  pub layout : is_layout history.before ≡ true
  pub none_open : open_fstring 0 history.tokens ≡ None
  pub balanced : is_balanced history.tokens ≡ true
  pub no_width : open_widths history.widths ≡ []

pub settled : (history : History) → is_settled history ≡ true → Settled history
unfolding is_settled mode_after
settled history h =
    let one = and_parts (is_layout history.before && is_outside (mode_by (open_fstring 0 history.tokens)) && is_balanced history.tokens) _ h in
    let two = and_parts (is_layout history.before && is_outside (mode_by (open_fstring 0 history.tokens))) _ one.0 in
    let three = and_parts (is_layout history.before) _ two.0 in
    record { layout = three.0; none_open = outside_none _ three.1; balanced = two.1; no_width = no_widths _ one.1 }

pub situation_after : (earlier history : History) → Settled earlier → situation (remainder earlier history) ≡ situation history
unfolding situation mode_after
situation_after earlier history h =
    rw (open_settled earlier.tokens h.none_open 0 history.tokens, balanced_settled history.tokens earlier.tokens h.balanced, widths_settled earlier.widths history.widths h.no_width) refl

pub onto_earlier : (tokens earlier : List Token) (lexemes : List Lexeme) → tokens_onto (tokens ++ earlier) lexemes ≡ tokens_onto tokens lexemes ++ earlier
onto_earlier tokens earlier [] = refl
onto_earlier tokens earlier (lexeme ∷ lexemes) = onto_earlier (lexeme.node ∷ tokens) earlier lexemes

pub after_onto : (earlier history : History) (piece : Piece) → after (remainder earlier history) piece ≡ remainder earlier (after history piece)
unfolding after
after_onto earlier history piece = rw (onto_earlier history.tokens earlier.tokens piece.lexemes, append_assoc earlier.widths history.widths (option_to_list piece.width)) refl

pub next_after : (table : Table) (earlier history : History) (text : Text) → Settled earlier → next_step table (remainder earlier history) text ≡ next_step table history text
unfolding next_step
next_after table earlier history text h = rw (situation_after earlier history h) refl

-- AfterComments a settled place a text is read as it is by itself.
pub reading_after : (table : Table) (earlier history : History) (text : Text) (pieces : List Piece) → Settled earlier → IsReading table history text pieces → IsReading table (remainder earlier history) text pieces
reading_after table earlier history text [] h reads = tt
reading_after table earlier history text (piece ∷ pieces) h reads = (
  next_after table earlier history text h ∙ reads.0,
  subst (λ (past : History). IsReading table past (drop piece.len text) pieces) (sym (after_onto earlier history piece)) (reading_after table earlier (after history piece) (drop piece.len text) pieces h reads.1),
)

pub all_after : (earlier history : History) (pieces : List Piece) → after_all (remainder earlier history) pieces ≡ remainder earlier (after_all history pieces)
all_after earlier history [] = refl
all_after earlier history (piece ∷ pieces) = ap (λ (past : History). after_all past pieces) (after_onto earlier history piece) ∙ all_after earlier (after history piece) pieces

pub longest_after : (table : Table) (earlier history : History) (text : Text) (pieces : List Piece) (last : Step) → Settled earlier → IsLongestReading table history text pieces last → IsLongestReading table (remainder earlier history) text pieces last
longest_after table earlier history text pieces last h longest = record {
  reads = reading_after table earlier history text pieces h longest.reads;
  stands_last = ap (λ (past : History). next_step table past (drop (pieces_len pieces) text)) (all_after earlier history pieces) ∙ next_after table earlier (after_all history pieces) (drop (pieces_len pieces) text) h ∙ longest.stands_last;
  no_piece = longest.no_piece;
}
