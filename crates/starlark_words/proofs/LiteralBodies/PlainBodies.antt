-- Bodies of literals that are one run up to what ends them.
use Rattle.std.proofs.Common.{◌≡◌, ℕ, zero, suc, ◌+◌, ◌<◌, ◌≤◌, ◌==◌, ◌&&◌, Bool, true, false, nat_eq, [], ◌∷◌, length, take, drop, get_or, refl, ap, sym, subst, ◌∙◌, arith}
use Rattle.std.proofs.lemmas.Bool.{and_parts, eqb-true, false_from_ne_true}
use Rattle.std.proofs.lemmas.Bool.Decides.{nat_tests}
use Rattle.std.proofs.lemmas.List.{get_or-drop}
use Rattle.std.proofs.lemmas.List.Folds.{length-prefix_len}
use Rattle.std.proofs.lemmas.Str.{IsCharBoundary-start}
use Rattle.std.specs.List.{list_all, prefix_len, starts_with}
use Rattle.std.specs.Prelude.{if◌then◌else◌}
use Rattle.std.specs.Str.{IsCharBoundary, IsUtf8}
use Rattle.starlark_grammar.specs.Items.{Literal, Stop, Stops, Closing, OpeningBrace, closing_quotes, found_at, quote_byte}
use Rattle.starlark_grammar.specs.Tokens.{Opening}
use Rattle.starlark_grammar.specs.Pieces.{opening_of}
use Rattle.starlark_grammar.specs.Words.{Text}
use Rattle.starlark_grammar.specs.declared.class.LiteralKind.{LiteralKind}
use Rattle.starlark_grammar.specs.declared.class.Quote.{Quote}
use Rattle.starlark_grammar.specs.declared.class.Quote.TheVariants.{Single as SingleQuote, Double as DoubleQuote}
use Rattle.starlark_words.specs.Inner.LiteralViews.{IsPlainBody, IsPlainChunk, fstring_literal, single_literal}
use Rattle.starlark_words.specs.Inner.PlainRuns.{IsRun, is_in_run}
use Rattle.starlark_words.proofs.LiteralBodies.BodyRuns.{others, run_all, run_front}
use Rattle.starlark_words.proofs.LiteralBodies.BodySteps.{front_stops}
use Rattle.starlark_words.proofs.LiteralBodies.FirstBytes.{closes}
use Rattle.starlark_words.proofs.LiteralBodies.ReadFronts.{closes_by_three}

-- its quote closes a literal
closed_by : (kind : LiteralKind) (is_raw : Bool) (quote : Quote) (text : Text) → (get_or text 0 0 == quote_byte quote) ≡ true → found_at (single_literal kind is_raw quote) text ≡ Stops Closing
unfolding found_at
closed_by kind is_raw SingleQuote [] h = cc
closed_by kind is_raw DoubleQuote [] h = cc
closed_by kind is_raw SingleQuote (b ∷ bs) h = let same : b ≡ 39 = eqb-true b 39 h in rw same refl
closed_by kind is_raw DoubleQuote (b ∷ bs) h = let same : b ≡ 34 = eqb-true b 34 h in rw same refl

flipped : (q b : ℕ) → (b == q) ≡ false → nat_eq q b ≡ false
flipped q b h = grind (arith, nat_tests)

both_false : (x : Bool) → (x && false) ≡ false
both_false true = refl
both_false false = refl

-- where the second byte is no quote, no two more stand there
pub single_by_second : (is_raw : Bool) (quote : Quote) (text : Text) → (get_or text 1 0 == quote_byte quote) ≡ false → (opening_of is_raw quote text).is_triple ≡ false
single_by_second is_raw quote [] h = refl
single_by_second is_raw quote (a ∷ []) h = both_false (nat_eq (quote_byte quote) a)
single_by_second is_raw quote (a ∷ b ∷ rest) h = rw (flipped (quote_byte quote) b h) (both_false (nat_eq (quote_byte quote) a))

-- nor after a byte of a run
pub single_by_first : (kind : LiteralKind) (is_raw : Bool) (quote : Quote) (text : Text) → 0 < prefix_len (is_in_run (single_literal kind is_raw quote)) text → (opening_of is_raw quote text).is_triple ≡ false
single_by_first kind is_raw quote [] some = absurd (omega (arith, some))
single_by_first kind is_raw quote (b ∷ bs) some = go (is_in_run (single_literal kind is_raw quote) b) refl some
  where
    go : (passes : Bool) → is_in_run (single_literal kind is_raw quote) b ≡ passes → 0 < (if passes then 1 + prefix_len (is_in_run (single_literal kind is_raw quote)) bs else 0) → starts_with nat_eq (b ∷ bs) (quote_byte quote ∷ quote_byte quote ∷ []) ≡ false
    go false e some = absurd (omega (arith, some))
    go true e some = rw (flipped (quote_byte quote) b (others (single_literal kind is_raw quote) b e).quote) refl

-- where two more of its quotes follow an opener, no run does
pub no_run_before_quotes : (kind : LiteralKind) (is_raw : Bool) (quote : Quote) (text : Text) (count : ℕ) → IsRun (single_literal kind is_raw quote) text count → (opening_of is_raw quote text).is_triple ≡ true → count ≡ 0
no_run_before_quotes kind is_raw quote text zero run triple = refl
no_run_before_quotes kind is_raw quote [] (suc n) run triple = absurd (omega (arith, run.boundary.0))
no_run_before_quotes kind is_raw quote (b ∷ bs) (suc n) run triple =
    let first = and_parts (is_in_run (single_literal kind is_raw quote) b) (list_all (is_in_run (single_literal kind is_raw quote)) (take n bs)) run.all in
    let other : starts_with nat_eq (b ∷ bs) (quote_byte quote ∷ quote_byte quote ∷ []) ≡ false = rw (flipped (quote_byte quote) b (others (single_literal kind is_raw quote) b first.0).quote) refl in
    let two : true ≡ false = sym triple ∙ other in
    cc

-- a run of no bytes
pub empty_run : (literal : Literal) (text : Text) → IsUtf8 text → IsRun literal text 0
empty_run literal text utf8 = record { boundary = IsCharBoundary-start text utf8; all = refl }

-- A run up to the quote is the body.
pub plain_body : (kind : LiteralKind) (is_raw : Bool) (quote : Quote) (text run : Text) → IsUtf8 text → run ≡ take (prefix_len (is_in_run (single_literal kind is_raw quote)) text) text → IsCharBoundary text (length run)
    → (get_or text (length run) 0 == quote_byte quote) ≡ true → (opening_of is_raw quote text).is_triple ≡ false → IsPlainBody kind is_raw quote text (length run)
plain_body kind is_raw quote text run utf8 same boundary closes single =
    let literal = single_literal kind is_raw quote in
    let whole : length run ≡ prefix_len (is_in_run literal) text = ap (λ (t : Text). length t) same ∙ length-prefix_len (is_in_run literal) text in
    let plus : length run + 0 ≡ length run = omega arith in
    let here : get_or (drop (length run) text) 0 0 ≡ get_or text (length run) 0 = get_or-drop (length run) text 0 0 ∙ ap (λ n. get_or text n 0) plus in
    let end = front_stops literal text (length run) run Closing (run_front literal text run utf8 same) (closed_by kind is_raw quote (drop (length run) text) (ap (λ b. b == quote_byte quote) here ∙ closes)) in
    record { single = single; boundary = boundary; len = sym end.0; value = sym end.1 ∙ same ∙ ap (λ n. take n text) (sym whole); stop = sym end.2 }

-- the same by what was looked at: the run, the byte after it, and where it is empty the second byte
pub plain_run : (kind : LiteralKind) (is_raw : Bool) (quote : Quote) (text run : Text) → run ≡ take (prefix_len (is_in_run (single_literal kind is_raw quote)) text) text → (length run ≡ 0 → (get_or text 1 0 == quote_byte quote) ≡ false) → (opening_of is_raw quote text).is_triple ≡ false
plain_run kind is_raw quote text run same second = go (length run) refl
  where
    whole : length run ≡ prefix_len (is_in_run (single_literal kind is_raw quote)) text
    whole = ap (λ (t : Text). length t) same ∙ length-prefix_len (is_in_run (single_literal kind is_raw quote)) text

    go : (n : ℕ) → length run ≡ n → (opening_of is_raw quote text).is_triple ≡ false
    go zero e = single_by_second is_raw quote text (second e)
    go (suc n) e = single_by_first kind is_raw quote text (omega (arith, e, whole))

-- the first run of a literal
pub known_run : (literal : Literal) (text run : Text) → run ≡ take (prefix_len (is_in_run literal) text) text → IsCharBoundary text (length run) → IsRun literal text (length run)
known_run literal text run same boundary =
    let whole : length run ≡ prefix_len (is_in_run literal) text = ap (λ (t : Text). length t) same ∙ length-prefix_len (is_in_run literal) text in
    record { boundary = boundary; all = subst (λ n. list_all (is_in_run literal) (take n text) ≡ true) (sym whole) (run_all (is_in_run literal) text) }

-- A run up to what stops an f-string's text is that text.
pub plain_chunk : (opening : Opening) (text run : Text) (stop : Stop) → IsUtf8 text → run ≡ take (prefix_len (is_in_run (fstring_literal opening)) text) text → IsCharBoundary text (length run)
    → found_at (fstring_literal opening) (drop (length run) text) ≡ Stops stop → IsPlainChunk opening text (length run) stop
plain_chunk opening text run stop utf8 same boundary found =
    let literal = fstring_literal opening in
    let whole : length run ≡ prefix_len (is_in_run literal) text = ap (λ (t : Text). length t) same ∙ length-prefix_len (is_in_run literal) text in
    let end = front_stops literal text (length run) run stop (run_front literal text run utf8 same) found in
    record { boundary = boundary; len = sym end.0; value = sym end.1 ∙ same ∙ ap (λ n. take n text) (sym whole); stop = sym end.2 }

-- closing quotes stop it
chunk_closed : (opening : Opening) (text : Text) → closes (fstring_literal opening) text ≡ true → found_at (fstring_literal opening) text ≡ Stops Closing
unfolding found_at
chunk_closed opening [] closing = none opening.is_triple closing
  where
    none : (is_triple : Bool) → starts_with nat_eq [] (closing_quotes (record { is_raw = opening.is_raw; quote = opening.quote; is_triple = is_triple })) ≡ true → found_at (fstring_literal opening) [] ≡ Stops Closing
    none true h = cc
    none false h = cc
chunk_closed opening (b ∷ bs) closing = rw closing refl

pub closed_by_three : (opening : Opening) (front text : Text) → closes (fstring_literal opening) front ≡ true → front ≡ take 3 text → found_at (fstring_literal opening) text ≡ Stops Closing
closed_by_three opening front text closing read = chunk_closed opening text (sym (closes_by_three (fstring_literal opening) text) ∙ ap (closes (fstring_literal opening)) (sym read) ∙ closing)

-- and so does a brace with no other after it
opened_by : (opening : Opening) (b : ℕ) (rest : Text) → closes (fstring_literal opening) (123 ∷ b ∷ rest) ≡ false → (123 == b) ≡ false → found_at (fstring_literal opening) (123 ∷ b ∷ rest) ≡ Stops OpeningBrace
unfolding found_at
opened_by opening b rest stays other = rw (stays, other) refl

pub opened_by_three : (opening : Opening) (front text : Text) → closes (fstring_literal opening) front ≡ false → 2 ≤ length front → get_or front 0 0 ≡ 123 → (get_or front 1 0 ≡ 123 → ⊥) → front ≡ take 3 text
    → found_at (fstring_literal opening) text ≡ Stops OpeningBrace
opened_by_three opening front text stays long first second read = go text (ap (closes (fstring_literal opening)) (sym read) ∙ stays) (omega (arith, long, ap (λ (t : Text). length t) read)) (ap (λ (t : Text). get_or t 0 0) (sym read) ∙ first) (λ e. second (ap (λ (t : Text). get_or t 1 0) read ∙ e))
  where
    go : (text : Text) → closes (fstring_literal opening) (take 3 text) ≡ false → 2 ≤ length (take 3 text) → get_or (take 3 text) 0 0 ≡ 123 → (get_or (take 3 text) 1 0 ≡ 123 → ⊥) → found_at (fstring_literal opening) text ≡ Stops OpeningBrace
    go [] stays long first second = absurd (omega (arith, long))
    go (a ∷ []) stays long first second = absurd (omega (arith, long))
    go (a ∷ b ∷ rest) stays long first second =
        let whole : closes (fstring_literal opening) (a ∷ b ∷ rest) ≡ false = sym (closes_by_three (fstring_literal opening) (a ∷ b ∷ rest)) ∙ stays in
        rw first (opened_by opening b rest (subst (λ x. closes (fstring_literal opening) (x ∷ b ∷ rest) ≡ false) first whole) (false_from_ne_true _ (λ e. second (sym (eqb-true 123 b e)))))
