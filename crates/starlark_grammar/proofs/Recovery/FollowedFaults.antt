-- A fault that ends before its text does, whose last byte is an LF, stays where the text goes on.
use Rattle.std.proofs.Common.{◌≡◌, ℕ, ◌+◌, ◌≤◌, ◌<◌, Bool, true, false, List, [], ◌∷◌, ◌++◌, length, take, drop, refl, ap, ◌∙◌, sym, subst, Option, Some, None, arith}
use Rattle.std.specs.Prelude.{◌&&◌, if◌then◌else◌}
use Rattle.std.proofs.lemmas.Bool.{and_right, eqb-true}
use Rattle.std.proofs.lemmas.List.{drop-append-le, length-drop, length-take, take-append-le}
use Rattle.std.proofs.lemmas.List.Sums.{sum_by-cons}
use Rattle.starlark_grammar.specs.declared.class.Class.TheVariants as word
use Rattle.starlark_grammar.specs.Words.{Text, class_in, language}
use Rattle.starlark_grammar.specs.declared.class.LiteralKind.{LiteralKind as Kind}
use Rattle.starlark_grammar.specs.declared.class.Class.{Class}
use Rattle.starlark_grammar.specs.declared.class.LiteralKind.TheVariants.{Text as OfText, Bytes as OfBytes, FString as OfFString}
use Rattle.starlark_grammar.specs.FrontCharacter.{first_character}
use Rattle.starlark_grammar.specs.Front.{longest_front}
use Rattle.starlark_grammar.specs.Tokens.{Opening, InvalidInput, Lexeme, Spanned, Fault}
use Rattle.starlark_grammar.specs.Items.{Stop, Closing, Line, Ended, OpeningBrace, ClosingBrace, BadEscape, Body, body_at, body_len}
use Rattle.starlark_grammar.specs.Depths.{Mode, Outside, InText, AtTop, Deeper}
use Rattle.starlark_grammar.specs.Margins.{margin_of}
use Rattle.starlark_grammar.specs.Pieces.{Before, Nothing, Layout, Gap, Other, Piece, Step, Stands, Fails, Situation, fault, margin_step, line_end, opening_of, more_quotes, is_plain, unfinished, escape_fault, literal_by, literal, opener, chunk_by, chunk, counts, word_step, front_step, takes_bang, is_bang, in_code, by_mode, by_before, step_at}
use Rattle.starlark_grammar.specs.Reading.{History, after, after_all, situation, next_step, pieces_len}
use Rattle.starlark_grammar.specs.Longest.{IsReading}
use Rattle.starlark_grammar.proofs.Lists.{drop-sum}
use Rattle.starlark_grammar.proofs.WordNewlines.{in_line, line_fits, language_lines}
use Rattle.starlark_grammar.proofs.Literals.Bodies.{StopFits, body_fits}
use Rattle.starlark_grammar.proofs.Joining.Followed.{ends_line, ends_line_drop, longest_front_append}
use Rattle.starlark_grammar.proofs.Joining.FollowedBodies.{character_append}
use Rattle.starlark_grammar.proofs.Joining.FollowedMargins.{Followed, Whole, Within, followed, has_whole_lines, whole_after}
use Rattle.starlark_grammar.proofs.Joining.FollowedPieces.{FrontGoesOn, bang_stays, code_step, front_goes_on, opening_append, opening_inside}
use Rattle.starlark_grammar.proofs.Joining.Joined.{blank_step, next_stays, step_within, whole_from_ends}
use Rattle.starlark_grammar.proofs.Recovery.FollowedStops.{StopInside, body_single, body_stays}

-- of two faults of one step
pub same_fault : (one other : Spanned Fault) → Fails one ≡ Fails other → one ≡ other
same_fault one other e = cc

pub fault_end : (one other : Spanned Fault) → Fails one ≡ Fails other → one.end ≡ other.end
fault_end one other e = ap (λ (f : Spanned Fault). f.end) (same_fault one other e)

-- Margins

-- a margin that fails has content, so that it ends in its text
pub margin_within : (len : ℕ) (lexemes : List Lexeme) (levels : List ℕ) (text : Text) (found : Spanned Fault)
    → margin_of text ≡ record { comments = (margin_of text).comments; at = length text; blanks = []; remainder = [] } → margin_step len lexemes levels (margin_of text) ≡ Fails found → ⊥
margin_within len lexemes levels text found whole fails =
    let stands = ap (margin_step len lexemes levels) whole ∙ blank_step len lexemes levels (margin_of text).comments (length text) in
    let wrong = sym stands ∙ fails in cc

margin_fails : (len : ℕ) (lexemes : List Lexeme) (levels : List ℕ) (text more : Text) (found : Spanned Fault) → has_whole_lines text ≡ true → margin_step len lexemes levels (margin_of text) ≡ Fails found → margin_step len lexemes levels (margin_of (text ++ more)) ≡ Fails found
margin_fails len lexemes levels text more found whole fails = go (followed text more whole)
  where
    go : Followed text more → margin_step len lexemes levels (margin_of (text ++ more)) ≡ Fails found
    go (Whole e f) = absurd (margin_within len lexemes levels text found e fails)
    go (Within some inside f) = step_within len lexemes levels text more some f ∙ fails

-- Literals

not_plain : (opening : Opening) (text more : Text) → ends_line text ≡ true → opening.is_triple ≡ false → is_plain opening (text ++ more) ≡ false
not_plain opening [] more h single = cc
not_plain opening (b ∷ []) more h single =
    let feed : b ≡ 10 = eqb-true b 10 h in
    rw (feed, single) refl
not_plain opening (b ∷ c ∷ bs) more h single = and_right _ (is_plain opening ((c ∷ bs) ++ more)) (not_plain opening (c ∷ bs) more h single)

plain_ends : (opening : Opening) (text : Text) → ends_line text ≡ true → opening.is_triple ≡ false → is_plain opening text ≡ false
plain_ends opening [] h single = cc
plain_ends opening (b ∷ []) h single =
    let feed : b ≡ 10 = eqb-true b 10 h in
    rw (feed, single) refl
plain_ends opening (b ∷ c ∷ bs) h single = and_right _ (is_plain opening (c ∷ bs)) (plain_ends opening (c ∷ bs) h single)

-- what an unfinished literal of one line is
pub unfinished_append : (mode : Mode) (kind : Kind) (opening : Opening) (remainder more : Text) → ends_line remainder ≡ true → opening.is_triple ≡ false → unfinished mode kind opening (remainder ++ more) ≡ unfinished mode kind opening remainder
unfinished_append Outside kind opening remainder more h single = refl
unfinished_append (InText other) OfText opening remainder more h single = rw (not_plain opening remainder more h single, plain_ends opening remainder h single) refl
unfinished_append AtTop OfText opening remainder more h single = rw (not_plain opening remainder more h single, plain_ends opening remainder h single) refl
unfinished_append Deeper OfText opening remainder more h single = rw (not_plain opening remainder more h single, plain_ends opening remainder h single) refl
unfinished_append (InText other) OfBytes opening remainder more h single = refl
unfinished_append AtTop OfBytes opening remainder more h single = refl
unfinished_append Deeper OfBytes opening remainder more h single = refl
unfinished_append (InText other) OfFString opening remainder more h single = refl
unfinished_append AtTop OfFString opening remainder more h single = refl
unfinished_append Deeper OfFString opening remainder more h single = refl

escape_end : (begin : ℕ) (text : Text) (found : Spanned Fault) → escape_fault begin text ≡ Fails found → found.end ≡ begin + 1 + length text
escape_end begin [] found e = let end = fault_end _ found e in omega (arith, end)
escape_end begin (b ∷ bs) found e = let end = fault_end _ found e in omega (arith, end)

-- the fault of a bad escape ends with the bytes that were read
pub escape_reads : (begin used read last : ℕ) (opening : Opening) (remainder : Text) (found : Spanned Fault) → used ≤ length remainder → StopFits opening (drop used remainder) (BadEscape read last) → escape_fault (begin + used) (drop 1 (take read (drop used remainder))) ≡ Fails found
    → found.end ≡ begin + used + read
escape_reads begin used read last opening remainder found inside fits e =
    let end = escape_end (begin + used) (drop 1 (take read (drop used remainder))) found e in
    let some = fits.0 in
    let less = fits.1 in
    let within = fits.2 in
    omega (arith, end, some, less, within, length-drop 1 (take read (drop used remainder)), length-take read (drop used remainder))

module _ (mode : Mode) (kind : Kind) (opening : Opening) (len : ℕ) (remainder more : Text) (body : Body) (found : Spanned Fault) (inside : body_len body ≤ length remainder) where
  -- a literal's fault that ends before the text does leaves its body inside
  literal_inside : (stop : Stop) → StopFits opening (drop (body_len body) remainder) stop → literal_by mode kind opening len remainder body stop ≡ Fails found → found.end < len + length remainder → StopInside (length remainder) (body_len body) stop
  literal_inside Closing fits e less = tt
  literal_inside Line fits e less = tt
  literal_inside OpeningBrace fits e less = tt
  literal_inside ClosingBrace fits e less = tt
  literal_inside Ended fits e less = absurd (omega (arith, less, fault_end _ found e))
  literal_inside (BadEscape read last) fits e less =
      let end = escape_reads len (body_len body) read last opening remainder found inside fits e in omega (arith, less, end)

  literal_same : (stop : Stop) → StopFits opening (drop (body_len body) remainder) stop → ends_line remainder ≡ true → (stop ≡ Line → opening.is_triple ≡ false) → literal_by mode kind opening len remainder body stop ≡ Fails found → found.end < len + length remainder → literal_by mode kind opening len (remainder ++ more) body stop ≡ Fails found
  literal_same Closing fits h single e less = e
  literal_same Line fits h single e less = ap (λ (node : Fault). fault 0 node (len + body_len body)) (unfinished_append mode kind opening remainder more h (single refl)) ∙ e
  literal_same OpeningBrace fits h single e less = absurd (omega (arith, less, fault_end _ found e))
  literal_same ClosingBrace fits h single e less = absurd (omega (arith, less, fault_end _ found e))
  literal_same Ended fits h single e less = absurd (omega (arith, less, fault_end _ found e))
  literal_same (BadEscape read last) fits h single e less =
      ap (λ (t : Text). escape_fault (len + body_len body) (drop 1 (take read t))) (drop-append-le (body_len body) remainder more inside)
      ∙ ap (λ (t : Text). escape_fault (len + body_len body) (drop 1 t)) (take-append-le read (drop (body_len body) remainder) more fits.2)
      ∙ e

literal_fails : (mode : Mode) (kind : Kind) (opening : Opening) (len : ℕ) (remainder more : Text) (found : Spanned Fault) → ends_line remainder ≡ true → literal mode kind opening len remainder ≡ Fails found → found.end < len + length remainder → literal mode kind opening len (remainder ++ more) ≡ Fails found
literal_fails mode kind opening len remainder more found h e less =
    let body : Body = body_at (record { kind = kind; opening = opening }) remainder in
    let fits = body_fits (record { kind = kind; opening = opening }) remainder in
    let inside = literal_inside mode kind opening len remainder more body found fits.0 body.stop fits.1 e less in
    ap (λ (b : Body). literal_by mode kind opening len (remainder ++ more) b b.stop) (body_stays (record { kind = kind; opening = opening }) remainder more h inside)
    ∙ literal_same mode kind opening len remainder more body found fits.0 body.stop fits.1 h (body_single (record { kind = kind; opening = opening }) remainder) e less

literal_after_fails : (mode : Mode) (kind : Kind) (opening : Opening) (len quotes : ℕ) (remainder more : Text) (found : Spanned Fault) → ends_line remainder ≡ true → quotes < length remainder → literal mode kind opening (len + quotes) (drop quotes remainder) ≡ Fails found → found.end < len + length remainder
    → literal mode kind opening (len + quotes) (drop quotes (remainder ++ more)) ≡ Fails found
literal_after_fails mode kind opening len quotes remainder more found h inside e less =
    subst (λ (t : Text). literal mode kind opening (len + quotes) t ≡ Fails found) (sym (drop-append-le quotes remainder more (omega (arith, inside))))
    (literal_fails mode kind opening (len + quotes) (drop quotes remainder) more found (ends_line_drop quotes remainder inside h) e (omega (arith, less, inside, length-drop quotes remainder)))

opener_fails : (mode : Mode) (kind : Kind) (opening : Opening) (len : ℕ) (remainder more : Text) (found : Spanned Fault) → ends_line remainder ≡ true → more_quotes opening < length remainder → opener mode kind opening len remainder ≡ Fails found → found.end < len + length remainder
    → opener mode kind opening len (remainder ++ more) ≡ Fails found
opener_fails mode OfFString opening len remainder more found h inside e less = e
opener_fails mode OfText opening len remainder more found h inside e less = literal_after_fails mode OfText opening len (more_quotes opening) remainder more found h inside e less
opener_fails mode OfBytes opening len remainder more found h inside e less = literal_after_fails mode OfBytes opening len (more_quotes opening) remainder more found h inside e less

-- Texts of f-strings

chunk_inside : (opening : Opening) (text : Text) (body : Body) (stop : Stop) (found : Spanned Fault) → chunk_by opening text body stop ≡ Fails found → found.end < length text → StopInside (length text) (body_len body) stop
chunk_inside opening text body OpeningBrace found e less = tt
chunk_inside opening text body Closing found e less = tt
chunk_inside opening text body ClosingBrace found e less = tt
chunk_inside opening text body Line found e less = tt
chunk_inside opening text body (BadEscape read last) found e less = omega (arith, less, fault_end _ found e)
chunk_inside opening text body Ended found e less = absurd (omega (arith, less, fault_end _ found e))

pub chunk_same : (opening : Opening) (text other : Text) (body : Body) (stop : Stop) (found : Spanned Fault) → chunk_by opening text body stop ≡ Fails found → found.end < length text → chunk_by opening other body stop ≡ Fails found
chunk_same opening text other body Ended found e less = absurd (omega (arith, less, fault_end _ found e))
chunk_same opening text other body stop found e less = e

chunk_fails : (opening : Opening) (text more : Text) (found : Spanned Fault) → ends_line text ≡ true → chunk opening text ≡ Fails found → found.end < length text → chunk opening (text ++ more) ≡ Fails found
unfolding chunk
chunk_fails opening text more found h e less =
    let body : Body = body_at (record { kind = OfFString; opening = opening }) text in
    let inside = chunk_inside opening text body body.stop found e less in
    ap (λ (b : Body). chunk_by opening (text ++ more) b b.stop) (body_stays (record { kind = OfFString; opening = opening }) text more h inside)
    ∙ chunk_same opening text (text ++ more) body body.stop found e less

-- Words

word_fails : (s : Situation) (class : Class) (front remainder more : Text) (found : Spanned Fault) → (in_line front ≡ true → ends_line remainder ≡ true) → line_fits class front ≡ true → has_whole_lines remainder ≡ true → word_step s class front remainder ≡ Fails found → found.end < length front + length remainder
    → word_step s class front (remainder ++ more) ≡ Fails found
word_fails s word.LineEnd front remainder more found ends fits whole e less = go (counts s.mode s.is_balanced) e
  where
    step : Bool → Text → Step
    step counted remainder = if counted then line_end (length front) s.levels remainder else Stands (record { len = length front; lexemes = []; width = None; sort = Other })

    go : (counted : Bool) → step counted remainder ≡ Fails found → step counted (remainder ++ more) ≡ Fails found
    go true e = margin_fails (length front) _ s.levels remainder more found whole e
    go false e = e
word_fails s (word.Opener kind is_raw quote) front remainder more found ends fits whole e less =
    let h = ends fits in
    ap (λ (opening : Opening). opener s.mode kind opening (length front) (remainder ++ more)) (opening_append is_raw quote remainder more h)
    ∙ opener_fails s.mode kind (opening_of is_raw quote remainder) (length front) remainder more found h (opening_inside is_raw quote remainder h) e less
word_fails s class front remainder more found ends fits whole e less = e

front_fails : (s : Situation) (text more : Text) (front : Option (Class × ℕ)) (found : Spanned Fault) → ends_line text ≡ true → longest_front (class_in language) text ≡ front → front_step s text front ≡ Fails found → found.end < length text → front_step s (text ++ more) front ≡ Fails found
front_fails s text more None found h known e less =
    let end : length (first_character text) ≡ found.end = fault_end _ found e in
    ap (λ (t : Text). fault 0 (InvalidInput t) (length t)) (character_append text more (omega (arith, less, end))) ∙ e
front_fails s text more (Some front) found h known e less =
    goes.again ∙ word_fails s front.0 (take front.1 text) (drop front.1 text) more found goes.ends (language_lines (take front.1 text) front.0 goes.sound.2) (whole_after front.1 text (whole_from_ends text h)) e (omega (arith, less, goes.len, length-drop front.1 text, goes.sound.1))
  where
    goes : FrontGoesOn s text more front
    goes = front_goes_on s text more front h known

code_fails : (s : Situation) (text more : Text) (found : Spanned Fault) → ends_line text ≡ true → in_code language s text ≡ Fails found → found.end < length text → in_code language s (text ++ more) ≡ Fails found
code_fails s [] more found h e less = cc
code_fails s (b ∷ bs) more found h e less =
    ap (λ (front : Option (Class × ℕ)). code_step s (takes_bang s.mode s.before && is_bang (b ∷ (bs ++ more))) (b ∷ (bs ++ more)) front) (longest_front_append (b ∷ bs) more h)
    ∙ ap (λ bang. code_step s bang (b ∷ (bs ++ more)) (longest_front (class_in language) (b ∷ bs))) (bang_stays s b bs more h)
    ∙ go (takes_bang s.mode s.before && is_bang (b ∷ bs)) e
  where
    go : (bang : Bool) → code_step s bang (b ∷ bs) (longest_front (class_in language) (b ∷ bs)) ≡ Fails found → code_step s bang (b ∷ (bs ++ more)) (longest_front (class_in language) (b ∷ bs)) ≡ Fails found
    go true e = e
    go false e = front_fails s (b ∷ bs) more (longest_front (class_in language) (b ∷ bs)) found h refl e less

-- What fails at the front of a text, and not up to its end, fails where the text goes on.
step_fails : (s : Situation) (text more : Text) (found : Spanned Fault) → ends_line text ≡ true → step_at language s text ≡ Fails found → found.end < length text → step_at language s (text ++ more) ≡ Fails found
unfolding step_at
step_fails s text more found h e less = before s.before e
  where
    at : (mode : Mode) → by_mode language s mode text ≡ Fails found → by_mode language s mode (text ++ more) ≡ Fails found
    at Outside e = code_fails s text more found h e less
    at (InText opening) e = chunk_fails opening text more found h e less
    at AtTop e = code_fails s text more found h e less
    at Deeper e = code_fails s text more found h e less

    before : (before : Before) → by_before language s before text ≡ Fails found → by_before language s before (text ++ more) ≡ Fails found
    before Nothing e = margin_fails 0 [] s.levels text more found (whole_from_ends text h) e
    before Layout e = at s.mode e
    before Gap e = at s.mode e
    before Other e = at s.mode e

next_fails : (history : History) (text more : Text) (found : Spanned Fault) → ends_line text ≡ true → next_step language history text ≡ Fails found → found.end < length text → next_step language history (text ++ more) ≡ Fails found
unfolding next_step situation
next_fails history text more found h e less = step_fails (situation history) text more found h e less

-- The pieces before such a fault, and the fault, stay.
pub record FaultStays (history : History) (text : Text) (pieces : List Piece) (found : Spanned Fault) : Type 0 where
  pub reads : IsReading language history text pieces
  pub fails : next_step language (after_all history pieces) (drop (pieces_len pieces) text) ≡ Fails found

pub fault_stays : (history : History) (text more : Text) (pieces : List Piece) (found : Spanned Fault) → ends_line text ≡ true → FaultStays history text pieces found → pieces_len pieces + found.end < length text → FaultStays history (text ++ more) pieces found
fault_stays history text more [] found h stays less = record { reads = tt; fails = next_fails history text more found h stays.fails (omega (arith, less)) }
fault_stays history text more (piece ∷ pieces) found h stays less =
    let total : pieces_len (piece ∷ pieces) ≡ piece.len + pieces_len pieces = sum_by-cons (λ (piece : Piece). piece.len) piece pieces in
    let inside : piece.len < length text = omega (arith, less, total) in
    let gone : (t : Text) → drop (pieces_len (piece ∷ pieces)) t ≡ drop (pieces_len pieces) (drop piece.len t) = λ t. ap (λ n. drop n t) total ∙ drop-sum piece.len (pieces_len pieces) t in
    let left : drop piece.len (text ++ more) ≡ drop piece.len text ++ more = drop-append-le piece.len text more (omega (arith, inside)) in
    let rest = fault_stays (after history piece) (drop piece.len text) more pieces found (ends_line_drop piece.len text inside h)
    (record { reads = stays.reads.1; fails = ap (next_step language (after_all (after history piece) pieces)) (sym (gone text)) ∙ stays.fails }) (omega (arith, less, total, inside, length-drop piece.len text)) in
    record {
      reads = (next_stays history text more piece h inside stays.reads.0, subst (λ (t : Text). IsReading language (after history piece) t pieces) (sym left) rest.reads);
      fails = ap (next_step language (after_all (after history piece) pieces)) (gone (text ++ more) ∙ ap (drop (pieces_len pieces)) left) ∙ rest.fails;
    }
