-- A piece that stands in a text stands in it too where the text ends sooner, with an LF after the piece.
use Rattle.std.proofs.Common.{◌≡◌, ℕ, ◌+◌, ◌≤◌, ◌<◌, Bool, true, false, List, [], ◌∷◌, ◌++◌, length, take, drop, refl, ap, ◌∙◌, sym, subst, Option, Some, None, arith}
use Rattle.std.specs.Prelude.{◌&&◌, if◌then◌else◌}
use Rattle.std.proofs.lemmas.List.{length-drop, drop-append-le}
use Rattle.starlark_grammar.specs.declared.class.Class.TheVariants as word
use Rattle.starlark_grammar.specs.Words.{Text, class_in, language}
use Rattle.starlark_grammar.specs.declared.class.LiteralKind.{LiteralKind as Kind}
use Rattle.starlark_grammar.specs.declared.class.Class.{Class}
use Rattle.starlark_grammar.specs.declared.class.LiteralKind.TheVariants.{Text as OfText, Bytes as OfBytes, FString as OfFString}
use Rattle.starlark_grammar.specs.Front.{longest_front}
use Rattle.starlark_grammar.specs.Tokens.{Opening, Lexeme, Newline}
use Rattle.starlark_grammar.specs.Items.{Stop, Closing, Line, Ended, OpeningBrace, ClosingBrace, BadEscape, Body, body_at, body_len, closing_quotes}
use Rattle.starlark_grammar.specs.Depths.{Mode, Outside, InText, AtTop, Deeper}
use Rattle.starlark_grammar.specs.Margins.{margin_of, margin_len}
use Rattle.starlark_grammar.specs.Pieces.{Before, Nothing, Layout, Gap, Other, Piece, Step, Stands, Situation, margin_step, line_end, opening_of, more_quotes, escape_fault, literal_by, literal, opener, chunk_by, chunk, counts, word_step, front_step, takes_bang, is_bang, in_code, by_mode, by_before, step_at}
use Rattle.starlark_grammar.specs.Reading.{History, situation, next_step}
use Rattle.starlark_grammar.proofs.WordNewlines.{in_line, line_fits, language_lines}
use Rattle.starlark_grammar.proofs.Joining.Followed.{ends_line, ends_line_drop, longest_front_append}
use Rattle.starlark_grammar.proofs.Joining.FollowedBodies.{is_closed}
use Rattle.starlark_grammar.proofs.Joining.FollowedMargins.{Followed, Whole, Within, followed, has_whole_lines, whole_after}
use Rattle.starlark_grammar.proofs.Joining.FollowedPieces.{FrontGoesOn, bang_stays, code_step, front_goes_on, opening_append, opening_inside}
use Rattle.starlark_grammar.proofs.Joining.Joined.{margin_step_len, step_within, whole_from_ends}
use Rattle.starlark_grammar.proofs.Joining.ShortenedBodies.{body_shortened}

-- Texts of f-strings

chunk_by_shortened : (opening : Opening) (text other : Text) (body : Body) (stop : Stop) (piece : Piece) → chunk_by opening text body stop ≡ Stands piece → (is_closed stop ≡ true) × (body_len body ≤ piece.len) × (chunk_by opening other body stop ≡ Stands piece)
chunk_by_shortened opening text other body OpeningBrace piece e = let len : body_len body + 1 ≡ piece.len = ap len_of e in (refl, omega (arith, len), e)
  where
    len_of : Step → ℕ
    len_of (Stands piece) = piece.len
    len_of step = 0
chunk_by_shortened opening text other body Closing piece e = let len : body_len body + length (closing_quotes opening) ≡ piece.len = ap len_of e in (refl, omega (arith, len), e)
  where
    len_of : Step → ℕ
    len_of (Stands piece) = piece.len
    len_of step = 0
chunk_by_shortened opening text other body ClosingBrace piece e = cc
chunk_by_shortened opening text other body (BadEscape read last) piece e = cc
chunk_by_shortened opening text other body Line piece e = cc
chunk_by_shortened opening text other body Ended piece e = cc

chunk_shortened : (opening : Opening) (text more : Text) (piece : Piece) → ends_line text ≡ true → chunk opening (text ++ more) ≡ Stands piece → piece.len < length text → chunk opening text ≡ Stands piece
unfolding chunk
chunk_shortened opening text more piece h e inside =
    let stands = chunk_by_shortened opening (text ++ more) text (body_at (record { kind = OfFString; opening = opening }) (text ++ more)) _ piece e in
    ap (λ (body : Body). chunk_by opening text body body.stop) (body_shortened (record { kind = OfFString; opening = opening }) text more h stands.0 (omega (arith, stands.1, inside))) ∙ stands.2

-- Literals

escape_fails : (begin : ℕ) (text : Text) (piece : Piece) → escape_fault begin text ≡ Stands piece → ⊥
escape_fails begin [] piece e = cc
escape_fails begin (b ∷ bs) piece e = cc

literal_by_shortened : (mode : Mode) (kind : Kind) (opening : Opening) (len : ℕ) (remainder other : Text) (body : Body) (stop : Stop) (piece : Piece) → literal_by mode kind opening len remainder body stop ≡ Stands piece
    → (is_closed stop ≡ true) × (len + body_len body ≤ piece.len) × (literal_by mode kind opening len other body stop ≡ Stands piece)
literal_by_shortened mode kind opening len remainder other body Closing piece e = let total : len + body_len body + length (closing_quotes opening) ≡ piece.len = ap len_of e in (refl, omega (arith, total), e)
  where
    len_of : Step → ℕ
    len_of (Stands piece) = piece.len
    len_of step = 0
literal_by_shortened mode kind opening len remainder other body OpeningBrace piece e = cc
literal_by_shortened mode kind opening len remainder other body ClosingBrace piece e = cc
literal_by_shortened mode kind opening len remainder other body (BadEscape read last) piece e = absurd (escape_fails _ _ piece e)
literal_by_shortened mode kind opening len remainder other body Line piece e = cc
literal_by_shortened mode kind opening len remainder other body Ended piece e = cc

literal_shortened : (mode : Mode) (kind : Kind) (opening : Opening) (len : ℕ) (remainder more : Text) (piece : Piece) → ends_line remainder ≡ true → literal mode kind opening len (remainder ++ more) ≡ Stands piece → piece.len < len + length remainder → literal mode kind opening len remainder ≡ Stands piece
literal_shortened mode kind opening len remainder more piece h e inside =
    let stands = literal_by_shortened mode kind opening len (remainder ++ more) remainder (body_at (record { kind = kind; opening = opening }) (remainder ++ more)) _ piece e in
    ap (λ (body : Body). literal_by mode kind opening len remainder body body.stop) (body_shortened (record { kind = kind; opening = opening }) remainder more h stands.0 (omega (arith, stands.1, inside))) ∙ stands.2

literal_after : (mode : Mode) (kind : Kind) (opening : Opening) (len quotes : ℕ) (remainder more : Text) (piece : Piece) → ends_line remainder ≡ true → quotes < length remainder → literal mode kind opening (len + quotes) (drop quotes (remainder ++ more)) ≡ Stands piece
    → piece.len < len + length remainder → literal mode kind opening (len + quotes) (drop quotes remainder) ≡ Stands piece
literal_after mode kind opening len quotes remainder more piece h some e inside =
    literal_shortened mode kind opening (len + quotes) (drop quotes remainder) more piece (ends_line_drop quotes remainder some h)
    (subst (λ (t : Text). literal mode kind opening (len + quotes) t ≡ Stands piece) (drop-append-le quotes remainder more (omega (arith, some))) e) (omega (arith, inside, some, length-drop quotes remainder))

opener_shortened : (mode : Mode) (kind : Kind) (opening : Opening) (len : ℕ) (remainder more : Text) (piece : Piece) → ends_line remainder ≡ true → more_quotes opening < length remainder → opener mode kind opening len (remainder ++ more) ≡ Stands piece → piece.len < len + length remainder → opener mode kind opening len remainder ≡ Stands piece
opener_shortened mode OfFString opening len remainder more piece h some e inside = e
opener_shortened mode OfText opening len remainder more piece h some e inside = literal_after mode OfText opening len (more_quotes opening) remainder more piece h some e inside
opener_shortened mode OfBytes opening len remainder more piece h some e inside = literal_after mode OfBytes opening len (more_quotes opening) remainder more piece h some e inside

-- Margins

margin_shortened : (len : ℕ) (lexemes : List Lexeme) (levels : List ℕ) (text more : Text) (piece : Piece) → has_whole_lines text ≡ true → margin_step len lexemes levels (margin_of (text ++ more)) ≡ Stands piece → piece.len < len + length text
    → margin_step len lexemes levels (margin_of text) ≡ Stands piece
margin_shortened len lexemes levels text more piece whole stands less = go (followed text more whole)
  where
    total : piece.len ≡ len + margin_len (margin_of (text ++ more))
    total = margin_step_len len lexemes levels (margin_of (text ++ more)) piece stands

    go : Followed text more → margin_step len lexemes levels (margin_of text) ≡ Stands piece
    go (Whole e f) = absurd (omega (arith, less, total, ap margin_len f))
    go (Within some inside f) = sym (step_within len lexemes levels text more some f) ∙ stands

-- Words

word_shortened : (s : Situation) (class : Class) (front remainder more : Text) (piece : Piece) → (in_line front ≡ true → ends_line remainder ≡ true) → has_whole_lines remainder ≡ true → line_fits class front ≡ true → word_step s class front (remainder ++ more) ≡ Stands piece → piece.len < length front + length remainder
    → word_step s class front remainder ≡ Stands piece
word_shortened s word.LineEnd front remainder more piece ends whole fits e inside = go (counts s.mode s.is_balanced) e
  where
    step : Bool → Text → Step
    step counted remainder = if counted then line_end (length front) s.levels remainder else Stands (record { len = length front; lexemes = []; width = None; sort = Other })

    go : (counted : Bool) → step counted (remainder ++ more) ≡ Stands piece → step counted remainder ≡ Stands piece
    go true e = margin_shortened (length front) (record { begin = 0; node = Newline; end = length front } ∷ []) s.levels remainder more piece whole e inside
    go false e = e
word_shortened s (word.Opener kind is_raw quote) front remainder more piece ends whole fits e inside =
    let h = ends fits in
    opener_shortened s.mode kind (opening_of is_raw quote remainder) (length front) remainder more piece h (opening_inside is_raw quote remainder h)
    (sym (ap (λ (opening : Opening). opener s.mode kind opening (length front) (remainder ++ more)) (opening_append is_raw quote remainder more h)) ∙ e) inside
word_shortened s class front remainder more piece ends whole fits e inside = e

front_shortened : (s : Situation) (text more : Text) (found : Option (Class × ℕ)) (piece : Piece) → ends_line text ≡ true → longest_front (class_in language) text ≡ found → front_step s (text ++ more) found ≡ Stands piece → piece.len < length text → front_step s text found ≡ Stands piece
front_shortened s text more None piece h found e inside = cc
front_shortened s text more (Some front) piece h found e inside =
    word_shortened s front.0 (take front.1 text) (drop front.1 text) more piece goes.ends (whole_after front.1 text (whole_from_ends text h)) (language_lines (take front.1 text) front.0 goes.sound.2) (sym goes.again ∙ e)
    (omega (arith, inside, goes.len, length-drop front.1 text, goes.sound.1))
  where
    goes : FrontGoesOn s text more front
    goes = front_goes_on s text more front h found

code_shortened : (s : Situation) (text more : Text) (piece : Piece) → ends_line text ≡ true → in_code language s (text ++ more) ≡ Stands piece → piece.len < length text → in_code language s text ≡ Stands piece
code_shortened s [] more piece h e inside = absurd (omega (arith, inside))
code_shortened s (b ∷ bs) more piece h e inside = go (takes_bang s.mode s.before && is_bang (b ∷ bs)) (bang_stays s b bs more h) (longest_front (class_in language) (b ∷ bs)) refl (longest_front_append (b ∷ bs) more h) e
  where
    once : (bang : Bool) (front : Option (Class × ℕ)) → longest_front (class_in language) (b ∷ bs) ≡ front → code_step s bang (b ∷ (bs ++ more)) front ≡ Stands piece → code_step s bang (b ∷ bs) front ≡ Stands piece
    once true front known e = e
    once false front known e = front_shortened s (b ∷ bs) more front piece h known e inside

    go : (bang : Bool) → (takes_bang s.mode s.before && is_bang (b ∷ (bs ++ more))) ≡ bang → (front : Option (Class × ℕ)) → longest_front (class_in language) (b ∷ bs) ≡ front → longest_front (class_in language) (b ∷ (bs ++ more)) ≡ front
        → code_step s (takes_bang s.mode s.before && is_bang (b ∷ (bs ++ more))) (b ∷ (bs ++ more)) (longest_front (class_in language) (b ∷ (bs ++ more))) ≡ Stands piece
        → code_step s bang (b ∷ bs) front ≡ Stands piece
    go bang again front known found e = once bang front known (rw (again, found) at e)

-- So does what stands at a place.
step_shortened : (s : Situation) (text more : Text) (piece : Piece) → ends_line text ≡ true → step_at language s (text ++ more) ≡ Stands piece → piece.len < length text → step_at language s text ≡ Stands piece
unfolding step_at
step_shortened s text more piece h e inside = before s.before e
  where
    at : (mode : Mode) → by_mode language s mode (text ++ more) ≡ Stands piece → by_mode language s mode text ≡ Stands piece
    at Outside e = code_shortened s text more piece h e inside
    at (InText opening) e = chunk_shortened opening text more piece h e inside
    at AtTop e = code_shortened s text more piece h e inside
    at Deeper e = code_shortened s text more piece h e inside

    before : (before : Before) → by_before language s before (text ++ more) ≡ Stands piece → by_before language s before text ≡ Stands piece
    before Nothing e = margin_shortened 0 [] s.levels text more piece (whole_from_ends text h) e (omega (arith, inside))
    before Layout e = at s.mode e
    before Gap e = at s.mode e
    before Other e = at s.mode e

pub next_shortened : (history : History) (text more : Text) (piece : Piece) → ends_line text ≡ true → next_step language history (text ++ more) ≡ Stands piece → piece.len < length text → next_step language history text ≡ Stands piece
unfolding next_step situation
next_shortened history text more piece h e inside = step_shortened (situation history) text more piece h e inside
