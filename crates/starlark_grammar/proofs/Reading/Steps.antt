-- Pieces and faults lie inside of the text, and no piece but a first margin is empty.
pub use Rattle.starlark_grammar.specs.Pieces.{is_nothing}
use Rattle.std.proofs.Common.{◌≡◌, ℕ, suc, ◌+◌, ◌≤◌, Bool, true, false, not, List, [], ◌∷◌, length, take, drop, refl, ap, ◌∙◌, Option, Some, None, arith, nat_eq}
use Rattle.std.specs.Prelude.{⊤, ◌&&◌, if◌then◌else◌, sum_by}
use Rattle.std.proofs.lemmas.List.{length-drop, length-take-le}
use Rattle.std.proofs.lemmas.List.Sums.{sum_by-cons, sum_by-take-le}
use Rattle.std.specs.List.{prefix_len, starts_with, onto_first}
use Rattle.starlark_grammar.specs.Words as word
use Rattle.starlark_grammar.specs.Words.{Text, Quote, Kind, OfText, OfBytes, OfFString, Class, Table, class_in}
use Rattle.starlark_grammar.specs.Front.{longest_front}
use Rattle.starlark_grammar.specs.Tokens.{Token, Opening, Fault, Spanned, Lexeme, FStringBang, FStringStart}
use Rattle.starlark_grammar.specs.Items.{Stop, Closing, Line, Ended, OpeningBrace, ClosingBrace, BadEscape, Body, body_at, body_len, quote_byte}
use Rattle.starlark_grammar.specs.Depths.{Mode, Outside, InText, AtTop, Deeper}
use Rattle.starlark_grammar.specs.Margins.{lines, is_lf, is_comment_only, comment_lines, blanks_len, margin_from, Margin, margin_of, margin_len, is_content, has_tab, width_of, fits}
use Rattle.starlark_grammar.specs.Pieces.{Before, Nothing, Layout, Gap, Other, Piece, Step, Stands, Fails, Ends, Situation, piece, token, fault, margin_step, opening_of, more_quotes, escape_fault, literal_by, literal, opener, chunk_by, chunk, counts, starts_zero, word_step, front_step, takes_bang, is_bang, in_code, by_mode, by_before, step_at}
use Rattle.starlark_grammar.proofs.ClosingQuotes.{some_quotes}
use Rattle.starlark_grammar.proofs.Lists.{take_fits}
use Rattle.starlark_grammar.proofs.Words.Fronts.{front_sound}
use Rattle.starlark_grammar.proofs.Literals.Bodies.{StopFits, body_fits, starts_fits, character_fits}
use Rattle.starlark_grammar.proofs.Choices.{either}

-- what is so of a piece or of a fault
abbrev pub Each : (Piece → Type 0) → (Spanned Fault → Type 0) → Step → Type 0
Each P Q (Stands piece) = P piece
Each P Q (Fails fault) = Q fault
Each P Q Ends = ⊤

-- a piece of so many bytes at least
pub record PieceFits (least : ℕ) (text : Text) (piece : Piece) : Type 0 where
  pub some : least ≤ piece.len
  pub inside : piece.len ≤ length text
  pub sort : is_nothing piece.sort ≡ false

pub record FaultFits (text : Text) (fault : Spanned Fault) : Type 0 where
  pub order : fault.begin ≤ fault.end
  pub inside : fault.end ≤ length text

-- where nothing stands and nothing fails the text is at its end
abbrev pub StepFits : ℕ → Text → Step → Type 0
StepFits least text (Stands piece) = PieceFits least text piece
StepFits least text (Fails fault) = FaultFits text fault
StepFits least text Ends = text ≡ []

token_fits : (len : ℕ) (node : Token) (text : Text) → 1 ≤ len → len ≤ length text → StepFits 1 text (token len node)
token_fits len node text some inside = record { some = some; inside = inside; sort = refl }

-- Margins

pub lines_len : (text : Text) → sum_by (λ (line : Text). length line) (lines text) ≡ length text
unfolding lines
lines_len [] = refl
lines_len (b ∷ bs) = go (is_lf b) (lines bs) (lines_len bs)
  where
    onto : (more : List Text) → sum_by (λ (line : Text). length line) (onto_first b more) ≡ suc (sum_by (λ (line : Text). length line) more)
    onto [] = refl
    onto (line ∷ more) =
        let whole = sum_by-cons (λ (line : Text). length line) (b ∷ line) more in
        let part = sum_by-cons (λ (line : Text). length line) line more in
        omega (arith, whole, part)

    go : (feed : Bool) (more : List Text) → sum_by (λ (line : Text). length line) more ≡ length bs → sum_by (λ (line : Text). length line) (if feed then (b ∷ []) ∷ more else onto_first b more) ≡ suc (length bs)
    go true more e = sum_by-cons (λ (line : Text). length line) (b ∷ []) more ∙ omega (arith, e)
    go false more e = onto more ∙ ap suc e

comments_fit : (text : Text) → sum_by (λ (line : Text). length line) (comment_lines text) ≤ length text
comments_fit text =
    let whole = lines_len text in
    let part = sum_by-take-le (λ (line : Text). length line) (lines text) (prefix_len is_comment_only (lines text)) in
    omega (arith, whole, part)

margin_from_fits : (passed : List Text) (at : ℕ) (text : Text) → at ≤ length text → margin_len (margin_from passed at (drop at text)) ≤ length text
margin_from_fits passed at text inside =
    let fits = take_fits (blanks_len (drop at text)) (drop at text) in
    omega (arith, length-drop at text, fits.0)

pub margin_fits : (text : Text) → margin_len (margin_of text) ≤ length text
unfolding margin_of
margin_fits text = margin_from_fits (comment_lines text) (sum_by (λ (line : Text). length line) (comment_lines text)) text (comments_fit text)

margin_step_fits : (least len : ℕ) (before : List Lexeme) (levels : List ℕ) (margin : Margin) (text : Text) → least ≤ len → len + margin_len margin ≤ length text → StepFits least text (margin_step len before levels margin)
unfolding margin_step
margin_step_fits least len before levels margin text some inside =
    let layout : (lexemes : List Lexeme) (width : Option ℕ) → PieceFits least text (record { len = len + margin_len margin; lexemes = lexemes; width = width; sort = Layout }) =
    λ lexemes width. record { some = omega arith; inside = inside; sort = refl } in
    either (StepFits least text) (not (is_content margin.remainder)) _ _ (layout _ _)
    (either (StepFits least text) (has_tab margin) _ _ (record { order = omega arith; inside = omega arith })
    (either (StepFits least text) (fits (width_of margin) levels) _ _ (layout _ _) (record { order = omega arith; inside = inside })))

-- Literals

quotes_fit : (is_raw : Bool) (quote : Quote) (remainder : Text) → more_quotes (opening_of is_raw quote remainder) ≤ length remainder
quotes_fit is_raw quote remainder = go (starts_with nat_eq remainder (quote_byte quote ∷ quote_byte quote ∷ [])) (starts_fits remainder (quote_byte quote ∷ quote_byte quote ∷ []))
  where
    go : (starts : Bool) → (starts ≡ true → 2 ≤ length remainder) → (if starts then 2 else 0) ≤ length remainder
    go true h = h refl
    go false h = omega arith

escape_fault_fits : (begin : ℕ) (read text : Text) → begin + 1 + length read ≤ length text → StepFits 1 text (escape_fault begin read)
escape_fault_fits begin [] text inside = record { order = omega arith; inside = omega arith }
escape_fault_fits begin (b ∷ bs) text inside = record { order = omega arith; inside = omega arith }

literal_by_fits : (mode : Mode) (kind : Kind) (opening : Opening) (len : ℕ) (remainder text : Text) (body : Body) (stop : Stop) → 1 ≤ len → len + length remainder ≤ length text → body_len body ≤ length remainder → StopFits opening (drop (body_len body) remainder) stop → StepFits 1 text (literal_by mode kind opening len remainder body stop)
literal_by_fits mode kind opening len remainder text body Closing some inside fits stop =
    record { some = omega arith; inside = omega (arith, length-drop (body_len body) remainder); sort = refl }
literal_by_fits mode kind opening len remainder text body (BadEscape read last) some inside fits stop =
    let least = stop.0 in
    let less = stop.1 in
    let within = stop.2 in
    let taken = take_fits read (drop (body_len body) remainder) in
    escape_fault_fits (len + body_len body) (drop 1 (take read (drop (body_len body) remainder))) text
    (omega (arith, length-drop (body_len body) remainder, length-drop 1 (take read (drop (body_len body) remainder)), taken.0, taken.1))
literal_by_fits mode kind opening len remainder text body Line some inside fits stop = record { order = omega arith; inside = omega arith }
literal_by_fits mode kind opening len remainder text body Ended some inside fits stop = record { order = omega arith; inside = inside }
literal_by_fits mode kind opening len remainder text body OpeningBrace some inside fits stop = record { order = omega arith; inside = inside }
literal_by_fits mode kind opening len remainder text body ClosingBrace some inside fits stop = record { order = omega arith; inside = inside }

literal_fits : (mode : Mode) (kind : Kind) (opening : Opening) (len : ℕ) (remainder text : Text) → 1 ≤ len → len + length remainder ≤ length text → StepFits 1 text (literal mode kind opening len remainder)
literal_fits mode kind opening len remainder text some inside =
    let fits = body_fits (record { kind = kind; opening = opening }) remainder in
    literal_by_fits mode kind opening len remainder text (body_at (record { kind = kind; opening = opening }) remainder) _ some inside fits.0 fits.1

opener_fits : (mode : Mode) (kind : Kind) (opening : Opening) (len : ℕ) (remainder text : Text) → 1 ≤ len → len + length remainder ≤ length text → more_quotes opening ≤ length remainder → StepFits 1 text (opener mode kind opening len remainder)
opener_fits mode OfFString opening len remainder text some inside quotes = token_fits (len + more_quotes opening) (FStringStart opening) text (omega arith) (omega arith)
opener_fits mode OfText opening len remainder text some inside quotes = literal_fits mode OfText opening (len + more_quotes opening) (drop (more_quotes opening) remainder) text (omega arith) (omega (arith, length-drop (more_quotes opening) remainder))
opener_fits mode OfBytes opening len remainder text some inside quotes = literal_fits mode OfBytes opening (len + more_quotes opening) (drop (more_quotes opening) remainder) text (omega arith) (omega (arith, length-drop (more_quotes opening) remainder))

-- Texts of f-strings

chunk_by_fits : (opening : Opening) (text : Text) (body : Body) (stop : Stop) → body_len body ≤ length text → StopFits opening (drop (body_len body) text) stop → StepFits 1 text (chunk_by opening text body stop)
chunk_by_fits opening text body OpeningBrace fits stop = record { some = omega arith; inside = omega (arith, length-drop (body_len body) text); sort = refl }
chunk_by_fits opening text body Closing fits stop =
    let some = some_quotes opening in
    record { some = omega arith; inside = omega (arith, length-drop (body_len body) text); sort = refl }
chunk_by_fits opening text body ClosingBrace fits stop = record { order = omega arith; inside = omega (arith, length-drop (body_len body) text) }
chunk_by_fits opening text body (BadEscape read last) fits stop =
    let less = stop.1 in
    let within = stop.2 in
    record { order = omega arith; inside = omega (arith, length-drop (body_len body) text) }
chunk_by_fits opening text body Line fits stop = let some = stop.0 in record { order = omega arith; inside = omega (arith, length-drop (body_len body) text) }
chunk_by_fits opening text body Ended fits stop = record { order = omega arith; inside = omega arith }

chunk_fits : (opening : Opening) (text : Text) → StepFits 1 text (chunk opening text)
unfolding chunk
chunk_fits opening text =
    let fits = body_fits (record { kind = OfFString; opening = opening }) text in
    chunk_by_fits opening text (body_at (record { kind = OfFString; opening = opening }) text) _ fits.0 fits.1

-- Words

word_step_fits : (s : Situation) (class : Class) (front remainder text : Text) → 1 ≤ length front → length front + length remainder ≤ length text → StepFits 1 text (word_step s class front remainder)
word_step_fits s word.Skipped front remainder text some inside = record { some = some; inside = omega arith; sort = refl }
word_step_fits s word.Comment front remainder text some inside = token_fits (length front) _ text some (omega arith)
word_step_fits s word.Tabs front remainder text some inside = record { order = omega arith; inside = omega arith }
word_step_fits s word.LineEnd front remainder text some inside =
    let margin = margin_fits remainder in
    either (StepFits 1 text) (counts s.mode s.is_balanced) _ _ (margin_step_fits 1 (length front) _ s.levels (margin_of remainder) text some (omega arith)) (record { some = some; inside = omega arith; sort = refl })
word_step_fits s (word.Opener kind is_raw quote) front remainder text some inside = opener_fits s.mode kind (opening_of is_raw quote remainder) (length front) remainder text some inside (quotes_fit is_raw quote remainder)
word_step_fits s word.Reserved front remainder text some inside = record { order = omega arith; inside = omega arith }
word_step_fits s word.Identifier front remainder text some inside = token_fits (length front) _ text some (omega arith)
word_step_fits s word.Decimal front remainder text some inside = either (StepFits 1 text) (starts_zero front) _ _ (record { order = omega arith; inside = omega arith }) (token_fits (length front) _ text some (omega arith))
word_step_fits s word.Hexadecimal front remainder text some inside = token_fits (length front) _ text some (omega arith)
word_step_fits s word.Octal front remainder text some inside = token_fits (length front) _ text some (omega arith)
word_step_fits s word.Binary front remainder text some inside = token_fits (length front) _ text some (omega arith)
word_step_fits s word.Float front remainder text some inside = token_fits (length front) _ text some (omega arith)
word_step_fits s (word.Fixed terminal) front remainder text some inside = token_fits (length front) _ text some (omega arith)

front_step_fits : (table : Table) (s : Situation) (text : Text) (found : Option (Class × ℕ)) → longest_front (class_in table) text ≡ found → StepFits 1 text (front_step s text found)
front_step_fits table s text None e = record { order = omega arith; inside = character_fits text }
front_step_fits table s text (Some front) e =
    let sound = front_sound (class_in table) text front.0 front.1 e in
    let some = sound.0 in
    let inside = sound.1 in
    let taken : length (take front.1 text) ≡ front.1 = length-take-le front.1 text inside in
    word_step_fits s front.0 (take front.1 text) (drop front.1 text) text (omega arith) (omega (arith, length-drop front.1 text))

in_code_fits : (table : Table) (s : Situation) (text : Text) → StepFits 1 text (in_code table s text)
in_code_fits table s [] = refl
in_code_fits table s (b ∷ bs) =
    either (StepFits 1 (b ∷ bs)) (takes_bang s.mode s.before && is_bang (b ∷ bs)) _ _ (token_fits 1 FStringBang (b ∷ bs) (omega arith) (omega arith)) (front_step_fits table s (b ∷ bs) _ refl)

by_place_fits : (table : Table) (s : Situation) (mode : Mode) (text : Text) → StepFits 1 text (by_mode table s mode text)
by_place_fits table s Outside text = in_code_fits table s text
by_place_fits table s (InText opening) text = chunk_fits opening text
by_place_fits table s AtTop text = in_code_fits table s text
by_place_fits table s Deeper text = in_code_fits table s text

-- the least length of a piece by what stands before it
abbrev pub least_len : Before → ℕ
least_len Nothing = 0
least_len before = 1

by_before_fits : (table : Table) (s : Situation) (before : Before) (text : Text) → StepFits (least_len before) text (by_before table s before text)
by_before_fits table s Nothing text = margin_step_fits 0 0 [] s.levels (margin_of text) text (omega arith) (let fits = margin_fits text in omega arith)
by_before_fits table s Layout text = by_place_fits table s s.mode text
by_before_fits table s Gap text = by_place_fits table s s.mode text
by_before_fits table s Other text = by_place_fits table s s.mode text

pub step_fits : (table : Table) (s : Situation) (text : Text) → StepFits (least_len s.before) text (step_at table s text)
unfolding step_at
step_fits table s text = by_before_fits table s s.before text
