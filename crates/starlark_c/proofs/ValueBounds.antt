-- A text's values, with the text that its fault names, have no more bytes than the text.
use Rattle.std.proofs.Common.{◌≡◌, ℕ, zero, suc, ◌+◌, ◌≤◌, not, List, [], ◌∷◌, ◌++◌, map, length, take, drop, take_while, replicate, sum_by, refl, ap, subst, arith, Option, Some, None, nat_eq, length-append, length-drop}
use Rattle.std.specs.Prelude.{⊤, ◌&&◌, ◌==◌, nat_lt}
use Rattle.std.proofs.lemmas.List.{length-map, length-take}
use Rattle.std.proofs.lemmas.List.Sums.{sum_by-cons}
use Rattle.std.specs.Char.{to_ascii_lowercase}
use Rattle.std.specs.List.{prefix_len}
use Rattle.std.specs.Str.{byte}
use Rattle.std.specs.Str.Parse.{digits_value}
use Rattle.starlark_c.specs.Endings.{all_values, lexemes_of, named}
use Rattle.starlark_c.specs.Records.{fault_bytes, stored_bytes, token_bytes, value_bytes, values}
use Rattle.starlark_c.specs.TextParts.{part_in, stored}
use Rattle.starlark_c.proofs.ItemBounds.{body_short}
use Rattle.starlark_grammar.specs.Depths.{Mode, Outside, InText, AtTop, Deeper}
use Rattle.starlark_grammar.specs.Front.{longest_front}
use Rattle.starlark_grammar.specs.Items.{Stop, Closing, Line, Ended, OpeningBrace, ClosingBrace, BadEscape, Body, body_at, body_from, body_len, body_value, closing_quotes}
use Rattle.starlark_grammar.specs.Margins.{Margin, blanks_len, comment_lines, comment_part, comments_from, fits, has_tab, indentation, is_content, is_lf, is_widest, margin_of, open_widths, width_of, without_return}
use Rattle.starlark_grammar.specs.Numbers.{Big, Integer, Small, integer_of, is_negative, is_small, plain_digits, signed}
use Rattle.starlark_grammar.specs.Pieces.{Before, Nothing, Layout, Gap, Other, Piece, Step, Stands, Fails, Ends, Situation, by_before, by_mode, chunk, chunk_by, chunk_text, counts, escape_fault, front_step, in_code, is_bang, is_plain, literal, literal_by, literal_token, margin_step, more_quotes, opener, opening_of, starts_zero, step_at, takes_bang, terminal_token, token, unfinished, word_step}
use Rattle.starlark_grammar.specs.Longest.{IsLongestReading, IsReading}
use Rattle.starlark_grammar.specs.Reading.{History, after, after_all, closing, lexemes_along, next_step, nothing, outcome, outcome_in, outcome_of, pieces_len, read, situation}
use Rattle.starlark_grammar.specs.Tokens as grammar
use Rattle.starlark_grammar.specs.Tokens.{Fault, Lexeme, Opening, Spanned, Token, moved}
use Rattle.starlark_grammar.specs.Words.{Table, Text, class_in, language, sign_len, unsigned}
use Rattle.starlark_grammar.specs.declared.class.Class.{Class}
use Rattle.starlark_grammar.specs.declared.class.Class.TheVariants as word
use Rattle.starlark_grammar.specs.declared.class.LiteralKind.{LiteralKind as Kind}
use Rattle.starlark_grammar.specs.declared.class.LiteralKind.TheVariants.{Text as OfText, Bytes as OfBytes, FString as OfFString}
use Rattle.starlark_grammar.specs.declared.class.Terminal.{Terminal}
use Rattle.starlark_grammar.specs.declared.class.Terminal.TheVariants as terminal
use Rattle.starlark_grammar.proofs.Choices.{either}
use Rattle.starlark_grammar.proofs.Lists.{take_fits}
use Rattle.starlark_grammar.proofs.Literals.Bodies.{character_fits}
use Rattle.starlark_grammar.proofs.Reading.Readings.{read_is, reading_fits}
use Rattle.starlark_grammar.proofs.Reading.Steps.{margin_fits}
use Rattle.starlark_token.specs.Lexemes.{shown, shown_lexeme}
use Rattle.starlark_token.specs.TokenViews.{Whole}

-- how many bytes the values of lexemes have
abbrev size : List Lexeme → ℕ
size [] = 0
size (lexeme ∷ lexemes) = length (token_bytes lexeme.node) + size lexemes

size_on : (xs ys : List Lexeme) → size (xs ++ ys) ≡ size xs + size ys
size_on [] ys = omega arith
size_on (x ∷ xs) ys = omega (arith, size_on xs ys)

size_moved : (n : ℕ) (xs : List Lexeme) → size (map (moved n) xs) ≡ size xs
size_moved n [] = refl
size_moved n (x ∷ xs) = omega (arith, size_moved n xs)

-- lexemes without a value
size_same : (n : ℕ) (x : Lexeme) → length (token_bytes x.node) ≡ 0 → size (replicate n x) ≡ 0
size_same zero x none = refl
size_same (suc n) x none = omega (arith, none, size_same n x none)

-- A piece whose values have no more bytes than it, or a fault that names no more than there are.
abbrev StepShort : Text → Step → Type 0
StepShort text (Stands piece) = size piece.lexemes ≤ piece.len
StepShort text (Fails fault) = length (fault_bytes fault.node) ≤ length text
StepShort text Ends = ⊤

-- Margins

without_return_fits : (text : Text) → length (without_return text) ≤ length text
without_return_fits [] = omega arith
without_return_fits (b ∷ []) = either (λ (t : Text). length t ≤ 1) (b == byte "\r") [] (b ∷ []) (omega arith) (omega arith)
without_return_fits (b ∷ c ∷ bs) = omega (arith, without_return_fits (c ∷ bs))

comment_fits : (line : Text) → length (drop (suc (blanks_len line)) (comment_part line)) ≤ length line
comment_fits line =
    let front = take_while (λ b. not (is_lf b)) line in
    let cut = take_fits (prefix_len (λ b. not (is_lf b)) line) line in
    omega (arith, length-drop (suc (blanks_len line)) (comment_part line), without_return_fits front, cut.0)

comments_size : (at : ℕ) (lines : List Text) → size (comments_from at lines) ≤ sum_by (λ (line : Text). length line) lines
comments_size at [] = omega arith
comments_size at (line ∷ more) =
    omega (arith, comment_fits line, comments_size (at + length line) more, sum_by-cons (λ (line : Text). length line) line more)

margin_size : (text : Text) → size (margin_of text).comments ≤ (margin_of text).at
unfolding margin_of
margin_size text = comments_size 0 (comment_lines text)

indentation_size : (levels : List ℕ) (margin : Margin) → size (indentation levels margin) ≡ 0
unfolding indentation
indentation_size levels margin =
    either (λ (xs : List Lexeme). size xs ≡ 0) (nat_lt 0 (width_of margin) && is_widest (width_of margin) levels) _ _ refl (size_same _ _ refl)

layout_size : (len : ℕ) (line_end comments lexemes : List Lexeme) (at : ℕ) → size line_end ≡ 0 → size comments ≤ at → size lexemes ≡ 0 → size (line_end ++ map (moved len) (comments ++ lexemes)) ≤ at
layout_size len line_end comments lexemes at none few nothing =
    omega (arith, size_on line_end (map (moved len) (comments ++ lexemes)), size_moved len (comments ++ lexemes), size_on comments lexemes, none, few, nothing)

margin_step_short : (text : Text) (len : ℕ) (line_end : List Lexeme) (levels : List ℕ) (margin : Margin) → size line_end ≡ 0 → size margin.comments ≤ margin.at → StepShort text (margin_step len line_end levels margin)
unfolding margin_step fault_bytes
margin_step_short text len line_end levels margin none few =
    let P : Step → Type 0 = StepShort text in
    let bare : size (line_end ++ map (moved len) (margin.comments ++ [])) ≤ margin.at = layout_size len line_end margin.comments [] margin.at none few refl in
    let full : size (line_end ++ map (moved len) (margin.comments ++ indentation levels margin)) ≤ margin.at = layout_size len line_end margin.comments (indentation levels margin) margin.at none few (indentation_size levels margin) in
    either P (not (is_content margin.remainder)) _ _ (omega (arith, bare))
    (either P (has_tab margin) _ _ (omega arith)
    (either P (fits (width_of margin) levels) _ _ (omega (arith, full)) (omega arith)))

-- a fault of a margin names nothing
abbrev IsSilent : Step → Type 0
IsSilent (Fails fault) = length (fault_bytes fault.node) ≡ 0
IsSilent step = ⊤

margin_silent : (len : ℕ) (line_end : List Lexeme) (levels : List ℕ) (margin : Margin) → IsSilent (margin_step len line_end levels margin)
unfolding margin_step fault_bytes
margin_silent len line_end levels margin =
    either IsSilent (not (is_content margin.remainder)) _ _ tt
    (either IsSilent (has_tab margin) _ _ refl
    (either IsSilent (fits (width_of margin) levels) _ _ tt refl))

-- Literals

literal_value : (kind : Kind) (value : Text) → token_bytes (literal_token kind value) ≡ value
literal_value OfText value = refl
literal_value OfBytes value = refl
literal_value OfFString value = refl

unfinished_silent : (mode : Mode) (kind : Kind) (opening : Opening) (remainder : Text) → length (fault_bytes (unfinished mode kind opening remainder)) ≡ 0
unfolding fault_bytes
unfinished_silent Outside kind opening remainder = refl
unfinished_silent (InText inner) OfText opening remainder = either (λ (f : Fault). length (fault_bytes f) ≡ 0) (is_plain opening remainder) _ _ refl refl
unfinished_silent (InText inner) OfBytes opening remainder = refl
unfinished_silent (InText inner) OfFString opening remainder = refl
unfinished_silent AtTop OfText opening remainder = either (λ (f : Fault). length (fault_bytes f) ≡ 0) (is_plain opening remainder) _ _ refl refl
unfinished_silent AtTop OfBytes opening remainder = refl
unfinished_silent AtTop OfFString opening remainder = refl
unfinished_silent Deeper OfText opening remainder = either (λ (f : Fault). length (fault_bytes f) ≡ 0) (is_plain opening remainder) _ _ refl refl
unfinished_silent Deeper OfBytes opening remainder = refl
unfinished_silent Deeper OfFString opening remainder = refl

escape_fault_short : (begin : ℕ) (read text : Text) → length read ≤ length text → StepShort text (escape_fault begin read)
unfolding fault_bytes
escape_fault_short begin [] text fits = omega arith
escape_fault_short begin (b ∷ bs) text fits = fits

literal_by_short : (mode : Mode) (kind : Kind) (opening : Opening) (len : ℕ) (remainder text : Text) (body : Body) (stop : Stop) → length remainder ≤ length text → length (body_value body) ≤ body_len body → StepShort text (literal_by mode kind opening len remainder body stop)
literal_by_short mode kind opening len remainder text body Closing inside short = omega (arith, ap (λ (t : Text). length t) (literal_value kind (body_value body)), short)
literal_by_short mode kind opening len remainder text body (BadEscape read last) inside short =
    let taken = take_fits read (drop (body_len body) remainder) in
    escape_fault_short (len + body_len body) (drop 1 (take read (drop (body_len body) remainder))) text
    (omega (arith, length-drop (body_len body) remainder, length-drop 1 (take read (drop (body_len body) remainder)), taken.0, inside))
literal_by_short mode kind opening len remainder text body Line inside short = omega (arith, unfinished_silent mode kind opening remainder)
literal_by_short mode kind opening len remainder text body Ended inside short = omega (arith, unfinished_silent mode kind opening remainder)
literal_by_short mode kind opening len remainder text body OpeningBrace inside short = omega (arith, unfinished_silent mode kind opening remainder)
literal_by_short mode kind opening len remainder text body ClosingBrace inside short = omega (arith, unfinished_silent mode kind opening remainder)

literal_short : (mode : Mode) (kind : Kind) (opening : Opening) (len : ℕ) (remainder text : Text) → length remainder ≤ length text → StepShort text (literal mode kind opening len remainder)
literal_short mode kind opening len remainder text inside =
    let body = body_at (record { kind = kind; opening = opening }) remainder in
    literal_by_short mode kind opening len remainder text body body.stop inside (body_short (record { kind = kind; opening = opening }) remainder)

opener_short : (mode : Mode) (kind : Kind) (opening : Opening) (len : ℕ) (remainder text : Text) → length remainder ≤ length text → StepShort text (opener mode kind opening len remainder)
opener_short mode OfFString opening len remainder text inside = omega arith
opener_short mode OfText opening len remainder text inside = literal_short mode OfText opening (len + more_quotes opening) (drop (more_quotes opening) remainder) text (omega (arith, length-drop (more_quotes opening) remainder, inside))
opener_short mode OfBytes opening len remainder text inside = literal_short mode OfBytes opening (len + more_quotes opening) (drop (more_quotes opening) remainder) text (omega (arith, length-drop (more_quotes opening) remainder, inside))

-- Texts of f-strings

chunk_text_size : (len : ℕ) (value : Text) → size (chunk_text len value) ≡ length value
chunk_text_size len [] = refl
chunk_text_size len (b ∷ bs) = omega arith

chunk_by_short : (opening : Opening) (b : ℕ) (bs : Text) (body : Body) (stop : Stop) → length (body_value body) ≤ body_len body → StepShort (b ∷ bs) (chunk_by opening (b ∷ bs) body stop)
unfolding fault_bytes
chunk_by_short opening b bs body OpeningBrace short = omega (arith, size_on (chunk_text (body_len body) (body_value body)) (record { begin = body_len body; node = grammar.FStringExprStart; end = body_len body + 1 } ∷ []), chunk_text_size (body_len body) (body_value body), short)
chunk_by_short opening b bs body Closing short = omega (arith, size_on (chunk_text (body_len body) (body_value body)) (record { begin = body_len body; node = grammar.FStringEnd; end = body_len body + length (closing_quotes opening) } ∷ []), chunk_text_size (body_len body) (body_value body), short)
chunk_by_short opening b bs body ClosingBrace short = omega arith
chunk_by_short opening b bs body (BadEscape read last) short = omega arith
chunk_by_short opening b bs body Line short = omega arith
chunk_by_short opening b bs body Ended short = omega arith

chunk_short : (opening : Opening) (text : Text) → StepShort text (chunk opening text)
unfolding chunk body_at body_from fault_bytes
chunk_short opening [] = omega arith
chunk_short opening (b ∷ bs) =
    let body = body_at (record { kind = OfFString; opening = opening }) (b ∷ bs) in
    chunk_by_short opening b bs body body.stop (body_short (record { kind = OfFString; opening = opening }) (b ∷ bs))

-- Words

digits_fit : (digits : Text) → length (plain_digits digits) ≤ length digits
digits_fit digits = omega (arith, length-map (drop (prefix_len (nat_eq 48) digits) digits) to_ascii_lowercase, length-drop (prefix_len (nat_eq 48) digits) digits)

integer_fits : (base : ℕ) (text : Text) → length (token_bytes (grammar.Int (integer_of base text))) ≤ length text
unfolding integer_of
integer_fits base text =
    either (λ (n : Integer). length (token_bytes (grammar.Int n)) ≤ length text) (is_small (is_negative text) (digits_value base (unsigned text))) (Small (signed (is_negative text) (digits_value base (unsigned text)))) (Big (is_negative text) (plain_digits (unsigned text)) base) (omega arith)
    (omega (arith, digits_fit (unsigned text), length-drop (sign_len text) text))

terminal_silent : (mode : Mode) (symbol : Terminal) → length (token_bytes (terminal_token mode symbol)) ≡ 0
terminal_silent AtTop terminal.ClosingCurly = refl
terminal_silent mode symbol = refl

token_short : (text : Text) (len : ℕ) (node : Token) → length (token_bytes node) ≤ len → StepShort text (token len node)
token_short text len node short = omega (arith, short)

word_step_short : (s : Situation) (class : Class) (front remainder text : Text) → length front + length remainder ≤ length text → StepShort text (word_step s class front remainder)
unfolding fault_bytes
word_step_short s word.Skipped front remainder text inside = omega arith
word_step_short s word.Comment front remainder text inside = token_short text (length front) (grammar.Comment (drop 1 front)) (omega (arith, length-drop 1 front))
word_step_short s word.Tabs front remainder text inside = omega arith
word_step_short s word.LineEnd front remainder text inside =
    either (StepShort text) (counts s.mode s.is_balanced) _ _ (margin_step_short text (length front) _ s.levels (margin_of remainder) refl (margin_size remainder)) (omega arith)
word_step_short s (word.Opener kind is_raw quote) front remainder text inside = opener_short s.mode kind (opening_of is_raw quote remainder) (length front) remainder text (omega (arith, inside))
word_step_short s word.Reserved front remainder text inside = omega (arith, inside)
word_step_short s word.Identifier front remainder text inside = token_short text (length front) (grammar.Identifier front) (omega arith)
word_step_short s word.Decimal front remainder text inside = either (StepShort text) (starts_zero front) _ _ (omega (arith, inside)) (token_short text (length front) (grammar.Int (integer_of 10 front)) (integer_fits 10 front))
word_step_short s word.Hexadecimal front remainder text inside = token_short text (length front) (grammar.Int (integer_of 16 (drop 2 front))) (omega (arith, integer_fits 16 (drop 2 front), length-drop 2 front))
word_step_short s word.Octal front remainder text inside = token_short text (length front) (grammar.Int (integer_of 8 (drop 2 front))) (omega (arith, integer_fits 8 (drop 2 front), length-drop 2 front))
word_step_short s word.Binary front remainder text inside = token_short text (length front) (grammar.Int (integer_of 2 (drop 2 front))) (omega (arith, integer_fits 2 (drop 2 front), length-drop 2 front))
word_step_short s word.Float front remainder text inside = token_short text (length front) (grammar.Float front) (omega arith)
word_step_short s (word.Fixed symbol) front remainder text inside = token_short text (length front) (terminal_token s.mode symbol) (omega (arith, terminal_silent s.mode symbol))

front_step_short : (s : Situation) (text : Text) (found : Option (Class × ℕ)) → StepShort text (front_step s text found)
unfolding fault_bytes
front_step_short s text None = character_fits text
front_step_short s text (Some front) = word_step_short s front.0 (take front.1 text) (drop front.1 text) text (omega (arith, length-take front.1 text, length-drop front.1 text))

in_code_short : (table : Table) (s : Situation) (text : Text) → StepShort text (in_code table s text)
in_code_short table s [] = tt
in_code_short table s (b ∷ bs) =
    either (StepShort (b ∷ bs)) (takes_bang s.mode s.before && is_bang (b ∷ bs)) _ _ (omega arith) (front_step_short s (b ∷ bs) (longest_front (class_in table) (b ∷ bs)))

by_mode_short : (table : Table) (s : Situation) (mode : Mode) (text : Text) → StepShort text (by_mode table s mode text)
by_mode_short table s Outside text = in_code_short table s text
by_mode_short table s (InText opening) text = chunk_short opening text
by_mode_short table s AtTop text = in_code_short table s text
by_mode_short table s Deeper text = in_code_short table s text

by_before_short : (table : Table) (s : Situation) (before : Before) (text : Text) → StepShort text (by_before table s before text)
by_before_short table s Nothing text = margin_step_short text 0 [] s.levels (margin_of text) refl (margin_size text)
by_before_short table s Layout text = by_mode_short table s s.mode text
by_before_short table s Gap text = by_mode_short table s s.mode text
by_before_short table s Other text = by_mode_short table s s.mode text

step_short : (table : Table) (history : History) (text : Text) → StepShort text (next_step table history text)
unfolding next_step step_at
step_short table history text = by_before_short table (situation history) (situation history).before text

first_silent : (table : Table) (text : Text) → IsSilent (next_step table nothing text)
unfolding next_step step_at situation open_widths
first_silent table text = margin_silent 0 [] [] (margin_of text)

-- Readings

reading_short : (table : Table) (history : History) (text : Text) (pieces : List Piece) (at : ℕ) → IsReading table history text pieces → size (lexemes_along at pieces) ≤ pieces_len pieces
reading_short table history text [] at reads = omega arith
reading_short table history text (first ∷ pieces) at reads =
    let short = subst (StepShort text) reads.0 (step_short table history text) in
    let more = reading_short table (after history first) (drop first.len text) pieces (at + first.len) reads.1 in
    omega (
      arith,
      size_on (map (moved at) first.lexemes) (lexemes_along (at + first.len) pieces),
      size_moved at first.lexemes,
      short,
      more,
      sum_by-cons (λ (piece : Piece). piece.len) first pieces,
    )

closing_size : (at : ℕ) (history : History) → size (closing at history) ≡ 0
closing_size at history = omega (arith, size_same (length (open_widths history.widths)) (record { begin = at; node = grammar.Dedent; end = at }) refl)

-- what the lexemes of a text and its fault have
abbrev all_size : grammar.Outcome → ℕ
all_size found = size found.lexemes + length (named found.fault)

whole_size : (table : Table) (text : Text) (pieces : List Piece) → IsReading table nothing text pieces → size (lexemes_along 0 pieces ++ closing (pieces_len pieces) (after_all nothing pieces)) + 0 ≤ length text
whole_size table text pieces reads =
    omega (
      arith,
      size_on (lexemes_along 0 pieces) (closing (pieces_len pieces) (after_all nothing pieces)),
      closing_size (pieces_len pieces) (after_all nothing pieces),
      reading_short table nothing text pieces 0 reads,
      reading_fits table nothing text pieces reads,
    )

faulty_size : (table : Table) (text : Text) (pieces : List Piece) (fault : Spanned Fault) → IsLongestReading table nothing text pieces (Fails fault) → all_size (outcome_of text pieces (Fails fault)) ≤ length text
faulty_size table text [] fault longest =
    let silent : length (fault_bytes fault.node) ≡ 0 = subst IsSilent longest.stands_last (first_silent table text) in
    omega (arith, margin_size text, margin_fits text, silent)
faulty_size table text (first ∷ pieces) fault longest =
    let all = first ∷ pieces in
    let named : length (fault_bytes fault.node) ≤ length (drop (pieces_len all) text) =
    subst (StepShort (drop (pieces_len all) text)) longest.stands_last (step_short table (after_all nothing all) (drop (pieces_len all) text)) in
    omega (arith, reading_short table nothing text all 0 longest.reads, reading_fits table nothing text all longest.reads, named, length-drop (pieces_len all) text)

of_reading : (table : Table) (text : Text) (pieces : List Piece) (last : Step) → IsLongestReading table nothing text pieces last → all_size (outcome_of text pieces last) ≤ length text
of_reading table text pieces (Fails fault) longest = faulty_size table text pieces fault longest
of_reading table text pieces (Stands piece) longest = whole_size table text pieces longest.reads
of_reading table text pieces Ends longest = whole_size table text pieces longest.reads

outcome_size : (table : Table) (text : Text) → all_size (outcome_in table text) ≤ length text
unfolding outcome_in
outcome_size table text = of_reading table text (read table text).pieces (read table text).last (read_is table text)

shown_bytes : (token : Token) → value_bytes (Whole (shown token)) ≡ token_bytes token
unfolding value_bytes
shown_bytes (grammar.FStringStart opening) = refl
shown_bytes token = refl

stored_short : (part : Option ℕ) (bytes : Text) → length (stored part bytes) ≤ length bytes
stored_short None bytes = omega arith
stored_short (Some begin) bytes = omega arith

values_size : (home : Option Text) (xs : List Lexeme) → length (values home (map shown_lexeme xs)) ≤ size xs
unfolding values
values_size home [] = omega arith
values_size home (x ∷ xs) =
    omega (
      arith,
      length-append (stored_bytes home (shown_lexeme x)) (values home (map shown_lexeme xs)),
      stored_short (part_in home (shown_lexeme x)) (value_bytes (shown_lexeme x).node),
      ap (λ (t : Text). length t) (shown_bytes x.node),
      values_size home xs,
    )

-- all values of a text, and its lexemes, are bounded by its length
pub values_bound : (home : Option Text) (text : Text) → length (all_values home text) ≤ length text
unfolding outcome
values_bound home text =
    omega (arith, length-append (values home (lexemes_of text)) (named (outcome_in language text).fault), values_size home (outcome_in language text).lexemes, outcome_size language text)
