-- Indents and dedents, and how many lexemes there are.
use Rattle.std.proofs.Common.{◌≡◌, ℕ, zero, suc, ◌+◌, ◌-◌, ◌*◌, ◌≤◌, ◌<◌, Bool, true, false, cond, not, List, [], ◌∷◌, ◌++◌, length, take, drop, refl, ap, ◌∙◌, sym, subst, Option, Some, None, arith, nat_eq, nat_lt, ◌⊎◌, inl, inr, append-nil, one-add}
use Rattle.std.specs.Prelude.{⊤, ◌&&◌, if◌then◌else◌, count_by, sum_by, map, replicate, option_to_list, take_while}
use Rattle.std.specs.List.{prefix_len}
use Rattle.std.specs.Str.{byte}
use Rattle.std.proofs.lemmas.Bool.{and_parts, ltb-true}
use Rattle.std.proofs.lemmas.List.{length-append, length-map, length-replicate, length-take-le}
use Rattle.std.proofs.lemmas.List.Folds.{sum_by-replicate}
use Rattle.std.proofs.lemmas.List.Sums.{sum_by-cons, sum_by-append, count_by-le-length}
use Rattle.starlark_grammar.specs.Words as word
use Rattle.starlark_grammar.specs.Words.{Text, Quote, Kind, OfText, OfBytes, OfFString, Terminal, Class, Table, class_in}
use Rattle.starlark_grammar.specs.Front.{longest_front}
use Rattle.starlark_grammar.specs.Tokens.{Token, Opening, Fault, Spanned, Lexeme, moved, Indent, Dedent, Newline, Outcome, FStringBang, FStringEnd, FStringExprStart, FStringStart}
use Rattle.starlark_grammar.specs.Items.{Stop, Closing, Line, Ended, OpeningBrace, ClosingBrace, BadEscape, Literal, Found, Goes, Stops, found_at, Body, body_onward, body_from, body_at, body_len, body_value, closing_quotes}
use Rattle.starlark_grammar.specs.Depths.{Mode, Outside, InText, AtTop, Deeper}
use Rattle.starlark_grammar.specs.Margins.{lines, is_comment_only, comment_of, comments_from, comment_lines, Margin, margin_of, margin_len, is_content, has_tab, width_of, fits, is_widest, indentation, open_widths}
use Rattle.starlark_grammar.specs.Pieces.{Before, Nothing, Layout, Gap, Other, Piece, Step, Stands, Fails, Situation, token, margin_step, first_margin, line_end, opening_of, more_quotes, escape_fault, literal_token, literal_by, literal, opener, chunk_text, chunk_piece, chunk_by, chunk, terminal_token, counts, starts_zero, word_step, front_step, takes_bang, is_bang, in_code, by_mode, by_before, step_at}
use Rattle.starlark_grammar.specs.Reading.{History, situation, next_step, read}
use Rattle.starlark_grammar.specs.Laws.{is_indent, is_dedent, indents, dedents}
use Rattle.starlark_grammar.proofs.ClosingQuotes.{some_quotes}
use Rattle.starlark_grammar.proofs.Words.Fronts.{front_sound}
use Rattle.starlark_grammar.proofs.Literals.Bodies.{FoundFits, found_fits}
use Rattle.starlark_grammar.proofs.Reading.Steps.{Each}
use Rattle.starlark_grammar.proofs.Indentation.Widths.{indent_len, dedent_len}
use Rattle.starlark_grammar.proofs.Choices.{either}

abbrev pub levels_len : List ℕ → ℕ
levels_len widths = length (open_widths widths)

-- what a piece does to the open widths, and how many lexemes it has
pub record Balances (widths : List ℕ) (piece : Piece) : Type 0 where
  pub few : dedents piece.lexemes ≤ levels_len widths
  pub total : dedents piece.lexemes + levels_len (widths ++ option_to_list piece.width) ≡ indents piece.lexemes + levels_len widths
  pub bytes : length piece.lexemes ≤ piece.len + dedents piece.lexemes
  pub wide : indents piece.lexemes ≤ piece.len

abbrev pub StepBalances : List ℕ → Step → Type 0
StepBalances widths = Each (Balances widths) (λ fault. ⊤)

-- a piece without indents, dedents and a width
quiet : (widths : List ℕ) (len : ℕ) (lexemes : List Lexeme) (sort : Before) → dedents lexemes ≡ 0 → indents lexemes ≡ 0 → length lexemes ≤ len → Balances widths (record { len = len; lexemes = lexemes; width = None; sort = sort })
quiet widths len lexemes sort none neither inside =
    let same : levels_len (widths ++ []) ≡ levels_len widths = ap (λ ws. levels_len ws) (append-nil widths) in
    record { few = omega (arith, none); total = omega (arith, none, neither, same); bytes = omega (arith, inside); wide = omega (arith, neither) }

token_quiet : (widths : List ℕ) (len : ℕ) (node : Token) → 1 ≤ len → is_dedent node ≡ false → is_indent node ≡ false → StepBalances widths (token len node)
token_quiet widths len node some none neither = quiet widths len _ Other (rw none refl) (rw neither refl) some

-- Margins

pub count-moved : (test : Token → Bool) (n : ℕ) (lexemes : List Lexeme) → count_by (λ (lexeme : Lexeme). test lexeme.node) (map (moved n) lexemes) ≡ count_by (λ (lexeme : Lexeme). test lexeme.node) lexemes
count-moved test n [] = refl
count-moved test n (lexeme ∷ lexemes) =
    let left = sum_by-cons (λ (lexeme : Lexeme). cond (test lexeme.node) 1 0) (moved n lexeme) (map (moved n) lexemes) in
    let right = sum_by-cons (λ (lexeme : Lexeme). cond (test lexeme.node) 1 0) lexeme lexemes in
    left ∙ ap (λ k. cond (test lexeme.node) 1 0 + k) (count-moved test n lexemes) ∙ sym right

comments_quiet : (test : Token → Bool) → ((text : Text) → test (Rattle.starlark_grammar.specs.Tokens.Comment text) ≡ false) → (at : ℕ) (ls : List Text) → count_by (λ (lexeme : Lexeme). test lexeme.node) (comments_from at ls) ≡ 0
comments_quiet test h at [] = refl
comments_quiet test h at (line ∷ more) = sum_by-cons (λ (lexeme : Lexeme). cond (test lexeme.node) 1 0) (comment_of at line) (comments_from (at + length line) more) ∙ rw (h _, comments_quiet test h (at + length line) more) refl

comments_len : (at : ℕ) (ls : List Text) → length (comments_from at ls) ≡ length ls
comments_len at [] = refl
comments_len at (line ∷ more) = ap suc (comments_len (at + length line) more)

comment_some : (line : Text) → is_comment_only line ≡ true → 1 ≤ length line
comment_some [] h = cc
comment_some (b ∷ bs) h = omega arith

-- a comment-only line has a byte
some_each : (ls : List Text) → length (take_while is_comment_only ls) ≤ sum_by (λ (line : Text). length line) (take_while is_comment_only ls)
some_each [] = omega arith
some_each (line ∷ more) = go (is_comment_only line) refl (some_each more)
  where
    go : (passes : Bool) → is_comment_only line ≡ passes → length (take_while is_comment_only more) ≤ sum_by (λ (line : Text). length line) (take_while is_comment_only more)
        → length (take (cond passes (1 + prefix_len is_comment_only more) 0) (line ∷ more)) ≤ sum_by (λ (line : Text). length line) (take (cond passes (1 + prefix_len is_comment_only more) 0) (line ∷ more))
    go false e rest = omega arith
    go true e rest =
        let some = comment_some line e in
        let whole = sum_by-cons (λ (line : Text). length line) line (take_while is_comment_only more) in
        rw one-add (omega (arith, some, whole, rest))

pub record MarginIsQuiet (margin : Margin) : Type 0 where
  pub none : dedents margin.comments ≡ 0
  pub neither : indents margin.comments ≡ 0
  pub inside : length margin.comments ≤ margin.at

pub margin_quiet : (text : Text) → MarginIsQuiet (margin_of text)
unfolding margin_of
margin_quiet text =
    let each = some_each (lines text) in
    let len = comments_len 0 (comment_lines text) in
    record {
      none = comments_quiet is_dedent (λ text. refl) 0 (comment_lines text);
      neither = comments_quiet is_indent (λ text. refl) 0 (comment_lines text);
      inside = omega (arith, each, len);
    }

-- the lexemes of a line end that counts, or none
record EndIsQuiet (len : ℕ) (before : List Lexeme) : Type 0 where
  none : dedents before ≡ 0
  neither : indents before ≡ 0
  inside : length before ≤ len

layout_balances : (widths : List ℕ) (len : ℕ) (before : List Lexeme) (margin : Margin) (more : List Lexeme) (width : Option ℕ)
    → EndIsQuiet len before → MarginIsQuiet margin
    → dedents more ≤ levels_len widths → dedents more + levels_len (widths ++ option_to_list width) ≡ indents more + levels_len widths
    → length more ≤ length margin.blanks + dedents more → indents more ≤ length margin.blanks
    → Balances widths (record { len = len + margin_len margin; lexemes = before ++ map (moved len) (margin.comments ++ more); width = width; sort = Layout })
layout_balances widths len before margin more width end quiet_margin few total bytes wide =
    let count : (test : Token → Bool) → count_by (λ (lexeme : Lexeme). test lexeme.node) (before ++ map (moved len) (margin.comments ++ more)) ≡ count_by (λ (lexeme : Lexeme). test lexeme.node) before + (count_by (λ (lexeme : Lexeme). test lexeme.node) margin.comments + count_by (λ (lexeme : Lexeme). test lexeme.node) more) =
    λ test. sum_by-append (λ (lexeme : Lexeme). cond (test lexeme.node) 1 0) before (map (moved len) (margin.comments ++ more))
    ∙ ap (λ k. count_by (λ (lexeme : Lexeme). test lexeme.node) before + k) (count-moved test len (margin.comments ++ more) ∙ sum_by-append (λ (lexeme : Lexeme). cond (test lexeme.node) 1 0) margin.comments more) in
    let all_dedents = count is_dedent in
    let all_indents = count is_indent in
    let all_len : length (before ++ map (moved len) (margin.comments ++ more)) ≡ length before + (length margin.comments + length more) =
    length-append before (map (moved len) (margin.comments ++ more)) ∙ ap (λ k. length before + k) (length-map (margin.comments ++ more) (moved len) ∙ length-append margin.comments more) in
    let none = end.none in
    let neither = end.neither in
    let end_inside = end.inside in
    let no_dedents = quiet_margin.none in
    let no_indents = quiet_margin.neither in
    let margin_inside = quiet_margin.inside in
    record {
      few = omega (arith, all_dedents, none, no_dedents, few);
      total = omega (arith, all_dedents, all_indents, none, neither, no_dedents, no_indents, total);
      bytes = omega (arith, all_len, all_dedents, none, no_dedents, end_inside, margin_inside, bytes);
      wide = omega (arith, all_indents, neither, no_indents, wide);
    }

margin_step_balances : (widths : List ℕ) (len : ℕ) (before : List Lexeme) (margin : Margin) → EndIsQuiet len before → MarginIsQuiet margin → StepBalances widths (margin_step len before (open_widths widths) margin)
unfolding margin_step indentation
margin_step_balances widths len before margin end quiet_margin =
    either (StepBalances widths) (not (is_content margin.remainder)) _ _
    (let same : levels_len (widths ++ []) ≡ levels_len widths = ap (λ ws. levels_len ws) (append-nil widths) in layout_balances widths len before margin [] None end quiet_margin (omega arith) (omega (arith, same)) (omega arith) (omega arith))
    (either (StepBalances widths) (has_tab margin) _ _ tt
    (fitting (fits (width_of margin) (open_widths widths)) refl (nat_lt 0 (width_of margin) && is_widest (width_of margin) (open_widths widths)) refl))
  where
    w : ℕ
    w = width_of margin

    indent : Lexeme
    indent = record { begin = margin.at; node = Indent; end = margin_len margin }

    dedent : Lexeme
    dedent = record { begin = margin.at; node = Dedent; end = margin.at }

    layout : List Lexeme → Option ℕ → Piece
    layout more width = record { len = len + margin_len margin; lexemes = before ++ map (moved len) (margin.comments ++ more); width = width; sort = Layout }

    fitting : (fit : Bool) → fits w (open_widths widths) ≡ fit → (widest : Bool) → (nat_lt 0 w && is_widest w (open_widths widths)) ≡ widest
        → StepBalances widths (if fit then Stands (layout (if widest then indent ∷ [] else replicate (count_by (nat_lt w) (open_widths widths)) dedent) (Some w)) else Fails (record { begin = 0; node = Rattle.starlark_grammar.specs.Tokens.Indentation; end = len + margin_len margin }))
    fitting false e widest f = tt
    fitting true e true f =
        let grown = indent_len widths w f in
        let parts = and_parts (nat_lt 0 w) (is_widest w (open_widths widths)) f in
        let some : 0 < w = ltb-true 0 w parts.0 in
        let spaces = count_by-le-length (nat_eq (byte " ")) margin.blanks in
        layout_balances widths len before margin (indent ∷ []) (Some w) end quiet_margin (omega arith) (omega (arith, grown)) (omega (arith, some, spaces)) (omega (arith, some, spaces))
    fitting true e false f =
        let k : ℕ = count_by (nat_lt w) (open_widths widths) in
        let closed = dedent_len widths w e f in
        let most = count_by-le-length (nat_lt w) (open_widths widths) in
        let each : dedents (replicate k dedent) ≡ k * 1 = sum_by-replicate (λ (lexeme : Lexeme). cond (is_dedent lexeme.node) 1 0) k dedent in
        let none : indents (replicate k dedent) ≡ k * 0 = sum_by-replicate (λ (lexeme : Lexeme). cond (is_indent lexeme.node) 1 0) k dedent in
        let len_of = length-replicate k dedent in
        layout_balances widths len before margin (replicate k dedent) (Some w) end quiet_margin (omega (arith, each, most)) (omega (arith, each, none, closed)) (omega (arith, each, len_of)) (omega (arith, none))

-- Literals and words

literal_by_balances : (widths : List ℕ) (mode : Mode) (kind : Kind) (opening : Opening) (len : ℕ) (remainder : Text) (body : Body) (stop : Stop) → 1 ≤ len → StepBalances widths (literal_by mode kind opening len remainder body stop)
literal_by_balances widths mode OfText opening len remainder body Closing some = token_quiet widths _ (literal_token OfText (body_value body)) (omega arith) refl refl
literal_by_balances widths mode OfBytes opening len remainder body Closing some = token_quiet widths _ (literal_token OfBytes (body_value body)) (omega arith) refl refl
literal_by_balances widths mode OfFString opening len remainder body Closing some = token_quiet widths _ (literal_token OfFString (body_value body)) (omega arith) refl refl
literal_by_balances widths mode kind opening len remainder body (BadEscape read last) some = go (len + body_len body) (drop 1 (take read (drop (body_len body) remainder)))
  where
    go : (begin : ℕ) (text : Text) → StepBalances widths (escape_fault begin text)
    go begin [] = tt
    go begin (b ∷ bs) = tt
literal_by_balances widths mode kind opening len remainder body Line some = tt
literal_by_balances widths mode kind opening len remainder body Ended some = tt
literal_by_balances widths mode kind opening len remainder body OpeningBrace some = tt
literal_by_balances widths mode kind opening len remainder body ClosingBrace some = tt

literal_balances : (widths : List ℕ) (mode : Mode) (kind : Kind) (opening : Opening) (len : ℕ) (remainder : Text) → 1 ≤ len → StepBalances widths (literal mode kind opening len remainder)
literal_balances widths mode kind opening len remainder some = literal_by_balances widths mode kind opening len remainder (body_at (record { kind = kind; opening = opening }) remainder) _ some

opener_balances : (widths : List ℕ) (mode : Mode) (kind : Kind) (opening : Opening) (len : ℕ) (remainder : Text) → 1 ≤ len → StepBalances widths (opener mode kind opening len remainder)
opener_balances widths mode OfFString opening len remainder some = token_quiet widths _ (FStringStart opening) (omega arith) refl refl
opener_balances widths mode OfText opening len remainder some = literal_balances widths mode OfText opening (len + more_quotes opening) (drop (more_quotes opening) remainder) (omega arith)
opener_balances widths mode OfBytes opening len remainder some = literal_balances widths mode OfBytes opening (len + more_quotes opening) (drop (more_quotes opening) remainder) (omega arith)

terminal_quiet : (mode : Mode) (terminal : Terminal) → (is_dedent (terminal_token mode terminal) ≡ false) × (is_indent (terminal_token mode terminal) ≡ false)
terminal_quiet AtTop word.ClosingCurly = (refl, refl)
terminal_quiet mode terminal = (refl, refl)

end_quiet : (len : ℕ) → 1 ≤ len → EndIsQuiet len (record { begin = 0; node = Newline; end = len } ∷ [])
end_quiet len some = record { none = refl; neither = refl; inside = some }

word_step_balances : (widths : List ℕ) (s : Situation) (class : Class) (front remainder : Text) → s.levels ≡ open_widths widths → 1 ≤ length front → StepBalances widths (word_step s class front remainder)
word_step_balances widths s word.Skipped front remainder e some = quiet widths (length front) [] Gap refl refl (omega arith)
word_step_balances widths s word.Comment front remainder e some = token_quiet widths (length front) _ some refl refl
word_step_balances widths s word.Tabs front remainder e some = tt
word_step_balances widths s word.LineEnd front remainder e some =
    either (StepBalances widths) (counts s.mode s.is_balanced) _ _
    (subst (λ (levels : List ℕ). StepBalances widths (line_end (length front) levels remainder)) (sym e) (margin_step_balances widths (length front) (record { begin = 0; node = Newline; end = length front } ∷ []) (margin_of remainder) (end_quiet (length front) some) (margin_quiet remainder)))
    (quiet widths (length front) [] Other refl refl (omega arith))
word_step_balances widths s (word.Opener kind is_raw quote) front remainder e some = opener_balances widths s.mode kind (opening_of is_raw quote remainder) (length front) remainder some
word_step_balances widths s word.Reserved front remainder e some = tt
word_step_balances widths s word.Identifier front remainder e some = token_quiet widths (length front) _ some refl refl
word_step_balances widths s word.Decimal front remainder e some = either (StepBalances widths) (starts_zero front) _ _ tt (token_quiet widths (length front) _ some refl refl)
word_step_balances widths s word.Hexadecimal front remainder e some = token_quiet widths (length front) _ some refl refl
word_step_balances widths s word.Octal front remainder e some = token_quiet widths (length front) _ some refl refl
word_step_balances widths s word.Binary front remainder e some = token_quiet widths (length front) _ some refl refl
word_step_balances widths s word.Float front remainder e some = token_quiet widths (length front) _ some refl refl
word_step_balances widths s (word.Fixed terminal) front remainder e some = let both = terminal_quiet s.mode terminal in token_quiet widths (length front) (terminal_token s.mode terminal) some both.0 both.1

-- Texts of f-strings

-- a body of no bytes denotes nothing
abbrev HasText : Body → Type 0
HasText body = (1 ≤ body_len body) ⊎ (body_value body ≡ [])

has_text : (literal : Literal) (passed : ℕ) (text : Text) → HasText (body_from literal passed text)
unfolding body_from
has_text literal zero [] = inr refl
has_text literal (suc passed) [] = inr refl
has_text literal (suc passed) (b ∷ bs) = has_text literal passed bs
has_text literal zero (b ∷ bs) = go (found_at literal (b ∷ bs)) (found_fits literal (b ∷ bs))
  where
    go : (found : Found) → FoundFits literal.opening (b ∷ bs) found → HasText (body_onward found (λ passed. body_from literal passed bs))
    go (Stops stop) fits = inr refl
    go (Goes item) fits =
        let some = fits.0 in
        let whole = sum_by-cons (λ (item : Rattle.starlark_grammar.specs.Items.Item). item.len) item (body_from literal (item.len - 1) bs).items in
        inl (omega (arith, some, whole))

chunk_text_len : (len : ℕ) (value : Text) → (1 ≤ len) ⊎ (value ≡ []) → length (chunk_text len value) ≤ len
chunk_text_len len [] h = omega arith
chunk_text_len len (b ∷ bs) (inl some) = some
chunk_text_len len (b ∷ bs) (inr none) = cc

chunk_text_quiet : (len : ℕ) (value : Text) → (dedents (chunk_text len value) ≡ 0) × (indents (chunk_text len value) ≡ 0)
chunk_text_quiet len [] = (refl, refl)
chunk_text_quiet len (b ∷ bs) = (refl, refl)

chunk_piece_balances : (widths : List ℕ) (body : Body) (node : Token) (len : ℕ) → 1 ≤ len → HasText body → is_dedent node ≡ false → is_indent node ≡ false → StepBalances widths (chunk_piece body node len)
chunk_piece_balances widths body node len some has none neither =
    let text : List Lexeme = chunk_text (body_len body) (body_value body) in
    let stop : Lexeme = record { begin = body_len body; node = node; end = body_len body + len } in
    let text_len = chunk_text_len (body_len body) (body_value body) has in
    let text_quiet = chunk_text_quiet (body_len body) (body_value body) in
    let no_dedents : dedents (stop ∷ []) ≡ 0 = rw none refl in
    let no_indents : indents (stop ∷ []) ≡ 0 = rw neither refl in
    let all_dedents = sum_by-append (λ (lexeme : Lexeme). cond (is_dedent lexeme.node) 1 0) text (stop ∷ []) in
    let all_indents = sum_by-append (λ (lexeme : Lexeme). cond (is_indent lexeme.node) 1 0) text (stop ∷ []) in
    let all_len = length-append text (stop ∷ []) in
    let first = text_quiet.0 in
    let second = text_quiet.1 in
    quiet widths (body_len body + len) (text ++ stop ∷ []) Other (omega (arith, all_dedents, no_dedents, first)) (omega (arith, all_indents, no_indents, second)) (omega (arith, all_len, text_len, some))

chunk_by_balances : (widths : List ℕ) (opening : Opening) (text : Text) (body : Body) (stop : Stop) → HasText body → StepBalances widths (chunk_by opening text body stop)
chunk_by_balances widths opening text body OpeningBrace has = chunk_piece_balances widths body FStringExprStart 1 (omega arith) has refl refl
chunk_by_balances widths opening text body Closing has = chunk_piece_balances widths body FStringEnd (length (closing_quotes opening)) (some_quotes opening) has refl refl
chunk_by_balances widths opening text body ClosingBrace has = tt
chunk_by_balances widths opening text body (BadEscape read last) has = tt
chunk_by_balances widths opening text body Line has = tt
chunk_by_balances widths opening text body Ended has = tt

chunk_balances : (widths : List ℕ) (opening : Opening) (text : Text) → StepBalances widths (chunk opening text)
unfolding chunk body_at
chunk_balances widths opening text = chunk_by_balances widths opening text (body_at (record { kind = OfFString; opening = opening }) text) _ (has_text (record { kind = OfFString; opening = opening }) 0 text)

-- Steps

front_step_balances : (widths : List ℕ) (table : Table) (s : Situation) (text : Text) (found : Option (Class × ℕ)) → s.levels ≡ open_widths widths → longest_front (class_in table) text ≡ found → StepBalances widths (front_step s text found)
front_step_balances widths table s text None e f = tt
front_step_balances widths table s text (Some front) e f =
    let sound = front_sound (class_in table) text front.0 front.1 f in
    let some = sound.0 in
    let taken : length (take front.1 text) ≡ front.1 = length-take-le front.1 text sound.1 in
    word_step_balances widths s front.0 (take front.1 text) (drop front.1 text) e (omega (arith, taken, some))

in_code_balances : (widths : List ℕ) (table : Table) (s : Situation) (text : Text) → s.levels ≡ open_widths widths → StepBalances widths (in_code table s text)
in_code_balances widths table s [] e = tt
in_code_balances widths table s (b ∷ bs) e =
    either (StepBalances widths) (takes_bang s.mode s.before && is_bang (b ∷ bs)) _ _ (token_quiet widths 1 FStringBang (omega arith) refl refl) (front_step_balances widths table s (b ∷ bs) _ e refl)

by_mode_balances : (widths : List ℕ) (table : Table) (s : Situation) (mode : Mode) (text : Text) → s.levels ≡ open_widths widths → StepBalances widths (by_mode table s mode text)
by_mode_balances widths table s Outside text e = in_code_balances widths table s text e
by_mode_balances widths table s (InText opening) text e = chunk_balances widths opening text
by_mode_balances widths table s AtTop text e = in_code_balances widths table s text e
by_mode_balances widths table s Deeper text e = in_code_balances widths table s text e

by_before_balances : (widths : List ℕ) (table : Table) (s : Situation) (before : Before) (text : Text) → s.levels ≡ open_widths widths → StepBalances widths (by_before table s before text)
by_before_balances widths table s Nothing text e =
    subst (λ (levels : List ℕ). StepBalances widths (first_margin levels text)) (sym e) (margin_step_balances widths 0 [] (margin_of text) (record { none = refl; neither = refl; inside = omega arith }) (margin_quiet text))
by_before_balances widths table s Layout text e = by_mode_balances widths table s s.mode text e
by_before_balances widths table s Gap text e = by_mode_balances widths table s s.mode text e
by_before_balances widths table s Other text e = by_mode_balances widths table s s.mode text e

pub piece_balances : (table : Table) (history : History) (text : Text) (piece : Piece) → next_step table history text ≡ Stands piece → Balances history.widths piece
unfolding next_step situation step_at
piece_balances table history text piece e = subst (StepBalances history.widths) e (by_before_balances history.widths table (situation history) history.before text refl)
