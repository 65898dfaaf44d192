-- Lexemes before a fault end before lexing begins again.
use Rattle.std.proofs.Common.{◌≡◌, ℕ, zero, suc, ◌+◌, ◌≤◌, Bool, true, false, not, List, [], ◌∷◌, ◌++◌, map, length, take, drop, refl, ap, sym, subst, ◌∙◌, arith, Option, Some, None, ◌⊎◌, inl, inr, nat_lt}
use Rattle.std.specs.List.{AllByRecursion}
use Rattle.std.specs.Prelude.{⊤, ◌&&◌, ◌||◌, ◌==◌, if◌then◌else◌, count_by, replicate}
use Rattle.std.proofs.lemmas.List.Sums.{sum_by-cons}
use Rattle.starlark_grammar.specs.declared.class.Class.TheVariants as word
use Rattle.starlark_grammar.specs.Words.{Text, class_in, language}
use Rattle.starlark_grammar.specs.declared.class.LiteralKind.{LiteralKind as Kind}
use Rattle.starlark_grammar.specs.declared.class.Class.{Class}
use Rattle.starlark_grammar.specs.declared.class.LiteralKind.TheVariants.{Text as OfText, Bytes as OfBytes, FString as OfFString}
use Rattle.starlark_grammar.specs.Front.{longest_front}
use Rattle.starlark_grammar.specs.Numbers.{integer_of}
use Rattle.starlark_grammar.specs.Tokens.{Token, Newline, Dedent, Int, Opening, Lexeme, moved, Fault, Indentation, InvalidTab, Outcome, Spanned, FStringBang, FStringEnd, FStringExprStart}
use Rattle.starlark_grammar.specs.Items.{Stop, Closing, Line, Ended, OpeningBrace, ClosingBrace, BadEscape, Body, body_at, body_len, body_value, closing_quotes}
use Rattle.starlark_grammar.specs.Depths.{Mode}
use Rattle.starlark_grammar.specs.Margins.{Margin, margin_of, margin_len, is_content, has_tab, width_of, fits, is_widest, indentation, begins_with_line_end}
use Rattle.starlark_grammar.specs.Gaps.{InOrder}
use Rattle.starlark_grammar.specs.Pieces.{Before, Nothing, Layout, Gap, Other, Piece, Step, Stands, Fails, Situation, token, margin_step, more_quotes, opening_of, escape_fault, literal_by, opener, chunk_text, chunk_piece, chunk_by, chunk, counts, starts_zero, word_step, front_step, takes_bang, is_bang, in_code, by_mode, by_before, step_at}
use Rattle.starlark_grammar.specs.Reading.{History, nothing, after, situation, next_step, pieces_len, lexemes_along, lexemes_before, outcome_after}
use Rattle.starlark_grammar.specs.Longest.{IsReading}
use Rattle.starlark_grammar.proofs.Literals.LiteralSteps.{by_mode_holds}
use Rattle.starlark_grammar.proofs.Choices.{either}
use Rattle.starlark_grammar.proofs.Order.Gaps.{gap_none}
use Rattle.starlark_grammar.proofs.Order.OrderedLexemes.{margin_gap, margin_order}
use Rattle.starlark_grammar.proofs.Reading.Steps.{Each, margin_fits, is_nothing}
use Rattle.starlark_grammar.proofs.Reading.Onward.{StopsAt, outcome_after_nothing, stops_at}
use Rattle.starlark_grammar.proofs.Recovery.DecidedFaults.{fault_stays_here}
use Rattle.starlark_grammar.proofs.Recovery.FollowedFaults.{FaultStays, fault_end, same_fault}
use Rattle.starlark_grammar.proofs.Recovery.MarginTabs.{FirstFails, tab_first, line_end_stands, no_line_end}
use Rattle.starlark_grammar.proofs.Recovery.RestartBounds.{restart_bounds}
use Rattle.starlark_grammar.specs.Recovery.{is_margin_tab, is_tab, line_end_len, margin_line, next_line, restart, stopped_at}
use Rattle.starlark_grammar.specs.RecoveryLaws.{LexemesBeforeFaults}

-- no lexeme ends after an offset
abbrev pub EndBy : ℕ → List Lexeme → Type 0
EndBy to lexemes = AllByRecursion (λ (lexeme : Lexeme). lexeme.end ≤ to) lexemes

pub end_later : (a b : ℕ) (xs : List Lexeme) → a ≤ b → EndBy a xs → EndBy b xs
end_later a b [] less ends = tt
end_later a b (x ∷ xs) less ends = let first = ends.0 in (omega (arith, less, first), end_later a b xs less ends.1)

end_append : (to : ℕ) (xs ys : List Lexeme) → EndBy to xs → EndBy to ys → EndBy to (xs ++ ys)
end_append to [] ys one other = other
end_append to (x ∷ xs) ys one other = (one.0, end_append to xs ys one.1 other)

pub end_moved : (n to : ℕ) (xs : List Lexeme) → EndBy to xs → EndBy (n + to) (map (moved n) xs)
end_moved n to [] ends = tt
end_moved n to (x ∷ xs) ends = let first = ends.0 in (omega (arith, first), end_moved n to xs ends.1)

-- Margins

-- what comes before a lexeme in order ends before it begins
ends_before : (text : Text) (from : ℕ) (xs : List Lexeme) (x : Lexeme) (to : ℕ) → InOrder text from (xs ++ x ∷ []) to → (from ≤ x.begin) × EndBy x.begin xs
ends_before text from [] x to h = (h.0, tt)
ends_before text from (y ∷ ys) x to h =
    let more = ends_before text y.end ys x to h.3 in
    let reach = more.0 in
    let first = h.0 in
    let second = h.1 in
    (omega (arith, first, second, reach), (reach, more.1))

-- a margin's comments end before its last line
comments_end : (text : Text) → EndBy (margin_of text).at (margin_of text).comments
comments_end text =
    let at : ℕ = (margin_of text).at in
    let line : Lexeme = record { begin = at; node = Newline; end = at } in
    (ends_before text 0 (margin_of text).comments line (margin_len (margin_of text)) (margin_order text (line ∷ []) (omega arith, omega arith, gap_none text at, (omega arith, margin_gap text)))).1

dedents_end : (at to k : ℕ) → at ≤ to → EndBy to (replicate k (record { begin = at; node = Dedent; end = at }))
dedents_end at to zero least = tt
dedents_end at to (suc k) least = (least, dedents_end at to k least)

indentation_end : (levels : List ℕ) (margin : Margin) → EndBy (margin_len margin) (indentation levels margin)
unfolding indentation
indentation_end levels margin =
    either (EndBy (margin_len margin)) (nat_lt 0 (width_of margin) && is_widest (width_of margin) levels) _ _ (omega arith, tt)
    (dedents_end margin.at (margin_len margin) (count_by (nat_lt (width_of margin)) levels) (omega arith))

-- Steps

abbrev PieceEnds : Piece → Type 0
PieceEnds piece = EndBy piece.len piece.lexemes

abbrev StepEnds : Step → Type 0
StepEnds = Each PieceEnds (λ fault. ⊤)

token_ends : (len : ℕ) (node : Token) → StepEnds (token len node)
token_ends len node = (omega arith, tt)

margin_step_ends : (len : ℕ) (before : List Lexeme) (levels : List ℕ) (margin : Margin) → EndBy len before → EndBy margin.at margin.comments → StepEnds (margin_step len before levels margin)
unfolding margin_step
margin_step_ends len before levels margin ends comments =
    either StepEnds (not (is_content margin.remainder)) _ _ (layout [] tt)
    (either StepEnds (has_tab margin) _ _ tt
    (either StepEnds (fits (width_of margin) levels) _ _ (layout (indentation levels margin) (indentation_end levels margin)) tt))
  where
    layout : (more : List Lexeme) → EndBy (margin_len margin) more → EndBy (len + margin_len margin) (before ++ map (moved len) (margin.comments ++ more))
    layout more h =
        end_append (len + margin_len margin) before (map (moved len) (margin.comments ++ more)) (end_later len (len + margin_len margin) before (omega arith) ends)
        (end_moved len (margin_len margin) (margin.comments ++ more)
        (end_append (margin_len margin) margin.comments more (end_later margin.at (margin_len margin) margin.comments (omega arith) comments) h))

literal_by_ends : (mode : Mode) (kind : Kind) (opening : Opening) (len : ℕ) (remainder : Text) (body : Body) (stop : Stop) → StepEnds (literal_by mode kind opening len remainder body stop)
literal_by_ends mode kind opening len remainder body Closing = (omega arith, tt)
literal_by_ends mode kind opening len remainder body (BadEscape read last) = go (len + body_len body) (drop 1 (take read (drop (body_len body) remainder)))
  where
    go : (begin : ℕ) (read : Text) → StepEnds (escape_fault begin read)
    go begin [] = tt
    go begin (b ∷ bs) = tt
literal_by_ends mode kind opening len remainder body Line = tt
literal_by_ends mode kind opening len remainder body Ended = tt
literal_by_ends mode kind opening len remainder body OpeningBrace = tt
literal_by_ends mode kind opening len remainder body ClosingBrace = tt

opener_ends : (mode : Mode) (kind : Kind) (opening : Opening) (len : ℕ) (remainder : Text) → StepEnds (opener mode kind opening len remainder)
opener_ends mode OfFString opening len remainder = (omega arith, tt)
opener_ends mode OfText opening len remainder = literal_by_ends mode OfText opening (len + more_quotes opening) (drop (more_quotes opening) remainder) (body_at (record { kind = OfText; opening = opening }) (drop (more_quotes opening) remainder)) _
opener_ends mode OfBytes opening len remainder = literal_by_ends mode OfBytes opening (len + more_quotes opening) (drop (more_quotes opening) remainder) (body_at (record { kind = OfBytes; opening = opening }) (drop (more_quotes opening) remainder)) _

chunk_piece_ends : (body : Body) (node : Token) (len : ℕ) → StepEnds (chunk_piece body node len)
chunk_piece_ends body node len = go (body_value body)
  where
    go : (value : Text) → EndBy (body_len body + len) (chunk_text (body_len body) value ++ record { begin = body_len body; node = node; end = body_len body + len } ∷ [])
    go [] = (omega arith, tt)
    go (b ∷ bs) = (omega arith, (omega arith, tt))

chunk_ends : (opening : Opening) (text : Text) → StepEnds (chunk opening text)
unfolding chunk
chunk_ends opening text = by (body_at (record { kind = OfFString; opening = opening }) text) _
  where
    by : (body : Body) (stop : Stop) → StepEnds (chunk_by opening text body stop)
    by body OpeningBrace = chunk_piece_ends body FStringExprStart 1
    by body Closing = chunk_piece_ends body FStringEnd (length (closing_quotes opening))
    by body ClosingBrace = tt
    by body (BadEscape read last) = tt
    by body Line = tt
    by body Ended = tt

word_step_ends : (s : Situation) (class : Class) (front remainder : Text) → StepEnds (word_step s class front remainder)
word_step_ends s word.Skipped front remainder = tt
word_step_ends s word.Comment front remainder = (omega arith, tt)
word_step_ends s word.Tabs front remainder = tt
word_step_ends s word.LineEnd front remainder =
    either StepEnds (counts s.mode s.is_balanced) _ _
    (margin_step_ends (length front) (record { begin = 0; node = Newline; end = length front } ∷ []) s.levels (margin_of remainder) (omega arith, tt) (comments_end remainder)) tt
word_step_ends s (word.Opener kind is_raw quote) front remainder = opener_ends s.mode kind (opening_of is_raw quote remainder) (length front) remainder
word_step_ends s word.Reserved front remainder = tt
word_step_ends s word.Identifier front remainder = (omega arith, tt)
word_step_ends s word.Decimal front remainder = either StepEnds (starts_zero front) _ _ tt (token_ends (length front) (Int (integer_of 10 front)))
word_step_ends s word.Hexadecimal front remainder = (omega arith, tt)
word_step_ends s word.Octal front remainder = (omega arith, tt)
word_step_ends s word.Binary front remainder = (omega arith, tt)
word_step_ends s word.Float front remainder = (omega arith, tt)
word_step_ends s (word.Fixed terminal) front remainder = (omega arith, tt)

front_step_ends : (s : Situation) (text : Text) (found : Option (Class × ℕ)) → StepEnds (front_step s text found)
front_step_ends s text None = tt
front_step_ends s text (Some front) = word_step_ends s front.0 (take front.1 text) (drop front.1 text)

in_code_ends : (s : Situation) (text : Text) → StepEnds (in_code language s text)
in_code_ends s [] = tt
in_code_ends s (b ∷ bs) =
    either StepEnds (takes_bang s.mode s.before && is_bang (b ∷ bs)) _ _ (token_ends 1 FStringBang) (front_step_ends s (b ∷ bs) (longest_front (class_in language) (b ∷ bs)))

by_mode_ends : (s : Situation) (mode : Mode) (text : Text) → StepEnds (by_mode language s mode text)
by_mode_ends s mode text = by_mode_holds StepEnds s mode text (in_code_ends s text) (λ opening. chunk_ends opening text)

by_before_ends : (s : Situation) (before : Before) (text : Text) → StepEnds (by_before language s before text)
by_before_ends s Nothing text = margin_step_ends 0 [] s.levels (margin_of text) tt (comments_end text)
by_before_ends s Layout text = by_mode_ends s s.mode text
by_before_ends s Gap text = by_mode_ends s s.mode text
by_before_ends s Other text = by_mode_ends s s.mode text

-- Readings

pub piece_ends : (history : History) (text : Text) (piece : Piece) → next_step language history text ≡ Stands piece → PieceEnds piece
unfolding next_step situation step_at
piece_ends history text piece e = subst StepEnds e (by_before_ends (situation history) history.before text)

-- the lexemes of pieces end in their bytes
pub along_ends : (at : ℕ) (history : History) (text : Text) (pieces : List Piece) → IsReading language history text pieces → EndBy (at + pieces_len pieces) (lexemes_along at pieces)
along_ends at history text [] reads = tt
along_ends at history text (piece ∷ pieces) reads =
    let to : ℕ = at + pieces_len (piece ∷ pieces) in
    let len = sum_by-cons (λ (piece : Piece). piece.len) piece pieces in
    end_append to (map (moved at) piece.lexemes) (lexemes_along (at + piece.len) pieces)
    (end_later (at + piece.len) to (map (moved at) piece.lexemes) (omega (arith, len)) (end_moved at piece.len piece.lexemes (piece_ends history text piece reads.0)))
    (end_later (at + piece.len + pieces_len pieces) to (lexemes_along (at + piece.len) pieces) (omega (arith, len)) (along_ends (at + piece.len) (after history piece) (drop piece.len text) pieces reads.1))

-- Where lexing begins again

-- after the offset where the reading stopped, inside of the text
restart_past : (text : Text) (fault : Spanned Fault) (n : ℕ) → n ≤ length text → n ≤ stopped_at text fault → n ≤ restart text fault
unfolding restart next_line
restart_past text fault n inside less = omega (arith, inside, less)

-- the fault of a tab at the start of a text stops the reading at the last line of the first margin
stopped_margin : (text : Text) (fault : Spanned Fault) → fault.begin ≡ 0 → is_tab fault.node ≡ true → begins_with_line_end text ≡ false → (margin_of text).at ≤ stopped_at text fault
unfolding stopped_at
stopped_margin text fault begin node none =
    let tab : is_margin_tab text fault ≡ true = ap (λ n. is_tab fault.node && (n == 0 || begins_with_line_end (drop n text))) begin ∙ ap (λ b. b && true) node in
    let len : line_end_len (drop fault.begin text) ≡ 0 = ap (λ n. line_end_len (drop n text)) begin ∙ no_line_end text none in
    let start : fault.begin + line_end_len (drop fault.begin text) ≡ 0 = omega (arith, begin, len) in
    let line : margin_line text (fault.begin + line_end_len (drop fault.begin text)) ≡ margin_line text 0 = ap (λ n. margin_line text n) start in
    let stop : (if is_margin_tab text fault then margin_line text (fault.begin + line_end_len (drop fault.begin text)) else fault.begin) ≡ margin_line text (fault.begin + line_end_len (drop fault.begin text)) =
    ap (λ tab. if tab then margin_line text (fault.begin + line_end_len (drop fault.begin text)) else fault.begin) tab in
    omega (arith, line, stop)

-- the fault of a first margin: a tab's, or one that has the margin's bytes
margin_fault : (levels : List ℕ) (margin : Margin) (found : Spanned Fault) → margin_step 0 [] levels margin ≡ Fails found → ((found.begin ≡ 0) × (is_tab found.node ≡ true)) ⊎ (margin_len margin ≤ found.end)
unfolding margin_step
margin_fault levels margin found e = go (not (is_content margin.remainder)) (has_tab margin) (fits (width_of margin) levels) _ _ e
  where
    go : (blank tab fitting : Bool) (one other : Piece)
        → (if blank then Stands one else (if tab then Fails (record { begin = 0; node = InvalidTab; end = 0 }) else (if fitting then Stands other else Fails (record { begin = 0; node = Indentation; end = 0 + margin_len margin })))) ≡ Fails found
        → ((found.begin ≡ 0) × (is_tab found.node ≡ true)) ⊎ (margin_len margin ≤ found.end)
    go true tab fitting one other e = cc
    go false true fitting one other e =
        let same = same_fault _ found e in
        inl (sym (ap (λ (f : Spanned Fault). f.begin) same), sym (ap (λ (f : Spanned Fault). is_tab f.node) same))
    go false false true one other e = cc
    go false false false one other e = let end = fault_end _ found e in inr (omega (arith, end))

-- the lexemes before a fault end before lexing begins again
pub lexemes_before_restart : (history : History) (text : Text) (fault : Spanned Fault) → StopsAt history text fault → EndBy (restart text fault) (outcome_after history text).lexemes
lexemes_before_restart history text fault here = subst (λ (o : Outcome). EndBy (restart text fault) o.lexemes) (sym here.is) (by here.pieces here.found (fault_stays_here here) here.same)
  where
    -- after the end of the fault
    past_end : fault.end ≤ restart text fault
    past_end = (restart_bounds text fault here.inside).0

    -- what ends before the last line of the first margin
    comments : (found : Spanned Fault) → FirstFails text found → moved 0 found ≡ fault → (margin_of text).at ≤ restart text fault
    comments found fails same = go (margin_fault fails.0 (margin_of text) found fails.1)
      where
        begin : 0 + found.begin ≡ fault.begin
        begin = ap (λ (f : Spanned Fault). f.begin) same

        end : 0 + found.end ≡ fault.end
        end = ap (λ (f : Spanned Fault). f.end) same

        none : (test : Bool) → begins_with_line_end text ≡ test → test ≡ false
        none true is = absurd (line_end_stands text found is fails)
        none false is = refl

        go : ((found.begin ≡ 0) × (is_tab found.node ≡ true)) ⊎ (margin_len (margin_of text) ≤ found.end) → (margin_of text).at ≤ restart text fault
        go (inl tab) =
            let fits = margin_fits text in
            let start : fault.begin ≡ 0 = omega (arith, begin, tab.0) in
            let node : is_tab fault.node ≡ true = sym (ap (λ (f : Spanned Fault). is_tab f.node) same) ∙ tab.1 in
            restart_past text fault (margin_of text).at (omega (arith, fits)) (stopped_margin text fault start node (none (begins_with_line_end text) refl))
        go (inr width) = let past = past_end in omega (arith, width, end, past)

    by : (pieces : List Piece) (found : Spanned Fault) → FaultStays history text pieces found → moved (pieces_len pieces) found ≡ fault → EndBy (restart text fault) (lexemes_before history.before text pieces)
    by [] found stays same = first history.before refl
      where
        first : (before : Before) → history.before ≡ before → EndBy (restart text fault) (lexemes_before before text [])
        first Nothing e =
            let fails = tab_first history text found (ap is_nothing e) stays.fails in
            end_later (margin_of text).at (restart text fault) (margin_of text).comments (comments found fails same) (comments_end text)
        first Layout e = tt
        first Gap e = tt
        first Other e = tt
    by (piece ∷ pieces) found stays same =
        let begin : pieces_len (piece ∷ pieces) + found.begin ≡ fault.begin = ap (λ (f : Spanned Fault). f.begin) same in
        let order = here.order in
        let past = past_end in
        some history.before (end_later (0 + pieces_len (piece ∷ pieces)) (restart text fault) (lexemes_along 0 (piece ∷ pieces)) (omega (arith, begin, order, past)) (along_ends 0 history text (piece ∷ pieces) stays.reads))
      where
        some : (before : Before) → EndBy (restart text fault) (lexemes_along 0 (piece ∷ pieces)) → EndBy (restart text fault) (lexemes_before before text (piece ∷ pieces))
        some Nothing ends = ends
        some before ends = ends

pub lexemes_before_faults : LexemesBeforeFaults
lexemes_before_faults text fault has =
    subst (λ (o : Outcome). EndBy (restart text fault) o.lexemes) (outcome_after_nothing text)
    (lexemes_before_restart nothing text fault (stops_at nothing text fault (ap (λ (o : Outcome). o.fault) (outcome_after_nothing text) ∙ has)))
