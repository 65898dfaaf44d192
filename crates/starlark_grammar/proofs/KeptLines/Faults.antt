-- The place of a fault that keeps its line: it is in code, and has a byte.
use Rattle.std.proofs.Common.{◌≡◌, ℕ, zero, suc, ◌+◌, ◌≤◌, Bool, true, false, not, List, [], ◌∷◌, length, take, drop, refl, ap, ◌∙◌, sym, subst, Option, Some, None, arith, ◌||◌}
use Rattle.std.specs.Prelude.{◌&&◌, if◌then◌else◌, nat_eq, codes}
use Rattle.std.specs.Char.{is_ascii_digit}
use Rattle.std.specs.List.{list_all, starts_with}
use Rattle.std.proofs.lemmas.Bool.{and_parts, eqb-true}
use Rattle.std.proofs.lemmas.List.{length-take-le}
use Rattle.starlark_grammar.specs.declared.class.Class.{Class}
use Rattle.starlark_grammar.specs.declared.class.LiteralKind.{LiteralKind as Kind}
use Rattle.starlark_grammar.specs.declared.class.LiteralKind.TheVariants.{Text as OfText, Bytes as OfBytes, FString as OfFString}
use Rattle.starlark_grammar.specs.Words.{Text, Skipped, Comment, Tabs, LineEnd, Opener, Reserved, Identifier, Decimal, Hexadecimal, Octal, Binary, Float, Fixed, begins, class_in, openers, line_ends, symbols, names, patterns, language, is_run}
use Rattle.starlark_grammar.specs.FrontCharacter.{first_character}
use Rattle.starlark_grammar.specs.Front.{longest_front}
use Rattle.starlark_grammar.specs.AfterFaults.{is_tab}
use Rattle.starlark_grammar.specs.Inner.KeptFaults.{may_keep}
use Rattle.starlark_grammar.specs.KeptLines.{is_bad_escape}
use Rattle.starlark_grammar.specs.Tokens.{Fault, Indentation, InvalidInput, InvalidTab, ReservedKeyword, StartsZero, UnfinishedFStringExpression, UnfinishedStringLiteral, FStringBang, Int, Newline, Lexeme, Opening, Spanned}
use Rattle.starlark_grammar.specs.Items.{Stop, Closing, OpeningBrace, BadEscape, Body, body_at}
use Rattle.starlark_grammar.specs.Depths.{Mode, Outside, InText, AtTop, Deeper, mode_after}
use Rattle.starlark_grammar.specs.Margins.{Margin, begins_with_line_end, fits, has_tab, is_content, margin_len, margin_of, width_of}
use Rattle.starlark_grammar.specs.Numbers.{integer_of}
use Rattle.starlark_grammar.specs.Pieces.{Before, Nothing, Layout, Gap, Other, Piece, Step, Stands, Fails, Situation, fault, token, margin_step, line_end, opening_of, more_quotes, is_plain, unfinished, literal_by, opener, chunk_by, chunk, counts, starts_zero, word_step, front_step, takes_bang, is_bang, in_code, by_mode, by_before, step_at}
use Rattle.starlark_grammar.specs.Reading.{History, situation, next_step}
use Rattle.starlark_grammar.proofs.Words.Classes.{language_all_fit, patterns_all_fit, RowsFit}
use Rattle.starlark_grammar.proofs.Words.Fronts.{front_sound}
use Rattle.starlark_grammar.proofs.Reading.Steps.{is_nothing}
use Rattle.starlark_grammar.proofs.Literals.LiteralSteps.{escape_holds}

-- Words that are faults

-- what the words of faults and line ends begin with, and what decimal integers are
abbrev begins_so : Class → Text → Bool
begins_so Tabs word = begins (nat_eq 9) word
begins_so LineEnd word = begins_with_line_end word
begins_so Decimal word = is_run is_ascii_digit word
begins_so class word = true

rows_begin : RowsFit begins_so
unfolding openers line_ends symbols names
rows_begin = (refl, refl, refl, refl)

tabs_begin : (word : Text) → is_run (nat_eq 9) word ≡ true → begins (nat_eq 9) word ≡ true
tabs_begin [] h = cc
tabs_begin (b ∷ bs) h = (and_parts (nat_eq 9 b) (list_all (nat_eq 9) bs) h).0

patterns_begin : (word : Text) (class : Class) → class_in patterns word ≡ Some class → begins_so class word ≡ true
patterns_begin word =
    patterns_all_fit begins_so word
    (λ h. refl)
    (λ h. refl)
    (tabs_begin word)
    (λ h. refl)
    (λ h. h)
    (λ h. refl)
    (λ h. refl)
    (λ h. refl)
    (λ h. refl)
    (λ h. refl)

word_begins : (word : Text) (class : Class) → class_in language word ≡ Some class → begins_so class word ≡ true
word_begins = language_all_fit begins_so rows_begin patterns_begin

begins_front : (test : ℕ → Bool) (n b : ℕ) (bs : Text) → begins test (take n (b ∷ bs)) ≡ true → test b ≡ true
begins_front test zero b bs h = cc
begins_front test (suc n) b bs h = h

starts_front : (n : ℕ) (text needle : Text) → starts_with nat_eq (take n text) needle ≡ true → starts_with nat_eq text needle ≡ true
starts_front n text [] h = refl
starts_front zero text (c ∷ cs) h = cc
starts_front (suc n) [] (c ∷ cs) h = cc
starts_front (suc n) (b ∷ bs) (c ∷ cs) h =
    let parts = and_parts (nat_eq c b) (starts_with nat_eq (take n bs) cs) h in
    rw parts.0 (starts_front n bs cs parts.1)

line_end_front : (n : ℕ) (text : Text) → begins_with_line_end (take n text) ≡ true → begins_with_line_end text ≡ true
line_end_front n text h = go (starts_with nat_eq (take n text) (codes "\n")) refl h
  where
    right : (x y : Bool) → y ≡ true → (x || y) ≡ true
    right true y h = refl
    right false y h = h

    go : (one : Bool) → starts_with nat_eq (take n text) (codes "\n") ≡ one → (one || starts_with nat_eq (take n text) (codes "\r\n")) ≡ true → begins_with_line_end text ≡ true
    go true e h = rw (starts_front n text (codes "\n") e) refl
    go false e h = right (starts_with nat_eq text (codes "\n")) (starts_with nat_eq text (codes "\r\n")) (starts_front n text (codes "\r\n") h)

-- whether a step is a fault that may keep its line
abbrev pub step_keeps : Step → Bool
step_keeps (Fails fault) = may_keep fault.node
step_keeps step = false

keeps_of : (step : Step) (fault : Spanned Fault) → step ≡ Fails fault → may_keep fault.node ≡ true → step_keeps step ≡ true
keeps_of step fault e keeps = ap step_keeps e ∙ keeps

-- no chunk and no literal is one
pub chunk_lost : (opening : Opening) (text : Text) (body : Body) (stop : Stop) → step_keeps (chunk_by opening text body stop) ≡ false
unfolding may_keep
chunk_lost opening text body OpeningBrace = refl
chunk_lost opening text body stop = refl

either_lost : (test : Bool) → may_keep (if test then UnfinishedFStringExpression else UnfinishedStringLiteral) ≡ false
unfolding may_keep
either_lost true = refl
either_lost false = refl

unfinished_lost : (mode : Mode) (kind : Kind) (opening : Opening) (remainder : Text) → may_keep (unfinished mode kind opening remainder) ≡ false
unfolding may_keep
unfinished_lost Outside kind opening remainder = refl
unfinished_lost (InText other) OfText opening remainder = either_lost (is_plain opening remainder)
unfinished_lost (InText other) OfBytes opening remainder = refl
unfinished_lost (InText other) OfFString opening remainder = refl
unfinished_lost AtTop OfText opening remainder = either_lost (is_plain opening remainder)
unfinished_lost AtTop OfBytes opening remainder = refl
unfinished_lost AtTop OfFString opening remainder = refl
unfinished_lost Deeper OfText opening remainder = either_lost (is_plain opening remainder)
unfinished_lost Deeper OfBytes opening remainder = refl
unfinished_lost Deeper OfFString opening remainder = refl

literal_lost : (mode : Mode) (kind : Kind) (opening : Opening) (len : ℕ) (remainder : Text) (body : Body) (stop : Stop) → step_keeps (literal_by mode kind opening len remainder body stop) ≡ false
unfolding may_keep
literal_lost mode kind opening len remainder body Closing = refl
literal_lost mode kind opening len remainder body (BadEscape read last) = escape_holds (λ step. step_keeps step ≡ false) _ _ (λ end. refl) (λ escape end. refl)
literal_lost mode kind opening len remainder body stop = unfinished_lost mode kind opening remainder

pub opener_lost : (mode : Mode) (kind : Kind) (opening : Opening) (len : ℕ) (remainder : Text) → step_keeps (opener mode kind opening len remainder) ≡ false
opener_lost mode OfFString opening len remainder = refl
opener_lost mode OfText opening len remainder =
    literal_lost mode OfText opening (len + more_quotes opening) (drop (more_quotes opening) remainder) (body_at (record { kind = OfText; opening = opening }) (drop (more_quotes opening) remainder)) _
opener_lost mode OfBytes opening len remainder =
    literal_lost mode OfBytes opening (len + more_quotes opening) (drop (more_quotes opening) remainder) (body_at (record { kind = OfBytes; opening = opening }) (drop (more_quotes opening) remainder)) _

-- a margin's fault may keep its line only if it is that of a tab
abbrev pub step_tab : Step → Bool
step_tab (Fails fault) = is_tab fault.node
step_tab step = false

pub margin_lost : (len : ℕ) (lexemes : List Lexeme) (levels : List ℕ) (margin : Margin) → step_keeps (margin_step len lexemes levels margin) ≡ true → step_tab (margin_step len lexemes levels margin) ≡ true
unfolding margin_step may_keep
margin_lost len lexemes levels margin h = go (not (is_content margin.remainder)) (has_tab margin) (fits (width_of margin) levels) _ _ (len + margin_len margin) h
  where
    go : (blank tab fitting : Bool) (first last : Piece) (end : ℕ) → step_keeps (if blank then Stands first else (if tab then fault 0 InvalidTab 0 else (if fitting then Stands last else fault 0 Indentation end))) ≡ true
        → step_tab (if blank then Stands first else (if tab then fault 0 InvalidTab 0 else (if fitting then Stands last else fault 0 Indentation end))) ≡ true
    go true tab fitting first last end h = cc
    go false true fitting first last end h = refl
    go false false true first last end h = cc
    go false false false first last end h = cc

-- and it begins where the step does
abbrev pub step_begin : Step → ℕ
step_begin (Fails fault) = fault.begin
step_begin step = 0

pub margin_begin : (len : ℕ) (lexemes : List Lexeme) (levels : List ℕ) (margin : Margin) → step_begin (margin_step len lexemes levels margin) ≡ 0
unfolding margin_step
margin_begin len lexemes levels margin = go (not (is_content margin.remainder)) (has_tab margin) (fits (width_of margin) levels) _ _ (len + margin_len margin)
  where
    go : (blank tab fitting : Bool) (first last : Piece) (end : ℕ) → step_begin (if blank then Stands first else (if tab then fault 0 InvalidTab 0 else (if fitting then Stands last else fault 0 Indentation end))) ≡ 0
    go true tab fitting first last end = refl
    go false true fitting first last end = refl
    go false false true first last end = refl
    go false false false first last end = refl

abbrev pub is_in_text : Mode → Bool
is_in_text (InText opening) = true
is_in_text mode = false

-- what a word's fault is like
pub record WordFault (first : ℕ) (fault : Spanned Fault) : Type 0 where
  pub begins : fault.begin ≡ 0
  pub some : is_tab fault.node ≡ false → 1 ≤ fault.end
  pub tab : is_tab fault.node ≡ true → (first ≡ 9) × (fault.end ≡ 0)
  pub digits : (word : Text) → fault.node ≡ StartsZero word → is_run is_ascii_digit word ≡ true

-- A fault that may keep its line, after a history: where it is, and how long.
pub record CodeFault (history : History) (text : Text) (fault : Spanned Fault) : Type 0 where
  pub first : ℕ
  pub rest : Text
  pub same : text ≡ first ∷ rest
  pub in_code : is_in_text (mode_after history.tokens) ≡ false
  pub word : WordFault first fault

lost : (step : Step) (fault : Spanned Fault) → step ≡ Fails fault → may_keep fault.node ≡ true → step_keeps step ≡ false → {A : Type 0} → A
lost step fault e keeps none = let some = keeps_of step fault e keeps in cc

word_fault : (s : Situation) (class : Class) (n b : ℕ) (bs remainder : Text) (fault : Spanned Fault) → 1 ≤ length (take n (b ∷ bs)) → begins_so class (take n (b ∷ bs)) ≡ true → word_step s class (take n (b ∷ bs)) remainder ≡ Fails fault → may_keep fault.node ≡ true
    → (is_tab fault.node ≡ true → fault.begin ≡ 0 → begins_with_line_end (b ∷ bs) ≡ false) → WordFault b fault
word_fault s Tabs n b bs remainder fault some fits e keeps no_margin =
    let same : record { begin = 0; node = InvalidTab; end = 0 } ≡ fault = cc in
    let first : 9 ≡ b = eqb-true 9 b (begins_front (nat_eq 9) n b bs fits) in
    subst (λ (fault : Spanned Fault). WordFault b fault) same (record { begins = refl; some = λ other. cc; tab = λ tab. (sym first, refl); digits = λ word is. cc })
word_fault s Reserved n b bs remainder fault some fits e keeps no_margin =
    let same : record { begin = 0; node = ReservedKeyword (take n (b ∷ bs)); end = length (take n (b ∷ bs)) } ≡ fault = cc in
    subst (λ (fault : Spanned Fault). WordFault b fault) same (record { begins = refl; some = λ other. some; tab = λ tab. cc; digits = λ word is. cc })
word_fault s Decimal n b bs remainder fault some fits e keeps no_margin = go (starts_zero (take n (b ∷ bs))) e
  where
    go : (zeroes : Bool) → (if zeroes then Fails (record { begin = 0; node = StartsZero (take n (b ∷ bs)); end = length (take n (b ∷ bs)) }) else token (length (take n (b ∷ bs))) (Int (integer_of 10 (take n (b ∷ bs))))) ≡ Fails fault → WordFault b fault
    go true e =
        let same : record { begin = 0; node = StartsZero (take n (b ∷ bs)); end = length (take n (b ∷ bs)) } ≡ fault = cc in
        subst (λ (fault : Spanned Fault). WordFault b fault) same
        (record { begins = refl; some = λ other. some; tab = λ tab. cc; digits = λ word is. let own : take n (b ∷ bs) ≡ word = cc in subst (λ (w : Text). is_run is_ascii_digit w ≡ true) own fits })
    go false e = cc
word_fault s LineEnd n b bs remainder fault some fits e keeps no_margin = go (counts s.mode s.is_balanced) e
  where
    go : (counted : Bool) → (if counted then line_end (length (take n (b ∷ bs))) s.levels remainder else Stands (record { len = length (take n (b ∷ bs)); lexemes = []; width = None; sort = Other })) ≡ Fails fault → WordFault b fault
    go true e =
        let tab = margin_lost (length (take n (b ∷ bs))) (record { begin = 0; node = Newline; end = length (take n (b ∷ bs)) } ∷ []) s.levels (margin_of remainder) (keeps_of _ fault e keeps) in
        let begin : 0 ≡ fault.begin = sym (margin_begin (length (take n (b ∷ bs))) (record { begin = 0; node = Newline; end = length (take n (b ∷ bs)) } ∷ []) s.levels (margin_of remainder)) ∙ ap step_begin e in
        let wrong = no_margin (sym (ap step_tab e) ∙ tab) (sym begin) in
        let right = line_end_front n (b ∷ bs) fits in cc
    go false e = cc
word_fault s (Opener kind is_raw quote) n b bs remainder fault some fits e keeps no_margin = lost _ fault e keeps (opener_lost s.mode kind (opening_of is_raw quote remainder) (length (take n (b ∷ bs))) remainder)
word_fault s Skipped n b bs remainder fault some fits e keeps no_margin = cc
word_fault s Comment n b bs remainder fault some fits e keeps no_margin = cc
word_fault s Identifier n b bs remainder fault some fits e keeps no_margin = cc
word_fault s Hexadecimal n b bs remainder fault some fits e keeps no_margin = cc
word_fault s Octal n b bs remainder fault some fits e keeps no_margin = cc
word_fault s Binary n b bs remainder fault some fits e keeps no_margin = cc
word_fault s Float n b bs remainder fault some fits e keeps no_margin = cc
word_fault s (Fixed terminal) n b bs remainder fault some fits e keeps no_margin = cc

front_fault : (s : Situation) (b : ℕ) (bs : Text) (found : Option (Class × ℕ)) (fault : Spanned Fault) → longest_front (class_in language) (b ∷ bs) ≡ found → front_step s (b ∷ bs) found ≡ Fails fault → may_keep fault.node ≡ true
    → (is_tab fault.node ≡ true → fault.begin ≡ 0 → begins_with_line_end (b ∷ bs) ≡ false) → WordFault b fault
front_fault s b bs None fault found e keeps no_margin =
    let same : record { begin = 0; node = InvalidInput (first_character (b ∷ bs)); end = length (first_character (b ∷ bs)) } ≡ fault = cc in
    subst (λ (fault : Spanned Fault). WordFault b fault) same (record {
      begins = refl;
      some = λ other. omega arith;
      tab = λ tab. cc;
      digits = λ word is. cc;
    })
front_fault s b bs (Some front) fault found e keeps no_margin =
    let sound = front_sound (class_in language) (b ∷ bs) front.0 front.1 found in
    word_fault s front.0 front.1 b bs (drop front.1 (b ∷ bs)) fault (omega (arith, sound.0, length-take-le front.1 (b ∷ bs) sound.1)) (word_begins (take front.1 (b ∷ bs)) front.0 sound.2) e keeps no_margin

code_fault_in : (s : Situation) (text : Text) (fault : Spanned Fault) → in_code language s text ≡ Fails fault → may_keep fault.node ≡ true → (is_tab fault.node ≡ true → fault.begin ≡ 0 → begins_with_line_end text ≡ false)
    → (b : ℕ) × ((bs : Text) × ((text ≡ b ∷ bs) × WordFault b fault))
code_fault_in s [] fault e keeps no_margin = cc
code_fault_in s (b ∷ bs) fault e keeps no_margin = (b, (bs, (refl, go (takes_bang s.mode s.before && is_bang (b ∷ bs)) e)))
  where
    go : (bang : Bool) → (if bang then token 1 FStringBang else front_step s (b ∷ bs) (longest_front (class_in language) (b ∷ bs))) ≡ Fails fault → WordFault b fault
    go true e = cc
    go false e = front_fault s b bs (longest_front (class_in language) (b ∷ bs)) fault refl e keeps no_margin

pub code_fault : (history : History) (text : Text) (fault : Spanned Fault) → is_nothing history.before ≡ false → next_step language history text ≡ Fails fault → may_keep fault.node ≡ true → (is_tab fault.node ≡ true → fault.begin ≡ 0 → begins_with_line_end text ≡ false) → CodeFault history text fault
unfolding next_step situation step_at chunk
code_fault history text fault some e keeps no_margin = before history.before some e
  where
    made : is_in_text (mode_after history.tokens) ≡ false → (b : ℕ) × ((bs : Text) × ((text ≡ b ∷ bs) × WordFault b fault)) → CodeFault history text fault
    made code (b, (bs, (same, found))) = record { first = b; rest = bs; same = same; in_code = code; word = found }

    at : (mode : Mode) → is_in_text (mode_after history.tokens) ≡ is_in_text mode → by_mode language (situation history) mode text ≡ Fails fault → CodeFault history text fault
    at (InText opening) same e = lost _ fault e keeps (chunk_lost opening text (body_at (record { kind = OfFString; opening = opening }) text) _)
    at Outside same e = made same (code_fault_in (situation history) text fault e keeps no_margin)
    at AtTop same e = made same (code_fault_in (situation history) text fault e keeps no_margin)
    at Deeper same e = made same (code_fault_in (situation history) text fault e keeps no_margin)

    before : (before : Before) → is_nothing before ≡ false → by_before language (situation history) before text ≡ Fails fault → CodeFault history text fault
    before Nothing some e = cc
    before Layout some e = at (mode_after history.tokens) refl e
    before Gap some e = at (mode_after history.tokens) refl e
    before Other some e = at (mode_after history.tokens) refl e

-- Bad escapes

-- whether a step is one in a literal of text or bytes
abbrev pub step_escapes : Step → Bool
step_escapes (Fails fault) = is_bad_escape fault.node
step_escapes step = false

pub chunk_escapes_none : (opening : Opening) (text : Text) (body : Body) (stop : Stop) → step_escapes (chunk_by opening text body stop) ≡ false
chunk_escapes_none opening text body OpeningBrace = refl
chunk_escapes_none opening text body stop = refl

margin_escapes_none : (len : ℕ) (lexemes : List Lexeme) (levels : List ℕ) (margin : Margin) → step_escapes (margin_step len lexemes levels margin) ≡ false
unfolding margin_step
margin_escapes_none len lexemes levels margin = go (not (is_content margin.remainder)) (has_tab margin) (fits (width_of margin) levels) _ _ (len + margin_len margin)
  where
    go : (blank tab fitting : Bool) (first last : Piece) (end : ℕ) → step_escapes (if blank then Stands first else (if tab then fault 0 InvalidTab 0 else (if fitting then Stands last else fault 0 Indentation end))) ≡ false
    go true tab fitting first last end = refl
    go false true fitting first last end = refl
    go false false true first last end = refl
    go false false false first last end = refl

-- Such a fault is in code, after the first margin.
pub escape_place : (history : History) (text : Text) (fault : Spanned Fault) → next_step language history text ≡ Fails fault → is_bad_escape fault.node ≡ true → (is_nothing history.before ≡ false) × (is_in_text (mode_after history.tokens) ≡ false)
unfolding next_step situation step_at chunk
escape_place history text fault e bad = before history.before refl e
  where
    never : (step : Step) → step_escapes step ≡ false → step ≡ Fails fault → {A : Type 0} → A
    never step none e = let some : step_escapes step ≡ true = ap step_escapes e ∙ bad in cc

    at : (mode : Mode) → is_in_text (mode_after history.tokens) ≡ is_in_text mode → by_mode language (situation history) mode text ≡ Fails fault → is_in_text (mode_after history.tokens) ≡ false
    at (InText opening) same e = never _ (chunk_escapes_none opening text (body_at (record { kind = OfFString; opening = opening }) text) _) e
    at Outside same e = same
    at AtTop same e = same
    at Deeper same e = same

    before : (before : Before) → is_nothing history.before ≡ is_nothing before → by_before language (situation history) before text ≡ Fails fault → (is_nothing history.before ≡ false) × (is_in_text (mode_after history.tokens) ≡ false)
    before Nothing same e = never _ (margin_escapes_none 0 [] (situation history).levels (margin_of text)) e
    before Layout same e = (same, at (mode_after history.tokens) refl e)
    before Gap same e = (same, at (mode_after history.tokens) refl e)
    before Other same e = (same, at (mode_after history.tokens) refl e)

-- A fault of the first margin is at the text's start, and may keep its line only if it is that of a tab.
pub first_fault : (history : History) (text : Text) (fault : Spanned Fault) → is_nothing history.before ≡ true → next_step language history text ≡ Fails fault → (fault.begin ≡ 0) × (may_keep fault.node ≡ true → is_tab fault.node ≡ true)
unfolding next_step situation step_at
first_fault history text fault none e = by history.before none e
  where
    by : (before : Before) → is_nothing before ≡ true → by_before language (situation history) before text ≡ Fails fault → (fault.begin ≡ 0) × (may_keep fault.node ≡ true → is_tab fault.node ≡ true)
    by Nothing none e =
        let begin : 0 ≡ fault.begin = sym (margin_begin 0 [] (situation history).levels (margin_of text)) ∙ ap step_begin e in
        (sym begin, λ keeps. sym (ap step_tab e) ∙ margin_lost 0 [] (situation history).levels (margin_of text) (keeps_of _ fault e keeps))
    by Layout none e = cc
    by Gap none e = cc
    by Other none e = cc
