-- Where the fault of a tab stands: at a first margin, at a line end that counts, or at the tab.
use Rattle.std.proofs.Common.{◌≡◌, ℕ, zero, suc, ◌+◌, ◌≤◌, Bool, true, false, not, List, [], ◌∷◌, length, take, drop, refl, ap, ◌∙◌, sym, subst, Option, Some, None, arith, ◌⊎◌, inl, inr}
use Rattle.std.specs.Prelude.{⊤, ◌&&◌, ◌||◌, ◌==◌, if◌then◌else◌, nat_eq, codes}
use Rattle.std.specs.List.{list_all, starts_with}
use Rattle.std.specs.Str.{bytes_eq}
use Rattle.std.proofs.lemmas.Bool.{and_parts, both_ways, eqb-true}
use Rattle.std.proofs.lemmas.Slice.Eq.{bytes_eq-Decides}
use Rattle.starlark_grammar.specs.declared.class.Class.TheVariants as word
use Rattle.starlark_grammar.specs.Words.{Text, begins, class_in, is_run, language, line_ends, names, openers, symbols}
use Rattle.starlark_grammar.specs.declared.class.LiteralKind.{LiteralKind as Kind}
use Rattle.starlark_grammar.specs.declared.class.Class.{Class}
use Rattle.starlark_grammar.specs.declared.class.LiteralKind.TheVariants.{Text as OfText, Bytes as OfBytes, FString as OfFString}
use Rattle.starlark_grammar.specs.Front.{longest_front}
use Rattle.starlark_grammar.specs.Numbers.{integer_of}
use Rattle.starlark_grammar.specs.Tokens.{Newline, Opening, Int, StartsZero, FStringBang, InvalidTab, UnfinishedFStringExpression, UnfinishedStringLiteral, Indentation, Lexeme, Spanned, Fault}
use Rattle.starlark_grammar.specs.Items.{Stop, Closing, Line, Ended, OpeningBrace, ClosingBrace, BadEscape, Body, body_at}
use Rattle.starlark_grammar.specs.Depths.{Mode, Outside, InText, AtTop, Deeper}
use Rattle.starlark_grammar.specs.Margins.{Margin, margin_of, margin_len, is_content, has_tab, lines, open_widths, width_of, fits, begins_with_line_end}
use Rattle.starlark_grammar.specs.Pieces.{Before, Nothing, Layout, Gap, Other, Piece, Step, Stands, Fails, Ends, Situation, token, fault, margin_step, first_margin, line_end, is_plain, unfinished, literal_by, opener, chunk_by, chunk, counts, starts_zero, word_step, front_step, takes_bang, is_bang, in_code, by_mode, by_before, step_at}
use Rattle.starlark_grammar.specs.Reading.{History, situation, next_step}
use Rattle.starlark_grammar.proofs.Literals.LiteralSteps.{opener_holds, escape_holds}
use Rattle.starlark_grammar.proofs.Choices.{either}
use Rattle.starlark_grammar.proofs.Words.Classes.{RowsFit, language_all_fit, patterns_all_fit}
use Rattle.starlark_grammar.proofs.Words.Fronts.{front_sound}
use Rattle.starlark_grammar.specs.Joining.{begins_plainly}
use Rattle.starlark_grammar.specs.Recovery.{is_tab, line_end_len}
use Rattle.starlark_grammar.proofs.Reading.Onward.{first_step_after}
use Rattle.starlark_grammar.proofs.Reading.Steps.{is_nothing}
use Rattle.starlark_grammar.proofs.Recovery.FollowedFaults.{same_fault}

-- Words of tabs, and line ends

-- a text that begins with no line end has one of no length
pub no_line_end : (text : Text) → begins_with_line_end text ≡ false → line_end_len text ≡ 0
no_line_end text h = by (starts_with nat_eq text (codes "\n")) (starts_with nat_eq text (codes "\r\n")) h
  where
    len : Bool → Bool → ℕ
    len one two = if one then 1 else (if two then 2 else 0)

    by : (one two : Bool) → (one || two) ≡ false → len one two ≡ 0
    by true two h = cc
    by false true h = cc
    by false false h = refl

abbrev is_line_end : Text → Bool
is_line_end front = bytes_eq front (codes "\n") || bytes_eq front (codes "\r\n")

abbrev is_layout_word : Class → Text → Bool
is_layout_word word.Tabs front = begins (nat_eq 9) front
is_layout_word word.LineEnd front = is_line_end front
is_layout_word class front = true

rows_are : RowsFit is_layout_word
unfolding openers line_ends symbols names
rows_are = (refl, refl, refl, refl)

run_begins : (test : ℕ → Bool) (front : Text) → is_run test front ≡ true → begins test front ≡ true
run_begins test [] h = cc
run_begins test (b ∷ bs) h = (and_parts (test b) (list_all test bs) h).0

layout_word : (front : Text) (class : Class) → class_in language front ≡ Some class → is_layout_word class front ≡ true
layout_word = language_all_fit is_layout_word rows_are (λ front. patterns_all_fit is_layout_word front (λ h. refl) (λ h. refl) (run_begins (nat_eq 9) front) (λ h. refl) (λ h. refl) (λ h. refl) (λ h. refl) (λ h. refl) (λ h. refl) (λ h. refl))

-- a text that begins with a tab
abbrev pub begins_with_tab : Text → Bool
begins_with_tab text = begins (nat_eq 9) text

-- Which text stands at a line end, and how long that is.
abbrev pub BeginsLine : Text → ℕ → Type 0
BeginsLine text n = ((rest : Text) × (text ≡ 10 ∷ rest) × (n ≡ 1)) ⊎ ((rest : Text) × (text ≡ 13 ∷ 10 ∷ rest) × (n ≡ 2))

line_of : (text : Text) (n : ℕ) → 1 ≤ n → n ≤ length text → (take n text ≡ codes "\n") ⊎ (take n text ≡ codes "\r\n") → BeginsLine text n
line_of [] n some inside is = absurd (omega (arith, some, inside))
line_of (b ∷ bs) zero some inside is = absurd (omega (arith, some))
line_of (b ∷ bs) (suc zero) some inside (inl is) =
    let feed : b ∷ [] ≡ 10 ∷ [] = is in
    let same : b ≡ 10 = cc in
    inl (bs, ap (λ (n : ℕ). n ∷ bs) same, refl)
line_of (b ∷ bs) (suc zero) some inside (inr is) =
    let feed : b ∷ [] ≡ 13 ∷ 10 ∷ [] = is in cc
line_of (b ∷ []) (suc (suc n)) some inside is = absurd (omega (arith, inside))
line_of (b ∷ c ∷ bs) (suc (suc n)) some inside (inl is) =
    let feed : b ∷ c ∷ take n bs ≡ 10 ∷ [] = is in cc
line_of (b ∷ c ∷ bs) (suc (suc n)) some inside (inr is) = go n bs (omega (arith, inside)) is
  where
    go : (m : ℕ) (cs : Text) → m ≤ length cs → b ∷ c ∷ take m cs ≡ 13 ∷ 10 ∷ [] → BeginsLine (b ∷ c ∷ cs) (suc (suc m))
    go zero cs fits feed =
        let one : b ≡ 13 = cc in
        let two : c ≡ 10 = cc in
        inr (cs, rw (one, two) refl, refl)
    go (suc m) [] fits feed = absurd (omega (arith, fits))
    go (suc m) (d ∷ cs) fits feed = cc

pub word_line : (text : Text) (n : ℕ) → longest_front (class_in language) text ≡ Some (word.LineEnd, n) → BeginsLine text n
word_line text n front =
    let sound = front_sound (class_in language) text word.LineEnd n front in
    line_of text n sound.0 sound.1 (by (bytes_eq (take n text) (codes "\n")) refl (layout_word (take n text) word.LineEnd sound.2))
  where
    by : (one : Bool) → bytes_eq (take n text) (codes "\n") ≡ one → (one || bytes_eq (take n text) (codes "\r\n")) ≡ true → (take n text ≡ codes "\n") ⊎ (take n text ≡ codes "\r\n")
    by true e h = inl ((bytes_eq-Decides (take n text) (codes "\n")).0 e)
    by false e h = inr ((bytes_eq-Decides (take n text) (codes "\r\n")).0 h)

word_tab : (text : Text) (n : ℕ) → longest_front (class_in language) text ≡ Some (word.Tabs, n) → begins_with_tab text ≡ true
word_tab text n front =
    let sound = front_sound (class_in language) text word.Tabs n front in
    taken text n (layout_word (take n text) word.Tabs sound.2)
  where
    taken : (text : Text) (n : ℕ) → begins (nat_eq 9) (take n text) ≡ true → begins (nat_eq 9) text ≡ true
    taken text zero h = cc
    taken [] (suc n) h = cc
    taken (b ∷ bs) (suc n) h = h

-- Steps without the fault of a tab

abbrev NoTab : Step → Type 0
NoTab (Fails found) = is_tab found.node ≡ false
NoTab (Stands piece) = ⊤
NoTab Ends = ⊤

tab_not : (step : Step) (found : Spanned Fault) → NoTab step → step ≡ Fails found → is_tab found.node ≡ true → ⊥
tab_not (Fails other) found none e h = both_ways _ (subst (λ (f : Spanned Fault). is_tab f.node ≡ false) (same_fault other found e) none) h
tab_not (Stands piece) found none e h = cc
tab_not Ends found none e h = cc

untabbed_unfinished : (mode : Mode) (kind : Kind) (opening : Opening) (remainder : Text) → is_tab (unfinished mode kind opening remainder) ≡ false
untabbed_unfinished Outside kind opening remainder = refl
untabbed_unfinished (InText other) OfText opening remainder = either (λ (node : Fault). is_tab node ≡ false) (is_plain opening remainder) UnfinishedFStringExpression UnfinishedStringLiteral refl refl
untabbed_unfinished AtTop OfText opening remainder = either (λ (node : Fault). is_tab node ≡ false) (is_plain opening remainder) UnfinishedFStringExpression UnfinishedStringLiteral refl refl
untabbed_unfinished Deeper OfText opening remainder = either (λ (node : Fault). is_tab node ≡ false) (is_plain opening remainder) UnfinishedFStringExpression UnfinishedStringLiteral refl refl
untabbed_unfinished (InText other) OfBytes opening remainder = refl
untabbed_unfinished AtTop OfBytes opening remainder = refl
untabbed_unfinished Deeper OfBytes opening remainder = refl
untabbed_unfinished (InText other) OfFString opening remainder = refl
untabbed_unfinished AtTop OfFString opening remainder = refl
untabbed_unfinished Deeper OfFString opening remainder = refl

untabbed_literal : (mode : Mode) (kind : Kind) (opening : Opening) (len : ℕ) (remainder : Text) (body : Body) (stop : Stop) → NoTab (literal_by mode kind opening len remainder body stop)
untabbed_literal mode kind opening len remainder body Closing = tt
untabbed_literal mode kind opening len remainder body (BadEscape read last) = escape_holds NoTab _ _ (λ end. refl) (λ escape end. refl)
untabbed_literal mode kind opening len remainder body stop = untabbed_unfinished mode kind opening remainder

untabbed_opener : (mode : Mode) (kind : Kind) (opening : Opening) (len : ℕ) (remainder : Text) → NoTab (opener mode kind opening len remainder)
untabbed_opener mode kind opening len remainder = opener_holds NoTab mode kind opening len remainder tt (λ len rest body stop. untabbed_literal mode kind opening len rest body stop)

untabbed_chunk : (opening : Opening) (text : Text) → NoTab (chunk opening text)
unfolding chunk
untabbed_chunk opening text = go (body_at (record { kind = OfFString; opening = opening }) text)
  where
    by : (body : Body) (stop : Stop) → NoTab (chunk_by opening text body stop)
    by body OpeningBrace = tt
    by body Closing = tt
    by body ClosingBrace = refl
    by body (BadEscape read last) = refl
    by body Line = refl
    by body Ended = refl

    go : (body : Body) → NoTab (chunk_by opening text body body.stop)
    go body = by body body.stop

-- Tabs

-- a line end, and the margin that fails after it
pub record LineFails (text : Text) (found : Spanned Fault) : Type 0 where
  pub len : ℕ
  pub size : ℕ
  pub levels : List ℕ
  pub lexemes : List Lexeme
  pub line : BeginsLine text len
  pub fails : margin_step size lexemes levels (margin_of (drop len text)) ≡ Fails found

-- a first margin that fails, with some blocks open
abbrev pub FirstFails : Text → Spanned Fault → Type 0
FirstFails text found = (levels : List ℕ) × (first_margin levels text ≡ Fails found)

-- The fault of a tab, by what was read before it.
pub record TabAt (text : Text) (found : Spanned Fault) : Type 0 where
  pub begin : found.begin ≡ 0
  pub stands : FirstFails text found ⊎ ((begins_with_tab text ≡ true) ⊎ LineFails text found)

-- where a margin isn't the text's first
pub record TabLater (text : Text) (found : Spanned Fault) : Type 0 where
  pub begin : found.begin ≡ 0
  pub end : found.end ≡ 0
  pub stands : (begins_with_tab text ≡ true) ⊎ LineFails text found

anywhere : {text : Text} {found : Spanned Fault} → TabLater text found → TabAt text found
anywhere at = record { begin = at.begin; stands = inr at.stands }

margin_begin : (len : ℕ) (lexemes : List Lexeme) (levels : List ℕ) (margin : Margin) (found : Spanned Fault) → margin_step len lexemes levels margin ≡ Fails found → found.begin ≡ 0
unfolding margin_step
margin_begin len lexemes levels margin found e = go (not (is_content margin.remainder)) (has_tab margin) (fits (width_of margin) levels) _ _ e
  where
    go : (blank tab fitting : Bool) (one other : Piece)
        → (if blank then Stands one else (if tab then Fails (record { begin = 0; node = InvalidTab; end = 0 }) else (if fitting then Stands other else Fails (record { begin = 0; node = Indentation; end = len + margin_len margin })))) ≡ Fails found → found.begin ≡ 0
    go true tab fitting one other e = cc
    go false true fitting one other e = sym (ap (λ (f : Spanned Fault). f.begin) (same_fault _ found e))
    go false false true one other e = cc
    go false false false one other e = sym (ap (λ (f : Spanned Fault). f.begin) (same_fault _ found e))

-- the fault of a tab in a margin, which has one
pub margin_tab : (len : ℕ) (lexemes : List Lexeme) (levels : List ℕ) (margin : Margin) (found : Spanned Fault) → is_tab found.node ≡ true → margin_step len lexemes levels margin ≡ Fails found → (has_tab margin ≡ true) × (found.end ≡ 0)
unfolding margin_step
margin_tab len lexemes levels margin found is e = go (not (is_content margin.remainder)) (has_tab margin) (fits (width_of margin) levels) _ _ e
  where
    go : (blank tab fitting : Bool) (one other : Piece)
        → (if blank then Stands one else (if tab then Fails (record { begin = 0; node = InvalidTab; end = 0 }) else (if fitting then Stands other else Fails (record { begin = 0; node = Indentation; end = len + margin_len margin })))) ≡ Fails found → (tab ≡ true) × (found.end ≡ 0)
    go true tab fitting one other e = cc
    go false true fitting one other e = (refl, sym (ap (λ (f : Spanned Fault). f.end) (same_fault _ found e)))
    go false false true one other e = cc
    go false false false one other e = absurd (both_ways _ (ap (λ (f : Spanned Fault). is_tab f.node) (sym (same_fault _ found e))) is)

module _ (s : Situation) (text : Text) (found : Spanned Fault) (tab : is_tab found.node ≡ true) where
  by_class : (class : Class) (len : ℕ) → longest_front (class_in language) text ≡ Some (class, len) → word_step s class (take len text) (drop len text) ≡ Fails found → TabLater text found
  by_class word.Skipped len front e = cc
  by_class word.Comment len front e = cc
  by_class word.Tabs len front e = record {
    begin = sym (ap (λ (f : Spanned Fault). f.begin) (same_fault _ found e));
    end = sym (ap (λ (f : Spanned Fault). f.end) (same_fault _ found e));
    stands = inl (word_tab text len front);
  }
  by_class word.LineEnd len front e = go (counts s.mode s.is_balanced) e
    where
      go : (counted : Bool) → (if counted then line_end (length (take len text)) s.levels (drop len text) else Stands (record { len = length (take len text); lexemes = []; width = None; sort = Other })) ≡ Fails found → TabLater text found
      go true e = record {
        begin = margin_begin (length (take len text)) (record { begin = 0; node = Newline; end = length (take len text) } ∷ []) s.levels (margin_of (drop len text)) found e;
        end = (margin_tab (length (take len text)) (record { begin = 0; node = Newline; end = length (take len text) } ∷ []) s.levels (margin_of (drop len text)) found tab e).1;
        stands = inr (record { len = len; size = length (take len text); levels = s.levels; lexemes = record { begin = 0; node = Newline; end = length (take len text) } ∷ []; line = word_line text len front; fails = e });
      }
      go false e = cc
  by_class (word.Opener kind is_raw quote) len front e = absurd (tab_not _ found (untabbed_opener s.mode kind _ _ _) e tab)
  by_class word.Reserved len front e = absurd (tab_not _ found refl e tab)
  by_class word.Identifier len front e = cc
  by_class word.Decimal len front e = absurd (tab_not _ found (either NoTab (starts_zero (take len text)) (fault 0 (StartsZero (take len text)) (length (take len text))) (token (length (take len text)) (Int (integer_of 10 (take len text)))) refl tt) e tab)
  by_class word.Hexadecimal len front e = cc
  by_class word.Octal len front e = cc
  by_class word.Binary len front e = cc
  by_class word.Float len front e = cc
  by_class (word.Fixed terminal) len front e = cc

  by_front : (front : Option (Class × ℕ)) → longest_front (class_in language) text ≡ front → front_step s text front ≡ Fails found → TabLater text found
  by_front None front e = absurd (tab_not _ found refl e tab)
  by_front (Some front) known e = by_class front.0 front.1 known e

  tab_in_code : in_code language s text ≡ Fails found → TabLater text found
  tab_in_code e = go text refl e
    where
      bang : (b : ℕ) (bs : Text) (bangs : Bool) → text ≡ b ∷ bs → (if bangs then token 1 FStringBang else front_step s (b ∷ bs) (longest_front (class_in language) (b ∷ bs))) ≡ Fails found → TabLater text found
      bang b bs true same e = cc
      bang b bs false same e = by_front (longest_front (class_in language) text) refl (subst (λ (t : Text). front_step s t (longest_front (class_in language) t) ≡ Fails found) (sym same) e)

      go : (t : Text) → text ≡ t → in_code language s t ≡ Fails found → TabLater text found
      go [] same e = cc
      go (b ∷ bs) same e = bang b bs (takes_bang s.mode s.before && is_bang (b ∷ bs)) same e

  tab_by_place : (mode : Mode) → by_mode language s mode text ≡ Fails found → TabLater text found
  tab_by_place Outside e = tab_in_code e
  tab_by_place (InText opening) e = absurd (tab_not _ found (untabbed_chunk opening text) e tab)
  tab_by_place AtTop e = tab_in_code e
  tab_by_place Deeper e = tab_in_code e

  tab_step : step_at language s text ≡ Fails found → TabAt text found
  unfolding step_at
  tab_step e = go s.before e
    where
      go : (before : Before) → by_before language s before text ≡ Fails found → TabAt text found
      go Nothing e = record { begin = margin_begin 0 [] s.levels (margin_of text) found e; stands = inl (s.levels, e) }
      go Layout e = anywhere (tab_by_place s.mode e)
      go Gap e = anywhere (tab_by_place s.mode e)
      go Other e = anywhere (tab_by_place s.mode e)

  later_step : is_nothing s.before ≡ false → step_at language s text ≡ Fails found → TabLater text found
  unfolding step_at
  later_step some e = go s.before some e
    where
      go : (before : Before) → is_nothing before ≡ false → by_before language s before text ≡ Fails found → TabLater text found
      go Nothing some e = cc
      go Layout some e = tab_by_place s.mode e
      go Gap some e = tab_by_place s.mode e
      go Other some e = tab_by_place s.mode e

pub tab_next : (history : History) (text : Text) (found : Spanned Fault) → is_tab found.node ≡ true → next_step language history text ≡ Fails found → TabAt text found
unfolding next_step situation
tab_next history text found tab e = tab_step (situation history) text found tab e

-- at the first margin
pub tab_first : (history : History) (text : Text) (found : Spanned Fault) → is_nothing history.before ≡ true → next_step language history text ≡ Fails found → FirstFails text found
tab_first history text found none e = (open_widths history.widths, sym (first_step_after history text none) ∙ e)

-- after the first margin
pub tab_later : (history : History) (text : Text) (found : Spanned Fault) → is_tab found.node ≡ true → is_nothing history.before ≡ false → next_step language history text ≡ Fails found → TabLater text found
unfolding next_step situation
tab_later history text found tab some e = later_step (situation history) text found tab some e

-- What such texts aren't

-- no margin fails at a line end, …
feed_stands : (levels : List ℕ) (bs : Text) (found : Spanned Fault) → first_margin levels (10 ∷ bs) ≡ Fails found → ⊥
unfolding margin_of margin_step lines
feed_stands levels bs found e = cc

return_stands : (levels : List ℕ) (bs : Text) (found : Spanned Fault) → first_margin levels (13 ∷ 10 ∷ bs) ≡ Fails found → ⊥
unfolding margin_of margin_step lines
return_stands levels bs found e = cc

-- a text that begins with a line end
begins_line : (text : Text) → begins_with_line_end text ≡ true → (n : ℕ) × BeginsLine text n
begins_line [] h = cc
begins_line (b ∷ bs) h = by (10 == b) refl bs h
  where
    none : (x y : Bool) → x ≡ false → ((x && true) || (y && false)) ≡ true → ⊥
    none true y e h = cc
    none false true e h = cc
    none false false e h = cc

    second : (x y : Bool) → x ≡ false → ((x && true) || y) ≡ true → y ≡ true
    second true y e h = cc
    second false y e h = h

    by : (feed : Bool) → (10 == b) ≡ feed → (bs : Text) → begins_with_line_end (b ∷ bs) ≡ true → (n : ℕ) × BeginsLine (b ∷ bs) n
    by true is bs h = (1, inl (bs, ap (λ (n : ℕ). n ∷ bs) (sym (eqb-true 10 b is)), refl))
    by false is [] h = absurd (none (10 == b) (13 == b) is h)
    by false is (c ∷ bs) h =
        let parts = and_parts (13 == b) (10 == c && true) (second (10 == b) (13 == b && (10 == c && true)) is h) in
        let one : 13 ≡ b = eqb-true 13 b parts.0 in
        let two : 10 ≡ c = eqb-true 10 c (and_parts (10 == c) true parts.1).0 in
        (2, inr (bs, rw (sym one, sym two) refl, refl))

pub line_end_stands : (text : Text) (found : Spanned Fault) → begins_with_line_end text ≡ true → FirstFails text found → ⊥
line_end_stands text found h (levels, e) = go (begins_line text h).1
  where
    go : {n : ℕ} → BeginsLine text n → ⊥
    go (inl line) = feed_stands levels line.0 found (subst (λ (t : Text). first_margin levels t ≡ Fails found) line.1 e)
    go (inr line) = return_stands levels line.0 found (subst (λ (t : Text). first_margin levels t ≡ Fails found) line.1 e)

-- … and none stands at a tab.
pub tab_no_line : (text : Text) → begins_with_tab text ≡ true → begins_with_line_end text ≡ false
tab_no_line [] h = cc
tab_no_line (b ∷ bs) h =
    let tab : 9 ≡ b = eqb-true 9 b h in
    subst (λ (b : ℕ). begins_with_line_end (b ∷ bs) ≡ false) tab refl

-- how long a line end is
pub line_is : (text : Text) (n : ℕ) → BeginsLine text n → line_end_len text ≡ n
line_is text n (inl line) = ap line_end_len line.1 ∙ sym line.2
line_is text n (inr line) = ap line_end_len line.1 ∙ sym line.2

-- A text that begins plainly begins with neither.
pub plain_no_tab : (text : Text) → begins_plainly text ≡ true → begins_with_tab text ≡ true → ⊥
unfolding begins_plainly
plain_no_tab [] plain h = cc
plain_no_tab (b ∷ bs) plain h =
    let tab : 9 ≡ b = eqb-true 9 b h in
    both_ways _ (subst (λ (b : ℕ). begins_plainly (b ∷ bs) ≡ false) tab refl) plain

pub plain_no_line : (text : Text) (n : ℕ) → begins_plainly text ≡ true → BeginsLine text n → ⊥
unfolding begins_plainly
plain_no_line text n plain (inl line) = both_ways _ (ap begins_plainly line.1) plain
plain_no_line text n plain (inr line) = both_ways _ (ap begins_plainly line.1) plain
