-- A word that is read as a step, and what it reads.
use Rattle.std.proofs.Common.{◌≡◌, ◌≤◌, ◌<◌, ◌+◌, ◌*◌, ◌∙◌, ◌&&◌, ◌∷◌, [], ℕ, Bool, List, None, false, ap, arith, drop, length, refl, subst, sym, take}
use Rattle.std.proofs.lemmas.List.{length-drop}
use Rattle.starlark_grammar.specs.AfterFaults.{next_line}
use Rattle.starlark_grammar.specs.Depths.{InText, mode_after}
use Rattle.starlark_grammar.specs.Front.{language_front, longest_front}
use Rattle.starlark_grammar.specs.Inner.Openings.{opening_view}
use Rattle.starlark_grammar.specs.FrontCharacter.{first_character}
use Rattle.starlark_grammar.specs.Pieces.{Ends, Situation, chunk, fault, in_code, is_bang, opener, opening_of, takes_bang, word_step}
use Rattle.starlark_grammar.specs.Tokens.{InvalidInput, Opening, Token}
use Rattle.starlark_grammar.specs.declared.class.Class.TheVariants as class
use Rattle.starlark_grammar.specs.declared.class.LiteralKind.{LiteralKind}
use Rattle.starlark_grammar.specs.declared.class.Quote.{Quote}
use Rattle.starlark_grammar.specs.Reading.{History, next_step, situation}
use Rattle.starlark_grammar.specs.Words.{Text, language}
use Rattle.starlark_words.specs.Inner.Reads.{AreReads}
use Rattle.starlark_reader.specs.Inner.Lookaheads.{IsTextRun}
use Rattle.starlark_words.specs.declared.scanner.word.Word.{Word}
use Rattle.starlark_reader.specs.Inner.Nesting.{Represents, mode_view}
use Rattle.starlark_reader.specs.Inner.Pending.{owed}
use Rattle.starlark_grammar.specs.declared.class.Opening as code
use Rattle.starlark_reader.specs.declared.nesting.LexerMode.{LexerMode}
use Rattle.starlark_reader.specs.declared.nesting.LexerMode.TheVariants as modes
use Rattle.starlark_reader.specs.Inner.ReadBounds.{AreWordReads, HasRead, IsPassed, LeavesReads}
use Rattle.starlark_reader.specs.Inner.Reader.{IsInCode, IsSound, IsStateAfter, IsWordHere, Origin, step_here}
use Rattle.starlark_reader.specs.Inner.StepViews.{IsStep, ReadStep}
use Rattle.starlark_reader.specs.declared.reader.Reader.{Reader}
use Rattle.starlark_reader.proofs.TakenPieces.SameTexts.{state_here}
use Rattle.starlark_reader.proofs.NextLines.{front_line}
use Rattle.starlark_reader.proofs.TakenPieces.CodePlaces.{code_at, in_code_none, in_text, word_len}
use Rattle.starlark_reader.proofs.TakenPieces.PieceReads.{whole_reads}
use Rattle.starlark_reader.proofs.TakenPieces.PieceTaken.{after_sort, is_gap_sort, word_read, word_within}
use Rattle.starlark_reader.proofs.TakenPieces.ReaderReads.{IsReadBefore, state_reads, step_reads}
use Rattle.starlark_reader.proofs.TakenPieces.KeptReads.{front_leaves}

-- the step of the word is the step at the reader's offset
pub step_of_word : {origin : Origin} → (text : Text) (history : History) (reader : Reader) (word : Word) (front : Text) (step : ReadStep) → IsStateAfter origin text history reader → IsWordHere text reader word → front ≡ take word.len (drop reader.at text)
    → ((s : Situation) (remainder : Text) → IsStep (word_step s word.class front remainder) step) → IsStep (step_here text history reader) step
step_of_word text history reader word front step kept here e is =
    let whole = word_read text history reader word kept here in
    subst (λ stands. IsStep stands step) (ap (λ (t : Text). word_step (situation history) word.class t (drop word.len (drop reader.at text))) e ∙ sym whole) (is (situation history) (drop word.len (drop reader.at text)))

-- its reads are within the bound
pub word_step_reads : {origin : Origin} → (text : Text) (before between after : ℕ) (history : History) (word : Word) (step : ReadStep) (old new : Reader) → IsStateAfter origin text history old → IsWordHere text old word → IsStep (step_here text history old) step
    → IsReadBefore before old.at (owed old.pending) → AreReads word.len (5 * word.len + 3) before between → AreWordReads word.len 9 2 (next_line (take word.len (drop old.at text)) 0) 8 step between after
    → LeavesReads (5 * word.len + 3) (take word.len (drop old.at text)) step between after → IsPassed (record old { reads = after }) step new → HasRead text new
word_step_reads text before between after history word step old new kept here is has read more leaves passed =
    let rest = drop old.at text in
    step_reads text before history step (record old { reads = after }) new (state_reads text history old after kept) is has
    (whole_reads word.len (next_line (take word.len rest) 0) rest step before between after (omega (arith, (word_within text history old word.class word.len kept here).0)) (front_line rest word.len) read more)
    (front_leaves word.len (5 * word.len + 3) rest step before between after (omega (arith, read.1)) leaves) passed

-- a string or bytes literal is the step at its opener
pub literal_here : {origin : Origin} → (text : Text) (history : History) (reader : Reader) (kind : LiteralKind) (is_raw : Bool) (quote : Quote) (len : ℕ) (mode : LexerMode) (remainder : Text) (step : ReadStep) → IsStateAfter origin text history reader
    → IsWordHere text reader (record { class = class.Opener kind is_raw quote; len = len }) → ((tokens : List Token) → Represents tokens reader.nesting → mode_view mode ≡ mode_after tokens)
    → remainder ≡ drop len (drop reader.at text) → IsStep (opener (mode_view mode) kind (opening_of is_raw quote remainder) len remainder) step → IsStep (step_here text history reader) step
unfolding situation
literal_here text history reader kind is_raw quote len mode remainder step kept here in_mode e is =
    let rest = drop reader.at text in
    let at = mode_after history.tokens in
    let whole = word_read text history reader (record { class = class.Opener kind is_raw quote; len = len }) kept here
    ∙ ap (λ n. opener at kind (opening_of is_raw quote (drop len rest)) n (drop len rest)) (word_len rest (class.Opener kind is_raw quote) len (sym here.front)) in
    subst (λ stands. IsStep stands step) (ap (λ (t : Text). opener at kind (opening_of is_raw quote t) len t) e ∙ sym whole) (subst (λ at. IsStep (opener at kind (opening_of is_raw quote remainder) len remainder) step) (in_mode history.tokens kept.nesting) is)

-- the text of an f-string
pub chunk_here : {origin : Origin} → (text : Text) (history : History) (reader : Reader) (opening : Opening) → IsStateAfter origin text history reader → ((tokens : List Token) → Represents tokens reader.nesting → mode_after tokens ≡ InText opening) → step_here text history reader ≡ chunk opening (drop reader.at text)
unfolding next_step situation
chunk_here text history reader opening kept inside = in_text (is_gap_sort reader.before) (situation history) (drop reader.at text) opening (after_sort reader.before history.before kept.before) (inside history.tokens kept.nesting)

-- where no word is: in code, …
none_in_code : {origin : Origin} → (text : Text) (history : History) (reader : Reader) → IsStateAfter origin text history reader → IsInCode reader → step_here text history reader ≡ in_code language (situation history) (drop reader.at text)
unfolding next_step situation
none_in_code text history reader kept code = code_at (is_gap_sort reader.before) (situation history) (drop reader.at text) (mode_after history.tokens) (code history.tokens kept.nesting) (after_sort reader.before history.before kept.before) refl

-- … at the end of the text, …
pub end_here : {origin : Origin} → (text : Text) (history : History) (reader : Reader) → IsStateAfter origin text history reader → IsInCode reader → reader.at ≡ length text → step_here text history reader ≡ Ends
end_here text history reader kept code at = none_in_code text history reader kept code ∙ none_left (drop reader.at text) (omega (arith, at, length-drop reader.at text))
  where
    none_left : (rest : Text) → length rest ≡ 0 → in_code language (situation history) rest ≡ Ends
    none_left [] none = refl
    none_left (b ∷ bs) none = cc

-- (where no word begins, too)
pub no_front : (rest : Text) → length rest ≡ 0 → language_front rest ≡ None
unfolding language_front longest_front
no_front [] none = refl
no_front (b ∷ bs) none = cc

-- … and before it, where no bang is
pub none_here : {origin : Origin} → (text : Text) (history : History) (reader : Reader) → IsStateAfter origin text history reader → IsInCode reader → 0 < length (drop reader.at text) → language_front (drop reader.at text) ≡ None
    → (takes_bang (mode_after history.tokens) history.before && is_bang (drop reader.at text)) ≡ false → step_here text history reader ≡ fault 0 (InvalidInput (first_character (drop reader.at text))) (length (first_character (drop reader.at text)))
unfolding situation
none_here text history reader kept code some none bang = none_in_code text history reader kept code ∙ in_code_none (situation history) (drop reader.at text) some none bang

-- the first character of a text has a byte
pub character_some : (text : Text) → 0 < length text → 1 ≤ length (first_character text)
character_some [] some = absurd (omega (arith, some))
character_some (b ∷ bs) some = omega arith

-- the opening of a text is that of the innermost f-string
pub same_opening : (text : Text) (count : ℕ) (reader : Reader) (mode : LexerMode) (opening : code.Opening) (here : IsTextRun text count reader) → IsSound reader → ((tokens : List Token) → Represents tokens reader.nesting → mode_view mode ≡ mode_after tokens) → mode ≡ modes.InText opening
    → opening_view opening ≡ opening_view here.opening
same_opening text count reader mode opening here sound shown is =
    let left = state_here reader sound here.stage in
    text_of (sym (ap mode_view is) ∙ shown left.1.tokens left.2.nesting ∙ here.inside left.1.tokens left.2.nesting)
  where
    text_of : {a b : Opening} → InText a ≡ InText b → a ≡ b
    text_of e = cc
