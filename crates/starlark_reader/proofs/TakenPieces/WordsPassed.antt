-- A word, or a text of an f-string, that the reader passes.
use Rattle.std.proofs.Common.{◌≡◌, ◌==◌, ◌<◌, ◌≤◌, ◌+◌, ◌^◌, ℕ, Bool, List, [], None, Some, length, subst, take, ap, arith, drop, false, refl, sym, true, ◌∙◌}
use Rattle.std.proofs.lemmas.List.{length-take}
use Rattle.std.specs.Prelude.{Option}
use Rattle.starlark_grammar.specs.Reading.{History}
use Rattle.starlark_grammar.specs.Tokens.{Spanned}
use Rattle.starlark_token.specs.TokenViews.{TokenView}
use Rattle.starlark_token.specs.declared.tokens.Token.{Token}
use Rattle.starlark_reader.specs.Inner.StepViews.{text_step}
use Rattle.starlark_reader.specs.declared.literal.chunks.Chunk.{Chunk}
use Rattle.starlark_reader.proofs.TakenPieces.ChunksTaken.{chunk_some}
use Rattle.std.proofs.lemmas.Str.{IsUtf8-drop}
use Rattle.std.specs.Str.{IsCharBoundary}
use Rattle.starlark_grammar.proofs.Lists.{drop-sum}
use Rattle.starlark_grammar.proofs.Order.Edges.{boundary_shift}
use Rattle.starlark_grammar.specs.Front.{language_front}
use Rattle.starlark_grammar.specs.Pieces.{is_bang}
use Rattle.starlark_grammar.specs.Words.{Text}
use Rattle.starlark_grammar.specs.declared.class.Class.TheVariants as class
use Rattle.starlark_grammar.specs.declared.class.LiteralKind.TheVariants as kind
use Rattle.starlark_grammar.specs.declared.class.Quote.{Quote}
use Rattle.starlark_words.specs.Inner.LiteralViews.{IsPlainBody}
use Rattle.starlark_words.specs.declared.scanner.word.Word.{Word}
use Rattle.starlark_reader.specs.Inner.Pending.{comment_lexeme, owed}
use Rattle.starlark_reader.specs.Inner.ReadBounds.{IsTaken}
use Rattle.starlark_reader.specs.Inner.Reader.{IsAtCode, IsAtStep, IsPlainTextHere, IsReadPast, IsSound, IsStateAfter, IsWordHere, KeepsAhead, Origin, PassesNext, Takes, TakesNext, chunk_lexemes, fstring_text_lexeme, left_here, name_lexeme, step_here, text_lexeme}
use Rattle.starlark_reader.specs.declared.reader.Before.{Before}
use Rattle.starlark_reader.specs.declared.reader.Before.TheVariants as before
use Rattle.starlark_reader.specs.declared.reader.Reader.{Reader}
use Rattle.starlark_reader.specs.declared.reader.Stage.TheVariants as stage
use Rattle.starlark_reader.proofs.TakenPieces.CodePlaces.{word_cut}
use Rattle.starlark_reader.proofs.TakenPieces.PieceTaken.{comment_cut, comment_here, gap_here, name_here, nothing_taken, text_here, token_inside, token_passed, word_within}
use Rattle.starlark_reader.proofs.TakenPieces.SameTexts.{at_step, passed_here, state_here, taken_here}

-- the reader after a piece of `len` bytes
abbrev pub stepped : Reader → (len : ℕ) → Before → Reader
stepped old len sort = record old { at = old.at + len; before = sort; stage = stage.Onward }

-- a word has a byte at least, and lies inside of the text
pub word_inside_text : (old : Reader) (word : Word) → IsSound old → IsWordHere old.text.now old word → (1 ≤ word.len) × (old.at + word.len < 2 ^ 64)
word_inside_text old word sound stands =
    let left = state_here old sound stands.stage in
    let within = word_within old.text.now left.1 old word.class word.len left.2 stands in
    (within.0, omega (arith, within.1, sound.text.fits))

pub step_taken : (old new : Reader) (len : ℕ) (sort : Before) → 1 ≤ len → new ≡ stepped old len sort → IsTaken len old new
step_taken old new len sort some is =
    (some, (ap (λ (reader : Reader). reader.at) is, ap (λ (reader : Reader). reader.reads) is, omega (arith, ap (λ (reader : Reader). owed reader.pending) is)), ap (λ (reader : Reader). reader.stage) is)

pub step_in_code : (old new : Reader) (word : Word) (len : ℕ) (sort : Before) → IsWordHere old.text.now old word → new ≡ stepped old len sort → IsAtCode old.text.now new
step_in_code old new word len sort stands is = rw is (record { stage = refl; idle = stands.idle; code = stands.code })

pub gap_passed : (old new : Reader) (len : ℕ) → IsSound old → IsWordHere old.text.now old (record { class = class.Skipped; len = len }) → new ≡ stepped old len before.Gap → TakesNext old None new
gap_passed old new len sound stands is =
    taken_here old None new stands.stage stands.idle (λ origin history kept. nothing_taken old.text.now history old new len true sound.text.utf8 kept (gap_here old.text.now history old len kept stands) stands.idle is)

-- spaces at the offset, if there are any
pub spaces_word : (old : Reader) (gap : ℕ) (rest : Text) → IsAtCode old.text.now old → rest ≡ drop old.at old.text.now → language_front rest ≡ Some (class.Skipped, gap) → is_bang rest ≡ false → IsWordHere old.text.now old (record { class = class.Skipped; len = gap })
spaces_word old gap rest code same front bang = record { stage = code.stage; idle = code.idle; code = code.code; front = sym front ∙ ap language_front same; bang = ap is_bang (sym same) ∙ bang }

pub spaces_passed : (old mid : Reader) (gap : ℕ) → IsSound old → IsWordHere old.text.now old (record { class = class.Skipped; len = gap }) → mid ≡ stepped old gap before.Gap → KeepsAhead old mid × (mid.stage ≡ stage.Onward) × (mid.text ≡ old.text)
spaces_passed old mid gap sound stands is = (gap_passed old mid gap sound stands is, ap (λ (reader : Reader). reader.stage) is, ap (λ (reader : Reader). reader.text) is)

pub spaces_none : (old mid : Reader) → old.stage ≡ stage.Onward → mid ≡ old → KeepsAhead old mid × (mid.stage ≡ stage.Onward) × (mid.text ≡ old.text)
spaces_none old mid onward is = rw is ((λ origin lexemes fault ahead. ahead), onward, refl)

pub name_stepped : (old new : Reader) (len : ℕ) → IsSound old → IsWordHere old.text.now old (record { class = class.Identifier; len = len }) → new ≡ stepped old len before.Other → PassesNext old (name_lexeme old.text.now old.at len) new
name_stepped old new len sound stands is =
    passed_here old _ new stands.stage stands.idle (λ origin history kept. token_passed old.text.now history old new len _ sound.text.utf8 kept (name_here old.text.now history old len kept stands) stands.idle refl refl is)

pub comment_stepped : (old new : Reader) (len : ℕ) → IsSound old → IsWordHere old.text.now old (record { class = class.Comment; len = len }) → new ≡ stepped old len before.Other
    → PassesNext old (comment_lexeme old.text.now old.at (old.at + len)) new × IsCharBoundary old.text.now (old.at + 1)
comment_stepped old new len sound stands is =
    let left = state_here old sound stands.stage in (
      passed_here old _ new stands.stage stands.idle (λ origin history kept. token_passed old.text.now history old new len _ sound.text.utf8 kept (comment_here old.text.now history old len kept stands) stands.idle refl refl is),
      comment_cut old.text.now left.1 old len sound.text.utf8 left.2 stands,
    )

-- a string literal without escapes, whose opener has `len` bytes
module _ (old : Reader) (is_raw : Bool) (quote : Quote) (len body : ℕ) (sound : IsSound old) (stands : IsWordHere old.text.now old (record { class = class.Opener kind.Text is_raw quote; len = len })) (plain : IsPlainBody kind.Text is_raw quote (drop len (drop old.at old.text.now)) body) where
  pub string_inside : old.at + (len + body + 1) < 2 ^ 32
  string_inside =
      let left = state_here old sound stands.stage in
      let here = token_inside old.text.now left.1 old (len + body + 1) _ left.2 (text_here old.text.now left.1 old is_raw quote len body left.2 stands plain) in
      omega (arith, here.1, sound.text.fits)

  pub string_stepped : (new : Reader) → new ≡ stepped old (len + body + 1) before.Other → PassesNext old (text_lexeme old.text.now old.at len body) new
  string_stepped new is =
      passed_here old _ new stands.stage stands.idle
      (λ origin history kept. token_passed old.text.now history old new (len + body + 1) _ sound.text.utf8 kept (text_here old.text.now history old is_raw quote len body kept stands plain) stands.idle refl refl is)

  -- its value lies between character boundaries
  pub string_value : IsCharBoundary old.text.now (old.at + len) × IsCharBoundary old.text.now (old.at + len + body)
  string_value =
      let left = state_here old sound stands.stage in
      let word = word_cut (drop old.at old.text.now) (class.Opener kind.Text is_raw quote) len (IsUtf8-drop old.text.now old.at sound.text.utf8 left.2.boundary) (sym stands.front) in
      let first = boundary_shift old.text.now old.at len left.2.boundary word in
      (first, boundary_shift old.text.now (old.at + len) body first (rw (drop-sum old.at len old.text.now) plain.boundary))

-- a text of an f-string without escapes
module _ (old : Reader) (found : Chunk) (sound : IsSound old) (stands : IsPlainTextHere old.text.now old found) where
  -- its end, where it is empty
  pub text_end_here : found.len ≡ 0 → IsAtStep old (λ history step. step ≡ text_step [] found)
  text_end_here none =
      at_step old _ sound stands.stage stands.idle (λ origin history kept. stands.stands origin history kept ∙ ap (λ n. text_step (take n (drop old.at old.text.now)) found) none)

  pub text_end_taken : (given : Option (ℕ × Token × ℕ)) (new : Reader) → found.len ≡ 0 → Takes old (λ history step. step ≡ text_step [] found) given new → TakesNext old given new
  text_end_taken given new none read =
      taken_here old given new stands.stage stands.idle (λ origin history kept. read origin history kept (stands.stands origin history kept ∙ ap (λ n. text_step (take n (drop old.at old.text.now)) found) none))

  pub text_here_step : IsAtStep old (λ history step. step ≡ text_step (take found.len (drop old.at old.text.now)) found)
  text_here_step = at_step old _ sound stands.stage stands.idle stands.stands

  pub text_stepped : (new : Reader) → 0 < found.len → ((origin : Origin) (history : History) → IsStateAfter origin old.text.now history old → step_here old.text.now history old ≡ text_step (take found.len (drop old.at old.text.now)) found
      → IsReadPast origin old.text.now (left_here old.text.now history old) (chunk_lexemes old.at found.len (take found.len (drop old.at old.text.now))) new) → PassesNext old (fstring_text_lexeme old.text.now old.at found.len) new
  text_stepped new some read =
      let value = take found.len (drop old.at old.text.now) in
      let count : 0 < length value = omega (arith, length-take found.len (drop old.at old.text.now), stands.boundary.0, some) in
      let full : (length value == 0) ≡ false = grind (arith, count) in
      passed_here old _ new stands.stage stands.idle (λ origin history kept.
      subst (λ (passed : List (Spanned TokenView)). IsReadPast origin old.text.now (left_here old.text.now history old) passed new) (chunk_some old.at found.len value full) (read origin history kept (stands.stands origin history kept)))

  pub text_edges : IsCharBoundary old.text.now old.at × IsCharBoundary old.text.now (old.at + found.len)
  text_edges = let left = state_here old sound stands.stage in (left.2.boundary, boundary_shift old.text.now old.at found.len left.2.boundary stands.boundary)
