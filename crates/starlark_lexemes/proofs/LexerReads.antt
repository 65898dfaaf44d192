-- Reads of bytes, of a word and of a whole step.
use Rattle.std.proofs.Common.{rules, ◌≡◌, if◌then◌else◌, ◌==◌, ◌≢◌, ◌≤◌, ◌+◌, ◌-◌, ◌*◌, Bool, List, Option, Some, true, false, ℕ, drop, get_or, length, refl, subst, sym, arith}
use Rattle.std.proofs.lemmas.List.{length-drop, length-take}
use Rattle.starlark_grammar.specs.Front.{language_front}
use Rattle.starlark_grammar.specs.Tokens.{Fault, Spanned}
use Rattle.starlark_grammar.specs.Words.{Text}
use Rattle.starlark_grammar.specs.declared.class.Class.{Class}
use Rattle.starlark_grammar.specs.declared.class.Class.TheVariants as class
use Rattle.starlark_grammar.specs.declared.class.LiteralKind.{LiteralKind}
use Rattle.starlark_grammar.specs.declared.class.LiteralKind.TheVariants.{FString as OfFString}
use Rattle.starlark_grammar.specs.declared.class.Quote.{Quote}
use Rattle.starlark_token.specs.TokenViews.{TokenView}
use Rattle.starlark_words.specs.Inner.LiteralViews.{single_literal}
use Rattle.starlark_words.specs.Inner.PlainRuns.{IsRun}
use Rattle.starlark_words.specs.declared.scanner.word.Word.{Word}
use Rattle.starlark_reader.specs.Inner.Lookaheads.{HasPeeked, IsLiteralHere, is_opener, is_slow, most_peeked}
use Rattle.starlark_reader.specs.Inner.Reader.{IsAhead, IsWordHere, Origin}
use Rattle.starlark_reader.specs.Inner.ReadBounds.{HasRead, HasReadAt, HasScanned, HasScannedHere, HasStarted, IsPassedBy}
use Rattle.starlark_reader.specs.declared.reader.TakenLineEnd.{TakenLineEnd}
use Rattle.starlark_reader.specs.declared.reader.TakenLineEnd.TheVariants as line_end
use Rattle.starlark_reader.specs.declared.reader.Reader.{Reader}
use Rattle.starlark_reader.specs.declared.reader.Stage.TheVariants as stages
use Rattle.starlark_words.specs.Inner.ScannedWords.{is_common, peeked_len}
use Rattle.starlark_reader.proofs.TakenPieces.CodePlaces.{word_len, word_some}
use Rattle.starlark_reader.proofs.TakenPieces.PieceTaken.{left_onward}
use Rattle.starlark_reader.proofs.TakenPieces.ReaderReads.{onward_reads}

-- a word where a reader is has a byte at least, and lies inside of the text
pub word_inside : {origin : Origin} → (text : Text) (reader : Reader) (lexemes : List (Spanned TokenView)) (fault : Option (Spanned Fault)) (class : Class) (len : ℕ) → reader.stage ≡ stages.Onward → IsAhead origin text reader reader.stage lexemes fault
    → language_front (drop reader.at text) ≡ Some (class, len) → (1 ≤ len) × (reader.at + len ≤ length text)
word_inside text reader lexemes fault class len onward ahead front =
    let inside = (left_onward text reader lexemes fault onward ahead).is_left.1.inside in
    (word_some (drop reader.at text) class len front, omega (arith, inside, word_len (drop reader.at text) class len front, length-take len (drop reader.at text), length-drop reader.at text))

-- Reads of bytes after the offset

pub peeked_len_few : (text : Text) → peeked_len text ≤ 3
peeked_len_few text = go (get_or text 1 0 == get_or text 0 0)
  where
    go : (doubled : Bool) → (if doubled then 3 else 2) ≤ 3
    go true = omega arith
    go false = omega arith

-- more bytes are peeked at the same offset
pub peeked_more : (text : Text) (least most more extra at_least at_most : ℕ) (old new : Reader) → HasPeeked text least most old → HasScannedHere more extra old new → at_least ≤ least + more → most + extra ≤ at_most → HasPeeked text at_least at_most new
peeked_more text least most more extra at_least at_most old new peeked scanned enough few =
    (peeked.0, (omega (arith, peeked.1.0, scanned.0), omega (arith, peeked.1.1, scanned.0, scanned.2)), (omega (arith, enough, peeked.2.0, scanned.3.0), omega (arith, few, peeked.2.1, scanned.3.1)))

-- so it is where none were before
pub peeked_first : (text : Text) (more extra at_least at_most : ℕ) (old new : Reader) → old.stage ≡ stages.Onward → HasRead text old → HasScannedHere more extra old new → at_least ≤ more → extra ≤ at_most → HasPeeked text at_least at_most new
peeked_first text more extra at_least at_most old new onward has scanned enough few =
    let on : HasReadAt text old stages.Onward = subst (HasReadAt text old) onward has in
    (old.reads, (omega (arith, on.0, scanned.0), omega (arith, on.1, scanned.0, scanned.2)), (omega (arith, enough, scanned.3.0), omega (arith, few, scanned.3.1)))

-- and after the spaces at the offset
pub peeked_after : (text : Text) (least most at_most : ℕ) (old new : Reader) → old.stage ≡ stages.Onward → HasRead text old → HasScanned least most old new → most ≤ at_most → HasPeeked text least at_most new
peeked_after text least most at_most old new onward has scanned few =
    let on : HasReadAt text old stages.Onward = subst (HasReadAt text old) onward has in
    (old.reads + (new.at - old.at), (omega (arith, on.0, scanned.0), omega (arith, on.1, scanned.0, scanned.2)), (omega (arith, scanned.0, scanned.3.0), omega (arith, few, scanned.0, scanned.3.1)))

-- what was peeked is passed
pub peeked_taken : (text : Text) (least most len : ℕ) (old new : Reader) → HasPeeked text least most old → len ≤ least → most ≤ 10 * len → IsPassedBy (old.at + len) old new × (new.stage ≡ stages.Onward) → HasRead text new
peeked_taken text least most len old new peeked enough few passed = onward_reads text len peeked.0 old new peeked.1 (omega (arith, enough, peeked.2.0), omega (arith, few, peeked.2.1)) passed

-- or begins an f-string
pub peeked_begun : (text : Text) (len : ℕ) (old new : Reader) → 1 ≤ len → HasPeeked text len (5 * len - 2) old → HasStarted len old new → HasRead text new
peeked_begun text len old new some peeked begun =
    subst (HasReadAt text new) (sym begun.2) (omega (arith, peeked.1.0, peeked.2.0, begun.1, begun.4.0), omega (arith, some, peeked.1.1, peeked.2.1, begun.0, begun.3, begun.4.1))

-- the bounds of a word's reads
pub most_few : (word : Word) → (5 * word.len - 2 ≤ most_peeked word) × (most_peeked word ≤ 5 * word.len + 3)
most_few word = go (is_opener word.class)
  where
    go : (opens : Bool) → (5 * word.len - 2 ≤ (if opens then 5 * word.len - 2 else 5 * word.len + 3)) × ((if opens then 5 * word.len - 2 else 5 * word.len + 3) ≤ 5 * word.len + 3)
    go true = (omega arith, omega arith)
    go false = (omega arith, omega arith)

-- the opener of a literal that isn't plain, and the run after it
pub opened_here : (old new : Reader) (it : LiteralKind) (is_raw : Bool) (quote : Quote) (len run : ℕ) → it ≢ OfFString → new.text ≡ old.text → HasPeeked old.text.now len (5 * len - 2) old
    → IsWordHere new.text.now new (record { class = class.Opener it is_raw quote; len = len }) → IsRun (single_literal it is_raw quote) (drop len (drop new.at new.text.now)) run × HasScannedHere run (6 * run + 3) old new
    → IsLiteralHere old.text.now new (record { class = class.Opener it is_raw quote; len = len }) run
opened_here old new it is_raw quote len run other same peeked here known = search (rules, peeked_more)

-- a word that its first two bytes don't tell
pub slow_word : (word : Word) → is_common word.class ≡ false → word.class ≢ class.Skipped → word.class ≢ class.Comment → (is_slow word.class ≡ true) × (5 * word.len + 3 ≤ most_peeked word)
slow_word word = go word.class
  where
    go : (it : Class) → is_common it ≡ false → it ≢ class.Skipped → it ≢ class.Comment → (is_slow it ≡ true) × (5 * word.len + 3 ≤ most_peeked (record { class = it; len = word.len }))
    go class.Skipped common gap comment = absurd (gap refl)
    go class.Comment common gap comment = absurd (comment refl)
    go class.LineEnd common gap comment = cc
    go (class.Opener kind is_raw quote) common gap comment = cc
    go class.Reserved common gap comment = cc
    go class.Identifier common gap comment = cc
    go (class.Fixed terminal) common gap comment = cc
    go it common gap comment = (refl, omega arith)

-- a line end that counts isn't passed
pub newline_counts : (it : TakenLineEnd) → it ≡ line_end.Newline → it ≡ line_end.Passed → ⊥
newline_counts it newline passed = cc

pub pending_counts : (it : TakenLineEnd) → it ≡ line_end.Pending → it ≡ line_end.Passed → ⊥
pending_counts it pending passed = cc

pub fault_counts : (it : TakenLineEnd) → it ≡ line_end.Fault → it ≡ line_end.Passed → ⊥
fault_counts it fault passed = cc
