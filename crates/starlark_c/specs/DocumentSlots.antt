-- Documents that C holds. A slot holds a document, or nothing: `None`. Each definition says what a call does with what the
-- slot held before and holds after.
use Rattle.std.specs.Prelude.{◌≡◌, ◌<◌, ◌≤◌, ◌^◌, ◌-◌, ℕ, Bool, true, false, ◌++◌, length, drop, Option, Some, None, IsSome}
use Rattle.std.specs.List.{slice_range}
use Rattle.std.specs.Str.{IsCharBoundary, IsUtf8}
use Rattle.starlark_c.specs.Endings.{IsText}
use Rattle.starlark_c.specs.Replies.{change_record}
use Rattle.starlark_c.specs.declared.places.PlaceRecord.{PlaceRecord}
use Rattle.starlark_c.specs.declared.replies.ChangeRecord.{ChangeRecord}
use Rattle.starlark_c.specs.declared.replies.Reply.{Reply}
use Rattle.starlark_c.specs.declared.replies.Reply.TheVariants as reply
use Rattle.starlark_document.specs.Documents.{DocumentView, IsChange, IsEdit, IsLocal, IsRange, edited}
use Rattle.starlark_document.specs.Utf16Places.{StandsAt, place_of}
use Rattle.starlark_document.specs.declared.document.Change.{Change}
use Rattle.starlark_document.specs.declared.line_places.Place.{Place}
use Rattle.starlark_grammar.specs.Words.{Text}

-- the slot holds no document, before and after
abbrev pub HoldsNone : (old new : Option DocumentView) → Type 0
HoldsNone old new = (old ≡ None) × (new ≡ None)

-- the slot holds a document, of whose text something is said, and which stays as it is
abbrev pub Keeps : (old new : Option DocumentView) → (Text → Type 0) → Type 0
Keeps old new Said = (document : DocumentView) × (old ≡ Some document) × (new ≡ Some document) × Said document.text

-- the slot holds a document before and after, of both of which something is said
abbrev pub Turns : (old new : Option DocumentView) → (DocumentView → DocumentView → Type 0) → Type 0
Turns old new Said = (before : DocumentView) × (after : DocumentView) × (old ≡ Some before) × (new ≡ Some after) × Said before after

-- opening a document of some bytes
abbrev pub Opens : Text → (old new : Option DocumentView) → Reply → Type 0
Opens bytes old new reply.Done = IsText bytes × (old ≡ None) × ((document : DocumentView) × (new ≡ Some document) × (document.text ≡ bytes))
Opens bytes old new reply.Opened = IsSome old × (new ≡ old)
Opens bytes old new reply.NotUtf8 = ¬ IsUtf8 bytes × HoldsNone old new
Opens bytes old new reply.TooLong = (2 ^ 32 ≤ length bytes) × HoldsNone old new
Opens bytes old new reply.Memory = IsText bytes × HoldsNone old new
Opens bytes old new other = ⊥

-- the record of a change from one document to another
abbrev pub TellsChange : (from to : ℕ) → (old new : DocumentView) → ChangeRecord → Type 0
TellsChange from to old new told = (change : Change) × IsChange old.text new.text change × IsLocal from to old new change × (told ≡ change_record change)

-- an edit that changed neither the document nor the caller's record
abbrev pub ChangesNothing : (old new : DocumentView) → (before after : ChangeRecord) → Type 0
ChangesNothing old new before after = (new ≡ old) × (after ≡ before)

-- an edit of a document, and what the caller's record says after it
abbrev pub EditsText : (from to : ℕ) → (bytes : Text) → (old new : DocumentView) → (before after : ChangeRecord) → Reply → Type 0
EditsText from to bytes old new before after reply.Done =
    IsUtf8 bytes × IsEdit old.text (from, to, bytes) × (new.text ≡ edited from to bytes old.text) × TellsChange from to old new after
EditsText from to bytes old new before after reply.NotUtf8 = ¬ IsUtf8 bytes × ChangesNothing old new before after
EditsText from to bytes old new before after reply.BadRange = IsUtf8 bytes × (¬ IsRange old.text from to) × ChangesNothing old new before after
EditsText from to bytes old new before after reply.TooLong =
    IsUtf8 bytes × IsRange old.text from to × (2 ^ 32 ≤ length (edited from to bytes old.text)) × ChangesNothing old new before after
EditsText from to bytes old new before after reply.Memory = IsUtf8 bytes × IsEdit old.text (from, to, bytes) × ChangesNothing old new before after
EditsText from to bytes old new before after other = ⊥

-- … of the document in a slot
abbrev pub Edits : (from to : ℕ) → (bytes : Text) → (old new : Option DocumentView) → (before after : ChangeRecord) → Reply → Type 0
Edits from to bytes old new before after reply.Closed = HoldsNone old new × (after ≡ before)
Edits from to bytes old new before after done = Turns old new (λ document changed. EditsText from to bytes document changed before after done)

-- writing a part of a text into a buffer
abbrev pub GivesSlice : (from to : ℕ) → Text → (before after : Text) → Reply → Type 0
GivesSlice from to text before after reply.Done =
    IsRange text from to × (to - from ≤ length before) × (after ≡ slice_range text from to ++ drop (to - from) before)
GivesSlice from to text before after reply.Full = IsRange text from to × (length before < to - from) × (after ≡ before)
GivesSlice from to text before after reply.BadRange = (¬ IsRange text from to) × (after ≡ before)
GivesSlice from to text before after reply.Memory = IsRange text from to × (after ≡ before)
GivesSlice from to text before after other = ⊥

-- … of the document in a slot
abbrev pub GivesText : (from to : ℕ) → (old new : Option DocumentView) → (before after : Text) → Reply → Type 0
GivesText from to old new before after reply.Closed = HoldsNone old new × (after ≡ before)
GivesText from to old new before after done = Keeps old new (λ text. GivesSlice from to text before after done)

-- a place as a record
abbrev pub record_of_place : Place → PlaceRecord
record_of_place place = record { line = place.line; column = place.column; utf16_column = place.utf16_column }

-- whether the place of an offset of a text is told
abbrev pub TellsPlaceIn : (at : ℕ) → Text → (before after : PlaceRecord) → Bool → Type 0
TellsPlaceIn at text before after true = IsCharBoundary text at × (after ≡ record_of_place (place_of text at))
TellsPlaceIn at text before after false = (¬ IsCharBoundary text at) × (after ≡ before)

-- … of the document in a slot
abbrev pub TellsPlaceOf : (at : ℕ) → (old new : Option DocumentView) → (before after : PlaceRecord) → Bool → Type 0
TellsPlaceOf at None new before after told = (told ≡ false) × (new ≡ None) × (after ≡ before)
TellsPlaceOf at (Some document) new before after told = (new ≡ Some document) × TellsPlaceIn at document.text before after told

-- what is returned where there is no offset: the greatest number of 64 bits
abbrev pub no_offset : ℕ
no_offset = 2 ^ 64 - 1

-- the offset of a line and a column in units of UTF-16 in what a slot holds
pub record IsOffsetAt (line column : ℕ) (held : Option DocumentView) (told : ℕ) : Type 0 where
  pub some : (document : DocumentView) (at : ℕ) → held ≡ Some document → StandsAt document.text line column at → told ≡ at
  pub none : ((document : DocumentView) (at : ℕ) → held ≡ Some document → ¬ StandsAt document.text line column at) → told ≡ no_offset
