-- The calls of readers and writers, one by one.
use Rattle.std.specs.Prelude.{◌≡◌, ◌<◌, ℕ, Bool, true, false, List, [], ◌∷◌, ◌++◌, take, drop, length, Option, Result, Ok, Err, is_err, ⊤}
use Rattle.std.specs.List.{AllByRecursion, flat_map}
use Rattle.std.specs.Io.KnownBytes.{Appends, Consumes, IsAtEnd, Keeps}
use Rattle.std.specs.IoError.{error_kind}
use Rattle.std.specs.declared.io.Error.{Error}
use Rattle.std.specs.declared.io.ErrorKind.TheVariants.{WriteZero}

-- the bytes that a device gives or takes
abbrev pub Bytes : Type 0
Bytes = List ℕ

-- a reader's account of its calls: the bytes that are left in it if they are known, and what one
-- read does; a read has the reader before it, the buffer after it, what it returned, and the reader
-- after it
pub record ReaderCalls (R : Type 0) : Type 1 where
  pub remaining : R → Option Bytes
  pub read : R → Bytes → Result ℕ Error → R → Type 0

-- a writer's account of its calls: the bytes that it has if they are known, what one write does, and
-- what one flush does; a write has the piece, and each has what it returned
pub record WriterCalls (W : Type 0) : Type 1 where
  pub contents : W → Option Bytes
  pub write : W → Bytes → Result ℕ Error → W → Type 0
  pub flush : W → Result ⊤ Error → W → Type 0

-- what std's `Read` says of a read
abbrev pub StdRead : {R : Type 0} → (R → Option Bytes) → R → Bytes → Result ℕ Error → R → Type 0
StdRead remaining old room (Ok count) new = Consumes (remaining old) (remaining new) (take count room)
StdRead remaining old room (Err error) new = Keeps (remaining old) (remaining new)

-- a reader of which std's `Read` is all that is known
abbrev pub std_reader : {R : Type 0} → (R → Option Bytes) → ReaderCalls R
std_reader remaining = record { remaining = remaining; read = StdRead remaining }

-- what std's `Write` says of a write
abbrev pub StdWrite : {W : Type 0} → (W → Option Bytes) → W → Bytes → Result ℕ Error → W → Type 0
StdWrite contents old piece (Ok count) new = Appends (contents old) (contents new) (take count piece)
StdWrite contents old piece (Err error) new = Keeps (contents old) (contents new)

-- a writer of which std's `Write` is all that is known
abbrev pub std_writer : {W : Type 0} → (W → Option Bytes) → WriterCalls W
std_writer contents = record {
  contents = contents;
  write = StdWrite contents;
  flush = λ old result new. Keeps (contents old) (contents new);
}

-- one call of a reader: the buffer after it, what it returned, and the reader after it
pub record ReadCall (R : Type 0) : Type 0 where
  pub room : Bytes
  pub result : Result ℕ Error
  pub after : R

-- these calls of a reader were made, one after another, and no others
abbrev pub WasRead : {R : Type 0} → ReaderCalls R → R → List (ReadCall R) → R → Type 0
WasRead calls old [] new = new ≡ old
WasRead calls old (call ∷ more) new = calls.read old call.room call.result call.after × WasRead calls call.after more new

-- the bytes that a call gave
abbrev pub given_by : {R : Type 0} → ReadCall R → Bytes
given_by call = by call.result
  where
    by : Result ℕ Error → Bytes
    by (Ok count) = take count call.room
    by (Err error) = []

-- the call gave some bytes
abbrev pub GaveSome : {R : Type 0} → ReadCall R → Type 0
GaveSome call = by call.result
  where
    by : Result ℕ Error → Type 0
    by (Ok count) = 0 < count
    by (Err error) = ⊥

-- how reading stopped: by a call that found the end, by one that failed, or before either
abbrev pub StoppedBy : {R : Type 0} → (ended failed : Bool) → List (ReadCall R) → Type 0
StoppedBy false false [] = ⊤
StoppedBy true false (call ∷ []) = (call.result ≡ Ok 0) × (0 < length call.room)
StoppedBy false true (call ∷ []) = is_err call.result ≡ true
StoppedBy ended failed calls = ⊥

-- a text was read from a reader by calls that gave its bytes in order; if the reader ended or
-- failed, one more call was made, the last, so no failed call was tried again; if it ended, nothing
-- is left in it
pub record Came {R : Type 0} (calls : ReaderCalls R) (old new : R) (ended failed : Bool) (came : Bytes) : Type 0 where
  pub bytes : Consumes (calls.remaining old) (calls.remaining new) came
  pub nothing_left : ended ≡ true → IsAtEnd (calls.remaining new)
  pub log : List (ReadCall R)
  pub last : List (ReadCall R)
  pub order : WasRead calls old (log ++ last) new
  pub some : AllByRecursion GaveSome log
  pub given : flat_map given_by log ≡ came
  pub stopped : StoppedBy ended failed last

-- one call of a writer, what it returned, and the writer after it: a write of a piece, or a flush
pub data WriterCall (W : Type 0) : Type 0 where
  Wrote : (piece : Bytes) (result : Result ℕ Error) (after : W) → WriterCall W
  Flushed : (result : Result ⊤ Error) (after : W) → WriterCall W

-- these calls of a writer were made, one after another, and no others
abbrev pub WasWritten : {W : Type 0} → WriterCalls W → W → List (WriterCall W) → W → Type 0
WasWritten calls old [] new = new ≡ old
WasWritten calls old (Wrote piece result after ∷ more) new = calls.write old piece result after × WasWritten calls after more new
WasWritten calls old (Flushed result after ∷ more) new = calls.flush old result after × WasWritten calls after more new

-- the bytes that a call took
abbrev pub taken_by : {W : Type 0} → WriterCall W → Bytes
taken_by (Wrote piece (Ok count) after) = take count piece
taken_by call = []

-- the call took some bytes
abbrev pub TookSome : {W : Type 0} → WriterCall W → Type 0
TookSome (Wrote piece (Ok count) after) = 0 < count
TookSome call = ⊥

-- the call failed, and returned the error; or it took nothing of some bytes, which is a `WriteZero`
abbrev pub FailedWith : {W : Type 0} → Error → WriterCall W → Type 0
FailedWith error (Wrote piece (Ok count) after) = (count ≡ 0) × (0 < length piece) × (error_kind error ≡ WriteZero)
FailedWith error (Wrote piece (Err returned) after) = error ≡ returned
FailedWith error (Flushed (Ok x) after) = ⊥
FailedWith error (Flushed (Err returned) after) = error ≡ returned

-- how far writing is: it goes on, or it is done by a flush, or it stopped at a failure, with an error
pub data Ending : Type 0 where
  Going : Ending
  Done : Ending
  Broken : (error : Error) → Ending

-- the last call, by how far writing is
abbrev pub EndedBy : {W : Type 0} → Ending → List (WriterCall W) → Type 0
EndedBy Going [] = ⊤
EndedBy Done (Flushed (Ok x) after ∷ []) = ⊤
EndedBy (Broken error) (call ∷ []) = FailedWith error call
EndedBy ending calls = ⊥

-- a text was written to a writer by calls that took its bytes in order; then a flush if writing is
-- done, or if it stopped one call that failed, the last, so no failed call was tried again
pub record Went {W : Type 0} (calls : WriterCalls W) (ending : Ending) (old new : W) (taken : Bytes) : Type 0 where
  pub bytes : Appends (calls.contents old) (calls.contents new) taken
  pub log : List (WriterCall W)
  pub last : List (WriterCall W)
  pub order : WasWritten calls old (log ++ last) new
  pub some : AllByRecursion TookSome log
  pub given : flat_map taken_by log ≡ taken
  pub ended : EndedBy ending last

-- the result of writing a text by calls of a writer: it took all of it, or a beginning of it before a
-- call that failed, whose error is returned; it wasn't flushed
unfoldable pub WritesText : {W T : Type 0} → WriterCalls W → W → W → Bytes → Result T Error → Type 0
WritesText calls old new text (Ok x) = Went calls Going old new text
WritesText calls old new text (Err error) = (taken : Bytes) × (left : Bytes) × Went calls (Broken error) old new taken × (taken ++ left ≡ text)

-- each write was offered all that was left of a text, and `left` is what is left after these calls
abbrev pub AreOffered : {W : Type 0} → (text left : Bytes) → List (WriterCall W) → Type 0
AreOffered text left [] = left ≡ text
AreOffered text left (Wrote piece (Ok count) after ∷ more) = (piece ≡ text) × AreOffered (drop count text) left more
AreOffered text left (Wrote piece (Err error) after ∷ more) = (piece ≡ text) × AreOffered text left more
AreOffered text left (Flushed result after ∷ more) = ⊥

-- a writer was called, each time with all that was left of a text
abbrev pub Offers : {W : Type 0} → WriterCalls W → W → W → (text left : Bytes) → Type 0
Offers {W = W} calls old new text left = (log : List (WriterCall W)) × WasWritten calls old log new × AreOffered text left log

-- that, by the result of writing the text
abbrev pub OffersText : {W T E : Type 0} → WriterCalls W → W → W → Bytes → Result T E → Type 0
OffersText calls old new text (Ok x) = Offers calls old new text []
OffersText calls old new text (Err error) = (left : Bytes) × Offers calls old new text left
