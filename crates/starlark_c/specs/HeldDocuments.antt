-- What a handle owns.
--     held_at alloc p held   what the pointer p owns: nothing, or a document on the heap with the right to free its block
use base.Fml.{Fml, ftrue}
use base.Stored.{Coded}
use denote.RawPtr.{Ptr}
use Rattle.std.specs.Prelude.{ℕ, length}
use Rattle.std.specs.declared.option.Option.{Option}
use Rattle.std.specs.declared.option.Option.TheVariants.{None, Some}
use Rattle.std.specs.Coded.{coded_option}
use Rattle.std.specs.Box.Ownership.{box_owns}
use Rattle.std.specs.Global.{Global}
use Rattle.std.specs.contracts.impls.GlobalAllocator.TheImpl.{ghosts}
use Rattle.starlark_document.specs.Documents.{DocumentView}
use Rattle.starlark_document.specs.contracts.document.Document.{the_row}

abbrev pub held_at : Global → Ptr → Option the_row.Denot → Fml
held_at alloc p None = ftrue
held_at alloc p (Some document) = box_owns (ghosts.dealloc_token alloc) the_row p document

abbrev pub document_coded : Coded (Option the_row.Denot)
document_coded = coded_option the_row.coded

-- the length of what is held: the text of a document, or nothing
abbrev pub held_len : Option DocumentView → ℕ
held_len None = 0
held_len (Some document) = length document.text
