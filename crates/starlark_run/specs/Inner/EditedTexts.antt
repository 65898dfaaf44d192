-- The versions of a text, as the code stores them.
use Rattle.std.specs.Prelude.{◌≡◌, ◌≤◌, ℕ, List, [], ◌∷◌, length, take, string_bytes, Result, Err, ⊤}
use Rattle.std.specs.Str.{IsCharBoundary}
use Rattle.starlark_base.specs.Places.{Text}
use Rattle.starlark_base.specs.Sources.{Holds}
use Rattle.starlark_run.specs.Edits.{edit_span, edited_text, greatest_len}
use Rattle.starlark_run.specs.Relexed.{IsCutBefore, IsReadOn}
use Rattle.starlark_base.specs.declared.edit.Edit.{Edit}
use Rattle.starlark_run.specs.declared.edited_texts.Version.{Version}
use Rattle.starlark_run.specs.declared.ends.RunFault.{RunFault}
use Rattle.starlark_run.specs.declared.ends.RunFault.TheVariants.{TooLong, BadEdit, Memory}

-- an edit fits a text
pub record Fits (text : Text) (edit : Edit) : Type 0 where
  pub order : edit.from ≤ edit.to
  pub held : Holds text (edit_span edit)

-- up to the edit's offset the version equals the text before it
pub record Follows (text : Text) (version : Version) : Type 0 where
  pub old : IsCharBoundary text version.from
  pub new : IsCharBoundary (string_bytes version.text) version.from
  pub same : take version.from text ≡ take version.from (string_bytes version.text)
  pub fits : length (string_bytes version.text) ≤ greatest_len

-- each version follows the one before
abbrev pub AreVersions : Text → List Version → Type 0
AreVersions text [] = ⊤
AreVersions text (version ∷ versions) = Follows text version × AreVersions (string_bytes version.text) versions

-- the text of the last version; the first text if there is none
abbrev pub newest_text : Text → List Version → Text
newest_text text [] = text
newest_text text (version ∷ versions) = newest_text (string_bytes version.text) versions

-- the version is the text after an edit
pub record IsVersion (text : Text) (edit : Edit) (version : Version) : Type 0 where
  pub from : version.from ≡ edit.from
  pub edited : string_bytes version.text ≡ edited_text text edit

-- the versions are the texts after edits, one after another
abbrev pub AreVersionsAfter : Text → List Edit → List Version → Type 0
AreVersionsAfter text [] [] = ⊤
AreVersionsAfter text (edit ∷ edits) (version ∷ versions) = IsVersion text edit version × AreVersionsAfter (string_bytes version.text) edits versions
AreVersionsAfter text edits versions = ⊥

-- each version was read from the last kept cut on of the text before it
abbrev pub AreVersionsRelexed : Text → List Version → List ℕ → Type 0
AreVersionsRelexed text [] [] = ⊤
AreVersionsRelexed text (version ∷ versions) (reads ∷ more) =
    ((at : ℕ) × IsCutBefore text version.from at × IsReadOn (string_bytes version.text) at reads) × AreVersionsRelexed (string_bytes version.text) versions more
AreVersionsRelexed text versions reads = ⊥

-- the first text was lexed from its start, and each version from the one before it
abbrev pub AreVersionsLexed : Text → List Version → List ℕ → Type 0
AreVersionsLexed text versions [] = ⊥
AreVersionsLexed text versions (reads ∷ more) = IsReadOn text 0 reads × AreVersionsRelexed text versions more

-- why there are no versions: an edit fails, or memory runs out
abbrev pub IsRefusal : Result Text RunFault → RunFault → Type 0
IsRefusal text Memory = ⊤
IsRefusal text TooLong = text ≡ Err TooLong
IsRefusal text (BadEdit at) = text ≡ Err (BadEdit at)
IsRefusal text fault = ⊥
