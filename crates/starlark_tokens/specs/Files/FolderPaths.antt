-- Paths of files in folders, which of them a walk takes, and the name of standard input.
use Rattle.std.specs.Fs.{IsFile, file_type}
use Rattle.std.specs.List.{after_last}
use Rattle.std.specs.Prelude.{◌≡◌, Bool, true, false, not, ◌&&◌, ◌==◌, if◌then◌else◌, List, [], ◌∷◌, ◌++◌, String, codes, map, string_bytes}
use Rattle.std.specs.Str.{is_utf8}
use Rattle.std.specs.Str.Lossy.{utf8_lossy}
use Rattle.std.specs.declared.alloc.Global.{Global}
use Rattle.std.specs.declared.fs.attrs.Metadata.{Metadata}
use Rattle.starlark_base.specs.Places.{Text}
use Rattle.starlark_tokens.specs.CommandLine.CommandWords.{is_same}
use Rattle.starlark_tokens.specs.Files.FileNames.{ends_with, is_left_out, is_read}
use Rattle.starlark_tokens.specs.Reporting.Totals.{with_lost}
use Rattle.starlark_tokens.specs.declared.command_line.requests.Reports.{Reports as ReportsRecord}
use Rattle.starlark_tokens.specs.declared.files.folders.Search.{Search}
use Rattle.starlark_tokens.specs.declared.files.sources.Source.TheVariants.{File, Input}

-- what the paths in a folder begin with
abbrev pub path_prefix : (folder : Text) → Text
path_prefix folder =
    if is_same folder (codes ".") then [] else (if ends_with (codes "/") folder then folder else folder ++ codes "/")

-- the first name of some, with replacement characters where it isn't UTF-8
abbrev pub first_or_stdin : List Text → Text
first_or_stdin [] = codes "<stdin>"
first_or_stdin (name ∷ names) = utf8_lossy name

-- the name of standard input in reports
abbrev pub stdin_name : ReportsRecord → Text
stdin_name wanted = first_or_stdin (map (λ name. name.now) wanted.stdin_names.items)

-- the name at the end of a path
abbrev pub last_name : (path : Text) → Text
last_name path = after_last (λ byte. byte == 47) path

-- the path of a name in a folder isn't left out
abbrev pub is_taken : Search → (prefix name : Text) → Bool
is_taken search prefix name = not (is_left_out search.excluded.items false name (prefix ++ name))

-- one element more, if there is reason to
abbrev pub with_if : {X : Type 0} → Bool → List X → X → List X
with_if is_so others x = if is_so then others ++ x ∷ [] else others

-- The path of a name in a folder is to be visited, unless it is left out. One that isn't UTF-8 is lost.
pub record TakesName (prefix name : Text) (old new : Search) : Type 0 where
  pub pending : map string_bytes new.pending.items ≡ with_if (is_taken old prefix name && is_utf8 (prefix ++ name)) (map string_bytes old.pending.items) (prefix ++ name)
  pub sources : new.sources ≡ (if is_taken old prefix name && not (is_utf8 (prefix ++ name)) then with_lost old.sources else old.sources)

-- There is a file where its metadata say so. Of a link they don't say it.
abbrev pub SaysFile : Metadata → (is_file : Bool) → Type 0
SaysFile metadata is_file = IsFile (file_type metadata) → is_file ≡ true

-- A file that is found in a folder is a source if it is read.
pub record TakesFile (path : String Global) (metadata : Metadata) (old new : Search) : Type 0 where
  pub is_file : Bool
  pub says : SaysFile metadata is_file
  pub all : new.sources.all.items ≡ with_if (is_read old.included.items (last_name (string_bytes path)) (string_bytes path) && is_file) old.sources.all.items (File path)

-- Standard input is a source.
pub record TakesStdin (old new : Search) : Type 0 where
  pub name : String Global
  pub is_name : string_bytes name ≡ stdin_name old.wanted.now
  pub all : new.sources.all.items ≡ old.sources.all.items ++ Input name ∷ []
