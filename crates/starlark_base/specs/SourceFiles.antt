-- Source files by their numbers.
use Rattle.std.specs.Prelude.{ℕ, List, ◌++◌, refl}
use Rattle.std.specs.Coded.{Coded, code_by, coded×, coded_list, coded_ℕ}
use Rattle.std.specs.FinMap.{FinMap, entries, empty, insert, from_entries}
use Rattle.std.specs.Ordering.{nat_cmp}
use Rattle.starlark_base.specs.Sources.{SourceFile}

-- the finite maps from numbers to source files
abbrev pub SourceFiles : Type 0
SourceFiles = FinMap nat_cmp SourceFile

-- a source file is stored as its fields
abbrev pub source_file_code : Coded SourceFile
source_file_code =
    code_by (ℕ × (List ℕ × List ℕ)) (coded× coded_ℕ (coded× (coded_list coded_ℕ) (coded_list coded_ℕ))) (λ f. (f.id, (f.filename, f.source))) (λ p. record { id = p.0; filename = p.1.0; source = p.1.1 }) (λ _. refl)

-- a collection of one source file
abbrev pub only : SourceFile → SourceFiles
only file = insert empty file.id file

-- the source files of both collections; of a number that both have, the first one's
unfoldable pub joined : SourceFiles → SourceFiles → SourceFiles
joined first second = from_entries (entries first ++ entries second)
