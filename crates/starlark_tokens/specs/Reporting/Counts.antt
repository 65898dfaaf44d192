-- What is said of all files of a run.
use Rattle.std.specs.Prelude.{ℕ, ◌==◌, if◌then◌else◌, [], ◌++◌, codes}
use Rattle.std.specs.Fmt.{decimal}
use Rattle.starlark_base.specs.Places.{Text}
use Rattle.starlark_tokens.specs.declared.reporting.totals.Totals.{Totals}

abbrev pub after_faults : ℕ → Text
after_faults count = if count == 1 then codes " fault in " else codes " faults in "

abbrev pub after_files : ℕ → Text
after_files count = if count == 1 then codes " file" else codes " files"

-- how many files couldn't be read, if there are some
abbrev pub unreadable_text : ℕ → Text
unreadable_text count = if count == 0 then [] else codes "; " ++ (decimal count ++ codes " couldn't be read")

-- how many files have faults, of how many
abbrev pub files_text : Totals → Text
files_text totals = decimal totals.faulty_files ++ (codes " of " ++ (decimal totals.files ++ after_files totals.files))

-- the line that counts faults and files
abbrev pub count_line : Totals → Text
count_line totals = decimal totals.faults ++ (after_faults totals.faults ++ (files_text totals ++ (unreadable_text totals.unreadable ++ codes "\n")))
