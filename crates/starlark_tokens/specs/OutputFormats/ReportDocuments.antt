-- What a document begins and ends with, around the reports of its files.
use Rattle.std.specs.Prelude.{ℕ, Bool, true, false, ◌==◌, if◌then◌else◌, [], ◌++◌, codes, drop}
use Rattle.std.specs.Fmt.{decimal}
use Rattle.std.specs.List.{join_with_byte}
use Rattle.starlark_base.specs.Places.{Text}
use Rattle.starlark_tokens.specs.declared.output_formats.form.Form.{Form}
use Rattle.starlark_tokens.specs.declared.output_formats.form.Form.TheVariants.{Json, JsonFaults, Sarif}
use Rattle.starlark_tokens.specs.OutputFormats.SarifRules.{rules}
use Rattle.starlark_tokens.specs.declared.reporting.totals.Totals.{Totals}
use Rattle.starlark_tokens.specs.declared.TheConstants.{VERSION}

-- the first line of a document of JSON, of a proved program
abbrev pub json_opening : Text
json_opening = codes "{\"format\":\"starlark_lexemes\",\"version\":1,\"proved\":true}\n"

-- a document of SARIF up to its rules
abbrev pub sarif_driver : Text
sarif_driver =
    codes "{\"$schema\":\"https://docs.oasis-open.org/sarif/sarif/v2.1.0/errata01/os/schemas/sarif-schema-2.1.0.json\",\n"
    ++ (codes "\"version\":\"2.1.0\",\"runs\":[{\"tool\":{\"driver\":{\"name\":\"starlark_tokens\",\"version\":\"" ++ (VERSION.now ++ codes "\",\"rules\":["))

-- a document of SARIF up to its results, of a proved program
unfoldable pub sarif_opening : Text
sarif_opening =
    sarif_driver ++ (join_with_byte 44 rules
    ++ codes "\n],\"properties\":{\"proved\":true}}},\"columnKind\":\"unicodeCodePoints\",\"results\":[")

-- what a document begins with
unfoldable pub opening : Form → Text
opening Json = json_opening
opening JsonFaults = json_opening
opening Sarif = sarif_opening
opening form = []

-- what was found, as fields of an object of JSON, and its end
unfoldable pub json_counts : Totals → Text
json_counts totals =
    codes ",\"files\":" ++ (decimal totals.files ++ (codes ",\"faulty_files\":" ++ (decimal totals.faulty_files
    ++ (codes ",\"faults\":" ++ (decimal totals.faults ++ (codes ",\"unreadable\":" ++ (decimal totals.unreadable ++ codes "}\n")))))))

-- the last line of a document of JSON
abbrev pub json_closing : Totals → Text
json_closing totals = codes "{\"kind\":\"Summary\"" ++ json_counts totals

-- how many files couldn't be read, and then what is told of each, as a field of an object of JSON
unfoldable pub notification : (unreadable : ℕ) → (notices : Text) → Text
notification unreadable notices =
    codes ",\"toolExecutionNotifications\":[{\"level\":\"error\",\"message\":{\"text\":\""
    ++ ((codes "files that couldn't be read: " ++ decimal unreadable) ++ (codes "\"}}" ++ (notices ++ codes "]")))

-- … if there are some
abbrev pub notifications : (unreadable : ℕ) → (notices : Text) → Text
notifications unreadable notices = if unreadable == 0 then [] else notification unreadable notices

-- a document of SARIF after its results
abbrev pub sarif_closing : Totals → (notices : Text) → Text
sarif_closing totals notices =
    codes "\n],\"invocations\":[{\"executionSuccessful\":" ++ ((if totals.unreadable == 0 then codes "true" else codes "false")
    ++ (notifications totals.unreadable notices ++ codes "}]}]}\n"))

-- what a document ends with, by what was found, and what is told of files that have no text
unfoldable pub closing : Form → Totals → (notices : Text) → Text
closing Json totals notices = json_closing totals
closing JsonFaults totals notices = json_closing totals
closing Sarif totals notices = sarif_closing totals notices
closing form totals notices = []

-- a form whose reports are collected before they are written
abbrev pub is_collected : Form → Bool
is_collected Sarif = true
is_collected form = false

-- the reports of all files; of those that are collected without the comma before the first result
abbrev pub body : Form → (reports : Text) → Text
body form reports = if is_collected form then drop 1 reports else reports

-- a document, by what was found, what is told of files that have no text, and the reports of all files
abbrev pub document : Form → Totals → (notices reports : Text) → Text
document form totals notices reports = opening form ++ (body form reports ++ closing form totals notices)
