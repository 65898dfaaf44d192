-- What the words of a command line ask for.
use Rattle.std.specs.Prelude.{◌≡◌, ℕ, ◌-◌, ◌*◌, ◌+◌, ◌^◌, ◌==◌, nat_lt, Bool, true, false, fold, map, ◌++◌, ◌&&◌, ◌||◌, not, length, codes, drop, List, [], ◌∷◌, Option, Some, None, if◌then◌else◌}
use Rattle.std.specs.Char.{is_ascii_digit}
use Rattle.std.specs.List.{flat_map, list_all, list_any}
use Rattle.std.specs.Option.{option_map, unwrap_or}
use Rattle.starlark_base.specs.Places.{Text}
use Rattle.starlark_tokens.specs.CommandLine.CommandWords.{begins_with, is_any, is_same}
use Rattle.starlark_tokens.specs.declared.told_faults.filters.Filter.{Filter}
use Rattle.starlark_tokens.specs.declared.output_formats.form.Columns.{Columns}
use Rattle.starlark_tokens.specs.declared.output_formats.form.Columns.TheVariants.{Characters, Bytes, Utf16}
use Rattle.starlark_tokens.specs.declared.output_formats.form.Form.{Form}
use Rattle.starlark_tokens.specs.declared.output_formats.form.Form.TheVariants as shown
use Rattle.starlark_tokens.specs.declared.output_formats.form.Style.{Style}
use Rattle.starlark_tokens.specs.declared.output_formats.form.Terminal.{Terminal}
use Rattle.starlark_tokens.specs.Files.NameLists.{names_between}
use Rattle.starlark_tokens.specs.Reporting.Reports.{shows_faults}
use Rattle.starlark_tokens.specs.Reporting.Totals.{in_64_bits}
use Rattle.starlark_tokens.specs.declared.command_line.requests.Colour.{Colour}
use Rattle.starlark_tokens.specs.declared.command_line.requests.Colour.TheVariants.{Auto, Always, Never}
use Rattle.starlark_tokens.specs.declared.command_line.requests.Format.{Format}
use Rattle.starlark_tokens.specs.declared.command_line.requests.Format.TheVariants.{Text as AsText, Json, Github, Sarif}
use Rattle.starlark_tokens.specs.declared.command_line.requests.Reports.{Reports as ReportsRecord}
use Rattle.starlark_tokens.specs.declared.command_line.requests.Request.{Request}
use Rattle.starlark_tokens.specs.declared.command_line.requests.Request.TheVariants.{Unknown, Help, Version, Explain, Reports}
use Rattle.starlark_tokens.specs.declared.command_line.command_words.Words.{Words as WordsRecord}

-- a word that is an option: it begins with `-` and isn't `-` alone
abbrev pub is_option : Text → Bool
is_option word = begins_with (codes "-") word && not (is_same word (codes "-"))

-- a long option without a value
abbrev pub is_flag : Text → Bool
is_flag = is_any (codes "--check" ∷ codes "--json" ∷ codes "--quiet" ∷ codes "--version" ∷ codes "--help" ∷ [])

-- a letter of a short option: `q`, `V` or `h`
abbrev pub is_short_letter : ℕ → Bool
is_short_letter byte = byte == 113 || (byte == 86 || byte == 104)

-- a short option, or several in one word: letters after one `-`
abbrev pub is_short : Text → Bool
is_short word = begins_with (codes "-") word && (nat_lt 1 (length word) && list_all is_short_letter (drop 1 word))

-- the short option of a letter is among words, alone or joined with others
abbrev pub has_short : (letter : ℕ) → List Text → Bool
has_short letter words = list_any (λ word. is_short word && list_any (λ byte. byte == letter) word) words

-- an option that names a format
abbrev pub is_format : Text → Bool
is_format = is_any (codes "--format=text" ∷ codes "--format=json" ∷ codes "--format=github" ∷ codes "--format=sarif" ∷ [])

-- an option that says when lines for people have colours
abbrev pub is_colour : Text → Bool
is_colour = is_any (codes "--color=auto" ∷ codes "--color=always" ∷ codes "--color=never" ∷ [])

-- an option that says how columns of faults are counted
abbrev pub is_columns : Text → Bool
is_columns = is_any (codes "--columns=characters" ∷ codes "--columns=bytes" ∷ codes "--columns=utf16" ∷ [])

-- an option that says which faults are told
abbrev pub is_filter : Text → Bool
is_filter word = begins_with (codes "--select=") word || (begins_with (codes "--ignore=") word || begins_with (codes "--names=") word)

-- an option with a value, which may be any
abbrev pub is_valued : Text → Bool
is_valued word =
    begins_with (codes "--exclude=") word || begins_with (codes "--include=") word || begins_with (codes "--files-from=") word
    || begins_with (codes "--stdin-filename=") word || begins_with (codes "--explain=") word || is_filter word

-- a number in decimal digits
abbrev pub is_number : Text → Bool
is_number text = nat_lt 0 (length text) && list_all is_ascii_digit text

-- the number that decimal digits write after another, but at most the greatest of 64 bits
abbrev pub number_after : ℕ → Text → ℕ
number_after number digits = fold (λ number byte. in_64_bits (number * 10 + (byte - 48))) number digits

abbrev pub number : Text → ℕ
number digits = number_after 0 digits

-- this option, which ends with `=`, with a number
abbrev pub has_number : (option : Text) → Text → Bool
has_number option word = begins_with option word && is_number (drop (length option) word)

-- an option with a number
abbrev pub is_numbered : Text → Bool
is_numbered = has_number (codes "--max-faults=")

-- an option with a value that the program has for it
abbrev pub is_chosen : Text → Bool
is_chosen word = is_format word || (is_colour word || (is_columns word || is_numbered word))

-- an option that the program doesn't have
abbrev pub is_unknown : Text → Bool
is_unknown word = is_option word && not (is_flag word || (is_short word || (is_chosen word || is_valued word)))

-- the word is among others
abbrev pub is_among : Text → List Text → Bool
is_among option words = list_any (λ word. is_same word option) words

-- the first option that the program doesn't have
abbrev pub first_unknown : List Text → Option Text
first_unknown [] = None
first_unknown (word ∷ words) = if is_unknown word then Some word else first_unknown words

-- the values of an option, which ends with `=`
abbrev pub values : (option : Text) → List Text → List Text
values option [] = []
values option (word ∷ words) = if begins_with option word then drop (length option) word ∷ values option words else values option words

-- the first value of an option, which ends with `=`
abbrev pub first_value : (option : Text) → List Text → Option Text
first_value option [] = None
first_value option (word ∷ words) = if begins_with option word then Some (drop (length option) word) else first_value option words

-- the words that aren't options
abbrev pub names_in : List Text → List Text
names_in [] = []
names_in (word ∷ words) = if is_option word then names_in words else word ∷ names_in words

-- the words before the first `--`
abbrev pub leading : WordsRecord → List Text
leading words = map (λ word. word.items) words.leading.items

-- the names of files: those before the first `--` that aren't options, and all after it
abbrev pub names : WordsRecord → List Text
names words = names_in (leading words) ++ map (λ word. word.items) words.trailing.items

-- the format that words ask for
abbrev pub format_of : List Text → Format
format_of words =
    if is_among (codes "--format=sarif") words then Sarif
    else (if is_among (codes "--format=github") words then Github
    else (if is_among (codes "--format=json") words || is_among (codes "--json") words then Json else AsText))

-- when lines for people have colours, by words: `never` goes before `always`
abbrev pub colour_of : List Text → Colour
colour_of words =
    if is_among (codes "--color=never") words then Never else (if is_among (codes "--color=always") words then Always else Auto)

-- lines for people have colours, by when they have, and by whether the output is a terminal that shows colours
abbrev pub is_painted : Colour → Bool → Bool
is_painted Auto shows_colours = shows_colours
is_painted Always shows_colours = true
is_painted Never shows_colours = false

-- how columns of faults are counted, by words: bytes go before units of UTF-16
abbrev pub columns_of : List Text → Columns
columns_of words =
    if is_among (codes "--columns=bytes") words then Bytes
    else (if is_among (codes "--columns=utf16") words then Utf16 else Characters)

-- how columns of faults are counted in a form: as asked for where they are told to people or GitHub, else in characters
abbrev pub columns_in : Form → Columns → Columns
columns_in shown.Faults asked = asked
columns_in shown.PaintedFaults asked = asked
columns_in shown.Github asked = asked
columns_in form asked = Characters

-- no count of faults is asked for
abbrev pub is_quiet : List Text → Bool
is_quiet words = is_among (codes "--quiet") words || has_short 113 words

-- how many faults of a file are shown, if words ask for it; 0 is all
abbrev pub max_faults : List Text → Option ℕ
max_faults words = option_map number (first_value (codes "--max-faults=") words)

-- what the values of an option list, which ends with `=`, separated by commas
abbrev pub listed_by : (option : Text) → List Text → List Text
listed_by option words = flat_map (names_between 44) (values option words)

-- which faults are told, by words
pub record IsFilterOf (words : List Text) (filter : Filter) : Type 0 where
  pub selected : map (λ word. word.items) filter.selected.items ≡ listed_by (codes "--select=") words
  pub ignored : map (λ word. word.items) filter.ignored.items ≡ listed_by (codes "--ignore=") words
  pub names : map (λ word. word.items) filter.names.items ≡ listed_by (codes "--names=") words

-- the reports that words ask for
pub record Wants (words : WordsRecord) (reports : ReportsRecord) : Type 0 where
  pub check : reports.check ≡ is_among (codes "--check") (leading words)
  pub format : reports.format ≡ format_of (leading words)
  pub colour : reports.colour ≡ colour_of (leading words)
  pub columns : reports.columns ≡ columns_of (leading words)
  pub quiet : reports.quiet ≡ is_quiet (leading words)
  pub max_faults : reports.max_faults ≡ max_faults (leading words)
  pub filter : IsFilterOf (leading words) reports.filter
  pub excluded : map (λ glob. glob.now) reports.excluded.items ≡ values (codes "--exclude=") (leading words)
  pub included : map (λ glob. glob.now) reports.included.items ≡ values (codes "--include=") (leading words)
  pub lists : map (λ name. name.now) reports.lists.items ≡ values (codes "--files-from=") (leading words)
  pub stdin_names : map (λ name. name.now) reports.stdin_names.items ≡ values (codes "--stdin-filename=") (leading words)
  pub files : map (λ name. name.now) reports.names.items ≡ names words

-- the form of reports: by their format, whether faults alone are asked for, whether each line of a token has a name, and
-- whether the output is painted
abbrev pub form : Format → (check are_named is_painted : Bool) → Form
form Sarif check are_named is_painted = shown.Sarif
form Github check are_named is_painted = shown.Github
form Json true are_named is_painted = shown.JsonFaults
form Json false are_named is_painted = shown.Json
form AsText true are_named is_painted = if is_painted then shown.PaintedFaults else shown.Faults
form AsText false are_named is_painted = if are_named then shown.NamedTokens else shown.Tokens

-- the form of the reports that are asked for
abbrev pub form_of : ReportsRecord → (are_named is_painted : Bool) → Form
form_of reports are_named is_painted = form reports.format reports.check are_named is_painted

-- how many faults of a file are shown where so many are asked for: 0 is all
abbrev pub limit : ℕ → ℕ
limit asked = if asked == 0 then 2 ^ 64 - 1 else asked

-- where it isn't asked for, lines of faults for people show 100
abbrev pub first_most : Form → ℕ
first_most form = if shows_faults form then 100 else 0

-- how many faults of a file are shown: with tokens for people all are
abbrev pub most : Form → Option ℕ → ℕ
most shown.Tokens asked = 2 ^ 64 - 1
most shown.NamedTokens asked = 2 ^ 64 - 1
most form asked = limit (unwrap_or asked (first_most form))

-- the style of the reports that are asked for
pub record IsStyleOf (reports : ReportsRecord) (are_named : Bool) (terminal : Terminal) (style : Style) : Type 0 where
  pub form : style.form ≡ form_of reports are_named terminal.is_painted
  pub side : style.side ≡ terminal.side
  pub columns : style.columns ≡ columns_in style.form reports.columns
  pub most : style.most ≡ most style.form reports.max_faults
  pub filter : style.filter.now ≡ reports.filter

-- help is asked for
abbrev pub asks_help : List Text → Bool
asks_help words = is_among (codes "--help") words || has_short 104 words

-- the version is asked for
abbrev pub asks_version : List Text → Bool
asks_version words = is_among (codes "--version") words || has_short 86 words

-- what words ask for: an unknown option comes before all else, then help, the version, and the first code to explain
abbrev pub Asks : (words : WordsRecord) → Request → Type 0
Asks words (Unknown option) = first_unknown (leading words) ≡ Some option.now
Asks words Help = (first_unknown (leading words) ≡ None) × (asks_help (leading words) ≡ true)
Asks words Version =
    (first_unknown (leading words) ≡ None) × (asks_help (leading words) ≡ false) × (asks_version (leading words) ≡ true)
Asks words (Explain code) =
    (first_unknown (leading words) ≡ None) × (asks_help (leading words) ≡ false) × (asks_version (leading words) ≡ false)
    × (first_value (codes "--explain=") (leading words) ≡ Some code.now)
Asks words (Reports reports) =
    (first_unknown (leading words) ≡ None) × (asks_help (leading words) ≡ false) × (asks_version (leading words) ≡ false)
    × (first_value (codes "--explain=") (leading words) ≡ None) × Wants words reports
