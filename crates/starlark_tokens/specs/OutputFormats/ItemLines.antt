-- Lines of tokens and faults: for people, as JSON, and with the line of the source.
use Rattle.std.specs.Prelude.{ℕ, ◌+◌, ◌-◌, ◌^◌, max, min, Bool, ◌&&◌, not, ◌==◌, nat_eq, if◌then◌else◌, [], ◌++◌, length, take, drop, codes, count_by, encode_utf8, replicate, slice_index, sum_by}
use Rattle.std.specs.Fmt.{decimal}
use Rattle.std.specs.List.{after_last, flat_map, prefix_len, starts_with}
use Rattle.std.specs.Str.{chars}
use Rattle.starlark_base.specs.Places.{Text, is_lf, place_text}
use Rattle.starlark_base.specs.declared.codemap.resolved.ResolvedPos.{ResolvedPos}
use Rattle.starlark_text.specs.Characters.{starts_character}
use Rattle.starlark_base.specs.Positions.{utf16_column}
use Rattle.starlark_tokens.specs.OutputFormats.CharacterWidths.{width}
use Rattle.starlark_tokens.specs.OutputFormats.JsonStrings.{json_string}
use Rattle.starlark_tokens.specs.OutputFormats.PythonLiterals.{is_hidden, one_line}
use Rattle.starlark_base.specs.declared.position.Position.{Position}

-- the line for people up to its value: `line:column-line:column kind`; the prefix names the text
unfoldable pub readable_head : (prefix : Text) → (begin end : Position) → (kind : Text) → Text
readable_head prefix begin end kind =
    prefix ++ (place_text begin.place ++ (codes "-" ++ (place_text end.place ++ (codes " " ++ kind))))

-- the line for people
abbrev pub readable_line : (prefix : Text) → (begin end : Position) → (kind value : Text) → Text
readable_line prefix begin end kind value = readable_head prefix begin end kind ++ (value ++ codes "\n")

-- the lines and columns of a span as fields of an object of JSON
unfoldable pub json_places : (begin end : Position) → Text
json_places begin end =
    codes ",\"line\":" ++ (decimal (begin.place.line + 1) ++ (codes ",\"column\":" ++ (decimal (begin.place.column + 1)
    ++ (codes ",\"end_line\":" ++ (decimal (end.place.line + 1) ++ (codes ",\"end_column\":" ++ (decimal (end.place.column + 1)
    ++ (codes ",\"utf16_column\":" ++ decimal (utf16_column begin + 1)))))))))

-- the object of JSON up to its value; the prefix is its begin up to the kind
unfoldable pub json_head : (prefix : Text) → (begin end : Position) → (kind : Text) → Text
json_head prefix begin end kind =
    prefix ++ (kind ++ (codes "\",\"begin\":" ++ (decimal begin.at ++ (codes ",\"end\":" ++ (decimal end.at
    ++ (json_places begin end ++ codes ",\"value\":"))))))

-- the line of an object of JSON
abbrev pub json_line : (prefix : Text) → (begin end : Position) → (kind value : Text) → Text
json_line prefix begin end kind value = json_head prefix begin end kind ++ (value ++ codes "}\n")

-- the bytes of a line before an offset
abbrev pub line_front : Text → ℕ → Text
line_front text at = after_last is_lf (take at text)

-- the bytes of a line from an offset on, without its LF
abbrev pub line_back : Text → ℕ → Text
line_back text at = take (prefix_len (λ b. not (is_lf b)) (drop at text)) (drop at text)

-- a character of a line of the source: one that isn't shown as it is has the replacement character
-- in its place, so that each takes one column; a tab stays
abbrev pub source_char : ℕ → Text
source_char c = if not (c == 9) && is_hidden c then encode_utf8 0xfffd else encode_utf8 c

-- a part of a line of the source
abbrev pub source_text : Text → Text
source_text part = flat_map source_char (chars part)

-- a text without the CR at its end, if it has one
abbrev pub without_cr : Text → Text
without_cr text = if slice_index text (length text - 1) == 13 then take (length text - 1) text else text

-- how many columns a character of the source takes
abbrev pub shown_width : ℕ → ℕ
shown_width c = if is_hidden c then 1 else width c

-- how many columns the first characters of a text take
abbrev pub columns : Text → (count : ℕ) → ℕ
columns text count = min (sum_by shown_width (take count (chars text))) (2 ^ 64 - 1)

-- carets: so many, but at least one
abbrev pub carets : ℕ → Text
carets count = replicate (max 1 count) 94

-- what is below a character that is before the fault: a tab below a tab, else spaces
abbrev pub below : ℕ → Text
below c = if c == 9 then codes "\t" else replicate (shown_width c) 32

-- a message without the words that all messages begin with
abbrev pub reason : (message : Text) → Text
reason message = if starts_with nat_eq message (codes "Parse error: ") then drop 13 message else message

-- the line of an object of JSON of a fault
unfoldable pub json_fault : (prefix : Text) → (begin end : Position) → (code message help : Text) → Text
json_fault prefix begin end code message help =
    json_head prefix begin end (codes "Fault") ++ (json_string (reason message)
    ++ (codes ",\"code\":\"" ++ (code ++ (codes "\",\"help\":" ++ (json_string help ++ codes "}\n")))))

-- the line that says what to do about a fault
unfoldable pub help_line : (help : Text) → Text
help_line help = codes "help: " ++ (help ++ codes "\n")

-- what begins bold text on a terminal, what begins red text, and what ends both; nothing where it isn't painted
abbrev pub bold : (is_painted : Bool) → Text
bold is_painted = if is_painted then codes "\u{1b}[1m" else []

abbrev pub red : (is_painted : Bool) → Text
red is_painted = if is_painted then codes "\u{1b}[1;31m" else []

abbrev pub plain : (is_painted : Bool) → Text
plain is_painted = if is_painted then codes "\u{1b}[0m" else []

-- the place of a fault
unfoldable pub fault_place : (is_painted : Bool) → (prefix : Text) → ResolvedPos → Text
fault_place is_painted prefix place = bold is_painted ++ (prefix ++ (place_text place ++ (codes ":" ++ plain is_painted)))

-- that a fault is an error
unfoldable pub error_word : (is_painted : Bool) → Text
error_word is_painted = codes " " ++ (red is_painted ++ (codes "error:" ++ (plain is_painted ++ codes " ")))

-- what a fault is, and its code
unfoldable pub fault_words : (code message : Text) → Text
fault_words code message = one_line (reason message) ++ (codes " [" ++ (code ++ codes "]\n"))

-- the line of a fault's place and message
unfoldable pub fault_line : (is_painted : Bool) → (prefix : Text) → ResolvedPos → (code message : Text) → Text
fault_line is_painted prefix place code message =
    fault_place is_painted prefix place ++ (error_word is_painted ++ fault_words code message)

-- what stands for the part of a line that isn't shown, and what is below it
abbrev pub ellipsis : (is_cut : Bool) → Text
ellipsis is_cut = if is_cut then encode_utf8 0x2026 else []

abbrev pub below_ellipsis : (is_cut : Bool) → Text
below_ellipsis is_cut = if is_cut then codes " " else []

-- the line of the source, by what is shown before the fault and from it on, and whether it is cut there
unfoldable pub source_line : (is_cut_before : Bool) → (front back : Text) → (is_cut_after : Bool) → Text
source_line is_cut_before front back is_cut_after =
    ellipsis is_cut_before ++ (source_text front ++ (source_text (without_cr back) ++ (ellipsis is_cut_after ++ codes "\n")))

-- the line with carets below the characters that begin in the fault and are shown on that line: at least one
unfoldable pub caret_line : (is_painted is_cut_before : Bool) → (front back : Text) → (len : ℕ) → Text
caret_line is_painted is_cut_before front back len =
    below_ellipsis is_cut_before ++ (flat_map below (chars front)
    ++ (red is_painted ++ (carets (columns back (count_by starts_character (take len back))) ++ (plain is_painted ++ codes "\n"))))

-- The lines of a fault: its place and message, the line of the source, and carets. `front` and `back` are what is shown of
-- that line before the place where the fault is shown and from it on. `len` bytes from there on belong to the fault.
unfoldable pub fault_lines : (is_painted : Bool) → (prefix : Text) → ResolvedPos → (code message : Text) → (is_cut_before : Bool) → (front back : Text) → (is_cut_after : Bool) → (len : ℕ) → Text
fault_lines is_painted prefix place code message is_cut_before front back is_cut_after len =
    fault_line is_painted prefix place code message
    ++ (source_line is_cut_before front back is_cut_after ++ caret_line is_painted is_cut_before front back len)
