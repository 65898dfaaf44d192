-- Reports of a text: what is printed of its tokens and faults.
use Rattle.std.specs.Prelude.{ℕ, ◌-◌, ◌^◌, min, nat_lt, ◌==◌, Bool, true, false, not, ◌&&◌, if◌then◌else◌, [], ◌∷◌, ◌++◌, codes, List, count_by, drop, length, take}
use Rattle.std.specs.List.{flat_map}
use Rattle.starlark_checks.specs.CheckTexts.{check_code, check_message}
use Rattle.starlark_checks.specs.declared.check.Finding.{Finding}
use Rattle.starlark_text.specs.Characters.{starts_character}
use Rattle.starlark_token.specs.FaultCodes.{fault_code}
use Rattle.starlark_tokens.specs.OutputFormats.GithubLines.{github_line, property}
use Rattle.starlark_tokens.specs.OutputFormats.SarifResults.{sarif_prefix, sarif_result}
use Rattle.starlark_base.specs.Places.{Text, place_text}
use Rattle.starlark_tokens.specs.ToldFaults.Problems.{OfCharacters, OfCheck, OfLexer, Problem, problems}
use Rattle.starlark_grammar.specs.Tokens.{Fault, InvalidInput, Spanned}
use Rattle.starlark_recovery.specs.RecoveringLexer.{all_items}
use Rattle.starlark_run.specs.Output.{message_of}
use Rattle.starlark_token.specs.TextItems.{LexerItem, Given, Refused}
use Rattle.starlark_token.specs.TokenTexts.{kind_of}
use Rattle.starlark_token.specs.TokenViews.{TokenView}
use Rattle.starlark_tokens.specs.OutputFormats.JsonStrings.{json_string}
use Rattle.starlark_tokens.specs.ToldFaults.FaultHelps.{check_help, fault_help, input_help}
use Rattle.starlark_tokens.specs.OutputFormats.ItemLines.{fault_lines, help_line, json_fault, json_line, readable_line}
use Rattle.starlark_base.specs.Positions.{position_at}
use Rattle.starlark_tokens.specs.ToldFaults.ShownColumns.{position_in}
use Rattle.starlark_tokens.specs.declared.output_formats.form.Columns.{Columns}
use Rattle.starlark_tokens.specs.ToldFaults.ShownPlaces.{shown_at, shown_end, shown_of}
use Rattle.starlark_tokens.specs.OutputFormats.SourceLines.{boundary_from, is_cut_after, is_cut_before, shown_back, shown_front}
use Rattle.starlark_tokens.specs.OutputFormats.PythonLiterals.{quoted, shown_name}
use Rattle.starlark_tokens.specs.OutputFormats.Values.{json_of, readable}
use Rattle.starlark_base.specs.declared.codemap.resolved.ResolvedPos.{ResolvedPos}
use Rattle.starlark_base.specs.declared.position.Position.{Position}
use Rattle.std.specs.Fmt.{decimal}
use Rattle.starlark_tokens.specs.declared.output_formats.form.Form.{Form}
use Rattle.starlark_tokens.specs.declared.output_formats.form.Style.{Style}
use Rattle.starlark_tokens.specs.declared.output_formats.form.Form.TheVariants.{Tokens, NamedTokens, Json, Faults, PaintedFaults, JsonFaults, Github, Sarif}

-- what each line begins with, by the text's name
unfoldable pub prefix_of : Form → (name : Text) → Text
prefix_of Tokens name = []
prefix_of NamedTokens name = shown_name name ++ codes ":"
prefix_of Json name = codes "{\"file\":" ++ json_string name ++ codes ",\"kind\":\""
prefix_of Faults name = shown_name name ++ codes ":"
prefix_of JsonFaults name = codes "{\"file\":" ++ json_string name ++ codes ",\"kind\":\""
prefix_of PaintedFaults name = shown_name name ++ codes ":"
prefix_of Github name = codes "::error file=" ++ (property name ++ codes ",line=")
prefix_of Sarif name = sarif_prefix name

-- what is printed of a token
unfoldable pub token_report : Form → (prefix : Text) → (begin end : Position) → TokenView → Text
token_report Tokens prefix begin end node = readable_line prefix begin end (kind_of node) (readable node)
token_report NamedTokens prefix begin end node = readable_line prefix begin end (kind_of node) (readable node)
token_report Json prefix begin end node = json_line prefix begin end (kind_of node) (json_of node)
token_report form prefix begin end node = []

-- what is printed of a fault that ends at an offset, with the line of the source
unfoldable pub source_fault : (is_painted : Bool) → (side : ℕ) → (prefix text : Text) → (shown : Position) → (end : ℕ) → (code message : Text) → Text
source_fault is_painted side prefix text shown end code message =
    fault_lines is_painted prefix shown.place code message
    (is_cut_before side text shown.at) (shown_front side text shown.at) (shown_back side text shown.at) (is_cut_after side text shown.at)
    (end - shown.at)

-- What is printed of a fault with this code, message and help. In lines of tokens and in JSON it has the bytes of its span,
-- and else the place where it is shown.
unfoldable pub fault_report : Form → (side : ℕ) → (prefix text : Text) → (shown begin end : Position) → (code message help : Text) → Text
fault_report Tokens side prefix text shown begin end code message help = readable_line prefix begin end (codes "Fault") (32 ∷ quoted message)
fault_report NamedTokens side prefix text shown begin end code message help = readable_line prefix begin end (codes "Fault") (32 ∷ quoted message)
fault_report Json side prefix text shown begin end code message help = json_fault prefix begin end code message help
fault_report JsonFaults side prefix text shown begin end code message help = json_fault prefix begin end code message help
fault_report Faults side prefix text shown begin end code message help =
    source_fault false side prefix text shown end.at code message ++ help_line help
fault_report PaintedFaults side prefix text shown begin end code message help =
    source_fault true side prefix text shown end.at code message ++ help_line help
fault_report Github side prefix text shown begin end code message help =
    github_line prefix shown.place (shown_end shown end).place code message
fault_report Sarif side prefix text shown begin end code message help =
    sarif_result prefix shown.place (shown_end shown end).place code message

-- the position where a fault is shown
abbrev pub shown_position : Columns → (text : Text) → Spanned Fault → Position
shown_position columns text fault = position_in columns text (shown_at text (shown_of fault.node) fault.begin fault.end)

-- what is printed of an item of a text
unfoldable pub item_report : Style → (prefix text : Text) → LexerItem → Text
item_report style prefix text (Given lexeme) =
    token_report style.form prefix (position_at text lexeme.begin) (position_at text lexeme.end) lexeme.node
item_report style prefix text (Refused fault) =
    fault_report style.form style.side prefix text (shown_position style.columns text fault) (position_in style.columns text fault.begin)
    (position_in style.columns text fault.end)
    (fault_code fault.node) (message_of fault.node) (fault_help fault.node)

-- whether an item is a fault
abbrev pub is_fault : LexerItem → Bool
is_fault (Given lexeme) = false
is_fault (Refused fault) = true

-- the form leaves tokens out
abbrev pub has_only_faults : Form → Bool
has_only_faults Tokens = false
has_only_faults NamedTokens = false
has_only_faults Json = false
has_only_faults form = true

-- how many faults are reported of a text: forms that have only faults have what the checks find, too
unfoldable pub fault_count : Style → Text → ℕ
fault_count style text = if has_only_faults style.form then length (problems style.filter.now text) else count_by is_fault (all_items text)

-- the position at an offset, or at the first one after it where a character begins
abbrev pub position_from : Columns → Text → ℕ → Position
position_from columns text at = position_in columns text (boundary_from text at)

-- the message of a finding; where it is about an open bracket, with the place of that
unfoldable pub finding_message : Finding → (opening : ResolvedPos) → Text
finding_message finding opening =
    check_message finding.check
    ++ (if finding.opening == finding.begin then [] else codes "; the open bracket is at " ++ place_text opening)

-- what is printed of what a check finds
unfoldable pub finding_report : Style → (prefix text : Text) → Finding → Text
finding_report style prefix text finding =
    fault_report style.form style.side prefix text (position_from style.columns text finding.begin) (position_from style.columns text finding.begin)
    (position_from style.columns text finding.end) (check_code finding.check)
    (finding_message finding (position_from style.columns text finding.opening).place) (check_help finding.check)

-- how many characters more there are, if there are some
abbrev pub more_characters : ℕ → Text
more_characters count = if count == 0 then [] else codes " and " ++ (decimal count ++ codes " more")

-- the message of characters that begin no token: those of the first 24 bytes, and how many more there are
unfoldable pub characters_message : Text → Text
characters_message characters =
    codes "invalid input `" ++ (take (boundary_from characters 24) characters
    ++ (codes "`" ++ more_characters (count_by starts_character (drop (boundary_from characters 24) characters))))

-- the text between two offsets
abbrev pub text_between : Text → (begin end : ℕ) → Text
text_between text begin end = take (end - begin) (drop begin text)

-- what is printed of characters between two offsets that begin no token
unfoldable pub characters_report : Style → (prefix text : Text) → (begin end : ℕ) → Text
characters_report style prefix text begin end =
    fault_report style.form style.side prefix text (position_in style.columns text begin) (position_in style.columns text begin)
    (position_in style.columns text end) (fault_code (InvalidInput [])) (characters_message (text_between text begin end)) (input_help (text_between text begin end))

-- what is printed of a problem
unfoldable pub problem_report : Style → (prefix text : Text) → Problem → Text
problem_report style prefix text (OfLexer fault) = item_report style prefix text (Refused fault)
problem_report style prefix text (OfCharacters begin end) = characters_report style prefix text begin end
problem_report style prefix text (OfCheck finding) = finding_report style prefix text finding

-- what is printed of problems, of which the first are shown
unfoldable pub problems_report : Style → (prefix text : Text) → (most : ℕ) → List Problem → Text
problems_report style prefix text most problems = flat_map (problem_report style prefix text) (take most problems)

-- what is printed of an item of a text, where a fault may not be shown
abbrev pub shown_report : (is_shown : Bool) → Style → (prefix text : Text) → LexerItem → Text
shown_report is_shown style prefix text item = if is_fault item && not is_shown then [] else item_report style prefix text item

-- what is printed of items of a text, of which so many faults are shown
unfoldable pub items_report : Style → (prefix text : Text) → (most : ℕ) → List LexerItem → Text
items_report style prefix text most [] = []
items_report style prefix text most (item ∷ items) =
    shown_report (nat_lt 0 most) style prefix text item ++ items_report style prefix text (if is_fault item then most - 1 else most) items

-- lines for people that show faults alone
abbrev pub shows_faults : Form → Bool
shows_faults Faults = true
shows_faults PaintedFaults = true
shows_faults form = false

-- what is printed of a text, up to the faults which aren't shown
unfoldable pub shown_part : Style → (prefix text : Text) → Text
shown_part style prefix text =
    if has_only_faults style.form then problems_report style prefix text style.most (problems style.filter.now text)
    else items_report style prefix text style.most (all_items text)

-- the line that counts the faults which aren't shown, if there are some
unfoldable pub rest_report : Form → (prefix : Text) → (hidden : ℕ) → Text
rest_report form prefix hidden =
    if hidden == 0 then []
    else (if shows_faults form then prefix ++ (codes " faults not shown: " ++ (decimal hidden ++ codes "; --max-faults 0 shows all\n")) else [])

-- what is printed of a text: all its tokens, and the first faults, in order; or the first problems
unfoldable pub report : Style → (name text : Text) → Text
report style name text =
    shown_part style (prefix_of style.form name) text
    ++ rest_report style.form (prefix_of style.form name) (min (fault_count style text) (2 ^ 64 - 1) - style.most)
