-- What a lexer answers, by the items that are left.
use Rattle.std.proofs.lemmas.List.Sums.{sum_by-append}
use Rattle.std.proofs.lemmas.Bool.{cases_lt, le-ltb, lt-ltb}
use Rattle.std.proofs.Common.{◌≡◌, cond, min, ℕ, ◌+◌, ◌-◌, ◌^◌, ◌<◌, ◌≤◌, ◌⊎◌, inl, inr, Bool, true, false, List, [], ◌∷◌, ◌++◌, refl, ap, sym, ◌∙◌, arith, None, Some, Ok, Err}
use Rattle.std.specs.Prelude.{if◌then◌else◌, nat_lt, IsSome, count_by, option_copied, string_bytes}
use Rattle.starlark_base.specs.Diagnostics.{Diagnosed, place_in}
use Rattle.starlark_base.specs.Places.{Text}
use Rattle.starlark_base.specs.Sources.{SourceFile}
use Rattle.starlark_base.specs.Spans.{ByteSpan}
use Rattle.starlark_base.specs.declared.codemap.file_span.FileSpan.{FileSpan}
use Rattle.starlark_grammar.specs.Tokens as token
use Rattle.starlark_grammar.specs.Tokens.{Fault, Spanned}
use Rattle.starlark_run.specs.Output.{message_of}
use Rattle.starlark_errors.specs.Errors.{kind_text}
use Rattle.starlark_errors.specs.Exceptions.{IsException}
use Rattle.starlark_lexemes.specs.Lexer.{Answers}
use Rattle.starlark_errors.specs.declared.error.kinds.ErrorKind.{ErrorKind}
use Rattle.starlark_errors.specs.declared.error.kinds.ErrorKind.TheVariants.{Parser}
use Rattle.starlark_errors.specs.declared.error.kinds.ParserMessage.TheVariants as message
use Rattle.starlark_text.specs.declared.or_memory.OrMemory.TheVariants as refusal
use Rattle.starlark_token.specs.FaultCodes.{fault_code}
use Rattle.starlark_token.specs.Lexemes.{fault_view}
use Rattle.starlark_token.specs.TokenViews.{TokenView, token_view}
use Rattle.starlark_token.specs.TextItems.{Given, LexerItem, Refused}
use Rattle.starlark_token.specs.declared.lexeme_error.LexemeError.{LexemeError}
use Rattle.starlark_token.specs.declared.lexeme_error.LexemeError.TheVariants as error
use Rattle.starlark_token.specs.declared.tokens.Token.{Token}
use Rattle.starlark_tokens.specs.declared.output_formats.form.Style.{Style}
use Rattle.starlark_tokens.specs.ToldFaults.FaultHelps.{fault_help}
use Rattle.starlark_tokens.specs.Inner.ShownKinds.{code_of_kind, help_of_kind, shown_of_kind}
use Rattle.starlark_base.specs.Positions.{position_at}
use Rattle.starlark_tokens.specs.Reporting.Reports.{fault_count, fault_report, is_fault, item_report, items_report, prefix_of, report, rest_report, shown_part, shown_report, token_report}
use Rattle.starlark_tokens.specs.ToldFaults.ShownColumns.{position_in}
use Rattle.starlark_tokens.specs.ToldFaults.ShownPlaces.{shown_at, shown_of}
use Rattle.starlark_run.proofs.PrintedItems.{message_is}

-- where the fault of an error of the lexer is shown
shown_is : (error : LexemeError) (node : Fault) → fault_view error ≡ Some node → shown_of_kind (Parser (message.Lexeme error)) ≡ shown_of node
shown_is error.Indentation node e = let same : token.Indentation ≡ node = cc in ap shown_of same
shown_is (error.InvalidInput text) node e = let same : token.InvalidInput (string_bytes text) ≡ node = cc in ap shown_of same
shown_is error.InvalidTab node e = let same : token.InvalidTab ≡ node = cc in ap shown_of same
shown_is error.UnfinishedStringLiteral node e = let same : token.UnfinishedStringLiteral ≡ node = cc in ap shown_of same
shown_is (error.InvalidEscapeSequence text) node e = let same : token.InvalidEscapeSequence (string_bytes text) ≡ node = cc in ap shown_of same
shown_is error.EmptyEscapeSequence node e = let same : token.EmptyEscapeSequence ≡ node = cc in ap shown_of same
shown_is (error.ReservedKeyword word) node e = let same : token.ReservedKeyword (string_bytes word) ≡ node = cc in ap shown_of same
shown_is (error.StartsZero word) node e = let same : token.StartsZero (string_bytes word) ≡ node = cc in ap shown_of same
shown_is (error.IntParse text) node e = cc
shown_is error.CommentSpanComputedIncorrectly node e = cc
shown_is (error.CannotParse text base) node e = cc
shown_is error.UnfinishedFStringExpression node e = let same : token.UnfinishedFStringExpression ≡ node = cc in ap shown_of same

-- the code of an error of the lexer
code_is : (error : LexemeError) (node : Fault) → fault_view error ≡ Some node → code_of_kind (Parser (message.Lexeme error)) ≡ fault_code node
code_is error node e = rw e refl

-- what to do about an error of the lexer
help_is : (error : LexemeError) (node : Fault) → fault_view error ≡ Some node → help_of_kind (Parser (message.Lexeme error)) ≡ fault_help node
help_is error node e = rw e refl

-- what is printed of an item that was answered as a lexeme
pub given_report : (style : Style) (prefix text : Text) (file : SourceFile) (next : LexerItem) (found : ℕ × Token × ℕ) → Answers file next (Ok found) → item_report style prefix text next ≡ token_report style.form prefix (position_at text found.0) (position_at text found.2) (token_view found.1)
unfolding item_report
given_report style prefix text file (Given lexeme) found answers = ap (λ (l : Spanned TokenView). token_report style.form prefix (position_at text l.begin) (position_at text l.end) l.node) (sym answers)
given_report style prefix text file (Refused fault) found answers = absurd answers

-- what is printed of an item that was answered as an exception
fault_is : (style : Style) (prefix text : Text) (file : SourceFile) (fault : Spanned Fault) (exception : Diagnosed ErrorKind) (place : FileSpan) → IsException file fault exception → exception.span ≡ Some place → item_report style prefix text (Refused fault) ≡ fault_report style.form style.side prefix text (position_in style.columns text (shown_at text (shown_of_kind exception.value) place.span.begin place.span.end)) (position_in style.columns text place.span.begin) (position_in style.columns text place.span.end) (code_of_kind exception.value) (kind_text exception.value) (help_of_kind exception.value)
unfolding item_report
fault_is style prefix text file fault exception place thrown known =
    let span : ByteSpan = record { begin = fault.begin; end = fault.end } in
    let there : Some place ≡ Some (place_in file span) = sym known ∙ ap (λ (d : Diagnosed ErrorKind). d.span) thrown.2 in
    let at : place ≡ place_in file span = cc in
    let said : kind_text exception.value ≡ message_of fault.node = ap (λ (d : Diagnosed ErrorKind). kind_text d.value) thrown.2 ∙ message_is thrown.0 fault.node thrown.1 in
    let shown : shown_of_kind exception.value ≡ shown_of fault.node = ap (λ (d : Diagnosed ErrorKind). shown_of_kind d.value) thrown.2 ∙ shown_is thrown.0 fault.node thrown.1 in
    let code : code_of_kind exception.value ≡ fault_code fault.node = ap (λ (d : Diagnosed ErrorKind). code_of_kind d.value) thrown.2 ∙ code_is thrown.0 fault.node thrown.1 in
    let help : help_of_kind exception.value ≡ fault_help fault.node = ap (λ (d : Diagnosed ErrorKind). help_of_kind d.value) thrown.2 ∙ help_is thrown.0 fault.node thrown.1 in
    rw (at, said, shown, code, help) refl

pub refused_report : (style : Style) (prefix text : Text) (file : SourceFile) (next : LexerItem) (exception : Diagnosed ErrorKind) (place : FileSpan) → Answers file next (Err (refusal.Error exception)) → exception.span ≡ Some place → item_report style prefix text next ≡ fault_report style.form style.side prefix text (position_in style.columns text (shown_at text (shown_of_kind exception.value) place.span.begin place.span.end)) (position_in style.columns text place.span.begin) (position_in style.columns text place.span.end) (code_of_kind exception.value) (kind_text exception.value) (help_of_kind exception.value)
refused_report style prefix text file (Given lexeme) exception place answers known = absurd answers
refused_report style prefix text file (Refused fault) exception place answers known = fault_is style prefix text file fault exception place answers known

-- an exception has a span
pub thrown_span : (file : SourceFile) (next : LexerItem) (exception : Diagnosed ErrorKind) → Answers file next (Err (refusal.Error exception)) → IsSome exception.span
thrown_span file (Given lexeme) exception answers = absurd answers
thrown_span file (Refused fault) exception answers = rw answers.2 cc

pub some_read : (span : _) → IsSome (option_copied {T = FileSpan} span) → IsSome span
some_read None some = some
some_read (Some span) some = some

-- what is printed of an item that is shown, or isn't
pub given_shown : (is_shown : Bool) (style : Style) (prefix text : Text) (file : SourceFile) (next : LexerItem) (found : ℕ × Token × ℕ) → Answers file next (Ok found) → shown_report is_shown style prefix text next ≡ token_report style.form prefix (position_at text found.0) (position_at text found.2) (token_view found.1)
given_shown is_shown style prefix text file (Given lexeme) found answers = given_report style prefix text file (Given lexeme) found answers
given_shown is_shown style prefix text file (Refused fault) found answers = absurd answers

pub all_shown : (style : Style) (prefix text : Text) (next : LexerItem) → shown_report true style prefix text next ≡ item_report style prefix text next
all_shown style prefix text (Given lexeme) = refl
all_shown style prefix text (Refused fault) = refl

pub none_shown : (style : Style) (prefix text : Text) (file : SourceFile) (next : LexerItem) (exception : Diagnosed ErrorKind) → Answers file next (Err (refusal.Error exception)) → shown_report false style prefix text next ≡ []
none_shown style prefix text file (Given lexeme) exception answers = absurd answers
none_shown style prefix text file (Refused fault) exception answers = refl

-- what is printed of an item and of those after it
report_cons : (style : Style) (prefix text : Text) (most : ℕ) (item : LexerItem) (more : List LexerItem) → items_report style prefix text most (item ∷ more) ≡ shown_report (nat_lt 0 most) style prefix text item ++ items_report style prefix text (if is_fault item then most - 1 else most) more
unfolding items_report
report_cons style prefix text most item more = refl

pub report_nil : (style : Style) (prefix text : Text) (most : ℕ) → items_report style prefix text most [] ≡ []
unfolding items_report
report_nil style prefix text most = refl

-- some faults are left to show if fewer than the most were found
pub some_left : (found most : ℕ) → nat_lt 0 (most - found) ≡ nat_lt found most
some_left found most = by (cases_lt found most)
  where
    by : (found < most) ⊎ (most ≤ found) → nat_lt 0 (most - found) ≡ nat_lt found most
    by (inl less) = lt-ltb 0 (most - found) (omega (arith, less)) ∙ sym (lt-ltb found most less)
    by (inr all) = le-ltb 0 (most - found) (omega (arith, all)) ∙ sym (le-ltb found most all)

none_more : (most found after limit : ℕ) → most ≤ limit → after ≡ min (found + 0) limit → most - found ≡ most - after
none_more most found after limit within is = omega (arith, within, is)

one_more : (most found after limit : ℕ) → most ≤ limit → after ≡ min (found + 1) limit → most - found - 1 ≡ most - after
one_more most found after limit within is = omega (arith, within, is)

fewer_left : (item : LexerItem) (most found after : ℕ) → most ≤ 2 ^ 64 - 1 → after ≡ min (found + count_by is_fault (item ∷ [])) (2 ^ 64 - 1) → (if is_fault item then most - found - 1 else most - found) ≡ most - after
fewer_left (Given lexeme) most found after within is = none_more most found after (2 ^ 64 - 1) within is
fewer_left (Refused fault) most found after within is = one_more most found after (2 ^ 64 - 1) within is

-- what is printed of the items that are left, with one item more, where some faults were found before
pub report_step : (style : Style) (prefix text : Text) (item : LexerItem) (more : List LexerItem) (most found after : ℕ) → most ≤ 2 ^ 64 - 1 → after ≡ min (found + count_by is_fault (item ∷ [])) (2 ^ 64 - 1)
    → items_report style prefix text (most - found) (item ∷ more) ≡ shown_report (nat_lt found most) style prefix text item ++ items_report style prefix text (most - after) more
report_step style prefix text item more most found after within is =
    report_cons style prefix text (most - found) item more
    ∙ ap (λ b. shown_report b style prefix text item ++ items_report style prefix text (if is_fault item then most - found - 1 else most - found) more) (some_left found most)
    ∙ ap (λ n. shown_report (nat_lt found most) style prefix text item ++ items_report style prefix text n more) (fewer_left item most found after within is)

-- a count that stops at the greatest number, and what is still to count
pub saturated : (f n r most : ℕ) → min (min (f + n) most + r) most ≡ min (f + (n + r)) most
saturated f n r most = omega arith

pub count_cons : (item : LexerItem) (more : List LexerItem) → count_by is_fault (item ∷ more) ≡ count_by is_fault (item ∷ []) + count_by is_fault more
count_cons item more = sum_by-append (λ x. cond (is_fault x) 1 0) (item ∷ []) more

pub report_all : (style : Style) (name text : Text) → report style name text ≡ shown_part style (prefix_of style.form name) text ++ rest_report style.form (prefix_of style.form name) (min (fault_count style text) (2 ^ 64 - 1) - style.most)
unfolding report
report_all style name text = refl
