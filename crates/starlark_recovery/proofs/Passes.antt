-- A fault that was passed.
use Rattle.std.proofs.Common.{◌≡◌, ◌≤◌, ℕ, ◌+◌, ◌-◌, ◌==◌, arith, drop, ap, subst, sym, ◌∙◌, None, Some, refl}
use Rattle.std.specs.List.{prefix_len}
use Rattle.std.specs.Prelude.{◌&&◌, ◌||◌, Bool, Option, codes, if◌then◌else◌, nat_eq, not, string_bytes}
use Rattle.std.specs.Str.{IsCharBoundary, bytes_eq}
use Rattle.starlark_grammar.specs.Margins.{begins_with_line_end}
use Rattle.starlark_grammar.specs.Inner.KeptFaults.{is_in_margin}
use Rattle.starlark_grammar.specs.KeptLines.{ends_by_comment, is_bad_escape, is_unfinished, keeps_line, passed_end}
use Rattle.starlark_grammar.specs.Tokens.{Fault, Spanned}
use Rattle.starlark_grammar.specs.Tokens as grammar
use Rattle.std.proofs.lemmas.Str.{IsCharBoundary-from_rest}
use Rattle.starlark_base.specs.Diagnostics.{Diagnosed, place_in, unplaced, with_span}
use Rattle.starlark_base.specs.Sources.{SourceFile}
use Rattle.starlark_grammar.specs.Words.{Text}
use Rattle.starlark_lexemes.specs.Inner.LexerStates.{course_of}
use Rattle.starlark_reader.specs.Inner.Reader.{IsRaw, Origin, begin_of, history_before}
use Rattle.starlark_recovery.specs.Inner.RecoveryStates.{IsBegun, rest_keeps}
use Rattle.starlark_recovery.proofs.PartRests.{in_part}
use Rattle.starlark_recovery.specs.Inner.Passed.{HasPassed, error_keeps_line, is_bad_escape_error, is_tab_error, is_unfinished_error, up_to}
use Rattle.starlark_grammar.specs.Recovery.{is_tab, restart}
use Rattle.starlark_recovery.specs.Restarts.{IsPlaceOf}
use Rattle.starlark_lexemes.specs.Lexer.{search_reads}
use Rattle.starlark_errors.specs.declared.error.kinds.ErrorKind.{ErrorKind}
use Rattle.starlark_errors.specs.declared.error.kinds.ErrorKind.TheVariants.{Parser}
use Rattle.starlark_errors.specs.declared.error.kinds.ParserMessage.TheVariants as message
use Rattle.starlark_words.specs.Inner.Reads.{AreReads}
use Rattle.starlark_token.specs.Lexemes.{fault_view}
use Rattle.starlark_token.specs.declared.lexeme_error.LexemeError.{LexemeError}
use Rattle.starlark_token.specs.declared.lexeme_error.LexemeError.TheVariants as error
use Rattle.starlark_lexemes.proofs.MovedFaults.{raw_thrown}

-- the fault that there is, if there is one
abbrev pub fault_of : Option Fault → Fault
fault_of (Some node) = node
fault_of None = grammar.Indentation

-- the fault of a tab is that of the code
pub tab_kind : (error : LexemeError) (node : Fault) → fault_view error ≡ Some node → is_tab_error error ≡ is_tab node
tab_kind error.InvalidTab node is = ap (λ found. is_tab (fault_of found)) is
tab_kind it node is = ap (λ found. is_tab (fault_of found)) is

-- so are an unfinished literal, …
pub unfinished_kind : (error : LexemeError) (node : Fault) → fault_view error ≡ Some node → is_unfinished_error error ≡ is_unfinished node
unfinished_kind error.UnfinishedStringLiteral node is = ap (λ found. is_unfinished (fault_of found)) is
unfinished_kind it node is = ap (λ found. is_unfinished (fault_of found)) is

-- … and a bad escape
pub bad_kind : (error : LexemeError) (node : Fault) → fault_view error ≡ Some node → is_bad_escape_error error ≡ is_bad_escape node
bad_kind (error.InvalidEscapeSequence text) node is = ap (λ found. is_bad_escape (fault_of found)) is
bad_kind it node is = ap (λ found. is_bad_escape (fault_of found)) is

-- of two faults that the code has as one
pub one_raw : (one other : Spanned Fault) (found : ℕ × LexemeError × ℕ) → IsRaw one found → IsRaw other found → one ≡ other
one_raw one other found is there =
    let node : one.node ≡ other.node = ap fault_of (sym is.1 ∙ there.1) in
    rw (sym is.0 ∙ there.0, node, sym is.2 ∙ there.2) refl

-- what passing a fault up to an offset leaves, by what was found out for it
pub passes : (file : SourceFile) (text part : Text) (begin at end : ℕ) (fault : Spanned Fault) (found : ℕ × LexemeError × ℕ) (tab : Bool) (reads : ℕ) (given : Diagnosed ErrorKind)
    → IsRaw fault found → tab ≡ is_tab_error found.1
    → part ≡ drop begin text → ((fault : Spanned Fault) → IsPlaceOf fault found.0 end tab → at ≡ restart part fault) → ((fault : Spanned Fault) → IsPlaceOf fault found.0 end tab → AreReads 1 (search_reads part fault) 0 reads) → IsCharBoundary part at → IsCharBoundary text begin
    → given ≡ with_span (unplaced (Parser (message.Lexeme found.1))) (place_in file (record { begin = begin + found.0; end = begin + found.2 }))
    → HasPassed file text begin fault end (record { fault = given; begin = begin + at; reads = reads })
passes file text part begin at end fault found tab reads given raw tab_is part_is restarts searches boundary start given_is =
    let its_place : IsPlaceOf (up_to end fault) found.0 end tab = record { begins = raw.0; ends = refl; is_tab = (tab_is ∙ tab_kind found.1 fault.node raw.1) } in
    record {
      exception = raw_thrown file begin fault found given raw given_is;
      from = ap (λ n. begin + n) (restarts (up_to end fault) its_place ∙ ap (λ (t : Text). restart t (up_to end fault)) part_is);
      boundary = IsCharBoundary-from_rest text begin at start.0 (subst (λ (t : Text). IsCharBoundary t at) part_is boundary);
      reads = subst (λ (t : Text). AreReads 1 (search_reads t (up_to end fault)) 0 reads) part_is (searches (up_to end fault) its_place);
    }

-- where lexing goes on after a fault that keeps its line
pub end_is : (text : Text) (begin end len : ℕ) (tab : Bool) → len ≡ (if tab then begin + prefix_len (nat_eq 9) (drop begin text) else end) → (fault : Spanned Fault) → IsPlaceOf fault begin end tab → len ≡ passed_end text fault
end_is text begin end len tab is fault place = rw (is, place.begins, place.ends, place.is_tab) refl

-- whether the code's fault keeps its line
pub keeps_is : (origin : Origin) (part : Text) (found : Spanned Fault) (begin end : ℕ) (fault : LexemeError) (follows_comment : Bool) → IsBegun origin part → begin_of origin ≤ found.begin → IsRaw found (begin, fault, end)
    → follows_comment ≡ ends_by_comment found.begin (course_of origin part).lexemes → error_keeps_line part begin fault follows_comment ≡ rest_keeps origin part found
unfolding keeps_line
keeps_is origin part found begin end fault follows_comment begun later raw follows =
    by fault found.node raw.1
  where
    goes : Bool → Fault → Type 0
    goes keeps node = keeps ≡ rest_keeps origin part (record { begin = found.begin; node = node; end = found.end })

    place : begin_of origin + (found.begin - begin_of origin) ≡ found.begin
    place = omega (arith, later)

    margin : is_in_margin (history_before origin).before part found.begin ≡ (found.begin == 0 || begins_with_line_end (drop found.begin part))
    margin = subst (λ n. is_in_margin (history_before origin).before part n ≡ (n == 0 || begins_with_line_end (drop n part))) place (in_part origin part begun (found.begin - begin_of origin))

    by : (fault : LexemeError) (node : Fault) → fault_view fault ≡ Some node → goes (error_keeps_line part begin fault follows_comment) node
    by (error.InvalidInput character) node is =
        subst (goes (error_keeps_line part begin (error.InvalidInput character) follows_comment)) (ap fault_of is) (ap (λ b. not (bytes_eq (string_bytes character) (codes "}")) && not b) follows)
    by error.InvalidTab node is = subst (goes (error_keeps_line part begin error.InvalidTab follows_comment)) (ap fault_of is) (ap (λ n. not (n == 0 || begins_with_line_end (drop n part))) raw.0 ∙ ap not (sym margin))
    by fault node is = subst (goes (error_keeps_line part begin fault follows_comment)) (ap fault_of is) refl
