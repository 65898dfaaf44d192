-- Closed texts end with an LF, and two of them are one closed text.
use Rattle.std.proofs.Common.{◌≡◌, ℕ, ◌+◌, ◌<◌, true, [], ◌++◌, length, drop, refl, ap, ◌∙◌, sym, subst, Some, arith, length-append}
use Rattle.std.specs.Prelude.{◌&&◌, nat_eq, nat_lt, codes}
use Rattle.std.specs.List.{ends_with}
use Rattle.std.proofs.lemmas.Bool.{and_parts, lt-ltb}
use Rattle.std.proofs.lemmas.Bool.Decides.{nat_tests}
use Rattle.std.proofs.lemmas.List.{drop-append-le}
use Rattle.std.proofs.Math.Seq.{drop-append-add}
use Rattle.starlark_grammar.specs.Cuts.{is_faultless}
use Rattle.starlark_grammar.specs.ClosedTexts.{Cut, Empty, IsClosed, IsClosedAfter, Past}
use Rattle.starlark_grammar.specs.Found.{at_line, Passed, passed}
use Rattle.starlark_grammar.specs.FoundLaws.{ClosedJoin}
use Rattle.starlark_grammar.specs.Joining.{begins_plainly, is_between_lines, is_decided, is_line_cut_after}
use Rattle.starlark_grammar.specs.KeptLines.{with_literal}
use Rattle.starlark_grammar.specs.Reading.{history_after, History, after_all, nothing, outcome_after}
use Rattle.starlark_grammar.specs.Tokens.{Fault, Outcome, Spanned, moved}
use Rattle.starlark_grammar.specs.Words.{Text}
use Rattle.starlark_grammar.proofs.Found.FoundItems.{by_keeps, passed_bounds, passed_kept, passed_lost}
use Rattle.starlark_grammar.proofs.Found.JoinedTexts.{fault_is, passed_alike, passed_moved, whole_alike, whole_joined}
use Rattle.starlark_grammar.proofs.Found.PassedFaults.{has_both, passed_stays, whole_both}
use Rattle.starlark_grammar.proofs.Joining.Laws.{ends_after}
use Rattle.starlark_grammar.proofs.Reading.Onward.{last_after, pieces_after}
use Rattle.starlark_grammar.proofs.Reading.Steps.{is_nothing}
use Rattle.starlark_grammar.proofs.Recovery.DecidedFaults.{decided}
use Rattle.starlark_grammar.proofs.Recovery.LineCuts.{AfterCut, Alike, AtLine, BeforeLine, alike_before, alike_line_cut, alike_outcome, cut_of_joined, plain_some}

decided_ends : (text : Text) (fault : Spanned Fault) → is_decided text fault ≡ true → ends_with nat_eq text (codes "\n") ≡ true
unfolding is_decided
decided_ends text fault is = (and_parts (nat_lt fault.end (length text)) _ is).1

pub closed_ends : (history : History) (text : Text) → IsClosedAfter history text → 0 < length text → ends_with nat_eq text (codes "\n") ≡ true
unfolding is_line_cut_after history_after
closed_ends _ _ (Empty widths) some = absurd (omega (arith, some))
closed_ends _ _ (Cut history text cut) some = (and_parts (is_faultless (last_after history text) && is_between_lines (after_all history (pieces_after history text))) _ cut).1
closed_ends _ _ (Past history text fault has is rest) some = decided_ends text (with_literal history text fault) is

decided_moved : (first second : Text) → begins_plainly second ≡ true → (fault : Spanned Fault) → is_decided (first ++ second) (moved (length first) fault) ≡ is_decided second fault
unfolding is_decided
decided_moved first second plain fault =
    let less : nat_lt (length first + fault.end) (length (first ++ second)) ≡ nat_lt fault.end (length second) = rw (length-append first second) (less_both (length first) fault.end (length second)) in
    rw (less, ends_after first second (plain_some second plain)) refl
  where
    less_both : (n a b : ℕ) → nat_lt (n + a) (n + b) ≡ nat_lt a b
    less_both n a b = grind (arith, nat_tests)

decided_both : (first second : Text) → begins_plainly second ≡ true → (fault : Spanned Fault) → is_decided first fault ≡ true → IsClosed second → is_decided (first ++ second) fault ≡ true
unfolding is_decided
decided_both first second plain fault is closed =
    let less = (decided first fault is).0 in
    let still : nat_lt fault.end (length (first ++ second)) ≡ true = lt-ltb fault.end (length (first ++ second)) (omega (arith, less, length-append first second)) in
    rw (still, ends_after first second (plain_some second plain), closed_ends nothing second closed (plain_some second plain)) refl

-- no token was read before the start of a line
abbrev StartsLine : History → Type 0
StartsLine history = is_nothing history.before ≡ true → history ≡ at_line history.widths

-- what is after a fault is in the midst of a line, or at the start of one
passed_line : (history : History) (text : Text) (fault : Spanned Fault) → StartsLine (passed history text fault).history
passed_line history text fault = by_keeps history text fault
    (λ is. subst (λ (p : Passed). StartsLine p.history) (sym (passed_kept history text fault is)) (λ none. cc))
    (λ is. subst (λ (p : Passed). StartsLine p.history) (sym (passed_lost history text fault is)) (λ none. refl))

-- a text that is closed after one of two histories is so after the other
closed_alike : (one other : History) (text : Text) → Alike one other → StartsLine one → IsClosedAfter other text → IsClosedAfter one text
closed_alike one _ _ alike line (Empty widths) =
    subst (λ (h : History). IsClosedAfter h []) (sym (line (ap is_nothing (alike_before one (at_line widths) alike)))) (Empty one.widths)
closed_alike one _ _ alike line (Cut other text cut) = Cut one text (alike_line_cut one other text alike ∙ cut)
closed_alike one _ _ alike line (Past other text fault has is rest) =
    let next = passed_alike one other text fault alike in
    Past one text fault (ap (λ (o : Outcome). o.fault) (alike_outcome one other text alike) ∙ has) (ap (is_decided text) (whole_alike one other text fault alike) ∙ is)
    (subst (λ n. IsClosedAfter (passed one text fault).history (drop n text)) (sym next.0)
    (closed_alike (passed one text fault).history (passed other text fault).history (drop (passed other text fault).len text) next.2 (passed_line one text fault) rest))

line_closed : (history : History) (first : Text) → BeforeLine history first → (start : History) (second : Text) → start ≡ nothing → IsClosedAfter start second → begins_plainly second ≡ true → IsClosedAfter history (first ++ second)
line_closed history first line _ _ e (Empty widths) plain = let some = plain_some [] plain in absurd (omega (arith, some))
line_closed history first line _ _ e (Cut start second is) plain =
    Cut history (first ++ second) (cut_of_joined history first second line plain ∙ ap (λ (h : History). is_line_cut_after h second) (sym e) ∙ is)
line_closed history first line _ _ e (Past start second fault has is rest) plain =
    let decides = ap (λ (h : History). is_decided second (with_literal h second fault)) (sym e) ∙ is in
    let found = ap (λ (h : History). (outcome_after h second).fault) (sym e) ∙ has in
    let next = passed_moved history first second line plain fault found in
    let place : drop (passed history (first ++ second) (moved (length first) fault)).len (first ++ second) ≡ drop (passed nothing second fault).len second =
    ap (λ n. drop n (first ++ second)) next.0 ∙ drop-append-add first second (passed nothing second fault).len in
    Past history (first ++ second) (moved (length first) fault) (fault_is history first second line plain (Some fault) found) (ap (is_decided (first ++ second)) (whole_joined history first second line plain fault) ∙ decided_moved first second plain (with_literal nothing second fault) ∙ decides)
    (subst (IsClosedAfter (passed history (first ++ second) (moved (length first) fault)).history) (sym place)
    (closed_alike (passed history (first ++ second) (moved (length first) fault)).history (passed nothing second fault).history (drop (passed nothing second fault).len second) next.2 (passed_line history (first ++ second) (moved (length first) fault))
    (subst (λ (h : History). IsClosedAfter (passed h second fault).history (drop (passed h second fault).len second)) e rest)))

closed_append : (second : Text) → begins_plainly second ≡ true → IsClosed second → (history : History) (first : Text) → IsClosedAfter history first → IsClosedAfter history (first ++ second)
closed_append second plain closed _ _ (Empty widths) = line_closed (at_line widths) [] (AtLine widths) nothing second refl closed plain
closed_append second plain closed _ _ (Cut history first cut) = line_closed history first (AfterCut history first cut) nothing second refl closed plain
closed_append second plain closed _ _ (Past history first fault has is rest) =
    let inside = (passed_bounds history first fault has).1 in
    let left : drop (passed history first fault).len (first ++ second) ≡ drop (passed history first fault).len first ++ second = drop-append-le (passed history first fault).len first second inside in
    Past history (first ++ second) fault (has_both history first second fault has is) (ap (is_decided (first ++ second)) (whole_both history first second fault has is) ∙ decided_both first second plain (with_literal history first fault) is closed)
    (subst (λ (p : Passed). IsClosedAfter p.history (drop p.len (first ++ second))) (sym (passed_stays history first second fault has is))
    (subst (IsClosedAfter (passed history first fault).history) (sym left) (closed_append second plain closed (passed history first fault).history (drop (passed history first fault).len first) rest)))

pub closed_join : ClosedJoin
closed_join first second one plain other = closed_append second plain other nothing first one
