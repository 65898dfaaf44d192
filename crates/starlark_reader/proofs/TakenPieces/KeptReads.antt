-- Reads of a fault that may keep its line leave some for the bytes that are passed with it.
use Rattle.std.proofs.Common.{◌≡◌, ◌≤◌, ◌+◌, ◌-◌, ◌*◌, Bool, true, false, ℕ, zero, suc, List, [], ◌∷◌, Some, length, drop, take, nat_eq, refl, ap, sym, subst, ◌∙◌, arith, rules}
use Rattle.std.specs.Prelude.{Option, None, if◌then◌else◌}
use Rattle.std.specs.List.{list_all, prefix_len}
use Rattle.std.proofs.lemmas.Bool.{and_parts, both_ways}
use Rattle.starlark_grammar.specs.AfterFaults.{is_tab}
use Rattle.starlark_grammar.specs.Inner.KeptFaults.{may_keep}
use Rattle.starlark_grammar.specs.Pieces as grammar
use Rattle.starlark_grammar.specs.Pieces.{Fails}
use Rattle.starlark_grammar.specs.KeptLines.{is_bad_escape, passed_end}
use Rattle.starlark_grammar.specs.Tokens.{Fault, InvalidTab, Opening, Spanned}
use Rattle.starlark_grammar.specs.Words.{Text, class_in, is_run, language, line_ends, names, openers, symbols}
use Rattle.starlark_grammar.specs.declared.class.Class.{Class}
use Rattle.starlark_grammar.specs.declared.class.Class.TheVariants as class
use Rattle.starlark_grammar.specs.Items.{body_at}
use Rattle.starlark_grammar.specs.declared.class.LiteralKind.TheVariants.{FString as OfFString}
use Rattle.starlark_grammar.proofs.KeptLines.Faults.{chunk_escapes_none, chunk_lost, step_escapes, step_keeps}
use Rattle.starlark_grammar.proofs.Lists.{drop-sum}
use Rattle.starlark_grammar.proofs.Words.Classes.{RowsFit, language_all_fit, patterns_all_fit}
use Rattle.starlark_reader.proofs.NextLines.{front_run}
use Rattle.starlark_reader.specs.Inner.ReadBounds.{AreEscapeReads, AreStepReads, LeavesEscape, LeavesReads, is_tab_error, is_tab_view}
use Rattle.starlark_words.specs.Inner.Reads.{AreReads}
use Rattle.starlark_token.specs.Lexemes.{fault_view}
use Rattle.starlark_token.specs.declared.lexeme_error.LexemeError.{LexemeError}
use Rattle.starlark_reader.specs.Inner.StepViews.{IsStep, ReadStep}
use Rattle.starlark_reader.specs.Inner.StepViews as steps

-- what the bound says of a step of the grammar
abbrev pub Leaves : (spent : ℕ) → Text → grammar.Step → (before after : ℕ) → Type 0
Leaves spent text stands before after =
    (fault : Spanned Fault) → stands ≡ Fails fault → (may_keep fault.node ≡ true → after + spent + (passed_end text fault - fault.begin) + 1 ≤ before + 10 * (passed_end text fault - fault.begin)) × LeavesEscape spent fault before after

-- so it says it of the step of the code
pub step_leaves : (spent : ℕ) (text : Text) (stands : grammar.Step) (step : ReadStep) (before after : ℕ) → IsStep stands step → Leaves spent text stands before after → LeavesReads spent text step before after
step_leaves spent text stands (steps.Token token len) before after is leaves = tt
step_leaves spent text stands (steps.Text value chunk) before after is leaves = tt
step_leaves spent text stands (steps.Fault begin fault end) before after is leaves = λ node view.
    let both : ◌≡◌ {A = _} (Some is.0) (Some node) = sym is.1 ∙ view in
    let same : is.0 ≡ node = cc in
    leaves (record { begin = begin; node = node; end = end }) (is.2 ∙ ap (λ node. grammar.fault begin node end) same)

pub never_kept : (spent : ℕ) (text : Text) (stands : grammar.Step) (step : ReadStep) (before after : ℕ) → IsStep stands step → step_keeps stands ≡ false → step_escapes stands ≡ false → LeavesReads spent text step before after
never_kept spent text stands step before after is none good =
    step_leaves spent text stands step before after is (λ fault e. ((λ keeps. let some : step_keeps stands ≡ true = ap step_keeps e ∙ keeps in cc), (λ bad. let some : step_escapes stands ≡ true = ap step_escapes e ∙ bad in cc)))

-- reads of a whole literal up to its bad escape, with those of its opener
pub escape_leaves : (passed len spent : ℕ) (text : Text) (stands : grammar.Step) (step : ReadStep) (before between after : ℕ) → IsStep stands step → step_keeps stands ≡ false → 1 ≤ len → len ≤ passed → spent ≤ 5 * len + 3 → between ≤ before + 2
    → AreEscapeReads passed step between after → LeavesReads spent text step before after
escape_leaves passed len spent text stands (steps.Token token taken) before between after is none some inside few told reads = tt
escape_leaves passed len spent text stands (steps.Text value chunk) before between after is none some inside few told reads = tt
escape_leaves passed len spent text stands (steps.Fault begin fault end) before between after is none some inside few told reads = λ node view.
    let both : ◌≡◌ {A = _} (Some is.0) (Some node) = sym is.1 ∙ view in
    let same : is.0 ≡ node = cc in
    let never : may_keep node ≡ false = sym (ap may_keep same) ∙ sym (ap step_keeps is.2) ∙ none in
    ((λ keeps. absurd (both_ways _ never keeps)), (λ bad. let read = reads node view bad in omega (arith, some, inside, few, told, read.0, read.1)))

-- no text of an f-string is such a fault
pub chunk_good : (opening : Opening) (text : Text) → step_escapes (grammar.chunk opening text) ≡ false
unfolding grammar.chunk
chunk_good opening text = chunk_escapes_none opening text (body_at (record { kind = OfFString; opening = opening }) text) _

pub chunk_keeps_none : (opening : Opening) (text : Text) → step_keeps (grammar.chunk opening text) ≡ false
unfolding grammar.chunk
chunk_keeps_none opening text = chunk_lost opening text (body_at (record { kind = OfFString; opening = opening }) text) _

-- a fault that is all of a word
pub word_leaves : (text : Text) (spent n : ℕ) (node : Fault) (before after : ℕ) → is_tab node ≡ false → is_bad_escape node ≡ false → after + spent + n + 1 ≤ before + 10 * n → Leaves spent text (grammar.fault 0 node n) before after
word_leaves text spent n node before after other good few = search rules

-- Tabs

abbrev is_of_tabs : Class → Text → Bool
is_of_tabs class.Tabs word = is_run (nat_eq 9) word
is_of_tabs it word = true

rows_fit : RowsFit is_of_tabs
unfolding openers line_ends symbols names
rows_fit = (refl, refl, refl, refl)

tabs_are : (word : Text) (it : Class) → class_in language word ≡ Some it → is_of_tabs it word ≡ true
tabs_are = language_all_fit is_of_tabs rows_fit (λ word. patterns_all_fit is_of_tabs word (λ h. refl) (λ h. refl) (λ h. h) (λ h. refl) (λ h. refl) (λ h. refl) (λ h. refl) (λ h. refl) (λ h. refl) (λ h. refl))

all_passed : (test : ℕ → Bool) (word : Text) → list_all test word ≡ true → length word ≤ prefix_len test word
all_passed test [] all = omega arith
all_passed test (b ∷ bs) all = let parts = and_parts (test b) (list_all test bs) all in rw parts.0 (omega (arith, all_passed test bs parts.1))

run_passed : (test : ℕ → Bool) (word : Text) → is_run test word ≡ true → length word ≤ prefix_len test word
run_passed test [] run = omega arith
run_passed test (b ∷ bs) run = all_passed test (b ∷ bs) run

pub tabs_leave : (word : Text) (reads : ℕ) → class_in language word ≡ Some class.Tabs → 1 ≤ length word → Leaves (5 * length word + 3) word (grammar.fault 0 InvalidTab 0) reads reads
tabs_leave word reads known some = λ fault e.
    let same : record { begin = 0; node = InvalidTab; end = 0 } ≡ fault = cc in
    let whole = run_passed (nat_eq 9) word (tabs_are word class.Tabs known) in
    subst (λ (fault : Spanned Fault). (may_keep fault.node ≡ true → reads + (5 * length word + 3) + (passed_end word fault - fault.begin) + 1 ≤ reads + 10 * (passed_end word fault - fault.begin)) × LeavesEscape (5 * length word + 3) fault reads reads) same ((λ keeps. omega (arith, whole, some)), (λ bad. cc))

drop_of_front : {A : Type 0} (at n : ℕ) (text : List A) → (k : ℕ) × (drop at (take n text) ≡ take k (drop at text))
drop_of_front zero n text = (n, refl)
drop_of_front (suc at) (suc n) (b ∷ bs) = drop_of_front at n bs
drop_of_front (suc at) n text = (0, refl)

front_passed : (n : ℕ) (text : Text) (fault : Spanned Fault) → passed_end (take n text) fault ≤ passed_end text fault
front_passed n text fault = by (is_tab fault.node)
  where
    by : (tab : Bool) → (if tab then fault.begin + prefix_len (nat_eq 9) (drop fault.begin (take n text)) else fault.end) ≤ (if tab then fault.begin + prefix_len (nat_eq 9) (drop fault.begin text) else fault.end)
    by true =
        let front = drop_of_front fault.begin n text in
        omega (arith, front_run (nat_eq 9) front.0 (drop fault.begin text), ap (prefix_len (nat_eq 9)) front.1)
    by false = omega arith

-- the reads of a word's step, with those of the word itself
pub front_leaves : (n spent : ℕ) (text : Text) (it : ReadStep) (before between after : ℕ) → between ≤ before + spent → LeavesReads spent (take n text) it between after → LeavesReads 0 text it before after
front_leaves n spent text (steps.Token token len) before between after read leaves = tt
front_leaves n spent text (steps.Text value chunk) before between after read leaves = tt
front_leaves n spent text (steps.Fault begin fault end) before between after read leaves = λ node view.
    let left = leaves node view in
    ((λ keeps. omega (arith, read, left.0 keeps, front_passed n text (record { begin = begin; node = node; end = end }))), (λ bad. omega (arith, read, left.1 bad)))

-- the same text, with reads before
pub none_leave : (spent : ℕ) (text : Text) (it : ReadStep) (before between after : ℕ) → between ≤ before + spent → LeavesReads spent text it between after → LeavesReads 0 text it before after
none_leave spent text (steps.Token token len) before between after read leaves = tt
none_leave spent text (steps.Text value chunk) before between after read leaves = tt
none_leave spent text (steps.Fault begin fault end) before between after read leaves = λ node view. let left = leaves node view in ((λ keeps. omega (arith, read, left.0 keeps)), (λ bad. omega (arith, read, left.1 bad)))

-- whether an error is a bad escape in a literal
abbrev pub is_bad_view : Option Fault → Bool
is_bad_view (Some node) = is_bad_escape node
is_bad_view None = false

-- a character that begins no word, after the lookahead for a bang
pub character_leaves : (text : Text) (end : ℕ) (fault : LexemeError) (before between after : ℕ) → 1 ≤ end → AreReads 2 2 before between → is_tab_error fault ≡ false → is_bad_view (fault_view fault) ≡ false → AreStepReads 0 1 0 0 (steps.Fault 0 fault end) between after → LeavesReads 3 text (steps.Fault 0 fault end) before after
character_leaves text end fault before between after some bang untabbed good reads = λ node view.
    let other : is_tab node ≡ false = sym (ap is_tab_view view) ∙ untabbed in
    let read : after ≤ between + (1 * end + 0) = subst (λ tab. after ≤ between + (if tab then 5 * 0 + 3 else 1 * end + 0)) untabbed reads.1 in
    let none : is_bad_escape node ≡ false = sym (ap is_bad_view view) ∙ good in
    ((λ keeps. rw other (omega (arith, some, bang.1, read))), (λ bad. absurd (both_ways _ none bad)))

-- where lexing goes on in the rest of a text, at its place in the text
pub moved_passed : (text : Text) (at begin end : ℕ) (node : Fault) → passed_end text (record { begin = at + begin; node = node; end = at + end }) ≡ at + passed_end (drop at text) (record { begin = begin; node = node; end = end })
moved_passed text at begin end node = by (is_tab node)
  where
    by : (tab : Bool) → (if tab then at + begin + prefix_len (nat_eq 9) (drop (at + begin) text) else at + end) ≡ at + (if tab then begin + prefix_len (nat_eq 9) (drop begin (drop at text)) else end)
    by true = omega (arith, ap (prefix_len (nat_eq 9)) (drop-sum at begin text))
    by false = refl
