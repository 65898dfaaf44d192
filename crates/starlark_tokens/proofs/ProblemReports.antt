-- Problems of a text: what is printed of them as one item more is passed.
use Rattle.std.proofs.lemmas.Bool.{lt-ltb}
use Rattle.std.proofs.lemmas.List.{length-append}
use Rattle.std.proofs.lemmas.List.Elements.{filter-append}
use Rattle.std.proofs.Common.{◌≡◌, cond, ℕ, zero, suc, ◌+◌, ◌-◌, ◌^◌, ◌≤◌, min, Bool, true, false, List, [], ◌∷◌, ◌++◌, refl, ap, append-nil, append_assoc, arith, count_by, drop, length, map, subst, sym, take, ◌∙◌, None, Some, Ok, Err, nat_lt}
use Rattle.std.specs.List.{flat_map, slice_get}
use Rattle.std.specs.Prelude.{IfOk, OnOk, Option, Result, if◌then◌else◌, option_to_list}
use Rattle.std.specs.IoError.{error_kind}
use Rattle.std.specs.declared.io.Error.{Error}
use Rattle.std.specs.declared.io.ErrorKind.TheVariants.{OutOfMemory}
use Rattle.starlark_base.specs.Places.{Text}
use Rattle.starlark_checks.specs.Findings.{Passed, open_brackets}
use Rattle.starlark_checks.specs.Inner.CheckerViews.{HasPassed}
use Rattle.starlark_checks.specs.OpenStack.{never_closed}
use Rattle.starlark_checks.specs.declared.check.Finding.{Finding}
use Rattle.starlark_checks.specs.declared.checker.Checker.{Checker}
use Rattle.starlark_devices.specs.Calls.{WriterCalls, Going}
use Rattle.starlark_recovery.specs.RecoveringLexer.{all_items}
use Rattle.starlark_token.specs.TextItems.{LexerItem}
use Rattle.starlark_tokens.proofs.Reported.{some_left}
use Rattle.starlark_tokens.proofs.ReportWrites.{no_memory, stops_later, stops_longer, took_nil, took_then, takes_later}
use Rattle.starlark_tokens.specs.Reporting.ReportWrites.{StopsWithin, Takes, Took}
use Rattle.starlark_tokens.specs.Inner.Reporters.{shown_problems}
use Rattle.starlark_tokens.specs.Inner.FoundProblems.{done_by, held_after, joined_with}
use Rattle.starlark_tokens.specs.ToldFaults.Problems.{OfCheck, Problem, both, is_told, joined, joined_after, passed, problem_at, problems, problems_from, told, touch}
use Rattle.starlark_tokens.specs.Reporting.Reports.{fault_count, has_only_faults, is_fault, items_report, problem_report, problems_report, shown_part}
use Rattle.starlark_tokens.specs.declared.told_faults.filters.Filter.{Filter}
use Rattle.starlark_tokens.specs.declared.output_formats.form.Style.{Style}

all_left : (most : ℕ) → most ≡ most - 0
all_left most = omega arith

one_less : (n : ℕ) → n ≡ suc n - 1
one_less n = omega arith

nothing : (b : Bool) (none : Text) → none ≡ (if b then none else none)
nothing true none = refl
nothing false none = refl

-- what is printed of the first problems, and of those after them
pub problems_step : (style : Style) (prefix text : Text) (most : ℕ) (now more : List Problem) → length now ≤ 1
    → problems_report style prefix text most (now ++ more) ≡ shown_problems (nat_lt 0 most) style prefix text now ++ problems_report style prefix text (most - length now) more
unfolding problems_report
problems_step style prefix text most [] more few =
    let f = problem_report style prefix text in
    ap (λ n. flat_map f (take n more)) (all_left most) ∙ ap (λ t. t ++ flat_map f (take (most - 0) more)) (nothing (nat_lt 0 most) [])
problems_step style prefix text zero (problem ∷ []) more few = refl
problems_step style prefix text (suc n) (problem ∷ []) more few =
    let f = problem_report style prefix text in
    ap (λ t. t ++ flat_map f (take n more)) (sym (append-nil (f problem)))
    ∙ ap (λ k. (f problem ++ []) ++ flat_map f (take k more)) (one_less n)
    ∙ ap (λ b. (if b then f problem ++ [] else []) ++ flat_map f (take (suc n - 1) more)) (sym (lt-ltb 0 (suc n) (omega arith)))
problems_step style prefix text most (problem ∷ (other ∷ rest)) more few = absurd (omega (arith, few))

less_left : (most found after count limit : ℕ) → most ≤ limit → after ≡ min (found + count) limit → most - found - count ≡ most - after
less_left most found after count limit within is = omega (arith, within, is)

-- what is printed of the next problems and of those after them, where some were found before
pub left_step : (style : Style) (prefix text : Text) (most found after : ℕ) (now more : List Problem) → length now ≤ 1 → most ≤ 2 ^ 64 - 1 → after ≡ min (found + length now) (2 ^ 64 - 1)
    → problems_report style prefix text (most - found) (now ++ more) ≡ shown_problems (nat_lt found most) style prefix text now ++ problems_report style prefix text (most - after) more
left_step style prefix text most found after now more few within is =
    problems_step style prefix text (most - found) now more few
    ∙ ap (λ b. shown_problems b style prefix text now ++ problems_report style prefix text (most - found - length now) more) (some_left found most)
    ∙ ap (λ n. shown_problems (nat_lt found most) style prefix text now ++ problems_report style prefix text n more) (less_left most found after (length now) (2 ^ 64 - 1) within is)

-- the first of the brackets never closed, and those after it
pub first_open : (found : Finding) (left : List Finding) → Some found ≡ slice_get left 0 → left ≡ found ∷ drop 1 left
first_open found [] is = cc
first_open found (first ∷ rest) is = let same : found ≡ first = cc in ap (λ f. f ∷ rest) (sym same)

pub none_open : (left : List Finding) → None ≡ slice_get left 0 → left ≡ []
none_open [] is = refl
none_open (first ∷ rest) is = cc

pub no_problems : (style : Style) (prefix text : Text) (most : ℕ) → problems_report style prefix text most [] ≡ []
unfolding problems_report
no_problems style prefix text zero = refl
no_problems style prefix text (suc n) = refl

few_if : (b : Bool) (problem : Problem) → length (cond b (problem ∷ []) []) ≤ 1
few_if true problem = omega arith
few_if false problem = omega arith

-- at most one of one problem is told
pub few_told : (which : Filter) (text : Text) (problem : Option Problem) → length (told which text (option_to_list problem)) ≤ 1
few_told which text None = omega arith
few_told which text (Some problem) = few_if (is_told which text problem) problem

pub problems_cons : (text : Text) (before : List Passed) (item : LexerItem) (more : List LexerItem) → problems_from text before (item ∷ more) ≡ option_to_list (problem_at text before item) ++ problems_from text (passed item ∷ before) more
unfolding problems_from
problems_cons text before item more = refl

-- the problems at the end are the brackets that are never closed
pub problems_end : (text : Text) (before : List Passed) (checker : Checker) → HasPassed text before checker → problems_from text before [] ≡ map OfCheck (never_closed checker.stack)
unfolding problems_from open_brackets
problems_end text before checker has = ap (λ stack. map OfCheck (never_closed stack)) (sym has.stack)

by_touch : (b : Bool) (last next : Problem) (more : List Problem) → (if b then joined_after (both last next) more else last ∷ joined_after next more) ≡ option_to_list (if b then None else Some last) ++ joined_with (if b then Some (both last next) else Some next) more
by_touch true last next more = refl
by_touch false last next more = refl

-- the problems that are left, with one that is held, where the next one comes or none
joined_step : (last next : Option Problem) (more : List Problem) → joined_with last (option_to_list next ++ more) ≡ option_to_list (done_by last next) ++ joined_with (held_after last next) more
unfolding joined_after
joined_step None None more = refl
joined_step (Some last) None more = refl
joined_step None (Some next) more = refl
joined_step (Some last) (Some next) more = by_touch (touch last next) last next more

-- … of which some are told
pub told_step : (which : Filter) (text : Text) (last next : Option Problem) (more : List Problem)
    → told which text (joined_with last (option_to_list next ++ more)) ≡ told which text (option_to_list (done_by last next)) ++ told which text (joined_with (held_after last next) more)
told_step which text last next more = ap (told which text) (joined_step last next more) ∙ filter-append (is_told which text) (option_to_list (done_by last next)) (joined_with (held_after last next) more)

-- at the end only the problem that is held is left
pub joined_end : (last : Option Problem) → joined_with last [] ≡ option_to_list last
unfolding joined_after
joined_end None = refl
joined_end (Some last) = refl

-- what is printed of the last problem
last_step : (style : Style) (prefix text : Text) (most found : ℕ) (now : List Problem) → length now ≤ 1 → most ≤ 2 ^ 64 - 1 → problems_report style prefix text (most - found) now ≡ shown_problems (nat_lt found most) style prefix text now
last_step style prefix text most found now few within =
    ap (problems_report style prefix text (most - found)) (sym (append-nil now))
    ∙ left_step style prefix text most found _ now [] few within refl
    ∙ ap (λ t. shown_problems (nat_lt found most) style prefix text now ++ t) (no_problems style prefix text _)
    ∙ append-nil (shown_problems (nat_lt found most) style prefix text now)

-- What is to be printed of problems, after some others, is what was written, and what is printed of those that are left; the
-- problems so far are counted.
pub record IsPut {W : Type 0} (calls : WriterCalls W) (style : Style) (prefix text : Text) (most start found : ℕ) (old new : W) (all left : List Problem) : Type 0 where
  pub done : Text
  pub took : Took calls Going old new done
  pub whole : done ++ problems_report style prefix text (most - found) left ≡ problems_report style prefix text (most - start) all
  pub counted : min (found + length left) (2 ^ 64 - 1) ≡ min (start + length all) (2 ^ 64 - 1)
  pub fits : found ≤ 2 ^ 64 - 1

pub put_none : {W : Type 0} (calls : WriterCalls W) (style : Style) (prefix text : Text) (most start : ℕ) (w : W) (all : List Problem) → start ≤ 2 ^ 64 - 1 → IsPut calls style prefix text most start start w w all all
put_none calls style prefix text most start w all fits = record { done = []; took = took_nil calls w; whole = refl; counted = refl; fits = fits }

-- … with at most one problem more
pub put_then : {W : Type 0} (calls : WriterCalls W) (style : Style) (prefix text : Text) (most start found after : ℕ) (a b c : W) (all now later : List Problem) → most ≤ 2 ^ 64 - 1 → length now ≤ 1 → after ≡ min (found + length now) (2 ^ 64 - 1)
    → IsPut calls style prefix text most start found a b all (now ++ later) → Took calls Going b c (shown_problems (nat_lt found most) style prefix text now) → IsPut calls style prefix text most start after a c all later
put_then calls style prefix text most start found after a b c all now later within few is put wrote =
    let item = shown_problems (nat_lt found most) style prefix text now in
    let rest = problems_report style prefix text (most - after) later in
    record {
      done = put.done ++ item;
      took = took_then calls Going a b c put.done item put.took wrote;
      whole = append_assoc put.done item rest ∙ ap (λ t. put.done ++ t) (sym (left_step style prefix text most found after now later few within is)) ∙ put.whole;
      counted = omega (arith, is, length-append now later, put.counted, put.fits);
      fits = omega (arith, is);
    }

-- … where memory ran out
pub put_memory : {W : Type 0} (calls : WriterCalls W) (style : Style) (prefix text : Text) (most start found : ℕ) (a b : W) (error : Error) (all left : List Problem) → error_kind error ≡ OutOfMemory
    → IsPut calls style prefix text most start found a b all left → StopsWithin calls a b error (problems_report style prefix text (most - start) all)
put_memory calls style prefix text most start found a b error all left memory put =
    subst (StopsWithin calls a b error) put.whole (stops_later calls a b b error put.done _ put.took (no_memory calls b error _ memory))

-- … where writing of that one stopped
pub put_stops : {W : Type 0} (calls : WriterCalls W) (style : Style) (prefix text : Text) (most start found : ℕ) (a b c : W) (error : Error) (all now later : List Problem) → most ≤ 2 ^ 64 - 1 → length now ≤ 1
    → IsPut calls style prefix text most start found a b all (now ++ later) → StopsWithin calls b c error (shown_problems (nat_lt found most) style prefix text now) → StopsWithin calls a c error (problems_report style prefix text (most - start) all)
put_stops calls style prefix text most start found a b c error all now later within few put stopped =
    let item = shown_problems (nat_lt found most) style prefix text now in
    let longer = stops_longer calls b c error item (problems_report style prefix text (most - min (found + length now) (2 ^ 64 - 1)) later) stopped in
    subst (StopsWithin calls a c error) (ap (λ t. put.done ++ t) (sym (left_step style prefix text most found _ now later few within refl)) ∙ put.whole) (stops_later calls a b c error put.done _ put.took longer)

-- … and where it was the last one
pub put_last : {W T : Type 0} (calls : WriterCalls W) (style : Style) (prefix text : Text) (most start found : ℕ) (a b c : W) (all now : List Problem) (result : Result T Error) → most ≤ 2 ^ 64 - 1 → length now ≤ 1
    → IsPut calls style prefix text most start found a b all now → Takes calls Going b c (shown_problems (nat_lt found most) style prefix text now) result → Takes calls Going a c (problems_report style prefix text (most - start) all) result
put_last calls style prefix text most start found a b c all now result within few put takes =
    subst (λ t. Takes calls Going a c t result) (ap (λ t. put.done ++ t) (sym (last_step style prefix text most found now few within)) ∙ put.whole) (takes_later calls _ Going a b c put.done _ result put.took takes)

-- … after which those of others are printed
pub put_rest : {W T : Type 0} (calls : WriterCalls W) (style : Style) (prefix text : Text) (most start found : ℕ) (a b c : W) (all left : List Problem) (result : Result T Error)
    → IsPut calls style prefix text most start found a b all left → Takes calls Going b c (problems_report style prefix text (most - found) left) result → Takes calls Going a c (problems_report style prefix text (most - start) all) result
put_rest calls style prefix text most start found a b c all left result put takes =
    subst (λ t. Takes calls Going a c t result) put.whole (takes_later calls _ Going a b c put.done _ result put.took takes)

-- what follows of what holds where a result is `Ok`
pub on_ok : (T E : Type 0) (result : Result T E) (P Q : Type 0) → (P → Q) → OnOk result P → OnOk result Q
on_ok T E (Ok value) P Q next holds = next holds
on_ok T E (Err error) P Q next holds = tt

-- what follows of what holds of an `Ok` value
pub if_ok : (T E : Type 0) (result : Result T E) (P Q : T → Type 0) → ((value : T) → P value → Q value) → IfOk result P → IfOk result Q
if_ok T E (Ok value) P Q next holds = next value holds
if_ok T E (Err error) P Q next holds = tt

-- what is printed of a text, by its form
pub part_of_problems : (style : Style) (prefix text : Text) → has_only_faults style.form ≡ true → problems_report style prefix text style.most (told style.filter.now text (joined (problems_from text [] (all_items text)))) ≡ shown_part style prefix text
unfolding shown_part problems
part_of_problems style prefix text is = ap (λ b. if b then problems_report style prefix text style.most (told style.filter.now text (joined (problems_from text [] (all_items text)))) else items_report style prefix text style.most (all_items text)) (sym is)

pub part_of_items : (style : Style) (prefix text : Text) → has_only_faults style.form ≡ false → items_report style prefix text style.most (all_items text) ≡ shown_part style prefix text
unfolding shown_part problems
part_of_items style prefix text is = ap (λ b. if b then problems_report style prefix text style.most (told style.filter.now text (joined (problems_from text [] (all_items text)))) else items_report style prefix text style.most (all_items text)) (sym is)

pub count_problems : (style : Style) (text : Text) → has_only_faults style.form ≡ true → length (told style.filter.now text (joined (problems_from text [] (all_items text)))) ≡ fault_count style text
unfolding fault_count problems
count_problems style text is = ap (λ b. if b then length (told style.filter.now text (joined (problems_from text [] (all_items text)))) else count_by is_fault (all_items text)) (sym is)

pub count_items : (style : Style) (text : Text) → has_only_faults style.form ≡ false → count_by is_fault (all_items text) ≡ fault_count style text
unfolding fault_count problems
count_items style text is = ap (λ b. if b then length (told style.filter.now text (joined (problems_from text [] (all_items text)))) else count_by is_fault (all_items text)) (sym is)
