use Rattle.std.proofs.Common.{◌≡◌, ℕ, ◌<◌, ◌≤◌, ◌≢◌, not, arith, ap, get_or, length, sym, take, ◌∙◌}
use Rattle.std.proofs.lemmas.Bool.{eq-eqb, ne_eqb, not_from_true, not_from_false}
use Rattle.std.proofs.lemmas.List.{take_all}
use Rattle.std.proofs.lemmas.List.Sums.{prefix_len_is}
use Rattle.std.proofs.lemmas.Str.Pattern.{find_char}
use Rattle.std.specs.List.{prefix_len}
use Rattle.starlark_base.specs.Places.{Text, is_lf}
use Rattle.starlark_base.proofs.Pairs.{front_range}
use Rattle.starlark_tokens.proofs.output_formats.fault_lines.line_back.Goals as goal

-- the bytes before the first LF
before_lf : (rest : Text) (n : ℕ) → n ≤ length rest → ((k : ℕ) → k < n → get_or rest k 0 ≢ 10) → (n < length rest → get_or rest n 0 ≡ 10) → prefix_len (λ b. not (is_lf b)) rest ≡ n
before_lf rest n within before at =
    prefix_len_is (λ b. not (is_lf b)) rest n 0 within
    (λ k l. not_from_false (is_lf (get_or rest k 0)) (ne_eqb (get_or rest k 0) 10 (before k l)))
    (λ l. not_from_true (is_lf (get_or rest n 0)) (eq-eqb (get_or rest n 0) 10 (at l)))

pub returns-in-None : goal.returns-in-None
returns-in-None c =
    let rest = c.range_from-rest.result.now in
    let none = rw c.in-None.is at (find_char 10 rest c.find.result c.find.ensures.cases (omega arith)) in
    let len = before_lf rest (length rest) (omega arith) none (λ l. absurd (omega (arith, l))) in
    sym (take_all (length rest) rest (omega arith)) ∙ ap (λ n. take n rest) (sym len) ∙ ap (λ t. take (prefix_len (λ b. not (is_lf b)) t) t) c.range_from-rest.ensures.value

pub returns-in-Some : goal.returns-in-Some
returns-in-Some c =
    let rest = c.range_from-rest.result.now in
    let found = rw c.in-Some.is at (find_char 10 rest c.find.result c.find.ensures.cases (omega arith)) in
    let len = before_lf rest c.in-Some.len (omega (arith, found.0)) found.2 (λ l. found.1) in
    c.range.ensures.value ∙ front_range rest c.in-Some.len ∙ ap (λ n. take n rest) (sym len) ∙ ap (λ t. take (prefix_len (λ b. not (is_lf b)) t) t) c.range_from-rest.ensures.value
