-- Totals of sources, as one more is counted.
use Rattle.std.proofs.Common.{◌≡◌, ℕ, zero, suc, ◌+◌, Bool, true, false, cond, not, nat_lt, List, [], ◌∷◌, ◌++◌, refl, ap, sym, ◌∙◌, arith, Ok, Err, count_by}
use Rattle.std.proofs.lemmas.Bool.{lt-ltb}
use Rattle.std.proofs.lemmas.List.Sums.{sum_by-append}
use Rattle.std.specs.Prelude.{Result, if◌then◌else◌, sum_by}
use Rattle.starlark_base.specs.Places.{Text}
use Rattle.starlark_tokens.specs.Reporting.Reports.{fault_count}
use Rattle.starlark_tokens.specs.Reporting.Totals.{faults_in, in_64_bits, is_read, totals_of, with_source}
use Rattle.starlark_tokens.specs.declared.output_formats.form.Style.{Style}
use Rattle.starlark_tokens.specs.declared.reporting.totals.Totals.{Totals}

abbrev is_faulty : Style → Result Text Text → Bool
is_faulty style source = nat_lt 0 (faults_in style source)

abbrev is_lost : Result Text Text → Bool
is_lost source = not (is_read source)

-- a count that stops, with one more
counted : (p : Result Text Text → Bool) (sources : List (Result Text Text)) (source : Result Text Text) → in_64_bits (in_64_bits (count_by p sources) + cond (p source) 1 0) ≡ in_64_bits (count_by p (sources ++ source ∷ []))
counted p sources source =
    let all = sum_by-append (λ x. cond (p x) 1 0) sources (source ∷ []) in
    omega (arith, all)

summed : (style : Style) (sources : List (Result Text Text)) (source : Result Text Text) → in_64_bits (in_64_bits (sum_by (faults_in style) sources) + in_64_bits (faults_in style source)) ≡ in_64_bits (sum_by (faults_in style) (sources ++ source ∷ []))
summed style sources source =
    let all = sum_by-append (faults_in style) sources (source ∷ []) in
    omega (arith, all)

-- whether there are faults isn't lost where their count stops
still_some : (n : ℕ) → nat_lt 0 (in_64_bits n) ≡ nat_lt 0 n
still_some zero = refl
still_some (suc n) = lt-ltb 0 (in_64_bits (suc n)) (omega arith) ∙ sym (lt-ltb 0 (suc n) (omega arith))

abbrev totals : (files faulty_files faults unreadable : ℕ) → Totals
totals files faulty_files faults unreadable = record { files = files; faulty_files = faulty_files; faults = faults; unreadable = unreadable }

same_totals : (a b c d e f g h : ℕ) → a ≡ b → c ≡ d → e ≡ f → g ≡ h → totals a c e g ≡ totals b d f h
same_totals a b c d e f g h p q r s = cc

faulty_by : (b : Bool) (c : ℕ) → (if b then in_64_bits (in_64_bits c + 1) else in_64_bits c) ≡ in_64_bits (in_64_bits c + cond b 1 0)
faulty_by true c = refl
faulty_by false c = omega arith

-- how many couldn't be read, with one source more
lost_counted : (lost : ℕ) (sources : List (Result Text Text)) (source : Result Text Text)
    → in_64_bits (in_64_bits (lost + count_by is_lost sources) + cond (is_lost source) 1 0) ≡ in_64_bits (lost + count_by is_lost (sources ++ source ∷ []))
lost_counted lost sources source =
    let all = sum_by-append (λ x. cond (is_lost x) 1 0) sources (source ∷ []) in
    omega (arith, all)

kept : (n : ℕ) → in_64_bits n ≡ in_64_bits (in_64_bits n + 0)
kept n = omega arith

-- totals with one source more are those of all of them
pub with_next : (style : Style) (lost : ℕ) (sources : List (Result Text Text)) (source : Result Text Text) → with_source style (totals_of style lost sources) source ≡ totals_of style lost (sources ++ source ∷ [])
with_next style lost sources (Ok text) =
    let c = count_by (is_faulty style) sources in
    let faulty = ap (λ b. if b then in_64_bits (in_64_bits c + 1) else in_64_bits c) (still_some (fault_count style text)) ∙ faulty_by (nat_lt 0 (fault_count style text)) c ∙ counted (is_faulty style) sources (Ok text) in
    let unreadable = kept (lost + count_by is_lost sources) ∙ lost_counted lost sources (Ok text) in
    same_totals _ _ _ _ _ _ _ _ (counted is_read sources (Ok text)) faulty (summed style sources (Ok text)) unreadable
with_next style lost sources (Err reason) =
    let read = kept (count_by is_read sources) ∙ counted is_read sources (Err reason) in
    let faulty = kept (count_by (is_faulty style) sources) ∙ counted (is_faulty style) sources (Err reason) in
    let faults = kept (sum_by (faults_in style) sources) ∙ summed style sources (Err reason) in
    same_totals _ _ _ _ _ _ _ _ read faulty faults (lost_counted lost sources (Err reason))
