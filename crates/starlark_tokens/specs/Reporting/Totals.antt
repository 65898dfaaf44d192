-- What was found in the sources of a run: for each the text that was read, or why it couldn't be read.
use Rattle.std.specs.Prelude.{◌≡◌, ℕ, ◌+◌, ◌-◌, ◌^◌, min, Bool, true, false, not, nat_lt, if◌then◌else◌, List, length, count_by, sum_by, Result, Ok, Err}
use Rattle.starlark_base.specs.Places.{Text}
use Rattle.starlark_tokens.specs.Reporting.Reports.{fault_count}
use Rattle.starlark_tokens.specs.declared.output_formats.form.Style.{Style}
use Rattle.starlark_tokens.specs.declared.files.sources.Sources.{Sources}
use Rattle.starlark_tokens.specs.declared.reporting.totals.Totals.{Totals}

-- a count, which stops at the greatest number of 64 bits
abbrev pub in_64_bits : ℕ → ℕ
in_64_bits count = min count (2 ^ 64 - 1)

abbrev pub is_read : Result Text Text → Bool
is_read (Ok text) = true
is_read (Err reason) = false

-- how many faults a source has; none where it couldn't be read
abbrev pub faults_in : Style → Result Text Text → ℕ
faults_in style (Ok text) = fault_count style text
faults_in style (Err reason) = 0

-- How many files were read, how many of them have faults in a style, how many faults these are, and how many files couldn't be read:
-- some of the sources, and so many others.
abbrev pub totals_of : Style → (lost : ℕ) → List (Result Text Text) → Totals
totals_of style lost sources = record {
  files = in_64_bits (count_by is_read sources);
  faulty_files = in_64_bits (count_by (λ source. nat_lt 0 (faults_in style source)) sources);
  faults = in_64_bits (sum_by (faults_in style) sources);
  unreadable = in_64_bits (lost + count_by (λ source. not (is_read source)) sources);
}

-- totals with one file more, which has so many faults
abbrev pub with_file : Totals → (faults : ℕ) → Totals
with_file totals faults = record {
  files = in_64_bits (totals.files + 1);
  faulty_files = if nat_lt 0 faults then in_64_bits (totals.faulty_files + 1) else totals.faulty_files;
  faults = in_64_bits (totals.faults + faults);
  unreadable = totals.unreadable;
}

-- totals with one source more
abbrev pub with_source : Style → Totals → Result Text Text → Totals
with_source style totals (Ok text) = with_file totals (in_64_bits (fault_count style text))
with_source style totals (Err reason) = record totals { unreadable = in_64_bits (totals.unreadable + 1) }

-- The totals are those of as many sources as are read in a style, and of those that are lost.
pub record AreTotalsOf (style : Style) (sources : Sources) (totals : Totals) : Type 0 where
  pub texts : List (Result Text Text)
  pub each : length texts ≡ length sources.all.items
  pub found : totals ≡ totals_of style sources.lost texts

-- sources with one more that can't be read
abbrev pub with_lost : Sources → Sources
with_lost sources = record sources { lost = in_64_bits (sources.lost + 1) }
