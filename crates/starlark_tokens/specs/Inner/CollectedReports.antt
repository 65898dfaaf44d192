-- Reports that are collected before they are written.
use Rattle.std.specs.Prelude.{◌≡◌, List, map, string_bytes}
use Rattle.std.specs.List.{AllByRecursion}
use Rattle.starlark_base.specs.Places.{Text}
use Rattle.starlark_tokens.specs.Reporting.FileReports.{Gave, Giving, ReadSource, notices, reports}
use Rattle.starlark_tokens.specs.Reporting.Totals.{totals_of}
use Rattle.starlark_tokens.specs.declared.output_formats.form.Style.{Style}
use Rattle.starlark_tokens.specs.declared.files.sources.Sources.{Sources}
use Rattle.starlark_tokens.specs.declared.reporting.summary.Summary.{Summary}

-- these are the totals, notices and reports of all sources, each with the text that reading it gave or the reason why it has none,
-- in order
pub record AreCollected (gives : Giving) (style : Style) (sources : Sources) (summary : Summary) (collected : Text) : Type 0 where
  pub reads : List ReadSource
  pub each : map (λ read. read.source) reads ≡ sources.all.items
  pub given : AllByRecursion (λ read. Gave gives read.source read.text) reads
  pub counted : summary.totals ≡ totals_of style sources.lost (map (λ read. read.text) reads)
  pub noted : string_bytes summary.notices ≡ notices style reads
  pub written : collected ≡ reports style reads
