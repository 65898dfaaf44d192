-- What a run prints of its sources.
use Rattle.std.specs.Prelude.{◌≡◌, ◌+◌, Bool, ◌||◌, nat_lt, List, [], ◌++◌, length, map, Result, Ok, Err, IfOk, OnOk, string_bytes}
use Rattle.std.specs.List.{AllByRecursion, flat_map}
use Rattle.std.specs.declared.io.Error.{Error}
use Rattle.starlark_base.specs.Places.{Text}
use Rattle.starlark_devices.specs.Calls.{WriterCalls, Ending, Going}
use Rattle.starlark_tokens.specs.OutputFormats.FailureReports.{failure_notice, failure_report}
use Rattle.starlark_tokens.specs.OutputFormats.ReportDocuments.{document}
use Rattle.starlark_tokens.specs.Reporting.ReportWrites.{Takes}
use Rattle.starlark_tokens.specs.Reporting.Reports.{report}
use Rattle.starlark_tokens.specs.Files.SourceNames.{IsReason, name_of}
use Rattle.starlark_tokens.specs.Reporting.Totals.{in_64_bits, totals_of, with_source}
use Rattle.starlark_tokens.specs.declared.output_formats.form.Style.{Style}
use Rattle.starlark_tokens.specs.declared.files.sources.Source.{Source}
use Rattle.starlark_tokens.specs.declared.files.sources.SourceFault.{SourceFault}
use Rattle.starlark_tokens.specs.declared.files.sources.Sources.{Sources}
use Rattle.starlark_tokens.specs.declared.reporting.summary.Summary.{Summary}
use Rattle.starlark_tokens.specs.declared.reporting.totals.Totals.{Totals}

-- A source that was read: with its text, or with the reason why it has none.
pub record ReadSource : Type 0 where
  pub source : Source
  pub text : Result Text Text

-- what is printed of a source: the report of its text, or that it has none, where reports tell that
abbrev pub report_of : Style → (name : Text) → Result Text Text → Text
report_of style name (Ok text) = report style name text
report_of style name (Err reason) = failure_report style.form name reason

-- that a source has no text, where the document's end tells that
abbrev pub notice_of : Style → (name : Text) → Result Text Text → Text
notice_of style name (Ok text) = []
notice_of style name (Err reason) = failure_notice style.form name reason

abbrev pub source_report : Style → ReadSource → Text
source_report style read = report_of style (name_of read.source) read.text

abbrev pub source_notice : Style → ReadSource → Text
source_notice style read = notice_of style (name_of read.source) read.text

-- what is printed of sources, one after another
abbrev pub reports : Style → List ReadSource → Text
reports style reads = flat_map (source_report style) reads

-- what the document's end tells of sources that have no text, one after another
abbrev pub notices : Style → List ReadSource → Text
notices style reads = flat_map (source_notice style) reads

-- what reading sources gives: whether a source has this text, or can't be read for this fault
abbrev pub Giving : Type 1
Giving = Source → Result Text SourceFault → Type 0

-- reading a source gave this text, or a fault for which this is the reason
abbrev pub Gave : Giving → Source → Result Text Text → Type 0
Gave gives source (Ok text) = gives source (Ok text)
Gave gives source (Err reason) = (fault : SourceFault) × gives source (Err fault) × IsReason fault reason

-- A source was reported with the text that reading it gave, or the reason why it has none, by calls of the output. Where this
-- succeeded the source is counted, and noted for the document's end; else a beginning of its report is written.
pub record IsReported {W T : Type 0} (gives : Giving) (calls : WriterCalls W) (style : Style) (source : Source) (old new : Summary) (before after : W) (result : Result T Error) : Type 0 where
  pub text : Result Text Text
  pub given : Gave gives source text
  pub written : Takes calls Going before after (report_of style (name_of source) text) result
  pub counted : OnOk result (new.totals ≡ with_source style old.totals text)
  pub noted : OnOk result (string_bytes new.notices ≡ string_bytes old.notices ++ notice_of style (name_of source) text)

-- Sources were reported, each with the text that reading it gave, or the reason why it has none, in order: what `around` makes of
-- their totals, notices and reports was written, by calls of the output. Where this succeeded they are all sources, and the result
-- is their totals and notices; else they are the first ones, and a beginning is written.
pub record AreReported {W : Type 0} (around : Totals → (notices reports : Text) → Text) (gives : Giving) (calls : WriterCalls W) (ending : Ending) (style : Style) (sources : Sources) (before after : W) (result : Result Summary Error) : Type 0 where
  pub reads : List ReadSource
  pub unread : List Source
  pub each : map (λ read. read.source) reads ++ unread ≡ sources.all.items
  pub given : AllByRecursion (λ read. Gave gives read.source read.text) reads
  pub written : Takes calls ending before after (around (totals_of style sources.lost (map (λ read. read.text) reads)) (notices style reads) (reports style reads)) result
  pub all : OnOk result (unread ≡ [])
  pub counted : IfOk result (λ summary. summary.totals ≡ totals_of style sources.lost (map (λ read. read.text) reads))
  pub noted : IfOk result (λ summary. string_bytes summary.notices ≡ notices style reads)

-- the reports of sources alone
abbrev pub AreReportedAlone : {W : Type 0} → Giving → WriterCalls W → Style → Sources → (before after : W) → Result Summary Error → Type 0
AreReportedAlone gives calls style = AreReported (λ totals notices reports. reports) gives calls Going style

-- the document of sources
abbrev pub IsDocument : {W : Type 0} → Giving → WriterCalls W → Ending → Style → Sources → (before after : W) → Result Summary Error → Type 0
IsDocument gives calls ending style = AreReported (document style.form) gives calls ending style

-- lines of tokens have the names of their sources: some are found in a folder, or they are several
abbrev pub are_named : Sources → Bool
are_named sources = sources.are_found || nat_lt 1 (in_64_bits (length sources.all.items + sources.lost))
