-- Sources that are counted and printed, as one more comes, and where writing stops.
use Rattle.std.proofs.Common.{◌≡◌, ℕ, ◌+◌, ◌<◌, List, [], ◌∷◌, ◌++◌, Ok, Err, add-one, ap, append-nil, get_or, length, map, refl, subst, sym, take, take-append-drop, ◌∙◌}
use Rattle.std.proofs.Math.Seq.{take-suc}
use Rattle.std.proofs.lemmas.Grind.{flat_map-append}
use Rattle.std.proofs.lemmas.List.{length-map, map-append}
use Rattle.std.specs.List.{AllByRecursion}
use Rattle.std.specs.Io.KnownBytes.{Keeps}
use Rattle.std.specs.Prelude.{OnOk, Result, codes, drop, false, if◌then◌else◌, string_bytes, true}
use Rattle.std.specs.declared.io.Error.{Error}
use Rattle.starlark_tokens.specs.OutputFormats.ReportDocuments.{closing, document, is_collected, opening}
use Rattle.starlark_base.specs.Places.{Text}
use Rattle.starlark_devices.proofs.Calls.{all_append}
use Rattle.starlark_devices.specs.Calls.{Done, Ending, Going, WriterCalls}
use Rattle.starlark_tokens.specs.declared.output_formats.form.Style.{Style}
use Rattle.starlark_tokens.proofs.FileCounts.{with_next}
use Rattle.starlark_tokens.proofs.ReportWrites.{flushed_last, stops_first, stops_later, stops_longer, took_nil, took_then, unflushed}
use Rattle.starlark_tokens.specs.Reporting.FileReports.{AreReported, AreReportedAlone, Gave, Giving, IsDocument, IsReported, ReadSource, notice_of, notices, report_of, reports, source_notice, source_report}
use Rattle.starlark_tokens.specs.Reporting.ReportWrites.{StopsWithin, Takes, Took}
use Rattle.starlark_tokens.specs.Files.SourceNames.{IsReason, bad_byte_text, name_of}
use Rattle.starlark_tokens.specs.Reporting.Totals.{AreTotalsOf, totals_of, with_source}
use Rattle.starlark_tokens.specs.declared.files.sources.Source.{Source}
use Rattle.starlark_tokens.specs.declared.files.sources.SourceFault.{SourceFault}
use Rattle.starlark_tokens.specs.declared.files.sources.SourceFault.TheVariants.{NotUtf8, TooLong, Unreadable}
use Rattle.starlark_tokens.specs.declared.files.sources.Sources.{Sources}
use Rattle.starlark_tokens.specs.declared.reporting.summary.Summary.{Summary}
use Rattle.starlark_tokens.specs.declared.reporting.totals.Totals.{Totals}

abbrev pub sources_of : List ReadSource → List Source
sources_of reads = map (λ read. read.source) reads

abbrev pub texts_of : List ReadSource → List (Result Text Text)
texts_of reads = map (λ read. read.text) reads

-- sources that were read, and one more
abbrev with_read : List ReadSource → Source → Result Text Text → List ReadSource
with_read reads source text = reads ++ record { source = source; text = text } ∷ []

reports_with : (style : Style) (reads : List ReadSource) (source : Source) (text : Result Text Text)
    → reports style (with_read reads source text) ≡ reports style reads ++ report_of style (name_of source) text
reports_with style reads source text =
    let last : ReadSource = record { source = source; text = text } in
    flat_map-append (source_report style) reads (last ∷ []) ∙ ap (λ t. reports style reads ++ t) (append-nil (source_report style last))

notices_with : (style : Style) (reads : List ReadSource) (source : Source) (text : Result Text Text)
    → notices style (with_read reads source text) ≡ notices style reads ++ notice_of style (name_of source) text
notices_with style reads source text =
    let last : ReadSource = record { source = source; text = text } in
    flat_map-append (source_notice style) reads (last ∷ []) ∙ ap (λ t. notices style reads ++ t) (append-nil (source_notice style last))

-- these sources are counted, noted and printed
pub record SoFar {W : Type 0} (gives : Giving) (calls : WriterCalls W) (style : Style) (lost : ℕ) (sources : List Source) (before after : W) (summary : Summary) : Type 0 where
  pub reads : List ReadSource
  pub each : sources_of reads ≡ sources
  pub given : AllByRecursion (λ read. Gave gives read.source read.text) reads
  pub counted : summary.totals ≡ totals_of style lost (texts_of reads)
  pub noted : string_bytes summary.notices ≡ notices style reads
  pub written : Took calls Going before after (reports style reads)

-- what was reported of a source, by another name of it
pub same_source : {W T : Type 0} (gives : Giving) (calls : WriterCalls W) (style : Style) (source other : Source) (old new : Summary) (before after : W) (result : Result T Error)
    → source ≡ other → IsReported gives calls style source old new before after result → IsReported gives calls style other old new before after result
same_source gives calls style source other old new before after result is reported = subst (λ s. IsReported gives calls style s old new before after result) is reported

-- there is a reason for each fault
pub some_reason : (fault : SourceFault) → (reason : Text) × IsReason fault reason
some_reason (Unreadable error) = ([], tt)
some_reason TooLong = (codes "longer than 4294967295 bytes", refl)
some_reason (NotUtf8 byte place) = (bad_byte_text byte place, refl)

-- what is so anyway is so where a call succeeded
pub anyway : {T P : Type 0} (result : Result T Error) → P → OnOk result P
anyway (Ok x) p = p
anyway (Err error) p = tt

module _ {W : Type 0} (gives : Giving) (calls : WriterCalls W) (style : Style) where
  -- before the first source
  pub none_yet : (lost : ℕ) (before : W) (summary : Summary) → summary.totals ≡ totals_of style lost [] → string_bytes summary.notices ≡ [] → SoFar gives calls style lost [] before before summary
  none_yet lost before summary counted noted = record {
    reads = [];
    each = refl;
    given = tt;
    counted = counted;
    noted = noted;
    written = took_nil calls before;
  }

  -- one source more
  one_more : (lost : ℕ) (sources : List Source) (source : Source) (text : Result Text Text) (before middle after : W) (old new : Summary)
      → SoFar gives calls style lost sources before middle old → Gave gives source text → Took calls Going middle after (report_of style (name_of source) text)
      → new.totals ≡ with_source style old.totals text → string_bytes new.notices ≡ string_bytes old.notices ++ notice_of style (name_of source) text
      → SoFar gives calls style lost (sources ++ source ∷ []) before after new
  one_more lost sources source text before middle after old new so_far given written counted noted =
      let reads = so_far.reads in
      let last : ReadSource = record { source = source; text = text } in
      let sources_added = map-append (λ (r : ReadSource). r.source) reads (last ∷ []) in
      let texts_added = map-append (λ (r : ReadSource). r.text) reads (last ∷ []) in
      let all = counted ∙ ap (λ totals. with_source style totals text) so_far.counted ∙ with_next style lost (texts_of reads) text in
      record {
        reads = with_read reads source text;
        each = sources_added ∙ ap (λ front. front ++ source ∷ []) so_far.each;
        given = all_append (λ (r : ReadSource). Gave gives r.source r.text) reads (last ∷ []) so_far.given (given, tt);
        counted = all ∙ ap (totals_of style lost) (sym texts_added);
        noted = noted ∙ ap (λ t. t ++ notice_of style (name_of source) text) so_far.noted ∙ sym (notices_with style reads source text);
        written = subst (Took calls Going before after) (sym (reports_with style reads source text)) (took_then calls Going before middle after _ _ so_far.written written);
      }

  -- the sources up to one, and that one
  up_to : (sources seen : List Source) (done : ℕ) (other : Source) → seen ≡ sources → done < length seen → take done sources ++ get_or seen done other ∷ [] ≡ take (done + 1) sources
  up_to sources seen done other same less =
      ap (λ all. take done all ++ get_or seen done other ∷ []) (sym same) ∙ sym (take-suc seen done other less) ∙ ap (λ k. take k seen) (sym (add-one done)) ∙ ap (λ all. take (done + 1) all) same

  -- one source more, which is the next of all
  pub next_source : (lost : ℕ) (sources seen : List Source) (done : ℕ) (other : Source) (text : Result Text Text) (before middle after : W) (old new : Summary)
      → seen ≡ sources → done < length seen
      → SoFar gives calls style lost (take done sources) before middle old → Gave gives (get_or seen done other) text → Took calls Going middle after (report_of style (name_of (get_or seen done other)) text)
      → new.totals ≡ with_source style old.totals text → string_bytes new.notices ≡ string_bytes old.notices ++ notice_of style (name_of (get_or seen done other)) text
      → SoFar gives calls style lost (take (done + 1) sources) before after new
  next_source lost sources seen done other text before middle after old new same less so_far given written counted noted =
      let more = one_more lost (take done sources) (get_or seen done other) text before middle after old new so_far given written counted noted in
      subst (λ all. SoFar gives calls style lost all before after new) (up_to sources seen done other same less) more

  -- writing that stopped within the report of the next source
  pub stopped_at : (sources : Sources) (seen : List Source) (done : ℕ) (other : Source) (text : Result Text Text) (before middle after : W) (summary : Summary) (error : Error)
      → seen ≡ sources.all.items → done < length seen
      → SoFar gives calls style sources.lost (take done sources.all.items) before middle summary → Gave gives (get_or seen done other) text → StopsWithin calls middle after error (report_of style (name_of (get_or seen done other)) text)
      → AreReportedAlone gives calls style sources before after (Err error)
  stopped_at sources seen done other text before middle after summary error same less so_far given stopped =
      let reads = so_far.reads in
      let source = get_or seen done other in
      let last : ReadSource = record { source = source; text = text } in
      let front = map-append (λ (r : ReadSource). r.source) reads (last ∷ []) ∙ ap (λ front. front ++ source ∷ []) so_far.each ∙ up_to sources.all.items seen done other same less in
      record {
        reads = with_read reads source text;
        unread = drop (done + 1) sources.all.items;
        each = ap (λ front. front ++ drop (done + 1) sources.all.items) front ∙ take-append-drop (done + 1) sources.all.items;
        given = all_append (λ (r : ReadSource). Gave gives r.source r.text) reads (last ∷ []) so_far.given (given, tt);
        written = subst (StopsWithin calls before after error) (sym (reports_with style reads source text)) (stops_later calls before middle after error _ _ so_far.written stopped);
        all = tt;
        counted = tt;
        noted = tt;
      }

  -- all sources
  pub all_reported : (sources : Sources) (before after : W) (summary : Summary)
      → SoFar gives calls style sources.lost sources.all.items before after summary → AreReportedAlone gives calls style sources before after (Ok summary)
  all_reported sources before after summary so_far = record {
    reads = so_far.reads;
    unread = [];
    each = append-nil (sources_of so_far.reads) ∙ so_far.each;
    given = so_far.given;
    written = so_far.written;
    all = refl;
    counted = so_far.counted;
    noted = so_far.noted;
  }

  -- writing that stopped before the first report, …
  pub stopped_before : (around : Totals → (notices reports : Text) → Text) (ending : Ending) (sources : Sources) (a b : W) (error : Error)
      → StopsWithin calls a b error (around (totals_of style sources.lost []) [] []) → AreReported around gives calls ending style sources a b (Err error)
  stopped_before around ending sources a b error stopped = record {
    reads = [];
    unread = sources.all.items;
    each = refl;
    given = tt;
    written = stopped;
    all = tt;
    counted = tt;
    noted = tt;
  }

  -- … among the reports, which a text is written before, …
  pub stopped_among : (around : Totals → (notices reports : Text) → Text) (ending : Ending) (sources : Sources) (a b c : W) (error : Error) (first : Text) (rest : Totals → (notices : Text) → Text)
      → ((totals : Totals) (told all : Text) → first ++ (all ++ rest totals told) ≡ around totals told all)
      → Took calls Going a b first → AreReportedAlone gives calls style sources b c (Err error) → AreReported around gives calls ending style sources a c (Err error)
  stopped_among around ending sources a b c error first rest is took stopped =
      let totals = totals_of style sources.lost (texts_of stopped.reads) in
      let told = notices style stopped.reads in
      let all = reports style stopped.reads in
      record {
        reads = stopped.reads;
        unread = stopped.unread;
        each = stopped.each;
        given = stopped.given;
        written = subst (StopsWithin calls a c error) (is totals told all) (stops_later calls a b c error first (all ++ rest totals told) took (stops_longer calls b c error all (rest totals told) stopped.written));
        all = tt;
        counted = tt;
        noted = tt;
      }

  -- what is around the reports, by what a summary has
  abbrev around_by : (around : Totals → (notices reports : Text) → Text) → List ReadSource → Summary → Text
  around_by around reads summary = around summary.totals (string_bytes summary.notices) (reports style reads)

  around_is : (around : Totals → (notices reports : Text) → Text) (sources : Sources) (reads : List ReadSource) (summary : Summary)
      → summary.totals ≡ totals_of style sources.lost (texts_of reads) → string_bytes summary.notices ≡ notices style reads
      → around_by around reads summary ≡ around (totals_of style sources.lost (texts_of reads)) (notices style reads) (reports style reads)
  around_is around sources reads summary counted noted =
      ap (λ totals. around totals (string_bytes summary.notices) (reports style reads)) counted
      ∙ ap (λ told. around (totals_of style sources.lost (texts_of reads)) told (reports style reads)) noted

  -- … or after them
  pub ends_after : (around : Totals → (notices reports : Text) → Text) (ending : Ending) (sources : Sources) (a b : W) (reads : List ReadSource) (summary : Summary) (result : Result Summary Error)
      → sources_of reads ≡ sources.all.items → AllByRecursion (λ (read : ReadSource). Gave gives read.source read.text) reads
      → summary.totals ≡ totals_of style sources.lost (texts_of reads) → string_bytes summary.notices ≡ notices style reads
      → ((found : Summary) → result ≡ Ok found → found ≡ summary)
      → Takes calls ending a b (around_by around reads summary) result → AreReported around gives calls ending style sources a b result
  ends_after around ending sources a b reads summary (Ok found) each given counted noted same written = record {
    reads = reads;
    unread = [];
    each = append-nil (sources_of reads) ∙ each;
    given = given;
    written = subst (Took calls ending a b) (around_is around sources reads summary counted noted) written;
    all = refl;
    counted = ap (λ (s : Summary). s.totals) (same found refl) ∙ counted;
    noted = ap (λ (s : Summary). string_bytes s.notices) (same found refl) ∙ noted;
  }
  ends_after around ending sources a b reads summary (Err error) each given counted noted same written =
      let stopped = subst (StopsWithin calls a b error) (around_is around sources reads summary counted noted) written in
      record { reads = reads; unread = []; each = append-nil (sources_of reads) ∙ each; given = given; written = stopped; all = tt; counted = tt; noted = tt }

  -- the text before the reports, the reports of all sources, and then the text after them
  pub closed : (part : Text → Text) (sources : Sources) (a b c d : W) (reads : List ReadSource) (summary : Summary) (result : Result Summary Error)
      → sources_of reads ≡ sources.all.items → AllByRecursion (λ (read : ReadSource). Gave gives read.source read.text) reads
      → summary.totals ≡ totals_of style sources.lost (texts_of reads) → string_bytes summary.notices ≡ notices style reads
      → ((found : Summary) → result ≡ Ok found → found ≡ summary)
      → Took calls Going a b (opening style.form) → Took calls Going b c (part (reports style reads)) → Takes calls Going c d (closing style.form summary.totals (string_bytes summary.notices)) result
      → AreReported (λ totals told all. opening style.form ++ (part all ++ closing style.form totals told)) gives calls Going style sources a d result
  closed part sources a b c d reads summary (Ok found) each given counted noted same first middle last =
      ends_after _ Going sources a d reads summary (Ok found) each given counted noted same (took_then calls Going a b d _ _ first (took_then calls Going b c d _ _ middle last))
  closed part sources a b c d reads summary (Err error) each given counted noted same first middle last =
      ends_after _ Going sources a d reads summary (Err error) each given counted noted same (stops_later calls a b d error _ _ first (stops_later calls b c d error _ _ middle last))

  -- writing that stopped within the reports, which all were collected
  pub stopped_body : (part : Text → Text) (sources : Sources) (a b c : W) (reads : List ReadSource) (summary : Summary) (error : Error)
      → sources_of reads ≡ sources.all.items → AllByRecursion (λ (read : ReadSource). Gave gives read.source read.text) reads
      → summary.totals ≡ totals_of style sources.lost (texts_of reads) → string_bytes summary.notices ≡ notices style reads
      → Took calls Going a b (opening style.form) → StopsWithin calls b c error (part (reports style reads))
      → AreReported (λ totals told all. opening style.form ++ (part all ++ closing style.form totals told)) gives calls Going style sources a c (Err error)
  stopped_body part sources a b c reads summary error each given counted noted first stopped =
      ends_after _ Going sources a c reads summary (Err error) each given counted noted (λ found is. cc) (stops_later calls a b c error _ _ first (stops_longer calls b c error _ (closing style.form summary.totals (string_bytes summary.notices)) stopped))

  -- sources that are all reported
  pub each_reported : (around : Totals → (notices reports : Text) → Text) (ending : Ending) (sources : Sources) (a b : W) (summary : Summary) → (reported : AreReported around gives calls ending style sources a b (Ok summary)) → sources_of reported.reads ≡ sources.all.items
  each_reported around ending sources a b summary reported = sym (append-nil (sources_of reported.reads)) ∙ ap (λ unread. sources_of reported.reads ++ unread) (sym reported.all) ∙ reported.each

  -- the same text in other words
  pub in_other_words : (around other : Totals → (notices reports : Text) → Text) (ending : Ending) (sources : Sources) (a b : W) (result : Result Summary Error)
      → ((totals : Totals) (told all : Text) → around totals told all ≡ other totals told all) → AreReported around gives calls ending style sources a b result → AreReported other gives calls ending style sources a b result
  in_other_words around other ending sources a b result is reported =
      let same = is (totals_of style sources.lost (texts_of reported.reads)) (notices style reported.reads) (reports style reported.reads) in
      record {
        reads = reported.reads;
        unread = reported.unread;
        each = reported.each;
        given = reported.given;
        written = subst (λ text. Takes calls ending a b text result) same reported.written;
        all = reported.all;
        counted = reported.counted;
        noted = reported.noted;
      }

  -- the reports of all sources as a document in a style that is collected, …
  pub collected : (sources : Sources) (a b : W) (result : Result Summary Error)
      → is_collected style.form ≡ true → AreReported (λ totals told all. opening style.form ++ (drop 1 all ++ closing style.form totals told)) gives calls Going style sources a b result
      → IsDocument gives calls Going style sources a b result
  collected sources a b result is = in_other_words _ _ Going sources a b result (λ totals told all. ap (λ b. opening style.form ++ ((if b then drop 1 all else all) ++ closing style.form totals told)) (sym is))

  -- … and in one that isn't
  pub streamed : (sources : Sources) (a b : W) (result : Result Summary Error)
      → is_collected style.form ≡ false → AreReported (λ totals told all. opening style.form ++ (all ++ closing style.form totals told)) gives calls Going style sources a b result
      → IsDocument gives calls Going style sources a b result
  streamed sources a b result is = in_other_words _ _ Going sources a b result (λ totals told all. ap (λ b. opening style.form ++ ((if b then drop 1 all else all) ++ closing style.form totals told)) (sym is))

  -- a document that is written and flushed, …
  pub document_flushed : (sources : Sources) (a b c : W) (summary : Summary) → IsDocument gives calls Going style sources a b (Ok summary) → Keeps (calls.contents b) (calls.contents c) → calls.flush b (Ok tt) c
      → IsDocument gives calls Done style sources a c (Ok summary)
  document_flushed sources a b c summary whole keeps flush = record {
    reads = whole.reads;
    unread = whole.unread;
    each = whole.each;
    given = whole.given;
    written = flushed_last calls a b c _ whole.written keeps flush;
    all = whole.all;
    counted = whole.counted;
    noted = whole.noted;
  }

  -- … one whose flush failed, …
  pub document_unflushed : (sources : Sources) (a b c : W) (summary : Summary) (error : Error) → IsDocument gives calls Going style sources a b (Ok summary) → Keeps (calls.contents b) (calls.contents c) → calls.flush b (Err error) c
      → IsDocument gives calls Done style sources a c (Err error)
  document_unflushed sources a b c summary error whole keeps flush =
      let all = document style.form (totals_of style sources.lost (texts_of whole.reads)) (notices style whole.reads) (reports style whole.reads) in
      let stopped = stops_later calls a b c error all [] whole.written (stops_first calls b c error [] (unflushed calls b c error keeps flush)) in
      record {
        reads = whole.reads;
        unread = whole.unread;
        each = whole.each;
        given = whole.given;
        written = subst (StopsWithin calls a c error) (append-nil all) stopped;
        all = tt;
        counted = tt;
        noted = tt;
      }

  -- … and one that isn't written whole
  pub document_stopped : (sources : Sources) (a b : W) (error : Error) → IsDocument gives calls Going style sources a b (Err error) → IsDocument gives calls Done style sources a b (Err error)
  document_stopped sources a b error stopped = record {
    reads = stopped.reads;
    unread = stopped.unread;
    each = stopped.each;
    given = stopped.given;
    written = stopped.written;
    all = tt;
    counted = tt;
    noted = tt;
  }

  -- totals of all sources are totals of as many texts
  pub totals_alone : (around : Totals → (notices reports : Text) → Text) (ending : Ending) (sources : Sources) (a b : W) (summary : Summary)
      → AreReported around gives calls ending style sources a b (Ok summary) → AreTotalsOf style sources summary.totals
  totals_alone around ending sources a b summary reported = record {
    texts = texts_of reported.reads;
    each = length-map reported.reads (λ (r : ReadSource). r.text) ∙ sym (length-map reported.reads (λ (r : ReadSource). r.source)) ∙ ap length (each_reported around ending sources a b summary reported);
    found = reported.counted;
  }

-- totals of all sources in some style
pub styled_totals : {W : Type 0} (gives : Giving) (calls : WriterCalls W) (Is : Style → Type 0) (ending : Ending) (sources : Sources) (a b : W) (summary : Summary)
    → ((style : Style) × Is style × IsDocument gives calls ending style sources a b (Ok summary)) → (style : Style) × Is style × AreTotalsOf style sources summary.totals
styled_totals gives calls Is ending sources a b summary reported =
    let style = reported.0 in
    (style, reported.1, totals_alone gives calls style (document style.form) ending sources a b summary reported.2)
