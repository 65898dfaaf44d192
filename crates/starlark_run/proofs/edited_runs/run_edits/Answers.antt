-- What came is edited, and the last text is printed, under the name that was given.
use Rattle.std.proofs.Common.{arith, ◌≡◌, ℕ, List, String, ap, rules, string_bytes, subst, ◌∙◌, Ok, Err}
use Rattle.std.proofs.lemmas.Result.{err_from_is_err_and}
use Rattle.std.proofs.lemmas.Str.{IsUtf8-string_bytes}
use Rattle.std.specs.Str.{IsUtf8}
use Rattle.std.specs.declared.alloc.Global.{Global}
use Rattle.starlark_run.proofs.Edited.{lexed_after}
use Rattle.starlark_run.proofs.BufferedWrites.{in_blocks, sends_none}
use Rattle.starlark_run.proofs.RunEnds.{edited_read_told, edited_write_told, run_printed}
use Rattle.starlark_run.proofs.RefusedEdits.{run_refused}
use Rattle.starlark_run.specs.Edits.{text_after}
use Rattle.starlark_run.specs.Inner.EditedTexts.{AreVersionsLexed, newest_text}
use Rattle.starlark_run.specs.declared.ends.RunFault.TheVariants.{Memory}
use Rattle.starlark_run.proofs.edited_runs.run_edits.Goals as goal

-- what came is text
came_utf8 : (first : String Global) (came : List ℕ) → string_bytes first ≡ came → IsUtf8 came
came_utf8 first came same = subst IsUtf8 same (IsUtf8-string_bytes first)

pub returns-in_err-versions-clause-run : goal.returns-in_err-versions-clause-run
returns-in_err-versions-clause-run g c =
    let p = err_from_is_err_and c.from_residual-in_err-versions.result c.from_residual-in_err-versions.ensures.1 in
    let came = c.in_ok-first.ensures.read.0 in
    let utf8 = came_utf8 c.in_ok-first.first came c.in_ok-first.ensures.read.2.1 in
    let text : c.as_str.result.now ≡ came = search (rules, c.in_ok-first.ensures.read.2.1) in
    let refused = run_refused g.W.WriteDevice.calls c.args.name.now came (text_after 0 came c.args.edits.now) c.read_text.new.reader c.args.writer.now c.in_err-versions.field-0.0 (rw text at c.in_err-versions.ensures.refused) c.in_ok-first.ensures.read.2.0 utf8 c.requires.writer_sound in
    (came, c.in_ok-first.ensures.read.1, rw (p.1, p.2) refused, rw p.1 tt)

pub returns-in_err-last-clause-run : goal.returns-in_err-last-clause-run
returns-in_err-last-clause-run g c =
    let p = err_from_is_err_and c.from_residual-in_err-last.result c.from_residual-in_err-last.ensures.1 in
    let came = c.in_ok-first.ensures.read.0 in
    let utf8 = came_utf8 c.in_ok-first.first came c.in_ok-first.ensures.read.2.1 in
    let refused = run_refused g.W.WriteDevice.calls c.args.name.now came (text_after 0 came c.args.edits.now) c.read_text.new.reader c.args.writer.now Memory tt c.in_ok-first.ensures.read.2.0 utf8 c.requires.writer_sound in
    (came, c.in_ok-first.ensures.read.1, rw (p.1, p.2, c.in_err-last.ensures.refused) refused, rw p.1 tt)

pub returns-in_err-status-clause-run : goal.returns-in_err-status-clause-run
returns-in_err-status-clause-run g c =
    let p = err_from_is_err_and c.from_residual-in_err-status.result c.from_residual-in_err-status.ensures.1 in
    let came = c.in_ok-first.ensures.read.0 in
    let utf8 = came_utf8 c.in_ok-first.first came c.in_ok-first.ensures.read.2.1 in
    let newest = newest_text came c.in_ok-versions.versions.items in
    let text : c.as_str.result.now ≡ came = search (rules, c.in_ok-first.ensures.read.2.1) in
    let again : c.as_str-2.result.now ≡ came = search (rules, c.in_ok-first.ensures.read.2.1) in
    let lexed : c.in_ok-last.last.lexed.text ≡ newest = c.in_ok-last.ensures.text ∙ ap (λ t. newest_text t c.deref.result.now) again ∙ ap (newest_text came) c.deref.ensures.value in
    let run = run_printed g.W.WriteDevice.calls c.args.name.now came (text_after 0 came c.args.edits.now) c.read_text.new.reader c.args.writer.now c.print_lexed.new.writer newest (Err c.in_err-status.field-0.0) (rw text at c.in_ok-versions.ensures.last) c.in_ok-first.ensures.read.2.0 utf8 (rw lexed at c.in_err-status.ensures.writes) tt in
    (came, c.in_ok-first.ensures.read.1, rw (p.1, p.2) run, rw p.1 tt)

pub returns-clause-run : goal.returns-clause-run
returns-clause-run g c =
    let came = c.in_ok-first.ensures.read.0 in
    let utf8 = came_utf8 c.in_ok-first.first came c.in_ok-first.ensures.read.2.1 in
    let text : c.as_str.result.now ≡ came = search (rules, c.in_ok-first.ensures.read.2.1) in
    let again : c.as_str-2.result.now ≡ came = search (rules, c.in_ok-first.ensures.read.2.1) in
    let versions = c.in_ok-versions.versions.items in
    let newest = newest_text came versions in
    let lexed : c.in_ok-last.last.lexed.text ≡ newest = c.in_ok-last.ensures.text ∙ ap (λ t. newest_text t c.deref.result.now) again ∙ ap (newest_text came) c.deref.ensures.value in
    let reads : AreVersionsLexed came versions c.in_ok-last.last.reads.items = subst (λ vs. AreVersionsLexed came vs c.in_ok-last.last.reads.items) c.deref.ensures.value (rw again at c.in_ok-last.ensures.reads) in
    let run = run_printed g.W.WriteDevice.calls c.args.name.now came (text_after 0 came c.args.edits.now) c.read_text.new.reader c.args.writer.now c.print_lexed.new.writer newest (Ok c.in_ok-status.status) (rw text at c.in_ok-versions.ensures.last) c.in_ok-first.ensures.read.2.0 utf8 (rw lexed at c.in_ok-status.ensures.writes) (rw lexed at c.in_ok-status.ensures.status) in
    (came, c.in_ok-first.ensures.read.1, run, lexed_after came c.args.edits.now versions c.in_ok-last.last.reads.items (rw text at c.in_ok-versions.ensures.edited) reads)

pub returns-in_err-status-clause-read : goal.returns-in_err-status-clause-read
returns-in_err-status-clause-read g c =
    let run = returns-in_err-status-clause-run g c in
    edited_read_told g.W.WriteDevice.calls c.args.name.now run.0 (text_after 0 run.0 c.args.edits.now) c.read_text.new.reader c.args.writer.now c.print_lexed.new.writer _ run.2

pub returns-in_err-status-clause-write : goal.returns-in_err-status-clause-write
returns-in_err-status-clause-write g c =
    let run = returns-in_err-status-clause-run g c in
    edited_write_told g.W.WriteDevice.calls c.args.name.now run.0 (text_after 0 run.0 c.args.edits.now) c.read_text.new.reader c.args.writer.now c.print_lexed.new.writer c.requires.writer_sound _ run.2

pub returns-clause-read : goal.returns-clause-read
returns-clause-read g c =
    let run = returns-clause-run g c in
    edited_read_told g.W.WriteDevice.calls c.args.name.now run.0 (text_after 0 run.0 c.args.edits.now) c.read_text.new.reader c.args.writer.now c.print_lexed.new.writer _ run.2

pub returns-clause-write : goal.returns-clause-write
returns-clause-write g c =
    let run = returns-clause-run g c in
    edited_write_told g.W.WriteDevice.calls c.args.name.now run.0 (text_after 0 run.0 c.args.edits.now) c.read_text.new.reader c.args.writer.now c.print_lexed.new.writer c.requires.writer_sound _ run.2

pub returns-in_err-first-clause-writes_in_blocks : goal.returns-in_err-first-clause-writes_in_blocks
returns-in_err-first-clause-writes_in_blocks g c = in_blocks g.W.WriteDevice.calls _ _ (sends_none g.W.WriteDevice.calls c.args.writer.now.device _ _ (omega arith))

pub returns-in_err-versions-clause-writes_in_blocks : goal.returns-in_err-versions-clause-writes_in_blocks
returns-in_err-versions-clause-writes_in_blocks g c = in_blocks g.W.WriteDevice.calls _ _ (sends_none g.W.WriteDevice.calls c.args.writer.now.device _ _ (omega arith))

pub returns-in_err-last-clause-writes_in_blocks : goal.returns-in_err-last-clause-writes_in_blocks
returns-in_err-last-clause-writes_in_blocks g c = in_blocks g.W.WriteDevice.calls _ _ (sends_none g.W.WriteDevice.calls c.args.writer.now.device _ _ (omega arith))
