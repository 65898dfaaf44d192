-- What came is the text that is printed, under the name that was given.
use Rattle.std.proofs.Common.{arith, ◌≡◌, Ok, refl, rules, string_bytes, subst}
use Rattle.std.proofs.lemmas.Str.{IsUtf8-string_bytes}
use Rattle.std.specs.Str.{IsUtf8}
use Rattle.starlark_run.proofs.BufferedWrites.{in_blocks, sends_none}
use Rattle.starlark_run.proofs.RunEnds.{run_printed, read_told, write_told}
use Rattle.starlark_run.proofs.plain_runs.run.Goals as goal

pub returns-clause-run : goal.returns-clause-run
returns-clause-run g c =
    let came = c.in_ok-text.ensures.read.0 in
    let same : string_bytes c.in_ok-text.text ≡ came = c.in_ok-text.ensures.read.2.1 in
    let text : c.as_str.result.now ≡ came = search (rules, same) in
    let utf8 : IsUtf8 came = subst IsUtf8 same (IsUtf8-string_bytes c.in_ok-text.text) in
    (came, c.in_ok-text.ensures.read.1, run_printed g.W.WriteDevice.calls c.args.name.now came (Ok came) c.read_text.new.reader c.args.writer.now c.print.new.writer came c.print.result refl c.in_ok-text.ensures.read.2.0 utf8 (rw text at c.print.ensures.writes) (rw text at c.print.ensures.status))

pub returns-clause-read : goal.returns-clause-read
returns-clause-read g c =
    let run = returns-clause-run g c in
    read_told g.W.WriteDevice.calls c.args.name.now run.0 (Ok run.0) c.read_text.new.reader c.args.writer.now c.print.new.writer c.print.result run.2

pub returns-clause-write : goal.returns-clause-write
returns-clause-write g c =
    let run = returns-clause-run g c in
    write_told g.W.WriteDevice.calls c.args.name.now run.0 (Ok run.0) c.read_text.new.reader c.args.writer.now c.print.new.writer c.requires.writer_sound c.print.result run.2

pub returns-in_err-text-clause-writes_in_blocks : goal.returns-in_err-text-clause-writes_in_blocks
returns-in_err-text-clause-writes_in_blocks g c = in_blocks g.W.WriteDevice.calls _ _ (sends_none g.W.WriteDevice.calls c.args.writer.now.device _ _ (omega arith))
