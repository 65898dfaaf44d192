use Rattle.std.proofs.Common.{rules, ◌+◌, ◌∙◌, ap, arith, length}
use Rattle.std.proofs.lemmas.List.{length-drop}
use Rattle.std.proofs.lemmas.Result.{IfOk-weaker, on_ok_weaker}
use Rattle.starlark_grammar.specs.Words.{Text}
use Rattle.starlark_reader.proofs.TakenPieces.ReaderReads.{state_reads}
use Rattle.starlark_reader.proofs.reader.Reader.put_long_margin.Goals as goal

pub put_margin-requires-clause-line_end : goal.put_margin-requires-clause-line_end
put_margin-requires-clause-line_end c = search (rules, state_reads)

pub put_margin-requires-clause-margin : goal.put_margin-requires-clause-margin
put_margin-requires-clause-margin c = rw c.range_from.ensures.value at c.margin_from-margin.ensures.margin

pub put_margin-requires-clause-within : goal.put_margin-requires-clause-within
put_margin-requires-clause-within c =
    omega (arith, ap (λ (t : Text). length t) c.range_from.ensures.value ∙ length-drop (c.args.self.now.at + c.args.len) c.args.self.now.text.now, c.requires.line_end.cut.0, c.margin_from-margin.ensures.within)

pub returns-clause-read : goal.returns-clause-read
returns-clause-read c = IfOk-weaker c.put_margin.result _ _ (λ is_laid read origin history kept stands. read origin history (state_reads c.args.self.now.text.now history c.args.self.now c.margin_from-margin.new.reads kept) stands) c.put_margin.ensures.read

pub returns-clause-reads : goal.returns-clause-reads
returns-clause-reads c =
    let margin = c.margin_from-margin.ensures in
    on_ok_weaker c.put_margin.result (λ read before first there. read before (omega (arith, first, margin.more, margin.reads), omega (arith, first, margin.more, margin.reads)) there) c.put_margin.ensures.reads
