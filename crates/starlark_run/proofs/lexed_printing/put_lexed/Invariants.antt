use Rattle.std.proofs.Common.{◌++◌, ◌≤◌, ℕ, drop, length, Ok}
use Rattle.starlark_grammar.specs.Gaps.{InOrder}
use Rattle.starlark_token.specs.TextItems.{items}
use Rattle.starlark_grammar.specs.Reading.{outcome}
use Rattle.starlark_run.specs.Output.{lines_of, output}
use Rattle.starlark_base.specs.Positions.{IsPosition}
use Rattle.starlark_run.specs.Blocks.{block_len}
use Rattle.starlark_run.specs.Inner.BufferedWrites.{Sends}
use Rattle.starlark_run.specs.Writing.{Writes}
use Rattle.starlark_run.proofs.lexed_printing.put_lexed.Given as goal

-- the output is what was written, what waits, and the lines of the items that are left; no lexeme that is left begins before the place
abbrev pub invariant-loop-lexeme : goal.invariant-loop-lexeme
invariant-loop-lexeme g l = record {
  place : IsPosition l.text l.place;
  order : (to : ℕ) × InOrder l.text l.place.at (drop l.lexeme-index (outcome l.text).lexemes) to;
  held : length l.printer.buffer ≤ block_len;
  blocks : Sends g.W.WriteDevice.calls l.fn.writer.device l.writer.device (length l.fn.printer.buffer) (length l.printer.buffer);
  written : Writes {T = Unit {0}} g.W.WriteDevice.calls l.fn.writer l.writer (l.fn.printer.buffer ++ output l.name l.text) (l.printer.buffer ++ lines_of l.name l.text (drop l.lexeme-index (items l.text))) (Ok tt);
}
