use Rattle.std.proofs.Common.{◌≡◌, ◌-◌, ◌≤◌, ◌++◌, ℕ, false, length, drop, Ok}
use Rattle.starlark_grammar.specs.Gaps.{InOrder}
use Rattle.starlark_token.specs.TextItems.{items}
use Rattle.starlark_grammar.specs.Reading.{outcome}
use Rattle.starlark_run.specs.Output.{lines_of, output}
use Rattle.starlark_base.specs.Positions.{IsPosition}
use Rattle.starlark_run.specs.Blocks.{block_len}
use Rattle.starlark_run.specs.Inner.BufferedWrites.{Sends}
use Rattle.starlark_run.specs.Writing.{Writes}
use Rattle.starlark_run.proofs.printing.put_items.Given as goal

-- the output is what was written, what waits, and the lines of the items that are left; no lexeme that is left begins before the place
abbrev pub invariant-loop-item : goal.invariant-loop-item
invariant-loop-item g l = record {
  place : IsPosition l.text l.place;
  order : (to : ℕ) × InOrder l.text l.place.at (drop l.lexer.yielded_count (outcome l.text).lexemes) to;
  few : l.lexer.yielded_count ≤ length (outcome l.text).lexemes;
  going : l.lexer.has_ended ≡ false;
  text : l.lexer.text ≡ l.text;
  held : length l.printer.buffer ≤ block_len;
  blocks : Sends g.W.WriteDevice.calls l.fn.writer.device l.writer.device (length l.fn.printer.buffer) (length l.printer.buffer);
  written : Writes {T = Unit {0}} g.W.WriteDevice.calls l.fn.writer l.writer (l.fn.printer.buffer ++ output l.name l.text) (l.printer.buffer ++ lines_of l.name l.text (drop l.lexer.yielded_count (items l.text))) (Ok tt);
}

abbrev pub decreases-loop-item : goal.decreases-loop-item
decreases-loop-item g l = length (items l.text) - l.lexer.yielded_count
