use Rattle.std.proofs.Common.{◌≡◌, ◌-◌, ◌≤◌, false, length, take}
use Rattle.starlark_c.specs.Endings.{lexemes_of}
use Rattle.starlark_c.specs.Inner.Filling.{wanted_by}
use Rattle.starlark_c.specs.LastCuts.{HasNoCut}
use Rattle.starlark_c.specs.Records.{values}
use Rattle.starlark_c.specs.TextParts.{home}
use Rattle.starlark_c.proofs.filling.count_piece.Given as goal
use Rattle.starlark_token.specs.TextItems.{items}

-- the lexemes that the lexer has yielded are counted
abbrev pub invariant-loop-item : goal.invariant-loop-item
invariant-loop-item l = record {
  going : l.lexer.has_ended ≡ false;
  text : l.lexer.text ≡ l.fn.lexer.text;
  few : l.lexer.yielded_count ≤ length (lexemes_of l.fn.lexer.text);
  later : l.fn.lexer.yielded_count ≤ l.lexer.yielded_count;
  uncut : HasNoCut l.is_front l.fn.lexer.text l.lexer.yielded_count;
  more : length (values (home l.stays l.text) (take l.fn.lexer.yielded_count (lexemes_of l.fn.lexer.text))) ≤ length (values (home l.stays l.text) (take l.lexer.yielded_count (lexemes_of l.fn.lexer.text)));
  wanted : l.passed ≡ wanted_by l.lexer.yielded_count (length (values (home l.stays l.text) (take l.lexer.yielded_count (lexemes_of l.fn.lexer.text))));
}

abbrev pub decreases-loop-item : goal.decreases-loop-item
decreases-loop-item l = length (items l.fn.lexer.text) - l.lexer.yielded_count
