use Rattle.std.proofs.Common.{◌≡◌, ◌≤◌, ◌+◌, ◌++◌, List, false, length}
use Rattle.starlark_document.specs.Inner.LexedFronts.{IsLexedFront}
use Rattle.starlark_recovery.specs.RecoveringLexer.{all_items, most_reads_on}
use Rattle.starlark_token.specs.TextItems.{LexerItem}
use Rattle.starlark_document.proofs.segment_lexing.take_front.Given as goal

-- the items of the text are those of the front, and those that are left
abbrev pub invariant-loop-item : goal.invariant-loop-item
invariant-loop-item l = record {
  source : l.lexer.text ≡ l.text;
  going : l.lexer.has_ended ≡ false;
  few : l.lexer.fault_count ≤ length l.text;
  most : l.lexer.reads ≤ most_reads_on (length l.text) (l.lexer.fault_count + 1);
  least : l.front.least_len ≡ l.initial.front.least_len;
  found : (items : List LexerItem) × (all_items l.text ≡ items ++ l.lexer.left) × IsLexedFront l.text items l.front;
}

abbrev pub decreases-loop-item : goal.decreases-loop-item
decreases-loop-item l = length l.lexer.left
