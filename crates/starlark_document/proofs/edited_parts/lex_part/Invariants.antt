use Rattle.std.proofs.Common.{◌≤◌, ◌<◌, ◌+◌, ◌-◌, length, string_bytes}
use Rattle.starlark_document.specs.Inner.Costs.{IsCostSoFar}
use Rattle.starlark_document.specs.Inner.EditedParts.{AreTakenIn}
use Rattle.starlark_document.proofs.Sizes.{IsSizing}
use Rattle.starlark_document.proofs.Splices.{IsLexing, left_to_lex}
use Rattle.starlark_document.proofs.edited_parts.lex_part.Given as goal

abbrev pub invariant-loop-lexed : goal.invariant-loop-lexed
invariant-loop-lexed l = record {
  lexing : IsLexing l.segments l.fn.part (string_bytes l.text) l.lexed.end l.lexed.len l.lexed.cost.lexed l.lexed.segments.items;
  taken_in : AreTakenIn l.segments l.fn.part l.lexed.end;
  paced : l.lexed.end < length l.segments → l.more ≤ l.lexed.end - l.fn.part.end + 1;
  sized : IsSizing l.least_len (string_bytes l.text) l.lexed.len l.lexed.segments.items;
  cost : IsCostSoFar (length (string_bytes l.text)) l.lexed.cost;
  begun : 0 < l.lexed.len → l.lexed.len < length (string_bytes l.text);
  some : 0 < l.more;
}

abbrev pub decreases-loop-lexed : goal.decreases-loop-lexed
decreases-loop-lexed l = left_to_lex l.segments (string_bytes l.text) l.lexed.end l.lexed.len
