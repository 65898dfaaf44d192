use Rattle.std.proofs.Common.{◌≡◌, ◌-◌, ◌≤◌, false, length, take}
use Rattle.starlark_c.specs.Endings.{Hold, lexemes_of}
use Rattle.starlark_c.specs.Inner.Filling.{IsCutPoint, IsLastStop, filled_by}
use Rattle.starlark_c.specs.Records.{records, values}
use Rattle.starlark_c.proofs.TextParts.{home_of}
use Rattle.starlark_c.proofs.filling.fill.Given as goal
use Rattle.starlark_token.specs.TextItems.{items}

-- the lexemes that the lexer has yielded fill the buffers
abbrev pub invariant-loop-plain : goal.invariant-loop-plain
invariant-loop-plain g l = record {
  going : l.lexer.has_ended ≡ false;
  text : l.lexer.text ≡ l.text;
  few : l.lexer.yielded_count ≤ length (lexemes_of l.text);
  hold : Hold (records (home_of g.row.STAYS l.text) (take l.lexer.yielded_count (lexemes_of l.text))) (values (home_of g.row.STAYS l.text) (take l.lexer.yielded_count (lexemes_of l.text))) (record { lexemes = l.fn.lexemes; values = l.fn.values }) (record { lexemes = l.lexemes; values = l.values });
  filled : l.progress.filled ≡ filled_by (home_of g.row.STAYS l.text) (take l.lexer.yielded_count (lexemes_of l.text));
  stop : IsCutPoint (home_of g.row.STAYS l.text) l.text l.lexer.yielded_count l.progress.stop;
  kind : l.progress.stop.is_front ≡ l.is_front;
  last : IsLastStop l.text l.lexer.yielded_count l.progress.stop;
}

abbrev pub decreases-loop-plain : goal.decreases-loop-plain
decreases-loop-plain g l = length (items l.text) - l.lexer.yielded_count
