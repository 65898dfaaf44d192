use Rattle.std.proofs.Common.{string_bytes}
use Rattle.std.proofs.lemmas.Iterator.{YieldsList-from_chars}
use Rattle.std.proofs.lemmas.Iterator.Consumers.{YieldsList-end}
use Rattle.starlark_tokens.specs.OutputFormats.ItemLines.{below}
use Rattle.starlark_tokens.proofs.PushedCharacters.{all_pushed, one_more_pushed}
use Rattle.starlark_tokens.proofs.output_formats.fault_lines.push_below.Goals as goal

pub loop-character-preserved : goal.loop-character-preserved
loop-character-preserved c = one_more_pushed below (string_bytes c.args.line.now) _ _ c.loop-character.yielded c.in-Some.character c.in_ok-push_below_char.ensures c.loop-character.invariant

pub returns : goal.returns
returns c = all_pushed below (string_bytes c.args.line.now) _ c.loop-character.yielded _ c.loop-character.invariant (YieldsList-end (YieldsList-from_chars c.args.front.now c.utf8.front cc) c.loop-character.yielded _ c.loop-character.yielded_by _ _ c.in-None.is c.next.ensures.steps).0
