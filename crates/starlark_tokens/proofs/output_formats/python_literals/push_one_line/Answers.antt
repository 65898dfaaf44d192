use Rattle.std.proofs.lemmas.Iterator.{YieldsList-from_chars}
use Rattle.std.proofs.lemmas.Iterator.Consumers.{YieldsList-end}
use Rattle.starlark_tokens.specs.OutputFormats.PythonLiterals.{line_char, one_line}
use Rattle.starlark_tokens.proofs.PushedCharacters.{all_pushed, one_more_pushed}
use Rattle.starlark_tokens.proofs.output_formats.python_literals.push_one_line.Goals as goal

pub loop-character-preserved : goal.loop-character-preserved
loop-character-preserved c = one_more_pushed line_char _ _ _ _ _ c.in_ok-push_line_char.ensures c.loop-character.invariant

pub returns : goal.returns
unfolding one_line
returns c = all_pushed line_char _ _ _ _ c.loop-character.invariant (YieldsList-end (YieldsList-from_chars c.args.text.now c.utf8.text cc) c.loop-character.yielded _ c.loop-character.yielded_by _ _ c.in-None.is c.next.ensures.steps).0
