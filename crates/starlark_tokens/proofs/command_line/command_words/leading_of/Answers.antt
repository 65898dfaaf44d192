use Rattle.std.specs.List.{take-map}
use Rattle.starlark_tokens.proofs.command_line.command_words.leading_of.Goals as goal

pub returns : goal.returns
returns c = rw (take-map (λ word. word.items) c.args.count c.args.arguments.now) c.joined.ensures
