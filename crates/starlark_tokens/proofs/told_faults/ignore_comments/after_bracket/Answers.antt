use Rattle.std.proofs.lemmas.List.{take_rest}
use Rattle.starlark_tokens.proofs.told_faults.ignore_comments.after_bracket.Goals as goal

pub returns : goal.returns
returns c = take_rest c.args.comment.now 18
