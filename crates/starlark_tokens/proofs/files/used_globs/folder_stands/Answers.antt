use Rattle.std.proofs.Common.{take, true}
use Rattle.starlark_tokens.proofs.GlobNotes.{same_noted}
use Rattle.starlark_tokens.proofs.files.used_globs.folder_stands.Goals as goal

pub returns-clause-same : goal.returns-clause-same
returns-clause-same c = same_noted c.some_stands.result true (take c.args.index c.args.path.now) c.args.globs.now c.some_stands.new.globs c.some_stands.ensures.noted
