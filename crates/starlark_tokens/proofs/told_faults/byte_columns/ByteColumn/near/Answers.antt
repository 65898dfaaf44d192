use Rattle.std.proofs.Common.{refl}
use Rattle.std.proofs.lemmas.Str.{IsCharBoundary-start}
use Rattle.starlark_tokens.proofs.told_faults.byte_columns.ByteColumn.near.Goals as goal

pub moved-requires-else-self-to-clause-here : goal.moved-requires-else-self-to-clause-here
moved-requires-else-self-to-clause-here c = record { boundary = IsCharBoundary-start c.args.text.now c.utf8.text; is = refl }
