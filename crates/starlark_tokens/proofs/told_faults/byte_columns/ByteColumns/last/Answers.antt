use Rattle.std.proofs.Common.{refl}
use Rattle.std.proofs.lemmas.Str.{IsCharBoundary-start}
use Rattle.starlark_tokens.proofs.told_faults.byte_columns.ByteColumns.last.Goals as goal

pub returns-then-is_empty : goal.returns-then-is_empty
returns-then-is_empty c = record { boundary = IsCharBoundary-start c.args.self.now.text.now c.requires.utf8; is = refl }
