use Rattle.std.proofs.Common.{length}
use Rattle.std.specs.Str.{IsUtf8}
use Rattle.starlark_words.specs.OneIdentifier.{IsAfterSkipped}
use Rattle.starlark_words.proofs.one_identifier.after_skipped.Given as goal

abbrev pub invariant-loop-len : goal.invariant-loop-len
invariant-loop-len l = record { passed : IsAfterSkipped l.text l.rest; utf8 : IsUtf8 l.rest }

abbrev pub decreases-loop-len : goal.decreases-loop-len
decreases-loop-len l = length l.rest
