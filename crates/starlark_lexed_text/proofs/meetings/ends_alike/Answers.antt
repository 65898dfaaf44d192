use Rattle.std.proofs.Common.{length-drop, rules}
use Rattle.std.proofs.Math.Seq.{take-length}
use Rattle.starlark_lexed_text.proofs.Moves.{alike}
use Rattle.starlark_lexed_text.proofs.meetings.ends_alike.Goals as goal

pub returns : goal.returns
returns c = search (rules, length-drop, take-length, alike)
