use Rattle.std.proofs.lemmas.Simd.{length-chunk}
use lib.Lanes.{chunk}
use Rattle.starlark_words.proofs.EqualLanes.{front_marked}
use Rattle.starlark_words.proofs.lines.front_ends.Goals as goal

pub returns : goal.returns
returns c = front_marked c.args.other (chunk c.args.at 16 c.args.text.now) (length-chunk c.args.at 16 c.args.text.now c.requires)
