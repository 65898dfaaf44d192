use Rattle.std.proofs.Common.{◌≡◌, length, arith}
use Rattle.std.proofs.lemmas.Simd.{length-chunk}
use lib.Lanes.{chunk}
use Rattle.starlark_text.proofs.CharacterStarts.{lanes_counted}
use Rattle.starlark_text.proofs.character_starts.lane_starts.Goals as goal

pub returns : goal.returns
returns c =
    let v = chunk c.args.at 32 c.args.bytes.now in
    let long : length v ≡ 32 = length-chunk c.args.at 32 c.args.bytes.now c.requires in
    lanes_counted 32 v long (omega arith)
