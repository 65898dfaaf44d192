use Rattle.starlark_reader.proofs.TakenPieces.SameTexts.{state_here}
use Rattle.starlark_reader.proofs.reader.Reader.unnamed_word.Goals as goal

pub range_from-requires : goal.range_from-requires
range_from-requires c = λ some. (state_here c.args.self.now c.requires.sound c.requires.code.stage).2.boundary
