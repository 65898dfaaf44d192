use Rattle.std.proofs.Common.{◌≡◌, ◌<◌, arith, rules}
use Rattle.starlark_reader.specs.Inner.Reader.{KeepsAhead}
use Rattle.starlark_reader.specs.declared.reader.Stage.TheVariants as stage
use Rattle.starlark_reader.proofs.TakenPieces.ReaderReads.{reads_ahead}
use Rattle.starlark_reader.proofs.TakenPieces.SameTexts.{sound_after, state_here}
use Rattle.starlark_reader.proofs.TakenPieces.WordsPassed.{spaces_none, spaces_passed, spaces_word, word_inside_text}
use Rattle.starlark_reader.proofs.reader.Reader.common_word.Goals as goal
use Rattle.starlark_reader.proofs.reader.Reader.common_word.Goals.{then-gap-gt0, else-gap-gt0}

pub step_over-requires-clause-fits : goal.step_over-requires-clause-fits
step_over-requires-clause-fits c =
    let some : 0 < c.gap_and_next-gap.result.0 = omega (arith, c.if-gap-gt0.true) in
    let word = spaces_word c.args.self.now c.gap_and_next-gap.result.0 c.range_from.result.now c.requires.code c.range_from.ensures.value (c.gap_and_next-gap.ensures.word some) (c.gap_and_next-gap.ensures.bang some) in
    (word_inside_text c.args.self.now _ c.requires.sound word).1

pub range_from-requires-2 : goal.range_from-requires-2
range_from-requires-2 c = λ some.
    let old = c.args.self.now in
    let mid = c.if-gap-gt0.self in
    let keeps : KeepsAhead old mid × (mid.stage ≡ stage.Onward) × (mid.text ≡ old.text) = elim c.if-gap-gt0.branch [
      | then-gap-gt0 w ↦ let some : 0 < c.gap_and_next-gap.result.0 = omega (arith, w.if-gap-gt0.true) in
          spaces_passed old mid c.gap_and_next-gap.result.0 c.requires.sound (spaces_word old c.gap_and_next-gap.result.0 c.range_from.result.now c.requires.code c.range_from.ensures.value (c.gap_and_next-gap.ensures.word some) (c.gap_and_next-gap.ensures.bang some)) (rw w.self-is w.step_over.ensures)
      | else-gap-gt0 w ↦ spaces_none old mid c.requires.code.stage w.self-is
    ] in
    (state_here mid (sound_after old mid keeps.2 c.requires.sound keeps.0) keeps.1).2.boundary

pub returns-clause-ahead : goal.returns-clause-ahead
returns-clause-ahead c =
    let old = c.args.self.now in
    let mid = c.if-gap-gt0.self in
    let keeps : KeepsAhead old mid × (mid.stage ≡ stage.Onward) × (mid.text ≡ old.text) = elim c.if-gap-gt0.branch [
      | then-gap-gt0 w ↦ let some : 0 < c.gap_and_next-gap.result.0 = omega (arith, w.if-gap-gt0.true) in
          spaces_passed old mid c.gap_and_next-gap.result.0 c.requires.sound (spaces_word old c.gap_and_next-gap.result.0 c.range_from.result.now c.requires.code c.range_from.ensures.value (c.gap_and_next-gap.ensures.word some) (c.gap_and_next-gap.ensures.bang some)) (rw w.self-is w.step_over.ensures)
      | else-gap-gt0 w ↦ spaces_none old mid c.requires.code.stage w.self-is
    ] in
    λ origin lexemes fault ahead. reads_ahead old.text.now mid c.word_after.new.reads mid.stage lexemes fault (keeps.0 origin lexemes fault ahead)

pub returns-clause-sound : goal.returns-clause-sound
returns-clause-sound c =
    let old = c.args.self.now in
    let mid = c.if-gap-gt0.self in
    let same : mid.text ≡ old.text = elim c.if-gap-gt0.branch [ then-gap-gt0 w ↦ search rules | else-gap-gt0 w ↦ search rules ] in
    sound_after old (record mid { reads = c.word_after.new.reads }) same c.requires.sound (returns-clause-ahead c)
