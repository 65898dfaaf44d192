use Rattle.std.proofs.Common.{Ok, Some, ap, refl, rules}
use Rattle.std.proofs.lemmas.Result.{on_ok_weaker}
use Rattle.starlark_reader.proofs.TakenPieces.SameTexts.{taken_here}
use Rattle.starlark_reader.proofs.TakenPieces.WordSteps.{end_here}
use Rattle.starlark_lexemes.proofs.FoundWords.{read_here}
use Rattle.starlark_lexemes.specs.Inner.LexerStates.{IsReadNext}
use Rattle.starlark_lexemes.proofs.LexerStates.{IsSameText, next_same, text_of}
use Rattle.starlark_lexemes.proofs.lexer_state.LexerState.pass_wordless.Goals as goal
use Rattle.starlark_lexemes.proofs.lexer_state.LexerState.pass_wordless.Goals.{then-self, else-self}

pub read_wordless-read-requires-clause-sound : goal.read_wordless-read-requires-clause-sound
read_wordless-read-requires-clause-sound c = let at = c.requires.1 in record { text = text_of at.text; ready = (_, _, _, at.ahead) }

pub put_read-requires : goal.put_read-requires
put_read-requires c =
    let state = c.args.self.now in
    let old = state.reader in
    let text = old.text.now in
    let at = c.requires.1 in (
      c.requires.0,
      elim c.if-self.branch [
        | then-self w ↦
            let new = w.close.new.self in
            rw (w.self-is, w.read-is) (read_here state new (Ok (Some w.close.result)) w.close.ensures.text at.text at.going at.few at.ahead
            (taken_here old (Some w.close.result) new at.code.stage at.code.idle (λ origin history kept. w.close.ensures.read origin history kept (end_here text history old kept at.code.code w.if-self.true)))
            (λ e. cc) tt (search rules))
        | else-self w ↦
            let read = w.read_wordless-read.ensures in
            rw (w.self-is, w.read-is) (read_here state w.read_wordless-read.new.self w.read_wordless-read.result read.text at.text at.going at.few at.ahead read.ahead read.end read.memory
            (on_ok_weaker w.read_wordless-read.result (λ reads. reads at.read.0 at.read.1 at.read.2) read.reads))
      ],
    )

pub returns : goal.returns
returns c = λ course at.
    let state = c.args.self.now in
    let old = state.reader in
    let text = old.text.now in
    let same : IsSameText state c.if-self.self = elim c.if-self.branch [
      | then-self w ↦ rw w.self-is (ap (λ t. t.now) w.close.ensures.text, refl)
      | else-self w ↦ rw w.self-is (ap (λ t. t.now) w.read_wordless-read.ensures.text, refl)
    ] in
    let read : IsReadNext course c.if-self.self c.if-self.read = elim c.if-self.branch [
      | then-self w ↦
          let new = w.close.new.self in
          rw (w.self-is, w.read-is) (read_here state new (Ok (Some w.close.result)) w.close.ensures.text at.text at.going at.few at.ahead
          (taken_here old (Some w.close.result) new at.code.stage at.code.idle (λ origin history kept. w.close.ensures.read origin history kept (end_here text history old kept at.code.code w.if-self.true)))
          (λ e. cc) tt (search rules))
      | else-self w ↦
          let read = w.read_wordless-read.ensures in
          rw (w.self-is, w.read-is) (read_here state w.read_wordless-read.new.self w.read_wordless-read.result read.text at.text at.going at.few at.ahead read.ahead read.end read.memory
          (on_ok_weaker w.read_wordless-read.result (λ reads. reads at.read.0 at.read.1 at.read.2) read.reads))
    ] in
    next_same state c.if-self.self _ c.put_read.new.self same (c.put_read.ensures course read)
