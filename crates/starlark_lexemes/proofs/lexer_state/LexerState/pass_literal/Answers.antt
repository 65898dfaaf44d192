use Rattle.std.proofs.Common.{ap, refl}
use Rattle.starlark_lexemes.proofs.FoundWords.{read_here}
use Rattle.starlark_lexemes.proofs.LexerStates.{next_same, text_of}
use Rattle.starlark_lexemes.proofs.lexer_state.LexerState.pass_literal.Goals as goal

pub read_literal-read-requires-clause-sound : goal.read_literal-read-requires-clause-sound
read_literal-read-requires-clause-sound c = let at = c.requires.1 in record { text = text_of at.text; ready = (_, _, _, at.ahead) }

pub put_read-requires : goal.put_read-requires
put_read-requires c =
    let at = c.requires.1 in
    let read = c.read_literal-read.ensures in
    (c.requires.0, read_here c.args.self.now c.read_literal-read.new.self c.read_literal-read.result read.text at.text at.going at.few at.ahead read.ahead read.end read.memory read.reads)

pub returns : goal.returns
returns c = λ course at.
    let read = c.read_literal-read.ensures in
    next_same c.args.self.now _ _ c.put_read.new.self (ap (λ t. t.now) read.text, refl)
    (c.put_read.ensures course (read_here c.args.self.now c.read_literal-read.new.self c.read_literal-read.result read.text at.text at.going at.few at.ahead read.ahead read.end read.memory read.reads))
