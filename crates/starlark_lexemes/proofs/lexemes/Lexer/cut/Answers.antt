use Rattle.std.proofs.Common.{rules}
use Rattle.starlark_lexemes.proofs.LexerCuts.{cut_after, cut_kept, known_reached}
use Rattle.starlark_lexemes.proofs.lexemes.Lexer.cut.Goals as goal

pub returns-clause-kept : goal.returns-clause-kept
returns-clause-kept c = rw (← c.self.view_is) (cut_after c.self.inside.state c.cut.result c.self.invariant c.if-self.false (cut_kept c.self.inside.state.reader.text.now c.self.inside.state c.cut.result c.self.invariant c.if-self.false c.cut.ensures.kept))

pub returns-then-self-clause-known : goal.returns-then-self-clause-known
returns-then-self-clause-known c = search (rules, known_reached)

pub returns-clause-known : goal.returns-clause-known
returns-clause-known c = search (rules, known_reached)
