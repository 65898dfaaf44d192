use Rattle.starlark_lexed_text.proofs.Within.{lexemes_between, lexemes_within}
use Rattle.starlark_lexed_text.proofs.lexed_text.LexedText.lexemes.Goals as goal

pub returns-clause-within : goal.returns-clause-within
returns-clause-within c = rw (c.deref.ensures.value, ← c.self.view_is) (lexemes_within c.self.inside.text.now c.self.inside.lexemes.items c.self.invariant.3.1.lexemes c.self.invariant.0)

pub returns-clause-boundaries : goal.returns-clause-boundaries
returns-clause-boundaries c = rw (c.deref.ensures.value, ← c.self.view_is) (lexemes_between c.self.inside.text.now c.self.inside.lexemes.items (rw (c.text-text.ensures, ← c.self.view_is) at c.text-text.utf8) c.self.invariant.3.1.lexemes)
