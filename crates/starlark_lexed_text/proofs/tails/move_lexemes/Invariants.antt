use Rattle.std.proofs.Common.{◌≡◌, ◌++◌, drop, map, take}
use Rattle.starlark_lexed_text.specs.Inner.LexedTexts.{moved_lexeme}
use Rattle.starlark_lexed_text.proofs.tails.move_lexemes.Given as goal

abbrev pub invariant-loop-lexeme : goal.invariant-loop-lexeme
invariant-loop-lexeme l = l.lexemes ≡ map (moved_lexeme l.from l.to) (take l.lexeme-index l.fn.lexemes) ++ drop l.lexeme-index l.fn.lexemes
