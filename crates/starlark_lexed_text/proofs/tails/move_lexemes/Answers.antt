use Rattle.std.proofs.Common.{◌≡◌, ◌<◌, ◌+◌, ◌∙◌, ap, arith, length, suc, slice_index_or}
use Rattle.starlark_lexed_text.specs.Inner.LexedTexts.{moved_lexeme}
use Rattle.starlark_lexed_text.proofs.Moves.{next_same, next_set}
use Rattle.starlark_lexed_text.proofs.tails.move_lexemes.Goals as goal

pub loop-lexeme-preserved : goal.loop-lexeme-preserved
loop-lexeme-preserved c =
    let i = c.loop-lexeme.lexeme-index in
    let inside : c.loop-lexeme.lexeme-index < length c.args.lexemes.now = omega arith in
    let next : suc c.loop-lexeme.lexeme-index ≡ c.loop-lexeme.lexeme-index + 1 = omega arith in
    let f = moved_lexeme c.args.from c.args.to in
    let item = ap (λ xs. slice_index_or xs i c.lexeme-item.result) c.loop-lexeme.invariant ∙ next_same f i c.args.lexemes.now c.lexeme-item.result inside in
    rw (item, c.loop-lexeme.invariant, ← next) (next_set f i c.args.lexemes.now c.lexeme-item.result inside)
