use Rattle.std.proofs.Common.{◌≡◌, ◌+◌, ◌++◌, ◌∙◌, ◌≤◌, ap, append_assoc, arith, drop, length, map, subst, sym, take, rules}
use Rattle.std.specs.List.{splice}
use Rattle.starlark_lexed_text.specs.Inner.LexedTexts.{AllAfter, AllNear, moved_lexeme}
use Rattle.starlark_lexed_text.proofs.Moves.{drained, spliced}
use Rattle.starlark_lexed_text.proofs.tails.replace_lexemes.Goals as goal
use Rattle.starlark_lexed_text.proofs.tails.replace_lexemes.Goals.{In_ok-splice}

-- the list after the splice
parts : (c : In_ok-splice) → (take (c.args.kept + c.len.result) c.splice.new.self.items ≡ take c.args.kept c.args.lexemes.now.items ++ map (moved_lexeme 0 c.args.len) c.args.more.items) × (drop (c.args.kept + c.len.result) c.splice.new.self.items ≡ drop c.args.cut.lexemes c.args.lexemes.now.items) × (c.args.kept + c.len.result ≤ length c.splice.new.self.items)
parts c =
    let all = c.in_ok-splice.ensures.items in
    let same : all.1 ≡ c.move_from.new.lexemes.items = drained c.move_from.new.lexemes.items all.0 all.1 all.2.0 (all.2.1 ∙ c.move_from.new.lexemes.ok.0) all.3 in
    spliced c.args.kept (c.args.kept + c.len.result) c.args.cut.lexemes c.args.lexemes.now.items (map (moved_lexeme 0 c.args.len) c.args.more.items) c.splice.new.self.items (omega (arith, c.requires.order, c.requires.inside))
    (omega (arith, c.len.ensures, ap length c.move_from.ensures, c.move_from.new.lexemes.ok)) (all.4 ∙ ap (λ xs. splice c.args.lexemes.now.items c.args.kept c.args.cut.lexemes xs) (same ∙ c.move_from.ensures))

pub move_from-requires-2-clause-inside : goal.move_from-requires-2-clause-inside
move_from-requires-2-clause-inside c = (parts (goal.at.move_from-requires-2-clause-inside c).In_ok-splice).2

pub move_from-requires-2-clause-near : goal.move_from-requires-2-clause-near
move_from-requires-2-clause-near c = subst AllNear (sym (parts (goal.at.move_from-requires-2-clause-near c).In_ok-splice).1) c.requires.near

pub move_from-requires-2-clause-after : goal.move_from-requires-2-clause-after
move_from-requires-2-clause-after c = subst (AllAfter c.args.cut.at) (sym (parts (goal.at.move_from-requires-2-clause-after c).In_ok-splice).1) c.requires.after

pub returns-clause-made : goal.returns-clause-made
returns-clause-made c = search (rules, parts, append_assoc)
