use Rattle.std.proofs.Common.{◌≡◌, drop, ap, ◌∙◌}
use Rattle.starlark_c.proofs.Recovered.{done_more, done_none, recovers_full, recovers_memory}
use Rattle.starlark_lexemes.proofs.NextItems.{next_item}
use Rattle.starlark_recovery.specs.RecoveringLexer.{RecoveringView}
use Rattle.starlark_c.proofs.recovering.fill_recovered.Goals as goal

pub loop-item-init : goal.loop-item-init
loop-item-init c = done_none _ _

pub take_item-requires-clause-answered : goal.take_item-requires-clause-answered
take_item-requires-clause-answered c =
    let old = c.loop-item.lexer in
    let first = next_item old.code_map old.left c.in-Some.item c.in-Some.ensures.item in
    (old.code_map, (first.next, first.answers))

pub loop-item-preserved : goal.loop-item-preserved
loop-item-preserved c =
    let old = c.loop-item.lexer in
    let first = next_item old.code_map old.left c.in-Some.item c.in-Some.ensures.item in
    let goes : c.next.new.self.left ≡ drop 1 old.left = ap (λ (l : RecoveringView). l.left) c.in-Some.ensures.after ∙ c.in-Put.ensures.going old.left in
    done_more old.code_map _ old.left _ c.in-Some.item _ _ _ c.loop-item.filled c.in-Put.more c.loop-item.invariant first (c.in-Put.ensures.takes old.code_map first.next first.answers) goes

pub returns-in-NoRoom : goal.returns-in-NoRoom
returns-in-NoRoom c =
    let old = c.loop-item.lexer in
    let first = next_item old.code_map old.left c.in-Some.item c.in-Some.ensures.item in
    let goes : c.next.new.self.left ≡ drop 1 old.left = ap (λ (l : RecoveringView). l.left) c.in-Some.ensures.after ∙ c.in-NoRoom.ensures.going old.left in
    recovers_full old.code_map c.args.lexer.now.text old.left _ c.in-Some.item _ _ _ c.loop-item.filled c.in-NoRoom.wanted c.end_full.result c.requires.text (rw c.requires.fresh at c.loop-item.invariant) first
    (c.in-NoRoom.ensures.takes old.code_map first.next first.answers) goes c.end_full.ensures

pub returns-in-Memory : goal.returns-in-Memory
returns-in-Memory c =
    let old = c.loop-item.lexer in
    let first = next_item old.code_map old.left c.in-Some.item c.in-Some.ensures.item in
    rw (c.in-Memory.ensures.takes old.code_map first.next first.answers) (recovers_memory c.args.lexer.now.text old.left _ _ c.loop-item.filled c.requires.text (rw c.requires.fresh at c.loop-item.invariant))
