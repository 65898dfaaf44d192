use Rattle.std.proofs.Common.{◌≡◌, ◌≤◌, ◌-◌, ◌+◌, ◌++◌, ◌∙◌, ap, arith, drop, length, length-drop, subst, sym, take, rules}
use Rattle.std.specs.List.{AllByRecursion}
use Rattle.std.proofs.Math.Seq.{take-length}
use Rattle.starlark_lexed_text.specs.Inner.LexedTexts.{AllNearCuts}
use Rattle.starlark_lexed_text.specs.declared.cuts.Cut.{Cut}
use Rattle.starlark_lexed_text.proofs.MetTexts.{begin_near, both_moved, cuts_after, inside, known_near, order, part_near, rest_after, rest_near, to_fits, whole_near}
use Rattle.starlark_lexed_text.proofs.meetings.put_part.Goals as goal
use Rattle.starlark_lexed_text.proofs.meetings.put_part.Goals.{After-deref}

-- the cuts after the meeting, as they are passed on
rest_is : (c : After-deref) → take (length c.deref.result.now - (c.args.begin.cuts + c.args.meeting.index + 1)) (drop (c.args.begin.cuts + c.args.meeting.index + 1) c.deref.result.now) ≡ drop (c.args.begin.cuts + c.args.meeting.index + 1) c.args.cuts.now.items
rest_is c =
    let n = c.args.begin.cuts + c.args.meeting.index + 1 in
    ap (λ k. take k (drop n c.deref.result.now)) (sym (length-drop n c.deref.result.now)) ∙ take-length (drop n c.deref.result.now) ∙ ap (drop n) c.deref.ensures.value

pub push_moved_cuts-requires-clause-near : goal.push_moved_cuts-requires-clause-near
push_moved_cuts-requires-clause-near c = subst AllNearCuts (sym (rest_is (goal.at.push_moved_cuts-requires-clause-near c).After-deref)) (known_near _ _ _ _ _ _ _ c.requires.2)

pub push_moved_cuts-requires-clause-after : goal.push_moved_cuts-requires-clause-after
push_moved_cuts-requires-clause-after c = subst (AllByRecursion (λ (cut : Cut). (c.args.meeting.cut.at ≤ cut.at) × (c.args.meeting.cut.lexemes ≤ cut.lexemes))) (sym (rest_is (goal.at.push_moved_cuts-requires-clause-after c).After-deref)) (cuts_after _ _ _ _ _ _ _ c.requires.2)

pub push_moved_cuts-requires-clause-fits : goal.push_moved_cuts-requires-clause-fits
push_moved_cuts-requires-clause-fits c = search (rules, to_fits)

pub replace_lexemes-requires-clause-order : goal.replace_lexemes-requires-clause-order
replace_lexemes-requires-clause-order c = order _ _ _ _ _ _ _ c.requires.2

pub replace_lexemes-requires-clause-inside : goal.replace_lexemes-requires-clause-inside
replace_lexemes-requires-clause-inside c = inside _ _ _ _ _ _ _ c.requires.2

pub replace_lexemes-requires-clause-near : goal.replace_lexemes-requires-clause-near
replace_lexemes-requires-clause-near c = rest_near _ _ _ _ _ _ _ c.requires.2

pub replace_lexemes-requires-clause-more_near : goal.replace_lexemes-requires-clause-more_near
replace_lexemes-requires-clause-more_near c = part_near _ _ _ _ _ _ _ c.requires.2

pub replace_lexemes-requires-clause-after : goal.replace_lexemes-requires-clause-after
replace_lexemes-requires-clause-after c = rest_after _ _ _ _ _ _ _ c.requires.2

pub append_cuts-requires-clause-near : goal.append_cuts-requires-clause-near
append_cuts-requires-clause-near c =
    let count : c.len.result ≡ length c.args.part.lexemes.items = omega (arith, c.len.ensures, c.args.part.lexemes.ok) in
    rw (c.in_ok-push_moved_cuts.ensures, rest_is (goal.at.append_cuts-requires-clause-near c).After-deref, count) (whole_near _ _ _ _ _ _ _ c.requires.2)

pub append_cuts-requires-clause-count : goal.append_cuts-requires-clause-count
append_cuts-requires-clause-count c = begin_near _ _ _ _ _ _ _ c.requires.2

pub returns-clause-lexemes : goal.returns-clause-lexemes
returns-clause-lexemes c = c.in_ok-replace_lexemes.ensures.made ∙ ap (λ xs. take c.args.begin.lexemes c.args.lexemes.now.items ++ xs) (both_moved c.args.meeting.cut.at c.args.meeting.at c.args.begin.at c.args.part.lexemes.items (drop c.args.meeting.cut.lexemes c.args.lexemes.now.items))
