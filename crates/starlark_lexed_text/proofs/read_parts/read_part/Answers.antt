use Rattle.std.proofs.Common.{◌≡◌, ◌≤◌, ◌<◌, ◌^◌, ◌++◌, ◌-◌, Bool, IfSome, List, Some, arith, ap, false, length, refl, rules, subst, sym, true, ℕ, ◌∙◌}
use Rattle.std.specs.Bool.{then_some}
use Rattle.std.specs.List.{ends_with}
use Rattle.std.specs.Option.{is_some}
use Rattle.std.specs.Prelude.{◌&&◌, Option, codes, nat_eq}
use Rattle.starlark_grammar.specs.Cuts.{is_clean_cut, is_settled}
use Rattle.starlark_grammar.specs.Words.{Text}
use Rattle.starlark_reader.specs.Inner.MarginCuts.{IsCutBefore}
use Rattle.starlark_reader.specs.Inner.Reader.{IsStateAfter, Start}
use Rattle.starlark_lexed_text.specs.Inner.LexedTexts.{IsMet, cuts_at, end_cuts}
use Rattle.starlark_lexemes.specs.Inner.LexerStates.{StateView, left_in, whole}
use Rattle.starlark_grammar.specs.Reading.{outcome}
use Rattle.starlark_words.specs.Inner.Reads.{more_reads}
use Rattle.starlark_lexemes.specs.Lexer.{most_reads}
use Rattle.starlark_lexemes.proofs.LexerStates.{none_at_end}
use Rattle.starlark_lexemes.proofs.LexerCuts.{cut_kept}
use Rattle.starlark_lexed_text.proofs.Collected.{AreCutsSoFar, all_given, collected_none, cut_inside, fault_given, goes_on, less_left, no_cuts_yet, none_collected, pushed_one, same_collected, settled_is, some_given, text_is}
use Rattle.starlark_lexed_text.specs.declared.cuts.Cut.{Cut}
use Rattle.starlark_lexed_text.proofs.MetTexts.{met_front}
use Rattle.starlark_lexed_text.proofs.read_parts.read_part.Goals as goal

pub loop-item-init : goal.loop-item-init
loop-item-init c = record {
  collected = collected_none c.args.state.now c.new-lexemes.result.items c.new-lexemes.ensures.items c.requires.lexing c.requires.begun;
  cuts = subst (λ n. AreCutsSoFar c.args.state.now.reader.text.now n c.new-cuts.result.items) (sym (ap length c.new-lexemes.ensures.items)) (no_cuts_yet c.args.state.now.reader.text.now c.new-cuts.result.items c.new-cuts.ensures.items);
}

pub loop-item-preserved : goal.loop-item-preserved
loop-item-preserved c =
    let going = goes_on _ c.loop-item.state c.loop-item.lexemes.items c.loop-item.invariant.collected in
    let after = rw (c.in-Ok.is, going) at c.in-Some.ensures.after in
    let kept = cut_kept c.args.state.now.reader.text.now c.next.new.self c.cut-place.result (c.in-Some.ensures.lexing (whole c.args.state.now.reader.text.now) c.loop-item.invariant.collected.lexing) (ap (λ (v : StateView). v.has_ended) after) c.cut-place.ensures.kept in
    let pushed = pushed_one c.args.state.now.reader.text.now c.loop-item.state c.next.new.self c.loop-item.lexemes.items c.push.new.self.items c.in-Ok.lexeme c.loop-item.cuts.items c.push_cut.new.cuts.items c.cut-place.result c.len.result c.loop-item.invariant.collected c.loop-item.invariant.cuts
    (rw c.in-Ok.is at (c.in-Some.ensures.answer going (whole c.args.state.now.reader.text.now) c.loop-item.invariant.collected.lexing)) (c.in-Some.ensures.lexing (whole c.args.state.now.reader.text.now) c.loop-item.invariant.collected.lexing) after c.in_ok-push.ensures.items kept c.cut-place.ensures.reached (omega (arith, c.len.ensures, c.push.new.self.ok)) c.in_ok-push_cut.ensures in
    record {
      collected = same_collected c.args.state.now.reader.text.now c.next.new.self c.meeting_at.new.state c.push.new.self.items pushed.collected (c.meeting_at.ensures.lexing (whole c.args.state.now.reader.text.now) pushed.collected.lexing) c.meeting_at.ensures.after;
      cuts = pushed.cuts;
    }

pub returns-in-Some-meeting_at-clause-met : goal.returns-in-Some-meeting_at-clause-met
returns-in-Some-meeting_at-clause-met c =
    let going = goes_on _ c.loop-item.state c.loop-item.lexemes.items c.loop-item.invariant.collected in
    let after = rw (c.in-Ok.is, going) at c.in-Some.ensures.after in
    let kept = cut_kept c.args.state.now.reader.text.now c.next.new.self c.cut-place.result (c.in-Some.ensures.lexing (whole c.args.state.now.reader.text.now) c.loop-item.invariant.collected.lexing) (ap (λ (v : StateView). v.has_ended) after) c.cut-place.ensures.kept in
    let pushed = pushed_one c.args.state.now.reader.text.now c.loop-item.state c.next.new.self c.loop-item.lexemes.items c.push.new.self.items c.in-Ok.lexeme c.loop-item.cuts.items c.push_cut.new.cuts.items c.cut-place.result c.len.result c.loop-item.invariant.collected c.loop-item.invariant.cuts
    (rw c.in-Ok.is at (c.in-Some.ensures.answer going (whole c.args.state.now.reader.text.now) c.loop-item.invariant.collected.lexing)) (c.in-Some.ensures.lexing (whole c.args.state.now.reader.text.now) c.loop-item.invariant.collected.lexing) after c.in_ok-push.ensures.items kept c.cut-place.ensures.reached (omega (arith, c.len.ensures, c.push.new.self.ok)) c.in_ok-push_cut.ensures in
    let text = c.args.state.now.reader.text.now in
    let same = text_is text c.next.new.self c.push.new.self.items pushed.collected in
    let counted : c.len.result ≡ length c.push.new.self.items = omega (arith, c.len.ensures, c.push.new.self.ok) in
    let reached : c.cut-place.result ≡ Some c.in-Some-meeting_at.meeting.at = c.in-Some-meeting_at.ensures.place in
    let before : IsCutBefore text c.in-Some-meeting_at.meeting.at (length (left_in (whole c.args.state.now.reader.text.now) c.next.new.self)) = subst (λ (t : Text). IsCutBefore t c.in-Some-meeting_at.meeting.at (length (left_in (whole c.args.state.now.reader.text.now) c.next.new.self))) same (subst (λ (found : Option ℕ). IfSome found (λ at. IsCutBefore c.next.new.self.reader.text.now at (length (left_in (whole c.args.state.now.reader.text.now) c.next.new.self)))) reached kept) in
    let last : c.push_cut.new.cuts.items ≡ c.loop-item.cuts.items ++ cuts_at (Some c.in-Some-meeting_at.meeting.at) (length c.push.new.self.items) = c.in_ok-push_cut.ensures ∙ ap (λ n. c.loop-item.cuts.items ++ cuts_at c.cut-place.result n) counted ∙ ap (λ (found : Option ℕ). c.loop-item.cuts.items ++ cuts_at found (length c.push.new.self.items)) reached in (
      subst (λ (t : Text). IsMet t c.args.known.now c.args.known_cuts.now c.in-Some-meeting_at.meeting) same c.in-Some-meeting_at.ensures.met,
      met_front text c.next.new.self c.loop-item.cuts.items c.in-Some-meeting_at.meeting.at _ pushed.collected before pushed.cuts last,
    )

pub loop-item-smaller : goal.loop-item-smaller
loop-item-smaller c =
    let going = goes_on _ c.loop-item.state c.loop-item.lexemes.items c.loop-item.invariant.collected in
    let after = rw (c.in-Ok.is, going) at c.in-Some.ensures.after in
    let kept = cut_kept c.args.state.now.reader.text.now c.next.new.self c.cut-place.result (c.in-Some.ensures.lexing (whole c.args.state.now.reader.text.now) c.loop-item.invariant.collected.lexing) (ap (λ (v : StateView). v.has_ended) after) c.cut-place.ensures.kept in
    let pushed = pushed_one c.args.state.now.reader.text.now c.loop-item.state c.next.new.self c.loop-item.lexemes.items c.push.new.self.items c.in-Ok.lexeme c.loop-item.cuts.items c.push_cut.new.cuts.items c.cut-place.result c.len.result c.loop-item.invariant.collected c.loop-item.invariant.cuts
    (rw c.in-Ok.is at (c.in-Some.ensures.answer going (whole c.args.state.now.reader.text.now) c.loop-item.invariant.collected.lexing)) (c.in-Some.ensures.lexing (whole c.args.state.now.reader.text.now) c.loop-item.invariant.collected.lexing) after c.in_ok-push.ensures.items kept c.cut-place.ensures.reached (omega (arith, c.len.ensures, c.push.new.self.ok)) c.in_ok-push_cut.ensures in
    less_left (length (outcome c.args.state.now.reader.text.now).lexemes) c.loop-item.lexemes.items c.push.new.self.items c.in-Ok.lexeme c.in_ok-push.ensures.items pushed.more

pub returns-in-Some-take_fault-clause-part : goal.returns-in-Some-take_fault-clause-part
returns-in-Some-take_fault-clause-part c = λ none.
    let mid = none_collected _ c.loop-item.state c.next.new.self c.next.result c.loop-item.lexemes.items (ap is_some c.in_default.is) c.loop-item.invariant.collected (c.next.ensures.lexing (whole c.args.state.now.reader.text.now) c.loop-item.invariant.collected.lexing) c.next.ensures.after in
    let last = c.in-Some-take_fault.ensures.last (goes_on _ c.next.new.self c.loop-item.lexemes.items mid) _ mid.lexing in
    fault_given _ c.next.new.self c.take_fault.new.self _ c.in-Some-take_fault.fault mid last c.loop-item.invariant.cuts refl refl c.has_read_none.ensures

pub overflow_sub-len : goal.overflow_sub-len
overflow_sub-len c =
    let mid = none_collected c.args.state.now.reader.text.now c.loop-item.state c.next.new.self c.next.result c.loop-item.lexemes.items (ap is_some c.in_default.is) c.loop-item.invariant.collected (c.next.ensures.lexing (whole c.args.state.now.reader.text.now) c.loop-item.invariant.collected.lexing) c.next.ensures.after in
    let last = c.in_default-take_fault.ensures.last (goes_on c.args.state.now.reader.text.now c.next.new.self c.loop-item.lexemes.items mid) _ mid.lexing in
    omega (arith, c.len-2.ensures, c.loop-item.lexemes.ok, some_given c.args.state.now.reader.text.now c.next.new.self c.take_fault.new.self c.loop-item.lexemes.items mid last)

end_is : (text : Text) (count : ℕ) (is_cut : Bool) → cuts_at (then_some is_cut (length text)) (count - 1) ≡ end_cuts text count is_cut
end_is text count true = refl
end_is text count false = refl

pub returns-clause-part : goal.returns-clause-part
returns-clause-part c = λ none.
    let text = c.args.state.now.reader.text.now in
    let mid = none_collected text c.loop-item.state c.next.new.self c.next.result c.loop-item.lexemes.items (ap is_some c.in_default.is) c.loop-item.invariant.collected (c.next.ensures.lexing (whole c.args.state.now.reader.text.now) c.loop-item.invariant.collected.lexing) c.next.ensures.after in
    let last = c.in_default-take_fault.ensures.last (goes_on text c.next.new.self c.loop-item.lexemes.items mid) _ mid.lexing in
    let same : c.take_fault.new.self.reader.text.now ≡ text = ap (λ (v : StateView). v.text) c.take_fault.ensures.after ∙ text_is text c.next.new.self c.loop-item.lexemes.items mid in
    let is_cut : c.is_clean_cut-is_cut.result ≡ is_clean_cut text =
    settled_is text c.next.new.self c.take_fault.new.self c.loop-item.lexemes.items c.is_clean_cut-is_cut.result mid last
    (λ history after. c.is_clean_cut-is_cut.ensures.value Start history (subst (λ (t : Text). IsStateAfter Start t history c.take_fault.new.self.reader) (sym same) after) ∙ ap (λ (t : Text). is_settled history && ends_with nat_eq t (codes "\n")) same) in
    let counted : c.len-2.result ≡ length c.loop-item.lexemes.items = omega (arith, c.len-2.ensures, c.loop-item.lexemes.ok) in
    let cuts : c.push_cut-2.new.cuts.items ≡ c.loop-item.cuts.items ++ end_cuts text (length c.loop-item.lexemes.items) c.is_clean_cut-is_cut.result =
    c.in_ok-push_cut-2.ensures ∙ ap (λ (more : List Cut). c.loop-item.cuts.items ++ more) (ap (λ (end : Option ℕ). cuts_at end (c.len-2.result - 1)) c.then_some.ensures ∙ ap (λ n. cuts_at (then_some c.is_clean_cut-is_cut.result (length text)) (n - 1)) counted ∙ end_is text (length c.loop-item.lexemes.items) c.is_clean_cut-is_cut.result) in
    all_given text c.next.new.self c.take_fault.new.self _ c.loop-item.cuts.items mid last refl c.loop-item.invariant.cuts cuts is_cut refl

pub meeting_at-requires-clause-lexing : goal.meeting_at-requires-clause-lexing
meeting_at-requires-clause-lexing c = (whole c.args.state.now.reader.text.now, (c.in-Some.ensures.lexing (whole c.args.state.now.reader.text.now) c.loop-item.invariant.collected.lexing))

pub meeting_at-requires-clause-inside : goal.meeting_at-requires-clause-inside
meeting_at-requires-clause-inside c =
    let going = goes_on _ c.loop-item.state c.loop-item.lexemes.items c.loop-item.invariant.collected in
    let after = rw (c.in-Ok.is, going) at c.in-Some.ensures.after in
    let kept = cut_kept c.args.state.now.reader.text.now c.next.new.self c.cut-place.result (c.in-Some.ensures.lexing (whole c.args.state.now.reader.text.now) c.loop-item.invariant.collected.lexing) (ap (λ (v : StateView). v.has_ended) after) c.cut-place.ensures.kept in
    cut_inside c.next.new.self.reader.text.now _ c.cut-place.result kept

pub take_fault-requires-clause-lexing : goal.take_fault-requires-clause-lexing
take_fault-requires-clause-lexing c = (whole c.args.state.now.reader.text.now, c.next.ensures.lexing (whole c.args.state.now.reader.text.now) c.loop-item.invariant.collected.lexing)

pub take_fault-requires-clause-end : goal.take_fault-requires-clause-end
take_fault-requires-clause-end c = λ on.
    let going = goes_on _ c.loop-item.state c.loop-item.lexemes.items c.loop-item.invariant.collected in
    none_at_end (whole c.args.state.now.reader.text.now) c.loop-item.state c.next.result c.next.new.self (ap is_some c.in_default.is) (ap (λ (v : StateView). v.text) c.next.ensures.after) (c.next.ensures.answer going (whole c.args.state.now.reader.text.now) c.loop-item.invariant.collected.lexing)

pub returns-in-Some-take_fault-clause-most : goal.returns-in-Some-take_fault-clause-most
returns-in-Some-take_fault-clause-most c =
    let mid = none_collected c.args.state.now.reader.text.now c.loop-item.state c.next.new.self c.next.result c.loop-item.lexemes.items (ap is_some c.in_default.is) c.loop-item.invariant.collected (c.next.ensures.lexing (whole c.args.state.now.reader.text.now) c.loop-item.invariant.collected.lexing) c.next.ensures.after in
    let last = c.in-Some-take_fault.ensures.last (goes_on c.args.state.now.reader.text.now c.next.new.self c.loop-item.lexemes.items mid) _ mid.lexing in
    let most = subst (λ (t : Text). c.take_fault.new.self.reader.reads ≤ most_reads t) (text_is c.args.state.now.reader.text.now c.next.new.self c.loop-item.lexemes.items mid) last.1.most in
    search (rules, most)

pub returns-clause-most : goal.returns-clause-most
returns-clause-most c =
    let mid = none_collected c.args.state.now.reader.text.now c.loop-item.state c.next.new.self c.next.result c.loop-item.lexemes.items (ap is_some c.in_default.is) c.loop-item.invariant.collected (c.next.ensures.lexing (whole c.args.state.now.reader.text.now) c.loop-item.invariant.collected.lexing) c.next.ensures.after in
    let last = c.in_default-take_fault.ensures.last (goes_on c.args.state.now.reader.text.now c.next.new.self c.loop-item.lexemes.items mid) _ mid.lexing in
    let most = subst (λ (t : Text). c.take_fault.new.self.reader.reads < most_reads t) (text_is c.args.state.now.reader.text.now c.next.new.self c.loop-item.lexemes.items mid) last.4 in
    search (rules, most)

pub returns-clause-least : goal.returns-clause-least
returns-clause-least c = λ none.
    let mid = none_collected c.args.state.now.reader.text.now c.loop-item.state c.next.new.self c.next.result c.loop-item.lexemes.items (ap is_some c.in_default.is) c.loop-item.invariant.collected (c.next.ensures.lexing (whole c.args.state.now.reader.text.now) c.loop-item.invariant.collected.lexing) c.next.ensures.after in
    let last = c.in_default-take_fault.ensures.last (goes_on c.args.state.now.reader.text.now c.next.new.self c.loop-item.lexemes.items mid) _ mid.lexing in
    let same = text_is c.args.state.now.reader.text.now c.next.new.self c.loop-item.lexemes.items mid in
    let most = subst (λ (t : Text). c.take_fault.new.self.reader.reads < most_reads t) same last.4 in
    let least = subst (λ (t : Text). more_reads 0 (length t) ≤ c.take_fault.new.self.reader.reads) same last.3 in
    let fits = subst (λ (t : Text). length t < 2 ^ 32) same mid.lexing.0.fits in
    search (rules, most, least, fits)
