use Rattle.std.proofs.Common.{Bool, true, false, refl, ◌≡◌, ◌∷◌, ◌++◌, List, ℕ, Some, [], ap, append-nil, append_assoc, arith, drop, length, subst, sym, ◌∙◌}
use Rattle.starlark_recovery.specs.RecoveringLexer.{AreReadsOn, HasReadOn, RecoveringView, all_items, is_memory}
use Rattle.starlark_document.proofs.Costs.{goes_on, reads_on}
use Rattle.starlark_document.specs.Inner.LexedFronts.{IsLexedFront, IsTakenFront}
use Rattle.starlark_document.specs.declared.lexed_fronts.LexedFront.{LexedFront}
use Rattle.starlark_token.specs.TextItems.{LexerItem}
use Rattle.starlark_lexemes.proofs.NextItems.{next_item, next_none}
use Rattle.starlark_document.proofs.segment_lexing.take_front.Goals as goal

pub loop-item-init : goal.loop-item-init
loop-item-init c = record {
  source = ap (λ (r : RecoveringView). r.text) c.requires.lexer;
  going = ap (λ (r : RecoveringView). r.has_ended) c.requires.lexer;
  few = omega (arith, ap (λ (r : RecoveringView). r.fault_count) c.requires.lexer);
  most = omega (arith, ap (λ (r : RecoveringView). r.reads) c.requires.lexer);
  least = refl;
  found = ([], sym (ap (λ (r : RecoveringView). r.left) c.requires.lexer), c.requires.front);
}

pub take-requires-clause-answered : goal.take-requires-clause-answered
take-requires-clause-answered c =
    let next = next_item c.loop-item.lexer.code_map c.loop-item.lexer.left c.in-Some.item c.in-Some.ensures.item in
    (c.loop-item.lexer.code_map, next.next, next.answers)

pub take-requires-clause-cut : goal.take-requires-clause-cut
take-requires-clause-cut c = c.in_ok-ends_before.ensures.goes c.if-branch.false

pub loop-item-preserved : goal.loop-item-preserved
loop-item-preserved c =
    let inv = c.loop-item.invariant in
    let old = c.loop-item.lexer in
    let found = inv.found in
    let next = next_item old.code_map old.left c.in-Some.item c.in-Some.ensures.item in
    let after : c.next.new.self.left ≡ drop 1 old.left = ap (λ (r : RecoveringView). r.left) c.in-Some.ensures.after ∙ c.in_ok-take.ensures.going old.left in
    let source : c.next.new.self.text ≡ c.args.text.now = ap (λ (r : RecoveringView). r.text) c.in-Some.ensures.after ∙ inv.source in
    let whole : all_items c.args.text.now ≡ found.0 ++ (next.next ∷ []) ++ c.next.new.self.left =
    found.1 ∙ ap (λ xs. found.0 ++ xs) (next.is ∙ ap (λ xs. next.next ∷ xs) (sym after)) ∙ sym (append_assoc found.0 (next.next ∷ []) c.next.new.self.left) in
    let read = c.in-Some.ensures.reads inv.going in
    let paid = reads_on c.args.text.now c.next.new.self.fault_count c.next.new.self.reads c.in-Some.item c.in_ok-take.ensures.memory (subst (λ (t : List ℕ). HasReadOn t c.next.new.self.fault_count (Some c.in-Some.item) c.next.new.self.reads) inv.source read) in
    record {
      source = source;
      going = ap (λ (r : RecoveringView). r.has_ended) c.in-Some.ensures.after ∙ goes_on old.has_ended (is_memory (Some c.in-Some.item)) inv.going c.in_ok-take.ensures.memory;
      few = paid.few;
      most = paid.most;
      least = c.in_ok-take.ensures.least ∙ inv.least;
      found = (found.0 ++ (next.next ∷ []), whole, c.in_ok-take.ensures.front old.code_map next.next found.0 next.answers found.2);
    }

pub returns-then-branch-clause-front : goal.returns-then-branch-clause-front
returns-then-branch-clause-front c =
    let found = c.loop-item.invariant.found in
    let old = c.loop-item.lexer in
    let next = next_item old.code_map old.left c.in-Some.item c.in-Some.ensures.item in
    record {
      items = found.0;
      more = next.next ∷ drop 1 old.left;
      all = found.1 ∙ ap (λ xs. found.0 ++ xs) next.is;
      taken = found.2;
      cut = c.in_ok-ends_before.ensures.cut c.if-branch.true;
      ends = c.in_ok-ends_before.ensures.ends c.if-branch.true old.code_map next.next next.answers;
    }

pub returns-then-branch-clause-reads : goal.returns-then-branch-clause-reads
returns-then-branch-clause-reads c =
    let inv = c.loop-item.invariant in
    let read = subst (λ (t : List ℕ). HasReadOn t c.next.new.self.fault_count (Some c.in-Some.item) c.next.new.self.reads) inv.source (c.in-Some.ensures.reads inv.going) in
    reads_on c.args.text.now c.next.new.self.fault_count c.next.new.self.reads c.in-Some.item (c.in_ok-ends_before.ensures.going c.if-branch.true) read

pub returns-clause-front : goal.returns-clause-front
returns-clause-front c =
    let found = c.loop-item.invariant.found in
    let old = c.loop-item.lexer in
    let none = next_none old.code_map old.left c.in_default.ensures.item in
    let whole : all_items c.args.text.now ≡ found.0 = found.1 ∙ ap (λ xs. found.0 ++ xs) none ∙ append-nil found.0 in
    by c.args.text.now found.0 c.loop-item.front whole found.2 c.loop-item.front.is_cut refl
  where
    by : (text : List ℕ) (items : List LexerItem) (front : LexedFront) → all_items text ≡ items → IsLexedFront text items front → (is_cut : Bool) → front.is_cut ≡ is_cut → IsTakenFront text is_cut front
    by text items front all is true cut = record { items = items; more = []; all = all ∙ sym (append-nil items); taken = is; cut = cut; ends = tt }
    by text items front all is false uncut = (subst (λ xs. IsLexedFront text xs front) (sym all) is, uncut)

pub returns-clause-reads : goal.returns-clause-reads
returns-clause-reads c =
    let inv = c.loop-item.invariant in
    subst (λ (t : List ℕ). AreReadsOn t c.next.new.self.fault_count c.next.new.self.reads) inv.source (c.in_default.ensures.reads inv.going).0

pub returns-clause-least : goal.returns-clause-least
returns-clause-least c = λ whole none.
    let inv = c.loop-item.invariant in
    omega (arith, (c.in_default.ensures.reads inv.going).1 none, ap length inv.source)
