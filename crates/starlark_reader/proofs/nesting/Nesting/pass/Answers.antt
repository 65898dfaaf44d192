use Rattle.std.proofs.Common.{◌≡◌, ◌+◌, ◌-◌, ◌∷◌, ℕ, List, [], ap, false, length, refl, rules, subst, sym, take, true, ◌∙◌, arith}
use Rattle.std.specs.Prelude.{reverse, vec_len}
use Rattle.starlark_token.specs.TokenViews.{Whole, token_view}
use Rattle.starlark_grammar.specs.Tokens.{FStringEnd}
use Rattle.starlark_reader.specs.Inner.Nesting.{Represents, fstring_after, fstring_view, keeps_nesting}
use Rattle.starlark_reader.specs.declared.nesting.Nesting.{Nesting}
use Rattle.starlark_reader.specs.declared.nesting.OpenFString.{OpenFString}
use Rattle.starlark_reader.proofs.OpenBrackets.OpenFStrings.{AreOpen, Nests, but_last, closing_nests, expression_nests, last_of, last_set, none_onward, nothing_last, one_kept, one_onward, opening_nests, some_onward, whole_same}
use Rattle.starlark_reader.proofs.nesting.Nesting.pass.Goals as goal
use Rattle.starlark_reader.proofs.nesting.Nesting.pass.Goals.{After-last_mut, in-FStringExprStart, in-FStringExprStart-2, in-ClosingRound, in-OpeningRound}

-- what the token does, where it isn't the end of an f-string
record Counted (c : After-last_mut) : Type 0 where
  more : ℕ
  less : ℕ
  nests : Nests c.args.token.now more less
  fstrings : c.match-token.self.fstrings ≡ c.args.self.now.fstrings
  opened : more + c.args.self.now.opened ≡ c.match-token.self.opened
  closed : less + c.args.self.now.closed ≡ c.match-token.self.closed

counted : (c : After-last_mut) → Counted c
counted c = elim c.match-token.branch [
  | in-FStringExprStart w ↦ of 0 0 c.args.self.now (expression_nests c.args.token.now w.in-FStringExprStart.is) w.self-is refl (omega arith) (omega arith)
  | in-FStringExprStart-2 w ↦ of 0 0 c.args.self.now (expression_nests c.args.token.now w.in-FStringExprStart.is) w.self-is refl (omega arith) (omega arith)
  | in-ClosingRound w ↦ of 0 1 _ (closing_nests c.args.token.now w.in-ClosingRound.is) w.self-is refl (omega arith) (omega arith)
  | in-OpeningRound w ↦ of 1 0 _ (opening_nests c.args.token.now w.in-OpeningRound.is) w.self-is refl (omega arith) (omega arith)
]
  where
    of : (more less : ℕ) (new : Nesting) → Nests c.args.token.now more less → c.match-token.self ≡ new → new.fstrings ≡ c.args.self.now.fstrings → more + c.args.self.now.opened ≡ new.opened → less + c.args.self.now.closed ≡ new.closed → Counted c
    of more less new nests is fstrings opened closed = record {
      more = more;
      less = less;
      nests = nests;
      fstrings = ap (λ (nesting : Nesting). nesting.fstrings) is ∙ fstrings;
      opened = opened ∙ ap (λ (nesting : Nesting). nesting.opened) (sym is);
      closed = closed ∙ ap (λ (nesting : Nesting). nesting.closed) (sym is);
    }

pub returns-in-FStringEnd-clause-passes : goal.returns-in-FStringEnd-clause-passes
unfolding token_view
returns-in-FStringEnd-clause-passes c = λ tokens node e own code h.
    let size = c.args.self.now.fstrings.ok.0 in
    let left = but_last c.args.self.now.fstrings.items c.pop.new.self.items c.pop.result tokens c.pop.ensures.items (λ some. c.pop.ensures.variant.1 (omega (arith, size, some))) h.fstrings in
    let new : Nesting = record c.args.self.now { fstrings = c.pop.new.self } in
    subst (λ node. Represents (node ∷ tokens) new) (whole_same FStringEnd node (sym (ap token_view c.in-FStringEnd.is) ∙ e))
    (one_onward FStringEnd tokens c.args.self.now new (omega arith) (omega arith) h left)

pub returns-in-FStringEnd-clause-stays : goal.returns-in-FStringEnd-clause-stays
unfolding token_view
returns-in-FStringEnd-clause-stays c = λ kept. let ends : false ≡ true = ap (λ token. keeps_nesting (token_view token)) (sym c.in-FStringEnd.is) ∙ kept in cc

pub returns-in_default : goal.returns-in_default
unfolding token_view
returns-in_default c = record {
  passes = λ tokens node e own code h.
      let kept : keeps_nesting (Whole node) ≡ true = search (rules, c.in_default, e, own) in
      one_kept node tokens c.args.self.now kept h;
  count = omega arith;
  stays = λ kept i. c.args.self.now;
}

pub returns-in-Some-clause-passes : goal.returns-in-Some-clause-passes
returns-in-Some-clause-passes c = λ tokens node e own code h.
    let is = counted (goal.at.returns-in-Some-clause-passes c).After-last_mut in
    let inner = is.nests.inner node e in
    let fstrings = c.match-token.self.fstrings in
    let size = fstrings.ok.0 in
    let some = c.in-Some.ensures.variant.0 refl in
    let len : vec_len fstrings - 1 + 1 ≡ length fstrings.items = omega (arith, size, some) in
    let last = last_of fstrings.items (vec_len fstrings - 1) c.in-Some.innermost.now len c.in-Some.ensures.value in
    let written = last_set fstrings.items (vec_len fstrings - 1) c.pass.new.self len in
    let rest : List OpenFString = reverse (take (vec_len fstrings - 1) fstrings.items) in
    let same : AreOpen (reverse fstrings.items) tokens = rw is.fstrings h.fstrings in
    let innermost : AreOpen (c.in-Some.innermost.now ∷ rest) tokens = subst (λ (fstrings : List OpenFString). AreOpen fstrings tokens) last same in
    let more = some_onward node tokens c.in-Some.innermost.now c.pass.new.self rest inner.0 (omega (arith, c.requires.room, h.opened)) code (λ room. c.pass.ensures room ∙ ap (λ view. fstring_after view (fstring_view c.in-Some.innermost.now)) e) innermost in
    one_onward node tokens c.args.self.now _ (omega (arith, inner.1, is.opened)) (omega (arith, inner.2, is.closed)) h
    (subst (λ (fstrings : List OpenFString). AreOpen fstrings (node ∷ tokens)) (sym written) more)

pub returns-in-Some-clause-stays : goal.returns-in-Some-clause-stays
returns-in-Some-clause-stays c = λ kept. let nests : false ≡ true = sym (counted (goal.at.returns-in-Some-clause-stays c).After-last_mut).nests.changes ∙ kept in cc

pub returns-in_default-last_mut-clause-passes : goal.returns-in_default-last_mut-clause-passes
returns-in_default-last_mut-clause-passes c = λ tokens node e own code h.
    let is = counted (goal.at.returns-in_default-last_mut-clause-passes c).After-last_mut in
    let inner = is.nests.inner node e in
    let size = c.match-token.self.fstrings.ok.0 in
    let none : c.match-token.self.fstrings.items ≡ [] = nothing_last c.match-token.self.fstrings.items (λ some. let held = c.in_default-last_mut.ensures.variant.1 (omega (arith, size, some)) in cc) in
    let same : AreOpen (reverse c.match-token.self.fstrings.items) tokens = rw is.fstrings h.fstrings in
    let more = none_onward node tokens inner.0 (subst (λ (fstrings : List OpenFString). AreOpen (reverse fstrings) tokens) none same) in
    one_onward node tokens c.args.self.now c.match-token.self (omega (arith, inner.1, is.opened)) (omega (arith, inner.2, is.closed)) h
    (subst (λ (fstrings : List OpenFString). AreOpen (reverse fstrings) (node ∷ tokens)) (sym none) more)

pub returns-in_default-last_mut-clause-stays : goal.returns-in_default-last_mut-clause-stays
returns-in_default-last_mut-clause-stays c = λ kept. let nests : false ≡ true = sym (counted (goal.at.returns-in_default-last_mut-clause-stays c).After-last_mut).nests.changes ∙ kept in cc
