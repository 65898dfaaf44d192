use Rattle.std.proofs.Common.{◌≡◌, ◌-◌, List, None, Some, ◌∷◌, length, subst, take}
use Rattle.std.specs.Prelude.{reverse}
use Rattle.std.specs.List.{slice_get}
use Rattle.starlark_grammar.specs.Depths.{AtTop, Deeper, InText}
use Rattle.starlark_grammar.specs.Inner.Openings.{opening_view}
use Rattle.starlark_grammar.specs.Tokens.{Token}
use Rattle.starlark_reader.specs.Inner.Nesting.{Represents}
use Rattle.starlark_reader.specs.declared.nesting.OpenFString.{OpenFString}
use Rattle.starlark_reader.proofs.OpenBrackets.BracketCounts.{at_top, deeper, in_text}
use Rattle.starlark_reader.proofs.OpenBrackets.OpenFStrings.{AreOpen, last_none, last_some, outside_is, place_is}
use Rattle.starlark_reader.proofs.nesting.Nesting.mode.Goals as goal
use Rattle.starlark_reader.proofs.nesting.Nesting.mode.Goals.{In-Some, else-innermost-eq1-via-then-innermost-eq1+then-innermost-eq0-2+else-innermost-eq0-3, else-innermost-eq1-via-then-innermost-eq1+else-innermost-eq0-2, else-innermost-eq1-via-else-innermost-eq1}

-- the f-strings, the innermost first
open_now : (c : In-Some) (tokens : List Token) → Represents tokens c.args.self.now → AreOpen (c.in-Some.innermost.now ∷ reverse (take (length c.args.self.now.fstrings.items - 1) c.args.self.now.fstrings.items)) tokens
open_now c tokens h =
    let items = c.deref.ensures.value in
    let last = c.in-Some.ensures.value in
    let some : Some c.in-Some.innermost.now ≡ slice_get c.args.self.now.fstrings.items (length c.args.self.now.fstrings.items - 1) = rw (← items) last in
    subst (λ (fstrings : List OpenFString). AreOpen fstrings tokens) (last_some c.args.self.now.fstrings.items c.in-Some.innermost.now some) h.fstrings

pub returns-in_default : goal.returns-in_default
returns-in_default c = λ tokens h.
    let items = c.deref.ensures.value in
    let last = c.in_default.ensures.value in
    let none : None ≡ slice_get c.args.self.now.fstrings.items (length c.args.self.now.fstrings.items - 1) = rw (← items) last in
    outside_is tokens (subst (λ (fstrings : List OpenFString). AreOpen (reverse fstrings) tokens) (last_none c.args.self.now.fstrings.items none) h.fstrings)

pub returns-then-innermost-eq0 : goal.returns-then-innermost-eq0
returns-then-innermost-eq0 c = λ tokens h.
    place_is c.in-Some.innermost.now _ tokens (InText (opening_view c.in-Some.innermost.now.opening)) (open_now (goal.at.returns-then-innermost-eq0 c).In-Some tokens h)
    (λ found e. in_text _ found e c.if-innermost-eq0.true)

pub returns-then-innermost-eq0-3 : goal.returns-then-innermost-eq0-3
returns-then-innermost-eq0-3 c = λ tokens h.
    place_is c.in-Some.innermost.now _ tokens AtTop (open_now (goal.at.returns-then-innermost-eq0-3 c).In-Some tokens h)
    (λ found e. at_top _ found e c.if-innermost-eq1.true c.if-innermost-eq0-2.true c.if-innermost-eq0-3.true)

pub returns-else-innermost-eq1 : goal.returns-else-innermost-eq1
returns-else-innermost-eq1 c = λ tokens h.
    place_is c.in-Some.innermost.now _ tokens Deeper (open_now (goal.at.returns-else-innermost-eq1 c).In-Some tokens h)
    (λ found e. deeper _ found e c.if-innermost-eq0.false (λ one round square. elim c.else-innermost-eq1.branch [
      | else-innermost-eq1-via-then-innermost-eq1+then-innermost-eq0-2+else-innermost-eq0-3 w ↦ absurd (w.if-innermost-eq0-3.false square)
      | else-innermost-eq1-via-then-innermost-eq1+else-innermost-eq0-2 w ↦ absurd (w.if-innermost-eq0-2.false round)
      | else-innermost-eq1-via-else-innermost-eq1 w ↦ absurd (w.if-innermost-eq1.false one)
    ]))
