use Rattle.std.proofs.Common.{◌∷◌, List, arith, refl, subst, sym}
use Rattle.std.specs.Prelude.{reverse}
use Rattle.starlark_grammar.specs.Depths.{braces, depth}
use Rattle.starlark_grammar.specs.Tokens.{FStringStart}
use Rattle.starlark_grammar.specs.Inner.Openings.{opening_view}
use Rattle.starlark_reader.specs.Inner.Nesting.{fstring_of}
use Rattle.starlark_reader.specs.declared.nesting.OpenFString.{OpenFString}
use Rattle.starlark_reader.proofs.OpenBrackets.OpenFStrings.{AreOpen, begun, one_onward, popped}
use Rattle.starlark_reader.proofs.nesting.Nesting.begin_fstring.Goals as goal

pub returns-clause-begins : goal.returns-clause-begins
unfolding braces depth fstring_of
returns-clause-begins c = λ tokens h.
    let node = FStringStart (opening_view c.args.opening) in
    let fstring : OpenFString = record { opening = c.args.opening; braces = 0; rounds = 0; squares = 0 } in
    let pushed = popped c.push.new.self.items c.args.self.now.fstrings.items fstring c.in_ok-push.ensures.items in
    let more = begun (opening_view c.args.opening) fstring (reverse c.args.self.now.fstrings.items) tokens refl h.fstrings in
    one_onward node tokens c.args.self.now (record c.args.self.now { fstrings = c.push.new.self }) (omega arith) (omega arith) h
    (subst (λ (fstrings : List OpenFString). AreOpen fstrings (node ∷ tokens)) (sym pushed) more)
