use Rattle.std.proofs.Common.{◌≡◌, [], ◌∷◌, false, true, length, refl, sym, ap, ◌∙◌}
use Rattle.std.specs.List.{list_all}
use Rattle.std.specs.Str.{chars}
use Rattle.std.proofs.lemmas.Iterator.{YieldsList-from_chars}
use Rattle.std.proofs.lemmas.Iterator.Consumers.{YieldsList-end, YieldsList-turn}
use Rattle.std.proofs.lemmas.List.{map-id}
use Rattle.std.proofs.lemmas.List.Folds.{list_all-append, list_all_at}
use Rattle.starlark_tokens.specs.OutputFormats.PythonLiterals.{is_plain}
use Rattle.starlark_tokens.proofs.output_formats.python_literals.are_plain.Goals as goal

pub returns-then-not-is_plain : goal.returns-then-not-is_plain
returns-then-not-is_plain c =
    let all = chars c.args.text.now in
    let t = YieldsList-turn (YieldsList-from_chars c.args.text.now c.utf8.text cc) c.loop-character.yielded _ c.loop-character.yielded_by _ _ c.in-Some.character c.in-Some.is c.next.ensures.steps in
    let no : is_plain c.in-Some.character ≡ false = sym c.is_plain.ensures ∙ c.if-not-is_plain.true in
    sym (list_all_at is_plain all (length c.loop-character.yielded) c.in-Some.character t.0 (ap is_plain (sym t.1) ∙ no))

pub loop-character-preserved : goal.loop-character-preserved
loop-character-preserved c =
    let yes : is_plain c.in-Some.character ≡ true = sym c.is_plain.ensures ∙ c.if-not-is_plain.false in
    list_all-append is_plain c.loop-character.yielded (c.in-Some.character ∷ []) ∙ rw (c.loop-character.invariant, yes) refl

pub returns : goal.returns
returns c =
    let all = YieldsList-end (YieldsList-from_chars c.args.text.now c.utf8.text cc) c.loop-character.yielded _ c.loop-character.yielded_by _ _ c.in-None.is c.next.ensures.steps in
    sym c.loop-character.invariant ∙ ap (list_all is_plain) (sym (map-id c.loop-character.yielded) ∙ all.0)
