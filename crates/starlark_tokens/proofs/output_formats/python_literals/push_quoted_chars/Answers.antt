use Rattle.std.proofs.Common.{◌∙◌, ◌++◌, ap, string_bytes, sym}
use Rattle.std.specs.List.{flat_map}
use Rattle.std.proofs.lemmas.Iterator.{YieldsList-from_chars}
use Rattle.std.proofs.lemmas.Iterator.Consumers.{YieldsList-end}
use Rattle.std.proofs.lemmas.List.{flat_map_more, map-id}
use Rattle.starlark_tokens.specs.OutputFormats.PythonLiterals.{quoted_char}
use Rattle.starlark_tokens.proofs.output_formats.python_literals.push_quoted_chars.Goals as goal

pub loop-character-preserved : goal.loop-character-preserved
loop-character-preserved c =
    c.in_ok-push_quoted_char.ensures
    ∙ ap (λ t. t ++ quoted_char c.args.quote c.in-Some.character) c.loop-character.invariant
    ∙ flat_map_more (quoted_char c.args.quote) (string_bytes c.args.line.now) c.loop-character.yielded c.in-Some.character

pub returns : goal.returns
returns c =
    let all = YieldsList-end (YieldsList-from_chars c.args.text.now c.utf8.text cc) c.loop-character.yielded _ c.loop-character.yielded_by _ _ c.in-None.is c.next.ensures.steps in
    c.loop-character.invariant
    ∙ ap (λ cs. string_bytes c.args.line.now ++ flat_map (quoted_char c.args.quote) cs) (sym (map-id c.loop-character.yielded) ∙ all.0)
