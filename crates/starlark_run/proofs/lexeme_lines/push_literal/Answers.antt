use Rattle.std.proofs.Common.{◌≡◌, ◌++◌, ◌∷◌, [], ◌∙◌, append_assoc, arith, refl, string_bytes}
use Rattle.starlark_run.specs.Output.{hex}
use Rattle.starlark_run.proofs.lexeme_lines.push_literal.Goals as goal

pub returns : goal.returns
returns c =
    let space : string_bytes c.push.new.self ≡ string_bytes c.args.line.now ++ 32 ∷ [] = c.in_ok-push.ensures.bytes ∙ rw (c.in_ok-push.ensures.ascii (omega arith)) refl in
    rw (space, append_assoc (string_bytes c.args.line.now) (32 ∷ []) (hex c.args.bytes.now)) at c.push_hex.ensures
