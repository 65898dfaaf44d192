use Rattle.std.proofs.Common.{◌≡◌, ◌+◌, ◌-◌, arith, drop, length, take}
use Rattle.std.proofs.lemmas.List.{length-drop, take_all}
use Rattle.std.specs.List.{drop-map}
use Rattle.starlark_tokens.proofs.command_line.command_words.trailing_of.Goals as goal

pub returns : goal.returns
returns c =
    let a = c.args.arguments.now in
    let n = c.args.count + 1 in
    let len = length-drop n a in
    let whole : take (length a - n) (drop n a) ≡ drop n a = take_all (length a - n) (drop n a) (omega (arith, len)) in
    rw (drop-map (λ word. word.items) n a) (rw whole at c.all_copied.ensures)
