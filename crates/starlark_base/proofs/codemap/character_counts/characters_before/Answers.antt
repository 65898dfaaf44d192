use Rattle.std.proofs.Common.{rules, ◌≡◌, ◌<◌, ◌-◌, ◌*◌, ◌/◌, length, take, drop, ap, sym, arith}
use Rattle.starlark_base.proofs.CharacterCounts.{begun, ascii_before, from_step}
use Rattle.starlark_base.proofs.codemap.character_counts.characters_before.Goals as goal

pub returns-then-is_empty : goal.returns-then-is_empty
returns-then-is_empty c =
    let none : length c.args.counts.now ≡ 0 = search rules in
    sym (ascii_before c.args.text.now c.args.at (c.requires.counted.none none) c.requires.within)

pub returns : goal.returns
returns c =
    let text = c.args.text.now in
    let counts = c.args.counts.now in
    let at = c.args.at in
    let some : 0 < length counts = search rules in
    let inside : at / 256 < length counts = omega (arith, c.requires.counted.reach some) in
    let whole = from_step 256 text counts (at / 256) at c.requires.counted inside (omega arith) in
    omega (arith, whole, c.count_starts.ensures, ap (λ bytes. begun (take (at - at / 256 * 256) (drop (at / 256 * 256) bytes))) c.as_bytes.ensures.value)
