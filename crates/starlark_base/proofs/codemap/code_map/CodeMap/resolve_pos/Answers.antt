use Rattle.std.proofs.Common.{◌≡◌, ◌-◌, length, take, drop, arith, slice_range, refl, ap, ◌∙◌}
use Rattle.std.specs.Str.{chars}
use Rattle.starlark_base.specs.Places.{place_after}
use Rattle.starlark_base.proofs.LineFeeds.{line_before_place, front_of_line}
use Rattle.starlark_base.proofs.codemap.code_map.CodeMap.resolve_pos.Goals as goal

pub characters_between-requires-clause-order : goal.characters_between-requires-clause-order
unfolding place_after
characters_between-requires-clause-order c =
    omega (arith, line_before_place c.args.self.now.source c.find_line-line.result c.line_start.result c.args.pos c.find_line-line.ensures.line c.line_start.ensures.start)

pub returns : goal.returns
unfolding place_after
returns c =
    let text = c.args.self.now.source in
    let line = c.find_line-line.ensures.line in
    let front = front_of_line text c.find_line-line.result c.line_start.result c.args.pos c.requires.0 line c.line_start.ensures.start in
    let same : slice_range c.source.result.now c.get-begin.result c.get-at.result ≡ take (c.args.pos - c.line_start.result) (drop c.line_start.result text) = rw (c.source.ensures.source, c.get-at.ensures, c.get-begin.ensures) refl in
    let column = c.characters_between.ensures ∙ ap (λ t. length (chars t)) (same ∙ front) in
    cc (line, column)
