use Rattle.std.proofs.Common.{◌+◌, length, ap, ◌∙◌}
use Rattle.starlark_base.proofs.LineFeeds.{feeds_count, length-line_starts}
use Rattle.starlark_base.proofs.codemap.code_map.CodeMap.line_count.Goals as goal

pub returns : goal.returns
returns c =
    ap length c.starts.ensures.starts ∙ length-line_starts c.args.self.now.source ∙ ap (λ n. n + 1) (feeds_count c.args.self.now.source)
