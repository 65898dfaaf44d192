use Rattle.std.proofs.Common.{◌≡◌, ◌<◌, length, get_or, rules, ap, ◌∙◌}
use Rattle.starlark_base.specs.Lines.{line_begin}
use Rattle.starlark_base.proofs.LineFeeds.{line_within_index, starts_at, boundary_of_line}
use Rattle.starlark_base.proofs.codemap.code_map.CodeMap.line_start.Goals as goal

pub bounds-starts-line : goal.bounds-starts-line
bounds-starts-line c =
    rw c.starts.ensures.starts (line_within_index c.args.self.now.source c.args.line c.requires)

pub offset_bounds-starts-line : goal.offset_bounds-starts-line
offset_bounds-starts-line c =
    let inside : c.args.line < length c.starts.result.now = rw c.starts.ensures.starts (line_within_index c.args.self.now.source c.args.line c.requires) in
    let size = c.starts.type_inv in
    search rules

start_is : (c : goal.After-index-starts-line) → c.index-starts-line.result ≡ line_begin c.args.self.now.source c.args.line
start_is c =
    let text = c.args.self.now.source in
    c.index-starts-line.is ∙ ap (λ starts. get_or starts c.args.line c.index-starts-line.result) c.starts.ensures.starts
    ∙ starts_at text c.args.line c.index-starts-line.result (line_within_index text c.args.line c.requires)

pub returns-clause-start : goal.returns-clause-start
returns-clause-start c = start_is c

pub returns-clause-boundary : goal.returns-clause-boundary
returns-clause-boundary c =
    rw (start_is c) (boundary_of_line c.args.self.now.source c.args.line c.starts.ensures.utf8)
