use Rattle.std.proofs.Common.{◌≡◌, length, ap}
use Rattle.std.specs.Str.{IsUtf8}
use Rattle.std.proofs.lemmas.Str.{IsCharBoundary-start, IsCharBoundary-end}
use Rattle.starlark_base.proofs.codemap.code_map.CodeMap.full_span.Goals as goal

pub returns-clause-held : goal.returns-clause-held
returns-clause-held c =
    let text = c.args.self.now.source in
    let utf8 : IsUtf8 text = rw c.source.ensures.source at c.source.utf8 in
    let whole : c.new-3.result ≡ record { begin = 0; end = length text } = cc (ap length c.source.ensures.source) in
    rw whole (record { begin = IsCharBoundary-start text utf8; end = IsCharBoundary-end text })
