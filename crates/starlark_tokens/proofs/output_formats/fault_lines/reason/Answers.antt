use Rattle.std.proofs.Common.{codes, false, refl, sym}
use Rattle.std.proofs.lemmas.Str.Pattern.{starts_text}
use Rattle.starlark_tokens.proofs.output_formats.fault_lines.reason.Goals as goal

pub returns-in-None : goal.returns-in-None
returns-in-None c =
    let no = starts_text false (codes "Parse error: ") c.args.message.now (rw c.in-None.is at c.strip_prefix.ensures.cases) in
    rw (sym no) refl
