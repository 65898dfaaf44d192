use Rattle.std.proofs.lemmas.Str.{IsCharBoundary-start}
use Rattle.starlark_text.proofs.dot_format_parser.FormatParser.new.Goals as goal

pub invariant_of-result : goal.invariant_of-result
invariant_of-result c = IsCharBoundary-start c.args.s.now c.utf8.s
