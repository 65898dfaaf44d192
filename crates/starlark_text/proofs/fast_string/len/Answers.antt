use Rattle.std.proofs.Common.{sym, ◌∙◌}
use Rattle.starlark_text.proofs.AsciiTexts.{ascii_from_count, count_from_ascii}
use Rattle.starlark_text.proofs.fast_string.len.Goals as goal

pub returns-clause-ascii : goal.returns-clause-ascii
returns-clause-ascii c =
    let count = c.count_characters.ensures in
    (λ same. ascii_from_count c.args.x.now c.utf8.x (sym count ∙ same), λ ascii. count ∙ count_from_ascii c.args.x.now ascii)
