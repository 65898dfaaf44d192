use Rattle.std.proofs.Common.{◌∙◌, ap, ℕ, ◌<◌, List, length, arith}
use Rattle.std.proofs.lemmas.Bool.Decides.{nat_tests}
use Rattle.std.proofs.lemmas.Iterator.Consumers.{YieldsList-from_first, count_from_yields_List}
use Rattle.memchr.specs.Find.{matches}
use Rattle.starlark_text.proofs.Characters.{char_count_bound}
use Rattle.starlark_text.proofs.Matches.{matches_counted}
use Rattle.starlark_text.proofs.fast_string.count_matches.Goals as goal

pub overflow_add-result : goal.overflow_add-result
overflow_add-result c = omega (arith, c.len.ensures.count, char_count_bound c.args.x.now c.utf8.x)

pub returns-else-is_empty : goal.returns-else-is_empty
returns-else-is_empty c =
    let text = c.as_bytes.ensures.value in
    let needle = c.as_bytes-else-is_empty.ensures.value in
    let list = c.find_iter.ensures.value ∙ ap (λ t. matches t c.as_bytes-else-is_empty.result.now 0) text ∙ ap (λ n. matches c.args.x.now n 0) needle in
    let some : 0 < length c.args.needle.now = grind (arith, nat_tests) in
    count_from_yields_List _ _ c.count.ensures.ran (YieldsList-from_first (λ x. x) (λ (left : List ℕ). left) (matches c.args.x.now c.args.needle.now 0) list)
    ∙ matches_counted c.args.x.now c.args.needle.now some
