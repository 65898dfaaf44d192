use Rattle.std.proofs.Common.{◌∙◌, ap, length}
use Rattle.memchr.specs.Find.{is_byte, places}
use Rattle.memchr.proofs.lemmas.CallerLemmas.{length-places}
use Rattle.starlark_text.proofs.fast_string.count_matches_byte.Goals as goal

pub returns : goal.returns
returns c =
    c.count.ensures
    ∙ ap length c.memchr_iter.ensures.value
    ∙ ap (λ text. length (places (is_byte c.args.needle) text)) c.as_bytes.ensures.value
    ∙ length-places (is_byte c.args.needle) c.args.x.now
