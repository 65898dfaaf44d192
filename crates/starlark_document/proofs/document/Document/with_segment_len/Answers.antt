use Rattle.starlark_document.proofs.Sizes.{all_lexed, is_new}
use Rattle.starlark_document.proofs.document.Document.with_segment_len.Goals as goal

pub returns-clause-document : goal.returns-clause-document
returns-clause-document c = is_new c.args.least_len c.args.text.now _ (all_lexed _ _ c.args.text.now c.in_ok-lexed.ensures.lexed c.in_ok-from_str.ensures.ok) c.in_ok-lexed.ensures.sized
