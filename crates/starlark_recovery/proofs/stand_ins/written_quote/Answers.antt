use Rattle.std.proofs.Common.{ap, sym, ◌∙◌}
use Rattle.starlark_grammar.specs.StandIns.{written_quote}
use Rattle.starlark_grammar.specs.Tokens.{Bytes, String}
use Rattle.starlark_grammar.specs.Words.{Text}
use Rattle.starlark_token.specs.TokenViews.{Whole, token_view}
use Rattle.starlark_recovery.proofs.stand_ins.written_quote.Goals as goal

pub returns-then-is_of_raw_bytes : goal.returns-then-is_of_raw_bytes
unfolding token_view written_quote
returns-then-is_of_raw_bytes c = rw (sym c.is_of_raw_bytes.ensures ∙ c.if-is_of_raw_bytes.true) (ap (λ (t : Text). Whole (Bytes t)) (c.in_ok-from_slice.ensures.items ∙ c.as_bytes.ensures.value ∙ c.after_first_quote-body.ensures))

pub returns : goal.returns
unfolding token_view written_quote
returns c = rw (sym c.is_of_raw_bytes.ensures ∙ c.if-is_of_raw_bytes.false) (ap (λ (t : Text). Whole (String t)) (c.in_ok-from_str.ensures.ok ∙ c.after_first_quote-body.ensures))
